-- A task that ends loses its sessions. Assumes nothing.
use Rattle.kernel.specs.Sizes.{channel_count}
use Rattle.kernel.specs.Kernel.{Kernel, with_sessions}
use Rattle.kernel.specs.Moves.{move}
use Rattle.kernel.specs.Tasks.{close_sessions, finish}
use Rattle.kernel.proofs.Shows.{then}
use Rattle.endings.proofs.finish.Goals as goal

pub returns : goal.returns
unfolding finish move
returns c = then (λ (k : Kernel). with_sessions k (close_sessions channel_count c.args.n k.sessions)) c.ended.ensures c.close_sessions.ensures
