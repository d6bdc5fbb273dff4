-- Words are sound where every test passes. Assumes nothing.
use Rattle.kernel.proofs.Decided.{passed, means}
use Rattle.soundness.proofs.Parts.{sound_decided}
use Rattle.soundness.proofs.sound.Goals as goal

pub returns : goal.returns
returns c =
    means c.channels_good.ensures
    (λ h.
    (sound_decided _).0
    (record {
      formed = passed c.formed.ensures c.if-not-formed.false;
      queues = passed c.queues_good.ensures c.if-not-queues_good.false;
      filed = passed c.tasks_filed.ensures c.if-not-tasks_filed.false;
      tasks = passed c.tasks_good.ensures c.if-not-tasks_good.false;
      runs = passed c.running_good.ensures c.if-not-running_good.false;
      shared = passed c.shares_good.ensures c.if-not-shares_good.false;
      semaphores = passed c.semaphores_good.ensures c.if-not-semaphores_good.false;
      clocked = passed c.clock_good.ensures c.if-not-clock_good.false;
      channels = h;
    }))
    (λ g. g.good.channels)
