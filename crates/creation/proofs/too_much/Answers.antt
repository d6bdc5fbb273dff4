-- The share total with one more task, compared with the whole. Assumes nothing.
use Rattle.std.proofs.Common.{◌≤◌, sym, ◌∙◌, arith, w32, w64}
use borrow.Author.Rules.{Fits-under}
use Rattle.kernel.specs.declared.Class.TheVariants.{Hard}
use Rattle.kernel.specs.Sizes.{whole}
use Rattle.kernel.proofs.Sizes.{sizes}
use Rattle.sound_clauses.proofs.Sum.{share_most}
use Rattle.creation.proofs.too_much.Goals as goal

pub overflow_cast-period : goal.overflow_cast-period
overflow_cast-period c = let f = sizes (sym c.fitting.ensures ∙ c.if-not-fitting.false) in Fits-under w32 _ 4294967296 (omega arith) tt

pub overflow_cast-cost : goal.overflow_cast-cost
overflow_cast-cost c = let f = sizes (sym c.fitting.ensures ∙ c.if-not-fitting.false) in Fits-under w32 _ 4294967296 (omega arith) tt

pub hard_share-share-requires : goal.hard_share-share-requires
hard_share-share-requires c = (sizes (sym c.fitting.ensures ∙ c.if-not-fitting.false)).some_period

pub overflow_add-result : goal.overflow_add-result
overflow_add-result c =
    let k = c.args in
    let most : c.hard_share-share.result ≤ whole = rw c.hard_share-share.ensures (share_most (Hard k.period k.cost) (λ e. sym c.fitting.ensures ∙ c.if-not-fitting.false)) in
    Fits-under w64 _ 18446744073709551616 (omega arith) tt
