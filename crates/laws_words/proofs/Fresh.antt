-- The fresh kernel is seen in the fresh words, and they are sound. Assumes nothing.
use mathlib.Core.Path.{◌≡◌, refl, sym, subst}
use mathlib.Core.List.{List}
use Prim.Native.Nat.{ℕ}
use Rattle.kernel.specs.Good.{Good}
use Rattle.kernel.specs.Fresh.{fresh, with_none, with_main, fresh_words}
use Rattle.kernel.specs.Seen.{tabulate, seen}
use Rattle.kernel.specs.Sound.{Sound}
use Rattle.kernel.specs.Shows.{Shows}
use Rattle.kernel.proofs.Fresh.{fresh_good}
use Rattle.laws_words.proofs.Shown.{code, words_of, shown}

-- Computed, word by word.
are : fresh_words ≡ words_of fresh
unfolding fresh_words with_main with_none fresh words_of code tabulate
are = refl

-- **fresh_shown**: the fresh words show the fresh kernel.
pub fresh_shown : Shows fresh_words fresh
fresh_shown = subst (λ (w : List ℕ). Shows w fresh) (sym are) (shown fresh fresh_good)

-- **fresh_seen**: what is seen in them is the fresh kernel.
pub fresh_seen : seen fresh_words ≡ fresh
fresh_seen = fresh_shown.is

-- **fresh_sound**: they are sound.
pub fresh_sound : Sound fresh_words
fresh_sound = record { formed = fresh_shown.kept.formed; filed = fresh_shown.kept.filed; good = subst Good (sym fresh_seen) fresh_good }
