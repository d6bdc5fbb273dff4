-- Every word of a state is of one range: what holds of each range's holds of all. Assumes nothing.
use mathlib.Core.Path.{◌≡◌, subst}
use Prim.Native.Nat.{ℕ, ◌+◌, ◌-◌, ◌*◌, ◌/◌, ◌%◌, ◌<◌}
use native.Mathlib.Omega.{arith}
use native.Mathlib.Nat.{div-add-mod', mod-lt}
use native.Mathlib.Decide.{dec_lt}
use Rattle.kernel.specs.Sizes.{task_count, semaphore_count, channel_count}
use Rattle.kernel.specs.Status.{queue_count}
use Rattle.kernel.specs.Layout.{heads_at, head_at, semaphores_at, semaphore_at, tasks_at, record_size, field, sessions_at, session_at, channels_at, channel_at, word_count}

pub record Ranges (P : ℕ → Type 0) : Type 0 where
  pub numbers : (j : ℕ) → j < heads_at → P j
  pub heads : (q : ℕ) → q < queue_count → P (head_at q)
  pub semaphores : (s : ℕ) → s < semaphore_count → P (semaphore_at s)
  pub tasks : (x f : ℕ) → x < task_count → f < record_size → P (field x f)
  pub sessions : (z : ℕ) → z < task_count * channel_count → P (session_at z)
  pub channels : (c f : ℕ) → c < channel_count → f < 3 → P (channel_at c + f)

pub everywhere : (P : ℕ → Type 0) → Ranges P → (j : ℕ) → j < word_count → P j
everywhere P r j l = go (dec_lt j heads_at) (dec_lt j semaphores_at) (dec_lt j tasks_at) (dec_lt j sessions_at) (dec_lt j channels_at)
  where
    at : (i : ℕ) → i ≡ j → P i → P j
    at i e p = subst P e p

    go : Dec (j < heads_at) → Dec (j < semaphores_at) → Dec (j < tasks_at) → Dec (j < sessions_at) → Dec (j < channels_at) → P j
    go (yes y) d₁ d₂ d₃ d₄ = r.numbers j y
    go (no n₀) (yes y) d₂ d₃ d₄ = at (head_at (j - heads_at)) (omega arith) (r.heads (j - heads_at) (omega arith))
    go (no n₀) (no n₁) (yes y) d₃ d₄ = at (semaphore_at (j - semaphores_at)) (omega arith) (r.semaphores (j - semaphores_at) (omega arith))
    go (no n₀) (no n₁) (no n₂) (yes y) d₄ =
        let x = (j - tasks_at) / record_size in
        let f = (j - tasks_at) % record_size in
        let d : x * record_size + f ≡ j - tasks_at = div-add-mod' (j - tasks_at) record_size in
        let lf : f < record_size = mod-lt (j - tasks_at) (omega arith) in
        at (field x f) (omega arith) (r.tasks x f (omega arith) lf)
    go (no n₀) (no n₁) (no n₂) (no n₃) (yes y) = at (session_at (j - sessions_at)) (omega arith) (r.sessions (j - sessions_at) (omega arith))
    go (no n₀) (no n₁) (no n₂) (no n₃) (no n₄) =
        let c = (j - channels_at) / 3 in
        let f = (j - channels_at) % 3 in
        let d : c * 3 + f ≡ j - channels_at = div-add-mod' (j - channels_at) 3 in
        let lf : f < 3 = mod-lt (j - channels_at) (omega arith) in
        at (channel_at c + f) (omega arith) (r.channels c f (omega arith) lf)
