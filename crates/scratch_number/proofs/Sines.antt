-- The table of sines rises, up to 1.
use Rattle.std.proofs.Common.{◌≡◌, ℕ, ◌+◌, ◌<◌, ◌≤◌, true, nat_le, nat_lt, refl}
use Rattle.std.proofs.lemmas.Bool.{agree_below_at, leb-true, ltb-true}
use Rattle.scratch_number.specs.Angles.{sine_at, sines}

pub sine_at-small : (k : ℕ) → k < 91 → sine_at k ≤ 1000000
unfolding sine_at sines
sine_at-small k h = leb-true _ _ (agree_below_at (λ k. nat_le (sine_at k) 1000000) (λ _. true) 91 k refl h)

pub sine_at-rises : (k : ℕ) → k < 90 → sine_at k < sine_at (k + 1)
unfolding sine_at sines
sine_at-rises k h = ltb-true _ _ (agree_below_at (λ k. nat_lt (sine_at k) (sine_at (k + 1))) (λ _. true) 90 k refl h)

pub sine_at-zero : sine_at 0 ≡ 0
unfolding sine_at sines
sine_at-zero = refl
