-- The number of the frame and the clock behind each stage of a frame.
use Rattle.std.proofs.Common.{◌≡◌, ℕ, ◌<◌, Result, Ok, Err, subst, arith}
use Rattle.std.specs.Prelude.{IfOk}
use Rattle.script_words.specs.declared.stops.Stop.{Stop}
use Rattle.machine_spec.specs.Outcome.{Outcome, Goes, IfGoes}
use Rattle.machine_spec.specs.Tasks.{Task}
use Rattle.machine_spec.specs.World.{World}
use Rattle.frames.specs.Times.{IsSameTime}

-- an outcome that keeps both, from a world to another
module _ (o : Outcome (World Task)) (w v : World Task) (keeps : IfGoes o (IsSameTime w)) (r : Result (Unit {0}) Stop) (made : IfOk r (λ _. o ≡ Goes v)) where
  behind : (q : Result (Unit {0}) Stop) → IfOk q (λ _. o ≡ Goes v) → IfOk q (λ _. IsSameTime w v)
  behind (Ok t) h = subst (λ u. IfGoes u (IsSameTime w)) h keeps
  behind (Err stop) h = tt

  clock_by : (q : Result (Unit {0}) Stop) → IfOk q (λ _. IsSameTime w v) → IfOk q (λ _. v.devices.clock ≡ w.devices.clock)
  clock_by (Ok t) h = h.clock
  clock_by (Err stop) h = tt

  few_by : (n : ℕ) → w.frame < n → (q : Result (Unit {0}) Stop) → IfOk q (λ _. IsSameTime w v) → IfOk q (λ _. v.frame < n)
  few_by n few (Ok t) h = let same = h.frame in omega (arith, few, same)
  few_by n few (Err stop) h = tt

  -- the clock is as before
  pub clock-behind : IfOk r (λ _. v.devices.clock ≡ w.devices.clock)
  clock-behind = clock_by r (behind r made)

  -- the number has not changed
  pub few-behind : (n : ℕ) → w.frame < n → IfOk r (λ _. v.frame < n)
  few-behind n few = few_by n few r (behind r made)
