use Rattle.std.proofs.Common.{◌≡◌, ◌==◌, ℕ, take}
use Rattle.std.specs.Prelude.{find, option_map}
use Rattle.saved_checks.specs.Live.{target_in}
use Rattle.saved_checks.proofs.live_targets.LiveTargets.of.Given as goal

-- the instances so far
abbrev pub invariant-loop-instance : goal.invariant-loop-instance
invariant-loop-instance l = (number : ℕ) → target_in l.live number ≡ option_map (λ i. i.of) (find (λ i. i.number == number) (take l.instance-index l.instances))
