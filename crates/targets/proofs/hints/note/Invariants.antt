use Rattle.std.proofs.Common.{ℕ, ◌<◌, ◌≤◌, ◌%◌, length, get_or}
use Rattle.targets.specs.Hints.{slots}
use Rattle.targets.proofs.hints.note.Given as goal

abbrev pub invariant-loop-place : goal.invariant-loop-place
invariant-loop-place l = (j : ℕ) → l.place ≤ j → j < length l.ids → get_or l.hints (get_or l.ids j 0 % slots) 0 ≤ j
