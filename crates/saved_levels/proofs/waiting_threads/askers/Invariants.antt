use Rattle.std.proofs.Common.{◌≡◌, ℕ, ◌==◌, take, map}
use Rattle.std.specs.List.{list_any}
use Rattle.std.specs.Ordering.{nat_cmp}
use Rattle.std.specs.BTreeSet.{contains_by}
use Rattle.saved_parts.specs.Telling.{question_of}
use Rattle.saved_levels.proofs.waiting_threads.askers.Given as goal

-- those that were named so far
abbrev pub invariant-loop-question : goal.invariant-loop-question
invariant-loop-question l = (n : ℕ) → contains_by (nat_cmp n) l.threads ≡ list_any (λ q. q.thread == n) (map question_of (take l.question-index l.questions))
