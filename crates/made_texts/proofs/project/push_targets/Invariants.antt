use Rattle.std.proofs.Common.{◌≡◌, ◌∷◌, ◌++◌, map}
use Rattle.std.specs.List.{range_with_len}
use Rattle.made_texts.specs.MadeProject.{listed, stage, copy}
use Rattle.made_texts.proofs.project.push_targets.Given as goal

-- the stage and the copies so far
abbrev pub invariant-loop-earlier : goal.invariant-loop-earlier
invariant-loop-earlier l = l.out.items ≡ l.fn.out.items ++ listed (stage ∷ map copy (range_with_len 1 l.earlier))
