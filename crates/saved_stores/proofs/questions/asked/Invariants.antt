use Rattle.std.proofs.Common.{◌≡◌, ◌++◌, map, true}
use Rattle.std.specs.List.{list_all}
use Rattle.std.specs.Vec.Iter.{into_iter_items}
use Rattle.saved_parts.specs.Telling.{question_of}
use Rattle.saved_spec.specs.Rules.{is_value_text}
use Rattle.saved_parts.specs.declared.run.ToldQuestion.{ToldQuestion}
use Rattle.saved_stores.proofs.questions.asked.Given as goal

-- the questions so far, and those that are left
abbrev pub invariant-loop-told : goal.invariant-loop-told
invariant-loop-told l = record {
  all : l.questions ++ map question_of (into_iter_items l.told-iterator) ≡ map question_of l.fn.told;
  left : list_all (λ (q : ToldQuestion). is_value_text q.text) (into_iter_items l.told-iterator) ≡ true;
}
