use Rattle.std.proofs.Common.{◌≡◌, true, ◌++◌, map}
use Rattle.std.specs.List.{list_all}
use Rattle.std.specs.Vec.Iter.{into_iter_items}
use Rattle.saved_parts.specs.Telling.{param_of}
use Rattle.saved_spec.specs.Rules.{is_short}
use Rattle.saved_levels.proofs.level_parts.params.Given as goal

-- the parameters so far, and those that are left, which are short
abbrev pub invariant-loop-param : goal.invariant-loop-param
invariant-loop-param l = record {
  all : l.params ++ map param_of (into_iter_items l.param-iterator) ≡ map param_of l.fn.told;
  short : list_all is_short (map (λ p. p.1) (map param_of (into_iter_items l.param-iterator))) ≡ true;
}
