use Rattle.std.proofs.Common.{◌≡◌, ◌++◌}
use Rattle.std.specs.Prelude.{flat_map}
use Rattle.std.specs.Vec.Iter.{into_iter_items}
use Rattle.project_spec.specs.Limits.{variable_measures, id_or_none, first_too_many}
use Rattle.machine_spec.specs.declared.records.VariableRecord.{VariableRecord}
use Rattle.target_records.proofs.text_lengths.bounded_variables.Given as goal

-- the variables so far, and those that are left
abbrev pub invariant-loop-variable : goal.invariant-loop-variable
invariant-loop-variable l = record {
  all : l.bounded ++ into_iter_items l.variable-iterator ≡ l.fn.variables;
  many : first_too_many (flat_map (λ (v : VariableRecord). variable_measures l.place (id_or_none v.name.id, v)) (into_iter_items l.variable-iterator)) ≡ first_too_many (flat_map (λ (v : VariableRecord). variable_measures l.place (id_or_none v.name.id, v)) l.fn.variables);
}
