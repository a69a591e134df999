-- Data changes no instance, and gives variables to none that has none.
use Rattle.std.proofs.Common.{[], ◌∷◌, false, refl, sym, ap, ◌∙◌}
use Rattle.scratch_values.specs.Args.{arguments}
use Rattle.scratch_values.specs.Held.{pair_of}
use Rattle.machine_spec.specs.DataRows.{data_row}
use Rattle.machine_spec.specs.declared.threads.Control.TheVariants.{Next}
use Rattle.machine_spec.specs.declared.threads.Context.TheVariants.{Fresh}
use Rattle.target_records.specs.Records.{records_in}
use Rattle.data_blocks.specs.Blocks.{parts_of}
use Rattle.executions.proofs.Unheld.{data_none}
use Rattle.executions.proofs.state.State.apply_data_one.Goals as goal

pub returns-in-Ok-clause-kept : goal.returns-in-Ok-clause-kept
returns-in-Ok-clause-kept g c = record {
  threads = refl;
  next_thread = refl;
  next_instance = refl;
  targets = λ n. refl;
  one_each = λ h. h;
  free = λ n e. data_none n (records_in c.records.result.now) c.args.self.now.targets c.args.block.now.op (arguments (pair_of c.args.first ∷ []) c.args.block.now.fields) c.args.here (parts_of g.R.Rng.stream c.args.self.now.variables c.args.self.now.words)
      (record { parts = parts_of g.R.Rng.stream c.apply_one.new.variables c.apply_one.new.words; context = Fresh; control = Next; redraw = false })
      (ap (λ fs. data_row (records_in c.records.result.now) c.args.self.now.targets c.args.block.now.op (arguments (pair_of c.args.first ∷ []) fs) c.args.here (parts_of g.R.Rng.stream c.args.self.now.variables c.args.self.now.words)) (sym c.as_slice.ensures) ∙ c.in-Ok.ensures.ok) e;
}
