-- Every row keeps instances legal.
use Rattle.std.proofs.Common.{◌≡◌, ℕ, ◌^◌, ◌<◌, Some}
use Rattle.opcode_table.specs.declared.groups.Group.{Group}
use Rattle.opcode_table.specs.declared.groups.Group.TheVariants.{Motion, Looks, Data, Control}
use Rattle.opcode_table.specs.Kinds.{group}
use Rattle.scratch_values.specs.Named.{Arguments}
use Rattle.machine_spec.specs.declared.instance.Instance.{Instance}
use Rattle.machine_spec.specs.declared.threads.Context.{Context}
use Rattle.machine_spec.specs.DataRows.{data_row}
use Rattle.machine_spec.specs.Outcome.{Outcome, Goes, Full, TooLong, Spent, IfGoes, then_do}
use Rattle.machine_spec.specs.Parts.{DataParts}
use Rattle.machine_spec.specs.Program.{Program, stage_number}
use Rattle.machine_spec.specs.Script.{Command}
use Rattle.machine_spec.specs.Step.{applied, with_motion, with_looks, with_data, row_by, row}
use Rattle.machine_spec.specs.Stopping.{scene_of, with_scene}
use Rattle.machine_spec.specs.Stores.{live}
use Rattle.machine_spec.specs.Tasks.{Task, listed}
use Rattle.machine_spec.specs.View.{Row}
use Rattle.machine_spec.specs.Words.{Words, draw}
use Rattle.machine_spec.specs.World.{World}
use Rattle.laws_of_threads.specs.Playable.{IsPlayable}
use Rattle.laws_of_instances.proofs.Casts.{IsCast}
use Rattle.laws_of_instances.proofs.ControlRows.{control_cast}
use Rattle.laws_of_instances.proofs.LooksRows.{looks_cast}
use Rattle.laws_of_instances.proofs.MotionRows.{motion_cast}

module _ (p : Program) (play : IsPlayable p) (draws : Words → Type 0) (small : (w : Words) → draws w → IfGoes (draw w) (λ d. d.value < 2 ^ 32)) (here thread : ℕ) (x y : Instance) (w : World Task)
    (it : live here w.targets ≡ Some x) (its : live (stage_number p.records) w.targets ≡ Some y) (sourced : draws w.words) (h : IsCast p w.devices.usage w.targets) where
  abbrev pub IsWorldCast : World Task → Type 0
  IsWorldCast v = IsCast p v.devices.usage v.targets

  applied_cast : {P : Type 0} (o : Outcome (Row P)) (into : P → World Task) → IfGoes o (λ r. IsWorldCast (into r.parts)) → IfGoes (then_do o (applied into w)) (λ x. IsWorldCast x.world)
  applied_cast (Goes r) into k = k
  applied_cast Full into k = tt
  applied_cast (TooLong n) into k = tt
  applied_cast (Spent which) into k = tt

  data_cast : (o : Outcome (Row DataParts)) → IfGoes (then_do o (applied (with_data w) w)) (λ x. IsWorldCast x.world)
  data_cast (Goes r) = h
  data_cast Full = tt
  data_cast (TooLong n) = tt
  data_cast (Spent which) = tt

  row_by_cast : (g : Group) (d : Command) (a : Arguments) (c : Context) → IfGoes (row_by g p d a here thread c w) (λ x. IsWorldCast x.world)
  row_by_cast Motion d a c = applied_cast _ (with_motion w) (motion_cast p w.devices.usage here w.devices (record { targets = w.targets; words = w.words }) h d.op a c)
  row_by_cast Looks d a c = applied_cast _ (with_looks w) (looks_cast p play draws small (listed w) here thread x y (record { scene = scene_of w; words = w.words }) it its sourced h d.op a c)
  row_by_cast Data d a c = data_cast (data_row p.records w.targets d.op a here (record { variables = w.variables; words = w.words }))
  row_by_cast Control d a c = applied_cast _ (with_scene w) (control_cast p (scene_of w) h (listed w) d.op d.code a here thread c)

  pub row_cast : (d : Command) (a : Arguments) (c : Context) → IfGoes (row p d a here thread c w) (λ x. IsWorldCast x.world)
  row_cast d a c = row_by_cast (group d.op) d a c
