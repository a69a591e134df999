-- What a row leaves of the world: its threads, the numbers that are given next, who is live, the clock and who waits.
use Rattle.std.proofs.Common.{◌≡◌, ℕ, Option, refl}
use Rattle.std.specs.Prelude.{codes}
use Rattle.opcode_table.specs.declared.groups.Group.{Group}
use Rattle.opcode_table.specs.declared.groups.Group.TheVariants.{Motion, Looks, Data, Control}
use Rattle.opcode_table.specs.Kinds.{group, kind}
use Rattle.scratch_values.specs.Named.{Arguments}
use Rattle.machine_spec.specs.declared.threads.Context.{Context}
use Rattle.machine_spec.specs.Outcome.{Outcome, Goes, Full, TooLong, Spent, IfGoes, then_do}
use Rattle.machine_spec.specs.Script.{Command}
use Rattle.machine_spec.specs.Program.{Program, Procedure, procedure}
use Rattle.machine_spec.specs.Stores.{instance_at}
use Rattle.machine_spec.specs.View.{Row}
use Rattle.machine_spec.specs.Parts.{DataParts}
use Rattle.machine_spec.specs.DataRows.{data_row, data_by, named}
use Rattle.machine_spec.specs.World.{World}
use Rattle.machine_spec.specs.Tasks.{Task, listed}
use Rattle.machine_spec.specs.Stopping.{scene_of, with_scene}
use Rattle.machine_spec.specs.Step.{Applied, applied, with_motion, with_looks, with_data, row_by, row}
use Rattle.laws_of_threads.specs.Instances.{Hosts}
use Rattle.laws_of_threads.specs.Positions.{Brings, KeptWell}
use Rattle.laws_of_threads.proofs.Faces.{faces_same}
use Rattle.laws_of_threads.proofs.RowFits.{RowFits, goes_any}
use Rattle.laws_of_threads.proofs.MotionFits.{motion_fits}
use Rattle.laws_of_threads.proofs.LooksFits.{looks_fits}
use Rattle.laws_of_threads.proofs.ControlRowFits.{IsNamed, control_fits}

module _ (p : Program) (here thread : ℕ) (d : Command) (w : World Task) where
  abbrev pub its_procedure : Option Procedure
  its_procedure = procedure (instance_at here w.targets).of d.code p

  pub record Applies (x : Applied) : Type 0 where
    pub threads : x.world.threads ≡ w.threads
    pub next_thread : x.world.next_thread ≡ w.next_thread
    pub next_instance : x.world.next_instance ≡ w.next_instance
    pub fits : RowFits p.records here thread w.next_thread (kind d.op) its_procedure (scene_of w) (scene_of x.world) x.context x.control

  pub record SameRest (v : World Task) : Type 0 where
    pub threads : v.threads ≡ w.threads
    pub next_thread : v.next_thread ≡ w.next_thread
    pub next_instance : v.next_instance ≡ w.next_instance

  applied_fits : {P : Type 0} (o : Outcome (Row P)) (into : P → World Task) → ((parts : P) → SameRest (into parts))
      → IfGoes o (λ r. RowFits p.records here thread w.next_thread (kind d.op) its_procedure (scene_of w) (scene_of (into r.parts)) r.context r.control)
      → IfGoes (then_do o (applied into w)) Applies
  applied_fits (Goes r) into rest h = let s = rest r.parts in record { threads = s.threads; next_thread = s.next_thread; next_instance = s.next_instance; fits = h }
  applied_fits Full into rest h = tt
  applied_fits (TooLong n) into rest h = tt
  applied_fits (Spent which) into rest h = tt

  abbrev DataFits : Row DataParts → Type 0
  DataFits r = RowFits p.records here thread w.next_thread (kind d.op) its_procedure (scene_of w) (scene_of (with_data w r.parts)) r.context r.control

  data_fits : (a : Arguments) → IfGoes (data_row p.records w.targets d.op a here (record { variables = w.variables; words = w.words })) DataFits
  data_fits a = goes_any (data_by (named (codes "VARIABLE") a here p.records) (named (codes "LIST") a here p.records) w.targets d.op a (record { variables = w.variables; words = w.words })) _ DataFits
      (λ e. record { faces = faces_same w.targets; clock = refl; noted = (refl, refl, (λ is h. h), (λ is h. h)); control = tt; clone = tt })

  row_by_fits : (g : Group) (a : Arguments) (c : Context) (t : ℕ) → Hosts here t w.targets → Brings w.devices.clock (kind d.op) c → KeptWell w.next_thread c → IsNamed its_procedure → IfGoes (row_by g p d a here thread c w) Applies
  row_by_fits Motion a c t h b l n = applied_fits _ (with_motion w) (λ parts. record { threads = refl; next_thread = refl; next_instance = refl }) (motion_fits p.records here thread w.next_thread its_procedure w.devices d.op a c (record { targets = w.targets; words = w.words }) b)
  row_by_fits Looks a c t h b l n = applied_fits _ (with_looks w) (λ parts. record { threads = refl; next_thread = refl; next_instance = refl }) (looks_fits p.records here thread w.next_thread its_procedure (listed w) d.op a c t (record { scene = scene_of w; words = w.words }) h b l)
  row_by_fits Data a c t h b l n = applied_fits _ (with_data w) (λ parts. record { threads = refl; next_thread = refl; next_instance = refl }) (data_fits a)
  row_by_fits Control a c t h b l n = applied_fits _ (with_scene w) (λ parts. record { threads = refl; next_thread = refl; next_instance = refl }) (control_fits p here thread w.next_thread (listed w) d.op d.code a c (scene_of w) b l n)

  pub row_fits : (a : Arguments) (c : Context) (t : ℕ) → Hosts here t w.targets → Brings w.devices.clock (kind d.op) c → KeptWell w.next_thread c → IsNamed its_procedure → IfGoes (row p d a here thread c w) Applies
  row_fits a c t h b l n = row_by_fits (group d.op) a c t h b l n
