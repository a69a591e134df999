-- A row leaves all threads as they are.
use Rattle.std.proofs.Common.{◌≡◌, ℕ, refl}
use Rattle.opcode_table.specs.declared.groups.Group.{Group}
use Rattle.opcode_table.specs.declared.groups.Group.TheVariants.{Motion, Looks, Data, Control}
use Rattle.opcode_table.specs.Kinds.{group}
use Rattle.scratch_values.specs.Named.{Arguments}
use Rattle.machine_spec.specs.Outcome.{Outcome, Goes, Full, TooLong, Spent, IfGoes, then_do}
use Rattle.machine_spec.specs.Script.{Command}
use Rattle.machine_spec.specs.Program.{Program}
use Rattle.machine_spec.specs.Threads.{Context}
use Rattle.machine_spec.specs.View.{Row}
use Rattle.machine_spec.specs.World.{World}
use Rattle.machine_spec.specs.Tasks.{Task}
use Rattle.machine_spec.specs.Stopping.{with_scene}
use Rattle.machine_spec.specs.Step.{applied, with_motion, with_looks, with_data, row_by, row}

applied-threads : {P : Type 0} (o : Outcome (Row P)) (into : P → World Task) (w : World Task)
    → ((parts : P) → (into parts).threads ≡ w.threads) → IfGoes (then_do o (applied into w)) (λ x. x.world.threads ≡ w.threads)
applied-threads (Goes x) into w same = same x.parts
applied-threads Full into w same = tt
applied-threads (TooLong n) into w same = tt
applied-threads (Spent which) into w same = tt

row_by-threads : (g : Group) (p : Program) (d : Command) (a : Arguments) (here thread : ℕ) (c : Context) (w : World Task)
    → IfGoes (row_by g p d a here thread c w) (λ x. x.world.threads ≡ w.threads)
row_by-threads Motion p d a here thread c w = applied-threads _ (with_motion w) w (λ parts. refl)
row_by-threads Looks p d a here thread c w = applied-threads _ (with_looks w) w (λ parts. refl)
row_by-threads Data p d a here thread c w = applied-threads _ (with_data w) w (λ parts. refl)
row_by-threads Control p d a here thread c w = applied-threads _ (with_scene w) w (λ parts. refl)

pub row-threads : (p : Program) (d : Command) (a : Arguments) (here thread : ℕ) (c : Context) (w : World Task)
    → IfGoes (row p d a here thread c w) (λ x. x.world.threads ≡ w.threads)
row-threads p d a here thread c w = row_by-threads (group d.op) p d a here thread c w
