-- A thread of a text that keeps the rules is told by a legal thread of the machine.
use Rattle.std.proofs.Common.{◌≡◌, Bool, true, false, List, Option, Some, None, option_and_then, refl, ap}
use Rattle.std.specs.Option.{option_map_or}
use Rattle.machine_spec.specs.Legal.{warp_on}
use Rattle.machine_spec.specs.Pending.{Item}
use Rattle.machine_spec.specs.Script.{Script}
use Rattle.machine_spec.specs.Tasks.{Task}
use Rattle.project_spec.specs.Basis.{Basis, script_under}
use Rattle.saved_spec.specs.Kept.{SavedThread, thread_told}
use Rattle.saved_spec.specs.Legal.{IsLegalThread}
use Rattle.saved_spec.specs.Levels.{items_of, thread_is_well}
use Rattle.saved_spec.specs.Rules.{target_of}
use Rattle.saved_spec.specs.RunShapes.{Told}
use Rattle.saved_spec.specs.ThreadRules.{stands_well}
use Rattle.saved_spec.proofs.Standing.{reads}

abbrev OfMachine : Basis → Told → SavedThread → Type 0
OfMachine b t x = (of_machine : Task) × (thread_told of_machine ≡ x) × IsLegalThread b t.run.targets t.run.devices of_machine

-- the thread of the machine that has this to do
task_of : SavedThread → List Item → Bool → Task
task_of x items warp = record { serial = x.serial; of = x.of; hat = x.hat; status = x.status; warp = warp; items = items }

with_items : (b : Basis) (t : Told) (x : SavedThread) (hat : Script) (o : Option (List Item)) → script_under (target_of t x) x.hat b ≡ Some hat
    → items_of b.program hat x.levels ≡ o → option_map_or (stands_well b.program t.run.devices x.serial x.status) o false ≡ true → OfMachine b t x
unfolding task_of
with_items b t x hat None under e h = absurd (cc h)
with_items b t x hat (Some items) under e h =
    let r = reads b.program hat x.levels items e in (
      task_of x items (warp_on b.program hat items),
      ap (λ ls. record { serial = x.serial; of = x.of; hat = x.hat; status = x.status; levels = ls }) r.levels,
      record { hat = hat; under = under; stands = r.stands_in; well = h },
    )

with_hat : (b : Basis) (t : Told) (x : SavedThread) (o : Option Script) → script_under (target_of t x) x.hat b ≡ o
    → option_map_or (stands_well b.program t.run.devices x.serial x.status) (option_and_then (λ script. items_of b.program script x.levels) o) false ≡ true → OfMachine b t x
with_hat b t x None under h = absurd (cc h)
with_hat b t x (Some hat) under h = with_items b t x hat (items_of b.program hat x.levels) under refl h

pub accepted : (b : Basis) (t : Told) (x : SavedThread) → thread_is_well b t x ≡ true → OfMachine b t x
accepted b t x h = with_hat b t x (script_under (target_of t x) x.hat b) refl h
