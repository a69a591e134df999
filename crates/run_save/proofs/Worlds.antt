-- Worlds and tasks that agree in each part.
use Rattle.std.proofs.Common.{◌≡◌}
use Rattle.machine_spec.specs.Tasks.{Task}
use Rattle.machine_spec.specs.World.{World}

pub same_world : {T : Type 0} (v w : World T) → v.frame ≡ w.frame → v.words ≡ w.words → v.next_thread ≡ w.next_thread → v.next_instance ≡ w.next_instance → v.redraw ≡ w.redraw → v.targets ≡ w.targets
    → v.variables ≡ w.variables → v.devices ≡ w.devices → v.threads ≡ w.threads → v ≡ w
same_world v w a b c d e f g h j = λ i. record { frame = a i; words = b i; next_thread = c i; next_instance = d i; redraw = e i; targets = f i; variables = g i; devices = h i; threads = j i }

pub same_task : (v w : Task) → v.serial ≡ w.serial → v.of ≡ w.of → v.hat ≡ w.hat → v.status ≡ w.status → v.warp ≡ w.warp → v.items ≡ w.items → v ≡ w
same_task v w a b c d e f = λ i. record { serial = a i; of = b i; hat = c i; status = d i; warp = e i; items = f i }
