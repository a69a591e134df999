-- Bytes that are accepted are the saved text of the world that they tell.
use Rattle.std.proofs.Common.{◌≡◌, ℕ, true, List, [], ◌∷◌, map, refl, sym, ap, ◌∙◌}
use Rattle.hex.specs.Hex.{encode_lower}
use Rattle.machine_spec.specs.Tasks.{Task}
use Rattle.laws_of_threads.specs.Lists.{Each}
use Rattle.saved_spec.specs.Saved.{Snapshot, snapshot, saved, saved_text}
use Rattle.saved_spec.specs.Tasks.{task}
use Rattle.project_spec.specs.Basis.{Basis}
use Rattle.saved_spec.specs.Kept.{SavedThread, thread, thread_told}
use Rattle.saved_spec.specs.Legal.{told}
use Rattle.saved_spec.specs.Levels.{thread_is_well}
use Rattle.saved_spec.specs.Refusals.{IsAccepted}
use Rattle.saved_spec.specs.RunShapes.{Told}
use Rattle.saved_spec.proofs.Spelled.{written_as_read}
use Rattle.saved_spec.proofs.Telling.{same_threads}
use Rattle.saved_spec.specs.Worlds.{task_told, world_told}
use Rattle.laws_of_loading.proofs.Accepting.{Keeps, all_well, holds}
use Rattle.laws_of_loading.proofs.Threads.{told_is}

all_told : (b : Basis) (t : Told) (xs : List SavedThread) → Each (λ x. thread_is_well b t x ≡ true) xs → map thread_told (map (task_told b t) xs) ≡ xs
all_told b t [] h = refl
all_told b t (x ∷ xs) h = ap (λ y. y ∷ map thread_told (map (task_told b t) xs)) (told_is b t x h.0) ∙ ap (λ ys. x ∷ ys) (all_told b t xs h.1)

same_run : (r : Snapshot SavedThread) (project : List ℕ) (threads : List SavedThread) → project ≡ r.project → threads ≡ r.threads → record r { project = project; threads = threads } ≡ r
same_run r project threads p ts = λ i. record r { project = p i; threads = ts i }

-- the text of the world tells what was read
tells : (b : Basis) (digest : List ℕ) (t : Told) → Keeps b (encode_lower digest) t → (told (snapshot digest t.run.seed (world_told b t))).run ≡ t.run
tells b digest t k = same_run t.run _ _ (sym k.project) (all_told b t t.run.threads (all_well b t k.threads))

-- and is written so
written_so : (s : Snapshot Task) → saved_text thread (told s).run ≡ saved_text task s
unfolding saved_text saved
written_so s = rw (same_threads s.threads) refl

pub accepted_is_written : (b : Basis) (digest bytes : List ℕ) (t : Told) → IsAccepted b digest bytes t → bytes ≡ saved_text task (snapshot digest t.run.seed (world_told b t))
accepted_is_written b digest bytes t a =
    written_as_read b digest bytes a.0 t a.2
    ∙ ap (saved_text thread) (sym (tells b digest t (holds b digest bytes t a).keeps))
    ∙ written_so (snapshot digest t.run.seed (world_told b t))
