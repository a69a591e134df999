-- The saved text of a legal world tells this world.
use Rattle.std.proofs.Common.{◌≡◌, ℕ, false, List, [], ◌∷◌, map, None, refl, sym, ap, ◌∙◌}
use Rattle.machine_spec.specs.Places.{Places}
use Rattle.machine_spec.specs.Tasks.{Task}
use Rattle.machine_spec.specs.Words.{Words, words_after}
use Rattle.laws_of_threads.specs.Lists.{Each}
use Rattle.laws_of_threads.specs.Worlds as threads
use Rattle.laws_of_threads.proofs.Numbers.{each_map}
use Rattle.laws_of_words.specs.Words.{IsOfSeed}
use Rattle.saved_spec.specs.Saved.{snapshot}
use Rattle.project_spec.specs.Basis.{Basis}
use Rattle.saved_spec.specs.Kept.{thread_told}
use Rattle.saved_spec.specs.Legal.{told}
use Rattle.saved_spec.specs.RunShapes.{Told}
use Rattle.laws_of_saving.specs.Laws.{WorldIsTold}
use Rattle.saved_spec.specs.Worlds.{task_told}
use Rattle.laws_of_saving.proofs.ThreadLegal.{is_told}

all_told : (b : Basis) (t : Told) (ts : List Task) → Each (λ x. task_told b t (thread_told x) ≡ x) ts → map (task_told b t) (map thread_told ts) ≡ ts
all_told b t [] h = refl
all_told b t (x ∷ ts) h = let one : task_told b t (thread_told x) ≡ x = h.0 in let more = all_told b t ts h.1 in cc

-- the words of a seed are told by how many were drawn
words_told : (seed : ℕ) (w : Words) → IsOfSeed seed w → words_after seed w.drawn ≡ w
words_told seed w h = ap (λ s. record w { stream = s }) (sym h.stream)

places_told : (threads : Places Task) (list : List Task) → list ≡ threads.list → threads.detached ≡ None → record { list = list; detached = None } ≡ threads
places_told threads list e none = ap (λ xs. record threads { list = xs; detached = None }) e ∙ ap (λ o. record threads { detached = o }) (sym none)

pub the_world_told : WorldIsTold
the_world_told b seed digest w good run_legal =
    let ts = places_told w.threads (map (task_told b (told (snapshot digest seed w))) (map thread_told w.threads.list))
    (all_told b (told (snapshot digest seed w)) w.threads.list
    (each_map (threads.IsLegalThread b.program w) (λ x. task_told b (told (snapshot digest seed w)) (thread_told x) ≡ x) w.threads.list
    (λ x k. is_told b seed digest w good run_legal x k) run_legal.threads.threads))
    run_legal.threads.none_detached in
    ap (λ d. record w {
      words = d;
      redraw = false;
      threads = record { list = map (task_told b (told (snapshot digest seed w))) (map thread_told w.threads.list); detached = None };
    }) (words_told seed w.words run_legal.instances.words)
    ∙ ap (λ places. record w { redraw = false; threads = places }) ts
