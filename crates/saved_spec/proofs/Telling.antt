-- What a text tells of the threads of the machine is written as these are.
use Rattle.std.proofs.Common.{◌≡◌, true, List, [], ◌∷◌, ◌++◌, map, filter, reverse, refl, sym, ap, ◌∙◌}
use Rattle.std.proofs.lemmas.List.{reverse-append, map-append}
use Rattle.machine_spec.specs.declared.threads.Context.{Context}
use Rattle.machine_spec.specs.declared.threads.Context.TheVariants.{Fresh, Repeat, Wait, Glide, Started, Asked, Spoken, Called}
use Rattle.machine_spec.specs.Pending.{Item, Do, Held, Returned, Branch, Again, Back}
use Rattle.machine_spec.specs.Tasks.{Task}
use Rattle.saved_spec.specs.Contexts.{context}
use Rattle.saved_spec.specs.Rows.{row}
use Rattle.saved_spec.specs.Tasks as tasks
use Rattle.saved_spec.specs.Tasks.{is_marker}
use Rattle.saved_spec.specs.Threads.{thread_of}
use Rattle.saved_spec.specs.Kept as kept

same_context : (c : Context) → kept.kept (kept.kept_of c) ≡ context true [] c
same_context Fresh = refl
same_context (Repeat turns) = refl
same_context (Wait state) = refl
same_context (Glide state) = refl
same_context (Started serials) = refl
same_context Asked = refl
same_context Spoken = refl
same_context Called = refl

same_level : (x : Item) → kept.level (kept.level_of x) ≡ tasks.level x
same_level (Do s) = refl
same_level (Held s c) = ap (tasks.level_at s) (same_context c)
same_level (Returned s params) = refl
same_level (Branch s warp) = refl
same_level (Again s c warp) = ap (tasks.level_at s) (same_context c)
same_level (Back s params warp) = refl

same_all : (xs : List Item) → map kept.level (map kept.level_of xs) ≡ map tasks.level xs
same_all [] = refl
same_all (x ∷ xs) = let one = same_level x in let more = same_all xs in cc

same_levels : (xs : List Item) → map kept.level (kept.levels_of xs) ≡ tasks.levels xs
same_levels [] = refl
same_levels (x ∷ xs) = let one = same_level x in let more = same_all (filter is_marker xs) in cc

map-reverse : {A B : Type 0} (f : A → B) (xs : List A) → map f (reverse xs) ≡ reverse (map f xs)
map-reverse f [] = refl
map-reverse f (x ∷ xs) =
    ap (map f) (reverse-append (x ∷ []) xs)
    ∙ map-append f (reverse xs) (x ∷ [])
    ∙ ap (λ ys. ys ++ f x ∷ []) (map-reverse f xs)
    ∙ sym (reverse-append (f x ∷ []) (map f xs))

same_thread : (t : Task) → kept.thread (kept.thread_told t) ≡ tasks.task t
same_thread t =
    ap (λ ls. thread_of t.hat t.serial t.of t.status (row ls)) (map-reverse kept.level (kept.levels_of t.items) ∙ ap reverse (same_levels t.items))

pub same_threads : (ts : List Task) → map kept.thread (map kept.thread_told ts) ≡ map tasks.task ts
same_threads [] = refl
same_threads (t ∷ ts) = let one = same_thread t in let more = same_threads ts in cc
