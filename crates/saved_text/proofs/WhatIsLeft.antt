-- The levels of a thread have the values of what they have still to do.
use Rattle.std.proofs.Common.{◌≡◌, ℕ, suc, Bool, true, false, List, [], ◌∷◌, ◌++◌, length, map, filter, reverse, slice_get, Option, Some, None, refl, sym, ap, ◌∙◌, subst, arith, ◌<◌, ◌≤◌, inl, inr}
use Rattle.std.specs.List.{All}
use Rattle.std.proofs.lemmas.List.Elements.{filter-append, All-head, All-tail}
use Rattle.std.proofs.lemmas.List.{reverse-append, map-append}
use Rattle.std.proofs.lemmas.Option.{slice_get_cases}
use Rattle.opcode_table.specs.declared.kinds.Kind.{Kind}
use Rattle.serde_json.specs.Data.{Data, null}
use Rattle.machine_spec.specs.declared.threads.Context.{Context}
use Rattle.machine_spec.specs.declared.threads.Context.TheVariants.{Fresh, Repeat, Wait, Glide, Started, Asked, Spoken, Called}
use Rattle.machine_spec.specs.Keeping.{under_fits, top_fits, empty_fits}
use Rattle.machine_spec.specs.Pending.{Item, dos}
use Rattle.machine_spec.specs.Script.{Script, End, Then, Statement}
use Rattle.machine_spec.specs.Threads.{Params}
use Rattle.project_spec.specs.declared.blocks.Block.{Block}
use Rattle.project_spec.specs.Trees.{Sheet, statement, script, target_of_link}
use Rattle.thread_frames.specs.declared.level.Level.{Level}
use Rattle.thread_frames.specs.Fit.{IsHeld, AllUnder, IsAtRest, kind_of, top_at, block_at}
use Rattle.thread_frames.specs.Reading as reading
use Rattle.thread_frames.specs.Reading.{params_in, first_by, first_item, marker_by, marker, items_at, beneath, pending}
use Rattle.thread_frames.specs.Threads.{Thread}
use Rattle.saved_spec.specs.Contexts.{context}
use Rattle.saved_spec.specs.Rows.{row}
use Rattle.saved_spec.specs.Tasks as tasks
use Rattle.saved_spec.specs.Tasks.{level_at, is_marker}
use Rattle.saved_text.specs.Laws.{IsKept}
use Rattle.saved_text.specs.Threads as threads
use Rattle.saved_spec.specs.Threads.{block, thread_of}

marker_kept : (is_loop : Bool) (c : Context) (params : Params) (w : Bool) (s : Statement) (k : Kind) → under_fits c is_loop k ≡ true → tasks.level (marker_by is_loop c params w s) ≡ level_at s (context is_loop params c)
marker_kept true Fresh params w s k fits = refl
marker_kept true (Repeat n) params w s k fits = refl
marker_kept true (Wait state) params w s k fits = refl
marker_kept true (Glide state) params w s k fits = refl
marker_kept true (Started serials) params w s k fits = refl
marker_kept true Asked params w s k fits = refl
marker_kept true Spoken params w s k fits = refl
marker_kept true Called params w s k fits = absurd cc
marker_kept false Fresh params w s k fits = refl
marker_kept false (Repeat n) params w s k fits = absurd cc
marker_kept false (Wait state) params w s k fits = absurd cc
marker_kept false (Glide state) params w s k fits = absurd cc
marker_kept false (Started serials) params w s k fits = absurd cc
marker_kept false Asked params w s k fits = absurd cc
marker_kept false Spoken params w s k fits = absurd cc
marker_kept false Called params w s k fits = refl

first_kept : (is_loop : Bool) (c : Context) (params : Params) (s : Statement) (k : Kind) → top_fits c is_loop k ≡ true → tasks.level (first_by is_loop c params s) ≡ level_at s (context is_loop params c)
first_kept true Fresh params s k fits = refl
first_kept true (Repeat n) params s k fits = refl
first_kept true (Wait state) params s k fits = refl
first_kept true (Glide state) params s k fits = refl
first_kept true (Started serials) params s k fits = refl
first_kept true Asked params s k fits = refl
first_kept true Spoken params s k fits = refl
first_kept true Called params s k fits = absurd cc
first_kept false Fresh params s k fits = refl
first_kept false (Repeat n) params s k fits = refl
first_kept false (Wait state) params s k fits = refl
first_kept false (Glide state) params s k fits = refl
first_kept false (Started serials) params s k fits = refl
first_kept false Asked params s k fits = refl
first_kept false Spoken params s k fits = refl
first_kept false Called params s k fits = refl

empty_kept : (is_loop : Bool) (c : Context) (params : Params) → empty_fits c is_loop ≡ true → context is_loop params c ≡ null
empty_kept true Fresh params fits = absurd cc
empty_kept false Fresh params fits = refl
empty_kept is_loop (Repeat n) params fits = absurd cc
empty_kept is_loop (Wait state) params fits = absurd cc
empty_kept is_loop (Glide state) params fits = absurd cc
empty_kept is_loop (Started serials) params fits = absurd cc
empty_kept is_loop Asked params fits = absurd cc
empty_kept is_loop Spoken params fits = absurd cc
empty_kept is_loop Called params fits = absurd cc

is_marker-marker : (is_loop : Bool) (c : Context) (params : Params) (w : Bool) (s : Statement) → is_marker (marker_by is_loop c params w s) ≡ true
is_marker-marker true c params w s = refl
is_marker-marker false Fresh params w s = refl
is_marker-marker false (Repeat n) params w s = refl
is_marker-marker false (Wait state) params w s = refl
is_marker-marker false (Glide state) params w s = refl
is_marker-marker false (Started serials) params w s = refl
is_marker-marker false Asked params w s = refl
is_marker-marker false Spoken params w s = refl
is_marker-marker false Called params w s = refl

-- what follows a block, up to the next marker, is no level
filter-dos : (s : Script) → filter is_marker (dos s) ≡ []
filter-dos End = refl
filter-dos (Then s rest) = filter-dos rest

behind : (s : Script) (rest : List Item) → filter is_marker (dos s ++ rest) ≡ filter is_marker rest
behind s rest = filter-append is_marker (dos s) rest ∙ ap (λ xs. xs ++ filter is_marker rest) (filter-dos s)

-- a level with this block in place of its own
abbrev level_of : Option ℕ → Level → Data
level_of o l = row (block o ∷ context l.is_loop (params_in l) l.context ∷ [])

-- the block that a level under another holds, and what follows it
held_items : (sheet : Sheet) (f : Statement → Item) (o : Option ℕ) (id : ℕ) (b : Block) → o ≡ Some id → slice_get sheet.blocks id ≡ Some b → items_at sheet f o ≡ f (statement sheet id b) ∷ dos (script sheet (target_of_link b.next))
held_items sheet f o id b holds found = rw (holds, found) refl

levels_under : (sheet : Sheet) (ls : List Level) → AllUnder sheet ls → map tasks.level (filter is_marker (beneath sheet ls)) ≡ map threads.level ls
levels_under sheet [] all = refl
levels_under sheet (l ∷ ls) all =
    let u = all.0 in
    let s = statement sheet u.id u.block in
    let rest = dos (script sheet (target_of_link u.block.next)) in
    let here = ap (λ xs. filter is_marker (xs ++ beneath sheet ls)) (held_items sheet (marker l) l.block u.id u.block u.holds u.found) in
    let first : filter is_marker ((marker l s ∷ rest) ++ beneath sheet ls) ≡ marker l s ∷ filter is_marker (beneath sheet ls) =
    rw (is_marker-marker l.is_loop l.context (params_in l) l.warp s) (ap (λ xs. marker l s ∷ xs) (behind (script sheet (target_of_link u.block.next)) (beneath sheet ls))) in
    let same : tasks.level (marker l s) ≡ threads.level l =
    marker_kept l.is_loop l.context (params_in l) l.warp s (kind_of u.block) u.fits ∙ ap (λ o. level_of o l) (sym u.holds) in
    ap (map tasks.level) (here ∙ first) ∙ ap (λ d. d ∷ map tasks.level (filter is_marker (beneath sheet ls))) same ∙ ap (λ ds. threads.level l ∷ ds) (levels_under sheet ls all.1)

none_left : (ls : List Level) → suc (length ls) ≡ 1 → ls ≡ []
none_left [] one = refl
none_left (l ∷ ls) one = absurd (grind (arith, one))

held_past : {n k : ℕ} → k < n → n ≤ k → ⊥
held_past {n} {k} within past = grind (arith, within, past)

-- the levels of a thread, by what it has still to do
pub levels_kept : (sheet : Sheet) (ls : List Level) → IsAtRest sheet ls → tasks.levels (pending sheet ls) ≡ map threads.level ls
levels_kept sheet [] rest = absurd (grind (arith, rest.there))
levels_kept sheet (top ∷ ls) rest = by_block top.block refl
  where
    empty : top.block ≡ None → (under : List Level) → under ≡ [] → tasks.levels (items_at sheet (first_item top) top.block ++ beneath sheet under) ≡ threads.level top ∷ map threads.level under
    empty holds under none =
        rw (none, holds) (ap (λ d. row (null ∷ d ∷ []) ∷ []) (sym (empty_kept top.is_loop top.context (params_in top) (subst (λ o. top_at (block_at sheet o) top.context top.is_loop ≡ true) holds rest.fit.0.fits))))

    by_found : (id : ℕ) → top.block ≡ Some id → (b : Block) → slice_get sheet.blocks id ≡ Some b → tasks.levels (pending sheet (top ∷ ls)) ≡ threads.level top ∷ map threads.level ls
    by_found id holds b found =
        let s = statement sheet id b in
        let following = script sheet (target_of_link b.next) in
        let here = ap (λ xs. tasks.levels (xs ++ beneath sheet ls)) (held_items sheet (first_item top) top.block id b holds found) in
        let markers = ap (map tasks.level) (behind following (beneath sheet ls)) ∙ levels_under sheet ls rest.fit.1 in
        let at_id = subst (λ o. top_at (block_at sheet o) top.context top.is_loop ≡ true) holds rest.fit.0.fits in
        let fits = subst (λ o. top_at o top.context top.is_loop ≡ true) found at_id in
        let first : tasks.level (first_item top s) ≡ threads.level top =
        first_kept top.is_loop top.context (params_in top) s (kind_of b) fits ∙ ap (λ o. level_of o top) (sym holds) in
        here ∙ ap (λ ds. tasks.level (first_item top s) ∷ ds) markers ∙ ap (λ d. d ∷ map threads.level ls) first

    by_block : (o : Option ℕ) → top.block ≡ o → tasks.levels (pending sheet (top ∷ ls)) ≡ threads.level top ∷ map threads.level ls
    by_block None holds = empty holds ls (none_left ls (rest.single holds))
    by_block (Some id) holds = elim (slice_get_cases sheet.blocks id).1 [
      | inl there ↦ by_found id holds there.0 there.2
      | inr past ↦ absurd (held_past (subst (IsHeld sheet) holds rest.fit.0.held) past.0)
    ]

map-reverse : {A B : Type 0} (f : A → B) (xs : List A) → map f (reverse xs) ≡ reverse (map f xs)
map-reverse f [] = refl
map-reverse f (x ∷ xs) = ap (map f) (reverse-append (x ∷ []) xs) ∙ map-append f (reverse xs) (x ∷ []) ∙ ap (λ ys. ys ++ f x ∷ []) (map-reverse f xs) ∙ sym (reverse-append (f x ∷ []) (map f xs))

thread_kept : (sheets : ℕ → Sheet) (t : Thread) → IsKept sheets t → tasks.task (reading.task sheets t) ≡ threads.thread t
thread_kept sheets t kept =
    let same = levels_kept (sheets t.target) t.levels (kept.fits.open_levels kept.alive) in
    ap (λ ds. thread_of t.hat t.serial t.of t.status (row ds)) (ap reverse same ∙ sym (map-reverse threads.level t.levels))

pub threads_kept : (sheets : ℕ → Sheet) (ts : List Thread) → All (IsKept sheets) ts → map tasks.task (map (reading.task sheets) ts) ≡ map threads.thread ts
threads_kept sheets [] all = refl
threads_kept sheets (t ∷ ts) all =
    ap (λ d. d ∷ map tasks.task (map (reading.task sheets) ts)) (thread_kept sheets t (All-head (IsKept sheets) t ts all))
    ∙ ap (λ ds. threads.thread t ∷ ds) (threads_kept sheets ts (All-tail (IsKept sheets) t ts all))
