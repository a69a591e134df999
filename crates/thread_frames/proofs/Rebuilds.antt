-- Levels are put on those of a thread, one after another.
use Rattle.std.proofs.Common.{◌≡◌, List, [], ◌∷◌, ◌++◌, length, reverse, Option, Some, None, refl, sym, ap, ◌∙◌, append_assoc, arith}
use Rattle.std.proofs.lemmas.List.{reverse-append, append-nil}
use Rattle.machine_spec.specs.declared.threads.Which.{Which}
use Rattle.machine_spec.specs.declared.threads.Which.TheVariants.{Slot, Detached}
use Rattle.machine_spec.specs.Places.{Places, at_place, on_place, put, put_some}
use Rattle.thread_frames.specs.declared.parts.ThreadPart.{ThreadPart}
use Rattle.thread_frames.specs.Levels.{Level}
use Rattle.thread_frames.specs.Threads.{Thread, Bare, on_levels, with_levels, new_bare}
use Rattle.thread_frames.specs.Rebuilding.{on_all, thread_of}
use Rattle.thread_frames.proofs.Maps.{put_same}
use Rattle.thread_frames.proofs.Opening.{get_put, put_put, put_behind}

pub no_levels : (ls : List Level) → length ls ≡ 0 → ls ≡ []
no_levels [] none = refl
no_levels (l ∷ ls) none = absurd (omega (arith, none))

on_all-more : (l : Level) (ls under : List Level) → on_all ls (l ∷ under) ≡ on_all (l ∷ ls) under
on_all-more l ls under = sym (append_assoc (reverse ls) (l ∷ []) under) ∙ ap (λ xs. xs ++ under) (sym (reverse-append (l ∷ []) ls))

twice : (which : Which) (t u v : Thread) (ts : Places Thread) → at_place which ts ≡ Some t → (at_place which (put which u ts) ≡ Some u) × (put which v (put which u ts) ≡ put which v ts)
twice (Slot i) t u v ts at = (get_put ts.list i t u at, ap (λ xs. record { list = xs; detached = ts.detached }) (put_put ts.list i u v))
twice Detached t u v ts at = (refl, refl)

more_by : (l : Level) (ls : List Level) (which : Which) (ts : Places Thread) (o : Option Thread) → at_place which ts ≡ o
    → on_place (on_levels (on_all ls)) which (put_some o (on_levels (λ x. l ∷ x)) which ts) ≡ put_some o (on_levels (on_all (l ∷ ls))) which ts
more_by l ls which ts None at = ap (λ o. put_some o (on_levels (on_all ls)) which ts) at
more_by l ls which ts (Some t) at =
    let u = on_levels (λ x. l ∷ x) t in
    let both = twice which t u (on_levels (on_all ls) u) ts at in
    ap (λ o. put_some o (on_levels (on_all ls)) which (put which u ts)) both.0
    ∙ both.1
    ∙ ap (λ levels. put which (record t { levels = levels }) ts) (on_all-more l ls t.levels)

pub put_more : (l : Level) (ls : List Level) (which : Which) (ts us : Places Thread) → us ≡ on_place (on_levels (λ x. l ∷ x)) which ts → on_place (on_levels (on_all ls)) which us ≡ on_place (on_levels (on_all (l ∷ ls))) which ts
put_more l ls which ts us is = ap (on_place (on_levels (on_all ls)) which) is ∙ more_by l ls which ts (at_place which ts) refl

none_by : (which : Which) (ts : Places Thread) (o : Option Thread) → at_place which ts ≡ o → put_some o (on_levels (on_all [])) which ts ≡ ts
none_by which ts None at = refl
none_by which ts (Some t) at = put_same which t ts at

pub put_none : (which : Which) (ts : Places Thread) → on_place (on_levels (on_all [])) which ts ≡ ts
put_none which ts = none_by which ts (at_place which ts) refl

-- a thread that was appended has the levels of its part then
pub part_put : (part : ThreadPart) (b : Bare) (ts us ws : Places Thread) → b ≡ record (new_bare part.serial part.of part.target part.hat) { status = part.status }
    → us ≡ record { list = ts.list ++ with_levels b [] ∷ []; detached = ts.detached } → ws ≡ on_place (on_levels (on_all part.levels.items)) (Slot (length ts.list)) us
    → ws ≡ record { list = ts.list ++ thread_of part ∷ []; detached = ts.detached }
part_put part b ts us ws bare is put =
    put ∙ put_behind (on_levels (on_all part.levels.items)) (with_levels b []) ts us is
    ∙ ap (λ (x : Bare). record { list = ts.list ++ with_levels x (reverse part.levels.items ++ []) ∷ []; detached = ts.detached }) bare
    ∙ ap (λ ls. record { list = ts.list ++ with_levels (record (new_bare part.serial part.of part.target part.hat) { status = part.status }) ls ∷ []; detached = ts.detached }) (append-nil (reverse part.levels.items))
