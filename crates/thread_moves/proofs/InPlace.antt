-- A thread that is changed in its place, read of its levels.
use Rattle.std.proofs.Common.{◌≡◌, ℕ, ◌+◌, ◌<◌, ◌≤◌, Bool, true, false, List, [], ◌∷◌, ◌++◌, length, Option, Some, None, Err, refl, sym, ap, ◌∙◌, subst, arith}
use Rattle.std.specs.Prelude.{is_some, nat_lt, if◌then◌else◌}
use Rattle.std.proofs.lemmas.Bool.Decides.{nat_tests}
use Rattle.machine_spec.specs.Outcome.{Goes, Full, most_levels, with_room}
use Rattle.machine_spec.specs.Pending.{Item, Position, dos}
use Rattle.machine_spec.specs.declared.threads.Which.{Which}
use Rattle.machine_spec.specs.Places.{Places, at_place, put, put_some, on_place}
use Rattle.machine_spec.specs.Script.{Statement}
use Rattle.machine_spec.specs.Starting.{open_levels}
use Rattle.machine_spec.specs.Tasks.{status_after}
use Rattle.machine_spec.specs.declared.threads.Report.{Report}
use Rattle.machine_spec.proofs.Placing.{put_at, put_self, on_is, on_twice}
use Rattle.project_check.specs.declared.project.Project.{Project}
use Rattle.project_check.specs.Loaded.{sheet_at}
use Rattle.thread_frames.specs.declared.level.Level.{Level}
use Rattle.thread_frames.specs.Levels.{on_top, without_top, warp_flag}
use Rattle.thread_frames.specs.Reading.{beneath}
use Rattle.thread_frames.specs.Stops.{PushStopIs}
use Rattle.thread_frames.specs.Threads.{Thread, frames, levels_of, on_levels, with_status}
use Rattle.thread_frames.specs.declared.stops.PushStop.{PushStop}
use Rattle.thread_frames.specs.declared.stops.PushStop.TheVariants as stop
use Rattle.thread_frames.proofs.Opening.{open_in, open-put, length-on_top}
use Rattle.thread_moves.specs.Moves.{IsAtBlock, MovesOn, OnlyLevels, levels_at, with_levels}
use Rattle.thread_moves.specs.Standing.{IsAt, MovesTo, TopHolds}

module _ (which : Which) where
  levels_by : (f : List Level → List Level) (ts : Places Thread) (o : Option Thread) → at_place which ts ≡ o → f [] ≡ [] → levels_at which (put_some o (on_levels f) which ts) ≡ f (levels_of o)
  levels_by f ts None e none = ap levels_of e ∙ sym none
  levels_by f ts (Some t) e none = ap levels_of (put_at which ts t (on_levels f t) e)

  -- levels that are changed, where no levels stay none
  pub levels_are : (f : List Level → List Level) (ts new : Places Thread) → new ≡ on_place (on_levels f) which ts → f [] ≡ [] → levels_at which new ≡ f (levels_at which ts)
  levels_are f ts new e none = ap (levels_at which) e ∙ levels_by f ts (at_place which ts) refl none

  only_by : (f : List Level → List Level) (ts : Places Thread) (o : Option Thread) → at_place which ts ≡ o → OnlyLevels which ts (put_some o (on_levels f) which ts)
  only_by f ts None e = sym (ap (λ o. put_some o (on_levels (λ ls. levels_at which ts)) which ts) e)
  only_by f ts (Some t) e =
      let new : Places Thread = put which (on_levels f t) ts in
      let levels_is : levels_at which new ≡ f t.levels = ap levels_of (put_at which ts t (on_levels f t) e) in
      ap (λ ls. put which (record t { levels = ls }) ts) (sym levels_is) ∙ sym (ap (λ o. put_some o (on_levels (λ ls. levels_at which new)) which ts) e)

  -- then nothing but they is changed
  pub only_on : (f : List Level → List Level) (ts new : Places Thread) → new ≡ on_place (on_levels f) which ts → OnlyLevels which ts new
  only_on f ts new e = subst (OnlyLevels which ts) (sym e) (only_by f ts (at_place which ts) refl)

  pub only_then : (a b c : Places Thread) → OnlyLevels which a b → OnlyLevels which b c → OnlyLevels which a c
  only_then a b c h g = on_twice (on_levels (λ ls. levels_at which b)) (on_levels (λ ls. levels_at which c)) which a b c h g

  same_by : (ts : Places Thread) (o : Option Thread) → at_place which ts ≡ o → ts ≡ put_some o (on_levels (λ ls. ls)) which ts
  same_by ts None e = refl
  same_by ts (Some t) e = sym (put_self which ts t e)

  pub only_self : (ts : Places Thread) → OnlyLevels which ts ts
  only_self ts = only_on (λ ls. ls) ts ts (same_by ts (at_place which ts) refl)

  -- a thread that is there
  pub there_on : (f : Thread → Thread) (ts new : Places Thread) (t : Thread) → at_place which ts ≡ Some t → new ≡ on_place f which ts → at_place which new ≡ Some (f t)
  there_on f ts new t found e = ap (at_place which) (on_is f which ts new t found e) ∙ put_at which ts t (f t) found

  pub levels_there : (f : List Level → List Level) (ts new : Places Thread) (t : Thread) → at_place which ts ≡ Some t → new ≡ on_place (on_levels f) which ts → levels_at which new ≡ f (levels_at which ts)
  levels_there f ts new t found e = ap levels_of (there_on (on_levels f) ts new t found e) ∙ ap (λ o. f (levels_of o)) (sym found)

  there_by : (o : Option Thread) (l : Level) (ls : List Level) → levels_of o ≡ l ∷ ls → (t : Thread) × (o ≡ Some t)
  there_by None l ls e = absurd (cc e)
  there_by (Some t) l ls e = (t, refl)

  -- it is there where it has levels
  pub there_of : (ts : Places Thread) (l : Level) (ls : List Level) → levels_at which ts ≡ l ∷ ls → (t : Thread) × (at_place which ts ≡ Some t)
  there_of ts l ls e = there_by (at_place which ts) l ls e

  -- and is still there
  pub still_there : (ts new : Places Thread) → is_some (at_place which ts) ≡ true → OnlyLevels which ts new → is_some (at_place which new) ≡ true
  still_there ts new there only = by (at_place which ts) refl there
    where
      by : (o : Option Thread) → at_place which ts ≡ o → is_some o ≡ true → is_some (at_place which new) ≡ true
      by None e h = absurd (cc h)
      by (Some t) e h = ap is_some (there_on (on_levels (λ ls. levels_at which new)) ts new t e only)

  -- how many levels are open
  pub open_moved : (ts new : Places Thread) (t : Thread) → at_place which ts ≡ Some t → OnlyLevels which ts new → open_levels frames new + length (levels_at which ts) ≡ open_levels frames ts + length (levels_at which new)
  open_moved ts new t found only =
      let u : Thread = record t { levels = levels_at which new } in
      let e = open-put which t u ts found in
      let s : open_in new ≡ open_in (put which u ts) = ap open_in (on_is (on_levels (λ ls. levels_at which new)) which ts new t found only) in
      omega (arith, e, s, ap (λ o. length (levels_of o)) found)

  pub open_top : (f : Level → Level) (ts new : Places Thread) (t : Thread) → at_place which ts ≡ Some t → new ≡ on_place (on_levels (on_top f)) which ts → open_levels frames new ≡ open_levels frames ts
  open_top f ts new t found e =
      let m = open_moved ts new t found (only_on (on_top f) ts new e) in
      let l : length (levels_at which new) ≡ length (levels_at which ts) = ap length (levels_are (on_top f) ts new e refl) ∙ length-on_top f (levels_at which ts) in
      omega (arith, m, l)

goes_by : {A : Type 0} (b : Bool) (x y : A) → (if b then Goes x else Full) ≡ Goes y → y ≡ x
goes_by true x y h = cc h
goes_by false x y h = absurd (cc h)

-- what is made where there is room
pub room_goes : {A : Type 0} (n : ℕ) (x y : A) → with_room n x ≡ Goes y → y ≡ x
room_goes n x y h = goes_by (nat_lt n most_levels) x y h

room_by : {A : Type 0} (b : Bool) (x y : A) → (if b then Goes x else Full) ≡ Goes y → b ≡ true
room_by true x y h = refl
room_by false x y h = absurd (cc h)

-- there was room where a level was opened
pub was_room : {A : Type 0} (n : ℕ) (x y : A) → with_room n x ≡ Goes y → n < most_levels
was_room n x y h = let e : nat_lt n most_levels ≡ true = room_by (nat_lt n most_levels) x y h in grind (arith, nat_tests, e)

full_by : {A B : Type 0} (b : Bool) (x : A) (y : B) → (if b then Goes x else Full) ≡ Full → (if b then Goes y else Full) ≡ Full
full_by true x y h = absurd (cc h)
full_by false x y h = refl

-- a stop of the same count
pub stop_as : (T U : Type 0) {A B : Type 0} (e : PushStop) (m n : ℕ) (x : A) (y : B) → m ≡ n → PushStopIs {T = T} (Err e) (with_room m x) → PushStopIs {T = U} (Err e) (with_room n y)
stop_as T U stop.Full m n x y same h = full_by (nat_lt n most_levels) x y (ap (λ k. with_room k x) (sym same) ∙ h)
stop_as T U stop.NoMemory m n x y same h = tt

-- no room is left where so many levels are open
pub no_room : {A : Type 0} (n : ℕ) (x : A) → most_levels ≤ n → with_room n x ≡ Full
no_room n x le = let e : nat_lt n most_levels ≡ false = grind (arith, nat_tests, le) in rw e refl

pub never_full : {A : Type 0} (n : ℕ) (x : A) → n < most_levels → with_room n x ≡ Full → ⊥
never_full n x lt h = let e : nat_lt n most_levels ≡ true = grind (arith, nat_tests, lt) in cc (rw e at h)

-- a level that is opened in a thread that is there
module _ (which : Which) (n : ℕ) (l : Level) (ts new : Places Thread) (pushed : with_room n (on_place (on_levels (λ ls. l ∷ ls)) which ts) ≡ Goes new) where
  pub opened_only : OnlyLevels which ts new
  opened_only = only_on which (λ ls. l ∷ ls) ts new (room_goes n (on_place (on_levels (λ ls. l ∷ ls)) which ts) new pushed)

  opened_by : (o : Option Thread) → at_place which ts ≡ o → is_some o ≡ true → levels_at which new ≡ l ∷ levels_at which ts
  opened_by None e h = absurd (cc h)
  opened_by (Some t) e h = levels_there which (λ ls. l ∷ ls) ts new t e (room_goes n (on_place (on_levels (λ ls. l ∷ ls)) which ts) new pushed)

  pub opened_levels : is_some (at_place which ts) ≡ true → levels_at which new ≡ l ∷ levels_at which ts
  opened_levels there = opened_by (at_place which ts) refl there

module _ (p : Project) (which : Which) (target k : ℕ) (old : Places Thread) (at : IsAtBlock p which old target k) where
  -- the levels of a thread at a block
  pub top_at : TopHolds (sheet_at target p) (levels_at which old) k
  top_at = subst (λ o. TopHolds (sheet_at target p) (levels_of o) k) (sym at.found) at.top

  -- they were moved, and the thread stands as its report says
  pub moves_on : (mid new : Places Thread) (report : Report) → OnlyLevels which old mid → new ≡ on_place (with_status (status_after report)) which mid → (f : Statement → List Item → Bool → Position)
      → MovesTo (sheet_at target p) k (λ s rest. f s rest (warp_flag (levels_at which old))) (levels_at which old) (levels_at which mid) report → MovesOn p which target k f old new report
  moves_on mid new report only status f moves s rest e = record {
    before = at.thread;
    found = at.found;
    levels = levels_at which mid;
    new_is = on_is (with_levels (levels_at which mid) report) which old new at.thread at.found (on_twice (on_levels (λ ls. levels_at which mid)) (with_status (status_after report)) which old mid new only status);
    stands = subst (λ t. IsAt (sheet_at t p) (f s (dos rest ++ beneath (sheet_at target p) (without_top (levels_at which old))) (warp_flag (levels_at which old))) (levels_at which mid) report) (sym at.target_is) (moves s rest e);
  }
