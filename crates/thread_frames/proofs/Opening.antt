-- How many levels are open where a thread is changed, appended or replaced.
use Rattle.std.proofs.Common.{◌≡◌, ℕ, zero, suc, ◌+◌, ◌≤◌, List, [], ◌∷◌, ◌++◌, length, Option, Some, None, slice_get, refl, ap, ◌∙◌, arith}
use Rattle.std.specs.Prelude.{sum_by, slice_set}
use Rattle.std.proofs.lemmas.List.Sums.{sum_by-cons, sum_by_push}
use Rattle.machine_spec.specs.declared.threads.Which.{Which}
use Rattle.machine_spec.specs.declared.threads.Which.TheVariants.{Slot, Detached}
use Rattle.machine_spec.specs.Places.{Places, at_place, put, put_some, on_place, sum_some}
use Rattle.machine_spec.specs.Starting.{open_levels}
use Rattle.thread_frames.specs.Levels.{Level, on_top}
use Rattle.thread_frames.specs.Threads.{Thread, frames, on_levels}

abbrev pub depth : Thread → ℕ
depth t = length t.levels

abbrev pub open_in : Places Thread → ℕ
open_in ts = open_levels frames ts

-- a change of the top level leaves as many levels
pub length-on_top : (f : Level → Level) (ls : List Level) → length (on_top f ls) ≡ length ls
length-on_top f [] = refl
length-on_top f (l ∷ ls) = refl

sum_set : (xs : List Thread) (i : ℕ) (t u : Thread) → slice_get xs i ≡ Some t → sum_by depth (slice_set xs i u) + depth t ≡ sum_by depth xs + depth u
sum_set [] i t u at = absurd (cc)
sum_set (x ∷ xs) zero t u at = let e : x ≡ t = cc in omega (arith, ap depth e, sum_by-cons depth x xs, sum_by-cons depth u xs)
sum_set (x ∷ xs) (suc i) t u at = omega (arith, sum_set xs i t u at, sum_by-cons depth x xs, sum_by-cons depth x (slice_set xs i u))

-- a changed thread changes the count by its own levels alone
pub open-put : (which : Which) (t u : Thread) (ts : Places Thread) → at_place which ts ≡ Some t → open_in (put which u ts) + depth t ≡ open_in ts + depth u
open-put (Slot i) t u ts at = omega (arith, sum_set ts.list i t u at)
open-put Detached t u ts at =
    let e : sum_some depth ts.detached ≡ depth t = ap (sum_some depth) at in
    omega (arith, e)

-- a thread more
pub open-more : (t : Thread) (ts us : Places Thread) → us ≡ record { list = ts.list ++ t ∷ []; detached = ts.detached } → open_in us ≡ open_in ts + depth t
open-more t ts us is = ap open_in is ∙ omega (arith, sum_by_push depth ts.list t)

-- one level more
more_by : (l : Level) (which : Which) (ts : Places Thread) (o : Option Thread) → at_place which ts ≡ o → open_in (put_some o (on_levels (λ ls. l ∷ ls)) which ts) ≤ open_in ts + 1
more_by l which ts None at = omega arith
more_by l which ts (Some t) at = omega (arith, open-put which t (on_levels (λ ls. l ∷ ls) t) ts at)

pub open-one : (l : Level) (which : Which) (ts us : Places Thread) → us ≡ on_place (on_levels (λ ls. l ∷ ls)) which ts → open_in us ≤ open_in ts + 1
open-one l which ts us is = omega (arith, ap open_in is, more_by l which ts (at_place which ts) refl)

-- a thread behind the list, which is changed there
get_behind : (xs : List Thread) (t : Thread) → slice_get (xs ++ t ∷ []) (length xs) ≡ Some t
get_behind [] t = refl
get_behind (x ∷ xs) t = get_behind xs t

set_behind : (xs : List Thread) (t u : Thread) → slice_set (xs ++ t ∷ []) (length xs) u ≡ xs ++ u ∷ []
set_behind [] t u = refl
set_behind (x ∷ xs) t u = ap (λ ys. x ∷ ys) (set_behind xs t u)

pub put_behind : (f : Thread → Thread) (t : Thread) (ts us : Places Thread) → us ≡ record { list = ts.list ++ t ∷ []; detached = ts.detached }
    → on_place f (Slot (length ts.list)) us ≡ record { list = ts.list ++ f t ∷ []; detached = ts.detached }
put_behind f t ts us is =
    ap (on_place f (Slot (length ts.list))) is
    ∙ ap (λ o. put_some o f (Slot (length ts.list)) (record { list = ts.list ++ t ∷ []; detached = ts.detached })) (get_behind ts.list t)
    ∙ ap (λ xs. record { list = xs; detached = ts.detached }) (set_behind ts.list t (f t))

-- a thread that was put into a slot, which is changed there
pub get_put : (xs : List Thread) (i : ℕ) (t u : Thread) → slice_get xs i ≡ Some t → slice_get (slice_set xs i u) i ≡ Some u
get_put [] i t u at = absurd (cc)
get_put (x ∷ xs) zero t u at = refl
get_put (x ∷ xs) (suc i) t u at = get_put xs i t u at

pub put_put : (xs : List Thread) (i : ℕ) (u v : Thread) → slice_set (slice_set xs i u) i v ≡ slice_set xs i v
put_put [] i u v = refl
put_put (x ∷ xs) zero u v = refl
put_put (x ∷ xs) (suc i) u v = ap (λ ys. x ∷ ys) (put_put xs i u v)
