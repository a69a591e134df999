-- What the threads are that were made of those that a text tells.
use Rattle.std.proofs.Common.{◌≡◌, ℕ, suc, cond, option_map, not, find, ◌+◌, Bool, true, false, ◌&&◌, List, [], ◌∷◌, ◌++◌, length, map, sum_by, Some, None, Err, IsSome, unwrap_or, refl, sym, ap, ◌∙◌, subst, arith}
use Rattle.std.specs.List.{All}
use Rattle.std.specs.Option.{option_map_or}
use Rattle.std.proofs.lemmas.List.Elements.{All-nil, All-cons}
use Rattle.std.proofs.lemmas.List.Sums.{sum_by-cons}
use Rattle.machine_spec.specs.declared.instance.Instance.{Instance}
use Rattle.machine_spec.specs.declared.threads.Status.{Status}
use Rattle.machine_spec.specs.declared.threads.Status.TheVariants.{Running, YieldTick, PromiseWait, Done}
use Rattle.machine_spec.specs.Legal.{warp_on}
use Rattle.machine_spec.specs.Pending.{Item, Do, Held, Returned, Branch, Again, Back}
use Rattle.machine_spec.specs.Program.{Program}
use Rattle.machine_spec.specs.Script.{Script}
use Rattle.machine_spec.specs.Stores.{Devices, live}
use Rattle.machine_spec.specs.Threads.{is_done}
use Rattle.project_check.specs.declared.project.Project.{Project}
use Rattle.project_check.specs.Loaded.{sheet_at, basis_of}
use Rattle.executions.specs.Ready.{IsOfLive}
use Rattle.executions.specs.Seen.{sheets}
use Rattle.thread_frames.specs.declared.parts.ThreadPart.{ThreadPart}
use Rattle.thread_frames.specs.Fit.{Fits, IsAtRest}
use Rattle.thread_frames.specs.Levels.{warp_flag}
use Rattle.thread_frames.specs.Reading.{pending, task}
use Rattle.thread_frames.specs.Rebuilding.{thread_of}
use Rattle.thread_frames.specs.Threads.{Thread}
use Rattle.saved_levels.specs.Read.{task_with}
use Rattle.saved_spec.specs.Kept.{SavedThread, thread_told}
use Rattle.saved_spec.specs.Legal.{StandsIn, StandsFirst}
use Rattle.saved_spec.specs.Levels.{bad_thread, thread_is_well}
use Rattle.saved_spec.specs.Rules.{target_of}
use Rattle.saved_spec.specs.RunShapes.{Told}
use Rattle.saved_spec.specs.ThreadRules.{items_fit, promises_fit, stands_well}
use Rattle.saved_spec.specs.declared.refusals.SaveRefusal.{SaveRefusal}
use Rattle.saved_spec.specs.declared.refusals.SaveRefusal.TheVariants.{Json, Version, Shape, OtherProject, BadReference, BadThread, Spelling, NoMemory}
use Rattle.rand_core.specs.Stream.{Stream}
use Rattle.run_save.specs.Loading.{Makes}
use Rattle.run_save.specs.Parts.{AllParted, AreParts, IsPart, IsReady, Parted, first_bad}
use Rattle.saved_spec.specs.Worlds.{items_told, task_told, warp_told}
use Rattle.run_save.specs.Worlds.{AllTold}
use Rattle.run_save.proofs.Worlds.{same_task}

-- the flag of a legal thread is that of its place

first_warp : (p : Program) (hat : Script) (x : Item) (rest : List Item) (w : Bool) → StandsFirst p hat x rest w → w ≡ warp_on p hat (x ∷ rest)
first_warp p hat (Do s) rest w h = h.warp
first_warp p hat (Held s c) rest w h = h.warp
first_warp p hat (Returned s params) rest w h = h.warp
first_warp p hat (Branch s v) rest w h = absurd h
first_warp p hat (Again s c v) rest w h = absurd h
first_warp p hat (Back s params v) rest w h = absurd h

warp_is : (p : Program) (hat : Script) (items : List Item) (w : Bool) → StandsIn p hat items w → w ≡ warp_on p hat items
warp_is p hat [] w h = h
warp_is p hat (x ∷ rest) w h = first_warp p hat x rest w h.0

-- no thread that keeps the rules is done

alive_if : (p : Program) (d : Devices) (serial : ℕ) (status : Status) (items : List Item) → stands_well p d serial status items ≡ true → is_done status ≡ false
alive_if p d serial Running items h = refl
alive_if p d serial YieldTick items h = refl
alive_if p d serial PromiseWait items h = refl
alive_if p d serial Done items h = absurd (by_first (items_fit p d.clock items) h)
  where
    by_first : (b : Bool) → (b && false && promises_fit d serial items) ≡ true → ⊥
    by_first true e = cc e
    by_first false e = cc e

module _ (p : Project) (t : Told) (x : SavedThread) (q : ThreadPart) (part : IsPart p t x q) where
  items_are : items_told (basis_of p) t x ≡ pending (sheet_at (target_of t x) p) (thread_of q).levels
  items_are = ap (λ o. unwrap_or o []) part.made.left

  warp_here : warp_told (basis_of p) t x ≡ warp_flag (thread_of q).levels
  warp_here =
      ap (λ o. option_map_or (λ hat. warp_on (basis_of p).program hat (items_told (basis_of p) t x)) o false) part.made.legal.under
      ∙ ap (warp_on (basis_of p).program part.made.legal.hat) items_are
      ∙ sym (warp_is (basis_of p).program part.made.legal.hat (pending (sheet_at (target_of t x) p) (thread_of q).levels) (warp_flag (thread_of q).levels) part.made.legal.stands)

  task_is : task (sheets p) (thread_of q) ≡ task_told (basis_of p) t x
  task_is = same_task (task (sheets p) (thread_of q)) (task_told (basis_of p) t x) part.serial_is part.of_is part.hat_is part.status_is (sym warp_here)
      (ap (λ n. pending (sheet_at n p) (thread_of q).levels) part.target_is ∙ sym items_are)

  told_is : thread_told (task_told (basis_of p) t x) ≡ x
  told_is = ap thread_told (same_task (task_told (basis_of p) t x) (task_with p (target_of t x) x (thread_of q).levels) refl refl refl refl warp_here items_are) ∙ part.made.told

  alive_is : is_done q.status ≡ false
  alive_is = ap is_done part.status_is ∙ alive_if (basis_of p).program t.run.devices x.serial x.status (pending (sheet_at (target_of t x) p) (thread_of q).levels) part.made.legal.well

  fits_is : Fits (sheets p) (thread_of q)
  fits_is = record {
    done = λ e. absurd (cc (sym e ∙ alive_is));
    open_levels = λ e. subst (λ n. IsAtRest (sheet_at n p) (thread_of q).levels) (sym part.target_is) part.made.rest;
  }

-- all of them

pub tasks_are : (p : Project) (t : Told) (xs : List SavedThread) (qs : List ThreadPart) → AreParts p t xs qs → map (task (sheets p)) (map thread_of qs) ≡ map (task_told (basis_of p) t) xs
tasks_are p t [] [] h = refl
tasks_are p t [] (q ∷ qs) h = absurd h
tasks_are p t (x ∷ xs) [] h = absurd h
tasks_are p t (x ∷ xs) (q ∷ qs) h = ap (λ y. y ∷ map (task (sheets p)) (map thread_of qs)) (task_is p t x q h.0) ∙ ap (λ ys. task_told (basis_of p) t x ∷ ys) (tasks_are p t xs qs h.1)

pub all_told : (p : Project) (t : Told) (xs : List SavedThread) (qs : List ThreadPart) → AreParts p t xs qs → AllTold (basis_of p) t xs
all_told p t [] qs h = tt
all_told p t (x ∷ xs) [] h = absurd h
all_told p t (x ∷ xs) (q ∷ qs) h = (told_is p t x q h.0, all_told p t xs qs h.1)

pub all_fit : (p : Project) (t : Told) (xs : List SavedThread) (qs : List ThreadPart) → AreParts p t xs qs → All (Fits (sheets p)) (map thread_of qs)
all_fit p t [] [] h = All-nil (Fits (sheets p))
all_fit p t [] (q ∷ qs) h = absurd h
all_fit p t (x ∷ xs) [] h = absurd h
all_fit p t (x ∷ xs) (q ∷ qs) h = All-cons (Fits (sheets p)) (thread_of q) (map thread_of qs) (fits_is p t x q h.0) (all_fit p t xs qs h.1)

abbrev IsAlive : Thread → Type 0
IsAlive t = is_done t.status ≡ false

pub all_alive : (p : Project) (t : Told) (xs : List SavedThread) (qs : List ThreadPart) → AreParts p t xs qs → All (λ y. is_done y.status ≡ false) (map thread_of qs)
all_alive p t [] [] h = All-nil IsAlive
all_alive p t [] (q ∷ qs) h = absurd h
all_alive p t (x ∷ xs) [] h = absurd h
all_alive p t (x ∷ xs) (q ∷ qs) h = All-cons IsAlive (thread_of q) (map thread_of qs) (alive_is p t x q h.0) (all_alive p t xs qs h.1)

pub as_many_levels : (p : Project) (t : Told) (xs : List SavedThread) (qs : List ThreadPart) → AreParts p t xs qs → sum_by (λ y. length y.levels) (map thread_of qs) ≡ sum_by (λ x. length x.levels) xs
as_many_levels p t [] [] h = refl
as_many_levels p t [] (q ∷ qs) h = absurd h
as_many_levels p t (x ∷ xs) [] h = absurd h
as_many_levels p t (x ∷ xs) (q ∷ qs) h =
    sum_by-cons (λ (y : Thread). length y.levels) (thread_of q) (map thread_of qs)
    ∙ ap (λ n. n + sum_by (λ (y : Thread). length y.levels) (map thread_of qs)) h.0.made.count
    ∙ ap (λ n. length x.levels + n) (as_many_levels p t xs qs h.1)
    ∙ sym (sum_by-cons (λ (y : SavedThread). length y.levels) x xs)

-- each is of a live instance

pub first_ready : (is : List Instance) (x : SavedThread) (xs : List SavedThread) → All (λ y. IsReady y is) (x ∷ xs) → IsReady x is
first_ready is x xs r = r 0 x (omega arith)

pub rest_ready : (is : List Instance) (x : SavedThread) (xs : List SavedThread) → All (λ y. IsReady y is) (x ∷ xs) → All (λ y. IsReady y is) xs
rest_ready is x xs r = λ k d h. r (suc k) d (omega (arith, h))

pub all_live : (p : Project) (t : Told) (is : List Instance) (xs : List SavedThread) (qs : List ThreadPart) → All (λ x. IsReady x is) xs → AreParts p t xs qs → All (IsOfLive is) (map thread_of qs)
all_live p t is [] [] r h = All-nil (IsOfLive is)
all_live p t is [] (q ∷ qs) r h = absurd h
all_live p t is (x ∷ xs) [] r h = absurd h
all_live p t is (x ∷ xs) (q ∷ qs) r h =
    All-cons (IsOfLive is) (thread_of q) (map thread_of qs) (λ e. subst (λ n. IsSome (live n is)) (sym h.0.of_is) (first_ready is x xs r).lives) (all_live p t is xs qs (rest_ready is x xs r) h.1)

-- The first that breaks a rule

pub none_bad : (p : Project) (t : Told) (xs : List SavedThread) (qs : List ThreadPart) → AreParts p t xs qs → first_bad p t xs ≡ None
none_bad p t [] qs h = refl
none_bad p t (x ∷ xs) [] h = absurd h
none_bad p t (x ∷ xs) (q ∷ qs) h = ap (λ b. option_map (λ (y : SavedThread). y.serial) (cond (not b) (Some x) (find (λ y. not (thread_is_well (basis_of p) t y)) xs))) h.0.made.well ∙ none_bad p t xs qs h.1

-- behind threads that have their parts, the first that breaks a rule is the first of all
pub bad_behind : (p : Project) (t : Told) (xs : List SavedThread) (qs : List ThreadPart) (x : SavedThread) (rest : List SavedThread) → AreParts p t xs qs → thread_is_well (basis_of p) t x ≡ false → first_bad p t (xs ++ x ∷ rest) ≡ Some x.serial
bad_behind p t [] qs x rest h e = ap (λ b. option_map (λ (y : SavedThread). y.serial) (cond (not b) (Some x) (find (λ y. not (thread_is_well (basis_of p) t y)) rest))) e
bad_behind p t (y ∷ xs) [] x rest h e = absurd h
bad_behind p t (y ∷ xs) (q ∷ qs) x rest h e = ap (λ b. option_map (λ (z : SavedThread). z.serial) (cond (not b) (Some y) (find (λ z. not (thread_is_well (basis_of p) t z)) (xs ++ x ∷ rest)))) h.0.made.well ∙ bad_behind p t xs qs x rest h.1 e

-- one more
pub part_behind : (p : Project) (t : Told) (xs : List SavedThread) (qs : List ThreadPart) (x : SavedThread) (q : ThreadPart) → AreParts p t xs qs → IsPart p t x q → AreParts p t (xs ++ x ∷ []) (qs ++ q ∷ [])
part_behind p t [] [] x q h g = (g, tt)
part_behind p t [] (r ∷ qs) x q h g = absurd h
part_behind p t (y ∷ xs) [] x q h g = absurd h
part_behind p t (y ∷ xs) (r ∷ qs) x q h g = (h.0, part_behind p t xs qs x q h.1 g)

pub no_parts : (p : Project) (t : Told) → AreParts p t [] []
no_parts p t = tt

-- a thread that breaks a rule behind them
pub all_bad : (p : Project) (t : Told) (xs : List SavedThread) (qs : List ThreadPart) (x : SavedThread) (rest all : List SavedThread) (e : SaveRefusal) → xs ++ x ∷ rest ≡ all → AreParts p t xs qs → Parted p t x (Err e) → AllParted p t all (Err e)
all_bad p t xs qs x rest all (BadThread serial) split h g = subst (λ ys. first_bad p t ys ≡ Some serial) split (bad_behind p t xs qs x rest h g.0 ∙ ap Some (sym g.1))
all_bad p t xs qs x rest all NoMemory split h g = tt
all_bad p t xs qs x rest all Json split h g = absurd g
all_bad p t xs qs x rest all (Version n) split h g = absurd g
all_bad p t xs qs x rest all (Shape path) split h g = absurd g
all_bad p t xs qs x rest all (OtherProject kept given) split h g = absurd g
all_bad p t xs qs x rest all (BadReference path) split h g = absurd g
all_bad p t xs qs x rest all (Spelling at) split h g = absurd g

-- the answer that the making of a run passes on
pub not_made : {R : Type 0} (stream : R → Stream) (p : Project) (t : Told) (e : SaveRefusal) → AllParted p t t.run.threads (Err e) → Makes stream p t (Err e)
unfolding bad_thread
not_made stream p t (BadThread serial) h = h
not_made stream p t NoMemory h = tt
not_made stream p t Json h = absurd h
not_made stream p t (Version n) h = absurd h
not_made stream p t (Shape path) h = absurd h
not_made stream p t (OtherProject kept given) h = absurd h
not_made stream p t (BadReference path) h = absurd h
not_made stream p t (Spelling at) h = absurd h

pub none_is_bad : (p : Project) (t : Told) → first_bad p t t.run.threads ≡ None → bad_thread (basis_of p) t ≡ None
unfolding bad_thread
none_is_bad p t h = h
