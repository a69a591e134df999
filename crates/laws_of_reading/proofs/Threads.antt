-- The threads of a saved run are read as they were written.
use Rattle.std.proofs.Common.{◌≡◌, ℕ, ◌≤◌, ◌^◌, pos, negsuc, unsigned_abs, List, [], ◌∷◌, map, filter, reverse, true, false, Option, Some, None, Ok, codes, refl, sym, subst, arith}
use Rattle.std.proofs.lemmas.Bool.{lt-ltb, le-leb}
use Rattle.std.proofs.lemmas.List.{reverse-append, reverse-reverse}
use Rattle.std.proofs.lemmas.List.Elements.{All-head, All-tail, All-cons, All-nil, All-push, All-map, All-filter, filter_passes}
use Rattle.std.specs.Fmt.{decimal}
use Rattle.std.specs.List.{All}
use Rattle.serde_json.specs.Data.{Data}
use Rattle.scratch_values.specs.declared.value.Value.{Value}
use Rattle.machine_spec.specs.declared.threads.Context.{Context}
use Rattle.machine_spec.specs.declared.threads.Context.TheVariants as context
use Rattle.machine_spec.specs.declared.threads.Count.{Count}
use Rattle.machine_spec.specs.declared.threads.Count.TheVariants.{Whole, Infinite}
use Rattle.machine_spec.specs.declared.threads.GlideState.{GlideState}
use Rattle.machine_spec.specs.declared.threads.Status.{Status}
use Rattle.machine_spec.specs.declared.threads.Status.TheVariants.{Running, YieldTick, PromiseWait, Done}
use Rattle.machine_spec.specs.Pending.{Item, Do, Held, Returned, Branch, Again, Back}
use Rattle.machine_spec.specs.Tasks.{Task}
use Rattle.machine_spec.specs.Threads.{is_done, most_turns}
use Rattle.saved_spec.specs.Contexts as contexts
use Rattle.saved_spec.specs.Ranges.{IsWhole, IsBlock, IsWait, IsGlide, IsContext, IsParam, AreParams, IsMarker, IsFirst, AreItems, IsTask}
use Rattle.saved_spec.specs.Rows as rows
use Rattle.saved_spec.specs.Tasks.{is_marker}
use Rattle.saved_spec.specs.Threads.{block, thread_of, status_name}
use Rattle.saved_spec.specs.Kept as kept
use Rattle.saved_spec.specs.Shapes.{if_some, whole}
use Rattle.saved_spec.specs.ThreadShapes as shapes
use Rattle.laws_of_reading.specs.Told.{HasFewTurns, KeepsFewTurns, IsTold}
use Rattle.laws_of_reading.proofs.Parts.{num_read, value_read, each_same}

-- what a block keeps is in range
abbrev pub IsFew : Count → Type 0
IsFew (Whole turns) = unsigned_abs turns ≤ most_turns
IsFew Infinite = Unit {0}

abbrev pub IsKept : kept.Kept → Type 0
IsKept kept.Nothing = Unit {0}
IsKept kept.Loop = Unit {0}
IsKept (kept.Repeat turns) = IsFew turns
IsKept (kept.Wait state) = IsWait state
IsKept (kept.Glide state) = IsGlide state
IsKept (kept.Started serials) = All IsWhole serials
IsKept kept.Asked = Unit {0}
IsKept kept.Spoken = Unit {0}
IsKept (kept.Call params) = AreParams params

pub record IsSavedLevel (l : kept.SavedLevel) : Type 0 where
  pub block : IsBlock l.block
  pub kept : IsKept l.kept

pub record IsSavedThread (t : kept.SavedThread) : Type 0 where
  pub serial : IsWhole t.serial
  pub of : IsWhole t.of
  pub hat : IsWhole t.hat
  pub alive : is_done t.status ≡ false
  pub levels : All IsSavedLevel t.levels

-- Reading

count_read : (at : List (List ℕ)) (c : Count) → IsFew c → shapes.count at (contexts.count c) ≡ Ok c
count_read at (Whole (pos n)) h = rw (lt-ltb n (2 ^ 63) (omega arith), le-leb n most_turns h) refl
count_read at (Whole (negsuc n)) h = rw (le-leb (unsigned_abs (negsuc n)) most_turns h) refl
count_read at Infinite h = refl

param_read : (at : List (List ℕ)) (p : List ℕ × Value) → IsParam p → shapes.param at (contexts.param p) ≡ Ok p
param_read at p h = rw (value_read (decimal 1 ∷ at) p.1 h.1) refl

glide_read : (at : List (List ℕ)) (g : GlideState) → IsGlide g → shapes.kept at (contexts.glide g) ≡ Ok (kept.Glide g)
glide_read at g h =
    rw (
      num_read (decimal 2 ∷ at) g.duration h.duration,
      num_read (decimal 3 ∷ at) g.x0 h.x0,
      num_read (decimal 4 ∷ at) g.y0 h.y0,
      num_read (decimal 5 ∷ at) g.x1 h.x1,
      num_read (decimal 6 ∷ at) g.y1 h.y1,
    )
    refl

kept_read : (at : List (List ℕ)) (k : kept.Kept) → IsKept k → shapes.kept at (kept.kept k) ≡ Ok k
kept_read at kept.Nothing h = refl
kept_read at kept.Loop h = refl
kept_read at (kept.Repeat turns) h = rw (count_read (decimal 1 ∷ at) turns h) refl
kept_read at (kept.Wait state) h = rw (num_read (decimal 2 ∷ at) state.duration h.duration) refl
kept_read at (kept.Glide state) h = glide_read at state h
kept_read at (kept.Started serials) h = rw (each_same whole rows.whole IsWhole (λ at n _. refl) (decimal 1 ∷ at) serials h) refl
kept_read at kept.Asked h = refl
kept_read at kept.Spoken h = refl
kept_read at (kept.Call params) h = rw (each_same shapes.param contexts.param IsParam param_read (decimal 1 ∷ at) params h) refl

block_read : (at : List (List ℕ)) (b : Option ℕ) → if_some whole at (block b) ≡ Ok b
block_read at None = refl
block_read at (Some k) = refl

level_read : (at : List (List ℕ)) (l : kept.SavedLevel) → IsSavedLevel l → shapes.level at (kept.level l) ≡ Ok l
level_read at l h = rw (block_read (decimal 0 ∷ at) l.block, kept_read (decimal 1 ∷ at) l.kept h.kept) refl

status_read : (at : List (List ℕ)) (s : Status) → is_done s ≡ false → shapes.status at (Rattle.serde_json.specs.Data.string (status_name s)) ≡ Ok s
status_read at Running h = refl
status_read at YieldTick h = refl
status_read at PromiseWait h = refl
status_read at Done h = absurd (cc h)

pub all_reverse : {A : Type 0} (P : A → Type 0) (xs : List A) → All P xs → All P (reverse xs)
all_reverse P [] h = h
all_reverse P (x ∷ xs) h = subst (All P) (sym (reverse-append (x ∷ []) xs)) (All-push P (reverse xs) x (all_reverse P xs (All-tail P x xs h)) (All-head P x xs h))

pub thread_read : (at : List (List ℕ)) (t : kept.SavedThread) → IsSavedThread t → shapes.thread at (kept.thread t) ≡ Ok t
unfolding thread_of
thread_read at t h =
    rw (
      each_same shapes.level kept.level IsSavedLevel level_read (codes "levels" ∷ at) (reverse t.levels) (all_reverse IsSavedLevel t.levels h.levels),
      status_read (codes "status" ∷ at) t.status h.alive,
      reverse-reverse t.levels,
    )
    refl

-- What is told of a thread of the machine is in range

kept_is : (c : Context) → IsContext c → HasFewTurns c → IsKept (kept.kept_of c)
kept_is context.Fresh h few = tt
kept_is (context.Repeat (Whole turns)) h few = few
kept_is (context.Repeat Infinite) h few = tt
kept_is (context.Wait state) h few = h
kept_is (context.Glide state) h few = h
kept_is (context.Started serials) h few = h
kept_is context.Asked h few = tt
kept_is context.Spoken h few = tt
kept_is context.Called h few = All-nil IsParam

marker_is : (x : Item) → is_marker x ≡ true → IsMarker x × KeepsFewTurns x → IsSavedLevel (kept.level_of x)
marker_is (Do s) m h = absurd (cc m)
marker_is (Held s c) m h = record { block = h.0.0; kept = kept_is c h.0.1 h.1 }
marker_is (Returned s params) m h = record { block = h.0.0; kept = h.0.1 }
marker_is (Branch s warp) m h = record { block = h.0; kept = tt }
marker_is (Again s c warp) m h = record { block = h.0.0; kept = kept_is c h.0.1 h.1 }
marker_is (Back s params warp) m h = record { block = h.0.0; kept = h.0.1 }

first_is : (x : Item) → IsFirst x → KeepsFewTurns x → IsSavedLevel (kept.level_of x)
first_is (Do s) h few = record { block = h; kept = tt }
first_is (Held s c) h few = record { block = h.0; kept = kept_is c h.1 few }
first_is (Returned s params) h few = record { block = h.0; kept = h.1 }
first_is (Branch s warp) h few = record { block = h; kept = tt }
first_is (Again s c warp) h few = record { block = h.0; kept = kept_is c h.1 few }
first_is (Back s params warp) h few = record { block = h.0; kept = h.1 }

-- markers, each in range
markers_are : (xs : List Item) → All IsMarker xs → All KeepsFewTurns xs → All IsSavedLevel (map kept.level_of (filter is_marker xs))
markers_are xs h few =
    All-map IsSavedLevel kept.level_of (filter is_marker xs)
    (λ k d lt. marker_is _ (filter_passes is_marker xs k d lt) (All-filter is_marker IsMarker xs h k d lt, All-filter is_marker KeepsFewTurns xs few k d lt))

levels_are : (xs : List Item) → AreItems xs → All KeepsFewTurns xs → All IsSavedLevel (kept.levels_of xs)
levels_are [] h few = All-cons IsSavedLevel _ [] (record { block = tt; kept = tt }) (All-nil IsSavedLevel)
levels_are (x ∷ xs) h few =
    All-cons IsSavedLevel _ _ (first_is x h.0 (All-head KeepsFewTurns x xs few)) (markers_are xs h.1 (All-tail KeepsFewTurns x xs few))

told_is : (t : Task) → IsTask t × IsTold t → IsSavedThread (kept.thread_told t)
told_is t h = record {
  serial = h.0.serial;
  of = h.0.of;
  hat = h.0.hat;
  alive = h.1.alive;
  levels = levels_are t.items h.0.items h.1.turns;
}

pub all_told : (ts : List Task) → All IsTask ts → All IsTold ts → All IsSavedThread (map kept.thread_told ts)
all_told ts h told = All-map IsSavedThread kept.thread_told ts (λ k d lt. told_is _ (h k d lt, told k d lt))
