-- Starting and ending threads, whatever a thread is (after scratch-vm, engine/runtime.js, startHats, _restartThread).
use Rattle.std.specs.Prelude.{ℕ, suc, ◌+◌, ◌==◌, List, [], ◌∷◌, ◌++◌, map, reverse, filter, flat_map, codes, bytes_eq, unwrap_or, position, slice_get, slice_set, Bool, true, false, not, ◌&&◌, Option, Some, None, if◌then◌else◌}
use Rattle.std.specs.List.{list_any}
use Rattle.opcode_table.specs.declared.hats.HatKind.{HatKind}
use Rattle.opcode_table.specs.declared.hats.HatKind.TheVariants.{FlagHat, SpriteHat, StageHat, MessageHat, BackdropHat, KeyHat, CloneHat}
use Rattle.opcode_table.specs.Kinds.{hat_kind}
use Rattle.script_words.specs.declared.stops.CounterKind.TheVariants as counter
use Rattle.scratch_values.specs.Folding.{folded_chars}
use Rattle.scratch_values.specs.Named.{item_named}
use Rattle.machine_spec.specs.Outcome.{Outcome, Goes, then_do, with_number, with_room}
use Rattle.machine_spec.specs.Script.{Statement, command_of, op_of}
use Rattle.machine_spec.specs.Program.{Program, Head, hat_block, scripts_at}
use Rattle.machine_spec.specs.Threads.{Filter, Broadcast, Backdrop, Key, Flag, CloneStart, Clicked}
use Rattle.machine_spec.specs.Stores.{Instance}
use Rattle.machine_spec.specs.Places.{Places, Which, Slot, Detached, sum_over, on_place}

-- Which hats are started

-- the text of a hat's field
abbrev pub hat_field : List ℕ → Statement → List ℕ
hat_field name s = unwrap_or (item_named name (command_of s).fields) []

-- both texts fold to the same text
abbrev pub same_folded : List ℕ → List ℕ → Bool
same_folded a b = bytes_eq (folded_chars a) (folded_chars b)

-- a hat of this kind fits the filter
abbrev pub fits : Filter → HatKind → Statement → Bool
fits (Broadcast message) MessageHat s = same_folded (hat_field (codes "BROADCAST_OPTION") s) message
fits (Backdrop costume) BackdropHat s = same_folded (hat_field (codes "BACKDROP") s) costume
fits (Key name) KeyHat s = same_folded (hat_field (codes "KEY_OPTION") s) name
fits Flag FlagHat s = true
fits (CloneStart clone) CloneHat s = true
fits (Clicked instance) SpriteHat s = true
fits (Clicked instance) StageHat s = true
fits _ _ s = false

abbrev pub is_stage_hat : HatKind → Bool
is_stage_hat StageHat = true
is_stage_hat _ = false

-- the thread of these hats is restarted where there is one; of others none is started beside one that is not done
abbrev pub restarts : HatKind → Bool
restarts FlagHat = true
restarts SpriteHat = true
restarts StageHat = true
restarts MessageHat = true
restarts BackdropHat = true
restarts _ = false

-- the instances that a filter speaks of
abbrev pub meant : Filter → List Instance → List Instance
meant (CloneStart clone) is = filter (λ i. i.number == clone) is
meant (Clicked instance) is = filter (λ i. i.number == instance) is
meant _ is = is

-- a hat of an instance
pub record Pair : Type 0 where
  pub of : ℕ
  pub head : Head

abbrev pub pairs_of : Program → (Statement → Bool) → Instance → List Pair
pairs_of p test i = map (λ h. record { of = i.number; head = h }) (filter (λ h. test h.hat) (scripts_at i.of p).heads)

-- from the last instance to the first, the heads of each in block order
abbrev pub pairs : Program → (Statement → Bool) → List Instance → List Pair
pairs p test is = flat_map (pairs_of p test) (reverse is)

abbrev pub fits_hat : Filter → Statement → Bool
fits_hat f s = fits f (hat_kind (op_of s)) s

abbrev pub is_stage_hat_of : Statement → Bool
is_stage_hat_of s = is_stage_hat (hat_kind (op_of s))

-- the hats that a filter starts; of those for a click the stage-clicked ones come last
abbrev pub starts : Program → Filter → List Instance → List Pair
starts p f is =
    pairs p (λ s. fits_hat f s && not (is_stage_hat_of s)) (meant f is)
    ++ pairs p (λ s. fits_hat f s && is_stage_hat_of s) (meant f is)

-- Their threads

-- what starting and ending need to know of a thread: whose it is, its hat, whether it is done, how many levels it has
-- open; itself done; and a new one
pub record Handle (A : Type 0) : Type 0 where
  pub of : A → ℕ
  pub hat : A → ℕ
  pub is_done : A → Bool
  pub depth : A → ℕ
  pub finish : A → A
  pub fresh : (serial of : ℕ) → Head → A

-- the threads, the number of the next one, and the serials of those that were started
pub record Crowd (A : Type 0) : Type 0 where
  pub threads : Places A
  pub next : ℕ
  pub serials : List ℕ

abbrev pub open_levels : {A : Type 0} → Handle A → Places A → ℕ
open_levels k ts = sum_over k.depth ts

-- the slot is that of the running thread, which is not detached yet
abbrev pub runs_at : {A : Type 0} → (running : Option ℕ) → ℕ → Option A → Bool
runs_at None j detached = false
runs_at (Some i) j None = i == j
runs_at (Some i) j (Some t) = false

-- the running thread becomes the detached one; any other gives up its levels first
abbrev pub replaced : {A : Type 0} → Handle A → (runs : Bool) → ℕ → A → A → Places A → Outcome (Places A)
replaced k true j old new ts = with_room (open_levels k ts) (record { list = slice_set ts.list j new; detached = Some old })
replaced k false j old new ts = with_room (open_levels k (on_place k.finish (Slot j) ts)) (record { list = slice_set ts.list j new; detached = ts.detached })

abbrev pub replaced_at : {A : Type 0} → Handle A → (runs : Bool) → ℕ → Option A → A → Places A → Outcome (Places A)
replaced_at k runs j None new ts = Goes ts
replaced_at k runs j (Some old) new ts = replaced k runs j old new ts

abbrev pub appended : {A : Type 0} → Handle A → A → Places A → Outcome (Places A)
appended k new ts = with_room (open_levels k ts) (record { list = ts.list ++ new ∷ []; detached = ts.detached })

-- the first listed thread of the same hat is replaced in its slot; where there is none the new one is appended
abbrev pub placed : {A : Type 0} → Handle A → (running : Option ℕ) → Option ℕ → A → Places A → Outcome (Places A)
placed k running None new ts = appended k new ts
placed k running (Some j) new ts = replaced_at k (runs_at running j ts.detached) j (slice_get ts.list j) new ts

-- a thread takes the next number before it takes room for its level
abbrev pub joined : {A : Type 0} → Crowd A → Outcome (Places A) → Outcome (Crowd A)
joined c o = with_number counter.Thread c.next (then_do o (λ ts. Goes (record { threads = ts; next = c.next + 1; serials = c.serials ++ c.next ∷ [] })))

abbrev pub is_of : {A : Type 0} → Handle A → Pair → A → Bool
is_of k x t = k.of t == x.of && k.hat t == hat_block x.head

abbrev pub is_alive_of : {A : Type 0} → Handle A → Pair → A → Bool
is_alive_of k x t = is_of k x t && not (k.is_done t)

abbrev pub new_thread : {A : Type 0} → Handle A → Pair → Crowd A → A
new_thread k x c = k.fresh c.next x.of x.head

abbrev pub ignored_or_appended : {A : Type 0} → Bool → Handle A → Pair → Crowd A → Outcome (Crowd A)
ignored_or_appended true k x c = Goes c
ignored_or_appended false k x c = joined c (appended k (new_thread k x c) c.threads)

abbrev pub start_by : {A : Type 0} → (restarting : Bool) → Handle A → (running : Option ℕ) → Pair → Crowd A → Outcome (Crowd A)
start_by true k running x c = joined c (placed k running (position (is_of k x) c.threads.list) (new_thread k x c) c.threads)
start_by false k running x c = ignored_or_appended (list_any (is_alive_of k x) c.threads.list) k x c

-- one hat in turn: it restarts; or it is ignored where a thread of it is not done, and else gets a thread
abbrev pub start_one : {A : Type 0} → Handle A → (running : Option ℕ) → Pair → Crowd A → Outcome (Crowd A)
start_one k running x c = start_by (restarts (hat_kind (op_of x.head.hat))) k running x c

abbrev pub start_all : {A : Type 0} → Handle A → (running : Option ℕ) → List Pair → Crowd A → Outcome (Crowd A)
start_all k running [] c = Goes c
start_all k running (x ∷ xs) c = then_do (start_one k running x c) (start_all k running xs)

-- Ending the threads of an instance

abbrev pub is_spared : Option Which → ℕ → Bool
is_spared None j = false
is_spared (Some (Slot i)) j = i == j
is_spared (Some Detached) j = false

-- the threads from slot j on, those of the instance done but for one that is spared
abbrev pub finished_from : {A : Type 0} → Handle A → (spared : Option Which) → (of j : ℕ) → List A → List A
finished_from k spared of j [] = []
finished_from k spared of j (t ∷ ts) = (if k.of t == of && not (is_spared spared j) then k.finish t else t) ∷ finished_from k spared of (suc j) ts

-- the listed threads of an instance are done, but for the one at a place
abbrev pub finished_of : {A : Type 0} → Handle A → (spared : Option Which) → (of : ℕ) → Places A → Places A
finished_of k spared of ts = record { list = finished_from k spared of 0 ts.list; detached = ts.detached }
