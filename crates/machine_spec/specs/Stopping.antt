-- Stopping: all, other scripts, a clone; questions that are dropped; and making a clone (after scratch-vm,
-- engine/runtime.js, stopAll, stopForTarget, and sprites/rendered-target.js, makeClone).
use Rattle.std.specs.Prelude.{ℕ, ◌+◌, ◌==◌, List, [], ◌∷◌, ◌++◌, map, filter, length, nat_lt, Bool, true, false, not, ◌||◌, None, if◌then◌else◌}
use Rattle.machine_spec.specs.Lists.{first_removed}
use Rattle.machine_spec.specs.Outcome.{Outcome, Goes, then_do}
use Rattle.machine_spec.specs.Program.{Records}
use Rattle.machine_spec.specs.Stores.{Instance, Question, no_bubble, instance_at, is_on_stage, store_at}
use Rattle.machine_spec.specs.Effects.{no_effects}
use Rattle.machine_spec.specs.Parts.{Scene, bubble_updated}
use Rattle.machine_spec.specs.ControlRows.{question_shown}
use Rattle.machine_spec.specs.World.{World}

abbrev pub scene_of : {T : Type 0} → World T → Scene
scene_of w = record { targets = w.targets; devices = w.devices }

abbrev pub with_scene : {T : Type 0} → World T → Scene → World T
with_scene w s = record w { targets = s.targets; devices = s.devices }

-- Questions

-- the bubble of an instance is updated to the empty text of its kind
abbrev pub bubble_emptied : ℕ → Scene → Outcome Scene
bubble_emptied n s = bubble_updated n (instance_at n s.targets).bubble.kind [] s

-- the first question was taken away: the bubble of its instance is emptied or not, and the next question is shown
abbrev pub first_taken : (emptied : Bool) → ℕ → Scene → Outcome Scene
first_taken emptied of s =
    then_do (if emptied then bubble_emptied of s else Goes s) (λ v. question_shown v.devices.questions v)

abbrev pub is_first_of : ℕ → List Question → Bool
is_first_of n [] = false
is_first_of n (q ∷ qs) = q.of == n

abbrev pub without_questions : ℕ → Scene → Scene
without_questions n s = record s { devices = record s.devices { questions = filter (λ q. not (q.of == n)) s.devices.questions } }

-- the questions of an instance are dropped; where the first was among them its bubble is emptied and the next is shown
abbrev pub questions_dropped : ℕ → Scene → Outcome Scene
questions_dropped n s =
    if is_first_of n s.devices.questions then first_taken true n (without_questions n s) else Goes (without_questions n s)

abbrev pub without_timers : ℕ → Scene → Scene
without_timers n s = record s { devices = record s.devices { timers = filter (λ t. not (t.of == n)) s.devices.timers } }

-- Stop all, and deleting a clone

-- an original has the number of its target
abbrev pub is_clone : Records → ℕ → Bool
is_clone records n = not (nat_lt n (length records.targets))

-- the instance is gone, with its variables and lists
abbrev pub disposed : {T : Type 0} → ℕ → World T → World T
disposed n w = record w {
  targets = first_removed (λ i. i.number == n) w.targets;
  variables = record w.variables { stores = first_removed (λ s. s.of == n) w.variables.stores };
}

-- effects are 0 and the bubble empty, with no update of it
abbrev pub cleared : Instance → Instance
cleared i = record i { effects = no_effects; bubble = record i.bubble { text = [] } }

-- clones, effects, bubbles, questions, timers and threads are gone
abbrev pub all_stopped : {T : Type 0} → Records → World T → World T
all_stopped records w = record w {
  targets = map cleared (filter (λ i. not (is_clone records i.number)) w.targets);
  variables = record w.variables { stores = filter (λ s. not (is_clone records s.of)) w.variables.stores };
  devices = record w.devices { questions = []; timers = [] };
  threads = record { list = []; detached = None };
}

-- Making a clone

-- the most clones
abbrev pub most_clones : ℕ
most_clones = 300

-- the copy of an instance under a number, with a bubble that has said nothing
abbrev pub copied : ℕ → Instance → Instance
copied n i = record i { number = n; bubble = no_bubble }

-- the clone stands last, with a copy of the variables and lists
abbrev pub clone_added : {T : Type 0} → ℕ → World T → World T
clone_added original w = record w {
  next_instance = w.next_instance + 1;
  targets = w.targets ++ copied w.next_instance (instance_at original w.targets) ∷ [];
  variables = record w.variables { stores = w.variables.stores ++ (record (store_at original w.variables.stores) { of = w.next_instance }) ∷ [] };
}

-- an instance put directly behind another
abbrev pub inserted_behind : Instance → ℕ → List Instance → List Instance
inserted_behind clone n [] = []
inserted_behind clone n (i ∷ is) = if i.number == n then clone ∷ i ∷ is else i ∷ inserted_behind clone n is

abbrev pub placed_behind : (clone original : ℕ) → List Instance → List Instance
placed_behind clone original is = inserted_behind (instance_at clone is) original (first_removed (λ i. i.number == clone) is)

-- at the most clones, or on the stage, none is made
abbrev pub has_no_room : {T : Type 0} → Records → ℕ → World T → Bool
has_no_room records original w =
    not (nat_lt (length w.targets) (length records.targets + most_clones)) || is_on_stage (instance_at original w.targets) records
