-- The rules on what a saved run says of itself and of its project (docs/formats.md, section 5), each a test of what its
-- text tells. What each thread has still to do has rules of its own, in ThreadRules.antt.
use Rattle.std.specs.Prelude.{ℕ, ◌+◌, ◌==◌, nat_le, nat_lt, ℤ, pos, negsuc, int_le, unsigned_abs, List, [], ◌∷◌, length, map, filter, find, sum_by, slice_get, bytes_eq, codes, Bool, true, false, not, ◌&&◌, ◌||◌, Option, is_some, option_map}
use Rattle.std.specs.List.{list_any, list_all, range_with_len}
use Rattle.std.specs.Option.{option_map_or}
use Rattle.std.specs.Fmt.{char_count}
use Rattle.scratch_number.specs.declared.number.Num.{Num}
use Rattle.scratch_number.specs.declared.number.Num.TheVariants.{Fixed, Inf, NegInf, Nan}
use Rattle.scratch_values.specs.Longest.{longest}
use Rattle.scratch_values.specs.declared.value.Value.{Value}
use Rattle.scratch_values.specs.declared.value.Value.TheVariants.{Text}
use Rattle.machine_spec.specs.BubbleText.{most_characters}
use Rattle.machine_spec.specs.declared.effects.Effect.TheVariants.{Brightness, Ghost}
use Rattle.machine_spec.specs.declared.instance.Instance.{Instance}
use Rattle.machine_spec.specs.declared.variables.Shown.{Shown}
use Rattle.machine_spec.specs.declared.variables.Store.{Store}
use Rattle.machine_spec.specs.Effects.{effect_place}
use Rattle.machine_spec.specs.Line.{key_name}
use Rattle.machine_spec.specs.DataRows.{most_items}
use Rattle.machine_spec.specs.Outcome.{last_number, most_levels}
use Rattle.machine_spec.specs.Program.{record_at}
use Rattle.machine_spec.specs.ScriptText.{key_of_rest, last_clock}
use Rattle.machine_spec.specs.Stopping.{most_clones}
use Rattle.machine_spec.specs.Stores.{is_original, live, instance_at, record_of, is_on_stage, store_at}
use Rattle.machine_spec.specs.declared.variables.Shown.TheVariants.{Variable, List as Items}
use Rattle.project_spec.specs.Basis.{Basis, records_of, blocks_of, is_hat, is_edge}
use Rattle.saved_spec.specs.Kept.{Kept, Started, Call, SavedLevel, SavedThread}
use Rattle.saved_spec.specs.RunShapes.{Told}

-- Words of the rules

-- no two numbers are equal
abbrev pub differ : List ℕ → Bool
differ [] = true
differ (n ∷ ns) = not (list_any (λ m. m == n) ns) && differ ns

-- no two texts are equal
abbrev pub texts_differ : List (List ℕ) → Bool
texts_differ [] = true
texts_differ (t ∷ ts) = not (list_any (bytes_eq t) ts) && texts_differ ts

-- a number of millionths from one to another, both included
abbrev pub is_between : (low high : ℤ) → Num → Bool
is_between low high (Fixed z) = int_le low z && int_le z high
is_between low high n = false

-- the numbers that are given next stay below this
abbrev pub last_next : ℕ
last_next = 1 + last_number

abbrev pub is_next : ℕ → Bool
is_next n = nat_lt n last_next

-- The clock, the devices, the counters

-- the clock is at most 9·10^12 milliseconds
abbrev pub clock_is_in_range : Told → Bool
clock_is_in_range t = nat_le t.run.devices.clock last_clock

-- the timer was reset no later than the clock
abbrev pub timer_was_reset : Told → Bool
timer_was_reset t = nat_le t.run.devices.timer t.run.devices.clock

-- the mouse is on the stage
abbrev pub mouse_is_on_stage : Told → Bool
mouse_is_on_stage t = nat_le (unsigned_abs t.run.devices.mouse_x) 240 && nat_le (unsigned_abs t.run.devices.mouse_y) 180

-- a key by its name, a letter in upper case
abbrev pub is_key_name : List ℕ → Bool
is_key_name t = option_map_or (λ k. bytes_eq (key_name k) t) (key_of_rest t) false

-- the keys are keys, and no two are the same
abbrev pub keys_are_held : Told → Bool
keys_are_held t = list_all is_key_name t.keys && texts_differ t.keys

-- the counters are below 2^62
abbrev pub words_are_counted : Told → Bool
words_are_counted t = is_next t.run.drawn

abbrev pub frames_are_counted : Told → Bool
frames_are_counted t = is_next t.run.frame

-- and so are the numbers that are given next; that of an instance is not below the number of targets
abbrev pub next_are_counted : Basis → Told → Bool
next_are_counted b t =
    is_next t.run.next_thread && is_next t.run.next_instance && is_next t.run.devices.usage
    && nat_le (length (records_of b).targets) t.run.next_instance

-- Monitors

-- what is shown is a variable or list of the file
abbrev pub is_shown : Basis → Shown → Bool
is_shown b (Variable target index) = nat_lt index (length (record_at target (records_of b)).variables)
is_shown b (Items target index) = nat_lt index (length (record_at target (records_of b)).lists)

abbrev pub made_monitors_show : Basis → Told → Bool
made_monitors_show b t = list_all (λ m. is_shown b m.what) t.run.variables.made

-- as many truths as the file has monitors
abbrev pub monitors_are_counted : Basis → Told → Bool
monitors_are_counted b t = length t.run.variables.file_monitors == length (records_of b).monitors

-- Instances

-- the first instance is the stage
abbrev pub stage_is_first : Basis → Told → Bool
stage_is_first b t = option_map_or (λ i. is_on_stage i (records_of b)) (slice_get t.run.targets 0) false

-- each target has exactly one original
abbrev pub originals_are_there : Basis → Told → Bool
originals_are_there b t =
    list_all (λ k. length (filter (λ i. i.of == k && is_original i) t.run.targets) == 1) (range_with_len 0 (length (records_of b).targets))

-- a target of the file that is not the stage
abbrev pub is_sprite : Basis → ℕ → Bool
is_sprite b k = option_map_or (λ r. not r.is_stage) (slice_get (records_of b).targets k) false

-- a clone of a sprite: its number is not that of a target, and was given
abbrev pub is_clone : Basis → Told → Instance → Bool
is_clone b t i = is_sprite b i.of && nat_le (length (records_of b).targets) i.number && nat_lt i.number t.run.next_instance

-- every instance that is no original is a clone, with a number of its own
abbrev pub clones_are_sprites : Basis → Told → Bool
clones_are_sprites b t = list_all (λ i. is_original i && nat_lt i.of (length (records_of b).targets) || is_clone b t i) t.run.targets && differ (map (λ i. i.number) t.run.targets)

-- at most 300 clones
abbrev pub clones_are_few : Told → Bool
clones_are_few t = nat_le (length (filter (λ i. not (is_original i)) t.run.targets)) most_clones

-- every instance has one of its target's costumes
abbrev pub costumes_are_there : Basis → Told → Bool
costumes_are_there b t = list_all (λ i. nat_lt i.costume (length (record_of i (records_of b)).costumes)) t.run.targets

-- every size is from 0 to 10000
abbrev pub sizes_are_in_range : Told → Bool
sizes_are_in_range t = list_all (λ i. is_between (pos 0) (pos 10000000000) i.size) t.run.targets

-- every direction is from −179 to below 181
abbrev pub directions_are_in_range : Told → Bool
directions_are_in_range t = list_all (λ i. is_between (negsuc 178999999) (pos 180999999) i.direction) t.run.targets

-- every ghost is from 0 to 100, every brightness from −100 to 100
abbrev pub effect_is_between : ℕ → (low high : ℤ) → Instance → Bool
effect_is_between place low high i = option_map_or (is_between low high) (slice_get i.effects place) false

abbrev pub effects_are_in_range : Told → Bool
effects_are_in_range t =
    list_all (λ i. effect_is_between (effect_place Brightness) (negsuc 99999999) (pos 100000000) i && effect_is_between (effect_place Ghost) (pos 0) (pos 100000000) i) t.run.targets

-- the stage stands at 0, 0 in size 100 and direction 90, and is visible
abbrev pub is_as_the_stage : Instance → Bool
is_as_the_stage i =
    is_between (pos 0) (pos 0) i.x && is_between (pos 0) (pos 0) i.y && is_between (pos 100000000) (pos 100000000) i.size
    && is_between (pos 90000000) (pos 90000000) i.direction && i.visible

abbrev pub stage_is_in_place : Basis → Told → Bool
stage_is_in_place b t = list_all (λ i. not (is_on_stage i (records_of b)) || is_as_the_stage i) t.run.targets

-- every instance has its target's variables and lists
abbrev pub has_values : Basis → Told → Instance → Bool
has_values b t i =
    (length (store_at i.number t.run.variables.stores).values == length (record_of i (records_of b)).variables)
    && (length (store_at i.number t.run.variables.stores).lists == length (record_of i (records_of b)).lists)

abbrev pub variables_are_there : Basis → Told → Bool
variables_are_there b t = list_all (has_values b t) t.run.targets

-- a list has at most 200,000 items
abbrev pub lists_are_short : Told → Bool
lists_are_short t = list_all (λ s. list_all (λ items. nat_le (length items) most_items) s.lists) t.run.variables.stores

-- Texts: one that is a value has at most 1 MiB, that of a bubble at most 330 characters

abbrev pub is_value_text : List ℕ → Bool
is_value_text t = nat_le (length t) longest

abbrev pub is_short : Value → Bool
is_short (Text t) = is_value_text t
is_short v = true

abbrev pub answer_is_short : Told → Bool
answer_is_short t = is_value_text t.run.devices.answer

abbrev pub has_short_texts : Store → Bool
has_short_texts s = list_all is_short s.values && list_all (list_all is_short) s.lists

abbrev pub instances_say_little : Told → Bool
instances_say_little t =
    list_all (λ i. nat_le (char_count i.bubble.text) most_characters) t.run.targets && list_all has_short_texts t.run.variables.stores

abbrev pub questions_are_short : Told → Bool
questions_are_short t = list_all (λ q. is_value_text q.text) t.run.devices.questions

-- the values of the parameters of a call
abbrev pub values_kept : Kept → List Value
values_kept (Call params) = map (λ p. p.1) params
values_kept k = []

abbrev pub params_are_short : Told → Bool
params_are_short t = list_all (λ x. list_all (λ l. list_all is_short (values_kept l.kept)) x.levels) t.run.threads

-- Usages, edge hats, questions, timers

-- every update of a bubble has a number that was given
abbrev pub bubbles_were_updated : Told → Bool
bubbles_were_updated t = list_all (λ i. nat_lt i.bubble.usage t.run.devices.usage) t.run.targets

abbrev pub timers_were_updated : Told → Bool
timers_were_updated t = list_all (λ x. nat_lt x.usage t.run.devices.usage) t.run.devices.timers

-- what was recorded was recorded for edge hats of the instance's target
abbrev pub edges_are_hats : Basis → Told → Bool
edges_are_hats b t = list_all (λ i. list_all (λ e. is_edge i.of e.0 b) i.edges) t.run.targets

-- the instance is live, and the number of the thread was given
abbrev pub is_named : Told → (of thread : ℕ) → Bool
is_named t of thread = is_some (live of t.run.targets) && nat_lt thread t.run.next_thread

-- questions are of live instances and of threads that were there, one of a thread
abbrev pub questions_are_of_threads : Told → Bool
questions_are_of_threads t = list_all (λ q. is_named t q.of q.thread) t.run.devices.questions && differ (map (λ q. q.thread) t.run.devices.questions)

-- and so are timers
abbrev pub timers_are_of_threads : Told → Bool
timers_are_of_threads t = list_all (λ x. is_named t x.of x.thread) t.run.devices.timers && differ (map (λ x. x.thread) t.run.devices.timers)

-- a time that may come, or that never comes
abbrev pub is_due_time : Num → Bool
is_due_time (Fixed z) = int_le (pos 0) z
is_due_time Inf = true
is_due_time NegInf = false
is_due_time Nan = false

abbrev pub timers_come_due : Told → Bool
timers_come_due t = list_all (λ x. is_due_time x.due) t.run.devices.timers

-- Threads

-- the target of a thread
abbrev pub target_of : Told → SavedThread → ℕ
target_of t x = (instance_at x.of t.run.targets).of

-- its instance is live, its hat heads a script of the target, and its number was given
abbrev pub is_of_hat : Basis → Told → SavedThread → Bool
is_of_hat b t x = is_named t x.of x.serial && is_hat (target_of t x) x.hat b

-- no two threads have one number
abbrev pub threads_are_of_hats : Basis → Told → Bool
threads_are_of_hats b t = list_all (is_of_hat b t) t.run.threads && differ (map (λ x. x.serial) t.run.threads)

-- a level names a block of the target, or none
abbrev pub is_in_target : ℕ → SavedLevel → Bool
is_in_target count l = option_map_or (λ k. nat_lt k count) l.block true

abbrev pub levels_are_of_blocks : Basis → Told → Bool
levels_are_of_blocks b t = list_all (λ x. list_all (is_in_target (blocks_of (target_of t x) b)) x.levels) t.run.threads

-- the numbers of the threads that were started
abbrev pub serials_kept : Kept → List ℕ
serials_kept (Started serials) = serials
serials_kept k = []

-- who was started has a number that was given
abbrev pub started_were_there : Told → Bool
started_were_there t = list_all (λ x. list_all (λ l. list_all (λ n. nat_lt n t.run.next_thread) (serials_kept l.kept)) x.levels) t.run.threads

-- all threads together have at most 65,536 levels
abbrev pub levels_are_few : Told → Bool
levels_are_few t = nat_le (sum_by (λ x. length x.levels) t.run.threads) most_levels

-- All of them

-- a test, and the member that it is of
pub record Rule : Type 0 where
  pub member : List ℕ
  pub holds : Bool

abbrev pub rule : List ℕ → Bool → Rule
rule member holds = record { member = member; holds = holds }

-- the rules in the order in which they are tested; one of several members is tested for each, in their order
unfoldable pub rules : Basis → Told → List Rule
rules b t =
    rule (codes "clock") (clock_is_in_range t)
    ∷ rule (codes "timer") (timer_was_reset t)
    ∷ rule (codes "mouse") (mouse_is_on_stage t)
    ∷ rule (codes "keys") (keys_are_held t)
    ∷ rule (codes "drawn") (words_are_counted t)
    ∷ rule (codes "frame") (frames_are_counted t)
    ∷ rule (codes "next") (next_are_counted b t)
    ∷ rule (codes "made") (made_monitors_show b t)
    ∷ rule (codes "monitors") (monitors_are_counted b t)
    ∷ rule (codes "instances") (stage_is_first b t)
    ∷ rule (codes "instances") (originals_are_there b t)
    ∷ rule (codes "instances") (clones_are_sprites b t)
    ∷ rule (codes "instances") (clones_are_few t)
    ∷ rule (codes "instances") (costumes_are_there b t)
    ∷ rule (codes "instances") (sizes_are_in_range t)
    ∷ rule (codes "instances") (directions_are_in_range t)
    ∷ rule (codes "instances") (effects_are_in_range t)
    ∷ rule (codes "instances") (stage_is_in_place b t)
    ∷ rule (codes "instances") (variables_are_there b t)
    ∷ rule (codes "instances") (lists_are_short t)
    ∷ rule (codes "answer") (answer_is_short t)
    ∷ rule (codes "instances") (instances_say_little t)
    ∷ rule (codes "questions") (questions_are_short t)
    ∷ rule (codes "threads") (params_are_short t)
    ∷ rule (codes "instances") (bubbles_were_updated t)
    ∷ rule (codes "timers") (timers_were_updated t)
    ∷ rule (codes "instances") (edges_are_hats b t)
    ∷ rule (codes "questions") (questions_are_of_threads t)
    ∷ rule (codes "timers") (timers_are_of_threads t)
    ∷ rule (codes "timers") (timers_come_due t)
    ∷ rule (codes "threads") (threads_are_of_hats b t)
    ∷ rule (codes "threads") (levels_are_of_blocks b t)
    ∷ rule (codes "threads") (started_were_there t)
    ∷ rule (codes "threads") (levels_are_few t)
    ∷ []

-- the member of the first rule that is broken
abbrev pub broken : Basis → Told → Option (List ℕ)
broken b t = option_map (λ r. r.member) (find (λ r. not r.holds) (rules b t))
