-- The rules on the clock, the devices, the counters and the monitors hold of a legal world.
use Rattle.std.proofs.Common.{◌≡◌, ℕ, ◌<◌, ◌≤◌, Bool, true, false, not, ◌&&◌, ◌||◌, List, [], ◌∷◌, map, Option, Some, None, is_some, refl, sym, ap, subst, arith}
use Rattle.std.specs.Prelude.{nat_lt, bytes_eq}
use Rattle.std.specs.List.{list_any, list_all}
use Rattle.std.specs.Option.{option_map_or}
use Rattle.scratch_number.specs.declared.number.Num.{Num}
use Rattle.scratch_number.specs.declared.number.Num.TheVariants.{Fixed, Inf, NegInf, Nan}
use Rattle.machine_spec.specs.declared.devices.Key.{Key}
use Rattle.machine_spec.specs.declared.instance.Instance.{Instance}
use Rattle.machine_spec.specs.declared.variables.Shown.{Shown}
use Rattle.machine_spec.specs.declared.variables.Shown.TheVariants.{Variable, List as Items}
use Rattle.machine_spec.specs.Line.{key_name}
use Rattle.machine_spec.specs.Outcome.{last_number}
use Rattle.machine_spec.specs.ScriptText.{key_of_rest}
use Rattle.machine_spec.specs.Stores.{live}
use Rattle.machine_spec.specs.Tasks.{Task}
use Rattle.machine_spec.specs.World.{World}
use Rattle.laws_of_threads.specs.GoodLines.{IsNamedKey}
use Rattle.laws_of_threads.specs.Lists.{Each}
use Rattle.laws_of_threads.specs.Promises.{Serials, IsLive}
use Rattle.laws_of_threads.proofs.Faces.{found, number_hosts}
use Rattle.laws_of_devices.specs.Devices.{IsDue, IsTimer, KeysDiffer}
use Rattle.laws_of_variables.specs.Variables.{IsThere}
use Rattle.saved_spec.specs.Ranges.{IsRun, IsTask, IsQuestion}
use Rattle.saved_spec.specs.Saved.{snapshot}
use Rattle.project_spec.specs.Basis.{Basis, records_of}
use Rattle.saved_spec.specs.Legal.{told}
use Rattle.saved_spec.specs.RunShapes.{Told}
use Rattle.saved_spec.specs.Rules as rules
use Rattle.laws_of_worlds.specs.Runs.{IsLegalRun}
use Rattle.laws_of_saving.proofs.Tests.{both_true, not_true, less_true, least_true, same_true, text_true, each_of, each_both, all_true, all_map_true, differ_true}

-- keys

key_is : (k : Key) (o : Option Key) → o ≡ Some k → option_map_or (λ other. bytes_eq (key_name other) (key_name k)) o false ≡ true
key_is k None e = absurd (cc e)
key_is k (Some other) e = let same : other ≡ k = cc in subst (λ x. bytes_eq (key_name x) (key_name k) ≡ true) (sym same) (text_true (key_name k))

other_keys : (k : Key) (ks : List Key) → Each (λ other. bytes_eq (key_name k) (key_name other) ≡ false) ks → list_any (bytes_eq (key_name k)) (map key_name ks) ≡ false
other_keys k [] h = refl
other_keys k (x ∷ ks) h = none_of (bytes_eq (key_name k) (key_name x)) (list_any (bytes_eq (key_name k)) (map key_name ks)) h.0 (other_keys k ks h.1)
  where
    none_of : (a b : Bool) → a ≡ false → b ≡ false → (a || b) ≡ false
    none_of true b e f = absurd (cc e)
    none_of false b e f = f

keys_differ : (ks : List Key) → KeysDiffer ks → rules.texts_differ (map key_name ks) ≡ true
keys_differ [] h = refl
keys_differ (k ∷ ks) h = both_true (not (list_any (bytes_eq (key_name k)) (map key_name ks))) (rules.texts_differ (map key_name ks))
    (not_true (list_any (bytes_eq (key_name k)) (map key_name ks)) (other_keys k ks h.0)) (keys_differ ks h.1)

-- monitors

shown_there : (b : Basis) (what : Shown) → IsThere (records_of b) what → rules.is_shown b what ≡ true
shown_there b (Variable target index) h = less_true _ _ h
shown_there b (Items target index) h = less_true _ _ h

-- questions and timers

due_time : (n : Num) → IsDue n → rules.is_due_time n ≡ true
due_time (Fixed z) h = h
due_time Inf h = refl
due_time NegInf h = absurd h
due_time Nan h = absurd h

pub is_live : (n : ℕ) (is : List Instance) → IsLive is n → is_some (live n is) ≡ true
is_live n is h = let g = number_hosts n is h in let f = found n g.0 is g.1 in ap (λ o. is_some o) f.is_it

each_numbered : {A : Type 0} (number : A → ℕ) (P : ℕ → Type 0) (xs : List A) → Each P (map number xs) → Each (λ x. P (number x)) xs
each_numbered number P [] h = tt
each_numbered number P (x ∷ xs) h = (h.0, each_numbered number P xs h.1)

named_all : {A : Type 0} (of thread : A → ℕ) (t : Told) (xs : List A) → Each (λ x. IsLive t.run.targets (of x)) xs → Serials t.run.next_thread (map thread xs)
    → (list_all (λ x. rules.is_named t (of x) (thread x)) xs && rules.differ (map thread xs)) ≡ true
named_all of thread t xs live given = both_true _ _
    (all_true (λ x. IsLive t.run.targets (of x) × (thread x < t.run.next_thread)) (λ x. rules.is_named t (of x) (thread x)) xs
    (λ x h. both_true _ _ (is_live (of x) t.run.targets h.0) (less_true (thread x) t.run.next_thread h.1))
    (each_both _ _ xs live (each_numbered thread (λ n. n < t.run.next_thread) xs given.given)))
    (differ_true (map thread xs) given.differ)

-- The rules

module _ (b : Basis) (seed : ℕ) (digest : List ℕ) (w : World Task) (h : IsLegalRun b.program seed w) (ranges : IsRun IsTask (snapshot digest seed w)) where
  abbrev tells : Told
  tells = told (snapshot digest seed w)

  pub clock_in_range : rules.clock_is_in_range tells ≡ true
  clock_in_range = least_true w.devices.clock _ h.devices.devices.clock

  pub timer_reset : rules.timer_was_reset tells ≡ true
  timer_reset = least_true w.devices.timer w.devices.clock h.devices.devices.timer

  pub mouse_on_stage : rules.mouse_is_on_stage tells ≡ true
  mouse_on_stage = both_true _ _ (least_true _ _ h.devices.devices.mouse_x) (least_true _ _ h.devices.devices.mouse_y)

  pub keys_held : rules.keys_are_held tells ≡ true
  keys_held = both_true _ _
      (all_map_true IsNamedKey key_name rules.is_key_name w.devices.keys (λ k named. key_is k (key_of_rest (key_name k)) named) h.devices.devices.keys)
      (keys_differ w.devices.keys h.devices.devices.differ)

  counted : (n : ℕ) → n ≤ last_number → rules.is_next n ≡ true
  counted n l = less_true n rules.last_next (omega arith)

  pub words_counted : rules.words_are_counted tells ≡ true
  words_counted = counted w.words.drawn h.instances.words.counted

  pub frames_counted : rules.frames_are_counted tells ≡ true
  frames_counted = counted w.frame h.devices.frames

  pub next_counted : rules.next_are_counted b tells ≡ true
  next_counted = both_true _ _ (both_true _ _ (both_true _ _ (counted w.next_thread h.devices.threads) (counted w.next_instance h.devices.instances)) (counted w.devices.usage h.devices.devices.usage))
      (least_true _ _ h.devices.targets)

  pub made_show : rules.made_monitors_show b tells ≡ true
  made_show = all_true (λ m. IsThere (records_of b) m.what) (λ m. rules.is_shown b m.what) w.variables.made (λ m l. shown_there b m.what l) h.variables.made

  pub monitors_counted : rules.monitors_are_counted b tells ≡ true
  monitors_counted = same_true _ _ h.variables.monitors

  pub answer_short : rules.answer_is_short tells ≡ true
  answer_short = least_true _ _ ranges.devices.answer.1

  pub questions_short : rules.questions_are_short tells ≡ true
  questions_short = all_true IsQuestion (λ q. rules.is_value_text q.text) w.devices.questions (λ q k. least_true _ _ k.text.1) (each_of IsQuestion w.devices.questions ranges.devices.questions)

  pub timers_updated : rules.timers_were_updated tells ≡ true
  timers_updated = all_true (IsTimer w.devices.usage) (λ x. nat_lt x.usage w.devices.usage) w.devices.timers (λ x k. less_true _ _ k.updated) h.devices.devices.timers

  pub timers_due : rules.timers_come_due tells ≡ true
  timers_due = all_true (IsTimer w.devices.usage) (λ x. rules.is_due_time x.due) w.devices.timers (λ x k. due_time x.due k.due) h.devices.devices.timers

  pub questions_of_threads : rules.questions_are_of_threads tells ≡ true
  questions_of_threads = named_all (λ q. q.of) (λ q. q.thread) tells w.devices.questions h.threads.sound.askers_live h.threads.sound.asking

  pub timers_of_threads : rules.timers_are_of_threads tells ≡ true
  timers_of_threads = named_all (λ x. x.of) (λ x. x.thread) tells w.devices.timers h.threads.sound.speakers_live h.threads.sound.speaking
