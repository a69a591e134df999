-- What single changes of a scene leave of the devices.
use Rattle.std.proofs.Common.{◌≡◌, ℕ, zero, suc, ◌==◌, Bool, true, false, if◌then◌else◌, cond, List, [], ◌∷◌, length, filter, Some, None, is_some, refl, sym, ap, ◌∙◌, arith}
use Rattle.std.specs.Prelude.{◌<◌, ◌≤◌, ◌+◌, nat_lt, slice_get, find, remove, unwrap_or, not}
use Rattle.std.specs.List.{position_or_len}
use Rattle.std.proofs.lemmas.List.Folds.{find_at, find-set}
use Rattle.std.proofs.lemmas.Bool.Decides.{nat_tests}
use Rattle.std.proofs.lemmas.Option.{slice_get_within}
use Rattle.script_words.specs.declared.stops.CounterKind.{CounterKind}
use Rattle.script_words.specs.declared.stops.CounterKind.TheVariants as counter
use Rattle.machine_spec.specs.declared.bubble.Say.{Say}
use Rattle.machine_spec.specs.declared.bubble.Say.TheVariants as say
use Rattle.machine_spec.specs.declared.devices.BubbleTimer.{BubbleTimer}
use Rattle.machine_spec.specs.declared.devices.Question.{Question}
use Rattle.machine_spec.specs.declared.instance.Instance.{Instance}
use Rattle.machine_spec.specs.BubbleText.{cut}
use Rattle.machine_spec.specs.ControlRows.{question_shown}
use Rattle.machine_spec.specs.Lists.{set_some, changed_at_some}
use Rattle.machine_spec.specs.Outcome.{Outcome, Goes, Spent, IfGoes, with_number, last_number}
use Rattle.machine_spec.specs.Parts.{Scene, bubble_set, bubble_updated}
use Rattle.machine_spec.specs.Stopping.{bubble_emptied, first_taken, is_first_of, without_questions, questions_dropped}
use Rattle.machine_spec.specs.Stores.{Devices, live, instance_at, on_instance, no_instance}
use Rattle.laws_of_threads.specs.Instances.{Hosts}
use Rattle.laws_of_threads.specs.Lists.{Each}
use Rattle.laws_of_threads.proofs.Faces.{Found, found}
use Rattle.laws_of_threads.proofs.Numbers.{clash, each_map, equal_true}
use Rattle.laws_of_threads.proofs.RowFits.{goes_then}
use Rattle.laws_of_devices.specs.Devices.{AreDevices, IsTimer}

pub either : {A : Type 0} (P : A → Type 0) (b : Bool) (x y : A) → P x → P y → P (if b then x else y)
either P true x y h k = h
either P false x y h k = k

-- Counters

number_by : {A : Type 0} (c : Bool) (which : CounterKind) (next : ℕ) (o : Outcome A) (P : A → Type 0) → (next == last_number) ≡ c → ((next ≡ last_number → ⊥) → IfGoes o P) → IfGoes (if c then Spent which else o) P
number_by true which next o P e f = tt
number_by false which next o P e f = f (λ same. clash (next == last_number) (equal_true next last_number same) e)

number_given : {A : Type 0} (which : CounterKind) (next : ℕ) (o : Outcome A) (P : A → Type 0) → ((next ≡ last_number → ⊥) → IfGoes o P) → IfGoes (with_number which next o) P
number_given which next o P f = number_by (next == last_number) which next o P refl f

pub one_more : (n : ℕ) → n ≤ last_number → (n ≡ last_number → ⊥) → n + 1 ≤ last_number
one_more n h none = omega arith

-- Devices that are alike but for what no number counts, and with fewer timers

pub with_rest : (d : Devices) (answer : List ℕ) (button turbo : Bool) (questions : List Question) → AreDevices d → AreDevices (record d { answer = answer; button = button; turbo = turbo; questions = questions })
with_rest d answer button turbo questions h = record { clock = h.clock; timer = h.timer; mouse_x = h.mouse_x; mouse_y = h.mouse_y; keys = h.keys; differ = h.differ; timers = h.timers; usage = h.usage }

pub with_timers : (d : Devices) (ts : List BubbleTimer) → Each (IsTimer d.usage) ts → AreDevices d → AreDevices (record d { timers = ts })
with_timers d ts t h = record { clock = h.clock; timer = h.timer; mouse_x = h.mouse_x; mouse_y = h.mouse_y; keys = h.keys; differ = h.differ; timers = t; usage = h.usage }

pub with_usage : (d : Devices) → (d.usage ≡ last_number → ⊥) → AreDevices d → AreDevices (record d { usage = d.usage + 1 })
with_usage d none h = record {
  clock = h.clock;
  timer = h.timer;
  mouse_x = h.mouse_x;
  mouse_y = h.mouse_y;
  keys = h.keys;
  differ = h.differ;
  timers = each_map (IsTimer d.usage) (IsTimer (d.usage + 1)) d.timers (λ t k. record { updated = let b = k.updated in omega arith; due = k.due }) h.timers;
  usage = one_more d.usage h.usage none;
}

pub each_removed : {A : Type 0} (P : A → Type 0) (xs : List A) (k : ℕ) → Each P xs → Each P (remove xs k)
each_removed P [] zero h = h
each_removed P [] (suc k) h = h
each_removed P (x ∷ xs) zero h = h.1
each_removed P (x ∷ xs) (suc k) h = (h.0, each_removed P xs k h.1)

-- Bubbles

abbrev pub Kept : Scene → Type 0
Kept s = AreDevices s.devices

updated_by : (b : Bool) (n : ℕ) (kind : Say) (text : List ℕ) (s : Scene) → Kept s → IfGoes (if b then with_number counter.Bubble s.devices.usage (Goes (bubble_set n kind text s)) else Goes s) Kept
updated_by true n kind text s h = number_given counter.Bubble s.devices.usage (Goes (bubble_set n kind text s)) Kept (λ none. with_usage s.devices none h)
updated_by false n kind text s h = h

pub updated_kept : (n : ℕ) (kind : Say) (text : List ℕ) (s : Scene) → Kept s → IfGoes (bubble_updated n kind text s) Kept
updated_kept n kind text s h = updated_by (is_some (live n s.targets)) n kind text s h

pub shown_kept : (qs : List Question) (s : Scene) → Kept s → IfGoes (question_shown qs s) Kept
shown_kept [] s h = h
shown_kept (q ∷ qs) s h = either (λ o. IfGoes o Kept) q.bubble _ _ (updated_kept q.of say.Say (cut q.text) s h) h

pub emptied_kept : (n : ℕ) (s : Scene) → Kept s → IfGoes (bubble_emptied n s) Kept
emptied_kept n s h = updated_kept n (instance_at n s.targets).bubble.kind [] s h

pub taken_kept : (emptied : Bool) (n : ℕ) (s : Scene) → Kept s → IfGoes (first_taken emptied n s) Kept
taken_kept emptied n s h = goes_then (if emptied then bubble_emptied n s else Goes s) _ Kept Kept
    (either (λ o. IfGoes o Kept) emptied _ _ (emptied_kept n s h) h) (λ v k. shown_kept v.devices.questions v k)

pub dropped_kept : (n : ℕ) (s : Scene) → Kept s → IfGoes (questions_dropped n s) Kept
dropped_kept n s h =
    let g : Kept (without_questions n s) = with_rest s.devices s.devices.answer s.devices.button s.devices.turbo (filter (λ q. not (q.of == n)) s.devices.questions) h in
    either (λ o. IfGoes o Kept) (is_first_of n s.devices.questions) _ _ (taken_kept true n (without_questions n s) g) g

-- The bubble of an instance that is live

changed_by : (c : Bool) (n : ℕ) (f : Instance → Instance) (is : List Instance) (x : Instance) (k : ℕ) → k ≡ position_or_len (λ i. i.number == n) is → nat_lt k (length is) ≡ c → slice_get is k ≡ Some x → ((f x).number == n) ≡ true
    → find (λ i. i.number == n) (changed_at_some f (cond c (Some k) None) is) ≡ Some (f x)
changed_by true n f is x k p e g same =
    let less : k < length is = slice_get_within is k x g in
    ap (λ o. find (λ i. i.number == n) (set_some o f k is)) g ∙ find-set (λ i. i.number == n) is k (f x) p less same
changed_by false n f is x k p e g same = let less : k < length is = slice_get_within is k x g in absurd (grind (arith, nat_tests))

changed_live : (n : ℕ) (f : Instance → Instance) (is : List Instance) (x : Instance) → live n is ≡ Some x → ((f x).number == n) ≡ true → live n (on_instance n f is) ≡ Some (f x)
changed_live n f is x e same = changed_by (nat_lt (position_or_len (λ i. i.number == n) is) (length is)) n f is x (position_or_len (λ i. i.number == n) is) refl refl (sym (find_at (λ i. i.number == n) is) ∙ e) same

-- its usage is below the counter
pub record Said (n : ℕ) (s : Scene) : Type 0 where
  pub kept : Kept s
  pub usage : (instance_at n s.targets).bubble.usage < s.devices.usage

said_by : (b : Bool) (n : ℕ) (kind : Say) (text : List ℕ) (s : Scene) (r : Found n s.targets (live n s.targets)) → is_some (live n s.targets) ≡ b → Kept s
    → IfGoes (if b then with_number counter.Bubble s.devices.usage (Goes (bubble_set n kind text s)) else Goes s) (Said n)
said_by true n kind text s r e h = number_given counter.Bubble s.devices.usage (Goes (bubble_set n kind text s)) (Said n)
    (λ none. record {
      kept = with_usage s.devices none h;
      usage =
          let f : Instance → Instance = λ i. record i { bubble = record { kind = kind; text = text; usage = s.devices.usage } } in
          let l = changed_live n f s.targets r.x r.is_it (equal_true r.x.number n r.number) in
          let u : (instance_at n (on_instance n f s.targets)).bubble.usage ≡ s.devices.usage = ap (λ o. (unwrap_or o no_instance).bubble.usage) l in
          omega (arith, u);
    })
said_by false n kind text s r e h = absurd (let t : is_some (live n s.targets) ≡ true = ap (λ o. is_some o) r.is_it in clash (is_some (live n s.targets)) t e)

pub said_kept : (n target : ℕ) (kind : Say) (text : List ℕ) (s : Scene) → Hosts n target s.targets → Kept s → IfGoes (bubble_updated n kind text s) (Said n)
said_kept n target kind text s g h = said_by (is_some (live n s.targets)) n kind text s (found n target s.targets g) refl h
