-- The rows of control, events, procedures and sensing, and those of data.
use Rattle.std.proofs.Common.{sym, subst, ◌≡◌, ℕ, zero, suc, Bool, true, false, not, if◌then◌else◌, ◌||◌, List, [], ◌∷◌, ◌++◌, length, Option, Some, None, inl, inr, refl, ap, ◌∙◌, arith}
use Rattle.std.specs.Prelude.{pos, negsuc, bytes_eq, codes, ◌<◌, position, ◌&&◌}
use Rattle.std.proofs.lemmas.List.Quantifiers.{position-Some}
use Rattle.opcode_table.specs.declared.opcode.Opcode.{Opcode}
use Rattle.opcode_table.specs.declared.opcode.Opcode.TheVariants.{ControlForever, ControlRepeat, ControlRepeatUntil, ControlIf, ControlIfElse, ControlWait, ControlWaitUntil, ControlStop, ControlCreateCloneOf, ControlDeleteThisClone, EventBroadcast, EventBroadcastAndWait, ProceduresCall, SensingAskAndWait, SensingResetTimer}
use Rattle.opcode_table.specs.declared.kinds.Kind.{Kind}
use Rattle.opcode_table.specs.declared.kinds.Kind.TheVariants.{Endless, Choice, Counted, Calls, Waits, Starts, Asks}
use Rattle.opcode_table.specs.Kinds.{kind}
use Rattle.scratch_number.specs.declared.number.Num.{Num}
use Rattle.scratch_values.specs.Named.{Arguments}
use Rattle.machine_spec.specs.declared.devices.Question.{Question}
use Rattle.machine_spec.specs.declared.threads.Count.{Count}
use Rattle.machine_spec.specs.declared.threads.Count.TheVariants.{Whole, Infinite}
use Rattle.machine_spec.specs.declared.threads.WaitState.{WaitState}
use Rattle.machine_spec.specs.declared.threads.Context.{Context}
use Rattle.machine_spec.specs.declared.threads.Context.TheVariants.{Fresh, Wait, Started, Called}
use Rattle.machine_spec.specs.declared.threads.Control.TheVariants.{Next, Yield, StopThis, StopOthers, StopAll, Clone}
use Rattle.machine_spec.specs.Outcome.{IfGoes}
use Rattle.machine_spec.specs.Program.{Program, Records, Procedure, procedure, sprite_named}
use Rattle.machine_spec.specs.Threads.{Listed, among}
use Rattle.machine_spec.specs.Stores.{instance_at, elapsed, less}
use Rattle.machine_spec.specs.Legal.{Keeps}
use Rattle.machine_spec.specs.View.{Row, number_at, text_at, truth_at, field_at}
use Rattle.machine_spec.specs.Parts.{Scene}
use Rattle.machine_spec.specs.ControlRows.{only, branch_if, turns_left, repeat_row, wait_row, clone_some, broadcast_and_wait, call_some, call_row, question_shown, asked, ask_row, question, control_row}
use Rattle.laws_of_threads.specs.Positions.{Brings, KeptWell}
use Rattle.laws_of_threads.specs.Promises.{askers, IsLive}
use Rattle.laws_of_threads.proofs.Numbers.{each_append}
use Rattle.laws_of_threads.proofs.Faces.{faces_same}
use Rattle.laws_of_threads.proofs.RowFits.{RowFits, goes_then}
use Rattle.laws_of_threads.proofs.Calm.{Calm, shown_calm, map_last}
use Rattle.laws_of_threads.proofs.Naming.{params-fit}
use Rattle.laws_of_threads.proofs.Times.{from_zero_least, from_zero_again}
use Rattle.laws_of_threads.proofs.LooksFits.{wait_fits, started_noted, started_clone}

-- each parameter has an id, a name and a default
abbrev pub IsNamed : Option Procedure → Type 0
IsNamed None = Unit {0}
IsNamed (Some q) = (length q.ids ≡ length q.names) × (length q.names ≡ length q.defaults)

place_within : {A : Type 0} (test : A → Bool) (xs : List A) (n : ℕ) → position test xs ≡ Some n → n < length xs
place_within test [] n f = absurd (cc f)
place_within test (y ∷ ys) n f = (position-Some test (y ∷ ys) n y f).0

module _ (records : Records) (here thread next : ℕ) (q : Option Procedure) where
  abbrev pub SceneFits : Kind → Scene → Row Scene → Type 0
  SceneFits k s r = RowFits records here thread next k q s r.parts r.context r.control

  next_fits : (k : Kind) (s : Scene) → SceneFits k s (only Fresh Next s)
  next_fits k s = record { faces = faces_same s.targets; clock = refl; noted = (refl, refl, (λ is h. h), (λ is h. h)); control = tt; clone = tt }

  loop_by : (b : Bool) (k : Kind) (s : Scene) → k ≡ Endless → SceneFits k s (only Fresh (branch_if b true) s)
  loop_by true k s e = record { faces = faces_same s.targets; clock = refl; noted = (refl, refl, (λ is h. h), (λ is h. h)); control = e; clone = tt }
  loop_by false k s e = next_fits k s

  choice_by : (b : Bool) (k : Kind) (s : Scene) → k ≡ Choice → SceneFits k s (only Fresh (branch_if b false) s)
  choice_by true k s e = record { faces = faces_same s.targets; clock = refl; noted = (refl, refl, (λ is h. h), (λ is h. h)); control = e; clone = tt }
  choice_by false k s e = next_fits k s

  repeat_fits : (k : Kind) (n : Count) (s : Scene) → k ≡ Counted → SceneFits k s (repeat_row n s)
  repeat_fits k Infinite s e = record { faces = faces_same s.targets; clock = refl; noted = (refl, refl, (λ is h. h), (λ is h. h)); control = e; clone = tt }
  repeat_fits k (Whole (pos zero)) s e = next_fits k s
  repeat_fits k (Whole (pos (suc n))) s e = record { faces = faces_same s.targets; clock = refl; noted = (refl, refl, (λ is h. h), (λ is h. h)); control = e; clone = tt }
  repeat_fits k (Whole (negsuc n)) s e = next_fits k s

  waits_by : (b : Bool) (k : Kind) (x : WaitState) (s : Scene) → Keeps s.devices.clock k (Wait x) → KeptWell next (Wait x) → SceneFits k s (if b then only (Wait x) Yield s else only Fresh Next s)
  waits_by true k x s h l = record { faces = faces_same s.targets; clock = refl; noted = (refl, refl, (λ is h. h), (λ is h. h)); control = (h, refl, l); clone = tt }
  waits_by false k x s h l = next_fits k s

  wait_fits_row : (k : Kind) (c : Context) (n : Num) (s : Scene) → k ≡ Waits → Brings s.devices.clock k c → KeptWell next c → SceneFits k s (wait_row c n s)
  wait_fits_row k (Wait x) n s e h l = waits_by (less (elapsed x.start s.devices) x.duration) k x s h l
  wait_fits_row k c n s e h l = record { faces = faces_same s.targets; clock = refl; noted = (refl, refl, (λ is h. h), (λ is h. h)); control = ((e, omega arith, from_zero_least n), refl, from_zero_again n); clone = tt }

  until_by : (b : Bool) (k : Kind) (s : Scene) → SceneFits k s (only Fresh (if b then Next else Yield) s)
  until_by true k s = next_fits k s
  until_by false k s = record { faces = faces_same s.targets; clock = refl; noted = (refl, refl, (λ is h. h), (λ is h. h)); control = (tt, refl, tt); clone = tt }

  others_by : (b : Bool) (k : Kind) (s : Scene) → SceneFits k s (only Fresh (if b then StopOthers else Next) s)
  others_by true k s = record { faces = faces_same s.targets; clock = refl; noted = (refl, refl, (λ is h. h), (λ is h. h)); control = tt; clone = tt }
  others_by false k s = next_fits k s

  this_by : (b c : Bool) (k : Kind) (s : Scene) → SceneFits k s (only Fresh (if b then StopThis else (if c then StopOthers else Next)) s)
  this_by true c k s = record { faces = faces_same s.targets; clock = refl; noted = (refl, refl, (λ is h. h), (λ is h. h)); control = tt; clone = tt }
  this_by false c k s = others_by c k s

  stop_by : (b c d : Bool) (k : Kind) (s : Scene) → SceneFits k s (only Fresh (if b then StopAll else (if c then StopThis else (if d then StopOthers else Next))) s)
  stop_by true c d k s = record { faces = faces_same s.targets; clock = refl; noted = (refl, refl, (λ is h. h), (λ is h. h)); control = tt; clone = tt }
  stop_by false c d k s = this_by c d k s

  clone_some_fits : (k : Kind) (o : Option ℕ) (s : Scene) → ((n : ℕ) → o ≡ Some n → n < length records.targets) → SceneFits k s (only Fresh (clone_some o) s)
  clone_some_fits k None s h = next_fits k s
  clone_some_fits k (Some n) s h = record { faces = faces_same s.targets; clock = refl; noted = (refl, refl, (λ is h. h), (λ is h. h)); control = tt; clone = inr (h n refl) }

  clone_by : (b : Bool) (k : Kind) (name : List ℕ) (s : Scene) → SceneFits k s (only Fresh (if b then Clone here else clone_some (sprite_named name records)) s)
  clone_by true k name s = record { faces = faces_same s.targets; clock = refl; noted = (refl, refl, (λ is h. h), (λ is h. h)); control = tt; clone = inl refl }
  clone_by false k name s = clone_some_fits k (sprite_named name records) s (λ n e. place_within (λ t. not t.is_stage && bytes_eq t.name name) records.targets n e)

  broadcast_fits : (k : Kind) (ts : List Listed) (c : Context) (message : List ℕ) (s : Scene) → k ≡ Starts → Brings s.devices.clock k c → KeptWell next c → SceneFits k s (broadcast_and_wait ts c message s)
  broadcast_fits k ts (Started serials) message s e h l = record { faces = faces_same s.targets; clock = refl; noted = started_noted here thread serials (among ts serials) s.devices; control = wait_fits s.devices.clock next k q serials (among ts serials) h l; clone = started_clone records here (among ts serials) }
  broadcast_fits k ts c message s e h l = record { faces = faces_same s.targets; clock = refl; noted = (refl, refl, (λ is h. h), (λ is h. h)); control = e; clone = tt }

  ask_fits : (k : Kind) (x : Question) (qs : List Question) (s : Scene) → k ≡ Asks → x.thread ≡ thread → x.of ≡ here → IfGoes (ask_row x qs s) (SceneFits k s)
  ask_fits k x [] s e t o = goes_then (question_shown (x ∷ []) (asked x s)) _ (Calm (asked x s)) (SceneFits k s) (shown_calm (x ∷ []) (asked x s))
      (λ v h. record {
        faces = h.faces;
        clock = h.clock;
        noted = (h.quiet.0 ∙ map_last (λ y. y.thread) s.devices.questions x ∙ ap (λ n. askers s.devices ++ n ∷ []) t, h.quiet.1, (λ is live k. h.quiet.2 is (each_append (λ q. IsLive is q.of) s.devices.questions (x ∷ []) k (subst (IsLive is) (sym o) live, tt))), h.quiet.3);
        control = (e, refl);
        clone = tt;
      })
  ask_fits k x (first ∷ qs) s e t o = record {
    faces = faces_same s.targets;
    clock = refl;
    noted = (map_last (λ y. y.thread) s.devices.questions x ∙ ap (λ n. askers s.devices ++ n ∷ []) t, refl, (λ is live k. each_append (λ q. IsLive is q.of) s.devices.questions (x ∷ []) k (subst (IsLive is) (sym o) live, tt)), (λ is k. k));
    control = (e, refl);
    clone = tt;
  }

call_some_fits : (records : Records) (here thread next : ℕ) (k : Kind) (q : Option Procedure) (a : Arguments) (s : Scene) → k ≡ Calls → IsNamed q → SceneFits records here thread next q k s (call_some q a s)
call_some_fits records here thread next k None a s e h = next_fits records here thread next None k s
call_some_fits records here thread next k (Some q) a s e h = record { faces = faces_same s.targets; clock = refl; noted = (refl, refl, (λ is h. h), (λ is h. h)); control = (e, params-fit q a h.0 h.1); clone = tt }

call_fits : (records : Records) (here thread next : ℕ) (k : Kind) (q : Option Procedure) (c : Context) (a : Arguments) (s : Scene) → k ≡ Calls → IsNamed q → SceneFits records here thread next q k s (call_row c q a s)
call_fits records here thread next k q Called a s e h = next_fits records here thread next q k s
call_fits records here thread next k q c a s e h = call_some_fits records here thread next k q a s e h

module _ (p : Program) (here thread next : ℕ) where
  abbrev pub RowFitsAt : Opcode → List ℕ → Scene → Row Scene → Type 0
  RowFitsAt op code s r = SceneFits p.records here thread next (procedure (instance_at here s.targets).of code p) (kind op) s r

  pub control_fits : (ts : List Listed) (op : Opcode) (code : List ℕ) (a : Arguments) (c : Context) (s : Scene) → Brings s.devices.clock (kind op) c → KeptWell next c → IsNamed (procedure (instance_at here s.targets).of code p)
      → IfGoes (control_row p ts op code a here thread c s) (RowFitsAt op code s)
  control_fits ts ControlForever code a c s h l n = loop_by p.records here thread next _ true Endless s refl
  control_fits ts ControlRepeat code a c s h l n = repeat_fits p.records here thread next _ Counted (turns_left c (number_at (codes "TIMES") a)) s refl
  control_fits ts ControlRepeatUntil code a c s h l n = loop_by p.records here thread next _ (not (truth_at (codes "CONDITION") a)) Endless s refl
  control_fits ts ControlIf code a c s h l n = choice_by p.records here thread next _ (truth_at (codes "CONDITION") a) Choice s refl
  control_fits ts ControlIfElse code a c s h l n = record { faces = faces_same s.targets; clock = refl; noted = (refl, refl, (λ is h. h), (λ is h. h)); control = refl; clone = tt }
  control_fits ts ControlWait code a c s h l n = wait_fits_row p.records here thread next _ Waits c (number_at (codes "DURATION") a) s refl h l
  control_fits ts ControlWaitUntil code a c s h l n = until_by p.records here thread next _ (truth_at (codes "CONDITION") a) (kind ControlWaitUntil) s
  control_fits ts ControlStop code a c s h l n = let what = field_at (codes "STOP_OPTION") a in stop_by p.records here thread next _ (bytes_eq what (codes "all")) (bytes_eq what (codes "this script")) (bytes_eq what (codes "other scripts in sprite") || bytes_eq what (codes "other scripts in stage")) (kind ControlStop) s
  control_fits ts ControlCreateCloneOf code a c s h l n = let name = text_at (codes "CLONE_OPTION") a in clone_by p.records here thread next _ (bytes_eq name (codes "_myself_")) (kind ControlCreateCloneOf) name s
  control_fits ts ControlDeleteThisClone code a c s h l n = record { faces = faces_same s.targets; clock = refl; noted = (refl, refl, (λ is h. h), (λ is h. h)); control = tt; clone = tt }
  control_fits ts EventBroadcast code a c s h l n = record { faces = faces_same s.targets; clock = refl; noted = (refl, refl, (λ is h. h), (λ is h. h)); control = tt; clone = tt }
  control_fits ts EventBroadcastAndWait code a c s h l n = broadcast_fits p.records here thread next _ Starts ts c (text_at (codes "BROADCAST_INPUT") a) s refl h l
  control_fits ts ProceduresCall code a c s h l n = call_fits p.records here thread next Calls (procedure (instance_at here s.targets).of code p) c a s refl n
  control_fits ts SensingAskAndWait code a c s h l n = ask_fits p.records here thread next _ Asks (question p here thread (text_at (codes "QUESTION") a) s) s.devices.questions s refl refl refl
  control_fits ts SensingResetTimer code a c s h l n = record { faces = faces_same s.targets; clock = refl; noted = (refl, refl, (λ is h. h), (λ is h. h)); control = tt; clone = tt }
  control_fits ts op code a c s h l n = next_fits p.records here thread next _ (kind op) s
