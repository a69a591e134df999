-- What a legal thread has still to do keeps the rules of saved runs, as tests.
use Rattle.std.proofs.Common.{◌≡◌, ℕ, ◌<◌, ◌==◌, inl, inr, pos, negsuc, Bool, true, false, not, ◌||◌, cond, List, [], ◌∷◌, map, length, Option, Some, None, refl, sym, ◌∙◌, subst, arith}
use Rattle.std.specs.Prelude.{int_lt, bytes_eq}
use Rattle.std.specs.List.{list_any, list_all}
use Rattle.std.specs.Ordering.{is_lt}
use Rattle.std.specs.declared.cmp.Ordering.TheVariants.{Less, Equal, Greater}
use Rattle.opcode_table.specs.declared.kinds.Kind.{Kind}
use Rattle.opcode_table.specs.declared.kinds.Kind.TheVariants.{Endless, Counted}
use Rattle.opcode_table.specs.Kinds.{kind}
use Rattle.scratch_number.specs.declared.number.Num.{Num}
use Rattle.scratch_number.specs.declared.number.Num.TheVariants.{Fixed, Inf, NegInf, Nan}
use Rattle.scratch_values.specs.Casts.{zero_number}
use Rattle.machine_spec.specs.declared.threads.Context.{Context}
use Rattle.machine_spec.specs.declared.threads.Context.TheVariants.{Fresh, Repeat, Wait, Glide, Started, Asked, Spoken, Called}
use Rattle.machine_spec.specs.declared.threads.Count.TheVariants.{Whole, Infinite}
use Rattle.machine_spec.specs.declared.threads.Status.{Status}
use Rattle.machine_spec.specs.declared.threads.Status.TheVariants.{Running, YieldTick, PromiseWait, Done}
use Rattle.machine_spec.specs.Called.{called}
use Rattle.machine_spec.specs.Legal.{Fits, KeepsAgain, Keeps, Markers, Legal, StatusFits, waits_for_promise}
use Rattle.machine_spec.specs.Pending.{Item, Do, Held, Returned, Branch, Again, Back}
use Rattle.machine_spec.specs.Program.{Program, Procedure}
use Rattle.machine_spec.specs.Script.{Script, op_of}
use Rattle.machine_spec.specs.Stores.{Devices, less, from_zero}
use Rattle.machine_spec.specs.Threads.{Params, is_done}
use Rattle.laws_of_threads.specs.Lists.{Member}
use Rattle.laws_of_threads.specs.Positions.{KeptWell, FirstKeptWell}
use Rattle.laws_of_threads.specs.Promises.{askers, speakers}
use Rattle.laws_of_threads.specs.Threads.{is_asked, is_spoken}
use Rattle.laws_of_threads.proofs.Numbers.{equal}
use Rattle.saved_spec.specs.Legal.{AllStand, StandsIn}
use Rattle.saved_spec.specs.ThreadRules as rules
use Rattle.laws_of_saving.proofs.Tests.{both_true, not_true, unless_true, least_true, text_true}

-- What a block keeps

module _ (p : Program) where
  same_texts : (ts : List (List ℕ)) → rules.same_texts ts ts ≡ true
  same_texts [] = refl
  same_texts (t ∷ ts) = both_true (bytes_eq t t) (rules.same_texts ts ts) (text_true t) (same_texts ts)

  names : (params : Params) (q : Option Procedure) → Fits params q → rules.has_names params q ≡ true
  names params None h = absurd h
  names params (Some q) h = subst (λ ts. rules.same_texts (map (λ x. x.0) params) ts ≡ true) h (same_texts (map (λ x. x.0) params))

  loops : (k : Kind) (c : Context) → KeepsAgain k c → rules.loops_with k c ≡ true
  loops k Fresh h = subst (λ j. rules.loops_with j Fresh ≡ true) (sym h) refl
  loops k (Repeat (Whole (pos n))) h = subst (λ j. rules.loops_with j (Repeat (Whole (pos n))) ≡ true) (sym h) refl
  loops k (Repeat (Whole (negsuc n))) h = absurd h
  loops k (Repeat Infinite) h = subst (λ j. rules.loops_with j (Repeat Infinite) ≡ true) (sym h) refl
  loops k (Wait c) h = absurd h
  loops k (Glide c) h = absurd h
  loops k (Started ns) h = absurd h
  loops k Asked h = absurd h
  loops k Spoken h = absurd h
  loops k Called h = absurd h

  from_loop : (clock : ℕ) (k : Kind) (c : Context) → rules.loops_with k c ≡ true → rules.may_keep clock k c ≡ true
  from_loop clock Endless Fresh h = refl
  from_loop clock Counted (Repeat turns) h = h
  from_loop clock k c h = absurd (cc h)

  is_from_zero : (d : Num) → from_zero d ≡ d → rules.is_from_zero d ≡ true
  is_from_zero (Fixed (pos n)) e = least_true 0 n (omega arith)
  is_from_zero (Fixed (negsuc n)) e = absurd (cc e)
  is_from_zero Inf e = refl
  is_from_zero NegInf e = absurd (cc e)
  is_from_zero Nan e = absurd (cc e)

  above_by : (a b : Bool) → is_lt (cond a Less (cond b Greater Equal)) ≡ true → a ≡ true
  above_by true b e = refl
  above_by false true e = absurd (cc e)
  above_by false false e = absurd (cc e)

  is_above_zero : (d : Num) → less zero_number d ≡ true → rules.is_above_zero d ≡ true
  is_above_zero (Fixed z) e = above_by (int_lt (pos 0) z) (int_lt z (pos 0)) e
  is_above_zero Inf e = refl
  is_above_zero NegInf e = absurd (cc e)
  is_above_zero Nan e = absurd (cc e)

  some_thread : (ns : List ℕ) → 0 < length ns → rules.is_some_thread ns ≡ true
  some_thread [] h = absurd (omega arith)
  some_thread (n ∷ ns) h = refl

  keeps : (clock next : ℕ) (k : Kind) (c : Context) → Keeps clock k c → KeptWell next c → rules.may_keep clock k c ≡ true
  keeps clock next k Fresh h g = from_loop clock k Fresh (loops k Fresh h)
  keeps clock next k (Repeat turns) h g = from_loop clock k (Repeat turns) (loops k (Repeat turns) h)
  keeps clock next k (Wait c) h g = subst (λ j. rules.may_keep clock j (Wait c) ≡ true) (sym h.0) (both_true _ _ (least_true c.start clock h.1) (is_from_zero c.duration g))
  keeps clock next k (Glide c) h g = subst (λ j. rules.may_keep clock j (Glide c) ≡ true) (sym h.0) (both_true _ _ (least_true c.start clock h.1) (is_above_zero c.duration h.2))
  keeps clock next k (Started ns) h g = subst (λ j. rules.may_keep clock j (Started ns) ≡ true) (sym h.0) (some_thread ns h.1)
  keeps clock next k Asked h g = subst (λ j. rules.may_keep clock j Asked ≡ true) (sym h) refl
  keeps clock next k Spoken h g = subst (λ j. rules.may_keep clock j Spoken ≡ true) (sym h) refl
  keeps clock next k Called h g = absurd h

  -- The items

  markers_fit : (hat : Script) (r : List Item) → Markers p hat r → list_all (rules.marker_fits p) r ≡ true
  markers_fit hat [] m = refl
  markers_fit hat (Do s ∷ r) m = markers_fit hat r m
  markers_fit hat (Held s c ∷ r) m = absurd m
  markers_fit hat (Returned s ps ∷ r) m = absurd m
  markers_fit hat (Branch s w ∷ r) m = both_true _ _ (subst (λ j. rules.is_choice j ≡ true) (sym m.0) refl) (markers_fit hat r m.2)
  markers_fit hat (Again s c w ∷ r) m = both_true _ _ (loops (kind (op_of s)) c m.0) (markers_fit hat r m.2)
  markers_fit hat (Back s ps w ∷ r) m = both_true _ _ (names ps (called p s) m.0) (markers_fit hat r m.2)

  pub items_fit : (hat : Script) (clock next : ℕ) (items : List Item) (w : Bool) → Legal p hat clock items w → FirstKeptWell next items → rules.items_fit p clock items ≡ true
  items_fit hat clock next [] w h g = refl
  items_fit hat clock next (Do s ∷ r) w h g = markers_fit hat r h.1
  items_fit hat clock next (Held s c ∷ r) w h g = both_true _ _ (keeps clock next (kind (op_of s)) c h.0 g) (markers_fit hat r h.2)
  items_fit hat clock next (Returned s ps ∷ r) w h g = both_true _ _ (names ps (called p s) h.0) (markers_fit hat r h.2)
  items_fit hat clock next (Branch s v ∷ r) w h g = absurd h
  items_fit hat clock next (Again s c v ∷ r) w h g = absurd h
  items_fit hat clock next (Back s ps v ∷ r) w h g = absurd h

  -- each marker stands in its place, and so does the first item

  all_stand : (hat : Script) (r : List Item) → Markers p hat r → AllStand p hat r
  all_stand hat [] m = tt
  all_stand hat (Do s ∷ r) m = (tt, all_stand hat r m)
  all_stand hat (Held s c ∷ r) m = absurd m
  all_stand hat (Returned s ps ∷ r) m = absurd m
  all_stand hat (Branch s w ∷ r) m = (m.1, all_stand hat r m.2)
  all_stand hat (Again s c w ∷ r) m = (m.1, all_stand hat r m.2)
  all_stand hat (Back s ps w ∷ r) m = (m.1, all_stand hat r m.2)

  pub stands_in : (hat : Script) (clock : ℕ) (items : List Item) (w : Bool) → Legal p hat clock items w → StandsIn p hat items w
  stands_in hat clock [] w h = h
  stands_in hat clock (Do s ∷ r) w h = (h.0, all_stand hat r h.1)
  stands_in hat clock (Held s c ∷ r) w h = (h.1, all_stand hat r h.2)
  stands_in hat clock (Returned s ps ∷ r) w h = (h.1, all_stand hat r h.2)
  stands_in hat clock (Branch s v ∷ r) w h = absurd h
  stands_in hat clock (Again s c v ∷ r) w h = absurd h
  stands_in hat clock (Back s ps v ∷ r) w h = absurd h

-- How the thread stands

-- the rules ask of the first item what the machine asks
same_asked : (items : List Item) → rules.is_asked items ≡ is_asked items
same_asked [] = refl
same_asked (Do s ∷ r) = refl
same_asked (Held s Fresh ∷ r) = refl
same_asked (Held s (Repeat n) ∷ r) = refl
same_asked (Held s (Wait c) ∷ r) = refl
same_asked (Held s (Glide c) ∷ r) = refl
same_asked (Held s (Started ns) ∷ r) = refl
same_asked (Held s Asked ∷ r) = refl
same_asked (Held s Spoken ∷ r) = refl
same_asked (Held s Called ∷ r) = refl
same_asked (Returned s ps ∷ r) = refl
same_asked (Branch s w ∷ r) = refl
same_asked (Again s c w ∷ r) = refl
same_asked (Back s ps w ∷ r) = refl

same_spoken : (items : List Item) → rules.is_spoken items ≡ is_spoken items
same_spoken [] = refl
same_spoken (Do s ∷ r) = refl
same_spoken (Held s Fresh ∷ r) = refl
same_spoken (Held s (Repeat n) ∷ r) = refl
same_spoken (Held s (Wait c) ∷ r) = refl
same_spoken (Held s (Glide c) ∷ r) = refl
same_spoken (Held s (Started ns) ∷ r) = refl
same_spoken (Held s Asked ∷ r) = refl
same_spoken (Held s Spoken ∷ r) = refl
same_spoken (Held s Called ∷ r) = refl
same_spoken (Returned s ps ∷ r) = refl
same_spoken (Branch s w ∷ r) = refl
same_spoken (Again s c w ∷ r) = refl
same_spoken (Back s ps w ∷ r) = refl

same_promise : (items : List Item) → (rules.is_asked items || rules.is_spoken items) ≡ waits_for_promise items
same_promise [] = refl
same_promise (Do s ∷ r) = refl
same_promise (Held s Fresh ∷ r) = refl
same_promise (Held s (Repeat n) ∷ r) = refl
same_promise (Held s (Wait c) ∷ r) = refl
same_promise (Held s (Glide c) ∷ r) = refl
same_promise (Held s (Started ns) ∷ r) = refl
same_promise (Held s Asked ∷ r) = refl
same_promise (Held s Spoken ∷ r) = refl
same_promise (Held s Called ∷ r) = refl
same_promise (Returned s ps ∷ r) = refl
same_promise (Branch s w ∷ r) = refl
same_promise (Again s c w ∷ r) = refl
same_promise (Back s ps w ∷ r) = refl

pub status_fits : (status : Status) (items : List Item) → is_done status ≡ false → StatusFits status items → rules.status_fits status items ≡ true
status_fits Running items alive h = not_true (rules.is_asked items || rules.is_spoken items) (same_promise items ∙ h)
status_fits YieldTick items alive h = h
status_fits PromiseWait items alive h = same_promise items ∙ h
status_fits Done items alive h = absurd (cc alive)

named_by : {A : Type 0} (number : A → ℕ) (serial : ℕ) (c : Bool) (x : A) (xs : List A) → (number x == serial) ≡ c → (list_any (λ y. number y == serial) xs ≡ true → Member serial (map number xs))
    → (c || list_any (λ y. number y == serial) xs) ≡ true → Member serial (map number (x ∷ xs))
named_by number serial true x xs e more h = inl (equal (number x) serial e)
named_by number serial false x xs e more h = inr (more h)

named : {A : Type 0} (number : A → ℕ) (serial : ℕ) (xs : List A) → list_any (λ x. number x == serial) xs ≡ true → Member serial (map number xs)
named number serial [] h = absurd (cc h)
named number serial (x ∷ xs) h = named_by number serial (number x == serial) x xs refl (named number serial xs) h

pub promises_fit : (d : Devices) (serial : ℕ) (items : List Item) → (Member serial (askers d) → is_asked items ≡ true) → (Member serial (speakers d) → is_spoken items ≡ true)
    → rules.promises_fit d serial items ≡ true
promises_fit d serial items asked spoken =
    both_true (not (list_any (λ q. q.thread == serial) d.questions) || rules.is_asked items) (not (list_any (λ t. t.thread == serial) d.timers) || rules.is_spoken items)
    (unless_true (list_any (λ q. q.thread == serial) d.questions) (rules.is_asked items) (λ e. same_asked items ∙ asked (named (λ q. q.thread) serial d.questions e)))
    (unless_true (list_any (λ t. t.thread == serial) d.timers) (rules.is_spoken items) (λ e. same_spoken items ∙ spoken (named (λ t. t.thread) serial d.timers e)))
