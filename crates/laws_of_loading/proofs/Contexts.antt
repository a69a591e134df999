-- What blocks keep that pass the tests of saved runs, they can keep.
use Rattle.std.proofs.Common.{◌≡◌, ℕ, zero, suc, ◌<◌, pos, negsuc, Bool, true, false, nat_le, List, [], ◌∷◌, map, length, bytes_eq, Option, Some, None, refl, arith}
use Rattle.std.specs.List.{list_all}
use Rattle.std.proofs.lemmas.Bool.Decides.{nat_tests}
use Rattle.std.proofs.lemmas.Slice.Eq.{bytes_eq-Decides}
use Rattle.opcode_table.specs.declared.kinds.Kind.{Kind}
use Rattle.opcode_table.specs.declared.kinds.Kind.TheVariants.{Choice, Endless, Counted, Waits, Glides, Starts, Asks, Speaks}
use Rattle.opcode_table.specs.Kinds.{kind}
use Rattle.scratch_number.specs.declared.number.Num.{Num}
use Rattle.scratch_number.specs.declared.number.Num.TheVariants.{Fixed, Inf, NegInf, Nan}
use Rattle.scratch_values.specs.Casts.{zero_number}
use Rattle.machine_spec.specs.Called.{called}
use Rattle.machine_spec.specs.declared.threads.Context.{Context}
use Rattle.machine_spec.specs.declared.threads.Context.TheVariants.{Fresh, Repeat, Wait, Glide, Started, Asked, Spoken}
use Rattle.machine_spec.specs.declared.threads.Count.{Count}
use Rattle.machine_spec.specs.declared.threads.Count.TheVariants.{Whole, Infinite}
use Rattle.machine_spec.specs.Keeping.{is_left}
use Rattle.machine_spec.specs.Legal.{distinct, Fits, Keeps, KeepsAgain, Legal, Markers}
use Rattle.machine_spec.specs.Pending.{Item, Do, Held, Returned, Branch, Again, Back}
use Rattle.machine_spec.specs.Program.{Program, Procedure}
use Rattle.machine_spec.specs.Script.{Script, op_of}
use Rattle.machine_spec.specs.Stores.{less, from_zero}
use Rattle.machine_spec.specs.Threads.{Params}
use Rattle.laws_of_threads.specs.Lists.{Each}
use Rattle.laws_of_threads.specs.Positions.{KeptWell}
use Rattle.saved_spec.specs.Legal.{AllStand, StandsIn}
use Rattle.saved_spec.specs.ThreadRules.{is_from_zero, is_above_zero, is_some_thread, loops_with, may_keep, same_texts, has_names, is_choice, marker_fits, items_fit}
use Rattle.laws_of_loading.proofs.Tests.{both, up_to}

-- Times

not_less : (n : ℕ) → less (Fixed (pos n)) zero_number ≡ false
not_less zero = refl
not_less (suc n) = grind (arith, nat_tests)

more : (n : ℕ) → less zero_number (Fixed (pos (suc n))) ≡ true
more n = grind (arith, nat_tests)

from_zero_up : (n : Num) → is_from_zero n ≡ true → less n zero_number ≡ false
from_zero_up (Fixed (pos n)) h = not_less n
from_zero_up (Fixed (negsuc n)) h = absurd (cc h)
from_zero_up Inf h = refl
from_zero_up NegInf h = absurd (cc h)
from_zero_up Nan h = absurd (cc h)

above_zero : (n : Num) → is_above_zero n ≡ true → less zero_number n ≡ true
above_zero (Fixed (pos zero)) h = absurd (cc h)
above_zero (Fixed (pos (suc n))) h = more n
above_zero (Fixed (negsuc n)) h = absurd (cc h)
above_zero Inf h = refl
above_zero NegInf h = absurd (cc h)
above_zero Nan h = absurd (cc h)

-- a time that can be waited stays as it is
stays : (n : Num) → is_from_zero n ≡ true → from_zero n ≡ n
stays (Fixed (pos zero)) h = refl
stays (Fixed (pos (suc n))) h = rw (more n) refl
stays (Fixed (negsuc n)) h = absurd (cc h)
stays Inf h = refl
stays NegInf h = absurd (cc h)
stays Nan h = absurd (cc h)

-- Kinds

counted : (n : Count) → is_left n ≡ true → KeepsAgain Counted (Repeat n)
counted (Whole (pos n)) h = refl
counted (Whole (negsuc n)) h = absurd (cc h)
counted Infinite h = refl

again : (k : Kind) (c : Context) → loops_with k c ≡ true → KeepsAgain k c
again Endless Fresh h = refl
again Counted (Repeat n) h = counted n h
again k c h = absurd (cc h)

some_thread : (ns : List ℕ) → is_some_thread ns ≡ true → 0 < length ns
some_thread [] h = absurd (cc h)
some_thread (n ∷ ns) h = omega arith

pub keeps : (clock : ℕ) (k : Kind) (c : Context) → may_keep clock k c ≡ true → Keeps clock k c
keeps clock Waits (Wait w) h = let p = both (nat_le w.start clock) (is_from_zero w.duration) h in (refl, up_to w.start clock p.0, from_zero_up w.duration p.1)
keeps clock Glides (Glide g) h = let p = both (nat_le g.start clock) (is_above_zero g.duration) h in (refl, up_to g.start clock p.0, above_zero g.duration p.1)
keeps clock Starts (Started ns) h = (refl, some_thread ns h)
keeps clock Asks Asked h = refl
keeps clock Speaks Spoken h = refl
keeps clock Endless Fresh h = refl
keeps clock Counted (Repeat n) h = counted n h
keeps clock k c h = absurd (cc h)

-- a wait that is kept, where threads that were started had these numbers
abbrev pub StartedBelow : ℕ → Context → Type 0
StartedBelow next (Started ns) = Each (λ n. n < next) ns
StartedBelow next c = Unit {0}

pub kept_well : (clock next : ℕ) (k : Kind) (c : Context) → may_keep clock k c ≡ true → StartedBelow next c → KeptWell next c
kept_well clock next Waits (Wait w) h s = stays w.duration (both (nat_le w.start clock) (is_from_zero w.duration) h).1
kept_well clock next Waits c h s = absurd (cc h)
kept_well clock next Starts (Started ns) h s = s
kept_well clock next Starts c h s = absurd (cc h)
kept_well clock next Glides (Glide g) h s = tt
kept_well clock next Glides c h s = absurd (cc h)
kept_well clock next Asks Asked h s = tt
kept_well clock next Asks c h s = absurd (cc h)
kept_well clock next Speaks Spoken h s = tt
kept_well clock next Speaks c h s = absurd (cc h)
kept_well clock next Endless Fresh h s = tt
kept_well clock next Endless c h s = absurd (cc h)
kept_well clock next Counted (Repeat n) h s = tt
kept_well clock next Counted c h s = absurd (cc h)
kept_well clock next k c h s = absurd (cc h)

-- Calls

same : (ts us : List (List ℕ)) → same_texts ts us ≡ true → ts ≡ us
same [] [] h = refl
same [] (u ∷ us) h = absurd (cc h)
same (t ∷ ts) [] h = absurd (cc h)
same (t ∷ ts) (u ∷ us) h =
    let p = both (bytes_eq t u) (same_texts ts us) h in
    let one = (bytes_eq-Decides t u).0 p.0 in
    let rest = same ts us p.1 in
    cc

fits : (params : Params) (q : Option Procedure) → has_names params q ≡ true → Fits params q
fits params None h = absurd (cc h)
fits params (Some q) h = same (map (λ x. x.0) params) (distinct q.names) h

choice : (k : Kind) → is_choice k ≡ true → k ≡ Choice
choice Choice h = refl
choice k h = absurd (cc h)

-- Pending lists

module _ (p : Program) (hat : Script) where
  markers : (r : List Item) → AllStand p hat r → list_all (marker_fits p) r ≡ true → Markers p hat r
  markers [] all h = tt
  markers (Do s ∷ r) all h = markers r all.1 h
  markers (Held s c ∷ r) all h = absurd all.0
  markers (Returned s params ∷ r) all h = absurd all.0
  markers (Branch s w ∷ r) all h = let e = both (is_choice (kind (op_of s))) (list_all (marker_fits p) r) h in (choice (kind (op_of s)) e.0, all.0, markers r all.1 e.1)
  markers (Again s c w ∷ r) all h = let e = both (loops_with (kind (op_of s)) c) (list_all (marker_fits p) r) h in (again (kind (op_of s)) c e.0, all.0, markers r all.1 e.1)
  markers (Back s params w ∷ r) all h = let e = both (has_names params (called p s)) (list_all (marker_fits p) r) h in (fits params (called p s) e.0, all.0, markers r all.1 e.1)

  pub legal : (clock : ℕ) (items : List Item) (w : Bool) → StandsIn p hat items w → items_fit p clock items ≡ true → Legal p hat clock items w
  legal clock [] w st h = st
  legal clock (Do s ∷ r) w st h = (st.0, markers r st.1 h)
  legal clock (Held s c ∷ r) w st h = let e = both (may_keep clock (kind (op_of s)) c) (list_all (marker_fits p) r) h in (keeps clock (kind (op_of s)) c e.0, st.0, markers r st.1 e.1)
  legal clock (Returned s params ∷ r) w st h = let e = both (has_names params (called p s)) (list_all (marker_fits p) r) h in (fits params (called p s) e.0, st.0, markers r st.1 e.1)
  legal clock (Branch s v ∷ r) w st h = absurd st.0
  legal clock (Again s c v ∷ r) w st h = absurd st.0
  legal clock (Back s params v ∷ r) w st h = absurd st.0
