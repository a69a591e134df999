-- Levels as the rules read them, from the top, and as they are made, from the bottom.
use Rattle.std.proofs.Common.{◌≡◌, ℕ, suc, ◌+◌, ◌-◌, slice_get, Bool, true, false, List, [], ◌∷◌, ◌++◌, length, reverse, Option, Some, None, refl, sym, ap, ◌∙◌, subst, append_assoc, append-nil, arith}
use Rattle.std.specs.Prelude.{option_map, option_and_then, if◌then◌else◌, ◌&&◌}
use Rattle.std.specs.List.{list_all}
use Rattle.std.proofs.lemmas.List.{reverse-append, length-reverse, length_push}
use Rattle.machine_spec.specs.Legal.{scripts_on, warp_on}
use Rattle.machine_spec.specs.Pending.{Item, dos}
use Rattle.machine_spec.specs.Program.{Program}
use Rattle.machine_spec.specs.Script.{Script, End, Then, Statement}
use Rattle.thread_frames.specs.declared.level.Level.{Level}
use Rattle.thread_frames.specs.Fit.{AllUnder}
use Rattle.thread_frames.specs.Reading.{beneath}
use Rattle.saved_spec.specs.Kept.{Kept, SavedLevel}
use Rattle.saved_spec.specs.Levels.{script_among, in_front, level_on, marker_of, marker_on, items_under, top_item, items_of}
use Rattle.saved_spec.specs.ThreadRules.{marker_fits, items_fit, first_fits}
use Rattle.saved_levels.specs.declared.floors.Site.{Site}
use Rattle.saved_levels.specs.Making.{is_short_level}
use Rattle.saved_levels.specs.Standing.{fitting, fit_on, fit_from, fitting_first, first_on, sheet_of, program_in, hat_of, Stacks, AreStacked, StacksAll, Tops, whole_of, AreWhole}

pub same_some : {A : Type 0} (a b : A) → Some a ≡ Some b → a ≡ b
same_some a b h = cc

pub and_false : (a b : Bool) → b ≡ false → (a && b) ≡ false
and_false true b h = h
and_false false b h = refl

-- what passes a test, and is found
passed : {A : Type 0} (a b : A) (c : Bool) → (if c then Some a else None) ≡ Some b → (a ≡ b) × (c ≡ true)
passed a b true h = (same_some a b h, refl)
passed a b false h = absurd (cc h)

pub fitted : (p : Program) (o : Option (List Item)) (items : List Item) → option_and_then (fitting p) o ≡ Some items → list_all (marker_fits p) items ≡ true
fitted p None items h = absurd (cc h)
fitted p (Some t) items h = let q = passed t items (list_all (marker_fits p) t) h in subst (λ y. list_all (marker_fits p) y ≡ true) q.0 q.1

pub first_fitted : (p : Program) (clock : ℕ) (o : Option (List Item)) (items : List Item) → option_and_then (fitting_first p clock) o ≡ Some items → o ≡ Some items
first_fitted p clock None items h = absurd (cc h)
first_fitted p clock (Some t) items h = ap Some (passed t items (items_fit p clock t) h).0

module _ (p : Program) (hat : Script) where
  -- levels under another, of which each fits
  abbrev pub fit_under : List SavedLevel → Option (List Item)
  fit_under us = option_and_then (fitting p) (items_under p hat us)

  module _ (under : List Item) (bad : list_all (marker_fits p) under ≡ false) where
    tail_bad : (rest : Script) → list_all (marker_fits p) (dos rest ++ under) ≡ false
    tail_bad End = bad
    tail_bad (Then s rest) = tail_bad rest

    -- nothing fits on what does not fit
    item_bad : (rest : Script) (o : Option Item) → option_and_then (fitting p) (option_map (λ m. m ∷ dos rest ++ under) o) ≡ None
    item_bad rest None = refl
    item_bad rest (Some m) = ap (λ c. if c then Some (m ∷ dos rest ++ under) else None) (and_false (marker_fits p m) (list_all (marker_fits p) (dos rest ++ under)) (tail_bad rest))

    script_bad : (item : Statement → Option Item) (o : Option Script) → option_and_then (fitting p) (option_and_then (in_front item under) o) ≡ None
    script_bad item None = refl
    script_bad item (Some End) = refl
    script_bad item (Some (Then s rest)) = item_bad rest (item s)

    marker_bad : (k : Kept) (block : Option ℕ) → option_and_then (fitting p) (marker_on p hat k block under) ≡ None
    marker_bad k None = refl
    marker_bad k (Some block) = script_bad (marker_of k (warp_on p hat under)) (script_among block (scripts_on p hat under))

    first_bad : (clock : ℕ) (k : Kept) (o : Option Script) → option_and_then (fitting_first p clock) (option_and_then (in_front (λ s. Some (top_item k s)) under) o) ≡ None
    first_bad clock k None = refl
    first_bad clock k (Some End) = refl
    first_bad clock k (Some (Then s rest)) =
        ap (λ c. if c then Some (top_item k s ∷ dos rest ++ under) else None) (and_false (first_fits p clock (top_item k s)) (list_all (marker_fits p) (dos rest ++ under)) (tail_bad rest))

  step_all : (l : SavedLevel) (under : List Item) (c : Bool) → list_all (marker_fits p) under ≡ c
      → option_and_then (fitting p) (marker_on p hat l.kept l.block under) ≡ option_and_then (fit_on p hat l) (if c then Some under else None)
  step_all l under true e = refl
  step_all l under false e = marker_bad under e l.kept l.block

  step_by : (l : SavedLevel) (o : Option (List Item)) → option_and_then (fitting p) (option_and_then (marker_on p hat l.kept l.block) o) ≡ option_and_then (fit_on p hat l) (option_and_then (fitting p) o)
  step_by l None = refl
  step_by l (Some under) = step_all l under (list_all (marker_fits p) under) refl

  turned : (l : SavedLevel) (ls us : List SavedLevel) → reverse (l ∷ ls) ++ us ≡ reverse ls ++ l ∷ us
  turned l ls us = ap (λ zs. zs ++ us) (reverse-append (l ∷ []) ls) ∙ append_assoc (reverse ls) (l ∷ []) us

  from : (ls us : List SavedLevel) → fit_from p hat ls (fit_under us) ≡ fit_under (reverse ls ++ us)
  from [] us = refl
  from (l ∷ ls) us = ap (fit_from p hat ls) (sym (step_by l (items_under p hat us))) ∙ from ls (l ∷ us) ∙ ap fit_under (sym (turned l ls us))

  pub fit_all : (ls : List SavedLevel) → fit_from p hat ls (Some []) ≡ fit_under (reverse ls)
  fit_all ls = from ls [] ∙ ap fit_under (append-nil (reverse ls))

  pub none_from : (ls : List SavedLevel) → fit_from p hat ls None ≡ None
  none_from [] = refl
  none_from (l ∷ ls) = none_from ls

  top_all : (clock : ℕ) (k : Kept) (wanted : ℕ) (under : List Item) (c : Bool) → list_all (marker_fits p) under ≡ c
      → option_and_then (first_on p clock hat k wanted) (if c then Some under else None) ≡ option_and_then (fitting_first p clock) (level_on p hat (λ s. Some (top_item k s)) wanted under)
  top_all clock k wanted under true e = refl
  top_all clock k wanted under false e = sym (first_bad under e clock k (script_among wanted (scripts_on p hat under)))

  top_by : (clock : ℕ) (k : Kept) (wanted : ℕ) (o : Option (List Item))
      → option_and_then (first_on p clock hat k wanted) (option_and_then (fitting p) o) ≡ option_and_then (fitting_first p clock) (option_and_then (level_on p hat (λ s. Some (top_item k s)) wanted) o)
  top_by clock k wanted None = refl
  top_by clock k wanted (Some under) = top_all clock k wanted under (list_all (marker_fits p) under) refl

  -- levels whose top one has a block
  pub whole_is : (clock : ℕ) (k : Kept) (wanted : ℕ) (ls : List SavedLevel)
      → option_and_then (first_on p clock hat k wanted) (fit_from p hat ls (Some [])) ≡ option_and_then (fitting_first p clock) (items_of p hat (record { block = Some wanted; kept = k } ∷ reverse ls))
  whole_is clock k wanted ls = ap (option_and_then (first_on p clock hat k wanted)) (fit_all ls) ∙ top_by clock k wanted (items_under p hat (reverse ls))

-- Levels are made one on another

pub reverse-push : {A : Type 0} (xs : List A) (x : A) → reverse (xs ++ x ∷ []) ≡ x ∷ reverse xs
reverse-push xs x = reverse-append xs (x ∷ [])

-- the levels so far, and those that are left of all
pub record SoFar (x : Site) (all : List SavedLevel) (made : List Level) (left : List SavedLevel) : Type 0 where
  pub items : fit_from (program_in x) (hat_of x) left (Some (beneath (sheet_of x) (reverse made))) ≡ fit_from (program_in x) (hat_of x) all (Some [])
  pub fits : list_all (marker_fits (program_in x)) (beneath (sheet_of x) (reverse made)) ≡ true
  pub under : AllUnder (sheet_of x) (reverse made)
  pub count : length made + length left ≡ length all
  pub short : list_all is_short_level left ≡ true

short_first : (a b : Bool) → (a && b) ≡ true → (a ≡ true) × (b ≡ true)
short_first true b h = (refl, h)
short_first false b h = absurd (cc h)

pub next_short : (x : Site) (all : List SavedLevel) (made : List Level) (l : SavedLevel) (left : List SavedLevel) → SoFar x all made (l ∷ left) → is_short_level l ≡ true
next_short x all made l left s = (short_first (is_short_level l) (list_all is_short_level left) s.short).0

pub start : (x : Site) (all : List SavedLevel) → list_all is_short_level all ≡ true → SoFar x all [] all
start x all short = record { items = refl; fits = refl; under = tt; count = omega arith; short = short }

pub turn : (x : Site) (all : List SavedLevel) (made : List Level) (l : SavedLevel) (left : List SavedLevel) (level : Level) → SoFar x all made (l ∷ left)
    → Stacks x l (beneath (sheet_of x) (reverse made)) (Some level) → SoFar x all (made ++ level ∷ []) left
turn x all made l left level s h =
    let on : fit_on (program_in x) (hat_of x) l (beneath (sheet_of x) (reverse made)) ≡ Some (beneath (sheet_of x) (level ∷ reverse made)) = h.0 in
    let back : level ∷ reverse made ≡ reverse (made ++ level ∷ []) = sym (reverse-push made level) in
    let more : length (made ++ level ∷ []) ≡ length made + 1 = length_push made level in record {
      items = subst (λ ls. fit_from (program_in x) (hat_of x) left (Some (beneath (sheet_of x) ls)) ≡ fit_from (program_in x) (hat_of x) all (Some [])) back (ap (fit_from (program_in x) (hat_of x) left) (sym on) ∙ s.items);
      fits = subst (λ ls. list_all (marker_fits (program_in x)) (beneath (sheet_of x) ls) ≡ true) back (fitted (program_in x) (marker_on (program_in x) (hat_of x) l.kept l.block (beneath (sheet_of x) (reverse made))) _ on);
      under = subst (AllUnder (sheet_of x)) back (h.1, s.under);
      count = omega (arith, more, s.count);
      short = (short_first (is_short_level l) (list_all is_short_level left) s.short).1;
    }

pub stop : (x : Site) (all : List SavedLevel) (made : List Level) (l : SavedLevel) (left : List SavedLevel) → SoFar x all made (l ∷ left)
    → Stacks x l (beneath (sheet_of x) (reverse made)) None → StacksAll x all None
stop x all made l left s h = sym s.items ∙ ap (fit_from (program_in x) (hat_of x) left) h ∙ none_from (program_in x) (hat_of x) left

pub end : (x : Site) (all : List SavedLevel) (made : List Level) → SoFar x all made [] → AreStacked x all made
end x all made s = record { items = sym s.items; fits = s.fits; under = s.under; count = omega (arith, s.count) }

-- The top level on them

pub whole_some : (x : Site) (clock : ℕ) (k : Kept) (wanted : ℕ) (ls : List SavedLevel) (made : List Level) (level : Level) → AreStacked x ls made
    → Tops x clock k wanted (beneath (sheet_of x) (reverse made)) (Some level) → AreWhole x (length ls + 1) (whole_of x clock k wanted ls) (level ∷ reverse made)
whole_some x clock k wanted ls made level s t = record {
  items_are = ap (option_and_then (first_on (program_in x) clock (hat_of x) k wanted)) s.items ∙ t.items;
  rest = record { fit = (t.top, s.under); there = omega arith; single = λ none. absurd (let h = t.holds in cc) };
  as_many = omega (arith, length-reverse made, s.count);
  warp_is = t.warp_is;
}

pub whole_none : (x : Site) (clock : ℕ) (k : Kept) (wanted : ℕ) (ls : List SavedLevel) (made : List Level) → AreStacked x ls made
    → Tops x clock k wanted (beneath (sheet_of x) (reverse made)) None → whole_of x clock k wanted ls ≡ None
whole_none x clock k wanted ls made s t = ap (option_and_then (first_on (program_in x) clock (hat_of x) k wanted)) s.items ∙ t

pub whole_stopped : (x : Site) (clock : ℕ) (k : Kept) (wanted : ℕ) (ls : List SavedLevel) → StacksAll x ls None → whole_of x clock k wanted ls ≡ None
whole_stopped x clock k wanted ls h = ap (option_and_then (first_on (program_in x) clock (hat_of x) k wanted)) h

-- the last of a list is the first of its reverse

last_of : {A : Type 0} (xs : List A) (x : A) → slice_get xs (length xs - 1) ≡ Some x → (before : List A) × (xs ≡ before ++ x ∷ [])
last_of [] x h = absurd (cc h)
last_of (y ∷ []) x h = ([], ap (λ z. z ∷ []) (same_some y x h))
last_of (y ∷ z ∷ zs) x h =
    let one : suc (suc (length zs)) - 1 ≡ suc (length zs) = omega arith in
    let two : suc (length zs) - 1 ≡ length zs = omega arith in
    let r = last_of (z ∷ zs) x (ap (slice_get (z ∷ zs)) two ∙ ap (slice_get (y ∷ z ∷ zs)) (sym one) ∙ h) in
    (y ∷ r.0, ap (λ ys. y ∷ ys) r.1)

pub last_first : {A : Type 0} (xs : List A) (x : A) → Some x ≡ slice_get xs (length xs - 1) → (rest : List A) × (reverse xs ≡ x ∷ rest)
last_first xs x h = let r = last_of xs x (sym h) in (reverse r.0, ap reverse r.1 ∙ reverse-push r.0 x)
