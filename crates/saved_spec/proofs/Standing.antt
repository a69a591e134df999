-- The pending list that the levels of a saved thread stand for has these levels, each in its place.
use Rattle.std.proofs.Common.{◌≡◌, ℕ, ◌==◌, Bool, true, false, if◌then◌else◌, List, [], ◌∷◌, ◌++◌, map, filter, Option, Some, None, option_map, option_and_then, inl, inr, refl, sym, ap, ◌∙◌, subst}
use Rattle.std.specs.Option.{option_or}
use Rattle.std.proofs.lemmas.Bool.Decides.{Decides-eqb}
use Rattle.machine_spec.specs.Legal.{EndOf, EndOfOne, Stands, script_of, scripts_on, warp_on}
use Rattle.machine_spec.specs.Pending.{Item, dos}
use Rattle.machine_spec.specs.Program.{Program}
use Rattle.machine_spec.specs.Script.{Script, End, Then, Statement, place_of}
use Rattle.saved_spec.specs.Tasks.{is_marker}
use Rattle.saved_spec.specs.Kept.{Kept, Nothing, Loop, Repeat, Wait, Glide, Started, Asked, Spoken, Call, SavedLevel, level_at, level_of, levels_of}
use Rattle.saved_spec.specs.Legal.{StandsUnder, AllStand, StandsFirst, StandsIn}
use Rattle.saved_spec.specs.Levels.{script_from, script_among, top_item, marker_of, in_front, level_on, marker_on, items_under, nothing_left, top_on, items_of}

same_some : {A : Type 0} (a b : A) → Some a ≡ Some b → a ≡ b
same_some a b h = cc

-- Chains

-- a script that begins with the block, and is the end of one of these
pub record Begins (k : ℕ) (u : Script) (Ends : Script → Type 0) : Type 0 where
  pub s : Statement
  pub rest : Script
  pub is : u ≡ Then s rest
  pub block : (place_of s).block ≡ k
  pub ends : Ends u

from_if : (c : Bool) (k : ℕ) (s : Statement) (rest u : Script) → (c ≡ true → (place_of s).block ≡ k) → (script_from k rest ≡ Some u → Begins k u (λ t. EndOf t rest))
    → (if c then Some (Then s rest) else script_from k rest) ≡ Some u → Begins k u (λ t. EndOf t (Then s rest))
from_if true k s rest u e more h = record { s = s; rest = rest; is = sym (same_some (Then s rest) u h); block = e refl; ends = inl (sym (same_some (Then s rest) u h)) }
from_if false k s rest u e more h = let m = more h in record { s = m.s; rest = m.rest; is = m.is; block = m.block; ends = inr m.ends }

from : (k : ℕ) (script u : Script) → script_from k script ≡ Some u → Begins k u (λ t. EndOf t script)
from k End u h = absurd (cc h)
from k (Then s rest) u h = from_if ((place_of s).block == k) k s rest u (Decides-eqb (place_of s).block k).0 (from k rest u) h

among_or : (k : ℕ) (script : Script) (more : List Script) (u : Script) (o : Option Script) → script_from k script ≡ o → (script_among k more ≡ Some u → Begins k u (λ t. EndOfOne t more))
    → option_or o (script_among k more) ≡ Some u → Begins k u (λ t. EndOfOne t (script ∷ more))
among_or k script more u (Some v) e rest h = let b = from k script u (e ∙ h) in record { s = b.s; rest = b.rest; is = b.is; block = b.block; ends = inl b.ends }
among_or k script more u None e rest h = let b = rest h in record { s = b.s; rest = b.rest; is = b.is; block = b.block; ends = inr b.ends }

pub among : (k : ℕ) (scripts : List Script) (u : Script) → script_among k scripts ≡ Some u → Begins k u (λ t. EndOfOne t scripts)
among k [] u h = absurd (cc h)
among k (script ∷ more) u h = among_or k script more u (script_from k script) refl (among k more u) h

-- What follows a statement in its level

script_of-dos : (rest : Script) (under : List Item) → script_of under ≡ End → script_of (dos rest ++ under) ≡ rest
script_of-dos End under e = e
script_of-dos (Then s rest) under e = ap (Then s) (script_of-dos rest under e)

markers-dos : (rest : Script) (under : List Item) → filter is_marker (dos rest ++ under) ≡ filter is_marker under
markers-dos End under = refl
markers-dos (Then s rest) under = markers-dos rest under

module _ (p : Program) (hat : Script) where
  scripts-dos : (rest : Script) (under : List Item) → scripts_on p hat (dos rest ++ under) ≡ scripts_on p hat under
  scripts-dos End under = refl
  scripts-dos (Then s rest) under = scripts-dos rest under

  warp-dos : (rest : Script) (under : List Item) → warp_on p hat (dos rest ++ under) ≡ warp_on p hat under
  warp-dos End under = refl
  warp-dos (Then s rest) under = warp-dos rest under

  all-dos : (rest : Script) (under : List Item) → AllStand p hat under → AllStand p hat (dos rest ++ under)
  all-dos End under all = all
  all-dos (Then s rest) under all = (tt, all-dos rest under all)

  -- a statement in its chain, with what follows it
  stands : (s : Statement) (rest : Script) (under : List Item) → EndOfOne (Then s rest) (scripts_on p hat under) → script_of under ≡ End
      → Stands p hat (Then s (script_of (dos rest ++ under))) (dos rest ++ under) (warp_on p hat under)
  stands s rest under ends e = record {
    ends = subst (λ t. EndOfOne (Then s t) (scripts_on p hat (dos rest ++ under))) (sym (script_of-dos rest under e)) (subst (EndOfOne (Then s rest)) (sym (scripts-dos rest under)) ends);
    warp = sym (warp-dos rest under);
  }

  -- levels under another
  record Under (ls : List SavedLevel) (items : List Item) : Type 0 where
    levels : map level_of (filter is_marker items) ≡ ls
    all : AllStand p hat items
    begins : script_of items ≡ End

  marker_placed : (kept : Kept) (w : Bool) (s : Statement) (x : Item) (rest : List Item) → marker_of kept w s ≡ Some x
      → Stands p hat (Then s (script_of rest)) rest w → StandsUnder p hat x rest × (is_marker x ≡ true) × (level_of x ≡ level_at s kept) × (script_of (x ∷ rest) ≡ End)
  marker_placed Nothing w s x rest h st = subst (λ y. StandsUnder p hat y rest × (is_marker y ≡ true) × (level_of y ≡ level_at s Nothing) × (script_of (y ∷ rest) ≡ End)) (same_some _ x h) (st, refl, refl, refl)
  marker_placed Loop w s x rest h st = subst (λ y. StandsUnder p hat y rest × (is_marker y ≡ true) × (level_of y ≡ level_at s Loop) × (script_of (y ∷ rest) ≡ End)) (same_some _ x h) (st, refl, refl, refl)
  marker_placed (Repeat n) w s x rest h st = subst (λ y. StandsUnder p hat y rest × (is_marker y ≡ true) × (level_of y ≡ level_at s (Repeat n)) × (script_of (y ∷ rest) ≡ End)) (same_some _ x h) (st, refl, refl, refl)
  marker_placed (Call ps) w s x rest h st = subst (λ y. StandsUnder p hat y rest × (is_marker y ≡ true) × (level_of y ≡ level_at s (Call ps)) × (script_of (y ∷ rest) ≡ End)) (same_some _ x h) (st, refl, refl, refl)
  marker_placed (Wait c) w s x rest h st = absurd (cc h)
  marker_placed (Glide c) w s x rest h st = absurd (cc h)
  marker_placed (Started ns) w s x rest h st = absurd (cc h)
  marker_placed Asked w s x rest h st = absurd (cc h)
  marker_placed Spoken w s x rest h st = absurd (cc h)

  filter-marked : (x : Item) (xs : List Item) → is_marker x ≡ true → filter is_marker (x ∷ xs) ≡ x ∷ filter is_marker xs
  filter-marked x xs e = rw e refl

  -- a level with its marker in front of what stands under it
  on_top : (kept : Kept) (k : ℕ) (ls : List SavedLevel) (under : List Item) (s : Statement) (rest : Script) (x : Item) → Under ls under
      → (place_of s).block ≡ k → EndOfOne (Then s rest) (scripts_on p hat under) → marker_of kept (warp_on p hat under) s ≡ Some x
      → Under (record { block = Some k; kept = kept } ∷ ls) (x ∷ dos rest ++ under)
  on_top kept k ls under s rest x u at ends h =
      let m = marker_placed kept (warp_on p hat under) s x (dos rest ++ under) h (stands s rest under ends u.begins) in
      let one : level_of x ≡ record { block = Some k; kept = kept } = m.2 ∙ ap (λ j. record { block = Some j; kept = kept }) at in
      let more : map level_of (filter is_marker (dos rest ++ under)) ≡ ls = ap (map level_of) (markers-dos rest under) ∙ u.levels in
      let both : level_of x ∷ map level_of (filter is_marker (dos rest ++ under)) ≡ record { block = Some k; kept = kept } ∷ ls = cc in
      record {
        levels = ap (map level_of) (filter-marked x (dos rest ++ under) m.1) ∙ both;
        all = (m.0, all-dos rest under u.all);
        begins = m.3;
      }

  with_item : (kept : Kept) (k : ℕ) (ls : List SavedLevel) (under items : List Item) (s : Statement) (rest : Script) (o : Option Item) → Under ls under
      → (place_of s).block ≡ k → EndOfOne (Then s rest) (scripts_on p hat under) → marker_of kept (warp_on p hat under) s ≡ o
      → option_map (λ x. x ∷ dos rest ++ under) o ≡ Some items → Under (record { block = Some k; kept = kept } ∷ ls) items
  with_item kept k ls under items s rest None u at ends e h = absurd (cc h)
  with_item kept k ls under items s rest (Some x) u at ends e h =
      subst (Under (record { block = Some k; kept = kept } ∷ ls)) (same_some (x ∷ dos rest ++ under) items h) (on_top kept k ls under s rest x u at ends e)

  with_script : (kept : Kept) (k : ℕ) (ls : List SavedLevel) (under items : List Item) (o : Option Script) → Under ls under
      → script_among k (scripts_on p hat under) ≡ o → option_and_then (in_front (marker_of kept (warp_on p hat under)) under) o ≡ Some items
      → Under (record { block = Some k; kept = kept } ∷ ls) items
  with_script kept k ls under items None u e h = absurd (cc h)
  with_script kept k ls under items (Some script) u e h =
      let b = among k (scripts_on p hat under) script e in
      with_item kept k ls under items b.s b.rest (marker_of kept (warp_on p hat under) b.s) u b.block (subst (λ v. EndOfOne v (scripts_on p hat under)) b.is b.ends) refl
      (subst (λ v. in_front (marker_of kept (warp_on p hat under)) under v ≡ Some items) b.is h)

  with_block : (kept : Kept) (block : Option ℕ) (ls : List SavedLevel) (under items : List Item) → Under ls under
      → marker_on p hat kept block under ≡ Some items → Under (record { block = block; kept = kept } ∷ ls) items
  with_block kept None ls under items u h = absurd (cc h)
  with_block kept (Some k) ls under items u h = with_script kept k ls under items (script_among k (scripts_on p hat under)) u refl h

  under_by : (l : SavedLevel) (ls : List SavedLevel) (items : List Item) (o : Option (List Item)) → ((under : List Item) → o ≡ Some under → Under ls under)
      → option_and_then (marker_on p hat l.kept l.block) o ≡ Some items → Under (l ∷ ls) items
  under_by l ls items None all h = absurd (cc h)
  under_by l ls items (Some under) all h = with_block l.kept l.block ls under items (all under refl) h

  under_all : (ls : List SavedLevel) (items : List Item) → items_under p hat ls ≡ Some items → Under ls items
  under_all [] items h = subst (Under []) (same_some [] items h) (record { levels = refl; all = tt; begins = refl })
  under_all (l ∷ ls) items h = under_by l ls items (items_under p hat ls) (under_all ls) h

  -- The top level

  top-first : (kept : Kept) (s : Statement) (r : List Item) (w : Bool) → Stands p hat (Then s (script_of r)) r w → StandsFirst p hat (top_item kept s) r w
  top-first Nothing s r w st = st
  top-first Loop s r w st = st
  top-first (Repeat n) s r w st = st
  top-first (Wait c) s r w st = st
  top-first (Glide c) s r w st = st
  top-first (Started ns) s r w st = st
  top-first Asked s r w st = st
  top-first Spoken s r w st = st
  top-first (Call ps) s r w st = st

  top-warp : (kept : Kept) (s : Statement) (r : List Item) → warp_on p hat (top_item kept s ∷ r) ≡ warp_on p hat r
  top-warp Nothing s r = refl
  top-warp Loop s r = refl
  top-warp (Repeat n) s r = refl
  top-warp (Wait c) s r = refl
  top-warp (Glide c) s r = refl
  top-warp (Started ns) s r = refl
  top-warp Asked s r = refl
  top-warp Spoken s r = refl
  top-warp (Call ps) s r = refl

  top-level : (kept : Kept) (s : Statement) → level_of (top_item kept s) ≡ level_at s kept
  top-level Nothing s = refl
  top-level Loop s = refl
  top-level (Repeat n) s = refl
  top-level (Wait c) s = refl
  top-level (Glide c) s = refl
  top-level (Started ns) s = refl
  top-level Asked s = refl
  top-level Spoken s = refl
  top-level (Call ps) s = refl

  -- the pending list has these levels, and stands in its place with the flag of that place
  pub record Reads (ls : List SavedLevel) (items : List Item) : Type 0 where
    pub levels : levels_of items ≡ ls
    pub stands_in : StandsIn p hat items (warp_on p hat items)

  on_under : (kept : Kept) (k : ℕ) (ls : List SavedLevel) (under : List Item) (s : Statement) (rest : Script) → Under ls under
      → (place_of s).block ≡ k → EndOfOne (Then s rest) (scripts_on p hat under) → Reads (record { block = Some k; kept = kept } ∷ ls) (top_item kept s ∷ dos rest ++ under)
  on_under kept k ls under s rest u at ends =
      let one : level_of (top_item kept s) ≡ record { block = Some k; kept = kept } = top-level kept s ∙ ap (λ j. record { block = Some j; kept = kept }) at in
      let more : map level_of (filter is_marker (dos rest ++ under)) ≡ ls = ap (map level_of) (markers-dos rest under) ∙ u.levels in
      let st = stands s rest under ends u.begins in
      record {
        levels = cc;
        stands_in = (top-first kept s (dos rest ++ under) (warp_on p hat (top_item kept s ∷ dos rest ++ under)) (record { ends = st.ends; warp = top-warp kept s (dos rest ++ under) }), all-dos rest under u.all);
      }

  top_script : (kept : Kept) (k : ℕ) (ls : List SavedLevel) (under items : List Item) (o : Option Script) → Under ls under
      → script_among k (scripts_on p hat under) ≡ o → option_and_then (in_front (λ s. Some (top_item kept s)) under) o ≡ Some items
      → Reads (record { block = Some k; kept = kept } ∷ ls) items
  top_script kept k ls under items None u e h = absurd (cc h)
  top_script kept k ls under items (Some script) u e h =
      let b = among k (scripts_on p hat under) script e in
      subst (Reads (record { block = Some k; kept = kept } ∷ ls)) (same_some _ items (subst (λ v. in_front (λ s. Some (top_item kept s)) under v ≡ Some items) b.is h))
      (on_under kept k ls under b.s b.rest u b.block (subst (λ v. EndOfOne v (scripts_on p hat under)) b.is b.ends))

  top_by : (kept : Kept) (k : ℕ) (ls : List SavedLevel) (items : List Item) (o : Option (List Item)) → items_under p hat ls ≡ o
      → option_and_then (level_on p hat (λ s. Some (top_item kept s)) k) o ≡ Some items → Reads (record { block = Some k; kept = kept } ∷ ls) items
  top_by kept k ls items None e h = absurd (cc h)
  top_by kept k ls items (Some under) e h = top_script kept k ls under items (script_among k (scripts_on p hat under)) (under_all ls under e) refl h

  nothing : (kept : Kept) (ls : List SavedLevel) (items : List Item) → nothing_left kept ls ≡ Some items → Reads (record { block = None; kept = kept } ∷ ls) items
  nothing Nothing [] items h = subst (Reads (record { block = None; kept = Nothing } ∷ [])) (same_some [] items h) (record { levels = refl; stands_in = refl })
  nothing Nothing (l ∷ ls) items h = absurd (cc h)
  nothing Loop ls items h = absurd (cc h)
  nothing (Repeat n) ls items h = absurd (cc h)
  nothing (Wait c) ls items h = absurd (cc h)
  nothing (Glide c) ls items h = absurd (cc h)
  nothing (Started ns) ls items h = absurd (cc h)
  nothing Asked ls items h = absurd (cc h)
  nothing Spoken ls items h = absurd (cc h)
  nothing (Call ps) ls items h = absurd (cc h)

  top : (kept : Kept) (block : Option ℕ) (ls : List SavedLevel) (items : List Item) → top_on p hat kept block ls ≡ Some items → Reads (record { block = block; kept = kept } ∷ ls) items
  top kept None ls items h = nothing kept ls items h
  top kept (Some k) ls items h = top_by kept k ls items (items_under p hat ls) refl h

  pub reads : (ls : List SavedLevel) (items : List Item) → items_of p hat ls ≡ Some items → Reads ls items
  reads [] items h = absurd (cc h)
  reads (l ∷ ls) items h = top l.kept l.block ls items h
