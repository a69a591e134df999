-- The levels of a pending list that stands in its place stand for this list.
use Rattle.std.proofs.Common.{◌≡◌, ℕ, ◌==◌, Bool, true, false, if◌then◌else◌, ◌&&◌, List, [], ◌∷◌, ◌++◌, map, filter, Option, Some, None, option_map, option_and_then, inl, inr, refl, sym, ap, ◌∙◌, subst}
use Rattle.std.specs.List.{list_all}
use Rattle.std.specs.Option.{option_or}
use Rattle.std.proofs.lemmas.Bool.Decides.{Decides-eqb}
use Rattle.opcode_table.specs.declared.kinds.Kind.{Kind}
use Rattle.opcode_table.specs.declared.kinds.Kind.TheVariants.{Choice, Endless, Counted, Calls, Waits, Glides, Starts, Asks, Speaks, Plain}
use Rattle.opcode_table.specs.Kinds.{kind}
use Rattle.machine_spec.specs.declared.threads.Context.{Context}
use Rattle.machine_spec.specs.declared.threads.Context.TheVariants as context
use Rattle.machine_spec.specs.Legal.{EndOf, EndOfOne, Stands, script_of, scripts_on, warp_on}
use Rattle.machine_spec.specs.Pending.{Item, Do, Held, Returned, Branch, Again, Back, dos}
use Rattle.machine_spec.specs.Program.{Program}
use Rattle.machine_spec.specs.Script.{Script, End, Then, Statement, place_of, op_of}
use Rattle.saved_spec.specs.Tasks.{is_marker}
use Rattle.saved_spec.specs.Kept.{Kept, Nothing, Call, kept_of, level_at, level_of, levels_of}
use Rattle.saved_spec.specs.Legal.{AllStand, StandsIn, BlocksAgree}
use Rattle.saved_spec.specs.Levels.{script_from, script_among, top_item, marker_of, in_front, level_on, marker_on, items_under, items_of}
use Rattle.saved_spec.specs.ThreadRules.{loops_with, may_keep, first_fits, marker_fits, items_fit}
use Rattle.saved_spec.proofs.Standing.{among}

-- Some chain has the block

has_from_if : (c : Bool) (k : ℕ) (s t : Statement) (rest u : Script) → ((place_of s).block ≡ k → c ≡ true) → (EndOf (Then t u) rest → (v : Script) × (script_from k rest ≡ Some v))
    → (place_of t).block ≡ k → EndOf (Then t u) (Then s rest) → (v : Script) × ((if c then Some (Then s rest) else script_from k rest) ≡ Some v)
has_from_if true k s t rest u e more at ends = (Then s rest, refl)
has_from_if false k s t rest u e more at (inl same) = absurd (let a : s ≡ t = cc in let b = e (subst (λ x. (place_of x).block ≡ k) (sym a) at) in cc)
has_from_if false k s t rest u e more at (inr ends) = more ends

has_from : (k : ℕ) (t : Statement) (u script : Script) → (place_of t).block ≡ k → EndOf (Then t u) script → (v : Script) × (script_from k script ≡ Some v)
has_from k t u End at ends = absurd (cc ends)
has_from k t u (Then s rest) at ends = has_from_if ((place_of s).block == k) k s t rest u (Decides-eqb (place_of s).block k).1 (has_from k t u rest at) at ends

or_some : (o more : Option Script) → ((v : Script) × (more ≡ Some v)) → (v : Script) × (option_or o more ≡ Some v)
or_some None more h = h
or_some (Some v) more h = (v, refl)

first_some : (o more : Option Script) → ((v : Script) × (o ≡ Some v)) → (v : Script) × (option_or o more ≡ Some v)
first_some None more h = absurd (let e = h.1 in cc)
first_some (Some v) more h = (v, refl)

has_among : (k : ℕ) (t : Statement) (u : Script) (scripts : List Script) → (place_of t).block ≡ k → EndOfOne (Then t u) scripts → (v : Script) × (script_among k scripts ≡ Some v)
has_among k t u [] at ends = absurd ends
has_among k t u (script ∷ more) at (inl ends) = first_some (script_from k script) (script_among k more) (has_from k t u script at ends)
has_among k t u (script ∷ more) at (inr ends) = or_some (script_from k script) (script_among k more) (has_among k t u more at ends)

-- What a level can keep

pub both : (a b : Bool) → (a && b) ≡ true → (a ≡ true) × (b ≡ true)
both true b h = (refl, h)
both false b h = absurd (cc h)

is_loop : (k : Kind) (c : Context) (w : Bool) (s : Statement) → loops_with k c ≡ true → marker_of (kept_of c) w s ≡ Some (Again s c w)
is_loop Endless context.Fresh w s h = refl
is_loop Counted (context.Repeat n) w s h = refl
is_loop k c w s h = absurd (cc h)

no_call : (clock : ℕ) (k : Kind) → may_keep clock k context.Called ≡ false
no_call clock Choice = refl
no_call clock Endless = refl
no_call clock Counted = refl
no_call clock Calls = refl
no_call clock Waits = refl
no_call clock Glides = refl
no_call clock Starts = refl
no_call clock Asks = refl
no_call clock Speaks = refl
no_call clock Plain = refl

is_held : (clock : ℕ) (k : Kind) (c : Context) (s : Statement) → may_keep clock k c ≡ true → top_item (kept_of c) s ≡ Held s c
is_held clock k context.Fresh s h = refl
is_held clock k (context.Repeat n) s h = refl
is_held clock k (context.Wait v) s h = refl
is_held clock k (context.Glide g) s h = refl
is_held clock k (context.Started ns) s h = refl
is_held clock k context.Asked s h = refl
is_held clock k context.Spoken s h = refl
is_held clock k context.Called s h = absurd (let e = no_call clock k in cc)

-- What stands under the level of a pending list
after_dos : List Item → List Item
after_dos [] = []
after_dos (Do s ∷ r) = after_dos r
after_dos (Held s c ∷ r) = Held s c ∷ r
after_dos (Returned s ps ∷ r) = Returned s ps ∷ r
after_dos (Branch s w ∷ r) = Branch s w ∷ r
after_dos (Again s c w ∷ r) = Again s c w ∷ r
after_dos (Back s ps w ∷ r) = Back s ps w ∷ r

with_dos : (r : List Item) → dos (script_of r) ++ after_dos r ≡ r
unfolding after_dos
with_dos [] = refl
with_dos (Do s ∷ r) = ap (λ t. Do s ∷ t) (with_dos r)
with_dos (Held s c ∷ r) = refl
with_dos (Returned s ps ∷ r) = refl
with_dos (Branch s w ∷ r) = refl
with_dos (Again s c w ∷ r) = refl
with_dos (Back s ps w ∷ r) = refl

module _ (p : Program) (hat : Script) where
  scripts-after : (r : List Item) → scripts_on p hat (after_dos r) ≡ scripts_on p hat r
  unfolding after_dos
  scripts-after [] = refl
  scripts-after (Do s ∷ r) = scripts-after r
  scripts-after (Held s c ∷ r) = refl
  scripts-after (Returned s ps ∷ r) = refl
  scripts-after (Branch s w ∷ r) = refl
  scripts-after (Again s c w ∷ r) = refl
  scripts-after (Back s ps w ∷ r) = refl

  warp-after : (r : List Item) → warp_on p hat (after_dos r) ≡ warp_on p hat r
  unfolding after_dos
  warp-after [] = refl
  warp-after (Do s ∷ r) = warp-after r
  warp-after (Held s c ∷ r) = refl
  warp-after (Returned s ps ∷ r) = refl
  warp-after (Branch s w ∷ r) = refl
  warp-after (Again s c w ∷ r) = refl
  warp-after (Back s ps w ∷ r) = refl

  -- the script that is found is that of the statement
  found : BlocksAgree p hat → (s : Statement) (r : List Item) (w : Bool) → AllStand p hat r → Stands p hat (Then s (script_of r)) r w
      → script_among (place_of s).block (scripts_on p hat (after_dos r)) ≡ Some (Then s (script_of r))
  found agreed s r w all st =
      let h = has_among (place_of s).block s (script_of r) (scripts_on p hat r) refl st.ends in
      let b = among (place_of s).block (scripts_on p hat r) h.0 h.1 in
      let e : EndOfOne (Then b.s b.rest) (scripts_on p hat r) = subst (λ v. EndOfOne v (scripts_on p hat r)) b.is b.ends in
      let one : Then b.s b.rest ≡ agreed.script_at (place_of b.s).block = agreed.agree r b.s b.rest all e in
      let two : Then s (script_of r) ≡ agreed.script_at (place_of s).block = agreed.agree r s (script_of r) all st.ends in
      ap (script_among (place_of s).block) (scripts-after r) ∙ h.1 ∙ ap Some (b.is ∙ one ∙ ap agreed.script_at b.block ∙ sym two)

  -- a marker in front of what stands under it
  marked : BlocksAgree p hat → (kept : Kept) (x : Item) (s : Statement) (r : List Item) (w : Bool) → AllStand p hat r → Stands p hat (Then s (script_of r)) r w
      → marker_of kept w s ≡ Some x → items_under p hat (map level_of (filter is_marker r)) ≡ Some (after_dos r)
      → items_under p hat (level_at s kept ∷ map level_of (filter is_marker r)) ≡ Some (x ∷ r)
  marked agreed kept x s r w all st e more =
      ap (option_and_then (marker_on p hat kept (Some (place_of s).block))) more
      ∙ ap (option_and_then (in_front (marker_of kept (warp_on p hat (after_dos r))) (after_dos r))) (found agreed s r w all st)
      ∙ ap (λ v. option_map (λ y. y ∷ dos (script_of r) ++ after_dos r) (marker_of kept v s)) (warp-after r ∙ sym st.warp)
      ∙ ap (option_map (λ y. y ∷ dos (script_of r) ++ after_dos r)) e
      ∙ ap (λ t. Some (x ∷ t)) (with_dos r)

  under : BlocksAgree p hat → (r : List Item) → AllStand p hat r → list_all (marker_fits p) r ≡ true
      → items_under p hat (map level_of (filter is_marker r)) ≡ Some (after_dos r)
  unfolding after_dos
  under agreed [] all fits = refl
  under agreed (Do s ∷ r) all fits = under agreed r all.1 fits
  under agreed (Held s c ∷ r) all fits = absurd all.0
  under agreed (Returned s ps ∷ r) all fits = absurd all.0
  under agreed (Branch s w ∷ r) all fits = marked agreed Nothing (Branch s w) s r w all.1 all.0 refl (under agreed r all.1 (both _ _ fits).1)
  under agreed (Again s c w ∷ r) all fits =
      let f = both _ _ fits in marked agreed (kept_of c) (Again s c w) s r w all.1 all.0 (is_loop (kind (op_of s)) c w s f.0) (under agreed r all.1 f.1)
  under agreed (Back s ps w ∷ r) all fits = marked agreed (Call ps) (Back s ps w) s r w all.1 all.0 refl (under agreed r all.1 (both _ _ fits).1)

  -- the top level in front of what stands under it
  topped : BlocksAgree p hat → (kept : Kept) (x : Item) (s : Statement) (r : List Item) (w : Bool) → AllStand p hat r → Stands p hat (Then s (script_of r)) r w
      → top_item kept s ≡ x → items_under p hat (map level_of (filter is_marker r)) ≡ Some (after_dos r)
      → items_of p hat (level_at s kept ∷ map level_of (filter is_marker r)) ≡ Some (x ∷ r)
  topped agreed kept x s r w all st e more =
      ap (option_and_then (level_on p hat (λ t. Some (top_item kept t)) (place_of s).block)) more
      ∙ ap (option_and_then (in_front (λ t. Some (top_item kept t)) (after_dos r))) (found agreed s r w all st)
      ∙ ap (λ y. Some (y ∷ dos (script_of r) ++ after_dos r)) e
      ∙ ap (λ t. Some (x ∷ t)) (with_dos r)

  pub placed : BlocksAgree p hat → (clock : ℕ) (items : List Item) (w : Bool) → StandsIn p hat items w → items_fit p clock items ≡ true → items_of p hat (levels_of items) ≡ Some items
  placed agreed clock [] w st fits = refl
  placed agreed clock (Do s ∷ r) w st fits =
      topped agreed Nothing (Do s) s r w st.1 st.0 refl (under agreed r st.1 (both (first_fits p clock (Do s)) (list_all (marker_fits p) r) fits).1)
  placed agreed clock (Held s c ∷ r) w st fits =
      let f = both (first_fits p clock (Held s c)) (list_all (marker_fits p) r) fits in topped agreed (kept_of c) (Held s c) s r w st.1 st.0 (is_held clock (kind (op_of s)) c s f.0) (under agreed r st.1 f.1)
  placed agreed clock (Returned s ps ∷ r) w st fits =
      topped agreed (Call ps) (Returned s ps) s r w st.1 st.0 refl (under agreed r st.1 (both (first_fits p clock (Returned s ps)) (list_all (marker_fits p) r) fits).1)
  placed agreed clock (Branch s v ∷ r) w st fits = absurd st.0
  placed agreed clock (Again s c v ∷ r) w st fits = absurd st.0
  placed agreed clock (Back s ps v ∷ r) w st fits = absurd st.0
