-- Where no block is on a cycle, chains of links are no longer than there are blocks, so a script is a block's statement and the script at its next link.
use Rattle.std.proofs.Common.{◌≡◌, ℕ, zero, suc, ◌+◌, ◌<◌, ◌≤◌, Bool, true, false, List, [], ◌∷◌, length, inl, inr, refl, sym, ap, ◌∙◌, subst, arith}
use Rattle.std.specs.Prelude.{◌||◌, slice_get, Option, None, Some, Contains}
use Rattle.std.specs.List.{AllByRecursion, IsDistinct, list_any}
use Rattle.std.proofs.Math.Dec.{eqb}
use Rattle.std.proofs.lemmas.Bool.{eqb-true}
use Rattle.std.proofs.lemmas.Bool.Decides.{eqb_tells}
use Rattle.std.proofs.lemmas.Map.Steps.{length-le_from_distinct_below}
use Rattle.std.proofs.lemmas.Option.{slice_get_within}
use Rattle.machine_spec.specs.Script.{Expression, Script, End, Then}
use Rattle.project_spec.specs.declared.blocks.Block.{Block}
use Rattle.project_spec.specs.Linked.{Place, Behind, In, input_links, leads_to, Leads, Chain, one, more, IsCyclic}
use Rattle.project_spec.specs.Trees.{Sheet, branches, expression, branches_by, target_of_link, block_script, script_within, script, statement}
use Rattle.project_spec.proofs.Unrolling.{has_first, has_more, inputs_lead, branches_lead, next_leads, none_within}
use Rattle.laws_of_threads.specs.Lists.{Each, Member, Differ}
use Rattle.laws_of_threads.proofs.Numbers.{member_below}

-- Numbers that differ

apart : (x : ℕ) (ys : List ℕ) → (Member x ys → ⊥) → AllByRecursion (λ y. eqb x y ≡ false) ys
apart x [] h = tt
apart x (y ∷ ys) h = (elim (eqb_tells x y) [ inl t ↦ absurd (h (inl (sym t.1))) | inr f ↦ f.0 ], apart x ys (λ m. h (inr m)))

distinct : (xs : List ℕ) → Differ xs → IsDistinct eqb xs
unfolding IsDistinct
distinct [] d = tt
distinct (x ∷ xs) d = (apart x xs d.0, distinct xs d.1)

member_by : (c : Bool) (q x : ℕ) (xs : List ℕ) → eqb q x ≡ c → (list_any (eqb q) xs ≡ true → Member q xs) → (c || list_any (eqb q) xs) ≡ true → Member q (x ∷ xs)
member_by true q x xs e f h = inl (sym (eqb-true q x e))
member_by false q x xs e f h = inr (f h)

any_member : (q : ℕ) (xs : List ℕ) → list_any (eqb q) xs ≡ true → Member q xs
any_member q [] h = absurd (cc h)
any_member q (x ∷ xs) h = member_by (eqb q x) q x xs refl (any_member q xs) h

-- numbers below n that differ are at most n
few : (xs : List ℕ) (n : ℕ) → Differ xs → Each (λ x. x < n) xs → length xs ≤ n
few xs n d h = length-le_from_distinct_below xs n (distinct xs d) (λ q e. member_below xs n q h (any_member q xs e))

-- Trails

chain_end : (blocks : List Block) {i j k : ℕ} → Chain blocks i j → Leads blocks j k → Chain blocks i k
chain_end blocks (one l) m = more l (one m)
chain_end blocks (more l r) m = more l (chain_end blocks r m)

-- blocks that differ, from each of which links lead to block k
record IsTrail (blocks : List Block) (trail : List ℕ) (k : ℕ) : Type 0 where
  differ : Differ trail
  there : Each (λ q. q < length blocks) trail
  lead : Each (λ q. Chain blocks q k) trail

chain_of : (blocks : List Block) (k q : ℕ) (trail : List ℕ) → Each (λ x. Chain blocks x k) trail → Member q trail → Chain blocks q k
chain_of blocks k q [] h m = absurd m
chain_of blocks k q (x ∷ xs) h (inl e) = subst (λ y. Chain blocks y k) e h.0
chain_of blocks k q (x ∷ xs) h (inr m) = chain_of blocks k q xs h.1 m

-- Scripts by what they are at links

branches_same : (xs : List (List ℕ × Option ℕ)) (f g : Option ℕ → Script) → f None ≡ g None → ((n : List ℕ) (j : ℕ) → Contains xs (n, Some j) → f (Some j) ≡ g (Some j)) → branches_by f xs ≡ branches_by g xs
branches_same [] f g e h = refl
branches_same ((name, None) ∷ xs) f g e h =
    let more = branches_same xs f g e (λ n j r. h n j (has_more _ _ xs r)) in
    cc (e, more)
branches_same ((name, Some i) ∷ xs) f g e h =
    let first = h name i (has_first _ _ xs refl) in
    let more = branches_same xs f g e (λ n j r. h n j (has_more _ _ xs r)) in
    cc (first, more)

next_same : (o : Option ℕ) (f g : Option ℕ → Script) → f None ≡ g None → ((j : ℕ) → o ≡ Some j → f (Some j) ≡ g (Some j)) → f o ≡ g o
next_same None f g e h = e
next_same (Some j) f g e h = h j refl

script_same : (sheet : Sheet) (k : ℕ) (o : Option Block) (v : ℕ → Expression) (f g : Option ℕ → Script) → f None ≡ g None → ((b : Block) (p : Place) (j : ℕ) → o ≡ Some b → Contains (leads_to b) (p, j) → f (Some j) ≡ g (Some j)) → block_script sheet k o v f ≡ block_script sheet k o v g
script_same sheet k None v f g e h = refl
script_same sheet k (Some b) v f g e h =
    let under = branches_same (branches b) f g e (λ n j r. h b (In n) j refl (inputs_lead b _ (branches_lead b.inputs n j r))) in
    let rest = next_same (target_of_link b.next) f g e (λ j r. h b Behind j refl (next_leads b.next (input_links b) j r)) in
    cc (under, rest)

-- no block, no script
none_there : (sheet : Sheet) (n k : ℕ) → slice_get sheet.blocks k ≡ None → script_within sheet n (Some k) ≡ End
unfolding script_within
none_there sheet zero k h = refl
none_there sheet (suc n) k h = ap (λ o. block_script sheet k o (expression sheet) (script_within sheet n)) h

pub script_nowhere : (sheet : Sheet) (k : ℕ) → slice_get sheet.blocks k ≡ None → script sheet (Some k) ≡ End
unfolding script
script_nowhere sheet k h = none_there sheet (length sheet.blocks) k h

module _ (sheet : Sheet) (acyclic : (k : ℕ) → IsCyclic sheet.blocks k → ⊥) where
  longer : (trail : List ℕ) (k : ℕ) → k < length sheet.blocks → IsTrail sheet.blocks trail k → Differ (k ∷ trail)
  longer trail k l t = ((λ m. acyclic k (chain_of sheet.blocks k k trail t.lead m)), t.differ)

  onward : (trail : List ℕ) (k j : ℕ) → Leads sheet.blocks k j → k < length sheet.blocks → IsTrail sheet.blocks trail k → IsTrail sheet.blocks (k ∷ trail) j
  onward trail k j l lt t = record { differ = longer trail k lt t; there = (lt, t.there); lead = (one l, each_on trail t.lead) }
    where
      each_on : (xs : List ℕ) → Each (λ q. Chain sheet.blocks q k) xs → Each (λ q. Chain sheet.blocks q j) xs
      each_on [] h = tt
      each_on (x ∷ xs) h = (chain_end sheet.blocks h.0 l, each_on xs h.1)

  -- a trail of all blocks leads to none that is there
  at_end : (trail : List ℕ) (k : ℕ) (o : Option Block) → slice_get sheet.blocks k ≡ o → IsTrail sheet.blocks trail k → length sheet.blocks ≤ length trail → o ≡ None
  at_end trail k None e t l = refl
  at_end trail k (Some b) e t l =
      let lt : k < length sheet.blocks = slice_get_within sheet.blocks k b e in
      let f : length (k ∷ trail) ≤ length sheet.blocks = few (k ∷ trail) (length sheet.blocks) (longer trail k lt t) (lt, t.there) in
      absurd (omega arith)

  -- more links than are left of the trail change nothing
  scripts_agree : (n m : ℕ) (trail : List ℕ) (k : ℕ) → IsTrail sheet.blocks trail k → length sheet.blocks ≤ n + length trail → length sheet.blocks ≤ m + length trail → script_within sheet n (Some k) ≡ script_within sheet m (Some k)
  unfolding script_within
  scripts_agree zero m trail k t p q = sym (none_there sheet m k (at_end trail k (slice_get sheet.blocks k) refl t (omega (arith, p))))
  scripts_agree (suc n) zero trail k t p q = none_there sheet (suc n) k (at_end trail k (slice_get sheet.blocks k) refl t (omega (arith, q)))
  scripts_agree (suc n) (suc m) trail k t p q =
      script_same sheet k (slice_get sheet.blocks k) (expression sheet) (script_within sheet n) (script_within sheet m) (none_within sheet n ∙ sym (none_within sheet m)) (λ b place j e r.
      scripts_agree n m (k ∷ trail) j (onward trail k j (record { block = b; place = place; held = e; link = r }) (slice_get_within sheet.blocks k b e) t) (omega (arith, p)) (omega (arith, q)))

  -- the script at a block
  pub script_there : (k : ℕ) (b : Block) → slice_get sheet.blocks k ≡ Some b → script sheet (Some k) ≡ Then (statement sheet k b) (script sheet (target_of_link b.next))
  unfolding script
  script_there k b h =
      let agree = scripts_agree (length sheet.blocks) (suc (length sheet.blocks)) [] k (record { differ = tt; there = tt; lead = tt }) (omega arith) (omega arith) in
      agree ∙ unfold script_within in ap (λ o. block_script sheet k o (expression sheet) (script_within sheet (length sheet.blocks))) h
