-- What marking misfits keeps.
use Rattle.std.proofs.Common.{◌≡◌, ℕ, ◌+◌, ◌<◌, inl, inr, Bool, true, false, cond, List, [], ◌∷◌, ◌++◌, length, get_or, set, take, replicate, Option, None, Some, zero, suc, refl, ap, ◌∙◌, sym, subst, arith, length-set}
use Rattle.std.specs.Prelude.{slice_get}
use Rattle.std.specs.List.{Contains}
use Rattle.std.proofs.lemmas.Bool.{cases_lt, cases_eq}
use Rattle.std.proofs.lemmas.List.{length-replicate, take_more}
use Rattle.std.proofs.lemmas.List.Elements.{Contains-append_left, Contains-append_right, Contains-append_cases, Contains-push}
use Rattle.std.proofs.lemmas.Option.{slice_get_within, same_Some}
use Rattle.link_graph.proofs.Sets.{slice_get-set_same, slice_get-set_other, was}
use Rattle.project_spec.specs.declared.blocks.Input.{Input}
use Rattle.project_spec.specs.declared.blocks.Block.{Block}
use Rattle.project_spec.specs.Linked.{Place, In, leads_to, fits, misfit, misfits}
use Rattle.project_spec.specs.Refusals.{IsMisfit}
use Rattle.block_checks.specs.Kept.{AreChecked}
use Rattle.block_checks.specs.Marks.{IsMarked, IsMarking, misfit_if, misfits_by, misfits_in, AreMarked}
use Rattle.block_checks.specs.Rows.{known, link_in}
use Rattle.block_checks.proofs.Links.{misfits_push}
use Rattle.block_checks.proofs.Lists.{in_none, in_one, contains_from_flat_map}

pub marking_none : (m : List Bool) → IsMarking [] m m
marking_none m = record {
  each = refl;
  kept = λ k h. h;
  found = λ k b c. absurd (in_none (k, b) c);
  only = λ k h. inl h;
}

pub marking_more : (xs ys : List (ℕ × Block)) (m m' m'' : List Bool) → IsMarking xs m m' → IsMarking ys m' m'' → IsMarking (xs ++ ys) m m''
marking_more xs ys m m' m'' a b = record {
  each = b.each ∙ a.each;
  kept = λ k h. b.kept k (a.kept k h);
  found = λ k c h. elim (Contains-append_cases xs ys (k, c) h) [ inl p ↦ b.kept k (a.found k c p) | inr p ↦ b.found k c p ];
  only = λ k h. elim (b.only k h) [
    | inl p ↦ elim (a.only k p) [ inl q ↦ inl q | inr q ↦ inr (q.0, Contains-append_left xs ys (k, q.0) q.1) ]
    | inr p ↦ inr (p.0, Contains-append_right xs ys (k, p.0) p.1)
  ];
}

pub marking_one : (m : List Bool) (k : ℕ) (b : Block) → k < length m → IsMarking ((k, b) ∷ []) m (set m k true)
marking_one m k b lt = record {
  each = length-set m k true;
  kept = λ j h. elim (cases_eq j k) [ inl e ↦ ap (slice_get (set m k true)) e ∙ slice_get-set_same m k true lt | inr n ↦ slice_get-set_other m k j true n ∙ h ];
  found = λ j c h. (let e : k ≡ j = ap (λ (x : ℕ × Block). x.0) (in_one (k, b) (j, c) h) in ap (slice_get (set m k true)) (sym e) ∙ slice_get-set_same m k true lt);
  only = λ j h. elim (was m k j true true h lt) [
    | inl p ↦ inr (b, subst (λ i. Contains {X = ℕ × Block} ((k, b) ∷ []) (i, b)) (sym p.0) (Contains-push [] (k, b)))
    | inr p ↦ inl p.1
  ];
}

pub misfit_none : (blocks : List Block) (b : Block) (place : Place) (k : ℕ) → slice_get blocks k ≡ None → misfit blocks b (place, k) ≡ []
misfit_none blocks b place k h = rw h refl

pub misfit_some : (blocks : List Block) (b c : Block) (place : Place) (k : ℕ) → slice_get blocks k ≡ Some c → misfit blocks b (place, k) ≡ misfit_if (fits b place c) k c
misfit_some blocks b c place k h = rw h refl

-- a block that a link leads to, and none

pub marking_at : (blocks : List Block) (holder b : Block) (place : Place) (o : Option ℕ) (k : ℕ) (t : Bool) (m m' : List Bool) → o ≡ Some k → slice_get blocks k ≡ Some b → t ≡ fits holder place b → IsMarking (misfit_if t k b) m m' → IsMarking (misfits_by blocks holder place o) m m'
marking_at blocks holder b place o k t m m' is held e x =
    let same : misfits_by blocks holder place o ≡ misfit_if t k b = ap (misfits_by blocks holder place) is ∙ misfit_some blocks holder b place k held ∙ ap (λ u. misfit_if u k b) (sym e) in
    subst (λ xs. IsMarking xs m m') (sym same) x

pub marking_past : (blocks : List Block) (holder : Block) (place : Place) (o : Option ℕ) (k : ℕ) (m : List Bool) → o ≡ Some k → slice_get blocks k ≡ None → IsMarking (misfits_by blocks holder place o) m m
marking_past blocks holder place o k m is none =
    let same : misfits_by blocks holder place o ≡ [] = ap (misfits_by blocks holder place) is ∙ misfit_none blocks holder place k none in
    subst (λ xs. IsMarking xs m m) (sym same) (marking_none m)

-- the misfits of one more input
pub marking_inputs : (blocks : List Block) (holder : Block) (inputs : List (List ℕ × Input)) (i : ℕ) (x : List ℕ × Input) (m m' m'' : List Bool) → i < length inputs → x ≡ get_or inputs i x → IsMarking (misfits_in blocks holder (take i inputs)) m m' → IsMarking (misfits_by blocks holder (In x.0) (known (link_in x.1))) m' m'' → IsMarking (misfits_in blocks holder (take (i + 1) inputs)) m m''
marking_inputs blocks holder inputs i x m m' m'' lt is a b =
    let e : take (i + 1) inputs ≡ take i inputs ++ x ∷ [] = take_more inputs i x lt ∙ ap (λ y. take i inputs ++ y ∷ []) (sym is) in
    let f = misfits_push blocks holder (take i inputs) x.0 x.1 in
    subst (λ l. IsMarking (misfits_in blocks holder l) m m'') (sym e) (subst (λ those. IsMarking those m m'') (sym f) (marking_more _ _ m m' m'' a b))

in_misfit_if : (t : Bool) (j k : ℕ) (b c : Block) → Contains (misfit_if t j b) (k, c) → (j ≡ k) × (b ≡ c)
in_misfit_if true j k b c h = absurd (in_none (k, c) h)
in_misfit_if false j k b c h = let e = in_one (j, b) (k, c) h in (ap (λ (x : ℕ × Block). x.0) e, ap (λ (x : ℕ × Block). x.1) e)

in_misfit : (blocks : List Block) (b c : Block) (place : Place) (j k : ℕ) (o : Option Block) → slice_get blocks j ≡ o → Contains (misfit blocks b (place, j)) (k, c) → slice_get blocks k ≡ Some c
in_misfit blocks b c place j k None e h = absurd (in_none (k, c) (subst (λ xs. Contains xs (k, c)) (misfit_none blocks b place j e) h))
in_misfit blocks b c place j k (Some d) e h =
    let p = in_misfit_if (fits b place d) j k d c (subst (λ xs. Contains xs (k, c)) (misfit_some blocks b d place j e) h) in
    ap (slice_get blocks) (sym p.0) ∙ e ∙ ap Some p.1

-- a misfit is the block of its number
pub misfit_held : (blocks : List Block) (b c : Block) (k : ℕ) → Contains (misfits blocks b) (k, c) → slice_get blocks k ≡ Some c
misfit_held blocks b c k h =
    let x = contains_from_flat_map (misfit blocks b) (leads_to b) (k, c) h in
    in_misfit blocks b c x.0.0 x.0.1 k (slice_get blocks x.0.1) refl x.2

slice_get-falses : (n k : ℕ) → slice_get (replicate n false) k ≡ Some true → ⊥
slice_get-falses zero k h = let e = h in cc
slice_get-falses (suc n) zero h = let e = h in cc
slice_get-falses (suc n) (suc k) h = slice_get-falses n k h

pub marked_none : (blocks : List Block) (checked : List Bool) (n : ℕ) → n ≡ length blocks → AreMarked blocks checked 0 (replicate n false)
marked_none blocks checked n e = record {
  each = length-replicate n false ∙ e;
  sound = λ k h. absurd (slice_get-falses n k h);
  complete = λ k i b c lt t g h. absurd (omega arith);
}

-- the misfits of a block, where it is checked
pub marked_more : (blocks : List Block) (checked m m' : List Bool) (i : ℕ) (b : Block) (t : Bool) → slice_get blocks i ≡ Some b → slice_get checked i ≡ Some t → AreMarked blocks checked i m → IsMarking (cond t (misfits blocks b) []) m m' → AreMarked blocks checked (i + 1) m'
marked_more blocks checked m m' i b true held is a x = record {
  each = x.each ∙ a.each;
  sound = λ k h. elim (x.only k h) [ inl p ↦ a.sound k p | inr p ↦ (i, b, p.0, is, held, p.1) ];
  complete = λ k j d c lt t g h. elim (cases_lt j i) [
    | inl p ↦ x.kept k (a.complete k j d c p t g h)
    | inr p ↦ (let e : j ≡ i = omega arith in let s : d ≡ b = same_Some d b (sym g ∙ ap (slice_get blocks) e ∙ held) in x.found k c (subst (λ y. Contains (misfits blocks y) (k, c)) s h))
  ];
}
marked_more blocks checked m m' i b false held is a x = record {
  each = x.each ∙ a.each;
  sound = λ k h. elim (x.only k h) [ inl p ↦ a.sound k p | inr p ↦ absurd (in_none (k, p.0) p.1) ];
  complete = λ k j d c lt t g h. elim (cases_lt j i) [
    | inl p ↦ x.kept k (a.complete k j d c p t g h)
    | inr p ↦ absurd (let e : j ≡ i = omega arith in let s : Some true ≡ Some false = sym t ∙ ap (slice_get checked) e ∙ is in cc)
  ];
}

-- a marked block is a misfit, and a misfit is marked

pub is_misfit : (blocks : List Block) (checked marks : List Bool) (k : ℕ) (b : Block) → AreChecked blocks checked → AreMarked blocks checked (length blocks) marks → slice_get blocks k ≡ Some b → IsMarked marks k → IsMisfit blocks k b
is_misfit blocks checked marks k b c m held h =
    let s = m.sound k h in
    let e : s.2 ≡ b = same_Some s.2 b (sym (misfit_held blocks s.1 s.2 k s.5) ∙ held) in
    record {
      from = s.0;
      leading = s.1;
      checked = c.sound s.0 s.3;
      held = s.4;
      unfit = subst (λ y. Contains (misfits blocks s.1) (k, y)) e s.5;
    }

pub misfit_marked : (blocks : List Block) (checked marks : List Bool) (k : ℕ) (b : Block) → AreChecked blocks checked → AreMarked blocks checked (length blocks) marks → IsMisfit blocks k b → IsMarked marks k
misfit_marked blocks checked marks k b c m x = m.complete k x.from x.leading b (slice_get_within blocks x.from x.leading x.held) (c.complete x.from x.checked) x.held x.unfit
