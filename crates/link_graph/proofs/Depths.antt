-- Depths in the order of ranks.
use Rattle.std.proofs.Common.{◌≡◌, ℕ, ◌+◌, ◌<◌, ◌≤◌, ◌⊎◌, inl, inr, Bool, List, length, set, Some, sym, ap, subst, ◌∙◌, arith}
use Rattle.std.specs.Prelude.{slice_get, slice_index}
use Rattle.std.proofs.lemmas.Bool.{cases_lt}
use Rattle.std.proofs.lemmas.List.{get_or-set_same, get_or-set_other}
use Rattle.std.proofs.lemmas.Option.{same_Some}
use Rattle.link_graph.specs.Links.{links_of, Links, HasRanks, IsListing, IsClosed}
use Rattle.link_graph.specs.Depth.{weight, Nests, ends, goes_on, IsDeep}
use Rattle.link_graph.specs.DepthTable.{IsDepth}
use Rattle.link_graph.proofs.Sets.{contains_at, place_of}

-- what chains from the block have, by the depths of what it links to
no_more : (g : List (List ℕ)) (counts : List Bool) (b d : ℕ) (f : ℕ → ℕ) → ((c : ℕ) → Links g b c → f c ≤ d) → ((c : ℕ) → Links g b c → (n : ℕ) → Nests g counts c n → n ≤ f c) → (n : ℕ) → Nests g counts b n → n ≤ weight counts b + d
no_more g counts b d f most below n (ends e) = omega arith
no_more g counts b d f most below n (goes_on l r e) = let x = most _ l in let y = below _ l _ r in omega arith

-- the block at place i of the listing gets its depth, those before it have theirs
module _ (g : List (List ℕ)) (counts : List Bool) (ranks order : List ℕ) (closed : IsClosed g) (has : HasRanks g ranks) (is : IsListing ranks order) (depths : List ℕ) (each : length depths ≡ length g) (i b w d : ℕ) (there : slice_get order i ≡ Some b) (weighs : w ≡ weight counts b)
    (most : (k c : ℕ) → slice_get (links_of g b) k ≡ Some c → slice_index depths c ≤ d)
    (one : (d ≡ 0) ⊎ ((k : ℕ) × (c : ℕ) × (slice_get (links_of g b) k ≡ Some c) × (slice_index depths c ≡ d)))
    (small : w ≤ 1)
    (before : (a : ℕ) → a < length g → slice_index ranks a < i → IsDepth g counts ranks depths a) where
  lower : (c : ℕ) → Links g b c → IsDepth g counts ranks depths c
  lower c l = before c (closed b c l) (let f = has.falls b c l in let p = (is.placed i b there).1 in omega arith)

  reads : (v : ℕ) → slice_index (set depths b v) b ≡ v
  reads v = get_or-set_same depths b v 0 (let h = (is.placed i b there).0 in let e = has.each in omega arith)

  others : (v a : ℕ) → slice_index ranks a < i → slice_index (set depths b v) a ≡ slice_index depths a
  others v a h = get_or-set_other depths b a v 0 (λ (e : a ≡ b). let p = (is.placed i b there).1 in let q : slice_index ranks a ≡ slice_index ranks b = ap (slice_index ranks) e in omega (arith, h))

  pub depth_small : w + d ≤ slice_index ranks b + 1
  depth_small = elim one [
    | inl z ↦ (omega (arith, z))
    | inr z ↦ (let l = contains_at _ _ _ z.2 in let y = (lower z.1 l).small in let f = has.falls b z.1 l in let q = z.3 in omega arith)
  ]

  depth_at : IsDepth g counts ranks (set depths b (w + d)) b
  depth_at =
      let r = reads (w + d) in
      record {
        most = λ n x. (let y = no_more g counts b d (slice_index depths) (λ c l. let p = place_of _ c l in most p.0 c p.1) (λ c l. (lower c l).most) n x in omega arith);
        some = elim one [
          | inl z ↦ ends (let e = weighs in omega (arith, z))
          | inr z ↦ (let l = contains_at _ _ _ z.2 in goes_on l (lower z.1 l).some (let e = weighs in let q = z.3 in omega (arith, r)))
        ];
        small = (let x = depth_small in omega (arith, r));
      }

  depth_kept : (v a : ℕ) → a < length g → slice_index ranks a < i → IsDepth g counts ranks (set depths b v) a
  depth_kept v a h lt =
      let x = before a h lt in
      let e = others v a lt in
      record {
        most = λ n z. (let y = x.most n z in omega arith);
        some = subst (Nests g counts a) (sym e) x.some;
        small = (let y = x.small in omega arith);
      }

  pub depths_more : (a : ℕ) → a < length g → slice_index ranks a < i + 1 → IsDepth g counts ranks (set depths b (w + d)) a
  depths_more a h lt = elim (cases_lt (slice_index ranks a) i) [
    | inl p ↦ depth_kept (w + d) a h p
    | inr p ↦ (let q : slice_index ranks a ≡ i = omega arith in
        let n : a < length ranks = let e = has.each in omega arith in
        let s : Some a ≡ Some b = sym (is.places a n) ∙ ap (slice_get order) q ∙ there in
        let e : a ≡ b = same_Some a b s in
        subst (IsDepth g counts ranks (set depths b (w + d))) (sym e) depth_at)
  ]

pub shallow : (g : List (List ℕ)) (counts : List Bool) (ranks depths : List ℕ) (limit b : ℕ) → IsDepth g counts ranks depths b → slice_index depths b ≤ limit → IsDeep g counts limit b → ⊥
shallow g counts ranks depths limit b x h y = let z = x.most y.0 y.2 in let q = y.1 in omega arith
