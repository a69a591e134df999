-- What a search keeps.
use Rattle.std.proofs.Common.{◌≡◌, ℕ, zero, suc, ◌<◌, inl, inr, Bool, true, false, not, cond, List, [], ◌∷◌, ◌++◌, length, get_or, set, replicate, Some, refl, ap, ◌∙◌, sym, subst, arith, length-set}
use Rattle.std.specs.Prelude.{slice_get}
use Rattle.std.specs.List.{All, Contains}
use Rattle.std.proofs.lemmas.List.Elements.{All-contains_itself, All-weaker, Contains-append_left, Contains-push, Contains-push_cases}
use Rattle.std.proofs.lemmas.Bool.{cases_eq}
use Rattle.std.proofs.lemmas.List.{length_push, length-replicate}
use Rattle.std.proofs.lemmas.List.Sums.{sum_by-set}
use Rattle.std.proofs.lemmas.Option.{slice_get_within, get_or_from_slice_get}
use Rattle.link_graph.specs.Links.{links_of, IsGraph}
use Rattle.link_graph.specs.Reach.{Reached, start, along, IsReach}
use Rattle.link_graph.specs.Search.{IsSeen, IsGrown, IsSearch}
use Rattle.link_graph.proofs.Sets.{slice_get-set_same, slice_get-set_other, was}

in_one : (y b : ℕ) → Contains (y ∷ []) b → y ≡ b
in_one y b i = elim (Contains-push_cases [] y b i) [ inl p ↦ absurd (let lt = p.1 in omega arith) | inr p ↦ p ]

pub seen_before : (s : List Bool) (t : List ℕ) (b : ℕ) → slice_get s b ≡ Some true → IsGrown (b ∷ []) s t s t
seen_before s t b h = record {
  each = refl;
  all = λ c i. ap (slice_get s) (sym (in_one b c i)) ∙ h;
  kept = λ c p. p;
  only = λ c p. inl p;
  waits = λ c p. inl p;
  still = λ c p. p;
  listed = λ c p. inl p;
  less = omega arith;
}

pub seen_now : (s : List Bool) (t : List ℕ) (b : ℕ) → slice_get s b ≡ Some false → IsGrown (b ∷ []) s t (set s b true) (t ++ b ∷ [])
seen_now s t b h =
    let lt = slice_get_within s b false h in
    let here = slice_get-set_same s b true lt in
    let one_in : Contains (b ∷ []) b = Contains-push [] b in
    let fewer = sum_by-set (λ x. cond {A = ℕ} (not x) 1 0) s b true false lt in
    let g = get_or_from_slice_get s b false false h in
    let a : ◌≡◌ {A = ℕ} (cond (not (get_or s b false)) 1 0) 1 = ap (λ x. cond {A = ℕ} (not x) 1 0) g in
    let n = length_push t b in
    record {
      each = length-set s b true;
      all = λ c i. ap (slice_get (set s b true)) (sym (in_one b c i)) ∙ here;
      kept = λ c p. elim (cases_eq c b) [ inl e ↦ ap (slice_get (set s b true)) e ∙ here | inr n ↦ slice_get-set_other s b c true n ∙ p ];
      only = λ c p. elim (was s b c true true p lt) [ inl q ↦ inr (subst (Contains (b ∷ [])) (sym q.0) one_in) | inr q ↦ inl q.1 ];
      waits = λ c p. elim (was s b c true true p lt) [ inl q ↦ inr (subst (Contains (t ++ b ∷ [])) (sym q.0) (Contains-push t b)) | inr q ↦ inl q.1 ];
      still = λ c p. Contains-append_left t (b ∷ []) c p;
      listed = λ c p. elim (Contains-push_cases t b c p) [ inl q ↦ inl q | inr q ↦ inr (ap (slice_get (set s b true)) (sym q) ∙ here) ];
      less = omega (arith, fewer, a, n);
    }

pub grown_more : (xs : List ℕ) (y : ℕ) (s : List Bool) (t : List ℕ) (s' : List Bool) (t' : List ℕ) (s'' : List Bool) (t'' : List ℕ) → IsGrown xs s t s' t' → IsGrown (y ∷ []) s' t' s'' t'' → IsGrown (xs ++ y ∷ []) s t s'' t''
grown_more xs y s t s' t' s'' t'' a b =
    let y_in : Contains (y ∷ []) y = Contains-push [] y in
    record {
      each = b.each ∙ a.each;
      all = λ c i. elim (Contains-push_cases xs y c i) [ inl p ↦ b.kept c (a.all c p) | inr p ↦ b.all c (subst (Contains (y ∷ [])) p y_in) ];
      kept = λ c p. b.kept c (a.kept c p);
      only = λ c p. elim (b.only c p) [ inl q ↦ elim (a.only c q) [ inl r ↦ inl r | inr r ↦ inr (Contains-append_left xs (y ∷ []) c r) ] | inr q ↦ inr (subst (Contains (xs ++ y ∷ [])) (in_one y c q) (Contains-push xs y)) ];
      waits = λ c p. elim (b.waits c p) [ inl q ↦ elim (a.waits c q) [ inl r ↦ inl r | inr r ↦ inr (b.still c r) ] | inr q ↦ inr q ];
      still = λ c p. b.still c (a.still c p);
      listed = λ c p. elim (b.listed c p) [ inl q ↦ elim (a.listed c q) [ inl r ↦ inl r | inr r ↦ inr (b.kept c r) ] | inr q ↦ inr q ];
      less = (let x = a.less in let z = b.less in omega arith);
    }

-- the links of the block that waited last are followed
pub searched : (g : List (List ℕ)) (starts : List ℕ) (s : List Bool) (t : List ℕ) (b : ℕ) (s' : List Bool) (t' : List ℕ) → IsSearch g starts s (t ++ b ∷ []) → IsGrown (links_of g b) s t s' t' → IsSearch g starts s' t'
searched g starts s t b s' t' x y =
    let b_seen = x.listed b (Contains-push t b) in
    record {
      graph = x.graph;
      each = y.each ∙ x.each;
      begun = λ c i. y.kept c (x.begun c i);
      sound = λ c p. elim (y.only c p) [ inl q ↦ x.sound c q | inr q ↦ along (x.sound b b_seen) q ];
      listed = λ c p. elim (y.listed c p) [ inl q ↦ y.kept c (x.listed c (Contains-append_left t (b ∷ []) c q)) | inr q ↦ q ];
      waits = λ c p. elim (y.waits c p) [
        | inl q ↦ elim (x.waits c q) [
          | inl r ↦ elim (Contains-push_cases t b c r) [ inl u ↦ inl (y.still c u) | inr u ↦ inr (λ d i. y.all d (subst (λ z. Contains (links_of g z) d) (sym u) i)) ]
          | inr r ↦ inr (λ d i. y.kept d (r d i))
        ]
        | inr q ↦ inl q
      ];
    }

slice_get-falses : (n b : ℕ) → slice_get (replicate n false) b ≡ Some true → ⊥
slice_get-falses zero b h = let e = h in cc
slice_get-falses (suc n) zero h = let e = h in cc
slice_get-falses (suc n) (suc b) h = slice_get-falses n b h

pub search_begins : (g : List (List ℕ)) (starts : List ℕ) (n : ℕ) (s : List Bool) (t : List ℕ) → IsGraph g → n ≡ length g → IsGrown starts (replicate n false) [] s t → IsSearch g starts s t
search_begins g starts n s t graph e y =
    let none = λ (b : ℕ) (h : slice_get (replicate n false) b ≡ Some true). slice_get-falses n b h in
    record {
      graph = graph;
      each = y.each ∙ length-replicate n false ∙ e;
      begun = y.all;
      sound = λ c p. elim (y.only c p) [ inl q ↦ absurd (none c q) | inr q ↦ start q ];
      listed = λ c p. elim (y.listed c p) [ inl q ↦ absurd (let lt = q.1 in omega arith) | inr q ↦ q ];
      waits = λ c p. elim (y.waits c p) [ inl q ↦ absurd (none c q) | inr q ↦ inl q ];
    }

all_seen : (g : List (List ℕ)) (starts : List ℕ) (s : List Bool) → IsSearch g starts s [] → {b : ℕ} → Reached g starts b → IsSeen s b
all_seen g starts s x (start {b} i) = x.begun b i
all_seen g starts s x (along {b} {c} r l) = elim (x.waits b (all_seen g starts s x r)) [ inl p ↦ absurd (let lt = p.1 in omega arith) | inr p ↦ p c l ]

pub search_ends : (g : List (List ℕ)) (starts : List ℕ) (s : List Bool) → IsSearch g starts s [] → IsReach g starts s
search_ends g starts s x = record { each = x.each; sound = x.sound; complete = λ b r. all_seen g starts s x r }

-- the links of a block are blocks
pub links_seen : (g : List (List ℕ)) (starts : List ℕ) (s : List Bool) (t : List ℕ) (b : ℕ) → IsSearch g starts s t → All (λ c. c < length s) (links_of g b)
links_seen g starts s t b x = All-weaker (Contains (links_of g b)) (λ c. c < length s) (λ c l. let h = x.graph.closed b c l in let e = x.each in omega arith) _ (All-contains_itself (links_of g b))

-- a block that waited is there
pub last_within : (g : List (List ℕ)) (starts : List ℕ) (s : List Bool) (t : List ℕ) (b : ℕ) → IsSearch g starts s (t ++ b ∷ []) → b < length g
last_within g starts s t b x = let h = slice_get_within s b true (x.listed b (Contains-push t b)) in let e = x.each in omega arith
