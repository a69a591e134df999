-- The names of parameters against those of a prototype, name by name.
use Rattle.std.proofs.Common.{◌≡◌, ℕ, zero, suc, ◌+◌, ◌<◌, ◌≤◌, ◌==◌, Bool, true, false, ◌&&◌, ◌||◌, List, [], ◌∷◌, ◌++◌, length, take, drop, map, refl, sym, ap, ◌∙◌, arith, append_assoc}
use Rattle.std.specs.Prelude.{slice_get, slice_index_or, bytes_eq, if◌then◌else◌}
use Rattle.std.proofs.lemmas.List.{drop_more}
use Rattle.std.specs.List.{list_any}
use Rattle.std.proofs.lemmas.Slice.Eq.{bytes_eq-Decides}
use Rattle.machine_spec.specs.Legal.{with_name, distinct_after}
use Rattle.saved_spec.specs.ThreadRules.{same_texts}
use Rattle.saved_levels.specs.Naming.{has_at}
use Rattle.saved_levels.proofs.Together.{and_false}

-- more names stand behind those before
extends_by : (n : List ℕ) (before : List (List ℕ)) (c : Bool) → (more : List (List ℕ)) × ((if c then before else before ++ n ∷ []) ≡ before ++ more)
extends_by n before true = ([], nil before)
  where
    nil : (xs : List (List ℕ)) → xs ≡ xs ++ []
    nil [] = refl
    nil (x ∷ xs) = ap (λ ys. x ∷ ys) (nil xs)
extends_by n before false = (n ∷ [], refl)

extends : (before ns : List (List ℕ)) → (more : List (List ℕ)) × (distinct_after before ns ≡ before ++ more)
extends before [] = (extends_by [] before true)
extends before (n ∷ ns) =
    let a = extends_by n before (list_any (λ m. bytes_eq m n) before) in
    let b = extends (with_name n before) ns in
    (a.0 ++ b.0, b.1 ∙ ap (λ xs. xs ++ b.0) a.1 ∙ append_assoc before a.0 b.0)

differ_at : (count : ℕ) (ps : List (List ℕ)) (n : List ℕ) (more : List (List ℕ)) → count ≤ length ps → has_at (λ m. bytes_eq m n) (slice_get ps count) ≡ false → same_texts ps (take count ps ++ n ∷ more) ≡ false
differ_at zero [] n more l e = refl
differ_at zero (p ∷ ps) n more l e = ap (λ c. c && same_texts ps more) e
differ_at (suc count) [] n more l e = absurd (omega (arith, l))
differ_at (suc count) (p ∷ ps) n more l e = and_false (bytes_eq p p) (same_texts ps (take count ps ++ n ∷ more)) (differ_at count ps n more (omega (arith, l)) e)

self : (p : List ℕ) → bytes_eq p p ≡ true
self p = (bytes_eq-Decides p p).1 refl

one_more : (a b : ℕ) → (a == b) ≡ (suc a == suc b)
one_more a b = grind arith

all_same : (count : ℕ) (ps : List (List ℕ)) → count ≤ length ps → same_texts ps (take count ps) ≡ (count == length ps)
all_same zero [] l = refl
all_same zero (p ∷ ps) l = grind arith
all_same (suc count) [] l = absurd (omega (arith, l))
all_same (suc count) (p ∷ ps) l = ap (λ c. c && same_texts ps (take count ps)) (self p) ∙ all_same count ps (omega (arith, l)) ∙ one_more count (length ps)

take_next : (count : ℕ) (ps : List (List ℕ)) (n : List ℕ) → has_at (λ m. bytes_eq m n) (slice_get ps count) ≡ true → (take count ps ++ n ∷ [] ≡ take (suc count) ps) × (count < length ps)
take_next count [] n e = absurd (cc e)
take_next zero (p ∷ ps) n e = (ap (λ m. m ∷ []) (sym ((bytes_eq-Decides p n).0 e)), omega arith)
take_next (suc count) (p ∷ ps) n e = let r = take_next count ps n e in (ap (λ xs. p ∷ xs) r.0, omega (arith, r.1))

-- what is still to be compared
abbrev pub left_from : List (List ℕ) → ℕ → List (List ℕ) → Bool
left_from ps count ns = same_texts ps (distinct_after (take count ps) ns)

module _ (ps : List (List ℕ)) (whole : Bool) where
  seen_before : (count : ℕ) (n : List ℕ) (ns : List (List ℕ)) → left_from ps count (n ∷ ns) ≡ whole → list_any (λ m. bytes_eq m n) (take count ps) ≡ true → left_from ps count ns ≡ whole
  seen_before count n ns e seen = ap (λ c. same_texts ps (distinct_after (if c then take count ps else take count ps ++ n ∷ []) ns)) (sym seen) ∙ e

  new_name : (count : ℕ) (n : List ℕ) (ns : List (List ℕ)) → left_from ps count (n ∷ ns) ≡ whole → list_any (λ m. bytes_eq m n) (take count ps) ≡ false → same_texts ps (distinct_after (take count ps ++ n ∷ []) ns) ≡ whole
  new_name count n ns e seen = ap (λ c. same_texts ps (distinct_after (if c then take count ps else take count ps ++ n ∷ []) ns)) (sym seen) ∙ e

  next_is : (count : ℕ) (n : List ℕ) (ns : List (List ℕ)) → left_from ps count (n ∷ ns) ≡ whole → list_any (λ m. bytes_eq m n) (take count ps) ≡ false → has_at (λ m. bytes_eq m n) (slice_get ps count) ≡ true
      → (left_from ps (count + 1) ns ≡ whole) × (count + 1 ≤ length ps)
  next_is count n ns e seen at =
      let r = take_next count ps n at in
      let one : suc count ≡ count + 1 = omega arith in
      (ap (λ xs. same_texts ps (distinct_after xs ns)) (ap (λ k. take k ps) (sym one) ∙ sym r.0) ∙ new_name count n ns e seen, omega (arith, r.1))

  next_differs : (count : ℕ) (n : List ℕ) (ns : List (List ℕ)) → left_from ps count (n ∷ ns) ≡ whole → count ≤ length ps → list_any (λ m. bytes_eq m n) (take count ps) ≡ false → has_at (λ m. bytes_eq m n) (slice_get ps count) ≡ false → false ≡ whole
  next_differs count n ns e l seen at =
      let r = extends (take count ps ++ n ∷ []) ns in
      sym (differ_at count ps n r.0 l at) ∙ ap (same_texts ps) (sym (append_assoc (take count ps) (n ∷ []) r.0)) ∙ ap (same_texts ps) (sym r.1) ∙ new_name count n ns e seen

  pub none_left : (count : ℕ) → left_from ps count [] ≡ whole → count ≤ length ps → (count == length ps) ≡ whole
  none_left count e l = sym (all_same count ps l) ∙ e

-- the first parameters by their names
pub any-named : {A : Type 0} (name : A → List ℕ) (n : List ℕ) (count : ℕ) (xs : List A) → list_any (λ m. bytes_eq m n) (take count (map name xs)) ≡ list_any (λ x. bytes_eq (name x) n) (take count xs)
any-named name n zero xs = refl
any-named name n (suc count) [] = refl
any-named name n (suc count) (x ∷ xs) = ap (λ c. bytes_eq (name x) n || c) (any-named name n count xs)

-- A name of the prototype, as the code has it at hand

module _ {A : Type 0} (name : A → List ℕ) (params : List A) (names : List (List ℕ)) (whole : Bool) (i count : ℕ) (n t : List ℕ) (before : Bool) where
  abbrev ps : List (List ℕ)
  ps = map name params

  module _ (lt : i < length names) (at : n ≡ slice_index_or names i n) (text : t ≡ n) (left : left_from ps count (drop i names) ≡ whole) (is : before ≡ list_any (λ x. bytes_eq (name x) t) (take count params)) where
    here : left_from ps count (n ∷ drop (i + 1) names) ≡ whole
    here = ap (left_from ps count) (sym (drop_more names i n lt ∙ ap (λ y. y ∷ drop (i + 1) names) (sym at))) ∙ left

    any_is : list_any (λ m. bytes_eq m n) (take count ps) ≡ before
    any_is = any-named name n count params ∙ ap (λ u. list_any (λ x. bytes_eq (name x) u) (take count params)) (sym text) ∙ sym is

    pub name_before : before ≡ true → left_from ps count (drop (i + 1) names) ≡ whole
    name_before e = seen_before ps whole count n (drop (i + 1) names) here (any_is ∙ e)

    at_is : (found : Bool) → found ≡ has_at (λ m. bytes_eq m t) (slice_get ps count) → has_at (λ m. bytes_eq m n) (slice_get ps count) ≡ found
    at_is found e = ap (λ u. has_at (λ m. bytes_eq m u) (slice_get ps count)) (sym text) ∙ sym e

    pub name_here : before ≡ false → (found : Bool) → found ≡ has_at (λ m. bytes_eq m t) (slice_get ps count) → found ≡ true → (left_from ps (count + 1) (drop (i + 1) names) ≡ whole) × (count + 1 ≤ length ps)
    name_here e found f so = next_is ps whole count n (drop (i + 1) names) here (any_is ∙ e) (at_is found f ∙ so)

    pub name_not : before ≡ false → count ≤ length ps → (found : Bool) → found ≡ has_at (λ m. bytes_eq m t) (slice_get ps count) → found ≡ false → false ≡ whole
    name_not e l found f so = next_differs ps whole count n (drop (i + 1) names) here l (any_is ∙ e) (at_is found f ∙ so)

-- the names of parameters
pub names-map : {A B : Type 0} (f : A → B) (name : B → List ℕ) (xs : List A) → map name (map f xs) ≡ map (λ x. name (f x)) xs
names-map f name [] = refl
names-map f name (x ∷ xs) = ap (λ ys. name (f x) ∷ ys) (names-map f name xs)
