-- The test whether a text stands within another tells that it does.
use Rattle.std.proofs.Common.{◌≡◌, ◌↔◌, ℕ, Bool, true, false, IsTrue, List, [], ◌∷◌, ◌++◌, refl, sym, ap, ◌∙◌, arith}
use Rattle.std.specs.Prelude.{◌==◌, ◌&&◌, ◌||◌}
use Rattle.std.proofs.lemmas.Bool.{false≢true}
use Rattle.std.proofs.lemmas.Bool.Decides.{nat_tests}
use Rattle.scratch_values.specs.Folding.{HasPart}
use Rattle.machine_spec.specs.Texts.{begins_with, has_part}

same_head : (c d : ℕ) → (c == d) ≡ true → c ≡ d
same_head c d h = grind (arith, nat_tests)

head_is : (c : ℕ) → (c == c) ≡ true
head_is c = grind (arith, nat_tests)

-- what begins a text is followed by its rest
front_tells : (b : Bool) (c d : ℕ) (part whole : List ℕ) → (c == d) ≡ b → (b && begins_with part whole) ≡ true → (begins_with part whole ≡ true → (back : List ℕ) × (whole ≡ part ++ back)) → (back : List ℕ) × (d ∷ whole ≡ (c ∷ part) ++ back)
front_tells true c d part whole same h rest = let r = rest h in (r.0, ap (λ x. x ∷ whole) (sym (same_head c d same)) ∙ ap (λ xs. c ∷ xs) r.1)
front_tells false c d part whole same h rest = absurd (false≢true h)

pub begins_tells : (part whole : List ℕ) → begins_with part whole ≡ true → (back : List ℕ) × (whole ≡ part ++ back)
begins_tells [] whole h = (whole, refl)
begins_tells (c ∷ part) [] h = absurd (false≢true h)
begins_tells (c ∷ part) (d ∷ whole) h = front_tells (c == d) c d part whole refl h (begins_tells part whole)

pub begins_is : (part back : List ℕ) → begins_with part (part ++ back) ≡ true
begins_is [] back = refl
begins_is (c ∷ part) back = ap (λ b. b && begins_with part (part ++ back)) (head_is c) ∙ begins_is part back

at_front : (whole part : List ℕ) → (back : List ℕ) × (whole ≡ part ++ back) → HasPart whole part
at_front whole part (back, is) = ([], back, is)

behind : (c : ℕ) (whole part : List ℕ) → HasPart whole part → HasPart (c ∷ whole) part
behind c whole part (front, back, is) = (c ∷ front, back, ap (λ xs. c ∷ xs) is)

either_tells : (b : Bool) (c : ℕ) (whole part : List ℕ) → begins_with part (c ∷ whole) ≡ b → (b || has_part whole part) ≡ true → (has_part whole part ≡ true → HasPart whole part) → HasPart (c ∷ whole) part
either_tells true c whole part here h rest = at_front (c ∷ whole) part (begins_tells part (c ∷ whole) here)
either_tells false c whole part here h rest = behind c whole part (rest h)

pub part_tells : (whole part : List ℕ) → has_part whole part ≡ true → HasPart whole part
part_tells [] part h = at_front [] part (begins_tells part [] h)
part_tells (c ∷ whole) part h = either_tells (begins_with part (c ∷ whole)) c whole part refl h (part_tells whole part)

or_true : (b : Bool) → (b || true) ≡ true
or_true true = refl
or_true false = refl

part_behind : (front part back : List ℕ) → has_part (front ++ (part ++ back)) part ≡ true
part_behind [] [] [] = refl
part_behind [] [] (d ∷ back) = refl
part_behind [] (c ∷ part) back = ap (λ b. b || has_part (part ++ back) (c ∷ part)) (begins_is (c ∷ part) back)
part_behind (c ∷ front) part back = ap (λ b. begins_with part (c ∷ (front ++ (part ++ back))) || b) (part_behind front part back) ∙ or_true (begins_with part (c ∷ (front ++ (part ++ back))))

pub part_is : (whole part : List ℕ) → HasPart whole part → has_part whole part ≡ true
part_is whole part (front, back, is) = ap (λ w. has_part w part) is ∙ part_behind front part back

-- what a search told is the test
pub part_found : (found : Bool) (whole part : List ℕ) → (IsTrue found ↔ HasPart whole part) → found ≡ has_part whole part
part_found true whole part (has, is) = sym (part_is whole part (has refl))
part_found false whole part (has, is) = lacks (has_part whole part) refl
  where
    lacks : (b : Bool) → has_part whole part ≡ b → false ≡ b
    lacks true h = absurd (false≢true (is (part_tells whole part h)))
    lacks false h = refl
