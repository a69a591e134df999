-- Numbers that are found by their hints.
use Rattle.std.proofs.Common.{◌≡◌, ◌≢◌, ℕ, ◌+◌, ◌<◌, ◌≤◌, ◌%◌, List, length, get_or, set, Some, Bool, true, false, refl, sym, subst, ap, ◌∙◌, arith}
use Rattle.std.specs.Prelude.{◌==◌}
use Rattle.std.specs.List.{position}
use Rattle.std.proofs.lemmas.List.{get_or-set_same, get_or-set_other}
use Rattle.std.proofs.lemmas.List.Sums.{position_or_len_is}
use Rattle.std.proofs.lemmas.Bool.{eqb-true}
use Rattle.std.proofs.lemmas.Bool.Decides.{nat_tests}
use Rattle.targets.specs.Hints.{slots, IsHinted}
use Rattle.targets.proofs.Places.{position_at}

abbrev pub HintedFrom : ℕ → List ℕ → List ℕ → Type 0
HintedFrom place hints order = (j : ℕ) → place ≤ j → j < length order → get_or hints (get_or order j 0 % slots) 0 ≤ j

at_slot : (place : ℕ) (hints order : List ℕ) (j : ℕ) (slot : ℕ) → slot < length hints → HintedFrom (place + 1) hints order → place ≤ j → j < length order
    → slot ≡ get_or order place 0 % slots → (b : Bool) → ((get_or order j 0 % slots) == slot) ≡ b → get_or (set hints slot place) (get_or order j 0 % slots) 0 ≤ j
at_slot place hints order j slot within h le lt is true e =
    let same : get_or order j 0 % slots ≡ slot = eqb-true _ slot e in
    let there : get_or (set hints slot place) slot 0 ≡ place = get_or-set_same hints slot place 0 within in
    let P : ℕ → Type 0 = λ k. get_or (set hints slot place) k 0 ≤ j in
    subst P (sym same) (omega (arith, there))
at_slot place hints order j slot within h le lt is false e =
    let other : get_or order j 0 % slots ≢ slot = grind (arith, nat_tests) in
    let apart : j ≢ place = λ p. other (ap (λ k. get_or order k 0 % slots) p ∙ sym is) in
    let behind : place + 1 ≤ j = omega arith in
    rw get_or-set_other (h j behind lt)

-- one more number is noted
pub hinted_more : (place slot : ℕ) (hints order : List ℕ) → slot < length hints → slot ≡ get_or order place 0 % slots → HintedFrom (place + 1) hints order → HintedFrom place (set hints slot place) order
hinted_more place slot hints order within is h = λ j le lt. at_slot place hints order j slot within h le lt is ((get_or order j 0 % slots) == slot) refl

not_before : (hints order : List ℕ) (id k : ℕ) → IsHinted hints order → k < get_or hints (id % slots) 0 → k < length order → (b : Bool) → (get_or order k 0 == id) ≡ b → b ≡ false
not_before hints order id k h lt within true e =
    let same : get_or order k 0 ≡ id = eqb-true _ id e in
    let P : ℕ → Type 0 = λ n. get_or hints (n % slots) 0 ≤ k in
    let le : get_or hints (id % slots) 0 ≤ k = subst P same (h k within) in
    absurd (omega arith)
not_before hints order id k h lt within false e = refl

-- a number that stands at its hint is found there
pub found_at_hint : (hints order : List ℕ) (id guess : ℕ) → IsHinted hints order → guess ≡ get_or hints (id % slots) 0 → guess < length order → get_or order guess 0 ≡ id → position (λ n. n == id) order ≡ Some guess
found_at_hint hints order id guess h is within own =
    position_at (λ n. n == id) order guess
    (position_or_len_is (λ n. n == id) order guess 0 (omega arith)
    (λ k lt. not_before hints order id k h (omega arith) (omega arith) (get_or order k 0 == id) refl)
    (λ _. grind (arith, nat_tests)))
    within
