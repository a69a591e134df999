-- Lines whose numbers are kept in a wider range than theirs.
use Rattle.std.proofs.Common.{◌≡◌, ℕ, zero, suc, ◌*◌, ◌^◌, ◌<◌, min, Bool, true, false, cond, List, [], ◌∷◌, Option, Some, None, refl, ap, ap₂, sym, ◌∙◌, arith}
use Rattle.std.specs.Prelude.{◌==◌, ◌&&◌, nat_le, ℤ, pos, negsuc, neg_ℤ, option_map}
use Rattle.std.proofs.lemmas.Bool.Decides.{nat_tests}
use Rattle.std.proofs.lemmas.Int.{ints}
use Rattle.machine_spec.specs.declared.lines.Budget.{Budget}
use Rattle.machine_spec.specs.declared.lines.Line.TheVariants as line
use Rattle.machine_spec.specs.ScriptText.{whole_number, negated_number, signed_number, mouse_line, frame_line, budget_line, is_budget, is_within, good_if}
use Rattle.input_script.specs.Kept.{kept_within}

-- Whole numbers

le_kept : (far x m : ℕ) → m < far → nat_le (min far x) m ≡ nat_le x m
le_kept far x m h = grind (arith, nat_tests)

ge_kept : (far x : ℕ) → 1 < far → nat_le 1 (min far x) ≡ nat_le 1 x
ge_kept far x h = grind (arith, nat_tests)

kept_is : (far x m : ℕ) → m < far → nat_le x m ≡ true → min far x ≡ x
kept_is far x m h e = grind (arith, nat_tests)

pub and_first : (a b : Bool) → (a && b) ≡ true → a ≡ true
and_first true b h = refl
and_first false b h = h

pub and_second : (a b : Bool) → (a && b) ≡ true → b ≡ true
and_second true b h = h
and_second false b h = absurd (cc h)

abbrev budget : (clock passes warp : ℕ) → Budget
budget clock passes warp = record { clock = clock; passes = passes; warp = warp }

four_tests : (p q r s : Bool) {w x y z : Bool} → p ≡ w → q ≡ x → r ≡ y → s ≡ z → (((p && q) && r) && s) ≡ (((w && x) && y) && z)
four_tests p q r s d e f g = cc

is_budget_kept : (far a b c : ℕ) → 9 * 10 ^ 12 < far → is_budget (budget (min far a) (min far b) (min far c)) ≡ is_budget (budget a b c)
is_budget_kept far a b c h =
    four_tests _ _ _ _ (le_kept far a (9 * 10 ^ 12) h) (ge_kept far b (omega arith)) (le_kept far b 10000 (omega arith)) (le_kept far c 1000000 (omega arith))

budget_line_by : (t : Bool) (n last far a b c : ℕ) → 9 * 10 ^ 12 < far → is_budget (budget a b c) ≡ t
    → budget_line n last (budget (min far a) (min far b) (min far c)) ≡ budget_line n last (budget a b c)
budget_line_by true n last far a b c h e =
    let in_time : Bool = nat_le a (9 * 10 ^ 12) in
    let low : Bool = in_time && nat_le 1 b in
    let high : Bool = low && nat_le b 10000 in
    let three : high ≡ true = and_first high (nat_le c 1000000) e in
    let two : low ≡ true = and_first low (nat_le b 10000) three in
    let warp : min far c ≡ c = kept_is far c 1000000 (omega arith) (and_second high (nat_le c 1000000) e) in
    let passes : min far b ≡ b = kept_is far b 10000 (omega arith) (and_second low (nat_le b 10000) three) in
    let clock : min far a ≡ a = kept_is far a (9 * 10 ^ 12) h (and_first in_time (nat_le 1 b) two) in
    cc
budget_line_by false n last far a b c h e =
    let same = is_budget_kept far a b c h in
    rw (same, e) refl

-- a frame line
pub frame_kept : (n last far : ℕ) (a b c : Option ℕ) → 9 * 10 ^ 12 < far
    → frame_line n last (option_map (min far) a) (option_map (min far) b) (option_map (min far) c) ≡ frame_line n last a b c
frame_kept n last far (Some a) (Some b) (Some c) h = budget_line_by (is_budget (budget a b c)) n last far a b c h refl
frame_kept n last far (Some a) (Some b) None h = refl
frame_kept n last far (Some a) None c h = refl
frame_kept n last far None b c h = refl

-- Signed numbers

-- a word that begins with a minus
pub negated_kept : (most : ℕ) (o : Option ℕ) → 0 < most → negated_number (option_map (min most) o) ≡ option_map (kept_within most) (negated_number o)
negated_kept most None h = refl
negated_kept most (Some zero) h = let e : min most 0 ≡ 0 = omega arith in rw e refl
negated_kept most (Some (suc n)) h =
    let e : (min most (suc n) == 0) ≡ false = grind (arith, nat_tests) in
    let f : (suc n == 0) ≡ false = grind (arith, nat_tests) in
    rw (e, f) refl

-- a word without one
pub positive_kept : (most : ℕ) (o : Option ℕ) → option_map pos (option_map (min most) o) ≡ option_map (kept_within most) (option_map pos o)
positive_kept most None = refl
positive_kept most (Some n) = refl

signed_by : (t : Bool) (b : ℕ) (bs : List ℕ) → (b == 45) ≡ t → (b ≡ 45 → ⊥) → cond t (negated_number (whole_number bs)) (option_map pos (whole_number (b ∷ bs))) ≡ option_map pos (whole_number (b ∷ bs))
signed_by true b bs e k = absurd (k (grind (arith, nat_tests)))
signed_by false b bs e k = refl

pub unsigned_word : (word : List ℕ) → ((rest : List ℕ) → word ≡ 45 ∷ rest → ⊥) → signed_number word ≡ option_map pos (whole_number word)
unsigned_word [] k = refl
unsigned_word (b ∷ bs) k = signed_by (b == 45) b bs refl (λ e. k bs (ap (λ x. x ∷ bs) e))

within_kept : (far m : ℕ) (z : ℤ) → m < far → is_within (neg_ℤ (pos m)) (pos m) (kept_within far z) ≡ is_within (neg_ℤ (pos m)) (pos m) z
within_kept far m (pos n) h = grind (arith, ints)
within_kept far m (negsuc n) h = grind (arith, ints)

kept_same : (far m : ℕ) (z : ℤ) → m < far → is_within (neg_ℤ (pos m)) (pos m) z ≡ true → kept_within far z ≡ z
kept_same far m (pos n) h e = grind (arith, ints)
kept_same far m (negsuc n) h e = grind (arith, ints)

abbrev is_place : ℤ → ℤ → Bool
is_place x y = is_within (neg_ℤ (pos 240)) (pos 240) x && is_within (neg_ℤ (pos 180)) (pos 180) y

two_tests : (p q : Bool) {w x : Bool} → p ≡ w → q ≡ x → (p && q) ≡ (w && x)
two_tests p q d e = cc

mouse_by : (t : Bool) (n far : ℕ) (x y : ℤ) → 240 < far → is_place x y ≡ t → mouse_line n (Some (kept_within far x)) (Some (kept_within far y)) ≡ mouse_line n (Some x) (Some y)
mouse_by true n far x y h e =
    ap₂ (λ (a b : ℤ). mouse_line n (Some a) (Some b)) (kept_same far 240 x h (and_first _ _ e)) (kept_same far 180 y (omega arith) (and_second _ _ e))
mouse_by false n far x y h e =
    let same : is_place (kept_within far x) (kept_within far y) ≡ is_place x y = two_tests _ _ (within_kept far 240 x h) (within_kept far 180 y (omega arith)) in
    ap (λ b. good_if b (line.Mouse (kept_within far x) (kept_within far y)) n) (same ∙ e) ∙ sym (ap (λ b. good_if b (line.Mouse x y) n) e)

-- a line of the mouse
pub mouse_kept : (n far : ℕ) (a b : Option ℤ) → 240 < far → mouse_line n (option_map (kept_within far) a) (option_map (kept_within far) b) ≡ mouse_line n a b
mouse_kept n far (Some x) (Some y) h = mouse_by (is_place x y) n far x y h refl
mouse_kept n far (Some x) None h = refl
mouse_kept n far None b h = refl
