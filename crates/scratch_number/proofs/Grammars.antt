-- The number of a text is the one that the grammar gives, and every number of the grammar is read.
use Rattle.std.proofs.Common.{◌≡◌, ℕ, suc, ◌+◌, ◌*◌, ◌<◌, Bool, true, false, List, [], ◌∷◌, ◌++◌, length, drop, slice_index, inl, inr, refl, sym, ap, ◌∙◌, subst, arith}
use Rattle.std.specs.Prelude.{◌==◌, ◌||◌, ◌&&◌, ◌⊎◌, nat_lt, nat_le, ℤ, pos, negsuc, Option, Some, None, unwrap_or, codes}
use Rattle.std.specs.Char.{digit_value}
use Rattle.std.specs.List.{prefix_len, list_all}
use Rattle.std.specs.Str.{bytes_eq}
use Rattle.std.specs.Str.Parse.{AllDigits, IsNumeral, digits_value}
use Rattle.std.proofs.lemmas.Bool.{cases_Bool, cases_lt, cond_both, and_left, cond-true, cond-false, ltb-true, lt-ltb, le-ltb, eqb-true, ne_eqb, and_from, and_parts, or_cases}
use Rattle.std.proofs.lemmas.Bool.Decides.{nat_tests}
use Rattle.std.proofs.lemmas.List.{append_assoc, append-nil, length-append, take_at, drop_at, take-append-drop}
use Rattle.std.proofs.lemmas.Slice.Eq.{bytes_eq-Decides}
use Rattle.std.proofs.lemmas.Str.Parse.{digit_from_value}
use Rattle.scratch_number.specs.declared.number.Num.{Num}
use Rattle.scratch_number.specs.declared.number.Num.TheVariants.{Fixed, Inf, NegInf, Nan}
use Rattle.scratch_number.specs.Number.{number, negated}
use Rattle.scratch_number.specs.Grammar.{IsSign, unsigned, plus, minus, IsDigitForm, whole, pointed, fraction, IsExponentLetter, small, large, IsExponent, none, some, IsBaseLetter, hex, large_hex, binary, large_binary, octal, large_octal, decimal_size, with_sign, IsNumber, Reads, empty, infinity, decimal, based}
use Rattle.scratch_number.proofs.Scanning.{base_of-short, digits_front-all}
use Rattle.scratch_number.specs.Reading.{after_digits, after_fraction, base_of, base_of_letter, based_number, decimal_number, digit_run, digits_front, exponent_of, fraction_front, has_minus, is_digit, is_numeral, trimmed_number, unsigned_number, without_sign}

-- ---- numerals
all_digits-true : (base : ℕ) (ds : List ℕ) → AllDigits base ds → list_all (is_digit base) ds ≡ true
all_digits-true base [] h = refl
all_digits-true base (d ∷ ds) h = and_from _ _ (lt-ltb _ _ h.0) (all_digits-true base ds h.1)

all_digits-from : (base : ℕ) (ds : List ℕ) → list_all (is_digit base) ds ≡ true → AllDigits base ds
all_digits-from base [] h = tt
all_digits-from base (d ∷ ds) h =
    let parts = and_parts (is_digit base d) (list_all (is_digit base) ds) h in
    (ltb-true _ _ parts.0, all_digits-from base ds parts.1)

is_numeral-true : (base : ℕ) (ds : List ℕ) → IsNumeral base ds → is_numeral base ds ≡ true
unfolding is_numeral
is_numeral-true base ds h = and_from _ _ (lt-ltb 0 (length ds) h.0) (all_digits-true base ds h.1)

is_numeral-from : (base : ℕ) (ds : List ℕ) → is_numeral base ds ≡ true → IsNumeral base ds
unfolding is_numeral
is_numeral-from base ds h =
    let parts = and_parts (nat_lt 0 (length ds)) (list_all (is_digit base) ds) h in
    (ltb-true 0 (length ds) parts.0, all_digits-from base ds parts.1)

-- ---- a run of digits
-- a text that is empty or begins with no digit
Stops : List ℕ → Type 0
Stops [] = Unit {0}
Stops (c ∷ cs) = is_digit 10 c ≡ false

run-of : (ds rest : List ℕ) → AllDigits 10 ds → Stops rest → prefix_len (is_digit 10) (ds ++ rest) ≡ length ds
unfolding Stops
run-of [] [] h stop = refl
run-of [] (c ∷ cs) h stop = cond-false _ _ _ stop
run-of (d ∷ ds) rest h stop =
    cond-true _ _ _ (lt-ltb _ _ h.0) ∙ ap (λ (n : ℕ). 1 + n) (run-of ds rest h.1 stop) ∙ omega arith

digits_front-is : (ds rest : List ℕ) → AllDigits 10 ds → Stops rest → digits_front (ds ++ rest) ≡ ds
unfolding digits_front digit_run
digits_front-is ds rest h stop = take_at ds rest _ (sym (run-of ds rest h stop))

after_digits-is : (ds rest : List ℕ) → AllDigits 10 ds → Stops rest → after_digits (ds ++ rest) ≡ rest
unfolding after_digits digit_run
after_digits-is ds rest h stop = drop_at ds rest _ (sym (run-of ds rest h stop))

-- ---- the sign
record Signed (t : List ℕ) : Type 0 where
  sign : List ℕ
  is_sign : IsSign sign (has_minus t)
  parts : t ≡ sign ++ without_sign t

signed-text : (t : List ℕ) → Signed t
unfolding has_minus without_sign
signed-text [] = record { sign = []; is_sign = unsigned; parts = refl }
signed-text (c ∷ cs) = elim (cases_Bool (c == 45)) [
  | inl here ↦ subst (λ (k : ℕ). Signed (k ∷ cs)) (sym (eqb-true c 45 here)) (record { sign = 45 ∷ []; is_sign = minus; parts = refl })
  | inr other ↦ elim (cases_Bool (c == 43)) [
    | inl here ↦ subst (λ (k : ℕ). Signed (k ∷ cs)) (sym (eqb-true c 43 here)) (record { sign = 43 ∷ []; is_sign = plus; parts = refl })
    | inr neither ↦ record { sign = []; is_sign = rw other unsigned; parts = rw (neither, other) refl }
  ]
]

-- a text that begins with no sign
Unsigned : List ℕ → Type 0
Unsigned [] = Unit {0}
Unsigned (c ∷ cs) = (c == 43 ≡ false) × (c == 45 ≡ false)

without_sign-is : (sign rest : List ℕ) (negative : Bool) → IsSign sign negative → Unsigned rest → without_sign (sign ++ rest) ≡ rest
unfolding without_sign Unsigned
without_sign-is sign [] negative unsigned h = refl
without_sign-is sign (c ∷ cs) negative unsigned h = rw (h.0, h.1) refl
without_sign-is sign rest negative plus h = refl
without_sign-is sign rest negative minus h = refl

has_minus-is : (sign rest : List ℕ) (negative : Bool) → IsSign sign negative → Unsigned rest → has_minus (sign ++ rest) ≡ negative
unfolding has_minus Unsigned
has_minus-is sign [] negative unsigned h = refl
has_minus-is sign (c ∷ cs) negative unsigned h = h.1
has_minus-is sign rest negative plus h = refl
has_minus-is sign rest negative minus h = refl

-- ---- digits
digit-unsigned : (c : ℕ) → digit_value c < 10 → (c == 43 ≡ false) × (c == 45 ≡ false)
digit-unsigned c h =
    let range = digit_from_value c h in
    (ne_eqb c 43 (λ e. omega (arith, range.0)), ne_eqb c 45 (λ e. omega (arith, range.0)))

numeral-Unsigned : (ds rest : List ℕ) → IsNumeral 10 ds → Unsigned (ds ++ rest)
unfolding Unsigned
numeral-Unsigned [] rest h = absurd (omega (arith, h.0))
numeral-Unsigned (d ∷ ds) rest h = digit-unsigned d h.1.0

-- ---- the exponent
exponent-Stops : (t : List ℕ) (down : Bool) (size : ℕ) → IsExponent t down size → Stops t
unfolding Stops
exponent-Stops t down size none = tt
exponent-Stops t down size (some letter sign ds d small s n) = refl
exponent-Stops t down size (some letter sign ds d large s n) = refl

letter-true : (c : ℕ) → IsExponentLetter c → (c == 101 || c == 69) ≡ true
letter-true c small = refl
letter-true c large = refl

exponent_of-is : (t : List ℕ) (down : Bool) (size : ℕ) → IsExponent t down size → exponent_of t ≡ Some (down, size)
unfolding exponent_of
exponent_of-is t down size none = refl
exponent_of-is t down size (some letter sign ds d l s n) =
    let free : Unsigned ds = subst (λ (xs : List ℕ). Unsigned xs) (append-nil ds) (numeral-Unsigned ds [] n) in
    let rest : without_sign (sign ++ ds) ≡ ds = without_sign-is sign ds d s free in
    let turned : has_minus (sign ++ ds) ≡ d = has_minus-is sign ds d s free in
    let numeral : is_numeral 10 (without_sign (sign ++ ds)) ≡ true = rw rest (is_numeral-true 10 ds n) in
    cond-true _ _ _ (and_from _ _ (letter-true letter l) numeral) ∙ rw (turned, rest) refl

-- ---- the base
-- a text does not begin with the letter of a base
NoLetter : List ℕ → Type 0
NoLetter t = base_of_letter (slice_index t 0) ≡ 0

digit-NoLetter : (c : ℕ) → digit_value c < 10 → base_of_letter c ≡ 0
unfolding base_of_letter
digit-NoLetter c h =
    let range = digit_from_value c h in
    let above = range.1 in
    grind (arith, nat_tests)

digits-NoLetter : (ds rest : List ℕ) → AllDigits 10 ds → NoLetter rest → NoLetter (ds ++ rest)
unfolding NoLetter
digits-NoLetter [] rest h free = free
digits-NoLetter (d ∷ ds) rest h free = digit-NoLetter d h.0

exponent-NoLetter : (t : List ℕ) (down : Bool) (size : ℕ) → IsExponent t down size → NoLetter t
unfolding NoLetter base_of_letter
exponent-NoLetter t down size none = refl
exponent-NoLetter t down size (some letter sign ds d small s n) = refl
exponent-NoLetter t down size (some letter sign ds d large s n) = refl

base_of-none : (c : ℕ) (t : List ℕ) → NoLetter t → base_of (c ∷ t) ≡ 0
unfolding base_of NoLetter
base_of-none c t free = cond_both (c == 48) (base_of_letter (slice_index t 0)) 0 (λ n. n ≡ 0) (λ e. free) (λ e. refl)

base_of-numeral : (ds rest : List ℕ) → IsNumeral 10 ds → NoLetter rest → base_of (ds ++ rest) ≡ 0
base_of-numeral [] rest n free = absurd (omega (arith, n.0))
base_of-numeral (d ∷ ds) rest n free = base_of-none d (ds ++ rest) (digits-NoLetter ds rest n.1.1 free)

base_of-sign : (sign rest : List ℕ) (negative : Bool) → IsSign sign negative → base_of rest ≡ 0 → base_of (sign ++ rest) ≡ 0
unfolding base_of
base_of-sign sign rest negative unsigned h = h
base_of-sign sign rest negative plus h = refl
base_of-sign sign rest negative minus h = refl

-- ---- digit forms
not_infinity : (ds rest : List ℕ) → IsNumeral 10 ds → bytes_eq (ds ++ rest) (codes "Infinity") ≡ false
not_infinity [] rest n = absurd (omega (arith, n.0))
not_infinity (d ∷ ds) rest n =
    let range = digit_from_value d n.1.0 in
    and_left _ _ (ne_eqb d 73 (λ e. omega (arith, range.1)))

read_as : List ℕ → List ℕ → Bool → ℕ → Num
read_as ds fs down size = number (pos (decimal_size (digits_value 10 (ds ++ fs)) (length fs) down size))

from_parts : (t ds fs end : List ℕ) (down : Bool) (size : ℕ) → bytes_eq t (codes "Infinity") ≡ false → digits_front t ≡ ds → fraction_front (after_digits t) ≡ fs → after_fraction (after_digits t) ≡ end → IsExponent end down size → 0 < length ds + length fs → unsigned_number t ≡ read_as ds fs down size
unfolding unsigned_number decimal_number read_as
from_parts t ds fs end down size other front point left exponent held =
    cond-false _ _ _ other
    ∙ ap (λ (xs : List ℕ). decimal_number xs (fraction_front (after_digits t)) (exponent_of (after_fraction (after_digits t)))) front
    ∙ ap (λ (xs : List ℕ). decimal_number ds xs (exponent_of (after_fraction (after_digits t)))) point
    ∙ ap (λ (xs : List ℕ). decimal_number ds fs (exponent_of xs)) left
    ∙ ap (λ (e : Option (Bool × ℕ)). decimal_number ds fs e) (exponent_of-is end down size exponent)
    ∙ cond-true _ _ _ (lt-ltb 0 (length ds + length fs) held)

exponent-fraction : (end : List ℕ) (down : Bool) (size : ℕ) → IsExponent end down size → (fraction_front end ≡ []) × (after_fraction end ≡ end)
unfolding fraction_front after_fraction
exponent-fraction end down size none = (refl, refl)
exponent-fraction end down size (some letter sign ds d small s n) = (refl, refl)
exponent-fraction end down size (some letter sign ds d large s n) = (refl, refl)

point-Stops : (t : List ℕ) → Stops (46 ∷ t)
unfolding Stops
point-Stops t = refl

point-NoLetter : (t : List ℕ) → NoLetter (46 ∷ t)
unfolding NoLetter base_of_letter
point-NoLetter t = refl

point-front : (f end : List ℕ) → AllDigits 10 f → Stops end → fraction_front (46 ∷ (f ++ end)) ≡ f
unfolding fraction_front
point-front f end all stop = digits_front-is f end all stop

point-after : (f end : List ℕ) → AllDigits 10 f → Stops end → after_fraction (46 ∷ (f ++ end)) ≡ end
unfolding after_fraction
point-after f end all stop = after_digits-is f end all stop

record Read (form end ds fs : List ℕ) (down : Bool) (size : ℕ) : Type 0 where
  value : unsigned_number (form ++ end) ≡ read_as ds fs down size
  free : Unsigned (form ++ end)
  no_base : base_of (form ++ end) ≡ 0
  nonempty : 0 < length (form ++ end)

form-read : (form end ds fs : List ℕ) (down : Bool) (size : ℕ) → IsDigitForm form ds fs → IsExponent end down size → Read form end ds fs down size
unfolding Unsigned base_of
form-read form end ds fs down size (whole w n) e =
    let stop = exponent-Stops end down size e in
    let rest : after_digits (w ++ end) ≡ end = after_digits-is w end n.1 stop in
    let parts = exponent-fraction end down size e in
    record {
      value = from_parts (w ++ end) w [] end down size (not_infinity w end n) (digits_front-is w end n.1 stop) (rw rest parts.0) (rw rest parts.1) e (omega (arith, n.0));
      free = numeral-Unsigned w end n;
      no_base = base_of-numeral w end n (exponent-NoLetter end down size e);
      nonempty = omega (arith, length-append w end, n.0);
    }
form-read form end ds fs down size (pointed w f n all) e =
    let stop = exponent-Stops end down size e in
    let joined : (w ++ 46 ∷ f) ++ end ≡ w ++ 46 ∷ (f ++ end) = append_assoc w (46 ∷ f) end in
    let rest : after_digits (w ++ 46 ∷ (f ++ end)) ≡ 46 ∷ (f ++ end) = after_digits-is w (46 ∷ (f ++ end)) n.1 (point-Stops (f ++ end)) in
    let all_read : Read w (46 ∷ (f ++ end)) w f down size = record {
      value = from_parts (w ++ 46 ∷ (f ++ end)) w f end down size (not_infinity w (46 ∷ (f ++ end)) n) (digits_front-is w (46 ∷ (f ++ end)) n.1 (point-Stops (f ++ end))) (rw rest (point-front f end all stop)) (rw rest (point-after f end all stop)) e (omega (arith, n.0));
      free = numeral-Unsigned w (46 ∷ (f ++ end)) n;
      no_base = base_of-numeral w (46 ∷ (f ++ end)) n (point-NoLetter (f ++ end));
      nonempty = omega (arith, length-append w (46 ∷ (f ++ end)), n.0);
    } in
    record {
      value = ap (λ (xs : List ℕ). unsigned_number xs) joined ∙ all_read.value;
      free = rw joined all_read.free;
      no_base = ap (λ (xs : List ℕ). base_of xs) joined ∙ all_read.no_base;
      nonempty = rw joined all_read.nonempty;
    }
form-read form end ds fs down size (fraction f n) e =
    let stop = exponent-Stops end down size e in
    let rest : after_digits (46 ∷ (f ++ end)) ≡ 46 ∷ (f ++ end) = after_digits-is [] (46 ∷ (f ++ end)) tt (point-Stops (f ++ end)) in
    record {
      value = from_parts (46 ∷ (f ++ end)) [] f end down size refl (digits_front-is [] (46 ∷ (f ++ end)) tt (point-Stops (f ++ end))) (rw rest (point-front f end n.1 stop)) (rw rest (point-after f end n.1 stop)) e (omega (arith, n.0));
      free = (refl, refl);
      no_base = refl;
      nonempty = omega arith;
    }

-- ---- every number of the grammar is read
trimmed-signed : (t : List ℕ) → 0 < length t → base_of t ≡ 0 → trimmed_number t ≡ with_sign (has_minus t) (unsigned_number (without_sign t))
unfolding trimmed_number
trimmed-signed [] long h = absurd (omega arith)
trimmed-signed (c ∷ cs) long h = cond-false _ _ _ (le-ltb 0 (base_of (c ∷ cs)) (omega (arith, h)))

based-read : (letter base : ℕ) (ds : List ℕ) → 0 < base → base_of (48 ∷ letter ∷ ds) ≡ base → IsNumeral base ds → trimmed_number (48 ∷ letter ∷ ds) ≡ number (pos (digits_value base ds * 1000000))
unfolding trimmed_number based_number
based-read letter base ds positive known n =
    cond-true _ _ _ (lt-ltb 0 (base_of (48 ∷ letter ∷ ds)) (omega (arith, known)))
    ∙ ap (λ (k : ℕ). based_number k ds) known
    ∙ cond-true _ _ _ (is_numeral-true base ds n)

pub complete : (t : List ℕ) (n : Num) → IsNumber t n → trimmed_number t ≡ n
unfolding trimmed_number unsigned_number has_minus without_sign base_of base_of_letter read_as
complete t n empty = refl
complete t n (infinity sign negative unsigned) = refl
complete t n (infinity sign negative plus) = refl
complete t n (infinity sign negative minus) = refl
complete t n (decimal sign form ds fs end negative down size s f e) =
    let read = form-read form end ds fs down size f e in
    trimmed-signed (sign ++ (form ++ end)) (omega (arith, length-append sign (form ++ end), read.nonempty)) (base_of-sign sign (form ++ end) negative s read.no_base)
    ∙ ap (λ (b : Bool). with_sign b (unsigned_number (without_sign (sign ++ (form ++ end))))) (has_minus-is sign (form ++ end) negative s read.free)
    ∙ ap (λ (xs : List ℕ). with_sign negative (unsigned_number xs)) (without_sign-is sign (form ++ end) negative s read.free)
    ∙ ap (λ (m : Num). with_sign negative m) read.value
complete t n (based letter base ds hex d) = based-read 120 16 ds (omega arith) refl d
complete t n (based letter base ds large_hex d) = based-read 88 16 ds (omega arith) refl d
complete t n (based letter base ds binary d) = based-read 98 2 ds (omega arith) refl d
complete t n (based letter base ds large_binary d) = based-read 66 2 ds (omega arith) refl d
complete t n (based letter base ds octal d) = based-read 111 8 ds (omega arith) refl d
complete t n (based letter base ds large_octal d) = based-read 79 8 ds (omega arith) refl d

-- ---- what is read is a number of the grammar
base_letter-from : (c : ℕ) → 0 < base_of_letter c → IsBaseLetter c (base_of_letter c)
unfolding base_of_letter
base_letter-from c positive = elim (cases_Bool (c == 120)) [
  | inl here ↦ subst (λ (k : ℕ). IsBaseLetter k (base_of_letter k)) (sym (eqb-true c 120 here)) hex
  | inr other ↦ elim (cases_Bool (c == 88)) [
    | inl here ↦ subst (λ (k : ℕ). IsBaseLetter k (base_of_letter k)) (sym (eqb-true c 88 here)) large_hex
    | inr other2 ↦ elim (cases_Bool (c == 98)) [
      | inl here ↦ subst (λ (k : ℕ). IsBaseLetter k (base_of_letter k)) (sym (eqb-true c 98 here)) binary
      | inr other3 ↦ elim (cases_Bool (c == 66)) [
        | inl here ↦ subst (λ (k : ℕ). IsBaseLetter k (base_of_letter k)) (sym (eqb-true c 66 here)) large_binary
        | inr other4 ↦ elim (cases_Bool (c == 111)) [
          | inl here ↦ subst (λ (k : ℕ). IsBaseLetter k (base_of_letter k)) (sym (eqb-true c 111 here)) octal
          | inr other5 ↦ elim (cases_Bool (c == 79)) [
            | inl here ↦ subst (λ (k : ℕ). IsBaseLetter k (base_of_letter k)) (sym (eqb-true c 79 here)) large_octal
            | inr other6 ↦
                let nothing : base_of_letter c ≡ 0 = rw (other, other2, other3, other4, other5, other6) refl in
                absurd (omega (arith, positive, nothing))
          ]
        ]
      ]
    ]
  ]
]

letter-from : (c : ℕ) → (c == 101 || c == 69) ≡ true → IsExponentLetter c
letter-from c h = elim (or_cases (c == 101) (c == 69) h) [
  | inl here ↦ subst (λ (k : ℕ). IsExponentLetter k) (sym (eqb-true c 101 here)) small
  | inr here ↦ subst (λ (k : ℕ). IsExponentLetter k) (sym (eqb-true c 69 here)) large
]

some-injective : (p q : Bool × ℕ) → Some p ≡ Some q → p ≡ q
some-injective p q h = ap (λ (o : Option (Bool × ℕ)). unwrap_or o p) h

none-some : (e : Bool × ℕ) → None ≡ Some e → ⊥
none-some e h = cc

empty-is : (xs : List ℕ) → length xs ≡ 0 → xs ≡ []
empty-is [] h = refl
empty-is (x ∷ xs) h = absurd (omega arith)

with_sign-Nan : (b : Bool) → with_sign b Nan ≡ Nan
with_sign-Nan false = refl
with_sign-Nan true = refl

exponent-sound : (t : List ℕ) (e : Bool × ℕ) → exponent_of t ≡ Some e → IsExponent t e.0 e.1
unfolding exponent_of
exponent-sound [] e h = subst (λ (p : Bool × ℕ). IsExponent [] p.0 p.1) (some-injective (false, 0) e h) none
exponent-sound (c ∷ cs) e h = elim (cases_Bool ((c == 101 || c == 69) && is_numeral 10 (without_sign cs))) [
  | inl read ↦
      let tests = and_parts (c == 101 || c == 69) (is_numeral 10 (without_sign cs)) read in
      let text = signed-text cs in
      let made : IsExponent (c ∷ (text.sign ++ without_sign cs)) (has_minus cs) (digits_value 10 (without_sign cs)) =
      some c text.sign (without_sign cs) (has_minus cs) (letter-from c tests.0) text.is_sign (is_numeral-from 10 (without_sign cs) tests.1) in
      let whole_text : IsExponent (c ∷ cs) (has_minus cs) (digits_value 10 (without_sign cs)) =
      subst (λ (xs : List ℕ). IsExponent (c ∷ xs) (has_minus cs) (digits_value 10 (without_sign cs))) (sym text.parts) made in
      subst (λ (p : Bool × ℕ). IsExponent (c ∷ cs) p.0 p.1) (some-injective (has_minus cs, digits_value 10 (without_sign cs)) e (sym (cond-true _ _ _ read) ∙ h)) whole_text
  | inr refused ↦ absurd (none-some e (sym (cond-false _ _ _ refused) ∙ h))
]

record Form (t rest : List ℕ) : Type 0 where
  form : List ℕ
  is_form : IsDigitForm form (digits_front t) (fraction_front rest)
  parts : t ≡ form ++ after_fraction rest

front-split : (t : List ℕ) → t ≡ digits_front t ++ after_digits t
unfolding digits_front after_digits
front-split t = sym (take-append-drop (digit_run t) t)

plain-form : (t : List ℕ) (rest : List ℕ) → t ≡ digits_front t ++ rest → fraction_front rest ≡ [] → after_fraction rest ≡ rest → 0 < length (digits_front t) + length (fraction_front rest) → Form t rest
plain-form t rest split front after held =
    let numeral : IsNumeral 10 (digits_front t) = (omega (arith, held, ap (λ (xs : List ℕ). length xs) front), digits_front-all t) in
    record {
      form = digits_front t;
      is_form = subst (λ (xs : List ℕ). IsDigitForm (digits_front t) (digits_front t) xs) (sym front) (whole (digits_front t) numeral);
      parts = split ∙ ap (λ (xs : List ℕ). digits_front t ++ xs) (sym after);
    }

pointed-form : (t cs : List ℕ) → t ≡ digits_front t ++ 46 ∷ cs → 0 < length (digits_front t) + length (digits_front cs) → Form t (46 ∷ cs)
unfolding fraction_front after_fraction
pointed-form t cs split held = elim (cases_lt 0 (length (digits_front t))) [
  | inl long ↦ record {
    form = digits_front t ++ 46 ∷ digits_front cs;
    is_form = pointed (digits_front t) (digits_front cs) (long, digits_front-all t) (digits_front-all cs);
    parts =
        split
        ∙ ap (λ (xs : List ℕ). digits_front t ++ 46 ∷ xs) (front-split cs)
        ∙ sym (append_assoc (digits_front t) (46 ∷ digits_front cs) (after_digits cs));
  }
  | inr short ↦
      let nothing : digits_front t ≡ [] = empty-is (digits_front t) (omega arith) in
      record {
        form = 46 ∷ digits_front cs;
        is_form = subst (λ (xs : List ℕ). IsDigitForm (46 ∷ digits_front cs) xs (digits_front cs)) (sym nothing) (fraction (digits_front cs) (omega arith, digits_front-all cs));
        parts = split ∙ ap (λ (xs : List ℕ). xs ++ 46 ∷ cs) nothing ∙ ap (λ (xs : List ℕ). 46 ∷ xs) (front-split cs);
      }
]

form-of : (t rest : List ℕ) → t ≡ digits_front t ++ rest → 0 < length (digits_front t) + length (fraction_front rest) → Form t rest
unfolding fraction_front after_fraction
form-of t [] split held = plain-form t [] split refl refl held
form-of t (c ∷ cs) split held = elim (cases_Bool (c == 46)) [
  | inl point ↦
      let is : c ≡ 46 = eqb-true c 46 point in
      subst (λ (k : ℕ). Form t (k ∷ cs)) (sym is) (pointed-form t cs (rw is at split) (rw is at held))
  | inr other ↦ plain-form t (c ∷ cs) split (cond-false _ _ _ other) (cond-false _ _ _ other) held
]

-- what a text without a sign and a base reads as
data Outcome : List ℕ → Type 0 where
  infinite : (t : List ℕ) → t ≡ codes "Infinity" → unsigned_number t ≡ Inf → Outcome t
  formed : (t form ds fs end : List ℕ) (down : Bool) (size : ℕ) → IsDigitForm form ds fs → IsExponent end down size → t ≡ form ++ end → unsigned_number t ≡ read_as ds fs down size → Outcome t
  nothing_read : (t : List ℕ) → unsigned_number t ≡ Nan → Outcome t

outcome-by : (t : List ℕ) (o : Option (Bool × ℕ)) → bytes_eq t (codes "Infinity") ≡ false → exponent_of (after_fraction (after_digits t)) ≡ o → Outcome t
unfolding unsigned_number decimal_number read_as
outcome-by t None other h =
    nothing_read t (cond-false _ _ _ other ∙ ap (λ (e : Option (Bool × ℕ)). decimal_number (digits_front t) (fraction_front (after_digits t)) e) h)
outcome-by t (Some e) other h =
    let read : unsigned_number t ≡ decimal_number (digits_front t) (fraction_front (after_digits t)) (Some e) =
    cond-false _ _ _ other ∙ ap (λ (e : Option (Bool × ℕ)). decimal_number (digits_front t) (fraction_front (after_digits t)) e) h in
    elim (cases_lt 0 (length (digits_front t) + length (fraction_front (after_digits t)))) [
      | inl held ↦
          let found = form-of t (after_digits t) (front-split t) held in
          formed t found.form (digits_front t) (fraction_front (after_digits t)) (after_fraction (after_digits t)) e.0 e.1 found.is_form (exponent-sound (after_fraction (after_digits t)) e h) found.parts (read ∙ cond-true _ _ _ (lt-ltb _ _ held))
      | inr no_digit ↦ nothing_read t (read ∙ cond-false _ _ _ (le-ltb _ _ no_digit))
    ]

outcome : (t : List ℕ) → Outcome t
unfolding unsigned_number
outcome t = elim (cases_Bool (bytes_eq t (codes "Infinity"))) [
  | inl here ↦ infinite t ((bytes_eq-Decides t (codes "Infinity")).0 here) (cond-true _ _ _ here)
  | inr other ↦ outcome-by t (exponent_of (after_fraction (after_digits t))) other refl
]

-- a number of the grammar, or not a number
signed-outcome : (t u sign : List ℕ) (negative : Bool) (n : Num) → IsSign sign negative → t ≡ sign ++ u → n ≡ with_sign negative (unsigned_number u) → Outcome u → IsNumber t n ⊎ (n ≡ Nan)
unfolding read_as
signed-outcome t u sign negative n s split known (infinite t' is read) =
    inl (subst (λ (xs : List ℕ). IsNumber xs n) (sym (split ∙ ap (λ (xs : List ℕ). sign ++ xs) is))
    (subst (λ (m : Num). IsNumber (sign ++ codes "Infinity") m) (sym (known ∙ ap (λ (m : Num). with_sign negative m) read)) (infinity sign negative s)))
signed-outcome t u sign negative n s split known (formed t' form ds fs end down size f e is read) =
    inl (subst (λ (xs : List ℕ). IsNumber xs n) (sym (split ∙ ap (λ (xs : List ℕ). sign ++ xs) is))
    (subst (λ (m : Num). IsNumber (sign ++ (form ++ end)) m) (sym (known ∙ ap (λ (m : Num). with_sign negative m) read)) (decimal sign form ds fs end negative down size s f e)))
signed-outcome t u sign negative n s split known (nothing_read t' read) =
    inr (known ∙ ap (λ (m : Num). with_sign negative m) read ∙ with_sign-Nan negative)

base_of-other : (c : ℕ) (cs : List ℕ) → (c == 48) ≡ false → base_of (c ∷ cs) ≡ 0
unfolding base_of
base_of-other c cs other = cond-false _ _ _ other

zero-outcome : (letter : ℕ) (ds : List ℕ) → 0 < base_of (48 ∷ letter ∷ ds) → IsNumber (48 ∷ letter ∷ ds) (based_number (base_of (48 ∷ letter ∷ ds)) ds) ⊎ (based_number (base_of (48 ∷ letter ∷ ds)) ds ≡ Nan)
unfolding base_of based_number
zero-outcome letter ds positive = elim (cases_Bool (is_numeral (base_of_letter letter) ds)) [
  | inl read ↦ inl (rw read (based letter (base_of_letter letter) ds (base_letter-from letter positive) (is_numeral-from (base_of_letter letter) ds read)))
  | inr refused ↦ inr (cond-false _ _ _ refused)
]

based-outcome : (c : ℕ) (cs : List ℕ) → 0 < base_of (c ∷ cs) → IsNumber (c ∷ cs) (based_number (base_of (c ∷ cs)) (drop 1 cs)) ⊎ (based_number (base_of (c ∷ cs)) (drop 1 cs) ≡ Nan)
based-outcome c [] positive = absurd (omega (arith, positive, base_of-short (c ∷ []) (omega arith)))
based-outcome c (letter ∷ ds) positive = elim (cases_Bool (c == 48)) [
  | inl here ↦
      let is : c ≡ 48 = eqb-true c 48 here in
      subst (λ (k : ℕ). IsNumber (k ∷ letter ∷ ds) (based_number (base_of (k ∷ letter ∷ ds)) ds) ⊎ (based_number (base_of (k ∷ letter ∷ ds)) ds ≡ Nan)) (sym is) (zero-outcome letter ds (rw is at positive))
  | inr other ↦ absurd (omega (arith, positive, base_of-other c (letter ∷ ds) other))
]

pub sound : (t : List ℕ) → IsNumber t (trimmed_number t) ⊎ (trimmed_number t ≡ Nan)
unfolding trimmed_number
sound [] = inl empty
sound (c ∷ cs) = elim (cases_lt 0 (base_of (c ∷ cs))) [
  | inl positive ↦ rw (lt-ltb 0 (base_of (c ∷ cs)) positive) (based-outcome c cs positive)
  | inr free ↦
      let text = signed-text (c ∷ cs) in
      rw (le-ltb 0 (base_of (c ∷ cs)) free)
      (signed-outcome (c ∷ cs) (without_sign (c ∷ cs)) text.sign (has_minus (c ∷ cs)) (with_sign (has_minus (c ∷ cs)) (unsigned_number (without_sign (c ∷ cs)))) text.is_sign text.parts refl (outcome (without_sign (c ∷ cs))))
]

number-not_Nan : (z : ℤ) → number z ≡ Nan → ⊥
number-not_Nan (pos n) h = cond_both (nat_le n 9000000000000000000) (Fixed (pos n)) Inf (λ m. m ≡ Nan → ⊥) (λ b e. cc) (λ b e. cc) h
number-not_Nan (negsuc n) h = cond_both (nat_le (suc n) 9000000000000000000) (Fixed (negsuc n)) NegInf (λ m. m ≡ Nan → ⊥) (λ b e. cc) (λ b e. cc) h

negated-Nan : (m : Num) → negated m ≡ Nan → m ≡ Nan
negated-Nan (Fixed z) h = cc
negated-Nan Inf h = cc
negated-Nan NegInf h = cc
negated-Nan Nan h = refl

IsNumber-not_Nan : (t : List ℕ) (n : Num) → IsNumber t n → n ≡ Nan → ⊥
IsNumber-not_Nan t n empty h = cc
IsNumber-not_Nan t n (infinity sign false s) h = cc
IsNumber-not_Nan t n (infinity sign true s) h = cc
IsNumber-not_Nan t n (decimal sign form ds fs end false down size s f e) h = number-not_Nan (pos (decimal_size (digits_value 10 (ds ++ fs)) (length fs) down size)) h
IsNumber-not_Nan t n (decimal sign form ds fs end true down size s f e) h = number-not_Nan (pos (decimal_size (digits_value 10 (ds ++ fs)) (length fs) down size)) (negated-Nan (number (pos (decimal_size (digits_value 10 (ds ++ fs)) (length fs) down size))) h)
IsNumber-not_Nan t n (based letter base ds l d) h = number-not_Nan (pos (digits_value base ds * 1000000)) h

pub reads : (t : List ℕ) → Reads t (trimmed_number t)
reads t = elim (sound t) [
  | inl is ↦ inl is
  | inr none_read ↦ inr (none_read, λ m is. IsNumber-not_Nan t m is (sym (complete t m is) ∙ none_read))
]
