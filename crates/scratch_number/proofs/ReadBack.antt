-- The text of a number is a text of the grammar, whose number is that number.
use Rattle.std.proofs.Common.{◌≡◌, ℕ, zero, suc, ◌+◌, ◌-◌, ◌*◌, ◌/◌, ◌%◌, ◌^◌, ◌<◌, ◌≤◌, true, false, List, [], ◌∷◌, ◌++◌, length, inl, inr, refl, sym, ap, ◌∙◌, subst, arith}
use Rattle.std.specs.Prelude.{ℤ, pos, negsuc, unsigned_abs, codes, nat_le, nat_lt, ◌&&◌, slice_index}
use Rattle.std.specs.Char.{digit_value, is_whitespace}
use Rattle.std.specs.Fmt.{decimal}
use Rattle.std.specs.List.{list_all}
use Rattle.std.specs.Str.{IsAscii, chars, encode_utf8_all, skip_leading_whitespace, drop_trailing_whitespace, trim, trim_start, trim_end}
use Rattle.std.specs.Str.Parse.{AllDigits, digits_value, digits_value_after}
use Rattle.std.proofs.lemmas.Bool.{agree_below_at, cases_eq, cond-false, eq-eqb, ne_eqb, and_parts, leb-true, ltb-true}
use Rattle.std.proofs.lemmas.Fmt.{decimal_is_IsNumeral}
use Rattle.std.proofs.lemmas.List.{append-nil}
use Rattle.std.proofs.lemmas.Nat.{pow-add, mod_below, div_below, div-add-mod'}
use Rattle.std.proofs.lemmas.Str.{chars-IsAscii, encodes-IsAscii, digit_value_digit}
use Rattle.std.proofs.lemmas.Str.Parse.{digit_from_value}
use Rattle.std.proofs.Math.Nat.{pow-suc}
use Rattle.scratch_number.specs.declared.number.Num.{Num}
use Rattle.scratch_number.specs.declared.number.Num.TheVariants.{Fixed, Inf, NegInf, Nan}
use Rattle.scratch_number.specs.Number.{number, negated, IsWithin}
use Rattle.scratch_number.specs.Text.{fraction_digits, fraction_text, size_text, text_of}
use Rattle.scratch_number.specs.Grammar.{unsigned, minus, IsDigitForm, whole, pointed, none, decimal_size, IsNumber, decimal as decimal_form}
use Rattle.scratch_number.specs.Reading.{number_of, trimmed_number, base_of, base_of_letter, has_minus, without_sign, unsigned_number, decimal_number, digits_front, after_digits, digit_run, fraction_front, after_fraction, exponent_of}
use Rattle.scratch_number.proofs.Remainders.{number-small}
use Rattle.scratch_number.proofs.Rounding.{near-up}
use Rattle.scratch_number.proofs.Texts.{pow_ten_pos, fraction_text-zero, fraction_text-more}
use Rattle.scratch_number.proofs.Digits.{value_after-append, value_after-is}
use Rattle.scratch_number.proofs.Grammars.{complete}

-- ---- texts without white space
-- each character is printed, and no space
Plain : List ℕ → Type 0
Plain [] = Unit {0}
Plain (c ∷ cs) = (33 ≤ c) × (c < 127) × Plain cs

plain-not_white : (c : ℕ) → 33 ≤ c → c < 127 → is_whitespace c ≡ false
plain-not_white c low high =
    let at : c - 33 + 33 ≡ c = omega arith in
    ap is_whitespace (sym at) ∙ agree_below_at (λ k. is_whitespace (k + 33)) (λ _. false) 94 (c - 33) refl (omega arith)

plain-at : (t : List ℕ) → Plain t → (i : ℕ) → slice_index t i < 128
unfolding Plain
plain-at [] h i = omega arith
plain-at (c ∷ cs) h zero = omega (arith, h.1)
plain-at (c ∷ cs) h (suc i) = plain-at cs h.2 i

plain-ascii : (t : List ℕ) → Plain t → IsAscii t
plain-ascii t h = plain-at t h

plain-start : (t : List ℕ) → Plain t → skip_leading_whitespace t ≡ t
unfolding Plain
plain-start [] h = refl
plain-start (c ∷ cs) h = cond-false _ _ _ (plain-not_white c h.0 h.1)

plain-end : (t : List ℕ) → Plain t → drop_trailing_whitespace t ≡ t
unfolding Plain
plain-end [] h = refl
plain-end (c ∷ cs) h = rw (plain-not_white c h.0 h.1) (ap (λ (xs : List ℕ). c ∷ xs) (plain-end cs h.2))

plain-trim : (t : List ℕ) → Plain t → trim t ≡ t
unfolding trim_start trim_end
plain-trim t h =
    let ascii = plain-ascii t h in
    let start : encode_utf8_all (skip_leading_whitespace (chars t)) ≡ t =
    ap (λ (xs : List ℕ). encode_utf8_all (skip_leading_whitespace xs)) (chars-IsAscii t ascii) ∙ ap encode_utf8_all (plain-start t h) ∙ encodes-IsAscii t ascii in
    ap (λ (xs : List ℕ). encode_utf8_all (drop_trailing_whitespace (chars xs))) start
    ∙ ap (λ (xs : List ℕ). encode_utf8_all (drop_trailing_whitespace xs)) (chars-IsAscii t ascii) ∙ ap encode_utf8_all (plain-end t h) ∙ encodes-IsAscii t ascii

digits-plain : (ds : List ℕ) → AllDigits 10 ds → Plain ds
unfolding Plain
digits-plain [] h = tt
digits-plain (d ∷ ds) h =
    let range = digit_from_value d h.0 in
    (omega (arith, range.0), omega (arith, range.1), digits-plain ds h.1)

plain-append : (xs ys : List ℕ) → Plain xs → Plain ys → Plain (xs ++ ys)
unfolding Plain
plain-append [] ys g h = h
plain-append (x ∷ xs) ys g h = (g.0, g.1, plain-append xs ys g.2 h)

-- ---- the fraction
digit-written : (d : ℕ) → d < 10 → digit_value (48 + d) ≡ d
digit-written d h = omega (arith, digit_value_digit (48 + d) (omega arith, omega arith))

-- the digits of a fraction are its value
record Fraction (places f : ℕ) (ds : List ℕ) : Type 0 where
  few : length ds ≤ places
  value : digits_value 10 ds * 10 ^ (places - length ds) ≡ f
  digits : AllDigits 10 ds

-- a number of whole units and a rest, scaled
scaled-sum : (x d a e v g m f : ℕ) → x ≡ d * a + v → v * e ≡ g → m ≡ a * e → d * m + g ≡ f → x * e ≡ f
scaled-sum x d a e v g m f parts rest unit sum =
    let product : d * m ≡ d * (a * e) = ap (λ (y : ℕ). d * y) unit in
    ap (λ (y : ℕ). y * e) parts ∙ omega (arith, rest, product, sum)

fraction-more : (places f d g : ℕ) (ds : List ℕ) → d < 10 → d * 10 ^ places + g ≡ f → Fraction places g ds → Fraction (suc places) f ((48 + d) ∷ ds)
fraction-more places f d g ds digit sum rest =
    let k : ℕ = length ds in
    let written : digit_value (48 + d) ≡ d = digit-written d digit in
    let parts : digits_value 10 ((48 + d) ∷ ds) ≡ d * 10 ^ k + digits_value 10 ds =
    ap (λ (n : ℕ). digits_value_after 10 n ds) (let n : 0 * 10 + digit_value (48 + d) ≡ d = omega (arith, written) in n) ∙ value_after-is 10 d ds in
    let power : 10 ^ places ≡ 10 ^ k * 10 ^ (places - k) = ap (λ (n : ℕ). 10 ^ n) (let n : places ≡ k + (places - k) = omega (arith, rest.few) in n) ∙ pow-add 10 k (places - k) in
    let behind : suc places - suc k ≡ places - k = omega arith in
    record {
      few = omega (arith, rest.few);
      value =
          ap (λ (n : ℕ). digits_value 10 ((48 + d) ∷ ds) * 10 ^ n) behind
          ∙ scaled-sum (digits_value 10 ((48 + d) ∷ ds)) d (10 ^ k) (10 ^ (places - k)) (digits_value 10 ds) g (10 ^ places) f parts rest.value power sum;
      digits = (omega (arith, written), rest.digits);
    }

fraction-nothing : (places f : ℕ) → f ≡ 0 → Fraction places f []
fraction-nothing places f none_left = record { few = omega arith; value = omega (arith, none_left); digits = tt }

fraction-is : (places f : ℕ) → f < 10 ^ places → Fraction places f (fraction_digits places f)
unfolding fraction_digits
fraction-is zero f small = fraction-nothing zero f (omega arith)
fraction-is (suc places) f small = elim (cases_eq f 0) [
  | inl nothing ↦ rw (eq-eqb f 0 nothing) (fraction-nothing (suc places) f nothing)
  | inr more ↦
      rw (ne_eqb f 0 more)
      (fraction-more places f (f / 10 ^ places) (f % 10 ^ places) (fraction_digits places (f % 10 ^ places)) (div_below f (10 ^ places) 10 (pow_ten_pos places) (omega (arith, pow-suc 10 places))) (div-add-mod' f (10 ^ places)) (fraction-is places (f % 10 ^ places) (mod_below f (10 ^ places) (pow_ten_pos places))))
]

-- ---- the digit form of a number of millionths
record Sized (n : ℕ) : Type 0 where
  form : List ℕ
  ds : List ℕ
  fs : List ℕ
  is_form : IsDigitForm form ds fs
  text : size_text n ≡ form ++ []
  value : decimal_size (digits_value 10 (ds ++ fs)) (length fs) false 0 ≡ n

whole-form : (n m : ℕ) → m < 2 ^ 64 → m ≡ n / 1000000 → n % 1000000 ≡ 0 → Sized n
unfolding size_text
whole-form n m small part rest =
    let written = decimal_is_IsNumeral m small in
    let digits : digits_value 10 (decimal m ++ []) ≡ m = ap (λ (xs : List ℕ). digits_value 10 xs) (append-nil (decimal m)) ∙ written.1 in
    record {
      form = decimal m;
      ds = decimal m;
      fs = [];
      is_form = whole (decimal m) written.0;
      text = ap (λ (k : ℕ). decimal k ++ fraction_text (n % 1000000)) (sym part) ∙ ap (λ (f : ℕ). decimal m ++ fraction_text f) rest ∙ ap (λ (xs : List ℕ). decimal m ++ xs) fraction_text-zero;
      value = near-up (digits_value 10 (decimal m ++ [])) 6 0 (omega arith) ∙ omega (arith, digits, part, rest);
    }

pointed-form : (n m f : ℕ) → m < 2 ^ 64 → m ≡ n / 1000000 → f ≡ n % 1000000 → 0 < f → Sized n
unfolding size_text
pointed-form n m f small part rest more =
    let written = decimal_is_IsNumeral m small in
    let fs : List ℕ = fraction_digits 6 f in
    let is = fraction-is 6 f (omega arith) in
    let digits : digits_value 10 (decimal m ++ fs) ≡ m * 10 ^ length fs + digits_value 10 fs =
    value_after-append 10 0 (decimal m) fs ∙ value_after-is 10 (digits_value 10 (decimal m)) fs ∙ ap (λ (k : ℕ). k * 10 ^ length fs + digits_value 10 fs) written.1 in
    let power : 10 ^ 6 ≡ 10 ^ length fs * 10 ^ (6 - length fs) = ap (λ (k : ℕ). 10 ^ k) (let k : 6 ≡ length fs + (6 - length fs) = omega (arith, is.few) in k) ∙ pow-add 10 (length fs) (6 - length fs) in
    record {
      form = decimal m ++ 46 ∷ fs;
      ds = decimal m;
      fs = fs;
      is_form = pointed (decimal m) fs written.0 is.digits;
      text =
          ap (λ (k : ℕ). decimal k ++ fraction_text (n % 1000000)) (sym part)
          ∙ ap (λ (k : ℕ). decimal m ++ fraction_text k) (sym rest)
          ∙ ap (λ (xs : List ℕ). decimal m ++ xs) (fraction_text-more f more)
          ∙ sym (append-nil (decimal m ++ 46 ∷ fs));
      value =
          near-up (digits_value 10 (decimal m ++ fs)) 6 (length fs) is.few
          ∙ scaled-sum (digits_value 10 (decimal m ++ fs)) m (10 ^ length fs) (10 ^ (6 - length fs)) (digits_value 10 fs) f (10 ^ 6) n digits is.value power (omega (arith, part, rest));
    }

size-form : (n : ℕ) → n ≤ 9000000000000000000 → Sized n
size-form n small = elim (cases_eq (n % 1000000) 0) [
  | inl nothing ↦ whole-form n (n / 1000000) (omega arith) refl nothing
  | inr more ↦ pointed-form n (n / 1000000) (n % 1000000) (omega arith) refl refl (omega arith)
]

-- ---- the text of a number is one of the grammar
text-finite : (z : ℤ) → unsigned_abs z ≤ 9000000000000000000 → IsNumber (text_of (Fixed z)) (Fixed z)
text-finite (pos n) small =
    let s = size-form n small in
    subst (λ (t : List ℕ). IsNumber t (Fixed (pos n))) (sym s.text)
    (subst (λ (m : Num). IsNumber (s.form ++ []) m) (ap (λ (k : ℕ). number (pos k)) s.value ∙ number-small (pos n) small)
    (decimal_form [] s.form s.ds s.fs [] false false 0 unsigned s.is_form none))
text-finite (negsuc n) small =
    let s = size-form (suc n) small in
    subst (λ (t : List ℕ). IsNumber (45 ∷ t) (Fixed (negsuc n))) (sym s.text)
    (subst (λ (m : Num). IsNumber (45 ∷ (s.form ++ [])) m) (ap (λ (k : ℕ). negated (number (pos k))) s.value ∙ ap negated (number-small (pos (suc n)) small))
    (decimal_form (45 ∷ []) s.form s.ds s.fs [] true false 0 minus s.is_form none))

text-read : (a : Num) → IsWithin a → trimmed_number (text_of a) ≡ a
unfolding trimmed_number base_of base_of_letter has_minus without_sign unsigned_number decimal_number digits_front after_digits digit_run fraction_front after_fraction exponent_of
text-read (Fixed z) small = complete (text_of (Fixed z)) (Fixed z) (text-finite z small)
text-read Inf small = refl
text-read NegInf small = refl
text-read Nan small = refl

-- ---- the text of a number has no white space
plain-from : (t : List ℕ) → list_all (λ c. nat_le 33 c && nat_lt c 127) t ≡ true → Plain t
unfolding Plain
plain-from [] h = tt
plain-from (c ∷ cs) h =
    let both = and_parts (nat_le 33 c && nat_lt c 127) (list_all (λ c. nat_le 33 c && nat_lt c 127) cs) h in
    let ends = and_parts (nat_le 33 c) (nat_lt c 127) both.0 in
    (leb-true 33 c ends.0, ltb-true c 127 ends.1, plain-from cs both.1)

fraction-plain : (f : ℕ) → f < 1000000 → Plain (fraction_text f)
unfolding Plain
fraction-plain f small = elim (cases_eq f 0) [
  | inl nothing ↦ subst (λ (xs : List ℕ). Plain xs) (sym (ap fraction_text nothing ∙ fraction_text-zero)) tt
  | inr more ↦
      subst (λ (xs : List ℕ). Plain xs) (sym (fraction_text-more f (omega (arith, more))))
      (omega arith, omega arith, digits-plain (fraction_digits 6 f) (fraction-is 6 f small).digits)
]

size-plain : (n : ℕ) → n ≤ 9000000000000000000 → Plain (size_text n)
unfolding size_text
size-plain n small =
    plain-append (decimal (n / 1000000)) (fraction_text (n % 1000000)) (digits-plain (decimal (n / 1000000)) (decimal_is_IsNumeral (n / 1000000) (omega arith)).0.1) (fraction-plain (n % 1000000) (omega arith))

text-plain : (a : Num) → IsWithin a → Plain (text_of a)
unfolding Plain
text-plain (Fixed (pos n)) small = size-plain n small
text-plain (Fixed (negsuc n)) small = (omega arith, omega arith, size-plain (suc n) small)
text-plain Inf small = plain-from (codes "Infinity") refl
text-plain NegInf small = plain-from (codes "-Infinity") refl
text-plain Nan small = plain-from (codes "NaN") refl

-- the text of a number reads as that number
pub number_of-text : (a : Num) → IsWithin a → number_of (text_of a) ≡ a
number_of-text a small = ap trimmed_number (plain-trim (text_of a) (text-plain a small)) ∙ text-read a small

-- no two numbers have one text
pub text_of-same : (a b : Num) → IsWithin a → IsWithin b → text_of a ≡ text_of b → a ≡ b
text_of-same a b small small' same = sym (number_of-text a small) ∙ ap number_of same ∙ number_of-text b small'

pub reads_back : (a : Num) (out : List ℕ) → IsWithin a → out ≡ text_of a → number_of out ≡ a
reads_back a out small is = ap number_of is ∙ number_of-text a small

pub own_text : (a b : Num) (out : List ℕ) → IsWithin a → out ≡ text_of a → IsWithin b → text_of b ≡ out → b ≡ a
own_text a b out small is small' same = text_of-same b a small' small (same ∙ is)
