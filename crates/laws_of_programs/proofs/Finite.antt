-- The numbers of JSON texts: within the limit, and each a number.
use Rattle.std.proofs.Common.{◌≡◌, ℕ, ◌+◌, ◌-◌, ◌<◌, ◌≤◌, Bool, true, false, cond, List, [], ◌∷◌, ◌++◌, length, inl, inr, ◌⊎◌, refl, sym, ap, ◌∙◌, subst, arith}
use Rattle.std.specs.Prelude.{◌==◌, nat_le, ℤ, pos, negsuc, slice_index, zero, suc}
use Rattle.std.specs.Char.{digit_value, is_whitespace}
use Rattle.std.specs.Str.{IsAscii, chars, encode_utf8_all, skip_leading_whitespace, drop_trailing_whitespace, trim, trim_start, trim_end}
use Rattle.std.specs.Str.Parse.{AllDigits, IsNumeral, digits_value}
use Rattle.std.proofs.lemmas.Bool.{agree_below_at, cond-false, and_parts, or_cases, leb-true, eqb-true}
use Rattle.std.proofs.lemmas.Str.{chars-IsAscii, encodes-IsAscii, digit_value_digit}
use Rattle.std.proofs.lemmas.List.{append-nil, append_assoc}
use Rattle.project_json.specs.Bytes.{is_digit, AllTrue}
use Rattle.project_json.specs.Numbers as json
use Rattle.scratch_number.specs.declared.number.Num.{Num}
use Rattle.scratch_number.specs.declared.number.Num.TheVariants.{Fixed, Inf, NegInf, Nan}
use Rattle.scratch_number.specs.Number.{number, limit}
use Rattle.scratch_number.specs.Grammar.{IsSign, unsigned, minus, plus, IsDigitForm, whole, pointed, IsExponentLetter, small, large, IsExponent, none, some, IsNumber, decimal, with_sign, decimal_size}
use Rattle.scratch_number.specs.Reading.{number_of, trimmed_number}
use Rattle.scratch_number.proofs.Grammars.{complete}

-- it is a number
abbrev pub IsOne : Num → Type 0
IsOne (Fixed z) = Unit {0}
IsOne Inf = Unit {0}
IsOne NegInf = Unit {0}
IsOne Nan = ⊥

-- Texts without white space

Plain : List ℕ → Type 0
Plain [] = Unit {0}
Plain (c ∷ cs) = (33 ≤ c) × (c < 127) × Plain cs

plain-not_white : (c : ℕ) → 33 ≤ c → c < 127 → is_whitespace c ≡ false
plain-not_white c low high =
    let at : c - 33 + 33 ≡ c = omega arith in
    ap is_whitespace (sym at) ∙ agree_below_at (λ k. is_whitespace (k + 33)) (λ _. false) 94 (c - 33) refl (omega arith)

plain-at : (t : List ℕ) → Plain t → (i : ℕ) → slice_index t i < 128
unfolding Plain
plain-at [] h i = omega arith
plain-at (c ∷ cs) h zero = omega (arith, h.1)
plain-at (c ∷ cs) h (suc i) = plain-at cs h.2 i

plain-ascii : (t : List ℕ) → Plain t → IsAscii t
plain-ascii t h = plain-at t h

plain-start : (t : List ℕ) → Plain t → skip_leading_whitespace t ≡ t
unfolding Plain
plain-start [] h = refl
plain-start (c ∷ cs) h = cond-false _ _ _ (plain-not_white c h.0 h.1)

plain-end : (t : List ℕ) → Plain t → drop_trailing_whitespace t ≡ t
unfolding Plain
plain-end [] h = refl
plain-end (c ∷ cs) h = rw (plain-not_white c h.0 h.1) (ap (λ (xs : List ℕ). c ∷ xs) (plain-end cs h.2))

plain-trim : (t : List ℕ) → Plain t → trim t ≡ t
unfolding trim_start trim_end
plain-trim t h =
    let ascii = plain-ascii t h in
    let start : encode_utf8_all (skip_leading_whitespace (chars t)) ≡ t =
    ap (λ (xs : List ℕ). encode_utf8_all (skip_leading_whitespace xs)) (chars-IsAscii t ascii) ∙ ap encode_utf8_all (plain-start t h) ∙ encodes-IsAscii t ascii in
    ap (λ (xs : List ℕ). encode_utf8_all (drop_trailing_whitespace (chars xs))) start
    ∙ ap (λ (xs : List ℕ). encode_utf8_all (drop_trailing_whitespace xs)) (chars-IsAscii t ascii) ∙ ap encode_utf8_all (plain-end t h) ∙ encodes-IsAscii t ascii

plain-append : (xs ys : List ℕ) → Plain xs → Plain ys → Plain (xs ++ ys)
unfolding Plain
plain-append [] ys g h = h
plain-append (x ∷ xs) ys g h = (g.0, g.1, plain-append xs ys g.2 h)

-- Digits

digit_range : (d : ℕ) → is_digit d ≡ true → (48 ≤ d) × (d ≤ 57)
digit_range d h = let p = and_parts (nat_le 48 d) (nat_le d 57) h in (leb-true 48 d p.0, leb-true d 57 p.1)

range_digit : (d : ℕ) → 48 ≤ d → d ≤ 57 → digit_value d < 10
range_digit d low high = omega (arith, digit_value_digit d (low, high))

record Digits (ds : List ℕ) : Type 0 where
  digits : AllDigits 10 ds
  plain : Plain ds

digit_and : (d : ℕ) (ds : List ℕ) → 48 ≤ d → d ≤ 57 → Digits ds → Digits (d ∷ ds)
unfolding Plain
digit_and d ds low high h = record { digits = (range_digit d low high, h.digits); plain = (omega arith, omega arith, h.plain) }

no_digits : Digits []
unfolding Plain
no_digits = record { digits = tt; plain = tt }

all_digits : (ds : List ℕ) → AllTrue is_digit ds → Digits ds
all_digits [] h = no_digits
all_digits (d ∷ ds) h = let r = digit_range d h.0 in digit_and d ds r.0 r.1 (all_digits ds h.1)

record Numeral (ds : List ℕ) : Type 0 where
  is : IsNumeral 10 ds
  plain : Plain ds

numeral : (ds : List ℕ) → json.IsDigits ds → Numeral ds
numeral [] h = absurd h
numeral (d ∷ ds) h = let all = all_digits (d ∷ ds) h in record { is = (omega arith, all.digits); plain = all.plain }

nonzero_range : (d : ℕ) → json.is_nonzero_digit d ≡ true → (48 ≤ d) × (d ≤ 57)
nonzero_range d h = let p = and_parts (nat_le 49 d) (nat_le d 57) h in let low = leb-true 49 d p.0 in (omega arith, leb-true d 57 p.1)

int_numeral : (ds : List ℕ) → json.IsInt ds → Numeral ds
int_numeral ds json.lone_zero = let all = digit_and 48 [] (omega arith) (omega arith) no_digits in record { is = (omega arith, all.digits); plain = all.plain }
int_numeral ds (json.nonzero_and {d} {ds = rest} e h) =
    let r = nonzero_range d e in
    let all = digit_and d rest r.0 r.1 (all_digits rest h) in
    record { is = (omega arith, all.digits); plain = all.plain }

-- The form of a number

record Form (int frac : List ℕ) : Type 0 where
  behind : List ℕ
  is : IsDigitForm (int ++ frac) int behind
  plain : Plain frac

fraction_form : (int frac : List ℕ) → Numeral int → json.IsFraction frac → Form int frac
unfolding Plain
fraction_form int frac n json.no_fraction = record { behind = []; is = subst (λ t. IsDigitForm t int []) (sym (append-nil int)) (whole int n.is); plain = tt }
fraction_form int frac n (json.point_and {ds} h) = let m = numeral ds h in record { behind = ds; is = pointed int ds n.is m.is.1; plain = (omega arith, omega arith, m.plain) }

record Power (exp : List ℕ) : Type 0 where
  down : Bool
  size : ℕ
  is : IsExponent exp down size
  plain : Plain exp

letter_by : (c : ℕ) → json.is_e c ≡ true → IsExponentLetter c
letter_by c h = elim (or_cases (c == 101) (c == 69) h) [ inl a ↦ subst IsExponentLetter (sym (eqb-true c 101 a)) small | inr b ↦ subst IsExponentLetter (sym (eqb-true c 69 b)) large ]

letter_plain : (c : ℕ) → IsExponentLetter c → (33 ≤ c) × (c < 127)
letter_plain c small = (omega arith, omega arith)
letter_plain c large = (omega arith, omega arith)

signed_power : (c s : ℕ) (ds : List ℕ) → IsExponentLetter c → (s ≡ 43) ⊎ (s ≡ 45) → Numeral ds → Power (c ∷ s ∷ ds)
unfolding Plain
signed_power c s ds l (inl e) n = let r = letter_plain c l in record { down = false; size = digits_value 10 ds; is = subst (λ k. IsExponent (c ∷ k ∷ ds) false (digits_value 10 ds)) (sym e) (some c (43 ∷ []) ds false l plus n.is); plain = (r.0, r.1, (omega arith, omega arith, n.plain)) }
signed_power c s ds l (inr e) n = let r = letter_plain c l in record { down = true; size = digits_value 10 ds; is = subst (λ k. IsExponent (c ∷ k ∷ ds) true (digits_value 10 ds)) (sym e) (some c (45 ∷ []) ds true l minus n.is); plain = (r.0, r.1, (omega arith, omega arith, n.plain)) }

sign_by : (s : ℕ) → json.is_sign s ≡ true → (s ≡ 43) ⊎ (s ≡ 45)
sign_by s h = elim (or_cases (s == 43) (s == 45) h) [ inl a ↦ inl (eqb-true s 43 a) | inr b ↦ inr (eqb-true s 45 b) ]

exponent_power : (exp : List ℕ) → json.IsExponent exp → Power exp
unfolding Plain
exponent_power exp json.no_exponent = record { down = false; size = 0; is = none; plain = tt }
exponent_power exp (json.e_and {c} {ds} e h) =
    let n = numeral ds h in
    let l = letter_by c e in
    let r = letter_plain c l in
    record { down = false; size = digits_value 10 ds; is = some c [] ds false l unsigned n.is; plain = (r.0, r.1, n.plain) }
exponent_power exp (json.e_sign_and {c} {s} {ds} e k h) = signed_power c s ds (letter_by c e) (sign_by s k) (numeral ds h)

-- A number

one_by : (c : Bool) (m n : Num) → IsOne m → IsOne n → IsOne (cond c m n)
one_by true m n h g = h
one_by false m n h g = g

one_number : (z : ℤ) → IsOne (number z)
one_number (pos n) = one_by (nat_le n limit) (Fixed (pos n)) Inf tt tt
one_number (negsuc n) = one_by (nat_le (suc n) limit) (Fixed (negsuc n)) NegInf tt tt

one_signed : (c : Bool) (n : Num) → IsOne n → IsOne (with_sign c n)
one_signed false n h = h
one_signed true (Fixed z) h = tt
one_signed true Inf h = tt
one_signed true NegInf h = tt
one_signed true Nan h = h

record Told (ds : List ℕ) : Type 0 where
  told : Num
  one : IsOne told
  is : IsNumber ds told
  plain : Plain ds

tells : (sign : List ℕ) (negative : Bool) (ds : List ℕ) → IsSign sign negative → Plain sign → json.IsUnsigned ds → Told (sign ++ ds)
tells sign negative ds s p (int, frac, exp, i, f, x, e) =
    let n = int_numeral int i in
    let form = fraction_form int frac n f in
    let power = exponent_power exp x in
    let z = pos (decimal_size (digits_value 10 (int ++ form.behind)) (length form.behind) power.down power.size) in
    let same : sign ++ ((int ++ frac) ++ exp) ≡ sign ++ ds = ap (λ (t : List ℕ). sign ++ t) (append_assoc int frac exp ∙ sym e) in
    record {
      told = with_sign negative (number z);
      one = one_signed negative (number z) (one_number z);
      is = subst (λ t. IsNumber t (with_sign negative (number z))) same (decimal sign (int ++ frac) int form.behind exp negative power.down power.size s form.is power.is);
      plain = plain-append sign ds p (subst Plain (sym e) (plain-append int (frac ++ exp) n.plain (plain-append frac exp form.plain power.plain)));
    }

tells_number : (ds : List ℕ) → json.IsNumber ds → Told ds
unfolding Plain
tells_number ds (json.unsigned h) = tells [] false ds unsigned tt h
tells_number ds (json.minus_and {ds = rest} h) = tells (45 ∷ []) true rest minus (omega arith, omega arith, tt) h

-- the number of the text of a JSON number is a number
pub one_of : (ds : List ℕ) → json.IsNumber ds → IsOne (number_of ds)
one_of ds h = let t = tells_number ds h in subst IsOne (sym (ap trimmed_number (plain-trim ds t.plain) ∙ complete ds t.told t.is)) t.one
