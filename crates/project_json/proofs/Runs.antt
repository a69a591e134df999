-- Runs of the machine: where one stops, that each state can be completed, and what a larger limit changes.
use Rattle.std.proofs.Common.{◌≡◌, ℕ, zero, suc, ◌+◌, ◌<◌, ◌≤◌, ◌⊎◌, inl, inr, Bool, true, false, cond, List, [], ◌∷◌, ◌++◌, length, get_or, add-one, Ok, Err, refl, ap, ◌∙◌, subst, arith}
use Rattle.std.specs.Prelude.{◌==◌, nat_lt, codes}
use Rattle.std.proofs.lemmas.Bool.Decides.{nat_tests, Decides-eqb}
use Rattle.std.specs.Str.{IsAscii}
use Rattle.std.proofs.lemmas.Str.Ascii.{IsAscii-nil, IsAscii-cons}
use Rattle.std.proofs.lemmas.Str.{IsAscii-append}
use Rattle.project_json.specs.Bytes.{is_blank, is_digit}
use Rattle.project_json.specs.Numbers.{is_nonzero_digit, is_e, is_sign}
use Rattle.project_json.specs.Strings.{is_unescaped, is_hex, is_escape}
use Rattle.project_json.specs.Reading.{Fault, syntax, too_deep}
use Rattle.project_json.specs.Refusal.{IsOpening}
use Rattle.project_json.proofs.Machine.{Frame, in_list, in_object, Mode, want, first_item, first_name, next_name, string, escape, hex, colon, minus, ones, no_ones, point, fraction, power, power_sign, exponent, word, after, Move, goes, stops, deep, closer, again, behind, after_step, closing, open_step, number_step, power_step, point_step, digit_step, value_step, hex_next, name_step, step, Verdict, go_on, ends, fate}

-- a move at the limit n, and the move at a limit j that is no smaller
abbrev pub Related : ℕ → ℕ → ℕ → Move → Move → Type 0
Related n j b (goes m fs) x = (x ≡ goes m fs) × (length fs ≤ n)
Related n j b stops x = x ≡ stops
Related n j b deep x = IsOpening b × (m : Mode) × (fs : List Frame) × (n < j → x ≡ goes m fs)

either : (n j b : ℕ) (t : Bool) (x y v w : Move) → (t ≡ true → Related n j b x v) → (t ≡ false → Related n j b y w) → Related n j b (cond t x y) (cond t v w)
either n j b true x y v w h g = h refl
either n j b false x y v w h g = g refl

module _ (n j b : ℕ) (le : n ≤ j) where
  after_related : (fs : List Frame) → length fs ≤ n → Related n j b (after_step fs b) (after_step fs b)
  after_related [] h = either n j b (is_blank b) (goes after []) stops (goes after []) stops (λ e. (refl, h)) (λ e. refl)
  after_related (f ∷ fs) h =
      either n j b (is_blank b) (goes after (f ∷ fs)) _ (goes after (f ∷ fs)) _ (λ e. (refl, h))
      (λ e. either n j b (b == 44) (goes (again f) (f ∷ fs)) _ (goes (again f) (f ∷ fs)) _ (λ e. (refl, h))
      (λ e. either n j b (b == closer f) (goes after fs) stops (goes after fs) stops (λ e. (refl, omega arith)) (λ e. refl)))

  closing_related : (fs : List Frame) → length fs ≤ n → Related n j b (closing fs) (closing fs)
  closing_related [] h = refl
  closing_related (f ∷ fs) h = (refl, omega arith)

  open_related : (m : Mode) (f : Frame) (fs : List Frame) → length fs ≤ n → IsOpening b → Related n j b (open_step n m f fs) (open_step j m f fs)
  open_related m f fs h o =
      elim (nat_lt (length fs) n) as (λ t. nat_lt (length fs) n ≡ t → Related n j b (cond t (goes m (f ∷ fs)) deep) (open_step j m f fs)) [
        | true ↦ λ e. (let q : nat_lt (length fs) j ≡ true = grind (arith, nat_tests) in ap (λ t. cond t (goes m (f ∷ fs)) deep) q, grind (arith, nat_tests))
        | false ↦ λ e. (o, m, f ∷ fs, λ lt. let q : nat_lt (length fs) j ≡ true = grind (arith, nat_tests) in ap (λ t. cond t (goes m (f ∷ fs)) deep) q)
      ] refl

  digit_related : (m : Mode) (fs : List Frame) → length fs ≤ n → Related n j b (digit_step m fs b) (digit_step m fs b)
  digit_related m fs h = either n j b (is_digit b) (goes m fs) stops (goes m fs) stops (λ e. (refl, h)) (λ e. refl)

  power_related : (fs : List Frame) → length fs ≤ n → Related n j b (power_step fs b) (power_step fs b)
  power_related fs h = either n j b (is_e b) (goes power fs) (after_step fs b) (goes power fs) (after_step fs b) (λ e. (refl, h)) (λ e. after_related fs h)

  point_related : (fs : List Frame) → length fs ≤ n → Related n j b (point_step fs b) (point_step fs b)
  point_related fs h = either n j b (b == 46) (goes point fs) (power_step fs b) (goes point fs) (power_step fs b) (λ e. (refl, h)) (λ e. power_related fs h)

  number_related : (fs : List Frame) → length fs ≤ n → Related n j b (number_step fs b) (number_step fs b)
  number_related fs h =
      either n j b (b == 48) (goes no_ones fs) _ (goes no_ones fs) _ (λ e. (refl, h))
      (λ e. either n j b (is_nonzero_digit b) (goes ones fs) stops (goes ones fs) stops (λ e. (refl, h)) (λ e. refl))

  value_related : (fs : List Frame) → length fs ≤ n → Related n j b (value_step n fs b) (value_step j fs b)
  value_related fs h =
      either n j b (b == 110) (goes (word (codes "ull")) fs) _ (goes (word (codes "ull")) fs) _ (λ e. (refl, h))
      (λ e. either n j b (b == 116) (goes (word (codes "rue")) fs) _ (goes (word (codes "rue")) fs) _ (λ e. (refl, h))
      (λ e. either n j b (b == 102) (goes (word (codes "alse")) fs) _ (goes (word (codes "alse")) fs) _ (λ e. (refl, h))
      (λ e. either n j b (b == 34) (goes (string false) fs) _ (goes (string false) fs) _ (λ e. (refl, h))
      (λ e. either n j b (b == 91) (open_step n first_item in_list fs) _ (open_step j first_item in_list fs) _ (λ e. open_related first_item in_list fs h (inl ((Decides-eqb b 91).0 e)))
      (λ e. either n j b (b == 123) (open_step n first_name in_object fs) _ (open_step j first_name in_object fs) _ (λ e. open_related first_name in_object fs h (inr ((Decides-eqb b 123).0 e)))
      (λ e. either n j b (b == 45) (goes minus fs) (number_step fs b) (goes minus fs) (number_step fs b) (λ e. (refl, h))
      (λ e. number_related fs h)))))))

  name_related : (fs : List Frame) → length fs ≤ n → Related n j b (name_step fs b) (name_step fs b)
  name_related fs h = either n j b (b == 34) (goes (string true) fs) stops (goes (string true) fs) stops (λ e. (refl, h)) (λ e. refl)

  pub related : (m : Mode) (fs : List Frame) → length fs ≤ n → Related n j b (step n m fs b) (step j m fs b)
  related want fs h = either n j b (is_blank b) (goes want fs) (value_step n fs b) (goes want fs) (value_step j fs b) (λ e. (refl, h)) (λ e. value_related fs h)
  related first_item fs h =
      either n j b (is_blank b) (goes first_item fs) (cond (b == 93) (closing fs) (value_step n fs b)) (goes first_item fs) (cond (b == 93) (closing fs) (value_step j fs b)) (λ e. (refl, h))
      (λ e. either n j b (b == 93) (closing fs) (value_step n fs b) (closing fs) (value_step j fs b) (λ e. closing_related fs h) (λ e. value_related fs h))
  related first_name fs h =
      either n j b (is_blank b) (goes first_name fs) (cond (b == 125) (closing fs) (name_step fs b)) (goes first_name fs) (cond (b == 125) (closing fs) (name_step fs b)) (λ e. (refl, h))
      (λ e. either n j b (b == 125) (closing fs) (name_step fs b) (closing fs) (name_step fs b) (λ e. closing_related fs h) (λ e. name_related fs h))
  related next_name fs h = either n j b (is_blank b) (goes next_name fs) (name_step fs b) (goes next_name fs) (name_step fs b) (λ e. (refl, h)) (λ e. name_related fs h)
  related (string k) fs h =
      either n j b (b == 34) (goes (behind k) fs) _ (goes (behind k) fs) _ (λ e. (refl, h))
      (λ e. either n j b (b == 92) (goes (escape k) fs) _ (goes (escape k) fs) _ (λ e. (refl, h))
      (λ e. either n j b (is_unescaped b) (goes (string k) fs) stops (goes (string k) fs) stops (λ e. (refl, h)) (λ e. refl)))
  related (escape k) fs h =
      either n j b (b == 117) (goes (hex k 3) fs) _ (goes (hex k 3) fs) _ (λ e. (refl, h))
      (λ e. either n j b (is_escape b) (goes (string k) fs) stops (goes (string k) fs) stops (λ e. (refl, h)) (λ e. refl))
  related (hex k i) fs h = either n j b (is_hex b) (goes (hex_next k i) fs) stops (goes (hex_next k i) fs) stops (λ e. (refl, h)) (λ e. refl)
  related colon fs h =
      either n j b (is_blank b) (goes colon fs) (cond (b == 58) (goes want fs) stops) (goes colon fs) (cond (b == 58) (goes want fs) stops) (λ e. (refl, h))
      (λ e. either n j b (b == 58) (goes want fs) stops (goes want fs) stops (λ e. (refl, h)) (λ e. refl))
  related minus fs h = number_related fs h
  related ones fs h = either n j b (is_digit b) (goes ones fs) (point_step fs b) (goes ones fs) (point_step fs b) (λ e. (refl, h)) (λ e. point_related fs h)
  related no_ones fs h = point_related fs h
  related point fs h = digit_related fraction fs h
  related fraction fs h = either n j b (is_digit b) (goes fraction fs) (power_step fs b) (goes fraction fs) (power_step fs b) (λ e. (refl, h)) (λ e. power_related fs h)
  related power fs h = either n j b (is_sign b) (goes power_sign fs) (digit_step exponent fs b) (goes power_sign fs) (digit_step exponent fs b) (λ e. (refl, h)) (λ e. digit_related exponent fs h)
  related power_sign fs h = digit_related exponent fs h
  related exponent fs h = either n j b (is_digit b) (goes exponent fs) (after_step fs b) (goes exponent fs) (after_step fs b) (λ e. (refl, h)) (λ e. after_related fs h)
  related (word []) fs h = after_related fs h
  related (word (w ∷ ws)) fs h = either n j b (b == w) (goes (word ws) fs) stops (goes (word ws) fs) stops (λ e. (refl, h)) (λ e. refl)
  related after fs h = after_related fs h

-- in a string
abbrev pub IsString : Mode → Type 0
IsString want = ⊥
IsString first_item = ⊥
IsString first_name = ⊥
IsString next_name = ⊥
IsString (escape k) = ⊥
IsString (hex k j) = ⊥
IsString colon = ⊥
IsString minus = ⊥
IsString ones = ⊥
IsString no_ones = ⊥
IsString point = ⊥
IsString fraction = ⊥
IsString power = ⊥
IsString power_sign = ⊥
IsString exponent = ⊥
IsString (word ws) = ⊥
IsString after = ⊥
IsString (string k) = Unit {0}

-- a word that is still to come has no byte from 128 on
abbrev pub IsAsciiMode : Mode → Type 0
IsAsciiMode want = Unit {0}
IsAsciiMode first_item = Unit {0}
IsAsciiMode first_name = Unit {0}
IsAsciiMode next_name = Unit {0}
IsAsciiMode (escape k) = Unit {0}
IsAsciiMode (hex k j) = Unit {0}
IsAsciiMode colon = Unit {0}
IsAsciiMode minus = Unit {0}
IsAsciiMode ones = Unit {0}
IsAsciiMode no_ones = Unit {0}
IsAsciiMode point = Unit {0}
IsAsciiMode fraction = Unit {0}
IsAsciiMode power = Unit {0}
IsAsciiMode power_sign = Unit {0}
IsAsciiMode exponent = Unit {0}
IsAsciiMode (word ws) = IsAscii ws
IsAsciiMode after = Unit {0}
IsAsciiMode (string k) = Unit {0}

-- a byte from 128 on is taken only in a string
abbrev pub Good : ℕ → Move → Type 0
Good b (goes m fs) = IsAsciiMode m × (128 ≤ b → IsString m)
Good b stops = Unit {0}
Good b deep = Unit {0}

one_of : (b : ℕ) (t : Bool) (x y : Move) → (t ≡ true → Good b x) → (t ≡ false → Good b y) → Good b (cond t x y)
one_of b true x y h g = h refl
one_of b false x y h g = g refl

plain_mode : (k : Bool) → IsAsciiMode (behind k)
plain_mode true = tt
plain_mode false = tt

hex_mode : (k : Bool) (j : ℕ) → IsAsciiMode (hex_next k j)
hex_mode k zero = tt
hex_mode k (suc j) = tt

again_mode : (f : Frame) → IsAsciiMode (again f)
again_mode in_list = tt
again_mode in_object = tt

closer_small : (f : Frame) → closer f < 128
closer_small in_list = omega arith
closer_small in_object = omega arith

ull : (a b c : ℕ) → a < 128 → b < 128 → c < 128 → IsAscii (a ∷ b ∷ c ∷ [])
ull a b c h k l = IsAscii-cons a (b ∷ c ∷ []) h (IsAscii-cons b (c ∷ []) k (IsAscii-cons c [] l IsAscii-nil))

module _ (n b : ℕ) where
  after_good : (fs : List Frame) → Good b (after_step fs b)
  after_good [] = one_of b (is_blank b) (goes after []) stops (λ e. (tt, λ hi. grind (arith, nat_tests))) (λ e. tt)
  after_good (f ∷ fs) =
      one_of b (is_blank b) (goes after (f ∷ fs)) _ (λ e. (tt, λ hi. grind (arith, nat_tests)))
      (λ e. one_of b (b == 44) (goes (again f) (f ∷ fs)) _ (λ e. (again_mode f, λ hi. absurd (grind (arith, nat_tests))))
      (λ e. one_of b (b == closer f) (goes after fs) stops (λ e. (tt, λ hi. let c = closer_small f in let q = (Decides-eqb b (closer f)).0 e in absurd (omega arith))) (λ e. tt)))

  closing_good : (fs : List Frame) → b < 128 → Good b (closing fs)
  closing_good [] lt = tt
  closing_good (f ∷ fs) lt = (tt, λ hi. absurd (omega arith))

  open_good : (m : Mode) (f : Frame) (fs : List Frame) → IsAsciiMode m → b < 128 → Good b (open_step n m f fs)
  open_good m f fs a lt = one_of b (nat_lt (length fs) n) (goes m (f ∷ fs)) deep (λ e. (a, λ hi. absurd (omega arith))) (λ e. tt)

  digit_good : (m : Mode) (fs : List Frame) → IsAsciiMode m → Good b (digit_step m fs b)
  digit_good m fs a = one_of b (is_digit b) (goes m fs) stops (λ e. (a, λ hi. absurd (grind (arith, nat_tests)))) (λ e. tt)

  power_good : (fs : List Frame) → Good b (power_step fs b)
  power_good fs = one_of b (is_e b) (goes power fs) (after_step fs b) (λ e. (tt, λ hi. grind (arith, nat_tests))) (λ e. after_good fs)

  point_good : (fs : List Frame) → Good b (point_step fs b)
  point_good fs = one_of b (b == 46) (goes point fs) (power_step fs b) (λ e. (tt, λ hi. grind (arith, nat_tests))) (λ e. power_good fs)

  number_good : (fs : List Frame) → Good b (number_step fs b)
  number_good fs =
      one_of b (b == 48) (goes no_ones fs) _ (λ e. (tt, λ hi. grind (arith, nat_tests)))
      (λ e. one_of b (is_nonzero_digit b) (goes ones fs) stops (λ e. (tt, λ hi. grind (arith, nat_tests))) (λ e. tt))

  value_good : (fs : List Frame) → Good b (value_step n fs b)
  value_good fs =
      one_of b (b == 110) (goes (word (codes "ull")) fs) _ (λ e. (ull 117 108 108 (omega arith) (omega arith) (omega arith), λ hi. grind (arith, nat_tests)))
      (λ e. one_of b (b == 116) (goes (word (codes "rue")) fs) _ (λ e. (ull 114 117 101 (omega arith) (omega arith) (omega arith), λ hi. grind (arith, nat_tests)))
      (λ e. one_of b (b == 102) (goes (word (codes "alse")) fs) _ (λ e. (IsAscii-cons 97 (108 ∷ 115 ∷ 101 ∷ []) (omega arith) (ull 108 115 101 (omega arith) (omega arith) (omega arith)), λ hi. grind (arith, nat_tests)))
      (λ e. one_of b (b == 34) (goes (string false) fs) _ (λ e. (tt, λ hi. tt))
      (λ e. one_of b (b == 91) (open_step n first_item in_list fs) _ (λ e. open_good first_item in_list fs tt (grind (arith, nat_tests)))
      (λ e. one_of b (b == 123) (open_step n first_name in_object fs) _ (λ e. open_good first_name in_object fs tt (grind (arith, nat_tests)))
      (λ e. one_of b (b == 45) (goes minus fs) (number_step fs b) (λ e. (tt, λ hi. grind (arith, nat_tests)))
      (λ e. number_good fs)))))))

  name_good : (fs : List Frame) → Good b (name_step fs b)
  name_good fs = one_of b (b == 34) (goes (string true) fs) stops (λ e. (tt, λ hi. tt)) (λ e. tt)

  pub good : (m : Mode) (fs : List Frame) → IsAsciiMode m → Good b (step n m fs b)
  good want fs a = one_of b (is_blank b) (goes want fs) (value_step n fs b) (λ e. (tt, λ hi. grind (arith, nat_tests))) (λ e. value_good fs)
  good first_item fs a =
      one_of b (is_blank b) (goes first_item fs) (cond (b == 93) (closing fs) (value_step n fs b)) (λ e. (tt, λ hi. grind (arith, nat_tests)))
      (λ e. one_of b (b == 93) (closing fs) (value_step n fs b) (λ e. closing_good fs (grind (arith, nat_tests))) (λ e. value_good fs))
  good first_name fs a =
      one_of b (is_blank b) (goes first_name fs) (cond (b == 125) (closing fs) (name_step fs b)) (λ e. (tt, λ hi. grind (arith, nat_tests)))
      (λ e. one_of b (b == 125) (closing fs) (name_step fs b) (λ e. closing_good fs (grind (arith, nat_tests))) (λ e. name_good fs))
  good next_name fs a = one_of b (is_blank b) (goes next_name fs) (name_step fs b) (λ e. (tt, λ hi. grind (arith, nat_tests))) (λ e. name_good fs)
  good (string k) fs a =
      one_of b (b == 34) (goes (behind k) fs) _ (λ e. (plain_mode k, λ hi. absurd (grind (arith, nat_tests))))
      (λ e. one_of b (b == 92) (goes (escape k) fs) _ (λ e. (tt, λ hi. grind (arith, nat_tests)))
      (λ e. one_of b (is_unescaped b) (goes (string k) fs) stops (λ e. (tt, λ hi. tt)) (λ e. tt)))
  good (escape k) fs a =
      one_of b (b == 117) (goes (hex k 3) fs) _ (λ e. (tt, λ hi. grind (arith, nat_tests)))
      (λ e. one_of b (is_escape b) (goes (string k) fs) stops (λ e. (tt, λ hi. tt)) (λ e. tt))
  good (hex k i) fs a = one_of b (is_hex b) (goes (hex_next k i) fs) stops (λ e. (hex_mode k i, λ hi. absurd (grind (arith, nat_tests)))) (λ e. tt)
  good colon fs a =
      one_of b (is_blank b) (goes colon fs) (cond (b == 58) (goes want fs) stops) (λ e. (tt, λ hi. grind (arith, nat_tests)))
      (λ e. one_of b (b == 58) (goes want fs) stops (λ e. (tt, λ hi. grind (arith, nat_tests))) (λ e. tt))
  good minus fs a = number_good fs
  good ones fs a = one_of b (is_digit b) (goes ones fs) (point_step fs b) (λ e. (tt, λ hi. grind (arith, nat_tests))) (λ e. point_good fs)
  good no_ones fs a = point_good fs
  good point fs a = digit_good fraction fs tt
  good fraction fs a = one_of b (is_digit b) (goes fraction fs) (power_step fs b) (λ e. (tt, λ hi. grind (arith, nat_tests))) (λ e. power_good fs)
  good power fs a = one_of b (is_sign b) (goes power_sign fs) (digit_step exponent fs b) (λ e. (tt, λ hi. grind (arith, nat_tests))) (λ e. digit_good exponent fs tt)
  good power_sign fs a = digit_good exponent fs tt
  good exponent fs a = one_of b (is_digit b) (goes exponent fs) (after_step fs b) (λ e. (tt, λ hi. grind (arith, nat_tests))) (λ e. after_good fs)
  good (word []) fs a = after_good fs
  good (word (w ∷ ws)) fs a = one_of b (b == w) (goes (word ws) fs) stops (λ e. (λ i. let q = a (i + 1) in subst (λ k. get_or (w ∷ ws) k 0 < 128) (add-one i) q, λ hi. let q : w < 128 = a 0 in let d = (Decides-eqb b w).0 e in absurd (omega arith))) (λ e. tt)
  good after fs a = after_good fs

-- what the machine takes, it takes under a larger limit
pub fate_more : (n j : ℕ) → n ≤ j → (bs : List ℕ) (m : Mode) (fs : List Frame) → length fs ≤ n → fate n bs m fs ≡ Ok tt → fate j bs m fs ≡ Ok tt
fate_more n j le [] m fs h g = g
fate_more n j le (b ∷ bs) m fs h g =
    elim (step n m fs b) as (λ s. Related n j b s (step j m fs b) → go_on s (fate n bs) (length (b ∷ bs)) ≡ Ok tt → go_on (step j m fs b) (fate j bs) (length (b ∷ bs)) ≡ Ok tt) [
      | goes k gs ↦ λ r g. ap (λ s. go_on s (fate j bs) (length (b ∷ bs))) r.0 ∙ fate_more n j le bs k gs r.1 g
      | stops ↦ λ r g. absurd (cc)
      | deep ↦ λ r g. absurd (cc)
    ] (related n j b le m fs h) g

-- why the machine stops before these bytes
abbrev pub Stops : ℕ → Mode → List Frame → List ℕ → Fault → Type 0
Stops n m fs [] f = ends m fs ≡ Err f
Stops n m fs (b ∷ bs) f = ((step n m fs b ≡ stops) × (f ≡ syntax (length (b ∷ bs)))) ⊎ ((step n m fs b ≡ deep) × (f ≡ too_deep (length (b ∷ bs))))

-- the last byte, or this one before them
abbrev pub last_of : ℕ → List ℕ → ℕ
last_of p [] = p
last_of p (b ∷ bs) = last_of b bs

-- the bytes up to a fault, what the machine is in before it, and what a byte from 128 on before the bytes says of that
pub record Cut (n p : ℕ) (bs : List ℕ) (m : Mode) (fs : List Frame) (f : Fault) : Type 0 where
  pub front : List ℕ
  pub rest : List ℕ
  pub mode : Mode
  pub frames : List Frame
  pub parts : bs ≡ front ++ rest
  pub leads : (j : ℕ) → n ≤ j → (more : List ℕ) → fate j (front ++ more) m fs ≡ fate j more mode frames
  pub open_within : length frames ≤ n
  pub ascii : IsAsciiMode mode
  pub edge : 128 ≤ last_of p front → IsString mode
  pub fault : Stops n mode frames rest f

cut_on : (n p b : ℕ) (bs : List ℕ) (m : Mode) (fs : List Frame) (f : Fault) (k : Mode) (gs : List Frame) → ((j : ℕ) → n ≤ j → step j m fs b ≡ goes k gs) → Cut n b bs k gs f → Cut n p (b ∷ bs) m fs f
cut_on n p b bs m fs f k gs moves c =
    record {
      front = b ∷ c.front;
      rest = c.rest;
      mode = c.mode;
      frames = c.frames;
      parts = ap (λ xs. b ∷ xs) c.parts;
      leads = λ j le more. ap (λ s. go_on s (fate j (c.front ++ more)) (length (b ∷ c.front ++ more))) (moves j le) ∙ c.leads j le more;
      open_within = c.open_within;
      ascii = c.ascii;
      edge = c.edge;
      fault = c.fault;
    }

cut_here : (n p : ℕ) (bs : List ℕ) (m : Mode) (fs : List Frame) (f : Fault) → length fs ≤ n → IsAsciiMode m → (128 ≤ p → IsString m) → Stops n m fs bs f → Cut n p bs m fs f
cut_here n p bs m fs f h a g s = record { front = []; rest = bs; mode = m; frames = fs; parts = refl; leads = λ j le more. refl; open_within = h; ascii = a; edge = g; fault = s }

fault_same : (f g : Fault) → ◌≡◌ {A = Verdict} (Err f) (Err g) → g ≡ f
fault_same f g h = cc

goes_at : (n j b : ℕ) (m : Mode) (fs : List Frame) (k : Mode) (gs : List Frame) → n ≤ j → length fs ≤ n → step n m fs b ≡ goes k gs → (step j m fs b ≡ goes k gs) × (length gs ≤ n)
goes_at n j b m fs k gs le h e = subst (λ s. Related n j b s (step j m fs b)) e (related n j b le m fs h)

goes_good : (n b : ℕ) (m : Mode) (fs : List Frame) (k : Mode) (gs : List Frame) → IsAsciiMode m → step n m fs b ≡ goes k gs → IsAsciiMode k × (128 ≤ b → IsString k)
goes_good n b m fs k gs a e = subst (Good b) e (good n b m fs a)

pub cut : (n p : ℕ) (bs : List ℕ) (m : Mode) (fs : List Frame) (f : Fault) → length fs ≤ n → IsAsciiMode m → (128 ≤ p → IsString m) → fate n bs m fs ≡ Err f → Cut n p bs m fs f
cut n p [] m fs f h a d g = cut_here n p [] m fs f h a d g
cut n p (b ∷ bs) m fs f h a d g =
    elim (step n m fs b) as (λ s. step n m fs b ≡ s → go_on s (fate n bs) (length (b ∷ bs)) ≡ Err f → Cut n p (b ∷ bs) m fs f) [
      | goes k gs ↦ λ e g.
          let next = goes_good n b m fs k gs a e in
          cut_on n p b bs m fs f k gs (λ j le. (goes_at n j b m fs k gs le h e).0) (cut n b bs k gs f (goes_at n n b m fs k gs (omega arith) h e).1 next.0 next.1 g)
      | stops ↦ λ e g. cut_here n p (b ∷ bs) m fs f h a d (inl (e, fault_same _ _ g))
      | deep ↦ λ e g. cut_here n p (b ∷ bs) m fs f h a d (inr (e, fault_same _ _ g))
    ] refl g

-- the shortest bytes that complete what a mode has begun
abbrev pub quote : Bool → List ℕ
quote true = 34 ∷ 58 ∷ 48 ∷ []
quote false = 34 ∷ []

abbrev pub hexes : ℕ → List ℕ → List ℕ
hexes zero end = 48 ∷ end
hexes (suc j) end = 48 ∷ hexes j end

abbrev pub finish : Mode → List ℕ
finish want = 48 ∷ []
finish first_item = 48 ∷ []
finish first_name = 34 ∷ 34 ∷ 58 ∷ 48 ∷ []
finish next_name = 34 ∷ 34 ∷ 58 ∷ 48 ∷ []
finish (string k) = quote k
finish (escape k) = 110 ∷ quote k
finish (hex k j) = hexes j (quote k)
finish colon = 58 ∷ 48 ∷ []
finish minus = 48 ∷ []
finish ones = []
finish no_ones = []
finish point = 48 ∷ []
finish fraction = []
finish power = 48 ∷ []
finish power_sign = 48 ∷ []
finish exponent = []
finish (word ws) = ws
finish after = []

abbrev pub close : List Frame → List ℕ
close [] = []
close (f ∷ fs) = closer f ∷ close fs

closes : (n : ℕ) (fs : List Frame) → fate n (close fs) after fs ≡ Ok tt
closes n [] = refl
closes n (in_list ∷ fs) = closes n fs
closes n (in_object ∷ fs) = closes n fs

-- behind a number
ends_number : (n : ℕ) (fs : List Frame) → fate n (close fs) no_ones fs ≡ Ok tt
ends_number n [] = refl
ends_number n (in_list ∷ fs) = closes n fs
ends_number n (in_object ∷ fs) = closes n fs

word_finishes : (n : ℕ) (ws : List ℕ) (fs : List Frame) → fate n (ws ++ close fs) (word ws) fs ≡ Ok tt
word_finishes n [] [] = refl
word_finishes n [] (in_list ∷ fs) = closes n fs
word_finishes n [] (in_object ∷ fs) = closes n fs
word_finishes n (w ∷ ws) fs = ap (λ t. go_on (cond t (goes (word ws) fs) stops) (fate n (ws ++ close fs)) (length (w ∷ ws ++ close fs))) ((Decides-eqb w w).1 refl) ∙ word_finishes n ws fs

quote_finishes : (n : ℕ) (k : Bool) (fs : List Frame) → fate n (quote k ++ close fs) (string k) fs ≡ Ok tt
quote_finishes n true fs = ends_number n fs
quote_finishes n false fs = closes n fs

hex_finishes : (n : ℕ) (k : Bool) (j : ℕ) (fs : List Frame) → fate n (hexes j (quote k) ++ close fs) (hex k j) fs ≡ Ok tt
hex_finishes n k zero fs = quote_finishes n k fs
hex_finishes n k (suc j) fs = hex_finishes n k j fs

-- each state can be completed, and no bracket is opened for that
pub finishes : (n : ℕ) (m : Mode) (fs : List Frame) → fate n (finish m ++ close fs) m fs ≡ Ok tt
finishes n want fs = ends_number n fs
finishes n first_item fs = ends_number n fs
finishes n first_name fs = ends_number n fs
finishes n next_name fs = ends_number n fs
finishes n (string k) fs = quote_finishes n k fs
finishes n (escape k) fs = quote_finishes n k fs
finishes n (hex k j) fs = hex_finishes n k j fs
finishes n colon fs = ends_number n fs
finishes n minus fs = ends_number n fs
finishes n ones [] = refl
finishes n ones (in_list ∷ fs) = closes n fs
finishes n ones (in_object ∷ fs) = closes n fs
finishes n no_ones fs = ends_number n fs
finishes n point [] = refl
finishes n point (in_list ∷ fs) = closes n fs
finishes n point (in_object ∷ fs) = closes n fs
finishes n fraction [] = refl
finishes n fraction (in_list ∷ fs) = closes n fs
finishes n fraction (in_object ∷ fs) = closes n fs
finishes n power [] = refl
finishes n power (in_list ∷ fs) = closes n fs
finishes n power (in_object ∷ fs) = closes n fs
finishes n power_sign [] = refl
finishes n power_sign (in_list ∷ fs) = closes n fs
finishes n power_sign (in_object ∷ fs) = closes n fs
finishes n exponent [] = refl
finishes n exponent (in_list ∷ fs) = closes n fs
finishes n exponent (in_object ∷ fs) = closes n fs
finishes n (word ws) fs = word_finishes n ws fs
finishes n after fs = closes n fs

quote_ascii : (k : Bool) → IsAscii (quote k)
quote_ascii true = ull 34 58 48 (omega arith) (omega arith) (omega arith)
quote_ascii false = IsAscii-cons 34 [] (omega arith) IsAscii-nil

hexes_ascii : (j : ℕ) (end : List ℕ) → IsAscii end → IsAscii (hexes j end)
hexes_ascii zero end h = IsAscii-cons 48 end (omega arith) h
hexes_ascii (suc j) end h = IsAscii-cons 48 (hexes j end) (omega arith) (hexes_ascii j end h)

one_ascii : (b : ℕ) → b < 128 → IsAscii (b ∷ [])
one_ascii b h = IsAscii-cons b [] h IsAscii-nil

finish_ascii : (m : Mode) → IsAsciiMode m → IsAscii (finish m)
finish_ascii want a = one_ascii 48 (omega arith)
finish_ascii first_item a = one_ascii 48 (omega arith)
finish_ascii first_name a = IsAscii-cons 34 (34 ∷ 58 ∷ 48 ∷ []) (omega arith) (ull 34 58 48 (omega arith) (omega arith) (omega arith))
finish_ascii next_name a = IsAscii-cons 34 (34 ∷ 58 ∷ 48 ∷ []) (omega arith) (ull 34 58 48 (omega arith) (omega arith) (omega arith))
finish_ascii (string k) a = quote_ascii k
finish_ascii (escape k) a = IsAscii-cons 110 (quote k) (omega arith) (quote_ascii k)
finish_ascii (hex k j) a = hexes_ascii j (quote k) (quote_ascii k)
finish_ascii colon a = IsAscii-cons 58 (48 ∷ []) (omega arith) (one_ascii 48 (omega arith))
finish_ascii minus a = one_ascii 48 (omega arith)
finish_ascii ones a = IsAscii-nil
finish_ascii no_ones a = IsAscii-nil
finish_ascii point a = one_ascii 48 (omega arith)
finish_ascii fraction a = IsAscii-nil
finish_ascii power a = one_ascii 48 (omega arith)
finish_ascii power_sign a = one_ascii 48 (omega arith)
finish_ascii exponent a = IsAscii-nil
finish_ascii (word ws) a = a
finish_ascii after a = IsAscii-nil

close_ascii : (fs : List Frame) → IsAscii (close fs)
close_ascii [] = IsAscii-nil
close_ascii (f ∷ fs) = IsAscii-cons (closer f) (close fs) (closer_small f) (close_ascii fs)

pub ending_ascii : (m : Mode) (fs : List Frame) → IsAsciiMode m → IsAscii (finish m ++ close fs)
ending_ascii m fs a = IsAscii-append (finish m) (close fs) (finish_ascii m a) (close_ascii fs)

not_ok : (m : Mode) (fs : List Frame) → ◌≡◌ {A = Move} (goes m fs) stops → ⊥
not_ok m fs e = cc

-- a string stops only at a small byte
string_stop : (k : Bool) (fs : List Frame) (b : ℕ) → cond (b == 34) (goes (behind k) fs) (cond (b == 92) (goes (escape k) fs) (cond (is_unescaped b) (goes (string k) fs) stops)) ≡ stops → b < 128
string_stop k fs b =
    elim (b == 34) as (λ t. b == 34 ≡ t → cond t (goes (behind k) fs) (cond (b == 92) (goes (escape k) fs) (cond (is_unescaped b) (goes (string k) fs) stops)) ≡ stops → b < 128) [
      | true ↦ λ e h. absurd (not_ok (behind k) fs h)
      | false ↦ λ e. elim (b == 92) as (λ t. b == 92 ≡ t → cond t (goes (escape k) fs) (cond (is_unescaped b) (goes (string k) fs) stops) ≡ stops → b < 128) [
        | true ↦ λ d h. absurd (not_ok (escape k) fs h)
        | false ↦ λ d. elim (is_unescaped b) as (λ t. is_unescaped b ≡ t → cond t (goes (string k) fs) stops ≡ stops → b < 128) [
          | true ↦ λ p h. absurd (not_ok (string k) fs h)
          | false ↦ λ p h. grind (arith, nat_tests)
        ] refl
      ] refl
    ] refl

pub string_stops : (n : ℕ) (m : Mode) (fs : List Frame) (b : ℕ) → IsString m → step n m fs b ≡ stops → b < 128
string_stops n (string k) fs b s h = string_stop k fs b h
string_stops n want fs b s h = absurd s
string_stops n first_item fs b s h = absurd s
string_stops n first_name fs b s h = absurd s
string_stops n next_name fs b s h = absurd s
string_stops n (escape k) fs b s h = absurd s
string_stops n (hex k j) fs b s h = absurd s
string_stops n colon fs b s h = absurd s
string_stops n minus fs b s h = absurd s
string_stops n ones fs b s h = absurd s
string_stops n no_ones fs b s h = absurd s
string_stops n point fs b s h = absurd s
string_stops n fraction fs b s h = absurd s
string_stops n power fs b s h = absurd s
string_stops n power_sign fs b s h = absurd s
string_stops n exponent fs b s h = absurd s
string_stops n (word ws) fs b s h = absurd s
string_stops n after fs b s h = absurd s
