-- A key that a text names is named by its own name.
use Rattle.std.proofs.Common.{◌≡◌, ℕ, ◌+◌, ◌-◌, ◌<◌, ◌≤◌, ◌==◌, Bool, true, false, cond, List, [], ◌∷◌, ◌++◌, length, drop, get_or, Option, Some, None, refl, sym, ap, ◌∙◌, subst, arith, ◌⊎◌, inl, inr}
use Rattle.std.specs.Prelude.{codes, bytes_eq, ◌&&◌, not, encode_utf8, nat_lt}
use Rattle.std.specs.Char.{IsScalar, to_ascii_uppercase, is_whitespace}
use Rattle.std.specs.List.{after_first, position_or_len}
use Rattle.std.specs.Str.{IsUtf8, chars, all_scalars}
use Rattle.std.proofs.lemmas.Bool.Decides.{nat_tests}
use Rattle.std.proofs.lemmas.List.{drop_all}
use Rattle.std.proofs.lemmas.List.Sums.{prefix_len_stops}
use Rattle.std.proofs.lemmas.Slice.Eq.{bytes_eq-Decides}
use Rattle.std.proofs.lemmas.Str.{IsUtf8-encode, IsUtf8-nil, IsUtf8-drop, IsCharBoundary-after_ascii, chars_past_char, scalars-chars}
use Rattle.std.proofs.lemmas.Str.Ascii.{uppercase-uppercase}
use Rattle.machine_spec.specs.declared.devices.Key.{Key}
use Rattle.machine_spec.specs.declared.devices.Key.TheVariants.{Space, Enter, Left, Right, Up, Down, One}
use Rattle.machine_spec.specs.ScriptText.{key_of_rest, one_key}
use Rattle.machine_spec.specs.Sensing.{key_named, key_or}
use Rattle.laws_of_threads.proofs.Numbers.{equal}
use Rattle.laws_of_threads.specs.GoodLines.{IsNamedKey}

pub and_first : (a b : Bool) → (a && b) ≡ true → a ≡ true
and_first true b h = refl
and_first false b h = h

pub and_second : (a b : Bool) → (a && b) ≡ true → b ≡ true
and_second true b h = h
and_second false b h = absurd (cc h)

-- a text of one character is none of the names of keys

differs_by : (t w : List ℕ) (c d e : ℕ) (cs : List ℕ) (b : Bool) → bytes_eq t w ≡ b → chars t ≡ c ∷ [] → chars w ≡ d ∷ e ∷ cs → b ≡ false
differs_by t w c d e cs true h f g = let same : t ≡ w = (bytes_eq-Decides t w).0 h in let k : chars t ≡ chars w = ap chars same in absurd (cc)
differs_by t w c d e cs false h f g = refl

differs : (t w : List ℕ) (c d e : ℕ) (cs : List ℕ) → chars t ≡ c ∷ [] → chars w ≡ d ∷ e ∷ cs → bytes_eq t w ≡ false
differs t w c d e cs f g = differs_by t w c d e cs (bytes_eq t w) refl f g

unnamed : (t : List ℕ) (c : ℕ) → chars t ≡ c ∷ [] → key_named t ≡ None
unfolding chars
unnamed t c f = rw (
  differs t (codes "space") c _ _ _ f refl,
  differs t (codes "enter") c _ _ _ f refl,
  differs t (codes "left arrow") c _ _ _ f refl,
  differs t (codes "right arrow") c _ _ _ f refl,
  differs t (codes "up arrow") c _ _ _ f refl,
  differs t (codes "down arrow") c _ _ _ f refl,
) refl

append_nil : (xs : List ℕ) → xs ++ [] ≡ xs
append_nil [] = refl
append_nil (x ∷ xs) = ap (λ l. x ∷ l) (append_nil xs)

chars_one : (c : ℕ) → IsScalar c → chars (encode_utf8 c) ≡ c ∷ []
unfolding chars
chars_one c s = chars_past_char (encode_utf8 c) [] c (IsUtf8-encode c s) (sym (append_nil (encode_utf8 c)))

one_named : (c : ℕ) → IsScalar c → is_whitespace c ≡ false → to_ascii_uppercase c ≡ c → IsNamedKey (One c)
one_named c s w u =
    let e = chars_one c s in
    let n = unnamed (encode_utf8 c) c e in
    let o : one_key (c ∷ []) ≡ Some (One (to_ascii_uppercase c)) = rw w refl in
    let q : one_key (chars (encode_utf8 c)) ≡ Some (One c) = ap one_key e ∙ o ∙ ap (λ d. Some (One d)) u in
    rw (n, q) refl

-- an upper-cased letter

upper_by : (b d : Bool) (c : ℕ) → nat_lt c 97 ≡ b → nat_lt c 123 ≡ d → (cond b c (cond d (c - 32) c) ≡ c) ⊎ ((65 ≤ cond b c (cond d (c - 32) c)) × (cond b c (cond d (c - 32) c) ≤ 90))
upper_by true d c e f = inl refl
upper_by false true c e f = inr (grind (arith, nat_tests), grind (arith, nat_tests))
upper_by false false c e f = inl refl

upper_is : (c : ℕ) → (to_ascii_uppercase c ≡ c) ⊎ ((65 ≤ to_ascii_uppercase c) × (to_ascii_uppercase c ≤ 90))
upper_is c = upper_by (nat_lt c 97) (nat_lt c 123) c refl refl

letter_scalar : (c : ℕ) → 65 ≤ c → c ≤ 90 → IsScalar c
letter_scalar c low high = grind (arith, nat_tests)

letter_white : (c : ℕ) → 65 ≤ c → c ≤ 90 → is_whitespace c ≡ false
letter_white c low high = grind (arith, nat_tests)

upper_scalar : (c : ℕ) → IsScalar c → IsScalar (to_ascii_uppercase c)
upper_scalar c s = elim (upper_is c) [ inl e ↦ subst IsScalar (sym e) s | inr h ↦ letter_scalar (to_ascii_uppercase c) h.0 h.1 ]

upper_white : (c : ℕ) → is_whitespace c ≡ false → is_whitespace (to_ascii_uppercase c) ≡ false
upper_white c s = elim (upper_is c) [ inl e ↦ ap is_whitespace e ∙ s | inr h ↦ letter_white (to_ascii_uppercase c) h.0 h.1 ]

-- the key of one character
one_by : (b : Bool) (c : ℕ) (key : Key) → IsScalar c → is_whitespace c ≡ b → cond b None (Some (One (to_ascii_uppercase c))) ≡ Some key → IsNamedKey key
one_by true c key s w e = absurd (cc)
one_by false c key s w e =
    let same : One (to_ascii_uppercase c) ≡ key = cc in
    subst IsNamedKey same (one_named (to_ascii_uppercase c) (upper_scalar c s) (upper_white c w) (uppercase-uppercase c))

of_chars : (cs : List ℕ) (key : Key) → all_scalars cs ≡ true → one_key cs ≡ Some key → IsNamedKey key
of_chars [] key s e = absurd (cc)
of_chars (c ∷ []) key s e = one_by (is_whitespace c) c key (and_first _ _ s) refl e
of_chars (c ∷ d ∷ cs) key s e = absurd (cc)

named_by : (o : Option Key) (text : List ℕ) (key : Key) → IsUtf8 text → ((k : Key) → o ≡ Some k → IsNamedKey k) → key_or o (one_key (chars text)) ≡ Some key → IsNamedKey key
named_by None text key u h e = of_chars (chars text) key (scalars-chars text u) e
named_by (Some k) text key u h e = h key e

key_by : (a b c d e f : Bool) (key : Key) → cond a (Some Space) (cond b (Some Enter) (cond c (Some Left) (cond d (Some Right) (cond e (Some Up) (cond f (Some Down) None))))) ≡ Some key → IsNamedKey key
key_by true b c d e f key h = let same : Space ≡ key = cc in subst IsNamedKey same refl
key_by false true c d e f key h = let same : Enter ≡ key = cc in subst IsNamedKey same refl
key_by false false true d e f key h = let same : Left ≡ key = cc in subst IsNamedKey same refl
key_by false false false true e f key h = let same : Right ≡ key = cc in subst IsNamedKey same refl
key_by false false false false true f key h = let same : Up ≡ key = cc in subst IsNamedKey same refl
key_by false false false false false true key h = let same : Down ≡ key = cc in subst IsNamedKey same refl
key_by false false false false false false key h = absurd (cc)

pub read_named : (text : List ℕ) (key : Key) → IsUtf8 text → key_of_rest text ≡ Some key → IsNamedKey key
read_named text key u e = named_by (key_named text) text key u (λ k h. key_by _ _ _ _ _ _ k h) e

-- what follows the first space

not_false : (b : Bool) → not b ≡ false → b ≡ true
not_false true h = refl
not_false false h = absurd (cc h)

space_at : (text : List ℕ) → position_or_len (λ b. b == 32) text < length text → get_or text (position_or_len (λ b. b == 32) text) 0 ≡ 32
space_at text h = equal (get_or text (position_or_len (λ b. b == 32) text) 0) 32 (not_false _ (prefix_len_stops (λ b. not (b == 32)) text 0 h))

rest_by : (b : Bool) (text : List ℕ) (k : ℕ) → nat_lt k (length text) ≡ b → (k < length text → get_or text k 0 ≡ 32) → IsUtf8 text → IsUtf8 (drop (k + 1) text)
rest_by true text k h e u =
    let less : k < length text = grind (arith, nat_tests) in
    let is : get_or text k 0 ≡ 32 = e less in
    IsUtf8-drop text (k + 1) u (IsCharBoundary-after_ascii text k u less (omega (arith, is)))
rest_by false text k h e u =
    let more : length text ≤ k + 1 = grind (arith, nat_tests) in
    subst IsUtf8 (sym (drop_all (k + 1) text more)) IsUtf8-nil

pub rest_utf8 : (text : List ℕ) → IsUtf8 text → IsUtf8 (after_first (λ b. b == 32) text)
rest_utf8 text u = rest_by (nat_lt (position_or_len (λ b. b == 32) text) (length text)) text (position_or_len (λ b. b == 32) text) refl (space_at text) u
