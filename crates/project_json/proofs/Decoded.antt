-- The text of the pieces of a UTF-8 text is UTF-8, and so is what follows them.
use Rattle.std.proofs.Common.{◌≡◌, ℕ, ◌+◌, ◌/◌, ◌%◌, ◌<◌, ◌≤◌, ◌⊎◌, inl, inr, ⊎_elim, Bool, true, false, cond, List, [], ◌∷◌, ◌++◌, length, Option, None, Some, refl, sym, ap, ◌∙◌, subst, arith, append_assoc}
use Rattle.std.specs.Prelude.{◌&&◌, nat_lt}
use Rattle.std.specs.Str.{IsUtf8}
use Rattle.std.specs.Char.{encode_utf8, IsScalar}
use Rattle.std.specs.Char.Utf16.{surrogate_pair_char}
use Rattle.std.proofs.Math.Utf8.{scalars, encode, encodes, scalar}
use Rattle.std.proofs.lemmas.Str.{IsUtf8-append, IsUtf8-nil, IsUtf8-encode, IsUtf8-drop, encode_ascii, length-encode, len_utf8_bounds, IsUtf8-from_ascii, IsCharBoundary-after_ascii}
use Rattle.std.proofs.lemmas.Str.Ascii.{IsAscii-nil, IsAscii-cons}
use Rattle.std.proofs.lemmas.Bool.Decides.{nat_tests}
use Rattle.project_json.specs.Strings.{is_hex, hex_value, is_escape, escaped, Piece, unit, unit_of, is_high, is_low, unescaped_here, escape_here, unit_here, Pieces, no_pieces, piece_and}
use Rattle.project_json.specs.Joining.{IsWaiting, flushed, single, added, waiting, joined_from}

small_or : (b : ℕ) → (b < 128) ⊎ (128 ≤ b)
small_or b = elim (nat_lt b 128) as (λ t. nat_lt b 128 ≡ t → (b < 128) ⊎ (128 ≤ b)) [ true ↦ λ e. inl (grind (arith, nat_tests)) | false ↦ λ e. inr (grind (arith, nat_tests)) ] refl

one_byte : (b : ℕ) → b < 128 → IsUtf8 (b ∷ [])
one_byte b h = IsUtf8-from_ascii (b ∷ []) (IsAscii-cons b [] h IsAscii-nil)

pub tail_utf8 : (b : ℕ) (rest : List ℕ) → b < 128 → IsUtf8 (b ∷ rest) → IsUtf8 rest
tail_utf8 b rest h u = IsUtf8-drop (b ∷ rest) 1 u (IsCharBoundary-after_ascii (b ∷ rest) 0 u (omega arith) h)

-- bytes within a character
abbrev AllHigh : List ℕ → Type 0
AllHigh [] = Unit {0}
AllHigh (b ∷ bs) = (128 ≤ b) × AllHigh bs

either_high : (t : Bool) (x y : List ℕ) → AllHigh x → AllHigh y → AllHigh (cond t x y)
either_high true x y h g = h
either_high false x y h g = g

encode_high : (c : ℕ) → 128 ≤ c → AllHigh (encode c)
unfolding encode
encode_high c h =
    let rest : List ℕ = cond (nat_lt c 2048) ((192 + c / 64) ∷ (128 + (c % 64)) ∷ []) (cond (nat_lt c 65536) ((224 + c / 4096) ∷ (128 + (c / 64 % 64)) ∷ (128 + (c % 64)) ∷ []) ((240 + c / 262144) ∷ (128 + (c / 4096 % 64)) ∷ (128 + (c / 64 % 64)) ∷ (128 + (c % 64)) ∷ [])) in
    elim (nat_lt c 128) as (λ t. nat_lt c 128 ≡ t → AllHigh (cond t (c ∷ []) rest)) [
      | true ↦ λ e. absurd (grind (arith, nat_tests))
      | false ↦ λ e. either_high (nat_lt c 2048) _ _ (omega arith, (omega arith, tt)) (either_high (nat_lt c 65536) _ _ (omega arith, (omega arith, (omega arith, tt))) (omega arith, (omega arith, (omega arith, (omega arith, tt)))))
    ] refl

-- a text that begins with a byte from 128 on begins with a character
record Head (b : ℕ) (rest : List ℕ) : Type 0 where
  char : ℕ
  more : List ℕ
  after : List ℕ
  is : IsScalar char
  bytes : encode char ≡ b ∷ more
  high : AllHigh more
  parts : rest ≡ more ++ after
  utf8 : IsUtf8 after

both_true : (a b : Bool) → (a && b) ≡ true → (a ≡ true) × (b ≡ true)
both_true true b h = (refl, h)
both_true false b h = absurd (cc)

head_parts : (b : ℕ) (rest cs : List ℕ) (c : ℕ) (xs : List ℕ) → encode c ≡ xs → AllHigh xs → 0 < length xs → IsScalar c → scalars cs ≡ true → xs ++ encodes cs ≡ b ∷ rest → Head b rest
head_parts b rest cs c [] e h l s t p = absurd (omega arith)
head_parts b rest cs c (x ∷ more) e h l s t p =
    let same : x ≡ b = cc in
    let parts : more ++ encodes cs ≡ rest = cc in
    record {
      char = c;
      more = more;
      after = encodes cs;
      is = s;
      bytes = e ∙ ap (λ y. y ∷ more) same;
      high = h.1;
      parts = sym parts;
      utf8 = (cs, (t, refl));
    }

head_from : (b : ℕ) (rest cs : List ℕ) → 128 ≤ b → scalars cs ≡ true → encodes cs ≡ b ∷ rest → Head b rest
head_from b rest [] h s e = absurd (cc)
head_from b rest (c ∷ cs) h s e =
    let t = both_true (scalar c) (scalars cs) s in
    ⊎_elim
    (λ (lt : c < 128). absurd (let p : c ∷ encodes cs ≡ b ∷ rest = ap (λ xs. xs ++ encodes cs) (sym (encode_ascii c lt)) ∙ e in let q : c ≡ b = cc in omega arith))
    (λ (hi : 128 ≤ c). head_parts b rest cs c (encode c) refl (encode_high c hi) (let l = length-encode c in let m = len_utf8_bounds c in omega (arith, l, m)) t.0 t.1 e)
    (small_or c)

head : (b : ℕ) (rest : List ℕ) → 128 ≤ b → IsUtf8 (b ∷ rest) → Head b rest
head b rest h u = head_from b rest u.0 h u.1.0 u.1.1

replaced : IsUtf8 (encode_utf8 65533)
replaced = IsUtf8-encode 65533 refl

flushed_utf8 : (h : Option ℕ) → IsUtf8 (flushed h)
flushed_utf8 None = IsUtf8-nil
flushed_utf8 (Some u) = replaced

single_utf8 : (v : ℕ) → v < 65536 → is_high v ≡ false → IsUtf8 (single v)
single_utf8 v lt h =
    elim (is_low v) as (λ t. is_low v ≡ t → IsUtf8 (cond t (encode_utf8 65533) (encode_utf8 v))) [
      | true ↦ λ e. replaced
      | false ↦ λ e. IsUtf8-encode v (grind (arith, nat_tests))
    ] refl

unit_added : (h : Option ℕ) (v : ℕ) → IsWaiting h → v < 65536 → IsUtf8 (added h (unit v)) × IsWaiting (waiting h (unit v))
unit_added None v w lt =
    elim (is_high v) as (λ t. is_high v ≡ t → IsUtf8 (cond t [] (single v)) × IsWaiting (cond t (Some v) None)) [
      | true ↦ λ e. (IsUtf8-nil, e)
      | false ↦ λ e. (single_utf8 v lt e, tt)
    ] refl
unit_added (Some u) v w lt =
    elim (is_low v) as (λ t. is_low v ≡ t → IsUtf8 (cond t (encode_utf8 (surrogate_pair_char u v)) (cond (is_high v) (encode_utf8 65533) (encode_utf8 65533 ++ single v))) × IsWaiting (cond t None (cond (is_high v) (Some v) None))) [
      | true ↦ λ e. (IsUtf8-encode (surrogate_pair_char u v) (grind (arith, nat_tests)), tt)
      | false ↦ λ e. elim (is_high v) as (λ t. is_high v ≡ t → IsUtf8 (cond t (encode_utf8 65533) (encode_utf8 65533 ++ single v)) × IsWaiting (cond t (Some v) None)) [
        | true ↦ λ d. (replaced, d)
        | false ↦ λ d. (IsUtf8-append (encode_utf8 65533) (single v) replaced (single_utf8 v lt d), tt)
      ] refl
    ] refl

hex_small : (b : ℕ) → is_hex b ≡ true → (hex_value b < 16) × (b < 128)
hex_small b h = (grind (arith, nat_tests), grind (arith, nat_tests))

escape_small : (b : ℕ) → is_escape b ≡ true → (escaped b < 128) × (b < 128)
escape_small b h = (grind (arith, nat_tests), grind (arith, nat_tests))

-- within a character no unit waits
abbrev IsFree : List ℕ → Option ℕ → Type 0
IsFree [] h = Unit {0}
IsFree (f ∷ fs) h = h ≡ None

free_none : (front : List ℕ) → IsFree front None
free_none [] = tt
free_none (f ∷ fs) = refl

-- The text begins with the rest of a character, front, and then goes on as UTF-8.
pub decoded : {ps : List Piece} {old new : List ℕ} → Pieces ps old new → (h : Option ℕ) → IsWaiting h → (front u : List ℕ) → AllHigh front → IsFree front h → old ≡ front ++ u → IsUtf8 u → (j : List ℕ) × (joined_from h ps ≡ front ++ j) × IsUtf8 j × IsUtf8 new
decoded (no_pieces {new}) h w [] u a free e ok = (flushed h, refl, flushed_utf8 h, tail_utf8 34 new (omega arith) (subst IsUtf8 (sym e) ok))
decoded (no_pieces {new}) h w (f ∷ fs) u a free e ok = absurd (let q : 34 ≡ f = cc in let b = a.0 in omega (arith, q, b))
decoded (piece_and mid (unescaped_here {b} {new} pb) ps) h w [] u a free e ok =
    let utf : IsUtf8 (b ∷ new) = subst IsUtf8 (sym e) ok in
    ⊎_elim
    (λ (lt : b < 128).
    let more = decoded ps None tt [] new tt tt refl (tail_utf8 b new lt utf) in
    ((flushed h ++ b ∷ []) ++ more.0, ap (λ xs. (flushed h ++ b ∷ []) ++ xs) more.1, IsUtf8-append (flushed h ++ b ∷ []) more.0 (IsUtf8-append (flushed h) (b ∷ []) (flushed_utf8 h) (one_byte b lt)) more.2, more.3))
    (λ (hi : 128 ≤ b).
    let c = head b new hi utf in
    let more = decoded ps None tt c.more c.after c.high (free_none c.more) c.parts c.utf8 in (
      flushed h ++ (encode c.char ++ more.0),
      ap (λ xs. (flushed h ++ b ∷ []) ++ xs) more.1 ∙ append_assoc (flushed h) (b ∷ []) (c.more ++ more.0) ∙ ap (λ xs. flushed h ++ (xs ++ more.0)) (sym c.bytes),
      IsUtf8-append (flushed h) (encode c.char ++ more.0) (flushed_utf8 h) (IsUtf8-append (encode c.char) more.0 (IsUtf8-encode c.char c.is) more.2),
      more.3,
    ))
    (small_or b)
decoded (piece_and {ps = ps_of} mid (unescaped_here {b} {new} pb) ps) h w (f ∷ fs) u a free e ok =
    let same : b ≡ f = cc in
    let rest : new ≡ fs ++ u = cc in
    let more = decoded ps None tt fs u a.1 (free_none fs) rest ok in
    (more.0, ap (λ g. (flushed g ++ b ∷ []) ++ joined_from None ps_of) free ∙ ap (λ xs. b ∷ xs) more.1 ∙ ap (λ x. x ∷ fs ++ more.0) same, more.2, more.3)
decoded (piece_and mid (escape_here {c} {new} pc) ps) h w [] u a free e ok =
    let small = escape_small c pc in
    let utf : IsUtf8 (92 ∷ c ∷ new) = subst IsUtf8 (sym e) ok in
    let more = decoded ps None tt [] new tt tt refl (tail_utf8 c new small.1 (tail_utf8 92 (c ∷ new) (omega arith) utf)) in
    ((flushed h ++ escaped c ∷ []) ++ more.0, ap (λ xs. (flushed h ++ escaped c ∷ []) ++ xs) more.1, IsUtf8-append (flushed h ++ escaped c ∷ []) more.0 (IsUtf8-append (flushed h) (escaped c ∷ []) (flushed_utf8 h) (one_byte (escaped c) small.0)) more.2, more.3)
decoded (piece_and mid (escape_here {c} {new} pc) ps) h w (f ∷ fs) u a free e ok = absurd (let q : 92 ≡ f = cc in let b = a.0 in omega (arith, q, b))
decoded (piece_and mid (unit_here {a = x} {b = y} {c = z} {d = v} {new} px) ps) h w [] u a free e ok =
    let p = hex_small x px.0 in
    let q = hex_small y px.1.0 in
    let r = hex_small z px.1.1.0 in
    let s = hex_small v px.1.1.1.0 in
    let utf : IsUtf8 (92 ∷ 117 ∷ x ∷ y ∷ z ∷ v ∷ new) = subst IsUtf8 (sym e) ok in
    let here = unit_added h (unit_of x y z v) w (let i = p.0 in let j = q.0 in let k = r.0 in let l = s.0 in omega (arith, i, j, k, l)) in
    let left = tail_utf8 v new s.1 (tail_utf8 z (v ∷ new) r.1 (tail_utf8 y (z ∷ v ∷ new) q.1 (tail_utf8 x (y ∷ z ∷ v ∷ new) p.1 (tail_utf8 117 (x ∷ y ∷ z ∷ v ∷ new) (omega arith) (tail_utf8 92 (117 ∷ x ∷ y ∷ z ∷ v ∷ new) (omega arith) utf))))) in
    let more = decoded ps (waiting h (unit (unit_of x y z v))) here.1 [] new tt tt refl left in
    (added h (unit (unit_of x y z v)) ++ more.0, ap (λ xs. added h (unit (unit_of x y z v)) ++ xs) more.1, IsUtf8-append (added h (unit (unit_of x y z v))) more.0 here.0 more.2, more.3)
decoded (piece_and mid (unit_here {a = x} {b = y} {c = z} {d = v} {new} px) ps) h w (f ∷ fs) u a free e ok = absurd (let q : 92 ≡ f = cc in let b = a.0 in omega (arith, q, b))
