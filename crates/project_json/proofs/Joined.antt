-- Pieces joined one by one make their text.
use Rattle.std.proofs.Common.{◌≡◌, ℕ, true, false, cond, List, [], ◌∷◌, ◌++◌, None, Some, refl, sym, ap, ◌∙◌, append_assoc, append-nil}
use Rattle.std.specs.Prelude.{◌||◌, ◌&&◌}
use Rattle.std.specs.Char.{encode_utf8}
use Rattle.std.specs.Char.Utf16.{surrogate_pair_char}
use Rattle.project_json.specs.Strings.{Piece, byte, unit, is_high, is_low, lone, joined}
use Rattle.project_json.specs.Joining.{single, joined_from}

-- a unit that is no high surrogate
joined_single : (v : ℕ) (ps : List Piece) → is_high v ≡ false → joined (unit v ∷ ps) ≡ single v ++ joined ps
joined_single v [] h = ap (λ t. cond (t || is_low v) (encode_utf8 65533) (encode_utf8 v)) h ∙ sym (append-nil (single v))
joined_single v (byte b ∷ ps) h = ap (λ t. cond (t || is_low v) (encode_utf8 65533) (encode_utf8 v) ++ b ∷ joined ps) h
joined_single v (unit u ∷ ps) h =
    ap (λ t. cond (t && is_low u) (encode_utf8 (surrogate_pair_char v u) ++ joined ps) (lone v ++ joined (unit u ∷ ps))) h
    ∙ ap (λ t. cond (t || is_low v) (encode_utf8 65533) (encode_utf8 v) ++ joined (unit u ∷ ps)) h

high_lone : (u : ℕ) → is_high u ≡ true → lone u ≡ encode_utf8 65533
high_lone u h = ap (λ t. cond (t || is_low u) (encode_utf8 65533) (encode_utf8 u)) h

mutual
  pub joined_is : (ps : List Piece) → joined ps ≡ joined_from None ps
  joined_is [] = refl
  joined_is (byte b ∷ ps) = ap (λ xs. b ∷ xs) (joined_is ps)
  joined_is (unit u ∷ ps) =
      elim (is_high u) as (λ t. is_high u ≡ t → joined (unit u ∷ ps) ≡ cond t [] (single u) ++ joined_from (cond t (Some u) None) ps) [
        | true ↦ λ e. joined_high u e ps
        | false ↦ λ e. joined_single u ps e ∙ ap (λ xs. single u ++ xs) (joined_is ps)
      ] refl

  -- a high surrogate waits
  joined_high : (u : ℕ) → is_high u ≡ true → (ps : List Piece) → joined (unit u ∷ ps) ≡ joined_from (Some u) ps
  joined_high u h [] = high_lone u h
  joined_high u h (byte b ∷ ps) =
      ap (λ xs. xs ++ b ∷ joined ps) (high_lone u h)
      ∙ ap (λ xs. encode_utf8 65533 ++ b ∷ xs) (joined_is ps)
      ∙ sym (append_assoc (encode_utf8 65533) (b ∷ []) (joined_from None ps))
  joined_high u h (unit v ∷ ps) =
      ap (λ t. cond (t && is_low v) (encode_utf8 (surrogate_pair_char u v) ++ joined ps) (lone u ++ joined (unit v ∷ ps))) h
      ∙ elim (is_low v) as (λ t. cond t (encode_utf8 (surrogate_pair_char u v) ++ joined ps) (lone u ++ joined (unit v ∷ ps)) ≡ cond t (encode_utf8 (surrogate_pair_char u v)) (cond (is_high v) (encode_utf8 65533) (encode_utf8 65533 ++ single v)) ++ joined_from (cond t None (cond (is_high v) (Some v) None)) ps) [
        | true ↦ ap (λ xs. encode_utf8 (surrogate_pair_char u v) ++ xs) (joined_is ps)
        | false ↦ ap (λ xs. xs ++ joined (unit v ∷ ps)) (high_lone u h)
            ∙ elim (is_high v) as (λ t. is_high v ≡ t → encode_utf8 65533 ++ joined (unit v ∷ ps) ≡ cond t (encode_utf8 65533) (encode_utf8 65533 ++ single v) ++ joined_from (cond t (Some v) None) ps) [
              | true ↦ λ e. ap (λ xs. encode_utf8 65533 ++ xs) (joined_high v e ps)
              | false ↦ λ e.
                  ap (λ xs. encode_utf8 65533 ++ xs) (joined_single v ps e ∙ ap (λ xs. single v ++ xs) (joined_is ps))
                  ∙ sym (append_assoc (encode_utf8 65533) (single v) (joined_from None ps))
            ] refl
      ]
