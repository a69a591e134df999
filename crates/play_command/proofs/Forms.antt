-- Numbers of words that no form has.
use Rattle.std.proofs.Common.{◌≡◌, ℕ, ◌<◌, ◌≤◌, List, [], ◌∷◌, length, map, None, refl, arith}
use Rattle.play_command.specs.Command.{command_of}

module _ {A : Type 0} (text : A → List ℕ) where
  pub few_words : (ws : List A) → length ws < 2 → None ≡ command_of (map text ws)
  few_words [] h = refl
  few_words (a ∷ []) h = refl
  few_words (a ∷ b ∷ ws) h = absurd (omega (arith, h))

  pub four_words : (ws : List A) → 4 ≤ length ws → length ws < 5 → None ≡ command_of (map text ws)
  four_words [] h k = absurd (omega (arith, h))
  four_words (a ∷ []) h k = absurd (omega (arith, h))
  four_words (a ∷ b ∷ []) h k = absurd (omega (arith, h))
  four_words (a ∷ b ∷ c ∷ []) h k = absurd (omega (arith, h))
  four_words (a ∷ b ∷ c ∷ d ∷ []) h k = refl
  four_words (a ∷ b ∷ c ∷ d ∷ e ∷ ws) h k = absurd (omega (arith, k))

  pub many_words : (ws : List A) → 6 ≤ length ws → None ≡ command_of (map text ws)
  many_words [] h = absurd (omega (arith, h))
  many_words (a ∷ []) h = absurd (omega (arith, h))
  many_words (a ∷ b ∷ []) h = absurd (omega (arith, h))
  many_words (a ∷ b ∷ c ∷ []) h = absurd (omega (arith, h))
  many_words (a ∷ b ∷ c ∷ d ∷ []) h = absurd (omega (arith, h))
  many_words (a ∷ b ∷ c ∷ d ∷ e ∷ []) h = absurd (omega (arith, h))
  many_words (a ∷ b ∷ c ∷ d ∷ e ∷ f ∷ ws) h = refl
