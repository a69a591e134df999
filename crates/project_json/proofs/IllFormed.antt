-- Bytes that are no UTF-8 have a first ill-formed sequence.
use Rattle.std.proofs.Common.{◌≡◌, ℕ, zero, suc, ◌<◌, ◌≤◌, ◌⊎◌, inl, inr, ⊎_elim, true, false, List, length, take, refl, subst, arith}
use Rattle.std.specs.Prelude.{nat_lt}
use Rattle.std.specs.Str.{IsUtf8, is_utf8, IsValidUpTo}
use Rattle.std.proofs.lemmas.List.{take_all}
use Rattle.std.proofs.lemmas.Str.{IsUtf8-nil, IsUtf8-from_is_utf8, is_utf8-from_IsUtf8}
use Rattle.std.proofs.lemmas.Bool.Decides.{nat_tests}

pub utf8_or : (bs : List ℕ) → IsUtf8 bs ⊎ (IsUtf8 bs → ⊥)
utf8_or bs = elim (is_utf8 bs) as (λ t. is_utf8 bs ≡ t → IsUtf8 bs ⊎ (IsUtf8 bs → ⊥)) [ true ↦ λ e. inl (IsUtf8-from_is_utf8 bs e) | false ↦ λ e. inr (λ u. let f = is_utf8-from_IsUtf8 bs u in absurd (cc)) ] refl

same_or_more : (k m : ℕ) → k ≤ m → (m ≡ k) ⊎ (k < m)
same_or_more k m le = elim (nat_lt k m) as (λ t. nat_lt k m ≡ t → (m ≡ k) ⊎ (k < m)) [ true ↦ λ e. inr (grind (arith, nat_tests)) | false ↦ λ e. inl (grind (arith, nat_tests)) ] refl

-- a prefix that is no UTF-8 and no longer one is leaves a shorter one
none_from : (bs : List ℕ) (k : ℕ) → (IsUtf8 (take k bs) → ⊥) → ((m : ℕ) → k < m → IsUtf8 (take m bs) → ⊥) → (m : ℕ) → k ≤ m → IsUtf8 (take m bs) → ⊥
none_from bs k here longer m le u = ⊎_elim (λ (e : m ≡ k). here (subst (λ j. IsUtf8 (take j bs)) e u)) (λ (lt : k < m). longer m lt u) (same_or_more k m le)

longest_below : (bs : List ℕ) (k : ℕ) → k ≤ length bs → ((m : ℕ) → k ≤ m → IsUtf8 (take m bs) → ⊥) → (n : ℕ) × IsValidUpTo bs n
longest_below bs zero within none = absurd (none 0 (omega arith) IsUtf8-nil)
longest_below bs (suc k) within none =
    ⊎_elim
    (λ (u : IsUtf8 (take k bs)). (k, record { short = omega arith; front = u; longest = λ m lt. none m (omega arith) }))
    (λ (ill : IsUtf8 (take k bs) → ⊥). longest_below bs k (omega arith) (none_from bs k ill (λ m lt. none m (omega arith))))
    (utf8_or (take k bs))

pub valid_up_to : (bs : List ℕ) → (IsUtf8 bs → ⊥) → (n : ℕ) × IsValidUpTo bs n
valid_up_to bs ill = longest_below bs (length bs) (omega arith) (λ m le u. ill (subst IsUtf8 (take_all m bs le) u))
