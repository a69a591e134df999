-- Facts of each element of a list, and numbers that differ.
use Rattle.std.specs.Prelude.{◌≡◌, ℕ, ◌<◌, List, [], ◌∷◌, ◌⊎◌}

-- each element has the fact
abbrev pub Each : {A : Type 0} → (A → Type 0) → List A → Type 0
Each P [] = Unit {0}
Each P (x ∷ xs) = P x × Each P xs

-- the number is among these
abbrev pub Member : ℕ → List ℕ → Type 0
Member n [] = ⊥
Member n (x ∷ xs) = (x ≡ n) ⊎ Member n xs

-- no two of these are equal
abbrev pub Differ : List ℕ → Type 0
Differ [] = Unit {0}
Differ (x ∷ xs) = (Member x xs → ⊥) × Differ xs

-- each element but the one of this number has the fact
abbrev pub Excused : {A : Type 0} → (A → ℕ) → ℕ → (A → Type 0) → A → Type 0
Excused number n P x = (number x ≡ n) ⊎ P x

-- numbers that rise
abbrev pub RiseAbove : ℕ → List ℕ → Type 0
RiseAbove n [] = Unit {0}
RiseAbove n (m ∷ ms) = (n < m) × RiseAbove m ms

abbrev pub Rise : List ℕ → Type 0
Rise [] = Unit {0}
Rise (n ∷ ns) = RiseAbove n ns
