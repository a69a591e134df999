-- Counts of calls and of faults. A count stands still at 2^64 - 1, the largest number of 64 bits.
use Rattle.std.specs.Prelude.{◌≡◌, ℕ, ◌+◌, ◌-◌, ◌^◌, ◌≤◌, min, List}

-- one more
abbrev pub next_count : ℕ → ℕ
next_count count = min (count + 1) (2 ^ 64 - 1)

-- the count rose by one or more, or stood still at its end
abbrev pub Rose : ℕ → ℕ → Type 0
Rose before now = next_count before ≤ now

-- no name's count fell
abbrev pub NoneFell : (List ℕ → ℕ) → (List ℕ → ℕ) → Type 0
NoneFell before now = (name : List ℕ) → before name ≤ now name

-- each name's count stood still
abbrev pub NoneRose : (List ℕ → ℕ) → (List ℕ → ℕ) → Type 0
NoneRose before now = (name : List ℕ) → now name ≡ before name
