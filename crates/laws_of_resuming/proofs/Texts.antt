-- The lines of two texts together.
use Rattle.std.proofs.Common.{◌≡◌, ℕ, ◌==◌, Bool, true, false, if◌then◌else◌, List, [], ◌∷◌, ◌++◌, refl, sym, ap, ◌∙◌, subst}
use Rattle.machine_spec.specs.ScriptText.{with_byte, lines_of}
use Rattle.laws_of_resuming.specs.Parts.{EndsALine}

-- there are lines
abbrev IsSome : List (List ℕ) → Type 0
IsSome [] = ⊥
IsSome (x ∷ xs) = Unit {0}

some_with : (b : ℕ) (xs : List (List ℕ)) → IsSome (with_byte b xs)
some_with b [] = tt
some_with b (x ∷ xs) = tt

some_by : (c : Bool) (b : ℕ) (xs : List (List ℕ)) → IsSome (if c then [] ∷ xs else with_byte b xs)
some_by true b xs = tt
some_by false b xs = some_with b xs

some_lines : (b : ℕ) (bytes : List ℕ) → IsSome (lines_of (b ∷ bytes))
some_lines b bytes = some_by (b == 10) b (lines_of bytes)

-- a byte in front of lines
with_joins : (b : ℕ) (xs ys : List (List ℕ)) → IsSome xs → with_byte b (xs ++ ys) ≡ with_byte b xs ++ ys
with_joins b [] ys h = absurd h
with_joins b (x ∷ xs) ys h = refl

by_joins : (c : Bool) (b : ℕ) (xs ys : List (List ℕ)) → IsSome xs → (if c then [] ∷ xs ++ ys else with_byte b (xs ++ ys)) ≡ (if c then [] ∷ xs else with_byte b xs) ++ ys
by_joins true b xs ys h = refl
by_joins false b xs ys h = with_joins b xs ys h

last_joins : (c : Bool) (b : ℕ) (ys : List (List ℕ)) → c ≡ true → (if c then [] ∷ ys else with_byte b ys) ≡ (if c then [] ∷ [] else with_byte b []) ++ ys
last_joins true b ys e = refl
last_joins false b ys e = absurd (cc e)

pub lines_join : (a b : List ℕ) → EndsALine a → lines_of (a ++ b) ≡ lines_of a ++ lines_of b
lines_join [] b h = refl
lines_join (x ∷ []) b h = last_joins (x == 10) x (lines_of b) (subst (λ k. (k == 10) ≡ true) (sym h) refl)
lines_join (x ∷ y ∷ ys) b h =
    ap (λ (ls : List (List ℕ)). if x == 10 then [] ∷ ls else with_byte x ls) (lines_join (y ∷ ys) b h)
    ∙ by_joins (x == 10) x (lines_of (y ∷ ys)) (lines_of b) (some_lines y ys)
