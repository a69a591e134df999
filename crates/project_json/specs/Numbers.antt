-- The numbers of JSON texts (RFC 8259 section 6): number = [ minus ] int [ frac ] [ exp ].
use Rattle.std.specs.Prelude.{◌≡◌, ℕ, List, [], ◌∷◌, ◌++◌, Bool, true, ◌||◌, ◌&&◌, ◌==◌, nat_le}
use Rattle.project_json.specs.Bytes.{is_digit, AllTrue}

-- digit1-9
abbrev pub is_nonzero_digit : ℕ → Bool
is_nonzero_digit b = nat_le 49 b && nat_le b 57

-- e: the letter of an exponent
abbrev pub is_e : ℕ → Bool
is_e b = b == 101 || b == 69

-- plus or minus
abbrev pub is_sign : ℕ → Bool
is_sign b = b == 43 || b == 45

-- one digit or more
abbrev pub IsDigits : List ℕ → Type 0
IsDigits [] = ⊥
IsDigits (d ∷ ds) = (is_digit d ≡ true) × AllTrue is_digit ds

-- int: 0, or digits that do not begin with 0
pub data IsInt : List ℕ → Type 0 where
  lone_zero : IsInt (48 ∷ [])
  nonzero_and : {d : ℕ} {ds : List ℕ} → is_nonzero_digit d ≡ true → AllTrue is_digit ds → IsInt (d ∷ ds)

-- frac, which may be absent: a point and digits
pub data IsFraction : List ℕ → Type 0 where
  no_fraction : IsFraction []
  point_and : {ds : List ℕ} → IsDigits ds → IsFraction (46 ∷ ds)

-- exp, which may be absent: the letter and digits, with or without a sign
pub data IsExponent : List ℕ → Type 0 where
  no_exponent : IsExponent []
  e_and : {c : ℕ} {ds : List ℕ} → is_e c ≡ true → IsDigits ds → IsExponent (c ∷ ds)
  e_sign_and : {c s : ℕ} {ds : List ℕ} → is_e c ≡ true → is_sign s ≡ true → IsDigits ds → IsExponent (c ∷ s ∷ ds)

-- a number without its minus sign
abbrev pub IsUnsigned : List ℕ → Type 0
IsUnsigned ds = (int frac exp : List ℕ) × IsInt int × IsFraction frac × IsExponent exp × (ds ≡ int ++ (frac ++ exp))

-- number
pub data IsNumber : List ℕ → Type 0 where
  unsigned : {ds : List ℕ} → IsUnsigned ds → IsNumber ds
  minus_and : {ds : List ℕ} → IsUnsigned ds → IsNumber (45 ∷ ds)
