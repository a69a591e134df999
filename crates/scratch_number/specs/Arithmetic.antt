-- Sums, products, quotients and remainders of numbers, and their roundings to whole numbers.
use Rattle.std.specs.Prelude.{zero, suc, ℤ, pos, negsuc, ◌+ℤ◌, ◌-ℤ◌, ◌*ℤ◌, neg_ℤ, unsigned_abs}
use Rattle.scratch_number.specs.declared.number.Num.{Num}
use Rattle.scratch_number.specs.declared.number.Num.TheVariants.{Fixed, Inf, NegInf, Nan}
use Rattle.scratch_number.specs.Number.{number, near, floor_quotient, infinity_by, negated}

-- 1 in millionths
abbrev pub million : ℤ
million = pos 1000000

-- a + b
abbrev pub add : Num → Num → Num
add (Fixed a) (Fixed b) = number (a +ℤ b)
add (Fixed a) Inf = Inf
add (Fixed a) NegInf = NegInf
add (Fixed a) Nan = Nan
add Inf (Fixed b) = Inf
add Inf Inf = Inf
add Inf NegInf = Nan
add Inf Nan = Nan
add NegInf (Fixed b) = NegInf
add NegInf Inf = Nan
add NegInf NegInf = NegInf
add NegInf Nan = Nan
add Nan b = Nan

-- a − b
abbrev pub sub : Num → Num → Num
sub a b = add a (negated b)

-- a · b, in millionths a·b / 10^6, rounded
abbrev pub mul : Num → Num → Num
mul (Fixed a) (Fixed b) = number (near (a *ℤ b) million)
mul (Fixed a) Inf = infinity_by a
mul (Fixed a) NegInf = infinity_by (neg_ℤ a)
mul (Fixed a) Nan = Nan
mul Inf (Fixed b) = infinity_by b
mul Inf Inf = Inf
mul Inf NegInf = NegInf
mul Inf Nan = Nan
mul NegInf (Fixed b) = infinity_by (neg_ℤ b)
mul NegInf Inf = NegInf
mul NegInf NegInf = Inf
mul NegInf Nan = Nan
mul Nan b = Nan

-- a finite number by a finite number: by 0 it is the infinity of its sign, else a·10^6 / b millionths, rounded
abbrev pub ratio : ℤ → ℤ → Num
ratio a (pos zero) = infinity_by a
ratio a (pos (suc b)) = number (near (a *ℤ million) (pos (suc b)))
ratio a (negsuc b) = number (near (a *ℤ million) (negsuc b))

-- an infinity by a finite number: the sign of 0 is positive
abbrev pub infinity_over : Num → ℤ → Num
infinity_over a (pos b) = a
infinity_over a (negsuc b) = negated a

-- a / b
abbrev pub div : Num → Num → Num
div (Fixed a) (Fixed b) = ratio a b
div (Fixed a) Inf = Fixed (pos 0)
div (Fixed a) NegInf = Fixed (pos 0)
div (Fixed a) Nan = Nan
div Inf (Fixed b) = infinity_over Inf b
div Inf Inf = Nan
div Inf NegInf = Nan
div Inf Nan = Nan
div NegInf (Fixed b) = infinity_over NegInf b
div NegInf Inf = Nan
div NegInf NegInf = Nan
div NegInf Nan = Nan
div Nan b = Nan

-- what is left of a after the whole multiples of b: a − b·⌊a / b⌋, for b not 0
abbrev pub remainder : ℤ → ℤ → ℤ
remainder a b = a -ℤ (b *ℤ floor_quotient a b)

-- a modulo b for finite numbers
abbrev pub finite_modulo : ℤ → ℤ → Num
finite_modulo a (pos zero) = Nan
finite_modulo a (pos (suc b)) = Fixed (remainder a (pos (suc b)))
finite_modulo a (negsuc b) = Fixed (remainder a (negsuc b))

-- a modulo b: with the sign of b where both are finite, a itself where a is finite and b infinite,
-- and otherwise not a number, as where b is 0
abbrev pub modulo : Num → Num → Num
modulo (Fixed a) (Fixed b) = finite_modulo a b
modulo (Fixed a) Inf = Fixed a
modulo (Fixed a) NegInf = Fixed a
modulo (Fixed a) Nan = Nan
modulo Inf b = Nan
modulo NegInf b = Nan
modulo Nan b = Nan

-- a rounded down to a whole number
abbrev pub floor : Num → Num
floor (Fixed a) = Fixed (floor_quotient a million *ℤ million)
floor Inf = Inf
floor NegInf = NegInf
floor Nan = Nan

-- a rounded up to a whole number
abbrev pub ceiling : Num → Num
ceiling a = negated (floor (negated a))

-- the whole number at or below a + 1/2
abbrev pub round : Num → Num
round (Fixed a) = Fixed (floor_quotient (a +ℤ pos 500000) million *ℤ million)
round Inf = Inf
round NegInf = NegInf
round Nan = Nan

-- a without its sign
abbrev pub abs : Num → Num
abs (Fixed a) = Fixed (pos (unsigned_abs a))
abs Inf = Inf
abs NegInf = Inf
abs Nan = Nan
