-- The order of values: swapping the sides reverses it, and it is transitive among values that have a
-- number and among those that have none.
use Rattle.std.proofs.Common.{◌≡◌, ℕ, ℤ, pos, Bool, true, false, if◌then◌else◌, Option, Some, None, is_some, refl, sym, ap, ◌∙◌}
use Rattle.std.specs.Cmp.{IsTotalOrder}
use Rattle.std.specs.Option.{option_zip}
use Rattle.std.specs.Ordering.{is_gt, int_cmp, nat_cmp, on, then_cmp, ordering_reverse}
use Rattle.std.specs.declared.cmp.Ordering.{Ordering}
use Rattle.std.proofs.lemmas.Cmp.{int_cmp_total, nat_cmp_total, nat_list_cmp_total, on_total, then_total, upto}
use Rattle.scratch_number.specs.declared.number.Num.{Num}
use Rattle.scratch_number.specs.declared.number.Num.TheVariants.{Fixed, Inf, NegInf, Nan}
use Rattle.scratch_number.specs.Reading.{number_of}
use Rattle.scratch_values.specs.declared.value.Value.{Value}
use Rattle.scratch_values.specs.declared.value.Value.TheVariants.{Number, Truth, Text}
use Rattle.scratch_values.specs.Comparison.{AreAlike, IsUpTo, compare, compare_by, folded_of, known, number_order, numeric, text_order}

-- where a number stands among the infinities, and the millionths of a finite one
rank : Num → ℕ
rank NegInf = 0
rank (Fixed z) = 1
rank Inf = 2
rank Nan = 3

millionths : Num → ℤ
millionths NegInf = pos 0
millionths (Fixed z) = z
millionths Inf = pos 0
millionths Nan = pos 0

abbrev ranked : Num → Num → Ordering
ranked = then_cmp (on rank nat_cmp) (on millionths int_cmp)

ranked_total : IsTotalOrder ranked
ranked_total = then_total (on_total rank nat_cmp_total) (on_total millionths int_cmp_total)

-- a number other than not-a-number
IsKnown : Num → Type 0
IsKnown (Fixed z) = Unit {0}
IsKnown Inf = Unit {0}
IsKnown NegInf = Unit {0}
IsKnown Nan = ⊥

number_order-ranked : (x y : Num) → IsKnown x → IsKnown y → number_order x y ≡ ranked x y
unfolding rank millionths IsKnown
number_order-ranked (Fixed a) (Fixed b) hx hy = refl
number_order-ranked (Fixed a) Inf hx hy = refl
number_order-ranked (Fixed a) NegInf hx hy = refl
number_order-ranked (Fixed a) Nan hx hy = absurd hy
number_order-ranked Inf (Fixed b) hx hy = refl
number_order-ranked Inf Inf hx hy = refl
number_order-ranked Inf NegInf hx hy = refl
number_order-ranked Inf Nan hx hy = absurd hy
number_order-ranked NegInf (Fixed b) hx hy = refl
number_order-ranked NegInf Inf hx hy = refl
number_order-ranked NegInf NegInf hx hy = refl
number_order-ranked NegInf Nan hx hy = absurd hy
number_order-ranked Nan y hx hy = absurd hx

-- the number of a side that has one is known
IsKnownSide : Option Num → Type 0
IsKnownSide None = Unit {0}
IsKnownSide (Some x) = IsKnown x

IsKnownSide-known : (n : Num) → IsKnownSide (known n)
unfolding IsKnownSide IsKnown
IsKnownSide-known (Fixed z) = tt
IsKnownSide-known Inf = tt
IsKnownSide-known NegInf = tt
IsKnownSide-known Nan = tt

IsKnownSide-if : (b : Bool) (n : Num) → IsKnownSide (if b then None else known n)
unfolding IsKnownSide
IsKnownSide-if true n = tt
IsKnownSide-if false n = IsKnownSide-known n

IsKnownSide-numeric : (v : Value) → IsKnownSide (numeric v)
unfolding IsKnownSide IsKnown
IsKnownSide-numeric (Number n) = IsKnownSide-known n
IsKnownSide-numeric (Truth true) = tt
IsKnownSide-numeric (Truth false) = tt
IsKnownSide-numeric (Text t) = IsKnownSide-if _ (number_of t)

text_total : IsTotalOrder text_order
text_total = on_total folded_of nat_list_cmp_total

by_swapped : (o p : Option Num) (t u : Ordering) → IsKnownSide o → IsKnownSide p → t ≡ ordering_reverse u → compare_by (option_zip o p) t ≡ ordering_reverse (compare_by (option_zip p o) u)
unfolding IsKnownSide
by_swapped (Some x) (Some y) t u kx ky texts =
    number_order-ranked x y kx ky ∙ ranked_total.antisymm x y ∙ ap ordering_reverse (sym (number_order-ranked y x ky kx))
by_swapped (Some x) None t u kx ky texts = texts
by_swapped None (Some y) t u kx ky texts = texts
by_swapped None None t u kx ky texts = texts

-- swapping the sides reverses the order
pub compare-swapped : (a b : Value) → compare b a ≡ ordering_reverse (compare a b)
compare-swapped a b = by_swapped (numeric b) (numeric a) (text_order b a) (text_order a b) (IsKnownSide-numeric b) (IsKnownSide-numeric a) (text_total.antisymm b a)

by_upto : (o p q : Option Num) (ab bc ac : Ordering) → IsKnownSide o → IsKnownSide p → IsKnownSide q → is_some o ≡ is_some p → is_some p ≡ is_some q
    → (IsUpTo ab → IsUpTo bc → IsUpTo ac) → IsUpTo (compare_by (option_zip o p) ab) → IsUpTo (compare_by (option_zip p q) bc) → IsUpTo (compare_by (option_zip o q) ac)
unfolding IsKnownSide
by_upto (Some x) (Some y) (Some z) ab bc ac kx ky kz e f texts first second =
    ap is_gt (number_order-ranked x z kx kz) ∙ upto ranked_total x y z (ap is_gt (sym (number_order-ranked x y kx ky)) ∙ first) (ap is_gt (sym (number_order-ranked y z ky kz)) ∙ second)
by_upto (Some x) (Some y) None ab bc ac kx ky kz e f texts first second = cc
by_upto (Some x) None q ab bc ac kx ky kz e f texts first second = cc
by_upto None (Some y) q ab bc ac kx ky kz e f texts first second = cc
by_upto None None (Some z) ab bc ac kx ky kz e f texts first second = cc
by_upto None None None ab bc ac kx ky kz e f texts first second = texts first second

-- where both of two neighbours have a number, or neither has, the order is transitive
pub compare-upto : (a b c : Value) → AreAlike a b → AreAlike b c → IsUpTo (compare a b) → IsUpTo (compare b c) → IsUpTo (compare a c)
compare-upto a b c alike also =
    by_upto (numeric a) (numeric b) (numeric c) (text_order a b) (text_order b c) (text_order a c)
    (IsKnownSide-numeric a) (IsKnownSide-numeric b) (IsKnownSide-numeric c) alike also (upto text_total a b c)
