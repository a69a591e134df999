-- Square roots, and the sine and its kin, in degrees, by a table of the sines of whole degrees.
use Rattle.std.specs.Prelude.{ℕ, zero, suc, ◌+◌, ◌-◌, ◌*◌, ◌/◌, ◌%◌, ◌<◌, ◌≤◌, ◌≡◌, ℤ, pos, negsuc, neg_ℤ, unsigned_abs, Bool, nat_le, nat_lt, if◌then◌else◌, List, [], ◌∷◌, slice_index}
use Rattle.scratch_number.specs.declared.number.Num.{Num}
use Rattle.scratch_number.specs.declared.number.Num.TheVariants.{Fixed, Inf, NegInf, Nan}
use Rattle.scratch_number.specs.Number.{number, near_size}
use Rattle.scratch_number.specs.Arithmetic.{add, sub, mul, div, remainder}

-- the largest k from 1 to n that passes a test; 0 where none does
unfoldable pub largest : (ℕ → Bool) → ℕ → ℕ
largest test zero = 0
largest test (suc n) = if test (suc n) then suc n else largest test n

-- the largest r from 0 with r·r at most n
unfoldable pub root_of : ℕ → ℕ
root_of n = largest (λ r. nat_le (r * r) n) n

-- the square root of a: the largest number of millionths whose square is at most a
abbrev pub sqrt : Num → Num
sqrt (Fixed (pos n)) = number (pos (root_of (n * 1000000)))
sqrt (Fixed (negsuc n)) = Nan
sqrt Inf = Inf
sqrt NegInf = Nan
sqrt Nan = Nan

-- what a square root is, said of the result: a root r in millionths has r·r ≤ a·10^6 < (r + 1)·(r + 1)
abbrev pub IsSquareRoot : Num → Num → Type 0
IsSquareRoot (Fixed (pos n)) root = (r : ℕ) × (root ≡ Fixed (pos r)) × (r * r ≤ n * 1000000) × (n * 1000000 < (r + 1) * (r + 1))
IsSquareRoot (Fixed (negsuc n)) root = root ≡ Nan
IsSquareRoot Inf root = root ≡ Inf
IsSquareRoot NegInf root = root ≡ Nan
IsSquareRoot Nan root = root ≡ Nan

-- the sines of 0 to 90 degrees, in millionths
unfoldable pub sines : List ℕ
sines =
    0 ∷ 17452 ∷ 34899 ∷ 52336 ∷ 69756 ∷ 87156 ∷ 104528 ∷ 121869 ∷ 139173 ∷ 156434 ∷ 173648 ∷ 190809 ∷ 207912 ∷
    224951 ∷ 241922 ∷ 258819 ∷ 275637 ∷ 292372 ∷ 309017 ∷ 325568 ∷ 342020 ∷ 358368 ∷ 374607 ∷ 390731 ∷ 406737 ∷
    422618 ∷ 438371 ∷ 453990 ∷ 469472 ∷ 484810 ∷ 500000 ∷ 515038 ∷ 529919 ∷ 544639 ∷ 559193 ∷ 573576 ∷ 587785 ∷
    601815 ∷ 615661 ∷ 629320 ∷ 642788 ∷ 656059 ∷ 669131 ∷ 681998 ∷ 694658 ∷ 707107 ∷ 719340 ∷ 731354 ∷ 743145 ∷
    754710 ∷ 766044 ∷ 777146 ∷ 788011 ∷ 798636 ∷ 809017 ∷ 819152 ∷ 829038 ∷ 838671 ∷ 848048 ∷ 857167 ∷ 866025 ∷
    874620 ∷ 882948 ∷ 891007 ∷ 898794 ∷ 906308 ∷ 913545 ∷ 920505 ∷ 927184 ∷ 933580 ∷ 939693 ∷ 945519 ∷ 951057 ∷
    956305 ∷ 961262 ∷ 965926 ∷ 970296 ∷ 974370 ∷ 978148 ∷ 981627 ∷ 984808 ∷ 987688 ∷ 990268 ∷ 992546 ∷ 994522 ∷
    996195 ∷ 997564 ∷ 998630 ∷ 999391 ∷ 999848 ∷ 1000000 ∷ []

-- the sine of k degrees, for k up to 90
unfoldable pub sine_at : ℕ → ℕ
sine_at k = slice_index sines k

-- the sine of d millionths of a degree, for d up to 90 degrees: on the straight line from one whole
-- degree to the next, rounded to the nearest
unfoldable pub sine_to_90 : ℕ → ℕ
sine_to_90 d =
    if nat_lt d 90000000
    then sine_at (d / 1000000) + near_size ((sine_at (d / 1000000 + 1) - sine_at (d / 1000000)) * (d % 1000000)) 1000000
    else sine_at 90

-- the sine of d millionths of a degree, for d up to 180 degrees
unfoldable pub sine_to_180 : ℕ → ℕ
sine_to_180 d = if nat_le d 90000000 then sine_to_90 d else sine_to_90 (180000000 - d)

-- the sine of d millionths of a degree, for d below 360 degrees
unfoldable pub sine_to_360 : ℕ → ℤ
sine_to_360 d =
    if nat_le d 180000000 then pos (sine_to_180 d) else neg_ℤ (pos (sine_to_180 (d - 180000000)))

-- the angle a modulo 360 degrees, in millionths of a degree
abbrev pub turn : ℤ → ℕ
turn a = unsigned_abs (remainder a (pos 360000000))

-- the sine of a degrees
abbrev pub sin : Num → Num
sin (Fixed a) = number (sine_to_360 (turn a))
sin Inf = Nan
sin NegInf = Nan
sin Nan = Nan

-- the cosine of a degrees: the sine of a quarter turn more
abbrev pub cos : Num → Num
cos (Fixed a) = number (sine_to_360 (turn (pos (turn a + 90000000))))
cos Inf = Nan
cos NegInf = Nan
cos Nan = Nan

-- the tangent of a degrees
abbrev pub tan : Num → Num
tan a = div (sin a) (cos a)

-- the largest whole number of degrees up to 89 whose sine is at most v
unfoldable pub degrees_below : ℕ → ℕ
degrees_below v = largest (λ k. nat_le (sine_at k) v) 89

-- the angle whose sine is v, for v up to 1: on the straight line from one whole degree to the next
unfoldable pub arcsine : ℕ → ℕ
arcsine v =
    degrees_below v * 1000000
    + near_size ((v - sine_at (degrees_below v)) * 1000000) (sine_at (degrees_below v + 1) - sine_at (degrees_below v))

-- the angle in degrees whose sine is a
abbrev pub asin : Num → Num
asin (Fixed (pos v)) = if nat_le v 1000000 then number (pos (arcsine v)) else Nan
asin (Fixed (negsuc v)) = if nat_le (suc v) 1000000 then number (neg_ℤ (pos (arcsine (suc v)))) else Nan
asin Inf = Nan
asin NegInf = Nan
asin Nan = Nan

-- the number of n degrees
abbrev pub degrees : ℕ → Num
degrees n = Fixed (pos (n * 1000000))

-- the angle in degrees whose cosine is a
abbrev pub acos : Num → Num
acos a = sub (degrees 90) (asin a)

-- the angle whose tangent is a, for a from −1 to 1: its sine is a / √(1 + a²)
unfoldable pub atan_to_45 : Num → Num
atan_to_45 a = asin (div a (sqrt (add (degrees 1) (mul a a))))

-- the angle in degrees whose tangent is a
abbrev pub atan : Num → Num
atan (Fixed (pos v)) =
    if nat_le v 1000000
    then atan_to_45 (Fixed (pos v))
    else sub (degrees 90) (atan_to_45 (div (degrees 1) (Fixed (pos v))))
atan (Fixed (negsuc v)) =
    if nat_le (suc v) 1000000
    then atan_to_45 (Fixed (negsuc v))
    else sub (Fixed (neg_ℤ (pos 90000000))) (atan_to_45 (div (degrees 1) (Fixed (negsuc v))))
atan Inf = degrees 90
atan NegInf = Fixed (neg_ℤ (pos 90000000))
atan Nan = Nan

-- the direction of the point (dx, dy), for finite dx and dy
abbrev pub direction_of : ℤ → ℤ → Num
direction_of (pos zero) (pos zero) = degrees 0
direction_of (pos (suc dy)) (pos zero) = degrees 90
direction_of (negsuc dy) (pos zero) = Fixed (neg_ℤ (pos 90000000))
direction_of dy (pos (suc dx)) = atan (div (Fixed dy) (Fixed (pos (suc dx))))
direction_of (pos dy) (negsuc dx) = add (atan (div (Fixed (pos dy)) (Fixed (negsuc dx)))) (degrees 180)
direction_of (negsuc dy) (negsuc dx) = sub (atan (div (Fixed (negsuc dy)) (Fixed (negsuc dx)))) (degrees 180)

-- the direction of the point (dx, dy) in degrees
abbrev pub atan2 : Num → Num → Num
atan2 (Fixed dy) (Fixed dx) = direction_of dy dx
atan2 (Fixed dy) Inf = Nan
atan2 (Fixed dy) NegInf = Nan
atan2 (Fixed dy) Nan = Nan
atan2 Inf dx = Nan
atan2 NegInf dx = Nan
atan2 Nan dx = Nan
