-- A machine that takes the bytes one by one: what may come next, and which brackets are open.
use Rattle.std.proofs.Common.{ℕ, zero, suc, Bool, true, false, List, [], ◌∷◌, length, Result, Ok, Err}
use Rattle.std.specs.Prelude.{◌==◌, nat_lt, codes, if◌then◌else◌}
use Rattle.project_json.specs.Bytes.{is_blank, is_digit}
use Rattle.project_json.specs.Numbers.{is_nonzero_digit, is_e, is_sign}
use Rattle.project_json.specs.Strings.{is_unescaped, is_hex, is_escape}
use Rattle.project_json.specs.Reading.{Fault, syntax, too_deep}

pub data Frame : Type 0 where
  in_list : Frame
  in_object : Frame

pub data Mode : Type 0 where
  want : Mode  -- a value must come
  first_item : Mode  -- a value, or the bracket that closes
  first_name : Mode  -- a name, or the brace that closes
  next_name : Mode
  string : Bool → Mode  -- in a string; true in a name
  escape : Bool → Mode  -- behind a backslash
  hex : Bool → ℕ → Mode  -- one hexadecimal digit, and so many more
  colon : Mode
  minus : Mode  -- a digit must come
  ones : Mode  -- digits that do not begin with 0, a point or a power may follow
  no_ones : Mode  -- as ones, with no further digit
  point : Mode  -- a digit must come
  fraction : Mode
  power : Mode  -- a sign or a digit must come
  power_sign : Mode  -- a digit must come
  exponent : Mode
  word : List ℕ → Mode  -- these bytes of a word must come
  after : Mode  -- a value is complete

pub data Move : Type 0 where
  goes : Mode → List Frame → Move
  stops : Move
  deep : Move

abbrev pub closer : Frame → ℕ
closer in_list = 93
closer in_object = 125

-- what a comma leads to
abbrev pub again : Frame → Mode
again in_list = want
again in_object = next_name

-- what the quote leads to
abbrev pub behind : Bool → Mode
behind true = colon
behind false = after

abbrev pub after_step : List Frame → ℕ → Move
after_step [] b = if is_blank b then goes after [] else stops
after_step (f ∷ fs) b =
    if is_blank b then goes after (f ∷ fs)
    else if b == 44 then goes (again f) (f ∷ fs)
    else if b == closer f then goes after fs
    else stops

abbrev pub closing : List Frame → Move
closing [] = stops
closing (f ∷ fs) = goes after fs

abbrev pub open_step : ℕ → Mode → Frame → List Frame → Move
open_step n m f fs = if nat_lt (length fs) n then goes m (f ∷ fs) else deep

abbrev pub number_step : List Frame → ℕ → Move
number_step fs b = if b == 48 then goes no_ones fs else if is_nonzero_digit b then goes ones fs else stops

-- where a power may come
abbrev pub power_step : List Frame → ℕ → Move
power_step fs b = if is_e b then goes power fs else after_step fs b

-- where a point may come
abbrev pub point_step : List Frame → ℕ → Move
point_step fs b = if b == 46 then goes point fs else power_step fs b

-- where a digit must come
abbrev pub digit_step : Mode → List Frame → ℕ → Move
digit_step m fs b = if is_digit b then goes m fs else stops

abbrev pub value_step : ℕ → List Frame → ℕ → Move
value_step n fs b =
    if b == 110 then goes (word (codes "ull")) fs
    else if b == 116 then goes (word (codes "rue")) fs
    else if b == 102 then goes (word (codes "alse")) fs
    else if b == 34 then goes (string false) fs
    else if b == 91 then open_step n first_item in_list fs
    else if b == 123 then open_step n first_name in_object fs
    else if b == 45 then goes minus fs
    else number_step fs b

-- what the last hexadecimal digit leads to
abbrev pub hex_next : Bool → ℕ → Mode
hex_next k zero = string k
hex_next k (suc j) = hex k j

abbrev pub name_step : List Frame → ℕ → Move
name_step fs b = if b == 34 then goes (string true) fs else stops

abbrev pub step : ℕ → Mode → List Frame → ℕ → Move
step n want fs b = if is_blank b then goes want fs else value_step n fs b
step n first_item fs b = if is_blank b then goes first_item fs else if b == 93 then closing fs else value_step n fs b
step n first_name fs b = if is_blank b then goes first_name fs else if b == 125 then closing fs else name_step fs b
step n next_name fs b = if is_blank b then goes next_name fs else name_step fs b
step n (string k) fs b = if b == 34 then goes (behind k) fs else if b == 92 then goes (escape k) fs else if is_unescaped b then goes (string k) fs else stops
step n (escape k) fs b = if b == 117 then goes (hex k 3) fs else if is_escape b then goes (string k) fs else stops
step n (hex k j) fs b = if is_hex b then goes (hex_next k j) fs else stops
step n colon fs b = if is_blank b then goes colon fs else if b == 58 then goes want fs else stops
step n minus fs b = number_step fs b
step n ones fs b = if is_digit b then goes ones fs else point_step fs b
step n no_ones fs b = point_step fs b
step n point fs b = digit_step fraction fs b
step n fraction fs b = if is_digit b then goes fraction fs else power_step fs b
step n power fs b = if is_sign b then goes power_sign fs else digit_step exponent fs b
step n power_sign fs b = digit_step exponent fs b
step n exponent fs b = if is_digit b then goes exponent fs else after_step fs b
step n (word []) fs b = after_step fs b
step n (word (w ∷ ws)) fs b = if b == w then goes (word ws) fs else stops
step n after fs b = after_step fs b

abbrev pub Verdict : Type 0
Verdict = Result (Unit {0}) Fault

abbrev pub go_on : Move → (Mode → List Frame → Verdict) → ℕ → Verdict
go_on (goes m fs) f left = f m fs
go_on stops f left = Err (syntax left)
go_on deep f left = Err (too_deep left)

-- whether the bytes may end here
abbrev pub is_done : Mode → Bool
is_done want = false
is_done first_item = false
is_done first_name = false
is_done next_name = false
is_done (string k) = false
is_done colon = false
is_done (escape k) = false
is_done (hex k j) = false
is_done minus = false
is_done ones = true
is_done no_ones = true
is_done point = false
is_done fraction = true
is_done power = false
is_done power_sign = false
is_done exponent = true
is_done (word []) = true
is_done (word (w ∷ ws)) = false
is_done after = true

abbrev pub ends : Mode → List Frame → Verdict
ends m [] = if is_done m then Ok tt else Err (syntax 0)
ends m (f ∷ fs) = Err (syntax 0)

-- what the machine says of these bytes, with at most n brackets open at once
abbrev pub fate : ℕ → List ℕ → Mode → List Frame → Verdict
fate n [] m fs = ends m fs
fate n (b ∷ bs) m fs = go_on (step n m fs b) (fate n bs) (length (b ∷ bs))
