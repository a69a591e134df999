-- A whole number as a word.
use Rattle.std.specs.Prelude.{ℕ, nat_le, ◌&&◌, List, Option, None, Some, if◌then◌else◌}
use Rattle.std.specs.Str.Parse.{digits_value}
use Rattle.input_script.specs.Kept.{is_whole}

-- the whole number that the word writes, where it is at most this
abbrev pub whole_up_to : ℕ → List ℕ → Option ℕ
whole_up_to most word = if is_whole word && nat_le (digits_value 10 word) most then Some (digits_value 10 word) else None
