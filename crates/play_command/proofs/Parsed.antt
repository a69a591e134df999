-- What `parse` says of a whole number.
use Rattle.std.proofs.Common.{◌≡◌, ℕ, ◌<◌, ◌^◌, Bool, true, false, cond, leb, List, Some, None, Err, refl, sym, ⊎_elim, arith}
use Rattle.std.specs.Prelude.{◌&&◌}
use Rattle.std.specs.Str.Parse.{digits_value, ParsesUnsigned}
use Rattle.std.proofs.lemmas.Str.Parse.{parse_digits}
use Rattle.std.proofs.lemmas.Bool.{cases_lt}
use Rattle.std.proofs.lemmas.Bool.Decides.{nat_tests}
use Rattle.input_script.specs.Kept.{is_whole}
use Rattle.input_script.proofs.Parsed.{as_numeral, whole_digits}
use Rattle.play_command.specs.WholeNumbers.{whole_up_to}

past_all : (a : Bool) (v most : ℕ) → most < v → cond (a && leb v most) (Some v) None ≡ None
past_all true v most h = grind (arith, nat_tests)
past_all false v most h = refl

-- a whole number that is not parsed is past every number of 64 bits
pub unparsed : {E : Type 0} (most : ℕ) (word : List ℕ) (e : E) → most < 2 ^ 64 → is_whole word ≡ true → ParsesUnsigned 64 10 word (Err e) → None ≡ whole_up_to most word
unparsed most word e small w h =
    let d = whole_digits word w in
    let not_small = parse_digits as_numeral 64 word (Err e) h d.1 in
    sym (past_all (is_whole word) (digits_value 10 word) most
    (⊎_elim (λ p. absurd (not_small (d.0, p))) (λ p. omega arith) (cases_lt (digits_value 10 word) (2 ^ 64))))
