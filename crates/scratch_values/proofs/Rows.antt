-- Worked rows of the definitions: what each says at values that are written out.
use Rattle.std.proofs.Common.{◌≡◌, true, false, [], ◌∷◌, refl}
use Rattle.std.specs.Prelude.{pos, codes}
use Rattle.std.specs.Str.{chars}
use Rattle.std.specs.declared.cmp.Ordering.TheVariants.{Equal}
use Rattle.caseless.proofs.Computing.{caseless}
use Rattle.scratch_number.specs.declared.number.Num.TheVariants.{Fixed, Inf, Nan}
use Rattle.scratch_values.specs.declared.value.Value.TheVariants.{Number, Text}
use Rattle.scratch_values.specs.declared.index.Index.TheVariants.{At, Invalid}
use Rattle.scratch_values.specs.Casts.{number, truth}
use Rattle.scratch_values.specs.Comparison.{compare, folded_of}
use Rattle.scratch_values.specs.Index.{index, needs_word}

-- `false` in any ASCII case, `0` and the empty text are false; `00` is true
false_word : truth (Text (codes "FaLsE")) ≡ false
false_word = refl

zero_text : truth (Text (codes "0")) ≡ false
zero_text = refl

empty_text : truth (Text []) ≡ false
empty_text = refl

two_zeros : truth (Text (codes "00")) ≡ true
two_zeros = refl

-- not-a-number counts 0
nan_counts : number (Number Nan) ≡ Fixed (pos 0)
nan_counts = refl

-- equal infinities are equal, and not-a-number is compared by its text
infinities : compare (Number Inf) (Number Inf) ≡ Equal
infinities = refl

-- `ABC` and `abc` are equal without case, and `ß` folds to `ss`
sharp : folded_of (Text (195 ∷ 159 ∷ [])) ≡ 115 ∷ 115 ∷ []
unfolding caseless chars
sharp = refl

-- `last` of 3 is place 3; 1.9 is place 1; 0 is no place; the word 2^31 picks place 6 of 10
last_of_three : index (Text (codes "last")) 3 false 0 ≡ At 3
last_of_three = refl

no_last : index (Text (codes "last")) 0 false 0 ≡ Invalid
no_last = refl

one_point_nine : index (Number (Fixed (pos 1900000))) 3 false 0 ≡ At 1
one_point_nine = refl

zero_place : index (Number (Fixed (pos 0))) 3 false 0 ≡ Invalid
zero_place = refl

picked_place : index (Text (codes "any")) 10 false 2147483648 ≡ At 6
picked_place = refl

last_word : index (Text (codes "random")) 10 false 4294967295 ≡ At 10
last_word = refl

no_word : needs_word (Text (codes "random")) 0 ≡ false
no_word = refl
