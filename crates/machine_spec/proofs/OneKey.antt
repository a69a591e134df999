-- The key of one character.
use Rattle.std.proofs.Common.{◌≡◌, ℕ, true, false, List, [], ◌∷◌, ◌++◌, Some, None, is_some, refl, ap}
use Rattle.std.specs.Prelude.{chars, slice_get}
use Rattle.std.specs.Char.{is_whitespace, to_ascii_uppercase}
use Rattle.std.specs.Str.{IsUtf8}
use Rattle.std.proofs.lemmas.Str.{chars_past_char}
use lib.Utf8.{encode}
use Rattle.machine_spec.specs.declared.devices.Key.TheVariants.{One}
use Rattle.machine_spec.specs.ScriptText.{one_key}

pub key_past_char : (text rest : List ℕ) (c : ℕ) → IsUtf8 text → text ≡ encode c ++ rest → one_key (chars text) ≡ one_key (c ∷ chars rest)
key_past_char text rest c u e = ap one_key (chars_past_char text rest c u e)

pub many_keys : (c : ℕ) (cs : List ℕ) → is_some (slice_get cs 0) ≡ true → one_key (c ∷ cs) ≡ None
many_keys c [] e = absurd (cc e)
many_keys c (d ∷ cs) e = refl

pub white_key : (c : ℕ) (cs : List ℕ) → is_whitespace c ≡ true → one_key (c ∷ cs) ≡ None
white_key c [] e = rw e refl
white_key c (d ∷ cs) e = refl

pub only_key : (c : ℕ) (cs : List ℕ) → is_some (slice_get cs 0) ≡ false → one_key (c ∷ cs) ≡ one_key (c ∷ [])
only_key c [] e = refl
only_key c (d ∷ cs) e = absurd (cc e)

pub key_is : (c : ℕ) → is_whitespace c ≡ false → one_key (c ∷ []) ≡ Some (One (to_ascii_uppercase c))
key_is c e = rw e refl
