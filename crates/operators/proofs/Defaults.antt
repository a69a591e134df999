-- What is read past the end of a list is the default.
use Rattle.std.proofs.Common.{◌≡◌, ℕ, List, None, get_or, Result, Ok, Err, IfOk, sym, ap, ◌∙◌}
use Rattle.std.specs.Prelude.{slice_get, unwrap_or}
use Rattle.std.proofs.lemmas.Option.{unwrap_or-slice_get}

pub default_read : {A : Type 0} (xs : List A) (k : ℕ) (d : A) → slice_get xs k ≡ None → get_or xs k d ≡ d
default_read xs k d none = sym (unwrap_or-slice_get xs k d) ∙ ap (λ o. unwrap_or o d) none

-- what was made is the value
pub made_is : {A E : Type 0} (r : Result A E) (x y : A) → IfOk r (λ v. v ≡ x) → x ≡ y → IfOk r (λ v. v ≡ y)
made_is (Ok v) x y h e = h ∙ e
made_is (Err e) x y h same = tt
