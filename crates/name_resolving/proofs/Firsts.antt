-- What a text noted changes.
use Rattle.std.proofs.Common.{◌≡◌, ℕ, Bool, true, false, if◌then◌else◌, List, Option, Some, None, refl, sym, ap, ◌∙◌}
use Rattle.std.specs.Map.{update}
use Rattle.std.specs.Option.{option_or}
use Rattle.std.specs.Str.{bytes_eq}
use Rattle.std.specs.Cmp.Lexicographic.{bytes_decides, nat_list_eq_equiv}
use Rattle.name_resolving.specs.declared.first_places.FirstPlaces.{FirstPlaces}
use Rattle.name_resolving.specs.FirstPlaces.{place_of, Notes}

pub or_none : (o : Option ℕ) → option_or o None ≡ o
or_none None = refl
or_none (Some k) = refl

-- a text that was not there takes its place
pub notes_new : (old new : FirstPlaces) (text : List ℕ) (place : ℕ) → place_of old text ≡ None → ((q : List ℕ) → place_of new q ≡ update bytes_eq (place_of old) text (Some place) q) → Notes old new text place
notes_new old new text place absent sets q = sets q ∙ by_test (bytes_eq text q) refl
  where
    by_test : (b : Bool) → bytes_eq text q ≡ b → update bytes_eq (place_of old) text (Some place) q ≡ option_or (place_of old q) (if bytes_eq q text then Some place else None)
    by_test true same =
        let e : text ≡ q = (bytes_decides text q).0 same in
        let none : place_of old q ≡ None = ap (place_of old) (sym e) ∙ absent in
        rw (none, nat_list_eq_equiv.symm q text, same) refl
    by_test false differs = rw (nat_list_eq_equiv.symm q text, differs) (sym (or_none (place_of old q)))
