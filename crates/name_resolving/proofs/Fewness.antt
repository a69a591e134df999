-- A field or an input names at most one variable or list.
use Rattle.std.proofs.Common.{◌≡◌, ℕ, ◌≤◌, Bool, true, false, List, [], ◌∷◌, length, take, refl, arith, length-append}
use Rattle.std.specs.Prelude.{bytes_eq, codes}
use Rattle.std.specs.List.{flat_map}
use Rattle.std.proofs.lemmas.List.{length-take-le}
use Rattle.scratch_values.specs.declared.names.VarName.{VarName}
use Rattle.project_spec.specs.declared.blocks.Code.{Code}
use Rattle.project_spec.specs.declared.blocks.Input.{Input}
use Rattle.project_spec.specs.declared.blocks.Input.TheVariants as input
use Rattle.project_spec.specs.Resolving.{Naming, is_own_field, field_naming, input_naming}

by_tests : (c : Code) (part : List ℕ) (name : VarName) (own variable list : Bool) → is_own_field c part ≡ own → bytes_eq part (codes "VARIABLE") ≡ variable → bytes_eq part (codes "LIST") ≡ list → length (field_naming c (part, name)) ≤ 1
by_tests c part name false variable list e f g = rw e (omega arith)
by_tests c part name true true list e f g = rw (e, f) (omega arith)
by_tests c part name true false true e f g = rw (e, f, g) (omega arith)
by_tests c part name true false false e f g = rw (e, f, g) (omega arith)

pub few-field : (c : Code) (f : List ℕ × VarName) → length (field_naming c f) ≤ 1
few-field c (part, name) = by_tests c part name (is_own_field c part) (bytes_eq part (codes "VARIABLE")) (bytes_eq part (codes "LIST")) refl refl refl

pub few-input : (f : List ℕ × Input) → length (input_naming f) ≤ 1
few-input (part, input.Literal v) = omega arith
few-input (part, input.Reporter l) = omega arith
few-input (part, input.Variable n) = omega arith
few-input (part, input.List n) = omega arith
few-input (part, input.Absent) = omega arith

pub few-flat_map : {A : Type 0} (f : A → List Naming) → ((x : A) → length (f x) ≤ 1) → (xs : List A) → length (flat_map f xs) ≤ length xs
few-flat_map f h [] = omega arith
few-flat_map f h (x ∷ xs) =
    let a = h x in
    let b = few-flat_map f h xs in
    let c = length-append (f x) (flat_map f xs) in
    omega (arith, a, b, c)

pub few-take : {A : Type 0} (f : A → List Naming) → ((x : A) → length (f x) ≤ 1) → (xs : List A) (i : ℕ) → i ≤ length xs → length (flat_map f (take i xs)) ≤ i
few-take f h xs i l =
    let a = few-flat_map f h (take i xs) in
    let b = length-take-le i xs l in
    omega (arith, a, b)
