-- What is found by its name.
use Rattle.std.proofs.Common.{◌≡◌, refl, ℕ, List, [], ◌∷◌, Bool, true, false}
use Rattle.std.specs.Prelude.{Option, Some, IfSome, if◌then◌else◌}
use Rattle.std.specs.List.{find}
use Rattle.std.proofs.lemmas.Slice.Eq.{bytes_eq-Decides}
use Rattle.std.proofs.lemmas.Option.{same_Some}
use Rattle.opcode_table.specs.declared.opcode.Opcode.{Opcode}
use Rattle.opcode_table.specs.declared.opcode.Opcode.TheVariants.{EventWhenFlagClicked}
use Rattle.opcode_table.specs.Table.{row, of_name, opcodes}

-- the table is tried once for each opcode
pub each_found : (op : Opcode) → of_name (row op).name ≡ Some op
each_found EventWhenFlagClicked = refl
each_found _ = refl

first_or : {A : Type 0} (P : A → Type 0) (b : Bool) (a : A) (rest : Option A) → (b ≡ true → P a) → IfSome rest P → IfSome (if b then Some a else rest) P
first_or P true a rest first later = first refl
first_or P false a rest first later = later

found_holds : {A : Type 0} (test : A → Bool) (P : A → Type 0) → ((a : A) → test a ≡ true → P a) → (xs : List A) → IfSome (find test xs) P
found_holds test P holds [] = tt
found_holds test P holds (a ∷ rest) = first_or P (test a) a (find test rest) (holds a) (found_holds test P holds rest)

pub found_by_name : (name : List ℕ) → IfSome (of_name name) (λ op. (row op).name ≡ name)
found_by_name name = found_holds _ (λ op. (row op).name ≡ name) (λ op. (bytes_eq-Decides (row op).name name).0) opcodes

pub distinct : (a b : Opcode) → (row a).name ≡ (row b).name → a ≡ b
distinct a b e = same_Some a b (cc (each_found a, each_found b, e))
