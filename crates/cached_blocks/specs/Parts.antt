-- What a part of a block names, for a private function: no clause of a public function cites this file.
use Rattle.std.specs.Prelude.{ℕ, ◌&&◌, Bool, true, false, List, bytes_eq}
use Rattle.project_spec.specs.declared.blocks.Resolved.{Resolved}

-- it is what the part names
abbrev pub is_part : Bool → List ℕ → Resolved → Bool
is_part in_input part r = same in_input r.in_input && bytes_eq r.part part
  where
    same : Bool → Bool → Bool
    same true b = b
    same false true = false
    same false false = true
