-- Where there is no block there is no script.
use Rattle.std.proofs.Common.{◌≡◌, ℕ, zero, suc, length, Some, None, refl, ap}
use Rattle.std.specs.Prelude.{slice_get}
use Rattle.machine_spec.specs.Script.{End}
use Rattle.project_spec.specs.Trees.{Sheet, block_script, expression, script_within, script}

module _ (sheet : Sheet) where
  none_within : (n k : ℕ) → slice_get sheet.blocks k ≡ None → script_within sheet n (Some k) ≡ End
  unfolding script_within
  none_within zero k e = refl
  none_within (suc n) k e = ap (λ o. block_script sheet k o (expression sheet) (script_within sheet n)) e

  pub no_block : (k : ℕ) → slice_get sheet.blocks k ≡ None → script sheet (Some k) ≡ End
  unfolding script
  no_block k e = none_within (length sheet.blocks) k e
