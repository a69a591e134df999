-- What a monitor that blocks added shows is there.
use Rattle.std.proofs.Common.{◌≡◌, ℕ, zero, suc, ◌<◌, ◌^◌, Bool, true, false, List, [], ◌∷◌, length, Some, refl, ap, arith}
use Rattle.std.specs.Prelude.{slice_get, unwrap_or}
use Rattle.machine_spec.specs.declared.records.TargetRecord.{TargetRecord}
use Rattle.machine_spec.specs.Program.{no_target, record_at}
use Rattle.target_records.specs.Held.{IsSmall}
use Rattle.saved_parts.specs.Telling.{shown_of}
use Rattle.project_spec.specs.Basis.{Basis, records_of}
use Rattle.saved_spec.specs.Rules.{is_shown}
use Rattle.saved_stores.proofs.Comparing.{below}

-- a target with something in it is there
there : (f : TargetRecord → ℕ) → f no_target ≡ 0 → (ts : List TargetRecord) (t i : ℕ) → i < f (unwrap_or (slice_get ts t) no_target) → t < length ts
there f e [] t i h = absurd (omega (arith, h, e))
there f e (x ∷ xs) zero i h = omega arith
there f e (x ∷ xs) (suc t) i h = omega (arith, there f e xs t i h)

pub shown_there : (b : Basis) (is_list : Bool) (t i : ℕ) → is_shown b (shown_of is_list t i) ≡ true → t < length (records_of b).targets
shown_there b true t i h = there (λ r. length r.lists) refl (records_of b).targets t i (below i _ h)
shown_there b false t i h = there (λ r. length r.variables) refl (records_of b).targets t i (below i _ h)

-- and its number is one that there can be
pub shown_fits : (b : Basis) (is_list : Bool) (t i : ℕ) (r : TargetRecord) → is_shown b (shown_of is_list t i) ≡ true → slice_get (records_of b).targets t ≡ Some r → IsSmall r → i < 2 ^ 32
shown_fits b true t i r h e small =
    let at : length (record_at t (records_of b)).lists ≡ length r.lists = ap (λ o. length (unwrap_or o no_target).lists) e in
    omega (arith, below i _ h, at, small.1)
shown_fits b false t i r h e small =
    let at : length (record_at t (records_of b)).variables ≡ length r.variables = ap (λ o. length (unwrap_or o no_target).variables) e in
    omega (arith, below i _ h, at, small.0)
