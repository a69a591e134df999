-- Targets that are held stay so where one of them is given a variable or a list.
use Rattle.std.proofs.Common.{◌≡◌, ℕ, ◌+◌, ◌<◌, ◌^◌, Bool, cond, List, [], ◌∷◌, length, Some, None, Result, Ok, Err, length-append, sym, ap, ◌∙◌, subst, arith}
use Rattle.std.specs.Prelude.{position, slice_get, unwrap_or, nat_lt, OnOk, OnErr}
use Rattle.std.proofs.lemmas.Option.{get_or_from_slice_get}
use Rattle.std.proofs.lemmas.List.Folds.{position_or_len-set}
use Rattle.std.specs.List.{position_or_len}
use Rattle.std.proofs.Math.ListN.{set}
use Rattle.std.proofs.lemmas.List.{length-set}
use Rattle.std.proofs.lemmas.List.Elements.{All-set, All-push}
use Rattle.scratch_values.specs.declared.names.VarName.{VarName}
use Rattle.scratch_values.specs.declared.value.Value.TheVariants.{Number}
use Rattle.scratch_values.specs.Casts.{zero_number}
use Rattle.machine_spec.specs.declared.records.TargetRecord.{TargetRecord}
use Rattle.machine_spec.specs.Lists.{set_some, changed_at}
use Rattle.project_spec.specs.Resolving.{with_added, OfVariable, OfList}
use Rattle.target_records.specs.Held.{IsSmall, IsShort, HasShortLists, AreHeld}

position-set : {A : Type 0} (p : A → Bool) (xs : List A) (i : ℕ) (x y : A) → slice_get xs i ≡ Some x → p y ≡ p x → position p (set xs i y) ≡ position p xs
position-set p xs i x y got same =
    ap (λ n. cond (nat_lt n (length (set xs i y))) (Some n) None) (position_or_len-set p xs i y x (same ∙ ap p (sym (get_or_from_slice_get xs i x x got))))
    ∙ ap (λ m. cond (nat_lt (position_or_len p xs) m) (Some (position_or_len p xs)) None) (length-set xs i y)

pub held-set : (ts : List TargetRecord) (stage k : ℕ) (old new : TargetRecord) → AreHeld ts stage → slice_get ts k ≡ Some old → new.is_stage ≡ old.is_stage → IsSmall new → HasShortLists new → AreHeld (set ts k new) stage
held-set ts stage k old new held got same small short = record {
  few = omega (arith, length-set ts k new, held.few);
  small = All-set IsSmall ts k new small held.small;
  short = All-set HasShortLists ts k new short held.short;
  stage_is = held.stage_is ∙ ap (λ o. unwrap_or o 0) (sym (position-set (λ (t : TargetRecord). t.is_stage) ts k old new got same));
}

-- what an added variable leaves as it was
pub variable_keeps : {E : Type 0} (r : Result ℕ E) (name : VarName) (old new : TargetRecord) → OnOk r (new ≡ with_added OfVariable name old) → OnErr r (new ≡ old) → IsSmall old → length old.variables + 1 < 2 ^ 32 → (new.is_stage ≡ old.is_stage) × IsSmall new
variable_keeps (Ok n) name old new made err small room =
    (ap (λ (t : TargetRecord). t.is_stage) made, (omega (arith, ap (λ (t : TargetRecord). length t.variables) made, length-append old.variables (record { name = name; value = Number zero_number } ∷ [])), omega (arith, ap (λ (t : TargetRecord). length t.lists) made, small.1)))
variable_keeps (Err e) name old new made err small room =
    (ap (λ (t : TargetRecord). t.is_stage) err, subst IsSmall (sym err) small)

-- and an added list
pub list_keeps : {E : Type 0} (r : Result ℕ E) (name : VarName) (old new : TargetRecord) → OnOk r (new ≡ with_added OfList name old) → OnErr r (new ≡ old) → IsSmall old → length old.lists + 1 < 2 ^ 32 → (new.is_stage ≡ old.is_stage) × IsSmall new
list_keeps (Ok n) name old new made err small room =
    (ap (λ (t : TargetRecord). t.is_stage) made, (omega (arith, ap (λ (t : TargetRecord). length t.variables) made, small.0), omega (arith, ap (λ (t : TargetRecord). length t.lists) made, length-append old.lists (record { name = name; items = [] } ∷ []))))
list_keeps (Err e) name old new made err small room =
    (ap (λ (t : TargetRecord). t.is_stage) err, subst IsSmall (sym err) small)

pub variable_keeps_short : {E : Type 0} (r : Result ℕ E) (name : VarName) (old new : TargetRecord) → OnOk r (new ≡ with_added OfVariable name old) → OnErr r (new ≡ old) → HasShortLists old → HasShortLists new
variable_keeps_short (Ok n) name old new made err short = subst HasShortLists (sym made) short
variable_keeps_short (Err e) name old new made err short = subst HasShortLists (sym err) short

pub list_keeps_short : {E : Type 0} (r : Result ℕ E) (name : VarName) (old new : TargetRecord) → OnOk r (new ≡ with_added OfList name old) → OnErr r (new ≡ old) → HasShortLists old → HasShortLists new
list_keeps_short (Ok n) name old new made err short =
    subst HasShortLists (sym made) (All-push IsShort old.lists (record { name = name; items = [] }) short (omega arith))
list_keeps_short (Err e) name old new made err short = subst HasShortLists (sym err) short

-- a target set is a target changed
pub set-changed : {A : Type 0} (f : A → A) (ts us : List A) (k : ℕ) (old new : A) → ts ≡ us → slice_get ts k ≡ Some old → new ≡ f old → set ts k new ≡ changed_at f k us
set-changed f ts us k old new same got is = ap (λ x. set ts k x) is ∙ sym (ap (λ o. set_some o f k ts) got) ∙ ap (λ xs. changed_at f k xs) same

pub record-at : (ts us : List TargetRecord) (k : ℕ) (old d : TargetRecord) → ts ≡ us → slice_get ts k ≡ Some old → unwrap_or (slice_get us k) d ≡ old
record-at ts us k old d same got = ap (λ xs. unwrap_or (slice_get xs k) d) (sym same) ∙ ap (λ o. unwrap_or o d) got
