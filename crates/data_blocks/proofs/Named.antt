-- Changes of what is named, by the instance and the number that the code found.
use Rattle.std.proofs.Common.{◌≡◌, ℕ, List, Bool, ap, ◌∙◌}
use Rattle.scratch_number.specs.declared.number.Num.{Num}
use Rattle.scratch_number.specs.Arithmetic.{add}
use Rattle.scratch_values.specs.Casts.{number}
use Rattle.scratch_values.specs.declared.value.Value.{Value}
use Rattle.scratch_values.specs.declared.value.Value.TheVariants.{Number}
use Rattle.machine_spec.specs.Program.{Records}
use Rattle.machine_spec.specs.declared.instance.Instance.{Instance}
use Rattle.machine_spec.specs.declared.variables.Shown.{Shown}
use Rattle.machine_spec.specs.Stores.{Variables, instance_at, value_in, items_in}
use Rattle.machine_spec.specs.Monitors.{monitor_set}
use Rattle.machine_spec.specs.DataRows.{added, items_set, value_set}

raise : ℕ → ℕ → Num → Variables → Variables
raise n k by vs = value_set n k (Number (add (number (value_in n k vs)) by)) vs

pub raised_is : (n m k j : ℕ) (a b : Num) (vs new : Variables) → new ≡ value_set n k (Number (add (number (value_in n k vs)) a)) vs → n ≡ m → k ≡ j → a ≡ b
    → new ≡ value_set m j (Number (add (number (value_in m j vs)) b)) vs
unfolding raise
raised_is n m k j a b vs new e f g h = e ∙ ap (λ x. raise x k a vs) f ∙ ap (λ x. raise m x a vs) g ∙ ap (λ x. raise m j x vs) h

append : ℕ → ℕ → Value → Variables → Variables
append n k v vs = items_set n k (added v (items_in n k vs)) vs

pub added_is : (n m k j : ℕ) (v w : Value) (vs new : Variables) → new ≡ items_set n k (added v (items_in n k vs)) vs → n ≡ m → k ≡ j → v ≡ w
    → new ≡ items_set m j (added w (items_in m j vs)) vs
unfolding append
added_is n m k j v w vs new e f g h = e ∙ ap (λ x. append x k v vs) f ∙ ap (λ x. append m x v vs) g ∙ ap (λ x. append m j x vs) h

pub shown_is : (what : ℕ → ℕ → Shown) (records : Records) (n m k j t : ℕ) (is : List Instance) (visible : Bool) (vs new : Variables)
    → new ≡ monitor_set records (what t k) visible vs → t ≡ (instance_at n is).of → n ≡ m → k ≡ j
    → new ≡ monitor_set records (what (instance_at m is).of j) visible vs
shown_is what records n m k j t is visible vs new e f g h =
    e ∙ ap (λ x. monitor_set records (what x k) visible vs) (f ∙ ap (λ x. (instance_at x is).of) g) ∙ ap (λ x. monitor_set records (what (instance_at m is).of x) visible vs) h
