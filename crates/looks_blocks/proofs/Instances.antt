-- Changes of one instance that make the same of it.
use Rattle.std.proofs.Common.{◌≡◌, ℕ, List, Option, Some, None, get_or, set, refl, sym, ap, ◌∙◌}
use Rattle.std.specs.Prelude.{◌==◌}
use Rattle.std.specs.List.{position}
use Rattle.machine_spec.specs.declared.instance.Instance.{Instance}
use Rattle.machine_spec.specs.Stores.{instance_at, on_instance, no_instance}
use Rattle.targets.proofs.Cast.{instance_at_is, on_instance_is, on_instance_none}

by_place : (n : ℕ) (f g : Instance → Instance) (is : List Instance) (o : Option ℕ) → position (λ i. i.number == n) is ≡ o
    → f (instance_at n is) ≡ g (instance_at n is) → on_instance n f is ≡ on_instance n g is
by_place n f g is None p e = on_instance_none n f is p ∙ sym (on_instance_none n g is p)
by_place n f g is (Some k) p e =
    let at : get_or is k no_instance ≡ instance_at n is = sym (instance_at_is n is k no_instance p) in
    on_instance_is n f is k no_instance p
    ∙ ap (λ (i : Instance). set is k i) (ap f at ∙ e ∙ ap g (sym at))
    ∙ sym (on_instance_is n g is k no_instance p)

-- a change is told by what it makes of that instance
pub on_instance_same : (n : ℕ) (f g : Instance → Instance) (is : List Instance) → f (instance_at n is) ≡ g (instance_at n is) → on_instance n f is ≡ on_instance n g is
on_instance_same n f g is e = by_place n f g is (position (λ i. i.number == n) is) refl e
