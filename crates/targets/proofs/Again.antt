-- The recorded values of an instance, taken out and put back.
use Rattle.std.proofs.Common.{◌≡◌, ℕ, List, get_or, set, Option, Some, None, Bool, refl, sym, ap, ◌∙◌}
use Rattle.std.specs.Prelude.{◌==◌}
use Rattle.std.specs.List.{position}
use Rattle.std.proofs.lemmas.List.{set-set, set-get_or, get_or-set_same}
use Rattle.machine_spec.specs.declared.instance.Instance.{Instance}
use Rattle.machine_spec.specs.Stores.{no_instance, instance_at, on_instance}
use Rattle.targets.proofs.Places.{position_is, position-set}
use Rattle.targets.proofs.Cast.{on_instance_is, on_instance_none, instance_at_is}

abbrev Edges : Type 0
Edges = List (ℕ × Bool)

abbrev with_edges : Edges → Instance → Instance
with_edges es i = record i { edges = es }

abbrev changing : (Edges → Edges) → Instance → Instance
changing f i = record i { edges = f i.edges }

abbrev place_of : ℕ → List Instance → Option ℕ
place_of n is = position (λ (i : Instance). i.number == n) is

again_at : (n : ℕ) (a b : Edges) (f : Edges → Edges) (is : List Instance) (k : ℕ) → place_of n is ≡ Some k → b ≡ f (instance_at n is).edges
    → on_instance n (with_edges b) (on_instance n (with_edges a) is) ≡ set is k (changing f (get_or is k no_instance))
again_at n a b f is k p e =
    let i : Instance = get_or is k no_instance in
    let at = position_is (λ (i : Instance). i.number == n) is k no_instance p in
    let there : place_of n (set is k (with_edges a i)) ≡ Some k = position-set (λ (i : Instance). i.number == n) is k (with_edges a i) no_instance refl ∙ p in
    let same : get_or (set is k (with_edges a i)) k no_instance ≡ with_edges a i = get_or-set_same is k (with_edges a i) no_instance at.1 in
    let edges : b ≡ f i.edges = e ∙ ap (λ (x : Instance). f x.edges) (instance_at_is n is k no_instance p) in
    ap (on_instance n (with_edges b)) (on_instance_is n (with_edges a) is k no_instance p)
    ∙ on_instance_is n (with_edges b) (set is k (with_edges a i)) k no_instance there
    ∙ ap (λ (x : Instance). set (set is k (with_edges a i)) k (with_edges b x)) same
    ∙ set-set is k (with_edges a i) (with_edges b i)
    ∙ ap (λ (es : Edges). set is k (with_edges es i)) edges

changed_by_place : (n : ℕ) (a b : Edges) (f : Edges → Edges) (is : List Instance) (o : Option ℕ) → place_of n is ≡ o → b ≡ f (instance_at n is).edges
    → on_instance n (with_edges b) (on_instance n (with_edges a) is) ≡ on_instance n (changing f) is
changed_by_place n a b f is (Some k) p e = again_at n a b f is k p e ∙ sym (on_instance_is n (changing f) is k no_instance p)
changed_by_place n a b f is None p e =
    ap (on_instance n (with_edges b)) (on_instance_none n (with_edges a) is p) ∙ on_instance_none n (with_edges b) is p ∙ sym (on_instance_none n (changing f) is p)

-- the values are taken out, changed, and put back
pub put_changed : (n : ℕ) (a b : Edges) (f : Edges → Edges) (is v w : List Instance) → v ≡ on_instance n (with_edges a) is → w ≡ on_instance n (with_edges b) v → b ≡ f (instance_at n is).edges
    → w ≡ on_instance n (λ i. record i { edges = f i.edges }) is
put_changed n a b f is v w e g to =
    g ∙ ap (on_instance n (with_edges b)) e ∙ changed_by_place n a b f is (place_of n is) refl to

same_by_place : (n : ℕ) (is : List Instance) (o : Option ℕ) → place_of n is ≡ o → on_instance n (changing (λ es. es)) is ≡ is
same_by_place n is (Some k) p = on_instance_is n (changing (λ es. es)) is k no_instance p ∙ set-get_or is k no_instance
same_by_place n is None p = on_instance_none n (changing (λ es. es)) is p

-- the values are taken out and put back
pub put_back : (n : ℕ) (a b : Edges) (is v w : List Instance) → v ≡ on_instance n (with_edges a) is → w ≡ on_instance n (with_edges b) v → b ≡ (instance_at n is).edges → w ≡ is
put_back n a b is v w e g to =
    put_changed n a b (λ es. es) is v w e g to ∙ same_by_place n is (place_of n is) refl
