-- The stores of instances that a text tells.
use Rattle.std.proofs.Common.{◌≡◌, ◌==◌, Bool, true, false, cond, ◌&&◌, not, List, [], ◌∷◌, length, map, Some, refl, sym, ap, ◌∙◌, eq-eqb}
use Rattle.std.specs.Prelude.{find, unwrap_or, nat_le}
use Rattle.std.specs.Cmp.{nat_eq_equiv}
use Rattle.std.specs.List.{list_all, list_any}
use Rattle.std.proofs.lemmas.Bool.{and_parts, not-true, or_parts}
use Rattle.std.proofs.lemmas.List.{length-map}
use Rattle.std.proofs.lemmas.List.Folds.{list_all-map}
use Rattle.machine_spec.specs.declared.variables.Store.{Store}
use Rattle.machine_spec.specs.Program.{record_at}
use Rattle.machine_spec.specs.Stores.{store_at}
use Rattle.project_spec.specs.Basis.{Basis, records_of}
use Rattle.saved_spec.specs.RunShapes.{stores_in_order}
use Rattle.saved_spec.specs.Rules as rules
use Rattle.saved_spec.specs.Rules.{differ}
use Rattle.saved_parts.specs.declared.instances.ToldInstance.{ToldInstance}
use Rattle.saved_parts.specs.declared.run.ToldRun.{ToldRun}
use Rattle.saved_parts.specs.Telling.{instance_of, store_of, value_of, told_of}
use Rattle.saved_checks.proofs.Joined.{all-in-order, store-in-order}

-- where no two instances have one number, each has its own store
module _ (test : Store → ToldInstance → Bool) where
  others : (i : ToldInstance) (ss : List Store) (js : List ToldInstance) → list_any (λ m. m == i.number) (map (λ j. j.number) js) ≡ false
      → list_all (λ j. test (store_at j.number (store_of i ∷ ss)) j) js ≡ list_all (λ j. test (store_at j.number ss) j) js
  others i ss [] h = refl
  others i ss (j ∷ js) h =
      let apart = nat_eq_equiv.symm i.number j.number ∙ (or_parts (j.number == i.number) (list_any (λ m. m == i.number) (map (λ j. j.number) js)) h).0 in
      ap (λ t. test (unwrap_or (cond t (Some (store_of i)) (find (λ s. s.of == j.number) ss)) (record { of = j.number; values = []; lists = [] })) j && list_all (λ j. test (store_at j.number (store_of i ∷ ss)) j) js) apart
      ∙ ap (λ t. test (store_at j.number ss) j && t) (others i ss js (or_parts (j.number == i.number) (list_any (λ m. m == i.number) (map (λ j. j.number) js)) h).1)

  own : (is : List ToldInstance) → differ (map (λ i. i.number) is) ≡ true → list_all (λ i. test (store_at i.number (map store_of is)) i) is ≡ list_all (λ i. test (store_of i) i) is
  own [] h = refl
  own (i ∷ is) h =
      let parts = and_parts (not (list_any (λ m. m == i.number) (map (λ i. i.number) is))) (differ (map (λ i. i.number) is)) h in
      ap (λ t. test (unwrap_or (cond t (Some (store_of i)) (find (λ s. s.of == i.number) (map store_of is))) (record { of = i.number; values = []; lists = [] })) i && list_all (λ j. test (store_at j.number (store_of i ∷ map store_of is)) j) is) (eq-eqb i.number i.number refl)
      ∙ ap (λ t. test (store_of i) i && t) (others i (map store_of is) is (not-true (list_any (λ m. m == i.number) (map (λ i. i.number) is)) parts.0) ∙ own is parts.1)

  pub own-stores : (is : List ToldInstance) → differ (map (λ i. i.number) is) ≡ true → list_all (λ i. test (store_at i.number (stores_in_order (map store_of is))) i) is ≡ list_all (λ i. test (store_of i) i) is
  own-stores is h = (λ j. list_all (λ i. test (store-in-order i.number (map store_of is) j) i) is) ∙ own is h

module _ (b : Basis) (r : ToldRun) (is : List ToldInstance) (x : Bool) where
  pub values-told : differ (map (λ i. i.number) r.instances) ≡ true → is ≡ r.instances
      → x ≡ list_all (λ i. (length i.values == length (record_at i.of (records_of b)).variables) && (length i.lists == length (record_at i.of (records_of b)).lists)) is
      → x ≡ rules.variables_are_there b (told_of r)
  values-told differs e h =
      let test : Store → ToldInstance → Bool = λ s i. (length s.values == length (record_at i.of (records_of b)).variables) && (length s.lists == length (record_at i.of (records_of b)).lists) in
      let counts : list_all (λ i. test (store_of i) i) r.instances ≡ list_all (λ i. (length i.values == length (record_at i.of (records_of b)).variables) && (length i.lists == length (record_at i.of (records_of b)).lists)) r.instances
      = λ j. list_all (λ i. (length-map i.values value_of j == length (record_at i.of (records_of b)).variables) && (length-map i.lists (map value_of) j == length (record_at i.of (records_of b)).lists)) r.instances in
      h ∙ ap (list_all (λ i. (length i.values == length (record_at i.of (records_of b)).variables) && (length i.lists == length (record_at i.of (records_of b)).lists))) e
      ∙ sym counts ∙ sym (own-stores test r.instances differs) ∙ sym (list_all-map (rules.has_values b (told_of r)) instance_of r.instances)

pub lists-told : (r : ToldRun) (is : List ToldInstance) (x : Bool) → is ≡ r.instances → x ≡ list_all (λ i. list_all (λ items. nat_le (length items) 200000) i.lists) is → x ≡ rules.lists_are_short (told_of r)
lists-told r is x e h =
    let test : Store → Bool = λ s. list_all (λ items. nat_le (length items) 200000) s.lists in
    let counts : list_all (λ i. test (store_of i)) r.instances ≡ list_all (λ i. list_all (λ items. nat_le (length items) 200000) i.lists) r.instances
    = (λ j. list_all (λ i. list_all-map (λ items. nat_le (length items) 200000) (map value_of) i.lists j) r.instances)
    ∙ (λ j. list_all (λ i. list_all (λ items. nat_le (length-map items value_of j) 200000) i.lists) r.instances) in
    h ∙ ap (list_all (λ i. list_all (λ items. nat_le (length items) 200000) i.lists)) e
    ∙ sym (all-in-order test (map store_of r.instances) ∙ list_all-map test store_of r.instances ∙ counts)
