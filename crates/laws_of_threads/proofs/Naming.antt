-- The parameters of a call have the names of its prototype, each once, in order.
use Rattle.std.proofs.Common.{◌≡◌, ℕ, Bool, true, false, ◌||◌, List, [], ◌∷◌, ◌++◌, map, length, refl, ap, ◌∙◌, arith}
use Rattle.std.specs.Prelude.{bytes_eq, if◌then◌else◌, unwrap_or, Some}
use Rattle.std.specs.List.{list_any}
use Rattle.scratch_values.specs.Named.{Arguments, item_named, with_param}
use Rattle.scratch_values.specs.declared.value.Value.{Value}
use Rattle.machine_spec.specs.Threads.{Params}
use Rattle.machine_spec.specs.Program.{Procedure}
use Rattle.machine_spec.specs.ControlRows.{params_from, params_of}
use Rattle.machine_spec.specs.Legal.{with_name, distinct_after, Fits}

cons_if : (b : Bool) (x : List ℕ) (us vs : List (List ℕ)) → x ∷ (if b then us else vs) ≡ (if b then x ∷ us else x ∷ vs)
cons_if true x us vs = refl
cons_if false x us vs = refl

module _ (name : List ℕ) (v : Value) where
  by : (b : Bool) (x : List ℕ × Value) (xs : Params) → map (λ y. y.0) (with_param name v xs) ≡ with_name name (map (λ y. y.0) xs)
      → map (λ y. y.0) (if b then (x.0, v) ∷ xs else x ∷ with_param name v xs)
      ≡ (if b || list_any (λ n. bytes_eq n name) (map (λ y. y.0) xs) then x.0 ∷ map (λ y. y.0) xs else x.0 ∷ (map (λ y. y.0) xs ++ name ∷ []))
  by true x xs h = refl
  by false x xs h = ap (λ l. x.0 ∷ l) h ∙ cons_if (list_any (λ n. bytes_eq n name) (map (λ y. y.0) xs)) x.0 _ _

  with_param-names : (ps : Params) → map (λ y. y.0) (with_param name v ps) ≡ with_name name (map (λ y. y.0) ps)
  with_param-names [] = refl
  with_param-names (x ∷ xs) = by (bytes_eq x.0 name) x xs (with_param-names xs)

params-names : (args : Arguments) (ids names : List (List ℕ)) (ds : List Value) (ps : Params) → length ids ≡ length names → length names ≡ length ds
    → map (λ y. y.0) (params_from args ids names ds ps) ≡ distinct_after (map (λ y. y.0) ps) names
params-names args [] [] [] ps e f = refl
params-names args [] [] (d ∷ ds) ps e f = refl
params-names args [] (n ∷ ns) ds ps e f = absurd (omega (arith, e))
params-names args (i ∷ is) [] ds ps e f = absurd (omega (arith, e))
params-names args (i ∷ is) (n ∷ ns) [] ps e f = absurd (omega (arith, f))
params-names args (i ∷ is) (n ∷ ns) (d ∷ ds) ps e f =
    params-names args is ns ds (with_param n (unwrap_or (item_named i args.values) d) ps) (omega (arith, e)) (omega (arith, f))
    ∙ ap (λ l. distinct_after l ns) (with_param-names n (unwrap_or (item_named i args.values) d) ps)

pub params-fit : (q : Procedure) (args : Arguments) → length q.ids ≡ length q.names → length q.names ≡ length q.defaults → Fits (params_of q args) (Some q)
params-fit q args e f = params-names args q.ids q.names q.defaults [] e f
