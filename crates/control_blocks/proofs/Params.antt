-- The parameters of a call, argument by argument.
use Rattle.std.proofs.Common.{◌≡◌, ℕ, zero, suc, ◌+◌, ◌<◌, List, [], ◌∷◌, length, drop, Option, Some, None, refl, sym, ap, ap₂, ◌∙◌, subst, add-one}
use Rattle.std.specs.Prelude.{slice_get, slice_index_or, unwrap_or}
use Rattle.std.proofs.lemmas.Option.{slice_get_read}
use Rattle.scratch_values.specs.Named.{Arguments, item_named, with_param}
use Rattle.scratch_values.specs.declared.value.Value.{Value}
use Rattle.machine_spec.specs.ControlRows.{params_from}
use Rattle.machine_spec.specs.Threads.{Params}

at-drop_suc : {A : Type 0} (xs : List A) (k : ℕ) (x : A) → slice_get xs k ≡ Some x → drop k xs ≡ x ∷ drop (suc k) xs
at-drop_suc [] k x e = absurd (cc e)
at-drop_suc (y ∷ ys) zero x e = let same : y ≡ x = cc e in ap (λ z. z ∷ ys) same
at-drop_suc (y ∷ ys) (suc k) x e = at-drop_suc ys k x e

at-drop : {A : Type 0} (xs : List A) (k : ℕ) (x : A) → slice_get xs k ≡ Some x → drop k xs ≡ x ∷ drop (k + 1) xs
at-drop xs k x e = at-drop_suc xs k x e ∙ ap (λ j. x ∷ drop j xs) (sym (add-one k))

none-drop : {A : Type 0} (xs : List A) (k : ℕ) → slice_get xs k ≡ None → drop k xs ≡ []
none-drop [] zero e = refl
none-drop [] (suc k) e = refl
none-drop (y ∷ ys) zero e = absurd (cc e)
none-drop (y ∷ ys) (suc k) e = none-drop ys k e

-- an id of the loop is that of the prototype
pub id_at : (items ids : List (List ℕ)) (k : ℕ) (id : List ℕ) → items ≡ ids → k < length items → id ≡ slice_index_or items k id → slice_get ids k ≡ Some id
id_at items ids k id e lt is = subst (λ xs. slice_get xs k ≡ Some id) e (slice_get_read items _ k id refl lt is)

module _ (a : Arguments) (ids names : List (List ℕ)) (ds : List Value) (k : ℕ) (id : List ℕ) (ps whole : Params) (is : slice_get ids k ≡ Some id) (so_far : params_from a (drop k ids) (drop k names) (drop k ds) ps ≡ whole) where
  pub no_name : slice_get names k ≡ None → ps ≡ whole
  no_name none = sym (ap₂ (λ is ns. params_from a is ns (drop k ds) ps) (at-drop ids k id is) (none-drop names k none)) ∙ so_far

  pub no_default : (name : List ℕ) → slice_get names k ≡ Some name → slice_get ds k ≡ None → ps ≡ whole
  no_default name named none =
      sym (ap₂ (λ is ns. params_from a is ns (drop k ds) ps) (at-drop ids k id is) (at-drop names k name named) ∙ ap (λ vs. params_from a (id ∷ drop (k + 1) ids) (name ∷ drop (k + 1) names) vs ps) (none-drop ds k none))
      ∙ so_far

  pub one_more : (name : List ℕ) (d : Value) (next : Params) → slice_get names k ≡ Some name → slice_get ds k ≡ Some d → next ≡ with_param name (unwrap_or (item_named id a.values) d) ps
      → params_from a (drop (k + 1) ids) (drop (k + 1) names) (drop (k + 1) ds) next ≡ whole
  one_more name d next named default put =
      ap (params_from a (drop (k + 1) ids) (drop (k + 1) names) (drop (k + 1) ds)) put
      ∙ sym (ap₂ (λ is ns. params_from a is ns (drop k ds) ps) (at-drop ids k id is) (at-drop names k name named) ∙ ap (λ vs. params_from a (id ∷ drop (k + 1) ids) (name ∷ drop (k + 1) names) vs ps) (at-drop ds k d default))
      ∙ so_far
