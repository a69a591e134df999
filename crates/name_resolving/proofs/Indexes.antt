-- The index of a list of names with one more.
use Rattle.std.proofs.Common.{◌≡◌, ℕ, List, [], ◌∷◌, ◌++◌, length, Option, Some, None, sym, ◌∙◌}
use Rattle.std.specs.Prelude.{position}
use Rattle.scratch_values.specs.declared.names.VarName.{VarName}
use Rattle.project_spec.specs.Resolving.{same_id, same_name}
use Rattle.name_resolving.specs.declared.index.Index.{Index}
use Rattle.name_resolving.specs.FirstPlaces.{place_of, Notes}
use Rattle.name_resolving.specs.Index.{NotesId, id_place_by, IsIndex}
use Rattle.name_resolving.proofs.Firsts.{or_none}
use Rattle.name_resolving.proofs.Positions.{position-push}

module _ (old new : Index) (name : VarName) (place : ℕ) (names : List VarName) (is : IsIndex old names) (last : place ≡ length names) where
  by_name : Notes old.names new.names name.name place → (wanted : VarName) → place_of new.names wanted.name ≡ position (same_name wanted) (names ++ name ∷ [])
  by_name notes wanted =
      let known = is.named wanted in
      let more = position-push (same_name wanted) names name in
      notes wanted.name ∙ rw (known, last) (sym more)

  by_id : (o w : Option (List ℕ)) (text t : List ℕ) → NotesId old.ids new.ids o place → id_place_by old w ≡ position (same_id (record { name = t; id = w })) names
      → id_place_by new w ≡ position (same_id (record { name = t; id = w })) (names ++ record { name = text; id = o } ∷ [])
  by_id None None text t notes known = known ∙ sym (position-push (same_id (record { name = t; id = None })) names (record { name = text; id = None }) ∙ or_none _)
  by_id (Some id) None text t notes known = known ∙ sym (position-push (same_id (record { name = t; id = None })) names (record { name = text; id = Some id }) ∙ or_none _)
  by_id None (Some q) text t notes known = notes q ∙ known ∙ sym (position-push (same_id (record { name = t; id = Some q })) names (record { name = text; id = None }) ∙ or_none _)
  by_id (Some id) (Some q) text t notes known =
      let more = position-push (same_id (record { name = t; id = Some q })) names (record { name = text; id = Some id }) in
      notes q ∙ rw (known, last) (sym more)

  pub index-push : NotesId old.ids new.ids name.id place → Notes old.names new.names name.name place → IsIndex new (names ++ name ∷ [])
  index-push ids texts = record { ids = λ wanted. by_id name.id wanted.id name.name wanted.name ids (is.ids wanted); named = by_name texts }
