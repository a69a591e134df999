-- Setting a member by the place of its name, and finding it.
use Rattle.std.proofs.Common.{◌≡◌, ◌≢◌, ℕ, zero, suc, ◌<◌, ◌⊎◌, Bool, true, false, cond, List, [], ◌∷◌, ◌++◌, length, set, get_or, map, Option, None, Some, String, refl, sym, ap, ◌∙◌, subst, inl, inr, ⊎_elim, arith}
use Rattle.std.specs.Str.{bytes_eq}
use Rattle.std.specs.Option.{option_map}
use Rattle.std.proofs.lemmas.Slice.Eq.{bytes_eq-Decides}
use Rattle.std.proofs.lemmas.Bool.{false_from_ne_true}
use Rattle.std.specs.BTreeMap.{BTreeMap, get_by_text}
use Rattle.std.proofs.lemmas.List.{map-set, get_or-map, map_push}
use Rattle.project_json.specs.Tree.{Tree}
use Rattle.project_json.specs.View.{field}
use Rattle.project_json.specs.declared.json.Member.{Member}
use Rattle.project_json.specs.Grammar.{put}
use Rattle.project_json.specs.Parts.{value_named}
use Rattle.project_json.specs.Places.{place_of}

absent : (b : Bool) (o : Option ℕ) → cond b (Some 0) (option_map suc o) ≡ None → (b ≡ false) × (o ≡ None)
absent true o h = absurd (cc)
absent false None h = (refl, refl)
absent false (Some i) h = absurd (cc)

present : (b : Bool) (o : Option ℕ) (i : ℕ) → cond b (Some 0) (option_map suc o) ≡ Some i → ((b ≡ true) × (i ≡ 0)) ⊎ ((b ≡ false) × ((j : ℕ) × (o ≡ Some j) × (i ≡ suc j)))
present true o i h = inl (refl, cc)
present false None i h = absurd (cc)
present false (Some j) i h = inr (refl, (j, refl, cc))

pub place_of-bound : (name : List ℕ) (ms : List (List ℕ × Tree)) (i : ℕ) → place_of name ms ≡ Some i → i < length ms
place_of-bound name [] i h = absurd (cc)
place_of-bound name (m ∷ ms) i h =
    ⊎_elim (λ p. let e = p.1 in omega arith) (λ p. let below = place_of-bound name ms p.1.0 p.1.1 in let e = p.1.2 in omega arith) (present (bytes_eq m.0 name) (place_of name ms) i h)

-- the member at the place of the name gets the value
pub put-set : (name : List ℕ) (t : Tree) (ms : List (List ℕ × Tree)) (i : ℕ) (d : List ℕ × Tree) → place_of name ms ≡ Some i → put name t ms ≡ set ms i ((get_or ms i d).0, t)
put-set name t [] i d h = absurd (cc)
put-set name t (m ∷ ms) i d h =
    ⊎_elim
    (λ p. ap (λ b. cond b ((m.0, t) ∷ ms) (m ∷ put name t ms)) p.0 ∙ ap (λ k. set (m ∷ ms) k ((get_or (m ∷ ms) k d).0, t)) (sym p.1))
    (λ p. ap (λ b. cond b ((m.0, t) ∷ ms) (m ∷ put name t ms)) p.0 ∙ ap (λ xs. m ∷ xs) (put-set name t ms p.1.0 d p.1.1) ∙ ap (λ k. set (m ∷ ms) k ((get_or (m ∷ ms) k d).0, t)) (sym p.1.2))
    (present (bytes_eq m.0 name) (place_of name ms) i h)

-- a name with no place comes last
pub put-push : (name : List ℕ) (t : Tree) (ms : List (List ℕ × Tree)) → place_of name ms ≡ None → put name t ms ≡ ms ++ (name, t) ∷ []
put-push name t [] h = refl
put-push name t (m ∷ ms) h =
    let a = absent (bytes_eq m.0 name) (place_of name ms) h in
    ap (λ b. cond b ((m.0, t) ∷ ms) (m ∷ put name t ms)) a.0 ∙ ap (λ xs. m ∷ xs) (put-push name t ms a.1)

-- a member that keeps its name changes no place
pub place_of-set : (q : List ℕ) (ms : List (List ℕ × Tree)) (i : ℕ) (d : List ℕ × Tree) (t : Tree) → place_of q (set ms i ((get_or ms i d).0, t)) ≡ place_of q ms
place_of-set q [] i d t = refl
place_of-set q (m ∷ ms) zero d t = refl
place_of-set q (m ∷ ms) (suc i) d t = ap (λ o. cond (bytes_eq m.0 q) (Some 0) (option_map suc o)) (place_of-set q ms i d t)

-- the places once a member with a new name stands last
pub place_of-push : (q name : List ℕ) (t : Tree) (ms : List (List ℕ × Tree)) → place_of name ms ≡ None → place_of q (ms ++ (name, t) ∷ []) ≡ cond (bytes_eq name q) (Some (length ms)) (place_of q ms)
place_of-push q name t [] h = refl
place_of-push q name t (m ∷ ms) h =
    let a = absent (bytes_eq m.0 name) (place_of name ms) h in
    ap (λ o. cond (bytes_eq m.0 q) (Some 0) (option_map suc o)) (place_of-push q name t ms a.1)
    ∙ elim (bytes_eq name q) as (λ b. bytes_eq name q ≡ b → cond (bytes_eq m.0 q) (Some 0) (option_map suc (cond b (Some (length ms)) (place_of q ms))) ≡ cond b (Some (suc (length ms))) (cond (bytes_eq m.0 q) (Some 0) (option_map suc (place_of q ms)))) [
      | true ↦ λ e. ap (λ b. cond b (Some 0) (Some (suc (length ms)))) (subst (λ x. bytes_eq m.0 x ≡ false) ((bytes_eq-Decides name q).0 e) a.0)
      | false ↦ λ e. refl
    ] refl

-- what a map of places finds under a text is the place of the name
pub place_of-found : {Y : Type 0} (places : BTreeMap (String Y) ℕ) (ms : List (List ℕ × Tree)) → ((q : List ℕ) → get_by_text places q ≡ place_of q ms) → (name text : List ℕ) (o : Option ℕ) → text ≡ name → get_by_text places text ≡ o → place_of name ms ≡ o
place_of-found places ms indexed name text o e h = sym (indexed name) ∙ ap (get_by_text places) (sym e) ∙ h

-- the fields of members when one is set
pub map-set_value : (ms : List Member) (i : ℕ) (m new : Member) (t : Tree) → i < length ms → m ≡ get_or ms i m → field new ≡ ((field m).0, t) → map field (set ms i new) ≡ set (map field ms) i ((get_or (map field ms) i (field m)).0, t)
map-set_value ms i m new t within is e = map-set field ms i new ∙ ap (set (map field ms) i) (e ∙ ap (λ (k : List ℕ × Tree). (k.0, t)) (ap field is ∙ sym (get_or-map field ms i m (field m) within)))

-- the fields of members and one more
pub map-push_member : (ms : List Member) (new : Member) (m : List ℕ × Tree) → field new ≡ m → map field (ms ++ new ∷ []) ≡ map field ms ++ m ∷ []
map-push_member ms new m e = map_push field ms new ∙ ap (λ k. map field ms ++ k ∷ []) e

-- the value that is put is found
pub put-found : (name : List ℕ) (t : Tree) (ms : List (List ℕ × Tree)) → value_named name (put name t ms) ≡ Some t
put-found name t [] = ap (λ b. cond b (Some t) None) ((bytes_eq-Decides name name).1 refl)
put-found name t (m ∷ ms) =
    elim (bytes_eq m.0 name) as (λ b. bytes_eq m.0 name ≡ b → value_named name (cond b ((m.0, t) ∷ ms) (m ∷ put name t ms)) ≡ Some t) [
      | true ↦ λ e. ap (λ b. cond b (Some t) (value_named name ms)) e
      | false ↦ λ e. ap (λ b. cond b (Some m.1) (value_named name (put name t ms))) e ∙ put-found name t ms
    ] refl

-- and all other names keep theirs
pub put-others : (name other : List ℕ) (t : Tree) (ms : List (List ℕ × Tree)) → other ≢ name → value_named other (put name t ms) ≡ value_named other ms
put-others name other t [] ne = ap (λ b. cond b (Some t) None) (false_from_ne_true _ (λ e. ne (sym ((bytes_eq-Decides name other).0 e))))
put-others name other t (m ∷ ms) ne =
    elim (bytes_eq m.0 name) as (λ b. bytes_eq m.0 name ≡ b → value_named other (cond b ((m.0, t) ∷ ms) (m ∷ put name t ms)) ≡ value_named other (m ∷ ms)) [
      | true ↦ λ e.
          let no_other : bytes_eq m.0 other ≡ false = false_from_ne_true _ (λ f. ne (sym ((bytes_eq-Decides m.0 other).0 f) ∙ (bytes_eq-Decides m.0 name).0 e)) in
          ap (λ b. cond b (Some t) (value_named other ms)) no_other ∙ sym (ap (λ b. cond b (Some m.1) (value_named other ms)) no_other)
      | false ↦ λ e. ap (λ o. cond (bytes_eq m.0 other) (Some m.1) o) (put-others name other t ms ne)
    ] refl
