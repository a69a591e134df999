-- The variables and lists that the blocks of monitors name are there.
use Rattle.std.proofs.Common.{◌≡◌, ℕ, Bool, true, false, cond, List, [], ◌∷◌, ◌++◌, inl, inr, ◌⊎◌, refl, sym, ap, ◌∙◌, subst}
use Rattle.std.specs.Prelude.{codes, slice_get, unwrap_or, bytes_eq, flat_map, Option, None, Some}
use Rattle.std.proofs.lemmas.Slice.Eq.{bytes_eq-Decides}
use Rattle.opcode_table.specs.declared.opcode.Opcode.{Opcode}
use Rattle.opcode_table.specs.declared.opcode.Opcode.TheVariants.{DataShowVariable, DataHideVariable, DataShowList, DataHideList}
use Rattle.scratch_values.specs.Named.{item_named}
use Rattle.scratch_values.specs.declared.names.VarName.{VarName}
use Rattle.scratch_values.specs.declared.names.VarRef.{VarRef}
use Rattle.scratch_values.specs.declared.names.VarRef.TheVariants.{Own}
use Rattle.machine_spec.specs.Program.{Records}
use Rattle.project_spec.specs.declared.blocks.Block.{Block}
use Rattle.project_spec.specs.declared.blocks.Code.{Code}
use Rattle.project_spec.specs.declared.blocks.Code.TheVariants.{Known, Other}
use Rattle.project_spec.specs.declared.blocks.Input.{Input}
use Rattle.project_spec.specs.declared.blocks.Input.TheVariants as input
use Rattle.project_spec.specs.declared.blocks.Resolved.{Resolved}
use Rattle.project_spec.specs.Linked.{named, is_unfit_field, unfit_by}
use Rattle.project_spec.specs.Resolving.{Sort, OfVariable, OfList, Naming, field_sort, is_own_field, field_naming, input_naming, ref_in, ref_at}
use Rattle.project_spec.specs.Trees.{Sheet, op_by, refs_from}
use Rattle.laws_of_threads.specs.Lists.{Each}
use Rattle.laws_of_threads.specs.Playable.{ShowsNamed, ref_named}
use Rattle.laws_of_programs.proofs.Added.{Names}
use Rattle.laws_of_programs.proofs.NamesHeld.{Match}

-- What a field names, among what its block names

-- a field of this name names one of this sort
abbrev Sorted : List ℕ → Sort → Naming → Type 0
Sorted part s n = n.in_input ≡ false → bytes_eq n.part part ≡ true → n.sort ≡ s

-- one names what stands in this field
abbrev Has : List ℕ → List Naming → Type 0
Has part [] = ⊥
Has part (n ∷ ns) = ((n.in_input ≡ false) × (bytes_eq n.part part ≡ true)) ⊎ Has part ns

-- what was found for a field is there
record Held (records : Records) (t : ℕ) (part : List ℕ) (s : Sort) (rs : List Resolved) : Type 0 where
  ref : VarRef
  found : ref_in rs false part ≡ Some ref
  named : Names s records t ref

held_input : (records : Records) (t : ℕ) (part : List ℕ) (s : Sort) (p : List ℕ) (v : VarRef) (rs : List Resolved) → Held records t part s rs → Held records t part s (record { in_input = true; part = p; variable = v } ∷ rs)
held_input records t part s p v rs h = record { ref = h.ref; found = h.found; named = h.named }

held_here : (records : Records) (t : ℕ) (part : List ℕ) (s : Sort) (p : List ℕ) (v : VarRef) (rs : List Resolved) → bytes_eq p part ≡ true → Names s records t v → Held records t part s (record { in_input = false; part = p; variable = v } ∷ rs)
held_here records t part s p v rs e h = record { ref = v; found = rw e refl; named = h }

held_there : (records : Records) (t : ℕ) (part : List ℕ) (s : Sort) (p : List ℕ) (v : VarRef) (rs : List Resolved) → bytes_eq p part ≡ false → Held records t part s rs → Held records t part s (record { in_input = false; part = p; variable = v } ∷ rs)
held_there records t part s p v rs e h = record { ref = h.ref; found = rw e h.found; named = h.named }

tail_by : (records : Records) (t : ℕ) (part : List ℕ) (s : Sort) (n : Naming) (ns : List Naming) (r : Resolved) (rs : List Resolved) (i c : Bool) → r.in_input ≡ i → r.part ≡ n.part → bytes_eq n.part part ≡ c → r.in_input ≡ n.in_input → Sorted part s n → Names n.sort records t r.variable → Has part (n ∷ ns) → (Has part ns → Held records t part s rs) → Held records t part s (r ∷ rs)
tail_by records t part s n ns r rs true c i p b j so named (inl h) rest = absurd (cc (i, j, h.0))
tail_by records t part s n ns r rs true c i p b j so named (inr h) rest =
    subst (λ x. Held records t part s (record { in_input = x; part = r.part; variable = r.variable } ∷ rs)) (sym i) (held_input records t part s r.part r.variable rs (rest h))
tail_by records t part s n ns r rs false true i p b j so named h rest =
    let e : bytes_eq r.part part ≡ true = subst (λ x. bytes_eq x part ≡ true) (sym p) b in
    subst (λ x. Held records t part s (record { in_input = x; part = r.part; variable = r.variable } ∷ rs)) (sym i) (held_here records t part s r.part r.variable rs e (subst (λ x. Names x records t r.variable) (so (sym j ∙ i) b) named))
tail_by records t part s n ns r rs false false i p b j so named (inl h) rest = absurd (cc (b, h.1))
tail_by records t part s n ns r rs false false i p b j so named (inr h) rest =
    let e : bytes_eq r.part part ≡ false = subst (λ x. bytes_eq x part ≡ false) (sym p) b in
    subst (λ x. Held records t part s (record { in_input = x; part = r.part; variable = r.variable } ∷ rs)) (sym i) (held_there records t part s r.part r.variable rs e (rest h))

held : (records : Records) (t : ℕ) (part : List ℕ) (s : Sort) (ns : List Naming) (rs : List Resolved) → Each (Sorted part s) ns → Match records t ns rs → Has part ns → Held records t part s rs
held records t part s [] rs so m h = absurd h
held records t part s (n ∷ ns) [] so m h = absurd m
held records t part s (n ∷ ns) (r ∷ rs) so m h =
    tail_by records t part s n ns r rs r.in_input (bytes_eq n.part part) refl m.1 refl m.0 so.0 m.2 h (held records t part s ns rs so.1 m.3)

-- The names in a block

each_joined : {A : Type 0} (P : A → Type 0) (xs ys : List A) → Each P xs → Each P ys → Each P (xs ++ ys)
each_joined P [] ys h g = g
each_joined P (x ∷ xs) ys h g = (h.0, each_joined P xs ys h.1 g)

each_flat : {A B : Type 0} (P : B → Type 0) (f : A → List B) (xs : List A) → ((x : A) → Each P (f x)) → Each P (flat_map f xs)
each_flat P f [] h = tt
each_flat P f (x ∷ xs) h = each_joined P (f x) (flat_map f xs) (h x) (each_flat P f xs h)

has_left : (part : List ℕ) (xs ys : List Naming) → Has part xs → Has part (xs ++ ys)
has_left part [] ys h = absurd h
has_left part (x ∷ xs) ys (inl h) = inl h
has_left part (x ∷ xs) ys (inr h) = inr (has_left part xs ys h)

has_right : (part : List ℕ) (xs ys : List Naming) → Has part ys → Has part (xs ++ ys)
has_right part [] ys h = h
has_right part (x ∷ xs) ys h = inr (has_right part xs ys h)

same_text : (a b : List ℕ) → bytes_eq a b ≡ true → a ≡ b
same_text a b h = (bytes_eq-Decides a b).0 h

text_same : (a : List ℕ) → bytes_eq a a ≡ true
text_same a = (bytes_eq-Decides a a).1 refl

module _ (part : List ℕ) (s : Sort) (sort : field_sort part ≡ Some s) where
  one_sort : (p : List ℕ) (r : Sort) → field_sort p ≡ Some r → bytes_eq p part ≡ true → r ≡ s
  one_sort p r e h = let a = ap field_sort (same_text p part h) in cc

  field_by : (c : Code) (p : List ℕ) (name : VarName) (own a b : Bool) → is_own_field c p ≡ own → bytes_eq p (codes "VARIABLE") ≡ a → bytes_eq p (codes "LIST") ≡ b → Each (Sorted part s) (field_naming c (p, name))
  field_by c p name false a b e f g = rw e tt
  field_by c p name true true b e f g = rw (e, f) ((λ i h. one_sort p OfVariable (rw f refl) h), tt)
  field_by c p name true false true e f g = rw (e, f, g) ((λ i h. one_sort p OfList (rw (f, g) refl) h), tt)
  field_by c p name true false false e f g = rw (e, f, g) tt

  input_sorted : (x : List ℕ × Input) → Each (Sorted part s) (input_naming x)
  input_sorted (p, input.Variable name) = ((λ i h. absurd (cc i)), tt)
  input_sorted (p, input.List name) = ((λ i h. absurd (cc i)), tt)
  input_sorted (p, input.Literal v) = tt
  input_sorted (p, input.Reporter l) = tt
  input_sorted (p, input.Absent) = tt

  names_sorted : (c : Code) (b : Block) → Each (Sorted part s) (flat_map (field_naming c) b.fields ++ flat_map input_naming b.inputs)
  names_sorted c b = each_joined (Sorted part s) (flat_map (field_naming c) b.fields) (flat_map input_naming b.inputs)
      (each_flat (Sorted part s) (field_naming c) b.fields (λ x. field_by c x.0 x.1 (is_own_field c x.0) (bytes_eq x.0 (codes "VARIABLE")) (bytes_eq x.0 (codes "LIST")) refl refl refl))
      (each_flat (Sorted part s) input_naming b.inputs input_sorted)

-- The field that is there

abbrev HasField : List ℕ → List (List ℕ × VarName) → Type 0
HasField part [] = ⊥
HasField part (f ∷ fs) = (bytes_eq f.0 part ≡ true) ⊎ HasField part fs

field_there_by : (part : List ℕ) (f : List ℕ × VarName) (fs : List (List ℕ × VarName)) (c : Bool) → bytes_eq f.0 part ≡ c → (named part (f ∷ fs) ≡ None → ⊥) → ((named part fs ≡ None → ⊥) → HasField part fs) → HasField part (f ∷ fs)
field_there_by part f fs true e h rest = inl e
field_there_by part f fs false e h rest = inr (rest (λ g. h (rw e g)))

field_there : (part : List ℕ) (fs : List (List ℕ × VarName)) → (named part fs ≡ None → ⊥) → HasField part fs
field_there part [] h = absurd (h refl)
field_there part (f ∷ fs) h = field_there_by part f fs (bytes_eq f.0 part) refl h (field_there part fs)

names_field : (part : List ℕ) (c : Code) (fs : List (List ℕ × VarName)) → ((name : VarName) → Has part (field_naming c (part, name))) → HasField part fs → Has part (flat_map (field_naming c) fs)
names_field part c [] here h = absurd h
names_field part c (f ∷ fs) here (inl e) = has_left part (field_naming c f) (flat_map (field_naming c) fs) (subst (λ p. Has part (field_naming c (p, f.1))) (sym (same_text f.0 part e)) (here f.1))
names_field part c (f ∷ fs) here (inr h) = has_right part (field_naming c f) (flat_map (field_naming c) fs) (names_field part c fs here h)

module _ (sheet : Sheet) (k : ℕ) (part : List ℕ) (v : VarRef) (at : ref_at sheet.refs k false part ≡ Some v) where
  ref_by : (f : List ℕ × VarName) (fs : List (List ℕ × VarName)) (o : Option VarRef) (c : Bool) → ref_at sheet.refs k false f.0 ≡ o → bytes_eq f.0 part ≡ c → HasField part (f ∷ fs) → (HasField part fs → item_named part (refs_from sheet k fs) ≡ Some v) → item_named part (refs_from sheet k (f ∷ fs)) ≡ Some v
  ref_by f fs o true e b h rest =
      let one : ref_at sheet.refs k false f.0 ≡ Some v = ap (λ p. ref_at sheet.refs k false p) (same_text f.0 part b) ∙ at in
      rw (one, b) refl
  ref_by f fs o false e b (inl h) rest = absurd (cc (b, h))
  ref_by f fs None false e b (inr h) rest = rw e (rest h)
  ref_by f fs (Some r) false e b (inr h) rest = rw (e, b) (rest h)

  ref_is : (fs : List (List ℕ × VarName)) → HasField part fs → item_named part (refs_from sheet k fs) ≡ Some v
  ref_is [] h = absurd h
  ref_is (f ∷ fs) h = ref_by f fs (ref_at sheet.refs k false f.0) (bytes_eq f.0 part) refl refl h (ref_is fs)

-- What a block shows or hides

module _ (records : Records) (t : ℕ) (sheet : Sheet) (k : ℕ) (b : Block) where
  named_there : (part : List ℕ) (s : Sort) (op : Opcode) → field_sort part ≡ Some s → ((name : VarName) → Has part (field_naming (Known op) (part, name))) → (named part b.fields ≡ None → ⊥) → Match records t (flat_map (field_naming (Known op)) b.fields ++ flat_map input_naming b.inputs) (unwrap_or (slice_get sheet.refs k) []) → Names s records t (ref_named (refs_from sheet k b.fields) part)
  named_there part s op sort here there m =
      let f = field_there part b.fields there in
      let h = held records t part s (flat_map (field_naming (Known op)) b.fields ++ flat_map input_naming b.inputs) (unwrap_or (slice_get sheet.refs k) []) (names_sorted part s sort (Known op) b) m (has_left part (flat_map (field_naming (Known op)) b.fields) (flat_map input_naming b.inputs) (names_field part (Known op) b.fields here f)) in
      subst (λ o. Names s records t (unwrap_or o (Own 0))) (sym (ref_is sheet k part h.ref h.found b.fields f)) h.named

  fit_by : (part : List ℕ) (op : Opcode) (o : Option VarName) → cond (is_unfit_field op o) (Some part) None ≡ None → o ≡ None → ⊥
  fit_by part op None h e = cc h
  fit_by part op (Some f) h e = cc e

  pub shows : (c : Code) → unfit_by c b ≡ None → Match records t (flat_map (field_naming c) b.fields ++ flat_map input_naming b.inputs) (unwrap_or (slice_get sheet.refs k) []) → ShowsNamed records t (op_by c) (ref_named (refs_from sheet k b.fields))
  shows (Known DataShowVariable) u m = named_there (codes "VARIABLE") OfVariable DataShowVariable refl (λ name. inl (refl, refl)) (fit_by (codes "VARIABLE") DataShowVariable (named (codes "VARIABLE") b.fields) u) m
  shows (Known DataHideVariable) u m = named_there (codes "VARIABLE") OfVariable DataHideVariable refl (λ name. inl (refl, refl)) (fit_by (codes "VARIABLE") DataHideVariable (named (codes "VARIABLE") b.fields) u) m
  shows (Known DataShowList) u m = named_there (codes "LIST") OfList DataShowList refl (λ name. inl (refl, refl)) (fit_by (codes "LIST") DataShowList (named (codes "LIST") b.fields) u) m
  shows (Known DataHideList) u m = named_there (codes "LIST") OfList DataHideList refl (λ name. inl (refl, refl)) (fit_by (codes "LIST") DataHideList (named (codes "LIST") b.fields) u) m
  shows (Known _) u m = tt
  shows (Other name) u m = tt
