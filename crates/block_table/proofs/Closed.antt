-- Links of blocks that are read lead to blocks of the table.
use Rattle.std.proofs.Common.{◌≡◌, ℕ, suc, ◌<◌, Bool, true, false, List, [], ◌∷◌, ◌++◌, length, position, flat_map, bytes_eq, codes, Option, None, Some, option_map, Result, Ok, Err, refl, sym, ◌∙◌, ap, subst, if◌then◌else◌}
use Rattle.std.specs.List.{All, AllByRecursion}
use Rattle.std.specs.Fmt.{decimal}
use Rattle.std.proofs.lemmas.Option.{slice_get_within, get_or_from_slice_get}
use Rattle.std.proofs.lemmas.List.Concat.{flat_map-cons}
use Rattle.std.proofs.lemmas.Grind.{flat_map-append}
use Rattle.std.proofs.lemmas.List.Elements.{All-nil, All-cons, All-append, All-same, All-contains, All-get_or, All-from_recursion}
use Rattle.std.proofs.lemmas.List.Quantifiers.{position-Some}
use Rattle.project_json.specs.Tree.{Tree, null, truth, number, text, list, object}
use Rattle.scratch_number.specs.declared.number.Num.{Num}
use Rattle.scratch_values.specs.declared.value.Value.TheVariants.{Text}
use Rattle.project_spec.specs.Values.{value}
use Rattle.scratch_values.specs.declared.names.VarName.{VarName}
use Rattle.json_shapes.specs.Shapes as shape
use Rattle.json_shapes.specs.Shapes.{Reader, ◌>>=◌}
use Rattle.opcode_table.specs.declared.opcode.Opcode.TheVariants.{DataVariable, DataListContents}
use Rattle.project_spec.specs.declared.blocks.Link.{Link}
use Rattle.project_spec.specs.declared.blocks.Link.TheVariants.{To, Unknown}
use Rattle.project_spec.specs.declared.blocks.Input.{Input}
use Rattle.project_spec.specs.declared.blocks.Input.TheVariants as input
use Rattle.project_spec.specs.declared.blocks.Block.{Block}
use Rattle.project_spec.specs.Blocks.{Ids, link_by, link_to, is_one_of, tag, name_and_id, literal, message, primitive_by, primitive, input_value, items_from, input_of, field_of, code_named, mutation_by, object_here, block_object, reporter, block_list, block_of}
use Rattle.project_spec.specs.Linked.{Place, Behind, In, next_link, input_link, known_block, leads_to, IsClosed}

-- a reading that goes on was good so far
pub bound : {A B : Type 0} (r : Result A (List ℕ)) (next : A → Result B (List ℕ)) (b : B) → r >>= next ≡ Ok b → (a : A) × (r ≡ Ok a) × (next a ≡ Ok b)
bound (Ok a) next b e = (a, refl, e)
bound (Err path) next b e = absurd (cc e)

same_ok : {A : Type 0} (a b : A) → (let r : Result A (List ℕ) = Ok a in r ≡ Ok b) → a ≡ b
same_ok a b e = cc e

-- Links

-- a block that it leads to is one of the table
abbrev IsIn : ℕ → Link → Type 0
IsIn n (To k) = k < n
IsIn n (Unknown id) = Unit {0}

-- so is a block that an input holds
abbrev HasIn : ℕ → List ℕ × Input → Type 0
HasIn n (name, input.Literal v) = Unit {0}
HasIn n (name, input.Reporter l) = IsIn n l
HasIn n (name, input.Variable v) = Unit {0}
HasIn n (name, input.List v) = Unit {0}
HasIn n (name, input.Absent) = Unit {0}

-- and so are those that a block leads to
abbrev pub AreIn : ℕ → Block → Type 0
AreIn n b = All (λ p. p.1 < n) (leads_to b)

is_in : (ids : Ids) (id : List ℕ) → IsIn (length ids) (link_to ids id)
is_in ids id = by (position (λ other. bytes_eq other id) ids) refl
  where
    by : (o : Option ℕ) → position (λ other. bytes_eq other id) ids ≡ o → IsIn (length ids) (link_by id o)
    by None e = tt
    by (Some k) e = (position-Some (λ other. bytes_eq other id) ids k [] e).0

leads : (n : ℕ) (place : Place) (l : Link) → IsIn n l → All (λ p. p.1 < n) (known_block (place, l))
leads n place (To k) h = All-cons (λ p. p.1 < n) (place, k) [] h (All-nil (λ p. p.1 < n))
leads n place (Unknown id) h = All-nil (λ p. p.1 < n)

more : (n : ℕ) (place : Place) (l : Link) (rest : List (Place × Link)) → IsIn n l → All (λ p. p.1 < n) (flat_map known_block rest) → All (λ p. p.1 < n) (flat_map known_block ((place, l) ∷ rest))
more n place l rest h t = All-same (λ p. p.1 < n) _ _ (flat_map-cons known_block (place, l) rest) (All-append (λ p. p.1 < n) (known_block (place, l)) (flat_map known_block rest) (leads n place l h) t)

next_in : (ids : Ids) (o : Option (List ℕ)) → All (λ p. p.1 < length ids) (flat_map known_block (next_link (option_map (link_to ids) o)))
next_in ids None = All-nil (λ p. p.1 < length ids)
next_in ids (Some id) = more (length ids) Behind (link_to ids id) [] (is_in ids id) (All-nil (λ p. p.1 < length ids))

inputs_in : (n : ℕ) (xs : List (List ℕ × Input)) → AllByRecursion (HasIn n) xs → All (λ p. p.1 < n) (flat_map known_block (flat_map input_link xs))
inputs_in n [] h = All-nil (λ p. p.1 < n)
inputs_in n (x ∷ xs) h =
    All-same (λ p. p.1 < n) _ _ (ap (flat_map known_block) (flat_map-cons input_link x xs)) (by x h.0 (inputs_in n xs h.1))
  where
    by : (x : List ℕ × Input) → HasIn n x → All (λ p. p.1 < n) (flat_map known_block (flat_map input_link xs)) → All (λ p. p.1 < n) (flat_map known_block (input_link x ++ flat_map input_link xs))
    by (name, input.Literal v) here rest = rest
    by (name, input.Reporter l) here rest = more n (In name) l (flat_map input_link xs) here rest
    by (name, input.Variable v) here rest = rest
    by (name, input.List v) here rest = rest
    by (name, input.Absent) here rest = rest

-- What is read

of_value : (ids : Ids) (name : List ℕ) (kind : Num) (at : List (List ℕ)) (ts : List Tree) (v : Input) → primitive_by kind at ts ≡ Ok v → HasIn (length ids) (name, v)
of_value ids name kind at ts v e = by (is_one_of (12 ∷ []) kind) (is_one_of (13 ∷ []) kind) (is_one_of (11 ∷ []) kind) e
  where
    by : (a b c : Bool)
        → (if a then name_and_id at ts >>= (λ n. Ok (input.Variable n))
        else (if b then name_and_id at ts >>= (λ n. Ok (input.List n))
        else (if c then message at ts else literal at ts))) ≡ Ok v
        → HasIn (length ids) (name, v)
    by true b c e =
        let r = bound (name_and_id at ts) (λ n. Ok (input.Variable n)) v e in
        subst (λ w. HasIn (length ids) (name, w)) (same_ok (input.Variable r.0) v r.2) tt
    by false true c e =
        let r = bound (name_and_id at ts) (λ n. Ok (input.List n)) v e in
        subst (λ w. HasIn (length ids) (name, w)) (same_ok (input.List r.0) v r.2) tt
    by false false true e =
        let r = bound (shape.required_item shape.text 1 at ts) (λ t. Ok (input.Literal (Text t))) v e in
        subst (λ w. HasIn (length ids) (name, w)) (same_ok (input.Literal (Text r.0)) v r.2) tt
    by false false false e =
        let r = bound (shape.required_item value 1 at ts) (λ w. Ok (input.Literal w)) v e in
        subst (λ w. HasIn (length ids) (name, w)) (same_ok (input.Literal r.0) v r.2) tt

of_primitive : (ids : Ids) (name : List ℕ) (at : List (List ℕ)) (r : Result (List Tree) (List ℕ)) (v : Input) → r >>= primitive at ≡ Ok v → HasIn (length ids) (name, v)
of_primitive ids name at r v e =
    let items = bound r (primitive at) v e in
    let kind = bound (tag (4 ∷ 5 ∷ 6 ∷ 7 ∷ 8 ∷ 9 ∷ 10 ∷ 11 ∷ 12 ∷ 13 ∷ []) at items.0) (λ k. primitive_by k at items.0) v items.2 in
    of_value ids name kind.0 at items.0 v kind.2

of_input_value : (ids : Ids) (name : List ℕ) (at : List (List ℕ)) (t : Tree) (v : Input) → input_value ids at t ≡ Ok v → HasIn (length ids) (name, v)
of_input_value ids name at null v e = subst (λ w. HasIn (length ids) (name, w)) (same_ok input.Absent v e) tt
of_input_value ids name at (text id) v e = subst (λ w. HasIn (length ids) (name, w)) (same_ok (input.Reporter (link_to ids id)) v e) (is_in ids id)
of_input_value ids name at (truth b) v e = of_primitive ids name at (shape.items at (truth b)) v e
of_input_value ids name at (number n) v e = of_primitive ids name at (shape.items at (number n)) v e
of_input_value ids name at (list ts) v e = of_primitive ids name at (shape.items at (list ts)) v e
of_input_value ids name at (object ms) v e = of_primitive ids name at (shape.items at (object ms)) v e

of_input : (ids : Ids) (at : List (List ℕ)) (m : List ℕ × Tree) (x : List ℕ × Input) → input_of ids at m ≡ Ok x → HasIn (length ids) x
of_input ids at (name, t) x e =
    let items = bound (items_from 2 (name ∷ at) t) _ x e in
    let kind = bound (tag (1 ∷ 2 ∷ 3 ∷ []) (name ∷ at) items.0) _ x items.2 in
    let held = bound (shape.required_item (input_value ids) 1 (name ∷ at) items.0) _ x kind.2 in
    let item = bound (shape.item 1 (name ∷ at) items.0) (input_value ids (decimal 1 ∷ name ∷ at)) held.0 held.1 in
    subst (HasIn (length ids)) (same_ok (name, held.0) x held.2) (of_input_value ids name (decimal 1 ∷ name ∷ at) item.0 held.0 item.2)

of_inputs : (ids : Ids) (at : List (List ℕ)) (ms : List (List ℕ × Tree)) (xs : List (List ℕ × Input)) → shape.each_member (input_of ids) at ms ≡ Ok xs → AllByRecursion (HasIn (length ids)) xs
of_inputs ids at [] xs e = subst (AllByRecursion (HasIn (length ids))) (same_ok [] xs e) tt
of_inputs ids at (m ∷ ms) xs e =
    let one = bound (input_of ids at m) _ xs e in
    let rest = bound (shape.each_member (input_of ids) at ms) _ xs one.2 in
    subst (AllByRecursion (HasIn (length ids))) (same_ok (one.0 ∷ rest.0) xs rest.2)
    (of_input ids at m one.0 one.1, of_inputs ids at ms rest.0 rest.1)

-- a block with this next and these inputs
parts : (n : ℕ) (b : Block) → All (λ p. p.1 < n) (flat_map known_block (next_link b.next)) → AllByRecursion (HasIn n) b.inputs → AreIn n b
parts n b next ins =
    All-same (λ p. p.1 < n) _ _ (flat_map-append known_block (next_link b.next) (flat_map input_link b.inputs))
    (All-append (λ p. p.1 < n) _ _ next (inputs_in n b.inputs ins))

of_object : (ids : Ids) (at : List (List ℕ)) (ms : List (List ℕ × Tree)) (b : Block) → block_object ids at ms ≡ Ok b → AreIn (length ids) b
of_object ids at ms b e =
    let opcode = bound (shape.required shape.text (codes "opcode") at ms) _ b e in
    let next = bound (shape.optional shape.text (codes "next") at ms) _ b opcode.2 in
    let ins = bound (shape.given shape.members [] (codes "inputs") at ms >>= shape.each_member (input_of ids) (codes "inputs" ∷ at)) _ b next.2 in
    let fields = bound (shape.given shape.members [] (codes "fields") at ms >>= shape.each_member field_of (codes "fields" ∷ at)) _ b ins.2 in
    let shadow = bound (shape.given shape.truth false (codes "shadow") at ms) _ b fields.2 in
    let top = bound (shape.given shape.truth false (codes "topLevel") at ms) _ b shadow.2 in
    let said = bound (shape.optional object_here (codes "mutation") at ms) _ b top.2 in
    let held = bound (shape.given shape.members [] (codes "inputs") at ms) (shape.each_member (input_of ids) (codes "inputs" ∷ at)) ins.0 ins.1 in
    let block : Block = record {
      code = code_named opcode.0;
      next = option_map (link_to ids) next.0;
      inputs = ins.0;
      fields = fields.0;
      shadow = shadow.0;
      top_level = top.0;
      mutation = mutation_by (code_named opcode.0) said.0;
    } in
    subst (AreIn (length ids)) (same_ok block b said.2)
    (parts (length ids) block (next_in ids next.0) (of_inputs ids (codes "inputs" ∷ at) held.0 ins.0 held.2))

of_list : (n : ℕ) (at : List (List ℕ)) (ts : List Tree) (b : Block) → block_list at ts ≡ Ok b → AreIn n b
of_list n at ts b e =
    let kind = bound (tag (12 ∷ 13 ∷ []) at ts) _ b e in
    let name = bound (name_and_id at ts) _ b kind.2 in
    subst (AreIn n) (same_ok _ b name.2) (by (is_one_of (12 ∷ []) kind.0) name.0)
  where
    by : (c : Bool) (name : VarName) → AreIn n (if c then reporter DataVariable (codes "VARIABLE") name else reporter DataListContents (codes "LIST") name)
    by true name = All-nil (λ p. p.1 < n)
    by false name = All-nil (λ p. p.1 < n)

of_block : (ids : Ids) (at : List (List ℕ)) (m : List ℕ × Tree) (b : Block) → block_of ids at m ≡ Ok b → AreIn (length ids) b
of_block ids at (id, null) b e = let r = bound (shape.members (id ∷ at) null) (block_object ids (id ∷ at)) b e in of_object ids (id ∷ at) r.0 b r.2
of_block ids at (id, truth t) b e = let r = bound (shape.members (id ∷ at) (truth t)) (block_object ids (id ∷ at)) b e in of_object ids (id ∷ at) r.0 b r.2
of_block ids at (id, number n) b e = let r = bound (shape.members (id ∷ at) (number n)) (block_object ids (id ∷ at)) b e in of_object ids (id ∷ at) r.0 b r.2
of_block ids at (id, text t) b e = let r = bound (shape.members (id ∷ at) (text t)) (block_object ids (id ∷ at)) b e in of_object ids (id ∷ at) r.0 b r.2
of_block ids at (id, object ms) b e = let r = bound (shape.members (id ∷ at) (object ms)) (block_object ids (id ∷ at)) b e in of_object ids (id ∷ at) r.0 b r.2
of_block ids at (id, list ts) b e = let r = bound (shape.items (id ∷ at) (list ts)) (block_list (id ∷ at)) b e in of_list (length ids) (id ∷ at) r.0 b r.2

-- each block of a table, and as many as there are members
pub of_blocks : (ids : Ids) (at : List (List ℕ)) (ms : List (List ℕ × Tree)) (bs : List Block) → shape.each_member (block_of ids) at ms ≡ Ok bs → AllByRecursion (AreIn (length ids)) bs
of_blocks ids at [] bs e = subst (AllByRecursion (AreIn (length ids))) (same_ok [] bs e) tt
of_blocks ids at (m ∷ ms) bs e =
    let one = bound (block_of ids at m) _ bs e in
    let rest = bound (shape.each_member (block_of ids) at ms) _ bs one.2 in
    subst (AllByRecursion (AreIn (length ids))) (same_ok (one.0 ∷ rest.0) bs rest.2)
    (of_block ids at m one.0 one.1, of_blocks ids at ms rest.0 rest.1)

pub length-blocks : (ids : Ids) (at : List (List ℕ)) (ms : List (List ℕ × Tree)) (bs : List Block) → shape.each_member (block_of ids) at ms ≡ Ok bs → length bs ≡ length ms
length-blocks ids at [] bs e = ap length (sym (same_ok [] bs e))
length-blocks ids at (m ∷ ms) bs e =
    let one = bound (block_of ids at m) _ bs e in
    let rest = bound (shape.each_member (block_of ids) at ms) _ bs one.2 in
    ap length (sym (same_ok (one.0 ∷ rest.0) bs rest.2)) ∙ ap suc (length-blocks ids at ms rest.0 rest.1)

-- so every link that names a block leads to one of the table
pub closed : (n : ℕ) (bs : List Block) → length bs ≡ n → AllByRecursion (AreIn n) bs → IsClosed bs
closed n bs same all i j l =
    let block = All-get_or (AreIn n) bs i l.block (slice_get_within bs i l.block l.held) (All-from_recursion (AreIn n) bs all) in
    let here = subst (AreIn n) (get_or_from_slice_get bs i l.block l.block l.held) block in
    subst (λ m. j < m) (sym same) (All-contains (λ p. p.1 < n) (leads_to l.block) (l.place, j) here l.link)
