-- What a file tells has no more parts than its document.
use Rattle.std.proofs.Common.{◌∙◌, ◌≡◌, ℕ, zero, suc, ◌+◌, ◌<◌, ◌≤◌, Bool, true, false, cond, List, [], ◌∷◌, length, map, sum_by, Result, Ok, Err, Option, None, Some, codes, refl, ap, subst, arith}
use Rattle.std.specs.Prelude.{slice_get, bytes_eq}
use Rattle.std.specs.Fmt.{decimal}
use Rattle.std.proofs.lemmas.List.{length-map}
use Rattle.std.proofs.lemmas.List.Sums.{sum_by-cons}
use Rattle.std.proofs.lemmas.Slice.Eq.{bytes_eq-Decides}
use Rattle.project_json.specs.Tree.{Tree, null, truth, number, text, list, object, Trees, no_trees, tree_and, Fields, no_fields, field_and, trees_of, fields_of, tree_list, field_list}
use Rattle.project_json.specs.Parts.{value_named, member_of, is_null}
use Rattle.project_json.specs.Size.{size_of, items_size, members_size}
use Rattle.json_shapes.specs.Shapes as shape
use Rattle.json_shapes.specs.Shapes.{Reader, ◌>>=◌}
use Rattle.machine_spec.specs.declared.records.TargetRecord.{TargetRecord}
use Rattle.scratch_values.specs.Casts.{zero_number}
use Rattle.project_spec.specs.Values.{num}
use Rattle.project_spec.specs.Targets.{variable_of, list_of, costume_of, not_empty, costumes_of, hundred, look_of, style_of, target_members, target_of, monitor_of}
use Rattle.project_spec.specs.declared.blocks.Block.{Block}
use Rattle.machine_spec.specs.declared.instance.Style.TheVariants.{AllAround}
use Rattle.opcode_table.specs.declared.opcode.Opcode.TheVariants.{DataVariable, DataListContents}
use Rattle.project_spec.specs.Blocks.{Ids, reporter, tag, name_and_id, is_one_of, input_of, field_of, object_here, block_object, block_list, block_at, block_of, blocks_of}
use Rattle.project_spec.specs.Reading.{Table, File, blocks_in, table_in, file_by, file_of}

-- What was read

-- what holds of a thing that was read
record Gives {A : Type 0} (x : Result A (List ℕ)) (P : A → Type 0) : Type 0 where
  at : (a : A) → x ≡ Ok a → P a

given : {A : Type 0} {P : A → Type 0} (a : A) → P a → Gives (Ok a) P
given {P = P} a h = record { at = λ b e. let same : a ≡ b = cc in subst P same h }

-- a first step, and what it gave
keep : {A B : Type 0} {P : B → Type 0} (x : Result A (List ℕ)) (f : A → Result B (List ℕ)) → ((a : A) → x ≡ Ok a → Gives (f a) P) → Gives (x >>= f) P
keep (Ok a) f g = g a refl
keep (Err q) f g = record { at = λ b e. cc }

-- a first step that may have given anything
skip : {A B : Type 0} {P : B → Type 0} (x : Result A (List ℕ)) (f : A → Result B (List ℕ)) → ((a : A) → Gives (f a) P) → Gives (x >>= f) P
skip x f g = keep x f (λ a e. g a)

-- a last step, where every step gives it
last : {A B : Type 0} {P : B → Type 0} (x : Result A (List ℕ)) (f : A → Result B (List ℕ)) → ((a : A) → x ≡ Ok a → (b : B) → f a ≡ Ok b → P b) → Gives (x >>= f) P
last x f g = keep x f (λ a e. record { at = g a e })

-- How much is held

-- the members, with what they hold
abbrev held : List (List ℕ × Tree) → ℕ
held ms = members_size (fields_of ms)

-- the items, with what they hold
abbrev items_held : List Tree → ℕ
items_held ts = items_size (trees_of ts)

-- what a value that was found holds
abbrev size_found : Option Tree → ℕ
size_found None = 0
size_found (Some t) = size_of t

-- what the member with the name holds
abbrev size_named : List ℕ → List (List ℕ × Tree) → ℕ
size_named name ms = size_found (value_named name ms)

length-held : (ms : List (List ℕ × Tree)) → length ms ≤ held ms
length-held [] = omega arith
length-held (m ∷ ms) = omega (arith, length-held ms)

length-items_held : (ts : List Tree) → length ts ≤ items_held ts
length-items_held [] = omega arith
length-items_held (t ∷ ts) = omega (arith, length-items_held ts)

held-field_list : (fs : Fields) → held (field_list fs) ≡ members_size fs
held-field_list no_fields = refl
held-field_list (field_and name t fs) = ap (λ n. 1 + size_of t + n) (held-field_list fs)

items_held-tree_list : (ts : Trees) → items_held (tree_list ts) ≡ items_size ts
items_held-tree_list no_trees = refl
items_held-tree_list (tree_and t ts) = ap (λ n. 1 + size_of t + n) (items_held-tree_list ts)

-- what the member of an object with the name holds
abbrev size_in : List ℕ → Tree → ℕ
size_in name t = size_found (member_of t name)

-- an object holds its members
members-held : (at : List (List ℕ)) (t : Tree) → Gives (shape.members at t) (λ ms. (held ms ≡ size_of t) × ((name : List ℕ) → size_named name ms ≡ size_in name t))
members-held at null = record { at = λ ms e. cc }
members-held at (truth b) = record { at = λ ms e. cc }
members-held at (number n) = record { at = λ ms e. cc }
members-held at (text s) = record { at = λ ms e. cc }
members-held at (list ts) = record { at = λ ms e. cc }
members-held at (object fs) = given (field_list fs) (held-field_list fs, λ name. refl)

-- a list holds its items
items-held : (at : List (List ℕ)) (t : Tree) → Gives (shape.items at t) (λ ts. items_held ts ≡ size_of t)
items-held at null = record { at = λ ts e. cc }
items-held at (truth b) = record { at = λ ts e. cc }
items-held at (number n) = record { at = λ ts e. cc }
items-held at (text s) = record { at = λ ts e. cc }
items-held at (list ts) = given (tree_list ts) (items_held-tree_list ts)
items-held at (object fs) = record { at = λ ts e. cc }

-- an item that was found is one that is held
item-held : (ts : List Tree) (i : ℕ) (t : Tree) → slice_get ts i ≡ Some t → 1 + size_of t ≤ items_held ts
item-held [] i t e = cc
item-held (u ∷ ts) zero t e = let same : u ≡ t = cc in omega (arith, ap size_of same)
item-held (u ∷ ts) (suc i) t e = omega (arith, item-held ts i t e)

-- Members by their names

unlike : (n a b : List ℕ) → bytes_eq a b ≡ false → bytes_eq n a ≡ true → bytes_eq n b ≡ true → ⊥
unlike n a b e p q =
    let same : n ≡ a = (bytes_eq-Decides n a).0 p in
    let other : bytes_eq a b ≡ true = subst (λ m. bytes_eq m b ≡ true) same q in cc

one_of_three : (p q r : Bool) (t : Tree) (a b c : Option Tree) (n : ℕ) → (p ≡ true → q ≡ true → ⊥) → (p ≡ true → r ≡ true → ⊥) → (q ≡ true → r ≡ true → ⊥) → size_found a + size_found b + size_found c ≤ n → size_found (cond p (Some t) a) + size_found (cond q (Some t) b) + size_found (cond r (Some t) c) ≤ 1 + size_of t + n
one_of_three true true r t a b c n pq pr qr h = absurd (pq refl refl)
one_of_three true false true t a b c n pq pr qr h = absurd (pr refl refl)
one_of_three true false false t a b c n pq pr qr h = omega (arith, h)
one_of_three false true true t a b c n pq pr qr h = absurd (qr refl refl)
one_of_three false true false t a b c n pq pr qr h = omega (arith, h)
one_of_three false false true t a b c n pq pr qr h = omega (arith, h)
one_of_three false false false t a b c n pq pr qr h = omega (arith, h)

-- members with three names are three members
three-held : (a b c : List ℕ) → bytes_eq a b ≡ false → bytes_eq a c ≡ false → bytes_eq b c ≡ false → (ms : List (List ℕ × Tree)) → size_named a ms + size_named b ms + size_named c ms ≤ held ms
three-held a b c ab ac bc [] = omega arith
three-held a b c ab ac bc (m ∷ ms) =
    one_of_three (bytes_eq m.0 a) (bytes_eq m.0 b) (bytes_eq m.0 c) m.1 (value_named a ms) (value_named b ms) (value_named c ms) (held ms)
    (unlike m.0 a b ab) (unlike m.0 a c ac) (unlike m.0 b c bc) (three-held a b c ab ac bc ms)

is_found : {A : Type 0} (at : List (List ℕ)) (o : Option A) (a : A) → shape.found at o ≡ Ok a → o ≡ Some a
is_found at None a e = cc
is_found at (Some b) a e = cc

-- what is read of a member is no more than the member
required-within : {A : Type 0} (read : Reader Tree A) (f : A → ℕ) → ((at : List (List ℕ)) (t : Tree) → Gives (read at t) (λ a. f a ≤ size_of t)) → (name : List ℕ) (at : List (List ℕ)) (ms : List (List ℕ × Tree)) → Gives (shape.required read name at ms) (λ a. f a ≤ size_named name ms)
required-within read f small name at ms =
    last (shape.named name at ms) (read (name ∷ at)) (λ t e a e'.
    omega (arith, ap size_found (is_found (name ∷ at) (value_named name ms) t e), (small (name ∷ at) t).at a e'))

members-within : (at : List (List ℕ)) (t : Tree) → Gives (shape.members at t) (λ ms. held ms ≤ size_of t)
members-within at t = record { at = λ ms e. omega (arith, ((members-held at t).at ms e).0) }

items-within : (at : List (List ℕ)) (t : Tree) → Gives (shape.items at t) (λ ts. items_held ts ≤ size_of t)
items-within at t = record { at = λ ts e. omega (arith, (items-held at t).at ts e) }

absent_or-within : (at : List (List ℕ)) (o : Option Tree) → Gives (shape.absent_or [] shape.members at o) (λ xs. held xs ≤ size_found o)
absent_or-within at None = given [] (omega arith)
absent_or-within at (Some t) = members-within at t

present-le : (o : Option Tree) → size_found (shape.present o) ≤ size_found o
present-le None = omega arith
present-le (Some t) = by (is_null t)
  where
    by : (b : Bool) → size_found (cond b None (Some t)) ≤ size_of t
    by true = omega arith
    by false = omega arith

defaulted-within : (name : List ℕ) (at : List (List ℕ)) (ms : List (List ℕ × Tree)) → Gives (shape.defaulted shape.members [] name at ms) (λ xs. held xs ≤ size_named name ms)
defaulted-within name at ms = record { at = λ xs e. omega (arith, (absent_or-within (name ∷ at) (shape.present (value_named name ms))).at xs e, present-le (value_named name ms)) }

given-within : (name : List ℕ) (at : List (List ℕ)) (ms : List (List ℕ × Tree)) → Gives (shape.given shape.members [] name at ms) (λ xs. held xs ≤ size_named name ms)
given-within name at ms = absent_or-within (name ∷ at) (value_named name ms)

-- Parts that have one shape

each_member-within : {A : Type 0} (read : Reader (List ℕ × Tree) A) (f : A → ℕ) (at : List (List ℕ)) → ((m : List ℕ × Tree) → Gives (read at m) (λ a. f a ≤ size_of m.1)) → (ms : List (List ℕ × Tree)) → Gives (shape.each_member read at ms) (λ all. length all + sum_by f all ≤ held ms)
each_member-within read f at small [] = given [] (omega arith)
each_member-within read f at small (m ∷ ms) =
    keep (read at m) _ (λ a e.
    keep (shape.each_member read at ms) _ (λ more e'.
    given (a ∷ more) (omega (arith, sum_by-cons f a more, (small m).at a e, (each_member-within read f at small ms).at more e'))))

each_from-within : {A : Type 0} (read : Reader Tree A) (f : A → ℕ) → ((at : List (List ℕ)) (t : Tree) → Gives (read at t) (λ a. f a ≤ size_of t)) → (i : ℕ) (at : List (List ℕ)) (ts : List Tree) → Gives (shape.each_from i read at ts) (λ all. length all + sum_by f all ≤ items_held ts)
each_from-within read f small i at [] = given [] (omega arith)
each_from-within read f small i at (t ∷ ts) =
    keep (read (decimal i ∷ at) t) _ (λ a e.
    keep (shape.each_from (i + 1) read at ts) _ (λ more e'.
    given (a ∷ more) (omega (arith, sum_by-cons f a more, (small (decimal i ∷ at) t).at a e, (each_from-within read f small (i + 1) at ts).at more e'))))

each_from-length : {A : Type 0} (read : Reader Tree A) (i : ℕ) (at : List (List ℕ)) (ts : List Tree) → Gives (shape.each_from i read at ts) (λ all. length all ≡ length ts)
each_from-length read i at [] = given [] refl
each_from-length read i at (t ∷ ts) =
    skip (read (decimal i ∷ at) t) _ (λ a.
    keep (shape.each_from (i + 1) read at ts) _ (λ more e.
    given (a ∷ more) (ap suc ((each_from-length read (i + 1) at ts).at more e))))

-- the item that a thing was read of
record IsReadOf {A : Type 0} (read : Reader Tree A) (ts : List Tree) (k : ℕ) (a : A) : Type 0 where
  place : List (List ℕ)
  item : Tree
  found : slice_get ts k ≡ Some item
  read_here : read place item ≡ Ok a

each_from-found : {A : Type 0} (read : Reader Tree A) (i : ℕ) (at : List (List ℕ)) (ts : List Tree) (k : ℕ) (a : A) → Gives (shape.each_from i read at ts) (λ all. slice_get all k ≡ Some a → IsReadOf read ts k a)
each_from-found read i at [] k a = given [] (λ e. cc)
each_from-found read i at (t ∷ ts) zero a =
    keep (read (decimal i ∷ at) t) _ (λ b e.
    skip (shape.each_from (i + 1) read at ts) _ (λ more.
    given (b ∷ more) (λ h. record { place = decimal i ∷ at; item = t; found = refl; read_here = cc })))
each_from-found read i at (t ∷ ts) (suc k) a =
    skip (read (decimal i ∷ at) t) _ (λ b.
    keep (shape.each_from (i + 1) read at ts) _ (λ more e.
    given (b ∷ more) (λ h.
    let r = (each_from-found read (i + 1) at ts k a).at more e h in
    record { place = r.place; item = r.item; found = r.found; read_here = r.read_here })))

-- parts of a member with a name are no more than it holds
parts-within : {A : Type 0} (x : Result (List (List ℕ × Tree)) (List ℕ)) (n : ℕ) → Gives x (λ xs. held xs ≤ n) → (read : Reader (List ℕ × Tree) A) (at : List (List ℕ)) → Gives (x >>= shape.each_member read at) (λ all. length all ≤ n)
parts-within x n small read at =
    last x (shape.each_member read at) (λ xs e all e'.
    omega (arith, small.at xs e, (each_member-within read (λ a. 0) at (λ m. record { at = λ a h. omega arith }) xs).at all e'))

-- Targets

target_members-room : (at : List (List ℕ)) (ms : List (List ℕ × Tree)) → Gives (target_members at ms) (λ r. length r.variables + length r.lists ≤ size_named (codes "variables") ms + size_named (codes "lists") ms)
target_members-room at ms =
    let variables_read = shape.defaulted shape.members [] (codes "variables") at ms in
    let lists_read = shape.defaulted shape.members [] (codes "lists") at ms in
    skip (shape.required shape.truth (codes "isStage") at ms) _ (λ is_stage.
    skip (shape.required shape.text (codes "name") at ms) _ (λ name.
    keep (variables_read >>= shape.each_member variable_of (codes "variables" ∷ at)) _ (λ variables v.
    keep (lists_read >>= shape.each_member list_of (codes "lists" ∷ at)) _ (λ lists l.
    skip (shape.required costumes_of (codes "costumes") at ms) _ (λ costumes.
    skip (shape.defaulted num zero_number (codes "currentCostume") at ms) _ (λ costume.
    skip (shape.defaulted num zero_number (codes "layerOrder") at ms) _ (λ layer_order.
    skip (shape.defaulted num hundred (codes "volume") at ms) _ (λ volume.
    skip (look_of at ms) _ (λ look.
    skip (shape.defaulted style_of AllAround (codes "rotationStyle") at ms) _ (λ style.
    given _ (omega (
      arith,
      (parts-within variables_read (size_named (codes "variables") ms) (defaulted-within (codes "variables") at ms) variable_of (codes "variables" ∷ at)).at variables v,
      (parts-within lists_read (size_named (codes "lists") ms) (defaulted-within (codes "lists") at ms) list_of (codes "lists" ∷ at)).at lists l,
    ))))))))))))

target-room : (at : List (List ℕ)) (t : Tree) → Gives (target_of at t) (λ r. length r.variables + length r.lists ≤ size_in (codes "variables") t + size_in (codes "lists") t)
target-room at t =
    last (shape.members at t) (target_members at) (λ ms e r h.
    let same = ((members-held at t).at ms e).1 in
    omega (arith, same (codes "variables"), same (codes "lists"), (target_members-room at ms).at r h))

-- Costumes

not_empty-few : (at : List (List ℕ)) (ts : List Tree) → Gives (not_empty at ts) (λ us. (0 < length us) × (length us ≤ items_held ts))
not_empty-few at [] = record { at = λ us e. cc }
not_empty-few at (t ∷ ts) = given (t ∷ ts) (omega arith, length-items_held (t ∷ ts))

some_items-few : (at : List (List ℕ)) (t : Tree) → Gives (shape.items at t >>= not_empty at) (λ us. (0 < length us) × (length us ≤ size_of t))
some_items-few at t =
    last (shape.items at t) (not_empty at) (λ ts e us h.
    let some = (not_empty-few at ts).at us h in
    (some.0, omega (arith, some.1, (items-held at t).at ts e)))

costumes-few : (at : List (List ℕ)) (t : Tree) → Gives (costumes_of at t) (λ names. (0 < length names) × (length names ≤ size_of t))
costumes-few at t =
    last (shape.items at t >>= not_empty at) (shape.each costume_of at) (λ us e names h.
    let some = (some_items-few at t).at us e in
    let same = (each_from-length costume_of 0 at us).at names h in
    (omega (arith, some.0, same), omega (arith, some.1, same)))

required_costumes-few : (at : List (List ℕ)) (ms : List (List ℕ × Tree)) → Gives (shape.required costumes_of (codes "costumes") at ms) (λ names. (0 < length names) × (length names ≤ size_named (codes "costumes") ms))
required_costumes-few at ms =
    let name = codes "costumes" in
    last (shape.named name at ms) (costumes_of (name ∷ at)) (λ t e names h.
    let some = (costumes-few (name ∷ at) t).at names h in
    (some.0, omega (arith, some.1, ap size_found (is_found (name ∷ at) (value_named name ms) t e))))

target_members-costumes : (at : List (List ℕ)) (ms : List (List ℕ × Tree)) → Gives (target_members at ms) (λ r. (0 < length r.costumes) × (length r.costumes ≤ size_named (codes "costumes") ms))
target_members-costumes at ms =
    skip (shape.required shape.truth (codes "isStage") at ms) _ (λ is_stage.
    skip (shape.required shape.text (codes "name") at ms) _ (λ name.
    skip (shape.defaulted shape.members [] (codes "variables") at ms >>= shape.each_member variable_of (codes "variables" ∷ at)) _ (λ variables.
    skip (shape.defaulted shape.members [] (codes "lists") at ms >>= shape.each_member list_of (codes "lists" ∷ at)) _ (λ lists.
    keep (shape.required costumes_of (codes "costumes") at ms) _ (λ costumes e.
    skip (shape.defaulted num zero_number (codes "currentCostume") at ms) _ (λ costume.
    skip (shape.defaulted num zero_number (codes "layerOrder") at ms) _ (λ layer_order.
    skip (shape.defaulted num hundred (codes "volume") at ms) _ (λ volume.
    skip (look_of at ms) _ (λ look.
    skip (shape.defaulted style_of AllAround (codes "rotationStyle") at ms) _ (λ style.
    given _ ((required_costumes-few at ms).at costumes e)))))))))))

target-costumes : (at : List (List ℕ)) (t : Tree) → Gives (target_of at t) (λ r. (0 < length r.costumes) × (length r.costumes ≤ size_of t))
target-costumes at t =
    last (shape.members at t) (target_members at) (λ ms e r h.
    let some = (target_members-costumes at ms).at r h in
    (some.0, omega (arith, some.1, three-held (codes "costumes") (codes "variables") (codes "lists") refl refl refl ms, ((members-held at t).at ms e).0)))

-- Blocks

-- the fields and the inputs of a block
abbrev used : Block → ℕ
used b = length b.fields + length b.inputs

block_object-room : (ids : Ids) (at : List (List ℕ)) (ms : List (List ℕ × Tree)) → Gives (block_object ids at ms) (λ b. used b ≤ held ms)
block_object-room ids at ms =
    let inputs_read = shape.given shape.members [] (codes "inputs") at ms in
    let fields_read = shape.given shape.members [] (codes "fields") at ms in
    skip (shape.required shape.text (codes "opcode") at ms) _ (λ opcode.
    skip (shape.optional shape.text (codes "next") at ms) _ (λ next.
    keep (inputs_read >>= shape.each_member (input_of ids) (codes "inputs" ∷ at)) _ (λ inputs i.
    keep (fields_read >>= shape.each_member field_of (codes "fields" ∷ at)) _ (λ fields f.
    skip (shape.given shape.truth false (codes "shadow") at ms) _ (λ shadow.
    skip (shape.given shape.truth false (codes "topLevel") at ms) _ (λ top_level.
    skip (shape.optional object_here (codes "mutation") at ms) _ (λ said.
    given _ (omega (
      arith,
      (parts-within inputs_read (size_named (codes "inputs") ms) (given-within (codes "inputs") at ms) (input_of ids) (codes "inputs" ∷ at)).at inputs i,
      (parts-within fields_read (size_named (codes "fields") ms) (given-within (codes "fields") at ms) field_of (codes "fields" ∷ at)).at fields f,
      three-held (codes "inputs") (codes "fields") (codes "opcode") refl refl refl ms,
    )))))))))

one_item : {A : Type 0} (read : Reader Tree A) (i : ℕ) (at : List (List ℕ)) (ts : List Tree) → Gives (shape.required_item read i at ts) (λ a. 1 ≤ items_held ts)
one_item read i at ts =
    keep (shape.item i at ts) (read (decimal i ∷ at)) (λ t e.
    record { at = λ a h. omega (arith, item-held ts i t (is_found (decimal i ∷ at) (slice_get ts i) t e)) })

one_field : (p : Bool) (x y : Block) → used x ≡ 1 → used y ≡ 1 → used (cond p x y) ≡ 1
one_field true x y e f = e
one_field false x y e f = f

tag-held : (ks : List ℕ) (at : List (List ℕ)) (ts : List Tree) → Gives (tag ks at ts) (λ kind. 1 ≤ items_held ts)
tag-held ks at ts = keep (shape.required_item num 0 at ts) _ (λ n e. record { at = λ kind h. (one_item num 0 at ts).at n e })

block_list-room : (at : List (List ℕ)) (ts : List Tree) → Gives (block_list at ts) (λ b. used b ≤ items_held ts)
block_list-room at ts =
    keep (tag (12 ∷ 13 ∷ []) at ts) _ (λ kind e.
    skip (name_and_id at ts) _ (λ name.
    given _ (omega (
      arith,
      one_field (is_one_of (12 ∷ []) kind) (reporter DataVariable (codes "VARIABLE") name) (reporter DataListContents (codes "LIST") name) refl refl,
      (tag-held (12 ∷ 13 ∷ []) at ts).at kind e,
    ))))

members_block-room : (ids : Ids) (at : List (List ℕ)) (t : Tree) → Gives (shape.members at t >>= block_object ids at) (λ b. used b ≤ size_of t)
members_block-room ids at t =
    last (shape.members at t) (block_object ids at) (λ ms e b h.
    omega (arith, (members-within at t).at ms e, (block_object-room ids at ms).at b h))

block-room : (ids : Ids) (at : List (List ℕ)) (t : Tree) → Gives (block_at ids at t) (λ b. used b ≤ size_of t)
block-room ids at null = members_block-room ids at null
block-room ids at (truth b) = members_block-room ids at (truth b)
block-room ids at (number n) = members_block-room ids at (number n)
block-room ids at (text s) = members_block-room ids at (text s)
block-room ids at (list ts) =
    last (shape.items at (list ts)) (block_list at) (λ us e b h.
    omega (arith, (items-within at (list ts)).at us e, (block_list-room at us).at b h))
block-room ids at (object fs) = members_block-room ids at (object fs)

-- what the blocks of a target take
abbrev taken : Table → ℕ
taken x = length x.blocks + sum_by used x.blocks

blocks_read : (at : List (List ℕ)) (t : Tree) → Gives (shape.members at t >>= shape.required shape.members (codes "blocks") at) (λ ms. held ms ≤ size_in (codes "blocks") t)
blocks_read at t =
    last (shape.members at t) (shape.required shape.members (codes "blocks") at) (λ all e ms h.
    omega (arith, ((members-held at t).at all e).1 (codes "blocks"), (required-within shape.members held members-within (codes "blocks") at all).at ms h))

blocks-room : (ids : Ids) (at : List (List ℕ)) (ms : List (List ℕ × Tree)) → Gives (shape.each_member (block_of ids) at ms) (λ blocks. length blocks + sum_by used blocks ≤ held ms)
blocks-room ids at ms = each_member-within (block_of ids) used at (λ m. block-room ids (m.0 ∷ at) m.1) ms

table-room : (at : List (List ℕ)) (t : Tree) → Gives (table_in at t) (λ x. taken x ≤ size_in (codes "blocks") t)
table-room at t =
    keep (shape.members at t >>= shape.required shape.members (codes "blocks") at) _ (λ ms e.
    keep (blocks_of (codes "blocks" ∷ at) ms) _ (λ blocks h.
    given _ (omega (arith, (blocks_read at t).at ms e, (blocks-room (map (λ m. m.0) ms) (codes "blocks" ∷ at) ms).at blocks h))))

-- members of a tree with three names
three-in : (a b c : List ℕ) → bytes_eq a b ≡ false → bytes_eq a c ≡ false → bytes_eq b c ≡ false → (t : Tree) → size_in a t + size_in b t + size_in c t ≤ size_of t
three-in a b c ab ac bc null = omega arith
three-in a b c ab ac bc (truth v) = omega arith
three-in a b c ab ac bc (number n) = omega arith
three-in a b c ab ac bc (text s) = omega arith
three-in a b c ab ac bc (list ts) = omega arith
three-in a b c ab ac bc (object fs) = omega (arith, three-held a b c ab ac bc (field_list fs), held-field_list fs)

-- what a target and its blocks take together
target_parts-room : (t : Tree) → size_in (codes "variables") t + size_in (codes "lists") t + size_in (codes "blocks") t ≤ size_of t
target_parts-room t = three-in (codes "variables") (codes "lists") (codes "blocks") refl refl refl t

table-within : (at : List (List ℕ)) (t : Tree) → Gives (table_in at t) (λ x. taken x ≤ size_of t)
table-within at t = record { at = λ x e. omega (arith, (table-room at t).at x e, target_parts-room t) }

-- Files

-- what a file was read of
record FileParts (t : Tree) (f : File) : Type 0 where
  items : List Tree
  small : items_held items ≤ size_of t
  targets : shape.each target_of (codes "targets" ∷ []) items ≡ Ok f.records.targets
  tables : shape.each table_in (codes "targets" ∷ []) items ≡ Ok f.tables

file_by-parts : (t : Tree) (ts : List Tree) (ms : List (List ℕ × Tree)) → items_held ts ≤ size_of t → Gives (file_by ts [] ms) (FileParts t)
file_by-parts t ts ms small =
    keep (shape.each target_of (codes "targets" ∷ []) ts) _ (λ targets a.
    skip (shape.defaulted shape.items [] (codes "monitors") [] ms >>= shape.each monitor_of (codes "monitors" ∷ [])) _ (λ monitors.
    keep (shape.each table_in (codes "targets" ∷ []) ts) _ (λ tables b.
    given _ (record { items = ts; small = small; targets = a; tables = b }))))

targets-held : (t : Tree) (ms : List (List ℕ × Tree)) → held ms ≡ size_of t → Gives (shape.required shape.items (codes "targets") [] ms) (λ ts. items_held ts ≤ size_of t)
targets-held t ms e = record { at = λ ts h. omega (arith, (required-within shape.items items_held items-within (codes "targets") [] ms).at ts h, three-held (codes "targets") (codes "monitors") (codes "meta") refl refl refl ms) }

file-parts : (t : Tree) → Gives (file_of t) (FileParts t)
file-parts t =
    keep (shape.members [] t) _ (λ ms e.
    keep (shape.required shape.items (codes "targets") [] ms) _ (λ ts h.
    file_by-parts t ts ms ((targets-held t ms ((members-held [] t).at ms e).0).at ts h)))

-- a thing that was found in a map is of one that is found
found_in_map : {A B : Type 0} (g : A → B) (xs : List A) (i : ℕ) (b : B) → slice_get (map g xs) i ≡ Some b → (a : A) × (slice_get xs i ≡ Some a) × (g a ≡ b)
found_in_map g [] i b e = cc
found_in_map g (x ∷ xs) zero b e = (x, refl, cc)
found_in_map g (x ∷ xs) (suc i) b e = found_in_map g xs i b e

pub sum_by-map : {A B : Type 0} (f : B → ℕ) (g : A → B) (xs : List A) → sum_by f (map g xs) ≡ sum_by (λ x. f (g x)) xs
sum_by-map f g [] = refl
sum_by-map f g (x ∷ xs) = omega (arith, sum_by-cons f (g x) (map g xs), sum_by-cons (λ y. f (g y)) x xs, sum_by-map f g xs)

-- each target has its blocks
pub as_many : (t : Tree) (f : File) → file_of t ≡ Ok f → length (blocks_in f) ≡ length f.records.targets
as_many t f h =
    let p = (file-parts t).at f h in
    rw length-map (omega (
      arith,
      (each_from-length target_of 0 (codes "targets" ∷ []) p.items).at f.records.targets p.targets,
      (each_from-length table_in 0 (codes "targets" ∷ []) p.items).at f.tables p.tables,
    ))

-- there are no more targets than the document has members and items
pub few_targets : (t : Tree) (f : File) → file_of t ≡ Ok f → length f.records.targets ≤ size_of t
few_targets t f h =
    let p = (file-parts t).at f h in
    omega (arith, p.small, length-items_held p.items, (each_from-length target_of 0 (codes "targets" ∷ []) p.items).at f.records.targets p.targets)

-- a target has a costume, and no more than the document has members and items
pub few_costumes : (t : Tree) (f : File) → file_of t ≡ Ok f → (i : ℕ) (r : TargetRecord) → slice_get f.records.targets i ≡ Some r → (0 < length r.costumes) × (length r.costumes ≤ size_of t)
few_costumes t f h i r at_target =
    let p = (file-parts t).at f h in
    let a = (each_from-found target_of 0 (codes "targets" ∷ []) p.items i r).at f.records.targets p.targets at_target in
    let some = (target-costumes a.place a.item).at r a.read_here in
    (some.0, omega (arith, some.1, p.small, item-held p.items i a.item a.found))

-- there are no more blocks in all than the document has members and items
pub few_blocks : (t : Tree) (f : File) → file_of t ≡ Ok f → sum_by length (blocks_in f) ≤ size_of t
few_blocks t f h =
    let p = (file-parts t).at f h in
    omega (
      arith,
      p.small,
      sum_by-map length (λ (x : Table). x.blocks) f.tables,
      (each_from-within table_in (λ x. length x.blocks) (λ at u. record { at = λ x e. omega (arith, (table-within at u).at x e) }) 0 (codes "targets" ∷ []) p.items).at f.tables p.tables,
    )

-- a target's variables and lists, and the fields and inputs of its blocks, are no more than the document has members and items
pub room : (t : Tree) (f : File) → file_of t ≡ Ok f → (i : ℕ) (r : TargetRecord) (bs : List Block)
    → slice_get f.records.targets i ≡ Some r → slice_get (blocks_in f) i ≡ Some bs
    → (length r.variables + length r.lists) + sum_by (λ b. length b.fields + length b.inputs) bs ≤ size_of t
room t f h i r bs at_target at_blocks =
    let p = (file-parts t).at f h in
    let table = found_in_map (λ (x : Table). x.blocks) f.tables i bs at_blocks in
    let a = (each_from-found target_of 0 (codes "targets" ∷ []) p.items i r).at f.records.targets p.targets at_target in
    let b = (each_from-found table_in 0 (codes "targets" ∷ []) p.items i table.0).at f.tables p.tables table.1 in
    let one : b.item ≡ a.item = let x = a.found in let y = b.found in cc (x, y) in
    omega (
      arith,
      p.small,
      item-held p.items i a.item a.found,
      (target-room a.place a.item).at r a.read_here,
      (table-room b.place b.item).at table.0 b.read_here,
      ap (size_in (codes "blocks")) one,
      ap (sum_by used) table.2,
      target_parts-room a.item,
    )

-- the `blocks` of a target have no more members than the target holds
pub few_members : (at : List (List ℕ)) (t : Tree) (ms blocks : List (List ℕ × Tree)) → shape.members at t ≡ Ok ms → shape.required shape.members (codes "blocks") at ms ≡ Ok blocks → length blocks ≤ size_of t
few_members at t ms blocks h k =
    let e : (shape.members at t >>= shape.required shape.members (codes "blocks") at) ≡ Ok blocks = ap (λ x. x >>= shape.required shape.members (codes "blocks") at) h ∙ k in
    omega (arith, (blocks_read at t).at blocks e, length-held blocks, target_parts-room t)
