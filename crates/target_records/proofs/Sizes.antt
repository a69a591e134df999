-- How much a document has to hold for what is read of it.
use Rattle.std.proofs.Common.{◌≡◌, ℕ, zero, suc, ◌+◌, ◌<◌, ◌≤◌, ◌^◌, Bool, true, false, cond, List, [], ◌∷◌, ◌++◌, length, drop, get_or, drop-cons, add-one, append_assoc, map, Option, Some, None, Result, Ok, Err, refl, ap, ◌∙◌, sym, arith}
use Rattle.std.specs.Str.{bytes_eq}
use Rattle.std.specs.Fmt.{decimal}
use Rattle.std.specs.Prelude.{IfOk}
use Rattle.json_shapes.specs.declared.fault.Fault.{Fault}
use Rattle.json_shapes.specs.Reads.{Reads}
use Rattle.json_shapes.specs.Each.{after}
use Rattle.project_spec.specs.Targets.{costume_of, costumes_of, not_empty}
use Rattle.project_json.specs.Tree.{Tree, null, truth, number, text, list, object, Trees, no_trees, tree_and, Fields, no_fields, field_and, trees_of, fields_of, tree_list, field_list}
use Rattle.project_json.specs.Parts.{value_named, members_in, items_in, is_null}
use Rattle.project_json.specs.Size.{size_of, items_size, members_size}
use Rattle.json_shapes.specs.Shapes.{Reader, ◌>>=◌, found, named, required, absent_or, present, defaulted, members, items, each_from, each_member}

some-same : {A : Type 0} (a b : A) → Some a ≡ Some b → a ≡ b
some-same a b h = cc

ok-same : {A : Type 0} (r : Result A (List ℕ)) (a b : A) → r ≡ Ok a → r ≡ Ok b → a ≡ b
ok-same r a b e h = cc (e, h)

-- what a chain that goes on has bound
pub record Bound {A B : Type 0} (o : Result A (List ℕ)) (next : A → Result B (List ℕ)) (b : B) : Type 0 where
  pub value : A
  pub first : o ≡ Ok value
  pub second : next value ≡ Ok b

pub bound : {A B : Type 0} (o : Result A (List ℕ)) (next : A → Result B (List ℕ)) (b : B) → (o >>= next) ≡ Ok b → Bound o next b
bound (Ok a) next b h = record { value = a; first = refl; second = h }
bound (Err fault) next b h = cc

found-is : {A : Type 0} (at : List (List ℕ)) (o : Option A) (a : A) → found at o ≡ Ok a → o ≡ Some a
found-is at None a h = cc
found-is at (Some b) a h = ap Some (ok-same (Ok b) b a refl h)

fields_of-list : (fs : Fields) → fields_of (field_list fs) ≡ fs
fields_of-list no_fields = refl
fields_of-list (field_and name t fs) = ap (field_and name t) (fields_of-list fs)

trees_of-list : (ts : Trees) → trees_of (tree_list ts) ≡ ts
trees_of-list no_trees = refl
trees_of-list (tree_and t ts) = ap (tree_and t) (trees_of-list ts)

length-fields : (ms : List (List ℕ × Tree)) → length ms ≤ members_size (fields_of ms)
length-fields [] = omega arith
length-fields (m ∷ ms) = omega (arith, length-fields ms)

pub length-trees : (ts : List Tree) → length ts ≤ items_size (trees_of ts)
length-trees [] = omega arith
length-trees (t ∷ ts) = omega (arith, length-trees ts)

value_by-size : (b : Bool) (t v : Tree) (o : Option Tree) (n : ℕ) → cond b (Some t) o ≡ Some v → (o ≡ Some v → size_of v ≤ n) → size_of v ≤ 1 + size_of t + n
value_by-size true t v o n h rest = let same : t ≡ v = some-same t v h in omega (arith, ap size_of same)
value_by-size false t v o n h rest = omega (arith, rest h)

value_named-size : (name : List ℕ) (ms : List (List ℕ × Tree)) (v : Tree) → value_named name ms ≡ Some v → size_of v ≤ members_size (fields_of ms)
value_named-size name [] v h = cc
value_named-size name (m ∷ ms) v h = value_by-size (bytes_eq m.0 name) m.1 v (value_named name ms) (members_size (fields_of ms)) h (value_named-size name ms v)

-- the members of an object hold what it holds
members_in-size : (t : Tree) (ms : List (List ℕ × Tree)) → members_in t ≡ Some ms → members_size (fields_of ms) ≡ size_of t
members_in-size null ms h = cc
members_in-size (truth b) ms h = cc
members_in-size (number n) ms h = cc
members_in-size (text s) ms h = cc
members_in-size (list ts) ms h = cc
members_in-size (object fs) ms h = ap (λ (xs : List (List ℕ × Tree)). members_size (fields_of xs)) (sym (some-same (field_list fs) ms h)) ∙ ap members_size (fields_of-list fs)

-- and the items of a list what it holds
items_in-size : (t : Tree) (ts : List Tree) → items_in t ≡ Some ts → items_size (trees_of ts) ≡ size_of t
items_in-size null ts h = cc
items_in-size (truth b) ts h = cc
items_in-size (number n) ts h = cc
items_in-size (text s) ts h = cc
items_in-size (list us) ts h = ap (λ (xs : List Tree). items_size (trees_of xs)) (sym (some-same (tree_list us) ts h)) ∙ ap items_size (trees_of-list us)
items_in-size (object ms) ts h = cc

pub members-size : (at : List (List ℕ)) (t : Tree) (ms : List (List ℕ × Tree)) → members at t ≡ Ok ms → members_size (fields_of ms) ≡ size_of t
members-size at t ms h = members_in-size t ms (found-is at (members_in t) ms h)

pub items-size : (at : List (List ℕ)) (t : Tree) (ts : List Tree) → items at t ≡ Ok ts → items_size (trees_of ts) ≡ size_of t
items-size at t ts h = items_in-size t ts (found-is at (items_in t) ts h)

named-size : (name : List ℕ) (at : List (List ℕ)) (ms : List (List ℕ × Tree)) (v : Tree) → named name at ms ≡ Ok v → size_of v ≤ members_size (fields_of ms)
named-size name at ms v h = value_named-size name ms v (found-is (name ∷ at) (value_named name ms) v h)

-- a list that is a member holds no more than the object
pub required_items-size : (name : List ℕ) (at : List (List ℕ)) (ms : List (List ℕ × Tree)) (ts : List Tree) → required items name at ms ≡ Ok ts → items_size (trees_of ts) ≤ members_size (fields_of ms)
required_items-size name at ms ts h =
    let b = bound (named name at ms) (items (name ∷ at)) ts h in
    omega (arith, items-size (name ∷ at) b.value ts b.second, named-size name at ms b.value b.first)

present-is : (o : Option Tree) (v : Tree) → present o ≡ Some v → o ≡ Some v
present-is None v h = h
present-is (Some t) v h = by (is_null t) t v h
  where
    by : (b : Bool) (t v : Tree) → cond b None (Some t) ≡ Some v → Some t ≡ Some v
    by true t v h = cc
    by false t v h = h

members_by-size : (at : List (List ℕ)) (o : Option Tree) (n : ℕ) (ms : List (List ℕ × Tree)) → ((v : Tree) → o ≡ Some v → size_of v ≤ n) → absent_or [] members at o ≡ Ok ms → length ms ≤ n
members_by-size at None n ms small h = let same : [] ≡ ms = ok-same (Ok []) [] ms refl h in omega (arith, ap length same)
members_by-size at (Some v) n ms small h = omega (arith, length-fields ms, members-size at v ms h, small v refl)

-- an object that is a member has no more members than the whole holds
pub defaulted_members-length : (name : List ℕ) (at : List (List ℕ)) (ms held : List (List ℕ × Tree)) → defaulted members [] name at ms ≡ Ok held → length held ≤ members_size (fields_of ms)
defaulted_members-length name at ms held h =
    members_by-size (name ∷ at) (present (value_named name ms)) (members_size (fields_of ms)) held (λ v e. value_named-size name ms v (present-is (value_named name ms) v e)) h

-- as many are read as there are
pub each_from-length : {A : Type 0} (i : ℕ) (read : Reader Tree A) (at : List (List ℕ)) (ts : List Tree) (xs : List A) → each_from i read at ts ≡ Ok xs → length xs ≡ length ts
each_from-length i read at [] xs h = ap length (sym (ok-same (Ok []) [] xs refl h))
each_from-length i read at (t ∷ ts) xs h =
    let b = bound (read (decimal i ∷ at) t) (λ a. each_from (i + 1) read at ts >>= (λ more. Ok (a ∷ more))) xs h in
    let r = bound (each_from (i + 1) read at ts) (λ more. Ok (b.value ∷ more)) xs b.second in
    ap length (sym (ok-same (Ok (b.value ∷ r.value)) (b.value ∷ r.value) xs refl r.second)) ∙ ap (λ n. suc n) (each_from-length (i + 1) read at ts r.value r.first)

pub each_member-length : {A : Type 0} (read : Reader (List ℕ × Tree) A) (at : List (List ℕ)) (ms : List (List ℕ × Tree)) (xs : List A) → each_member read at ms ≡ Ok xs → length xs ≡ length ms
each_member-length read at [] xs h = ap length (sym (ok-same (Ok []) [] xs refl h))
each_member-length read at (m ∷ ms) xs h =
    let b = bound (read at m) (λ a. each_member read at ms >>= (λ more. Ok (a ∷ more))) xs h in
    let r = bound (each_member read at ms) (λ more. Ok (b.value ∷ more)) xs b.second in
    ap length (sym (ok-same (Ok (b.value ∷ r.value)) (b.value ∷ r.value) xs refl r.second)) ∙ ap (λ n. suc n) (each_member-length read at ms r.value r.first)

not_empty-length : {A : Type 0} (at : List (List ℕ)) (xs ys : List A) → not_empty at xs ≡ Ok ys → length ys ≡ length xs
not_empty-length at [] ys h = cc
not_empty-length at (x ∷ xs) ys h = ap length (sym (ok-same (Ok (x ∷ xs)) (x ∷ xs) ys refl h))

-- a target has no more costumes than its object holds
pub costumes-length : (name : List ℕ) (at place : List (List ℕ)) (ms : List (List ℕ × Tree)) (t : Tree) (names : List (List ℕ)) → named name at ms ≡ Ok t → costumes_of place t ≡ Ok names → length names ≤ members_size (fields_of ms)
costumes-length name at place ms t names held h =
    let b = bound (items place t >>= not_empty place) (each_from 0 costume_of place) names h in
    let a = bound (items place t) (not_empty place) b.value b.first in
    omega (arith, each_from-length 0 costume_of place b.value names b.second, not_empty-length place a.value b.value a.second, length-trees a.value, items-size place t a.value a.first, named-size name at ms t held)

-- what was read is few where what is told is few
pub few_read : {A B : Type 0} (view : A → List B) (size : A → ℕ) (r : Result A Fault) (told : Result (List B) (List ℕ)) (n : ℕ) → ((a : A) → size a ≡ length (view a)) → Reads view r told → ((bs : List B) → told ≡ Ok bs → length bs ≤ n) → n < 2 ^ 32 → IfOk r (λ a. size a < 2 ^ 32)
few_read view size (Ok a) told n same h small lt = omega (arith, same a, small (view a) h)
few_read view size (Err e) told n same h small lt = tt

-- an item is smaller than its list
pub item-size : {A : Type 0} (f : A → Tree) (xs : List A) (i : ℕ) (x : A) → i < length xs → x ≡ get_or xs i x → size_of (f x) < items_size (trees_of (map f xs))
item-size f [] i x h same = absurd (omega arith)
item-size f (y ∷ ys) zero x h same = omega (arith, ap (λ z. size_of (f z)) same)
item-size f (y ∷ ys) (suc i) x h same = omega (arith, item-size f ys i x (omega arith) same)

-- a list of the document is no larger than the document
pub document-size : (name : List ℕ) (at : List (List ℕ)) (t : Tree) (ms : List (List ℕ × Tree)) (ts : List Tree) → members at t ≡ Ok ms → required items name at ms ≡ Ok ts → size_of t < 2 ^ 32 → items_size (trees_of ts) < 2 ^ 32
document-size name at t ms ts h k small = omega (arith, required_items-size name at ms ts k, members-size at t ms h)

pub drop_turn : {A : Type 0} (xs : List A) (i : ℕ) (x : A) → i < length xs → x ≡ get_or xs i x → drop i xs ≡ x ∷ drop (i + 1) xs
drop_turn xs i x h same = rw (add-one, drop-cons xs i x) (ap (λ y. y ∷ drop (suc i) xs) (sym same))

more : {A : Type 0} (r : Result (List A) (List ℕ)) (front : List A) (a : A) → after front (r >>= (λ xs. Ok (a ∷ xs))) ≡ after (front ++ a ∷ []) r
more (Ok xs) front a = ap Ok (sym (append_assoc front (a ∷ []) xs))
more (Err p) front a = refl

-- one more is read
pub after_turn : {A : Type 0} (read : Reader Tree A) (at place : List (List ℕ)) (i : ℕ) (front new : List A) (a : A) (t : Tree) (ts us : List Tree) (whole : Result (List A) (List ℕ)) → ts ≡ t ∷ us → place ≡ decimal i ∷ at → read place t ≡ Ok a → new ≡ front ++ a ∷ [] → after front (each_from i read at ts) ≡ whole → after new (each_from (i + 1) read at us) ≡ whole
after_turn read at place i front new a t ts us whole same here told made all =
    ap (λ zs. after zs (each_from (i + 1) read at us)) made
    ∙ sym (more (each_from (i + 1) read at us) front a)
    ∙ sym (ap (λ o. after front (o >>= (λ b. each_from (i + 1) read at us >>= (λ xs. Ok (b ∷ xs))))) (ap (λ p. read p t) (sym here) ∙ told))
    ∙ sym (ap (λ zs. after front (each_from i read at zs)) same)
    ∙ all
