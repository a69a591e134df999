-- Parts of a saved run are read as they were written.
use Rattle.std.proofs.Common.{◌≡◌, ℕ, suc, ◌+◌, ◌^◌, ℤ, pos, negsuc, List, [], ◌∷◌, map, Bool, true, if◌then◌else◌, Ok, refl, ap, ◌∙◌, arith}
use Rattle.std.proofs.lemmas.Bool.{lt-ltb, le-leb}
use Rattle.std.proofs.lemmas.List.Elements.{All-head, All-tail}
use Rattle.std.specs.Fmt.{decimal}
use Rattle.std.specs.List.{All}
use Rattle.serde_json.specs.Data.{Data}
use Rattle.scratch_number.specs.Limit.{limit}
use Rattle.scratch_number.specs.Number.{IsWithin}
use Rattle.scratch_number.specs.declared.number.Num.{Num}
use Rattle.scratch_number.specs.declared.number.Num.TheVariants.{Fixed, Inf, NegInf, Nan}
use Rattle.scratch_values.specs.declared.value.Value.{Value}
use Rattle.scratch_values.specs.declared.value.Value.TheVariants.{Number, Truth, Text}
use Rattle.json_shapes.specs.Shapes.{Reader}
use Rattle.saved_spec.specs.Ranges.{IsSigned, IsValue}
use Rattle.saved_spec.specs.Rows as rows
use Rattle.saved_spec.specs.Values as values
use Rattle.saved_spec.specs.Shapes as shapes

pub if_so : {A : Type 0} (c : Bool) (x y : A) → c ≡ true → (if c then x else y) ≡ x
if_so c x y e = rw e refl

pub signed_read : (at : List (List ℕ)) (z : ℤ) → IsSigned z → shapes.signed at (rows.signed z) ≡ Ok z
signed_read at (pos n) h = rw (lt-ltb n (2 ^ 63) h) refl
signed_read at (negsuc n) h = refl

pub num_read : (at : List (List ℕ)) (n : Num) → IsWithin n → shapes.num at (values.num n) ≡ Ok n
num_read at (Fixed (pos n)) h = rw (lt-ltb n (2 ^ 63) (omega arith), le-leb n limit h) refl
num_read at (Fixed (negsuc n)) h = rw (le-leb (suc n) limit h) refl
num_read at Inf h = refl
num_read at NegInf h = refl
num_read at Nan h = refl

pub value_read : (at : List (List ℕ)) (v : Value) → IsValue v → shapes.value at (values.value v) ≡ Ok v
value_read at (Number n) h = rw (num_read (decimal 0 ∷ at) n h) refl
value_read at (Truth b) h = refl
value_read at (Text t) h = refl

-- Lists

list_of-items_of : (ds : List Data) → shapes.list_of (rows.items_of ds) ≡ ds
list_of-items_of [] = refl
list_of-items_of (d ∷ ds) = ap (λ more. d ∷ more) (list_of-items_of ds)

module _ {A B : Type 0} (read : Reader Data B) (write : A → Data) (tell : A → B) (P : A → Type 0) (one : (at : List (List ℕ)) (a : A) → P a → read at (write a) ≡ Ok (tell a)) where
  each_from_read : (i : ℕ) (at : List (List ℕ)) (xs : List A) → All P xs → shapes.each_from i read at (map write xs) ≡ Ok (map tell xs)
  each_from_read i at [] h = refl
  each_from_read i at (x ∷ xs) h = rw (one (decimal i ∷ at) x (All-head P x xs h), each_from_read (i + 1) at xs (All-tail P x xs h)) refl

  pub each_read : (at : List (List ℕ)) (xs : List A) → All P xs → shapes.each read at (rows.each write xs) ≡ Ok (map tell xs)
  each_read at xs h = rw (list_of-items_of (map write xs)) (each_from_read 0 at xs h)

map-same : {A : Type 0} (xs : List A) → map (λ x. x) xs ≡ xs
map-same [] = refl
map-same (x ∷ xs) = ap (λ more. x ∷ more) (map-same xs)

module _ {A : Type 0} (read : Reader Data A) (write : A → Data) (P : A → Type 0) (one : (at : List (List ℕ)) (a : A) → P a → read at (write a) ≡ Ok a) where
  pub each_from_same : (i : ℕ) (at : List (List ℕ)) (xs : List A) → All P xs → shapes.each_from i read at (map write xs) ≡ Ok xs
  each_from_same i at xs h = each_from_read read write (λ x. x) P one i at xs h ∙ ap Ok (map-same xs)

  pub each_same : (at : List (List ℕ)) (xs : List A) → All P xs → shapes.each read at (rows.each write xs) ≡ Ok xs
  each_same at xs h = each_read read write (λ x. x) P one at xs h ∙ ap Ok (map-same xs)
