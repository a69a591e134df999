-- Lists that are sent an item at a time.
use Rattle.std.proofs.Common.{◌≡◌, ℕ, zero, suc, ◌+◌, ◌-◌, ◌<◌, ◌≤◌, List, [], ◌∷◌, ◌++◌, length, map, take, drop, reverse, take-add, slice_get, get_or, Some, refl, sym, ◌∙◌, ap, subst, arith, below_more}
use Rattle.std.specs.List.{All}
use Rattle.std.specs.Prelude.{Result, Ok, Err, OnOk}
use Rattle.std.proofs.lemmas.List.{drop_all, length-reverse, reverse-append, take_all}
use Rattle.std.proofs.lemmas.List.Elements.{All-append}
use Rattle.std.proofs.lemmas.Option.{get_or_from_slice_get}
use Rattle.serde.specs.Event.{Log, Logs, seq_begins, seq_ends}
use Rattle.serde_json.specs.Data.{Data}
use Rattle.serde_json.specs.Events.{items_len, SendsValue, SendsItems}
use Rattle.scratch_number.specs.declared.number.Num.{Num}
use Rattle.saved_spec.specs.Instances.{effect_numbers}
use Rattle.saved_spec.specs.Rows.{items_of, each}
use Rattle.saved_text.specs.Sending.{SendsEach}

module _ {A : Type 0} (f : A → Data) where
  items_len-map : (xs : List A) → items_len (items_of (map f xs)) ≡ length xs
  items_len-map [] = refl
  items_len-map (x ∷ xs) = ap suc (items_len-map xs)

  -- whatever ends the list well from place n on ends it well from the start
  abbrev pub Continues : (xs : List A) (n : ℕ) (first now : Log) → Type 0
  Continues xs n first now = (end : Log) → SendsItems (items_of (map f (drop n xs))) now end → SendsItems (items_of (map f xs)) first end

  one_more : (xs : List A) (n : ℕ) (x : A) (now next end : Log) → slice_get xs n ≡ Some x → SendsValue (f x) now next → SendsItems (items_of (map f (drop (suc n) xs))) next end → SendsItems (items_of (map f (drop n xs))) now end
  one_more [] n x now next end there sent rest = absurd cc
  one_more (y ∷ ys) zero x now next end there sent rest =
      let same : x ≡ y = cc in
      (next, subst (λ z. SendsValue (f z) now next) same sent, rest)
  one_more (y ∷ ys) (suc n) x now next end there sent rest = one_more ys n x now next end there sent rest

  pub continued : (xs : List A) (n : ℕ) (x : A) (first now next : Log) → slice_get xs n ≡ Some x → SendsValue (f x) now next → Continues xs n first now → Continues xs (n + 1) first next
  continued xs n x first now next there sent before end rest =
      let same : n + 1 ≡ suc n = omega arith in
      before end (one_more xs n x now next end there sent (subst (λ k. SendsItems (items_of (map f (drop k xs))) next end) same rest))

  pub all_sent : (xs : List A) (n : ℕ) (old first now new : Log) → length xs ≤ n → Logs old first (seq_begins (Some (length xs))) → Continues xs n first now → Logs now new seq_ends → SendsValue (each f xs) old new
  all_sent xs n old first now new all begun before ended =
      (first, subst (λ k. Logs old first (seq_begins (Some k))) (sym (items_len-map xs)) begun, before new (subst (λ ys. SendsItems (items_of (map f ys)) now new) (sym (drop_all n xs all)) ended))

-- Lists that are sent in parts
module _ {A : Type 0} where
  take_halves : (xs : List A) (half count : ℕ) → half ≤ count → take count xs ≡ take half xs ++ take (count - half) (drop half xs)
  take_halves xs half count less =
      let all : count ≡ half + (count - half) = omega arith in
      ap (λ n. take n xs) all ∙ take-add half (count - half) xs

  pub halves_all : (P : A → Type 0) (xs rest : List A) (half count : ℕ) → half ≤ count → rest ≡ drop half xs → All P (take half xs) → All P (take (count - half) rest) → All P (take count xs)
  halves_all P xs rest half count less under upper lower =
      subst (All P) (sym (take_halves xs half count less)) (All-append P (take half xs) (take (count - half) (drop half xs)) upper (subst (λ ys. All P (take (count - half) ys)) under lower))

module _ {A : Type 0} (f : A → Data) where
  both_sent : (xs ys : List A) (old mid new : Log) → SendsEach f xs old mid → SendsEach f ys mid new → SendsEach f (xs ++ ys) old new
  both_sent [] ys old mid new first second = subst (λ m. SendsEach f ys m new) first second
  both_sent (x ∷ xs) ys old mid new first second = (first.0, first.1, both_sent xs ys first.0 mid new first.2 second)

  -- the lower half is sent first
  pub halves_sent : (xs rest : List A) (half count : ℕ) (old mid new : Log) → half ≤ count → rest ≡ drop half xs → SendsEach f (reverse (take (count - half) rest)) old mid → SendsEach f (reverse (take half xs)) mid new → SendsEach f (reverse (take count xs)) old new
  halves_sent xs rest half count old mid new less under lower upper =
      let below = take (count - half) (drop half xs) in
      let same : reverse (take count xs) ≡ reverse below ++ reverse (take half xs) = ap reverse (take_halves xs half count less) ∙ reverse-append (take half xs) below in
      subst (λ ys. SendsEach f ys old new) (sym same) (both_sent (reverse below) (reverse (take half xs)) old mid new (subst (λ ys. SendsEach f (reverse (take (count - half) ys)) old mid) under lower) upper)

  items_sent : (xs : List A) (first last new : Log) → SendsEach f xs first last → Logs last new seq_ends → SendsItems (items_of (map f xs)) first new
  items_sent [] first last new same ended = subst (λ m. Logs m new seq_ends) same ended
  items_sent (x ∷ xs) first last new sent ended = (sent.0, sent.1, items_sent xs sent.0 last new sent.2 ended)

  pub reverse_sent : (xs : List A) (n : ℕ) (old first last new : Log) → n ≡ length xs → Logs old first (seq_begins (Some n)) → SendsEach f (reverse (take n xs)) first last → Logs last new seq_ends → SendsValue (each f (reverse xs)) old new
  reverse_sent xs n old first last new all begun sent ended =
      let count = all ∙ sym (length-reverse xs) ∙ sym (items_len-map f (reverse xs)) in
      let each_one = subst (λ ys. SendsEach f (reverse ys) first last) (take_all n xs (omega (arith, all))) sent in
      (first, subst (λ k. Logs old first (seq_begins (Some k))) count begun, items_sent (reverse xs) first last new each_one ended)

-- What is true of each of the first items
module _ {A : Type 0} (P : A → Type 0) where
  abbrev pub AllFirst : (xs : List A) (n : ℕ) → Type 0
  AllFirst xs n = (k : ℕ) → k < n → (d : A) → P (get_or xs k d)

  pub first_one : (xs : List A) (n : ℕ) (x : A) → slice_get xs n ≡ Some x → P x → AllFirst xs n → AllFirst xs (n + 1)
  first_one xs n x there h before = below_more (λ k. (d : A) → P (get_or xs k d)) n before (λ d. subst P (sym (get_or_from_slice_get xs n x d there)) h)

  pub first_all : (xs : List A) (n : ℕ) → length xs ≤ n → AllFirst xs n → All P xs
  first_all xs n long before k d less = before k (omega arith) d

-- the numbers of the effects are the list of them
pub seven_numbers : (es : List Num) → length es ≡ 7 → effect_numbers es ≡ es
seven_numbers (a ∷ b ∷ c ∷ d ∷ e ∷ f ∷ g ∷ []) h = refl
seven_numbers [] h = absurd (omega arith)
seven_numbers (a ∷ []) h = absurd (omega arith)
seven_numbers (a ∷ b ∷ []) h = absurd (omega arith)
seven_numbers (a ∷ b ∷ c ∷ []) h = absurd (omega arith)
seven_numbers (a ∷ b ∷ c ∷ d ∷ []) h = absurd (omega arith)
seven_numbers (a ∷ b ∷ c ∷ d ∷ e ∷ []) h = absurd (omega arith)
seven_numbers (a ∷ b ∷ c ∷ d ∷ e ∷ f ∷ []) h = absurd (omega arith)
seven_numbers (a ∷ b ∷ c ∷ d ∷ e ∷ f ∷ g ∷ x ∷ more) h = absurd (omega arith)

pub on_ok_both : {T E : Type 0} (r : Result T E) (P Q : Type 0) → OnOk r P → OnOk r Q → OnOk r (P × Q)
on_ok_both (Ok t) P Q p q = (p, q)
on_ok_both (Err e) P Q p q = tt
