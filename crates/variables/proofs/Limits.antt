-- Lists that are cut to the most items.
use Rattle.std.proofs.Common.{◌≡◌, ℕ, suc, ◌+◌, ◌-◌, ◌<◌, ◌≤◌, List, [], ◌∷◌, ◌++◌, length, take, drop, sym, ap, ap₂, ◌∙◌, arith, length-append, length-take}
use Rattle.std.specs.List.{insert}
use Rattle.std.proofs.lemmas.List.{take_all, take-append-le, take-take, length-take-le, drop-take}
use Rattle.std.proofs.lemmas.List.Edits.{length-insert}
use Rattle.std.proofs.Math.Seq.{take-append-add}
use Rattle.scratch_values.specs.declared.value.Value.{Value}
use Rattle.machine_spec.specs.DataRows.{most_items}
use Rattle.variables.specs.Kept.{IsShort}

module _ {X : Type 0} where
  pub push_short : (n : ℕ) (xs : List X) (x : X) → length xs < n → take n (xs ++ x ∷ []) ≡ xs ++ x ∷ []
  push_short n xs x lt = take_all n (xs ++ x ∷ []) (omega (arith, length-append xs (x ∷ [])))

  pub pushed_short : (n : ℕ) (xs : List X) (x : X) (ys : List X) → length xs < n → ys ≡ xs ++ x ∷ [] → ys ≡ take n (xs ++ x ∷ [])
  pushed_short n xs x ys lt e = e ∙ sym (push_short n xs x lt)

  pub push_full : (n : ℕ) (xs : List X) (x : X) → n ≤ length xs → take n (xs ++ x ∷ []) ≡ take n xs
  push_full n xs x le = take-append-le n xs (x ∷ []) le

  pub insert_short : (n : ℕ) (xs : List X) (p : ℕ) (x : X) → length xs < n → p ≤ length xs → take n (take p xs ++ x ∷ drop p xs) ≡ insert xs p x
  insert_short n xs p x lt le = take_all n (insert xs p x) (omega (arith, length-insert xs p x le))

  pub insert_behind : (n : ℕ) (xs : List X) (p : ℕ) (x : X) → n ≤ length xs → n ≤ p → take n (take p xs ++ x ∷ drop p xs) ≡ take n xs
  insert_behind n xs p x le lp =
      take-append-le n (take p xs) (x ∷ drop p xs) (omega (arith, length-take p xs)) ∙ take-take n p xs lp

  pub insert_full : (n : ℕ) (xs : List X) (p m : ℕ) (x : X) → n ≡ p + suc m → n ≤ length xs → take n (take p xs ++ x ∷ drop p xs) ≡ insert (take (n - 1) xs) p x
  insert_full n xs p m x e le =
      let len : length (take p xs) ≡ p = length-take-le p xs (omega arith) in
      let less : n - 1 ≡ p + m = omega arith in
      let left : take n (take p xs ++ x ∷ drop p xs) ≡ take p xs ++ x ∷ take m (drop p xs) =
      ap (λ k. take k (take p xs ++ x ∷ drop p xs)) (e ∙ ap (λ k. k + suc m) (sym len)) ∙ take-append-add (take p xs) (x ∷ drop p xs) (suc m) in
      let before : take p (take (n - 1) xs) ≡ take p xs = take-take p (n - 1) xs (omega arith) in
      let behind : drop p (take (n - 1) xs) ≡ take m (drop p xs) = ap (λ k. drop p (take k xs)) less ∙ drop-take p m xs in
      left ∙ ap₂ (λ (a b : List X). a ++ x ∷ b) (sym before) (sym behind)

-- what was cut has no more than the most
pub short_when_cut : (xs ys : List Value) → ys ≡ take most_items xs → IsShort ys
short_when_cut xs ys e = omega (arith, ap length e, length-take most_items xs)
