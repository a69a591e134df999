-- Each number is counted once where that of each instance is.
use Rattle.std.proofs.Common.{◌≡◌, ℕ, ◌+◌, ◌≤◌, List, [], ◌∷◌, true, cond, ◌⊎◌, inl, inr, ap, ◌∙◌, arith}
use Rattle.std.specs.Prelude.{◌==◌, nat_le}
use Rattle.std.specs.List.{count_by, list_all}
use Rattle.std.proofs.lemmas.Bool.{and_parts, cases_Bool, eqb-true, leb-true}
use Rattle.std.proofs.lemmas.List.Sums.{sum_by-cons}
use Rattle.machine_spec.specs.declared.instance.Instance.{Instance}
use Rattle.targets.specs.Live.{HasOneEach}

-- either none has the number, or its count was tested
count_tested : (count : ℕ → ℕ) (m : ℕ) (is : List Instance) → list_all (λ i. nat_le (count i.number) 1) is ≡ true → count m ≤ 1 ⊎ count_by (λ i. i.number == m) is ≡ 0
count_tested count m [] h = inr (omega arith)
count_tested count m (i ∷ is) h =
    let parts = and_parts (nat_le (count i.number) 1) (list_all (λ (j : Instance). nat_le (count j.number) 1) is) h in
    elim (cases_Bool (i.number == m)) [
      | inl t ↦ inl (let small : count i.number ≤ 1 = leb-true (count i.number) 1 parts.0 in let same : count i.number ≡ count m = ap count (eqb-true i.number m t) in omega arith)
      | inr f ↦ elim (count_tested count m is parts.1) [
        | inl one ↦ inl one
        | inr none ↦ inr (sum_by-cons (λ j. cond (j.number == m) 1 0) i is ∙ ap (λ b. cond b 1 0 + count_by (λ j. j.number == m) is) f ∙ omega arith)
      ]
    ]

pub one_each_tested : (is : List Instance) → list_all (λ i. nat_le (count_by (λ j. j.number == i.number) is) 1) is ≡ true → HasOneEach is
one_each_tested is h m = elim (count_tested (λ n. count_by (λ j. j.number == n) is) m is h) [
  | inl one ↦ one
  | inr none ↦ omega arith
]
