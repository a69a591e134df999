-- Counts by name, after one more failure.
use Rattle.std.proofs.Common.{◌≡◌, ℕ, ◌+◌, Bool, true, cond, List, [], ◌∷◌, ◌++◌, refl, ap, sym, subst, arith}
use Rattle.std.specs.Str.{bytes_eq}
use Rattle.std.specs.List.{count_by}
use Rattle.std.proofs.lemmas.List.Sums.{sum_by-append}
use Rattle.std.proofs.lemmas.Slice.Eq.{bytes_eq-Decides}
use Rattle.sv_channels.specs.Counts.{Rose}
use Rattle.sv_channels.specs.Tally.{Tally, failures_of}

counts_last : (p : List ℕ → Bool) (names : List (List ℕ)) (name : List ℕ) → p name ≡ true → count_by p (names ++ name ∷ []) ≡ count_by p names + 1
counts_last p names name h =
    let one : 0 + cond (p name) 1 0 ≡ 0 + 1 = ap (λ b. 0 + cond b 1 0) h in
    let both = sum_by-append (λ x. cond (p x) 1 0) names (name ∷ []) in
    omega (arith, one, both)

-- the count of a name that is kept once more rose
pub kept_rose : (old new : Tally) (name : List ℕ) → new ≡ record old { names = old.names ++ name ∷ [] } → Rose (failures_of old name) (failures_of new name)
kept_rose old new name e =
    let more = counts_last (λ other. bytes_eq other name) old.names name ((bytes_eq-Decides name name).1 refl) in
    subst (λ (t : Tally). Rose (failures_of old name) (failures_of t name)) (sym e) (omega (arith, more))
