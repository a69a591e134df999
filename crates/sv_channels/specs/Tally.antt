-- Counts of failed calls by name, as the shelf in memory keeps them.
use Rattle.std.specs.Prelude.{◌≡◌, ◌⊎◌, ℕ, ◌+◌, List, [], ◌∷◌, ◌++◌, bytes_eq, refl}
use Rattle.std.specs.List.{count_by}
use Rattle.std.specs.Coded.{Coded, code_by, coded×, coded_ℕ, coded_list}
use Rattle.sv_channels.specs.Counts.{next_count}

-- the names of failed calls, one for each call, and how many calls are kept without their name
pub record Tally : Type 0 where
  pub names : List (List ℕ)
  pub nameless : ℕ

-- a tally is stored as the tuple of its fields
abbrev pub tally_code : Coded Tally
tally_code =
    code_by (List (List ℕ) × ℕ) (coded× (coded_list (coded_list coded_ℕ)) coded_ℕ)
    (λ t. (t.names, t.nameless)) (λ t. record { names = t.0; nameless = t.1 }) (λ _. refl)

-- no call has failed
abbrev pub no_failures : Tally
no_failures = record { names = []; nameless = 0 }

-- how many calls of the name have failed: a call that is kept without its name counts for every name
abbrev pub failures_of : Tally → List ℕ → ℕ
failures_of tally name = count_by (λ other. bytes_eq other name) tally.names + tally.nameless

-- one more call of the name has failed: it is kept with the name or, for want of memory, without
abbrev pub IsCountedFor : Tally → List ℕ → Tally → Type 0
IsCountedFor old name new =
    (new ≡ record old { names = old.names ++ name ∷ [] }) ⊎ (new ≡ record old { nameless = next_count old.nameless })
