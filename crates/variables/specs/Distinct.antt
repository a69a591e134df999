-- Stores of different instances.
use Rattle.std.specs.Prelude.{◌≡◌, ℕ, ◌==◌, List, [], ◌∷◌, map, false}
use Rattle.std.specs.List.{list_any}
use Rattle.machine_spec.specs.declared.variables.Store.{Store}

abbrev pub numbers : List Store → List ℕ
numbers stores = map (λ s. s.of) stores

-- no number stands twice
abbrev pub IsDistinct : List ℕ → Type 0
IsDistinct [] = Unit {0}
IsDistinct (n ∷ ns) = (list_any (λ m. m == n) ns ≡ false) × IsDistinct ns
