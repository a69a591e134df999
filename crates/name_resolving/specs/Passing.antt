-- What goes on while names are resolved one after another.
use Rattle.std.specs.Prelude.{◌≡◌, ℕ, ◌+◌, ◌≤◌, List, ◌++◌, length}
use Rattle.machine_spec.specs.Program.{Records, record_at}
use Rattle.project_spec.specs.declared.blocks.Resolved.{Resolved}
use Rattle.project_spec.specs.Resolving.{Naming, Found, resolved_names}
use Rattle.name_resolving.specs.declared.scope.Scope.{Scope}
use Rattle.name_resolving.specs.Room.{holdings}
use Rattle.name_resolving.specs.Scope.{IsScope}

-- what was found before, in front
abbrev pub onto : {A : Type 0} → List A → Found (List A) → Found (List A)
onto done f = record { records = f.records; what = done ++ f.what }

-- a target has at most so many variables and lists more, and the others are as they were
pub record Grows (target : ℕ) (before after : Records) (n : ℕ) : Type 0 where
  pub count : length after.targets ≡ length before.targets
  pub others : (k : ℕ) → (k ≡ target → ⊥) → record_at k after ≡ record_at k before
  pub more : holdings (record_at target after) ≤ holdings (record_at target before) + n

-- these names were resolved, and what each leads to stands behind what was found before
pub record Passes (old new : Scope) (ns : List Naming) (before : Records) (done : List Resolved) (after : Records) (all : List Resolved) : Type 0 where
  pub resolves : (rest : List Naming) → onto done (resolved_names old.target (ns ++ rest) before) ≡ onto all (resolved_names old.target rest after)
  pub scope : IsScope new after
  pub target : new.target ≡ old.target
  pub grows : Grows old.target before after (length ns)
