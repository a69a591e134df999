-- The branch of a name among the inputs of a block.
use Rattle.std.proofs.Common.{◌≡◌, ℕ, ◌+◌, ◌<◌, Bool, true, false, List, [], ◌∷◌, length, drop, get_or, bytes_eq, refl, sym, ap, ◌∙◌}
use Rattle.std.specs.List.{filter_map}
use Rattle.project_spec.specs.declared.blocks.Input.{Input}
use Rattle.project_spec.specs.declared.blocks.Input.TheVariants as input
use Rattle.project_spec.specs.declared.blocks.Link.TheVariants.{To, Unknown}
use Rattle.project_spec.specs.Linked.{is_branch}
use Rattle.project_spec.specs.Trees.{branch, branch_by}
use Rattle.cached_blocks.specs.Cached.{branch_link}
use Rattle.cached_blocks.proofs.Steps.{left}

name-branch_by : (own : List ℕ) (x : Input) → (branch_by own x).0 ≡ own
name-branch_by own (input.Literal v) = refl
name-branch_by own (input.Reporter (To k)) = refl
name-branch_by own (input.Reporter (Unknown id)) = refl
name-branch_by own (input.Variable n) = refl
name-branch_by own (input.List n) = refl
name-branch_by own input.Absent = refl

first-branch_by : (m n : List ℕ) (x : Input) → (branch_by m x).1 ≡ (branch_by n x).1
first-branch_by m n (input.Literal v) = refl
first-branch_by m n (input.Reporter (To k)) = refl
first-branch_by m n (input.Reporter (Unknown id)) = refl
first-branch_by m n (input.Variable v) = refl
first-branch_by m n (input.List v) = refl
first-branch_by m n input.Absent = refl

module _ (name own : List ℕ) (x : Input) (rest : List (List ℕ × Input)) where
  -- an input of another name is passed over, be it a branch or not
  past : (b : Bool) → is_branch own ≡ b → bytes_eq own name ≡ false → branch_link name (filter_map branch ((own, x) ∷ rest)) ≡ branch_link name (filter_map branch rest)
  past true e other = rw e (rw (name-branch_by own x) (rw other refl))
  past false e other = rw e refl

  -- the input of the name is the branch
  here : is_branch own ≡ true → bytes_eq own name ≡ true → branch_link name (filter_map branch ((own, x) ∷ rest)) ≡ (branch_by [] x).1
  here e same = rw e (rw (name-branch_by own x) (rw same (first-branch_by own [] x)))

module _ (name : List ℕ) (xs : List (List ℕ × Input)) (i : ℕ) (entry : List ℕ × Input) (lt : i < length xs) (e : entry ≡ get_or xs i entry) where
  pub branch-past : bytes_eq entry.0 name ≡ false → branch_link name (filter_map branch (drop i xs)) ≡ branch_link name (filter_map branch xs) → branch_link name (filter_map branch (drop (i + 1) xs)) ≡ branch_link name (filter_map branch xs)
  branch-past other so =
      sym (past name entry.0 entry.1 (drop (i + 1) xs) (is_branch entry.0) refl other)
      ∙ ap (λ ys. branch_link name (filter_map branch ys)) (sym (left xs i entry lt e))
      ∙ so

  pub branch-here : is_branch entry.0 ≡ true → bytes_eq entry.0 name ≡ true → branch_link name (filter_map branch (drop i xs)) ≡ branch_link name (filter_map branch xs) → (branch_by [] entry.1).1 ≡ branch_link name (filter_map branch xs)
  branch-here is same so =
      sym (here name entry.0 entry.1 (drop (i + 1) xs) is same)
      ∙ ap (λ ys. branch_link name (filter_map branch ys)) (sym (left xs i entry lt e))
      ∙ so
