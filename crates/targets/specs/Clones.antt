-- Which instances can be cloned.
use Rattle.std.specs.Prelude.{ℕ, ◌+◌, ◌==◌, nat_lt, List, [], ◌∷◌, length, Bool, false, not, ◌||◌, count_by}
use Rattle.machine_spec.specs.declared.instance.Instance.{Instance}
use Rattle.machine_spec.specs.Program.{Records}
use Rattle.machine_spec.specs.Stores.{is_original, instance_at, is_on_stage}
use Rattle.machine_spec.specs.Stopping.{most_clones}

abbrev pub clones_in : List Instance → ℕ
clones_in is = count_by (λ i. not (is_original i)) is

-- the stage stands first
abbrev pub is_of_first : Instance → List Instance → Bool
is_of_first i [] = false
is_of_first i (first ∷ is) = first.of == i.of

-- at the most clones, or on the stage, none is made
abbrev pub lacks_room : ℕ → List Instance → Bool
lacks_room original is = not (nat_lt (clones_in is) most_clones) || is_of_first (instance_at original is) is

-- the same, by the records of the targets
abbrev pub has_no_room : Records → ℕ → List Instance → Bool
has_no_room records original is =
    not (nat_lt (length is) (length records.targets + most_clones)) || is_on_stage (instance_at original is) records
