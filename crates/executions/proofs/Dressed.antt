-- The targets of a live instance and of the stage have costumes.
use Rattle.std.proofs.Common.{◌≡◌, ℕ, zero, suc, ◌<◌, List, [], ◌∷◌, length, Option, Some, None, IsSome, refl, arith}
use Rattle.std.specs.Prelude.{slice_get, unwrap_or, position, All}
use Rattle.std.specs.Option.{option_map}
use Rattle.std.proofs.lemmas.List.Elements.{All-head, All-tail}
use Rattle.machine_spec.specs.Program.{no_target, stage_number}
use Rattle.machine_spec.specs.Stores.{live, no_instance, instance_at}
use Rattle.machine_spec.specs.declared.instance.Instance.{Instance}
use Rattle.machine_spec.specs.declared.records.TargetRecord.{TargetRecord}
use Rattle.project_check.specs.declared.project.Project.{Project}
use Rattle.project_check.specs.Loaded.{program_of}
use Rattle.targets.specs.Live.{IsLive}
use Rattle.targets.proofs.Places.{position_is}
use Rattle.target_records.specs.Costumes.{IsDressed}
use Rattle.looks_blocks.specs.Costumes.{HasCostumes}
use Rattle.executions.specs.Ready.{ArePeopled}

record_in : {A : Type 0} (P : A → Type 0) (xs : List A) (t : ℕ) (d : A) → All P xs → t < length xs → P (unwrap_or (slice_get xs t) d)
record_in P [] t d h lt = absurd (omega (arith, lt))
record_in P (x ∷ xs) zero d h lt = All-head P x xs h
record_in P (x ∷ xs) (suc t) d h lt = record_in P xs t d (All-tail P x xs h) (omega (arith, lt))

some_home : (o : Option Instance) → IsSome o → option_map (λ i. i.of) o ≡ Some (unwrap_or o no_instance).of
some_home (Some i) h = refl
some_home None h = absurd (cc h)

first_within : (ts : List TargetRecord) (o : Option ℕ) → position (λ t. t.is_stage) ts ≡ o → 0 < length ts → unwrap_or o 0 < length ts
first_within ts None e lt = lt
first_within ts (Some k) e lt = (position_is (λ (t : TargetRecord). t.is_stage) ts k no_target e).1

module _ (p : Project) (dressed : All IsDressed (program_of p).records.targets) (next : ℕ) (is : List Instance) (people : ArePeopled p next is) (n : ℕ) (here : IsLive n is) where
  home : (instance_at n is).of < length (program_of p).records.targets
  home = people.homes n (instance_at n is).of (some_home (live n is) here)

  -- the target of an instance
  pub has_costumes : HasCostumes (program_of p).records (instance_at n is)
  has_costumes = record_in IsDressed (program_of p).records.targets (instance_at n is).of no_target dressed home

  -- the stage is live where any instance is
  pub stage_live : IsLive (stage_number (program_of p).records) is
  stage_live = people.originals (stage_number (program_of p).records) (first_within (program_of p).records.targets (position (λ t. t.is_stage) (program_of p).records.targets) refl (omega (arith, home)))

module _ (p : Project) (dressed : All IsDressed (program_of p).records.targets) (next : ℕ) (is : List Instance) (people : ArePeopled p next is) (n : ℕ) (here : IsLive n is) where
  pub has_backdrops : HasCostumes (program_of p).records (instance_at (stage_number (program_of p).records) is)
  has_backdrops = has_costumes p dressed next is people (stage_number (program_of p).records) (stage_live p dressed next is people n here)
