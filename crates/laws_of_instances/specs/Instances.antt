-- What the instances of a run are, between two lines of a script and during a frame.
use Rattle.std.specs.Prelude.{◌≡◌, ◌⊎◌, ℕ, ◌+◌, ◌<◌, ◌≤◌, pos, negsuc, true, false, List, map, length, slice_get, IsSomeAnd}
use Rattle.opcode_table.specs.Kinds.{hat_kind}
use Rattle.scratch_number.specs.declared.number.Num.{Num}
use Rattle.machine_spec.specs.declared.effects.Effect.TheVariants.{Brightness, Ghost}
use Rattle.machine_spec.specs.declared.instance.Instance.{Instance}
use Rattle.machine_spec.specs.BubbleText.{IsShort}
use Rattle.machine_spec.specs.Effects.{effect_place}
use Rattle.machine_spec.specs.Frame.{is_edge_hat}
use Rattle.machine_spec.specs.Program.{Program, Records, Head, hat_block, scripts_at}
use Rattle.machine_spec.specs.Script.{op_of}
use Rattle.machine_spec.specs.Stopping.{most_clones}
use Rattle.machine_spec.specs.Stores.{is_on_stage, record_of}
use Rattle.machine_spec.specs.Tasks.{Task}
use Rattle.machine_spec.specs.World.{World}
use Rattle.laws_of_threads.specs.Lists.{Each, Rise}
use Rattle.laws_of_threads.specs.Playable.{IsBetween, IsSize, IsDirection, IsAsTheStage}
use Rattle.laws_of_threads.specs.Threads.{Holds}
use Rattle.laws_of_words.specs.Words.{IsOfSeed}

-- an original has the number of its target; a clone is of a sprite, and its number is that of no target
abbrev pub IsClone : Records → Instance → Type 0
IsClone records i = (i.of < length records.targets) × (is_on_stage i records ≡ false) × (length records.targets ≤ i.number)

abbrev pub IsOriginal : Records → Instance → Type 0
IsOriginal records i = (i.number ≡ i.of) × (i.of < length records.targets)

-- there are seven effects; brightness is from −100 to 100, ghost from 0 to 100
pub record HasEffects (effects : List Num) : Type 0 where
  pub seven : length effects ≡ 7
  pub brightness : IsSomeAnd (slice_get effects (effect_place Brightness)) (IsBetween (negsuc 99999999) (pos 100000000))
  pub ghost : IsSomeAnd (slice_get effects (effect_place Ghost)) (IsBetween (pos 0) (pos 100000000))

-- a block heads a script of a target under an edge hat
pub record IsEdgeHat (p : Program) (target block : ℕ) : Type 0 where
  pub head : Head
  pub held : Holds head (scripts_at target p).heads
  pub block_is : hat_block head ≡ block
  pub edge : is_edge_hat (hat_kind (op_of head.hat)) ≡ true

-- an instance, where `usage` is the number of the next update of a bubble; the text of its bubble is short
pub record IsInstance (p : Program) (usage : ℕ) (i : Instance) : Type 0 where
  pub kind : IsOriginal p.records i ⊎ IsClone p.records i
  pub costume : i.costume < length (record_of i p.records).costumes
  pub size : IsSize i.size
  pub direction : IsDirection i.direction
  pub effects : HasEffects i.effects
  pub stage : is_on_stage i p.records ≡ true → IsAsTheStage i.x i.y i.size i.direction i.visible
  pub updated : i.bubble.usage < usage
  pub short : IsShort i.bubble.text
  pub rising : Rise (map (λ e. e.0) i.edges)
  pub edges : Each (λ e. IsEdgeHat p i.of e.0) i.edges

-- the stage is first, and clones are few; the words of the run are those of its seed
pub record IsLegalCast (p : Program) (seed : ℕ) (w : World Task) : Type 0 where
  pub stage : IsSomeAnd (slice_get w.targets 0) (λ i. is_on_stage i p.records ≡ true)
  pub each : Each (IsInstance p w.devices.usage) w.targets
  pub few : length w.targets ≤ length p.records.targets + most_clones
  pub words : IsOfSeed seed w.words
