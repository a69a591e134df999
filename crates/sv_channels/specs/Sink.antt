-- What a sink answers to a write, and what is written afterwards.
use Rattle.std.specs.Prelude.{◌≡◌, ℕ, ◌≤◌, List, ◌++◌, length, take, Option, Some, IfSome, Result, Ok, Err, ⊤}
use Rattle.sv_channels.specs.Counts.{next_count}
use Rattle.sv_channels.specs.declared.errors.SinkError.{SinkError}
use Rattle.sv_channels.specs.declared.errors.SinkError.TheVariants.{Failed, NoMemory}

-- the written bytes grew by these at their end
abbrev pub Gained : Option (List ℕ) → Option (List ℕ) → List ℕ → Type 0
Gained old new piece = IfSome old (λ bytes. new ≡ Some (bytes ++ piece))

-- the written bytes grew by a first part of the piece, none or all of it included
abbrev pub GainedPart : Option (List ℕ) → Option (List ℕ) → List ℕ → Type 0
GainedPart old new piece = (count : ℕ) × (count ≤ length piece) × Gained old new (take count piece)

-- What a write answers and leaves: it failed only where the count of faults rose; without memory nothing changed.
abbrev pub WriteAnswer : Option (List ℕ) → Option (List ℕ) → List ℕ → Type 0 → Result Unit SinkError → Type 0
WriteAnswer old new piece rose (Ok _) = Gained old new piece
WriteAnswer old new piece rose (Err Failed) = rose × GainedPart old new piece
WriteAnswer old new piece rose (Err NoMemory) = new ≡ old

-- What a write counts: the count of faults rises only where it failed.
abbrev pub WriteCounts : ℕ → ℕ → Result Unit SinkError → Type 0
WriteCounts before now (Ok _) = now ≡ before
WriteCounts before now (Err Failed) = ⊤
WriteCounts before now (Err NoMemory) = now ≡ before

-- how many writes have wanted memory, after a write
abbrev pub wants_after_write : ℕ → Result Unit SinkError → ℕ
wants_after_write wants (Err NoMemory) = next_count wants
wants_after_write wants answer = wants
