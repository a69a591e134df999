-- What a shelf answers to a fetch and to a put, and what it holds afterwards.
use Rattle.std.specs.Prelude.{◌≡◌, ◌≢◌, ℕ, ◌<◌, ◌≤◌, List, length, Vec, Option, Some, IfSome, IsSomeAnd, Result, Ok, Err, ⊤}
use Rattle.std.specs.FinMap.{get, insert}
use Rattle.std.specs.declared.alloc.Global.{Global}
use Rattle.sv_channels.specs.Counts.{next_count, NoneRose}
use Rattle.sv_channels.specs.Files.{Files}
use Rattle.sv_channels.specs.declared.errors.FetchError.{FetchError}
use Rattle.sv_channels.specs.declared.errors.FetchError.TheVariants as fetch
use Rattle.sv_channels.specs.declared.errors.PutError.{PutError}
use Rattle.sv_channels.specs.declared.errors.PutError.TheVariants as put

-- the name is held with these bytes
abbrev pub IsHeld : Option Files → List ℕ → List ℕ → Type 0
IsHeld held name bytes = IfSome held (λ files. get files name ≡ Some bytes)

-- the name is held with more bytes than the limit
abbrev pub IsHeldAbove : Option Files → List ℕ → ℕ → Type 0
IsHeldAbove held name limit = IfSome held (λ files. IsSomeAnd (get files name) (λ bytes. limit < length bytes))

-- What a fetch answers: the bytes that are held, and at most the limit; too large only where more are held than the
-- limit, which is told back; and failed only where the count of the name's failed fetches rose. So a name that is not
-- held is answered by a failure, but for want of memory.
abbrev pub FetchAnswer : Option Files → List ℕ → ℕ → Type 0 → Result (Vec ℕ Global) FetchError → Type 0
FetchAnswer held name limit rose (Ok bytes) = (length bytes.items ≤ limit) × IsHeld held name bytes.items
FetchAnswer held name limit rose (Err fetch.Failed) = rose
FetchAnswer held name limit rose (Err (fetch.TooLarge told)) = (told ≡ limit) × IsHeldAbove held name limit
FetchAnswer held name limit rose (Err fetch.NoMemory) = ⊤

-- What a fetch counts: a count of failed fetches rises only where it failed.
abbrev pub FetchCounts : (List ℕ → ℕ) → (List ℕ → ℕ) → Result (Vec ℕ Global) FetchError → Type 0
FetchCounts before now (Ok bytes) = NoneRose before now
FetchCounts before now (Err fetch.Failed) = ⊤
FetchCounts before now (Err (fetch.TooLarge told)) = NoneRose before now
FetchCounts before now (Err fetch.NoMemory) = NoneRose before now

-- how many calls have wanted memory, after a fetch
abbrev pub wants_after_fetch : ℕ → Result (Vec ℕ Global) FetchError → ℕ
wants_after_fetch wants (Err fetch.NoMemory) = next_count wants
wants_after_fetch wants answer = wants

-- the name holds the bytes, and all other names what they held
abbrev pub Puts : Option Files → Option Files → List ℕ → List ℕ → Type 0
Puts old new name bytes = IfSome old (λ files. new ≡ Some (insert files name bytes))

-- all names but this one hold what they held
abbrev pub KeepsOthers : Option Files → Option Files → List ℕ → Type 0
KeepsOthers old new name =
    IfSome old (λ files. IsSomeAnd new (λ after. (other : List ℕ) → other ≢ name → get after other ≡ get files other))

-- What a put answers and leaves: it failed only where the count of the name's failed puts rose, and then nothing is
-- told of that name alone; without memory nothing changed.
abbrev pub PutAnswer : Option Files → Option Files → List ℕ → List ℕ → Type 0 → Result Unit PutError → Type 0
PutAnswer old new name bytes rose (Ok _) = Puts old new name bytes
PutAnswer old new name bytes rose (Err put.Failed) = rose × KeepsOthers old new name
PutAnswer old new name bytes rose (Err put.NoMemory) = new ≡ old

-- What a put counts: a count of failed puts rises only where it failed.
abbrev pub PutCounts : (List ℕ → ℕ) → (List ℕ → ℕ) → Result Unit PutError → Type 0
PutCounts before now (Ok _) = NoneRose before now
PutCounts before now (Err put.Failed) = ⊤
PutCounts before now (Err put.NoMemory) = NoneRose before now

-- how many calls have wanted memory, after a put
abbrev pub wants_after_put : ℕ → Result Unit PutError → ℕ
wants_after_put wants (Err put.NoMemory) = next_count wants
wants_after_put wants answer = wants
