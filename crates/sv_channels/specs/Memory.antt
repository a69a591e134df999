-- A shelf and a sink in memory: what they answer and leave, call by call. Calls are numbered from 0.
use Rattle.std.specs.Prelude.{◌≡◌, ℕ, ◌==◌, nat_lt, Bool, true, false, List, ◌++◌, length, take, Vec, Option, None, Some, if◌then◌else◌, Result, Ok, Err, IsOk, IsSome, ⊤, refl}
use Rattle.std.specs.List.{list_any}
use Rattle.std.specs.FinMap.{get, insert, code}
use Rattle.std.specs.Coded.{Coded, code_by, coded×, coded_ℕ, coded_list}
use Rattle.std.specs.declared.alloc.Global.{Global}
use Rattle.sv_channels.specs.Counts.{next_count}
use Rattle.sv_channels.specs.Files.{Files}
use Rattle.sv_channels.specs.Pairs.{second_of}
use Rattle.sv_channels.specs.Tally.{Tally, tally_code, IsCountedFor}
use Rattle.sv_channels.specs.declared.errors.FetchError.{FetchError}
use Rattle.sv_channels.specs.declared.errors.FetchError.TheVariants as fetch
use Rattle.sv_channels.specs.declared.errors.PutError.{PutError}
use Rattle.sv_channels.specs.declared.errors.PutError.TheVariants as put
use Rattle.sv_channels.specs.declared.errors.SinkError.{SinkError}
use Rattle.sv_channels.specs.declared.errors.SinkError.TheVariants as sink

-- what a shelf in memory holds, the numbers of the calls that fail, the number of the next call, its two counts of
-- failures by name, and how many calls have wanted memory
pub record ShelfState : Type 0 where
  pub files : Files
  pub fails : List ℕ
  pub calls : ℕ
  pub failed_fetches : Tally
  pub failed_puts : Tally
  pub wants : ℕ

-- a shelf is stored as the tuple of its fields
abbrev pub shelf_code : Coded ShelfState
shelf_code =
    let bytes = coded_list coded_ℕ in
    code_by (Files × (List ℕ × (ℕ × (Tally × (Tally × ℕ)))))
    (coded× (code bytes bytes) (coded× (coded_list coded_ℕ) (coded× coded_ℕ (coded× tally_code (coded× tally_code coded_ℕ)))))
    (λ s. (s.files, (s.fails, (s.calls, (s.failed_fetches, (s.failed_puts, s.wants))))))
    (λ t. record {
      files = t.0;
      fails = t.1.0;
      calls = t.1.1.0;
      failed_fetches = t.1.1.1.0;
      failed_puts = t.1.1.1.1.0;
      wants = t.1.1.1.1.1;
    })
    (λ _. refl)

-- whether the next call is listed to fail
abbrev pub fails_next : ShelfState → Bool
fails_next s = list_any (λ number. number == s.calls) s.fails

-- the bytes where they are at most the limit
abbrev pub within : ℕ → Option (List ℕ) → Result (List ℕ) FetchError
within limit None = Err fetch.Failed
within limit (Some bytes) = if nat_lt limit (length bytes) then Err (fetch.TooLarge limit) else Ok bytes

-- what the next fetch answers, given memory
abbrev pub fetch_answer : ShelfState → List ℕ → ℕ → Result (List ℕ) FetchError
fetch_answer s name limit = if fails_next s then Err fetch.Failed else within limit (get s.files name)

-- the answer is this one, or memory ran out where bytes were wanted
abbrev pub FetchesAs : Result (List ℕ) FetchError → Result (Vec ℕ Global) FetchError → Type 0
FetchesAs wanted (Ok bytes) = wanted ≡ Ok bytes.items
FetchesAs wanted (Err fetch.Failed) = wanted ≡ Err fetch.Failed
FetchesAs wanted (Err (fetch.TooLarge limit)) = wanted ≡ Err (fetch.TooLarge limit)
FetchesAs wanted (Err fetch.NoMemory) = IsOk wanted

-- the shelf with its next call counted
abbrev pub one_call : ShelfState → ShelfState
one_call s = record s { calls = next_count s.calls }

-- the shelf after a fetch: a failure is counted for the name alone, where there is memory to keep the name
abbrev pub AfterFetch : ShelfState → List ℕ → ShelfState → Result (Vec ℕ Global) FetchError → Type 0
AfterFetch s name after (Ok bytes) = after ≡ one_call s
AfterFetch s name after (Err fetch.Failed) =
    (after ≡ record (one_call s) { failed_fetches = after.failed_fetches }) × IsCountedFor s.failed_fetches name after.failed_fetches
AfterFetch s name after (Err (fetch.TooLarge limit)) = after ≡ one_call s
AfterFetch s name after (Err fetch.NoMemory) = after ≡ record (one_call s) { wants = next_count s.wants }

-- a put fails exactly where its call is listed, and memory runs out only where it is not
abbrev pub PutsAs : Bool → Result Unit PutError → Type 0
PutsAs listed (Ok _) = listed ≡ false
PutsAs listed (Err put.Failed) = listed ≡ true
PutsAs listed (Err put.NoMemory) = listed ≡ false

-- the shelf after a put
abbrev pub AfterPut : ShelfState → List ℕ → List ℕ → ShelfState → Result Unit PutError → Type 0
AfterPut s name bytes after (Ok _) = after ≡ record (one_call s) { files = insert s.files name bytes }
AfterPut s name bytes after (Err put.Failed) =
    (after ≡ record (one_call s) { failed_puts = after.failed_puts }) × IsCountedFor s.failed_puts name after.failed_puts
AfterPut s name bytes after (Err put.NoMemory) = after ≡ record (one_call s) { wants = next_count s.wants }

-- what was written to a sink that fails only for want of memory, how many writes were called for, and how many of them
-- have wanted memory
pub record SteadyState : Type 0 where
  pub written : List ℕ
  pub calls : ℕ
  pub wants : ℕ

-- the steady sink after a write
abbrev pub after_steady : SteadyState → List ℕ → Result Unit SinkError → SteadyState
after_steady s piece (Ok _) = record s { written = s.written ++ piece; calls = next_count s.calls }
after_steady s piece (Err e) = record s { calls = next_count s.calls; wants = next_count s.wants }

-- what was written to a sink in memory, the calls that fail, each with how many bytes it appends, the number of the
-- next call, the count of faults, and how many writes have wanted memory
pub record SinkState : Type 0 where
  pub written : List ℕ
  pub fails : List (ℕ × ℕ)
  pub calls : ℕ
  pub faults : ℕ
  pub wants : ℕ

-- how many bytes the next call appends, where it is listed to fail
abbrev pub fails_after : SinkState → Option ℕ
fails_after s = second_of s.fails s.calls

-- a write fails exactly where its call is listed, but for want of memory
abbrev pub WritesAs : Option ℕ → Result Unit SinkError → Type 0
WritesAs cut (Ok _) = cut ≡ None
WritesAs cut (Err sink.Failed) = IsSome cut
WritesAs cut (Err sink.NoMemory) = ⊤

-- the first bytes of the piece, or all of it
abbrev pub part_of : Option ℕ → List ℕ → List ℕ
part_of None piece = piece
part_of (Some count) piece = take count piece

-- the sink after a write
abbrev pub after_write : SinkState → List ℕ → Result Unit SinkError → SinkState
after_write s piece (Ok _) = record s { calls = next_count s.calls; written = s.written ++ piece }
after_write s piece (Err sink.Failed) =
    record s { calls = next_count s.calls; written = s.written ++ part_of (fails_after s) piece; faults = next_count s.faults }
after_write s piece (Err sink.NoMemory) = record s { calls = next_count s.calls; wants = next_count s.wants }
