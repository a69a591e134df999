-- The shape of the threads of a saved run (docs/formats.md, section 5), member by member in the order of the table.
use Rattle.std.specs.Prelude.{ℕ, nat_le, ℤ, unsigned_abs, List, [], ◌∷◌, reverse, Option, Some, None, Ok, Err, codes, if◌then◌else◌}
use Rattle.std.specs.Option.{option_or}
use Rattle.serde_json.specs.Data.{Data, null}
use Rattle.serde_json.specs.Find.{as_number, as_str, as_i64}
use Rattle.std.specs.Prelude.{option_and_then}
use Rattle.scratch_values.specs.Named.{item_named}
use Rattle.scratch_values.specs.declared.value.Value.{Value}
use Rattle.machine_spec.specs.declared.threads.Count.{Count}
use Rattle.machine_spec.specs.declared.threads.Count.TheVariants.{Whole, Infinite}
use Rattle.machine_spec.specs.declared.threads.Status.{Status}
use Rattle.machine_spec.specs.declared.threads.Status.TheVariants.{Running, YieldTick, PromiseWait}
use Rattle.machine_spec.specs.Threads.{most_turns}
use Rattle.json_shapes.specs.Places.{path}
use Rattle.json_shapes.specs.Shapes.{Reader, found, ◌>>=◌}
use Rattle.saved_spec.specs.Kept.{Kept, Nothing, Loop, Repeat, Wait, Glide, Started, Asked, Spoken, Call, SavedLevel, SavedThread}
use Rattle.saved_spec.specs.Shapes.{whole, text, word, num, value, items, each, sized, row, part, table, member, if_some}

abbrev pub turns : ℤ → Option Count
turns z = if nat_le (unsigned_abs z) most_turns then Some (Whole z) else None

-- a whole number of turns, of either sign, or the word for endless ones
abbrev pub count : Reader Data Count
count at d =
    found at (option_or
    (option_and_then (λ t. item_named t ((codes "inf", Infinite) ∷ [])) (as_str d))
    (option_and_then turns (option_and_then as_i64 (as_number d))))

-- a parameter of a call: its name and its value
abbrev pub param : Reader Data (List ℕ × Value)
param at d = row 2 at d >>= (λ ds. part 0 text at ds >>= (λ name. part 1 value at ds >>= (λ v. Ok (name, v))))

-- What a block keeps, behind its word

abbrev pub bare : Kept → Reader (List Data) Kept
bare k at ds = sized 1 at ds >>= (λ _. Ok k)

abbrev pub repeat : Reader (List Data) Kept
repeat at ds = sized 2 at ds >>= (λ _. part 1 count at ds >>= (λ n. Ok (Repeat n)))

abbrev pub wait : Reader (List Data) Kept
wait at ds =
    sized 3 at ds >>= (λ _. part 1 whole at ds >>= (λ start. part 2 num at ds >>= (λ duration.
    Ok (Wait (record { start = start; duration = duration })))))

abbrev pub glide : Reader (List Data) Kept
glide at ds =
    sized 7 at ds >>= (λ _. part 1 whole at ds >>= (λ start. part 2 num at ds >>= (λ duration.
    part 3 num at ds >>= (λ x0. part 4 num at ds >>= (λ y0. part 5 num at ds >>= (λ x1. part 6 num at ds >>= (λ y1.
    Ok (Glide (record { start = start; duration = duration; x0 = x0; y0 = y0; x1 = x1; y1 = y1 })))))))))

abbrev pub started : Reader (List Data) Kept
started at ds = sized 2 at ds >>= (λ _. part 1 (each whole) at ds >>= (λ serials. Ok (Started serials)))

abbrev pub call : Reader (List Data) Kept
call at ds = sized 2 at ds >>= (λ _. part 1 (each param) at ds >>= (λ params. Ok (Call params)))

abbrev pub kept_readers : List (List ℕ × Reader (List Data) Kept)
kept_readers =
    (codes "loop", bare Loop)
    ∷ (codes "repeat", repeat)
    ∷ (codes "wait", wait)
    ∷ (codes "glide", glide)
    ∷ (codes "started", started)
    ∷ (codes "asked", bare Asked)
    ∷ (codes "spoken", bare Spoken)
    ∷ (codes "call", call)
    ∷ []

-- the first item is the word; a list without one has not the shape
abbrev pub worded : Reader (List Data) Kept
worded at [] = Err (path at)
worded at (d ∷ ds) = word kept_readers (codes "0" ∷ at) d >>= (λ read. read at (d ∷ ds))

abbrev pub kept : Reader Data Kept
kept at null = Ok Nothing
kept at d = items at d >>= worded at

-- Levels and threads

abbrev pub level : Reader Data SavedLevel
level at d = row 2 at d >>= (λ ds. part 0 (if_some whole) at ds >>= (λ block. part 1 kept at ds >>= (λ k. Ok (record { block = block; kept = k }))))

abbrev pub status : Reader Data Status
status = word ((codes "run", Running) ∷ (codes "tick", YieldTick) ∷ (codes "wait", PromiseWait) ∷ [])

-- a thread; its levels stand from the bottom
abbrev pub thread : Reader Data SavedThread
thread at d =
    table at d >>= (λ _. member (codes "hat") whole at d >>= (λ hat. member (codes "levels") (each level) at d >>= (λ levels.
    member (codes "number") whole at d >>= (λ serial. member (codes "of") whole at d >>= (λ of. member (codes "status") status at d >>= (λ status.
    Ok (record { serial = serial; of = of; hat = hat; status = status; levels = reverse levels })))))))
