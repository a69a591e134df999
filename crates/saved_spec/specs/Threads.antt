-- A thread of a saved run as an object (docs/formats.md, section 5), whatever its levels are told by.
use Rattle.std.specs.Prelude.{ℕ, List, [], ◌∷◌, codes, Option, Some, None}
use Rattle.serde_json.specs.Data.{Data, null, string}
use Rattle.machine_spec.specs.declared.threads.Status.{Status}
use Rattle.machine_spec.specs.declared.threads.Status.TheVariants.{Running, YieldTick, PromiseWait, Done}
use Rattle.saved_spec.specs.Rows.{whole, table}

-- the block of a level, if it has one
abbrev pub block : Option ℕ → Data
block None = null
block (Some b) = whole b

-- how a thread stands; between two lines of a script no listed thread is done
abbrev pub status_name : Status → List ℕ
status_name Running = codes "run"
status_name YieldTick = codes "tick"
status_name PromiseWait = codes "wait"
status_name Done = codes "done"

-- a thread with its levels, as a value
unfoldable pub thread_of : (hat serial of : ℕ) → Status → (levels : Data) → Data
thread_of hat serial of status levels = table (
    (codes "hat", whole hat)
    ∷ (codes "levels", levels)
    ∷ (codes "number", whole serial)
    ∷ (codes "of", whole of)
    ∷ (codes "status", string (status_name status))
    ∷ [])
