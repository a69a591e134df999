-- The edge hats that are evaluated in a frame (scratch-vm, engine/runtime.js, _step).
pub use Rattle.hats.specs.declared.edge_hats.EdgeHat.{EdgeHat}
use Rattle.std.specs.Prelude.{List, map, filter, Bool, not}
use Rattle.std.specs.List.{list_any}
use Rattle.opcode_table.specs.Kinds.{hat_kind}
use Rattle.machine_spec.specs.declared.instance.Instance.{Instance}
use Rattle.machine_spec.specs.Script.{Statement, op_of, place_of}
use Rattle.machine_spec.specs.Program.{Program, hat_block}
use Rattle.machine_spec.specs.Places.{Places}
use Rattle.machine_spec.specs.Starting.{Pair, pairs, is_alive_of}
use Rattle.machine_spec.specs.Frame.{is_edge_hat}
use Rattle.thread_frames.specs.Threads.{Thread, frames}

-- the statement is an edge hat
abbrev pub is_edge : Statement → Bool
is_edge s = is_edge_hat (hat_kind (op_of s))

-- a hat by its instance, the target of that, and its block
abbrev pub edge_of : Pair → EdgeHat
edge_of x = record { of = x.of; target = (place_of x.head.hat).target; hat = hat_block x.head }

-- of some hats, those of which no listed thread is alive
abbrev pub free : Places Thread → List Pair → List Pair
free ts xs = filter (λ x. not (list_any (is_alive_of frames x) ts.list)) xs

-- the edge hats of which no listed thread is alive
abbrev pub free_edges : Program → List Instance → Places Thread → List Pair
free_edges p is ts = free ts (pairs p is_edge is)

-- the same, as the code lists them
abbrev pub among : Places Thread → List Pair → List EdgeHat
among ts xs = map edge_of (free ts xs)
