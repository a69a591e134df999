-- Threads whose levels stand in one pool; private functions and the model of `Threads` alone cite it.
pub use Rattle.thread_frames.specs.declared.entry.Entry.{Entry}
use Rattle.std.specs.Prelude.{ℕ, ◌==◌, ◌&&◌, not, Bool, List, [], ◌∷◌, ◌++◌, map, filter, Option, Some, None}
use Rattle.shared_stacks.specs.declared.stack.Stack.{Stack}
use Rattle.shared_stacks.specs.declared.pool.Pool.{Pool}
use Rattle.shared_stacks.specs.Chains.{values}
use Rattle.machine_spec.specs.Places.{Places, shown_by}
use Rattle.machine_spec.specs.Threads.{is_done}
use Rattle.thread_frames.specs.Levels.{Level}
use Rattle.thread_frames.specs.Threads.{Thread, with_levels}

-- an entry seen with these levels, and with those that its stack has in the pool
abbrev pub entry_with : Entry → List Level → Thread
entry_with e levels = with_levels e.thread levels

abbrev pub seen : Pool Level → Entry → Thread
seen p e = entry_with e (values p e.stack)

abbrev pub seen_all : Pool Level → Places Entry → Places Thread
seen_all p ts = shown_by (seen p) ts

-- the stacks of all entries, that of the detached one last
abbrev pub stack_some : Option Entry → List Stack
stack_some None = []
stack_some (Some e) = e.stack ∷ []

abbrev pub stacks_of : Places Entry → List Stack
stacks_of ts = map (λ e. e.stack) ts.list ++ stack_some ts.detached

-- where the levels of an entry stand, and nowhere for none
abbrev pub stack_of : Option Entry → Stack
stack_of None = record { top = 0; depth = 0 }
stack_of (Some e) = e.stack

-- an entry that is done
abbrev pub is_done_entry : Entry → Bool
is_done_entry e = is_done e.thread.status

-- there is no entry; none is detached; none that is done is listed
abbrev pub no_entries : Places Entry
no_entries = record { list = []; detached = None }

abbrev pub none_detached : Places Entry → Places Entry
none_detached ts = record { list = ts.list; detached = None }

abbrev pub none_done : Places Entry → Places Entry
none_done ts = record { list = filter (λ e. not (is_done_entry e)) ts.list; detached = ts.detached }

-- an entry of this instance and hat, and one that is not done
abbrev pub is_entry_of : (of hat : ℕ) → Entry → Bool
is_entry_of of hat e = e.thread.of == of && e.thread.hat == hat

abbrev pub is_alive_entry_of : (of hat : ℕ) → Entry → Bool
is_alive_entry_of of hat e = is_entry_of of hat e && not (is_done_entry e)
