-- A thread that is lent to be changed; private functions alone cite it.
use Rattle.std.specs.Prelude.{Option}
use Rattle.std.specs.Borrow.{LendsIf, MutBor, Fml}
use Rattle.machine_spec.specs.declared.threads.Which.{Which}
use Rattle.machine_spec.specs.Places.{Places, put}
use Rattle.thread_frames.specs.Entries.{Entry}
use Rattle.thread_frames.specs.contracts.table.Table as table
use Rattle.thread_frames.specs.contracts.entry.Entry as entry

abbrev pub LendsEntry : MutBor (Places Entry) → Which → Option (MutBor Entry) → Fml
LendsEntry s which r = LendsIf table.the_row entry.the_row s r (λ e. put which e s.now) s.now
