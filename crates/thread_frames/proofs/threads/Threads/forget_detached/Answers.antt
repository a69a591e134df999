use Rattle.std.proofs.Common.{sym, subst}
use Rattle.machine_spec.specs.Places.{Places}
use Rattle.thread_frames.specs.Entries.{Entry}
use Rattle.thread_frames.specs.Indexing.{AreIndexed, keys_of}
use Rattle.thread_frames.proofs.Removing.{Stand-less}
use Rattle.thread_frames.proofs.threads.Threads.forget_detached.Goals as goal

pub invariant_of-self : goal.invariant_of-self
invariant_of-self c = record {
  stand = Stand-less c.self.inside.pool c.self.inside.table _ _ c.self.invariant.stand c.self.view_is c.requires c.forget_detached.ensures;
  indexed = subst (λ (ts : Places Entry). AreIndexed c.self.inside.index (keys_of ts.list)) (sym c.forget_detached.ensures) c.self.invariant.indexed;
}
