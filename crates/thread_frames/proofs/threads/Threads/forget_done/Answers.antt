use Rattle.thread_frames.proofs.Removing.{Stand-alive, view_alive}
use Rattle.thread_frames.proofs.threads.Threads.forget_done.Goals as goal

pub invariant_of-self : goal.invariant_of-self
invariant_of-self c = record {
  stand = Stand-alive c.self.inside.pool c.self.inside.table _ _ c.self.invariant.stand c.self.view_is c.requires c.remove_done.ensures;
  indexed = c.forget.ensures _;
}

pub returns : goal.returns
returns c = view_alive c.self.inside.pool c.self.inside.table _ _ c.self.view_is c.remove_done.ensures
