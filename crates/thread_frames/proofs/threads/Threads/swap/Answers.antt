use Rattle.std.proofs.Common.{◌≡◌, None, sym, subst, ap, ap₂, ◌∙◌, refl}
use Rattle.machine_spec.specs.Places.{Places}
use Rattle.machine_spec.specs.declared.threads.Which.TheVariants.{Slot}
use Rattle.thread_frames.specs.Entries.{Entry}
use Rattle.thread_frames.specs.Indexing.{AreIndexed, keys_of}
use Rattle.thread_frames.specs.Threads.{Thread}
use Rattle.thread_frames.proofs.Kept.{keys_put, key}
use Rattle.thread_frames.proofs.Removing.{Stand-swapped, view_swapped, entry_at, free_by}
use Rattle.thread_frames.proofs.threads.Threads.swap.Goals as goal

pub invariant_of-self : goal.invariant_of-self
invariant_of-self c =
    let like = c.requires.like in
    let old = entry_at c.self.inside.pool c.args.slot like.thread c.self.inside.table _ c.self.view_is like.there in
    let free : c.self.inside.table.detached ≡ None = free_by c.self.inside.pool c.self.inside.table.detached (ap (λ (ws : Places Thread). ws.detached) c.self.view_is ∙ c.requires.free) in
    record {
      stand = Stand-swapped c.self.inside.pool c.args.slot old.0 (record { thread = c.args.thread; stack = record { top = 0; depth = 0 } }) c.self.inside.table _ c.self.invariant.stand free old.1 refl c.detach.ensures;
      indexed = subst (AreIndexed c.self.inside.index) (sym (ap (λ (ts : Places Entry). keys_of ts.list) c.detach.ensures ∙ keys_put (Slot c.args.slot) old.0 (record { thread = c.args.thread; stack = record { top = 0; depth = 0 } }) c.self.inside.table old.1
          (ap₂ key (like.of ∙ ap (λ (t : Thread). t.of) (sym old.2)) (like.hat ∙ ap (λ (t : Thread). t.hat) (sym old.2))))) c.self.invariant.indexed;
    }

pub returns : goal.returns
returns c = view_swapped c.self.inside.pool c.args.slot c.args.thread (record { thread = c.args.thread; stack = record { top = 0; depth = 0 } }) c.self.inside.table _ _ c.self.view_is c.detach.ensures refl
