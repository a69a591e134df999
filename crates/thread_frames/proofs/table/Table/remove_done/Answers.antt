use Rattle.std.proofs.Common.{rules, ap, List}
use Rattle.std.proofs.lemmas.Fn.{filter_same}
use Rattle.thread_frames.specs.Entries.{Entry}
use Rattle.thread_frames.proofs.table.Table.remove_done.Goals as goal

pub returns : goal.returns
returns c =
    rw (← c.self.view_is) (ap (λ (xs : List Entry). record { list = xs; detached = c.self.inside.detached }) (filter_same _ _ _ (λ x b f' k. search rules) _ _ c.retain.ensures.filtered))
