use Rattle.std.proofs.Common.{ap, ◌∙◌, subst}
use Rattle.sv_channels.specs.Counts.{NoneFell}
use Rattle.sv_channels.specs.Memory.{ShelfState}
use Rattle.sv_channels.specs.Tally.{Tally, failures_of}
use Rattle.sv_channels.proofs.memory_shelf.MemoryShelfShelf.put.Goals as goal

-- the counts that are raised are those that the shelf began with
pub returns-then-is_failing_call-clause-put_faults : goal.returns-then-is_failing_call-clause-put_faults
returns-then-is_failing_call-clause-put_faults c =
    let same = ap (λ (s : ShelfState). s.failed_puts) (c.self.view_is ∙ c.is_failing_call.ensures.after) in
    subst (λ (t : Tally). NoneFell (failures_of t) (failures_of c.raise.new.self)) same c.raise.ensures.none_fell
