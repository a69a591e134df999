use Rattle.std.proofs.Common.{ap, ◌∙◌, subst}
use Rattle.sv_channels.specs.Counts.{NoneFell}
use Rattle.sv_channels.specs.Memory.{ShelfState}
use Rattle.sv_channels.specs.Tally.{Tally, failures_of}
use Rattle.sv_channels.proofs.memory_shelf.MemoryShelfShelf.fetch.Goals as goal

-- the counts that are raised are those that the shelf began with: at a listed call
pub returns-then-is_failing_call-clause-fetch_faults : goal.returns-then-is_failing_call-clause-fetch_faults
returns-then-is_failing_call-clause-fetch_faults c =
    let same = ap (λ (s : ShelfState). s.failed_fetches) (c.self.view_is ∙ c.is_failing_call.ensures.after) in
    subst (λ (t : Tally). NoneFell (failures_of t) (failures_of c.raise.new.self)) same c.raise.ensures.none_fell

-- and for a name that is not held
pub returns-in_default-clause-fetch_faults : goal.returns-in_default-clause-fetch_faults
returns-in_default-clause-fetch_faults c =
    let same = ap (λ (s : ShelfState). s.failed_fetches) (c.self.view_is ∙ c.is_failing_call.ensures.after) in
    subst (λ (t : Tally). NoneFell (failures_of t) (failures_of c.raise-in_default.new.self)) same c.raise-in_default.ensures.none_fell
