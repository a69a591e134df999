use Rattle.std.proofs.Common.{length, sym, ap, ◌∙◌, refl, arith}
use Rattle.std.specs.Prelude.{nat_lt}
use Rattle.shared_stacks.proofs.Chains.{length-values, IsIn-moved}
use Rattle.thread_frames.specs.Levels.{unwound}
use Rattle.thread_frames.specs.Threads.{levels_of}
use Rattle.thread_frames.proofs.Kept.{is_in, kept_moved}
use Rattle.thread_frames.proofs.Views.{there}
use Rattle.thread_frames.proofs.Tops.{view_levels}
use Rattle.thread_frames.proofs.threads.Threads.stop_this_script.Goals as goal

pub unwind-requires : goal.unwind-requires
unwind-requires c = is_in c.self.inside.pool c.args.which _ c.self.inside.table c.self.invariant.stand (sym c.in-Some.ensures.entry)

pub invariant_of-self-2 : goal.invariant_of-self-2
invariant_of-self-2 c =
    kept_moved c.self.inside.pool _ _ c.args.which _ _ c.self.inside.table c.self.invariant (sym c.in-Some.ensures.entry) c.unwind.ensures.moved (omega (arith, c.unwind.ensures.moved.count, c.unwind.ensures.fewer, c.self.invariant.stand.few)) refl

pub returns-clause-levels : goal.returns-clause-levels
returns-clause-levels c =
    view_levels c.self.inside.pool _ unwound c.args.which _ _ c.self.inside.table _ c.self.view_is c.self.invariant.stand (sym c.in-Some.ensures.entry) c.unwind.ensures.moved c.unwind.ensures.values

pub returns-clause-found : goal.returns-clause-found
returns-clause-found c =
    let inside = is_in c.self.inside.pool c.args.which c.in-Some.entry.now c.self.inside.table c.self.invariant.stand (sym c.in-Some.ensures.entry) in
    ap (nat_lt 0) (
    c.depth.ensures
    ∙ sym (length-values c.unwind.new.pool c.unwind.new.stack (IsIn-moved c.self.inside.pool c.unwind.new.pool _ _ c.unwind.ensures.moved inside))
    ∙ ap length c.unwind.ensures.values
    ∙ ap (λ o. length (unwound (levels_of o))) (sym (there c.self.inside.pool c.args.which c.in-Some.entry.now c.self.inside.table _ c.self.view_is (sym c.in-Some.ensures.entry)))
    )
