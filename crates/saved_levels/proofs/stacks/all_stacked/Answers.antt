-- Level on level, what was made is what the rules read.
use Rattle.std.proofs.Common.{None, map, reverse, subst}
use Rattle.std.specs.Vec.Iter.{into_iter_items}
use Rattle.thread_frames.specs.Reading.{beneath}
use Rattle.saved_parts.specs.Telling.{level_of}
use Rattle.saved_levels.specs.Standing.{hat_of, program_in, sheet_of, IsFloor, Stacks}
use Rattle.saved_levels.proofs.Together.{SoFar, stop}
use Rattle.saved_levels.proofs.stacks.all_stacked.Goals as goal

pub returns-in-Ok-None : goal.returns-in-Ok-None
returns-in-Ok-None c =
    let site = c.args.site.now in
    let all = map level_of c.args.told.items in
    let made = c.loop-told.made.items in
    let s = subst (λ xs. SoFar site all made (map level_of xs)) c.in-Some.ensures.steps.0 c.loop-told.invariant in
    let floor = subst (λ ls. IsFloor (sheet_of site) (program_in site) (hat_of site) (beneath (sheet_of site) (reverse ls)) c.floor_on-floor.result) c.as_slice.ensures.value c.floor_on-floor.ensures in
    let none : Stacks site (level_of c.in-Some.told) (beneath (sheet_of site) (reverse made)) None = (rw c.in-Ok-None.field-0-is at c.in-Ok-None.ensures) _ floor s.fits in
    stop site all made (level_of c.in-Some.told) (map level_of (into_iter_items c.next.new.self)) s none
