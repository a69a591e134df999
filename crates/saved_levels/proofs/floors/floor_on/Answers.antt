-- The last level that was made is the top one.
use Rattle.std.proofs.Common.{sym, subst}
use Rattle.saved_levels.specs.Standing.{hat_of, program_in, sheet_of, IsFloor}
use Rattle.thread_frames.specs.Reading.{beneath}
use Rattle.saved_levels.proofs.Together.{last_first}
use Rattle.saved_levels.proofs.floors.floor_on.Goals as goal

pub returns-in-Some : goal.returns-in-Some
returns-in-Some c =
    let r = last_first c.args.made.now c.in-Some.level.now c.in-Some.ensures.value in
    subst (λ ls. IsFloor (sheet_of c.args.site.now) (program_in c.args.site.now) (hat_of c.args.site.now) (beneath (sheet_of c.args.site.now) ls) c.over.result) (sym r.1) (c.over.ensures (hat_of c.args.site.now) r.0)
