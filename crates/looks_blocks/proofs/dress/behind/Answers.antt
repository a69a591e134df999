-- The next costume is wrapped.
use Rattle.std.proofs.Common.{◌+◌, arith}
use Rattle.looks_blocks.proofs.Wrapping.{index_wraps}
use Rattle.looks_blocks.proofs.dress.behind.Goals as goal

pub returns : goal.returns
returns c =
    let fits = c.ranges.costume.fits in
    rw c.index_behind.ensures (index_wraps (c.args.costume + 1) c.args.costumes (omega arith) c.requires c.ranges.costumes.fits)
