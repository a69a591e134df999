use Rattle.std.proofs.Common.{◌+◌, sym, subst}
use Rattle.target_records.specs.Records.{records_in}
use Rattle.name_resolving.specs.Blocks.{flag}
use Rattle.name_resolving.proofs.BlocksPassed.{PassesFirst, first-more}
use Rattle.name_resolving.proofs.target.resolve_target.Goals as goal

pub loop-i-preserved : goal.loop-i-preserved
loop-i-preserved c =
    let now = c.loop-i in
    let new = c.resolve_block.new in
    let b = c.index-blocks-i.result in
    let block = rw c.flag-is_checked.ensures at c.in_ok-refs.ensures in
    let more = first-more c.args.scope.now now.scope new.scope (flag c.args.checked.now) c.args.blocks.now now.i (records_in c.args.records.now) (records_in now.records) (records_in new.records) now.all c.in_ok-refs.refs b c.loop-i-test.true c.index-blocks-i.is now.invariant block in
    subst (λ all. PassesFirst c.args.scope.now new.scope (flag c.args.checked.now) c.args.blocks.now (now.i + 1) (records_in c.args.records.now) (records_in new.records) all) (sym c.in_ok-push.ensures.ok) more
