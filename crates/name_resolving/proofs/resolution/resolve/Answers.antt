use Rattle.std.proofs.Common.{◌≡◌, ◌+◌, ◌<◌, length, map, get_or, sym, subst, arith}
use Rattle.std.proofs.lemmas.List.{length-map}
use Rattle.target_records.specs.Records.{records_in}
use Rattle.name_resolving.specs.Blocks.{flag_of}
use Rattle.name_resolving.proofs.TargetsPassed.{PassesTargets, targets-more, room-at, blocks-at}
use Rattle.name_resolving.proofs.resolution.resolve.Goals as goal
use Rattle.name_resolving.proofs.resolution.resolve.Goals.{After-flags}

-- the blocks of the target whose turn it is
turn : (c : After-flags) → (c.loop-t.t < length (map (λ x. x.blocks) c.args.tables.now)) × (c.blocks-blocks.result.now ≡ get_or (map (λ x. x.blocks) c.args.tables.now) c.loop-t.t c.blocks-blocks.result.now)
turn c =
    let l : c.loop-t.t < length c.args.tables.now = omega arith in
    (let m = length-map c.args.tables.now (λ x. x.blocks) in omega (arith, m, l), blocks-at c.args.tables.now c.loop-t.t c.index-tables-place.result c.blocks-blocks.result.now l c.index-tables-place.is c.blocks-blocks.ensures.blocks)

pub resolve_target-requires-clause-room : goal.resolve_target-requires-clause-room
resolve_target-requires-clause-room c =
    let now = c.loop-t in
    let tables = map (λ x. x.blocks) c.args.tables.now in
    let here = turn c in
    let room = room-at now.scope (flag_of c.args.checked.now) tables now.t (records_in c.args.records.now) (records_in now.records) now.all c.blocks-blocks.result.now here.0 here.1 c.requires.room now.invariant in
    rw c.in_ok-enter.ensures.target room

pub loop-t-preserved : goal.loop-t-preserved
loop-t-preserved c =
    let now = c.loop-t in
    let new = c.resolve_target.new in
    let tables = map (λ x. x.blocks) c.args.tables.now in
    let checked = flag_of c.args.checked.now in
    let here = turn ((goal.at.loop-t-preserved c).After-flags) in
    let passed = rw c.flags.ensures at c.in_ok-names.ensures in
    let more = targets-more now.scope c.enter.new.self new.scope checked tables now.t (records_in c.args.records.now) (records_in now.records) (records_in new.records) now.all c.in_ok-names.names c.blocks-blocks.result.now here.0 here.1 now.invariant c.in_ok-enter.ensures.target passed in
    subst (λ all. PassesTargets new.scope checked tables (now.t + 1) (records_in c.args.records.now) (records_in new.records) all) (sym c.in_ok-push.ensures.ok) more
