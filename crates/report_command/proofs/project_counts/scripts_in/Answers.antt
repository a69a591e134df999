use Rattle.std.proofs.Common.{arith, ◌<◌, length, ap, ◌∙◌}
use Rattle.std.specs.List.{count_by}
use Rattle.project_spec.specs.Linked.{is_head}
use Rattle.project_check.specs.Loaded.{tables_of}
use Rattle.report_command.proofs.Counted.{more_heads, few_heads}
use Rattle.report_command.proofs.project_counts.scripts_in.Goals as goal

pub overflow_cast-total : goal.overflow_cast-total
overflow_cast-total c =
    let end = c.target_count-target-end.ensures in
    let t = c.loop-target-test.true in
    let within : c.loop-target.target < length (tables_of c.args.project.now) = omega arith in
    let n = ap length c.blocks-in-loop-target-2.ensures.blocks in
    let le = c.heads_of.ensures.within in
    let fits = c.block_count-few.type_inv in
    let is = c.block_count-few.ensures in
    let few = few_heads (tables_of c.args.project.now) c.loop-target.target c.blocks-in-loop-target.result.now.blocks within c.blocks-in-loop-target.ensures.blocks c.heads_of.result c.loop-target.total (omega arith) c.loop-target.invariant in
    omega arith

pub overflow_add-total : goal.overflow_add-total
overflow_add-total c =
    let end = c.target_count-target-end.ensures in
    let t = c.loop-target-test.true in
    let within : c.loop-target.target < length (tables_of c.args.project.now) = omega arith in
    let n = ap length c.blocks-in-loop-target-2.ensures.blocks in
    let le = c.heads_of.ensures.within in
    let fits = c.block_count-few.type_inv in
    let is = c.block_count-few.ensures in
    let few = few_heads (tables_of c.args.project.now) c.loop-target.target c.blocks-in-loop-target.result.now.blocks within c.blocks-in-loop-target.ensures.blocks c.heads_of.result c.loop-target.total (omega arith) c.loop-target.invariant in
    omega arith

pub loop-target-preserved : goal.loop-target-preserved
loop-target-preserved c =
    let end = c.target_count-target-end.ensures in
    let t = c.loop-target-test.true in
    let within : c.loop-target.target < length (tables_of c.args.project.now) = omega arith in
    more_heads (tables_of c.args.project.now) c.loop-target.target c.blocks-in-loop-target.result.now.blocks within c.blocks-in-loop-target.ensures.blocks c.heads_of.result c.loop-target.total
    (c.heads_of.ensures.value ∙ ap (count_by is_head) c.blocks-in-loop-target-2.ensures.blocks) c.loop-target.invariant
