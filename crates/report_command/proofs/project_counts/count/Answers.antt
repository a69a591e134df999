use Rattle.std.proofs.Common.{ap, arith, not, map, Vec, Bool, List}
use Rattle.std.specs.List.{count_by, sum_by}
use Rattle.std.specs.declared.alloc.Global.{Global}
use Rattle.project_check.specs.Loaded.{tables_of}
use Rattle.report_command.proofs.Counted.{few_loose, loose_in}
use Rattle.report_command.proofs.project_counts.count.Goals as goal

pub loose_in-requires : goal.loose_in-requires
loose_in-requires c =
    let tables = tables_of c.args.project.now in
    let few = few_loose tables (map (λ f. f.items) c.in_ok-flags.flags.items) c.in_ok-flags.ensures in
    let same = loose_in c.in_ok-flags.flags.items in
    let lent = ap (λ (fs : List (Vec Bool Global)). sum_by (λ f. count_by not f.items) fs) c.deref.ensures.value in
    let fits = c.block_count-blocks.type_inv in
    let is = c.block_count-blocks.ensures in
    omega arith
