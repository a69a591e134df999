use Rattle.std.proofs.Common.{length, ap, sym, ◌∙◌, subst, arith}
use Rattle.std.specs.List.{All}
use Rattle.target_records.specs.Costumes.{IsDressed}
use Rattle.saved_stores.proofs.Fitting.{IsBounded}
use Rattle.saved_stores.proofs.Keeping.{rules_hold}
use Rattle.saved_stores.proofs.stores.stores_of.Goals as goal

pub stores_again-requires : goal.stores_again-requires
stores_again-requires c =
    let bounds : IsBounded c.args.project.now = record {
      as_many = ap (λ r. length r.targets) (sym c.records-records.ensures.records) ∙ c.records-records.ensures.targets;
      few = omega (arith, c.target_count-targets.ensures);
      dressed = subst (λ r. All IsDressed r.targets) c.records-records.ensures.records c.records-records.ensures.dressed;
      blocks = omega (arith, c.block_count-blocks.ensures);
    } in
    rules_hold c.args.project.now c.args.told bounds c.requires
