use Rattle.std.proofs.Common.{rules, ◌≡◌, true, sym, ◌∙◌}
use Rattle.sprite_tests.proofs.Once.{one_each_tested}
use Rattle.sprite_tests.proofs.looks_blocks_tests.check_numbers.Goals as goal

pub returns : goal.returns
returns g c =
    let counted : c.are_counted_once.result ≡ true = search rules in
    one_each_tested c.args.targets.now (sym (simp c.instances.ensures at c.are_counted_once.ensures) ∙ counted)
