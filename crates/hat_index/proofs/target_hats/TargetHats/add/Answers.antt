use Rattle.std.proofs.Common.{List, ◌++◌, ap, sym, subst}
use Rattle.std.specs.Prelude.{option_to_list, OnOk}
use Rattle.hat_index.specs.Hats.{Hat, hat_by, hat_at, IsTarget}
use Rattle.hat_index.proofs.Adding.{added_none}
use Rattle.hat_index.proofs.target_hats.TargetHats.add.Goals as goal

pub returns-in-Some : goal.returns-in-Some
returns-in-Some c =
    subst (λ o. OnOk c.add_block.result ((hats : List Hat) → IsTarget c.args.self.now hats → IsTarget c.add_block.new.self (hats ++ option_to_list (hat_by c.args.id o))))
    c.in-Some.ensures c.add_block.ensures

pub returns-in-None : goal.returns-in-None
returns-in-None c = added_none c.args.self.now (hat_at c.args.blocks.now c.args.id) (sym (ap (hat_by c.args.id) c.in-None.ensures))
