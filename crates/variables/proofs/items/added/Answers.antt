use Rattle.std.proofs.Common.{sym, ◌∙◌, arith}
use Rattle.std.proofs.lemmas.Result.{on_ok_weaker}
use Rattle.machine_spec.specs.DataRows.{most_items}
use Rattle.variables.proofs.Limits.{pushed_short, push_full, short_when_cut}
use Rattle.variables.proofs.items.added.Goals as goal

pub returns-then-len-ge-MOST_ITEMS-clause-ok : goal.returns-then-len-ge-MOST_ITEMS-clause-ok
returns-then-len-ge-MOST_ITEMS-clause-ok c = c.shortened.ensures ∙ sym (push_full most_items c.args.items c.args.item (omega arith))

pub returns-then-len-ge-MOST_ITEMS-clause-short : goal.returns-then-len-ge-MOST_ITEMS-clause-short
returns-then-len-ge-MOST_ITEMS-clause-short c = λ h. short_when_cut _ _ c.shortened.ensures

pub returns-clause-ok : goal.returns-clause-ok
returns-clause-ok c =
    on_ok_weaker c.push-pushed.result (λ e. pushed_short most_items c.args.items c.args.item c.push-pushed.new.self (omega arith) e) c.push-pushed.ensures.ok
