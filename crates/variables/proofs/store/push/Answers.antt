use Rattle.std.proofs.lemmas.Result.{on_ok_weaker, on_err_weaker}
use Rattle.machine_spec.specs.DataRows.{added}
use Rattle.variables.proofs.Kept.{list_put, list_back, alike_put}
use Rattle.variables.proofs.store.push.Goals as goal

pub returns-clause-ok : goal.returns-clause-ok
returns-clause-ok c =
    on_ok_weaker c.added-new.result.1
    (list_put c.args.store.now c.args.index (λ l. added c.args.item l) c.new.result c.replace-old.result c.added-new.result.0 c.replace-old.new.self c.replace.new.self c.replace-old.ensures.old c.replace-old.ensures.new c.replace.ensures.new)
    c.added-new.ensures.ok

pub returns-clause-err : goal.returns-clause-err
returns-clause-err c =
    on_err_weaker c.added-new.result.1
    (list_back c.args.store.now c.args.index c.new.result c.replace-old.result c.added-new.result.0 c.replace-old.new.self c.replace.new.self c.replace-old.ensures.old c.replace-old.ensures.new c.replace.ensures.new)
    c.added-new.ensures.err

pub returns-clause-alike : goal.returns-clause-alike
returns-clause-alike c =
    alike_put c.args.store.now c.args.index c.new.result c.replace-old.result c.added-new.result.0 c.replace-old.new.self c.replace.new.self c.replace-old.ensures.old c.replace-old.ensures.new c.replace.ensures.new c.added-new.ensures.short
