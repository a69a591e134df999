use Rattle.scratch_values.specs.declared.index.Index.TheVariants.{At}
use Rattle.machine_spec.specs.DataRows.{deleted}
use Rattle.variables.proofs.Kept.{list_put, alike_put}
use Rattle.variables.proofs.store.delete.Goals as goal

pub returns-then-place-len-clause-new : goal.returns-then-place-len-clause-new
returns-then-place-len-clause-new c =
    list_put c.args.store.now c.args.index (λ l. deleted (At c.args.at) l) c.new.result c.replace-old.result c.deleted-new.result c.replace-old.new.self c.replace.new.self c.replace-old.ensures.old c.replace-old.ensures.new c.replace.ensures.new c.deleted-new.ensures.new

pub returns-then-place-len-clause-alike : goal.returns-then-place-len-clause-alike
returns-then-place-len-clause-alike c =
    alike_put c.args.store.now c.args.index c.new.result c.replace-old.result c.deleted-new.result c.replace-old.new.self c.replace.new.self c.replace-old.ensures.old c.replace-old.ensures.new c.replace.ensures.new c.deleted-new.ensures.short
