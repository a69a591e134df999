-- Each argument in turn is put; the parameters end with the shortest of the three lists.
use Rattle.std.proofs.Common.{sym, ap, ◌∙◌}
use Rattle.std.specs.Option.{option_copied}
use Rattle.control_blocks.proofs.Params.{id_at, no_default, no_name, one_more}
use Rattle.control_blocks.proofs.procedures.params.Goals as goal

pub returns-in-None : goal.returns-in-None
returns-in-None c =
    no_name c.args.args.now c.args.prototype.now.ids c.args.prototype.now.names c.args.prototype.now.defaults c.loop-k.k c.id-item.result c.loop-k.params _
    (id_at _ _ _ _ c.as_slice-id-items.ensures c.loop-k-test.true c.id-item.is) c.loop-k.invariant
    (sym c.get.ensures ∙ ap option_copied c.in-None.is)

pub returns-in-None-get : goal.returns-in-None-get
returns-in-None-get c =
    no_default c.args.args.now c.args.prototype.now.ids c.args.prototype.now.names c.args.prototype.now.defaults c.loop-k.k c.id-item.result c.loop-k.params _
    (id_at _ _ _ _ c.as_slice-id-items.ensures c.loop-k-test.true c.id-item.is) c.loop-k.invariant
    c.in-Some.name.now (sym c.get.ensures ∙ ap option_copied c.in-Some.is) (sym c.get-in-loop-k.ensures ∙ ap option_copied c.in-None-get.is)

pub loop-k-preserved : goal.loop-k-preserved
loop-k-preserved c =
    one_more c.args.args.now c.args.prototype.now.ids c.args.prototype.now.names c.args.prototype.now.defaults c.loop-k.k c.id-item.result c.loop-k.params _
    (id_at _ _ _ _ c.as_slice-id-items.ensures c.loop-k-test.true c.id-item.is) c.loop-k.invariant
    c.in-Some.name.now c.in-Some-get.default.now c.put.new.params (sym c.get.ensures ∙ ap option_copied c.in-Some.is) (sym c.get-in-loop-k.ensures ∙ ap option_copied c.in-Some-get.is) c.in_ok-put.ensures
