use Rattle.std.proofs.Common.{◌<◌, length, arith, Some, refl, ap, sym, ◌∙◌}
use Rattle.std.proofs.lemmas.Option.{slice_get-get_or}
use Rattle.std.proofs.lemmas.Result.{on_ok_weaker}
use Rattle.hat_index.specs.Starts.{Adds}
use Rattle.hat_index.specs.Hats.{kind_number}
use Rattle.hat_index.proofs.Adding.{added_block}
use Rattle.hat_index.proofs.target_hats.TargetHats.add_block.Goals as goal

pub returns-in_ok-text : goal.returns-in_ok-text
returns-in_ok-text c =
    let within : c.kind_number-row.result < length c.args.self.now.rows.items = grind arith in
    on_ok_weaker c.add.result
    (λ (adds : Adds c.index_mut.result.now c.add.new.self c.as_str.result.now (c.args.id, c.next_of.result)).
    added_block c.args.self.now (record { rows = _ }) c.index_mut.result.now c.add.new.self c.args.id c.args.block.now
    c.opcode_of-op.result c.kind_number-row.result c.as_str.result.now c.next_of.result
    c.opcode_of-op.ensures (c.kind_number-row.ensures.value ∙ ap kind_number c.hat_kind.ensures) (c.as_str.ensures ∙ c.in_ok-text.ensures) c.next_of.ensures
    within
    (slice_get-get_or c.args.self.now.rows.items c.kind_number-row.result _ within ∙ ap Some (sym c.index_mut.ensures.value))
    refl adds)
    c.add.ensures
