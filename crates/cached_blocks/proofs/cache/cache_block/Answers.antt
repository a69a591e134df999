use Rattle.std.proofs.Common.{◌≡◌, ap, ◌∙◌}
use Rattle.cached_blocks.specs.Cached.{sheet_with, cached_inputs}
use Rattle.cached_blocks.proofs.Names.{in-order}
use Rattle.cached_blocks.proofs.Blocks.{same-block}
use Rattle.cached_blocks.proofs.cache.cache_block.Goals as goal

pub returns : goal.returns
returns c =
    let sheet = sheet_with c.args.blocks.now c.args.refs.now in
    let inputs : c.in_ok-inputs.inputs ≡ cached_inputs sheet c.args.k c.args.block.now = rw c.as_slice.ensures at c.in_ok-inputs.ensures in
    same-block c.opcode-op.ensures inputs
    (in-order sheet c.args.k c.args.block.now c.opcode-op.result c.in_ok-inputs.inputs c.as_slice-2.result.now c.are_in_order-in_order.result c.opcode-op.ensures inputs c.as_slice-2.ensures c.are_in_order-in_order.ensures)
    (rw c.as_slice-3.ensures at c.in_ok-cached_fields.ensures)
    c.linked.ensures
    (rw c.as_slice-4.ensures at c.branch-as_slice.ensures)
    (rw c.as_slice-5.ensures at c.branch-as_slice-2.ensures)
    c.in_ok-call_code.ensures
