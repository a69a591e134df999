-- The code of the block that has called.
use Rattle.std.proofs.Common.{◌≡◌, sym, ap, ◌∙◌}
use Rattle.std.specs.Prelude.{◌&&◌, bytes_eq}
use Rattle.cached_blocks.proofs.Told.{held}
use Rattle.project_check.specs.Loaded.{sheet_at}
use Rattle.project_spec.specs.Trees.{call_code}
use Rattle.thread_moves.proofs.procedure_calls.has_called.Goals as goal

pub returns : goal.returns
returns c = λ u.
    let b = held (sheet_at c.args.target c.args.project.now) _ _ c.linked.ensures.block in
    let same : u.block ≡ b.0 = let h = u.holds in let k = c.in-Some.is in let f = u.found in let g = b.1 in cc in
    let code_is : c.linked.result.now.code ≡ call_code u.block.mutation = ap (λ x. x.code) b.2 ∙ ap (λ x. call_code x.mutation) (sym same) in
    c.eq.ensures ∙ ap (λ t. bytes_eq t c.args.code.now) (c.as_str.ensures ∙ code_is)
    ∙ ap (λ x. x && bytes_eq (call_code u.block.mutation) c.args.code.now) (sym c.if-not-is_open_call.false ∙ c.is_open_call.ensures)
