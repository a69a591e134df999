use Rattle.std.proofs.Common.{◌≡◌, ◌<◌, ◌+◌, false, List, ◌∷◌, length, drop, map, flat_map, get_or, sym, ap, ◌∙◌, arith}
use Rattle.std.proofs.lemmas.List.{drop_more}
use Rattle.std.specs.List.{zip}
use Rattle.std.specs.Vec.Iter.{into_iter_items}
use Rattle.std.proofs.lemmas.Result.{err_from_is_err_and}
use Rattle.project_spec.specs.Limits.{Measure, block_measures, first_too_many}
use Rattle.block_table.specs.FileBlock.{block_in}
use Rattle.block_table.specs.Table.{origins}
use Rattle.block_table.proofs.Measures.{too_many-row, refuses-row, next_row}
use Rattle.block_table.proofs.text_lengths.short_blocks.Goals as goal

pub returns-in_err-block : goal.returns-in_err-block
returns-in_err-block c =
    let at = c.loop-block in
    let n = at.number in
    let ids = c.args.ids.now in
    let lists = c.args.lists.now in
    let x = c.in-Some.block in
    let rest = into_iter_items c.next.new.self in
    let id = c.index-ids-number.result in
    let is_list = get_or lists n false in
    let steps : into_iter_items at.block-iterator ≡ x ∷ rest = c.in-Some.ensures.steps.0 in
    let more = ap length steps in
    let ids_all = at.invariant.3 in
    let lists_all = at.invariant.4 in
    let in_ids : n < length ids = omega arith in
    let in_lists : n < length lists = omega arith in
    let whole : List Measure = flat_map (block_measures c.args.place.now) (zip (origins ids lists) (map block_in c.args.blocks)) in
    let p = err_from_is_err_and c.from_residual.result c.from_residual.ensures.1 in
    rw (p.1, p.2)
    (refuses-row c.args.place.now ids lists n id is_list (block_in x) (map block_in rest) whole
    (drop_more ids n id in_ids ∙ ap (λ y. y ∷ drop (n + 1) ids) (sym c.index-ids-number.is))
    (drop_more lists n false in_lists)
    (ap (λ bs. first_too_many (flat_map (block_measures c.args.place.now) (zip (origins (drop n ids) (drop n lists)) (map block_in bs)))) (sym steps) ∙ at.invariant.1)
    c.in_err-block.field-0.0 c.in_err-block.ensures)

pub loop-block-preserved : goal.loop-block-preserved
loop-block-preserved c =
    let at = c.loop-block in
    let n = at.number in
    let ids = c.args.ids.now in
    let lists = c.args.lists.now in
    let x = c.in-Some.block in
    let rest = into_iter_items c.next.new.self in
    let id = c.index-ids-number.result in
    let is_list = get_or lists n false in
    let steps : into_iter_items at.block-iterator ≡ x ∷ rest = c.in-Some.ensures.steps.0 in
    let gone = c.in-Some.ensures.steps.1 in
    let more = ap length steps in
    let left = at.invariant.2 in
    let ids_all = at.invariant.3 in
    let lists_all = at.invariant.4 in
    let in_ids : n < length ids = omega arith in
    let in_lists : n < length lists = omega arith in
    let whole : List Measure = flat_map (block_measures c.args.place.now) (zip (origins ids lists) (map block_in c.args.blocks)) in (
      next_row block_in at.short c.push.new.self _ c.in_ok-block.block x (into_iter_items at.block-iterator) rest c.in_ok-push.ensures.ok c.in_ok-block.ensures.0 steps at.invariant.0,
      too_many-row c.args.place.now ids lists n id is_list (block_in x) (map block_in rest) whole
          (drop_more ids n id in_ids ∙ ap (λ y. y ∷ drop (n + 1) ids) (sym c.index-ids-number.is))
          (drop_more lists n false in_lists)
          (ap (λ bs. first_too_many (flat_map (block_measures c.args.place.now) (zip (origins (drop n ids) (drop n lists)) (map block_in bs)))) (sym steps) ∙ at.invariant.1)
          c.in_ok-block.ensures.1,
      omega arith,
      omega arith,
      omega arith,
    )
