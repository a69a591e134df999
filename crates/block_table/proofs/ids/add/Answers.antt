use Rattle.std.proofs.Common.{◌∷◌, [], ◌++◌, ◌∙◌, sym, ap, subst, length}
use Rattle.block_table.specs.Places.{Notes, AreFirst}
use Rattle.block_table.proofs.Noting.{first_push}
use Rattle.block_table.proofs.ids.add.Goals as goal

pub returns-clause-places : goal.returns-clause-places
returns-clause-places c = λ first.
    let notes : Notes c.args.places.now c.note.new.places c.args.id.now (length c.args.ids.now) = rw (sym c.as_str.ensures, sym c.len.ensures) c.in_ok-note.ensures in
    subst (AreFirst c.note.new.places) (sym (c.in_ok-push.ensures.ok ∙ ap (λ x. c.args.ids.now ++ x ∷ []) c.in_ok-copy.ensures.cases))
    (first_push c.args.places.now c.note.new.places c.args.ids.now c.args.id.now notes first)
