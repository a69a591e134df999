use Rattle.input_script.proofs.LineWords.{ok_along, refused_along, several_words}
use Rattle.input_script.proofs.line_reader.by_first.Goals as goal

pub returns-in-Some-clause-ok : goal.returns-in-Some-clause-ok
returns-in-Some-clause-ok c = ok_along c.by_rest.result _ _ (several_words c.args.number c.args.last _ c.in-Some.rest.now c.args.text.now (rw c.in-Some.is at c.cut.ensures.parted) (rw c.in-Some.is at c.cut.ensures.rest)) c.by_rest.ensures.ok

pub returns-in-Some-clause-refused : goal.returns-in-Some-clause-refused
returns-in-Some-clause-refused c = refused_along c.by_rest.result _ _ (several_words c.args.number c.args.last _ c.in-Some.rest.now c.args.text.now (rw c.in-Some.is at c.cut.ensures.parted) (rw c.in-Some.is at c.cut.ensures.rest)) c.by_rest.ensures.refused
