use Rattle.std.proofs.Common.{ap, sym, ◌∙◌}
use Rattle.std.specs.Prelude.{Some}
use Rattle.machine_spec.specs.ScriptText.{text_reading}
use Rattle.input_script.proofs.LineWords.{ok_along, refused_along, utf8_line, no_text}
use Rattle.input_script.proofs.line_reader.reading_of.Goals as goal

pub returns-in-Ok-clause-ok : goal.returns-in-Ok-clause-ok
returns-in-Ok-clause-ok c =
    ok_along c.text_reading.result _ _
    (ap (text_reading c.args.number c.args.last) c.in-Ok.ensures.cases.0 ∙ utf8_line c.args.number c.args.last c.args.bytes.now c.in-Ok.ensures.cases.1)
    c.text_reading.ensures.ok

pub returns-in-Ok-clause-refused : goal.returns-in-Ok-clause-refused
returns-in-Ok-clause-refused c =
    refused_along c.text_reading.result _ _
    (ap (text_reading c.args.number c.args.last) c.in-Ok.ensures.cases.0 ∙ utf8_line c.args.number c.args.last c.args.bytes.now c.in-Ok.ensures.cases.1)
    c.text_reading.ensures.refused

pub returns-in-Err-clause-refused : goal.returns-in-Err-clause-refused
returns-in-Err-clause-refused c = ap Some (sym (no_text c.args.number c.args.last c.args.bytes.now c.in-Err.ensures.cases.0))
