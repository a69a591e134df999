use Rattle.std.proofs.Common.{sym, ap, ◌∙◌, bytes_eq}
use Rattle.std.specs.List.{list_any}
use Rattle.opcode_table.specs.Views.{field_of}
use Rattle.name_resolving.proofs.AmongTexts.{list_any-map}
use Rattle.name_resolving.proofs.field_names.is_own_field.Goals as goal

pub returns-in-Known : goal.returns-in-Known
returns-in-Known c =
    let test = bytes_eq c.args.part.now in
    rw c.in-Known.is (c.is_among.ensures ∙ sym (list_any-map test field_of c.spec.result.fields.now) ∙ ap (list_any test) c.spec.ensures.fields)
