use Rattle.project_json.proofs.Utf8.{to_utf8, from_utf8, quote_utf8}
use Rattle.project_json.proofs.strings.name_of.Goals as goal

pub chars_of-requires : goal.chars_of-requires
chars_of-requires c = to_utf8 _ (quote_utf8 c.args.bytes.now _ c.in_ok-rest.ensures (from_utf8 c.args.bytes.now c.requires))
