use Rattle.project_json.proofs.Utf8.{to_utf8, from_utf8, chars_utf8}
use Rattle.project_json.proofs.strings.chars_of.Goals as goal

pub from_utf8-requires : goal.from_utf8-requires
from_utf8-requires c = to_utf8 _ (chars_utf8 c.args.bytes.now _ _ c.in_ok-text.ensures (from_utf8 c.args.bytes.now c.requires))
