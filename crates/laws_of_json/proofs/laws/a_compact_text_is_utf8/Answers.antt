use Rattle.laws_of_json.proofs.Utf8.{IsUtf8-compact_text}
use Rattle.laws_of_json.proofs.laws.a_compact_text_is_utf8.Goals as goal

pub returns : goal.returns
returns c = IsUtf8-compact_text
