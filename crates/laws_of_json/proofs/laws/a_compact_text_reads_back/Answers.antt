use Rattle.laws_of_json.proofs.ReadingBack.{read-compact_text}
use Rattle.laws_of_json.proofs.laws.a_compact_text_reads_back.Goals as goal

pub returns : goal.returns
returns c = read-compact_text
