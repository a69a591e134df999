use Rattle.std.proofs.lemmas.Str.{IsUtf8-from_ascii}
use Rattle.scratch_number.proofs.number_text.NumText.as_str.Goals as goal

pub unreachable-requires : goal.unreachable-requires
unreachable-requires c = absurd (c.in-Err.ensures.cases.0 (IsUtf8-from_ascii _ c.self.invariant.1))
