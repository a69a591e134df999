use Rattle.std.proofs.Common.{sym}
use Rattle.scratch_number.proofs.Scanning.{base_of-short}
use Rattle.scratch_number.proofs.numerals.base_of.Goals as goal

pub returns-then-text-lt2-clause-value : goal.returns-then-text-lt2-clause-value
returns-then-text-lt2-clause-value c = sym (base_of-short c.args.text.now c.if-text-lt2.true)
