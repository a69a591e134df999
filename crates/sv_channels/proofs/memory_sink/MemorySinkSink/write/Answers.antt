use Rattle.std.proofs.Common.{min, length, arith}
use Rattle.std.proofs.lemmas.List.{take_min}
use Rattle.std.proofs.lemmas.Grind.{common_steps}
use Rattle.sv_channels.proofs.memory_sink.MemorySinkSink.write.Goals as goal

-- the part that is appended has as many bytes as the pair says, or all of the piece
pub returns-in_ok-append-in-Some-clause-answer : goal.returns-in_ok-append-in-Some-clause-answer
returns-in_ok-append-in-Some-clause-answer c = (
  grind (arith, common_steps),
  (
    min c.in-Some.count (length c.args.bytes.now),
    omega arith,
    grind (arith, common_steps, take_min c.in-Some.count c.args.bytes.now),
  ),
)
