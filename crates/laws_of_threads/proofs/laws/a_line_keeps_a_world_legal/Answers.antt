use Rattle.machine_spec.specs.Line.{after}
use Rattle.laws_of_threads.specs.Worlds.{IsLegalWorld}
use Rattle.laws_of_threads.proofs.RowFits.{goes_is}
use Rattle.laws_of_threads.proofs.Lines.{line_legal}
use Rattle.laws_of_threads.proofs.laws.a_line_keeps_a_world_legal.Goals as goal

pub returns : goal.returns
returns c p l w v good b h e = goes_is (after p l w) (IsLegalWorld p) v e (line_legal p good l w b h)
