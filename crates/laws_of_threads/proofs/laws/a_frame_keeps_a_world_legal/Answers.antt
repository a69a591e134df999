use Rattle.machine_spec.specs.Frame.{frame}
use Rattle.laws_of_threads.specs.Worlds.{IsLegalWorld}
use Rattle.laws_of_threads.proofs.RowFits.{goes_is}
use Rattle.laws_of_threads.proofs.Framing.{frame_legal}
use Rattle.laws_of_threads.proofs.laws.a_frame_keeps_a_world_legal.Goals as goal

pub returns : goal.returns
returns c p b w v good le h e = goes_is (frame p b w) (IsLegalWorld p) v e (frame_legal p good b w le h)
