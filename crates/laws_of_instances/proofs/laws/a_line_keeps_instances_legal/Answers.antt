use Rattle.machine_spec.specs.Line.{after}
use Rattle.laws_of_threads.proofs.KeepingLines.{line_keeps}
use Rattle.laws_of_threads.proofs.RowFits.{goes_is}
use Rattle.laws_of_instances.specs.Instances.{IsLegalCast}
use Rattle.laws_of_instances.proofs.Anything.{anywhere}
use Rattle.laws_of_instances.proofs.Kept.{AnyStatement, keeps}
use Rattle.laws_of_instances.proofs.laws.a_line_keeps_instances_legal.Goals as goal

pub returns : goal.returns
returns c p seed l w v good play fits legal h e =
    goes_is (after p l w) (IsLegalCast p seed) v e
    (line_keeps p AnyStatement (IsLegalCast p seed) good (anywhere p AnyStatement (λ k s. tt)) (keeps p seed play) l w fits legal h)
