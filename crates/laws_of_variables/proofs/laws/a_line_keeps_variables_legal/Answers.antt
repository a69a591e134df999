use Rattle.machine_spec.specs.Line.{after}
use Rattle.laws_of_threads.specs.Playable.{IsNamed}
use Rattle.laws_of_threads.proofs.KeepingLines.{line_keeps}
use Rattle.laws_of_threads.proofs.RowFits.{goes_is}
use Rattle.laws_of_variables.specs.Variables.{IsLegalVariables}
use Rattle.laws_of_variables.proofs.Kept.{keeps}
use Rattle.laws_of_variables.proofs.laws.a_line_keeps_variables_legal.Goals as goal

pub returns : goal.returns
returns c p l w v good playable line legal variables e =
    goes_is (after p l w) (IsLegalVariables p) v e (line_keeps p (IsNamed p.records) (IsLegalVariables p) good playable.named (keeps p playable) l w line legal variables)
