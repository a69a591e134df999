use Rattle.machine_spec.specs.Slice.{executing}
use Rattle.machine_spec.proofs.Executions.{slice-executions, executions-join}
use Rattle.machine_spec.proofs.laws.slices_are_executions.Goals as goal

pub returns-clause-executions : goal.returns-clause-executions
returns-clause-executions c = λ p budget i n m w. slice-executions (executing p i) budget n m w

pub returns-clause-join : goal.returns-clause-join
returns-clause-join c = λ p budget i n more m w rest. executions-join (executing p i) budget n more m w rest
