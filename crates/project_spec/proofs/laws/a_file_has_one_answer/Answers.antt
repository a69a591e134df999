use Rattle.project_spec.proofs.OneRefusal.{one_refusal, accepted_is_not_refused, one_file}
use Rattle.project_spec.proofs.laws.a_file_has_one_answer.Goals as goal

pub returns-clause-one : goal.returns-clause-one
returns-clause-one c = one_refusal (record { tree = c.one_tree.ensures; fault = c.one_fault.ensures; apart = c.text_has_no_fault.ensures })

pub returns-clause-apart : goal.returns-clause-apart
returns-clause-apart c = accepted_is_not_refused (record { tree = c.one_tree.ensures; fault = c.one_fault.ensures; apart = c.text_has_no_fault.ensures })

pub returns-clause-file : goal.returns-clause-file
returns-clause-file c = one_file (record { tree = c.one_tree.ensures; fault = c.one_fault.ensures; apart = c.text_has_no_fault.ensures })
