use Rattle.machine_spec.proofs.Rows.{row-threads}
use Rattle.machine_spec.proofs.laws.rows_touch_no_thread.Goals as goal

pub returns : goal.returns
returns c = row-threads
