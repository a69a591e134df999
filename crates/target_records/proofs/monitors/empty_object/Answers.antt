use Rattle.std.proofs.Common.{Ok, ap, sym}
use Rattle.project_json.specs.Tree.{object, no_fields}
use Rattle.target_records.proofs.Empty.{empty_text}
use Rattle.target_records.proofs.monitors.empty_object.Goals as goal

pub returns-in-Ok : goal.returns-in-Ok
returns-in-Ok c = ap Ok (sym (c.in-Ok.ensures.only (object no_fields) empty_text))
