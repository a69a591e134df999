use Rattle.laws_of_devices.proofs.Kept.{desk_line}
use Rattle.laws_of_devices.proofs.laws.a_line_keeps_devices_legal.Goals as goal

pub returns : goal.returns
returns c = desk_line
