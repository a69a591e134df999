use Rattle.laws_of_resuming.proofs.Redraw.{lines_alike}
use Rattle.laws_of_resuming.proofs.laws.redraw_requests_are_not_told.Goals as goal

pub returns : goal.returns
returns c p n last w v lines e = lines_alike p n last w v lines e
