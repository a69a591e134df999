use Rattle.saved_text.proofs.levels.+send_topmost.Given as goal

abbrev pub decreases-send_topmost : goal.decreases-send_topmost
decreases-send_topmost g l = l.count
