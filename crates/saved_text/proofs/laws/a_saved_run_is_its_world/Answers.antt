use Rattle.std.proofs.Common.{refl}
use Rattle.saved_spec.specs.Saved.{saved}
use Rattle.saved_text.proofs.WhatIsLeft.{threads_kept}
use Rattle.saved_text.proofs.laws.a_saved_run_is_its_world.Goals as goal

pub returns : goal.returns
unfolding saved
returns c sheets digest seed w all = rw (threads_kept sheets w.threads.list all) refl
