use Rattle.std.proofs.Common.{refl, sym}
use Rattle.saved_spec.specs.Saved.{saved}
use Rattle.saved_spec.proofs.Telling.{same_threads}
use Rattle.saved_spec.proofs.laws.a_saved_run_tells_its_world.Goals as goal

pub returns : goal.returns
unfolding saved
returns c s = rw (sym (same_threads s.threads)) refl
