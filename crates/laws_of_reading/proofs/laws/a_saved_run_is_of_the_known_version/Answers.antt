use Rattle.std.proofs.Common.{refl}
use Rattle.saved_spec.specs.Saved.{saved}
use Rattle.laws_of_reading.proofs.laws.a_saved_run_is_of_the_known_version.Goals as goal

pub returns : goal.returns
unfolding saved
returns c s = refl
