use Rattle.std.proofs.Common.{◌≡◌, refl, subst}
use Rattle.machine_spec.specs.Tasks.{Task}
use Rattle.saved_spec.specs.Saved.{Snapshot, saved, saved_text}
use Rattle.saved_spec.specs.Tasks.{task}
use Rattle.laws_of_json.proofs.ReadingBack.{read-compact_text}
use Rattle.laws_of_json.proofs.Utf8.{IsUtf8-compact_text}
use Rattle.saved_spec.proofs.Telling.{same_threads}
use Rattle.saved_spec.specs.Kept.{thread}
use Rattle.saved_spec.specs.Legal.{told}
use Rattle.laws_of_reading.specs.Told.{CanBeTold}
use Rattle.laws_of_reading.proofs.Fitting.{Fits}
use Rattle.laws_of_reading.proofs.Writable.{run_fits}
use Rattle.laws_of_reading.proofs.laws.the_text_of_a_run_reads_back.Goals as goal

written_so : (s : Snapshot Task) → saved thread (told s).run ≡ saved task s
unfolding saved
written_so s = rw (same_threads s.threads) refl

fits : (s : Snapshot Task) → CanBeTold s → Fits 127 (saved task s)
fits s h = subst (Fits 127) (written_so s) (run_fits s h)

pub returns : goal.returns
unfolding saved_text
returns c s h =
    let f = fits s h in
    (IsUtf8-compact_text (saved task s) f.plain f.utf8, read-compact_text (saved task s) f.plain f.deep)
