-- The text of a legal world is accepted, and tells one world.
use Rattle.std.proofs.Common.{◌≡◌, ℕ, List, sym, ap, ◌∙◌, subst}
use Rattle.machine_spec.specs.Tasks.{Task}
use Rattle.machine_spec.specs.World.{World, as_saved}
use Rattle.saved_spec.specs.Ranges.{IsRun, IsTask}
use Rattle.saved_spec.specs.Saved.{snapshot, saved_text}
use Rattle.saved_spec.specs.Tasks.{task}
use Rattle.project_spec.specs.Basis.{Basis}
use Rattle.saved_spec.specs.Legal.{told}
use Rattle.saved_spec.specs.Refusals.{IsAccepted}
use Rattle.laws_of_worlds.specs.Runs.{IsLegalRun}
use Rattle.laws_of_saving.specs.Good.{IsDigest, IsGood}
use Rattle.saved_spec.specs.Worlds.{world_told}
use Rattle.laws_of_saving.proofs.Accepted.{accepted_so, one_told}
use Rattle.laws_of_saving.proofs.Rules.{rules_hold}
use Rattle.laws_of_saving.proofs.ThreadRules.{no_bad_thread}
use Rattle.laws_of_saving.proofs.ThreadsTold.{the_world_told}
use Rattle.laws_of_saving.proofs.Told.{can_be_told}

pub text_accepted : (b : Basis) (seed : ℕ) (digest : List ℕ) (w : World Task) → IsGood b → IsDigest digest → IsLegalRun b.program seed w → IsRun IsTask (snapshot digest seed w)
    → IsAccepted b digest (saved_text task (snapshot digest seed w)) (told (snapshot digest seed w))
text_accepted b seed digest w good is h ranges =
    accepted_so b digest seed w (can_be_told b seed digest w is h ranges) (rules_hold b seed digest w good h ranges) (no_bad_thread b seed digest w good h ranges)

pub one_world : (b : Basis) (seed : ℕ) (digest : List ℕ) (w v : World Task) → IsGood b → IsDigest digest → IsLegalRun b.program seed w → IsLegalRun b.program seed v
    → IsRun IsTask (snapshot digest seed w) → IsRun IsTask (snapshot digest seed v) → saved_text task (snapshot digest seed w) ≡ saved_text task (snapshot digest seed v) → as_saved w ≡ as_saved v
one_world b seed digest w v good is h k ranges others e =
    let same = one_told b digest (saved_text task (snapshot digest seed v)) (told (snapshot digest seed w)) (told (snapshot digest seed v))
    (subst (λ bytes. IsAccepted b digest bytes (told (snapshot digest seed w))) e (text_accepted b seed digest w good is h ranges)) (text_accepted b seed digest v good is k others) in
    sym (the_world_told b seed digest w good h) ∙ ap (world_told b) same ∙ the_world_told b seed digest v good k
