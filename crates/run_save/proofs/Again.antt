-- The text of a legal world is loaded as the run of that world.
use Rattle.std.proofs.Common.{◌≡◌, ℕ, List, Result, Ok, Err, refl, sym, ap, ◌∙◌, subst}
use Rattle.rand_core.specs.Stream.{Stream}
use Rattle.project_check.specs.declared.project.Project.{Project}
use Rattle.machine_spec.specs.Tasks.{Task}
use Rattle.machine_spec.specs.World.{World, as_saved}
use Rattle.project_spec.specs.Basis.{Basis}
use Rattle.project_check.specs.Loaded.{basis_of}
use Rattle.saved_spec.specs.Laws.{OneAnswer}
use Rattle.saved_spec.specs.Legal.{told}
use Rattle.saved_spec.specs.Refusals.{IsAccepted, IsRefused}
use Rattle.saved_spec.specs.RunShapes.{Told}
use Rattle.saved_spec.specs.declared.refusals.SaveRefusal.{SaveRefusal}
use Rattle.saved_spec.specs.declared.refusals.SaveRefusal.TheVariants.{Json, Version, Shape, OtherProject, BadReference, BadThread, Spelling, NoMemory}
use Rattle.saved_spec.specs.Saved.{snapshot}
use Rattle.sequencer.specs.declared.run.Run.{Run}
use Rattle.laws_of_saving.specs.Good.{IsDigest}
use Rattle.laws_of_saving.specs.Laws.{TextIsAccepted, WorldIsTold}
use Rattle.saved_spec.specs.Worlds.{world_told}
use Rattle.run_save.specs.Loading.{IsThatRun, Loads, LoadsAgain}

-- bytes that tell a run are refused for want of memory alone

same_told : OneAnswer → (b : Basis) (digest bytes : List ℕ) (t u : Told) → IsAccepted b digest bytes t → IsAccepted b digest bytes u → t ≡ u
same_told one b digest bytes t u a h = let e = one b digest bytes (Ok t) (Ok u) a h in cc

other : (e : SaveRefusal) (u : Told) (r s : Result Told SaveRefusal) → r ≡ s → r ≡ Err e → s ≡ Ok u → ⊥
other e u r s same f g = cc (same, f, g)

refused_alone : OneAnswer → {R : Type 0} (stream : R → Stream) (p : Project) (digest bytes : List ℕ) (u : Told) (seed : ℕ) (w : World Task) (e : SaveRefusal) → IsAccepted (basis_of p) digest bytes u → IsRefused (basis_of p) digest bytes e → IsThatRun stream p seed w (Err e)
refused_alone one stream p digest bytes u seed w NoMemory a h = tt
refused_alone one stream p digest bytes u seed w Json a h = h a.0 a.1
refused_alone one stream p digest bytes u seed w (Shape path) a h = other (Shape path) u (Err (Shape path)) (Ok u) (one (basis_of p) digest bytes (Err (Shape path)) (Ok u) h a) refl refl
refused_alone one stream p digest bytes u seed w (Version n) a h = other (Version n) u (Err (Version n)) (Ok u) (one (basis_of p) digest bytes (Err (Version n)) (Ok u) h a) refl refl
refused_alone one stream p digest bytes u seed w (OtherProject kept given) a h = other (OtherProject kept given) u (Err (OtherProject kept given)) (Ok u) (one (basis_of p) digest bytes (Err (OtherProject kept given)) (Ok u) h a) refl refl
refused_alone one stream p digest bytes u seed w (BadReference path) a h = other (BadReference path) u (Err (BadReference path)) (Ok u) (one (basis_of p) digest bytes (Err (BadReference path)) (Ok u) h a) refl refl
refused_alone one stream p digest bytes u seed w (BadThread serial) a h = other (BadThread serial) u (Err (BadThread serial)) (Ok u) (one (basis_of p) digest bytes (Err (BadThread serial)) (Ok u) h a) refl refl
refused_alone one stream p digest bytes u seed w (Spelling at) a h = other (Spelling at) u (Err (Spelling at)) (Ok u) (one (basis_of p) digest bytes (Err (Spelling at)) (Ok u) h a) refl refl

-- and by nothing else

only_that : OneAnswer → {R : Type 0} (stream : R → Stream) (p : Project) (digest bytes : List ℕ) (result : Result (Run R × ℕ) SaveRefusal) → Loads stream p digest bytes result
    → (seed : ℕ) (w : World Task) → IsAccepted (basis_of p) digest bytes (told (snapshot digest seed w)) → world_told (basis_of p) (told (snapshot digest seed w)) ≡ as_saved w
    → IsThatRun stream p seed w result
only_that one stream p digest bytes (Ok r) h seed w again same =
    let u = told (snapshot digest seed w) in
    let e = same_told one (basis_of p) digest bytes h.0 u h.1 again in (
      h.2.world ∙ ap (world_told (basis_of p)) e ∙ same,
      h.3 ∙ ap (λ (t : Told). t.run.seed) e,
    )
only_that one stream p digest bytes (Err e) h seed w again same = refused_alone one stream p digest bytes (told (snapshot digest seed w)) seed w e again h

pub loads_again : OneAnswer → TextIsAccepted → WorldIsTold → {R : Type 0} (stream : R → Stream) (p : Project) (digest bytes : List ℕ) → IsDigest digest → (result : Result (Run R × ℕ) SaveRefusal) → Loads stream p digest bytes result
    → LoadsAgain stream p digest bytes result
loads_again one text world stream p digest bytes is_digest result h seed w good legal ranges e =
    only_that one stream p digest bytes result h seed w
    (subst (λ x. IsAccepted (basis_of p) digest x (told (snapshot digest seed w))) (sym e) (text (basis_of p) seed digest w good is_digest legal ranges))
    (world (basis_of p) seed digest w good legal)
