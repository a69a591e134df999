-- A fact of the outcomes of the words `resume`, by how far the call comes.
use Rattle.std.proofs.Common.{◌≡◌, ℕ, ◌<◌, ◌≤◌, List, length, Option, None, Some, refl, sym, subst, arith}
use Rattle.std.specs.Prelude.{IfSome, IsSomeAnd}
use Rattle.std.specs.FinMap.{get}
use Rattle.sv_channels.specs.Files.{Files}
use Rattle.sv_channels.specs.Shelf.{IsHeldAbove}
use Rattle.project_spec.specs.declared.refusals.Refusal.{Refusal}
use Rattle.project_spec.specs.declared.refusals.Refusal.TheVariants as refusal
use Rattle.project_spec.specs.Basis.{Basis}
use Rattle.saved_spec.specs.Laws.{OneAnswer, OneRefusal}
use Rattle.saved_spec.specs.declared.refusals.SaveRefusal.TheVariants as save_refusal
use Rattle.run_save.specs.declared.status.Which.TheVariants as which
use Rattle.play_command.specs.Command.{ResumeForm, resume}
use Rattle.saved_spec.specs.Saved.{saved_limit}
use Rattle.project_spec.specs.Limits.{project_limit}
use Rattle.play_command.specs.Outcome.{Loading, refused, accepted, Bases, Continuing, rejected, Continues, OfSaved, too_large, not_accepted, Outcome, ends, loaded, told_to}
use Rattle.play_command.specs.Promise.{Promised, Found}
use Rattle.play_command.proofs.Reach.{after_basis, after_saved}
use Rattle.play_command.proofs.Files.{Both, of_large, read_bytes, of_bytes}
use Rattle.play_command.proofs.Readings.{IsFetchedFile, basis_reading, fetched_ok, fetched_large, one_loading, one_continuing}

-- the project is not accepted
of_refused : (o : Option (List ℕ)) (r : Refusal) (saved : Option (List ℕ)) (c : Continuing) → OfSaved o (refused r) saved c
of_refused None r saved c = tt
of_refused (Some bytes) r saved c = tt

-- the project file is too long
pub resume_large : (P : Outcome → Type 0) (held : Option Files) (form : ResumeForm) → IsHeldAbove held form.project project_limit → P (ends (too_large which.Project project_limit)) → Both held (resume form) P
resume_large P None form h p = record { all = tt; some = tt }
resume_large P (Some files) form h p = record {
  all = λ loading l continuing c. subst P (sym (fetched_large which.Project project_limit (get files form.project) (λ bytes. loaded loading (after_basis form files bytes continuing)) h)) p;
  some = (
    refused refusal.NoMemory,
    of_large Bases (get files form.project) (refused refusal.NoMemory) h,
    (
      rejected save_refusal.Json,
      of_refused (get files form.project) refusal.NoMemory (get files form.saved) (rejected save_refusal.Json),
      subst P (sym (fetched_large which.Project project_limit (get files form.project) (λ bytes. loaded (refused refusal.NoMemory) (after_basis form files bytes (rejected save_refusal.Json))) h)) p,
    ),
  );
}

-- the project file was fetched
pub resume_loading : (P : Outcome → Type 0) (held : Option Files) (form : ResumeForm) (bytes : List ℕ) → IsFetchedFile held form.project project_limit bytes
    → ((files : Files) (loading : Loading Basis) (continuing : Continuing) → P (loaded loading (after_basis form files bytes continuing))) → Promised held (resume form) P
resume_loading P None form bytes h k = tt
resume_loading P (Some files) form bytes h k = λ loading l continuing c.
    subst P (sym (fetched_ok which.Project project_limit (get files form.project) bytes (λ b. loaded loading (after_basis form files b continuing)) h.is h.small)) (k files loading continuing)

-- the project is refused
pub resume_refused : (P : Outcome → Type 0) (held : Option Files) (form : ResumeForm) (bytes : List ℕ) (r : Refusal) → IsFetchedFile held form.project project_limit bytes → Bases bytes (refused r) → P (ends (not_accepted r)) → Both held (resume form) P
resume_refused P None form bytes r h is p = record { all = tt; some = tt }
resume_refused P (Some files) form bytes r h is p = record {
  all = λ loading l continuing c.
      subst P (sym (fetched_ok which.Project project_limit (get files form.project) bytes (λ b. loaded loading (after_basis form files b continuing)) h.is h.small))
      (subst (λ x. P (loaded x (after_basis form files bytes continuing))) (one_loading (Bases bytes) (basis_reading bytes) (refused r) loading is (read_bytes Bases (get files form.project) bytes loading h.is h.small l)) p);
  some = (
    refused r,
    of_bytes Bases (get files form.project) bytes (refused r) h.is is,
    (
      rejected save_refusal.Json,
      of_refused (get files form.project) r (get files form.saved) (rejected save_refusal.Json),
      subst P (sym (fetched_ok which.Project project_limit (get files form.project) bytes (λ b. loaded (refused r) (after_basis form files b (rejected save_refusal.Json))) h.is h.small)) p,
    ),
  );
}

-- the project is accepted

continues_of : (b : Basis) (project : List ℕ) (o : Option (List ℕ)) (loading : Loading Basis) (saved : Option (List ℕ)) (bytes : List ℕ) (continuing : Continuing) → o ≡ Some project → loading ≡ accepted b → saved ≡ Some bytes → length bytes ≤ saved_limit
    → OfSaved o loading saved continuing → Continues b project bytes continuing
continues_of b project o loading saved bytes continuing e f g small h =
    subst (λ s. OfSaved (Some project) (accepted b) s continuing) g (subst (λ l. OfSaved (Some project) l saved continuing) f (subst (λ x. OfSaved x loading saved continuing) e h)) small

pub resume_accepted : (P : Outcome → Type 0) (held : Option Files) (form : ResumeForm) (bytes : List ℕ) (b : Basis) → IsFetchedFile held form.project project_limit bytes → Bases bytes (accepted b)
    → ((files : Files) (continuing : Continuing) → held ≡ Some files → ((saved : List ℕ) → get files form.saved ≡ Some saved → length saved ≤ saved_limit → Continues b bytes saved continuing) → P (after_basis form files bytes continuing b))
    → Promised held (resume form) P
resume_accepted P None form bytes b h is k = tt
resume_accepted P (Some files) form bytes b h is k = λ loading l continuing c.
    let same : accepted b ≡ loading = one_loading (Bases bytes) (basis_reading bytes) (accepted b) loading is (read_bytes Bases (get files form.project) bytes loading h.is h.small l) in
    subst P (sym (fetched_ok which.Project project_limit (get files form.project) bytes (λ x. loaded loading (after_basis form files x continuing)) h.is h.small))
    (subst (λ x. P (loaded x (after_basis form files bytes continuing))) same
    (k files continuing refl (λ saved g small. continues_of b bytes (get files form.project) loading (get files form.saved) saved continuing h.is (sym same) g small c)))

-- and this is what its saved run stands for
found_saved : (P : Outcome → Type 0) (files : Files) (form : ResumeForm) (bytes : List ℕ) (b : Basis) (continuing : Continuing) → IsFetchedFile (Some files) form.project project_limit bytes → Bases bytes (accepted b)
    → OfSaved (Some bytes) (accepted b) (get files form.saved) continuing → P (after_basis form files bytes continuing b) → Found (Some files) (resume form) P
found_saved P files form bytes b continuing h is c p = (
  accepted b,
  of_bytes Bases (get files form.project) bytes (accepted b) h.is is,
  (
    continuing,
    subst (λ o. OfSaved o (accepted b) (get files form.saved) continuing) (sym h.is) c,
    subst P (sym (fetched_ok which.Project project_limit (get files form.project) bytes (λ x. loaded (accepted b) (after_basis form files x continuing)) h.is h.small)) p,
  ),
)

-- the saved run is too long

of_long : (b : Basis) (bytes : List ℕ) (o : Option (List ℕ)) (c : Continuing) → IsSomeAnd o (λ saved. saved_limit < length saved) → OfSaved (Some bytes) (accepted b) o c
of_long b bytes None c h = tt
of_long b bytes (Some saved) c h = λ small. absurd (omega (arith, h, small))

held_above : (held : Option Files) (files : Files) (name : List ℕ) (limit : ℕ) → held ≡ Some files → IsHeldAbove held name limit → IsSomeAnd (get files name) (λ bytes. limit < length bytes)
held_above held files name limit e h = subst (λ o. IsHeldAbove o name limit) e h

pub saved_large : (P : Outcome → Type 0) (held : Option Files) (form : ResumeForm) (bytes : List ℕ) (b : Basis) → IsFetchedFile held form.project project_limit bytes → Bases bytes (accepted b) → IsHeldAbove held form.saved saved_limit
    → P (ends (too_large which.Saved saved_limit)) → Both held (resume form) P
saved_large P held form bytes b h is g p = record {
  all = resume_accepted P held form bytes b h is (λ files continuing e c.
      subst P (sym (fetched_large which.Saved saved_limit (get files form.saved) (λ x. told_to continuing (after_saved form files bytes b)) (held_above held files form.saved saved_limit e g))) p);
  some = one held h g;
} where
  one : (held : Option Files) → IsFetchedFile held form.project project_limit bytes → IsHeldAbove held form.saved saved_limit → Found held (resume form) P
  one None h g = tt
  one (Some files) h g =
      found_saved P files form bytes b (rejected save_refusal.Json) h is (of_long b bytes (get files form.saved) (rejected save_refusal.Json) g)
      (subst P (sym (fetched_large which.Saved saved_limit (get files form.saved) (λ x. told_to (rejected save_refusal.Json) (after_saved form files bytes b)) g)) p)

-- the saved run was fetched

is_in : (held : Option Files) (files : Files) (name : List ℕ) (limit : ℕ) (bytes : List ℕ) → held ≡ Some files → IsFetchedFile held name limit bytes → get files name ≡ Some bytes
is_in held files name limit bytes e h = subst (λ o. IfSome o (λ fs. get fs name ≡ Some bytes)) e h.is

pub saved_continuing : (P : Outcome → Type 0) (held : Option Files) (form : ResumeForm) (bytes : List ℕ) (b : Basis) (saved : List ℕ) → IsFetchedFile held form.project project_limit bytes → Bases bytes (accepted b) → IsFetchedFile held form.saved saved_limit saved
    → ((files : Files) (continuing : Continuing) → held ≡ Some files → Continues b bytes saved continuing → P (told_to continuing (after_saved form files bytes b))) → Promised held (resume form) P
saved_continuing P held form bytes b saved h is g k =
    resume_accepted P held form bytes b h is (λ files continuing e c.
    let s = is_in held files form.saved saved_limit saved e g in
    subst P (sym (fetched_ok which.Saved saved_limit (get files form.saved) saved (λ x. told_to continuing (after_saved form files bytes b)) s g.small)) (k files continuing e (c saved s g.small)))

-- and stands for this
pub saved_read : (one : OneAnswer) (law : OneRefusal) (P : Outcome → Type 0) (held : Option Files) (form : ResumeForm) (bytes : List ℕ) (b : Basis) (saved : List ℕ) (x : Continuing) → IsFetchedFile held form.project project_limit bytes
    → Bases bytes (accepted b) → IsFetchedFile held form.saved saved_limit saved → Continues b bytes saved x → ((files : Files) → held ≡ Some files → P (told_to x (after_saved form files bytes b))) → Both held (resume form) P
saved_read one law P held form bytes b saved x h is g told k = record {
  all = saved_continuing P held form bytes b saved h is g (λ files continuing e c. subst (λ y. P (told_to y (after_saved form files bytes b))) (one_continuing one law b bytes saved x continuing told c) (k files e));
  some = found held h g k;
} where
  found : (held : Option Files) → IsFetchedFile held form.project project_limit bytes → IsFetchedFile held form.saved saved_limit saved → ((files : Files) → held ≡ Some files → P (told_to x (after_saved form files bytes b))) → Found held (resume form) P
  found None h g k = tt
  found (Some files) h g k =
      found_saved P files form bytes b x h is (subst (λ o. OfSaved (Some bytes) (accepted b) o x) (sym g.is) (λ small. told))
      (subst P (sym (fetched_ok which.Saved saved_limit (get files form.saved) saved (λ y. told_to x (after_saved form files bytes b)) g.is g.small)) (k files refl))
