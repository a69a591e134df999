-- A fact of the outcomes of the files that are held: of all of them, and of one.
use Rattle.std.proofs.Common.{◌≡◌, ℕ, ◌<◌, ◌≤◌, List, length, Option, None, Some, sym, subst, arith}
use Rattle.std.specs.Prelude.{IfSome, IsSomeAnd}
use Rattle.std.specs.FinMap.{get}
use Rattle.sv_channels.specs.Files.{Files}
use Rattle.sv_channels.specs.Shelf.{IsHeldAbove}
use Rattle.project_spec.specs.declared.refusals.Refusal.TheVariants as refusal
use Rattle.run_save.specs.declared.status.Which.TheVariants as which
use Rattle.play_command.specs.Command.{Command, play, resume, check, made}
use Rattle.project_spec.specs.Limits.{project_limit}
use Rattle.play_command.specs.Outcome.{Loading, refused, OfFile, too_large, Outcome, ends, fetched, loaded}
use Rattle.play_command.specs.Promise.{Promised, Found}
use Rattle.play_command.proofs.Readings.{IsFetchedFile, IsReading, fetched_ok, fetched_large, one_loading}

pub record Both (held : Option Files) (command : Command) (P : Outcome → Type 0) : Type 0 where
  pub all : Promised held command P
  pub some : Found held command P

-- a fact that follows from another

pub promised_map : (held : Option Files) (command : Command) (P Q : Outcome → Type 0) → ((o : Outcome) → P o → Q o) → Promised held command P → Promised held command Q
promised_map None (play form) P Q k h = tt
promised_map None (resume form) P Q k h = tt
promised_map None (check project) P Q k h = tt
promised_map (Some files) (play form) P Q k h = λ loading l. k _ (h loading l)
promised_map (Some files) (resume form) P Q k h = λ loading l continuing c. k _ (h loading l continuing c)
promised_map (Some files) (check project) P Q k h = λ loading l. k _ (h loading l)
promised_map None (made form) P Q k h = λ loading l. k _ (h loading l)
promised_map (Some files) (made form) P Q k h = λ loading l. k _ (h loading l)

pub found_map : (held : Option Files) (command : Command) (P Q : Outcome → Type 0) → ((o : Outcome) → P o → Q o) → Found held command P → Found held command Q
found_map None (play form) P Q k h = tt
found_map None (resume form) P Q k h = tt
found_map None (check project) P Q k h = tt
found_map (Some files) (play form) P Q k h = (h.0, h.1, k _ h.2)
found_map (Some files) (resume form) P Q k h = (h.0, h.1, (h.2.0, h.2.1, k _ h.2.2))
found_map (Some files) (check project) P Q k h = (h.0, h.1, k _ h.2)
found_map None (made form) P Q k h = (h.0, h.1, k _ h.2)
found_map (Some files) (made form) P Q k h = (h.0, h.1, k _ h.2)

-- a fact of every outcome
pub always : (held : Option Files) (command : Command) (P : Outcome → Type 0) → ((o : Outcome) → P o) → Promised held command P
always None (play form) P k = tt
always None (resume form) P k = tt
always None (check project) P k = tt
always (Some files) (play form) P k = λ loading l. k _
always (Some files) (resume form) P k = λ loading l continuing c. k _
always (Some files) (check project) P k = λ loading l. k _
always None (made form) P k = λ loading l. k _
always (Some files) (made form) P k = λ loading l. k _

-- Of the commands that read a project and no saved run

abbrev pub AllOf : {A : Type 0} → (List ℕ → Loading A → Type 0) → (Files → List ℕ → A → Outcome) → (Outcome → Type 0) → Option Files → List ℕ → Type 0
AllOf {A} reads next P held name =
    IfSome held (λ files. (loading : Loading A) → OfFile reads (get files name) loading → P (fetched which.Project project_limit (get files name) (λ bytes. loaded loading (next files bytes))))

abbrev pub OneOf : {A : Type 0} → (List ℕ → Loading A → Type 0) → (Files → List ℕ → A → Outcome) → (Outcome → Type 0) → Option Files → List ℕ → Type 0
OneOf {A} reads next P held name =
    IfSome held (λ files. (loading : Loading A) × OfFile reads (get files name) loading × P (fetched which.Project project_limit (get files name) (λ bytes. loaded loading (next files bytes))))

-- the project file is too long

pub of_large : {A : Type 0} (reads : List ℕ → Loading A → Type 0) (o : Option (List ℕ)) (loading : Loading A) → IsSomeAnd o (λ bytes. project_limit < length bytes) → OfFile reads o loading
of_large reads None loading h = tt
of_large reads (Some bytes) loading h = λ small. absurd (omega (arith, h, small))

pub large_all : {A : Type 0} (reads : List ℕ → Loading A → Type 0) (next : Files → List ℕ → A → Outcome) (P : Outcome → Type 0) (held : Option Files) (name : List ℕ) → IsHeldAbove held name project_limit → P (ends (too_large which.Project project_limit))
    → AllOf reads next P held name
large_all reads next P None name h p = tt
large_all reads next P (Some files) name h p = λ loading l. subst P (sym (fetched_large which.Project project_limit (get files name) (λ bytes. loaded loading (next files bytes)) h)) p

pub large_one : {A : Type 0} (reads : List ℕ → Loading A → Type 0) (next : Files → List ℕ → A → Outcome) (P : Outcome → Type 0) (held : Option Files) (name : List ℕ) → IsHeldAbove held name project_limit → P (ends (too_large which.Project project_limit))
    → OneOf reads next P held name
large_one reads next P None name h p = tt
large_one reads next P (Some files) name h p = (
  refused refusal.NoMemory,
  of_large reads (get files name) (refused refusal.NoMemory) h,
  subst P (sym (fetched_large which.Project project_limit (get files name) (λ bytes. loaded (refused refusal.NoMemory) (next files bytes)) h)) p,
)

-- the project file was fetched

pub read_bytes : {A : Type 0} (reads : List ℕ → Loading A → Type 0) (o : Option (List ℕ)) (bytes : List ℕ) (loading : Loading A) → o ≡ Some bytes → length bytes ≤ project_limit → OfFile reads o loading → reads bytes loading
read_bytes reads o bytes loading e small l = subst (λ x. OfFile reads x loading) e l small

pub of_bytes : {A : Type 0} (reads : List ℕ → Loading A → Type 0) (o : Option (List ℕ)) (bytes : List ℕ) (loading : Loading A) → o ≡ Some bytes → reads bytes loading → OfFile reads o loading
of_bytes reads o bytes loading e r = subst (λ x. OfFile reads x loading) (sym e) (λ small. r)

pub loading_all : {A : Type 0} (reads : List ℕ → Loading A → Type 0) (next : Files → List ℕ → A → Outcome) (P : Outcome → Type 0) (held : Option Files) (name bytes : List ℕ) → IsFetchedFile held name project_limit bytes
    → ((files : Files) (loading : Loading A) → P (loaded loading (next files bytes))) → AllOf reads next P held name
loading_all reads next P None name bytes h k = tt
loading_all reads next P (Some files) name bytes h k = λ loading l.
    subst P (sym (fetched_ok which.Project project_limit (get files name) bytes (λ b. loaded loading (next files b)) h.is h.small)) (k files loading)

-- and is read so

pub read_all : {A : Type 0} (reads : List ℕ → Loading A → Type 0) (next : Files → List ℕ → A → Outcome) (P : Outcome → Type 0) (held : Option Files) (name bytes : List ℕ) (x : Loading A) → IsReading (reads bytes) → IsFetchedFile held name project_limit bytes
    → reads bytes x → IfSome held (λ files. P (loaded x (next files bytes))) → AllOf reads next P held name
read_all reads next P None name bytes x is h p k = tt
read_all reads next P (Some files) name bytes x is h p k = λ loading l.
    subst P (sym (fetched_ok which.Project project_limit (get files name) bytes (λ b. loaded loading (next files b)) h.is h.small))
    (subst (λ y. P (loaded y (next files bytes))) (one_loading (reads bytes) is x loading p (read_bytes reads (get files name) bytes loading h.is h.small l)) k)

pub read_one : {A : Type 0} (reads : List ℕ → Loading A → Type 0) (next : Files → List ℕ → A → Outcome) (P : Outcome → Type 0) (held : Option Files) (name bytes : List ℕ) (x : Loading A) → IsFetchedFile held name project_limit bytes → reads bytes x
    → IfSome held (λ files. P (loaded x (next files bytes))) → OneOf reads next P held name
read_one reads next P None name bytes x h p k = tt
read_one reads next P (Some files) name bytes x h p k = (
  x,
  of_bytes reads (get files name) bytes x h.is p,
  subst P (sym (fetched_ok which.Project project_limit (get files name) bytes (λ b. loaded x (next files b)) h.is h.small)) k,
)

pub everywhere : {P : Type 0} (held : Option Files) → P → IfSome held (λ files. P)
everywhere None p = tt
everywhere (Some files) p = p
