-- The threads of a run that are made of those that a text tells; for private functions.
use Rattle.std.specs.Prelude.{◌≡◌, ℕ, List, [], ◌∷◌, not, find, option_map, Option, Some, IsSome, true, false, Result, Ok, Err, Vec}
use Rattle.std.specs.List.{list_all}
use Rattle.std.specs.declared.alloc.Global.{Global}
use Rattle.project_check.specs.declared.project.Project.{Project}
use Rattle.thread_frames.specs.declared.parts.ThreadPart.{ThreadPart}
use Rattle.thread_frames.specs.Rebuilding.{thread_of}
use Rattle.machine_spec.specs.declared.instance.Instance.{Instance}
use Rattle.machine_spec.specs.Stores.{live}
use Rattle.saved_levels.specs.Read.{IsMade}
use Rattle.project_check.specs.Loaded.{basis_of}
use Rattle.saved_spec.specs.Kept.{SavedThread}
use Rattle.saved_spec.specs.Levels.{thread_is_well}
use Rattle.saved_spec.specs.Rules.{is_short, target_of, values_kept}
use Rattle.saved_spec.specs.RunShapes.{Told}
use Rattle.saved_spec.specs.declared.refusals.SaveRefusal.{SaveRefusal}
use Rattle.saved_spec.specs.declared.refusals.SaveRefusal.TheVariants.{BadThread, NoMemory}

-- a thread of a live instance, the values of whose parameters are short
pub record IsReady (x : SavedThread) (is : List Instance) : Type 0 where
  pub lives : IsSome (live x.of is)
  pub short : list_all (λ l. list_all is_short (values_kept l.kept)) x.levels ≡ true

-- the parts of a thread that keeps the rules
pub record IsPart (p : Project) (t : Told) (x : SavedThread) (q : ThreadPart) : Type 0 where
  pub serial_is : q.serial ≡ x.serial
  pub of_is : q.of ≡ x.of
  pub target_is : q.target ≡ target_of t x
  pub hat_is : q.hat ≡ x.hat
  pub status_is : q.status ≡ x.status
  pub made : IsMade p t x (thread_of q).levels

abbrev pub AreParts : Project → Told → List SavedThread → List ThreadPart → Type 0
AreParts p t [] [] = Unit {0}
AreParts p t (x ∷ xs) (q ∷ qs) = IsPart p t x q × AreParts p t xs qs
AreParts p t xs qs = ⊥

-- a thread has these parts, or breaks a rule
abbrev pub Parted : Project → Told → SavedThread → Result ThreadPart SaveRefusal → Type 0
Parted p t x (Ok q) = IsPart p t x q
Parted p t x (Err (BadThread serial)) = (thread_is_well (basis_of p) t x ≡ false) × (serial ≡ x.serial)
Parted p t x (Err NoMemory) = Unit {0}
Parted p t x (Err e) = ⊥

-- the number of the first of these threads that breaks a rule
abbrev pub first_bad : Project → Told → List SavedThread → Option ℕ
first_bad p t xs = option_map (λ x. x.serial) (find (λ x. not (thread_is_well (basis_of p) t x)) xs)

-- all threads have these parts, or the first that breaks a rule is told
abbrev pub AllParted : Project → Told → List SavedThread → Result (Vec ThreadPart Global) SaveRefusal → Type 0
AllParted p t xs (Ok parts) = AreParts p t xs parts.items
AllParted p t xs (Err (BadThread serial)) = first_bad p t xs ≡ Some serial
AllParted p t xs (Err NoMemory) = Unit {0}
AllParted p t xs (Err e) = ⊥
