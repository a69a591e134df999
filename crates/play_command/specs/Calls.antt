-- WHAT IS COUNTED: which files a command fetches, in the order of work, and under which name it may put one.
use Rattle.std.specs.Prelude.{ℕ, min, List, Option, None}
use Rattle.run_save.specs.declared.status.Which.TheVariants as which
use Rattle.run_save.specs.declared.status.Status.{Status}
use Rattle.run_save.specs.declared.status.Status.TheVariants.{BadProject, BadSave, BadScript, Limit, TooLarge}
use Rattle.play_command.specs.Command.{Command, play, resume, check, made}

-- how many files a command fetches
abbrev pub files_of : Command → ℕ
files_of (play form) = 2
files_of (resume form) = 3
files_of (check project) = 1
files_of (made form) = 0

-- how many it has fetched where it ends before a line is played: the project, unless it is made; the saved run; or all
abbrev pub fetched_at : Command → Status → ℕ
fetched_at command (BadProject r) = min 1 (files_of command)
fetched_at command (BadSave r) = 2
fetched_at command (TooLarge which.Project limit) = 1
fetched_at command (TooLarge which.Saved limit) = 2
fetched_at command status = files_of command

-- the name that a command saves under
abbrev pub name_of_save : Command → Option (List ℕ)
name_of_save (play form) = form.save
name_of_save (resume form) = form.save
name_of_save (check project) = None
name_of_save (made form) = None

-- the name that may be put under: at a refused line and at a limit nothing is put
abbrev pub name_put : Option (List ℕ) → Status → Option (List ℕ)
name_put save (BadScript r) = None
name_put save (Limit l) = None
name_put save status = save
