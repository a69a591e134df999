-- What is said of a project file: what it has, or why it is refused. Which files are accepted, and the refusal of the
-- others, is that of project_spec/specs, Refusals.
use Rattle.std.specs.Prelude.{ℕ, List, ◌++◌, Option, None, Some}
use Rattle.project_json.specs.Tree.{Tree}
use Rattle.project_json.specs.Text.{IsText, max_depth}
use Rattle.project_spec.specs.declared.refusals.Refusal.{Refusal}
use Rattle.project_spec.specs.Reading.{File, blocks_in}
use Rattle.project_spec.specs.Refusals.{IsAccepted, IsRefusal}
use Rattle.report_command.specs.declared.counts.Counts.{Counts}
use Rattle.report_command.specs.Counts.{AreCounts}
use Rattle.report_command.specs.Text.{accepted_text, refusal_text}
use Rattle.report_command.specs.Unknown.{AreUnknown, tables_in, unknown_text}

-- what an accepted file has; or the refusal of another, its document where it is a JSON text, and the opcodes of its
-- blocks in scripts that are not known
pub data Verdict : Type 0 where
  accepted : Counts → Verdict
  refused : Refusal → Option Tree → List (List ℕ) → Verdict

-- the document of a file that is a JSON text
abbrev pub IsDocument : List ℕ → Option Tree → Type 0
IsDocument bytes None = (t : Tree) → IsText max_depth bytes t → ⊥
IsDocument bytes (Some t) = IsText max_depth bytes t

-- what an accepted file has
abbrev pub IsCounted : List ℕ → Counts → Type 0
IsCounted bytes c = (f : File) × IsAccepted bytes f × AreCounts (blocks_in f) c

-- what is said of the bytes of a file
abbrev pub IsVerdict : List ℕ → Verdict → Type 0
IsVerdict bytes (accepted c) = IsCounted bytes c
IsVerdict bytes (refused r document names) = IsRefusal bytes r × IsDocument bytes document × AreUnknown (tables_in document) names

-- the text that says it
abbrev pub verdict_text : Verdict → List ℕ
verdict_text (accepted c) = accepted_text c
verdict_text (refused r document names) = refusal_text document r ++ unknown_text names

-- the refusal, of a file that is refused
abbrev pub refusal_in : Verdict → Option Refusal
refusal_in (accepted c) = None
refusal_in (refused r document names) = Some r
