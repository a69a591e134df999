-- WHAT `made N FRAMES` DOES where nothing fails: the made project with N copies of its sprite is loaded, and the made script of
-- FRAMES frames is played on it (made_texts/specs) with the random words of the seed 1. Of the texts of these frames none is
-- written: two lines tell their length, their digest, and what the run came to. The words `made 1 1` write
--     made 1 1 blocks 7 n 11
--     frames 119 891592f4cc8685d47f9dc17e0629adddaebaaa75d05af308ec1af9fb88d7a938
use Rattle.std.specs.Prelude.{ℕ, sum, List, [], ◌∷◌, ◌++◌, length, codes}
use Rattle.std.specs.Fmt.{decimal}
use Rattle.std.specs.List.{concat}
use Rattle.hex.specs.Hex.{encode_lower}
use Rattle.sha2.specs.Sha256.{sha256}
use Rattle.scratch_values.specs.Value.{text_of}
use Rattle.machine_spec.specs.FrameText.{line}
use Rattle.machine_spec.specs.Output.{Output, Ending as RunEnding, Whole}
use Rattle.machine_spec.specs.Stores.{value_in}
use Rattle.machine_spec.specs.Tasks.{Task}
use Rattle.machine_spec.specs.World.{World}
use Rattle.project_spec.specs.Basis.{Basis}
use Rattle.made_texts.specs.MadeScript.{made_script}
use Rattle.play_command.specs.Command.{MadeForm}
use Rattle.play_command.specs.Outcome.{Loading, loaded, Outcome, only_written, output_of, words_of}

-- the text of the stage's variable n: the stage is the first target of the made project, and n its first variable
abbrev pub made_value : World Task → List ℕ
made_value w = text_of (value_in 0 0 w.variables)

-- `made N FRAMES blocks B n V`
abbrev pub made_line : MadeForm → (blocks : ℕ) → (value : List ℕ) → List ℕ
made_line form blocks value =
    line (codes "made" ∷ decimal form.copies ∷ decimal form.frames ∷ codes "blocks" ∷ decimal blocks ∷ codes "n" ∷ value ∷ [])

-- `frames L DIGEST`
abbrev pub frames_line : (length : ℕ) → (digest : List ℕ) → List ℕ
frames_line length digest = line (codes "frames" ∷ decimal length ∷ encode_lower digest ∷ [])

-- both lines as one text: the number of blocks, what n is in the last world, and of the bytes of all frame texts the number and
-- the SHA-256 digest
abbrev pub made_text : MadeForm → (blocks : ℕ) → (last : World Task) → (frames : List ℕ) → List ℕ
made_text form blocks last frames = made_line form blocks (made_value last) ++ frames_line (length frames) (sha256 frames)

-- where the script is played to its end, this text is written; else nothing is
abbrev pub told_at : MadeForm → (blocks : ℕ) → (frames : List ℕ) → RunEnding → Outcome
told_at form blocks frames (Whole last) = only_written (made_text form blocks last frames ∷ []) (Whole last)
told_at form blocks frames ending = only_written [] ending

abbrev pub made_ending : MadeForm → (blocks : ℕ) → Output → Outcome
made_ending form blocks run = told_at form blocks (concat run.writes) run.ending

abbrev pub made_seed : ℕ
made_seed = 1

-- load the made project, play the made script, tell what came of it
abbrev pub made_outcome : MadeForm → Loading Basis → Outcome
made_outcome form loading =
    loaded loading (λ b. made_ending form (sum b.blocks) (output_of b.program (words_of made_seed) (made_script form.frames)))
