-- Helpers of private functions: the lines of a frame, by a view.
use Rattle.std.specs.Prelude.{ℕ, List, [], ◌∷◌, ◌++◌, codes, flat_map}
use Rattle.std.specs.Fmt.{decimal}
use Rattle.std.specs.List.{enumerate_from, zip}
use Rattle.machine_spec.specs.Program.{Records}
use Rattle.machine_spec.specs.FrameText.{line, instance_lines, question_line, monitor_lines, made_lines}
use Rattle.stage_frame.specs.declared.frame.View.{View}
use Rattle.stage_frame.specs.Seen.{seen_stage}

abbrev pub first_line : View → List ℕ
first_line v = line (codes "frame" ∷ decimal v.frame ∷ codes "clock" ∷ decimal v.devices.now.clock ∷ codes "words" ∷ decimal v.words ∷ [])

-- all lines
abbrev pub frame_lines : Records → View → List ℕ
frame_lines records v =
    first_line v
    ++ (flat_map (instance_lines records) (enumerate_from 0 v.targets.now)
    ++ (question_line v.devices.now.questions
    ++ (flat_map (monitor_lines records (seen_stage v)) (zip records.monitors v.variables.now.file_monitors)
    ++ (flat_map (made_lines records v.variables.now) v.variables.now.made
    ++ line (codes "end" ∷ [])))))
