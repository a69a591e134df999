-- The made script: the flag is clicked before each frame, and the frames are 33 milliseconds apart.
use Rattle.std.specs.Prelude.{ℕ, ◌-◌, ◌*◌, List, [], ◌∷◌, flat_map, codes}
use Rattle.std.specs.Fmt.{decimal}
use Rattle.std.specs.List.{concat, range_with_len}

-- the lines of the frame of this number, from 1
abbrev pub made_lines : ℕ → List ℕ
made_lines number = concat (codes "flag\n" ∷ codes "frame " ∷ decimal (33 * (number - 1)) ∷ codes " 11 0\n" ∷ [])

abbrev pub made_script : ℕ → List ℕ
made_script frames = flat_map made_lines (range_with_len 1 frames)
