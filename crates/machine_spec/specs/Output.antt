-- The output of a run: what the lines of a script write, one after another, and how it ends.
use Rattle.std.specs.Prelude.{ℕ, ◌+◌, List, [], ◌∷◌, ◌++◌, codes}
use Rattle.std.specs.Fmt.{decimal}
use Rattle.script_words.specs.declared.stops.Stop.{Stop}
use Rattle.script_words.specs.declared.stops.Stop.TheVariants.{Stack, Text, Counter}
use Rattle.machine_spec.specs.declared.lines.Line.{Line}
use Rattle.machine_spec.specs.declared.lines.Line.TheVariants as kind_of
use Rattle.machine_spec.specs.declared.lines.LineRefusal.{LineRefusal}
use Rattle.machine_spec.specs.Outcome.{Outcome, Goes, Full, TooLong, Spent, most_levels}
use Rattle.machine_spec.specs.Program.{Program}
use Rattle.machine_spec.specs.World.{World}
use Rattle.machine_spec.specs.Tasks.{Task}
use Rattle.machine_spec.specs.Line.{after}
use Rattle.machine_spec.specs.FrameText.{line, frame_text}
use Rattle.machine_spec.specs.ScriptText.{Reading, Good, Refused, reading_of, clock_after}

-- how a run ends where nothing fails: at the end of the script, with the last world; at a refused line; at a limit
pub data Ending : Type 0 where
  Whole : (last : World Task) → Ending
  BadLine : (refusal : LineRefusal) → Ending
  Limited : (stop : Stop) → Ending

-- the texts that are written, each by one write
pub record Output : Type 0 where
  pub writes : List (List ℕ)
  pub ending : Ending

abbrev pub ends : List (List ℕ) → Ending → Output
ends writes ending = record { writes = writes; ending = ending }

abbrev pub in_front : List (List ℕ) → Output → Output
in_front writes o = ends (writes ++ o.writes) o.ending

-- a frame line writes the text of its frame
abbrev pub written : Program → Line → World Task → List (List ℕ)
written p (kind_of.Frame budget) w = frame_text p w ∷ []
written p l w = []

-- the line of a limit, in place of what the line of the script would write
abbrev pub limit_line : Stop → List ℕ
limit_line Stack = line (codes "limit" ∷ codes "stack" ∷ decimal most_levels ∷ [])
limit_line (Text n) = line (codes "limit" ∷ codes "text" ∷ decimal n ∷ [])
limit_line _ = line (codes "limit" ∷ codes "counter" ∷ [])

abbrev pub limited : Stop → Output
limited stop = ends (limit_line stop ∷ []) (Limited stop)

-- a good line: its writes and the lines after it, or the limit that it reaches
abbrev pub played_line : Program → Line → Outcome (World Task) → (World Task → Output) → Output
played_line p l (Goes w) rest = in_front (written p l w) (rest w)
played_line p l Full rest = limited Stack
played_line p l (TooLong n) rest = limited (Text n)
played_line p l (Spent which) rest = limited (Counter which)

abbrev pub played_reading : Program → World Task → Reading → (World Task → Output) → Output
played_reading p w (Good l) rest = played_line p l (after p l w) rest
played_reading p w (Refused refusal) rest = ends [] (BadLine refusal)

-- the lines in order from a world; the first of them has the number n, and the clock of the last frame is last
abbrev pub played : Program → (n last : ℕ) → World Task → List (List ℕ) → Output
played p n last w [] = ends [] (Whole w)
played p n last w (bytes ∷ lines) =
    played_reading p w (reading_of n last bytes) (λ v. played p (n + 1) (clock_after last (reading_of n last bytes)) v lines)
