-- Every line keeps a legal world legal, and so does a script that is played to its end.
use Rattle.std.proofs.Common.{◌≡◌, ℕ, ◌+◌, List, [], ◌∷◌, refl, sym, ap, ◌∙◌, subst}
use Rattle.machine_spec.specs.declared.lines.Line.{Line}
use Rattle.machine_spec.specs.declared.lines.Line.TheVariants as line
use Rattle.machine_spec.specs.Line.{after}
use Rattle.machine_spec.specs.Outcome.{Outcome, Goes, Full, TooLong, Spent}
use Rattle.machine_spec.specs.Output.{Whole, Output, played, played_line, played_reading}
use Rattle.machine_spec.specs.Program.{Program}
use Rattle.machine_spec.specs.ScriptText.{Reading, Good, Refused, reading_of, clock_after}
use Rattle.machine_spec.specs.Tasks.{Task}
use Rattle.machine_spec.specs.World.{World}
use Rattle.laws_of_threads.specs.GoodLines.{IsGoodLine}
use Rattle.laws_of_threads.specs.Laws.{NotBack}
use Rattle.laws_of_threads.specs.Playable.{IsNamed}
use Rattle.laws_of_threads.specs.Worlds.{IsLegalWorld}
use Rattle.laws_of_threads.proofs.Clocks.{clock_line}
use Rattle.laws_of_threads.proofs.KeepingLines.{line_keeps}
use Rattle.laws_of_threads.proofs.Lines.{line_legal}
use Rattle.laws_of_threads.proofs.RowFits.{goes_is}
use Rattle.laws_of_instances.specs.Instances.{IsLegalCast}
use Rattle.laws_of_instances.proofs.Anything.{anywhere}
use Rattle.laws_of_instances.proofs.Kept as instances
use Rattle.laws_of_variables.specs.Variables.{IsLegalVariables}
use Rattle.laws_of_variables.proofs.Kept as variables
use Rattle.laws_of_devices.proofs.Kept.{desk_line}
use Rattle.laws_of_devices.proofs.Reading.{reading_good}
use Rattle.laws_of_turns.proofs.Threads.{WorldRuns}
use Rattle.laws_of_turns.proofs.Frames.{line_runs}
use Rattle.laws_of_turns.proofs.Legal.{legal_runs, runs_within}
use Rattle.laws_of_worlds.specs.Runs.{IsGoodProgram, IsLegalRun, KeepsLegal}

not_back : (l : Line) (w : World Task) → IsGoodLine w.devices.clock l → NotBack l w
not_back (line.Frame b) w h = h.0
not_back _ w h = tt

module _ (p : Program) (seed : ℕ) (good : IsGoodProgram p) where
  line_is_legal : (l : Line) (w v : World Task) → IsGoodLine w.devices.clock l → IsLegalRun p seed w → after p l w ≡ Goes v → IsLegalRun p seed v
  line_is_legal l w v fits h e = record {
    threads = goes_is (after p l w) (IsLegalWorld p) v e (line_legal p good.scripts l w (not_back l w fits) h.threads);
    instances = goes_is (after p l w) (IsLegalCast p seed) v e
        (line_keeps p instances.AnyStatement (IsLegalCast p seed) good.scripts (anywhere p instances.AnyStatement (λ k s. tt)) (instances.keeps p seed good.targets) l w fits h.threads h.instances);
    variables = goes_is (after p l w) (IsLegalVariables p) v e
        (line_keeps p (IsNamed p.records) (IsLegalVariables p) good.scripts good.targets.named (variables.keeps p good.targets) l w fits h.threads h.variables);
    devices = desk_line p l w v good.scripts good.targets fits h.threads h.devices e;
    numbers = runs_within v (goes_is (after p l w) WorldRuns v e (line_runs p good.numbers l w (legal_runs p good.numbers w h.threads h.numbers)));
  }

  -- a line that goes, and the lines after it
  line_by : (l : Line) (last : ℕ) (w v : World Task) (o : Outcome (World Task)) (rest : World Task → Output) → after p l w ≡ o → w.devices.clock ≡ last → IsGoodLine last l → IsLegalRun p seed w
      → ((x : World Task) → x.devices.clock ≡ clock_after last (Good l) → IsLegalRun p seed x → (rest x).ending ≡ Whole v → IsLegalRun p seed v)
      → (played_line p l o rest).ending ≡ Whole v → IsLegalRun p seed v
  line_by l last w v (Goes x) rest e same fits h more f =
      let fits_here = subst (λ n. IsGoodLine n l) (sym same) fits in
      more x (clock_line p l w x good.scripts h.threads fits_here e ∙ ap (λ n. clock_after n (Good l)) same) (line_is_legal l w x fits_here h e) f
  line_by l last w v Full rest e same fits h more f = absurd (cc f)
  line_by l last w v (TooLong n) rest e same fits h more f = absurd (cc f)
  line_by l last w v (Spent which) rest e same fits h more f = absurd (cc f)

  reading_by : (n last : ℕ) (bytes : List ℕ) (w v : World Task) (r : Reading) (rest : World Task → Output) → reading_of n last bytes ≡ r → w.devices.clock ≡ last → IsLegalRun p seed w
      → ((x : World Task) → x.devices.clock ≡ clock_after last r → IsLegalRun p seed x → (rest x).ending ≡ Whole v → IsLegalRun p seed v)
      → (played_reading p w r rest).ending ≡ Whole v → IsLegalRun p seed v
  reading_by n last bytes w v (Good l) rest e same h more f = line_by l last w v (after p l w) rest refl same (reading_good n last bytes l e) h more f
  reading_by n last bytes w v (Refused refusal) rest e same h more f = absurd (cc f)

  lines_legal : (n last : ℕ) (w v : World Task) (lines : List (List ℕ)) → w.devices.clock ≡ last → IsLegalRun p seed w → (played p n last w lines).ending ≡ Whole v → IsLegalRun p seed v
  lines_legal n last w v [] same h e = let f : w ≡ v = cc in subst (IsLegalRun p seed) f h
  lines_legal n last w v (bytes ∷ lines) same h e =
      reading_by n last bytes w v (reading_of n last bytes) (λ x. played p (n + 1) (clock_after last (reading_of n last bytes)) x lines) refl same h
      (λ x clock k f. lines_legal (n + 1) (clock_after last (reading_of n last bytes)) x v lines clock k f) e

pub line_keeps_legal : (p : Program) (l : Line) (w v : World Task) → after p l w ≡ Goes v → KeepsLegal p l w v
line_keeps_legal p l w v e seed good fits h = line_is_legal p seed good l w v fits h e

pub last_legal : (p : Program) (seed n : ℕ) (w v : World Task) (lines : List (List ℕ)) → IsGoodProgram p → IsLegalRun p seed w → (played p n w.devices.clock w lines).ending ≡ Whole v → IsLegalRun p seed v
last_legal p seed n w v lines good h e = lines_legal p seed good n w.devices.clock w v lines refl h e
