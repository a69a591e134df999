-- The clock of the last world is the last clock reading of the lines.
use Rattle.std.proofs.Common.{◌≡◌, ℕ, ◌+◌, List, [], ◌∷◌, refl, sym, ap, ◌∙◌}
use Rattle.machine_spec.specs.declared.lines.Line.{Line}
use Rattle.machine_spec.specs.Line.{after}
use Rattle.machine_spec.specs.Outcome.{Outcome, Goes, Full, TooLong, Spent, IfGoes}
use Rattle.machine_spec.specs.Output.{Whole, Output, ends, played_line, played_reading, played}
use Rattle.machine_spec.specs.Program.{Program}
use Rattle.machine_spec.specs.ScriptText.{Reading, Good, Refused, reading_of, clock_after}
use Rattle.machine_spec.specs.Tasks.{Task}
use Rattle.machine_spec.specs.World.{World}
use Rattle.laws_of_resuming.specs.Parts.{clock_behind}
use Rattle.laws_of_resuming.proofs.Clock.{line_reads}

module _ (p : Program) (v : World Task) (last : ℕ) where
  line_told : (l : Line) (o : Outcome (World Task)) (now : ℕ) (f : World Task → Output) → IfGoes o (λ u. u.devices.clock ≡ now) → ((u : World Task) → u.devices.clock ≡ now → (f u).ending ≡ Whole v → v.devices.clock ≡ last)
      → (played_line p l o f).ending ≡ Whole v → v.devices.clock ≡ last
  line_told l (Goes u) now f g h e = h u g e
  line_told l Full now f g h e = absurd (cc e)
  line_told l (TooLong n) now f g h e = absurd (cc e)
  line_told l (Spent which) now f g h e = absurd (cc e)

  reading_told : (w : World Task) (r : Reading) (f : World Task → Output) → ((u : World Task) → u.devices.clock ≡ clock_after w.devices.clock r → (f u).ending ≡ Whole v → v.devices.clock ≡ last)
      → (played_reading p w r f).ending ≡ Whole v → v.devices.clock ≡ last
  reading_told w (Good l) f h e = line_told l (after p l w) (clock_after w.devices.clock (Good l)) f (line_reads p l w) h e
  reading_told w (Refused refusal) f h e = absurd (cc e)

lines_told : (p : Program) (v : World Task) (n last : ℕ) (w : World Task) (lines : List (List ℕ)) → w.devices.clock ≡ last → (played p n last w lines).ending ≡ Whole v → v.devices.clock ≡ clock_behind n last lines
lines_told p v n last w [] h e = let s : w ≡ v = cc e in ap (λ (u : World Task). u.devices.clock) (sym s) ∙ h
lines_told p v n last w (bytes ∷ lines) h e =
    let r = reading_of n last bytes in
    reading_told p v (clock_behind (n + 1) (clock_after last r) lines) w r (λ u. played p (n + 1) (clock_after last r) u lines)
    (λ u g k. lines_told p v (n + 1) (clock_after last r) u lines (g ∙ ap (λ c. clock_after c r) h) k) e

pub last_is_read : (p : Program) (n : ℕ) (w v : World Task) (xs : List (List ℕ)) (lines : List (List ℕ)) → played p n w.devices.clock w lines ≡ ends xs (Whole v) → v.devices.clock ≡ clock_behind n w.devices.clock lines
last_is_read p n w v xs lines e = lines_told p v n w.devices.clock w lines refl (ap (λ (o : Output). o.ending) e)
