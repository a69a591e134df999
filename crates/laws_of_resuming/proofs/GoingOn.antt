-- Lines behind others.
use Rattle.std.proofs.Common.{◌≡◌, ℕ, zero, ◌+◌, List, [], ◌∷◌, ◌++◌, length, sym, ap, ◌∙◌, append_assoc, arith}
use Rattle.machine_spec.specs.declared.lines.Line.{Line}
use Rattle.machine_spec.specs.Line.{after}
use Rattle.machine_spec.specs.Outcome.{Outcome, Goes, Full, TooLong, Spent}
use Rattle.machine_spec.specs.Output.{Whole, Output, ends, in_front, written, played_line, played_reading, played}
use Rattle.machine_spec.specs.Program.{Program}
use Rattle.machine_spec.specs.ScriptText.{Reading, Good, Refused, reading_of, clock_after}
use Rattle.machine_spec.specs.Tasks.{Task}
use Rattle.machine_spec.specs.World.{World}
use Rattle.laws_of_resuming.specs.Parts.{clock_behind}

module _ (p : Program) (v : World Task) (x : Output) where
  -- what goes on behind an output that is whole
  abbrev GoesOn : Output → Output → Type 0
  GoesOn o q = o.ending ≡ Whole v → q ≡ in_front o.writes x

  line_goes_on : (l : Line) (o : Outcome (World Task)) (f g : World Task → Output) → ((u : World Task) → GoesOn (f u) (g u)) → GoesOn (played_line p l o f) (played_line p l o g)
  line_goes_on l (Goes u) f g h e =
      ap (in_front (written p l u)) (h u e) ∙ ap (λ (xs : List (List ℕ)). ends xs x.ending) (sym (append_assoc (written p l u) (f u).writes x.writes))
  line_goes_on l Full f g h e = absurd (cc e)
  line_goes_on l (TooLong n) f g h e = absurd (cc e)
  line_goes_on l (Spent which) f g h e = absurd (cc e)

  reading_goes_on : (w : World Task) (r : Reading) (f g : World Task → Output) → ((u : World Task) → GoesOn (f u) (g u)) → GoesOn (played_reading p w r f) (played_reading p w r g)
  reading_goes_on w (Good l) f g h e = line_goes_on l (after p l w) f g h e
  reading_goes_on w (Refused refusal) f g h e = absurd (cc e)

module _ (p : Program) (v : World Task) (more : List (List ℕ)) where
  lines_go_on : (n last : ℕ) (w : World Task) (lines : List (List ℕ)) → (played p n last w lines).ending ≡ Whole v
      → played p n last w (lines ++ more) ≡ in_front (played p n last w lines).writes (played p (n + length lines) (clock_behind n last lines) v more)
  lines_go_on n last w [] e = let s : w ≡ v = cc e in let z : n ≡ n + zero = omega arith in ap (λ u. played p n last u more) s ∙ ap (λ k. played p k last v more) z
  lines_go_on n last w (bytes ∷ lines) e =
      let r = reading_of n last bytes in
      let z : n + 1 + length lines ≡ n + length (bytes ∷ lines) = omega arith in
      reading_goes_on p v (played p (n + length (bytes ∷ lines)) (clock_behind (n + 1) (clock_after last r) lines) v more) w r
      (λ u. played p (n + 1) (clock_after last r) u lines) (λ u. played p (n + 1) (clock_after last r) u (lines ++ more))
      (λ u h. lines_go_on (n + 1) (clock_after last r) u lines h
      ∙ ap (λ k. in_front (played p (n + 1) (clock_after last r) u lines).writes (played p k (clock_behind (n + 1) (clock_after last r) lines) v more)) z) e

  pub whole_goes_on : (n last : ℕ) (w : World Task) (xs : List (List ℕ)) (lines : List (List ℕ)) → played p n last w lines ≡ ends xs (Whole v)
      → played p n last w (lines ++ more) ≡ in_front xs (played p (n + length lines) (clock_behind n last lines) v more)
  whole_goes_on n last w xs lines e =
      lines_go_on n last w lines (ap (λ (o : Output). o.ending) e)
      ∙ ap (λ (o : Output). in_front o.writes (played p (n + length lines) (clock_behind n last lines) v more)) e
