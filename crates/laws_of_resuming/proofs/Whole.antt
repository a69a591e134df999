-- The parts of a script are the whole.
use Rattle.std.proofs.Common.{◌≡◌, ℕ, ◌+◌, ◌-◌, ◌≤◌, List, ◌++◌, length, sym, ap, ◌∙◌, subst, arith}
use Rattle.machine_spec.specs.Output.{Ending, Whole, BadLine, Limited, Output, ends, in_front, played}
use Rattle.machine_spec.specs.Program.{Program}
use Rattle.machine_spec.specs.ScriptText.{lines_of}
use Rattle.machine_spec.specs.Tasks.{Task}
use Rattle.machine_spec.specs.World.{World}
use Rattle.laws_of_resuming.specs.Parts.{AlikeButRedraw, AreAlike, EndAlike, EndsALine, clock_behind, ending_moved, moved_on}
use Rattle.laws_of_resuming.proofs.GoingOn.{whole_goes_on}
use Rattle.laws_of_resuming.proofs.Numbers.{lines_moved}
use Rattle.laws_of_resuming.proofs.Readings.{last_is_read}
use Rattle.laws_of_resuming.proofs.Redraw.{end_itself, lines_alike}
use Rattle.laws_of_resuming.proofs.Texts.{lines_join}

end_moved : (k : ℕ) (e f : Ending) → EndAlike e f → EndAlike (ending_moved k e) (ending_moved k f)
end_moved k (Whole w) (Whole v) h = h
end_moved k (Whole w) (BadLine refusal) h = absurd (cc h)
end_moved k (Whole w) (Limited stop) h = absurd (cc h)
end_moved k (BadLine refusal) f h = subst (λ g. EndAlike (ending_moved k (BadLine refusal)) (ending_moved k g)) h (end_itself (ending_moved k (BadLine refusal)))
end_moved k (Limited stop) f h = subst (λ g. EndAlike (ending_moved k (Limited stop)) (ending_moved k g)) h (end_itself (ending_moved k (Limited stop)))

moved_alike : (k : ℕ) (xs : List (List ℕ)) (o q : Output) → AreAlike o q → AreAlike (in_front xs (moved_on k o)) (in_front xs (moved_on k q))
moved_alike k xs o q h = record { writes = ap (λ ys. xs ++ ys) h.writes; ending = end_moved k o.ending q.ending h.ending }

module _ (p : Program) (n last : ℕ) (w v u : World Task) (xs : List (List ℕ)) (a b : List ℕ) (from : 1 ≤ n) (line : EndsALine a) (part : played p n last w (lines_of a) ≡ ends xs (Whole v)) (alike : AlikeButRedraw v u) where
  whole_is : played p n last w (lines_of (a ++ b)) ≡ in_front xs (moved_on (n - 1 + length (lines_of a)) (played p 1 (clock_behind n last (lines_of a)) v (lines_of b)))
  whole_is =
      let z : n + length (lines_of a) ≡ n - 1 + length (lines_of a) + 1 = omega (arith, from) in
      ap (played p n last w) (lines_join a b line)
      ∙ whole_goes_on p v (lines_of b) n last w xs (lines_of a) part
      ∙ ap (λ m. in_front xs (played p m (clock_behind n last (lines_of a)) v (lines_of b))) z
      ∙ ap (in_front xs) (lines_moved p (n - 1 + length (lines_of a)) 1 (clock_behind n last (lines_of a)) v (lines_of b))

  pub parts_are_whole : AreAlike (played p n last w (lines_of (a ++ b))) (in_front xs (moved_on (n - 1 + length (lines_of a)) (played p 1 (clock_behind n last (lines_of a)) u (lines_of b))))
  parts_are_whole =
      subst (λ o. AreAlike o (in_front xs (moved_on (n - 1 + length (lines_of a)) (played p 1 (clock_behind n last (lines_of a)) u (lines_of b))))) (sym whole_is)
      (moved_alike (n - 1 + length (lines_of a)) xs (played p 1 (clock_behind n last (lines_of a)) v (lines_of b)) (played p 1 (clock_behind n last (lines_of a)) u (lines_of b))
      (lines_alike p 1 (clock_behind n last (lines_of a)) v u (lines_of b) alike))

pub worlds_go_on : (p : Program) (n : ℕ) (w v u : World Task) (xs : List (List ℕ)) (a b : List ℕ) → 1 ≤ n → EndsALine a → played p n w.devices.clock w (lines_of a) ≡ ends xs (Whole v) → AlikeButRedraw v u
    → AreAlike (played p n w.devices.clock w (lines_of (a ++ b))) (in_front xs (moved_on (n - 1 + length (lines_of a)) (played p 1 u.devices.clock u (lines_of b))))
worlds_go_on p n w v u xs a b from line part alike =
    let e : clock_behind n w.devices.clock (lines_of a) ≡ u.devices.clock = sym (last_is_read p n w v xs (lines_of a) part) ∙ ap (λ (x : World Task). x.devices.clock) alike in
    subst (λ c. AreAlike (played p n w.devices.clock w (lines_of (a ++ b))) (in_front xs (moved_on (n - 1 + length (lines_of a)) (played p 1 c u (lines_of b))))) e
    (parts_are_whole p n w.devices.clock w v u xs a b from line part alike)
