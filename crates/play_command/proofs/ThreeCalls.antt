-- Two parts of a script write what the whole writes, over three calls.
use Rattle.std.proofs.Common.{◌≡◌, ℕ, ◌+◌, Bool, true, false, cond, ltb, List, [], ◌∷◌, ◌++◌, length, Option, None, Some, Ok, refl, sym, ap, ◌∙◌, subst, arith, append_assoc}
use Rattle.std.specs.Prelude.{◌≤◌}
use Rattle.std.specs.FinMap.{get}
use Rattle.std.proofs.lemmas.Bool.Decides.{nat_tests}
use Rattle.std.proofs.lemmas.List.{length-append}
use Rattle.sv_channels.specs.Files.{Files}
use Rattle.sha2.specs.Sha256.{sha256}
use Rattle.machine_spec.specs.First.{first_world}
use Rattle.machine_spec.specs.Output.{Ending as RunEnding, Output, Whole, BadLine, Limited, ends, in_front}
use Rattle.machine_spec.specs.Program.{Program}
use Rattle.machine_spec.specs.ScriptText.{lines_of, script_limit}
use Rattle.machine_spec.specs.Tasks.{Task}
use Rattle.machine_spec.specs.World.{World, as_saved}
use Rattle.saved_spec.specs.Saved.{saved_text, snapshot, saved_limit}
use Rattle.saved_spec.specs.Tasks.{task}
use Rattle.project_spec.specs.Basis.{Basis}
use Rattle.saved_spec.specs.Laws.{OneAnswer}
use Rattle.saved_spec.specs.RunShapes.{Told}
use Rattle.saved_spec.specs.Worlds.{world_told}
use Rattle.laws_of_resuming.specs.Laws.{WorldsGoOn}
use Rattle.laws_of_resuming.specs.Parts.{AlikeButRedraw, AreAlike, EndAlike, ending_moved, moved_on}
use Rattle.play_command.specs.Command.{Form, ResumeForm}
use Rattle.play_command.specs.Laws.{AreCalls, EndingsAgree, Parts, SaveAlike, TwoAreOne}
use Rattle.project_spec.specs.Limits.{project_limit}
use Rattle.script_play.specs.Limits.{limit_save_line}
use Rattle.play_command.specs.Resuming.{TellsAgain}
use Rattle.play_command.specs.Outcome.{accepted, continued, Continues, ran, unsaved, fetched, Outcome, all_of, at_ending, outcome_of, output_from, output_of, put_or_told, resume_outcome, text_of_run, words_of}
use Rattle.run_save.specs.declared.status.Which.TheVariants as which
use Rattle.play_command.proofs.Readings.{fetched_ok}

-- the text of a saved run does not tell its redraw request
same_text : (project : List ℕ) (seed : ℕ) (w v : World Task) → AlikeButRedraw w v → text_of_run project seed w ≡ text_of_run project seed v
same_text project seed w v h = ap (λ x. saved_text task (snapshot (sha256 project) seed x)) h

-- What a run that was saved was

pub record Ended (o : Outcome) (run : Output) (last : World Task) (text : List ℕ) : Type 0 where
  pub ran_so : run ≡ ends o.texts (Whole last)
  pub short : length text ≤ saved_limit

abbrev by_length : Bool → List ℕ → List (List ℕ) → World Task → Outcome
by_length c text writes w =
    cond c (record { texts = writes ++ limit_save_line (length text) ∷ []; ending = unsaved (length text); saved = None })
    (record { texts = writes; ending = ran (Whole w); saved = Some text })

length_ended : (c : Bool) (put : List ℕ) (writes : List (List ℕ)) (w last : World Task) (text : List ℕ) → ltb saved_limit (length put) ≡ c → (by_length c put writes w).ending ≡ ran (Whole last) → (by_length c put writes w).saved ≡ Some text
    → Ended (by_length c put writes w) (ends writes (Whole w)) last text
length_ended true put writes w last text t e f = absurd (cc f)
length_ended false put writes w last text t e f =
    let same : w ≡ last = cc e in
    let same_put : put ≡ text = cc f in
    let small : length put ≤ saved_limit = grind (arith, nat_tests) in
    record { ran_so = ap (λ x. ends writes (Whole x)) same; short = subst (λ x. length x ≤ saved_limit) same_put small }

ending_ended : (T : World Task → List ℕ) (writes : List (List ℕ)) (ending : RunEnding) (last : World Task) (text : List ℕ) → (at_ending T writes ending).ending ≡ ran (Whole last) → (at_ending T writes ending).saved ≡ Some text
    → Ended (at_ending T writes ending) (ends writes ending) last text
ending_ended T writes (Whole w) last text e f = length_ended (ltb saved_limit (length (T w))) (T w) writes w last text refl e f
ending_ended T writes (BadLine r) last text e f = absurd (cc f)
ending_ended T writes (Limited s) last text e f = absurd (cc f)

all_ended : (save : Option (List ℕ)) (T : World Task → List ℕ) (run : Output) (last : World Task) (text : List ℕ) → (all_of save T run).ending ≡ ran (Whole last) → (all_of save T run).saved ≡ Some text → Ended (all_of save T run) run last text
all_ended None T run last text e f = absurd (cc f)
all_ended (Some name) T run last text e f = ending_ended T run.writes run.ending last text e f

-- Outputs that are alike are saved alike

module _ (T : World Task → List ℕ) (same : (w v : World Task) → AlikeButRedraw w v → T w ≡ T v) (k : ℕ) (xs : List (List ℕ)) where
  pub record Follow (second third : Outcome) : Type 0 where
    pub texts : third.texts ≡ xs ++ second.texts
    pub ending : EndingsAgree k second.ending third.ending
    pub saved : third.saved ≡ second.saved

  by_length_follow : (c : Bool) (put : List ℕ) (writes more : List (List ℕ)) (w v : World Task) → more ≡ xs ++ writes → AlikeButRedraw v w → Follow (by_length c put writes w) (by_length c put more v)
  by_length_follow true put writes more w v e h = record {
    texts = ap (λ x. x ++ limit_save_line (length put) ∷ []) e ∙ append_assoc xs writes (limit_save_line (length put) ∷ []);
    ending = refl;
    saved = refl;
  }
  by_length_follow false put writes more w v e h = record { texts = e; ending = h; saved = refl }

  put_follow : (writes more : List (List ℕ)) (w v : World Task) → more ≡ xs ++ writes → AlikeButRedraw v w → Follow (put_or_told (T w) writes (Whole w)) (put_or_told (T v) more (Whole v))
  put_follow writes more w v e h =
      subst (λ text. Follow (put_or_told (T w) writes (Whole w)) (put_or_told text more (Whole v))) (sym (same v w h)) (by_length_follow (ltb saved_limit (length (T w))) (T w) writes more w v e h)

  ending_follow : (writes more : List (List ℕ)) (e f : RunEnding) → more ≡ xs ++ writes → EndAlike f (ending_moved k e) → Follow (at_ending T writes e) (at_ending T more f)
  ending_follow writes more (Whole w) (Whole v) e h = put_follow writes more w v e h
  ending_follow writes more (Whole w) (BadLine r) e h = absurd (cc h)
  ending_follow writes more (Whole w) (Limited s) e h = absurd (cc h)
  ending_follow writes more (BadLine q) (BadLine r) e h = record { texts = e; ending = h; saved = refl }
  ending_follow writes more (BadLine q) (Whole v) e h = absurd (cc h)
  ending_follow writes more (BadLine q) (Limited s) e h = absurd (cc h)
  ending_follow writes more (Limited q) (Limited s) e h = record { texts = e; ending = h; saved = refl }
  ending_follow writes more (Limited q) (Whole v) e h = absurd (cc h)
  ending_follow writes more (Limited q) (BadLine r) e h = absurd (cc h)

  all_follow : (save other : Option (List ℕ)) → SaveAlike save other → (second third : Output) → AreAlike third (in_front xs (moved_on k second)) → Follow (all_of save T second) (all_of other T third)
  all_follow None None s second third h = record { texts = h.writes; ending = h.ending; saved = refl }
  all_follow (Some name) (Some other) s second third h = ending_follow second.writes third.writes second.ending third.ending h.writes h.ending
  all_follow None (Some other) s second third h = absurd s
  all_follow (Some name) None s second third h = absurd s

-- The outcomes of the calls

played_is : (files : Files) (form : Form) (project script : List ℕ) (p : Program) → get files form.project ≡ Some project → get files form.script ≡ Some script → length project ≤ project_limit → length script ≤ script_limit
    → outcome_of files form (accepted p) ≡ all_of form.save (text_of_run project form.seed) (output_of p (words_of form.seed) script)
played_is files form project script p found scripted small short =
    fetched_ok which.Project project_limit (get files form.project) project (λ x. fetched which.Script script_limit (get files form.script) (λ s. all_of form.save (text_of_run x form.seed) (output_of p (words_of form.seed) s))) found small
    ∙ fetched_ok which.Script script_limit (get files form.script) script (λ s. all_of form.save (text_of_run project form.seed) (output_of p (words_of form.seed) s)) scripted short

resumed_is : (files : Files) (form : ResumeForm) (project saved script : List ℕ) (b : Basis) (t : Told) → get files form.project ≡ Some project → get files form.saved ≡ Some saved → get files form.script ≡ Some script
    → length project ≤ project_limit → length saved ≤ saved_limit → length script ≤ script_limit
    → resume_outcome files form (accepted b) (continued t) ≡ all_of form.save (text_of_run project t.run.seed) (output_from b t script)
resumed_is files form project saved script b t found kept scripted small few short =
    fetched_ok which.Project project_limit (get files form.project) project (λ x. fetched which.Saved saved_limit (get files form.saved) (λ y. fetched which.Script script_limit (get files form.script) (λ s. all_of form.save (text_of_run x t.run.seed) (output_from b t s)))) found small
    ∙ fetched_ok which.Saved saved_limit (get files form.saved) saved (λ y. fetched which.Script script_limit (get files form.script) (λ s. all_of form.save (text_of_run project t.run.seed) (output_from b t s))) kept few
    ∙ fetched_ok which.Script script_limit (get files form.script) script (λ s. all_of form.save (text_of_run project t.run.seed) (output_from b t s)) scripted short

-- The law

module _ (goes_on : WorldsGoOn) (one : OneAnswer) (x : Parts) (first second third : Files) (form whole : Form) (resumed : ResumeForm) (calls : AreCalls x first form second resumed third whole) where
  lengths : length (x.a ++ x.b) ≡ length x.a + length x.b
  lengths = length-append x.a x.b

  abbrev run_a : Output
  run_a = output_of x.basis.program (words_of x.seed) x.a

  abbrev run_ab : Output
  run_ab = output_of x.basis.program (words_of x.seed) (x.a ++ x.b)

  first_is : outcome_of first form (accepted x.basis.program) ≡ all_of form.save (text_of_run x.project x.seed) run_a
  first_is =
      played_is first form x.project x.a x.basis.program calls.first_project calls.first_script calls.small (let s = calls.short in let l = lengths in omega (arith, s, l))
      ∙ ap (λ n. all_of form.save (text_of_run x.project n) (output_of x.basis.program (words_of n) x.a)) calls.first_seed

  third_is : outcome_of third whole (accepted x.basis.program) ≡ all_of whole.save (text_of_run x.project x.seed) run_ab
  third_is =
      played_is third whole x.project (x.a ++ x.b) x.basis.program calls.third_project calls.third_script calls.small calls.short
      ∙ ap (λ n. all_of whole.save (text_of_run x.project n) (output_of x.basis.program (words_of n) (x.a ++ x.b))) calls.third_seed

  abbrev Agree : Outcome → Outcome → Outcome → Type 0
  Agree = TwoAreOne (length (lines_of x.a))

  followed : (o q : Outcome) (xs : List (List ℕ)) → o.texts ≡ xs → (r : Outcome) → Follow (text_of_run x.project x.seed) (same_text x.project x.seed) (length (lines_of x.a)) xs q r → Agree o q r
  followed o q xs e r f = record { texts = f.texts ∙ ap (λ y. y ++ q.texts) (sym e); ending = f.ending; saved = f.saved }

  pub calls_agree : (last : World Task) (text : List ℕ) (t : Told) → (outcome_of first form (accepted x.basis.program)).ending ≡ ran (Whole last) → (outcome_of first form (accepted x.basis.program)).saved ≡ Some text
      → TellsAgain x.basis x.project x.seed last text → get second resumed.saved ≡ Some text → Continues x.basis x.project text (continued t)
      → Agree (outcome_of first form (accepted x.basis.program)) (resume_outcome second resumed (accepted x.basis) (continued t)) (outcome_of third whole (accepted x.basis.program))
  calls_agree last text t e f again kept tells =
      let a = all_of form.save (text_of_run x.project x.seed) run_a in
      let ended : Ended a run_a last text = all_ended form.save (text_of_run x.project x.seed) run_a last text (subst (λ o. o.ending ≡ ran (Whole last)) first_is e) (subst (λ o. o.saved ≡ Some text) first_is f) in
      let told_alike : Ok again.told_run ≡ Ok t = one x.basis (sha256 x.project) text (Ok again.told_run) (Ok t) again.accepted_again tells in
      let same_told : again.told_run ≡ t = cc told_alike in
      let seed_is : t.run.seed ≡ x.seed = subst (λ u. u.run.seed ≡ x.seed) same_told again.same_seed in
      let world_is : world_told x.basis t ≡ as_saved last = subst (λ u. world_told x.basis u ≡ as_saved last) same_told again.same_world in
      let alike : AlikeButRedraw last (world_told x.basis t) = sym (ap (λ (w : World Task). as_saved w) world_is) in
      let few : length text ≤ saved_limit = ended.short in
      let second_is = resumed_is second resumed x.project text x.b x.basis t calls.second_project kept calls.second_script calls.small few (let s = calls.short in let l = lengths in omega (arith, s, l))
      ∙ ap (λ n. all_of resumed.save (text_of_run x.project n) (output_from x.basis t x.b)) seed_is in
      let run_b = output_from x.basis t x.b in
      let joined = goes_on x.basis.program 1 (first_world x.basis.program (words_of x.seed)) last (world_told x.basis t) a.texts x.a x.b (omega arith) calls.line ended.ran_so alike in
      let numbered : AreAlike run_ab (in_front a.texts (moved_on (length (lines_of x.a)) run_b)) = subst (λ k. AreAlike run_ab (in_front a.texts (moved_on k run_b))) (omega arith) joined in
      let follow = all_follow (text_of_run x.project x.seed) (same_text x.project x.seed) (length (lines_of x.a)) a.texts resumed.save whole.save calls.alike run_b run_ab numbered in
      subst (λ o. Agree o (resume_outcome second resumed (accepted x.basis) (continued t)) (outcome_of third whole (accepted x.basis.program))) (sym first_is)
      (subst (λ o. Agree a o (outcome_of third whole (accepted x.basis.program))) (sym second_is)
      (subst (λ o. Agree a (all_of resumed.save (text_of_run x.project x.seed) run_b) o) (sym third_is)
      (followed a (all_of resumed.save (text_of_run x.project x.seed) run_b) a.texts refl (all_of whole.save (text_of_run x.project x.seed) run_ab) follow)))
