use Rattle.std.proofs.Common.{◌≡◌, ◌+◌, ◌++◌, [], ◌∷◌, drop, map, sym, ap, ◌∙◌, subst, arith}
use Rattle.scratch_values.specs.Args.{arguments}
use Rattle.scratch_values.specs.Held.{pair_of, held}
use Rattle.machine_spec.specs.Outcome.{Goes, StopIs, then_do}
use Rattle.machine_spec.specs.Words.{seen_words, made_of}
use Rattle.machine_spec.specs.Evaluate.{value}
use Rattle.project_check.specs.Loaded.{ranks_at}
use Rattle.project_check.proofs.Linked.{ranked_at}
use Rattle.evaluate.specs.Plugged.{ArePluggedIn}
use Rattle.evaluate.specs.Seen.{seen, sheet_of, input_values, arguments_at}
use Rattle.evaluate.proofs.Plugged.{plugged-at}
use Rattle.evaluate.proofs.Values.{Stops, before, pairs-push, one-more, stop-then, stop-made, one-stops, all-done, arguments-here}
use Rattle.evaluate.proofs.input_values.+evaluate.Goals as goal

pub many-argument-requires : goal.many-argument-requires
many-argument-requires g t c κs within =
    let d = c.decreases in
    let plugged = plugged-at c.args.view.now c.args.k c.as_slice-input-items.result.now c.loop-input.input-index c.input-item.result (subst (λ xs. ArePluggedIn c.args.view.now c.args.k xs) (sym c.as_slice-input-items.ensures) c.linked-block.ensures.plugged) c.loop-input-test.true c.input-item.is in
    (omega (arith, d), (within, (c.requires.held, plugged)))

pub many-loop-input-preserved : goal.many-loop-input-preserved
many-loop-input-preserved g t c =
    let v = c.args.view.now in
    let items = c.as_slice-input-items.result.now in
    let i = c.loop-input.input-index in
    let done = map pair_of c.loop-input.args.items in
    let after = seen_words g.R.Rng.stream c.argument.new.words in
    let more = one-more v items i c.input-item.result done (seen_words g.R.Rng.stream c.loop-input.words) c.loop-input-test.true c.input-item.is (held c.in-Ok.arg.value) after c.in-Ok.ensures.ok in
    let pushed : map pair_of c.push.new.self.items ≡ done ++ (c.input-item.result.0, held c.in-Ok.arg.value) ∷ [] =
    ap (map pair_of) c.in-Ok-push.ensures.items ∙ pairs-push c.loop-input.args.items c.in-Ok.arg c.input-item.result.0 c.in-Ok.ensures.name in
    record {
      of = c.loop-input.invariant.of;
      same = c.loop-input.invariant.same ∙ more ∙ ap (λ vs. before vs (input_values v (drop (i + 1) items) after)) (sym pushed);
    }

pub many-returns-in-Err-clause-stop : goal.many-returns-in-Err-clause-stop
many-returns-in-Err-clause-stop g t c =
    let v = c.args.view.now in
    let start = seen_words g.R.Rng.stream c.args.words.now in
    let stop = c.in-Err.stop in
    let here = one-stops v c.as_slice-input-items.result.now c.loop-input.input-index c.input-item.result (map pair_of c.loop-input.args.items) (seen_words g.R.Rng.stream c.loop-input.words) c.loop-input-test.true c.input-item.is stop c.in-Err.ensures.stop in
    let all = subst (λ o. Stops stop o) (sym c.loop-input.invariant.same) here in
    let inputs = subst (λ xs. Stops stop (input_values v xs start)) c.loop-input.invariant.of all in
    (subst (λ o. Stops stop o) (sym (arguments-here v c.args.k c.linked-block.result.now c.linked-block.ensures.block start)) (stop-then stop _ _ inputs))

pub many-returns-clause-ok : goal.many-returns-clause-ok
many-returns-clause-ok g t c =
    let v = c.args.view.now in
    let start = seen_words g.R.Rng.stream c.args.words.now in
    let w = seen_words g.R.Rng.stream c.loop-input.words in
    let block = c.linked-block.result.now in
    let done = map pair_of c.loop-input.args.items in
    let over = c.loop-input-test.false in
    let all = all-done v c.as_slice-input-items.result.now c.loop-input.input-index done start w (omega (arith, over)) c.loop-input.invariant.same in
    arguments-here v c.args.k block c.linked-block.ensures.block start
    ∙ ap (λ xs. then_do (input_values v xs start) (made_of (λ ys. arguments ys block.fields))) (sym c.loop-input.invariant.of)
    ∙ ap (λ o. then_do o (made_of (λ ys. arguments ys block.fields))) all
    ∙ ap (λ a. Goes (record { value = a; words = w })) (ap (arguments done) (sym c.as_slice.ensures) ∙ sym c.many.ensures)

pub by_arguments-returns-clause-stop : goal.by_arguments-returns-clause-stop
by_arguments-returns-clause-stop g t c =
    let v = c.args.view.now in
    let start = seen_words g.R.Rng.stream c.args.words.now in
    let block = c.linked-block.result.now in
    let stop = c.in-Err.stop in
    let told = c.an_expression_is_told.ensures (sheet_of v) (ranks_at v.target v.project.now) c.args.id block (ranked_at v.project.now v.target) c.requires.is c.linked-block.ensures.block in
    let here : Stops stop (arguments_at v c.args.id start) = subst (λ r. StopIs r (arguments_at v c.args.id start)) c.in-Err.is c.arguments-outcome.ensures.stop in
    let args = subst (λ o. Stops stop o) (arguments-here v c.args.id block c.linked-block.ensures.block start) here in
    let inputs = stop-made stop (input_values v block.inputs start) (λ xs. arguments xs block.fields) args in
    (subst (λ e. Stops stop (value (seen v) e start)) (sym told) (stop-then stop _ _ inputs))
