use Rattle.std.proofs.Common.{◌≡◌, sym, ap, ◌∙◌, subst}
use Rattle.std.proofs.lemmas.Result.{IfOk-weaker}
use Rattle.machine_spec.specs.Evaluate.{evaluated}
use Rattle.machine_spec.specs.Outcome.{StopIs}
use Rattle.machine_spec.specs.Words.{seen_words}
use Rattle.project_check.specs.Loaded.{ranks_at}
use Rattle.project_check.proofs.Linked.{closed_at, ranked_at}
use Rattle.evaluate.specs.Seen.{seen, sheet_of}
use Rattle.evaluate.proofs.Stopping.{arguments_stop}
use Rattle.evaluate.proofs.Values.{evaluated-told}
use Rattle.evaluate.proofs.input_values.inputs.Goals as goal

pub returns-clause-ok : goal.returns-clause-ok
returns-clause-ok g c =
    let v = c.args.view.now in
    let start = seen_words g.R.Rng.stream c.args.words.now in
    let block = c.linked-cached.result.now in
    let told = c.a_script_is_told.ensures (sheet_of v) (ranks_at v.target v.project.now) c.args.block block (ranked_at v.project.now v.target) (closed_at v.project.now v.target) c.linked-cached.ensures.block in
    IfOk-weaker c.arguments.result _ _ (λ a is s rest e.
    let same : told.0 ≡ s = cc (told.1, e) in
    ap (λ t. evaluated (seen v) t start) (sym same) ∙ evaluated-told v c.args.block block c.linked-cached.ensures.block start told.0 told.2 ∙ is) c.arguments.ensures.ok

pub returns-clause-stop : goal.returns-clause-stop
returns-clause-stop g c = λ s rest e.
    let v = c.args.view.now in
    let start = seen_words g.R.Rng.stream c.args.words.now in
    let block = c.linked-cached.result.now in
    let told = c.a_script_is_told.ensures (sheet_of v) (ranks_at v.target v.project.now) c.args.block block (ranked_at v.project.now v.target) (closed_at v.project.now v.target) c.linked-cached.ensures.block in
    let same : told.0 ≡ s = cc (told.1, e) in
    subst (λ o. StopIs c.arguments.result o) (sym (ap (λ t. evaluated (seen v) t start) (sym same) ∙ evaluated-told v c.args.block block c.linked-cached.ensures.block start told.0 told.2)) c.arguments.ensures.stop

pub returns-clause-kind : goal.returns-clause-kind
returns-clause-kind g c = arguments_stop c.arguments.result c.args.view.now c.args.block (seen_words g.R.Rng.stream c.args.words.now) c.arguments.ensures.stop
