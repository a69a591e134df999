use Rattle.std.proofs.Common.{◌≡◌, ℕ, List, Bool, Option, false, ap, ◌∙◌}
use Rattle.std.specs.Prelude.{unwrap_or}
use Rattle.machine_spec.specs.Frame.{with_edge}
use Rattle.machine_spec.specs.Stores.{instance_at}
use Rattle.targets.specs.Edges.{edge_of}
use Rattle.targets.proofs.Again.{put_changed, put_back}
use Rattle.targets.proofs.Recording.{recorded_is}
use Rattle.targets.proofs.state.Targets.set_edge.Goals as goal

pub returns-in-Ok-clause-recorded : goal.returns-in-Ok-clause-recorded
returns-in-Ok-clause-recorded c =
    ap (λ (o : Option Bool). unwrap_or o false)
    (c.recorded-was.ensures ∙ ap (λ (l : List (ℕ × Bool)). edge_of c.args.hat l) (c.as_slice.ensures ∙ c.exchange-old.ensures.old))
    ∙ recorded_is c.args.hat (instance_at c.args.id c.args.self.now).edges

pub returns-in-Ok-clause-new : goal.returns-in-Ok-clause-new
returns-in-Ok-clause-new c =
    let put : c.recording-new.result.0 ≡ with_edge c.args.hat c.args.value c.exchange-old.result = rw c.in-Ok.is at c.recording-new.ensures.ok in
    put_changed c.args.id c.new.result c.recording-new.result.0 (with_edge c.args.hat c.args.value) c.args.self.now c.exchange-old.new.self c.exchange-2.new.self
    c.exchange-old.ensures.new c.exchange-2.ensures.new (put ∙ ap (with_edge c.args.hat c.args.value) c.exchange-old.ensures.old)

pub returns-in-Err-clause-err : goal.returns-in-Err-clause-err
returns-in-Err-clause-err c =
    let put : c.recording-new.result.0 ≡ c.exchange-old.result = rw c.in-Err.is at c.recording-new.ensures.err in
    put_back c.args.id c.new.result c.recording-new.result.0 c.args.self.now c.exchange-old.new.self c.exchange-2.new.self
    c.exchange-old.ensures.new c.exchange-2.ensures.new (put ∙ c.exchange-old.ensures.old)
