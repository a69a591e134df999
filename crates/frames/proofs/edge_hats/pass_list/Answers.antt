-- One more edge hat of the list is passed.
use Rattle.std.proofs.Common.{sym, ap, ◌∙◌}
use Rattle.machine_spec.specs.Frame.{edges_passed}
use Rattle.project_check.specs.Loaded.{program_of}
use Rattle.hats.specs.Edges.{free_edges}
use Rattle.executions.specs.Seen.{seen}
use Rattle.frames.proofs.Listing.{edges-seen, edge-turn, all-listed, turn-of, turn-listed, turn-more, turn-stop, turn-end}
use Rattle.frames.proofs.edge_hats.pass_list.Goals as goal

pub loop-edge-init : goal.loop-edge-init
loop-edge-init g c = record {
  idle = c.requires.idle;
  heads = λ x h. h;
  walk = ap (λ xs. edges_passed (program_of c.args.project.now) xs (seen g.R.Rng.stream c.args.project.now c.args.state.now)) (sym (edges-seen g.R.Rng.stream c.args.project.now c.args.state.now));
}

pub pass_edge_hat-requires-clause-edge : goal.pass_edge_hat-requires-clause-edge
pass_edge_hat-requires-clause-edge g c =
    let p = c.args.project.now in
    let w = c.args.state.now in
    turn-listed p w.targets c.loop-edge.state.targets (free_edges (program_of p) w.targets w.threads) c.loop-edge.edge-index c.edge-item.result c.loop-edge.invariant.heads
    (edge-turn p w.targets w.threads c.as_slice-listed.result.now (c.as_slice-listed.ensures ∙ c.requires.list) c.loop-edge.edge-index c.edge-item.result c.loop-edge-test.true c.edge-item.is)

pub loop-edge-preserved : goal.loop-edge-preserved
loop-edge-preserved g c =
    let p = c.args.project.now in
    let w = c.args.state.now in
    let xs = free_edges (program_of p) w.targets w.threads in
    let turn = edge-turn p w.targets w.threads c.as_slice-listed.result.now (c.as_slice-listed.ensures ∙ c.requires.list) c.loop-edge.edge-index c.edge-item.result c.loop-edge-test.true c.edge-item.is in
    record {
      idle = c.in-Ok.ensures.kept;
      heads = λ x h. c.pass_edge_hat.ensures.heads x (c.loop-edge.invariant.heads x h);
      walk = turn-more (program_of p) xs c.loop-edge.edge-index (seen g.R.Rng.stream p w) (seen g.R.Rng.stream p c.loop-edge.state) c.loop-edge.invariant.walk turn.pair turn.rest (seen g.R.Rng.stream p c.pass_edge_hat.new.state)
          (c.in-Ok.ensures.ok turn.pair (turn-of p w.targets xs c.loop-edge.edge-index c.edge-item.result turn));
    }

pub returns-in-Err-clause-stop : goal.returns-in-Err-clause-stop
returns-in-Err-clause-stop g c =
    let p = c.args.project.now in
    let w = c.args.state.now in
    let xs = free_edges (program_of p) w.targets w.threads in
    let turn = edge-turn p w.targets w.threads c.as_slice-listed.result.now (c.as_slice-listed.ensures ∙ c.requires.list) c.loop-edge.edge-index c.edge-item.result c.loop-edge-test.true c.edge-item.is in
    turn-stop (program_of p) xs c.loop-edge.edge-index (seen g.R.Rng.stream p w) (seen g.R.Rng.stream p c.loop-edge.state) c.loop-edge.invariant.walk turn.pair turn.rest (Unit {0}) (Unit {0}) c.in-Err.stop
    (c.in-Err.ensures.stop turn.pair (turn-of p w.targets xs c.loop-edge.edge-index c.edge-item.result turn))

pub returns-clause-ok : goal.returns-clause-ok
returns-clause-ok g c =
    let p = c.args.project.now in
    let w = c.args.state.now in
    turn-end (program_of p) (free_edges (program_of p) w.targets w.threads) c.loop-edge.edge-index (seen g.R.Rng.stream p w) (seen g.R.Rng.stream p c.loop-edge.state) c.loop-edge.invariant.walk
    (all-listed p w.targets w.threads c.as_slice-listed.result.now (c.as_slice-listed.ensures ∙ c.requires.list) c.loop-edge.edge-index c.loop-edge-test.false)
