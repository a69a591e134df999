-- The hat is started as what its block tells.
use Rattle.std.proofs.Common.{◌≡◌, ◌∙◌, Some, ap, rules}
use Rattle.std.specs.Prelude.{slice_get}
use Rattle.machine_spec.specs.Starting.{restarts}
use Rattle.project_check.specs.Loaded.{blocks_at, sheet_at}
use Rattle.hats.proofs.Fired.{first-held, fired-ok, fired-stop}
use Rattle.hats.proofs.edge_start.fire.Goals as goal

pub returns-clause-ok : goal.returns-clause-ok
returns-clause-ok c =
    let held : slice_get (blocks_at c.args.edge.now.target c.args.project.now) c.args.edge.now.hat ≡ Some c.in-Some.block.now = search rules in
    fired-ok c.args.project.now c.args.edge.now c.in-Some.block.now c.blocks-table.ensures.closed held c.next_of.result c.next_of.ensures c.restarts.result (c.restarts.ensures ∙ ap restarts c.kind_of.ensures)
    c.start_alone.result _ (λ serials. record { threads = c.start_alone.new.threads; next = c.start_alone.new.next; serials = serials }) c.start_alone.ensures.ok

pub returns-clause-stop : goal.returns-clause-stop
returns-clause-stop c =
    let held : slice_get (blocks_at c.args.edge.now.target c.args.project.now) c.args.edge.now.hat ≡ Some c.in-Some.block.now = search rules in
    fired-stop c.args.project.now c.args.edge.now c.in-Some.block.now c.blocks-table.ensures.closed held c.next_of.result c.next_of.ensures c.restarts.result (c.restarts.ensures ∙ ap restarts c.kind_of.ensures)
    c.start_alone.result _ c.start_alone.ensures.stop

pub returns-clause-fits : goal.returns-clause-fits
returns-clause-fits c =
    let held : slice_get (blocks_at c.args.edge.now.target c.args.project.now) c.args.edge.now.hat ≡ Some c.in-Some.block.now = search rules in
    c.start_alone.ensures.fits (λ t. sheet_at t c.args.project.now)
    (first-held c.args.project.now c.args.edge.now c.in-Some.block.now c.blocks-table.ensures.closed held c.next_of.result c.next_of.ensures)
