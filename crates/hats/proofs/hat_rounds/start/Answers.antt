-- The hats that an index of a project gives are those that the machine starts.
use Rattle.std.proofs.Common.{ℕ, List, sym, ap, ◌∙◌}
use Rattle.std.specs.Prelude.{Err}
use Rattle.machine_spec.specs.Starting.{starts}
use Rattle.hat_index.specs.Index.{found}
use Rattle.project_check.specs.Loaded.{program_of, sheet_at}
use Rattle.hats.specs.Indexed.{hats_for}
use Rattle.hats.proofs.Outcomes.{given-starts, stop-same}
use Rattle.hats.proofs.Stopping.{hats_stop}
use Rattle.hats.proofs.hat_rounds.start.Goals as goal

pub start_rounds-outcome-requires-clause-first : goal.start_rounds-outcome-requires-clause-first
start_rounds-outcome-requires-clause-first c = λ j. record { opcode = c.first_opcode.ensures j; folded = (c.as_str.ensures ∙ c.in-Ok.ensures) j }

pub returns-in-Ok-outcome-clause-ok : goal.returns-in-Ok-outcome-clause-ok
returns-in-Ok-outcome-clause-ok c = λ project is.
    let given =
    c.an_index_gives_the_hats_that_start.ensures.starts project c.args.index.now c.args.filter.now c.args.targets.now is
    ∙ ap (hats_for (found c.args.index.now) c.args.filter.now) (sym c.instances.ensures) in
    given-starts c.args.running (starts (program_of project) c.args.filter.now c.args.targets.now) _ c.args.threads.now c.args.next.now c.new.result given c.new.ensures
    ∙ c.in-Ok-outcome.ensures.ok

pub returns-in-Ok-outcome-clause-fits : goal.returns-in-Ok-outcome-clause-fits
returns-in-Ok-outcome-clause-fits c = λ project is.
    c.in-Ok-outcome.ensures.kept.fits (λ t. sheet_at t project) (c.an_index_gives_the_hats_that_start.ensures.held project c.args.index.now is)

pub returns-clause-stop : goal.returns-clause-stop
returns-clause-stop c = λ project is.
    let given =
    c.an_index_gives_the_hats_that_start.ensures.starts project c.args.index.now c.args.filter.now c.args.targets.now is
    ∙ ap (hats_for (found c.args.index.now) c.args.filter.now) (sym c.instances.ensures) in
    stop-same (Unit {0}) (List ℕ) c.in-Err-outcome.stop _ _
    (sym (given-starts c.args.running (starts (program_of project) c.args.filter.now c.args.targets.now) _ c.args.threads.now c.args.next.now c.new.result given c.new.ensures))
    c.in-Err-outcome.ensures.stop

pub returns-clause-kind : goal.returns-clause-kind
returns-clause-kind c =
    hats_stop {T = Unit {0}} (Err c.in-Err-outcome.stop) c.args.running (hats_for (found c.args.index.now) c.args.filter.now c.instances.result.now)
    (record { threads = c.args.threads.now; next = c.args.next.now; serials = c.new.result }) c.in-Err-outcome.ensures.stop

pub returns-clause-fits : goal.returns-clause-fits
returns-clause-fits c = λ project is.
    c.in-Err-outcome.ensures.kept.fits (λ t. sheet_at t project) (c.an_index_gives_the_hats_that_start.ensures.held project c.args.index.now is)
