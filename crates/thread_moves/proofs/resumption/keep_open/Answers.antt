-- A level is opened where none is left.
use Rattle.std.proofs.Common.{arith, ◌∙◌}
use Rattle.std.proofs.lemmas.Result.{on_ok_weaker}
use Rattle.thread_moves.specs.Moves.{levels_at}
use Rattle.thread_moves.proofs.InPlace.{only_self}
use Rattle.thread_moves.proofs.Resumes.{kept_some, kept_none, none_there}
use Rattle.thread_moves.proofs.resumption.keep_open.Goals as goal

pub returns-then-depth-gt0-clause-levels : goal.returns-then-depth-gt0-clause-levels
returns-then-depth-gt0-clause-levels c = kept_some (levels_at c.args.which c.args.threads.now) (omega (arith, c.depth.ensures, c.if-depth-gt0.true))

pub returns-then-depth-gt0-clause-only : goal.returns-then-depth-gt0-clause-only
returns-then-depth-gt0-clause-only c = only_self c.args.which c.args.threads.now

pub open_empty-requires-clause-room : goal.open_empty-requires-clause-room
open_empty-requires-clause-room c = c.requires.room (none_there (levels_at c.args.which c.args.threads.now) (omega (arith, c.depth.ensures, c.if-depth-gt0.false)))

pub returns-else-depth-gt0-clause-levels : goal.returns-else-depth-gt0-clause-levels
returns-else-depth-gt0-clause-levels c = on_ok_weaker c.open_empty.result (λ e. e ∙ kept_none (levels_at c.args.which c.args.threads.now) (none_there (levels_at c.args.which c.args.threads.now) (omega (arith, c.depth.ensures, c.if-depth-gt0.false)))) c.open_empty.ensures.levels
