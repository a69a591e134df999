use Rattle.std.proofs.Common.{◌∷◌, ap, sym, ◌∙◌, arith}
use Rattle.std.proofs.lemmas.Bool.{lt-ltb, le-ltb}
use Rattle.machine_spec.specs.Outcome.{Goes, most_levels}
use Rattle.machine_spec.specs.Places.{on_place}
use Rattle.thread_frames.specs.Levels.{Level}
use Rattle.thread_frames.specs.Threads.{on_levels}
use Rattle.thread_frames.proofs.Views.{open_is}
use Rattle.thread_frames.proofs.Restarts.{is_full, has_room}
use Rattle.thread_frames.proofs.threads.Threads.push.Goals as goal

pub returns-then-used-ge-MOST_LEVELS-clause-stop : goal.returns-then-used-ge-MOST_LEVELS-clause-stop
returns-then-used-ge-MOST_LEVELS-clause-stop c = is_full _ _ (omega (arith, open_is c.self.inside.pool c.self.inside.table _ c.self.view_is c.self.invariant.stand))

pub returns-then-used-ge-MOST_LEVELS-clause-room : goal.returns-then-used-ge-MOST_LEVELS-clause-room
returns-then-used-ge-MOST_LEVELS-clause-room c = sym (le-ltb _ most_levels (omega (arith, open_is c.self.inside.pool c.self.inside.table _ c.self.view_is c.self.invariant.stand)))

pub put-requires : goal.put-requires
put-requires c = omega (arith, open_is c.self.inside.pool c.self.inside.table _ c.self.view_is c.self.invariant.stand)

pub returns-clause-ok : goal.returns-clause-ok
returns-clause-ok c = has_room _ _ (omega (arith, open_is c.self.inside.pool c.self.inside.table _ c.self.view_is c.self.invariant.stand)) ∙ ap Goes (ap (λ (l : Level). on_place (on_levels (λ ls. l ∷ ls)) c.args.which c.args.self.now) (sym c.new.ensures) ∙ sym c.put.ensures)

pub returns-clause-room : goal.returns-clause-room
returns-clause-room c = sym (lt-ltb _ most_levels (omega (arith, open_is c.self.inside.pool c.self.inside.table _ c.self.view_is c.self.invariant.stand)))
