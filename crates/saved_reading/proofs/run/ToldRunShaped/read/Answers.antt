use Rattle.saved_reading.proofs.Runs.{run-told}
use Rattle.saved_reading.proofs.run.ToldRunShaped.read.Goals as goal

pub returns : goal.returns
returns c =
    run-told c.args.place.now _ _ _ c.in_ok-table.ensures c.in_ok-answer.ensures c.in_ok-clock.ensures c.in_ok-drawn.ensures c.in_ok-frame.ensures
    c.in_ok-seed.ensures c.in_ok-timer.ensures c.in_ok-instances.ensures c.in_ok-keys.ensures c.in_ok-made.ensures c.in_ok-monitors.ensures
    c.in_ok-mouse.ensures c.in_ok-next.ensures c.in_ok-project.ensures c.in_ok-questions.ensures c.in_ok-threads.ensures c.in_ok-timers.ensures
    c.in_ok-turbo.ensures c.in_ok-_version.ensures
