-- The bubble is shown, and then its timer is made.
use Rattle.std.proofs.Common.{ap, sym, ◌∙◌}
use Rattle.scratch_number.specs.declared.number.Num.{Num}
use Rattle.machine_spec.specs.Looks.{timed_bubble}
use Rattle.machine_spec.specs.Outcome.{Goes}
use Rattle.looks_blocks.specs.Blocks.{parts}
use Rattle.looks_blocks.proofs.bubbles.say_for_secs.Goals as goal

pub returns-in_ok-time-in-Ok-clause-ok : goal.returns-in_ok-time-in-Ok-clause-ok
returns-in_ok-time-in-Ok-clause-ok c = λ w.
    rw c.in-Ok.ensures.ok
    (ap (λ (s : Num). Goes (timed_bubble s c.args.here c.args.thread (parts c.speak.new.targets c.speak.new.devices w))) (sym c.number.ensures)
    ∙ ap Goes (c.in_ok-time-in-Ok.ensures.ok w))
