use Rattle.play_command.proofs.ThreeCalls.{calls_agree}
use Rattle.play_command.proofs.laws.two_parts_of_a_script_are_the_whole.Goals as goal

pub returns : goal.returns
returns c x first second third form whole resumed last text t calls =
    calls_agree c.a_world_goes_on_as_its_script.ensures c.one_answer_at_most.ensures.accepted x first second third form whole resumed calls last text t
