use Rattle.std.proofs.Common.{◌+◌, sym, ap, ◌∙◌}
use Rattle.machine_spec.specs.ScriptText.{reading_of}
use Rattle.input_script.specs.Reader.{Reader}
use Rattle.input_script.proofs.Forward.{reading_forward}
use Rattle.input_script.proofs.script.Script.next_line.Goals as goal

pub returns-clause-forward : goal.returns-clause-forward
returns-clause-forward c =
    reading_forward (c.self.inside.number + 1) c.args.self.now.last c.in-Some.bytes.now c.in-Ok.line
    (ap (λ (s : Reader). reading_of (c.self.inside.number + 1) s.last c.in-Some.bytes.now) (sym c.self.view_is) ∙ c.in-Ok.ensures.ok)
