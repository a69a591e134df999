use Rattle.std.proofs.Common.{◌∙◌, subst}
use Rattle.std.specs.List.{All}
use Rattle.std.proofs.lemmas.Result.{on_ok_weaker}
use Rattle.scratch_number.specs.Number.{IsWithin}
use Rattle.saved_text.proofs.Lists.{seven_numbers}
use Rattle.saved_text.proofs.instances.EffectsSaved.send.Goals as goal

pub returns-clause-ranges : goal.returns-clause-ranges
returns-clause-ranges g c =
    let same = c.numbers_of.ensures.value ∙ seven_numbers c.args.self.now c.numbers_of.ensures.seven in
    on_ok_weaker c.send_each.result (λ h. record { seven = c.numbers_of.ensures.seven; within = subst (All IsWithin) same h }) c.send_each.ensures.ranges
