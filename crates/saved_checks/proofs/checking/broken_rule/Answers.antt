-- The first group that breaks a rule tells it.
use Rattle.std.proofs.Common.{sym, ◌∙◌}
use Rattle.std.specs.Option.{option_copied}
use Rattle.std.proofs.lemmas.Result.{IfOk-weaker}
use Rattle.saved_parts.specs.Telling.{told_of}
use Rattle.project_check.specs.Loaded.{basis_of}
use Rattle.saved_checks.proofs.Whole.{at-devices, at-instances, at-standing, at-texts, at-threads, numbers-differ, copied-some}
use Rattle.saved_checks.proofs.checking.broken_rule.Goals as goal

pub returns-then-is_some : goal.returns-then-is_some
returns-then-is_some c =
    at-devices (basis_of c.args.project.now) (told_of c.args.run.now) (option_copied c.in_ok-devices.devices) c.in_ok-devices.ensures
    (copied-some c.in_ok-devices.devices ∙ sym c.is_some.ensures ∙ c.if-is_some.true)

pub returns-then-is_some-2 : goal.returns-then-is_some-2
returns-then-is_some-2 c =
    at-instances (basis_of c.args.project.now) (told_of c.args.run.now)
    (option_copied c.in_ok-devices.devices) c.in_ok-devices.ensures (copied-some c.in_ok-devices.devices ∙ sym c.is_some.ensures ∙ c.if-is_some.false)
    (option_copied c.in_ok-instances.instances) c.in_ok-instances.ensures (copied-some c.in_ok-instances.instances ∙ sym c.is_some-2.ensures ∙ c.if-is_some-2.true)

pub of_standing-standing-requires : goal.of_standing-standing-requires
of_standing-standing-requires c =
    numbers-differ (basis_of c.args.project.now) c.args.run.now (option_copied c.in_ok-instances.instances) c.in_ok-instances.ensures
    (copied-some c.in_ok-instances.instances ∙ sym c.is_some-2.ensures ∙ c.if-is_some-2.false)

pub returns-then-is_some-3 : goal.returns-then-is_some-3
returns-then-is_some-3 c =
    at-standing (basis_of c.args.project.now) (told_of c.args.run.now)
    (option_copied c.in_ok-devices.devices) c.in_ok-devices.ensures (copied-some c.in_ok-devices.devices ∙ sym c.is_some.ensures ∙ c.if-is_some.false)
    (option_copied c.in_ok-instances.instances) c.in_ok-instances.ensures (copied-some c.in_ok-instances.instances ∙ sym c.is_some-2.ensures ∙ c.if-is_some-2.false)
    (option_copied c.of_standing-standing.result) c.of_standing-standing.ensures (copied-some c.of_standing-standing.result ∙ sym c.is_some-3.ensures ∙ c.if-is_some-3.true)

pub returns-then-is_some-4 : goal.returns-then-is_some-4
returns-then-is_some-4 c =
    at-texts (basis_of c.args.project.now) (told_of c.args.run.now)
    (option_copied c.in_ok-devices.devices) c.in_ok-devices.ensures (copied-some c.in_ok-devices.devices ∙ sym c.is_some.ensures ∙ c.if-is_some.false)
    (option_copied c.in_ok-instances.instances) c.in_ok-instances.ensures (copied-some c.in_ok-instances.instances ∙ sym c.is_some-2.ensures ∙ c.if-is_some-2.false)
    (option_copied c.of_standing-standing.result) c.of_standing-standing.ensures (copied-some c.of_standing-standing.result ∙ sym c.is_some-3.ensures ∙ c.if-is_some-3.false)
    (option_copied c.of_texts-texts.result) c.of_texts-texts.ensures (copied-some c.of_texts-texts.result ∙ sym c.is_some-4.ensures ∙ c.if-is_some-4.true)

pub returns : goal.returns
returns c =
    IfOk-weaker c.of_threads.result _ _
    (λ r at. at-threads (basis_of c.args.project.now) (told_of c.args.run.now)
    (option_copied c.in_ok-devices.devices) c.in_ok-devices.ensures (copied-some c.in_ok-devices.devices ∙ sym c.is_some.ensures ∙ c.if-is_some.false)
    (option_copied c.in_ok-instances.instances) c.in_ok-instances.ensures (copied-some c.in_ok-instances.instances ∙ sym c.is_some-2.ensures ∙ c.if-is_some-2.false)
    (option_copied c.of_standing-standing.result) c.of_standing-standing.ensures (copied-some c.of_standing-standing.result ∙ sym c.is_some-3.ensures ∙ c.if-is_some-3.false)
    (option_copied c.of_texts-texts.result) c.of_texts-texts.ensures (copied-some c.of_texts-texts.result ∙ sym c.is_some-4.ensures ∙ c.if-is_some-4.false)
    (option_copied r) at) c.of_threads.ensures
