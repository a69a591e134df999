use Rattle.std.proofs.Common.{◌≡◌, ◌<◌, length, Some, ap, sym, ◌∙◌, subst, rules, arith}
use Rattle.std.specs.Prelude.{slice_get}
use Rattle.std.proofs.lemmas.Option.{slice_get-get_or}
use Rattle.std.proofs.lemmas.Result.{IfOk-weaker, on_ok_weaker}
use Rattle.machine_spec.specs.declared.records.TargetRecord.{TargetRecord}
use Rattle.machine_spec.specs.Program.{no_target}
use Rattle.project_spec.specs.Resolving.{with_added, OfVariable}
use Rattle.target_records.specs.Held.{IsSmall, HasShortLists}
use Rattle.target_records.proofs.Held.{held-set, variable_keeps, variable_keeps_short, set-changed, record-at}
use Rattle.target_records.proofs.held_targets.HeldTargets.add_variable.Goals as goal

pub invariant_of-self : goal.invariant_of-self
invariant_of-self c =
    let old : TargetRecord = c.index_mut.result.now in
    let within : c.args.place < length c.self.inside.targets.items = omega (arith, ap length c.self.view_is, c.requires.held) in
    let got : slice_get c.self.inside.targets.items c.args.place ≡ Some old = slice_get-get_or c.self.inside.targets.items c.args.place old within ∙ ap Some (sym c.index_mut.ensures.value) in
    let small : IsSmall old = subst IsSmall (sym c.index_mut.ensures.value) (c.self.invariant.small c.args.place old within) in
    let short : HasShortLists old = subst HasShortLists (sym c.index_mut.ensures.value) (c.self.invariant.short c.args.place old within) in
    let kept = variable_keeps c.add_variable.result c.in_ok-name.name old c.add_variable.new.target c.add_variable.ensures.added c.add_variable.ensures.err small (omega (arith, ap (λ (t : TargetRecord). length t.variables) (record-at c.self.inside.targets.items c.args.self.now c.args.place old no_target c.self.view_is got), c.requires.room)) in
    held-set c.self.inside.targets.items c.self.inside.stage c.args.place old c.add_variable.new.target c.self.invariant got kept.0 kept.1 (variable_keeps_short c.add_variable.result c.in_ok-name.name old c.add_variable.new.target c.add_variable.ensures.added c.add_variable.ensures.err short)

pub returns-clause-number : goal.returns-clause-number
returns-clause-number c =
    let old : TargetRecord = c.index_mut.result.now in
    let within : c.args.place < length c.self.inside.targets.items = omega (arith, ap length c.self.view_is, c.requires.held) in
    let got : slice_get c.self.inside.targets.items c.args.place ≡ Some old = slice_get-get_or c.self.inside.targets.items c.args.place old within ∙ ap Some (sym c.index_mut.ensures.value) in
    IfOk-weaker c.add_variable.result _ _ (λ i h. h ∙ ap (λ (t : TargetRecord). length t.variables) (sym (record-at c.self.inside.targets.items c.args.self.now c.args.place old no_target c.self.view_is got))) c.add_variable.ensures.number

pub returns-clause-added : goal.returns-clause-added
returns-clause-added c =
    let old : TargetRecord = c.index_mut.result.now in
    let within : c.args.place < length c.self.inside.targets.items = omega (arith, ap length c.self.view_is, c.requires.held) in
    let got : slice_get c.self.inside.targets.items c.args.place ≡ Some old = slice_get-get_or c.self.inside.targets.items c.args.place old within ∙ ap Some (sym c.index_mut.ensures.value) in
    let named : c.in_ok-name.name ≡ c.args.name.now = search rules in
    on_ok_weaker c.add_variable.result (λ h. set-changed (with_added OfVariable c.args.name.now) c.self.inside.targets.items c.args.self.now c.args.place old c.add_variable.new.target c.self.view_is got (h ∙ ap (λ name. with_added OfVariable name old) named)) c.add_variable.ensures.added
