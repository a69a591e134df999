use Rattle.std.proofs.Common.{sym}
use Rattle.serde_json.specs.View.{view}
use Rattle.saved_parts.specs.Telling.{told_of}
use Rattle.project_check.specs.Loaded.{basis_of}
use Rattle.run_save.specs.Steps.{Tells}
use Rattle.run_save.proofs.Judging.{passed, refused_version, shape_refused, other_refused, rule_refused}
use Rattle.run_save.proofs.told_run.told_by.Goals as goal

pub returns-in-Some : goal.returns-in-Some
returns-in-Some c = refused_version (basis_of c.args.project.now) c.args.digest.now c.args.bytes.now (view c.in_ok-value.value) c.in-Some.n c.in_ok-value.ensures (sym c.in-Some.ensures)

pub returns-in_err-told-in-None : goal.returns-in_err-told-in-None
returns-in_err-told-in-None c =
    let e = c.in_err-told-in-None.field-0.0 in
    passed c.from_residual-in_err-told-in-None.result e (Tells (basis_of c.args.project.now) c.args.digest.now c.args.bytes.now) c.from_residual-in_err-told-in-None.ensures.1
    (shape_refused (basis_of c.args.project.now) c.args.digest.now c.args.bytes.now (view c.in_ok-value.value) e c.in_ok-value.ensures (sym c.in-None.ensures) c.in_err-told-in-None.ensures)

pub returns-in_err-is_of : goal.returns-in_err-is_of
returns-in_err-is_of c =
    let e = c.in_err-is_of.field-0.0 in
    passed c.from_residual-in_err-is_of.result e (Tells (basis_of c.args.project.now) c.args.digest.now c.args.bytes.now) c.from_residual-in_err-is_of.ensures.1
    (other_refused (basis_of c.args.project.now) c.args.digest.now c.args.bytes.now (view c.in_ok-value.value) (told_of c.in_ok-told-in-None.told) (Unit {0}) e c.in_ok-value.ensures (sym c.in-None.ensures) c.in_ok-told-in-None.ensures c.in_err-is_of.ensures)

pub returns-in_err-keep_rules : goal.returns-in_err-keep_rules
returns-in_err-keep_rules c =
    let e = c.in_err-keep_rules.field-0.0 in
    passed c.from_residual-in_err-keep_rules.result e (Tells (basis_of c.args.project.now) c.args.digest.now c.args.bytes.now) c.from_residual-in_err-keep_rules.ensures.1
    (rule_refused (basis_of c.args.project.now) c.args.digest.now c.args.bytes.now (view c.in_ok-value.value) (told_of c.in_ok-told-in-None.told) (Unit {0}) e c.in_ok-value.ensures (sym c.in-None.ensures) c.in_ok-told-in-None.ensures c.in_ok-is_of.ensures c.in_err-keep_rules.ensures)
