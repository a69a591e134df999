use Rattle.std.proofs.Common.{sym, ap, ◌∙◌, refl}
use Rattle.script_words.specs.Words.{answers}
use Rattle.saved_parts.specs.Telling.{told_of}
use Rattle.project_check.specs.Loaded.{basis_of}
use Rattle.saved_spec.specs.Refusals.{first_difference}
use Rattle.run_save.specs.Loading.{Loads}
use Rattle.run_save.proofs.Judging.{is_accepted, passed, refused_spelling}
use Rattle.run_save.proofs.Written.{not_made_refused, run_text}
use Rattle.run_save.proofs.loader.loaded.Goals as goal

pub returns-in_err-run : goal.returns-in_err-run
returns-in_err-run c =
    let e = c.in_err-run.field-0.0 in
    passed c.from_residual-in_err-run.result e (Loads answers c.args.project.now c.args.digest.now c.args.bytes.now) c.from_residual-in_err-run.ensures.1
    (not_made_refused answers c.args.project.now c.args.digest.now c.args.bytes.now c.in_ok-told.told e c.in_ok-told.ensures c.in_err-run.ensures)

pub returns-in-None : goal.returns-in-None
returns-in-None c =
    let p = c.args.project.now in
    let r = c.in_ok-told.told in
    let text = run_text answers c.a_saved_run_tells_its_world.ensures p c.args.digest.now c.args.bytes.now r c.in_ok-run.run' c.in_ok-told.ensures c.in_ok-run.ensures.0 c.in_ok-run.ensures.2 in (
      told_of r,
      is_accepted (basis_of p) c.args.digest.now c.args.bytes.now (told_of r) c.in_ok-told.ensures c.in_ok-run.ensures.1 (sym c.in-None.is ∙ c.in_ok-misspelled.ensures ∙ ap (first_difference c.args.bytes.now) text),
      c.in_ok-run.ensures.0,
      refl,
    )

pub returns-in-Some : goal.returns-in-Some
returns-in-Some c =
    let p = c.args.project.now in
    let r = c.in_ok-told.told in
    let text = run_text answers c.a_saved_run_tells_its_world.ensures p c.args.digest.now c.args.bytes.now r c.in_ok-run.run' c.in_ok-told.ensures c.in_ok-run.ensures.0 c.in_ok-run.ensures.2 in
    refused_spelling (basis_of p) c.args.digest.now c.args.bytes.now (told_of r) c.in-Some.at c.in_ok-told.ensures c.in_ok-run.ensures.1 (sym c.in-Some.is ∙ c.in_ok-misspelled.ensures ∙ ap (first_difference c.args.bytes.now) text)
