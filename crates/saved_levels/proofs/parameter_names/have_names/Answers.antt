-- The names are those of the procedure that is called.
use Rattle.std.proofs.Common.{sym, ap, ◌∙◌, map}
use Rattle.std.specs.Option.{option_map}
use Rattle.machine_spec.specs.Legal.{distinct}
use Rattle.project_check.specs.Loaded.{sheet_at}
use Rattle.project_check.specs.Procedures.{callee_in, procedure_in}
use Rattle.saved_parts.specs.Telling.{param_of}
use Rattle.saved_spec.specs.ThreadRules.{has_names, same_texts}
use Rattle.saved_levels.proofs.Names.{names-map}
use Rattle.saved_levels.proofs.parameter_names.have_names.Goals as goal

pub returns-in-Some : goal.returns-in-Some
returns-in-Some c =
    let called = ap (option_map (λ d. procedure_in (sheet_at c.args.target c.args.project.now) (callee_in d))) (sym c.in-Some.is) ∙ c.called.ensures in
    c.are_named.ensures
    ∙ ap (λ ns. same_texts (map (λ p. p.name) c.args.params.now) (distinct ns)) c.as_slice.ensures
    ∙ ap (λ ns. same_texts ns (distinct c.in-Some.callee.prototype.now.names)) (sym (names-map param_of (λ x. x.0) c.args.params.now))
    ∙ ap (has_names (map param_of c.args.params.now)) called
