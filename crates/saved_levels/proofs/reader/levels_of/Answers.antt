-- The levels that were made are those that the rules read.
use Rattle.std.proofs.Common.{Some, map, reverse, sym, ap, ◌∙◌, subst}
use Rattle.std.proofs.lemmas.Result.{IfOk-weaker}
use Rattle.project_check.specs.Loaded.{sheet_at, basis_of}
use Rattle.project_spec.specs.Trees.{script}
use Rattle.saved_parts.specs.Telling.{level_of, thread_of}
use Rattle.project_spec.specs.Basis.{script_under}
use Rattle.saved_levels.specs.Making.{is_short_level}
use Rattle.saved_levels.specs.Read.{top_first}
use Rattle.saved_levels.specs.Standing.{Places}
use Rattle.saved_levels.specs.declared.floors.Site.{Site}
use Rattle.saved_levels.proofs.Placing.{read, short_told}
use Rattle.saved_levels.proofs.reader.levels_of.Goals as goal

pub placed-requires-clause-short : goal.placed-requires-clause-short
placed-requires-clause-short c = short_told is_short_level level_of c.args.thread.levels c.into_vec.result.items c.into_vec.ensures c.requires

pub returns-clause-levels : goal.returns-clause-levels
returns-clause-levels c =
    let p = c.args.project.now in
    let site : Site = record { project = c.args.project; target = c.args.target; first = c.linked-first.result } in
    let thread = thread_of c.args.thread in
    let hat = sym c.in-Some.ensures.under ∙ ap (λ o. Some (script (sheet_at c.args.target p) o)) (sym c.linked-first.ensures) in
    IfOk-weaker c.placed.result _ _
    (λ o h t tells at.
    read site c.args.waiting.now t thread tells at (top_first o) (ap (λ n. script_under n thread.hat (basis_of p)) at ∙ hat)
    (subst (λ xs. Places site c.args.waiting.now thread.serial thread.status (reverse (map level_of xs)) (top_first o)) c.into_vec.ensures h))
    c.placed.ensures
