use Rattle.std.proofs.Common.{sym, ◌∙◌, subst, Err}
use Rattle.target_records.specs.Records.{records_in, file_records_in}
use Rattle.project_check.specs.File.{file_in}
use Rattle.project_check.specs.Measured.{IsMeasured}
use Rattle.project_check.proofs.FirstTooMany.{stop_counts, stop_records, stop_texts, passed_all}
use Rattle.project_check.proofs.sizes.measure.Goals as goal

pub returns-in-Err : goal.returns-in-Err
returns-in-Err c = stop_counts (file_in c.args.file) c.in-Err.refusal (sym c.stages-n.ensures ∙ c.if-n-ne1.false) c.in-Err.ensures

pub returns-in-Err-bounded : goal.returns-in-Err-bounded
returns-in-Err-bounded c =
    subst (λ r. IsMeasured (file_in c.args.file) (Err r)) (sym c.of_records.ensures)
    (stop_records records_in (file_records_in c.args.file.records) (file_in c.args.file) c.in-Err-bounded.refusal (sym c.stages-n.ensures ∙ c.if-n-ne1.false) c.in-Ok.ensures c.in-Err-bounded.ensures)

pub returns-in-Ok-bounded_tables : goal.returns-in-Ok-bounded_tables
returns-in-Ok-bounded_tables c = (
  sym c.stages-n.ensures ∙ c.if-n-ne1.false,
  passed_all (file_in c.args.file) c.in-Ok.ensures c.in-Ok-bounded.ensures.1 c.in-Ok-bounded_tables.ensures.1,
  c.in-Ok-bounded.ensures.0,
  c.in-Ok-bounded_tables.ensures.0,
)

pub returns-in-Err-bounded_tables : goal.returns-in-Err-bounded_tables
returns-in-Err-bounded_tables c =
    stop_texts (file_in c.args.file) c.in-Err-bounded_tables.refusal (sym c.stages-n.ensures ∙ c.if-n-ne1.false) c.in-Ok.ensures c.in-Ok-bounded.ensures.1 c.in-Err-bounded_tables.ensures
