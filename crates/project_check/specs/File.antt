-- What a document tells, as the code holds it before anything is tested.
use Rattle.project_spec.specs.Reading.{File}
use Rattle.target_records.specs.Records.{file_records_in}
use Rattle.project_check.specs.declared.file.FileParts.{FileParts}

abbrev pub file_in : FileParts → File
file_in p = record { records = file_records_in p.records; tables = p.tables.items }
