use Rattle.std.proofs.Common.{arith}
use Rattle.project_json.specs.View.{tree}
use Rattle.project_check.specs.File.{file_in}
use Rattle.project_check.proofs.Linking.{as_many_tables, are_dressed, few_tables, few_in_all, has_room, is_read, unmeasured}
use Rattle.project_check.proofs.loader.load.Goals as goal

pub linked-requires-clause-targets : goal.linked-requires-clause-targets
linked-requires-clause-targets c = as_many_tables c.args.bytes.now (tree c.in-Ok.document) (file_in c.in-Ok-read_file.file) c.in-Ok.ensures.found c.in-Ok-read_file.ensures c.in-Ok-measure.measured c.in-Ok-measure.ensures

pub linked-requires-clause-dressed : goal.linked-requires-clause-dressed
linked-requires-clause-dressed c = are_dressed c.args.bytes.now (tree c.in-Ok.document) (file_in c.in-Ok-read_file.file) c.in-Ok.ensures.found c.in-Ok-read_file.ensures c.in-Ok-measure.measured c.in-Ok-measure.ensures (omega (arith, c.in-Ok.ensures.small, c.requires))

pub linked-requires-clause-few : goal.linked-requires-clause-few
linked-requires-clause-few c = few_tables c.args.bytes.now (tree c.in-Ok.document) (file_in c.in-Ok-read_file.file) c.in-Ok.ensures.found c.in-Ok-read_file.ensures c.in-Ok-measure.measured c.in-Ok-measure.ensures (omega (arith, c.in-Ok.ensures.small, c.requires))

pub linked-requires-clause-room : goal.linked-requires-clause-room
linked-requires-clause-room c = has_room c.args.bytes.now (tree c.in-Ok.document) (file_in c.in-Ok-read_file.file) c.in-Ok.ensures.found c.in-Ok-read_file.ensures c.in-Ok-measure.measured c.in-Ok-measure.ensures (omega (arith, c.in-Ok.ensures.small, c.requires))

pub linked-requires-clause-count : goal.linked-requires-clause-count
linked-requires-clause-count c = few_in_all c.args.bytes.now (tree c.in-Ok.document) (file_in c.in-Ok-read_file.file) c.in-Ok.ensures.found c.in-Ok-read_file.ensures c.in-Ok-measure.measured c.in-Ok-measure.ensures (omega (arith, c.in-Ok.ensures.small, c.requires))

pub linked-requires-clause-source : goal.linked-requires-clause-source
linked-requires-clause-source c = (c.args.bytes.now, is_read c.args.bytes.now (tree c.in-Ok.document) (file_in c.in-Ok-read_file.file) c.in-Ok.ensures.found c.in-Ok-read_file.ensures c.in-Ok-measure.measured c.in-Ok-measure.ensures c.requires)

pub returns-in-Ok-measure : goal.returns-in-Ok-measure
returns-in-Ok-measure c = c.linked.ensures c.args.bytes.now (is_read c.args.bytes.now (tree c.in-Ok.document) (file_in c.in-Ok-read_file.file) c.in-Ok.ensures.found c.in-Ok-read_file.ensures c.in-Ok-measure.measured c.in-Ok-measure.ensures c.requires)

pub returns : goal.returns
returns c = unmeasured c.args.bytes.now (tree c.in-Ok.document) (file_in c.in-Ok-read_file.file) c.in-Ok.ensures.found c.in-Ok-read_file.ensures c.in-Err-measure.refusal c.in-Err-measure.ensures
