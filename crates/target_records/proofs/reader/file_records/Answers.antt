use Rattle.std.proofs.Common.{map, codes}
use Rattle.project_json.specs.View.{tree, field}
use Rattle.target_records.proofs.Sizes.{document-size}
use Rattle.target_records.proofs.reader.file_records.Goals as goal

pub read_targets-requires : goal.read_targets-requires
read_targets-requires c = document-size (codes "targets") c.root-root.result (tree c.args.document.now) (map field c.in_ok-members.members.now) (map tree c.in_ok-items.items.now) c.in_ok-members.ensures c.in_ok-items.ensures c.requires
