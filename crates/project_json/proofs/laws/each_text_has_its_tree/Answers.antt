use Rattle.project_json.proofs.TextTrees.{tree_of-text, text-tree_of}
use Rattle.project_json.proofs.laws.each_text_has_its_tree.Goals as goal

pub returns-clause-is : goal.returns-clause-is
returns-clause-is c = tree_of-text

pub returns-clause-each : goal.returns-clause-each
returns-clause-each c = text-tree_of
