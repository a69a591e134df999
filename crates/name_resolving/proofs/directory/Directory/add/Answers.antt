use Rattle.std.proofs.lemmas.Result.{on_ok_weaker}
use Rattle.name_resolving.proofs.Directories.{Takes, adds-variable, adds-list}
use Rattle.name_resolving.proofs.directory.Directory.add.Goals as goal

pub returns-in-Variable : goal.returns-in-Variable
returns-in-Variable c =
    rw c.in-Variable.is (on_ok_weaker c.add.result (λ (takes : Takes c.args.self.now.variables c.add.new.self c.args.name.now c.args.number). adds-variable c.args.self.now c.add.new.self c.args.name.now c.args.number takes) c.add.ensures)

pub returns-in-List : goal.returns-in-List
returns-in-List c =
    rw c.in-List.is (on_ok_weaker c.add-in-List.result (λ (takes : Takes c.args.self.now.lists c.add-in-List.new.self c.args.name.now c.args.number). adds-list c.args.self.now c.add-in-List.new.self c.args.name.now c.args.number takes) c.add-in-List.ensures)
