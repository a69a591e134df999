-- The program has the first of each code alone, and that is what the first head gives.
use Rattle.std.proofs.Common.{arith}
use Rattle.project_check.specs.Heads.{head_numbers}
use Rattle.project_check.specs.Loaded.{blocks_at, sheet_at}
use Rattle.project_check.proofs.Defining.{callee_begins, callee_below, none_beyond, procedure_found}
use Rattle.project_check.proofs.project.Project.callee.Goals as goal

pub returns-then-target-target_count-clause-procedure : goal.returns-then-target-target_count-clause-procedure
returns-then-target-target_count-clause-procedure c =
    none_beyond c.args.self.now c.args.target c.args.code.now (omega arith)

pub returns-clause-procedure : goal.returns-clause-procedure
returns-clause-procedure c =
    procedure_found c.args.self.now c.args.target c.args.code.now c.callee_of.result (omega arith) c.callee_of.ensures

pub returns-clause-member : goal.returns-clause-member
returns-clause-member c =
    callee_below (blocks_at c.args.target c.args.self.now) c.args.code.now (head_numbers (blocks_at c.args.target c.args.self.now)) c.callee_of.result c.callee_of.ensures

pub returns-clause-begins : goal.returns-clause-begins
returns-clause-begins c =
    callee_begins (sheet_at c.args.target c.args.self.now) c.callee_of.result
    (callee_below (blocks_at c.args.target c.args.self.now) c.args.code.now (head_numbers (blocks_at c.args.target c.args.self.now)) c.callee_of.result c.callee_of.ensures)
