use Rattle.std.proofs.Common.{sym, ◌∙◌, arith}
use Rattle.project_json.proofs.Steps.{word_short}
use Rattle.project_json.proofs.scanner.after_word.Goals as goal

pub returns-in-empty : goal.returns-in-empty
returns-in-empty c = sym c.loop-w.invariant ∙ word_short c.args.word.now c.loop-w.rest.now c.loop-w.w-index (omega arith) (omega arith)
