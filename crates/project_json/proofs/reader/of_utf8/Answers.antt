use Rattle.project_json.specs.View.{tree}
use Rattle.project_json.proofs.Utf8.{from_utf8}
use Rattle.project_json.proofs.Sound.{text_is}
use Rattle.project_json.proofs.Places.{syntax_place, deep_place, deep_no_text}
use Rattle.project_json.proofs.Results.{read_tree, read_size, text_no_fault, told_syntax, told_deep}
use Rattle.project_json.proofs.reader.of_utf8.Goals as goal

pub returns-in-Ok-clause-found : goal.returns-in-Ok-clause-found
returns-in-Ok-clause-found c = (from_utf8 c.args.bytes.now c.requires, text_is 256 c.args.bytes.now _ c.in-Ok.ensures)

pub returns-in-Ok-clause-only : goal.returns-in-Ok-clause-only
returns-in-Ok-clause-only c = λ t p. read_tree 256 c.args.bytes.now (tree c.in-Ok.json) t c.in-Ok.ensures p.1

pub returns-in-Ok-clause-faulty : goal.returns-in-Ok-clause-faulty
returns-in-Ok-clause-faulty c = λ r f. text_no_fault 256 c.args.bytes.now _ r (from_utf8 c.args.bytes.now c.requires, text_is 256 c.args.bytes.now _ c.in-Ok.ensures) f

pub returns-in-Ok-clause-small : goal.returns-in-Ok-clause-small
returns-in-Ok-clause-small c = read_size 256 c.args.bytes.now (tree c.in-Ok.json) c.in-Ok.ensures

pub overflow_sub-result : goal.overflow_sub-result
overflow_sub-result c = (syntax_place 256 c.args.bytes.now _ (from_utf8 c.args.bytes.now c.requires) (rw c.in-Err-Syntax.field-0-is at c.in-Err-Syntax.ensures)).0

pub overflow_sub-result-in-Err-TooDeep : goal.overflow_sub-result-in-Err-TooDeep
overflow_sub-result-in-Err-TooDeep c = (deep_place 256 c.args.bytes.now _ (from_utf8 c.args.bytes.now c.requires) (rw c.in-Err-TooDeep.field-0-is at c.in-Err-TooDeep.ensures)).0

pub returns-in-Err-Syntax-clause-only : goal.returns-in-Err-Syntax-clause-only
returns-in-Err-Syntax-clause-only c =
    let fault = (syntax_place 256 c.args.bytes.now _ (from_utf8 c.args.bytes.now c.requires) (rw c.in-Err-Syntax.field-0-is at c.in-Err-Syntax.ensures)).1 in
    λ t p. absurd (fault.no_text 256 t p)

pub returns-in-Err-Syntax-clause-refused : goal.returns-in-Err-Syntax-clause-refused
returns-in-Err-Syntax-clause-refused c = (syntax_place 256 c.args.bytes.now _ (from_utf8 c.args.bytes.now c.requires) (rw c.in-Err-Syntax.field-0-is at c.in-Err-Syntax.ensures)).1

pub returns-in-Err-Syntax-clause-faulty : goal.returns-in-Err-Syntax-clause-faulty
returns-in-Err-Syntax-clause-faulty c =
    let fault = (syntax_place 256 c.args.bytes.now _ (from_utf8 c.args.bytes.now c.requires) (rw c.in-Err-Syntax.field-0-is at c.in-Err-Syntax.ensures)).1 in
    λ r f. told_syntax 256 c.args.bytes.now _ r fault f

pub returns-in-Err-TooDeep-clause-only : goal.returns-in-Err-TooDeep-clause-only
returns-in-Err-TooDeep-clause-only c =
    let fault = (deep_place 256 c.args.bytes.now _ (from_utf8 c.args.bytes.now c.requires) (rw c.in-Err-TooDeep.field-0-is at c.in-Err-TooDeep.ensures)).1 in
    λ t p. absurd (deep_no_text 256 c.args.bytes.now _ t fault p)

pub returns-in-Err-TooDeep-clause-refused : goal.returns-in-Err-TooDeep-clause-refused
returns-in-Err-TooDeep-clause-refused c = (deep_place 256 c.args.bytes.now _ (from_utf8 c.args.bytes.now c.requires) (rw c.in-Err-TooDeep.field-0-is at c.in-Err-TooDeep.ensures)).1

pub returns-in-Err-TooDeep-clause-faulty : goal.returns-in-Err-TooDeep-clause-faulty
returns-in-Err-TooDeep-clause-faulty c =
    let fault = (deep_place 256 c.args.bytes.now _ (from_utf8 c.args.bytes.now c.requires) (rw c.in-Err-TooDeep.field-0-is at c.in-Err-TooDeep.ensures)).1 in
    λ r f. told_deep 256 c.args.bytes.now _ r fault f
