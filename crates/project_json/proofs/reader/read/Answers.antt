use Rattle.std.proofs.Common.{sym, subst}
use Rattle.std.specs.Str.{IsValidUpTo}
use Rattle.project_json.proofs.Utf8.{to_utf8}
use Rattle.project_json.proofs.Results.{told_utf8}
use Rattle.project_json.proofs.reader.read.Goals as goal

pub of_utf8-requires : goal.of_utf8-requires
of_utf8-requires c = to_utf8 c.args.bytes.now c.in-Ok.ensures.cases.1

pub returns-in-Err-clause-faulty : goal.returns-in-Err-clause-faulty
returns-in-Err-clause-faulty c =
    let valid = subst (IsValidUpTo c.args.bytes.now) (sym c.valid_up_to.ensures) c.in-Err.ensures.cases.1 in
    λ r f. told_utf8 256 c.args.bytes.now c.valid_up_to.result r (record { ill_formed = c.in-Err.ensures.cases.0; valid = valid }) f
