use Rattle.std.proofs.Common.{sym, subst}
use Rattle.name_resolving.specs.Scope.{IsScope}
use Rattle.target_records.specs.Records.{records_in}
use Rattle.name_resolving.specs.Directory.{sort_in}
use Rattle.name_resolving.proofs.Scopes.{scope-added}
use Rattle.name_resolving.proofs.scope.Scope.resolve.Goals as goal

pub returns-clause-scope : goal.returns-clause-scope
returns-clause-scope c =
    subst (IsScope c.note.new.self) (sym c.in_ok-number.ensures.added) (scope-added c.args.self.now c.note.new.self (sort_in c.args.naming.now.sort) c.args.naming.now.name.now c.in_ok-number.number (records_in c.args.records.now) c.requires.scope c.in_ok-number.ensures.number c.in_ok-note.ensures.noted)
