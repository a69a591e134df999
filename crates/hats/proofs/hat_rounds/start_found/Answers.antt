-- The hats that are found are those of the index.
use Rattle.std.proofs.Common.{sym, ap, ◌∙◌}
use Rattle.std.specs.Option.{option_copied}
use Rattle.hat_index.specs.Index.{found}
use Rattle.hats.proofs.Turns.{kept-found}
use Rattle.hats.proofs.hat_rounds.start_found.Goals as goal

pub returns-in-Some-clause-kept : goal.returns-in-Some-clause-kept
returns-in-Some-clause-kept c =
    kept-found (found c.args.round.now.index.now) c.args.instance.now.of c.args.round.now.opcode c.args.round.now.folded.now _ _ _ _ _ _
    (sym (ap option_copied c.in-Some.is) ∙ c.heads_for.ensures) c.as_slice.ensures c.start_each.ensures.kept
