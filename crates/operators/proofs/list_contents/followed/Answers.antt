use Rattle.std.proofs.Common.{◌≡◌, ◌++◌, ◌+◌, length, arith, ap, sym, ◌∙◌, rules}
use Rattle.std.specs.Prelude.{flat_map}
use Rattle.operators.specs.Pieces.{piece}
use Rattle.operators.proofs.Pieces.{length-pieces, too_long}
use Rattle.operators.proofs.list_contents.followed.Goals as goal

pub returns-then-length-clause-stop : goal.returns-then-length-clause-stop
returns-then-length-clause-stop c =
    let whole = c.args.first.now ++ flat_map (piece c.args.spaced) c.args.items.now in
    too_long whole _ (ap (λ n. length c.args.first.now + n) c.items_length.ensures.value ∙ sym (length-pieces c.args.first.now c.args.spaced c.args.items.now)) c.if-length.true

pub from_short-requires : goal.from_short-requires
from_short-requires c =
    let is : c.from_string.result ≡ c.args.first.now ++ flat_map (piece c.args.spaced) c.args.items.now = search rules in
    omega (arith, ap length is, length-pieces c.args.first.now c.args.spaced c.args.items.now, c.items_length.ensures.value, c.if-length.false)
