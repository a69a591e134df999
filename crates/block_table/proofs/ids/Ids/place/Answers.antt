use Rattle.std.proofs.Common.{◌∙◌, ap, position}
use Rattle.std.specs.Str.{bytes_eq}
use Rattle.block_table.proofs.ids.Ids.place.Goals as goal

pub returns : goal.returns
returns c =
    c.copied.ensures ∙ c.get.ensures.value ∙ c.self.invariant c.args.id.now
    ∙ ap (position (λ other. bytes_eq other c.args.id.now)) c.self.view_is
