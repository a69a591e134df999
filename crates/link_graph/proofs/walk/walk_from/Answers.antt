use Rattle.std.proofs.Common.{[]}
use Rattle.link_graph.proofs.Steps.{entered, begun_more, begun_now}
use Rattle.link_graph.proofs.walk.walk_from.Goals as goal

pub loop-frame-init : goal.loop-frame-init
loop-frame-init c = record {
  walk = rw c.requires.under (entered c.args.graph.now c.args.walk.now.marks.items c.args.walk.now.ranks.items c.args.walk.now.order.items [] c.args.root c.requires.walk tt c.requires.fresh);
  begun = λ b. begun_more c.args.walk.now.marks.items c.args.root b c.requires.fresh;
  root = begun_now c.args.walk.now.marks.items c.args.root c.requires.fresh;
}
