use Rattle.std.proofs.Common.{◌==◌, ◌∙◌, ap}
use Rattle.std.specs.List.{list_all}
use Rattle.saved_checks.proofs.Counts.{all-one}
use Rattle.saved_checks.proofs.originals.are_there.Goals as goal

pub returns : goal.returns
returns c = c.are_one.ensures ∙ ap (list_all (λ n. n == 1)) c.deref.ensures.value ∙ all-one c.args.instances.now c.args.targets c.in_ok-counts.counts.items c.in_ok-counts.ensures
