use Rattle.std.proofs.Common.{◌≡◌, ap, ◌∙◌, map}
use Rattle.std.specs.Borrow.{Bor}
use Rattle.std.proofs.Common.{List, Bool}
use Rattle.std.proofs.lemmas.Result.{IfOk-weaker}
use Rattle.block_checks.specs.Kept.{Kept}
use Rattle.name_resolving.specs.Blocks.{flag_of}
use Rattle.project_check.proofs.Resolved.{flags_same}
use Rattle.project_check.proofs.loader.names.Goals as goal

pub returns : goal.returns
returns c =
    let e : map (λ (f : Bor (List Bool)). f.now) c.deref.result.now ≡ map (λ (k : Kept). k.checked) c.args.links.now = ap (map (λ (f : Bor (List Bool)). f.now)) c.deref.ensures.value ∙ c.in_ok-checked.ensures in
    IfOk-weaker c.resolve.result _ _ (λ names is. record { checked = flag_of c.deref.result.now; flags = flags_same c.deref.result.now c.args.links.now e; is = is }) c.resolve.ensures
