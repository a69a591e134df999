use Rattle.std.proofs.Common.{◌≡◌, ℕ, ◌∙◌, ap, ap₂, ◌++◌, ◌∷◌, [], length, subst}
use Rattle.std.specs.Prelude.{Option, Some, nat_eq, unwrap_or}
use Rattle.std.specs.HashMap.{Updates}
use Rattle.instance_index.proofs.Appending.{AreChained-append}
use Rattle.instance_index.proofs.index.InstanceIndex.note.Goals as goal

pub returns-clause-chained : goal.returns-clause-chained
returns-clause-chained c = λ ofs chained.
    let at_end : c.len-slot.result ≡ length ofs = cc (chained.length, c.len-slot.ensures) in
    AreChained-append _ _ c.args.of ofs chained
    (subst (λ (slot : ℕ). Updates nat_eq c.args.self.now.last c.insert.new.self c.args.of (Some slot)) at_end c.in_ok-earlier.ensures.updates)
    (c.in_ok-push.ensures.items ∙ ap (λ (earlier : ℕ). c.args.self.now.earlier.items ++ earlier ∷ []) (c.unwrap_or.ensures ∙ ap₂ (λ (o : Option ℕ) (slot : ℕ). unwrap_or o slot) c.in_ok-earlier.ensures.old at_end))
