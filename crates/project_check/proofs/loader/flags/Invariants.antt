use Rattle.std.proofs.Common.{◌≡◌, ◌++◌, drop, map}
use Rattle.project_check.proofs.loader.flags.Given as goal

-- the flags of the targets so far, and those that are left
abbrev pub invariant-loop-kept : goal.invariant-loop-kept
invariant-loop-kept l = map (λ f. f.now) l.flags.items ++ map (λ k. k.checked) (drop l.kept-index l.links) ≡ map (λ k. k.checked) l.links
