use Rattle.std.proofs.Common.{map}
use Rattle.project_check.proofs.Caching.{CachesUpTo}
use Rattle.project_check.proofs.loader.cache_all.Given as goal

-- the targets so far
abbrev pub invariant-loop-t : goal.invariant-loop-t
invariant-loop-t l = CachesUpTo (map (λ b. b.blocks) l.tables) l.names l.cached.items l.t
