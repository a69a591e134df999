use Rattle.std.proofs.Common.{◌≡◌, ◌++◌, drop, map}
use Rattle.std.specs.List.{enumerate_from}
use Rattle.cached_blocks.specs.Cached.{sheet_with, cached_at, cached_blocks}
use Rattle.cached_blocks.proofs.cache.cache_blocks.Given as goal

-- the blocks so far, and those that are left
abbrev pub invariant-loop-k : goal.invariant-loop-k
invariant-loop-k l = l.cached ++ map (cached_at (sheet_with l.blocks l.refs)) (enumerate_from l.k (drop l.k l.blocks)) ≡ cached_blocks (sheet_with l.blocks l.refs)
