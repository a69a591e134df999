use Rattle.std.proofs.Common.{◌≡◌, ◌++◌, drop, map}
use Rattle.cached_blocks.specs.Cached.{cached_field}
use Rattle.cached_blocks.proofs.fields.cached_fields.Given as goal

-- the fields so far, and those that are left
abbrev pub invariant-loop-name : goal.invariant-loop-name
invariant-loop-name l = l.cached ++ map (cached_field l.refs l.k) (drop l.name-index l.fields) ≡ map (cached_field l.refs l.k) l.fields
