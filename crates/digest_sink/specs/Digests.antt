-- What contracts see of a sink that keeps a digest and a count in place of the bytes: all of them, though it stores none.
use Rattle.std.specs.Prelude.{ℕ, List, ◌++◌}
use Rattle.sv_channels.specs.Counts.{next_count}

-- the bytes that were given, and how many writes were called for
pub record DigestState : Type 0 where
  pub written : List ℕ
  pub calls : ℕ

-- the sink after a write
abbrev pub after_digest : DigestState → List ℕ → DigestState
after_digest s piece = record { written = s.written ++ piece; calls = next_count s.calls }
