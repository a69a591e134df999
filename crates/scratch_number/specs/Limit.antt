-- How large a finite number may be.
use Rattle.std.specs.Prelude.{ℕ}

-- the largest size of a number that is finite, in millionths: 9·10^18
abbrev pub limit : ℕ
limit = 9000000000000000000
