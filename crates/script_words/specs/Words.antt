-- Streams of 32-bit words: what is left of one behind its first words, and the stream of a seed.
use Rattle.std.specs.Prelude.{ℕ, zero, suc}
use Rattle.rand_core.specs.Stream.{Stream, next_u32}
use Rattle.rand_core.specs.Steps.{stream_of, steps_u32}
use Rattle.rand_core.specs.Pcg32Seed.{pcg32_seed}
use Rattle.rand_pcg.specs.Lcg.{Lcg}
use Rattle.rand_pcg.specs.Pcg.{pcg32, pcg32_of_seed}

-- the stream without its first n words
unfoldable pub without : ℕ → Stream → Stream
without zero s = s
without (suc n) s = without n (next_u32 s).1

-- all that a generator PCG32 answers from now on
abbrev pub answers : Lcg → Stream
answers = stream_of (steps_u32 pcg32)

-- the generator PCG32 of a seed, by the default rule of `seed_from_u64` in the Rust crate rand_core
abbrev pub seeded : ℕ → Lcg
seeded seed = pcg32_of_seed (pcg32_seed 16 seed)
