-- What is left of a generator's stream behind its first words is the stream of the generator that
-- is advanced by so many words.
use Rattle.std.proofs.Common.{◌≡◌, ℕ, zero, suc, ◌+◌, drop, refl, zero-add, suc-add}
use Rattle.rand_core.specs.Stream.{Stream, next_u32}
use Rattle.rand_core.specs.Steps.{first_words, stream_of}
use Rattle.rand_pcg.specs.Lcg.{Lcg, advance, state_after}
use Rattle.rand_pcg.specs.Pcg.{pcg32, multiplier_64}
use Rattle.script_words.specs.Words.{answers, without}

-- a generator advanced by n words answers what its stream answers without the first n
pub answers-advance : (n : ℕ) (g : Lcg) → answers (advance 64 multiplier_64 n g) ≡ without n (answers g)
unfolding without state_after next_u32 stream_of
answers-advance zero g = refl
answers-advance (suc n) g = answers-advance n (pcg32 g).1

-- the words behind the first k
pub first-without : (k n : ℕ) (s : Stream) → first_words next_u32 n (without k s) ≡ drop k (first_words next_u32 (k + n) s)
unfolding first_words without
first-without zero n s = rw zero-add refl
first-without (suc k) n s = rw suc-add (first-without k n (next_u32 s).1)
