-- How often a call has called the shelf.
use Rattle.std.specs.Prelude.{◌≡◌, ℕ, zero, suc, ◌+◌, ◌≤◌, List, Option, None, Some}
use Rattle.sv_channels.specs.Counts.{next_count}
use Rattle.call_outcomes.specs.Course.{Course, usage, read_fault, write_fault, no_memory, silent, whole}
use Rattle.call_outcomes.specs.Seen.{ShelfNow}

-- a count after so many calls
abbrev pub counted : ℕ → ℕ → ℕ
counted zero count = count
counted (suc n) count = counted n (next_count count)

-- how many files are put
abbrev pub puts_of : (save : Option (List ℕ)) → ℕ
puts_of None = 0
puts_of (Some name) = 1

-- Each file is fetched once at most, in the order of work, and put once at most: so many files are fetched by a call that
-- comes to its end, so many up to an answer by which nothing is written, and so many are put.
abbrev pub CallsOf : (files fetched puts : ℕ) → Course → ℕ → Type 0
CallsOf files fetched puts usage n = n ≡ 0
CallsOf files fetched puts silent n = n ≡ fetched
CallsOf files fetched puts whole n = n ≡ files + puts
CallsOf files fetched puts write_fault n = (files ≤ n) × (n ≤ files + puts)
CallsOf files fetched puts read_fault n = (1 ≤ n) × (n ≤ files)
CallsOf files fetched puts no_memory n = n ≤ files + puts

-- the shelf was called so often
abbrev pub Calls : ShelfNow → ShelfNow → (files fetched puts : ℕ) → Course → Type 0
Calls s t files fetched puts course = (n : ℕ) × CallsOf files fetched puts course n × (t.calls ≡ counted n s.calls)
