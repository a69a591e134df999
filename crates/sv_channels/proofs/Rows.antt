-- The definitions on small cases.
use Rattle.std.proofs.Common.{◌≡◌, ◌-◌, ◌^◌, [], ◌∷◌, true, false, None, Some, Ok, Err, refl, arith}
use Rattle.std.specs.Cmp.Lexicographic.{nat_list_cmp_total}
use Rattle.std.specs.FinMap.{empty, get, get-from_entries}
use Rattle.sv_channels.specs.Counts.{next_count, Rose}
use Rattle.sv_channels.specs.Files.{files_of}
use Rattle.sv_channels.specs.Memory.{within, fails_next, part_of}
use Rattle.sv_channels.specs.Pairs.{second_of}
use Rattle.sv_channels.specs.Tally.{no_failures}
use Rattle.sv_channels.specs.declared.errors.FetchError.TheVariants as fetch

-- a count rises by one, and stands still at its end
counts_rise : next_count 4 ≡ 5
counts_rise = refl

count_ends : next_count (2 ^ 64 - 1) ≡ 2 ^ 64 - 1
count_ends = refl

rose_by_one : Rose 4 5
rose_by_one = omega arith

did_not_rise : Rose 4 4 → ⊥
did_not_rise h = omega (arith, h)

rose_at_the_end : Rose (2 ^ 64 - 1) (2 ^ 64 - 1)
rose_at_the_end = omega arith

-- 97 and 98 are two names of one byte: the first place counts
two_places : get (files_of ((97 ∷ [], 1 ∷ []) ∷ (98 ∷ [], []) ∷ (97 ∷ [], 2 ∷ []) ∷ [])) (97 ∷ []) ≡ Some (1 ∷ [])
two_places = get-from_entries nat_list_cmp_total ((97 ∷ [], 1 ∷ []) ∷ (98 ∷ [], []) ∷ (97 ∷ [], 2 ∷ []) ∷ []) (97 ∷ [])

no_place : get (files_of ((97 ∷ [], 1 ∷ []) ∷ [])) (97 ∷ 97 ∷ []) ≡ None
no_place = get-from_entries nat_list_cmp_total ((97 ∷ [], 1 ∷ []) ∷ []) (97 ∷ 97 ∷ [])

-- three bytes at limits 2 and 3, and a name that is not held
above_the_limit : within 2 (Some (7 ∷ 8 ∷ 9 ∷ [])) ≡ Err (fetch.TooLarge 2)
above_the_limit = refl

at_the_limit : within 3 (Some (7 ∷ 8 ∷ 9 ∷ [])) ≡ Ok (7 ∷ 8 ∷ 9 ∷ [])
at_the_limit = refl

not_held : within 3 None ≡ Err fetch.Failed
not_held = refl

-- the calls 1 and 2 of a shelf are listed, and call 1 comes next
listed : fails_next (record { files = empty; fails = 1 ∷ 2 ∷ []; calls = 1; failed_fetches = no_failures; failed_puts = no_failures; wants = 0 }) ≡ true
listed = refl

not_listed : fails_next (record { files = empty; fails = 1 ∷ 2 ∷ []; calls = 3; failed_fetches = no_failures; failed_puts = no_failures; wants = 0 }) ≡ false
not_listed = refl

-- of two pairs that begin alike the first counts
first_pair : second_of ((1, 5) ∷ (2, 6) ∷ (2, 7) ∷ []) 2 ≡ Some 6
first_pair = refl

no_pair : second_of ((1, 5) ∷ []) 5 ≡ None
no_pair = refl

-- a first part of two bytes, of all, and of more than there are
two_bytes : part_of (Some 2) (7 ∷ 8 ∷ 9 ∷ []) ≡ 7 ∷ 8 ∷ []
two_bytes = refl

more_bytes : part_of (Some 4) (7 ∷ 8 ∷ 9 ∷ []) ≡ 7 ∷ 8 ∷ 9 ∷ []
more_bytes = refl
