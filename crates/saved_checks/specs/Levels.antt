-- What the levels of threads keep.
use Rattle.std.specs.Prelude.{ℕ, nat_lt, Bool, true}
use Rattle.std.specs.List.{list_all}
use Rattle.saved_spec.specs.Rules.{is_short}
use Rattle.saved_parts.specs.Telling.{value_of}
use Rattle.saved_parts.specs.declared.threads.ToldKept.{ToldKept}
use Rattle.saved_parts.specs.declared.threads.ToldKept.TheVariants.{Started, Call}

-- no value of a parameter is a text that is too long
abbrev pub has_short_values : ToldKept → Bool
has_short_values (Call params) = list_all (λ p. is_short (value_of p.value)) params
has_short_values _ = true

-- the threads that were started are below the next
abbrev pub names_given : ℕ → ToldKept → Bool
names_given next (Started serials) = list_all (λ n. nat_lt n next) serials
names_given next _ = true
