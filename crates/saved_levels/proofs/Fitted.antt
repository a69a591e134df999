-- What a block keeps fits its kind, as the levels of the player have it.
use Rattle.std.proofs.Common.{◌≡◌, ℕ, true, false, List, [], ◌∷◌, Option, Some, None, refl, is_some}
use Rattle.opcode_table.specs.declared.kinds.Kind.{Kind}
use Rattle.opcode_table.specs.declared.kinds.Kind.TheVariants.{Choice, Endless, Counted, Calls, Waits, Glides, Starts, Asks, Speaks, Plain}
use Rattle.machine_spec.specs.Called.{called_by}
use Rattle.machine_spec.specs.Keeping.{is_called, is_calls, under_fits, top_fits}
use Rattle.machine_spec.specs.Program.{Program, Procedure, procedure}
use Rattle.saved_spec.specs.Kept.{Kept, Nothing, Loop, Repeat, Wait, Glide, Started, Asked, Spoken, Call}
use Rattle.saved_levels.specs.Making.{loop_in, context_in, params_in, keeps_under, keeps_first}

-- only calls call
pub calls_by : (k : Kind) (p : Program) (target : ℕ) (code : List ℕ) → is_calls k ≡ true → called_by k p target code ≡ procedure target code p
calls_by Calls p target code h = refl
calls_by k p target code h = absurd (cc)

pub no_call : (k : Kind) (p : Program) (target : ℕ) (code : List ℕ) → is_calls k ≡ false → called_by k p target code ≡ None
no_call Choice p target code h = refl
no_call Endless p target code h = refl
no_call Counted p target code h = refl
no_call Calls p target code h = absurd (cc)
no_call Waits p target code h = refl
no_call Glides p target code h = refl
no_call Starts p target code h = refl
no_call Asks p target code h = refl
no_call Speaks p target code h = refl
no_call Plain p target code h = refl

pub some_call : (k : Kind) (p : Program) (target : ℕ) (code : List ℕ) → is_some (called_by k p target code) ≡ true → is_calls k ≡ true
some_call Calls p target code h = refl
some_call k p target code h = absurd (cc)

call_under : (k : Kind) → is_calls k ≡ true → under_fits (context_in (Call [])) false k ≡ true
call_under Calls h = refl
call_under k h = absurd (cc)

call_first : (k : Kind) → is_calls k ≡ true → top_fits (context_in (Call [])) false k ≡ true
call_first Calls h = refl
call_first k h = absurd (cc)

pub fits_under : (k : Kind) (q : Option Procedure) (kept : Kept) → (is_some q ≡ true → is_calls k ≡ true) → keeps_under k q kept ≡ true → under_fits (context_in kept) (loop_in kept) k ≡ true
fits_under Choice q Nothing h e = refl
fits_under k q Nothing h e = absurd (cc)
fits_under Endless q Loop h e = refl
fits_under k q Loop h e = absurd (cc)
fits_under Counted q (Repeat n) h e = e
fits_under k q (Repeat n) h e = absurd (cc)
fits_under k None (Call ps) h e = absurd (cc)
fits_under k (Some q) (Call ps) h e = call_under k (h refl)
fits_under k q (Wait c) h e = absurd (cc)
fits_under k q (Glide c) h e = absurd (cc)
fits_under k q (Started ns) h e = absurd (cc)
fits_under k q Asked h e = absurd (cc)
fits_under k q Spoken h e = absurd (cc)

pub fits_first : (clock : ℕ) (k : Kind) (q : Option Procedure) (kept : Kept) → (is_some q ≡ true → is_calls k ≡ true) → keeps_first clock k q kept ≡ true → top_fits (context_in kept) (loop_in kept) k ≡ true
fits_first clock k q Nothing h e = refl
fits_first clock Endless q Loop h e = refl
fits_first clock k q Loop h e = absurd (cc)
fits_first clock Counted q (Repeat n) h e = e
fits_first clock k q (Repeat n) h e = absurd (cc)
fits_first clock k None (Call ps) h e = absurd (cc)
fits_first clock k (Some q) (Call ps) h e = call_first k (h refl)
fits_first clock Waits q (Wait c) h e = refl
fits_first clock k q (Wait c) h e = absurd (cc)
fits_first clock Glides q (Glide c) h e = refl
fits_first clock k q (Glide c) h e = absurd (cc)
fits_first clock Starts q (Started (n ∷ ns)) h e = refl
fits_first clock Starts q (Started []) h e = absurd (cc)
fits_first clock k q (Started ns) h e = absurd (cc)
fits_first clock Asks q Asked h e = refl
fits_first clock k q Asked h e = absurd (cc)
fits_first clock Speaks q Spoken h e = refl
fits_first clock k q Spoken h e = absurd (cc)

pub params_fit : (kept : Kept) → is_some (params_in kept) ≡ is_called (context_in kept)
params_fit Nothing = refl
params_fit Loop = refl
params_fit (Repeat n) = refl
params_fit (Wait c) = refl
params_fit (Glide c) = refl
params_fit (Started ns) = refl
params_fit Asked = refl
params_fit Spoken = refl
params_fit (Call ps) = refl
