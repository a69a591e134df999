-- What the fit of a level says.
use Rattle.std.proofs.Common.{◌≡◌, ℕ, Bool, true, false, [], ◌∷◌, Option, Some, None, refl}
use Rattle.std.specs.Prelude.{◌&&◌}
use Rattle.opcode_table.specs.declared.kinds.Kind.{Kind}
use Rattle.opcode_table.specs.declared.kinds.Kind.TheVariants.{Choice, Endless, Counted, Calls, Waits, Glides, Starts, Asks, Speaks, Plain}
use Rattle.machine_spec.specs.Script.{Statement}
use Rattle.machine_spec.specs.Threads.{Params}
use Rattle.machine_spec.specs.declared.threads.Context.{Context}
use Rattle.machine_spec.specs.declared.threads.Context.TheVariants.{Fresh, Repeat, Started, Called}
use Rattle.machine_spec.specs.Keeping.{is_called, is_calls, has_branches, may_wait, under_fits, top_fits}
use Rattle.machine_spec.specs.Pending.{Item, Again, Back, Branch, branch_marker}
use Rattle.project_spec.specs.declared.blocks.Block.{Block}
use Rattle.project_spec.specs.Trees.{Sheet}
use Rattle.thread_frames.specs.Levels.{new_level}
use Rattle.thread_frames.specs.Reading.{marker_by}
use Rattle.thread_frames.specs.Fit.{block_at, top_at, IsHeld, IsTop}

-- a level under another may become the top one
pub under_top : (c : Context) (m : Bool) (k : Kind) → under_fits c m k ≡ true → top_fits c m k ≡ true
under_top Fresh false Choice h = refl
under_top Fresh true Endless h = refl
under_top (Repeat n) true Counted h = h
under_top Called false Calls h = refl
under_top c m k h = absurd (cc)

-- a level under another is a call that has called, a loop, or a choice
pub under_marker : (P : Item → Type 0) (c : Context) (m : Bool) (k : Kind) (ps : Params) (w : Bool) (s : Statement) → under_fits c m k ≡ true → (is_called c ≡ true → m ≡ false → P (Back s ps w)) → (is_called c ≡ false → P (Again s c w)) → (is_called c ≡ false → P (Branch s w)) → P (marker_by m c ps w s)
under_marker P Fresh false Choice ps w s h b a e = e refl
under_marker P Fresh true Endless ps w s h b a e = a refl
under_marker P (Repeat n) true Counted ps w s h b a e = a refl
under_marker P Called false Calls ps w s h b a e = b refl refl
under_marker P c m k ps w s h b a e = absurd (cc)

-- a level that has just come to its block
fresh_at : (o : Option Block) → top_at o Fresh false ≡ true
fresh_at None = refl
fresh_at (Some b) = refl

pub fresh_top : (sheet : Sheet) (o : Option ℕ) (w : Bool) → IsHeld sheet o → IsTop sheet (new_level o w)
fresh_top sheet o w h = record { held = h; fits = fresh_at (block_at sheet o); params = refl }

pub both : (a b : Bool) → (a && b) ≡ true → (a ≡ true) × (b ≡ true)
both true b h = (refl, h)
both false b h = absurd (cc)

-- kinds with branches, or that wait, are no calls
pub branches_no_call : (k : Kind) → has_branches k ≡ true → is_calls k ≡ false
branches_no_call Choice h = refl
branches_no_call Endless h = refl
branches_no_call Counted h = refl
branches_no_call k h = absurd (cc)

pub waits_no_call : (k : Kind) → may_wait k ≡ true → is_calls k ≡ false
waits_no_call Waits h = refl
waits_no_call Glides h = refl
waits_no_call Starts h = refl
waits_no_call Asks h = refl
waits_no_call Speaks h = refl
waits_no_call Plain h = refl
waits_no_call k h = absurd (cc)

pub waits_no_branch : (k : Kind) → may_wait k ≡ true → has_branches k ≡ false
waits_no_branch Waits h = refl
waits_no_branch Glides h = refl
waits_no_branch Starts h = refl
waits_no_branch Asks h = refl
waits_no_branch Speaks h = refl
waits_no_branch Plain h = refl
waits_no_branch k h = absurd (cc)

pub calls_no_branch : (k : Kind) → is_calls k ≡ true → has_branches k ≡ false
calls_no_branch Calls h = refl
calls_no_branch k h = absurd (cc)

-- only calls have called
pub top_called : (c : Context) (m : Bool) (k : Kind) → top_fits c m k ≡ true → is_calls k ≡ false → is_called c ≡ false
top_called Called false Calls h e = absurd (cc)
top_called Called m k h e = absurd (cc)
top_called c m k h e = refl

-- only kinds with branches are loops
pub top_loop : (c : Context) (m : Bool) (k : Kind) → top_fits c m k ≡ true → has_branches k ≡ false → m ≡ false
top_loop c false k h e = refl
top_loop Fresh true Endless h e = absurd (cc)
top_loop (Repeat n) true Counted h e = absurd (cc)
top_loop (Started []) true k h e = absurd (cc)
top_loop (Started (n ∷ ns)) true k h e = absurd (cc)
top_loop c true k h e = absurd (cc)

-- a loop or a choice leaves the marker that its control says
pub branch_mark : (c : Context) (m : Bool) (k : Kind) (ps : Params) (w : Bool) (s : Statement) → under_fits c m k ≡ true → has_branches k ≡ true → marker_by m c ps w s ≡ branch_marker m s c w
branch_mark Fresh false Choice ps w s h e = refl
branch_mark Fresh true Endless ps w s h e = refl
branch_mark (Repeat n) true Counted ps w s h e = refl
branch_mark Called false Calls ps w s h e = absurd (cc)
branch_mark c m k ps w s h e = absurd (cc)

pub branch_called : (c : Context) (m : Bool) (k : Kind) → under_fits c m k ≡ true → has_branches k ≡ true → is_called c ≡ false
branch_called Fresh false Choice h e = refl
branch_called Fresh true Endless h e = refl
branch_called (Repeat n) true Counted h e = refl
branch_called Called false Calls h e = absurd (cc)
branch_called c m k h e = absurd (cc)

pub call_under : (k : Kind) → is_calls k ≡ true → under_fits Called false k ≡ true
call_under Calls h = refl
call_under k h = absurd (cc)
