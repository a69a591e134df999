-- The running thread executes the block of its top level, with what the block kept and the parameters that it sees.
use Rattle.std.proofs.Common.{◌≡◌, ℕ, Bool, true, false, List, [], ◌∷◌, ◌++◌, Option, Some, None, refl, sym, ap, ◌∙◌}
use Rattle.std.specs.Prelude.{is_some, unwrap_or}
use Rattle.opcode_table.specs.declared.kinds.Kind.{Kind}
use Rattle.machine_spec.specs.Script.{Script, End, Then, Statement}
use Rattle.machine_spec.specs.Program.{Program}
use Rattle.machine_spec.specs.Threads.{Params}
use Rattle.machine_spec.specs.declared.threads.Context.{Context}
use Rattle.machine_spec.specs.declared.threads.Context.TheVariants.{Fresh, Repeat, Wait, Glide, Started, Asked, Spoken, Called}
use Rattle.machine_spec.specs.Keeping.{is_called, top_fits}
use Rattle.machine_spec.specs.Pending.{Item, dos, params_in}
use Rattle.machine_spec.specs.Step.{execute, execute_first}
use Rattle.machine_spec.specs.Tasks.{Task}
use Rattle.machine_spec.specs.World.{World}
use Rattle.project_spec.specs.declared.blocks.Block.{Block}
use Rattle.project_spec.specs.Trees.{Sheet, target_of_link, script, statement}
use Rattle.thread_frames.specs.declared.level.Level.{Level}
use Rattle.thread_frames.specs.Levels.{params_or, near_params}
use Rattle.thread_frames.specs.Reading.{params_in as level_params, first_by, marker, beneath}
use Rattle.thread_frames.specs.Fit.{kind_of, AllUnder}
use Rattle.thread_moves.proofs.Fits.{under_marker}
use Rattle.thread_moves.proofs.Items.{at_block}

-- the parameters that a block sees
abbrev pub seen_by : Context → Params → Params → Params
seen_by Called own rest = own
seen_by c own rest = rest

first_by_context : (p : Program) (i : ℕ) (late : Bool) (t : Task) (c : Context) (ps : Params) (s : Statement) (r : List Item) (w : World Task)
    → execute_first p i late t (first_by false c ps s ∷ r) w ≡ execute p i late t s c (seen_by c ps (params_in r)) r w
first_by_context p i late t Fresh ps s r w = refl
first_by_context p i late t (Repeat n) ps s r w = refl
first_by_context p i late t (Wait k) ps s r w = refl
first_by_context p i late t (Glide k) ps s r w = refl
first_by_context p i late t (Started ns) ps s r w = refl
first_by_context p i late t Asked ps s r w = refl
first_by_context p i late t Spoken ps s r w = refl
first_by_context p i late t Called ps s r w = refl

loop_context : (c : Context) (k : Kind) (ps rest : Params) → top_fits c true k ≡ true → seen_by c ps rest ≡ rest
loop_context Fresh k ps rest h = refl
loop_context (Repeat n) k ps rest h = refl
loop_context (Wait s) k ps rest h = refl
loop_context (Glide s) k ps rest h = refl
loop_context (Started ns) k ps rest h = refl
loop_context Asked k ps rest h = refl
loop_context Spoken k ps rest h = refl
loop_context Called k ps rest h = absurd (cc)

pub first_executes : (p : Program) (i : ℕ) (late : Bool) (t : Task) (m : Bool) (c : Context) (k : Kind) (ps : Params) (s : Statement) (r : List Item) (w : World Task)
    → top_fits c m k ≡ true → execute_first p i late t (first_by m c ps s ∷ r) w ≡ execute p i late t s c (seen_by c ps (params_in r)) r w
first_executes p i late t false c k ps s r w h = first_by_context p i late t c ps s r w
first_executes p i late t true c k ps s r w h = ap (λ x. execute p i late t s c x r w) (sym (loop_context c k ps (params_in r) h))

-- The parameters of the nearest call

params_dos : (t : Script) (r : List Item) → params_in (dos t ++ r) ≡ params_in r
params_dos End r = refl
params_dos (Then s rest) r = params_dos rest r

or_some : (o rest : Option Params) → is_some o ≡ true → unwrap_or o [] ≡ unwrap_or (params_or o rest) []
or_some None rest h = absurd (cc)
or_some (Some x) rest h = refl

or_none : (o rest : Option Params) → is_some o ≡ false → unwrap_or (params_or o rest) [] ≡ unwrap_or rest []
or_none None rest h = refl
or_none (Some x) rest h = absurd (cc)

params_beneath : (sheet : Sheet) (ls : List Level) → AllUnder sheet ls → params_in (beneath sheet ls) ≡ unwrap_or (near_params ls) []
params_beneath sheet [] h = refl
params_beneath sheet (l ∷ ls) h =
    let u = h.0 in
    let r : List Item = dos (script sheet (target_of_link u.block.next)) ++ beneath sheet ls in
    let more : params_in r ≡ unwrap_or (near_params ls) [] = params_dos (script sheet (target_of_link u.block.next)) (beneath sheet ls) ∙ params_beneath sheet ls h.1 in
    let plain : is_called l.context ≡ false → params_in r ≡ unwrap_or (near_params (l ∷ ls)) [] = λ e. more ∙ sym (or_none l.params (near_params ls) (u.params ∙ e)) in
    ap (λ x. params_in (x ++ beneath sheet ls)) (at_block sheet (marker l) l.block u.id u.block u.holds u.found)
    ∙ under_marker (λ x. params_in (x ∷ r) ≡ unwrap_or (near_params (l ∷ ls)) []) l.context l.is_loop (kind_of u.block) (level_params l) l.warp (statement sheet u.id u.block) u.fits
    (λ e m. or_some l.params (near_params ls) (u.params ∙ e))
    plain
    plain

seen_plain : (c : Context) (o rest : Option Params) (r : Params) → is_some o ≡ is_called c → r ≡ unwrap_or rest [] → seen_by c (unwrap_or o []) r ≡ unwrap_or (params_or o rest) []
seen_plain Called None rest r h e = absurd (cc)
seen_plain Called (Some ps) rest r h e = refl
seen_plain Fresh None rest r h e = e
seen_plain (Repeat n) None rest r h e = e
seen_plain (Wait k) None rest r h e = e
seen_plain (Glide k) None rest r h e = e
seen_plain (Started ns) None rest r h e = e
seen_plain Asked None rest r h e = e
seen_plain Spoken None rest r h e = e
seen_plain c (Some ps) rest r h e = absurd (cc)

-- the block of the top level sees those of the nearest level that has some
pub params_seen : (sheet : Sheet) (top : Level) (under : List Level) (b : Block) → AllUnder sheet under → is_some top.params ≡ is_called top.context
    → seen_by top.context (level_params top) (params_in (dos (script sheet (target_of_link b.next)) ++ beneath sheet under)) ≡ unwrap_or (near_params (top ∷ under)) []
params_seen sheet top under b below fits =
    seen_plain top.context top.params (near_params under) _ fits (params_dos (script sheet (target_of_link b.next)) (beneath sheet under) ∙ params_beneath sheet under below)
