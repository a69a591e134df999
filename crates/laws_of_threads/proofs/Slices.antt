-- A slice, and the turn of a thread, keep all threads legal.
use Rattle.std.proofs.Common.{◌≡◌, ℕ, zero, suc, Bool, true, false, List, [], ◌∷◌, Option, Some, None, inl, inr, refl, sym, subst}
use Rattle.std.specs.Prelude.{◌<◌, ◌+◌}
use Rattle.opcode_table.specs.declared.kinds.Kind.{Kind}
use Rattle.opcode_table.specs.declared.kinds.Kind.TheVariants.{Calls}
use Rattle.opcode_table.specs.Kinds.{kind}
use Rattle.machine_spec.specs.declared.threads.Context.{Context}
use Rattle.machine_spec.specs.declared.threads.Context.TheVariants.{Fresh, Repeat, Wait, Glide, Started, Asked, Spoken, Called}
use Rattle.machine_spec.specs.declared.threads.Report.{Report}
use Rattle.machine_spec.specs.declared.threads.Report.TheVariants.{Go, Uncovered, Yielded, Ticked, Waits as WaitsOn, Ended}
use Rattle.machine_spec.specs.Outcome.{Outcome, Goes, IfGoes}
use Rattle.machine_spec.specs.Script.{Statement, op_of, place_of, command_of}
use Rattle.machine_spec.specs.Program.{Program}
use Rattle.machine_spec.specs.Threads.{Params}
use Rattle.machine_spec.specs.Pending.{markers, Item, Do, Held, Returned, Branch, Again, Back, params_in}
use Rattle.machine_spec.specs.Called.{called_by}
use Rattle.machine_spec.specs.Legal.{Keeps, Fits, Legal, waits_for_promise}
use Rattle.machine_spec.specs.Places.{Places, running}
use Rattle.machine_spec.specs.Tasks.{depth, Task}
use Rattle.machine_spec.specs.World.{World}
use Rattle.machine_spec.specs.Step.{Moment, ended, execute_first, step_by, step}
use Rattle.machine_spec.specs.Slice.{go_on, is_late, counted_after, slice_goes_on, slice_by, executing, most_executions, turn_of, turn_by, turn}
use Rattle.laws_of_threads.proofs.Depths.{deep}
pub use Rattle.laws_of_threads.specs.Frames.{MayRun}
use Rattle.laws_of_threads.specs.Lists.{Excused}
use Rattle.laws_of_threads.specs.Promises.{askers, speakers}
use Rattle.laws_of_threads.specs.Scripts.{IsProgram}
use Rattle.laws_of_threads.specs.Positions.{Brings, KeptWell, FirstKeptWell}
use Rattle.laws_of_threads.specs.Threads.{IsThread, Stays, is_asked, is_spoken}
use Rattle.laws_of_threads.proofs.Numbers.{member_below, clash}
use Rattle.laws_of_threads.proofs.RowFits.{goes_then}
use Rattle.laws_of_threads.proofs.Crews.{Crew, crew_map, each_get, serials, get_serial}
use Rattle.laws_of_threads.proofs.Staying.{free_asked, free_spoken}
use Rattle.laws_of_threads.proofs.Moving.{IsAtWork, Moving, After, goes_further, gone_after}
use Rattle.laws_of_threads.proofs.Executed.{Ready, execute_after}

pub brings_kept : (clock : ℕ) (k : Kind) (c : Context) → Keeps clock k c → Brings clock k c
brings_kept clock k Fresh h = tt
brings_kept clock k (Repeat n) h = h
brings_kept clock k (Wait d) h = h
brings_kept clock k (Glide d) h = h
brings_kept clock k (Started n) h = h
brings_kept clock k Asked h = h
brings_kept clock k Spoken h = h
brings_kept clock k Called h = absurd h

pub fits_calls : (p : Program) (k : Kind) (target : ℕ) (code : List ℕ) (params : Params) → Fits params (called_by k p target code) → k ≡ Calls
fits_calls p Calls target code params h = refl
fits_calls p k target code params h = absurd h

-- the running thread is one of all
pub record OneOfAll (P : Task → Type 0) (next : ℕ) (t : Task) : Type 0 where
  pub its : P t
  pub given : t.serial < next

one_by : (P : Task → Type 0) (next i : ℕ) (list : List Task) (o : Option Task) (t : Task) → running i (record { list = list; detached = o }) ≡ Some t → Crew P next (record { list = list; detached = o }) → OneOfAll P next t
one_by P next i list None t e c = record { its = each_get P list i t e c.listed; given = member_below (serials list) next t.serial c.serials.given (get_serial list i t e) }
one_by P next i list (Some d) t e c = let same : d ≡ t = cc in record { its = subst P same c.detached; given = subst (λ x. x.serial < next) same c.serials.given.0 }

pub one_of_all : (P : Task → Type 0) (next i : ℕ) (ts : Places Task) (t : Task) → running i ts ≡ Some t → Crew P next ts → OneOfAll P next t
one_of_all P next i ts t e c = one_by P next i ts.list ts.detached t e c

module _ (p : Program) (good : IsProgram p) (i : ℕ) where
  ended_after : (w : World Task) → Moving p w → IfGoes (ended w) (After p i)
  ended_after w h = record { moving = h; free = λ u e g. absurd (cc g) }

  module _ (late : Bool) (t : Task) (w : World Task) (moving : Moving p w) (runs : running i w.threads ≡ Some t) (below : t.serial < w.next_thread) (free : waits_for_promise t.items ≡ false) where
    pub ready : (h : IsThread p w.targets w.devices.clock w.next_thread (askers w.devices) (speakers w.devices) t) (s : Statement) (r : List Item) (c : Context)
        → Legal p h.head.script w.devices.clock (Do s ∷ r) t.warp → Brings w.devices.clock (kind (op_of s)) c → KeptWell w.next_thread c → depth t ≡ markers r + 1 → Ready p good i t s r c w
    ready h s r c legal brings kept deep = record {
      runs = runs;
      moving = moving;
      given = below;
      thread = h;
      legal = legal;
      brings = brings;
      kept = kept;
      unasked = λ m. clash (is_asked t.items) (h.asked m) (free_asked t.items free);
      unspoken = λ m. clash (is_spoken t.items) (h.spoken m) (free_spoken t.items free);
      deep = deep;
    }

    first_after : (h : IsThread p w.targets w.devices.clock w.next_thread (askers w.devices) (speakers w.devices) t) (items : List Item) → t.items ≡ items → Legal p h.head.script w.devices.clock items t.warp → FirstKeptWell w.next_thread items → IfGoes (execute_first p i late t items w) (After p i)
    first_after h [] e l k = ended_after w moving
    first_after h (Do s ∷ r) e l k = execute_after p good i t s r late Fresh (params_in r) w (ready h s r Fresh l tt tt (deep t (Do s) r h.status e))
    first_after h (Held s c ∷ r) e l k = execute_after p good i t s r late c (params_in r) w (ready h s r c (l.1, l.2) (brings_kept w.devices.clock (kind (op_of s)) c l.0) k (deep t (Held s c) r h.status e))
    first_after h (Returned s ps ∷ r) e l k = execute_after p good i t s r late Called ps w (ready h s r Called (l.1, l.2) (fits_calls p (kind (op_of s)) (place_of s).target (command_of s).code ps l.0) tt (deep t (Returned s ps) r h.status e))
    first_after h (Branch s v ∷ r) e l k = absurd l
    first_after h (Again s c v ∷ r) e l k = absurd l
    first_after h (Back s ps v ∷ r) e l k = absurd l

    any_after : Stays p w.targets w.devices.clock w.next_thread (askers w.devices) (speakers w.devices) t → IfGoes (execute_first p i late t t.items w) (After p i)
    any_after (inl h) = subst (λ l. IfGoes (execute_first p i late t l w) (After p i)) (sym h.1) (ended_after w moving)
    any_after (inr h) = first_after h t.items refl h.legal h.kept

  step_after_by : (late : Bool) (o : Option Task) (w : World Task) → running i w.threads ≡ o → Moving p w → MayRun i w → IfGoes (step_by p i late o w) (After p i)
  step_after_by late None w e h f = ended_after w h
  step_after_by late (Some t) w e h f = let one = one_of_all (IsAtWork p w) w.next_thread i w.threads t e h.crew in any_after late t w h e one.given (f t e) one.its

  pub step_after : (late : Bool) (w : World Task) → Moving p w → MayRun i w → IfGoes (step p i late w) (After p i)
  step_after late w h f = step_after_by late (running i w.threads) w refl h f

  pub further : (r : Report) (before after late : Bool) → slice_goes_on r before after late ≡ true → goes_further r ≡ true
  further Go before after late e = refl
  further Uncovered before after late e = refl
  further Yielded before after late e = refl
  further Ticked before after late e = absurd (cc e)
  further WaitsOn before after late e = absurd (cc e)
  further Ended before after late e = absurd (cc e)

  on_moving : (b : Bool) (x : Moment (World Task)) (rest : World Task → Outcome (World Task)) → (b ≡ true → goes_further x.report ≡ true) → After p i x
      → ((v : World Task) → Moving p v → MayRun i v → IfGoes (rest v) (Moving p)) → IfGoes (go_on b rest (λ w. Goes w) x.world) (Moving p)
  on_moving true x rest f h more = more x.world h.moving (λ u e. h.free u e (f refl))
  on_moving false x rest f h more = h.moving

  pub slice_moving : (budget n m : ℕ) (w : World Task) → Moving p w → MayRun i w → IfGoes (slice_by (executing p i) budget n m w) (Moving p)
  unfolding slice_by
  slice_moving budget zero m w h f = h
  slice_moving budget (suc n) m w h f =
      let e = executing p i in
      goes_then (step p i (is_late budget m) w) _ (After p i) (Moving p) (step_after (is_late budget m) w h f)
      (λ x g. on_moving (slice_goes_on x.report (e.flag w) (e.flag x.world) (is_late budget (counted_after m (e.flag w)))) x
      (slice_by e budget n (counted_after m (e.flag w)))
      (further x.report (e.flag w) (e.flag x.world) (is_late budget (counted_after m (e.flag w)))) g
      (λ v a b. slice_moving budget n (counted_after m (e.flag w)) v a b))

  turn_of_moving : (budget : ℕ) (items : List Item) (t : Task) (w : World Task) → running i w.threads ≡ Some t → Moving p w → MayRun i w → IfGoes (turn_of p budget i items w) (Moving p)
  turn_of_moving budget [] t w e h f = (gone_after p i t w e (record { sound = h.sound; crew = crew_map (IsAtWork p w) (Excused (λ x. x.serial) t.serial (IsAtWork p w)) w.next_thread w.threads (λ x k. inr k) h.crew; few = h.few })).moving
  turn_of_moving budget (x ∷ r) t w e h f = slice_moving budget most_executions 0 w h f

  turn_by_moving : (budget : ℕ) (o : Option Task) (w : World Task) → running i w.threads ≡ o → Moving p w → MayRun i w → IfGoes (turn_by p budget i o w) (Moving p)
  turn_by_moving budget None w e h f = h
  turn_by_moving budget (Some t) w e h f = turn_of_moving budget t.items t w e h f

  pub turn_moving : (budget : ℕ) (w : World Task) → Moving p w → MayRun i w → IfGoes (turn p budget i w) (Moving p)
  turn_moving budget w h f = turn_by_moving budget (running i w.threads) w refl h f
