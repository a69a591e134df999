-- One execution keeps all threads legal.
use Rattle.std.proofs.Common.{◌≡◌, ℕ, Bool, List, ◌∷◌, Option, Some, inl, inr, sym, ap, ◌∙◌, subst, arith}
use Rattle.std.specs.Prelude.{◌<◌, ◌≤◌, ◌+◌, unwrap_or}
use Rattle.opcode_table.specs.Kinds.{kind}
use Rattle.machine_spec.specs.declared.threads.Context.{Context}
use Rattle.machine_spec.specs.declared.threads.Control.{Control}
use Rattle.machine_spec.specs.declared.threads.Control.TheVariants.{Next, Branch, Yield, YieldTick, Promise, Call, StopThis, StopOthers, StopAll, DeleteClone, Start, Clone}
use Rattle.machine_spec.specs.Outcome.{IfGoes, then_do, most_levels}
use Rattle.machine_spec.specs.Script.{Statement, op_of, command_of, place_of}
use Rattle.machine_spec.specs.Program.{Program, Procedure, procedure, scripts_at}
use Rattle.machine_spec.specs.Stores.{instance_at, no_instance}
use Rattle.machine_spec.specs.Pending.{markers, Item, Do}
use Rattle.machine_spec.specs.Called.{called, called_by}
use Rattle.machine_spec.specs.Legal.{Legal, Fits}
use Rattle.machine_spec.specs.Places.{running}
use Rattle.machine_spec.specs.Tasks.{depth, Task}
use Rattle.machine_spec.specs.World.{World}
use Rattle.machine_spec.specs.Words.{Words}
use Rattle.machine_spec.specs.Step.{act, Applied, view_of, row, execute}
use Rattle.laws_of_threads.proofs.Depths.{all_depths}
use Rattle.laws_of_threads.specs.Lists.{Member, Excused}
use Rattle.laws_of_threads.specs.Instances.{Inhabited}
use Rattle.laws_of_threads.specs.Promises.{Serials, askers, speakers}
use Rattle.laws_of_threads.specs.Positions.{KeptWell, ControlFits, Brings}
use Rattle.laws_of_threads.specs.Threads.{IsThread}
use Rattle.laws_of_threads.proofs.Numbers.{same_or}
use Rattle.laws_of_threads.proofs.RowFits.{goes_then, goes_any}
use Rattle.laws_of_threads.proofs.Crews.{Crew, crew_map}
use Rattle.laws_of_threads.proofs.Staying.{stays}
use Rattle.laws_of_threads.proofs.Moving.{IsAtWork, Moving, After, noted_names, noted_unnamed}
use Rattle.laws_of_threads.proofs.Disposing.{faces_inhabited}
use Rattle.opcode_table.specs.declared.kinds.Kind.{Kind}
use Rattle.opcode_table.specs.declared.kinds.Kind.TheVariants.{Calls}
use Rattle.scratch_values.specs.Named.{Arguments}
use Rattle.machine_spec.specs.Threads.{Params}
use Rattle.machine_spec.specs.Evaluate.{evaluated}
use Rattle.laws_of_threads.specs.Scripts.{Within, IsProgram}
use Rattle.laws_of_threads.proofs.Faces.{live_on, askers_on, speakers_on, hosts_member, hosts_one, found}
use Rattle.laws_of_threads.proofs.Programs.{CallFits, procedure_fits, called_fits, first_place, call_begins, call_named, held_head}
use Rattle.laws_of_threads.proofs.Applies.{Applies, row_fits}
use Rattle.laws_of_threads.proofs.Acted.{Acts, act_after}

-- the fit of a control, whatever way its procedure was found
control_same : (clock next : ℕ) (k : Kind) (x y : Option Procedure) (c : Context) (control : Control) → (k ≡ Calls → x ≡ y) → ControlFits clock next k x c control → ControlFits clock next k y c control
control_same clock next k x y c (Call definition params) e h = (h.0, subst (Fits params) (e h.0) h.1)
control_same clock next k x y c Next e h = h
control_same clock next k x y c (Branch n is_loop) e h = h
control_same clock next k x y c Yield e h = h
control_same clock next k x y c YieldTick e h = h
control_same clock next k x y c Promise e h = h
control_same clock next k x y c StopThis e h = h
control_same clock next k x y c StopOthers e h = h
control_same clock next k x y c StopAll e h = h
control_same clock next k x y c DeleteClone e h = h
control_same clock next k x y c (Start hats wait) e h = h
control_same clock next k x y c (Clone n) e h = h

module _ (p : Program) (good : IsProgram p) (i : ℕ) (t : Task) (s : Statement) (r : List Item) where
  -- the running thread is about to execute this statement with this context
  pub record Ready (c : Context) (w : World Task) : Type 0 where
    pub runs : running i w.threads ≡ Some t
    pub moving : Moving p w
    pub given : t.serial < w.next_thread
    pub thread : IsThread p w.targets w.devices.clock w.next_thread (askers w.devices) (speakers w.devices) t
    pub legal : Legal p thread.head.script w.devices.clock (Do s ∷ r) t.warp
    pub brings : Brings w.devices.clock (kind (op_of s)) c
    pub kept : KeptWell w.next_thread c
    pub unasked : Member t.serial (askers w.devices) → ⊥
    pub unspoken : Member t.serial (speakers w.devices) → ⊥
    pub deep : depth t ≡ markers r + 1

  module _ (c : Context) (w : World Task) (h : Ready c w) where
    pub within : Within h.thread.target h.thread.head.script
    within = held_head (λ x. Within h.thread.target x.script) h.thread.head (scripts_at h.thread.target p).heads h.thread.heads (good.heads h.thread.target)

    place_is : (place_of s).target ≡ h.thread.target
    place_is = first_place p good h.thread.head.script h.thread.target s r t.warp within h.legal.0 h.legal.1

    -- the instance that evaluates is of the thread's target
    target_is : (instance_at t.of w.targets).of ≡ h.thread.target
    target_is =
        let f = found t.of h.thread.target w.targets h.thread.hosted in
        ap (λ o. (unwrap_or o no_instance).of) f.is_it ∙ hosts_one t.of f.x.of h.thread.target w.targets h.moving.sound.inhabited.differ f.hosts h.thread.hosted

    named : (code : List ℕ) → CallFits h.thread.target (procedure (instance_at t.of w.targets).of code p)
    named code = subst (λ k. CallFits h.thread.target (procedure k code p)) (sym target_is) (procedure_fits p good h.thread.target code)

    found_same : kind (op_of s) ≡ Calls → procedure (instance_at t.of w.targets).of (command_of s).code p ≡ called p s
    found_same e = ap (λ k. procedure k (command_of s).code p) (target_is ∙ sym place_is) ∙ sym (ap (λ k. called_by k p (place_of s).target (command_of s).code) e)

    pub acts : (x : Applied) → Applies p t.of t.serial (command_of s) w x → Acts p i t s r x.control x.context x.world
    acts x a =
        let v = x.world in
        let names = noted_names t.of t.serial x.control x.context w.devices v.devices a.fits.noted in
        record {
          runs = subst (λ ts. running i ts ≡ Some t) (sym a.threads) h.runs;
          other = record {
            sound = record {
              inhabited = subst (λ n. Inhabited p.records n v.targets) (sym a.next_instance) (faces_inhabited p.records w.next_instance w.targets v.targets a.fits.faces h.moving.sound.inhabited);
              asking = subst (λ n. Serials n (askers v.devices)) (sym a.next_thread) (names.asked w.next_thread h.given h.unasked h.moving.sound.asking);
              speaking = subst (λ n. Serials n (speakers v.devices)) (sym a.next_thread) (names.spoken w.next_thread h.given h.unspoken h.moving.sound.speaking);
              askers_live = names.askers_live v.targets (live_on w.targets v.targets t.of a.fits.faces (hosts_member t.of h.thread.target w.targets h.thread.hosted)) (askers_on w.targets v.targets w.devices a.fits.faces h.moving.sound.askers_live);
              speakers_live = names.speakers_live v.targets (live_on w.targets v.targets t.of a.fits.faces (hosts_member t.of h.thread.target w.targets h.thread.hosted)) (speakers_on w.targets v.targets w.devices a.fits.faces h.moving.sound.speakers_live);
            };
            crew = subst (λ n. Crew (Excused (λ y. y.serial) t.serial (IsAtWork p v)) n v.threads) (sym a.next_thread)
                (subst (Crew (Excused (λ y. y.serial) t.serial (IsAtWork p v)) w.next_thread) (sym a.threads)
                (crew_map (IsAtWork p w) (Excused (λ y. y.serial) t.serial (IsAtWork p v)) w.next_thread w.threads
                (λ y k. elim (same_or y.serial t.serial) [
                  | inl e ↦ inl e
                  | inr ne ↦ inr (stays p w.targets v.targets w.devices.clock v.devices.clock w.next_thread v.next_thread (askers w.devices) (speakers w.devices) (askers v.devices) (speakers v.devices) y
                      (a.fits.faces.on y.of) (let e = a.fits.clock in omega (arith, e)) (let e = a.next_thread in omega (arith, e))
                      (λ m. elim (names.asking y.serial m) [ inl b ↦ b | inr e ↦ absurd (ne (sym e)) ])
                      (λ m. elim (names.speaking y.serial m) [ inl b ↦ b | inr e ↦ absurd (ne (sym e)) ]) k)
                ]) h.moving.crew));
            few = subst (λ ts. all_depths ts ≤ most_levels) (sym a.threads) h.moving.few;
          };
          owner = record {
            target = h.thread.target;
            hosted = a.fits.faces.on t.of h.thread.target h.thread.hosted;
            head = h.thread.head;
            heads = h.thread.heads;
            hat = h.thread.hat;
          };
          legal = h.legal;
          fit = control_same v.devices.clock v.next_thread (kind (op_of s)) (procedure (instance_at t.of w.targets).of (command_of s).code p) (called p s) x.context x.control found_same
              (subst (λ m. ControlFits v.devices.clock m (kind (op_of s)) (procedure (instance_at t.of w.targets).of (command_of s).code p) x.context x.control) (sym a.next_thread)
              (subst (λ n. ControlFits n w.next_thread (kind (op_of s)) (procedure (instance_at t.of w.targets).of (command_of s).code p) x.context x.control) (sym a.fits.clock) a.fits.control));
          begins = call_begins h.thread.target (called p s) (called_fits p good h.thread.target s place_is);
          clone = a.fits.clone;
          unnamed = noted_unnamed t.of t.serial x.control x.context w.devices v.devices h.unasked h.unspoken a.fits.noted;
          deep = h.deep;
        }

    pub row_applies : (a : Arguments) → IfGoes (row p (command_of s) a t.of t.serial c w) (Applies p t.of t.serial (command_of s) w)
    row_applies a = row_fits p t.of t.serial (command_of s) w a c h.thread.target h.thread.hosted h.brings h.kept (call_named h.thread.target _ (named (command_of s).code))

    row_after : (late : Bool) (a : Arguments) → IfGoes (then_do (row p (command_of s) a t.of t.serial c w) (λ x. act p i late t s r x.control x.context x.world)) (After p i)
    row_after late a = goes_then (row p (command_of s) a t.of t.serial c w) _ (Applies p t.of t.serial (command_of s) w) (After p i) (row_applies a)
        (λ x g. act_after p i t s r late x.control x.context x.world (acts x g))

  pub with_words : (c : Context) (w : World Task) (d : Words) → Ready c w → Ready c (record w { words = d })
  with_words c w d h = record {
    runs = h.runs;
    moving = record { sound = record { inhabited = h.moving.sound.inhabited; asking = h.moving.sound.asking; speaking = h.moving.sound.speaking; askers_live = h.moving.sound.askers_live; speakers_live = h.moving.sound.speakers_live }; crew = h.moving.crew; few = h.moving.few };
    given = h.given;
    thread = h.thread;
    legal = h.legal;
    brings = h.brings;
    kept = h.kept;
    unasked = h.unasked;
    unspoken = h.unspoken;
    deep = h.deep;
  }

  pub execute_after : (late : Bool) (c : Context) (params : Params) (w : World Task) → Ready c w → IfGoes (execute p i late t s c params r w) (After p i)
  execute_after late c params w h = goes_any (evaluated (view_of p t params w) s w.words) _ (After p i) (λ d. row_after c (record w { words = d.words }) (with_words c w d.words h) late d.value)
