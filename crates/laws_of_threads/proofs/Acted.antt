-- Making a clone, stopping all, and each control keep all threads legal.
use Rattle.std.proofs.Common.{◌≡◌, ℕ, ◌+◌, Bool, true, false, List, [], ◌∷◌, ◌++◌, Some, inl, inr, refl, sym, subst, arith}
use Rattle.opcode_table.specs.Kinds.{kind}
use Rattle.script_words.specs.declared.stops.CounterKind.TheVariants as counter
use Rattle.machine_spec.specs.declared.threads.Context.{Context}
use Rattle.machine_spec.specs.declared.threads.Context.TheVariants.{Asked, Spoken}
use Rattle.machine_spec.specs.declared.threads.Control.{Control}
use Rattle.machine_spec.specs.declared.threads.Control.TheVariants.{Next, Branch, Yield, YieldTick, Promise, Call, StopThis, StopOthers, StopAll, DeleteClone, Start, Clone}
use Rattle.machine_spec.specs.declared.instance.Instance.{Instance}
use Rattle.machine_spec.specs.declared.threads.Report.TheVariants.{Ended}
use Rattle.machine_spec.specs.declared.threads.Filter.TheVariants.{CloneStart}
use Rattle.machine_spec.specs.Outcome.{Goes, IfGoes, then_do}
use Rattle.machine_spec.specs.Script.{branch_of, Statement, op_of, Script}
use Rattle.machine_spec.specs.Program.{Procedure, Program}
use Rattle.machine_spec.specs.Stores.{instance_at, Devices}
use Rattle.machine_spec.specs.Pending.{markers, dos, branch_marker, is_recursive, levels_looked_at, Back, Item, Do, settle, kept}
use Rattle.machine_spec.specs.Called.{called}
use Rattle.machine_spec.specs.Legal.{Legal}
use Rattle.machine_spec.specs.Places.{on_running, running}
use Rattle.machine_spec.specs.Stopping.{all_stopped, clone_added, copied, placed_behind, has_no_room}
use Rattle.machine_spec.specs.Tasks.{depth, at_position, Task, Begun, begun, begin}
use Rattle.machine_spec.specs.World.{World}
use Rattle.machine_spec.specs.Step.{entered_some, moved_with_room, position, moved, cloned, cloned_unless, act}
use Rattle.std.specs.Prelude.{◌≤◌, ◌+◌, ◌&&◌, ◌||◌, not, ◌++◌, Option, Some, None}
use Rattle.machine_spec.specs.Threads.{Params}
use Rattle.laws_of_threads.proofs.Depths.{all_depths, all_moved, held, settle_held, unwind_held, kept_markers, dos_markers, marker_markers, called_held}
use Rattle.laws_of_threads.specs.Lists.{Member, Excused}
use Rattle.laws_of_threads.specs.Instances.{Hosts}
use Rattle.laws_of_threads.specs.Promises.{IsLive, askers, speakers}
use Rattle.laws_of_threads.specs.Positions.{ControlFits, Begins, is_promise}
use Rattle.laws_of_threads.specs.Threads.{is_asked, is_spoken}
use Rattle.laws_of_threads.specs.Worlds.{IsSound}
use Rattle.laws_of_threads.proofs.Controls.{position_legal}
use Rattle.laws_of_threads.proofs.Numbers.{each_map}
use Rattle.laws_of_threads.proofs.Faces.{number_hosts, hosts_member, askers_on, speakers_on, Faces, hosts_left}
use Rattle.laws_of_threads.proofs.RowFits.{CloneFits, goes_then}
use Rattle.laws_of_threads.proofs.Calm.{number_goes}
use Rattle.laws_of_threads.proofs.Crews.{crew_map, excused_map, serials_le}
use Rattle.laws_of_threads.proofs.Beginning.{Began, hats_began}
use Rattle.laws_of_threads.proofs.Staying.{stays}
use Rattle.laws_of_threads.proofs.Moving.{IsAtWork, Moving, Other, Owner, After, Unnamed, moved_after}
use Rattle.laws_of_threads.proofs.Disposing.{stopped_inhabited, faces_inhabited, placed_faces, added_inhabited, added_it}
use Rattle.laws_of_threads.proofs.Acting.{Free, at_after, settle_after, room_after, start_after}
use Rattle.laws_of_threads.proofs.Stopped.{others_after, delete_after}

last_hosts : (n k : ℕ) (is : List Instance) (x : Instance) → Hosts n k is → Hosts n k (is ++ x ∷ [])
last_hosts n k is x h = hosts_left n k is (x ∷ []) h

live_last : (n : ℕ) (is : List Instance) (x : Instance) → IsLive is n → IsLive (is ++ x ∷ []) n
live_last n is x h = let g = number_hosts n is h in hosts_member n g.0 (is ++ x ∷ []) (last_hosts n g.0 is x g.1)

module _ (p : Program) (i : ℕ) (t : Task) (s : Statement) (r : List Item) where
  module _ (v : World Task) (original k : ℕ) (live : Hosts original k v.targets) (h : Free p i t s r v) where
    abbrev copy : Instance
    copy = copied v.next_instance (instance_at original v.targets)

    abbrev with_clone : World Task
    with_clone = clone_added original v

    -- the same thread among the instances with the clone
    stays_added : (x : Task) → IsAtWork p v x → IsAtWork p with_clone x
    stays_added x = stays p v.targets with_clone.targets v.devices.clock v.devices.clock v.next_thread v.next_thread (askers v.devices) (speakers v.devices) (askers v.devices) (speakers v.devices) x (λ q a. last_hosts x.of q v.targets copy a) (omega arith) (omega arith) (λ m. m) (λ m. m)

    abbrev P : Task → Type 0
    P = Excused (λ x. x.serial) t.serial (IsAtWork p with_clone)

    faces : Faces with_clone.targets (placed_behind v.next_instance original with_clone.targets)
    faces = placed_faces v.next_instance original (instance_at original v.targets).of k with_clone.targets
        (λ e. let b = h.other.sound.inhabited.given original k live in omega (arith, b, e))
        (added_it p.records v.next_instance v.targets (instance_at original v.targets) h.other.sound.inhabited)
        (last_hosts original k v.targets copy live)

    placed_free : (b : Begun) (g : Began p (Some i) t P with_clone b) → Free p i t s r (record (begun with_clone g.c).world { targets = placed_behind v.next_instance original with_clone.targets })
    placed_free b g =
        let u : World Task = record (begun with_clone g.c).world { targets = placed_behind v.next_instance original with_clone.targets } in
        record {
          runs = g.joins.stand.runs;
          other = record {
            sound = record {
              inhabited = faces_inhabited p.records (v.next_instance + 1) with_clone.targets u.targets faces (added_inhabited p.records v.next_instance v.targets (instance_at original v.targets) h.other.sound.inhabited);
              asking = serials_le v.next_thread g.c.next (askers v.devices) g.joins.grown h.other.sound.asking;
              speaking = serials_le v.next_thread g.c.next (speakers v.devices) g.joins.grown h.other.sound.speaking;
              askers_live = askers_on with_clone.targets u.targets v.devices faces (each_map (λ q. IsLive v.targets q.of) (λ q. IsLive with_clone.targets q.of) v.devices.questions (λ q k. live_last q.of v.targets copy k) h.other.sound.askers_live);
              speakers_live = speakers_on with_clone.targets u.targets v.devices faces (each_map (λ q. IsLive v.targets q.of) (λ q. IsLive with_clone.targets q.of) v.devices.timers (λ q k. live_last q.of v.targets copy k) h.other.sound.speakers_live);
            };
            crew = crew_map P (Excused (λ x. x.serial) t.serial (IsAtWork p u)) g.c.next g.c.threads
                (λ x. excused_map (IsAtWork p with_clone) (IsAtWork p u) t.serial x
                (stays p with_clone.targets u.targets v.devices.clock v.devices.clock v.next_thread g.c.next (askers v.devices) (speakers v.devices) (askers v.devices) (speakers v.devices) x (faces.on x.of) (omega arith) g.joins.grown (λ m. m) (λ m. m)))
                g.joins.stand.crew;
            few = g.joins.stand.few;
          };
          owner = record {
            target = h.owner.target;
            hosted = faces.on t.of h.owner.target (last_hosts t.of h.owner.target v.targets copy h.owner.hosted);
            head = h.owner.head;
            heads = h.owner.heads;
            hat = h.owner.hat;
          };
          legal = h.legal;
          unasked = h.unasked;
          unspoken = h.unspoken;
          deep = h.deep;
        }

    cloned_free : IfGoes (cloned p i original v) (Free p i t s r)
    cloned_free = number_goes counter.Instance v.next_instance _ (Free p i t s r)
        (goes_then (begin p (Some i) (CloneStart v.next_instance) with_clone) _ (Began p (Some i) t P with_clone) (Free p i t s r)
        (hats_began p (Some i) t P with_clone (CloneStart v.next_instance) (λ n o head k. inr (inr k)) h.other.sound.asking.given h.other.sound.speaking.given
        (record { crew = crew_map (Excused (λ x. x.serial) t.serial (IsAtWork p v)) P v.next_thread v.threads (λ x. excused_map (IsAtWork p v) (IsAtWork p with_clone) t.serial x (stays_added x)) h.other.crew; runs = h.runs; few = h.other.few }))
        (λ b g. subst (λ d. Free p i t s r (record d.world { targets = placed_behind v.next_instance original d.world.targets })) (sym g.is) (placed_free b g)))

    unless_free : (b : Bool) → IfGoes (cloned_unless b p i original v) (Free p i t s r)
    unless_free true = h
    unless_free false = cloned_free

    pub clone_after : IfGoes (then_do (cloned_unless (has_no_room p.records original v) p i original v) (λ u. Goes (moved i (settle r t.warp) u))) (After p i)
    clone_after = goes_then (cloned_unless (has_no_room p.records original v) p i original v) _ (Free p i t s r) (After p i) (unless_free (has_no_room p.records original v)) (λ u g. settle_after p i t s r u g)

  -- Each control

  pub stopped_moving : (v : World Task) → IsSound p v → Moving p (all_stopped p.records v)
  stopped_moving v h = record {
    sound = record {
      inhabited = stopped_inhabited p.records v.next_instance v.targets h.inhabited;
      asking = record { differ = tt; given = tt };
      speaking = record { differ = tt; given = tt };
      askers_live = tt;
      speakers_live = tt;
    };
    crew = record { listed = tt; detached = tt; serials = record { differ = tt; given = tt } };
    few = omega arith;
  }

  stop_after : (v : World Task) → Free p i t s r v → After p i (record { world = all_stopped p.records v; report = Ended })
  stop_after v h = record { moving = stopped_moving v h.other.sound; free = λ u e g. absurd (cc g) }

  -- what a row said and left, before its control acts
  pub record Acts (control : Control) (c : Context) (v : World Task) : Type 0 where
    pub runs : running i v.threads ≡ Some t
    pub other : Other p t.serial v
    pub owner : Owner p v t
    pub legal : Legal p owner.head.script v.devices.clock (Do s ∷ r) t.warp
    pub fit : ControlFits v.devices.clock v.next_thread (kind (op_of s)) (called p s) c control
    pub begins : Begins (called p s)
    pub clone : CloneFits p.records t.of control
    pub unnamed : Unnamed t.serial control c v.devices
    pub deep : depth t ≡ markers r + 1

  abbrev NotNamed : World Task → Type 0
  NotNamed v = (Member t.serial (askers v.devices) → ⊥) × (Member t.serial (speakers v.devices) → ⊥)

  acts_free : (control : Control) (c : Context) (v : World Task) → NotNamed v → Acts control c v → Free p i t s r v
  acts_free control c v n h = record { runs = h.runs; other = h.other; owner = h.owner; legal = h.legal; unasked = n.0; unspoken = n.1; deep = h.deep }

  own_after : (late : Bool) (control : Control) (c : Context) (v : World Task) → NotNamed v → Acts control c v → held (position p late t.warp s r control c) ≤ markers r + 1 → After p i (moved i (position p late t.warp s r control c) v)
  unfolding acts_free
  own_after late control c v n h le = at_after p i t s r (position p late t.warp s r control c) v (acts_free control c v n h)
      (position_legal p h.owner.head.script v.devices.clock v.next_thread late t.warp s r control c h.legal h.fit h.begins) le

  opening_after : (late : Bool) (control : Control) (c : Context) (v : World Task) → NotNamed v → Acts control c v → held (position p late t.warp s r control c) ≤ markers r + 2 → IfGoes (moved_with_room true i (position p late t.warp s r control c) v) (After p i)
  unfolding acts_free
  opening_after late control c v n h le = room_after p i t s r (position p late t.warp s r control c) v (acts_free control c v n h)
      (position_legal p h.owner.head.script v.devices.clock v.next_thread late t.warp s r control c h.legal h.fit h.begins) le

  kept_held : (c : Context) (w : Bool) → markers (kept s c ∷ r) + 1 ≤ markers r + 1
  kept_held c w = let e = kept_markers s c r in omega (arith, e)

  branch_held : (b : Script) (is_loop : Bool) (c : Context) (w : Bool) → held (settle (dos b ++ branch_marker is_loop s c w ∷ r) w) ≤ markers r + 2
  branch_held b is_loop c w = let a = settle_held (dos b ++ branch_marker is_loop s c w ∷ r) w in let d = dos_markers b (branch_marker is_loop s c w ∷ r) in let m = marker_markers is_loop s c w r in omega (arith, a, d, m)

  entered_held : (late : Bool) (o : Option Procedure) (w : Bool) (params : Params) → held (entered_some o late w s r params) ≤ markers r + 2
  entered_held late None w params = let a = settle_held r w in omega (arith, a)
  entered_held late (Some q) w params =
      let a = called_held (w && late || not q.warp && is_recursive q.code levels_looked_at r) (dos q.body ++ Back s params w ∷ r) (w || q.warp) in
      let d = dos_markers q.body (Back s params w ∷ r) in omega (arith, a, d)

  promise_asked : (c : Context) (d : Devices) → is_promise c ≡ true → Unnamed t.serial Promise c d → Member t.serial (askers d) → is_asked (kept s c ∷ r) ≡ true
  promise_asked Asked d e n m = refl
  promise_asked Spoken d e n m = absurd (n m)
  promise_asked c d e n m = absurd (cc e)

  promise_spoken : (c : Context) (d : Devices) → is_promise c ≡ true → Unnamed t.serial Promise c d → Member t.serial (speakers d) → is_spoken (kept s c ∷ r) ≡ true
  promise_spoken Asked d e n m = absurd (n m)
  promise_spoken Spoken d e n m = refl
  promise_spoken c d e n m = absurd (cc e)

  promise_after : (late : Bool) (c : Context) (v : World Task) → Acts Promise c v → After p i (moved i (position p late t.warp s r Promise c) v)
  promise_after late c v h = moved_after p i t (position p late t.warp s r Promise c) v h.runs h.other h.owner
      (position_legal p h.owner.head.script v.devices.clock v.next_thread late t.warp s r Promise c h.legal h.fit h.begins)
      (promise_asked c v.devices h.fit.1 h.unnamed) (promise_spoken c v.devices h.fit.1 h.unnamed)
      (let x = position p late t.warp s r Promise c in
      let m : all_depths (on_running (at_position x) i v.threads) + depth t ≡ all_depths v.threads + (markers (kept s c ∷ r) + 1) = all_moved i v.threads t (at_position x) h.runs in
      let k = kept_held c t.warp in let d = h.deep in let f = h.other.few in omega (arith, m, k, d, f))

  pub act_after : (late : Bool) (control : Control) (c : Context) (v : World Task) → Acts control c v → IfGoes (act p i late t s r control c v) (After p i)
  act_after late Next c v h = own_after late Next c v h.unnamed h (settle_held r t.warp)
  act_after late (Branch n is_loop) c v h = opening_after late (Branch n is_loop) c v h.unnamed h (branch_held (branch_of n s) is_loop c t.warp)
  act_after late Yield c v h = own_after late Yield c v h.unnamed h (kept_held c t.warp)
  act_after late YieldTick c v h = own_after late YieldTick c v h.unnamed h (kept_held c t.warp)
  act_after late Promise c v h = promise_after late c v h
  act_after late (Call definition params) c v h = opening_after late (Call definition params) c v h.unnamed h (entered_held late (called p s) t.warp params)
  act_after late StopThis c v h = own_after late StopThis c v h.unnamed h (unwind_held r)
  act_after late StopOthers c v h = others_after p i t s r v (acts_free StopOthers c v h.unnamed h)
  act_after late StopAll c v h = stop_after v (acts_free StopAll c v h.unnamed h)
  act_after late DeleteClone c v h = delete_after p i t s r v (acts_free DeleteClone c v h.unnamed h)
  act_after late (Start hats wait) c v h = start_after p i t s r hats wait h.fit v (acts_free (Start hats wait) c v h.unnamed h)
  act_after late (Clone original) c v h =
      let f = acts_free (Clone original) c v h.unnamed h in
      elim h.clone [
        | inl e ↦ clone_after v original h.owner.target (subst (λ n. Hosts n h.owner.target v.targets) (sym e) h.owner.hosted) f
        | inr below ↦ clone_after v original original (h.other.sound.inhabited.originals original below) f
      ]
