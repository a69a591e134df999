-- What a control does with all threads keeps them legal.
use Rattle.std.proofs.Common.{arith, ◌≡◌, ℕ, Bool, true, List, ◌∷◌, Some, inr, sym, subst}
use Rattle.opcode_table.specs.Kinds.{kind}
use Rattle.machine_spec.specs.declared.threads.Context.TheVariants.{Fresh}
use Rattle.machine_spec.specs.declared.threads.Control.TheVariants.{Start}
use Rattle.machine_spec.specs.declared.threads.Filter.{Filter}
use Rattle.machine_spec.specs.Outcome.{Goes, IfGoes, then_do}
use Rattle.machine_spec.specs.Script.{Statement, op_of}
use Rattle.machine_spec.specs.Program.{Program}
use Rattle.machine_spec.specs.Pending.{Item, markers, Do, Position, settle}
use Rattle.machine_spec.specs.Called.{called}
use Rattle.machine_spec.specs.Legal.{Legal}
use Rattle.machine_spec.specs.Places.{on_running, running}
use Rattle.machine_spec.specs.Tasks.{Task, depth, levels, at_position, begun, begin}
use Rattle.machine_spec.specs.World.{World}
use Rattle.machine_spec.specs.Step.{moved, moved_with_room, after_start}
use Rattle.std.specs.Prelude.{◌≤◌, ◌+◌}
use Rattle.laws_of_threads.proofs.Depths.{all_depths, all_moved, held, settle_held, started_held, levels_are, room_if}
use Rattle.laws_of_threads.specs.Lists.{Member, Excused}
use Rattle.laws_of_threads.specs.Promises.{askers, speakers}
use Rattle.laws_of_threads.specs.Positions.{Sits, ControlFits}
use Rattle.laws_of_threads.proofs.Controls.{after_it, settle_legal, started_legal}
use Rattle.laws_of_threads.proofs.RowFits.{goes_then}
use Rattle.laws_of_threads.proofs.Crews.{crew_map, excused_map, serials_le}
use Rattle.laws_of_threads.proofs.Beginning.{Began, hats_began}
use Rattle.laws_of_threads.proofs.Staying.{stays}
use Rattle.laws_of_threads.proofs.Moving.{IsAtWork, Other, Owner, After, moved_after}

module _ (p : Program) (i : ℕ) (t : Task) (s : Statement) (r : List Item) where
  -- the running thread has executed its first statement, and no promise names it
  pub record Free (u : World Task) : Type 0 where
    pub runs : running i u.threads ≡ Some t
    pub other : Other p t.serial u
    pub owner : Owner p u t
    pub legal : Legal p owner.head.script u.devices.clock (Do s ∷ r) t.warp
    pub unasked : Member t.serial (askers u.devices) → ⊥
    pub unspoken : Member t.serial (speakers u.devices) → ⊥
    pub deep : depth t ≡ markers r + 1

  pub at_after : (x : Position) (u : World Task) (h : Free u) → Sits p h.owner.head.script u.devices.clock u.next_thread x → held x ≤ markers r + 1 → After p i (moved i x u)
  at_after x u h sits le = moved_after p i t x u h.runs h.other h.owner sits (λ m. absurd (h.unasked m)) (λ m. absurd (h.unspoken m))
      (let m : all_depths (on_running (at_position x) i u.threads) + depth t ≡ all_depths u.threads + held x = all_moved i u.threads t (at_position x) h.runs in let d = h.deep in let f = h.other.few in omega (arith, m, d, f, le))

  pub settle_after : (u : World Task) → Free u → After p i (moved i (settle r t.warp) u)
  settle_after u h = at_after (settle r t.warp) u h
      (settle_legal p h.owner.head.script u.devices.clock u.next_thread r t.warp (after_it p h.owner.head.script u.devices.clock u.next_thread s r t.warp h.legal.0 h.legal.1)) (settle_held r t.warp)

  pub room_after : (x : Position) (u : World Task) (h : Free u) → Sits p h.owner.head.script u.devices.clock u.next_thread x → held x ≤ markers r + 2 → IfGoes (moved_with_room true i x u) (After p i)
  room_after x u h sits le = room_if (levels u) (moved i x u) (After p i)
      (λ room. moved_after p i t x u h.runs h.other h.owner sits (λ m. absurd (h.unasked m)) (λ m. absurd (h.unspoken m))
      (let m : all_depths (on_running (at_position x) i u.threads) + depth t ≡ all_depths u.threads + held x = all_moved i u.threads t (at_position x) h.runs in let d = h.deep in let e = levels_are u.threads in omega (arith, m, d, e, room, le)))

  -- Hats are started

  pub begun_free : (v : World Task) (h : Free v) (b : _) (g : Began p (Some i) t (Excused (λ x. x.serial) t.serial (IsAtWork p v)) v b) → Free (begun v g.c).world
  begun_free v h b g = record {
    runs = g.joins.stand.runs;
    other = record {
      sound = record {
        inhabited = h.other.sound.inhabited;
        asking = serials_le v.next_thread g.c.next (askers v.devices) g.joins.grown h.other.sound.asking;
        speaking = serials_le v.next_thread g.c.next (speakers v.devices) g.joins.grown h.other.sound.speaking;
        askers_live = h.other.sound.askers_live;
        speakers_live = h.other.sound.speakers_live;
      };
      crew = crew_map (Excused (λ x. x.serial) t.serial (IsAtWork p v)) (Excused (λ x. x.serial) t.serial (IsAtWork p (begun v g.c).world)) g.c.next g.c.threads
          (λ x. excused_map (IsAtWork p v) (IsAtWork p (begun v g.c).world) t.serial x
          (stays p v.targets v.targets v.devices.clock v.devices.clock v.next_thread g.c.next (askers v.devices) (speakers v.devices) (askers v.devices) (speakers v.devices) x (λ k a. a) (omega arith) g.joins.grown (λ m. m) (λ m. m)))
          g.joins.stand.crew;
      few = g.joins.stand.few;
    };
    owner = record { target = h.owner.target; hosted = h.owner.hosted; head = h.owner.head; heads = h.owner.heads; hat = h.owner.hat };
    legal = h.legal;
    unasked = h.unasked;
    unspoken = h.unspoken;
    deep = h.deep;
  }

  pub start_after : (hats : Filter) (wait : Bool) (fit : ControlFits 0 0 (kind (op_of s)) (called p s) Fresh (Start hats wait)) (v : World Task) → Free v
      → IfGoes (then_do (begin p (Some i) hats v) (λ b. Goes (moved i (after_start wait b.serials s t.warp r) b.world))) (After p i)
  start_after hats wait fit v h = goes_then (begin p (Some i) hats v) _ (Began p (Some i) t (Excused (λ x. x.serial) t.serial (IsAtWork p v)) v) (After p i)
      (hats_began p (Some i) t (Excused (λ x. x.serial) t.serial (IsAtWork p v)) v hats (λ n o head k. inr (inr k)) h.other.sound.asking.given h.other.sound.speaking.given (record { crew = h.other.crew; runs = h.runs; few = h.other.few }))
      (λ b g. let f = begun_free v h b g in subst (λ d. After p i (moved i (after_start wait d.serials s t.warp r) d.world)) (sym g.is)
      (at_after (after_start wait (begun v g.c).serials s t.warp r) (begun v g.c).world f (started_legal p f.owner.head.script v.devices.clock g.c.next wait (begun v g.c).serials s t.warp r f.legal fit g.joins.serials) (started_held wait (begun v g.c).serials s t.warp r)))
