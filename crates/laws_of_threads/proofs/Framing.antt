-- A frame keeps the world legal.
use Rattle.std.proofs.Common.{◌≡◌, ℕ, ◌+◌, Bool, true, false, not, ◌&&◌, List, [], ◌∷◌, length, None, refl, sym, subst, arith}
use Rattle.std.specs.Prelude.{◌≤◌, IfSome, codes}
use Rattle.std.specs.List.{list_any}
use Rattle.opcode_table.specs.Kinds.{hat_kind}
use Rattle.script_words.specs.declared.stops.CounterKind.TheVariants as counter
use Rattle.machine_spec.specs.declared.instance.Instance.{Instance}
use Rattle.machine_spec.specs.declared.threads.Filter.{Filter}
use Rattle.machine_spec.specs.declared.threads.Status.TheVariants.{Running}
use Rattle.machine_spec.specs.declared.lines.Budget.{Budget}
use Rattle.machine_spec.specs.Outcome.{Goes, IfGoes}
use Rattle.machine_spec.specs.Words.{Words}
use Rattle.machine_spec.specs.Script.{op_of, inputs_of}
use Rattle.machine_spec.specs.Program.{Program, hat_block}
use Rattle.machine_spec.specs.Stores.{Variables, Devices, live}
use Rattle.machine_spec.specs.View.{number_at}
use Rattle.machine_spec.specs.Evaluate.{arguments_of, values}
use Rattle.machine_spec.specs.Starting.{Pair, pairs, is_alive_of, starts, Crowd}
use Rattle.machine_spec.specs.Tasks.{Task, tasks, Begun, begun, begin_pairs, begin}
use Rattle.machine_spec.specs.World.{World}
use Rattle.machine_spec.specs.Frame.{is_edge_hat, edges, edge_value, recorded, with_edge, edges_of, edge_noted, edge_fired, edge_passed, edge_view, edge_one, edges_passed, passes, at_clock, numbered, frame, timers_ended}
use Rattle.laws_of_threads.proofs.Depths.{levels_are}
use Rattle.laws_of_threads.specs.Lists.{Each, Member}
use Rattle.laws_of_threads.specs.Promises.{AskersLive, SpeakersLive, Serials, askers, speakers}
use Rattle.laws_of_threads.specs.Scripts.{IsProgram}
use Rattle.laws_of_threads.specs.Worlds.{IsLegalThread, IsLegalWorld}
use Rattle.laws_of_threads.proofs.Numbers.{each_map, each_filter}
use Rattle.laws_of_threads.proofs.Faces.{askers_on, speakers_on, Faces, faces_same, faces_then, changed_faces}
use Rattle.laws_of_threads.proofs.RowFits.{goes_then, goes_any, goes_weaker}
use Rattle.laws_of_threads.proofs.Calm.{number_goes}
use Rattle.laws_of_threads.proofs.Crews.{serials_le, with_some, serials}
use Rattle.laws_of_threads.proofs.Starts.{Joins}
use Rattle.laws_of_threads.proofs.Pairs.{PairFits, pairs_fit, starts_fit}
use Rattle.laws_of_threads.proofs.Beginning.{Began, pairs_began}
use Rattle.laws_of_threads.proofs.Staying.{thread_stays}
use Rattle.laws_of_threads.proofs.Disposing.{faces_inhabited}
use Rattle.laws_of_threads.proofs.Timers.{timers_legal}
use Rattle.laws_of_threads.proofs.Passes.{passes_legal}

-- a world in which what legality speaks of is the same, and the clock not earlier
pub legal_again : (p : Program) (w : World Task) (n : ℕ) (words : Words) (redraw : Bool) (variables : Variables) (d : Devices) → w.devices.clock ≤ d.clock → askers d ≡ askers w.devices → speakers d ≡ speakers w.devices → (AskersLive w.targets w.devices → AskersLive w.targets d) → (SpeakersLive w.targets w.devices → SpeakersLive w.targets d)
    → IsLegalWorld p w → IsLegalWorld p (record w { frame = n; words = words; redraw = redraw; variables = variables; devices = d })
legal_again p w n words redraw variables d le a s la ls h =
    let v : World Task = record w { frame = n; words = words; redraw = redraw; variables = variables; devices = d } in
    record {
      sound = record {
        inhabited = h.sound.inhabited;
        asking = subst (Serials w.next_thread) (sym a) h.sound.asking;
        speaking = subst (Serials w.next_thread) (sym s) h.sound.speaking;
        askers_live = la h.sound.askers_live;
        speakers_live = ls h.sound.speakers_live;
      };
      threads = each_map (IsLegalThread p w) (IsLegalThread p v) w.threads.list
          (λ t k. record {
            alive = k.alive;
            thread = thread_stays p w.targets w.targets w.devices.clock d.clock w.next_thread w.next_thread (askers w.devices) (speakers w.devices) (askers d) (speakers d) t
                (λ q g. g) le (omega arith) (λ m. subst (Member t.serial) a m) (λ m. subst (Member t.serial) s m) k.thread;
          }) h.threads;
      serials = h.serials;
      none_detached = h.none_detached;
      few = h.few;
    }

-- Hats are started between visits

some_task : Task
some_task = record { serial = 0; of = 0; hat = 0; status = Running; warp = false; items = [] }

pub record BegunLegal (p : Program) (w : World Task) (b : Begun) : Type 0 where
  pub legal : IsLegalWorld p b.world
  pub targets : b.world.targets ≡ w.targets

joined_legal : (p : Program) (w : World Task) (c : Crowd Task) → IsLegalWorld p w → Joins (IsLegalThread p w) None some_task w.next_thread c → BegunLegal p w (begun w c)
joined_legal p w c h j = record {
  legal = record {
    sound = record {
      inhabited = h.sound.inhabited;
      asking = serials_le w.next_thread c.next (askers w.devices) j.grown h.sound.asking;
      speaking = serials_le w.next_thread c.next (speakers w.devices) j.grown h.sound.speaking;
      askers_live = h.sound.askers_live;
      speakers_live = h.sound.speakers_live;
    };
    threads = each_map (IsLegalThread p w) (IsLegalThread p (begun w c).world) c.threads.list (λ t k. record { alive = k.alive; thread = thread_stays p w.targets w.targets w.devices.clock w.devices.clock w.next_thread c.next (askers w.devices) (speakers w.devices) (askers w.devices) (speakers w.devices) t (λ q g. g) (omega arith) j.grown (λ m. m) (λ m. m) k.thread }) j.stand.crew.listed;
    serials = subst (λ o. Serials c.next (with_some o (serials c.threads.list))) j.stand.runs j.stand.crew.serials;
    none_detached = j.stand.runs;
    few = (let e = levels_are c.threads in let f = j.stand.few in omega (arith, e, f));
  };
  targets = refl;
}

pub pairs_legal : (p : Program) (xs : List Pair) (w : World Task) → Each (PairFits p w.targets) xs → IsLegalWorld p w → IfGoes (begin_pairs None xs w) (BegunLegal p w)
pairs_legal p xs w fit h = goes_weaker (begin_pairs None xs w) (Began p None some_task (IsLegalThread p w) w) (BegunLegal p w)
    (λ b g. subst (BegunLegal p w) (sym g.is) (joined_legal p w g.c h g.joins))
    (pairs_began p None some_task (IsLegalThread p w) w xs fit (λ n o head k. record { alive = refl; thread = k }) h.sound.asking.given h.sound.speaking.given (record {
      crew = record {
        listed = h.threads;
        detached = subst (λ o. IfSome o (IsLegalThread p w)) (sym h.none_detached) tt;
        serials = subst (λ o. Serials w.next_thread (with_some o (serials w.threads.list))) (sym h.none_detached) h.serials;
      };
      runs = h.none_detached;
      few = (let e = levels_are w.threads in let f = h.few in omega (arith, e, f));
    }))

pub hats_legal : (p : Program) (f : Filter) (w : World Task) → IsLegalWorld p w → IfGoes (begin p None f w) (BegunLegal p w)
hats_legal p f w h = pairs_legal p (starts p f w.targets) w (starts_fit p w.targets f) h

module _ (p : Program) where
  -- Edge hats

  pub record SameFaces (w v : World Task) : Type 0 where
    pub legal : IsLegalWorld p v
    pub faces : Faces w.targets v.targets

  pub pair_on : (is js : List Instance) (x : Pair) → Faces is js → PairFits p is x → PairFits p js x
  pair_on is js x f h = record { target = h.target; hosted = f.on x.of h.target h.hosted; heads = h.heads }

  pub noted_legal : (x : Pair) (b : Bool) (w : World Task) → IsLegalWorld p w → SameFaces w (edge_noted x b w)
  noted_legal x b w h =
      let v = edge_noted x b w in
      let f : Faces w.targets v.targets = changed_faces (λ i. record i { edges = with_edge (hat_block x.head) b i.edges }) (λ i. record { number = refl; of = refl }) x.of w.targets in
      record {
        legal = record {
          sound = record { inhabited = faces_inhabited p.records w.next_instance w.targets v.targets f h.sound.inhabited; asking = h.sound.asking; speaking = h.sound.speaking; askers_live = askers_on w.targets v.targets w.devices f h.sound.askers_live; speakers_live = speakers_on w.targets v.targets w.devices f h.sound.speakers_live };
          threads = each_map (IsLegalThread p w) (IsLegalThread p v) w.threads.list
              (λ t k. record {
                alive = k.alive;
                thread = thread_stays p w.targets v.targets w.devices.clock w.devices.clock w.next_thread w.next_thread (askers w.devices) (speakers w.devices) (askers w.devices) (speakers w.devices) t (f.on t.of) (omega arith) (omega arith) (λ m. m) (λ m. m) k.thread;
              }) h.threads;
          serials = h.serials;
          none_detached = h.none_detached;
          few = h.few;
        };
        faces = f;
      }

  fired_legal : (b : Bool) (x : Pair) (w : World Task) → PairFits p w.targets x → IsLegalWorld p w → IfGoes (edge_fired b x w) (SameFaces w)
  fired_legal true x w f h = goes_then (begin_pairs None (x ∷ []) w) _ (BegunLegal p w) (SameFaces w) (pairs_legal p (x ∷ []) w (f, tt) h)
      (λ b g. record { legal = g.legal; faces = subst (Faces w.targets) (sym g.targets) (faces_same w.targets) })
  fired_legal false x w f h = record { legal = h; faces = faces_same w.targets }

  passed_legal : (x : Pair) (b : Bool) (w : World Task) → PairFits p w.targets x → IsLegalWorld p w → IfGoes (edge_passed x b w) (SameFaces w)
  passed_legal x b w f h =
      let n = noted_legal x b w h in
      let v = edge_noted x b w in
      goes_weaker (edge_fired (b && not (recorded (hat_block x.head) (edges_of (live x.of w.targets)))) x v) (SameFaces v) (SameFaces w)
      (λ u g. record { legal = g.legal; faces = faces_then w.targets v.targets u.targets n.faces g.faces })
      (fired_legal (b && not (recorded (hat_block x.head) (edges_of (live x.of w.targets)))) x v (pair_on w.targets v.targets x n.faces f) n.legal)

  pub one_legal : (x : Pair) (w : World Task) → PairFits p w.targets x → IsLegalWorld p w → IfGoes (edge_one p x w) (SameFaces w)
  one_legal x w f h = goes_any (values (edge_view p x.of w) (inputs_of x.head.hat) w.words) _ (SameFaces w)
      (λ d. goes_weaker (edge_passed x (edge_value x.head.hat (number_at (codes "VALUE") (arguments_of x.head.hat d.value)) w.devices) (record w { words = d.words })) (SameFaces (record w { words = d.words })) (SameFaces w)
      (λ u g. record { legal = g.legal; faces = g.faces })
      (passed_legal x (edge_value x.head.hat (number_at (codes "VALUE") (arguments_of x.head.hat d.value)) w.devices) (record w { words = d.words }) f
      (legal_again p w w.frame d.words w.redraw w.variables w.devices (omega arith) refl refl (λ k. k) (λ k. k) h)))

  edges_legal : (xs : List Pair) (w : World Task) → Each (PairFits p w.targets) xs → IsLegalWorld p w → IfGoes (edges_passed p xs w) (IsLegalWorld p)
  edges_legal [] w f h = h
  edges_legal (x ∷ xs) w f h = goes_then (edge_one p x w) _ (SameFaces w) (IsLegalWorld p) (one_legal x w f.0 h)
      (λ v g. edges_legal xs v (each_map (PairFits p w.targets) (PairFits p v.targets) xs (λ y k. pair_on w.targets v.targets y g.faces k) f.1) g.legal)

  pub edges_fit : (w : World Task) → Each (PairFits p w.targets) (edges p w)
  edges_fit w = each_filter (PairFits p w.targets) (λ x. not (list_any (is_alive_of tasks x) w.threads.list)) (pairs p (λ s. is_edge_hat (hat_kind (op_of s))) w.targets) (pairs_fit p w.targets (λ s. is_edge_hat (hat_kind (op_of s))))

  -- The frame

  pub frame_legal : IsProgram p → (b : Budget) (w : World Task) → w.devices.clock ≤ b.clock → IsLegalWorld p w → IfGoes (frame p b w) (IsLegalWorld p)
  frame_legal good b w le h =
      let w1 = at_clock b.clock w in
      goes_then (timers_ended (length w.devices.timers) w1) _ (IsLegalWorld p) (IsLegalWorld p)
      (timers_legal p (length w.devices.timers) w1 (legal_again p w w.frame w.words w.redraw w.variables w1.devices le refl refl (λ k. k) (λ k. k) h))
      (λ x g. goes_then (edges_passed p (edges p x) x) _ (IsLegalWorld p) (IsLegalWorld p) (edges_legal (edges p x) x (edges_fit x) g)
      (λ y k. goes_then (passes p b.warp b.passes true true (record y { redraw = false })) numbered (IsLegalWorld p) (IsLegalWorld p)
      (passes_legal p good b.warp b.passes true true (record y { redraw = false }) (legal_again p y y.frame y.words false y.variables y.devices (omega arith) refl refl (λ q. q) (λ q. q) k))
      (λ z m. number_goes counter.Frame z.frame (Goes (record z { frame = z.frame + 1 })) (IsLegalWorld p) (legal_again p z (z.frame + 1) z.words z.redraw z.variables z.devices (omega arith) refl refl (λ q. q) (λ q. q) m))))
