-- Every line keeps the world legal.
use Rattle.std.proofs.Common.{sym, ap, subst, ◌≡◌, ℕ, List, [], ◌∷◌, map, Option, Some, None, inl, inr, refl, arith}
use Rattle.std.specs.Prelude.{codes, slice_get}
use Rattle.machine_spec.specs.declared.instance.Instance.{Instance}
use Rattle.machine_spec.specs.declared.devices.Key.{Key}
use Rattle.machine_spec.specs.declared.threads.Filter.{Filter}
use Rattle.machine_spec.specs.declared.threads.Filter.TheVariants.{Key as KeyHats, Flag, Clicked}
use Rattle.machine_spec.specs.declared.lines.Line.{Line}
use Rattle.machine_spec.specs.declared.lines.Line.TheVariants as line
use Rattle.machine_spec.specs.Outcome.{IfGoes}
use Rattle.machine_spec.specs.Program.{Program}
use Rattle.machine_spec.specs.Stores.{Devices}
use Rattle.machine_spec.specs.Stopping.{all_stopped}
use Rattle.machine_spec.specs.Tasks.{Task, begin}
use Rattle.machine_spec.specs.World.{World}
use Rattle.machine_spec.specs.Line.{started, key_name, with_key, without_key, with_keys, key_down, without_edges, reset, clicked, with_answer, after}
use Rattle.laws_of_threads.specs.Lists.{Differ}
use Rattle.laws_of_threads.specs.Instances.{Hosts}
use Rattle.laws_of_threads.specs.Promises.{AskersLive, SpeakersLive, askers, speakers}
use Rattle.laws_of_threads.specs.Scripts.{IsProgram}
use Rattle.laws_of_threads.specs.Worlds.{IsLegalWorld}
use Rattle.laws_of_threads.specs.Laws.{NotBack}
use Rattle.laws_of_threads.proofs.Faces.{Faces}
use Rattle.laws_of_threads.proofs.RowFits.{goes_then}
use Rattle.laws_of_threads.proofs.Disposing.{faces_inhabited, stopped_inhabited}
use Rattle.laws_of_threads.proofs.Timers.{answered_legal}
use Rattle.laws_of_threads.proofs.Framing.{legal_again, BegunLegal, hats_legal, frame_legal}

edges_on : (n k : ℕ) (is : List Instance) → Hosts n k is → Hosts n k (map without_edges is)
edges_on n k [] h = h
edges_on n k (i ∷ is) (inl h) = inl h
edges_on n k (i ∷ is) (inr h) = inr (edges_on n k is h)

edges_back : (n k : ℕ) (is : List Instance) → Hosts n k (map without_edges is) → Hosts n k is
edges_back n k [] h = h
edges_back n k (i ∷ is) (inl h) = inl h
edges_back n k (i ∷ is) (inr h) = inr (edges_back n k is h)

edges_numbers : (is : List Instance) → map (λ i. i.number) (map without_edges is) ≡ map (λ i. i.number) is
edges_numbers [] = refl
edges_numbers (i ∷ is) = ap (λ l. i.number ∷ l) (edges_numbers is)

edges_faces : (is : List Instance) → Faces is (map without_edges is)
edges_faces is = record { on = λ n k h. edges_on n k is h; back = λ n k h. edges_back n k is h; differ = λ d. subst Differ (sym (edges_numbers is)) d }

module _ (p : Program) where
  stopped_legal : (w : World Task) → IsLegalWorld p w → IsLegalWorld p (all_stopped p.records w)
  stopped_legal w h = record {
    sound = record {
      inhabited = stopped_inhabited p.records w.next_instance w.targets h.sound.inhabited;
      asking = record { differ = tt; given = tt };
      speaking = record { differ = tt; given = tt };
      askers_live = tt;
      speakers_live = tt;
    };
    threads = tt;
    serials = record { differ = tt; given = tt };
    none_detached = refl;
    few = omega arith;
  }

  reset_legal : (w : World Task) → IsLegalWorld p w → IsLegalWorld p (reset p.records w)
  reset_legal w h =
      let v = all_stopped p.records w in
      let g = stopped_legal w h in
      record {
        sound = record {
          inhabited = faces_inhabited p.records w.next_instance v.targets (map without_edges v.targets) (edges_faces v.targets) g.sound.inhabited;
          asking = record { differ = tt; given = tt };
          speaking = record { differ = tt; given = tt };
          askers_live = tt;
          speakers_live = tt;
        };
        threads = tt;
        serials = record { differ = tt; given = tt };
        none_detached = refl;
        few = omega arith;
      }

  started_legal : (f : Filter) (w : World Task) → IsLegalWorld p w → IfGoes (started p f w) (IsLegalWorld p)
  started_legal f w h = goes_then (begin p None f w) _ (BegunLegal p w) (IsLegalWorld p) (hats_legal p f w h) (λ b g. g.legal)

  -- devices of which legality does not speak
  devices_legal : (d : Devices) (w : World Task) → d.clock ≡ w.devices.clock → askers d ≡ askers w.devices → speakers d ≡ speakers w.devices → (AskersLive w.targets w.devices → AskersLive w.targets d) → (SpeakersLive w.targets w.devices → SpeakersLive w.targets d) → IsLegalWorld p w → IsLegalWorld p (record w { devices = d })
  devices_legal d w e a s la ls h = legal_again p w w.frame w.words w.redraw w.variables d (omega (arith, e)) a s la ls h

  keys_legal : (f : List Key → List Key) (w : World Task) → IsLegalWorld p w → IsLegalWorld p (with_keys f w)
  keys_legal f w h = devices_legal (record w.devices { keys = f w.devices.keys }) w refl refl refl (λ k. k) (λ k. k) h

  key_down_legal : (key : Key) (w : World Task) → IsLegalWorld p w → IfGoes (key_down p key w) (IsLegalWorld p)
  key_down_legal key w h = goes_then (started p (KeyHats (key_name key)) w) _ (IsLegalWorld p) (IsLegalWorld p) (started_legal (KeyHats (key_name key)) w h)
      (λ x g. goes_then (started p (KeyHats (codes "any")) x) _ (IsLegalWorld p) (IsLegalWorld p) (started_legal (KeyHats (codes "any")) x g)
      (λ y k. keys_legal (with_key key) y k))

  clicked_legal : (o : Option Instance) (w : World Task) → IsLegalWorld p w → IfGoes (clicked p o w) (IsLegalWorld p)
  clicked_legal None w h = h
  clicked_legal (Some i) w h = started_legal (Clicked i.number) w h

  pub line_legal : IsProgram p → (l : Line) (w : World Task) → NotBack l w → IsLegalWorld p w → IfGoes (after p l w) (IsLegalWorld p)
  line_legal good line.Nothing w b h = h
  line_legal good line.Flag w b h = started_legal Flag (reset p.records w) (reset_legal w h)
  line_legal good line.Stop w b h = stopped_legal w h
  line_legal good (line.KeyDown key) w b h = key_down_legal key w h
  line_legal good (line.KeyUp key) w b h = keys_legal (without_key key) w h
  line_legal good (line.Mouse x y) w b h = devices_legal (record w.devices { mouse_x = x; mouse_y = y }) w refl refl refl (λ k. k) (λ k. k) h
  line_legal good (line.Button down) w b h = devices_legal (record w.devices { button = down }) w refl refl refl (λ k. k) (λ k. k) h
  line_legal good (line.Click place) w b h = clicked_legal (slice_get w.targets place) w h
  line_legal good (line.Answer text) w b h = answered_legal p w.devices.questions (with_answer text w) refl (devices_legal (record w.devices { answer = text }) w refl refl refl (λ k. k) (λ k. k) h)
  line_legal good (line.Turbo on) w b h = devices_legal (record w.devices { turbo = on }) w refl refl refl (λ k. k) (λ k. k) h
  line_legal good (line.Frame budget) w b h = frame_legal p good budget w b h
