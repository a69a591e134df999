-- The devices, counters and words of an accepted saved run are legal.
use Rattle.std.proofs.Common.{◌≡◌, ℕ, ◌<◌, ◌≤◌, true, false, not, nat_lt, nat_le, unsigned_abs, List, [], ◌∷◌, length, bytes_eq, Option, Some, None, refl, sym, ap, ◌∙◌, subst, arith}
use Rattle.std.specs.Prelude.{filter_map}
use Rattle.std.specs.List.{list_all, list_any}
use Rattle.std.specs.Option.{option_map_or}
use Rattle.std.proofs.lemmas.Slice.Eq.{bytes_eq-Decides}
use Rattle.scratch_number.specs.declared.number.Num.{Num}
use Rattle.scratch_number.specs.declared.number.Num.TheVariants.{Fixed, Inf, NegInf, Nan}
use Rattle.machine_spec.specs.declared.devices.Key.{Key}
use Rattle.machine_spec.specs.Line.{key_name}
use Rattle.machine_spec.specs.Outcome.{last_number}
use Rattle.machine_spec.specs.ScriptText.{key_of_rest}
use Rattle.laws_of_threads.specs.GoodLines.{IsNamedKey}
use Rattle.laws_of_threads.specs.Lists.{Each}
use Rattle.laws_of_devices.specs.Devices.{IsDue, IsTimer, KeysDiffer, AreDevices, IsLegalDesk}
use Rattle.machine_spec.specs.Words.{words_after}
use Rattle.laws_of_words.specs.Words.{IsOfSeed}
use Rattle.saved_spec.specs.Worlds.{world_told}
use Rattle.project_spec.specs.Basis.{Basis, records_of}
use Rattle.saved_spec.specs.Rules.{is_key_name, texts_differ, is_due_time, is_next}
use Rattle.saved_spec.specs.RunShapes.{Told}
use Rattle.laws_of_loading.proofs.Shaped.{IsShaped}
use Rattle.laws_of_loading.proofs.Accepting.{Rules}
use Rattle.laws_of_loading.proofs.Tests.{both, all_four, neither, not_true, below, up_to, all_have, each_two}

-- Keys

-- the key of a name
record Named (name : List ℕ) : Type 0 where
  key : Key
  told : key_of_rest name ≡ Some key
  same : key_name key ≡ name

named_by : (name : List ℕ) (o : Option Key) → key_of_rest name ≡ o → option_map_or (λ k. bytes_eq (key_name k) name) o false ≡ true → Named name
named_by name (Some k) e h = record { key = k; told = e; same = (bytes_eq-Decides (key_name k) name).0 h }
named_by name None e h = absurd (cc h)

named : (name : List ℕ) → is_key_name name ≡ true → Named name
named name h = named_by name (key_of_rest name) refl h

named_key : (name : List ℕ) (n : Named name) → IsNamedKey n.key
named_key name n = ap key_of_rest n.same ∙ n.told

-- the keys of names
abbrev keys_of : List (List ℕ) → List Key
keys_of names = filter_map key_of_rest names

first_told : (name : List ℕ) (names : List (List ℕ)) (k : Key) → key_of_rest name ≡ Some k → keys_of (name ∷ names) ≡ k ∷ keys_of names
first_told name names k e = rw e refl

keys_named : (names : List (List ℕ)) → Each Named names → Each IsNamedKey (keys_of names)
keys_named [] all = tt
keys_named (name ∷ names) all = subst (Each IsNamedKey) (sym (first_told name names all.0.key all.0.told)) (named_key name all.0, keys_named names all.1)

others : (k : Key) (name : List ℕ) (names : List (List ℕ)) → key_name k ≡ name → Each Named names → list_any (bytes_eq name) names ≡ false
    → Each (λ other. bytes_eq (key_name k) (key_name other) ≡ false) (keys_of names)
others k name [] e all h = tt
others k name (n ∷ names) e all h =
    let p = neither (bytes_eq name n) (list_any (bytes_eq name) names) h in
    let here : bytes_eq (key_name k) (key_name all.0.key) ≡ false = ap (λ t. bytes_eq t (key_name all.0.key)) e ∙ ap (bytes_eq name) all.0.same ∙ p.0 in
    subst (Each (λ other. bytes_eq (key_name k) (key_name other) ≡ false)) (sym (first_told n names all.0.key all.0.told)) (here, others k name names e all.1 p.1)

keys_differ : (names : List (List ℕ)) → Each Named names → texts_differ names ≡ true → KeysDiffer (keys_of names)
keys_differ [] all h = tt
keys_differ (name ∷ names) all h =
    let p = both (not (list_any (bytes_eq name) names)) (texts_differ names) h in
    subst KeysDiffer (sym (first_told name names all.0.key all.0.told))
    (others all.0.key name names all.0.same all.1 (not_true (list_any (bytes_eq name) names) p.0), keys_differ names all.1 p.1)

-- Timers and counters

due : (n : Num) → is_due_time n ≡ true → IsDue n
due (Fixed z) h = h
due Inf h = tt
due NegInf h = absurd (cc h)
due Nan h = absurd (cc h)

counted : (n : ℕ) → is_next n ≡ true → n ≤ last_number
counted n h = let less = below n 4611686018427387904 h in omega arith

module _ (b : Basis) (t : Told) (s : IsShaped t) (r : Rules b t) where
  names : Each Named t.keys
  names = all_have is_key_name Named t.keys named (both (list_all is_key_name t.keys) (texts_differ t.keys) r.keys).0

  next : (is_next t.run.next_thread ≡ true) × (is_next t.run.next_instance ≡ true) × (is_next t.run.devices.usage ≡ true)
      × (nat_le (length (records_of b).targets) t.run.next_instance ≡ true)
  next =
      all_four (is_next t.run.next_thread) (is_next t.run.next_instance) (is_next t.run.devices.usage) (nat_le (length (records_of b).targets) t.run.next_instance) r.next

  devices : AreDevices t.run.devices
  devices =
      let mouse = both (nat_le (unsigned_abs t.run.devices.mouse_x) 240) _ r.mouse in
      record {
        clock = up_to t.run.devices.clock 9000000000000 r.clock;
        timer = up_to t.run.devices.timer t.run.devices.clock r.timer;
        mouse_x = up_to (unsigned_abs t.run.devices.mouse_x) 240 mouse.0;
        mouse_y = up_to (unsigned_abs t.run.devices.mouse_y) 180 mouse.1;
        keys = subst (Each IsNamedKey) (sym s.keys) (keys_named t.keys names);
        differ = subst KeysDiffer (sym s.keys) (keys_differ t.keys names (both (list_all is_key_name t.keys) (texts_differ t.keys) r.keys).1);
        timers = each_two (λ x. x.usage < t.run.devices.usage) (λ x. IsDue x.due) (IsTimer t.run.devices.usage) t.run.devices.timers (λ x u d. record { updated = u; due = d })
            (all_have (λ x. nat_lt x.usage t.run.devices.usage) (λ x. x.usage < t.run.devices.usage) t.run.devices.timers (λ x e. below x.usage t.run.devices.usage e) r.timers_updated)
            (all_have (λ x. is_due_time x.due) (λ x. IsDue x.due) t.run.devices.timers (λ x e. due x.due e) r.due);
        usage = counted t.run.devices.usage next.2;
      }

  pub desk : IsLegalDesk b.program (world_told b t)
  desk =
      record {
        devices = devices;
        frames = counted t.run.frame r.frames;
        threads = counted t.run.next_thread next.0;
        instances = counted t.run.next_instance next.1;
        targets = up_to (length (records_of b).targets) t.run.next_instance next.3;
      }

  pub words : IsOfSeed t.run.seed (words_after t.run.seed t.run.drawn)
  words = record { stream = refl; counted = counted t.run.drawn r.drawn }
