-- A promise that ends: its thread goes on behind the statement that waited, and is named no more.
use Rattle.std.proofs.Common.{◌≡◌, ℕ, zero, suc, ◌==◌, Bool, true, false, List, [], ◌∷◌, Option, Some, None, refl, sym, ap, ◌∙◌, subst, cond, arith}
use Rattle.std.specs.Prelude.{nat_lt, slice_get, slice_set, find, position, length, ◌≤◌, ◌+◌, if◌then◌else◌}
use Rattle.std.specs.List.{position_or_len}
use Rattle.std.proofs.lemmas.List.Folds.{find_at}
use Rattle.opcode_table.specs.Kinds.{kind}
use Rattle.machine_spec.specs.Lists.{set_some, changed_at_some, first_changed}
use Rattle.machine_spec.specs.Script.{Script, op_of}
use Rattle.machine_spec.specs.Program.{Program}
use Rattle.machine_spec.specs.Pending.{markers, Item, Do, Held, Returned, Branch, Again, Back, settle}
use Rattle.machine_spec.specs.Legal.{Legal, Markers, waits_for_promise}
use Rattle.machine_spec.specs.Tasks.{depth, Task, behind_first, resumed_task, resumed}
use Rattle.machine_spec.specs.World.{World}
use Rattle.machine_spec.specs.Threads.{is_done}
use Rattle.laws_of_threads.proofs.Depths.{depths, depths_set, levels_are, settle_markers}
use Rattle.laws_of_threads.specs.Lists.{Each, Member}
use Rattle.laws_of_threads.specs.Positions.{FirstKeptWell}
use Rattle.laws_of_threads.specs.Promises.{Serials, askers, speakers}
use Rattle.laws_of_threads.specs.Worlds.{IsLegalThread, IsLegalWorld}
use Rattle.laws_of_threads.proofs.Numbers.{equal, each_map}
use Rattle.laws_of_threads.proofs.Controls.{after_it, settle_legal, again_free}
use Rattle.laws_of_threads.proofs.Crews.{each_get, serials}

settle_free : (p : Program) (hat : Script) (clock next : ℕ) (r : List Item) (w : Bool) → Markers p hat r → waits_for_promise (settle r w).items ≡ false
settle_free p hat clock next [] w m = refl
settle_free p hat clock next (Do s ∷ r) w m = refl
settle_free p hat clock next (Held s c ∷ r) w m = absurd m
settle_free p hat clock next (Returned s ps ∷ r) w m = absurd m
settle_free p hat clock next (Branch s v ∷ r) w m = settle_free p hat clock next r v m.2
settle_free p hat clock next (Back s ps v ∷ r) w m = settle_free p hat clock next r v m.2
settle_free p hat clock next (Again s c v ∷ r) w m = again_free p hat clock next s (kind (op_of s)) c r m.0

record Continues (p : Program) (hat : Script) (clock next : ℕ) (items : List Item) (w : Bool) : Type 0 where
  legal : Legal p hat clock (settle (behind_first items) w).items (settle (behind_first items) w).warp
  free : waits_for_promise (settle (behind_first items) w).items ≡ false
  kept : FirstKeptWell next (settle (behind_first items) w).items

behind_legal : (p : Program) (hat : Script) (clock next : ℕ) (items : List Item) (w : Bool) → waits_for_promise items ≡ true → Legal p hat clock items w → Continues p hat clock next items w
behind_legal p hat clock next (Held s c ∷ r) w e l = record {
  legal = (settle_legal p hat clock next r w (after_it p hat clock next s r w l.1 l.2)).legal;
  free = settle_free p hat clock next r w l.2;
  kept = (settle_legal p hat clock next r w (after_it p hat clock next s r w l.1 l.2)).kept;
}
behind_legal p hat clock next [] w e l = absurd (cc e)
behind_legal p hat clock next (Do s ∷ r) w e l = absurd (cc e)
behind_legal p hat clock next (Returned s ps ∷ r) w e l = absurd (cc e)
behind_legal p hat clock next (Branch s v ∷ r) w e l = absurd (cc e)
behind_legal p hat clock next (Again s c v ∷ r) w e l = absurd (cc e)
behind_legal p hat clock next (Back s ps v ∷ r) w e l = absurd (cc e)

-- the thread of a promise that has ended
pub record IsReleased (w : World Task) (t : Task) : Type 0 where
  pub waits : waits_for_promise t.items ≡ true
  pub unasked : Member t.serial (askers w.devices) → ⊥
  pub unspoken : Member t.serial (speakers w.devices) → ⊥

resumed_thread : (p : Program) (w : World Task) (t : Task) → IsLegalThread p w t → IsReleased w t → IsLegalThread p w (resumed_task t)
resumed_thread p w t h u =
    let g = behind_legal p h.thread.head.script w.devices.clock w.next_thread t.items t.warp u.waits h.thread.legal in
    record {
      alive = refl;
      thread = record {
        target = h.thread.target;
        hosted = h.thread.hosted;
        head = h.thread.head;
        heads = h.thread.heads;
        hat = h.thread.hat;
        legal = g.legal;
        status = g.free;
        kept = g.kept;
        asked = λ m. absurd (u.unasked m);
        spoken = λ m. absurd (u.unspoken m);
      };
    }

-- The first of a list changed

find_by : (test : Task → Bool) (c : Bool) (x t : Task) (o : Option Task) → test x ≡ c → (o ≡ Some t → test t ≡ true) → cond c (Some x) o ≡ Some t → test t ≡ true
find_by test true x t o e f h = let same : x ≡ t = cc in subst (λ y. test y ≡ true) same e
find_by test false x t o e f h = f h

find_passes : (test : Task → Bool) (ts : List Task) (t : Task) → find test ts ≡ Some t → test t ≡ true
find_passes test [] t h = absurd (cc h)
find_passes test (x ∷ ts) t h = find_by test (test x) x t (find test ts) refl (find_passes test ts t) h

position_by : (c : Bool) (a j : ℕ) → cond c (Some a) None ≡ Some j → a ≡ j
position_by true a j e = cc
position_by false a j e = absurd (cc e)

position_find : (test : Task → Bool) (ts : List Task) (j : ℕ) → position test ts ≡ Some j → slice_get ts j ≡ find test ts
position_find test ts j e = sym (find_at test ts ∙ ap (slice_get ts) (position_by (nat_lt (position_or_len test ts) (length ts)) (position_or_len test ts) j e))

serials_at : (f : Task → Task) → ((t : Task) → (f t).serial ≡ t.serial) → (ts : List Task) (j : ℕ) (t : Task) → slice_get ts j ≡ Some t → serials (slice_set ts j (f t)) ≡ serials ts
serials_at f same [] j t e = refl
serials_at f same (x ∷ ts) zero t e = let s : x ≡ t = cc in ap (λ n. n ∷ serials ts) (same t ∙ ap (λ y. y.serial) (sym s))
serials_at f same (x ∷ ts) (suc j) t e = ap (λ l. x.serial ∷ l) (serials_at f same ts j t e)

serials_some : (f : Task → Task) → ((t : Task) → (f t).serial ≡ t.serial) → (ts : List Task) (j : ℕ) (o : Option Task) → slice_get ts j ≡ o → serials (set_some o f j ts) ≡ serials ts
serials_some f same ts j None e = refl
serials_some f same ts j (Some t) e = serials_at f same ts j t e

serials_place : (f : Task → Task) → ((t : Task) → (f t).serial ≡ t.serial) → (ts : List Task) (o : Option ℕ) → serials (changed_at_some f o ts) ≡ serials ts
serials_place f same ts None = refl
serials_place f same ts (Some j) = serials_some f same ts j (slice_get ts j) refl

-- each thread, and what is known of the one of this serial
pair_up : (P Q : Task → Type 0) (ts : List Task) → Each P ts → Each Q ts → Each (λ t. P t × Q t) ts
pair_up P Q [] h g = tt
pair_up P Q (t ∷ ts) h g = ((h.0, g.0), pair_up P Q ts h.1 g.1)

module _ (P Q : Task → Type 0) (f : Task → Task) where
  to_at : (ts : List Task) (j : ℕ) (t : Task) → slice_get ts j ≡ Some t → ((x : Task) → P x → Q x) → (P t → Q (f t)) → Each P ts → Each Q (slice_set ts j (f t))
  to_at [] j t e k g h = tt
  to_at (x ∷ ts) zero t e k g h = let same : x ≡ t = cc in (g (subst P same h.0), each_map P Q ts k h.1)
  to_at (x ∷ ts) (suc j) t e k g h = (k x h.0, to_at ts j t e k g h.1)

  to_some : (ts : List Task) (j : ℕ) (o : Option Task) → slice_get ts j ≡ o → ((x : Task) → P x → Q x) → ((t : Task) → o ≡ Some t → P t → Q (f t)) → Each P ts → Each Q (set_some o f j ts)
  to_some ts j None e k g h = each_map P Q ts k h
  to_some ts j (Some t) e k g h = to_at ts j t e k (g t refl) h

  to_place : (test : Task → Bool) (ts : List Task) (o : Option ℕ) → position test ts ≡ o → ((x : Task) → P x → Q x) → ((t : Task) → test t ≡ true → P t → Q (f t)) → Each P ts → Each Q (changed_at_some f o ts)
  to_place test ts None e k g h = each_map P Q ts k h
  to_place test ts (Some j) e k g h = to_some ts j (slice_get ts j) refl k (λ t a. g t (find_passes test ts t (sym (position_find test ts j e) ∙ a))) h

resumed_each : (p : Program) (n : ℕ) (w : World Task) (ts : List Task) → Each (IsLegalThread p w) ts → Each (λ t. t.serial ≡ n → IsReleased w t) ts → Each (IsLegalThread p w) (first_changed (λ t. t.serial == n) resumed_task ts)
resumed_each p n w ts h u =
    to_place (λ t. IsLegalThread p w t × (t.serial ≡ n → IsReleased w t)) (IsLegalThread p w) resumed_task (λ t. t.serial == n) ts (position (λ t. t.serial == n) ts) refl
    (λ t k. k.0) (λ t e k. resumed_thread p w t k.0 (k.1 (equal t.serial n e)))
    (pair_up (IsLegalThread p w) (λ t. t.serial ≡ n → IsReleased w t) ts h u)

-- its levels are no more than before

behind_markers : (items : List Item) (w : Bool) → waits_for_promise items ≡ true → markers (settle (behind_first items) w).items ≤ markers items
behind_markers (Held s c ∷ r) w e = settle_markers r w
behind_markers [] w e = absurd (cc e)
behind_markers (Do s ∷ r) w e = absurd (cc e)
behind_markers (Returned s ps ∷ r) w e = absurd (cc e)
behind_markers (Branch s v ∷ r) w e = absurd (cc e)
behind_markers (Again s c v ∷ r) w e = absurd (cc e)
behind_markers (Back s ps v ∷ r) w e = absurd (cc e)

resumed_depth : (t : Task) → is_done t.status ≡ false → waits_for_promise t.items ≡ true → depth (resumed_task t) ≤ depth t
resumed_depth t a e =
    let d : depth t ≡ markers t.items + 1 = ap (λ b. if b then 0 else markers t.items + 1) a in
    let m = behind_markers t.items t.warp e in
    omega (arith, d, m)

depths_some : (ts : List Task) (j : ℕ) (o : Option Task) → slice_get ts j ≡ o → ((t : Task) → o ≡ Some t → depth (resumed_task t) ≤ depth t) → depths (set_some o resumed_task j ts) ≤ depths ts
depths_some ts j None e g = omega arith
depths_some ts j (Some t) e g = let a = depths_set ts j t (resumed_task t) e in let b = g t refl in omega (arith, a, b)

depths_place : (test : Task → Bool) (P : Task → Type 0) (ts : List Task) (o : Option ℕ) → position test ts ≡ o → Each P ts → ((t : Task) → test t ≡ true → P t → depth (resumed_task t) ≤ depth t) → depths (changed_at_some resumed_task o ts) ≤ depths ts
depths_place test P ts None e h g = omega arith
depths_place test P ts (Some j) e h g = depths_some ts j (slice_get ts j) refl (λ t a. g t (find_passes test ts t (sym (position_find test ts j e) ∙ a)) (each_get P ts j t a h))

resumed_depths : (p : Program) (n : ℕ) (w : World Task) (ts : List Task) → Each (IsLegalThread p w) ts → Each (λ t. t.serial ≡ n → IsReleased w t) ts → depths (first_changed (λ t. t.serial == n) resumed_task ts) ≤ depths ts
resumed_depths p n w ts h u =
    depths_place (λ t. t.serial == n) (λ t. IsLegalThread p w t × (t.serial ≡ n → IsReleased w t)) ts (position (λ t. t.serial == n) ts) refl
    (pair_up (IsLegalThread p w) (λ t. t.serial ≡ n → IsReleased w t) ts h u) (λ t e k. resumed_depth t k.0.alive (k.1 (equal t.serial n e)).waits)

-- where the thread of this serial waits and is named no more, it goes on
pub resumed_legal : (p : Program) (n : ℕ) (w : World Task) → IsLegalWorld p w → Each (λ t. t.serial ≡ n → IsReleased w t) w.threads.list → IsLegalWorld p (resumed n w)
resumed_legal p n w h u = record {
  sound = record { inhabited = h.sound.inhabited; asking = h.sound.asking; speaking = h.sound.speaking; askers_live = h.sound.askers_live; speakers_live = h.sound.speakers_live };
  threads = each_map (λ t. IsLegalThread p w t) (IsLegalThread p (resumed n w)) (first_changed (λ t. t.serial == n) resumed_task w.threads.list) (λ t k. record { alive = k.alive; thread = k.thread })
      (resumed_each p n w w.threads.list h.threads u);
  serials = subst (Serials w.next_thread) (sym (serials_place resumed_task (λ t. refl) w.threads.list (position (λ t. t.serial == n) w.threads.list))) h.serials;
  none_detached = h.none_detached;
  few = (let e = levels_are (resumed n w).threads in let g = levels_are w.threads in let a = resumed_depths p n w w.threads.list h.threads u in let f = h.few in omega (arith, e, g, a, f));
}
