-- The threads of an accepted saved run are legal.
use Rattle.std.proofs.Common.{◌≡◌, inl, inr, ℕ, ◌+◌, ◌<◌, ◌≤◌, ◌==◌, ◌||◌, Bool, true, false, cond, not, nat_lt, List, [], ◌∷◌, map, filter, length, find, is_some, unwrap_or, Option, Some, None, option_map, option_and_then, refl, sym, ap, ◌∙◌, subst, arith}
use Rattle.std.specs.Prelude.{sum_by}
use Rattle.std.specs.List.{list_all, list_any}
use Rattle.std.specs.Option.{option_map_or}
use Rattle.std.proofs.lemmas.List.Sums.{sum_by-cons}
use Rattle.opcode_table.specs.Kinds.{kind}
use Rattle.machine_spec.specs.declared.instance.Instance.{Instance}
use Rattle.machine_spec.specs.declared.threads.Context.{Context}
use Rattle.machine_spec.specs.declared.threads.Context.TheVariants.{Repeat, Glide, Started, Asked, Spoken}
use Rattle.machine_spec.specs.declared.threads.Status.{Status}
use Rattle.machine_spec.specs.declared.threads.Status.TheVariants.{Running, YieldTick, PromiseWait, Done}
use Rattle.machine_spec.specs.Legal.{Legal, StatusFits, waits_for_promise, warp_on}
use Rattle.machine_spec.specs.Outcome.{most_levels}
use Rattle.machine_spec.specs.Pending as pending
use Rattle.machine_spec.specs.Pending.{Item, Do, Held, Returned, Branch, Again, Back}
use Rattle.machine_spec.specs.Program.{Program, Head, hat_block, scripts_at}
use Rattle.machine_spec.specs.Script.{Script, op_of}
use Rattle.machine_spec.specs.Stores.{live, instance_at, no_instance}
use Rattle.machine_spec.specs.Tasks.{Task, depth, levels}
use Rattle.machine_spec.specs.Threads.{is_done}
use Rattle.laws_of_threads.specs.Instances.{Hosts}
use Rattle.laws_of_threads.specs.Lists.{Each, Member}
use Rattle.laws_of_threads.specs.Positions.{FirstKeptWell}
use Rattle.laws_of_threads.specs.Promises.{Serials, askers, speakers, IsLive}
use Rattle.laws_of_threads.specs.Threads as threads
use Rattle.laws_of_threads.specs.Threads.{Holds, IsThread}
use Rattle.laws_of_threads.specs.Worlds.{IsSound, IsLegalThread, IsLegalWorld}
use Rattle.laws_of_threads.proofs.Numbers.{equal_true}
use Rattle.laws_of_turns.specs.Within.{IsItemWithin, IsContextWithin, IsTaskWithin}
use Rattle.saved_spec.specs.Worlds.{items_told, warp_told, task_told, world_told}
use Rattle.saved_spec.specs.Tasks.{is_marker}
use Rattle.project_spec.specs.Basis.{Basis, script_under}
use Rattle.saved_spec.specs.Kept.{SavedLevel, SavedThread, kept_of, level_of, levels_of, thread_told}
use Rattle.saved_spec.specs.Legal.{AllStand, StandsIn}
use Rattle.saved_spec.specs.Levels.{items_of, thread_is_well}
use Rattle.saved_spec.specs.Rules.{target_of, is_named, is_of_hat, serials_kept, differ}
use Rattle.saved_spec.specs.RunShapes.{Told}
use Rattle.saved_spec.specs.ThreadRules.{is_asked, is_spoken, items_fit, may_keep, marker_fits, promises_fit, stands_well, status_fits}
use Rattle.saved_spec.proofs.Standing.{reads}
use Rattle.laws_of_loading.proofs.Shaped.{IsShaped, IsLevelWithin, IsThreadWithin}
use Rattle.laws_of_loading.proofs.Accepting.{Rules}
use Rattle.laws_of_loading.proofs.Tests.{both, all_three, not_true, below, up_to, equal, all_have, each_mapped, numbers_differ, Among, of_each, where_among, passes}
use Rattle.laws_of_loading.proofs.Contexts.{StartedBelow, kept_well, legal}
use Rattle.laws_of_loading.proofs.Cast.{inhabited}

-- Instances that are live

hosts : (n : ℕ) (is : List Instance) → is_some (live n is) ≡ true → Hosts n (instance_at n is).of is
hosts n [] h = absurd (cc h)
hosts n (i ∷ is) h = by_test (i.number == n) refl (hosts n is) h
  where
    by_test : (c : Bool) → (i.number == n) ≡ c → (is_some (live n is) ≡ true → Hosts n (instance_at n is).of is) → is_some (cond c (Some i) (live n is)) ≡ true
        → Hosts n (unwrap_or (cond c (Some i) (live n is)) no_instance).of (i ∷ is)
    by_test true e rest h = inl (equal i.number n e, refl)
    by_test false e rest h = inr (rest h)

hosted_live : (n k : ℕ) (is : List Instance) → Hosts n k is → IsLive is n
hosted_live n k [] h = absurd h
hosted_live n k (i ∷ is) (inl e) = inl e.0
hosted_live n k (i ∷ is) (inr h) = inr (hosted_live n k is h)

is_live : (n : ℕ) (is : List Instance) → is_some (live n is) ≡ true → IsLive is n
is_live n is h = hosted_live n (instance_at n is).of is (hosts n is h)

-- The head of a script

record HeadOf (block : ℕ) (heads : List Head) (script : Script) : Type 0 where
  head : Head
  held : Holds head heads
  block_is : hat_block head ≡ block
  script_is : head.script ≡ script

head_of : (block : ℕ) (heads : List Head) (script : Script) → option_map (λ h. h.script) (find (λ h. hat_block h == block) heads) ≡ Some script → HeadOf block heads script
head_of block [] script h = absurd (cc h)
head_of block (x ∷ heads) script h = by_test (hat_block x == block) refl (head_of block heads script) h
  where
    by_test : (c : Bool) → (hat_block x == block) ≡ c → (option_map (λ h. h.script) (find (λ h. hat_block h == block) heads) ≡ Some script → HeadOf block heads script)
        → option_map (λ h. h.script) (cond c (Some x) (find (λ h. hat_block h == block) heads)) ≡ Some script → HeadOf block (x ∷ heads) script
    by_test true e rest h = record { head = x; held = inl refl; block_is = equal (hat_block x) block e; script_is = cc }
    by_test false e rest h = let m = rest h in record { head = m.head; held = inr m.held; block_is = m.block_is; script_is = m.script_is }

-- What a status says

same_promise : (items : List Item) → (is_asked items || is_spoken items) ≡ waits_for_promise items
same_promise [] = refl
same_promise (Held s Asked ∷ r) = refl
same_promise (Held s Spoken ∷ r) = refl
same_promise (Held s c ∷ r) = refl
same_promise (x ∷ r) = refl

same_asked : (items : List Item) → is_asked items ≡ threads.is_asked items
same_asked [] = refl
same_asked (Held s Asked ∷ r) = refl
same_asked (Held s c ∷ r) = refl
same_asked (x ∷ r) = refl

same_spoken : (items : List Item) → is_spoken items ≡ threads.is_spoken items
same_spoken [] = refl
same_spoken (Held s Spoken ∷ r) = refl
same_spoken (Held s c ∷ r) = refl
same_spoken (x ∷ r) = refl

status : (st : Status) (items : List Item) → status_fits st items ≡ true → StatusFits st items × (is_done st ≡ false)
status Running items h = (sym (same_promise items) ∙ not_true (is_asked items || is_spoken items) h, refl)
status YieldTick items h = (h, refl)
status PromiseWait items h = (sym (same_promise items) ∙ h, refl)
status Done items h = absurd (cc h)

-- a thread that is named waits
any_member : {A : Type 0} (number : A → ℕ) (n : ℕ) (xs : List A) → Member n (map number xs) → list_any (λ x. number x == n) xs ≡ true
any_member number n [] m = absurd m
any_member number n (x ∷ xs) (inl e) = or_left (number x == n) (list_any (λ x. number x == n) xs) (equal_true (number x) n e)
  where
    or_left : (a b : Bool) → a ≡ true → (a || b) ≡ true
    or_left true b h = refl
    or_left false b h = absurd (cc h)
any_member number n (x ∷ xs) (inr m) = or_right (number x == n) (list_any (λ x. number x == n) xs) (any_member number n xs m)
  where
    or_right : (a b : Bool) → b ≡ true → (a || b) ≡ true
    or_right true b h = refl
    or_right false b h = h

waits : (a b : Bool) → (not a || b) ≡ true → a ≡ true → b ≡ true
waits true b h e = h
waits false b h e = absurd (cc e)

-- What the levels say

-- each level keeps what its item has
abbrev LevelBelow : ℕ → SavedLevel → Type 0
LevelBelow next l = Each (λ n. n < next) (serials_kept l.kept)

started_below : (next : ℕ) (c : Context) → Each (λ n. n < next) (serials_kept (kept_of c)) → StartedBelow next c
started_below next (Started ns) all = all
started_below next c all = tt

first_kept : (p : Program) (clock next : ℕ) (items : List Item) → items_fit p clock items ≡ true → Each (LevelBelow next) (levels_of items) → FirstKeptWell next items
first_kept p clock next [] h all = tt
first_kept p clock next (Held s c ∷ r) h all = kept_well clock next (kind (op_of s)) c (both (may_keep clock (kind (op_of s)) c) (list_all (marker_fits p) r) h).0 (started_below next c all.0)
first_kept p clock next (x ∷ r) h all = tt

context_within : (c : Context) → IsLevelWithin (record { block = None; kept = kept_of c }) → IsContextWithin c
context_within (Repeat n) h = h
context_within (Glide g) h = h
context_within c h = tt

item_within : (x : Item) → IsLevelWithin (level_of x) → IsItemWithin x
item_within (Do s) h = tt
item_within (Held s c) h = context_within c h
item_within (Returned s params) h = h
item_within (Branch s w) h = tt
item_within (Again s c w) h = context_within c h
item_within (Back s params w) h = h

module _ (p : Program) (hat : Script) where
  rest_within : (r : List Item) → AllStand p hat r → Each IsLevelWithin (map level_of (filter is_marker r)) → Each IsItemWithin r
  rest_within [] all h = tt
  rest_within (Do s ∷ r) all h = (tt, rest_within r all.1 h)
  rest_within (Held s c ∷ r) all h = absurd all.0
  rest_within (Returned s params ∷ r) all h = absurd all.0
  rest_within (Branch s w ∷ r) all h = (tt, rest_within r all.1 h.1)
  rest_within (Again s c w ∷ r) all h = (context_within c h.0, rest_within r all.1 h.1)
  rest_within (Back s params w ∷ r) all h = (h.0, rest_within r all.1 h.1)

  items_within : (items : List Item) (w : Bool) → StandsIn p hat items w → Each IsLevelWithin (levels_of items) → Each IsItemWithin items
  items_within [] w st h = tt
  items_within (x ∷ r) w st h = (item_within x h.0, rest_within r st.1 h.1)

  markers_counted : (r : List Item) → pending.markers r ≡ length (map level_of (filter is_marker r))
  markers_counted [] = refl
  markers_counted (Do s ∷ r) = markers_counted r
  markers_counted (Held s c ∷ r) = markers_counted r
  markers_counted (Returned s params ∷ r) = markers_counted r
  markers_counted (Branch s w ∷ r) = let rest = markers_counted r in omega arith
  markers_counted (Again s c w ∷ r) = let rest = markers_counted r in omega arith
  markers_counted (Back s params w ∷ r) = let rest = markers_counted r in omega arith

  levels_counted : (items : List Item) (w : Bool) → StandsIn p hat items w → pending.markers items + 1 ≡ length (levels_of items)
  levels_counted [] w st = refl
  levels_counted (Do s ∷ r) w st = let rest = markers_counted r in omega arith
  levels_counted (Held s c ∷ r) w st = let rest = markers_counted r in omega arith
  levels_counted (Returned s params ∷ r) w st = let rest = markers_counted r in omega arith
  levels_counted (Branch s v ∷ r) w st = absurd st.0
  levels_counted (Again s c v ∷ r) w st = absurd st.0
  levels_counted (Back s params v ∷ r) w st = absurd st.0

-- A thread that is well

record Well (b : Basis) (t : Told) (x : SavedThread) : Type 0 where
  hat : Script
  under : script_under (target_of t x) x.hat b ≡ Some hat
  items : List Item
  read : items_of b.program hat x.levels ≡ Some items
  stands : stands_well b.program t.run.devices x.serial x.status items ≡ true

well_items : (b : Basis) (t : Told) (x : SavedThread) (hat : Script) (o : Option (List Item)) → script_under (target_of t x) x.hat b ≡ Some hat → items_of b.program hat x.levels ≡ o
    → option_map_or (stands_well b.program t.run.devices x.serial x.status) o false ≡ true → Well b t x
well_items b t x hat (Some items) under e h = record { hat = hat; under = under; items = items; read = e; stands = h }
well_items b t x hat None under e h = absurd (cc h)

well_hat : (b : Basis) (t : Told) (x : SavedThread) (o : Option Script) → script_under (target_of t x) x.hat b ≡ o
    → option_map_or (stands_well b.program t.run.devices x.serial x.status) (option_and_then (λ script. items_of b.program script x.levels) o) false ≡ true → Well b t x
well_hat b t x (Some hat) under h = well_items b t x hat (items_of b.program hat x.levels) under refl h
well_hat b t x None under h = absurd (cc h)

well : (b : Basis) (t : Told) (x : SavedThread) → thread_is_well b t x ≡ true → Well b t x
well b t x h = well_hat b t x (script_under (target_of t x) x.hat b) refl h

-- the thread that it tells
items_are : (b : Basis) (t : Told) (x : SavedThread) (w : Well b t x) → items_told b t x ≡ w.items
items_are b t x w = ap (λ o. unwrap_or (option_and_then (λ script. items_of b.program script x.levels) o) []) w.under ∙ ap (λ o. unwrap_or o []) w.read

warp_is : (b : Basis) (t : Told) (x : SavedThread) (w : Well b t x) → warp_told b t x ≡ warp_on b.program w.hat w.items
warp_is b t x w = ap (λ o. option_map_or (λ hat. warp_on b.program hat (items_told b t x)) o false) w.under ∙ ap (warp_on b.program w.hat) (items_are b t x w)

abbrev task_as : SavedThread → List Item → Bool → Task
task_as x items warp = record { serial = x.serial; of = x.of; hat = x.hat; status = x.status; warp = warp; items = items }

-- what holds of the thread with these items holds of the one that is told
as_told : (P : Task → Type 0) (b : Basis) (t : Told) (x : SavedThread) (w : Well b t x) → P (task_as x w.items (warp_on b.program w.hat w.items)) → P (task_told b t x)
as_told P b t x w h =
    subst (λ items. P (task_as x items (warp_told b t x))) (sym (items_are b t x w))
    (subst (λ warp. P (task_as x w.items warp)) (sym (warp_is b t x w)) h)

-- the text of the thread that it tells tells it again
pub told_is : (b : Basis) (t : Told) (x : SavedThread) → thread_is_well b t x ≡ true → thread_told (task_told b t x) ≡ x
told_is b t x h =
    let w = well b t x h in
    as_told (λ y. thread_told y ≡ x) b t x w (ap (λ ls. record x { levels = ls }) (reads b.program w.hat x.levels w.items w.read).levels)

sum_mapped : {A B : Type 0} (f : B → ℕ) (g : A → B) (h : A → ℕ) (xs : List A) → Each (λ x. f (g x) ≡ h x) xs → sum_by f (map g xs) ≡ sum_by h xs
sum_mapped f g h [] all = refl
sum_mapped f g h (x ∷ xs) all =
    let one = all.0 in
    let rest = sum_mapped f g h xs all.1 in
    let left = sum_by-cons f (g x) (map g xs) in
    let right = sum_by-cons h x xs in
    omega (arith, one, rest, left, right)

depth_by : (c : Bool) (n : ℕ) → c ≡ false → cond c 0 n ≡ n
depth_by true n e = absurd (cc e)
depth_by false n e = refl

module _ (b : Basis) (t : Told) (s : IsShaped t) (r : Rules b t) (all_well : Each (λ x. thread_is_well b t x ≡ true) t.run.threads) where
  -- Questions and timers

  named_live : (of thread : ℕ) → is_named t of thread ≡ true → IsLive t.run.targets of × (thread < t.run.next_thread)
  named_live of thread h =
      let p = both (is_some (live of t.run.targets)) (nat_lt thread t.run.next_thread) h in
      (is_live of t.run.targets p.0, below thread t.run.next_thread p.1)

  sound : IsSound b.program (world_told b t)
  sound =
      let asked = both (list_all (λ q. is_named t q.of q.thread) t.run.devices.questions) (differ (map (λ q. q.thread) t.run.devices.questions)) r.questions in
      let spoken = both (list_all (λ x. is_named t x.of x.thread) t.run.devices.timers) (differ (map (λ x. x.thread) t.run.devices.timers)) r.timers in
      record {
        inhabited = inhabited b t s r;
        asking = record {
          differ = numbers_differ (askers t.run.devices) asked.1;
          given = each_mapped (λ q. q.thread) (λ n. n < t.run.next_thread) t.run.devices.questions (all_have (λ q. is_named t q.of q.thread) (λ q. q.thread < t.run.next_thread) t.run.devices.questions
              (λ q e. (named_live q.of q.thread e).1) asked.0);
        };
        speaking = record {
          differ = numbers_differ (speakers t.run.devices) spoken.1;
          given = each_mapped (λ x. x.thread) (λ n. n < t.run.next_thread) t.run.devices.timers (all_have (λ x. is_named t x.of x.thread) (λ x. x.thread < t.run.next_thread) t.run.devices.timers
              (λ x e. (named_live x.of x.thread e).1) spoken.0);
        };
        askers_live = all_have (λ q. is_named t q.of q.thread) (λ q. IsLive t.run.targets q.of) t.run.devices.questions (λ q e. (named_live q.of q.thread e).0) asked.0;
        speakers_live = all_have (λ x. is_named t x.of x.thread) (λ x. IsLive t.run.targets x.of) t.run.devices.timers (λ x e. (named_live x.of x.thread e).0) spoken.0;
      }

  -- Threads

  hats : list_all (is_of_hat b t) t.run.threads ≡ true
  hats = (both (list_all (is_of_hat b t) t.run.threads) (differ (map (λ x. x.serial) t.run.threads)) r.hats).0

  named : (x : SavedThread) → Among x t.run.threads → is_named t x.of x.serial ≡ true
  named x m = (both (is_named t x.of x.serial) _ (passes (is_of_hat b t) t.run.threads x hats m)).0

  well_at : (x : SavedThread) → Among x t.run.threads → Well b t x
  well_at x m = well b t x (of_each (λ x. thread_is_well b t x ≡ true) t.run.threads x all_well m)

  started : (x : SavedThread) → Among x t.run.threads → Each (LevelBelow t.run.next_thread) x.levels
  started x m =
      all_have (λ l. list_all (λ n. nat_lt n t.run.next_thread) (serials_kept l.kept)) (LevelBelow t.run.next_thread) x.levels
      (λ l e. all_have (λ n. nat_lt n t.run.next_thread) (λ n. n < t.run.next_thread) (serials_kept l.kept) (λ n f. below n t.run.next_thread f) e)
      (passes (λ x. list_all (λ l. list_all (λ n. nat_lt n t.run.next_thread) (serials_kept l.kept)) x.levels) t.run.threads x r.started m)

  thread : (x : SavedThread) → Among x t.run.threads → IsLegalThread b.program (world_told b t) (task_told b t x)
  thread x m =
      let w = well_at x m in
      let reading = reads b.program w.hat x.levels w.items w.read in
      let found = head_of x.hat (scripts_at (target_of t x) b.program).heads w.hat w.under in
      let tests = all_three (items_fit b.program t.run.devices.clock w.items) (status_fits x.status w.items) (promises_fit t.run.devices x.serial w.items) w.stands in
      let promises = both (not (list_any (λ q. q.thread == x.serial) t.run.devices.questions) || is_asked w.items) (not (list_any (λ q. q.thread == x.serial) t.run.devices.timers) || is_spoken w.items) tests.2 in
      let fits = status x.status w.items tests.1 in
      as_told (IsLegalThread b.program (world_told b t)) b t x w (record {
        alive = fits.1;
        thread = record {
          target = target_of t x;
          hosted = hosts x.of t.run.targets (both (is_some (live x.of t.run.targets)) _ (named x m)).0;
          head = found.head;
          heads = found.held;
          hat = found.block_is;
          legal = subst (λ script. Legal b.program script t.run.devices.clock w.items (warp_on b.program w.hat w.items)) (sym found.script_is)
              (legal b.program w.hat t.run.devices.clock w.items (warp_on b.program w.hat w.items) reading.stands_in tests.0);
          status = fits.0;
          kept = first_kept b.program t.run.devices.clock t.run.next_thread w.items tests.0 (subst (Each (LevelBelow t.run.next_thread)) (sym reading.levels) (started x m));
          asked = λ n. sym (same_asked w.items) ∙ waits (list_any (λ q. q.thread == x.serial) t.run.devices.questions) (is_asked w.items) promises.0 (any_member (λ q. q.thread) x.serial t.run.devices.questions n);
          spoken = λ n. sym (same_spoken w.items) ∙ waits (list_any (λ q. q.thread == x.serial) t.run.devices.timers) (is_spoken w.items) promises.1 (any_member (λ q. q.thread) x.serial t.run.devices.timers n);
        };
      })

  deep : (x : SavedThread) → Among x t.run.threads → depth (task_told b t x) ≡ length x.levels
  deep x m =
      let w = well_at x m in
      let reading = reads b.program w.hat x.levels w.items w.read in
      let tests = all_three (items_fit b.program t.run.devices.clock w.items) (status_fits x.status w.items) (promises_fit t.run.devices x.serial w.items) w.stands in
      as_told (λ y. depth y ≡ length x.levels) b t x w
      (depth_by (is_done x.status) (pending.markers w.items + 1) (status x.status w.items tests.1).1
      ∙ levels_counted b.program w.hat w.items (warp_on b.program w.hat w.items) reading.stands_in ∙ ap length reading.levels)

  -- the serials of the threads that are told
  same_serials : (xs : List SavedThread) → map (λ y. y.serial) (map (task_told b t) xs) ≡ map (λ x. x.serial) xs
  same_serials [] = refl
  same_serials (x ∷ xs) = ap (λ ns. x.serial ∷ ns) (same_serials xs)

  serials : Serials t.run.next_thread (map (λ x. x.serial) t.run.threads)
  serials = record {
    differ = numbers_differ (map (λ x. x.serial) t.run.threads) (both (list_all (is_of_hat b t) t.run.threads) (differ (map (λ x. x.serial) t.run.threads)) r.hats).1;
    given = each_mapped (λ x. x.serial) (λ n. n < t.run.next_thread) t.run.threads (where_among (λ x. x.serial < t.run.next_thread) t.run.threads (λ x m. (named_live x.of x.serial (named x m)).1));
  }

  few : levels (world_told b t) ≤ most_levels
  few =
      let same = sum_mapped depth (task_told b t) (λ x. length x.levels) t.run.threads (where_among (λ x. depth (task_told b t x) ≡ length x.levels) t.run.threads deep) in
      let less = up_to (sum_by (λ x. length x.levels) t.run.threads) most_levels r.levels in
      omega (arith, same, less)

  pub threads_legal : IsLegalWorld b.program (world_told b t)
  threads_legal = record {
    sound = sound;
    threads = each_mapped (task_told b t) (IsLegalThread b.program (world_told b t)) t.run.threads (where_among (λ x. IsLegalThread b.program (world_told b t) (task_told b t x)) t.run.threads thread);
    serials = subst (Serials t.run.next_thread) (sym (same_serials t.run.threads)) serials;
    none_detached = refl;
    few = few;
  }

  within : (x : SavedThread) → Among x t.run.threads → IsTaskWithin (task_told b t x)
  within x m =
      let w = well_at x m in
      let reading = reads b.program w.hat x.levels w.items w.read in
      as_told IsTaskWithin b t x w
      (items_within b.program w.hat w.items (warp_on b.program w.hat w.items) reading.stands_in
      (subst (Each IsLevelWithin) (sym reading.levels) (of_each IsThreadWithin t.run.threads x s.threads m)))

  pub all_within : Each IsTaskWithin (map (task_told b t) t.run.threads)
  all_within = each_mapped (task_told b t) IsTaskWithin t.run.threads (where_among (λ x. IsTaskWithin (task_told b t x)) t.run.threads within)
