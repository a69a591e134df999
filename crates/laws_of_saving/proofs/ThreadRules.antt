-- The rules on threads hold of a legal world.
use Rattle.std.proofs.Common.{◌≡◌, ℕ, ◌+◌, ◌<◌, ◌≤◌, ◌==◌, inl, inr, Bool, true, false, not, List, [], ◌∷◌, map, length, filter, cond, Option, Some, None, option_map, refl, sym, ap, ◌∙◌, subst, arith}
use Rattle.std.specs.Prelude.{find, is_some, nat_lt}
use Rattle.std.specs.List.{All, fold, list_any, list_all}
use Rattle.opcode_table.specs.declared.kinds.Kind.{Kind}
use Rattle.scratch_values.specs.declared.value.Value.{Value}
use Rattle.scratch_values.specs.declared.value.Value.TheVariants.{Number, Truth, Text}
use Rattle.machine_spec.specs.declared.threads.Context.{Context}
use Rattle.machine_spec.specs.declared.threads.Context.TheVariants.{Fresh, Repeat, Wait, Glide, Started, Asked, Spoken, Called}
use Rattle.machine_spec.specs.Legal.{KeepsAgain, Legal, Markers}
use Rattle.machine_spec.specs.Outcome.{most_levels}
use Rattle.machine_spec.specs.Pending.{Item, Do, Held, Returned, Branch, Again, Back, markers}
use Rattle.machine_spec.specs.Program.{Program, Head, hat_block, scripts_at}
use Rattle.machine_spec.specs.Script.{Script}
use Rattle.machine_spec.specs.declared.instance.Instance.{Instance}
use Rattle.machine_spec.specs.Stores.{instance_at, live}
use Rattle.machine_spec.specs.Tasks.{Task, depth, levels}
use Rattle.machine_spec.specs.Threads.{Params, is_done}
use Rattle.machine_spec.specs.World.{World}
use Rattle.laws_of_threads.specs.Lists.{Each}
use Rattle.laws_of_threads.specs.Positions.{FirstKeptWell, KeptWell}
use Rattle.laws_of_threads.specs.Threads.{Holds}
use Rattle.laws_of_threads.specs.Worlds as threads
use Rattle.laws_of_threads.proofs.Depths.{depths, levels_are}
use Rattle.laws_of_threads.proofs.Faces.{found}
use Rattle.laws_of_threads.proofs.Numbers.{equal_true, each_map}
use Rattle.saved_spec.specs.Ranges.{IsRun, IsTask, AreItems, IsMarker, IsParam, IsValue}
use Rattle.saved_spec.specs.Saved.{snapshot}
use Rattle.saved_spec.specs.Tasks.{is_marker}
use Rattle.project_spec.specs.Basis.{Basis, blocks_of}
use Rattle.saved_spec.specs.Kept.{SavedLevel, SavedThread, kept_of, level_of, levels_of, thread_told}
use Rattle.saved_spec.specs.Legal.{AllStand, StandsIn, told}
use Rattle.saved_spec.specs.Levels.{thread_is_well, bad_thread}
use Rattle.saved_spec.specs.Rules as rules
use Rattle.laws_of_worlds.specs.Runs.{IsLegalRun}
use Rattle.laws_of_saving.specs.Good.{IsGood}
use Rattle.laws_of_saving.proofs.Tests.{both_true, left_true, right_true, less_true, least_true, each_of, each_both, all_true, all_map_true, differ_true}
use Rattle.laws_of_saving.proofs.ThreadPlaces.{IsOf, placed}
use Rattle.laws_of_saving.proofs.ThreadLegal.{tells, target_is, script_is, stands, is_well}

-- Texts of parameters are short

short : (v : Value) → IsValue v → rules.is_short v ≡ true
short (Number n) h = refl
short (Truth t) h = refl
short (Text t) h = least_true _ _ h.1

params_short_all : (params : Params) → All IsParam params → list_all rules.is_short (map (λ q. q.1) params) ≡ true
params_short_all params h = all_map_true IsParam (λ q. q.1) rules.is_short params (λ q k. short q.1 k.1) (each_of IsParam params h)

abbrev KeepsShort : SavedLevel → Type 0
KeepsShort l = list_all rules.is_short (rules.values_kept l.kept) ≡ true

kept_short : (c : Context) → list_all rules.is_short (rules.values_kept (kept_of c)) ≡ true
kept_short Fresh = refl
kept_short (Repeat n) = refl
kept_short (Wait c) = refl
kept_short (Glide c) = refl
kept_short (Started ns) = refl
kept_short Asked = refl
kept_short Spoken = refl
kept_short Called = refl

item_short : (x : Item) → IsMarker x → KeepsShort (level_of x)
item_short (Do s) h = refl
item_short (Held s c) h = kept_short c
item_short (Returned s ps) h = params_short_all ps h.1
item_short (Branch s w) h = refl
item_short (Again s c w) h = kept_short c
item_short (Back s ps w) h = params_short_all ps h.1

first_short : (x : Item) (r : List Item) → AreItems (x ∷ r) → KeepsShort (level_of x)
first_short (Do s) r h = refl
first_short (Held s c) r h = kept_short c
first_short (Returned s ps) r h = item_short (Returned s ps) h.0
first_short (Branch s w) r h = refl
first_short (Again s c w) r h = kept_short c
first_short (Back s ps w) r h = item_short (Back s ps w) h.0

-- A fact of the level of each marker

marked_by : (test : SavedLevel → Bool) (c : Bool) (x : Item) (r : List Item) → test (level_of x) ≡ true → list_all test (map level_of r) ≡ true → list_all test (map level_of (cond c (x ∷ r) r)) ≡ true
marked_by test true x r h g = both_true (test (level_of x)) (list_all test (map level_of r)) h g
marked_by test false x r h g = g

marked : (P : Item → Type 0) (test : SavedLevel → Bool) (r : List Item) → ((x : Item) → P x → test (level_of x) ≡ true) → Each P r → list_all test (map level_of (filter is_marker r)) ≡ true
marked P test [] f h = refl
marked P test (x ∷ r) f h = marked_by test (is_marker x) x (filter is_marker r) (f x h.0) (marked P test r f h.1)

levels_short : (items : List Item) → AreItems items → list_all (λ l. list_all rules.is_short (rules.values_kept l.kept)) (levels_of items) ≡ true
levels_short [] h = refl
levels_short (x ∷ r) h = both_true _ _ (first_short x r h) (marked IsMarker (λ l. list_all rules.is_short (rules.values_kept l.kept)) r item_short (each_of IsMarker r h.1))

-- Who was started was there

module _ (next : ℕ) where
  abbrev WereThere : SavedLevel → Bool
  WereThere l = list_all (λ n. nat_lt n next) (rules.serials_kept l.kept)

  kept_there : (c : Context) → KeptWell next c → list_all (λ n. nat_lt n next) (rules.serials_kept (kept_of c)) ≡ true
  kept_there Fresh h = refl
  kept_there (Repeat n) h = refl
  kept_there (Wait c) h = refl
  kept_there (Glide c) h = refl
  kept_there (Started ns) h = all_true (λ n. n < next) (λ n. nat_lt n next) ns (λ n k. less_true n next k) h
  kept_there Asked h = refl
  kept_there Spoken h = refl
  kept_there Called h = refl

  -- a loop has started none
  again_there : (c : Context) (k : Kind) → KeepsAgain k c → KeptWell next c
  again_there Fresh k h = tt
  again_there (Repeat n) k h = tt
  again_there (Wait c) k h = absurd h
  again_there (Glide c) k h = absurd h
  again_there (Started ns) k h = absurd h
  again_there Asked k h = tt
  again_there Spoken k h = tt
  again_there Called k h = tt

  markers_there : (p : Program) (hat : Script) (r : List Item) → Markers p hat r → list_all WereThere (map level_of (filter is_marker r)) ≡ true
  markers_there p hat [] m = refl
  markers_there p hat (Do s ∷ r) m = markers_there p hat r m
  markers_there p hat (Held s c ∷ r) m = absurd m
  markers_there p hat (Returned s ps ∷ r) m = absurd m
  markers_there p hat (Branch s w ∷ r) m = markers_there p hat r m.2
  markers_there p hat (Again s c w ∷ r) m = both_true _ _ (kept_there c (again_there c _ m.0)) (markers_there p hat r m.2)
  markers_there p hat (Back s ps w ∷ r) m = markers_there p hat r m.2

  levels_there : (p : Program) (hat : Script) (clock : ℕ) (items : List Item) (w : Bool) → Legal p hat clock items w → FirstKeptWell next items → list_all WereThere (levels_of items) ≡ true
  levels_there p hat clock [] w h g = refl
  levels_there p hat clock (Do s ∷ r) w h g = markers_there p hat r h.1
  levels_there p hat clock (Held s c ∷ r) w h g = both_true _ _ (kept_there c g) (markers_there p hat r h.2)
  levels_there p hat clock (Returned s ps ∷ r) w h g = markers_there p hat r h.2
  levels_there p hat clock (Branch s v ∷ r) w h g = absurd h
  levels_there p hat clock (Again s c v ∷ r) w h g = absurd h
  levels_there p hat clock (Back s ps v ∷ r) w h g = absurd h

-- Blocks of the target

module _ (b : Basis) (good : IsGood b) (k : ℕ) (hat : Script) (script : IsOf b good k hat) where
  abbrev InTarget : SavedLevel → Bool
  InTarget = rules.is_in_target (blocks_of k b)

  markers_in : (r : List Item) → AllStand b.program hat r → list_all InTarget (map level_of (filter is_marker r)) ≡ true
  markers_in [] all = refl
  markers_in (Do s ∷ r) all = markers_in r all.1
  markers_in (Held s c ∷ r) all = absurd all.0
  markers_in (Returned s ps ∷ r) all = absurd all.0
  markers_in (Branch s w ∷ r) all = both_true _ _ (less_true _ _ (placed b good k hat script s r w all.1 all.0)) (markers_in r all.1)
  markers_in (Again s c w ∷ r) all = both_true _ _ (less_true _ _ (placed b good k hat script s r w all.1 all.0)) (markers_in r all.1)
  markers_in (Back s ps w ∷ r) all = both_true _ _ (less_true _ _ (placed b good k hat script s r w all.1 all.0)) (markers_in r all.1)

  levels_in : (items : List Item) (w : Bool) → StandsIn b.program hat items w → list_all InTarget (levels_of items) ≡ true
  levels_in [] w st = refl
  levels_in (Do s ∷ r) w st = both_true _ _ (less_true _ _ (placed b good k hat script s r w st.1 st.0)) (markers_in r st.1)
  levels_in (Held s c ∷ r) w st = both_true _ _ (less_true _ _ (placed b good k hat script s r w st.1 st.0)) (markers_in r st.1)
  levels_in (Returned s ps ∷ r) w st = both_true _ _ (less_true _ _ (placed b good k hat script s r w st.1 st.0)) (markers_in r st.1)
  levels_in (Branch s v ∷ r) w st = absurd st.0
  levels_in (Again s c v ∷ r) w st = absurd st.0
  levels_in (Back s ps v ∷ r) w st = absurd st.0

-- How many levels there are

marker_levels : (r : List Item) → length (map level_of (filter is_marker r)) ≡ markers r
marker_levels [] = refl
marker_levels (Do s ∷ r) = marker_levels r
marker_levels (Held s c ∷ r) = marker_levels r
marker_levels (Returned s ps ∷ r) = marker_levels r
marker_levels (Branch s w ∷ r) = let e = marker_levels r in omega (arith, e)
marker_levels (Again s c w ∷ r) = let e = marker_levels r in omega (arith, e)
marker_levels (Back s ps w ∷ r) = let e = marker_levels r in omega (arith, e)

levels_count : (p : Program) (hat : Script) (items : List Item) (w : Bool) → StandsIn p hat items w → length (levels_of items) ≡ markers items + 1
levels_count p hat [] w st = omega arith
levels_count p hat (Do s ∷ r) w st = let e = marker_levels r in omega (arith, e)
levels_count p hat (Held s c ∷ r) w st = let e = marker_levels r in omega (arith, e)
levels_count p hat (Returned s ps ∷ r) w st = let e = marker_levels r in omega (arith, e)
levels_count p hat (Branch s v ∷ r) w st = absurd st.0
levels_count p hat (Again s c v ∷ r) w st = absurd st.0
levels_count p hat (Back s ps v ∷ r) w st = absurd st.0

depth_by : (c : Bool) (n : ℕ) → c ≡ false → cond c 0 n ≡ n
depth_by true n e = absurd (cc e)
depth_by false n e = refl

fold_levels : (n : ℕ) (ts : List Task) → Each (λ t. length (levels_of t.items) ≡ depth t) ts → fold (λ a x. a + length x.levels) n (map thread_told ts) ≡ n + depths ts
fold_levels n [] h = omega arith
fold_levels n (t ∷ ts) h =
    let e = fold_levels (n + length (levels_of t.items)) ts h.1 in
    let d : length (levels_of t.items) ≡ depth t = h.0 in
    e ∙ (omega (arith, d))

-- A head among the heads

hat_by : (block : ℕ) (h : Head) (hs : List Head) → hat_block h ≡ block → Holds h hs → list_any (λ x. hat_block x == block) hs ≡ true
hat_by block h [] e m = absurd m
hat_by block h (x ∷ xs) e (inl same) = left_true _ _ (equal_true (hat_block x) block (ap hat_block same ∙ e))
hat_by block h (x ∷ xs) e (inr m) = right_true (hat_block x == block) _ (hat_by block h xs e m)

live_some : (o : Option Instance) (x : Instance) → o ≡ Some x → is_some o ≡ true
live_some o x e = subst (λ v. is_some v ≡ true) (sym e) refl

hat_is : (p : Program) (block k j : ℕ) (h : Head) → j ≡ k → hat_block h ≡ block → Holds h (scripts_at k p).heads → list_any (λ x. hat_block x == block) (scripts_at j p).heads ≡ true
hat_is p block k j h same e m = subst (λ i. list_any (λ x. hat_block x == block) (scripts_at i p).heads ≡ true) (sym same) (hat_by block h (scripts_at k p).heads e m)

-- Serials

each_number : (P : ℕ → Type 0) (ts : List Task) → Each P (map (λ t. t.serial) ts) → Each (λ t. P t.serial) ts
each_number P [] h = tt
each_number P (t ∷ ts) h = (h.0, each_number P ts h.1)

same_serials : (ts : List Task) → map (λ x. x.serial) (map thread_told ts) ≡ map (λ t. t.serial) ts
same_serials [] = refl
same_serials (t ∷ ts) = ap (λ ns. t.serial ∷ ns) (same_serials ts)

-- No thread is bad

well_by : (test : SavedThread → Bool) (c : Bool) (x : SavedThread) (xs : List SavedThread) → c ≡ true → find (λ y. not (test y)) xs ≡ None → cond (not c) (Some x) (find (λ y. not (test y)) xs) ≡ None
well_by test true x xs e h = h
well_by test false x xs e h = absurd (cc e)

none_bad : (test : SavedThread → Bool) (ts : List Task) → Each (λ t. test (thread_told t) ≡ true) ts → find (λ y. not (test y)) (map thread_told ts) ≡ None
none_bad test [] h = refl
none_bad test (t ∷ ts) h = well_by test (test (thread_told t)) (thread_told t) (map thread_told ts) h.0 (none_bad test ts h.1)

-- The rules

module _ (b : Basis) (seed : ℕ) (digest : List ℕ) (w : World Task) (good : IsGood b) (run_legal : IsLegalRun b.program seed w) (run : IsRun IsTask (snapshot digest seed w)) where
  pub params_short : rules.params_are_short (told (snapshot digest seed w)) ≡ true
  params_short = all_map_true IsTask thread_told _ w.threads.list (λ x k. levels_short x.items k.items) (each_of IsTask w.threads.list run.threads)

  pub threads_of_hats : rules.threads_are_of_hats b (told (snapshot digest seed w)) ≡ true
  threads_of_hats = both_true (list_all (rules.is_of_hat b (told (snapshot digest seed w))) (map thread_told w.threads.list)) _
      (all_map_true (λ x. threads.IsLegalThread b.program w x × (x.serial < w.next_thread)) thread_told (rules.is_of_hat b (told (snapshot digest seed w))) w.threads.list
      (λ x k.
      let f = found x.of k.0.thread.target w.targets k.0.thread.hosted in
      both_true (rules.is_named (told (snapshot digest seed w)) x.of x.serial) _
      (both_true (is_some (live x.of w.targets)) (nat_lt x.serial w.next_thread) (live_some (live x.of w.targets) f.x f.is_it) (less_true x.serial w.next_thread k.1))
      (hat_is b.program x.hat k.0.thread.target (instance_at x.of w.targets).of k.0.thread.head (target_is b seed digest w good run_legal x k.0) k.0.thread.hat k.0.thread.heads))
      (each_both (threads.IsLegalThread b.program w) (λ x. x.serial < w.next_thread) w.threads.list run_legal.threads.threads
      (each_number (λ n. n < w.next_thread) w.threads.list run_legal.threads.serials.given)))
      (subst (λ ns. rules.differ ns ≡ true) (sym (same_serials w.threads.list)) (differ_true (map (λ x. x.serial) w.threads.list) run_legal.threads.serials.differ))

  pub levels_of_blocks : rules.levels_are_of_blocks b (told (snapshot digest seed w)) ≡ true
  levels_of_blocks = all_map_true (threads.IsLegalThread b.program w) thread_told _ w.threads.list
      (λ x k. subst (λ j. list_all (rules.is_in_target (blocks_of j b)) (levels_of x.items) ≡ true) (sym (target_is b seed digest w good run_legal x k))
      (levels_in b good k.thread.target k.thread.head.script (script_is b seed digest w good run_legal x k) x.items x.warp (stands b seed digest w good run_legal x k)))
      run_legal.threads.threads

  pub started_there : rules.started_were_there (told (snapshot digest seed w)) ≡ true
  started_there = all_map_true (threads.IsLegalThread b.program w) thread_told _ w.threads.list
      (λ x k. levels_there w.next_thread b.program k.thread.head.script w.devices.clock x.items x.warp k.thread.legal k.thread.kept) run_legal.threads.threads

  pub levels_few : rules.levels_are_few (told (snapshot digest seed w)) ≡ true
  levels_few =
      let counted : Each (λ t. length (levels_of t.items) ≡ depth t) w.threads.list =
      each_map (threads.IsLegalThread b.program w) _ w.threads.list
      (λ x k. levels_count b.program k.thread.head.script x.items x.warp (stands b seed digest w good run_legal x k) ∙ sym (depth_by (is_done x.status) (markers x.items + 1) k.alive))
      run_legal.threads.threads in
      let told_levels = fold_levels 0 w.threads.list counted in
      let all = levels_are w.threads in
      let few : levels w ≤ most_levels = run_legal.threads.few in
      least_true _ _ (omega (arith, told_levels, all, few))

  pub no_bad_thread : bad_thread b (told (snapshot digest seed w)) ≡ None
  unfolding bad_thread
  no_bad_thread = ap (option_map (λ x. x.serial)) (none_bad (thread_is_well b (tells b seed digest w good run_legal)) w.threads.list
      (each_map (threads.IsLegalThread b.program w) _ w.threads.list (λ x k. is_well b seed digest w good run_legal x k) run_legal.threads.threads))
