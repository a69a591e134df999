-- What the shape of a saved run gives: its parts are as they were read.
use Rattle.std.proofs.Common.{◌≡◌, ℕ, ◌≤◌, nat_le, ℤ, unsigned_abs, Bool, true, false, List, [], ◌∷◌, map, length, reverse, Some, None, option_and_then, Ok, if◌then◌else◌, codes, refl, sym, ◌∙◌, subst, arith}
use Rattle.std.specs.Prelude.{filter_map, nat_lt}
use Rattle.std.proofs.lemmas.Bool.Decides.{nat_tests}
use Rattle.serde_json.specs.Data.{null, boolean, string}
use Rattle.serde_json.specs.Find.{as_str, as_number, as_i64}
use Rattle.scratch_number.specs.Limit.{limit}
use Rattle.scratch_number.specs.Number.{IsWithin}
use Rattle.scratch_number.specs.declared.number.Num.{Num}
use Rattle.scratch_number.specs.declared.number.Num.TheVariants.{Fixed}
use Rattle.scratch_values.specs.Named.{item_named}
use Rattle.scratch_values.specs.declared.value.Value.{Value}
use Rattle.scratch_values.specs.declared.value.Value.TheVariants.{Number, Truth, Text}
use Rattle.machine_spec.specs.ScriptText.{key_of_rest}
use Rattle.machine_spec.specs.Threads.{most_turns}
use Rattle.machine_spec.specs.declared.threads.Count.{Count}
use Rattle.machine_spec.specs.declared.threads.Count.TheVariants.{Whole, Infinite}
use Rattle.json_shapes.specs.Shapes.{found}
use Rattle.laws_of_threads.specs.Lists.{Each, Rise, RiseAbove}
use Rattle.laws_of_turns.specs.Within.{IsValueWithin, IsCountWithin, IsInstanceWithin, IsStoreWithin, AreParamsWithin}
use Rattle.saved_spec.specs.Kept.{Kept, Nothing, Loop, Repeat, Wait, Glide, Started, Asked, Spoken, Call, SavedLevel, SavedThread}
use Rattle.saved_spec.specs.Shapes.{whole, truth, text, num, num_words, millionths, value, each, items, member, part, row, sized, table, if_some}
use Rattle.saved_spec.specs.InstanceShapes as instances
use Rattle.saved_spec.specs.InstanceShapes.{Standing, rises, rises_above}
use Rattle.saved_spec.specs.ThreadShapes as threads
use Rattle.saved_spec.specs.RunShapes as runs
use Rattle.saved_spec.specs.RunShapes.{Told, stores_in_order}
use Rattle.std.proofs.lemmas.List.{reverse-append}
use Rattle.laws_of_threads.proofs.Numbers.{each_append}
use Rattle.laws_of_loading.proofs.Readings.{Gives, goes_on, made, found_some, same_some, and_then, one_of, named_gives, word_gives, part_gives, member_gives, each_gives, each_from_length, row_length}

-- Numbers and values

millionths_by : (c : Bool) (z : ℤ) (n : Num) → (c ≡ true → unsigned_abs z ≤ limit) → (if c then Some (Fixed z) else None) ≡ Some n → IsWithin n
millionths_by true z n e h = subst IsWithin (same_some (Fixed z) n h) (e refl)
millionths_by false z n e h = absurd (cc h)

num_gives : Gives IsWithin num
num_gives at d n h =
    one_of (option_and_then (λ t. item_named t num_words) (as_str d)) (option_and_then millionths (option_and_then as_i64 (as_number d))) (IsWithin n) (found_some at _ n h)
    (λ e. and_then (λ t. item_named t num_words) (as_str d) (IsWithin n) e (λ t _ f. named_gives IsWithin t num_words n (tt, (tt, (tt, tt))) f))
    (λ e. and_then millionths (option_and_then as_i64 (as_number d)) (IsWithin n) e (λ z _ f. millionths_by (nat_le (unsigned_abs z) limit) z n (λ g. grind (arith, nat_tests, g)) f))

value_gives : Gives IsValueWithin value
value_gives at (string t) v h = made IsValueWithin (Text t) v h tt
value_gives at (boolean b) v h = made IsValueWithin (Truth b) v h tt
value_gives at d v h =
    goes_on (row 1 at d) _ (IsValueWithin v) h (λ ds _ h. goes_on (part 0 num at ds) _ (IsValueWithin v) h (λ n e h.
    made IsValueWithin (Number n) v h (part_gives IsWithin 0 num num_gives at ds n e)))

-- Threads

turns_by : (c : Bool) (z : ℤ) (n : Count) → (c ≡ true → unsigned_abs z ≤ most_turns) → (if c then Some (Whole z) else None) ≡ Some n → IsCountWithin n
turns_by true z n e h = subst IsCountWithin (same_some (Whole z) n h) (e refl)
turns_by false z n e h = absurd (cc h)

abbrev endless : List (List ℕ × Count)
endless = (codes "inf", Infinite) ∷ []

count_gives : Gives IsCountWithin threads.count
count_gives at d n h =
    one_of (option_and_then (λ t. item_named t endless) (as_str d)) (option_and_then threads.turns (option_and_then as_i64 (as_number d))) (IsCountWithin n) (found_some at _ n h)
    (λ e. and_then (λ t. item_named t endless) (as_str d) (IsCountWithin n) e (λ t _ f. named_gives IsCountWithin t endless n (tt, tt) f))
    (λ e. and_then threads.turns (option_and_then as_i64 (as_number d)) (IsCountWithin n) e (λ z _ f. turns_by (nat_le (unsigned_abs z) most_turns) z n (λ g. grind (arith, nat_tests, g)) f))

abbrev IsParamWithin : List ℕ × Value → Type 0
IsParamWithin q = IsValueWithin q.1

param_gives : Gives IsParamWithin threads.param
param_gives at d q h =
    goes_on (row 2 at d) _ (IsParamWithin q) h (λ ds _ h. goes_on (part 0 text at ds) _ (IsParamWithin q) h (λ name _ h. goes_on (part 1 value at ds) _ (IsParamWithin q) h (λ v e h.
    made IsParamWithin (name, v) q h (part_gives IsValueWithin 1 value value_gives at ds v e))))

-- what a block keeps is within the limits
abbrev pub IsKeptWithin : Kept → Type 0
IsKeptWithin (Repeat turns) = IsCountWithin turns
IsKeptWithin (Glide g) = IsWithin g.x1 × IsWithin g.y1
IsKeptWithin (Call params) = AreParamsWithin params
IsKeptWithin k = Unit {0}

bare_gives : (k : Kept) → IsKeptWithin k → Gives IsKeptWithin (threads.bare k)
bare_gives k w at ds x h = goes_on (sized 1 at ds) _ (IsKeptWithin x) h (λ _ _ h. made IsKeptWithin k x h w)

repeat_gives : Gives IsKeptWithin threads.repeat
repeat_gives at ds x h =
    goes_on (sized 2 at ds) _ (IsKeptWithin x) h (λ _ _ h. goes_on (part 1 threads.count at ds) _ (IsKeptWithin x) h (λ n e h.
    made IsKeptWithin (Repeat n) x h (part_gives IsCountWithin 1 threads.count count_gives at ds n e)))

wait_gives : Gives IsKeptWithin threads.wait
wait_gives at ds x h =
    goes_on (sized 3 at ds) _ (IsKeptWithin x) h (λ _ _ h. goes_on (part 1 whole at ds) _ (IsKeptWithin x) h (λ start _ h. goes_on (part 2 num at ds) _ (IsKeptWithin x) h (λ duration _ h.
    made IsKeptWithin (Wait (record { start = start; duration = duration })) x h tt)))

glide_gives : Gives IsKeptWithin threads.glide
glide_gives at ds x h =
    goes_on (sized 7 at ds) _ (IsKeptWithin x) h (λ _ _ h. goes_on (part 1 whole at ds) _ (IsKeptWithin x) h (λ start _ h. goes_on (part 2 num at ds) _ (IsKeptWithin x) h (λ duration _ h.
    goes_on (part 3 num at ds) _ (IsKeptWithin x) h (λ x0 _ h. goes_on (part 4 num at ds) _ (IsKeptWithin x) h (λ y0 _ h.
    goes_on (part 5 num at ds) _ (IsKeptWithin x) h (λ x1 e h. goes_on (part 6 num at ds) _ (IsKeptWithin x) h (λ y1 f h.
    made IsKeptWithin (Glide (record { start = start; duration = duration; x0 = x0; y0 = y0; x1 = x1; y1 = y1 })) x h
    (part_gives IsWithin 5 num num_gives at ds x1 e, part_gives IsWithin 6 num num_gives at ds y1 f))))))))

started_gives : Gives IsKeptWithin threads.started
started_gives at ds x h =
    goes_on (sized 2 at ds) _ (IsKeptWithin x) h (λ _ _ h. goes_on (part 1 (each whole) at ds) _ (IsKeptWithin x) h (λ serials _ h.
    made IsKeptWithin (Started serials) x h tt))

call_gives : Gives IsKeptWithin threads.call
call_gives at ds x h =
    goes_on (sized 2 at ds) _ (IsKeptWithin x) h (λ _ _ h. goes_on (part 1 (each threads.param) at ds) _ (IsKeptWithin x) h (λ params e h.
    made IsKeptWithin (Call params) x h (part_gives (Each IsParamWithin) 1 (each threads.param) (each_gives IsParamWithin threads.param param_gives) at ds params e)))

worded_gives : Gives IsKeptWithin threads.worded
worded_gives at [] x h = absurd (cc h)
worded_gives at (d ∷ ds) x h =
    goes_on _ _ (IsKeptWithin x) h (λ read e h.
    word_gives (λ r. Gives IsKeptWithin r) threads.kept_readers
    (bare_gives Loop tt, (repeat_gives, (wait_gives, (glide_gives, (started_gives, (bare_gives Asked tt, (bare_gives Spoken tt, (call_gives, tt)))))))) (codes "0" ∷ at) d read e at (d ∷ ds) x h)

kept_gives : Gives IsKeptWithin threads.kept
kept_gives at null x h = made IsKeptWithin Nothing x h tt
kept_gives at d x h = goes_on (items at d) _ (IsKeptWithin x) h (λ ds _ h. worded_gives at ds x h)

abbrev pub IsLevelWithin : SavedLevel → Type 0
IsLevelWithin l = IsKeptWithin l.kept

level_gives : Gives IsLevelWithin threads.level
level_gives at d l h =
    goes_on (row 2 at d) _ (IsLevelWithin l) h (λ ds _ h. goes_on (part 0 (if_some whole) at ds) _ (IsLevelWithin l) h (λ block _ h. goes_on (part 1 threads.kept at ds) _ (IsLevelWithin l) h (λ k e h.
    made IsLevelWithin (record { block = block; kept = k }) l h (part_gives IsKeptWithin 1 threads.kept kept_gives at ds k e))))

each_reverse : {A : Type 0} (P : A → Type 0) (xs : List A) → Each P xs → Each P (reverse xs)
each_reverse P [] all = tt
each_reverse P (x ∷ xs) all = subst (Each P) (sym (reverse-append (x ∷ []) xs)) (each_append P (reverse xs) (x ∷ []) (each_reverse P xs all.1) (all.0, tt))

abbrev pub IsThreadWithin : SavedThread → Type 0
IsThreadWithin x = Each IsLevelWithin x.levels

thread_gives : Gives IsThreadWithin threads.thread
thread_gives at d x h =
    goes_on (table at d) _ (IsThreadWithin x) h (λ _ _ h. goes_on (member (codes "hat") whole at d) _ (IsThreadWithin x) h (λ hat _ h.
    goes_on (member (codes "levels") (each threads.level) at d) _ (IsThreadWithin x) h (λ levels e h.
    goes_on (member (codes "number") whole at d) _ (IsThreadWithin x) h (λ serial _ h. goes_on (member (codes "of") whole at d) _ (IsThreadWithin x) h (λ of _ h. goes_on (member (codes "status") threads.status at d) _ (IsThreadWithin x) h (λ status _ h.
    made IsThreadWithin (record { serial = serial; of = of; hat = hat; status = status; levels = reverse levels }) x h
    (each_reverse IsLevelWithin levels (member_gives (Each IsLevelWithin) (codes "levels") (each threads.level) (each_gives IsLevelWithin threads.level level_gives) at d levels e))))))))

-- Instances

rise_above : (n : ℕ) (ms : List ℕ) → rises_above n ms ≡ true → RiseAbove n ms
rise_above n [] h = tt
rise_above n (m ∷ ms) h =
    let here : nat_lt n m ≡ true = grind (arith, h) in
    let rest : rises_above m ms ≡ true = grind (arith, h) in
    (grind (arith, nat_tests, here), rise_above m ms rest)

rise : (ns : List ℕ) → rises ns ≡ true → Rise ns
rise [] h = tt
rise (n ∷ ns) h = rise_above n ns h

abbrev EdgesRise : List (ℕ × Bool) → Type 0
EdgesRise es = Rise (map (λ e. e.0) es)

edges_by : (c : Bool) (at : List (List ℕ)) (es fs : List (ℕ × Bool)) → (c ≡ true → EdgesRise es) → found at (if c then Some es else None) ≡ Ok fs → EdgesRise fs
edges_by true at es fs e h = made EdgesRise es fs h (e refl)
edges_by false at es fs e h = absurd (cc h)

edges_gives : Gives EdgesRise instances.edges
edges_gives at d es h =
    goes_on (each instances.edge at d) _ (EdgesRise es) h (λ fs _ h. edges_by (rises (map (λ e. e.0) fs)) at fs es (rise (map (λ e. e.0) fs)) h)

abbrev AreSeven : List Num → Type 0
AreSeven ns = length ns ≡ 7

effects_gives : Gives AreSeven instances.effects
effects_gives at d ns h =
    goes_on (row 7 at d) _ (AreSeven ns) h (λ ds e h. each_from_length num 0 at ds ns h ∙ row_length 7 at d ds e)

-- an instance and its store as they were read
pub record IsShapedStanding (s : Standing) : Type 0 where
  pub same : s.store.of ≡ s.instance.number
  pub within : IsInstanceWithin s.instance
  pub seven : length s.instance.effects ≡ 7
  pub rising : Rise (map (λ e. e.0) s.instance.edges)
  pub store : IsStoreWithin s.store

instance_gives : Gives IsShapedStanding instances.instance
instance_gives at d s h =
    goes_on (table at d) _ (IsShapedStanding s) h (λ _ _ h. goes_on (member (codes "bubble") instances.bubble at d) _ (IsShapedStanding s) h (λ b _ h. goes_on (member (codes "costume") whole at d) _ (IsShapedStanding s) h (λ costume _ h.
    goes_on (member (codes "direction") num at d) _ (IsShapedStanding s) h (λ direction e0 h. goes_on (member (codes "size") num at d) _ (IsShapedStanding s) h (λ size e1 h.
    goes_on (member (codes "x") num at d) _ (IsShapedStanding s) h (λ x e2 h. goes_on (member (codes "y") num at d) _ (IsShapedStanding s) h (λ y e3 h.
    goes_on (member (codes "edges") instances.edges at d) _ (IsShapedStanding s) h (λ es e4 h.
    goes_on (member (codes "effects") instances.effects at d) _ (IsShapedStanding s) h (λ numbers e5 h.
    goes_on (member (codes "lists") (each (each value)) at d) _ (IsShapedStanding s) h (λ lists e6 h. goes_on (member (codes "number") whole at d) _ (IsShapedStanding s) h (λ number _ h.
    goes_on (member (codes "of") whole at d) _ (IsShapedStanding s) h (λ of _ h. goes_on (member (codes "style") instances.style at d) _ (IsShapedStanding s) h (λ style _ h.
    goes_on (member (codes "variables") (each value) at d) _ (IsShapedStanding s) h (λ values e7 h. goes_on (member (codes "visible") truth at d) _ (IsShapedStanding s) h (λ visible _ h.
    made IsShapedStanding _ s h (record {
      same = refl;
      within = record {
        x = member_gives IsWithin (codes "x") num num_gives at d x e2;
        y = member_gives IsWithin (codes "y") num num_gives at d y e3;
        direction = member_gives IsWithin (codes "direction") num num_gives at d direction e0;
        size = member_gives IsWithin (codes "size") num num_gives at d size e1;
      };
      seven = member_gives AreSeven (codes "effects") instances.effects effects_gives at d numbers e5;
      rising = member_gives EdgesRise (codes "edges") instances.edges edges_gives at d es e4;
      store = record {
        values = member_gives (Each IsValueWithin) (codes "variables") (each value) (each_gives IsValueWithin value value_gives) at d values e7;
        lists = member_gives (Each (Each IsValueWithin)) (codes "lists") (each (each value)) (each_gives (Each IsValueWithin) (each value) (each_gives IsValueWithin value value_gives)) at d lists e6;
      };
    }))))))))))))))))

-- Runs

-- a run as it was read: the stores are those of the instances, the keys those of the names
pub record IsShaped (t : Told) : Type 0 where
  pub standings : List Standing
  pub shaped : Each IsShapedStanding standings
  pub targets : t.run.targets ≡ map (λ s. s.instance) standings
  pub stores : t.run.variables.stores ≡ stores_in_order (map (λ s. s.store) standings)
  pub keys : t.run.devices.keys ≡ filter_map key_of_rest t.keys
  pub threads : Each IsThreadWithin t.run.threads

pub run_gives : Gives IsShaped runs.run
run_gives at d t h =
    goes_on (table at d) _ (IsShaped t) h (λ _ _ h. goes_on (member (codes "answer") text at d) _ (IsShaped t) h (λ answer _ h. goes_on (member (codes "clock") whole at d) _ (IsShaped t) h (λ clock _ h.
    goes_on (member (codes "drawn") whole at d) _ (IsShaped t) h (λ drawn _ h. goes_on (member (codes "frame") whole at d) _ (IsShaped t) h (λ frame _ h. goes_on (member (codes "seed") whole at d) _ (IsShaped t) h (λ seed _ h.
    goes_on (member (codes "timer") whole at d) _ (IsShaped t) h (λ reset _ h. goes_on (member (codes "instances") (each instances.instance) at d) _ (IsShaped t) h (λ standings e0 h.
    goes_on (member (codes "keys") (each text) at d) _ (IsShaped t) h (λ keys _ h. goes_on (member (codes "made") (each runs.made) at d) _ (IsShaped t) h (λ monitors_made _ h.
    goes_on (member (codes "monitors") (each truth) at d) _ (IsShaped t) h (λ file_monitors _ h. goes_on (member (codes "mouse") runs.mouse at d) _ (IsShaped t) h (λ m _ h.
    goes_on (member (codes "next") runs.next at d) _ (IsShaped t) h (λ n _ h. goes_on (member (codes "project") runs.digest at d) _ (IsShaped t) h (λ project _ h.
    goes_on (member (codes "questions") (each runs.question) at d) _ (IsShaped t) h (λ questions _ h. goes_on (member (codes "threads") (each threads.thread) at d) _ (IsShaped t) h (λ told e1 h.
    goes_on (member (codes "timers") (each runs.timer) at d) _ (IsShaped t) h (λ timers _ h. goes_on (member (codes "turbo") truth at d) _ (IsShaped t) h (λ turbo _ h. goes_on (member (codes "version") whole at d) _ (IsShaped t) h (λ _ _ h.
    made IsShaped _ t h (record {
      standings = standings;
      shaped = member_gives (Each IsShapedStanding) (codes "instances") (each instances.instance) (each_gives IsShapedStanding instances.instance instance_gives) at d standings e0;
      targets = refl;
      stores = refl;
      keys = refl;
      threads = member_gives (Each IsThreadWithin) (codes "threads") (each threads.thread) (each_gives IsThreadWithin threads.thread thread_gives) at d told e1;
    }))))))))))))))))))))
