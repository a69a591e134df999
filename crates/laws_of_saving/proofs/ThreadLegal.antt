-- The threads of a legal world are legal threads of saved runs, and their levels stand for what they have
-- still to do.
use Rattle.std.proofs.Common.{◌≡◌, ℕ, ◌<◌, ◌==◌, ◌&&◌, inl, inr, Bool, true, false, List, [], ◌∷◌, map, cond, Some, option_map, option_and_then, refl, sym, ap, ◌∙◌, subst, arith}
use Rattle.std.specs.Prelude.{find, unwrap_or}
use Rattle.std.specs.Option.{option_map_or}
use Rattle.machine_spec.specs.Legal.{warp_on}
use Rattle.machine_spec.specs.Pending.{Item, Do, Held, Returned, Branch, Again, Back}
use Rattle.machine_spec.specs.Program.{Program, Head, hat_block, scripts_at}
use Rattle.machine_spec.specs.Script.{Script}
use Rattle.machine_spec.specs.Stores.{no_instance, instance_at}
use Rattle.machine_spec.specs.Tasks.{Task}
use Rattle.machine_spec.specs.World.{World}
use Rattle.laws_of_threads.specs.Lists.{RiseAbove, Rise}
use Rattle.laws_of_threads.specs.Threads.{Holds}
use Rattle.laws_of_threads.specs.Worlds as threads
use Rattle.laws_of_threads.proofs.Faces.{hosts_one, found}
use Rattle.laws_of_threads.proofs.Numbers.{equal, equal_true}
use Rattle.saved_spec.specs.Saved.{snapshot}
use Rattle.project_spec.specs.Basis.{Basis, script_under}
use Rattle.saved_spec.specs.Kept.{levels_of, thread_told}
use Rattle.saved_spec.specs.Legal.{IsLegalThread, StandsIn, told}
use Rattle.saved_spec.specs.Levels.{items_of, left_of, thread_is_well}
use Rattle.saved_spec.specs.RunShapes.{Told}
use Rattle.saved_spec.specs.ThreadRules as rules
use Rattle.saved_spec.proofs.Placed as saved
use Rattle.laws_of_worlds.specs.Runs.{IsLegalRun}
use Rattle.laws_of_saving.specs.Good.{IsGood}
use Rattle.saved_spec.specs.Worlds.{items_told, warp_told, task_told}
use Rattle.laws_of_saving.proofs.Tests.{both_true}
use Rattle.laws_of_saving.proofs.ThreadFits.{items_fit, stands_in, status_fits, promises_fit}
use Rattle.laws_of_saving.proofs.ThreadPlaces.{IsOf, head_is, agreed}

-- The head of a block is one alone

above : (n : ℕ) (h : Head) (hs : List Head) → RiseAbove n (map hat_block hs) → Holds h hs → n < hat_block h
above n h [] r e = absurd e
above n h (x ∷ xs) r (inl e) = subst (λ y. n < hat_block y) e r.0
above n h (x ∷ xs) r (inr e) = let k = above (hat_block x) h xs r.1 e in let l : n < hat_block x = r.0 in omega (arith, k, l)

rise_behind : (n : ℕ) (ms : List ℕ) → RiseAbove n ms → Rise ms
rise_behind n [] h = tt
rise_behind n (m ∷ ms) h = h.1

head_by : (block : ℕ) (h x : Head) (xs : List Head) (c : Bool) → (hat_block x == block) ≡ c → RiseAbove (hat_block x) (map hat_block xs) → Holds h (x ∷ xs) → hat_block h ≡ block
    → (Holds h xs → find (λ y. hat_block y == block) xs ≡ Some h) → cond c (Some x) (find (λ y. hat_block y == block) xs) ≡ Some h
head_by block h x xs true e r (inl same) at more = ap Some same
head_by block h x xs true e r (inr held) at more = absurd (let k = above (hat_block x) h xs r held in let s = equal (hat_block x) block e in omega (arith, k, s, at))
head_by block h x xs false e r (inl same) at more = absurd (let t = equal_true (hat_block x) block (ap hat_block same ∙ at) in cc)
head_by block h x xs false e r (inr held) at more = more held

head_found : (block : ℕ) (h : Head) (hs : List Head) → Rise (map hat_block hs) → Holds h hs → hat_block h ≡ block → find (λ y. hat_block y == block) hs ≡ Some h
head_found block h [] r held at = absurd held
head_found block h (x ∷ xs) r held at =
    head_by block h x xs (hat_block x == block) refl r held at (λ k. head_found block h xs (rise_behind (hat_block x) (map hat_block xs) r) k at)

-- the flag of a thread is that of its place
warp_is : (p : Program) (hat : Script) (items : List Item) (w : Bool) → StandsIn p hat items w → warp_on p hat items ≡ w
warp_is p hat [] w h = sym h
warp_is p hat (Do s ∷ r) w h = sym h.0.warp
warp_is p hat (Held s c ∷ r) w h = sym h.0.warp
warp_is p hat (Returned s ps ∷ r) w h = sym h.0.warp
warp_is p hat (Branch s v ∷ r) w h = absurd h.0
warp_is p hat (Again s c v ∷ r) w h = absurd h.0
warp_is p hat (Back s ps v ∷ r) w h = absurd h.0

module _ (b : Basis) (seed : ℕ) (digest : List ℕ) (w : World Task) (good : IsGood b) (run_legal : IsLegalRun b.program seed w) where
  abbrev pub tells : Told
  tells = told (snapshot digest seed w)

  module _ (x : Task) (h : threads.IsLegalThread b.program w x) where
    -- its instance is of its target
    pub target_is : (instance_at x.of w.targets).of ≡ h.thread.target
    target_is =
        let f = found x.of h.thread.target w.targets h.thread.hosted in
        ap (λ o. (unwrap_or o no_instance).of) f.is_it ∙ hosts_one x.of f.x.of h.thread.target w.targets run_legal.threads.sound.inhabited.differ f.hosts h.thread.hosted

    pub script_is : IsOf b good h.thread.target h.thread.head.script
    script_is = head_is b good h.thread.target h.thread.head h.thread.heads

    under : script_under (instance_at x.of w.targets).of x.hat b ≡ Some h.thread.head.script
    under =
        ap (λ k. script_under k x.hat b) target_is
        ∙ ap (option_map (λ y. y.script)) (head_found x.hat h.thread.head (scripts_at h.thread.target b.program).heads (good.order.hats h.thread.target) h.thread.heads h.thread.hat)

    pub stands : StandsIn b.program h.thread.head.script x.items x.warp
    stands = stands_in b.program h.thread.head.script w.devices.clock x.items x.warp h.thread.legal

    fits : rules.items_fit b.program w.devices.clock x.items ≡ true
    fits = items_fit b.program h.thread.head.script w.devices.clock w.next_thread x.items x.warp h.thread.legal h.thread.kept

    well : rules.stands_well b.program w.devices x.serial x.status x.items ≡ true
    well =
        both_true (rules.items_fit b.program w.devices.clock x.items && rules.status_fits x.status x.items) (rules.promises_fit w.devices x.serial x.items)
        (both_true (rules.items_fit b.program w.devices.clock x.items) (rules.status_fits x.status x.items) fits (status_fits x.status x.items h.alive h.thread.status))
        (promises_fit w.devices x.serial x.items h.thread.asked h.thread.spoken)

    pub legal : IsLegalThread b w.targets w.devices x
    legal = record { hat = h.thread.head.script; under = under; stands = stands; well = well }

    reads : items_of b.program h.thread.head.script (levels_of x.items) ≡ Some x.items
    reads = saved.placed b.program h.thread.head.script (agreed b good h.thread.target h.thread.head.script script_is) w.devices.clock x.items x.warp stands fits

    left : left_of b tells (thread_told x) ≡ Some x.items
    left = ap (option_and_then (λ script. items_of b.program script (levels_of x.items))) under ∙ reads

    pub is_well : thread_is_well b tells (thread_told x) ≡ true
    is_well = ap (λ o. option_map_or (rules.stands_well b.program w.devices x.serial x.status) o false) left ∙ well

    items_are : items_told b tells (thread_told x) ≡ x.items
    items_are = ap (λ o. unwrap_or o []) left

    warp_are : warp_told b tells (thread_told x) ≡ x.warp
    warp_are =
        ap (λ o. option_map_or (λ hat. warp_on b.program hat (items_told b tells (thread_told x))) o false) under
        ∙ ap (warp_on b.program h.thread.head.script) items_are
        ∙ warp_is b.program h.thread.head.script x.items x.warp stands

    pub is_told : task_told b tells (thread_told x) ≡ x
    is_told = ap (λ v. record x { warp = v; items = items_told b tells (thread_told x) }) warp_are ∙ ap (λ xs. record x { items = xs }) items_are
