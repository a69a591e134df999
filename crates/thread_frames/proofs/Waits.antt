-- What a block does that waits for threads, told serial by serial.
use Rattle.std.proofs.Common.{◌≡◌, ℕ, ◌+◌, ◌<◌, ◌≤◌, List, [], ◌∷◌, ◌++◌, length, drop, get_or, Bool, true, false, cond, Option, Some, None, map, refl, sym, ap, ap₂, ◌∙◌, add-one}
use Rattle.std.specs.Prelude.{◌==◌, ◌||◌, find, option_to_list}
use Rattle.std.specs.List.{list_any}
use Rattle.std.specs.Option.{option_map}
use Rattle.std.proofs.Math.Seq.{drop-cons}
use Rattle.std.proofs.lemmas.List.{drop_all}
use Rattle.machine_spec.specs.declared.threads.Control.{Control}
use Rattle.machine_spec.specs.declared.threads.Control.TheVariants.{Next, Yield, YieldTick}
use Rattle.machine_spec.specs.declared.threads.Status.{Status}
use Rattle.machine_spec.specs.declared.threads.Status.TheVariants.{Running}
use Rattle.machine_spec.specs.Threads.{Listed, among, is_running, wait_for}
use Rattle.machine_spec.specs.Places.{Places}
use Rattle.shared_stacks.specs.declared.pool.Pool.{Pool}
use Rattle.thread_frames.specs.Levels.{Level}
use Rattle.thread_frames.specs.Threads.{Thread, listed}
use Rattle.thread_frames.specs.Entries.{Entry, seen, seen_all}
use Rattle.thread_frames.proofs.Maps.{find-map}

shown : Thread → Listed
shown t = record { serial = t.serial; status = t.status }

-- a thread is found among those that rows see as among all
found_by : (b : Bool) (t : Thread) (o : Option Listed) (p : Option Thread) → option_map (λ (x : Listed). x.status) o ≡ option_map (λ (x : Thread). x.status) p → option_map (λ (x : Listed). x.status) (cond b (Some (record { serial = t.serial; status = t.status })) o) ≡ option_map (λ (x : Thread). x.status) (cond b (Some t) p)
found_by true t o p e = refl
found_by false t o p e = e

pub find-listed : (n : ℕ) (ts : List Thread) → option_map (λ (x : Listed). x.status) (find (λ x. x.serial == n) (map (λ (t : Thread). record { serial = t.serial; status = t.status }) ts)) ≡ option_map (λ (t : Thread). t.status) (find (λ t. t.serial == n) ts)
find-listed n [] = refl
find-listed n (t ∷ ts) = found_by (t.serial == n) t _ (find (λ x. x.serial == n) ts) (find-listed n ts)

-- how the first thread with the number stands, as entries tell
map_map : (o : Option Entry) (p : Pool Level) → option_map (λ (t : Thread). t.status) (option_map (seen p) o) ≡ option_map (λ (e : Entry). e.thread.status) o
map_map None p = refl
map_map (Some e) p = refl

pub status_by_entries : (p : Pool Level) (n : ℕ) (ts : Places Entry) (vs : Places Thread) → seen_all p ts ≡ vs
    → option_map (λ (e : Entry). e.thread.status) (find (λ e. e.thread.serial == n) ts.list) ≡ option_map (λ (x : Listed). x.status) (find (λ x. x.serial == n) (listed vs))
status_by_entries p n ts vs view =
    sym (map_map (find (λ e. e.thread.serial == n) ts.list) p)
    ∙ ap (option_map (λ (t : Thread). t.status)) (sym (find-map (seen p) (λ t. t.serial == n) ts.list))
    ∙ ap (λ (ws : Places Thread). option_map (λ (t : Thread). t.status) (find (λ t. t.serial == n) ws.list)) view
    ∙ sym (find-listed n vs.list)

-- what is known so far, and the threads that are left to look at

abbrev after_all : Bool → Control
after_all true = YieldTick
after_all false = Next

abbrev pub wait_by : (seen : Bool) → List Listed → Control
wait_by seen [] = after_all seen
wait_by seen (t ∷ ts) = cond (is_running t.status) Yield (wait_by true ts)

or_yield : (a b : Bool) → cond a Yield (cond b Yield YieldTick) ≡ cond (a || b) Yield YieldTick
or_yield true b = refl
or_yield false b = refl

seen_any : (ts : List Listed) → wait_by true ts ≡ cond (list_any (λ x. is_running x.status) ts) Yield YieldTick
seen_any [] = refl
seen_any (t ∷ ts) =
    ap (cond (is_running t.status) Yield) (seen_any ts) ∙ or_yield (is_running t.status) (list_any (λ x. is_running x.status) ts)

pub wait_by-none : (ts : List Listed) → wait_by false ts ≡ wait_for ts
wait_by-none [] = refl
wait_by-none (t ∷ ts) =
    ap (cond (is_running t.status) Yield) (seen_any ts) ∙ or_yield (is_running t.status) (list_any (λ x. is_running x.status) ts)

pub wait_by-end : (seen : Bool) (ts : List Listed) (ns : List ℕ) (k : ℕ) → length ns ≤ k → wait_by seen (among ts (drop k ns)) ≡ cond seen YieldTick Next
wait_by-end true ts ns k le = ap (λ ms. wait_by true (among ts ms)) (drop_all k ns le)
wait_by-end false ts ns k le = ap (λ ms. wait_by false (among ts ms)) (drop_all k ns le)

-- one serial more

abbrev pub wait_on : Option Status → (seen : Bool) → List Listed → Control
wait_on None seen r = wait_by seen r
wait_on (Some s) seen r = cond (is_running s) Yield (wait_by true r)

on_found : (o : Option Listed) (seen : Bool) (r : List Listed) → wait_by seen (option_to_list o ++ r) ≡ wait_on (option_map (λ (x : Listed). x.status) o) seen r
on_found None seen r = refl
on_found (Some t) seen r = refl

pub wait_by-more : (seen : Bool) (ts : List Listed) (ns : List ℕ) (k n : ℕ) (status : Option Status) → k < length ns → n ≡ get_or ns k n → status ≡ option_map (λ (x : Listed). x.status) (find (λ x. x.serial == n) ts) → wait_by seen (among ts (drop k ns)) ≡ wait_on status seen (among ts (drop (k + 1) ns))
wait_by-more seen ts ns k n status lt e is =
    let here : drop k ns ≡ n ∷ drop (k + 1) ns = drop-cons ns k n lt ∙ ap₂ (λ (x : ℕ) (j : ℕ). x ∷ drop j ns) (sym e) (sym (add-one k)) in
    ap (λ ms. wait_by seen (among ts ms)) here
    ∙ on_found (find (λ x. x.serial == n) ts) seen (among ts (drop (k + 1) ns))
    ∙ ap (λ o. wait_on o seen (among ts (drop (k + 1) ns))) (sym is)

-- a running thread ends the search
pub yields : (status : Option Status) (seen : Bool) (r : List Listed) (s : Status) (rest : Control) → wait_on status seen r ≡ rest → status ≡ Some s → s ≡ Running → Yield ≡ rest
yields status seen r s rest e is running = sym (ap (λ o. wait_on o seen r) (is ∙ ap Some running)) ∙ e

-- any other goes on as one that was seen
pub sees : (status : Option Status) (seen now : Bool) (r : List Listed) (s kind : Status) (rest : Control) → wait_on status seen r ≡ rest → status ≡ Some s → s ≡ kind → is_running kind ≡ false → now ≡ true → wait_by now r ≡ rest
sees status seen now r s kind rest e is of not_running e_now =
    ap (λ b. wait_by b r) e_now ∙ ap (λ b. cond b Yield (wait_by true r)) (sym not_running) ∙ sym (ap (λ o. wait_on o seen r) (is ∙ ap Some of)) ∙ e

pub passes : (status : Option Status) (seen now : Bool) (r : List Listed) (rest : Control) → wait_on status seen r ≡ rest → status ≡ None → now ≡ seen → wait_by now r ≡ rest
passes status seen now r rest e is same = ap (λ b. wait_by b r) same ∙ sym (ap (λ o. wait_on o seen r) is) ∙ e
