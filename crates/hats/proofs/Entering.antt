-- The thread that a hat gets.
use Rattle.std.proofs.Common.{◌≡◌, ℕ, Bool, true, false, cond, ◌&&◌, Option, Some, None, refl, sym, ap, ◌∙◌, subst, arith, position, slice_get}
use Rattle.std.specs.Prelude.{OnOk, OnErr, Result, Ok, Err, nat_lt, ◌==◌}
use Rattle.std.proofs.lemmas.List.Elements.{All-push, All-set, All-get_or}
use Rattle.std.proofs.lemmas.List.Quantifiers.{position-Some}
use Rattle.std.proofs.lemmas.Option.{get_or_from_slice_get, slice_get_within}
use Rattle.machine_spec.specs.declared.threads.Context.TheVariants.{Fresh}
use Rattle.machine_spec.specs.Outcome.{Goes, Full, with_room, most_levels}
use Rattle.machine_spec.specs.Places.{Places, Everyone}
use Rattle.machine_spec.specs.Starting.{replaced, replaced_at, appended, placed, runs_at}
use Rattle.project_spec.specs.declared.blocks.Block.{Block}
use Rattle.project_spec.specs.Trees.{Sheet}
use Rattle.thread_frames.specs.Fit.{Fits, IsHeld, top_at, block_at}
use Rattle.thread_frames.specs.Restarting.{restarted, restarted_by}
use Rattle.thread_frames.specs.Threads.{Thread, frames, new_thread, is_of}
use Rattle.thread_frames.specs.declared.stops.PushStop.{PushStop}

-- A slot of the hat

both_true : (a b : Bool) → (a && b) ≡ true → (a ≡ true) × (b ≡ true)
both_true true b e = (refl, e)
both_true false b e = absurd (cc e)

same_number : (m n : ℕ) → (m == n) ≡ true → m ≡ n
same_number m n e = grind (arith, e)

own_slot : (of hat slot : ℕ) (ts : Places Thread) (t : Thread) → position (is_of of hat) ts.list ≡ Some slot → slice_get ts.list slot ≡ Some t → (t.of ≡ of) × (t.hat ≡ hat)
own_slot of hat slot ts t e h =
    let test : is_of of hat t ≡ true = subst (λ x. is_of of hat x ≡ true) (get_or_from_slice_get ts.list slot t t h) ((position-Some (is_of of hat) ts.list slot t e).1) in
    let both = both_true (t.of == of) (t.hat == hat) test in
    (same_number t.of of both.0, same_number t.hat hat both.1)

-- a thread of a hat that takes the slot of its thread is one of the same instance and hat
restarted-is : (runs : Bool) (of hat slot serial target : ℕ) (first : Option ℕ) (ts : Places Thread) → position (is_of of hat) ts.list ≡ Some slot
    → restarted runs slot serial target first ts ≡ replaced_at frames runs slot (slice_get ts.list slot) (new_thread serial of target hat first) ts
restarted-is runs of hat slot serial target first ts e = by (slice_get ts.list slot) refl
  where
    by : (o : Option Thread) → slice_get ts.list slot ≡ o → restarted_by runs slot serial target first o ts ≡ replaced_at frames runs slot o (new_thread serial of target hat first) ts
    by None h = refl
    by (Some t) h =
        let own = own_slot of hat slot ts t e h in
        (λ i. replaced frames runs slot t (new_thread serial (own.0 i) target (own.1 i) first) ts)

-- what is placed there is what is restarted
pub placed-is : (running : Option ℕ) (runs : Bool) (of hat slot serial target : ℕ) (first : Option ℕ) (ts : Places Thread) → position (is_of of hat) ts.list ≡ Some slot → runs ≡ runs_at running slot ts.detached
    → placed frames running (position (is_of of hat) ts.list) (new_thread serial of target hat first) ts ≡ restarted runs slot serial target first ts
placed-is running runs of hat slot serial target first ts e r =
    let new = new_thread serial of target hat first in
    ap (λ o. placed frames running o new ts) e
    ∙ ap (λ b. replaced_at frames b slot (slice_get ts.list slot) new ts) (sym r)
    ∙ sym (restarted-is runs of hat slot serial target first ts e)

-- Threads that fit

top_fits : (sheet : Sheet) (o : Option Block) → top_at o Fresh false ≡ true
top_fits sheet None = refl
top_fits sheet (Some b) = refl

-- a new thread fits where its block is there
pub new-fits : (sheets : ℕ → Sheet) (serial of target hat : ℕ) (first : Option ℕ) → IsHeld (sheets target) first → Fits sheets (new_thread serial of target hat first)
new-fits sheets serial of target hat first held = record {
  done = λ e. absurd (cc e);
  open_levels = λ e. record {
    fit = (record { held = held; fits = top_fits (sheets target) (block_at (sheets target) first); params = refl }, tt);
    there = omega arith;
    single = λ n. refl;
  };
}

room_goes : {A : Type 0} (n : ℕ) (x y : A) → with_room n x ≡ Goes y → x ≡ y
room_goes {A = A} n x y e = by (nat_lt n most_levels) e
  where
    goes : (a b : A) → Goes a ≡ Goes b → a ≡ b
    goes a b e = cc e

    by : (b : Bool) → cond b (Goes x) Full ≡ Goes y → x ≡ y
    by true e = goes x y e
    by false e = absurd (cc e)

module _ (P : Thread → Type 0) (t : Thread) (new : Places Thread) (fresh : P t) where
  appended_all : (ts : Places Thread) → appended frames t ts ≡ Goes new → Everyone P ts → Everyone P new
  appended_all ts e all =
      subst (Everyone P) (room_goes _ _ _ e) (record { listed = All-push P ts.list t all.listed fresh; detached = all.detached })

  replaced_all : (runs : Bool) (slot : ℕ) (old : Thread) (ts : Places Thread) → slice_get ts.list slot ≡ Some old → replaced frames runs slot old t ts ≡ Goes new → Everyone P ts → Everyone P new
  replaced_all true slot old ts h e all =
      let own : P old = subst P (get_or_from_slice_get ts.list slot old old h) (All-get_or P ts.list slot old (slice_get_within ts.list slot old h) all.listed) in
      subst (Everyone P) (room_goes _ _ _ e) (record { listed = All-set P ts.list slot t fresh all.listed; detached = own })
  replaced_all false slot old ts h e all =
      subst (Everyone P) (room_goes _ _ _ e) (record { listed = All-set P ts.list slot t fresh all.listed; detached = all.detached })

  goes_same : (ts : Places Thread) → Goes ts ≡ Goes new → ts ≡ new
  goes_same ts e = cc e

  placed_at : (runs : Bool) (slot : ℕ) (o : Option Thread) (ts : Places Thread) → slice_get ts.list slot ≡ o → replaced_at frames runs slot o t ts ≡ Goes new → Everyone P ts → Everyone P new
  placed_at runs slot None ts h e all = subst (Everyone P) (goes_same ts e) all
  placed_at runs slot (Some old) ts h e all = replaced_all runs slot old ts h e all

  placed_all : (running o : Option ℕ) (ts : Places Thread) → placed frames running o t ts ≡ Goes new → Everyone P ts → Everyone P new
  placed_all running None ts e all = appended_all ts e all
  placed_all running (Some slot) ts e all = placed_at (runs_at running slot ts.detached) slot (slice_get ts.list slot) ts refl e all

  pub placed-fits : (running o : Option ℕ) (ts : Places Thread) (r : Result (Unit {0}) PushStop) → OnOk r (placed frames running o t ts ≡ Goes new) → OnErr r (new ≡ ts) → Everyone P ts → Everyone P new
  placed-fits running o ts (Ok u) e f all = placed_all running o ts e all
  placed-fits running o ts (Err stop) e f all = subst (Everyone P) (sym f) all

  pub appended-fits : (ts : Places Thread) (r : Result (Unit {0}) PushStop) → OnOk r (appended frames t ts ≡ Goes new) → OnErr r (new ≡ ts) → Everyone P ts → Everyone P new
  appended-fits ts (Ok u) e f all = appended_all ts e all
  appended-fits ts (Err stop) e f all = subst (Everyone P) (sym f) all
