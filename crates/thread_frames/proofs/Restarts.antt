-- A thread that is replaced in its slot, step by step.
use Rattle.std.proofs.Common.{◌≡◌, ℕ, ◌-◌, ◌<◌, ◌≤◌, [], ◌∷◌, Bool, true, false, cond, Option, Some, None, slice_get, sym, ap, ◌∙◌, arith}
use Rattle.std.specs.Prelude.{slice_set}
use Rattle.std.proofs.lemmas.Bool.{lt-ltb, le-ltb}
use Rattle.machine_spec.specs.declared.threads.Which.TheVariants.{Slot}
use Rattle.machine_spec.specs.Outcome.{Goes, Full, with_room, most_levels}
use Rattle.machine_spec.specs.Places.{Places, put, put_some, on_place}
use Rattle.thread_frames.specs.Levels.{new_level}
use Rattle.thread_frames.specs.Threads.{Thread, again, finish, on_levels, without_detached, new_bare, with_levels}
use Rattle.thread_frames.specs.Restarting.{restarted, restarted_by, renewed, swapped}
use Rattle.thread_frames.proofs.Opening.{open_in, depth, open-put, get_put, put_put}

pub is_full : {A : Type 0} (n : ℕ) (x : A) → most_levels ≤ n → with_room n x ≡ Full
is_full n x le = ap (λ b. cond b (Goes x) Full) (le-ltb n most_levels le)

pub has_room : {A : Type 0} (n : ℕ) (x : A) → n < most_levels → with_room n x ≡ Goes x
has_room n x lt = ap (λ b. cond b (Goes x) Full) (lt-ltb n most_levels lt)

-- no thread stands in the slot
pub restarted-none : (keep : Bool) (slot serial target : ℕ) (first : Option ℕ) (ts : Places Thread) → slice_get ts.list slot ≡ None → restarted keep slot serial target first ts ≡ Goes ts
restarted-none keep slot serial target first ts none = ap (λ o. restarted_by keep slot serial target first o ts) none

-- The old thread gives up its levels

module _ (slot serial target : ℕ) (first : Option ℕ) (t : Thread) (ts : Places Thread) (at : slice_get ts.list slot ≡ Some t) where
  left : open_in (put (Slot slot) (finish t) ts) ≡ open_in ts - depth t
  left = omega (arith, open-put (Slot slot) t (finish t) ts at)

  pub own_depth : depth t ≤ open_in ts
  own_depth = omega (arith, open-put (Slot slot) t (finish t) ts at)

  restarted-false : restarted false slot serial target first ts ≡ with_room (open_in ts - depth t) (put (Slot slot) (again serial target first t) ts)
  restarted-false =
      let new = put (Slot slot) (again serial target first t) ts in
      ap (λ o. restarted_by false slot serial target first o ts) at
      ∙ ap (λ o. with_room (open_in (put_some o finish (Slot slot) ts)) new) at
      ∙ ap (λ m. with_room m new) left

  pub restart_full : most_levels ≤ open_in ts - depth t → restarted false slot serial target first ts ≡ Full
  restart_full full = restarted-false ∙ is_full (open_in ts - depth t) (put (Slot slot) (again serial target first t) ts) full

  -- behind the step that puts a new thread there without levels
  renewed_is : (us : Places Thread) → us ≡ on_place (renewed serial target) (Slot slot) ts → us ≡ put (Slot slot) (renewed serial target t) ts
  renewed_is us is = is ∙ ap (λ o. put_some o (renewed serial target) (Slot slot) ts) at

  pub renewed_room : (us : Places Thread) → us ≡ on_place (renewed serial target) (Slot slot) ts → open_in us ≡ open_in ts - depth t
  renewed_room us is = ap open_in (renewed_is us is) ∙ omega (arith, open-put (Slot slot) t (renewed serial target t) ts at)

  pub restart_goes : (us ws : Places Thread) → us ≡ on_place (renewed serial target) (Slot slot) ts → open_in ts - depth t < most_levels → ws ≡ on_place (on_levels (λ ls. new_level first false ∷ ls)) (Slot slot) us
      → restarted false slot serial target first ts ≡ Goes ws
  restart_goes us ws is room put_is =
      let r = renewed serial target t in
      let opened = on_levels (λ ls. new_level first false ∷ ls) in
      restarted-false
      ∙ has_room (open_in ts - depth t) (put (Slot slot) (again serial target first t) ts) room
      ∙ ap Goes (
      ap (λ xs. record { list = xs; detached = ts.detached }) (sym (put_put ts.list slot r (again serial target first t)))
      ∙ sym (ap (λ o. put_some o opened (Slot slot) (put (Slot slot) r ts)) (get_put ts.list slot t r at))
      ∙ ap (on_place opened (Slot slot)) (sym (renewed_is us is))
      ∙ sym put_is
      )

  -- The old thread becomes the detached one

  restarted-true : restarted true slot serial target first ts ≡ with_room (open_in ts) (record { list = slice_set ts.list slot (again serial target first t); detached = Some t })
  restarted-true = ap (λ o. restarted_by true slot serial target first o ts) at

  pub detach_full : most_levels ≤ open_in ts → restarted true slot serial target first ts ≡ Full
  detach_full full = restarted-true ∙ is_full (open_in ts) (record { list = slice_set ts.list slot (again serial target first t); detached = Some t }) full

  swapped_is : (us xs : Places Thread) → us ≡ without_detached ts → xs ≡ swapped slot (new_bare serial t.of target t.hat) us → xs ≡ record { list = slice_set ts.list slot (with_levels (new_bare serial t.of target t.hat) []); detached = Some t }
  swapped_is us xs dropped is =
      is ∙ ap (swapped slot (new_bare serial t.of target t.hat)) dropped
      ∙ ap (λ o. record { list = slice_set ts.list slot (with_levels (new_bare serial t.of target t.hat) []); detached = o }) at

  pub swapped_room : (us xs : Places Thread) → us ≡ without_detached ts → xs ≡ swapped slot (new_bare serial t.of target t.hat) us → open_in xs ≤ open_in ts
  swapped_room us xs dropped is =
      omega (arith, ap open_in (swapped_is us xs dropped is), open-put (Slot slot) t (with_levels (new_bare serial t.of target t.hat) []) ts at)

  pub detach_goes : (us xs ws : Places Thread) → us ≡ without_detached ts → xs ≡ swapped slot (new_bare serial t.of target t.hat) us → open_in ts < most_levels
      → ws ≡ on_place (on_levels (λ ls. new_level first false ∷ ls)) (Slot slot) xs → restarted true slot serial target first ts ≡ Goes ws
  detach_goes us xs ws dropped is room put_is =
      let r = with_levels (new_bare serial t.of target t.hat) [] in
      let opened = on_levels (λ ls. new_level first false ∷ ls) in
      let mid : Places Thread = record { list = slice_set ts.list slot r; detached = Some t } in
      restarted-true
      ∙ has_room (open_in ts) (record { list = slice_set ts.list slot (again serial target first t); detached = Some t }) room
      ∙ ap Goes (
      ap (λ ys. record { list = ys; detached = Some t }) (sym (put_put ts.list slot r (again serial target first t)))
      ∙ sym (ap (λ o. put_some o opened (Slot slot) mid) (get_put ts.list slot t r at))
      ∙ ap (on_place opened (Slot slot)) (sym (swapped_is us xs dropped is))
      ∙ sym put_is
      )
