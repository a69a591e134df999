-- First slots of hats, as threads are appended one after another.
use Rattle.std.proofs.Common.{◌≡◌, ℕ, suc, ◌+◌, Bool, true, false, cond, List, [], ◌∷◌, ◌++◌, length, map, position, refl, sym, ◌∙◌, ap, ap₂, subst, arith, Some, None}
use Rattle.std.specs.Prelude.{◌==◌}
use Rattle.std.specs.List.{position_from, list_any}
use Rattle.std.proofs.lemmas.Iterator.Adapters.{position_from-zero}
use Rattle.machine_spec.specs.Places.{Places}
use Rattle.shared_stacks.specs.declared.pool.Pool.{Pool}
use Rattle.thread_frames.specs.declared.slot_index.SlotIndex.{SlotIndex}
use Rattle.thread_frames.specs.declared.slot_index.Key.{Key}
use Rattle.thread_frames.specs.declared.indexes.Indexes.{Indexes}
use Rattle.thread_frames.specs.Levels.{Level}
use Rattle.thread_frames.specs.Threads.{Thread, is_of, is_alive_of}
use Rattle.thread_frames.specs.Entries.{Entry, seen, seen_all, is_entry_of, is_alive_entry_of}
use Rattle.thread_frames.specs.Indexing.{AreFirst, AreIndexed, Notes, noted, same_key, keys_of, key_of, instances_of}
use Rattle.instance_index.specs.Index.{IsIndex}
use Rattle.instance_index.specs.declared.index.InstanceIndex.{InstanceIndex}
use Rattle.thread_frames.proofs.Maps.{position-map, any-map}
use Rattle.thread_frames.proofs.Kept.{key}

position_from-push : {X : Type 0} (p : X → Bool) (i : ℕ) (xs : List X) (x : X) → position_from p i (xs ++ x ∷ []) ≡ noted (position_from p i xs) (p x) (i + length xs)
position_from-push p i [] x = ap (λ n. cond (p x) (Some n) None) (omega arith)
position_from-push p i (y ∷ ys) x = by (p y) (position_from-push p (i + 1) ys x)
  where
    by : (b : Bool) → position_from p (i + 1) (ys ++ x ∷ []) ≡ noted (position_from p (i + 1) ys) (p x) (i + 1 + length ys) → cond b (Some i) (position_from p (i + 1) (ys ++ x ∷ [])) ≡ noted (cond b (Some i) (position_from p (i + 1) ys)) (p x) (i + length (y ∷ ys))
    by true rest = refl
    by false rest = rest ∙ ap (λ n. noted (position_from p (i + 1) ys) (p x) n) (omega arith)

position-push : {X : Type 0} (p : X → Bool) (xs : List X) (x : X) → position p (xs ++ x ∷ []) ≡ noted (position p xs) (p x) (length xs)
position-push p xs x =
    position_from-zero p (xs ++ x ∷ []) ∙ position_from-push p 0 xs x
    ∙ ap (λ n. noted (position_from p 0 xs) (p x) n) (omega arith)
    ∙ ap (λ o. noted o (p x) (length xs)) (sym (position_from-zero p xs))

-- a key more, which was noted
pub first_push : (old new : SlotIndex) (slot : ℕ) (keys : List Key) (key : Key) → old.is_fresh ≡ true → (new.is_fresh ≡ true → Notes old.slots new.slots key slot) → slot ≡ length keys → AreFirst old keys → AreFirst new (keys ++ key ∷ [])
first_push old new slot keys key fresh notes end are = record {
  first = λ new_fresh other.
      notes new_fresh other
      ∙ ap (λ o. noted o (same_key key other) slot) (are.first fresh other)
      ∙ ap (noted (position (λ k. same_key k other) keys) (same_key key other)) end
      ∙ sym (position-push (λ k. same_key k other) keys key);
}

-- the first slot of a hat, by keys and as threads are seen
pub hat_by_keys : (p : Pool Level) (of hat : ℕ) (ts : Places Entry) (vs : Places Thread) → seen_all p ts ≡ vs → position (λ k. same_key k (record { of = of; hat = hat })) (keys_of ts.list) ≡ position (is_of of hat) vs.list
hat_by_keys p of hat ts vs view =
    position-map key_of (λ k. same_key k (record { of = of; hat = hat })) ts.list
    ∙ sym (position-map (seen p) (is_of of hat) ts.list)
    ∙ ap (λ (ws : Places Thread). position (is_of of hat) ws.list) view

pub hat_by_entries : (p : Pool Level) (of hat : ℕ) (ts : Places Entry) (vs : Places Thread) → seen_all p ts ≡ vs → position (is_entry_of of hat) ts.list ≡ position (is_of of hat) vs.list
hat_by_entries p of hat ts vs view =
    sym (position-map (seen p) (is_of of hat) ts.list) ∙ ap (λ (ws : Places Thread). position (is_of of hat) ws.list) view

-- a thread more

pub seen_end : (p : Pool Level) (ts : Places Entry) (vs : Places Thread) → seen_all p ts ≡ vs → length vs.list ≡ length (keys_of ts.list)
seen_end p ts vs view = ap (λ (ws : Places Thread). length ws.list) (sym view) ∙ count ts.list
  where
    count : (ys : List Entry) → length (map (seen p) ys) ≡ length (keys_of ys)
    count [] = refl
    count (y ∷ ys) = ap suc (count ys)

keys_push : (es : List Entry) (e : Entry) → keys_of (es ++ e ∷ []) ≡ keys_of es ++ key_of e ∷ []
keys_push [] e = refl
keys_push (x ∷ xs) e = ap (λ ks. key_of x ∷ ks) (keys_push xs e)

pub key_more : (index : Indexes) (of hat : ℕ) (e : Entry) (ts us : Places Entry) → us ≡ record { list = ts.list ++ e ∷ []; detached = ts.detached } → of ≡ e.thread.of → hat ≡ e.thread.hat
    → AreIndexed index (keys_of ts.list ++ key of hat ∷ []) → AreIndexed index (keys_of us.list)
key_more index of hat e ts us is same_of same_hat are =
    subst (AreIndexed index)
    (ap₂ (λ (o h : ℕ). keys_of ts.list ++ key o h ∷ []) same_of same_hat ∙ sym (keys_push ts.list e) ∙ sym (ap (λ (x : Places Entry). keys_of x.list) is)) are

-- a key more, whose instance was noted
pub instances_push : (index : InstanceIndex) (keys : List Key) (k : Key) → IsIndex index (instances_of keys ++ k.of ∷ []) → IsIndex index (instances_of (keys ++ k ∷ []))
instances_push index keys k is = subst (IsIndex index) (sym (pushed keys)) is
  where
    pushed : (ks : List Key) → instances_of (ks ++ k ∷ []) ≡ instances_of ks ++ k.of ∷ []
    pushed [] = refl
    pushed (x ∷ xs) = ap (λ os. x.of ∷ os) (pushed xs)

-- the first slot of a thread by its number, as entries tell
pub slot_by_entries : (p : Pool Level) (n : ℕ) (ts : Places Entry) (vs : Places Thread) → seen_all p ts ≡ vs → position (λ e. e.thread.serial == n) ts.list ≡ position (λ t. t.serial == n) vs.list
slot_by_entries p n ts vs view =
    sym (position-map (seen p) (λ t. t.serial == n) ts.list) ∙ ap (λ (ws : Places Thread). position (λ t. t.serial == n) ws.list) view

-- whether one of a hat is alive, as entries tell
pub alive_by_entries : (p : Pool Level) (of hat : ℕ) (ts : Places Entry) (vs : Places Thread) → seen_all p ts ≡ vs → list_any (is_alive_entry_of of hat) ts.list ≡ list_any (is_alive_of of hat) vs.list
alive_by_entries p of hat ts vs view =
    sym (any-map (seen p) (is_alive_of of hat) ts.list) ∙ ap (λ (ws : Places Thread). list_any (is_alive_of of hat) ws.list) view
