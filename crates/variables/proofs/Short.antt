-- Stores of which no list is too long.
use Rattle.std.proofs.Common.{ℕ, ◌+◌, ◌∷◌, [], List, map, take, drop, suc, Bool}
use Rattle.std.specs.List.{All, enumerate_from, filter, remove}
use Rattle.std.proofs.lemmas.List.Elements.{All-nil, All-cons, All-head, All-tail, All-map, All-append, All-take, All-drop, All-filter}
use Rattle.scratch_values.specs.declared.value.Value.{Value}
use Rattle.machine_spec.specs.declared.records.TargetRecord.{TargetRecord}
use Rattle.machine_spec.specs.declared.records.ListRecord.{ListRecord}
use Rattle.machine_spec.specs.declared.variables.Store.{Store}
use Rattle.machine_spec.specs.First.{store}
use Rattle.target_records.specs.Held as records
use Rattle.variables.specs.First.{stores_of}
use Rattle.variables.specs.Kept.{IsShort, HasShortLists, IsKept}
use Rattle.variables.proofs.Apart.{IsDistinct-remove, IsDistinct-filter}

short-from : (k : ℕ) (ts : List TargetRecord) → All records.HasShortLists ts → All HasShortLists (map (λ x. store x.0 x.1) (enumerate_from k ts))
short-from k [] h = All-nil HasShortLists
short-from k (t ∷ ts) h =
    All-cons HasShortLists (store k t) (map (λ x. store x.0 x.1) (enumerate_from (k + 1) ts))
    (All-map IsShort (λ (l : ListRecord). l.items) t.lists (All-head records.HasShortLists t ts h))
    (short-from (k + 1) ts (All-tail records.HasShortLists t ts h))

-- the stores of the originals
pub short-first : (ts : List TargetRecord) → All records.HasShortLists ts → All HasShortLists (stores_of ts)
short-first ts h = short-from 0 ts h

-- a store is taken out
pub kept-remove : (ss : List Store) (k : ℕ) (z : Value) (none : List Value) → IsKept ss z none → IsKept (remove ss k) z none
kept-remove ss k z none h = record {
  distinct = IsDistinct-remove ss k h.distinct;
  short = All-append HasShortLists (take k ss) (drop (suc k) ss) (All-take HasShortLists k ss h.short) (All-drop HasShortLists (suc k) ss h.short);
  zero_is = h.zero_is;
  nothing_is = h.nothing_is;
}

-- some stores are kept
pub kept-filter : (p : Store → Bool) (ss : List Store) (z : Value) (none : List Value) → IsKept ss z none → IsKept (filter p ss) z none
kept-filter p ss z none h = record {
  distinct = IsDistinct-filter p ss h.distinct;
  short = All-filter p HasShortLists ss h.short;
  zero_is = h.zero_is;
  nothing_is = h.nothing_is;
}
