-- Writings of texts, one behind the other.
use Rattle.std.proofs.Common.{◌≡◌, ◌⊎◌, ℕ, zero, suc, ◌+◌, ◌≤◌, List, [], ◌∷◌, ◌++◌, length, take, Option, refl, sym, ap, ◌∙◌, subst, inl, inr, arith, append_assoc, append-nil, length-append}
use Rattle.std.specs.Prelude.{⊤, Result, Ok, Err}
use Rattle.std.specs.List.{concat}
use Rattle.std.proofs.lemmas.List.Folds.{concat-append}
use Rattle.sv_channels.specs.Counts.{next_count, Rose}
use Rattle.sv_channels.specs.Sink.{Gained, WriteAnswer, WriteCounts}
use Rattle.sv_channels.specs.declared.errors.SinkError.{SinkError}
use Rattle.sv_channels.specs.declared.errors.SinkError.TheVariants.{Failed, NoMemory}
use Rattle.sv_channels.proofs.Gains.{Gained-nil, Gained-trans}
use Rattle.call_outcomes.specs.Calls.{counted}
use Rattle.call_outcomes.specs.Course.{Course, usage, read_fault, write_fault, no_memory, silent, whole, of_writing}
use Rattle.call_outcomes.specs.Faults.{WriteFailed}
use Rattle.call_outcomes.specs.Seen.{SinkNow}
use Rattle.call_outcomes.specs.Stages.{Writes, IsWriting}
use Rattle.call_outcomes.specs.Writes.{Wrote, WroteAll, WroteSome, WroteFront, IsSilent}

pub counted_more : (m n count : ℕ) → counted (m + n) count ≡ counted n (counted m count)
counted_more zero n count = let same : zero + n ≡ n = omega arith in ap (λ k. counted k count) same
counted_more (suc m) n count =
    let next : suc m + n ≡ suc (m + n) = omega arith in
    ap (λ k. counted k count) next ∙ counted_more m n (next_count count)

counts_more : (m n before then after : ℕ) → then ≡ counted m before → after ≡ counted n then → after ≡ counted (m + n) before
counts_more m n before then after e f = f ∙ ap (counted n) e ∙ sym (counted_more m n before)

counts_all : (a b : List (List ℕ)) (before then after : ℕ) → then ≡ counted (length a) before → after ≡ counted (length b) then → after ≡ counted (length (a ++ b)) before
counts_all a b before then after e f = counts_more (length a) (length b) before then after e f ∙ ap (λ n. counted n before) (sym (length-append a b))

counts_next : (a b : List (List ℕ)) (before then after : ℕ) → then ≡ counted (length a) before → after ≡ counted (suc (length b)) then → after ≡ counted (suc (length (a ++ b))) before
counts_next a b before then after e f =
    let sum : length a + suc (length b) ≡ suc (length (a ++ b)) = let len = length-append a b in omega (arith, len) in
    counts_more (length a) (suc (length b)) before then after e f ∙ ap (λ n. counted n before) sum

-- no text, and none yet

pub all_none : (k : SinkNow) → WroteAll k k []
all_none k = (Gained-nil k.written, refl)

pub front_none : (k : SinkNow) (texts : List (List ℕ)) → WroteFront k k texts
front_none k texts = record { done = []; rest = texts; texts_are = refl; bytes = Gained-nil k.written; calls = inl refl }

pub writes_none : (p : Type 0) (k : SinkNow) → Writes k k p [] whole
writes_none p k = record { only = tt; wrote = all_none k; steady = refl; grown = omega arith }

pub writes_wanting : (p : Type 0) (k : SinkNow) (texts : List (List ℕ)) → Writes k k p texts no_memory
writes_wanting p k texts = record { only = tt; wrote = front_none k texts; steady = refl; grown = omega arith }

-- texts behind others that were written

pub all_behind : (k m l : SinkNow) (a b : List (List ℕ)) → WroteAll k m a → WroteAll m l b → WroteAll k l (a ++ b)
all_behind k m l a b g h = (
  subst (Gained k.written l.written) (sym (concat-append a b)) (Gained-trans k.written m.written l.written (concat a) (concat b) g.0 h.0),
  counts_all a b k.calls m.calls l.calls g.1 h.1,
)

some_behind : (k m l : SinkNow) (a b : List (List ℕ)) → WroteAll k m a → WroteSome m l b → WroteSome k l (a ++ b)
some_behind k m l a b g h = record {
  done = a ++ h.done;
  next = h.next;
  rest = h.rest;
  texts_are = ap (λ ts. a ++ ts) h.texts_are ∙ sym (append_assoc a h.done (h.next ∷ h.rest));
  count = h.count;
  part = h.part;
  bytes = subst (Gained k.written l.written)
      (sym (append_assoc (concat a) (concat h.done) (take h.count h.next)) ∙ ap (λ bs. bs ++ take h.count h.next) (sym (concat-append a h.done)))
      (Gained-trans k.written m.written l.written (concat a) (concat h.done ++ take h.count h.next) g.0 h.bytes);
  calls = counts_next a h.done k.calls m.calls l.calls g.1 h.calls;
}

front_behind : (k m l : SinkNow) (a b : List (List ℕ)) → WroteAll k m a → WroteFront m l b → WroteFront k l (a ++ b)
front_behind k m l a b g h = record {
  done = a ++ h.done;
  rest = h.rest;
  texts_are = ap (λ ts. a ++ ts) h.texts_are ∙ sym (append_assoc a h.done h.rest);
  bytes = subst (Gained k.written l.written) (sym (concat-append a h.done)) (Gained-trans k.written m.written l.written (concat a) (concat h.done) g.0 h.bytes);
  calls = calls_behind h.calls;
} where
  calls_behind : (l.calls ≡ counted (length h.done) m.calls) ⊎ ((1 ≤ length h.rest) × (l.calls ≡ counted (suc (length h.done)) m.calls))
      → (l.calls ≡ counted (length (a ++ h.done)) k.calls) ⊎ ((1 ≤ length h.rest) × (l.calls ≡ counted (suc (length (a ++ h.done))) k.calls))
  calls_behind (inl e) = inl (counts_all a h.done k.calls m.calls l.calls g.1 e)
  calls_behind (inr e) = inr (e.0, counts_next a h.done k.calls m.calls l.calls g.1 e.1)

fault_behind : (p : Type 0) (k m l : SinkNow) (a b : List (List ℕ)) → m.faults ≡ k.faults → WroteAll k m a
    → (WriteFailed m l × WroteSome m l b) ⊎ (p × WroteAll m l b) → (WriteFailed k l × WroteSome k l (a ++ b)) ⊎ (p × WroteAll k l (a ++ b))
fault_behind p k m l a b same g (inl h) = inl (subst (λ n. Rose n l.faults) same h.0, some_behind k m l a b g h.1)
fault_behind p k m l a b same g (inr h) = inr (h.0, all_behind k m l a b g h.1)

pub writes_behind : (p : Type 0) (k m l : SinkNow) (a b : List (List ℕ)) (c : Course) → WroteAll k m a → m.faults ≡ k.faults → Writes m l p b c → Writes k l p (a ++ b) c
writes_behind p k m l a b whole g same h = record { only = tt; wrote = all_behind k m l a b g h.wrote; steady = h.steady ∙ same; grown = subst (λ n. n ≤ l.faults) same h.grown }
writes_behind p k m l a b write_fault g same h = record { only = tt; wrote = fault_behind p k m l a b same g h.wrote; steady = tt; grown = subst (λ n. n ≤ l.faults) same h.grown }
writes_behind p k m l a b no_memory g same h = record { only = tt; wrote = front_behind k m l a b g h.wrote; steady = h.steady ∙ same; grown = subst (λ n. n ≤ l.faults) same h.grown }
writes_behind p k m l a b usage g same h = absurd h.only
writes_behind p k m l a b read_fault g same h = absurd h.only
writes_behind p k m l a b silent g same h = absurd h.only

-- texts before others that were not written

some_before : (k l : SinkNow) (a b : List (List ℕ)) → WroteSome k l a → WroteSome k l (a ++ b)
some_before k l a b h = record {
  done = h.done;
  next = h.next;
  rest = h.rest ++ b;
  texts_are = ap (λ ts. ts ++ b) h.texts_are ∙ append_assoc h.done (h.next ∷ h.rest) b;
  count = h.count;
  part = h.part;
  bytes = h.bytes;
  calls = h.calls;
}

front_before : (k l : SinkNow) (a b : List (List ℕ)) → WroteFront k l a → WroteFront k l (a ++ b)
front_before k l a b h = record {
  done = h.done;
  rest = h.rest ++ b;
  texts_are = ap (λ ts. ts ++ b) h.texts_are ∙ append_assoc h.done h.rest b;
  bytes = h.bytes;
  calls = calls_before h.calls;
} where
  calls_before : (l.calls ≡ counted (length h.done) k.calls) ⊎ ((1 ≤ length h.rest) × (l.calls ≡ counted (suc (length h.done)) k.calls))
      → (l.calls ≡ counted (length h.done) k.calls) ⊎ ((1 ≤ length (h.rest ++ b)) × (l.calls ≡ counted (suc (length h.done)) k.calls))
  calls_before (inl e) = inl e
  calls_before (inr e) = let len = length-append h.rest b in inr (omega (arith, len, e.0), e.1)

fault_before : (p : Type 0) (k l : SinkNow) (a b : List (List ℕ)) → (WriteFailed k l × WroteSome k l a) ⊎ (⊥ × WroteAll k l a)
    → (WriteFailed k l × WroteSome k l (a ++ b)) ⊎ (p × WroteAll k l (a ++ b))
fault_before p k l a b (inl h) = inl (h.0, some_before k l a b h.1)
fault_before p k l a b (inr h) = absurd h.0

-- a writing that did not come to its end
abbrev pub IsCut : Course → Type 0
IsCut write_fault = ⊤
IsCut no_memory = ⊤
IsCut course = ⊥

pub writes_before : (p : Type 0) (k l : SinkNow) (a b : List (List ℕ)) (c : Course) → IsCut c → Writes k l ⊥ a c → Writes k l p (a ++ b) c
writes_before p k l a b write_fault cut h = record { only = tt; wrote = fault_before p k l a b h.wrote; steady = tt; grown = h.grown }
writes_before p k l a b no_memory cut h = record { only = tt; wrote = front_before k l a b h.wrote; steady = h.steady; grown = h.grown }
writes_before p k l a b whole cut h = absurd cut
writes_before p k l a b usage cut h = absurd cut
writes_before p k l a b read_fault cut h = absurd cut
writes_before p k l a b silent cut h = absurd cut

-- a put that may have failed
fault_put : (p q : Type 0) (k l : SinkNow) (a : List (List ℕ)) → (p → q) → (WriteFailed k l × WroteSome k l a) ⊎ (p × WroteAll k l a) → (WriteFailed k l × WroteSome k l a) ⊎ (q × WroteAll k l a)
fault_put p q k l a f (inl h) = inl h
fault_put p q k l a f (inr h) = inr (f h.0, h.1)

pub writes_put : (p q : Type 0) (k l : SinkNow) (a : List (List ℕ)) (c : Course) → (p → q) → Writes k l p a c → Writes k l q a c
writes_put p q k l a whole f h = record { only = tt; wrote = h.wrote; steady = h.steady; grown = h.grown }
writes_put p q k l a write_fault f h = record { only = tt; wrote = fault_put p q k l a f h.wrote; steady = tt; grown = h.grown }
writes_put p q k l a no_memory f h = record { only = tt; wrote = h.wrote; steady = h.steady; grown = h.grown }
writes_put p q k l a usage f h = absurd h.only
writes_put p q k l a read_fault f h = absurd h.only
writes_put p q k l a silent f h = absurd h.only

pub writes_silent : (p : Type 0) (k l : SinkNow) (a : List (List ℕ)) (c : Course) → Writes k l p a c → IsSilent k l c
writes_silent p k l a whole h = tt
writes_silent p k l a write_fault h = tt
writes_silent p k l a no_memory h = tt
writes_silent p k l a usage h = absurd h.only
writes_silent p k l a read_fault h = absurd h.only
writes_silent p k l a silent h = absurd h.only

-- why a write failed
pub fault_cause : (p : Type 0) (k l : SinkNow) (a : List (List ℕ)) → Wrote k l p a write_fault → WriteFailed k l ⊎ p
fault_cause p k l a (inl h) = inl h.0
fault_cause p k l a (inr h) = inr h.0

-- one text by one write

pub one_written : (k l : SinkNow) (text : List ℕ) (r : Result Unit SinkError) → WriteAnswer k.written l.written text (Rose k.faults l.faults) r → WriteCounts k.faults l.faults r → k.faults ≤ l.faults → l.calls ≡ next_count k.calls
    → Writes k l ⊥ (text ∷ []) (of_writing r)
one_written k l text (Ok u) h steady grown calls = record { only = tt; wrote = (subst (Gained k.written l.written) (sym (append-nil text)) h, calls); steady = steady; grown = grown }
one_written k l text (Err Failed) h steady grown calls = record {
  only = tt;
  wrote = inl (h.0, record { done = []; next = text; rest = []; texts_are = refl; count = h.1.0; part = h.1.1; bytes = h.1.2; calls = calls });
  steady = tt;
  grown = grown;
}
one_written k l text (Err NoMemory) h steady grown calls = record {
  only = tt;
  wrote = record { done = []; rest = text ∷ []; texts_are = refl; bytes = subst (λ w. Gained k.written w []) (sym h) (Gained-nil k.written); calls = inr (omega arith, calls) };
  steady = steady;
  grown = grown;
}
