-- An output and the part of it that was written.
use Rattle.std.proofs.Common.{◌≡◌, ℕ, ◌≤◌, List, [], ◌++◌, Ok, Err, refl, sym, ap, ◌∙◌, subst, inl, arith, append_assoc, append-nil}
use Rattle.call_outcomes.specs.Course.{whole, write_fault, no_memory}
use Rattle.call_outcomes.specs.Seen.{SinkNow}
use Rattle.call_outcomes.specs.Stages.{Writes}
use Rattle.call_outcomes.specs.Writes.{WroteAll}
use Rattle.call_outcomes.proofs.Writings.{all_none, all_behind, writes_behind, writes_before}
use Rattle.machine_spec.specs.declared.lines.Line.{Line}
use Rattle.machine_spec.specs.declared.lines.LineRefusal.{LineRefusal}
use Rattle.machine_spec.specs.declared.lines.LineRefusal.TheVariants as line_refusal
use Rattle.machine_spec.specs.Outcome.{Outcome}
use Rattle.machine_spec.specs.Output.{Output, Whole, BadLine, ends, in_front}
use Rattle.machine_spec.specs.Program.{Program}
use Rattle.machine_spec.specs.Tasks.{Task}
use Rattle.machine_spec.specs.World.{World}
use Rattle.script_play.specs.Lines.{line_writes, LineEnds, PlaysLine}
use Rattle.script_play.specs.Scripts.{EndsAt, EndsBy, IsLineEnd, PlaysAs}
use Rattle.script_play.specs.Stops.{course_of}
use Rattle.script_play.specs.declared.stops.PlayStop.{PlayStop}
use Rattle.script_play.specs.declared.stops.PlayStop.TheVariants.{BadScript, Limit, WriteFault, NoMemory}
use Rattle.script_play.proofs.Turns.{follows, IsLast, line_last, limit_ends}

-- these texts were written, and then the left ones make the whole
pub record IsPartOf (all left : Output) (k m : SinkNow) : Type 0 where
  pub done : List (List ℕ)
  pub front : all.writes ≡ done ++ left.writes
  pub ending : left.ending ≡ all.ending
  pub wrote : WroteAll k m done
  pub steady : m.faults ≡ k.faults

-- before the first line
pub part_none : (all : Output) (k : SinkNow) → IsPartOf all all k k
part_none all k = record { done = []; front = refl; ending = refl; wrote = all_none k; steady = refl }

-- the texts of one more line were written
pub part_more : (all left next : Output) (fs : List (List ℕ)) (k m l : SinkNow) → IsPartOf all left k m → left ≡ in_front fs next → Writes m l ⊥ fs whole → IsPartOf all next k l
part_more all left next fs k m l part e h =
    let fronts : left.writes ≡ fs ++ next.writes = ap (λ (o : Output). o.writes) e in
    record {
      done = part.done ++ fs;
      front = part.front ∙ ap (λ gs. part.done ++ gs) fronts ∙ sym (append_assoc part.done fs next.writes);
      ending = sym (ap (λ (o : Output). o.ending) e) ∙ part.ending;
      wrote = all_behind k m l part.done fs part.wrote h.wrote;
      steady = h.steady ∙ part.steady;
    }

-- A line that stops the play

whole_is : (all left next : Output) (fs : List (List ℕ)) (k m : SinkNow) (part : IsPartOf all left k m) → left ≡ in_front fs next → all.writes ≡ (part.done ++ fs) ++ next.writes
whole_is all left next fs k m part e =
    part.front ∙ ap (λ (o : Output). part.done ++ o.writes) e ∙ sym (append_assoc part.done fs next.writes)

stopped_writes : (all left next : Output) (fs : List (List ℕ)) (k m l : SinkNow) (end : PlayStop) → IsPartOf all left k m → left ≡ in_front fs next → IsLast end next → Writes m l ⊥ fs (course_of end) → Writes k l ⊥ all.writes (course_of end)
stopped_writes all left next fs k m l (Limit x) part e last h =
    let same : all.writes ≡ part.done ++ fs = whole_is all left next fs k m part e ∙ ap (λ gs. (part.done ++ fs) ++ gs) last ∙ append-nil (part.done ++ fs) in
    subst (λ texts. Writes k l ⊥ texts whole) (sym same) (writes_behind ⊥ k m l part.done fs whole part.wrote part.steady h)
stopped_writes all left next fs k m l WriteFault part e last h =
    subst (λ texts. Writes k l ⊥ texts write_fault) (sym (whole_is all left next fs k m part e))
    (writes_before ⊥ k l (part.done ++ fs) next.writes write_fault tt (writes_behind ⊥ k m l part.done fs write_fault part.wrote part.steady h))
stopped_writes all left next fs k m l NoMemory part e last h =
    subst (λ texts. Writes k l ⊥ texts no_memory) (sym (whole_is all left next fs k m part e))
    (writes_before ⊥ k l (part.done ++ fs) next.writes no_memory tt (writes_behind ⊥ k m l part.done fs no_memory part.wrote part.steady h))
stopped_writes all left next fs k m l (BadScript r) part e last h = absurd last

stopped_ends : (p : Program) (n last : ℕ) (lines : List (List ℕ)) (o : Outcome (World Task)) (fs : List (List ℕ)) (all left : Output) (w : World Task) (k m : SinkNow) (end : PlayStop) → IsPartOf all left k m
    → left ≡ in_front fs (follows p n last o lines) → LineEnds o (Err end) → EndsAt all.ending w (Err end)
stopped_ends p n last lines o fs all left w k m (Limit x) part e h =
    subst (λ ending. EndsBy ending x) (sym (ap (λ (a : Output). a.ending) e) ∙ part.ending) (limit_ends p n last lines o x h)
stopped_ends p n last lines o fs all left w k m WriteFault part e h = tt
stopped_ends p n last lines o fs all left w k m NoMemory part e h = tt
stopped_ends p n last lines o fs all left w k m (BadScript r) part e h = absurd h

pub part_stopped : (p : Program) (line : Line) (o : Outcome (World Task)) (n last : ℕ) (lines : List (List ℕ)) (all left : Output) (w : World Task) (k m l : SinkNow) (end : PlayStop) → IsPartOf all left k m
    → left ≡ in_front (line_writes p line o) (follows p n last o lines) → PlaysLine p line o m l (Err end) → PlaysAs all w k l (Err end)
part_stopped p line o n last lines all left w k m l end part e h = record {
  ends = stopped_ends p n last lines o (line_writes p line o) all left w k m end part e h.ends;
  writes = stopped_writes all left (follows p n last o lines) (line_writes p line o) k m l end part e (line_last p n last lines o end h.ends) h.writes;
}

-- Nothing is left

grown : (k m : SinkNow) → m.faults ≡ k.faults → k.faults ≤ m.faults
grown k m e = omega (arith, e)

all_written : (all left : Output) (k m : SinkNow) → IsPartOf all left k m → left.writes ≡ [] → Writes k m ⊥ all.writes whole
all_written all left k m part none =
    let same : all.writes ≡ part.done = part.front ∙ ap (λ gs. part.done ++ gs) none ∙ append-nil part.done in
    subst (λ texts. Writes k m ⊥ texts whole) (sym same) (record { only = tt; wrote = part.wrote; steady = part.steady; grown = grown k m part.steady })

pub part_ended : (all left : Output) (w : World Task) (k m : SinkNow) → IsPartOf all left k m → left ≡ ends [] (Whole w) → PlaysAs all w k m (Ok tt)
part_ended all left w k m part e = record {
  ends = sym part.ending ∙ ap (λ (o : Output). o.ending) e;
  writes = all_written all left k m part (ap (λ (o : Output). o.writes) e);
}

-- a refused line
pub part_refused : (all left : Output) (w : World Task) (k m : SinkNow) (r : LineRefusal) (end : PlayStop) → IsPartOf all left k m → IsLineEnd r end → ((r ≡ line_refusal.NoMemory → ⊥) → left ≡ ends [] (BadLine r)) → PlaysAs all w k m (Err end)
part_refused all left w k m r (BadScript s) part h f =
    let e = f h.1 in
    record {
      ends = (sym part.ending ∙ ap (λ (o : Output). o.ending) e ∙ ap BadLine (sym h.0), λ x. h.1 (sym h.0 ∙ x));
      writes = all_written all left k m part (ap (λ (o : Output). o.writes) e);
    }
part_refused all left w k m r NoMemory part h f = record {
  ends = tt;
  writes = record {
    only = tt;
    wrote = record { done = part.done; rest = left.writes; texts_are = part.front; bytes = part.wrote.0; calls = inl part.wrote.1 };
    steady = part.steady;
    grown = grown k m part.steady;
  };
}
part_refused all left w k m r (Limit l) part h f = absurd h
part_refused all left w k m r WriteFault part h f = absurd h

-- no writer of frames could be made
pub play_wants : (all : Output) (w : World Task) (k : SinkNow) → PlaysAs all w k k (Err NoMemory)
play_wants all w k = record {
  ends = tt;
  writes = record {
    only = tt;
    wrote = record { done = []; rest = all.writes; texts_are = refl; bytes = (all_none k).0; calls = inl refl };
    steady = refl;
    grown = grown k k refl;
  };
}
