-- The play of a run with its saving.
use Rattle.std.proofs.Common.{◌≡◌, ℕ, ◌<◌, ◌≤◌, Bool, true, false, cond, ltb, List, [], ◌∷◌, ◌++◌, length, Option, None, Some, Result, Ok, Err, refl, sym, ap, subst, inl, inr, arith, append-nil}
use Rattle.std.specs.Prelude.{⊤}
use Rattle.std.proofs.lemmas.Bool.Decides.{nat_tests}
use Rattle.sv_channels.specs.Counts.{NoneRose}
use Rattle.sv_channels.specs.declared.errors.PutError.{PutError}
use Rattle.sv_channels.specs.declared.errors.PutError.TheVariants as put
use Rattle.call_outcomes.specs.Course.{Course, usage, read_fault, write_fault, no_memory, silent, whole}
use Rattle.call_outcomes.specs.Faults.{PutFailed}
use Rattle.call_outcomes.specs.Seen.{ShelfNow, SinkNow}
use Rattle.call_outcomes.specs.Shelving.{Shelved}
use Rattle.call_outcomes.specs.Stages.{PutsOnce, Writes}
use Rattle.call_outcomes.specs.Writes.{WroteAll}
use Rattle.call_outcomes.proofs.Writings.{all_none, writes_none, writes_wanting, writes_behind, writes_before, writes_put}
use Rattle.machine_spec.specs.Output.{Output, Ending as RunEnding, Whole, BadLine, Limited, ends}
use Rattle.machine_spec.specs.Tasks.{Task}
use Rattle.machine_spec.specs.World.{World}
use Rattle.saved_spec.specs.Saved.{saved_limit}
use Rattle.run_save.specs.declared.status.Limit.{Limit as LimitMet}
use Rattle.run_save.specs.declared.status.Limit.TheVariants as limit
use Rattle.script_play.specs.Limits.{limit_save_line, IsLimitEnd}
use Rattle.script_play.specs.Lines.{IsWriteEnd}
use Rattle.script_play.specs.Scripts.{EndsBy, PlaysAs}
use Rattle.script_play.specs.Stops.{course, course_of}
use Rattle.script_play.specs.declared.stops.PlayStop.{PlayStop}
use Rattle.script_play.specs.declared.stops.PlayStop.TheVariants.{BadScript, Limit, WriteFault, NoMemory}
use Rattle.play_command.specs.Causes.{is_whole, ending_at}
use Rattle.play_command.specs.Outcome.{ran, unsaved, Outcome, only_written, all_of, at_ending, put_or_told, text_from, accepted_line, told_counts}
use Rattle.play_command.specs.Saving.{EndsAs, IsSavedAs, name_in, text_in, put_stop}
use Rattle.play_command.specs.declared.counts.Counts.{Counts}
use Rattle.play_command.specs.declared.playback.Saving.{Saving}

none_rose : (count : List ℕ → ℕ) → NoneRose count count
none_rose count = λ name. refl

-- nothing fails of which nothing is told
nothing_failed : (q : Type 0) → ⊥ → q
nothing_failed q x = absurd x

-- what a shelf holds that was not called
abbrev IsKept : Course → Type 0
IsKept whole = ⊥
IsKept course = ⊤

shelf_kept : (s : ShelfNow) (name saved : Option (List ℕ)) (c : Course) → IsKept c → Shelved s s name saved c
shelf_kept s None saved c h = refl
shelf_kept s (Some name) saved whole h = absurd h
shelf_kept s (Some name) saved write_fault h = inl refl
shelf_kept s (Some name) saved usage h = refl
shelf_kept s (Some name) saved read_fault h = refl
shelf_kept s (Some name) saved no_memory h = refl
shelf_kept s (Some name) saved silent h = refl

-- nothing was done for want of memory
pub ends_wanting : (save : Option (List ℕ)) (o : Outcome) (s : ShelfNow) (k : SinkNow) → EndsAs save o s s k k (Err NoMemory)
ends_wanting save o s k = record {
  ends = tt;
  writes = writes_wanting (PutFailed s s save) k o.texts;
  fetches = none_rose s.fetch_faults;
  puts = none_rose s.put_faults;
  calls = (0, omega arith, refl);
  shelf = shelf_kept s save o.saved no_memory tt;
}

-- nothing is saved
pub ends_unsaved : (w : World Task) (s : ShelfNow) (k : SinkNow) → EndsAs None (only_written [] (Whole w)) s s k k (Ok tt)
ends_unsaved w s k = record {
  ends = refl;
  writes = writes_none ⊥ k;
  fetches = none_rose s.fetch_faults;
  puts = none_rose s.put_faults;
  calls = (0, refl, refl);
  shelf = refl;
}

-- the counts of a project were told
pub ends_told : (c : Counts) (s : ShelfNow) (k l : SinkNow) (answer : Result (Unit {0}) PlayStop) → IsWriteEnd answer → Writes k l ⊥ (accepted_line c ∷ []) (course answer) → EndsAs None (told_counts c) s s k l answer
ends_told c s k l (Ok u) h w = record {
  ends = refl;
  writes = w;
  fetches = none_rose s.fetch_faults;
  puts = none_rose s.put_faults;
  calls = (0, refl, refl);
  shelf = refl;
}
ends_told c s k l (Err WriteFault) h w = record {
  ends = tt;
  writes = w;
  fetches = none_rose s.fetch_faults;
  puts = tt;
  calls = (0, (omega arith, omega arith), refl);
  shelf = refl;
}
ends_told c s k l (Err NoMemory) h w = record {
  ends = tt;
  writes = w;
  fetches = none_rose s.fetch_faults;
  puts = none_rose s.put_faults;
  calls = (0, omega arith, refl);
  shelf = refl;
}
ends_told c s k l (Err (BadScript r)) h w = absurd h
ends_told c s k l (Err (Limit m)) h w = absurd h

-- A text is put

abbrev pub put_outcome : (text : List ℕ) → RunEnding → Outcome
put_outcome text ending = record { texts = []; ending = ran ending; saved = Some text }

abbrev pub long_outcome : (n : ℕ) → Outcome
long_outcome n = record { texts = limit_save_line n ∷ []; ending = unsaved n; saved = None }

pub is_put : (text : List ℕ) (ending : RunEnding) → length text ≤ saved_limit → put_or_told text [] ending ≡ put_outcome text ending
is_put text ending h =
    let small : ltb saved_limit (length text) ≡ false = grind (arith, nat_tests) in
    ap (λ b. cond b (long_outcome (length text)) (put_outcome text ending)) small

pub is_long : (text : List ℕ) (ending : RunEnding) → saved_limit < length text → put_or_told text [] ending ≡ long_outcome (length text)
is_long text ending h =
    let large : ltb saved_limit (length text) ≡ true = grind (arith, nat_tests) in
    ap (λ b. cond b (long_outcome (length text)) (put_outcome text ending)) large

pub ends_put : (name text : List ℕ) (w : World Task) (s t : ShelfNow) (k : SinkNow) → PutsOnce name text s t (Ok tt) → EndsAs (Some name) (put_outcome text (Whole w)) s t k k (Ok tt)
ends_put name text w s t k h = record {
  ends = refl;
  writes = writes_none (PutFailed s t (Some name)) k;
  fetches = h.fetch_faults;
  puts = h.steady;
  calls = (1, refl, h.calls);
  shelf = h.told;
}

pub ends_unput : (name text : List ℕ) (w : World Task) (s t : ShelfNow) (k : SinkNow) (e : PutError) → PutsOnce name text s t (Err e) → EndsAs (Some name) (put_outcome text (Whole w)) s t k k (Err (put_stop e))
ends_unput name text w s t k put.Failed h = record {
  ends = tt;
  writes = record { only = tt; wrote = inr (h.told.0, all_none k); steady = tt; grown = omega arith };
  fetches = h.fetch_faults;
  puts = tt;
  calls = (1, (omega arith, omega arith), h.calls);
  shelf = inr h.told;
}
ends_unput name text w s t k put.NoMemory h = record {
  ends = tt;
  writes = writes_wanting (PutFailed s t (Some name)) k [];
  fetches = h.fetch_faults;
  puts = h.steady;
  calls = (1, omega arith, h.calls);
  shelf = h.told;
}

-- the text is too long, which a line tells
pub ends_long : (name : List ℕ) (n : ℕ) (s : ShelfNow) (k l : SinkNow) (end : PlayStop) → IsLimitEnd (limit.Save n) end → Writes k l ⊥ (limit_save_line n ∷ []) (course_of end) → EndsAs (Some name) (long_outcome n) s s k l (Err end)
ends_long name n s k l (Limit m) is w = record {
  ends = ap ending_at (sym is);
  writes = writes_put ⊥ (PutFailed s s (Some name)) k l (limit_save_line n ∷ []) whole (nothing_failed _) w;
  fetches = none_rose s.fetch_faults;
  puts = none_rose s.put_faults;
  calls = (0, refl, refl);
  shelf = refl;
}
ends_long name n s k l WriteFault is w = record {
  ends = tt;
  writes = writes_put ⊥ (PutFailed s s (Some name)) k l (limit_save_line n ∷ []) write_fault (nothing_failed _) w;
  fetches = none_rose s.fetch_faults;
  puts = tt;
  calls = (0, (omega arith, omega arith), refl);
  shelf = inl refl;
}
ends_long name n s k l NoMemory is w = record {
  ends = tt;
  writes = writes_put ⊥ (PutFailed s s (Some name)) k l (limit_save_line n ∷ []) no_memory (nothing_failed _) w;
  fetches = none_rose s.fetch_faults;
  puts = none_rose s.put_faults;
  calls = (0, omega arith, refl);
  shelf = refl;
}
ends_long name n s k l (BadScript r) is w = absurd is

-- What is written before

abbrev pub behind : List (List ℕ) → Outcome → Outcome
behind writes o = record { texts = writes ++ o.texts; ending = o.ending; saved = o.saved }

put_behind : (b : Bool) (text : List ℕ) (writes : List (List ℕ)) (ending : RunEnding)
    → cond b (record { texts = writes ++ limit_save_line (length text) ∷ []; ending = unsaved (length text); saved = None }) (record { texts = writes; ending = ran ending; saved = Some text })
    ≡ behind writes (cond b (long_outcome (length text)) (put_outcome text ending))
put_behind true text writes ending = refl
put_behind false text writes ending = ap (λ ws. record { texts = ws; ending = ran ending; saved = Some text }) (sym (append-nil writes))

ending_behind : (text : World Task → List ℕ) (writes : List (List ℕ)) (ending : RunEnding) → at_ending text writes ending ≡ behind writes (at_ending text [] ending)
ending_behind text writes (Whole last) = put_behind (ltb saved_limit (length (text last))) (text last) writes (Whole last)
ending_behind text writes (BadLine r) = ap (λ ws. only_written ws (BadLine r)) (sym (append-nil writes))
ending_behind text writes (Limited stop) = ap (λ ws. only_written ws (Limited stop)) (sym (append-nil writes))

all_behind : (save : Option (List ℕ)) (text : World Task → List ℕ) (run : Output) → all_of save text run ≡ behind run.writes (all_of save text (ends [] run.ending))
all_behind None text run = ap (λ ws. only_written ws run.ending) (sym (append-nil run.writes))
all_behind (Some name) text run = ending_behind text run.writes run.ending

ends_behind : (save : Option (List ℕ)) (writes : List (List ℕ)) (o : Outcome) (s t : ShelfNow) (k m l : SinkNow) (answer : Result (Unit {0}) PlayStop) → WroteAll k m writes → m.faults ≡ k.faults → EndsAs save o s t m l answer
    → EndsAs save (behind writes o) s t k l answer
ends_behind save writes o s t k m l answer wrote faults h = record {
  ends = h.ends;
  writes = writes_behind (PutFailed s t save) k m l writes o.texts (course answer) wrote faults h.writes;
  fetches = h.fetches;
  puts = h.puts;
  calls = h.calls;
  shelf = h.shelf;
}

-- A run that is not played to its end is not saved

plain_ending : (text : World Task → List ℕ) (writes : List (List ℕ)) (ending : RunEnding) → is_whole (ran ending) ≡ false → at_ending text writes ending ≡ only_written writes ending
plain_ending text writes (Whole last) h = absurd (cc h)
plain_ending text writes (BadLine r) h = refl
plain_ending text writes (Limited stop) h = refl

plain_all : (save : Option (List ℕ)) (text : World Task → List ℕ) (run : Output) → is_whole (ran run.ending) ≡ false → all_of save text run ≡ only_written run.writes run.ending
plain_all None text run h = refl
plain_all (Some name) text run h = plain_ending text run.writes run.ending h

pub ends_by : (ending : RunEnding) (l : LimitMet) → EndsBy ending l → ran ending ≡ ending_at l
ends_by ending limit.Stack h = ap ran h
ends_by ending (limit.Text n) h = ap ran h
ends_by ending (limit.Counter which) h = ap ran h
ends_by ending (limit.Save n) h = absurd h

pub limit_not_whole : (ending : RunEnding) (l : LimitMet) → ran ending ≡ ending_at l → is_whole (ran ending) ≡ false
limit_not_whole ending limit.Stack h = ap is_whole h
limit_not_whole ending (limit.Text n) h = ap is_whole h
limit_not_whole ending (limit.Counter which) h = ap is_whole h
limit_not_whole ending (limit.Save n) h = ap is_whole h

-- the script was not played to its end
pub ends_early : (save : Option (List ℕ)) (text : World Task → List ℕ) (run : Output) (w : World Task) (s : ShelfNow) (k l : SinkNow) (end : PlayStop) → PlaysAs run w k l (Err end) → EndsAs save (all_of save text run) s s k l (Err end)
ends_early save text run w s k l (BadScript r) h =
    subst (λ o. EndsAs save o s s k l (Err (BadScript r))) (sym (plain_all save text run (ap (λ e. is_whole (ran e)) h.ends.0)))
    (record {
      ends = (ap ran h.ends.0, h.ends.1);
      writes = writes_put ⊥ (PutFailed s s save) k l run.writes whole (nothing_failed _) h.writes;
      fetches = none_rose s.fetch_faults;
      puts = none_rose s.put_faults;
      calls = (0, refl, refl);
      shelf = refl;
    })
ends_early save text run w s k l (Limit m) h =
    let is = ends_by run.ending m h.ends in
    subst (λ o. EndsAs save o s s k l (Err (Limit m))) (sym (plain_all save text run (limit_not_whole run.ending m is)))
    (record {
      ends = is;
      writes = writes_put ⊥ (PutFailed s s save) k l run.writes whole (nothing_failed _) h.writes;
      fetches = none_rose s.fetch_faults;
      puts = none_rose s.put_faults;
      calls = (0, refl, refl);
      shelf = refl;
    })
ends_early save text run w s k l WriteFault h =
    let rest = all_of save text (ends [] run.ending) in
    subst (λ o. EndsAs save o s s k l (Err WriteFault)) (sym (all_behind save text run))
    (record {
      ends = tt;
      writes = writes_before (PutFailed s s save) k l run.writes rest.texts write_fault tt h.writes;
      fetches = none_rose s.fetch_faults;
      puts = tt;
      calls = (0, (omega arith, omega arith), refl);
      shelf = shelf_kept s save rest.saved write_fault tt;
    })
ends_early save text run w s k l NoMemory h =
    let rest = all_of save text (ends [] run.ending) in
    subst (λ o. EndsAs save o s s k l (Err NoMemory)) (sym (all_behind save text run))
    (record {
      ends = tt;
      writes = writes_before (PutFailed s s save) k l run.writes rest.texts no_memory tt h.writes;
      fetches = none_rose s.fetch_faults;
      puts = none_rose s.put_faults;
      calls = (0, omega arith, refl);
      shelf = shelf_kept s save rest.saved no_memory tt;
    })

-- it was, and the run was saved
pub ends_late : (save : Option (List ℕ)) (text : World Task → List ℕ) (run : Output) (w : World Task) (s t : ShelfNow) (k m l : SinkNow) (answer : Result (Unit {0}) PlayStop) → PlaysAs run w k m (Ok tt)
    → EndsAs save (all_of save text (ends [] (Whole w))) s t m l answer → EndsAs save (all_of save text run) s t k l answer
ends_late save text run w s t k m l answer p h =
    subst (λ o. EndsAs save o s t k l answer) (sym (all_behind save text run))
    (subst (λ e. EndsAs save (behind run.writes (all_of save text (ends [] e))) s t k l answer) (sym p.ends)
    (ends_behind save run.writes (all_of save text (ends [] (Whole w))) s t k m l answer p.writes.wrote p.writes.steady h))

-- How a run is saved, in the words of the command

pub ends_as : (save : Option (List ℕ)) (digest : List ℕ) (seed : ℕ) (saving : Option Saving) (run : Output) (s t : ShelfNow) (k l : SinkNow) (answer : Result (Unit {0}) PlayStop) → IsSavedAs save digest seed saving
    → EndsAs (name_in saving) (all_of (name_in saving) (text_in saving) run) s t k l answer → EndsAs save (all_of save (text_from digest seed) run) s t k l answer
ends_as None digest seed None run s t k l answer is h = h
ends_as None digest seed (Some saving) run s t k l answer is h = absurd is
ends_as (Some name) digest seed None run s t k l answer is h = absurd is
ends_as (Some name) digest seed (Some saving) run s t k l answer is h =
    subst (λ n. EndsAs (Some n) (all_of (Some n) (text_from digest seed) run) s t k l answer) is.0
    (subst (λ d. EndsAs (Some saving.name.now) (all_of (Some saving.name.now) (text_from d seed) run) s t k l answer) is.1
    (subst (λ n. EndsAs (Some saving.name.now) (all_of (Some saving.name.now) (text_from saving.digest n) run) s t k l answer) is.2 h))
