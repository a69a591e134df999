-- What a call owes whatever the files stand for: about faults, silence, what is held, and calls; by how far it came.
use Rattle.std.proofs.Common.{◌≡◌, ◌⊎◌, ℕ, ◌+◌, ◌≤◌, List, Option, None, Some, Ok, Err, Vec, refl, sym, ap, ◌∙◌, subst, inl, inr, ⊎_elim, arith}
use Rattle.std.specs.declared.alloc.Global.{Global}
use Rattle.sv_channels.specs.Counts.{next_count, Rose, NoneRose}
use Rattle.sv_channels.specs.Shelf.{Puts, KeepsOthers}
use Rattle.sv_channels.specs.declared.errors.FetchError.{FetchError}
use Rattle.sv_channels.specs.declared.errors.FetchError.TheVariants as fetch
use Rattle.sv_channels.proofs.Gains.{Gained-nil}
use Rattle.call_outcomes.specs.Calls.{counted, puts_of, Calls as CallsMade}
use Rattle.call_outcomes.specs.Course.{Course, usage, read_fault, write_fault, no_memory, silent, whole}
use Rattle.call_outcomes.specs.Faults.{FaultCause, FetchFailed, PutFailed, WriteFailed, HidesNothing}
use Rattle.call_outcomes.specs.Seen.{ShelfNow, SinkNow}
use Rattle.call_outcomes.specs.Shelving.{PutsText, Shelved, IsShelved}
use Rattle.call_outcomes.specs.Stages.{Fetches, Writes}
use Rattle.call_outcomes.specs.Writes.{IsSilent}
use Rattle.call_outcomes.proofs.Writings.{counted_more, fault_cause}
use Rattle.run_save.specs.declared.status.Which.{Which}
use Rattle.play_command.specs.Calls.{files_of, name_of_save}
use Rattle.play_command.specs.Causes.{FileFailed}
use Rattle.play_command.specs.Command.{Command}
use Rattle.play_command.specs.Promise.{course}
use Rattle.play_command.specs.Saving.{PutsSteadily}
use Rattle.play_command.specs.Stages.{unfetched}

-- so many files were fetched, and nothing failed
pub record Reached (n : ℕ) (s t : ShelfNow) : Type 0 where
  pub held : t.held ≡ s.held
  pub fetches : NoneRose s.fetch_faults t.fetch_faults
  pub puts : NoneRose s.put_faults t.put_faults
  pub calls : t.calls ≡ counted n s.calls

none_rose_behind : (before then after : List ℕ → ℕ) → NoneRose before then → NoneRose then after → NoneRose before after
none_rose_behind before then after e f = λ name. f name ∙ e name

pub reached_none : (s : ShelfNow) → Reached 0 s s
reached_none s = record { held = refl; fetches = λ name. refl; puts = λ name. refl; calls = refl }

one_more : (n before then after : ℕ) → then ≡ counted n before → after ≡ next_count then → after ≡ counted (n + 1) before
one_more n before then after e f = f ∙ ap next_count e ∙ sym (counted_more n 1 before)

pub reached_more : (n : ℕ) (name : List ℕ) (limit : ℕ) (s m t : ShelfNow) (bytes : Vec ℕ Global) → Reached n s m → Fetches name limit m t (Ok bytes) → Reached (n + 1) s t
reached_more n name limit s m t bytes r h = record {
  held = h.held ∙ r.held;
  fetches = none_rose_behind s.fetch_faults m.fetch_faults t.fetch_faults r.fetches h.steady;
  puts = none_rose_behind s.put_faults m.put_faults t.put_faults r.puts h.put_faults;
  calls = one_more n s.calls m.calls t.calls r.calls h.calls;
}

-- What is owed, where so many files were fetched before nothing more is done, and a put may be made under a name
pub record Costs (command : Command) (name : Option (List ℕ)) (fetched : ℕ) (s t : ShelfNow) (k l : SinkNow) (c : Course) : Type 0 where
  pub fault : FaultCause (FileFailed s t command) (WriteFailed k l ⊎ PutFailed s t (name_of_save command)) c
  pub honest : HidesNothing s t k l c
  pub silent : IsSilent k l c
  pub held : IsShelved s t name c
  pub calls : CallsMade s t (files_of command) fetched (puts_of name) c

shelf_same : (s t : ShelfNow) (name : Option (List ℕ)) (c : Course) → t.held ≡ s.held → IsShelved s t name c
shelf_same s t None c h = h
shelf_same s t (Some name) whole h = tt
shelf_same s t (Some name) write_fault h = tt
shelf_same s t (Some name) usage h = h
shelf_same s t (Some name) read_fault h = h
shelf_same s t (Some name) no_memory h = h
shelf_same s t (Some name) silent h = h

-- A file is not fetched

pub failed_before : (n : ℕ) (name : List ℕ) (s m t : ShelfNow) → Reached n s m → FetchFailed m t name → FetchFailed s t name
failed_before n name s m t r h = subst (λ x. Rose x (t.fetch_faults name)) (r.fetches name) h

pub costs_unfetched : (command : Command) (save : Option (List ℕ)) (file : Which) (n : ℕ) (name : List ℕ) (limit fetched : ℕ) (s m t : ShelfNow) (k : SinkNow) (e : FetchError) → Reached n s m → Fetches name limit m t (Err e)
    → (FetchFailed s t name → FileFailed s t command) → n + 1 ≤ files_of command → n + 1 ≡ fetched → Costs command save fetched s t k k (course (unfetched file e))
costs_unfetched command save file n name limit fetched s m t k fetch.Failed r h f few at = record {
  fault = f (failed_before n name s m t r h.told);
  honest = (none_rose_behind s.put_faults m.put_faults t.put_faults r.puts h.put_faults, refl);
  silent = (Gained-nil k.written, refl);
  held = shelf_same s t save read_fault (h.held ∙ r.held);
  calls = (n + 1, (omega arith, few), one_more n s.calls m.calls t.calls r.calls h.calls);
}
costs_unfetched command save file n name limit fetched s m t k (fetch.TooLarge l) r h f few at = record {
  fault = tt;
  honest = record {
    fetches = none_rose_behind s.fetch_faults m.fetch_faults t.fetch_faults r.fetches h.steady;
    puts = none_rose_behind s.put_faults m.put_faults t.put_faults r.puts h.put_faults;
    writes = refl;
  };
  silent = (Gained-nil k.written, refl);
  held = shelf_same s t save silent (h.held ∙ r.held);
  calls = (n + 1, at, one_more n s.calls m.calls t.calls r.calls h.calls);
}
costs_unfetched command save file n name limit fetched s m t k fetch.NoMemory r h f few at = record {
  fault = tt;
  honest = record {
    fetches = none_rose_behind s.fetch_faults m.fetch_faults t.fetch_faults r.fetches h.steady;
    puts = none_rose_behind s.put_faults m.put_faults t.put_faults r.puts h.put_faults;
    writes = refl;
  };
  silent = tt;
  held = shelf_same s t save no_memory (h.held ∙ r.held);
  calls = (n + 1, omega (arith, few), one_more n s.calls m.calls t.calls r.calls h.calls);
}

-- Nothing more is called: a file is refused, or memory runs out

pub costs_silent : (command : Command) (save : Option (List ℕ)) (n fetched : ℕ) (s t : ShelfNow) (k : SinkNow) → Reached n s t → n ≡ fetched → Costs command save fetched s t k k silent
costs_silent command save n fetched s t k r at = record {
  fault = tt;
  honest = record { fetches = r.fetches; puts = r.puts; writes = refl };
  silent = (Gained-nil k.written, refl);
  held = shelf_same s t save silent r.held;
  calls = (n, at, r.calls);
}

pub costs_wanting : (command : Command) (save : Option (List ℕ)) (n fetched : ℕ) (s t : ShelfNow) (k : SinkNow) → Reached n s t → n ≤ files_of command → Costs command save fetched s t k k no_memory
costs_wanting command save n fetched s t k r few = record {
  fault = tt;
  honest = record { fetches = r.fetches; puts = r.puts; writes = refl };
  silent = tt;
  held = shelf_same s t save no_memory r.held;
  calls = (n, omega (arith, few), r.calls);
}

-- All files were fetched, and texts were written and a text put

pub put_failed_before : (s m t : ShelfNow) (save : Option (List ℕ)) → NoneRose s.put_faults m.put_faults → PutFailed m t save → PutFailed s t save
put_failed_before s m t None e h = h
put_failed_before s m t (Some name) e h = subst (λ n. Rose n (t.put_faults name)) (e name) h

puts_before : (s m t : ShelfNow) (name : List ℕ) (saved : Option (List ℕ)) → m.held ≡ s.held → PutsText m t name saved → PutsText s t name saved
puts_before s m t name None e h = h ∙ e
puts_before s m t name (Some text) e h = subst (λ held. Puts held t.held name text) e h

fault_before : (s m t : ShelfNow) (name : List ℕ) → m.held ≡ s.held → NoneRose s.put_faults m.put_faults → (t.held ≡ m.held) ⊎ (Rose (m.put_faults name) (t.put_faults name) × KeepsOthers m.held t.held name)
    → (t.held ≡ s.held) ⊎ (Rose (s.put_faults name) (t.put_faults name) × KeepsOthers s.held t.held name)
fault_before s m t name e p (inl h) = inl (h ∙ e)
fault_before s m t name e p (inr h) = inr (subst (λ n. Rose n (t.put_faults name)) (p name) h.0, subst (λ held. KeepsOthers held t.held name) e h.1)

pub shelved_before : (s m t : ShelfNow) (name saved : Option (List ℕ)) (c : Course) → m.held ≡ s.held → NoneRose s.put_faults m.put_faults → Shelved m t name saved c → Shelved s t name saved c
shelved_before s m t None saved c e p h = h ∙ e
shelved_before s m t (Some name) saved whole e p h = puts_before s m t name saved e h
shelved_before s m t (Some name) saved write_fault e p h = fault_before s m t name e p h
shelved_before s m t (Some name) saved usage e p h = h ∙ e
shelved_before s m t (Some name) saved read_fault e p h = h ∙ e
shelved_before s m t (Some name) saved no_memory e p h = h ∙ e
shelved_before s m t (Some name) saved silent e p h = h ∙ e

is_shelved : (s t : ShelfNow) (name saved : Option (List ℕ)) (c : Course) → Shelved s t name saved c → IsShelved s t name c
is_shelved s t None saved c h = h
is_shelved s t (Some name) saved whole h = tt
is_shelved s t (Some name) saved write_fault h = tt
is_shelved s t (Some name) saved usage h = h
is_shelved s t (Some name) saved read_fault h = h
is_shelved s t (Some name) saved no_memory h = h
is_shelved s t (Some name) saved silent h = h

counted_behind : (files n before then after : ℕ) → then ≡ counted files before → after ≡ counted n then → after ≡ counted (files + n) before
counted_behind files n before then after e f = f ∙ ap (counted n) e ∙ sym (counted_more files n before)

-- by which course it went
by_course : (command : Command) (name saved : Option (List ℕ)) (fetched : ℕ) (s m t : ShelfNow) (k l : SinkNow) (texts : List (List ℕ)) (c : Course) → Reached (files_of command) s m → Writes k l (PutFailed m t (name_of_save command)) texts c
    → NoneRose m.fetch_faults t.fetch_faults → PutsSteadily m t c → CallsMade m t 0 0 (puts_of name) c → Shelved s t name saved c → Costs command name fetched s t k l c
by_course command name saved fetched s m t k l texts whole r w f p n h = record {
  fault = tt;
  honest = record { fetches = none_rose_behind s.fetch_faults m.fetch_faults t.fetch_faults r.fetches f; puts = none_rose_behind s.put_faults m.put_faults t.put_faults r.puts p; writes = w.steady };
  silent = tt;
  held = is_shelved s t name saved whole h;
  calls = (files_of command + n.0, omega (arith, n.1), counted_behind (files_of command) n.0 s.calls m.calls t.calls r.calls n.2);
}
by_course command name saved fetched s m t k l texts no_memory r w f p n h = record {
  fault = tt;
  honest = record { fetches = none_rose_behind s.fetch_faults m.fetch_faults t.fetch_faults r.fetches f; puts = none_rose_behind s.put_faults m.put_faults t.put_faults r.puts p; writes = w.steady };
  silent = tt;
  held = is_shelved s t name saved no_memory h;
  calls = (files_of command + n.0, omega (arith, n.1), counted_behind (files_of command) n.0 s.calls m.calls t.calls r.calls n.2);
}
by_course command name saved fetched s m t k l texts write_fault r w f p n h = record {
  fault = ⊎_elim (λ x. inl x) (λ x. inr (put_failed_before s m t (name_of_save command) r.puts x)) (fault_cause (PutFailed m t (name_of_save command)) k l texts w.wrote);
  honest = none_rose_behind s.fetch_faults m.fetch_faults t.fetch_faults r.fetches f;
  silent = tt;
  held = is_shelved s t name saved write_fault h;
  calls = (files_of command + n.0, (omega arith, omega (arith, n.1.1)), counted_behind (files_of command) n.0 s.calls m.calls t.calls r.calls n.2);
}
by_course command name saved fetched s m t k l texts usage r w f p n h = absurd w.only
by_course command name saved fetched s m t k l texts read_fault r w f p n h = absurd w.only
by_course command name saved fetched s m t k l texts silent r w f p n h = absurd w.only

pub costs_played : (command : Command) (name saved : Option (List ℕ)) (fetched : ℕ) (s m t : ShelfNow) (k l : SinkNow) (texts : List (List ℕ)) (c : Course) → Reached (files_of command) s m → Writes k l (PutFailed m t (name_of_save command)) texts c
    → NoneRose m.fetch_faults t.fetch_faults → PutsSteadily m t c → CallsMade m t 0 0 (puts_of name) c → Shelved m t name saved c → Costs command name fetched s t k l c
costs_played command name saved fetched s m t k l texts c r w f p n h = by_course command name saved fetched s m t k l texts c r w f p n (shelved_before s m t name saved c r.held r.puts h)
