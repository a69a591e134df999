-- Hats that are started keep a fact of worlds.
use Rattle.std.proofs.Common.{◌≡◌, ℕ, ◌==◌, Bool, true, false, List, [], ◌∷◌, Option, refl, if◌then◌else◌}
use Rattle.std.specs.Prelude.{◌+◌, position}
use Rattle.std.specs.List.{list_any}
use Rattle.opcode_table.specs.Kinds.{hat_kind}
use Rattle.script_words.specs.declared.stops.CounterKind.{CounterKind}
use Rattle.script_words.specs.declared.stops.CounterKind.TheVariants as counter
use Rattle.machine_spec.specs.declared.threads.Filter.{Filter}
use Rattle.machine_spec.specs.Outcome.{Outcome, Goes, Full, TooLong, Spent, IfGoes, then_do, last_number, with_number}
use Rattle.machine_spec.specs.Places.{Places}
use Rattle.machine_spec.specs.Program.{Program}
use Rattle.machine_spec.specs.Script.{Statement, op_of}
use Rattle.machine_spec.specs.Starting.{Pair, Crowd, appended, placed, joined, is_of, is_alive_of, new_thread, ignored_or_appended, start_by, start_one, start_all, restarts, starts}
use Rattle.machine_spec.specs.Tasks.{Task, tasks, begin_pairs, begin}
use Rattle.machine_spec.specs.World.{World}
use Rattle.laws_of_threads.proofs.Numbers.{equal_true, clash}
use Rattle.laws_of_threads.proofs.RowFits.{goes_then, goes_any}
use Rattle.laws_of_threads.proofs.Keeping.{KeepsAtClock}

-- two facts of one answer
pub goes_both : {A : Type 0} (o : Outcome A) (P Q : A → Type 0) → IfGoes o P → IfGoes o Q → IfGoes o (λ x. P x × Q x)
goes_both (Goes x) P Q g h = (g, h)
goes_both Full P Q g h = tt
goes_both (TooLong n) P Q g h = tt
goes_both (Spent which) P Q g h = tt

-- what follows an answer knows that it is this answer
pub goes_known : {A B : Type 0} (o : Outcome A) (f : A → Outcome B) (P : A → Type 0) (Q : B → Type 0) → IfGoes o P → ((x : A) → o ≡ Goes x → P x → IfGoes (f x) Q) → IfGoes (then_do o f) Q
goes_known (Goes x) f P Q h g = g x refl h
goes_known Full f P Q h g = tt
goes_known (TooLong n) f P Q h g = tt
goes_known (Spent which) f P Q h g = tt

number_by : {A : Type 0} (b : Bool) (which : CounterKind) (o : Outcome A) (P : A → Type 0) → (b ≡ false → IfGoes o P) → IfGoes (if b then Spent which else o) P
number_by true which o P h = tt
number_by false which o P h = h refl

-- a number that is given is not the last
pub number_known : {A : Type 0} (which : CounterKind) (next : ℕ) (o : Outcome A) (P : A → Type 0) → ((next ≡ last_number → ⊥) → IfGoes o P) → IfGoes (with_number which next o) P
number_known which next o P h = number_by (next == last_number) which o P (λ e. h (λ same. clash (next == last_number) (equal_true next last_number same) e))

module _ (p : Program) (P : ℕ → Statement → Type 0) (Q : World Task → Type 0) (keeps : KeepsAtClock p P Q) where
  -- the world with the threads and the next number of a crowd
  abbrev pub OfCrowd : World Task → Crowd Task → Type 0
  OfCrowd w c = Q (record w { threads = c.threads; next_thread = c.next })

  joined_keeps : (w : World Task) (c : Crowd Task) (o : Outcome (Places Task)) → OfCrowd w c → IfGoes (joined c o) (OfCrowd w)
  joined_keeps w c o h = number_known counter.Thread c.next _ (OfCrowd w)
      (λ ne. goes_any o _ (OfCrowd w) (λ ts. keeps.threads (record w { threads = c.threads; next_thread = c.next + 1 }) ts (keeps.given (record w { threads = c.threads; next_thread = c.next }) ne h)))

  ignored_keeps : (b : Bool) (w : World Task) (x : Pair) (c : Crowd Task) → OfCrowd w c → IfGoes (ignored_or_appended b tasks x c) (OfCrowd w)
  ignored_keeps true w x c h = h
  ignored_keeps false w x c h = joined_keeps w c (appended tasks (new_thread tasks x c) c.threads) h

  start_keeps : (b : Bool) (w : World Task) (r : Option ℕ) (x : Pair) (c : Crowd Task) → OfCrowd w c → IfGoes (start_by b tasks r x c) (OfCrowd w)
  start_keeps true w r x c h = joined_keeps w c (placed tasks r (position (is_of tasks x) c.threads.list) (new_thread tasks x c) c.threads) h
  start_keeps false w r x c h = ignored_keeps (list_any (is_alive_of tasks x) c.threads.list) w x c h

  pub all_keep : (w : World Task) (r : Option ℕ) (xs : List Pair) (c : Crowd Task) → OfCrowd w c → IfGoes (start_all tasks r xs c) (OfCrowd w)
  all_keep w r [] c h = h
  all_keep w r (x ∷ xs) c h = goes_then (start_one tasks r x c) _ (OfCrowd w) (OfCrowd w) (start_keeps (restarts (hat_kind (op_of x.head.hat))) w r x c h) (λ d g. all_keep w r xs d g)

  pub pairs_keep : (r : Option ℕ) (xs : List Pair) (w : World Task) → Q w → IfGoes (begin_pairs r xs w) (λ b. Q b.world)
  pairs_keep r xs w h = goes_then (start_all tasks r xs (record { threads = w.threads; next = w.next_thread; serials = [] })) _ (OfCrowd w) (λ b. Q b.world)
      (all_keep w r xs (record { threads = w.threads; next = w.next_thread; serials = [] }) h) (λ c g. g)

  pub begin_keeps : (r : Option ℕ) (f : Filter) (w : World Task) → Q w → IfGoes (begin p r f w) (λ b. Q b.world)
  begin_keeps r f w h = pairs_keep r (starts p f w.targets) w h
