-- Threads in their places, whatever a thread is.
pub use Rattle.machine_spec.specs.declared.threads.Which.{Which}
pub use Rattle.machine_spec.specs.declared.threads.Which.TheVariants.{Slot, Detached}
use Rattle.std.specs.Prelude.{ℕ, ◌+◌, List, map, slice_get, slice_set, sum_by, Option, Some, None, option_map, IfSome, All}

-- the thread list, and a running thread that was replaced in it
pub record Places (A : Type 0) : Type 0 where
  pub list : List A
  pub detached : Option A

abbrev pub at_place : {A : Type 0} → Which → Places A → Option A
at_place (Slot i) ts = slice_get ts.list i
at_place Detached ts = ts.detached

abbrev pub put : {A : Type 0} → Which → A → Places A → Places A
put (Slot i) t ts = record { list = slice_set ts.list i t; detached = ts.detached }
put Detached t ts = record { list = ts.list; detached = Some t }

abbrev pub put_some : {A : Type 0} → Option A → (A → A) → Which → Places A → Places A
put_some None f which ts = ts
put_some (Some t) f which ts = put which (f t) ts

-- one thread changed, where there is one
abbrev pub on_place : {A : Type 0} → (A → A) → Which → Places A → Places A
on_place f which ts = put_some (at_place which ts) f which ts

-- where the running thread is while a slot is visited: a detached thread is the running one
abbrev pub place_by : {A : Type 0} → ℕ → Option A → Which
place_by i None = Slot i
place_by i (Some t) = Detached

abbrev pub place : {A : Type 0} → ℕ → Places A → Which
place i ts = place_by i ts.detached

-- the running thread; after stop all there is none
abbrev pub running : {A : Type 0} → ℕ → Places A → Option A
running i ts = at_place (place i ts) ts

abbrev pub on_running : {A : Type 0} → (A → A) → ℕ → Places A → Places A
on_running f i ts = on_place f (place i ts) ts

-- the sum over all threads, the detached one included
abbrev pub sum_some : {A : Type 0} → (A → ℕ) → Option A → ℕ
sum_some f None = 0
sum_some f (Some t) = f t

abbrev pub sum_over : {A : Type 0} → (A → ℕ) → Places A → ℕ
sum_over f ts = sum_by f ts.list + sum_some f ts.detached

-- each thread as f shows it
abbrev pub shown_by : {A B : Type 0} → (A → B) → Places A → Places B
shown_by f ts = record { list = map f ts.list; detached = option_map f ts.detached }

-- a fact of every thread
pub record Everyone {A : Type 0} (P : A → Type 0) (ts : Places A) : Type 0 where
  pub listed : All P ts.list
  pub detached : IfSome ts.detached P
