-- An answer, or the first limit that is met: each limit is a case, and nothing goes on behind one.
use Rattle.std.specs.Prelude.{◌≡◌, ℕ, nat_lt, ◌==◌, ◌-◌, ◌^◌, if◌then◌else◌, Result, Ok, Err}
use Rattle.script_words.specs.declared.stops.CounterKind.{CounterKind}
use Rattle.script_words.specs.declared.stops.Stop.{Stop}
use Rattle.script_words.specs.declared.stops.Stop.TheVariants.{Stack, Text, Counter, NoMemory}

-- Full: the most levels are open. TooLong: a text would have this length. Spent: this counter has no number left.
pub data Outcome (A : Type 0) : Type 0 where
  Goes : (answer : A) → Outcome A
  Full : Outcome A
  TooLong : (length : ℕ) → Outcome A
  Spent : (which : CounterKind) → Outcome A

abbrev pub then_do : {A B : Type 0} → Outcome A → (A → Outcome B) → Outcome B
then_do (Goes x) f = f x
then_do Full f = Full
then_do (TooLong n) f = TooLong n
then_do (Spent which) f = Spent which

-- a fact of the answer, where there is one
abbrev pub IfGoes : {A : Type 0} → Outcome A → (A → Type 0) → Type 0
IfGoes (Goes x) P = P x
IfGoes Full P = Unit {0}
IfGoes (TooLong n) P = Unit {0}
IfGoes (Spent which) P = Unit {0}

-- a counter gives the numbers below 2^62 − 1
abbrev pub last_number : ℕ
last_number = 2 ^ 62 - 1

abbrev pub with_number : {A : Type 0} → CounterKind → ℕ → Outcome A → Outcome A
with_number which next o = if next == last_number then Spent which else o

-- the most open levels over all threads
abbrev pub most_levels : ℕ
most_levels = 65536

-- one more level is opened
abbrev pub with_room : {A : Type 0} → ℕ → A → Outcome A
with_room levels x = if nat_lt levels most_levels then Goes x else Full

-- a stop tells the limit that was met; want of memory tells nothing
abbrev pub StopIs : {T A : Type 0} → Result T Stop → Outcome A → Type 0
StopIs (Ok t) o = Unit {0}
StopIs (Err Stack) o = o ≡ Full
StopIs (Err (Text n)) o = o ≡ TooLong n
StopIs (Err (Counter which)) o = o ≡ Spent which
StopIs (Err NoMemory) o = Unit {0}
