-- What the rules on a thread ask of the devices: the clock, and the threads that questions and timers name.
use Rattle.std.specs.Prelude.{◌≡◌, ℕ, ◌==◌, Bool, List}
use Rattle.std.specs.List.{list_any}
use Rattle.std.specs.BTreeSet.{contains_by}
use Rattle.std.specs.Ordering.{nat_cmp}
use Rattle.machine_spec.specs.declared.devices.Question.{Question}
use Rattle.machine_spec.specs.declared.devices.BubbleTimer.{BubbleTimer}
use Rattle.machine_spec.specs.Stores.{Devices}
use Rattle.saved_levels.specs.declared.waiting_threads.Waiting.{Waiting}

-- a question names the thread
abbrev pub has_asked : Waiting → ℕ → Bool
has_asked w serial = contains_by (nat_cmp serial) w.asked

-- a timer names the thread
abbrev pub has_spoken : Waiting → ℕ → Bool
has_spoken w serial = contains_by (nat_cmp serial) w.spoken

-- it tells the clock, and of each thread whether one of these names it
pub record Tells (w : Waiting) (clock : ℕ) (questions : List Question) (timers : List BubbleTimer) : Type 0 where
  pub clock_is : w.clock ≡ clock
  pub asked_is : (serial : ℕ) → has_asked w serial ≡ list_any (λ q. q.thread == serial) questions
  pub spoken_is : (serial : ℕ) → has_spoken w serial ≡ list_any (λ t. t.thread == serial) timers

-- it tells what devices say
abbrev pub TellsOf : Waiting → Devices → Type 0
TellsOf w d = Tells w d.clock d.questions d.timers
