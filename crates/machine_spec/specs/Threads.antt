-- What a statement keeps, what it does with its thread, how a thread stands, and how others see it.
pub use Rattle.machine_spec.specs.declared.threads.Count.{Count}
pub use Rattle.machine_spec.specs.declared.threads.Count.TheVariants.{Whole, Infinite}
pub use Rattle.machine_spec.specs.declared.threads.WaitState.{WaitState}
pub use Rattle.machine_spec.specs.declared.threads.GlideState.{GlideState}
pub use Rattle.machine_spec.specs.declared.threads.Context.{Context}
pub use Rattle.machine_spec.specs.declared.threads.Context.TheVariants.{Fresh, Repeat, Wait, Glide, Started, Asked, Spoken, Called}
pub use Rattle.machine_spec.specs.declared.threads.Filter.{Filter}
pub use Rattle.machine_spec.specs.declared.threads.Filter.TheVariants.{Broadcast, Backdrop, Key, Flag, CloneStart, Clicked}
pub use Rattle.machine_spec.specs.declared.threads.Control.{Control}
pub use Rattle.machine_spec.specs.declared.threads.Control.TheVariants.{Next, Branch, Yield, YieldTick, Promise, Call, StopThis, StopOthers, StopAll, DeleteClone, Start, Clone}
pub use Rattle.machine_spec.specs.declared.threads.Status.{Status}
pub use Rattle.machine_spec.specs.declared.threads.Status.TheVariants.{Running, YieldTick as Ticking, PromiseWait as Waiting, Done}
use Rattle.std.specs.Prelude.{ℕ, ◌==◌, List, [], ◌∷◌, find, option_to_list, flat_map, Bool, true, false, if◌then◌else◌}
use Rattle.std.specs.List.{list_any}
use Rattle.scratch_values.specs.declared.value.Value.{Value}

-- the most turns that a loop can have left, of either sign: those of the largest number of the profile, 9·10^12
abbrev pub most_turns : ℕ
most_turns = 9000000000000

-- the parameters of a called procedure by name
abbrev pub Params : Type 0
Params = List (List ℕ × Value)

-- a thread of the list as rows see it
pub record Listed : Type 0 where
  pub serial : ℕ
  pub status : Status

-- the threads of these serials that are listed, those that are done too
abbrev pub among : List Listed → List ℕ → List Listed
among ts serials = flat_map (λ n. option_to_list (find (λ t. t.serial == n) ts)) serials

abbrev pub is_running : Status → Bool
is_running Running = true
is_running Ticking = false
is_running Waiting = false
is_running Done = false

abbrev pub is_done : Status → Bool
is_done Running = false
is_done Ticking = false
is_done Waiting = false
is_done Done = true

-- waiting for started threads: go on where none is listed, tick where none of them can run, else yield
abbrev pub wait_for : List Listed → Control
wait_for [] = Next
wait_for (t ∷ ts) = if list_any (λ x. is_running x.status) (t ∷ ts) then Yield else YieldTick
