-- A legal thread.
use Rattle.std.specs.Prelude.{◌≡◌, ℕ, List, [], ◌∷◌, ◌⊎◌, Bool, true, false}
use Rattle.machine_spec.specs.declared.instance.Instance.{Instance}
use Rattle.machine_spec.specs.declared.threads.Context.TheVariants.{Asked, Spoken}
use Rattle.machine_spec.specs.Program.{Program, Head, hat_block, scripts_at}
use Rattle.machine_spec.specs.Pending.{Item, Held}
use Rattle.machine_spec.specs.Tasks.{Task}
use Rattle.machine_spec.specs.Threads.{is_done}
use Rattle.machine_spec.specs.Legal.{Legal, StatusFits}
use Rattle.laws_of_threads.specs.Lists.{Member}
use Rattle.laws_of_threads.specs.Instances.{Hosts}
use Rattle.laws_of_threads.specs.Positions.{FirstKeptWell}

-- the thread waits for an answer, or for the end of its bubble
abbrev pub is_asked : List Item → Bool
is_asked (Held s Asked ∷ r) = true
is_asked _ = false

abbrev pub is_spoken : List Item → Bool
is_spoken (Held s Spoken ∷ r) = true
is_spoken _ = false

-- a head is among these
abbrev pub Holds : Head → List Head → Type 0
Holds h [] = ⊥
Holds h (x ∷ xs) = (x ≡ h) ⊎ Holds h xs

-- Among these instances, at a clock, where the serials below the next one were given, with the serials of the threads that
-- questions and timers name: its instance is live; its hat block heads a script of the instance's target; what it has to do
-- is legal, and its status and what it keeps fit; it is named by a question only where it has asked, and by a timer only
-- where it has spoken.
pub record IsThread (p : Program) (is : List Instance) (clock next : ℕ) (asking speaking : List ℕ) (t : Task) : Type 0 where
  pub target : ℕ
  pub hosted : Hosts t.of target is
  pub head : Head
  pub heads : Holds head (scripts_at target p).heads
  pub hat : hat_block head ≡ t.hat
  pub legal : Legal p head.script clock t.items t.warp
  pub status : StatusFits t.status t.items
  pub kept : FirstKeptWell next t.items
  pub asked : Member t.serial asking → is_asked t.items ≡ true
  pub spoken : Member t.serial speaking → is_spoken t.items ≡ true

-- during a frame a thread that is done has nothing to do
abbrev pub Stays : Program → List Instance → (clock next : ℕ) → (asking speaking : List ℕ) → Task → Type 0
Stays p is clock next asking speaking t = ((is_done t.status ≡ true) × (t.items ≡ [])) ⊎ IsThread p is clock next asking speaking t
