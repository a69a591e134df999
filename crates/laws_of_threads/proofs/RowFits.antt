-- What each row says of its thread, and what it leaves as it was.
use Rattle.std.proofs.Common.{List, ◌≡◌, ℕ, [], ◌∷◌, ◌++◌, length, Option, ◌⊎◌, subst}
use Rattle.std.specs.Prelude.{◌<◌}
use Rattle.opcode_table.specs.declared.kinds.Kind.{Kind}
use Rattle.machine_spec.specs.declared.threads.Context.{Context}
use Rattle.machine_spec.specs.declared.threads.Context.TheVariants.{Asked, Spoken}
use Rattle.machine_spec.specs.declared.threads.Control.{Control}
use Rattle.machine_spec.specs.declared.threads.Control.TheVariants.{Promise, Clone}
use Rattle.machine_spec.specs.Outcome.{Outcome, Goes, Full, TooLong, Spent, IfGoes, then_do}
use Rattle.machine_spec.specs.Program.{Records, Procedure}
use Rattle.machine_spec.specs.declared.instance.Instance.{Instance}
use Rattle.machine_spec.specs.Stores.{Devices}
use Rattle.machine_spec.specs.Parts.{Scene}
use Rattle.laws_of_threads.specs.Positions.{ControlFits}
use Rattle.laws_of_threads.specs.Promises.{askers, speakers, IsLive, AskersLive, SpeakersLive}
use Rattle.laws_of_threads.proofs.Faces.{Faces}

pub goes_then : {A B : Type 0} (o : Outcome A) (f : A → Outcome B) (P : A → Type 0) (Q : B → Type 0) → IfGoes o P → ((x : A) → P x → IfGoes (f x) Q) → IfGoes (then_do o f) Q
goes_then (Goes x) f P Q h g = g x h
goes_then Full f P Q h g = tt
goes_then (TooLong n) f P Q h g = tt
goes_then (Spent which) f P Q h g = tt

pub goes_any : {A B : Type 0} (o : Outcome A) (f : A → Outcome B) (Q : B → Type 0) → ((x : A) → IfGoes (f x) Q) → IfGoes (then_do o f) Q
goes_any (Goes x) f Q g = g x
goes_any Full f Q g = tt
goes_any (TooLong n) f Q g = tt
goes_any (Spent which) f Q g = tt

pub goes_weaker : {A : Type 0} (o : Outcome A) (P Q : A → Type 0) → ((x : A) → P x → Q x) → IfGoes o P → IfGoes o Q
goes_weaker (Goes x) P Q f h = f x h
goes_weaker Full P Q f h = tt
goes_weaker (TooLong n) P Q f h = tt
goes_weaker (Spent which) P Q f h = tt

pub goes_is : {A : Type 0} (o : Outcome A) (P : A → Type 0) (x : A) → o ≡ Goes x → IfGoes o P → P x
goes_is o P x e h = subst (λ y. IfGoes y P) e h

-- who waits is as before
abbrev pub Quiet : Devices → Devices → Type 0
Quiet d e = (askers e ≡ askers d) × (speakers e ≡ speakers d) × ((is : List Instance) → AskersLive is d → AskersLive is e) × ((is : List Instance) → SpeakersLive is d → SpeakersLive is e)

-- a thread that asks or speaks waits too
abbrev pub Noted : (here thread : ℕ) → Control → Context → Devices → Devices → Type 0
Noted here thread Promise Asked d e = (askers e ≡ askers d ++ thread ∷ []) × (speakers e ≡ speakers d) × ((is : List Instance) → IsLive is here → AskersLive is d → AskersLive is e) × ((is : List Instance) → SpeakersLive is d → SpeakersLive is e)
Noted here thread Promise Spoken d e = (askers e ≡ askers d) × (speakers e ≡ speakers d ++ thread ∷ []) × ((is : List Instance) → AskersLive is d → AskersLive is e) × ((is : List Instance) → IsLive is here → SpeakersLive is d → SpeakersLive is e)
Noted here thread _ _ d e = Quiet d e

-- what is cloned is the instance itself or an original
abbrev pub CloneFits : Records → (here : ℕ) → Control → Type 0
CloneFits records here (Clone n) = (n ≡ here) ⊎ (n < length records.targets)
CloneFits records here _ = Unit {0}

-- the scene before a row and after it, the context that the statement keeps, and the control
pub record RowFits (records : Records) (here thread next : ℕ) (k : Kind) (q : Option Procedure) (s t : Scene) (c : Context) (x : Control) : Type 0 where
  pub faces : Faces s.targets t.targets
  pub clock : t.devices.clock ≡ s.devices.clock
  pub noted : Noted here thread x c s.devices t.devices
  pub control : ControlFits s.devices.clock next k q c x
  pub clone : CloneFits records here x
