-- The threads that questions and bubble timers name.
use Rattle.std.specs.Prelude.{ℕ, ◌<◌, List, map}
use Rattle.machine_spec.specs.declared.instance.Instance.{Instance}
use Rattle.machine_spec.specs.Stores.{Devices}
use Rattle.laws_of_threads.specs.Lists.{Each, Member, Differ}

-- the threads that wait for an answer, and those that wait for the end of a bubble
abbrev pub askers : Devices → List ℕ
askers d = map (λ q. q.thread) d.questions

abbrev pub speakers : Devices → List ℕ
speakers d = map (λ t. t.thread) d.timers

-- the instances of questions and timers are live
abbrev pub IsLive : List Instance → ℕ → Type 0
IsLive is n = Member n (map (λ i. i.number) is)

abbrev pub AskersLive : List Instance → Devices → Type 0
AskersLive is d = Each (λ q. IsLive is q.of) d.questions

abbrev pub SpeakersLive : List Instance → Devices → Type 0
SpeakersLive is d = Each (λ t. IsLive is t.of) d.timers

-- these serials differ, and were given before
pub record Serials (next : ℕ) (serials : List ℕ) : Type 0 where
  pub differ : Differ serials
  pub given : Each (λ n. n < next) serials
