-- The words of a saved run, each with what it stands for; private functions alone cite these.
use Rattle.std.specs.Prelude.{ℕ, List, [], ◌∷◌, codes}
use Rattle.machine_spec.specs.declared.bubble.Say.{Say}
use Rattle.machine_spec.specs.declared.bubble.Say.TheVariants as kind
use Rattle.machine_spec.specs.declared.threads.Count.{Count}
use Rattle.machine_spec.specs.declared.threads.Count.TheVariants.{Infinite}
use Rattle.machine_spec.specs.declared.threads.Status.{Status}
use Rattle.machine_spec.specs.declared.threads.Status.TheVariants.{Running, YieldTick, PromiseWait}
use Rattle.machine_spec.specs.declared.variables.Shown.{Shown}
use Rattle.machine_spec.specs.declared.variables.Shown.TheVariants.{Variable, List as Items}

-- kinds of bubbles
abbrev pub say_words : List (List ℕ × Say)
say_words = (codes "say", kind.Say) ∷ (codes "think", kind.Think) ∷ []

-- endless turns
abbrev pub count_words : List (List ℕ × Count)
count_words = (codes "inf", Infinite) ∷ []

-- how threads stand
abbrev pub status_words : List (List ℕ × Status)
status_words = (codes "run", Running) ∷ (codes "tick", YieldTick) ∷ (codes "wait", PromiseWait) ∷ []

-- what added monitors show
abbrev pub shown_words : List (List ℕ × (ℕ → ℕ → Shown))
shown_words = (codes "variable", Variable) ∷ (codes "list", Items) ∷ []
