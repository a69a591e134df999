-- Timers that end one after another.
use Rattle.std.proofs.Common.{◌≡◌, ℕ, zero, suc, ◌+◌, ◌-◌, ◌<◌, ◌≤◌, Bool, true, false, Err, refl, ap, ◌∙◌, arith}
use Rattle.script_words.specs.declared.stops.Stop.{Stop}
use Rattle.machine_spec.specs.Frame.{timers_ended}
use Rattle.machine_spec.specs.Outcome.{Outcome, Goes, StopIs}
use Rattle.machine_spec.specs.Slice.{go_on}
use Rattle.machine_spec.specs.Tasks.{Task}
use Rattle.machine_spec.specs.World.{World}
use Rattle.executions.proofs.Stops.{stop-same}
use Rattle.frames.specs.Timers.{next_end}

-- Turn by turn

timers-none : (w : World Task) → timers_ended zero w ≡ Goes w
unfolding timers_ended
timers-none w = refl

timers-more : (n : ℕ) (w : World Task) → timers_ended (suc n) w ≡ next_end w (timers_ended n)
unfolding timers_ended
timers-more n w = refl

module _ (n ended : ℕ) (all : Outcome (World Task)) (w : World Task) (same : all ≡ timers_ended (n - ended) w) where
  pub timers-over : n ≤ ended → all ≡ Goes w
  timers-over le =
      let none : n - ended ≡ 0 = omega arith in
      same ∙ ap (λ k. timers_ended k w) none ∙ timers-none w

  module _ (lt : ended < n) where
    here : all ≡ next_end w (timers_ended (n - (ended + 1)))
    here =
        let one : n - ended ≡ suc (n - (ended + 1)) = omega arith in
        same ∙ ap (λ k. timers_ended k w) one ∙ timers-more (n - (ended + 1)) w

    abbrev rest : World Task → Outcome (World Task)
    rest = timers_ended (n - (ended + 1))

    pub timers-on : (more : Bool) (new : World Task) → more ≡ true → next_end w rest ≡ go_on more rest (λ v. Goes v) new → all ≡ timers_ended (n - (ended + 1)) new
    timers-on more new is e = here ∙ e ∙ ap (λ b. go_on b rest (λ v. Goes v) new) is

    pub timers-off : (more : Bool) (new : World Task) → more ≡ false → next_end w rest ≡ go_on more rest (λ v. Goes v) new → all ≡ Goes new
    timers-off more new is e = here ∙ e ∙ ap (λ b. go_on b rest (λ v. Goes v) new) is

    pub timers-stop : (T U : Type 0) (stop : Stop) → StopIs {T = T} (Err stop) (next_end w rest) → StopIs {T = U} (Err stop) all
    timers-stop T U stop h = stop-same T U stop _ _ here h
