-- What the short ways to the values of reporters give, in document order; the contracts of private functions alone cite it.
use Rattle.std.specs.Prelude.{ℕ, Bool, not, ◌++◌}
use Rattle.scratch_number.specs.declared.number.Num.{Num}
use Rattle.scratch_number.specs.Arithmetic.{round}
use Rattle.scratch_values.specs.Casts.{number, truth}
use Rattle.scratch_values.specs.Value.{text_of}
use Rattle.scratch_values.specs.declared.value.Value.{Value}
use Rattle.scratch_values.specs.declared.value.Value.TheVariants.{Number, Truth}
use Rattle.machine_spec.specs.Outcome.{Outcome, then_do}
use Rattle.machine_spec.specs.Texts.{text_value}
use Rattle.machine_spec.specs.Words.{Words, Drawn, undrawn, made_of}
use Rattle.project_spec.specs.declared.blocks.Operand.{Operand}
use Rattle.evaluate.specs.declared.view.View.{View}
use Rattle.evaluate.specs.declared.ways.Arithmetic.{Arithmetic}
use Rattle.evaluate.specs.declared.ways.Comparison.{Comparison}
use Rattle.evaluate.specs.declared.ways.Connective.{Connective}
use Rattle.evaluate.specs.declared.ways.Way.{Way}
use Rattle.evaluate.specs.declared.ways.Way.TheVariants.{Numbers, Rounded, Values, Truths, Negated, Joined, Arguments}
use Rattle.evaluate.specs.Plugged.{IsPluggedIn}
use Rattle.evaluate.specs.Seen.{operand_value, reporter_value}
use Rattle.evaluate.specs.Ways.{calculated, compared, connected}

-- the number of a value, and whether it holds
abbrev pub counts : Outcome (Drawn Value) → Outcome (Drawn Num)
counts o = then_do o (made_of number)

abbrev pub holds : Outcome (Drawn Value) → Outcome (Drawn Bool)
holds o = then_do o (made_of truth)

-- what is made of what two operands give, the first one first
abbrev pub calculation : View → Arithmetic → Operand → Operand → Words → Outcome (Drawn Num)
calculation v f x y w = then_do (counts (operand_value v x w)) (λ a. then_do (counts (operand_value v y a.words)) (made_of (calculated f a.value)))

abbrev pub comparison : View → Comparison → Operand → Operand → Words → Outcome (Drawn Bool)
comparison v f x y w = then_do (operand_value v x w) (λ a. then_do (operand_value v y a.words) (made_of (compared f a.value)))

abbrev pub connective : View → Connective → Operand → Operand → Words → Outcome (Drawn Bool)
connective v f x y w = then_do (holds (operand_value v x w)) (λ a. then_do (holds (operand_value v y a.words)) (made_of (connected f a.value)))

abbrev pub both_texts : View → Operand → Operand → Words → Outcome (Drawn Value)
both_texts v x y w =
    then_do (operand_value v x w) (λ a. then_do (operand_value v y a.words) (λ b. then_do (text_value (text_of a.value ++ text_of b.value)) (undrawn b.words)))

-- what is made of what one operand gives
abbrev pub rounded : View → Operand → Words → Outcome (Drawn Num)
rounded v x w = then_do (counts (operand_value v x w)) (made_of round)

abbrev pub negated : View → Operand → Words → Outcome (Drawn Bool)
negated v x w = then_do (holds (operand_value v x w)) (made_of not)

-- the value of a reporter that has this way
abbrev pub by_way : View → ℕ → Way → Words → Outcome (Drawn Value)
by_way v j (Numbers f x y) w = then_do (calculation v f x.now y.now w) (made_of (λ n. Number n))
by_way v j (Rounded x) w = then_do (rounded v x.now w) (made_of (λ n. Number n))
by_way v j (Values f x y) w = then_do (comparison v f x.now y.now w) (made_of (λ b. Truth b))
by_way v j (Truths f x y) w = then_do (connective v f x.now y.now w) (made_of (λ b. Truth b))
by_way v j (Negated x) w = then_do (negated v x.now w) (made_of (λ b. Truth b))
by_way v j (Joined x y) w = both_texts v x.now y.now w
by_way v j Arguments w = reporter_value v j w

-- the operands of a way are plugged into the reporter
abbrev pub IsWayPlugged : View → ℕ → Way → Type 0
IsWayPlugged v j (Numbers f x y) = IsPluggedIn v j x.now × IsPluggedIn v j y.now
IsWayPlugged v j (Rounded x) = IsPluggedIn v j x.now
IsWayPlugged v j (Values f x y) = IsPluggedIn v j x.now × IsPluggedIn v j y.now
IsWayPlugged v j (Truths f x y) = IsPluggedIn v j x.now × IsPluggedIn v j y.now
IsWayPlugged v j (Negated x) = IsPluggedIn v j x.now
IsWayPlugged v j (Joined x y) = IsPluggedIn v j x.now × IsPluggedIn v j y.now
IsWayPlugged v j Arguments = Unit {0}
