-- What a reporter gives by a short way.
use Rattle.std.proofs.Common.{◌≡◌, ℕ, Bool, List, [], ◌∷◌, ◌++◌, refl, ◌∙◌}
use Rattle.std.specs.Prelude.{codes, not}
use Rattle.opcode_table.specs.declared.opcode.Opcode.{Opcode}
use Rattle.opcode_table.specs.declared.opcode.Opcode.TheVariants.{OperatorNot, OperatorJoin, OperatorRound}
use Rattle.scratch_number.specs.Arithmetic.{round}
use Rattle.scratch_values.specs.declared.names.ResolvedField.{ResolvedField}
use Rattle.scratch_values.specs.declared.value.Value.{Value}
use Rattle.scratch_values.specs.declared.value.Value.TheVariants.{Number, Truth}
use Rattle.scratch_values.specs.Args.{arguments}
use Rattle.scratch_values.specs.Casts.{number, truth}
use Rattle.scratch_values.specs.Value.{text_of}
use Rattle.machine_spec.specs.Outcome.{Outcome, Goes, Full, TooLong, Spent, then_do}
use Rattle.machine_spec.specs.Reporters.{reported}
use Rattle.machine_spec.specs.Texts.{text_value}
use Rattle.machine_spec.specs.Words.{Words, Drawn, undrawn, made_of}
use Rattle.machine_spec.specs.View.{View as Sight}
use Rattle.project_spec.specs.declared.blocks.Operand.{Operand}
use Rattle.cached_blocks.specs.declared.block.CachedBlock.{CachedBlock}
use Rattle.evaluate.specs.declared.view.View.{View}
use Rattle.evaluate.specs.declared.ways.Arithmetic.{Arithmetic}
use Rattle.evaluate.specs.declared.ways.Arithmetic.TheVariants.{Add, Subtract, Multiply, Divide, Mod}
use Rattle.evaluate.specs.declared.ways.Comparison.{Comparison}
use Rattle.evaluate.specs.declared.ways.Comparison.TheVariants.{Greater, Less, Equal}
use Rattle.evaluate.specs.declared.ways.Connective.{Connective}
use Rattle.evaluate.specs.declared.ways.Connective.TheVariants.{And, Or}
use Rattle.evaluate.specs.declared.ways.Way.{Way}
use Rattle.evaluate.specs.declared.ways.Way.TheVariants.{Numbers, Rounded, Values, Truths, Negated, Joined, Arguments}
use Rattle.evaluate.specs.Seen.{seen, operand_value, reporter_value, input_values}
use Rattle.evaluate.specs.Ways.{arithmetic_op, comparison_op, connective_op, calculated, compared, connected, Operates, IsWay}
use Rattle.evaluate.specs.Short.{by_way}

-- What is made of one value, or of two

-- the values of inputs by name, of one and of two
abbrev one_input : List ℕ → Outcome (Drawn Value) → Outcome (Drawn (List (List ℕ × Value)))
one_input m o = then_do o (λ d. then_do (undrawn d.words []) (made_of (λ xs. (m, d.value) ∷ xs)))

abbrev two_inputs : List ℕ → List ℕ → Outcome (Drawn Value) → (Words → Outcome (Drawn Value)) → Outcome (Drawn (List (List ℕ × Value)))
two_inputs m n o p = then_do o (λ d. then_do (one_input n (p d.words)) (made_of (λ xs. (m, d.value) ∷ xs)))

module _ (op : Opcode) (fields : List ResolvedField) (s : Sight) where
  -- what the reporter makes of inputs
  abbrev pub made : Outcome (Drawn (List (List ℕ × Value))) → Outcome (Drawn Value)
  made o = then_do o (λ d. reported op (arguments d.value fields) s d.words)

  abbrev OfOne : List ℕ → (Value → Words → Outcome (Drawn Value)) → Type 0
  OfOne m f = (a : Value) (w : Words) → reported op (arguments ((m, a) ∷ []) fields) s w ≡ f a w

  abbrev OfTwo : List ℕ → List ℕ → (Value → Value → Words → Outcome (Drawn Value)) → Type 0
  OfTwo m n f = (a b : Value) (w : Words) → reported op (arguments ((m, a) ∷ ((n, b) ∷ [])) fields) s w ≡ f a b w

  of-one : (m : List ℕ) (f : Value → Words → Outcome (Drawn Value)) → OfOne m f → (o : Outcome (Drawn Value)) → made (one_input m o) ≡ then_do o (λ d. f d.value d.words)
  of-one m f row (Goes d) = row d.value d.words
  of-one m f row Full = refl
  of-one m f row (TooLong n) = refl
  of-one m f row (Spent which) = refl

  of-second : (m n : List ℕ) (f : Value → Value → Words → Outcome (Drawn Value)) → OfTwo m n f → (a : Value) (o : Outcome (Drawn Value)) → made (then_do (one_input n o) (made_of (λ xs. (m, a) ∷ xs))) ≡ then_do o (λ e. f a e.value e.words)
  of-second m n f row a (Goes e) = row a e.value e.words
  of-second m n f row a Full = refl
  of-second m n f row a (TooLong k) = refl
  of-second m n f row a (Spent which) = refl

  of-two : (m n : List ℕ) (f : Value → Value → Words → Outcome (Drawn Value)) → OfTwo m n f → (o : Outcome (Drawn Value)) (p : Words → Outcome (Drawn Value)) → made (two_inputs m n o p) ≡ then_do o (λ d. then_do (p d.words) (λ e. f d.value e.value e.words))
  of-two m n f row (Goes d) p = of-second m n f row d.value (p d.words)
  of-two m n f row Full p = refl
  of-two m n f row (TooLong k) p = refl
  of-two m n f row (Spent which) p = refl

-- what is made of what two values are each
module _ {A B : Type 0} (each : Value → A) (f : A → A → B) (g : B → Value) where
  each-second : (a : Value) (o : Outcome (Drawn Value)) → then_do o (λ e. undrawn e.words (g (f (each a) (each e.value)))) ≡ then_do (then_do (then_do o (made_of each)) (made_of (f (each a)))) (made_of g)
  each-second a (Goes e) = refl
  each-second a Full = refl
  each-second a (TooLong k) = refl
  each-second a (Spent which) = refl

  pub each-of-two : (o : Outcome (Drawn Value)) (p : Words → Outcome (Drawn Value)) → then_do o (λ d. then_do (p d.words) (λ e. undrawn e.words (g (f (each d.value) (each e.value))))) ≡ then_do (then_do (then_do o (made_of each)) (λ a. then_do (then_do (p a.words) (made_of each)) (made_of (f a.value)))) (made_of g)
  each-of-two (Goes d) p = each-second d.value (p d.words)
  each-of-two Full p = refl
  each-of-two (TooLong k) p = refl
  each-of-two (Spent which) p = refl

module _ {A : Type 0} (each : Value → A) (f : A → A) (g : A → Value) where
  each-of-one : (o : Outcome (Drawn Value)) → then_do o (λ d. undrawn d.words (g (f (each d.value)))) ≡ then_do (then_do (then_do o (made_of each)) (made_of f)) (made_of g)
  each-of-one (Goes d) = refl
  each-of-one Full = refl
  each-of-one (TooLong k) = refl
  each-of-one (Spent which) = refl

-- what is made of two values themselves
module _ (f : Value → Value → Bool) where
  truth-second : (a : Value) (o : Outcome (Drawn Value)) → then_do o (λ e. undrawn e.words (Truth (f a e.value))) ≡ then_do (then_do o (made_of (f a))) (made_of (λ b. Truth b))
  truth-second a (Goes e) = refl
  truth-second a Full = refl
  truth-second a (TooLong k) = refl
  truth-second a (Spent which) = refl

  truth-of-two : (o : Outcome (Drawn Value)) (p : Words → Outcome (Drawn Value)) → then_do o (λ d. then_do (p d.words) (λ e. undrawn e.words (Truth (f d.value e.value)))) ≡ then_do (then_do o (λ a. then_do (p a.words) (made_of (f a.value)))) (made_of (λ b. Truth b))
  truth-of-two (Goes d) p = truth-second d.value (p d.words)
  truth-of-two Full p = refl
  truth-of-two (TooLong k) p = refl
  truth-of-two (Spent which) p = refl

-- The rows of the operators

module _ (fields : List ResolvedField) (s : Sight) where
  arithmetic-row : (f : Arithmetic) → OfTwo (arithmetic_op f) fields s (codes "NUM1") (codes "NUM2") (λ a b w. undrawn w (Number (calculated f (number a) (number b))))
  arithmetic-row Add a b w = refl
  arithmetic-row Subtract a b w = refl
  arithmetic-row Multiply a b w = refl
  arithmetic-row Divide a b w = refl
  arithmetic-row Mod a b w = refl

  comparison-row : (f : Comparison) → OfTwo (comparison_op f) fields s (codes "OPERAND1") (codes "OPERAND2") (λ a b w. undrawn w (Truth (compared f a b)))
  comparison-row Greater a b w = refl
  comparison-row Less a b w = refl
  comparison-row Equal a b w = refl

  connective-row : (f : Connective) → OfTwo (connective_op f) fields s (codes "OPERAND1") (codes "OPERAND2") (λ a b w. undrawn w (Truth (connected f (truth a) (truth b))))
  connective-row And a b w = refl
  connective-row Or a b w = refl

-- The value of a reporter

module _ (v : View) (j : ℕ) (c : CachedBlock) (told : (w : Words) → reporter_value v j w ≡ made c.op c.fields (seen v) (input_values v c.inputs w)) where
  told-at : (op : Opcode) (xs : List (List ℕ × Operand)) → Operates c op xs → (w : Words) → reporter_value v j w ≡ made op c.fields (seen v) (input_values v xs w)
  told-at op xs is w = told w ∙ (λ i. made (is.op_is i) c.fields (seen v) (input_values v (is.inputs_are i) w))

  told-of-one : (op : Opcode) (m : List ℕ) (x : Operand) (f : Value → Words → Outcome (Drawn Value)) → OfOne op c.fields (seen v) m f → Operates c op ((m, x) ∷ []) → (w : Words) → reporter_value v j w ≡ then_do (operand_value v x w) (λ d. f d.value d.words)
  told-of-one op m x f row is w = told-at op _ is w ∙ of-one op c.fields (seen v) m f row (operand_value v x w)

  told-of-two : (op : Opcode) (m n : List ℕ) (x y : Operand) (f : Value → Value → Words → Outcome (Drawn Value)) → OfTwo op c.fields (seen v) m n f → Operates c op ((m, x) ∷ ((n, y) ∷ [])) → (w : Words)
      → reporter_value v j w ≡ then_do (operand_value v x w) (λ d. then_do (operand_value v y d.words) (λ e. f d.value e.value e.words))
  told-of-two op m n x y f row is w = told-at op _ is w ∙ of-two op c.fields (seen v) m n f row (operand_value v x w) (operand_value v y)

  -- is what its way gives
  pub means : (way : Way) → IsWay c way → (w : Words) → reporter_value v j w ≡ by_way v j way w
  means (Numbers f x y) is w =
      told-of-two (arithmetic_op f) (codes "NUM1") (codes "NUM2") x.now y.now _ (arithmetic-row c.fields (seen v) f) is w
      ∙ each-of-two number (calculated f) (λ n. Number n) (operand_value v x.now w) (operand_value v y.now)
  means (Rounded x) is w =
      told-of-one OperatorRound (codes "NUM") x.now (λ a w'. undrawn w' (Number (round (number a)))) (λ a w'. refl) is w
      ∙ each-of-one number round (λ n. Number n) (operand_value v x.now w)
  means (Values f x y) is w =
      told-of-two (comparison_op f) (codes "OPERAND1") (codes "OPERAND2") x.now y.now _ (comparison-row c.fields (seen v) f) is w
      ∙ truth-of-two (compared f) (operand_value v x.now w) (operand_value v y.now)
  means (Truths f x y) is w =
      told-of-two (connective_op f) (codes "OPERAND1") (codes "OPERAND2") x.now y.now _ (connective-row c.fields (seen v) f) is w
      ∙ each-of-two truth (connected f) (λ b. Truth b) (operand_value v x.now w) (operand_value v y.now)
  means (Negated x) is w =
      told-of-one OperatorNot (codes "OPERAND") x.now (λ a w'. undrawn w' (Truth (not (truth a)))) (λ a w'. refl) is w
      ∙ each-of-one truth not (λ b. Truth b) (operand_value v x.now w)
  means (Joined x y) is w =
      told-of-two OperatorJoin (codes "STRING1") (codes "STRING2") x.now y.now (λ a b w'. then_do (text_value (text_of a ++ text_of b)) (undrawn w')) (λ a b w'. refl) is w
  means Arguments is w = refl
