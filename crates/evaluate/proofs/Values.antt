-- The values of inputs one after another, and stops on the way.
use Rattle.std.proofs.Common.{◌≡◌, ℕ, ◌+◌, ◌<◌, ◌≤◌, arith, List, [], ◌∷◌, ◌++◌, length, drop, map, get_or, Some, Err, refl, sym, ap, ◌∙◌, subst, append_assoc}
use Rattle.std.specs.Prelude.{slice_get}
use Rattle.std.proofs.lemmas.Grind.{common_steps}
use Rattle.std.proofs.lemmas.List.{append-nil, drop_more}
use Rattle.script_words.specs.declared.stops.Stop.{Stop}
use Rattle.script_words.specs.declared.stops.Stop.TheVariants.{Stack, Text, Counter, NoMemory}
use Rattle.scratch_values.specs.declared.value.Value.{Value}
use Rattle.scratch_values.specs.Args.{arguments}
use Rattle.scratch_values.specs.declared.argument_values.Arg.{Arg}
use Rattle.scratch_values.specs.Held.{held, pair_of}
use Rattle.machine_spec.specs.Outcome.{Outcome, Goes, Full, TooLong, Spent, then_do, StopIs}
use Rattle.machine_spec.specs.Script.{Statement}
use Rattle.machine_spec.specs.Words.{Words, Drawn, made_of}
use Rattle.machine_spec.specs.Evaluate.{values, evaluated}
use Rattle.project_spec.specs.declared.blocks.Operand.{Operand}
use Rattle.cached_blocks.specs.declared.block.CachedBlock.{CachedBlock}
use Rattle.cached_blocks.specs.Cached.{cached_blocks}
use Rattle.cached_blocks.specs.Told.{Tells}
use Rattle.evaluate.specs.declared.view.View.{View}
use Rattle.evaluate.specs.Seen.{seen, sheet_of, operand_value, input_values, arguments_by, arguments_at}

-- Stops

-- a stop tells the limit, whatever would have been returned
abbrev pub Stops : {A : Type 0} → Stop → Outcome A → Type 0
Stops stop o = StopIs {T = ℕ} (Err stop) o

-- nothing goes on behind one
pub stop-then : {A B : Type 0} (stop : Stop) (o : Outcome A) (f : A → Outcome B) → Stops stop o → Stops stop (then_do o f)
stop-then Stack o f h = ap (λ p. then_do p f) h
stop-then (Text n) o f h = ap (λ p. then_do p f) h
stop-then (Counter which) o f h = ap (λ p. then_do p f) h
stop-then NoMemory o f h = tt

-- what is made of a value stops where that stops
pub stop-made : {A B : Type 0} (stop : Stop) (o : Outcome (Drawn A)) (f : A → B) → Stops stop (then_do o (made_of f)) → Stops stop o
stop-made Stack (Goes d) f h = absurd (cc h)
stop-made Stack Full f h = refl
stop-made Stack (TooLong n) f h = absurd (cc h)
stop-made Stack (Spent which) f h = absurd (cc h)
stop-made (Text n) (Goes d) f h = absurd (cc h)
stop-made (Text n) Full f h = absurd (cc h)
stop-made (Text n) (TooLong m) f h = let same : m ≡ n = cc h in ap TooLong same
stop-made (Text n) (Spent which) f h = absurd (cc h)
stop-made (Counter which) (Goes d) f h = absurd (cc h)
stop-made (Counter which) Full f h = absurd (cc h)
stop-made (Counter which) (TooLong m) f h = absurd (cc h)
stop-made (Counter which) (Spent other) f h = let same : other ≡ which = cc h in ap Spent same
stop-made NoMemory o f h = tt

-- One input after another

-- values before those of the rest
abbrev pub before : List (List ℕ × Value) → Outcome (Drawn (List (List ℕ × Value))) → Outcome (Drawn (List (List ℕ × Value)))
before done o = then_do o (made_of (λ rest. done ++ rest))

pub before-nil : (o : Outcome (Drawn (List (List ℕ × Value)))) → o ≡ before [] o
before-nil (Goes d) = refl
before-nil Full = refl
before-nil (TooLong n) = refl
before-nil (Spent which) = refl

before-first : (done : List (List ℕ × Value)) (name : List ℕ) (y : Value) (o : Outcome (Drawn (List (List ℕ × Value)))) → before done (then_do o (made_of (λ rest. (name, y) ∷ rest))) ≡ before (done ++ (name, y) ∷ []) o
before-first done name y (Goes d) = ap (λ l. Goes (record { value = l; words = d.words })) (sym (append_assoc done ((name, y) ∷ []) d.value))
before-first done name y Full = refl
before-first done name y (TooLong n) = refl
before-first done name y (Spent which) = refl

pub pairs-push : (args : List Arg) (a : Arg) (name : List ℕ) → a.name.now ≡ name → map pair_of (args ++ a ∷ []) ≡ map pair_of args ++ (name, held a.value) ∷ []
pairs-push [] a name e = ap (λ n. (n, held a.value) ∷ []) e
pairs-push (b ∷ args) a name e = ap (λ l. pair_of b ∷ l) (pairs-push args a name e)

module _ (v : View) (xs : List (List ℕ × Operand)) (i : ℕ) (x : List ℕ × Operand) (done : List (List ℕ × Value)) (w : Words) (lt : i < length xs) (e : x ≡ get_or xs i x) where
  next : drop i xs ≡ x ∷ drop (i + 1) xs
  next = drop_more xs i x lt ∙ ap (λ y. y ∷ drop (i + 1) xs) (sym e)

  -- one more value
  pub one-more : (y : Value) (after : Words) → operand_value v x.1 w ≡ Goes (record { value = y; words = after }) → before done (input_values v (drop i xs) w) ≡ before (done ++ (x.0, y) ∷ []) (input_values v (drop (i + 1) xs) after)
  one-more y after h =
      ap (λ l. before done (input_values v l w)) next
      ∙ ap (λ o. before done (then_do o (λ d. then_do (input_values v (drop (i + 1) xs) d.words) (made_of (λ rest. (x.0, d.value) ∷ rest))))) h
      ∙ before-first done x.0 y (input_values v (drop (i + 1) xs) after)

  -- the next one stops
  pub one-stops : (stop : Stop) → Stops stop (operand_value v x.1 w) → Stops stop (before done (input_values v (drop i xs) w))
  one-stops stop h = subst (λ l. Stops stop (before done (input_values v l w))) (sym next) (stop-then stop _ _ (stop-then stop _ _ h))

-- no input is left
pub all-done : (v : View) (xs : List (List ℕ × Operand)) (i : ℕ) (done : List (List ℕ × Value)) (start w : Words) → length xs ≤ i → input_values v xs start ≡ before done (input_values v (drop i xs) w) → input_values v xs start ≡ Goes (record { value = done; words = w })
all-done v xs i done start w le same =
    let none : drop i xs ≡ [] = grind (arith, common_steps) in
    same ∙ ap (λ l. before done (input_values v l w)) none ∙ ap (λ l. Goes (record { value = l; words = w })) (append-nil done)

-- The arguments of a block

module _ (v : View) (k : ℕ) (c : CachedBlock) (h : slice_get (cached_blocks (sheet_of v)) k ≡ Some c) (w : Words) where
  pub arguments-here : arguments_at v k w ≡ then_do (input_values v c.inputs w) (made_of (λ xs. arguments xs c.fields))
  arguments-here = ap (λ o. arguments_by v o w) h

  -- they are those of the statement that the block tells
  pub evaluated-told : (s : Statement) → Tells (sheet_of v) k s c → evaluated (seen v) s w ≡ arguments_at v k w
  evaluated-told s told =
      (λ i. then_do (values (seen v) (told.inputs i) w) (made_of (λ xs. record { values = xs; fields = told.fields i; variables = told.refs i })))
      ∙ sym arguments-here
