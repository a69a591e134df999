-- Reporters whose inputs are just those of the table, in its order.
use Rattle.std.proofs.Common.{◌≡◌, ℕ, ◌<◌, ◌≤◌, arith, Bool, true, false, List, [], ◌∷◌, length, get_or, map, bytes_eq, refl, sym, ap, ◌∙◌, subst}
use Rattle.std.specs.Prelude.{Some, codes, slice_get}
use Rattle.std.proofs.lemmas.Slice.Eq.{bytes_eq-Decides}
use Rattle.opcode_table.specs.declared.opcode.Opcode.{Opcode}
use Rattle.opcode_table.specs.declared.opcode.Opcode.TheVariants.{OperatorNot, OperatorJoin, OperatorRound}
use Rattle.opcode_table.specs.Table.{row}
use Rattle.project_spec.specs.declared.blocks.Block.{Block}
use Rattle.project_spec.specs.declared.blocks.Operand.{Operand}
use Rattle.project_spec.specs.Trees.{Sheet, operands, op_by}
use Rattle.cached_blocks.specs.declared.block.CachedBlock.{CachedBlock}
use Rattle.cached_blocks.specs.Cached.{cached_blocks, same_names, with_plugged}
use Rattle.cached_blocks.proofs.Told.{held}
use Rattle.evaluate.specs.declared.view.View.{View}
use Rattle.evaluate.specs.declared.ways.Arithmetic.{Arithmetic}
use Rattle.evaluate.specs.declared.ways.Arithmetic.TheVariants.{Add, Subtract, Multiply, Divide, Mod}
use Rattle.evaluate.specs.declared.ways.Comparison.{Comparison}
use Rattle.evaluate.specs.declared.ways.Comparison.TheVariants.{Greater, Less, Equal}
use Rattle.evaluate.specs.declared.ways.Connective.{Connective}
use Rattle.evaluate.specs.declared.ways.Connective.TheVariants.{And, Or}
use Rattle.evaluate.specs.declared.ways.Way.{Way}
use Rattle.evaluate.specs.declared.ways.Way.TheVariants.{Numbers, Rounded, Values, Truths, Negated, Joined, Arguments}
use Rattle.evaluate.specs.Plugged.{IsPluggedIn, ArePluggedIn}
use Rattle.evaluate.specs.Ways.{arithmetic_op, comparison_op, connective_op, HasOrder, Operates, IsWay, IsOfOne, IsOfTwo, IsWayOfOne, IsWayOfTwo}
use Rattle.evaluate.specs.Short.{IsWayPlugged}

-- Cached blocks

names-plugged : (blocks : List Block) (xs : List (List ℕ × Operand)) → map (λ x. x.0) (map (with_plugged blocks) xs) ≡ map (λ x. x.0) xs
names-plugged blocks [] = refl
names-plugged blocks (x ∷ xs) = ap (λ ns. x.0 ∷ ns) (names-plugged blocks xs)

-- a cached block tells whether its inputs are in order
pub ordered : (sheet : Sheet) (k : ℕ) (c : CachedBlock) → slice_get (cached_blocks sheet) k ≡ Some c → HasOrder c
ordered sheet k c h =
    let at = held sheet k c h in
    subst HasOrder (sym at.2) (ap (λ ns. same_names ns (map (λ i. i.name) (row (op_by at.0.code)).inputs)) (sym (names-plugged sheet.blocks (operands sheet k at.0))))

-- Items of short lists

pub one-item : {A : Type 0} (xs : List A) (x : A) → 1 ≤ length xs → length xs < 2 → x ≡ get_or xs 0 x → xs ≡ x ∷ []
one-item [] x l h a = absurd (omega arith)
one-item (p ∷ []) x l h a = cc a
one-item (p ∷ (q ∷ xs)) x l h a = absurd (omega arith)

pub two-items : {A : Type 0} (xs : List A) (x y : A) → 2 ≤ length xs → length xs < 3 → x ≡ get_or xs 0 x → y ≡ get_or xs 1 y → xs ≡ x ∷ (y ∷ [])
two-items [] x y l h a b = absurd (omega arith)
two-items (p ∷ []) x y l h a b = absurd (omega arith)
two-items (p ∷ (q ∷ [])) x y l h a b = cc (a, b)
two-items (p ∷ (q ∷ (r ∷ xs))) x y l h a b = absurd (omega arith)

-- Names in order

one-name : (m p : List ℕ) (ms ps : List (List ℕ)) (same : Bool) → bytes_eq m p ≡ same → same_names (m ∷ ms) (p ∷ ps) ≡ true → (m ≡ p) × (same_names ms ps ≡ true)
one-name m p ms ps true e h = ((bytes_eq-Decides m p).0 e, rw e at h)
one-name m p ms ps false e h = absurd (let bad = rw e at h in cc bad)

names_of : Opcode → List (List ℕ)
names_of op = map (λ i. i.name) (row op).inputs

module _ (c : CachedBlock) (order : HasOrder c) (is : c.in_order ≡ true) where
  same : (wanted : Opcode) (xs : List (List ℕ × Operand)) → c.op ≡ wanted → c.inputs ≡ xs → same_names (map (λ x. x.0) xs) (map (λ i. i.name) (row wanted).inputs) ≡ true
  same wanted xs op inputs = sym (ap (λ ys. same_names (map (λ x. x.0) ys) (map (λ i. i.name) (row wanted).inputs)) inputs) ∙ sym (ap (λ o. same_names (map (λ x. x.0) c.inputs) (map (λ i. i.name) (row o).inputs)) op) ∙ sym order ∙ is

  operates-one : (wanted : Opcode) (p m : List ℕ) (x own : Operand) → map (λ i. i.name) (row wanted).inputs ≡ p ∷ [] → c.inputs ≡ (m, x) ∷ [] → IsOfOne c.op wanted x own → Operates c wanted ((p, own) ∷ [])
  operates-one wanted p m x own names inputs of =
      let name = one-name m p [] [] (bytes_eq m p) refl (ap (λ ns. same_names (m ∷ []) ns) (sym names) ∙ same wanted ((m, x) ∷ []) of.op_is inputs) in
      record { op_is = of.op_is; inputs_are = inputs ∙ (λ i. (name.0 i, sym of.first i) ∷ []) }

  operates-two : (wanted : Opcode) (p q m n : List ℕ) (x y one two : Operand) → map (λ i. i.name) (row wanted).inputs ≡ p ∷ (q ∷ []) → c.inputs ≡ (m, x) ∷ ((n, y) ∷ []) → IsOfTwo c.op wanted x y one two → Operates c wanted ((p, one) ∷ ((q, two) ∷ []))
  operates-two wanted p q m n x y one two names inputs of =
      let first = one-name m p (n ∷ []) (q ∷ []) (bytes_eq m p) refl (ap (λ ns. same_names (m ∷ (n ∷ [])) ns) (sym names) ∙ same wanted ((m, x) ∷ ((n, y) ∷ [])) of.op_is inputs) in
      let second = one-name n q [] [] (bytes_eq n q) refl first.1 in
      record { op_is = of.op_is; inputs_are = inputs ∙ (λ i. (first.0 i, sym of.first i) ∷ ((second.0 i, sym of.second i) ∷ [])) }

-- Ways

arithmetic-names : (f : Arithmetic) → map (λ i. i.name) (row (arithmetic_op f)).inputs ≡ codes "NUM1" ∷ (codes "NUM2" ∷ [])
arithmetic-names Add = refl
arithmetic-names Subtract = refl
arithmetic-names Multiply = refl
arithmetic-names Divide = refl
arithmetic-names Mod = refl

comparison-names : (f : Comparison) → map (λ i. i.name) (row (comparison_op f)).inputs ≡ codes "OPERAND1" ∷ (codes "OPERAND2" ∷ [])
comparison-names Greater = refl
comparison-names Less = refl
comparison-names Equal = refl

connective-names : (f : Connective) → map (λ i. i.name) (row (connective_op f)).inputs ≡ codes "OPERAND1" ∷ (codes "OPERAND2" ∷ [])
connective-names And = refl
connective-names Or = refl

pub way-of-one : (c : CachedBlock) (m : List ℕ) (x : Operand) (way : Way) → HasOrder c → c.in_order ≡ true → c.inputs ≡ (m, x) ∷ [] → IsWayOfOne c.op x way → IsWay c way
way-of-one c m x (Numbers f p q) order is inputs of = absurd of
way-of-one c m x (Rounded p) order is inputs of = operates-one c order is OperatorRound (codes "NUM") m x p.now refl inputs of
way-of-one c m x (Values f p q) order is inputs of = absurd of
way-of-one c m x (Truths f p q) order is inputs of = absurd of
way-of-one c m x (Negated p) order is inputs of = operates-one c order is OperatorNot (codes "OPERAND") m x p.now refl inputs of
way-of-one c m x (Joined p q) order is inputs of = absurd of
way-of-one c m x Arguments order is inputs of = tt

pub way-of-two : (c : CachedBlock) (m n : List ℕ) (x y : Operand) (way : Way) → HasOrder c → c.in_order ≡ true → c.inputs ≡ (m, x) ∷ ((n, y) ∷ []) → IsWayOfTwo c.op x y way → IsWay c way
way-of-two c m n x y (Numbers f p q) order is inputs of = operates-two c order is (arithmetic_op f) (codes "NUM1") (codes "NUM2") m n x y p.now q.now (arithmetic-names f) inputs of
way-of-two c m n x y (Rounded p) order is inputs of = absurd of
way-of-two c m n x y (Values f p q) order is inputs of = operates-two c order is (comparison_op f) (codes "OPERAND1") (codes "OPERAND2") m n x y p.now q.now (comparison-names f) inputs of
way-of-two c m n x y (Truths f p q) order is inputs of = operates-two c order is (connective_op f) (codes "OPERAND1") (codes "OPERAND2") m n x y p.now q.now (connective-names f) inputs of
way-of-two c m n x y (Negated p) order is inputs of = absurd of
way-of-two c m n x y (Joined p q) order is inputs of = operates-two c order is OperatorJoin (codes "STRING1") (codes "STRING2") m n x y p.now q.now refl inputs of
way-of-two c m n x y Arguments order is inputs of = tt

-- What is plugged in

module _ (v : View) (k : ℕ) (c : CachedBlock) (all : ArePluggedIn v k c.inputs) where
  plugged-one : (op : Opcode) (p : List ℕ) (x : Operand) → Operates c op ((p, x) ∷ []) → IsPluggedIn v k x
  plugged-one op p x is = let one = subst (λ xs. ArePluggedIn v k xs) is.inputs_are all in one.0

  plugged-two : (op : Opcode) (p q : List ℕ) (x y : Operand) → Operates c op ((p, x) ∷ ((q, y) ∷ [])) → IsPluggedIn v k x × IsPluggedIn v k y
  plugged-two op p q x y is = let two = subst (λ xs. ArePluggedIn v k xs) is.inputs_are all in (two.0, two.1.0)

  pub way-plugged : (way : Way) → IsWay c way → IsWayPlugged v k way
  way-plugged (Numbers f x y) is = plugged-two (arithmetic_op f) (codes "NUM1") (codes "NUM2") x.now y.now is
  way-plugged (Rounded x) is = plugged-one OperatorRound (codes "NUM") x.now is
  way-plugged (Values f x y) is = plugged-two (comparison_op f) (codes "OPERAND1") (codes "OPERAND2") x.now y.now is
  way-plugged (Truths f x y) is = plugged-two (connective_op f) (codes "OPERAND1") (codes "OPERAND2") x.now y.now is
  way-plugged (Negated x) is = plugged-one OperatorNot (codes "OPERAND") x.now is
  way-plugged (Joined x y) is = plugged-two OperatorJoin (codes "STRING1") (codes "STRING2") x.now y.now is
  way-plugged Arguments is = tt
