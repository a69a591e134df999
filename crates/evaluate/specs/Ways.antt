-- Short ways to the values of reporters; the contracts of private functions alone cite it.
use Rattle.std.specs.Prelude.{◌≡◌, ℕ, Bool, ◌&&◌, ◌||◌, List, [], ◌∷◌, map, codes}
use Rattle.std.specs.Ordering.{is_lt, is_gt}
use Rattle.opcode_table.specs.declared.opcode.Opcode.{Opcode}
use Rattle.opcode_table.specs.declared.opcode.Opcode.TheVariants.{OperatorAdd, OperatorSubtract, OperatorMultiply, OperatorDivide, OperatorMod, OperatorGt, OperatorLt, OperatorEquals, OperatorAnd, OperatorOr, OperatorNot, OperatorJoin, OperatorRound}
use Rattle.opcode_table.specs.Table.{row}
use Rattle.scratch_number.specs.declared.number.Num.{Num}
use Rattle.scratch_number.specs.Arithmetic.{add, sub, mul, div, modulo}
use Rattle.scratch_values.specs.declared.value.Value.{Value}
use Rattle.scratch_values.specs.Comparison.{compare}
use Rattle.machine_spec.specs.Reporters.{is_equal}
use Rattle.project_spec.specs.declared.blocks.Operand.{Operand}
use Rattle.cached_blocks.specs.declared.block.CachedBlock.{CachedBlock}
use Rattle.cached_blocks.specs.Cached.{same_names}
use Rattle.evaluate.specs.declared.ways.Arithmetic.{Arithmetic}
use Rattle.evaluate.specs.declared.ways.Arithmetic.TheVariants.{Add, Subtract, Multiply, Divide, Mod}
use Rattle.evaluate.specs.declared.ways.Comparison.{Comparison}
use Rattle.evaluate.specs.declared.ways.Comparison.TheVariants.{Greater, Less, Equal}
use Rattle.evaluate.specs.declared.ways.Connective.{Connective}
use Rattle.evaluate.specs.declared.ways.Connective.TheVariants.{And, Or}
use Rattle.evaluate.specs.declared.ways.Way.{Way}
use Rattle.evaluate.specs.declared.ways.Way.TheVariants.{Numbers, Rounded, Values, Truths, Negated, Joined, Arguments}

-- the opcodes of operators, and what they make
abbrev pub arithmetic_op : Arithmetic → Opcode
arithmetic_op Add = OperatorAdd
arithmetic_op Subtract = OperatorSubtract
arithmetic_op Multiply = OperatorMultiply
arithmetic_op Divide = OperatorDivide
arithmetic_op Mod = OperatorMod

abbrev pub calculated : Arithmetic → Num → Num → Num
calculated Add a b = add a b
calculated Subtract a b = sub a b
calculated Multiply a b = mul a b
calculated Divide a b = div a b
calculated Mod a b = modulo a b

abbrev pub comparison_op : Comparison → Opcode
comparison_op Greater = OperatorGt
comparison_op Less = OperatorLt
comparison_op Equal = OperatorEquals

abbrev pub compared : Comparison → Value → Value → Bool
compared Greater a b = is_gt (compare a b)
compared Less a b = is_lt (compare a b)
compared Equal a b = is_equal a b

abbrev pub connective_op : Connective → Opcode
connective_op And = OperatorAnd
connective_op Or = OperatorOr

abbrev pub connected : Connective → Bool → Bool → Bool
connected And a b = a && b
connected Or a b = a || b

-- whether the inputs are just those of the opcode, in the order of the table
abbrev pub HasOrder : CachedBlock → Type 0
HasOrder c = c.in_order ≡ same_names (map (λ x. x.0) c.inputs) (map (λ i. i.name) (row c.op).inputs)

-- a block of this opcode with these inputs
pub record Operates (c : CachedBlock) (op : Opcode) (inputs : List (List ℕ × Operand)) : Type 0 where
  pub op_is : c.op ≡ op
  pub inputs_are : c.inputs ≡ inputs

abbrev pub IsWay : CachedBlock → Way → Type 0
IsWay c (Numbers a x y) = Operates c (arithmetic_op a) ((codes "NUM1", x.now) ∷ ((codes "NUM2", y.now) ∷ []))
IsWay c (Rounded x) = Operates c OperatorRound ((codes "NUM", x.now) ∷ [])
IsWay c (Values a x y) = Operates c (comparison_op a) ((codes "OPERAND1", x.now) ∷ ((codes "OPERAND2", y.now) ∷ []))
IsWay c (Truths a x y) = Operates c (connective_op a) ((codes "OPERAND1", x.now) ∷ ((codes "OPERAND2", y.now) ∷ []))
IsWay c (Negated x) = Operates c OperatorNot ((codes "OPERAND", x.now) ∷ [])
IsWay c (Joined x y) = Operates c OperatorJoin ((codes "STRING1", x.now) ∷ ((codes "STRING2", y.now) ∷ []))
IsWay c Arguments = Unit {0}

-- the opcode has this way, where its inputs are these
pub record IsOfOne (op wanted : Opcode) (x p : Operand) : Type 0 where
  pub op_is : op ≡ wanted
  pub first : p ≡ x

pub record IsOfTwo (op wanted : Opcode) (x y p q : Operand) : Type 0 where
  pub op_is : op ≡ wanted
  pub first : p ≡ x
  pub second : q ≡ y

abbrev pub IsWayOfOne : Opcode → Operand → Way → Type 0
IsWayOfOne op x (Numbers a p q) = ⊥
IsWayOfOne op x (Rounded p) = IsOfOne op OperatorRound x p.now
IsWayOfOne op x (Values a p q) = ⊥
IsWayOfOne op x (Truths a p q) = ⊥
IsWayOfOne op x (Negated p) = IsOfOne op OperatorNot x p.now
IsWayOfOne op x (Joined p q) = ⊥
IsWayOfOne op x Arguments = Unit {0}

abbrev pub IsWayOfTwo : Opcode → Operand → Operand → Way → Type 0
IsWayOfTwo op x y (Numbers a p q) = IsOfTwo op (arithmetic_op a) x y p.now q.now
IsWayOfTwo op x y (Rounded p) = ⊥
IsWayOfTwo op x y (Values a p q) = IsOfTwo op (comparison_op a) x y p.now q.now
IsWayOfTwo op x y (Truths a p q) = IsOfTwo op (connective_op a) x y p.now q.now
IsWayOfTwo op x y (Negated p) = ⊥
IsWayOfTwo op x y (Joined p q) = IsOfTwo op OperatorJoin x y p.now q.now
IsWayOfTwo op x y Arguments = Unit {0}
