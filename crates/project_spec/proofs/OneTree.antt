-- A link has one tree.
use Rattle.std.proofs.Common.{◌≡◌, ℕ, List, [], ◌∷◌, Option, Some, refl, sym, ap, ◌∙◌, subst}
use Rattle.std.specs.Prelude.{slice_get}
use Rattle.scratch_values.specs.declared.value.Value.{Value}
use Rattle.machine_spec.specs.Script.{Expression, Constant, Variable, Contents, Operator, Expressions, NoInput, AndInput, Script, End, Then, Statement, Does, Branches, NoBranch, AndBranch}
use Rattle.project_spec.specs.Blocks.{Code, Block}
use Rattle.project_spec.specs.declared.blocks.Code.TheVariants.{Known, Other}
use Rattle.project_spec.specs.Trees.{Sheet, Operand, Holds, OfVariable, OfList, OfBlock, operands, branches, fields_of, refs_from, target_of_link}
use Rattle.project_spec.specs.TreeAt.{IsMenuText, IsOperand, AreInputs, IsScript, IsStatement, AreBranches}

one_text : (c : Code) (b : Block) (v w : Value) → IsMenuText c b v → IsMenuText c b w → v ≡ w
one_text (Known op) b v w r s = absurd r
one_text (Other name) b v w r s = r ∙ sym s

no_menu : (c : Code) (b : Block) (v : Value) (op : _) → c ≡ Known op → IsMenuText c b v → ⊥
no_menu (Known o) b v op e r = r
no_menu (Other name) b v op e r = cc e

same_block : (o : Option Block) (b c : Block) → o ≡ Some b → o ≡ Some c → b ≡ c
same_block o b c e f = cc (e, f)

mutual
  one_operand : (sheet : Sheet) (x : Operand) (t u : Expression) → IsOperand sheet x t → IsOperand sheet x u → t ≡ u
  one_operand sheet (Holds v) t u r s = r ∙ sym s
  one_operand sheet (OfVariable ref) t u r s = r ∙ sym s
  one_operand sheet (OfList ref) t u r s = r ∙ sym s
  one_operand sheet (OfBlock k) (Constant v) (Constant w) r s =
      let same = same_block _ r.0 s.0 r.1 s.1 in
      ap Constant (one_text r.0.code r.0 v w r.2 (subst (λ b. IsMenuText b.code b w) (sym same) s.2))
  one_operand sheet (OfBlock k) (Constant v) (Variable ref) r s = absurd s
  one_operand sheet (OfBlock k) (Constant v) (Contents ref) r s = absurd s
  one_operand sheet (OfBlock k) (Constant v) (Operator op fields refs inputs) r s =
      let same = same_block _ s.0 r.0 s.1 r.1 in
      absurd (no_menu s.0.code s.0 v op s.2 (subst (λ b. IsMenuText b.code b v) (sym same) r.2))
  one_operand sheet (OfBlock k) (Variable ref) u r s = absurd r
  one_operand sheet (OfBlock k) (Contents ref) u r s = absurd r
  one_operand sheet (OfBlock k) (Operator op fields refs inputs) (Constant v) r s =
      let same = same_block _ r.0 s.0 r.1 s.1 in
      absurd (no_menu r.0.code r.0 v op r.2 (subst (λ b. IsMenuText b.code b v) (sym same) s.2))
  one_operand sheet (OfBlock k) (Operator op fields refs inputs) (Variable ref) r s = absurd s
  one_operand sheet (OfBlock k) (Operator op fields refs inputs) (Contents ref) r s = absurd s
  one_operand sheet (OfBlock k) (Operator op fields refs inputs) (Operator op' fields' refs' inputs') r s =
      let same = same_block _ r.0 s.0 r.1 s.1 in
      let ops : Known op ≡ Known op' = sym r.2 ∙ ap (λ b. b.code) same ∙ s.2 in
      let fs : fields ≡ fields' = r.3 ∙ ap fields_of same ∙ sym s.3 in
      let rs : refs ≡ refs' = r.4 ∙ ap (λ b. refs_from sheet k b.fields) same ∙ sym s.4 in
      let ins = one_inputs sheet (operands sheet k r.0) inputs inputs' r.5 (subst (λ b. AreInputs sheet (operands sheet k b) inputs') (sym same) s.5) in
      cc (ops, fs, rs, ins)

  one_inputs : (sheet : Sheet) (xs : List (List ℕ × Operand)) (t u : Expressions) → AreInputs sheet xs t → AreInputs sheet xs u → t ≡ u
  one_inputs sheet [] NoInput NoInput r s = refl
  one_inputs sheet [] NoInput (AndInput name e rest) r s = absurd s
  one_inputs sheet [] (AndInput name e rest) u r s = absurd r
  one_inputs sheet (x ∷ xs) NoInput u r s = absurd r
  one_inputs sheet (x ∷ xs) (AndInput name e rest) NoInput r s = absurd s
  one_inputs sheet (x ∷ xs) (AndInput name e rest) (AndInput name' e' rest') r s =
      let names : name ≡ name' = r.0 ∙ sym s.0 in
      let first = one_operand sheet x.1 e e' r.1 s.1 in
      let others = one_inputs sheet xs rest rest' r.2 s.2 in
      cc (names, first, others)

same_number : (o : Option ℕ) (k j : ℕ) → o ≡ Some k → o ≡ Some j → k ≡ j
same_number o k j e f = cc (e, f)

mutual
  pub one_script : (sheet : Sheet) (o : Option ℕ) (t u : Script) → IsScript sheet o t → IsScript sheet o u → t ≡ u
  one_script sheet o End End r s = refl
  one_script sheet o End (Then st rest) r s = let e = s.1 in cc (r, e)
  one_script sheet o (Then st rest) End r s = let e = r.1 in cc (e, s)
  one_script sheet o (Then st rest) (Then st' rest') r s =
      let numbers = same_number o r.0 s.0 r.1 s.1 in
      let held : slice_get sheet.blocks r.0 ≡ Some s.2.0 = ap (λ k. slice_get sheet.blocks k) numbers ∙ s.2.1 in
      let same = same_block _ r.2.0 s.2.0 r.2.1 held in
      let first = one_statement sheet r.0 r.2.0 st st' r.2.2 (subst (λ b. IsStatement sheet r.0 b st') (sym same) (subst (λ k. IsStatement sheet k s.2.0 st') (sym numbers) s.2.2)) in
      let others = one_script sheet (target_of_link r.2.0.next) rest rest' r.2.3 (subst (λ b. IsScript sheet (target_of_link b.next) rest') (sym same) s.2.3) in
      cc (first, others)

  one_statement : (sheet : Sheet) (k : ℕ) (b : Block) (t u : Statement) → IsStatement sheet k b t → IsStatement sheet k b u → t ≡ u
  one_statement sheet k b (Does place command inputs under) (Does place' command' inputs' under') r s =
      let places : place ≡ place' = r.0 ∙ sym s.0 in
      let commands : command ≡ command' = r.1 ∙ sym s.1 in
      let ins = one_inputs sheet (operands sheet k b) inputs inputs' r.2 s.2 in
      let unders = one_branches sheet (branches b) under under' r.3 s.3 in
      cc (places, commands, ins, unders)

  one_branches : (sheet : Sheet) (xs : List (List ℕ × Option ℕ)) (t u : Branches) → AreBranches sheet xs t → AreBranches sheet xs u → t ≡ u
  one_branches sheet [] NoBranch NoBranch r s = refl
  one_branches sheet [] NoBranch (AndBranch name t more) r s = absurd s
  one_branches sheet [] (AndBranch name t more) u r s = absurd r
  one_branches sheet (x ∷ xs) NoBranch u r s = absurd r
  one_branches sheet (x ∷ xs) (AndBranch name t more) NoBranch r s = absurd s
  one_branches sheet (x ∷ xs) (AndBranch name t more) (AndBranch name' t' more') r s =
      let names : name ≡ name' = r.0 ∙ sym s.0 in
      let first = one_script sheet x.1 t t' r.1 s.1 in
      let others = one_branches sheet xs more more' r.2 s.2 in
      cc (names, first, others)
