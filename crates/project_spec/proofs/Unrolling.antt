-- The tree at a block is the block with the trees at its links.
use Rattle.std.proofs.Common.{◌≡◌, ℕ, zero, suc, ◌<◌, Bool, true, false, if◌then◌else◌, List, [], ◌∷◌, ◌++◌, length, Option, Some, None, refl, sym, ap, ◌∙◌, subst, arith}
use Rattle.std.specs.Prelude.{slice_get, slice_index, Contains, flat_map}
use Rattle.std.specs.List.{filter_map, cons_option}
use Rattle.std.proofs.lemmas.List.Concat.{flat_map-append}
use Rattle.std.proofs.lemmas.List.Elements.{Contains-append_right}
use Rattle.std.proofs.lemmas.Option.{slice_get_within}
use Rattle.scratch_values.specs.declared.value.Value.TheVariants.{Text}
use Rattle.machine_spec.specs.Script.{Expression, Constant, Operator, AndInput, Script, End, Then}
use Rattle.project_spec.specs.Blocks.{Link, To, Unknown, Code, Known, Other, Input, Block}
use Rattle.project_spec.specs.declared.blocks.Input.TheVariants as input
use Rattle.project_spec.specs.Linked.{Place, Behind, In, next_link, input_link, input_links, known_block, leads_to, is_branch, IsClosed, AreRanks}
use Rattle.project_spec.specs.Trees.{Sheet, Operand, Holds, OfVariable, OfList, OfBlock, is_apart, operand_by, operand, operands, branch_by, branch, branches, inputs_by, fields_of, refs_from, menu_text, expression_by, block_expression, expression_within, expression, branches_by, statement, target_of_link, block_script, script_within, script}
use Rattle.project_spec.specs.TreeAt.{IsMenuText, IsOperand, AreInputs, IsScript, AreBranches}
use Rattle.project_spec.specs.Unrolling.{IsWithin}

-- Elements of lists

pub has_first : {A : Type 0} (a b : A) (rest : List A) → a ≡ b → Contains (a ∷ rest) b
has_first a b rest e = (0, omega arith, e)

pub has_more : {A : Type 0} (a b : A) (rest : List A) → Contains rest b → Contains (a ∷ rest) b
has_more a b rest h = (suc h.0, omega (arith, h.1), h.2)

pub has_by : {A P : Type 0} (a b : A) (rest : List A) → Contains (a ∷ rest) b → (a ≡ b → P) → (Contains rest b → P) → P
has_by a b rest (zero, l, e) f g = f e
has_by a b rest (suc k, l, e) f g = g (k, omega (arith, l), e)

-- the links of inputs
abbrev leads : List (List ℕ × Input) → List (Place × ℕ)
leads xs = flat_map known_block (flat_map input_link xs)

no_block : {P : Type 0} (m n : List ℕ) (x : Operand) (j : ℕ) → ◌≡◌ {A = List ℕ × Operand} (m, x) (n, OfBlock j) → (x ≡ OfBlock j → P) → P
no_block m n x j e f = f (ap (λ p. p.1) e)

same_link : (m n : List ℕ) (i j : ℕ) → ◌≡◌ {A = List ℕ × Operand} (m, OfBlock i) (n, OfBlock j) → ◌≡◌ {A = Place × ℕ} (In m, i) (In n, j)
same_link m n i j e = let p = ap (λ p. p.0) e in let q : OfBlock i ≡ OfBlock j = ap (λ p. p.1) e in cc

-- an operand that is a block is a link
operand_leads : (sheet : Sheet) (k : ℕ) (apart : Bool) (x : Input) (name : List ℕ) (rest : List (List ℕ × Operand)) (xs : List (List ℕ × Input)) (n : List ℕ) (j : ℕ)
    → (Contains rest (n, OfBlock j) → Contains (leads xs) (In n, j))
    → Contains (cons_option (if apart then None else operand_by sheet k name x) rest) (n, OfBlock j)
    → Contains (leads ((name, x) ∷ xs)) (In n, j)
operand_leads sheet k true (input.Literal v) name rest xs n j go h = go h
operand_leads sheet k true (input.Reporter (To i)) name rest xs n j go h = has_more _ _ (leads xs) (go h)
operand_leads sheet k true (input.Reporter (Unknown id)) name rest xs n j go h = go h
operand_leads sheet k true (input.Variable v) name rest xs n j go h = go h
operand_leads sheet k true (input.List v) name rest xs n j go h = go h
operand_leads sheet k true input.Absent name rest xs n j go h = go h
operand_leads sheet k false (input.Literal v) name rest xs n j go h = has_by _ _ rest h (λ e. no_block name n _ j e (λ f. cc)) go
operand_leads sheet k false (input.Reporter (To i)) name rest xs n j go h = has_by _ _ rest h (λ e. has_first _ _ (leads xs) (same_link name n i j e)) (λ r. has_more _ _ (leads xs) (go r))
operand_leads sheet k false (input.Reporter (Unknown id)) name rest xs n j go h = go h
operand_leads sheet k false (input.Variable v) name rest xs n j go h = has_by _ _ rest h (λ e. no_block name n _ j e (λ f. cc)) go
operand_leads sheet k false (input.List v) name rest xs n j go h = has_by _ _ rest h (λ e. no_block name n _ j e (λ f. cc)) go
operand_leads sheet k false input.Absent name rest xs n j go h = go h

pub operands_lead : (sheet : Sheet) (k : ℕ) (xs : List (List ℕ × Input)) (n : List ℕ) (j : ℕ) → Contains (filter_map (operand sheet k) xs) (n, OfBlock j) → Contains (leads xs) (In n, j)
operands_lead sheet k [] n j h = absurd (omega (arith, h.1))
operands_lead sheet k ((name, x) ∷ xs) n j h = operand_leads sheet k (is_apart name) x name (filter_map (operand sheet k) xs) xs n j (operands_lead sheet k xs n j) h

-- a branch that is not empty is a link
branch_leads : (is : Bool) (x : Input) (name : List ℕ) (rest : List (List ℕ × Option ℕ)) (xs : List (List ℕ × Input)) (n : List ℕ) (j : ℕ)
    → (Contains rest (n, Some j) → Contains (leads xs) (In n, j))
    → Contains (cons_option (if is then Some (branch_by name x) else None) rest) (n, Some j)
    → Contains (leads ((name, x) ∷ xs)) (In n, j)
branch_leads false (input.Literal v) name rest xs n j go h = go h
branch_leads false (input.Reporter (To i)) name rest xs n j go h = has_more _ _ (leads xs) (go h)
branch_leads false (input.Reporter (Unknown id)) name rest xs n j go h = go h
branch_leads false (input.Variable v) name rest xs n j go h = go h
branch_leads false (input.List v) name rest xs n j go h = go h
branch_leads false input.Absent name rest xs n j go h = go h
branch_leads true (input.Literal v) name rest xs n j go h = has_by _ _ rest h (λ e. let q = ap (λ p. p.1) e in cc) go
branch_leads true (input.Reporter (To i)) name rest xs n j go h = has_by _ _ rest h (λ e. has_first _ _ (leads xs) (let p = ap (λ p. p.0) e in let q = ap (λ p. p.1) e in cc)) (λ r. has_more _ _ (leads xs) (go r))
branch_leads true (input.Reporter (Unknown id)) name rest xs n j go h = has_by _ _ rest h (λ e. let q = ap (λ p. p.1) e in cc) go
branch_leads true (input.Variable v) name rest xs n j go h = has_by _ _ rest h (λ e. let q = ap (λ p. p.1) e in cc) go
branch_leads true (input.List v) name rest xs n j go h = has_by _ _ rest h (λ e. let q = ap (λ p. p.1) e in cc) go
branch_leads true input.Absent name rest xs n j go h = has_by _ _ rest h (λ e. let q = ap (λ p. p.1) e in cc) go

pub branches_lead : (xs : List (List ℕ × Input)) (n : List ℕ) (j : ℕ) → Contains (filter_map branch xs) (n, Some j) → Contains (leads xs) (In n, j)
branches_lead [] n j h = absurd (omega (arith, h.1))
branches_lead ((name, x) ∷ xs) n j h = branch_leads (is_branch name) x name (filter_map branch xs) xs n j (branches_lead xs n j) h

-- the links of inputs are among those of the block, and so is the next
pub inputs_lead : (b : Block) (p : Place × ℕ) → Contains (leads b.inputs) p → Contains (leads_to b) p
inputs_lead b p h = rw flat_map-append (Contains-append_right (flat_map known_block (next_link b.next)) _ p h)

pub next_leads : (o : Option Link) (rest : List (Place × Link)) (j : ℕ) → target_of_link o ≡ Some j → Contains (flat_map known_block (next_link o ++ rest)) (Behind, j)
next_leads None rest j e = cc
next_leads (Some (To i)) rest j e = has_first _ _ _ (let q : i ≡ j = cc in cc)
next_leads (Some (Unknown id)) rest j e = cc

-- Readers that agree at the links of a block

inputs_same : (xs : List (List ℕ × Operand)) (f g : ℕ → Expression) → ((n : List ℕ) (j : ℕ) → Contains xs (n, OfBlock j) → f j ≡ g j) → inputs_by f xs ≡ inputs_by g xs
inputs_same [] f g h = refl
inputs_same ((name, Holds v) ∷ xs) f g h = ap (AndInput name (Constant v)) (inputs_same xs f g (λ n j r. h n j (has_more _ _ xs r)))
inputs_same ((name, OfVariable ref) ∷ xs) f g h = let more = inputs_same xs f g (λ n j r. h n j (has_more _ _ xs r)) in cc more
inputs_same ((name, OfList ref) ∷ xs) f g h = let more = inputs_same xs f g (λ n j r. h n j (has_more _ _ xs r)) in cc more
inputs_same ((name, OfBlock i) ∷ xs) f g h =
    let first = h name i (has_first _ _ xs refl) in
    let more = inputs_same xs f g (λ n j r. h n j (has_more _ _ xs r)) in
    cc (first, more)

code_same : (c : Code) (sheet : Sheet) (k : ℕ) (b : Block) (f g : ℕ → Expression) → inputs_by f (operands sheet k b) ≡ inputs_by g (operands sheet k b) → expression_by c sheet k b f ≡ expression_by c sheet k b g
code_same (Known op) sheet k b f g e = ap (Operator op (fields_of b) (refs_from sheet k b.fields)) e
code_same (Other name) sheet k b f g e = refl

expression_same : (sheet : Sheet) (k : ℕ) (o : Option Block) (f g : ℕ → Expression) → ((b : Block) (n : List ℕ) (j : ℕ) → o ≡ Some b → Contains (leads_to b) (In n, j) → f j ≡ g j) → block_expression sheet k o f ≡ block_expression sheet k o g
expression_same sheet k None f g h = refl
expression_same sheet k (Some b) f g h = code_same b.code sheet k b f g (inputs_same (operands sheet k b) f g (λ n j r. h b n j refl (inputs_lead b _ (operands_lead sheet k b.inputs n j r))))

branches_same : (xs : List (List ℕ × Option ℕ)) (f g : Option ℕ → Script) → f None ≡ g None → ((n : List ℕ) (j : ℕ) → Contains xs (n, Some j) → f (Some j) ≡ g (Some j)) → branches_by f xs ≡ branches_by g xs
branches_same [] f g e h = refl
branches_same ((name, None) ∷ xs) f g e h =
    let more = branches_same xs f g e (λ n j r. h n j (has_more _ _ xs r)) in
    cc (e, more)
branches_same ((name, Some i) ∷ xs) f g e h =
    let first = h name i (has_first _ _ xs refl) in
    let more = branches_same xs f g e (λ n j r. h n j (has_more _ _ xs r)) in
    cc (first, more)

next_same : (o : Option ℕ) (f g : Option ℕ → Script) → f None ≡ g None → ((j : ℕ) → o ≡ Some j → f (Some j) ≡ g (Some j)) → f o ≡ g o
next_same None f g e h = e
next_same (Some j) f g e h = h j refl

script_same : (sheet : Sheet) (k : ℕ) (o : Option Block) (v : ℕ → Expression) (f g : Option ℕ → Script) → f None ≡ g None → ((b : Block) (p : Place) (j : ℕ) → o ≡ Some b → Contains (leads_to b) (p, j) → f (Some j) ≡ g (Some j)) → block_script sheet k o v f ≡ block_script sheet k o v g
script_same sheet k None v f g e h = refl
script_same sheet k (Some b) v f g e h =
    let under = branches_same (branches b) f g e (λ n j r. h b (In n) j refl (inputs_lead b _ (branches_lead b.inputs n j r))) in
    let rest = next_same (target_of_link b.next) f g e (λ j r. h b Behind j refl (next_leads b.next (input_links b) j r)) in
    cc (under, rest)

pub none_within : (sheet : Sheet) (n : ℕ) → script_within sheet n None ≡ End
unfolding script_within
none_within sheet zero = refl
none_within sheet (suc n) = refl

-- no link has the empty script
pub script-none : (sheet : Sheet) → script sheet None ≡ End
unfolding script
script-none sheet = none_within sheet (length sheet.blocks)

module _ (sheet : Sheet) (ranks : List ℕ) (ranked : AreRanks sheet.blocks ranks) where
  pub falls : (k j : ℕ) (b : Block) (p : Place) → slice_get sheet.blocks k ≡ Some b → Contains (leads_to b) (p, j) → slice_index ranks j < slice_index ranks k
  falls k j b p h r = ranked.falls k j (record { block = b; place = p; held = h; link = r })

  below : (k : ℕ) (b : Block) → slice_get sheet.blocks k ≡ Some b → slice_index ranks k < length sheet.blocks
  below k b h = ranked.bounded k (slice_get_within sheet.blocks k b h)

  -- more links than the rank change nothing
  expressions_agree : (n m k : ℕ) → slice_index ranks k < n → slice_index ranks k < m → expression_within sheet n k ≡ expression_within sheet m k
  unfolding expression_within
  expressions_agree zero m k p q = absurd (omega (arith, p))
  expressions_agree (suc n) zero k p q = absurd (omega (arith, q))
  expressions_agree (suc n) (suc m) k p q = expression_same sheet k (slice_get sheet.blocks k) (expression_within sheet n) (expression_within sheet m) (λ b name j e r. expressions_agree n m j (let f = falls k j b (In name) e r in omega arith) (let f = falls k j b (In name) e r in omega arith))

  scripts_agree : (n m k : ℕ) → slice_index ranks k < n → slice_index ranks k < m → script_within sheet n (Some k) ≡ script_within sheet m (Some k)
  unfolding script_within
  scripts_agree zero m k p q = absurd (omega (arith, p))
  scripts_agree (suc n) zero k p q = absurd (omega (arith, q))
  scripts_agree (suc n) (suc m) k p q = script_same sheet k (slice_get sheet.blocks k) (expression sheet) (script_within sheet n) (script_within sheet m) (none_within sheet n ∙ sym (none_within sheet m)) (λ b place j e r. scripts_agree n m j (let f = falls k j b place e r in omega arith) (let f = falls k j b place e r in omega arith))

  -- the expression at a block
  pub expression-at : (k : ℕ) (b : Block) → slice_get sheet.blocks k ≡ Some b → expression sheet k ≡ expression_by b.code sheet k b (expression sheet)
  unfolding expression
  expression-at k b h =
      let lt = below k b h in
      let more = expressions_agree (length sheet.blocks) (suc (length sheet.blocks)) k lt (let z : slice_index ranks k < suc (length sheet.blocks) = omega arith in z) in
      more ∙ unfold expression_within in ap (λ o. block_expression sheet k o (expression_within sheet (length sheet.blocks))) h

  -- the script at a block
  pub script-at : (k : ℕ) (b : Block) → slice_get sheet.blocks k ≡ Some b → script sheet (Some k) ≡ Then (statement sheet k b) (script sheet (target_of_link b.next))
  unfolding script
  script-at k b h =
      let lt = below k b h in
      let more = scripts_agree (length sheet.blocks) (suc (length sheet.blocks)) k lt (let z : slice_index ranks k < suc (length sheet.blocks) = omega arith in z) in
      more ∙ unfold script_within in ap (λ o. block_script sheet k o (expression sheet) (script_within sheet (length sheet.blocks))) h

-- Each link has its tree

pub held_at : (blocks : List Block) (k : ℕ) → k < length blocks → (b : Block) × (slice_get blocks k ≡ Some b)
held_at [] k l = absurd (omega (arith, l))
held_at (b ∷ blocks) zero l = (b, refl)
held_at (b ∷ blocks) (suc k) l = held_at blocks k (omega (arith, l))

inputs_are : (sheet : Sheet) (xs : List (List ℕ × Operand)) → ((n : List ℕ) (j : ℕ) → Contains xs (n, OfBlock j) → IsOperand sheet (OfBlock j) (expression sheet j)) → AreInputs sheet xs (inputs_by (expression sheet) xs)
inputs_are sheet [] h = tt
inputs_are sheet ((name, Holds v) ∷ xs) h = (refl, refl, inputs_are sheet xs (λ n j r. h n j (has_more _ _ xs r)))
inputs_are sheet ((name, OfVariable ref) ∷ xs) h = (refl, refl, inputs_are sheet xs (λ n j r. h n j (has_more _ _ xs r)))
inputs_are sheet ((name, OfList ref) ∷ xs) h = (refl, refl, inputs_are sheet xs (λ n j r. h n j (has_more _ _ xs r)))
inputs_are sheet ((name, OfBlock i) ∷ xs) h = (refl, h name i (has_first _ _ xs refl), inputs_are sheet xs (λ n j r. h n j (has_more _ _ xs r)))

code_is : (sheet : Sheet) (c : Code) (k : ℕ) (b : Block) → slice_get sheet.blocks k ≡ Some b → b.code ≡ c → AreInputs sheet (operands sheet k b) (inputs_by (expression sheet) (operands sheet k b)) → IsOperand sheet (OfBlock k) (expression_by c sheet k b (expression sheet))
code_is sheet (Known op) k b h e inputs = (b, h, e, refl, refl, inputs)
code_is sheet (Other name) k b h e inputs = (b, h, subst (λ c. IsMenuText c b (Text (menu_text b.fields))) (sym e) refl)

none_is : (sheet : Sheet) → IsScript sheet None (script sheet None)
none_is sheet = subst (λ t. IsScript sheet None t) (sym (script-none sheet)) refl

link_is : (sheet : Sheet) (o : Option ℕ) → ((j : ℕ) → o ≡ Some j → IsScript sheet (Some j) (script sheet (Some j))) → IsScript sheet o (script sheet o)
link_is sheet None h = none_is sheet
link_is sheet (Some j) h = h j refl

branches_are : (sheet : Sheet) (xs : List (List ℕ × Option ℕ)) → ((n : List ℕ) (j : ℕ) → Contains xs (n, Some j) → IsScript sheet (Some j) (script sheet (Some j))) → AreBranches sheet xs (branches_by (script sheet) xs)
branches_are sheet [] h = tt
branches_are sheet ((name, o) ∷ xs) h = (refl, link_is sheet o (λ j e. h name j (has_first _ _ xs (ap (λ p. (name, p)) e))), branches_are sheet xs (λ n j r. h n j (has_more _ _ xs r)))

module _ (sheet : Sheet) (ranks : List ℕ) (ranked : AreRanks sheet.blocks ranks) (closed : IsClosed sheet.blocks) where
  pub within : (k j : ℕ) (b : Block) (p : Place) → slice_get sheet.blocks k ≡ Some b → Contains (leads_to b) (p, j) → j < length sheet.blocks
  within k j b p h r = closed k j (record { block = b; place = p; held = h; link = r })

  expression_is : (n k : ℕ) → k < length sheet.blocks → slice_index ranks k < n → IsOperand sheet (OfBlock k) (expression sheet k)
  expression_is zero k l q = absurd (omega (arith, q))
  expression_is (suc n) k l q =
      let at = held_at sheet.blocks k l in
      let inputs = inputs_are sheet (operands sheet k at.0) (λ name j r. let link = inputs_lead at.0 _ (operands_lead sheet k at.0.inputs name j r) in expression_is n j (within k j at.0 (In name) at.1 link) (let f = falls sheet ranks ranked k j at.0 (In name) at.1 link in omega arith)) in
      subst (λ e. IsOperand sheet (OfBlock k) e) (sym (expression-at sheet ranks ranked k at.0 at.1)) (code_is sheet at.0.code k at.0 at.1 refl inputs)

  -- the expression of a block is read there
  pub expression-is_read : (k : ℕ) → k < length sheet.blocks → IsOperand sheet (OfBlock k) (expression sheet k)
  expression-is_read k l = expression_is (length sheet.blocks) k l (ranked.bounded k l)

  inputs-are_read : (k : ℕ) (b : Block) → slice_get sheet.blocks k ≡ Some b → AreInputs sheet (operands sheet k b) (inputs_by (expression sheet) (operands sheet k b))
  inputs-are_read k b h = inputs_are sheet (operands sheet k b) (λ name j r. expression-is_read j (within k j b (In name) h (inputs_lead b _ (operands_lead sheet k b.inputs name j r))))

  script_is : (n k : ℕ) → k < length sheet.blocks → slice_index ranks k < n → IsScript sheet (Some k) (script sheet (Some k))
  script_is zero k l q = absurd (omega (arith, q))
  script_is (suc n) k l q =
      let at = held_at sheet.blocks k l in
      let b = at.0 in
      let go = λ (p : Place) (j : ℕ) (r : Contains (leads_to b) (p, j)). script_is n j (within k j b p at.1 r) (let f = falls sheet ranks ranked k j b p at.1 r in omega arith) in
      let under = branches_are sheet (branches b) (λ name j r. go (In name) j (inputs_lead b _ (branches_lead b.inputs name j r))) in
      let rest = link_is sheet (target_of_link b.next) (λ j e. go Behind j (next_leads b.next (input_links b) j e)) in
      subst (λ t. IsScript sheet (Some k) t) (sym (script-at sheet ranks ranked k b at.1)) (k, refl, (b, at.1, (refl, refl, inputs-are_read k b at.1, under), rest))

  -- the script of a link is read there
  pub script-is_read : (o : Option ℕ) → IsWithin sheet.blocks o → IsScript sheet o (script sheet o)
  script-is_read None l = none_is sheet
  script-is_read (Some k) l = script_is (length sheet.blocks) k l (ranked.bounded k l)
