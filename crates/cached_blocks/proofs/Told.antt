-- What cached blocks say of scripts and expressions.
use Rattle.std.proofs.Common.{◌≡◌, ℕ, zero, suc, ◌+◌, ◌<◌, arith, Bool, true, false, List, [], ◌∷◌, length, map, Option, Some, None, refl, sym, ap, ◌∙◌, subst, bytes_eq}
use Rattle.std.specs.Prelude.{slice_get, slice_index, Contains, option_map, IfSome}
use Rattle.std.specs.List.{All, enumerate_from, filter_map, cons_option}
use Rattle.std.proofs.lemmas.List.Elements.{All-cons}
use Rattle.scratch_values.specs.declared.names.VarName.{VarName}
use Rattle.scratch_values.specs.declared.names.VarRef.{VarRef}
use Rattle.scratch_values.specs.Args.{field_texts, field_variables}
use Rattle.machine_spec.specs.Script.{Expression, Constant, Operator, AndInput, Expressions, Script, End, Then, Statement, Branches, branch_name, branch_named, branch_of}
use Rattle.project_spec.specs.declared.blocks.Block.{Block}
use Rattle.project_spec.specs.declared.blocks.Code.{Code}
use Rattle.project_spec.specs.declared.blocks.Code.TheVariants.{Known, Other}
use Rattle.project_spec.specs.declared.blocks.Operand.{Operand}
use Rattle.project_spec.specs.declared.blocks.Operand.TheVariants.{Literal as Holds, Variable as OfVariable, List as OfList, Block as OfBlock}
use Rattle.project_spec.specs.declared.blocks.Resolved.{Resolved}
use Rattle.project_spec.specs.Resolving.{ref_at}
use Rattle.project_spec.specs.Linked.{Place, Behind, In, leads_to, IsClosed, AreRanks}
use Rattle.project_spec.specs.Trees.{Sheet, operands, operand_expression, inputs_by, fields_of, refs_from, menu_text, op_by, expression_by, expression, branches, branches_by, target_of_link, script, statement}
use Rattle.project_spec.proofs.Unrolling.{has_first, has_more, has_by, operands_lead, branches_lead, inputs_lead, next_leads, held_at, falls, within, expression-at, script-at, script-none}
use Rattle.cached_blocks.specs.declared.block.CachedBlock.{CachedBlock}
use Rattle.cached_blocks.specs.Cached.{plugged_by, plugged_at, plugged, with_plugged, cached_inputs, cached_field, branch_link, cached_block, cached_at, cached_blocks}
use Rattle.cached_blocks.specs.Told.{Tells, IsLower, IsReporter, IsPlugged, IsLinked, ScriptIsTold, LinksFall, ExpressionIsTold}

-- The block that is cached

cached_from : (sheet : Sheet) (n k : ℕ) (bs : List Block) (c : CachedBlock) → slice_get (map (cached_at sheet) (enumerate_from n bs)) k ≡ Some c
    → (b : Block) × (slice_get bs k ≡ Some b) × (c ≡ cached_block sheet (n + k) b)
cached_from sheet n k [] c h = absurd (cc h)
cached_from sheet n zero (b ∷ bs) c h = (b, refl, let here : cached_block sheet n b ≡ c = cc h in sym here ∙ ap (λ m. cached_block sheet m b) (let e : n ≡ n + 0 = omega arith in e))
cached_from sheet n (suc k) (b ∷ bs) c h =
    let found = cached_from sheet (n + 1) k bs c h in
    (found.0, found.1, found.2 ∙ ap (λ m. cached_block sheet m found.0) (let e : n + 1 + k ≡ n + suc k = omega arith in e))

pub held : (sheet : Sheet) (k : ℕ) (c : CachedBlock) → slice_get (cached_blocks sheet) k ≡ Some c → (b : Block) × (slice_get sheet.blocks k ≡ Some b) × (c ≡ cached_block sheet k b)
held sheet k c h =
    let found = cached_from sheet 0 k sheet.blocks c h in
    (found.0, found.1, found.2 ∙ ap (λ m. cached_block sheet m found.0) (let e : 0 + k ≡ k = omega arith in e))

-- Inputs

module _ (sheet : Sheet) (ranks : List ℕ) (ranked : AreRanks sheet.blocks ranks) where
  -- a menu's expression is its text
  at_code : (code : Code) (j : ℕ) (b : Block) → slice_get sheet.blocks j ≡ Some b → b.code ≡ code → operand_expression (plugged_by code j b) (expression sheet) ≡ expression sheet j
  at_code (Known op) j b h e = refl
  at_code (Other name) j b h e = sym (expression-at sheet ranks ranked j b h ∙ ap (λ code. expression_by code sheet j b (expression sheet)) e)

  at_block : (o : Option Block) (j : ℕ) → slice_get sheet.blocks j ≡ o → operand_expression (plugged_at j o) (expression sheet) ≡ expression sheet j
  at_block None j h = refl
  at_block (Some b) j h = at_code b.code j b h refl

  at_operand : (x : Operand) → operand_expression (plugged sheet.blocks x) (expression sheet) ≡ operand_expression x (expression sheet)
  at_operand (Holds v) = refl
  at_operand (OfVariable ref) = refl
  at_operand (OfList ref) = refl
  at_operand (OfBlock j) = at_block (slice_get sheet.blocks j) j refl

  at_inputs : (xs : List (List ℕ × Operand)) → inputs_by (expression sheet) (map (with_plugged sheet.blocks) xs) ≡ inputs_by (expression sheet) xs
  at_inputs [] = refl
  at_inputs ((name, x) ∷ xs) = λ i. AndInput name (at_operand x i) (at_inputs xs i)

-- Fields

texts_of : (refs : List (List Resolved)) (k : ℕ) (fs : List (List ℕ × VarName)) → field_texts (map (cached_field refs k) fs) ≡ map (λ f. (f.0, f.1.name)) fs
texts_of refs k [] = refl
texts_of refs k (f ∷ fs) = ap (λ rest. (f.0, f.1.name) ∷ rest) (texts_of refs k fs)

refs_of : (sheet : Sheet) (k : ℕ) (fs : List (List ℕ × VarName)) → field_variables (map (cached_field sheet.refs k) fs) ≡ refs_from sheet k fs
refs_of sheet k [] = refl
refs_of sheet k (f ∷ fs) = by_ref (refs_of sheet k fs) (ref_at sheet.refs k false f.0) refl
  where
    by_ref : field_variables (map (cached_field sheet.refs k) fs) ≡ refs_from sheet k fs → (o : Option VarRef) → ref_at sheet.refs k false f.0 ≡ o
        → field_variables (map (cached_field sheet.refs k) (f ∷ fs)) ≡ refs_from sheet k (f ∷ fs)
    by_ref more None e = rw e more
    by_ref more (Some ref) e = rw e (ap (λ rest. (f.0, ref) ∷ rest) more)

-- Branches

branch_is : (go : Option ℕ → Script) (name : List ℕ) (xs : List (List ℕ × Option ℕ)) → go None ≡ End → branch_named name (branches_by go xs) ≡ go (branch_link name xs)
branch_is go name [] none = sym none
branch_is go name ((n, o) ∷ xs) none = by_name (branch_is go name xs none) (bytes_eq n name) refl
  where
    by_name : branch_named name (branches_by go xs) ≡ go (branch_link name xs) → (same : Bool) → bytes_eq n name ≡ same → branch_named name (branches_by go ((n, o) ∷ xs)) ≡ go (branch_link name ((n, o) ∷ xs))
    by_name more true e = rw e refl
    by_name more false e = rw e more

-- Links

linked_branch : (name : List ℕ) (xs : List (List ℕ × Option ℕ)) (j : ℕ) → branch_link name xs ≡ Some j → (n : List ℕ) × Contains xs (n, Some j)
linked_branch name [] j h = absurd (cc h)
linked_branch name ((n, o) ∷ xs) j h = by_name (linked_branch name xs j) (bytes_eq n name) refl
  where
    by_name : (branch_link name xs ≡ Some j → (m : List ℕ) × Contains xs (m, Some j)) → (same : Bool) → bytes_eq n name ≡ same → (m : List ℕ) × Contains ((n, o) ∷ xs) (m, Some j)
    by_name more true e = (n, has_first _ _ xs (ap (λ (p : Option ℕ). (n, p)) (rw e at h)))
    by_name more false e = (let found = more (rw e at h) in (found.0, has_more _ _ xs found.1))

module _ (sheet : Sheet) (ranks : List ℕ) (ranked : AreRanks sheet.blocks ranks) (closed : IsClosed sheet.blocks) (k : ℕ) (b : Block) (h : slice_get sheet.blocks k ≡ Some b) where
  lower : (p : Place) (j : ℕ) → Contains (leads_to b) (p, j) → IsLower ranks k j
  lower p j r = record { within = (let w = within sheet ranks ranked closed k j b p h r in omega (arith, w, ranked.each)); falls = falls sheet ranks ranked k j b p h r }

  lower_branch : (name : List ℕ) (o : Option ℕ) → branch_link name (branches b) ≡ o → IfSome o (IsLower ranks k)
  lower_branch name None e = tt
  lower_branch name (Some j) e = let found = linked_branch name (branches b) j e in lower (In found.0) j (inputs_lead b _ (branches_lead b.inputs found.0 j found.1))

  lower_next : (o : Option ℕ) → target_of_link b.next ≡ o → IfSome o (IsLower ranks k)
  lower_next None e = tt
  lower_next (Some j) e = lower Behind j (next_leads b.next _ j e)

  plugged_code : (code : Code) (j : ℕ) (d : Block) → slice_get sheet.blocks j ≡ Some d → d.code ≡ code → IsLower ranks k j → IsPlugged sheet.blocks ranks k (plugged_by code j d)
  plugged_code (Known op) j d g e low = (low, record { block = d; held = g; op = op; known = e })
  plugged_code (Other name) j d g e low = tt

  plugged_block : (o : Option Block) (j : ℕ) → slice_get sheet.blocks j ≡ o → IsLower ranks k j → IsPlugged sheet.blocks ranks k (plugged_at j o)
  plugged_block None j g low = absurd (let w = low.within in let there = held_at sheet.blocks j (omega (arith, w, ranked.each)) in cc (there.1, g))
  plugged_block (Some d) j g low = plugged_code d.code j d g refl low

  lower_inputs : (xs : List (List ℕ × Operand)) → ((n : List ℕ) (j : ℕ) → Contains xs (n, OfBlock j) → IsLower ranks k j) → All (λ x. IsPlugged sheet.blocks ranks k x.1) (map (with_plugged sheet.blocks) xs)
  lower_inputs [] low = λ i d l. absurd (omega (arith, l))
  lower_inputs ((name, Holds v) ∷ xs) low = All-cons (λ x. IsPlugged sheet.blocks ranks k x.1) _ _ tt (lower_inputs xs (λ n j r. low n j (has_more _ _ xs r)))
  lower_inputs ((name, OfVariable ref) ∷ xs) low = All-cons (λ x. IsPlugged sheet.blocks ranks k x.1) _ _ tt (lower_inputs xs (λ n j r. low n j (has_more _ _ xs r)))
  lower_inputs ((name, OfList ref) ∷ xs) low = All-cons (λ x. IsPlugged sheet.blocks ranks k x.1) _ _ tt (lower_inputs xs (λ n j r. low n j (has_more _ _ xs r)))
  lower_inputs ((name, OfBlock i) ∷ xs) low =
      All-cons (λ x. IsPlugged sheet.blocks ranks k x.1) _ _ (plugged_block (slice_get sheet.blocks i) i refl (low name i (has_first _ _ xs refl))) (lower_inputs xs (λ n j r. low n j (has_more _ _ xs r)))

  is_linked : IsLinked sheet.blocks ranks k (cached_block sheet k b)
  is_linked = record {
    next = lower_next (target_of_link b.next) refl;
    first = lower_branch (branch_name 1) (branch_link (branch_name 1) (branches b)) refl;
    second = lower_branch (branch_name 2) (branch_link (branch_name 2) (branches b)) refl;
    inputs = lower_inputs (operands sheet k b) (λ n j r. lower (In n) j (inputs_lead b _ (operands_lead sheet k b.inputs n j r)));
  }

-- The laws

pub script-told : ScriptIsTold
script-told sheet ranks k c ranked closed h =
    let at = held sheet k c h in
    let b = at.0 in
    subst (λ d. (s : Statement) × (script sheet (Some k) ≡ Then s (script sheet d.next)) × Tells sheet k s d) (sym at.2) (
      statement sheet k b,
      script-at sheet ranks ranked k b at.1,
      record {
        place = refl;
        op = refl;
        code = refl;
        fields = sym (texts_of sheet.refs k b.fields);
        refs = sym (refs_of sheet k b.fields);
        inputs = sym (at_inputs sheet ranks ranked (operands sheet k b));
        first = branch_is (script sheet) (branch_name 1) (branches b) (script-none sheet);
        second = branch_is (script sheet) (branch_name 2) (branches b) (script-none sheet);
      },
    )

pub links-fall : LinksFall
links-fall sheet ranks k c ranked closed h =
    let at = held sheet k c h in
    subst (IsLinked sheet.blocks ranks k) (sym at.2) (is_linked sheet ranks ranked closed k at.0 at.1)

pub expression-told : ExpressionIsTold
expression-told sheet ranks j c ranked is h =
    let at = held sheet j c h in
    let b = at.0 in
    let same : is.block ≡ b = cc (is.held, at.1) in
    let known : b.code ≡ Known is.op = ap (λ (d : Block). d.code) (sym same) ∙ is.known in
    subst (λ d. expression sheet j ≡ Operator d.op (field_texts d.fields) (field_variables d.fields) (inputs_by (expression sheet) d.inputs)) (sym at.2)
    (expression-at sheet ranks ranked j b at.1
    ∙ ap (λ code. expression_by code sheet j b (expression sheet)) known
    ∙ (λ i. Operator (op_by (sym known i)) (sym (texts_of sheet.refs j b.fields) i) (sym (refs_of sheet j b.fields) i) (sym (at_inputs sheet ranks ranked (operands sheet j b)) i)))
