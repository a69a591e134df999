-- The statements of a program are those of checked blocks.
use Rattle.std.proofs.Common.{◌≡◌, ℕ, zero, suc, ◌+◌, Bool, true, false, cond, List, [], ◌∷◌, ◌++◌, length, inl, inr, ◌⊎◌, refl, sym, ap, ◌∙◌, subst, arith}
use Rattle.std.specs.Prelude.{slice_get, unwrap_or, flat_map, option_map, Option, None, Some, IfSome, Contains}
use Rattle.std.specs.List.{enumerate_from, filter_map, cons_option}
use Rattle.std.proofs.lemmas.Option.{slice_get-map}
use Rattle.opcode_table.specs.declared.shape.Role.TheVariants as role
use Rattle.machine_spec.specs.Script.{Script, Statement}
use Rattle.machine_spec.specs.Program.{Head, Procedure, Scripts, scripts_at}
use Rattle.project_spec.specs.declared.blocks.Link.{Link}
use Rattle.project_spec.specs.declared.blocks.Link.TheVariants.{To, Unknown}
use Rattle.project_spec.specs.declared.blocks.Input.{Input}
use Rattle.project_spec.specs.declared.blocks.Input.TheVariants as input
use Rattle.project_spec.specs.declared.blocks.Block.{Block}
use Rattle.project_spec.specs.declared.blocks.Prototype.{Prototype}
use Rattle.project_spec.specs.declared.blocks.Resolved.{Resolved}
use Rattle.project_spec.specs.Linked.{Place, Behind, In, next_link, input_link, input_links, links, known_block, leads_to, is_branch, custom_block, has_role, is_head, IsChecked, head, linked, named}
use Rattle.project_spec.specs.Resolving.{Found}
use Rattle.project_spec.specs.Trees.{Sheet, branch_by, branch, branches_by, expression, statement_by, target_of_link, block_script, script_within, script, head_of, hat_at, heads_of, linked_prototype, procedure_by, procedure_at, first_of_each, procedures_of, scripts_of, sheet_of, sheets, program}
use Rattle.laws_of_threads.specs.Lists.{Each}
use Rattle.laws_of_threads.specs.Statements.{EachIn, EachInOne, Everywhere}
use Rattle.laws_of_threads.proofs.Numbers.{each_filter, each_map}

-- Lists

-- x is one of these
abbrev pub Among : {A : Type 0} → A → List A → Type 0
Among x [] = ⊥
Among x (y ∷ ys) = (y ≡ x) ⊎ Among x ys

pub among_contains : {A : Type 0} (x : A) (xs : List A) → Among x xs → Contains xs x
among_contains x [] h = absurd h
among_contains x (y ∷ ys) (inl e) = (0, omega arith, e)
among_contains x (y ∷ ys) (inr h) = let r = among_contains x ys h in (suc r.0, omega (arith, r.1), r.2)

among_left : {A : Type 0} (x : A) (xs ys : List A) → Among x xs → Among x (xs ++ ys)
among_left x [] ys h = absurd h
among_left x (z ∷ zs) ys (inl e) = inl e
among_left x (z ∷ zs) ys (inr h) = inr (among_left x zs ys h)

among_right : {A : Type 0} (x : A) (xs ys : List A) → Among x ys → Among x (xs ++ ys)
among_right x [] ys h = h
among_right x (z ∷ zs) ys h = inr (among_right x zs ys h)

among_flat : {A B : Type 0} (f : A → List B) (x : A) (y : B) (xs : List A) → Among x xs → Among y (f x) → Among y (flat_map f xs)
among_flat f x y [] h g = absurd h
among_flat f x y (z ∷ zs) (inl e) g = among_left y (f z) (flat_map f zs) (subst (λ w. Among y (f w)) (sym e) g)
among_flat f x y (z ∷ zs) (inr h) g = among_right y (f z) (flat_map f zs) (among_flat f x y zs h g)

pub each_enumerated : {A : Type 0} (P : ℕ × A → Type 0) (i : ℕ) (xs : List A) → ((k j : ℕ) (x : A) → k ≡ i + j → slice_get xs j ≡ Some x → P (k, x)) → Each P (enumerate_from i xs)
each_enumerated P i [] f = tt
each_enumerated P i (x ∷ xs) f = (f i 0 x (omega arith) refl, each_enumerated P (i + 1) xs (λ k j y e g. f k (suc j) y (omega arith) g))

cons_has : {B : Type 0} (Q : B → Type 0) (o : Option B) (ys : List B) → IfSome o Q → Each Q ys → Each Q (cons_option o ys)
cons_has Q None ys h g = g
cons_has Q (Some y) ys h g = (h, g)

pub each_filter_map : {A B : Type 0} (P : A → Type 0) (Q : B → Type 0) (f : A → Option B) (xs : List A) → ((x : A) → P x → IfSome (f x) Q) → Each P xs → Each Q (filter_map f xs)
each_filter_map P Q f [] h g = tt
each_filter_map P Q f (x ∷ xs) h g = cons_has Q (f x) (filter_map f xs) (h x g.0) (each_filter_map P Q f xs h g.1)

-- Links of a block

next_leads : (b : Block) (j : ℕ) → target_of_link b.next ≡ Some j → Among (Behind, j) (leads_to b)
next_leads b j e = among_flat known_block (Behind, To j) (Behind, j) (links b) (among_left (Behind, To j) (next_link b.next) (input_links b) (by b.next e)) (inl refl)
  where
    by : (o : Option Link) → target_of_link o ≡ Some j → Among (Behind, To j) (next_link o)
    by None e = absurd (cc e)
    by (Some (To k)) e = inl (let s : k ≡ j = cc in ap (λ n. (Behind, To n)) s)
    by (Some (Unknown id)) e = absurd (cc e)

input_leads : (b : Block) (name : List ℕ) (j : ℕ) → Among (name, input.Reporter (To j)) b.inputs → Among (In name, j) (leads_to b)
input_leads b name j h =
    among_flat known_block (In name, To j) (In name, j) (links b)
    (among_right (In name, To j) (next_link b.next) (input_links b) (among_flat input_link (name, input.Reporter (To j)) (In name, To j) b.inputs h (inl refl)))
    (inl refl)

goes_to : (blocks : List Block) (k j : ℕ) (b : Block) (place : Place) → IsChecked blocks k → slice_get blocks k ≡ Some b → Among (place, j) (leads_to b) → IsChecked blocks j
goes_to blocks k j b place c e h = linked c (record { block = b; place = place; held = e; link = among_contains (place, j) (leads_to b) h })

-- the block of a link is checked
abbrev pub IsLinkChecked : List Block → Option ℕ → Type 0
IsLinkChecked blocks None = Unit {0}
IsLinkChecked blocks (Some k) = IsChecked blocks k

next_checked : (blocks : List Block) (k : ℕ) (b : Block) → IsChecked blocks k → slice_get blocks k ≡ Some b → IsLinkChecked blocks (target_of_link b.next)
next_checked blocks k b c e = by (target_of_link b.next) refl
  where
    by : (o : Option ℕ) → target_of_link b.next ≡ o → IsLinkChecked blocks o
    by None g = tt
    by (Some j) g = goes_to blocks k j b Behind c e (next_leads b j g)

-- Heads and procedures

abbrev pub Stands : Sheet → ℕ × Block → Type 0
Stands sheet x = slice_get sheet.blocks x.0 ≡ Some x.1

all_stand : (sheet : Sheet) → Each (Stands sheet) (enumerate_from 0 sheet.blocks)
all_stand sheet = each_enumerated (Stands sheet) 0 sheet.blocks (λ k j b e g. subst (λ n. slice_get sheet.blocks n ≡ Some b) (let s : j ≡ k = omega arith in s) g)

first_each : (Q : Procedure → Type 0) (qs : List Procedure) → Each Q qs → Each Q (first_of_each qs)
first_each Q [] h = tt
first_each Q (q ∷ qs) h = (h.0, each_filter Q _ (first_of_each qs) (first_each Q qs h.1))

module _ (sheet : Sheet) (Q : Procedure → Type 0) (gives : (k : ℕ) (b : Block) → slice_get sheet.blocks k ≡ Some b → is_head b ≡ true → IfSome (procedure_by sheet k (linked_prototype sheet (named custom_block b.inputs))) Q) where
  procedure_has : (k : ℕ) (b : Block) (c d : Bool) → is_head b ≡ c → Stands sheet (k, b) → IfSome (cond c (cond d (procedure_by sheet k (linked_prototype sheet (named custom_block b.inputs))) None) None) Q
  procedure_has k b true true e g = gives k b g e
  procedure_has k b true false e g = tt
  procedure_has k b false d e g = tt

  pub procedures_each : Each Q (procedures_of sheet)
  procedures_each = first_each Q (filter_map (procedure_at sheet) (enumerate_from 0 sheet.blocks)) (each_filter_map (Stands sheet) Q (procedure_at sheet) (enumerate_from 0 sheet.blocks) (λ x g. procedure_has x.0 x.1 (is_head x.1) (has_role role.Definition x.1.code) refl g) (all_stand sheet))

-- Scripts

module _ (sheet : Sheet) (P : Statement → Type 0) (holds : (k : ℕ) (b : Block) (go : Option ℕ → Script) → IsChecked sheet.blocks k → slice_get sheet.blocks k ≡ Some b → P (statement_by sheet k b (expression sheet) go)) where
  branch_checked : (xs : List (List ℕ × Input)) → ((name : List ℕ) (j : ℕ) → Among (name, input.Reporter (To j)) xs → IsChecked sheet.blocks j) → (go : Option ℕ → Script) → ((o : Option ℕ) → IsLinkChecked sheet.blocks o → EachIn P (go o)) → EachInOne P (branches_by go (filter_map branch xs))
  branch_checked [] f go rest = tt
  branch_checked ((name, x) ∷ xs) f go rest = cons_by (is_branch name) (branch_by name x) (filter_map branch xs) (rest (branch_by name x).1 (link x (λ j e. f name j (inl (ap (λ y. (name, y)) e))))) (branch_checked xs (λ n j h. f n j (inr h)) go rest)
    where
      cons_by : (c : Bool) (y : List ℕ × Option ℕ) (ys : List (List ℕ × Option ℕ)) → EachIn P (go y.1) → EachInOne P (branches_by go ys) → EachInOne P (branches_by go (cons_option (cond c (Some y) None) ys))
      cons_by true y ys h g = (h, g)
      cons_by false y ys h g = g

      link : (x : Input) → ((j : ℕ) → x ≡ input.Reporter (To j) → IsChecked sheet.blocks j) → IsLinkChecked sheet.blocks (branch_by name x).1
      link (input.Reporter (To j)) g = g j refl
      link (input.Reporter (Unknown id)) g = tt
      link (input.Literal v) g = tt
      link (input.Variable n) g = tt
      link (input.List n) g = tt
      link input.Absent g = tt

  block_each : (k : ℕ) (o : Option Block) (go : Option ℕ → Script) → ((next : Option ℕ) → IsLinkChecked sheet.blocks next → EachIn P (go next)) → slice_get sheet.blocks k ≡ o → IsChecked sheet.blocks k → EachIn P (block_script sheet k o (expression sheet) go)
  block_each k None go rest e c = tt
  block_each k (Some b) go rest e c = (
    holds k b go c e,
    branch_checked b.inputs (λ name j h. goes_to sheet.blocks k j b (In name) c e (input_leads b name j h)) go rest,
    rest (target_of_link b.next) (next_checked sheet.blocks k b c e),
  )

  within_each : (n : ℕ) (o : Option ℕ) → IsLinkChecked sheet.blocks o → EachIn P (script_within sheet n o)
  unfolding script_within
  within_each zero o h = tt
  within_each (suc n) None h = tt
  within_each (suc n) (Some k) h = block_each k (slice_get sheet.blocks k) (script_within sheet n) (within_each n) refl h

  pub script_each : (o : Option ℕ) → IsLinkChecked sheet.blocks o → EachIn P (script sheet o)
  unfolding script
  script_each o h = within_each (length sheet.blocks) o h

  -- Heads

  abbrev IsHeadOf : Head → Type 0
  IsHeadOf h = P h.hat × EachIn P h.script

  head_by : (k : ℕ) (b : Block) (c d : Bool) → is_head b ≡ c → Stands sheet (k, b) → IfSome (cond c (cond d (Some (head_of sheet k b)) None) None) IsHeadOf
  head_by k b true true e g =
      let c : IsChecked sheet.blocks k = head g e in
      (holds k b (script sheet) c g, script_each (target_of_link b.next) (next_checked sheet.blocks k b c g))
  head_by k b true false e g = tt
  head_by k b false d e g = tt

  pub heads_each : Each IsHeadOf (heads_of sheet)
  heads_each = each_filter_map (Stands sheet) IsHeadOf (hat_at sheet) (enumerate_from 0 sheet.blocks) (λ x g. head_by x.0 x.1 (is_head x.1) (has_role role.Hat x.1.code) refl g) (all_stand sheet)

  -- Procedures

  body_by : (k : ℕ) (o : Option Prototype) → IsChecked sheet.blocks k → IfSome (procedure_by sheet k o) (λ q. EachIn P q.body)
  body_by k None c = tt
  body_by k (Some q) c = script_each (Some k) c

  pub bodies_each : Each (λ q. EachIn P q.body) (procedures_of sheet)
  bodies_each = procedures_each sheet (λ q. EachIn P q.body) (λ k b g e. body_by k (linked_prototype sheet (named custom_block b.inputs)) (head g e))

-- Programs

slice_numbered : {A : Type 0} (i : ℕ) (xs : List A) (k : ℕ) → slice_get (enumerate_from i xs) k ≡ option_map (λ x. (i + k, x)) (slice_get xs k)
slice_numbered i [] k = refl
slice_numbered i (x ∷ xs) zero = let e : i ≡ i + 0 = omega arith in ap (λ n. Some (n, x)) e
slice_numbered i (x ∷ xs) (suc k) = slice_numbered (i + 1) xs k ∙ (let e : i + 1 + k ≡ i + suc k = omega arith in ap (λ n. option_map (λ y. (n, y)) (slice_get xs k)) e)

module _ (tables : List (List Block)) (f : Found (List (List (List Resolved)))) where
  scripts_are : (k : ℕ) → slice_get (program tables f).scripts k ≡ option_map scripts_of (option_map (sheet_of f.what) (option_map (λ x. (k, x)) (slice_get tables k)))
  scripts_are k =
      slice_get-map scripts_of (sheets tables f.what) k
      ∙ ap (option_map scripts_of) (slice_get-map (sheet_of f.what) (enumerate_from 0 tables) k)
      ∙ ap (λ o. option_map scripts_of (option_map (sheet_of f.what) o)) (slice_numbered 0 tables k ∙ (let e : 0 + k ≡ k = omega arith in ap (λ n. option_map (λ x. (n, x)) (slice_get tables k)) e))

  scripts_by : (Q : Scripts → Type 0) (k : ℕ) (o : Option (List Block)) → slice_get tables k ≡ o → Q (record { heads = []; procedures = [] }) → ((blocks : List Block) → slice_get tables k ≡ Some blocks → Q (scripts_of (sheet_of f.what (k, blocks)))) → Q (unwrap_or (option_map scripts_of (option_map (sheet_of f.what) (option_map (λ x. (k, x)) o))) (record { heads = []; procedures = [] }))
  scripts_by Q k None e none some = none
  scripts_by Q k (Some blocks) e none some = some blocks e

  -- what the scripts of each target have
  pub scripts_have : (Q : Scripts → Type 0) (k : ℕ) → Q (record { heads = []; procedures = [] }) → ((blocks : List Block) → slice_get tables k ≡ Some blocks → Q (scripts_of (sheet_of f.what (k, blocks)))) → Q (scripts_at k (program tables f))
  scripts_have Q k none some = subst (λ o. Q (unwrap_or o (record { heads = []; procedures = [] }))) (sym (scripts_are k)) (scripts_by Q k (slice_get tables k) refl none some)

  module _ (P : ℕ → Statement → Type 0) (holds : (t k : ℕ) (blocks : List Block) (b : Block) (go : Option ℕ → Script) → slice_get tables t ≡ Some blocks → IsChecked blocks k → slice_get blocks k ≡ Some b → P t (statement_by (sheet_of f.what (t, blocks)) k b (expression (sheet_of f.what (t, blocks))) go)) where
    -- what each statement of a checked block has, each statement has
    pub everywhere : Everywhere P (program tables f)
    everywhere = record {
      hats = λ t. scripts_have (λ s. Each (λ h. P t h.hat) s.heads) t tt (λ blocks e. each_map (λ h. P t h.hat × EachIn (P t) h.script) (λ h. P t h.hat) (heads_of (sheet_of f.what (t, blocks))) (λ h g. g.0) (heads_each (sheet_of f.what (t, blocks)) (P t) (λ k b go c g. holds t k blocks b go e c g)));
      heads = λ t. scripts_have (λ s. Each (λ h. EachIn (P t) h.script) s.heads) t tt (λ blocks e. each_map (λ h. P t h.hat × EachIn (P t) h.script) (λ h. EachIn (P t) h.script) (heads_of (sheet_of f.what (t, blocks))) (λ h g. g.1) (heads_each (sheet_of f.what (t, blocks)) (P t) (λ k b go c g. holds t k blocks b go e c g)));
      procedures = λ t. scripts_have (λ s. Each (λ q. EachIn (P t) q.body) s.procedures) t tt (λ blocks e. bodies_each (sheet_of f.what (t, blocks)) (P t) (λ k b go c g. holds t k blocks b go e c g));
    }
