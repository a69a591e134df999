-- The definition of a procedure that a target's program has.
use Rattle.std.proofs.Common.{◌≡◌, ℕ, zero, suc, ◌+◌, ◌<◌, ◌≤◌, Bool, true, false, cond, List, [], ◌∷◌, length, Option, Some, None, refl, sym, ap, ◌∙◌, subst, arith}
use Rattle.std.specs.Prelude.{slice_get, unwrap_or, option_map, IfSome, bytes_eq, filter, find, filter_map, if◌then◌else◌}
use Rattle.std.specs.List.{enumerate_from, cons_option, slice_index_or}
use Rattle.std.proofs.lemmas.List.{length-map}
use Rattle.std.proofs.lemmas.Option.{slice_get-map}
use Rattle.std.proofs.lemmas.Slice.Eq.{bytes_eq-Decides}
use Rattle.opcode_table.specs.declared.shape.Role.TheVariants as role
use Rattle.machine_spec.specs.Script.{first_block}
use Rattle.machine_spec.specs.Program.{Procedure, Scripts, scripts_at, definition_of, procedure}
use Rattle.project_spec.specs.declared.blocks.Prototype.{Prototype}
use Rattle.block_table.specs.declared.table.BlockTable.{BlockTable}
use Rattle.project_spec.specs.declared.blocks.Block.{Block}
use Rattle.project_spec.specs.declared.blocks.Input.{Input}
use Rattle.project_spec.specs.declared.blocks.Input.TheVariants as input
use Rattle.project_spec.specs.declared.blocks.Link.TheVariants.{To, Unknown}
use Rattle.project_spec.specs.Linked.{has_role, is_head, named, custom_block}
use Rattle.project_spec.specs.Trees.{Sheet, script_within, script, linked_prototype, procedure_by, procedure_at, first_of_each, procedures_of, scripts_of, sheet_of, sheets}
use Rattle.project_check.specs.declared.project.Project.{Project}
use Rattle.project_check.specs.Heads.{head_number, head_numbers}
use Rattle.project_check.specs.declared.procedures.Callee.{Callee}
use Rattle.project_check.specs.Procedures.{bare, has_code, defined_by, defined_at, defines_at, callee_by, callee_at, callee_in, procedure_in}
use Rattle.project_check.proofs.Resolved.{blocks_here}
use Rattle.project_check.specs.Loaded.{tables_of, names_of, blocks_at, sheet_at, program_of}

-- the first of each code is the first of all

drop_filter : {A : Type 0} (p f : A → Bool) (b : Bool) (y : A) (ys : List A) → f y ≡ b → (p y ≡ true → b ≡ true) → find p (filter f ys) ≡ find p ys → find p (filter f (y ∷ ys)) ≡ find p (y ∷ ys)
drop_filter p f true y ys e h rest = rw e (ap (cond (p y) (Some y)) rest)
drop_filter p f false y ys e h rest = rw e (out (p y) refl)
  where
    out : (c : Bool) → p y ≡ c → find p (filter f ys) ≡ cond c (Some y) (find p ys)
    out true k = absurd (cc (h k))
    out false k = rest

find_filter : {A : Type 0} (p f : A → Bool) (ys : List A) → ((y : A) → p y ≡ true → f y ≡ true) → find p (filter f ys) ≡ find p ys
find_filter p f [] h = refl
find_filter p f (y ∷ ys) h = drop_filter p f (f y) y ys refl (h y) (find_filter p f ys h)

two_codes : (a b c : List ℕ) → bytes_eq a c ≡ false → bytes_eq b c ≡ true → bytes_eq a b ≡ false
two_codes a b c apart same = subst (λ z. bytes_eq a z ≡ false) (sym ((bytes_eq-Decides b c).0 same)) apart

first_found : (code : List ℕ) (qs : List Procedure) → find (λ q. bytes_eq q.code code) (first_of_each qs) ≡ find (λ q. bytes_eq q.code code) qs
first_found code [] = refl
first_found code (q ∷ qs) = turn (bytes_eq q.code code) refl (first_found code qs)
  where
    turn : (c : Bool) → bytes_eq q.code code ≡ c → find (λ x. bytes_eq x.code code) (first_of_each qs) ≡ find (λ x. bytes_eq x.code code) qs
        → find (λ x. bytes_eq x.code code) (first_of_each (q ∷ qs)) ≡ find (λ x. bytes_eq x.code code) (q ∷ qs)
    turn true e rest = rw e refl
    turn false e rest = rw e (find_filter (λ x. bytes_eq x.code code) _ (first_of_each qs) (λ y same. rw (two_codes q.code y.code code e same) refl) ∙ rest)

-- what a block's link leads to does not stand on what blocks name
alone : (sheet : Sheet) (x : Option Input) → linked_prototype (bare sheet.blocks) x ≡ linked_prototype sheet x
alone sheet None = refl
alone sheet (Some (input.Reporter (To j))) = refl
alone sheet (Some (input.Reporter (Unknown id))) = refl
alone sheet (Some (input.Literal v)) = refl
alone sheet (Some (input.Variable n)) = refl
alone sheet (Some (input.List n)) = refl
alone sheet (Some input.Absent) = refl

the_first : (n : ℕ) → n ≡ n + 0
the_first n = omega arith

the_next : (n i : ℕ) → (n + 1) + i ≡ n + suc i
the_next n i = omega arith

none_before : (i : ℕ) → 0 + i ≡ i
none_before i = omega arith

module _ (sheet : Sheet) (code : List ℕ) where
  abbrev procedures_found : List Procedure → Option Procedure
  procedures_found qs = find (λ q. bytes_eq q.code code) qs

  abbrev callee_of : Option ℕ → Option Procedure
  callee_of o = option_map (procedure_in sheet) (callee_at sheet.blocks o)

  abbrev numbers_found : List ℕ → Option Procedure
  numbers_found ks = callee_of (find (defines_at sheet.blocks code) ks)

  passed_by : (n : ℕ) (ks : List ℕ) → defines_at sheet.blocks code n ≡ false → numbers_found (n ∷ ks) ≡ numbers_found ks
  passed_by n ks e = rw e refl

  one : (n : ℕ) (t d : Bool) (o : Option Prototype) (qs : List Procedure) (ks : List ℕ) → defined_at sheet.blocks n ≡ (if d then o else None) → procedures_found qs ≡ numbers_found ks
      → procedures_found (cons_option (if t then (if d then procedure_by sheet n o else None) else None) qs) ≡ numbers_found (cons_option (if t then Some n else None) ks)
  one n false d o qs ks e rest = rest
  one n true false o qs ks e rest = rest ∙ sym (passed_by n ks (ap (has_code code) e))
  one n true true None qs ks e rest = rest ∙ sym (passed_by n ks (ap (has_code code) e))
  one n true true (Some q) qs ks e rest = both (bytes_eq q.code code) refl
    where
      both : (c : Bool) → bytes_eq q.code code ≡ c → procedures_found (cons_option (procedure_by sheet n (Some q)) qs) ≡ numbers_found (n ∷ ks)
      both true same =
          ap (λ b. cond b (Some (procedure_in sheet (n, q))) (procedures_found qs)) same
          ∙ sym (ap (λ b. callee_of (cond b (Some n) (find (defines_at sheet.blocks code) ks))) (ap (has_code code) e ∙ same) ∙ ap (λ p. option_map (procedure_in sheet) (callee_by n p)) e)
      both false same = rw same (rest ∙ sym (passed_by n ks (ap (has_code code) e ∙ same)))

  at_block : (b : Block) (o : Option Block) → o ≡ Some b → defined_by sheet.blocks o ≡ (if has_role role.Definition b.code then linked_prototype sheet (named custom_block b.inputs) else None)
  at_block b o e = ap (defined_by sheet.blocks) e ∙ ap (λ p. if has_role role.Definition b.code then p else None) (alone sheet (named custom_block b.inputs))

  all_found : (n : ℕ) (bs : List Block) → ((i : ℕ) → slice_get sheet.blocks (n + i) ≡ slice_get bs i)
      → procedures_found (filter_map (procedure_at sheet) (enumerate_from n bs)) ≡ numbers_found (filter_map head_number (enumerate_from n bs))
  all_found n [] held = refl
  all_found n (b ∷ bs) held =
      one n (is_head b) (has_role role.Definition b.code) (linked_prototype sheet (named custom_block b.inputs)) (filter_map (procedure_at sheet) (enumerate_from (n + 1) bs)) (filter_map head_number (enumerate_from (n + 1) bs))
      (at_block b (slice_get sheet.blocks n) (ap (slice_get sheet.blocks) (the_first n) ∙ held 0)) (all_found (n + 1) bs (λ i. ap (slice_get sheet.blocks) (the_next n i) ∙ held (suc i)))

  pub callee_found : option_map (procedure_in sheet) (callee_at sheet.blocks (find (defines_at sheet.blocks code) (head_numbers sheet.blocks))) ≡ find (λ q. bytes_eq q.code code) (procedures_of sheet)
  callee_found = sym (all_found 0 sheet.blocks (λ i. ap (slice_get sheet.blocks) (none_before i))) ∙ sym (first_found code (filter_map (procedure_at sheet) (enumerate_from 0 sheet.blocks)))

-- a number that is found is that of a block

found_by : (p : ℕ → Bool) (x k : ℕ) (c : Bool) (rest : Option ℕ) → p x ≡ c → (rest ≡ Some k → p k ≡ true) → cond c (Some x) rest ≡ Some k → p k ≡ true
found_by p x k true rest h more e = let same : x ≡ k = cc e in subst (λ z. p z ≡ true) same h
found_by p x k false rest h more e = more e

found_true : (p : ℕ → Bool) (ks : List ℕ) (k : ℕ) → find p ks ≡ Some k → p k ≡ true
found_true p [] k e = absurd (cc e)
found_true p (x ∷ xs) k e = found_by p x k (p x) (find p xs) refl (found_true p xs k) e

held_below : {A : Type 0} (xs : List A) (k : ℕ) (x : A) → slice_get xs k ≡ Some x → k < length xs
held_below [] k x e = absurd (cc e)
held_below (y ∷ ys) zero x e = omega arith
held_below (y ∷ ys) (suc k) x e = omega (arith, held_below ys k x e)

defined_below : (blocks : List Block) (code : List ℕ) (k : ℕ) (o : Option Block) → slice_get blocks k ≡ o → has_code code (defined_by blocks o) ≡ true → k < length blocks
defined_below blocks code k None e d = absurd (cc d)
defined_below blocks code k (Some b) e d = held_below blocks k b e

found_below : (blocks : List Block) (code : List ℕ) (ks : List ℕ) (k : ℕ) → find (defines_at blocks code) ks ≡ Some k → k < length blocks
found_below blocks code ks k e = defined_below blocks code k (slice_get blocks k) refl (found_true (defines_at blocks code) ks k e)

callee_number : (blocks : List Block) (o : Option ℕ) (x : ℕ × Prototype) → Some x ≡ callee_at blocks o → o ≡ Some x.0
callee_number blocks None x e = absurd (cc e)
callee_number blocks (Some k) x e = by_prototype (defined_at blocks k) e
  where
    by_prototype : (p : Option Prototype) → Some x ≡ callee_by k p → Some k ≡ Some x.0
    by_prototype None f = absurd (cc f)
    by_prototype (Some q) f = let same : x ≡ (k, q) = cc f in ap (λ y. Some y.0) (sym same)

pub callee_below : (blocks : List Block) (code : List ℕ) (ks : List ℕ) (r : Option Callee) → option_map callee_in r ≡ callee_at blocks (find (defines_at blocks code) ks) → IfSome r (λ c. c.definition < length blocks)
callee_below blocks code ks None e = tt
callee_below blocks code ks (Some c) e = found_below blocks code ks c.definition (callee_number blocks (find (defines_at blocks code) ks) (callee_in c) e)

-- the script at a block begins with it

within_begins : (sheet : Sheet) (k n : ℕ) (o : Option Block) → n ≡ length sheet.blocks → slice_get sheet.blocks k ≡ o → k < length sheet.blocks → first_block (script_within sheet n (Some k)) ≡ k
unfolding script_within
within_begins sheet k zero o e at h = absurd (omega (arith, e, h))
within_begins sheet k (suc n) (Some b) e at h = rw at refl
within_begins sheet k (suc n) None e at h = absurd (past sheet.blocks k at h)
  where
    past : (bs : List Block) (j : ℕ) → slice_get bs j ≡ None → j < length bs → ⊥
    past [] j a l = omega (arith, l)
    past (b ∷ bs) zero a l = cc a
    past (b ∷ bs) (suc j) a l = past bs j a (omega (arith, l))

script_begins : (sheet : Sheet) (k : ℕ) → k < length sheet.blocks → first_block (script sheet (Some k)) ≡ k
unfolding script
script_begins sheet k h = within_begins sheet k (length sheet.blocks) (slice_get sheet.blocks k) refl refl h

pub callee_begins : (sheet : Sheet) (r : Option Callee) → IfSome r (λ c. c.definition < length sheet.blocks) → IfSome r (λ c. definition_of (procedure_in sheet (callee_in c)) ≡ c.definition)
callee_begins sheet None h = tt
callee_begins sheet (Some c) h = script_begins sheet c.definition h

-- the scripts of a target

numbered_at : {A : Type 0} (n t : ℕ) (xs : List A) → slice_get (enumerate_from n xs) t ≡ option_map (λ x. (n + t, x)) (slice_get xs t)
numbered_at n t [] = refl
numbered_at n zero (x ∷ xs) = ap (λ k. Some (k, x)) (the_first n)
numbered_at n (suc t) (x ∷ xs) = numbered_at (n + 1) t xs ∙ ap (λ k. option_map (λ x. (k, x)) (slice_get xs t)) (the_next n t)

pub held_at : {A : Type 0} (xs : List A) (t : ℕ) (d : A) → t < length xs → slice_get xs t ≡ Some (unwrap_or (slice_get xs t) d)
held_at [] t d h = absurd (omega (arith, h))
held_at (x ∷ xs) zero d h = refl
held_at (x ∷ xs) (suc t) d h = held_at xs t d (omega (arith, h))

pub scripts_here : (p : Project) (t : ℕ) → t < length (tables_of p) → scripts_at t (program_of p) ≡ scripts_of (sheet_at t p)
scripts_here p t h =
    ap (λ o. unwrap_or o (record { heads = []; procedures = [] }))
    (slice_get-map scripts_of (sheets (tables_of p) (names_of p)) t
    ∙ ap (option_map scripts_of)
    (slice_get-map (sheet_of (names_of p)) (enumerate_from 0 (tables_of p)) t
    ∙ ap (option_map (sheet_of (names_of p))) (numbered_at 0 t (tables_of p) ∙ ap (λ k. option_map (λ x. (k, x)) (slice_get (tables_of p) t)) (none_before t) ∙ ap (option_map (λ x. (t, x))) (held_at (tables_of p) t [] h))))

none_at : {A : Type 0} (xs : List A) (t : ℕ) → length xs ≤ t → slice_get xs t ≡ None
none_at [] t h = refl
none_at (x ∷ xs) zero h = absurd (omega (arith, h))
none_at (x ∷ xs) (suc t) h = none_at xs t (omega (arith, h))

-- a target that is not there has no procedure
pub none_beyond : (p : Project) (t : ℕ) (code : List ℕ) → length (tables_of p) ≤ t → None ≡ procedure t code (program_of p)
none_beyond p t code h =
    sym
    (ap (λ (o : Option Scripts). find (λ q. bytes_eq q.code code) (unwrap_or o (record { heads = []; procedures = [] })).procedures)
    (slice_get-map scripts_of (sheets (tables_of p) (names_of p)) t
    ∙ ap (option_map scripts_of)
    (slice_get-map (sheet_of (names_of p)) (enumerate_from 0 (tables_of p)) t
    ∙ ap (option_map (sheet_of (names_of p))) (numbered_at 0 t (tables_of p) ∙ ap (option_map (λ x. (0 + t, x))) (none_at (tables_of p) t h)))))

composed : {A B C : Type 0} (f : A → B) (g : B → C) (o : Option A) → option_map (λ a. g (f a)) o ≡ option_map g (option_map f o)
composed f g None = refl
composed f g (Some a) = refl

-- the procedure that is found
pub procedure_found : (p : Project) (t : ℕ) (code : List ℕ) (r : Option Callee) → t < length (tables_of p) → option_map callee_in r ≡ callee_at (blocks_at t p) (find (defines_at (blocks_at t p) code) (head_numbers (blocks_at t p)))
    → option_map (λ c. procedure_in (sheet_at t p) (callee_in c)) r ≡ procedure t code (program_of p)
procedure_found p t code r h e =
    composed callee_in (procedure_in (sheet_at t p)) r
    ∙ ap (option_map (procedure_in (sheet_at t p))) e ∙ callee_found (sheet_at t p) code ∙ ap (λ s. find (λ q. bytes_eq q.code code) s.procedures) (sym (scripts_here p t h))

-- the blocks and the heads of a target, as a project keeps them

heads_row : (lists : List (List ℕ)) (t : ℕ) (heads : List ℕ) → t < length lists → heads ≡ slice_index_or lists t heads → slice_get lists t ≡ Some heads
heads_row [] t heads h e = absurd (omega (arith, h))
heads_row (x ∷ xs) zero heads h e = ap Some (sym e)
heads_row (x ∷ xs) (suc t) heads h e = heads_row xs t heads (omega (arith, h)) e

some_same : {A : Type 0} (x y : A) → Some x ≡ Some y → x ≡ y
some_same x y e = cc e

heads_here : (p : Project) (t : ℕ) (heads : List ℕ) → t < length (tables_of p) → heads ≡ slice_index_or p.heads.items t heads → heads ≡ head_numbers (blocks_at t p)
heads_here p t heads h e =
    let long : length p.heads.items ≡ length (tables_of p) = ap length p.kept.heads ∙ length-map (tables_of p) head_numbers in
    some_same heads (head_numbers (blocks_at t p))
    (sym (heads_row p.heads.items t heads (omega (arith, h, long)) e) ∙ ap (λ xs. slice_get xs t) p.kept.heads ∙ slice_get-map head_numbers (tables_of p) t ∙ ap (option_map head_numbers) (held_at (tables_of p) t [] h))

pub found_in : (p : Project) (t : ℕ) (code : List ℕ) → t < length (tables_of p) → (i : ℕ) (table : BlockTable) (heads : List ℕ) (blocks : List Block) (ks : List ℕ) (o : Option (ℕ × Prototype))
    → i ≡ t → table ≡ slice_index_or p.tables.items i table → heads ≡ slice_index_or p.heads.items i heads → blocks ≡ table.blocks → ks ≡ heads → o ≡ callee_at blocks (find (defines_at blocks code) ks)
    → o ≡ callee_at (blocks_at t p) (find (defines_at (blocks_at t p) code) (head_numbers (blocks_at t p)))
found_in p t code h i table heads blocks ks o here at_table at_heads bs same e =
    let table_here : table ≡ slice_index_or p.tables.items t table = subst (λ k. table ≡ slice_index_or p.tables.items k table) here at_table in
    let row_here : heads ≡ slice_index_or p.heads.items t heads = subst (λ k. heads ≡ slice_index_or p.heads.items k heads) here at_heads in
    e ∙ ap (λ xs. callee_at xs (find (defines_at xs code) ks)) (bs ∙ sym (blocks_here p.tables.items t table h table_here)) ∙ ap (λ ns. callee_at (blocks_at t p) (find (defines_at (blocks_at t p) code) ns)) (same ∙ heads_here p t heads h row_here)
