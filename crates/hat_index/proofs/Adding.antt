-- What one more head changes.
use Rattle.std.proofs.Common.{◌≡◌, ℕ, zero, suc, ◌<◌, Bool, true, false, List, [], ◌∷◌, ◌++◌, map, length, Option, Some, None, refl, sym, ap, ◌∙◌, subst, arith}
use Rattle.std.specs.Prelude.{◌==◌, filter, slice_get, slice_set, unwrap_or, bytes_eq, nat_lt, option_to_list, if◌then◌else◌}
use Rattle.std.specs.List.{cons_option}
use Rattle.std.proofs.lemmas.List.Elements.{filter-append, filter_map-append}
use Rattle.std.proofs.lemmas.List.{length-set, length_push}
use Rattle.std.proofs.lemmas.Bool.{eqb-true, eq-eqb}
use Rattle.std.specs.Map.{update}
use Rattle.std.proofs.lemmas.Slice.Eq.{bytes_eq-Decides}
use Rattle.opcode_table.specs.declared.opcode.Opcode.{Opcode}
use Rattle.project_spec.specs.declared.blocks.Block.{Block}
use Rattle.project_spec.specs.Trees.{op_by, fields_of, target_of_link}
use Rattle.hat_index.specs.declared.text_starts.TextStarts.{TextStarts}
use Rattle.hat_index.specs.declared.target_hats.TargetHats.{TargetHats}
use Rattle.hat_index.specs.Starts.{Start, starts_at, with_start, Adds}
use Rattle.hat_index.specs.Hats.{Hat, row_of, key_text, hat_of, hat_by, hat_at, hats_in, is_for, start_of, some_unless_empty, entry, found_by, found_in, IsTarget}

-- Lists

get_here : {A : Type 0} (xs : List A) (i : ℕ) (a : A) → i < length xs → slice_get (slice_set xs i a) i ≡ Some a
get_here [] i a h = absurd (omega arith)
get_here (x ∷ xs) zero a h = refl
get_here (x ∷ xs) (suc i) a h = get_here xs i a (omega arith)

get_there : {A : Type 0} (xs : List A) (i j : ℕ) (a : A) → (i ≡ j → ⊥) → slice_get (slice_set xs i a) j ≡ slice_get xs j
get_there [] i j a apart = refl
get_there (x ∷ xs) zero zero a apart = absurd (apart refl)
get_there (x ∷ xs) zero (suc j) a apart = refl
get_there (x ∷ xs) (suc i) zero a apart = refl
get_there (x ∷ xs) (suc i) (suc j) a apart = get_there xs i j a (λ e. apart (ap suc e))

differ : (i j : ℕ) → (i == j) ≡ false → i ≡ j → ⊥
differ i j apart e = cc (apart, eq-eqb i j e)

-- Entries

behind : {A : Type 0} (xs : List A) (a : A) → some_unless_empty (xs ++ a ∷ []) ≡ Some (xs ++ a ∷ [])
behind [] a = refl
behind (x ∷ xs) a = refl

what_was : {A : Type 0} (xs : List A) → unwrap_or (some_unless_empty xs) [] ≡ xs
what_was [] = refl
what_was (x ∷ xs) = refl

map_behind : (xs ys : List Hat) → map start_of (xs ++ ys) ≡ map start_of xs ++ map start_of ys
map_behind [] ys = refl
map_behind (x ∷ xs) ys = ap (λ zs. start_of x ∷ zs) (map_behind xs ys)

nothing_behind : {A : Type 0} (xs : List A) → xs ++ [] ≡ xs
nothing_behind [] = refl
nothing_behind (x ∷ xs) = ap (λ zs. x ∷ zs) (nothing_behind xs)

-- the entry after one more head
pub entry_more : (op : Opcode) (text : List ℕ) (heads : List Hat) (h : Hat) → entry op text (heads ++ h ∷ []) ≡ (if is_for op text h then Some (with_start (entry op text heads) (start_of h)) else entry op text heads)
entry_more op text heads h = ap (λ hs. some_unless_empty (map start_of hs)) (filter-append (is_for op text) heads (h ∷ [])) ∙ turn (is_for op text h) refl
  where
    turn : (b : Bool) → is_for op text h ≡ b → some_unless_empty (map start_of (filter (is_for op text) heads ++ filter (is_for op text) (h ∷ []))) ≡ (if b then Some (with_start (entry op text heads) (start_of h)) else entry op text heads)
    turn true e =
        let found = filter (is_for op text) heads in
        rw e (ap some_unless_empty (map_behind found (h ∷ [])) ∙ behind (map start_of found) (start_of h) ∙ ap (λ xs. Some (xs ++ start_of h ∷ [])) (sym (what_was (map start_of found))))
    turn false e = rw e (ap (λ hs. some_unless_empty (map start_of hs)) (nothing_behind (filter (is_for op text) heads)))

-- Rows

module _ (old new : TargetHats) (row row' : TextStarts) (h : Hat) where
  -- the row of the head's opcode has one more, and the other rows are as they were
  pub added :
      row_of h.opcode < length old.rows.items → slice_get old.rows.items (row_of h.opcode) ≡ Some row → new.rows.items ≡ slice_set old.rows.items (row_of h.opcode) row' → Adds row row' h.folded (start_of h)
      → (heads : List Hat) → IsTarget old heads → IsTarget new (heads ++ h ∷ [])
  added within held is adds heads was = record {
    rows = ap length is ∙ length-set old.rows.items (row_of h.opcode) row' ∙ was.rows;
    each = λ op text. by_row op text (row_of h.opcode == row_of op) refl ∙ sym (entry_more op text heads h);
  }
    where
      by_row : (op : Opcode) (text : List ℕ) (b : Bool) → (row_of h.opcode == row_of op) ≡ b → found_in new op text ≡ (if is_for op text h then Some (with_start (entry op text heads) (start_of h)) else entry op text heads)
      by_row op text true same =
          let e : row_of h.opcode ≡ row_of op = eqb-true (row_of h.opcode) (row_of op) same in
          let here : slice_get new.rows.items (row_of op) ≡ Some row' = ap (λ rows. slice_get rows (row_of op)) is ∙ subst (λ n. slice_get (slice_set old.rows.items (row_of h.opcode) row') n ≡ Some row') e (get_here old.rows.items (row_of h.opcode) row' within) in
          let before : starts_at row text ≡ entry op text heads = sym (ap (λ o. found_by o text) (subst (λ n. slice_get old.rows.items n ≡ Some row) e held)) ∙ was.each op text in
          ap (λ o. found_by o text) here ∙ adds text ∙ rw (same, before) refl
      by_row op text false apart =
          let there : slice_get new.rows.items (row_of op) ≡ slice_get old.rows.items (row_of op) = ap (λ rows. slice_get rows (row_of op)) is ∙ get_there old.rows.items (row_of h.opcode) (row_of op) row' (differ (row_of h.opcode) (row_of op) apart) in
          ap (λ o. found_by o text) there ∙ was.each op text ∙ rw apart refl

  -- the same, where the row has a number
  pub added_at :
      (n : ℕ) (text : List ℕ) → n ≡ row_of h.opcode → text ≡ h.folded → n < length old.rows.items → slice_get old.rows.items n ≡ Some row → new.rows.items ≡ slice_set old.rows.items n row'
      → Adds row row' text (start_of h) → (heads : List Hat) → IsTarget old heads → IsTarget new (heads ++ h ∷ [])
  added_at n text e same within held is adds =
      added (subst (λ m. m < length old.rows.items) e within) (subst (λ m. slice_get old.rows.items m ≡ Some row) e held) (subst (λ m. new.rows.items ≡ slice_set old.rows.items m row') e is) (subst (λ t. Adds row row' t (start_of h)) same adds)

-- Rows with no heads

no_more : (xs : List TextStarts) (row : TextStarts) → ((text : List ℕ) → starts_at row text ≡ None) → ((k : ℕ) (text : List ℕ) → found_by (slice_get xs k) text ≡ None) → (k : ℕ) (text : List ℕ) → found_by (slice_get (xs ++ row ∷ []) k) text ≡ None
no_more [] row empty all zero text = empty text
no_more [] row empty all (suc k) text = refl
no_more (x ∷ xs) row empty all zero text = all zero text
no_more (x ∷ xs) row empty all (suc k) text = no_more xs row empty (λ j. all (suc j)) k text

-- so many rows, none of which has a head
pub record AreEmpty (rows : List TextStarts) (count : ℕ) : Type 0 where
  pub many : length rows ≡ count
  pub none : (k : ℕ) (text : List ℕ) → found_by (slice_get rows k) text ≡ None

pub one_more : (rows : List TextStarts) (row : TextStarts) (n : ℕ) → ((text : List ℕ) → starts_at row text ≡ None) → AreEmpty rows n → AreEmpty (rows ++ row ∷ []) (suc n)
one_more rows row n empty are = record { many = omega (arith, length_push rows row, are.many); none = no_more rows row empty are.none }

pub nothing : (hats : TargetHats) → AreEmpty hats.rows.items 8 → IsTarget hats []
nothing hats are = record { rows = are.many; each = λ op text. are.none (row_of op) text }

-- A text with one more head

-- the heads of a text are taken out, and put back with one more
pub put_back : (old mid new : TextStarts) (text key : List ℕ) (s : Start) (starts : List Start) → key ≡ text → starts ≡ with_start (starts_at old text) s
    → ((q : List ℕ) → starts_at mid q ≡ update bytes_eq (starts_at old) text None q) → ((q : List ℕ) → starts_at new q ≡ update bytes_eq (starts_at mid) key (Some starts) q) → Adds old new text s
put_back old mid new text key s starts same more out back q = back q ∙ ap (λ k. update bytes_eq (starts_at mid) k (Some starts) q) same ∙ turn (bytes_eq text q) refl
  where
    turn : (b : Bool) → bytes_eq text q ≡ b → update bytes_eq (starts_at mid) text (Some starts) q ≡ (if bytes_eq text q then Some (with_start (starts_at old q) s) else starts_at old q)
    turn true e = rw e (ap Some (more ∙ ap (λ t. with_start (starts_at old t) s) ((bytes_eq-Decides text q).0 e)))
    turn false e = rw e (out q ∙ rw e refl)

-- A block

is_row : (n : ℕ) → n < 8 → nat_lt n 8 ≡ true
is_row n h = grind (arith, h)

module _ (old new : TargetHats) (row row' : TextStarts) (id : ℕ) (b : Block) where
  -- a block of a row is added as the hat that it is
  pub added_block :
      (op : Opcode) (n : ℕ) (text : List ℕ) (next : Option ℕ) → op ≡ op_by b.code → n ≡ row_of op → text ≡ key_text op (fields_of b) → next ≡ target_of_link b.next
      → n < length old.rows.items → slice_get old.rows.items n ≡ Some row → new.rows.items ≡ slice_set old.rows.items n row' → Adds row row' text (id, next)
      → (hats : List Hat) → IsTarget old hats → IsTarget new (hats ++ option_to_list (hat_by id (Some b)))
  added_block op n text next eo en et ex within held is adds hats was =
      let hat : Hat = record { opcode = op; folded = key_text op (fields_of b); block = id; next = target_of_link b.next } in
      let small : row_of op < 8 = omega (arith, within, en, was.rows) in
      let one : hat ∷ [] ≡ option_to_list (hat_by id (Some b)) =
      sym (ap (λ t. option_to_list (if t then Some hat else None)) (is_row (row_of op) small)) ∙ ap (λ o. option_to_list (hat_of o id b)) eo in
      subst (λ xs. IsTarget new (hats ++ xs)) one
      (added_at old new row row' hat n text en et within held is (subst (λ x. Adds row row' text (id, x)) ex adds) hats was)

-- Heads

-- a head that is no block adds nothing
pub added_none : (old : TargetHats) (o : Option Hat) → o ≡ None → (hats : List Hat) → IsTarget old hats → IsTarget old (hats ++ option_to_list o)
added_none old o e hats was = subst (λ xs. IsTarget old xs) (sym (nothing_behind hats) ∙ ap (λ x. hats ++ option_to_list x) (sym e)) was

-- one more head
pub hats_more : (blocks : List Block) (heads : List ℕ) (id : ℕ) → hats_in blocks heads ++ option_to_list (hat_at blocks id) ≡ hats_in blocks (heads ++ id ∷ [])
hats_more blocks heads id = by (hat_at blocks id) refl
  where
    by : (o : Option Hat) → hat_at blocks id ≡ o → hats_in blocks heads ++ option_to_list o ≡ hats_in blocks (heads ++ id ∷ [])
    by o e = sym (filter_map-append (hat_at blocks) heads (id ∷ []) ∙ ap (λ x. hats_in blocks heads ++ cons_option x []) e ∙ same o)
      where
        same : (o : Option Hat) → hats_in blocks heads ++ cons_option o [] ≡ hats_in blocks heads ++ option_to_list o
        same None = refl
        same (Some h) = refl
