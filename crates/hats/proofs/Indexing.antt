-- An index of a project gives the hats that the machine starts.
use Rattle.std.proofs.Common.{◌≡◌, ℕ, ◌<◌, ◌≤◌, ◌⊎◌, inl, inr, Bool, true, false, ◌&&◌, not, List, [], ◌∷◌, ◌++◌, length, map, option_map, reverse, Option, Some, None, refl, sym, ap, ◌∙◌, subst, arith}
use Rattle.std.specs.Prelude.{◌==◌, filter, flat_map, slice_get, nat_lt, unwrap_or, if◌then◌else◌}
use Rattle.std.specs.List.{All, cons_option, filter_map}
use Rattle.std.specs.Option.{option_map_or}
use Rattle.std.proofs.lemmas.Bool.{cases_lt}
use Rattle.std.proofs.lemmas.List.{map-append}
use Rattle.std.proofs.lemmas.List.Concat.{flat_map-cons}
use Rattle.std.proofs.lemmas.List.Elements.{All-nil, All-cons, All-filter, All-map}
use Rattle.std.proofs.lemmas.Option.{slice_get-map, slice_get_past}
use Rattle.opcode_table.specs.declared.opcode.Opcode.{Opcode}
use Rattle.opcode_table.specs.Kinds.{hat_kind}
use Rattle.machine_spec.specs.declared.instance.Instance.{Instance}
use Rattle.machine_spec.specs.declared.threads.Filter.{Filter}
use Rattle.machine_spec.specs.Program.{Head}
use Rattle.machine_spec.specs.Script.{Statement}
use Rattle.machine_spec.specs.Starting.{restarts, meant, pairs_of, pairs, starts, fits_hat, is_stage_hat_of}
use Rattle.project_spec.specs.declared.blocks.Block.{Block}
use Rattle.project_spec.specs.Trees.{Sheet, op_by, fields_of, target_of_link, statement, script, heads_of}
use Rattle.hat_index.specs.declared.index.HatIndex.{HatIndex}
use Rattle.hat_index.specs.ByIndex.{Asked, first_asked, second_asked, head_numbers, head_at, head_by, given, EachKindHasOneOpcode, FirstByKey, SecondByKey}
use Rattle.hat_index.specs.Hats as keyed
use Rattle.hat_index.specs.Hats.{row_of, key_text, hat_at, hats_in, is_for, start_of, starts_for, some_unless_empty, entry}
use Rattle.hat_index.specs.Index.{found, hats_by, hats_of as hats_at_target}
use Rattle.project_check.specs.declared.project.Project.{Project}
use Rattle.project_check.specs.Hats.{IsIndexOf}
use Rattle.project_check.specs.Links.{EachIsLinked}
use Rattle.project_check.specs.Loaded.{tables_of, blocks_at, sheet_at, program_of}
use Rattle.project_check.proofs.Defining.{scripts_here}
use Rattle.thread_frames.specs.Fit.{IsHeld}
use Rattle.hats.specs.declared.hat_threads.Hat.{Hat}
use Rattle.hats.specs.Indexed.{hat_by, hats_of, hats_among, hats_for, AreHeld}
use Rattle.hats.specs.Started.{hat_in}
use Rattle.hats.proofs.Begins.{begins-next, next-held}
use Rattle.hats.proofs.Rounds.{none_past}

-- Lists

map_twice : {A B C : Type 0} (g : B → C) (f : A → B) (xs : List A) → map g (map f xs) ≡ map (λ x. g (f x)) xs
map_twice g f [] = refl
map_twice g f (x ∷ xs) = ap (λ ys. g (f x) ∷ ys) (map_twice g f xs)

map_each : {A B C : Type 0} (g : B → C) (f : A → List B) (h : A → List C) → ((x : A) → map g (f x) ≡ h x) → (xs : List A) → map g (flat_map f xs) ≡ flat_map h xs
map_each g f h same [] = refl
map_each g f h same (x ∷ xs) =
    ap (map g) (flat_map-cons f x xs) ∙ map-append g (f x) (flat_map f xs)
    ∙ (λ j. same x j ++ map_each g f h same xs j) ∙ sym (flat_map-cons h x xs)

map_none : {A B C : Type 0} (g : B → C) (f : A → List B) → ((x : A) → map g (f x) ≡ []) → (xs : List A) → map g (flat_map f xs) ≡ []
map_none g f none [] = refl
map_none g f none (x ∷ xs) = ap (map g) (flat_map-cons f x xs) ∙ map-append g (f x) (flat_map f xs) ∙ (λ j. none x j ++ map_none g f none xs j)

unwrap_some : {A : Type 0} (xs : List A) → unwrap_or (some_unless_empty xs) [] ≡ xs
unwrap_some [] = refl
unwrap_some (x ∷ xs) = refl

both_true : (a b : Bool) → (a && b) ≡ true → (a ≡ true) × (b ≡ true)
both_true true b e = (refl, e)
both_true false b e = absurd (cc e)

same_number : (m n : ℕ) → (m == n) ≡ true → m ≡ n
same_number m n e = grind (arith, e)

is_below : (m n : ℕ) → nat_lt m n ≡ true → m < n
is_below m n e = grind (arith, e)

-- the hat of a block
abbrev hat_as : ℕ → Block → keyed.Hat
hat_as k b = record { opcode = op_by b.code; folded = key_text (op_by b.code) (fields_of b); block = k; next = target_of_link b.next }

by_table : (o : Option (List Block)) → hats_by o (option_map head_numbers o) ≡ hats_in (unwrap_or o []) (head_numbers (unwrap_or o []))
by_table None = refl
by_table (Some blocks) = refl

module _ (one : EachKindHasOneOpcode) (linked : EachIsLinked) (p : Project) (index : HatIndex) (is : IsIndexOf p index) where
  -- what is found in a target
  starts_here : (t : ℕ) (op : Opcode) (text : List ℕ) → unwrap_or (found index t op text) [] ≡ starts_for op text (hats_in (blocks_at t p) (head_numbers (blocks_at t p)))
  starts_here t op text =
      let there : hats_at_target (tables_of p) (map head_numbers (tables_of p)) t ≡ hats_in (blocks_at t p) (head_numbers (blocks_at t p)) =
      ap (hats_by (slice_get (tables_of p) t)) (slice_get-map head_numbers (tables_of p) t) ∙ by_table (slice_get (tables_of p) t) in
      ap (λ o. unwrap_or o []) (is t op text ∙ ap (entry op text) there) ∙ unwrap_some (starts_for op text (hats_in (blocks_at t p) (head_numbers (blocks_at t p))))

  -- The blocks under hats

  module _ (t : ℕ) where
    abbrev IsUnder : keyed.Hat → Type 0
    IsUnder h = IsHeld (sheet_at t p) h.next

    hat_under : (k : ℕ) (b : Block) (hats : List keyed.Hat) (r : Bool) → slice_get (blocks_at t p) k ≡ Some b → All IsUnder hats → All IsUnder (cons_option (if r then Some (hat_as k b) else None) hats)
    hat_under k b hats false held all = all
    hat_under k b hats true held all = All-cons IsUnder (hat_as k b) hats (next-held (sheet_at t p) k b (linked p t).0 held (target_of_link b.next) refl) all

    by_block : (k : ℕ) (o : Option Block) (hats : List keyed.Hat) → slice_get (blocks_at t p) k ≡ o → All IsUnder hats → All IsUnder (cons_option (keyed.hat_by k o) hats)
    by_block k None hats held all = all
    by_block k (Some b) hats held all = hat_under k b hats (nat_lt (row_of (op_by b.code)) 8) held all

    all_under : (ks : List ℕ) → All IsUnder (hats_in (blocks_at t p) ks)
    all_under [] = All-nil IsUnder
    all_under (k ∷ ks) = by_block k (slice_get (blocks_at t p) k) (hats_in (blocks_at t p) ks) refl (all_under ks)

  pub held-given : AreHeld (λ t. sheet_at t p) (found index)
  held-given t op text =
      let hats = hats_in (blocks_at t p) (head_numbers (blocks_at t p)) in
      subst (All (λ s. IsHeld (sheet_at t p) s.1)) (sym (starts_here t op text))
      (All-map (λ s. IsHeld (sheet_at t p) s.1) start_of (filter (is_for op text) hats) (All-filter (is_for op text) (IsUnder t) hats (all_under t (head_numbers (blocks_at t p)))))

  -- The hats of an instance

  module _ (i : Instance) (a : Asked) where
    abbrev own : Sheet
    own = sheet_at i.of p

    abbrev as_hat : Head → Hat
    as_hat h = hat_in (record { of = i.number; head = h })

    abbrev machine : List ℕ → List Hat
    machine ks = map as_hat (filter_map (head_at own) (starts_for a.opcode a.folded (hats_in own.blocks ks)))

    abbrev indexed : List ℕ → List Hat
    indexed ks = map (hat_by a.opcode i) (starts_for a.opcode a.folded (hats_in own.blocks ks))

    module _ (k : ℕ) (b : Block) (ks : List ℕ) (held : slice_get own.blocks k ≡ Some b) (rest : machine ks ≡ indexed ks) where
      abbrev head : Head
      head = record { hat = statement own k b; script = script own (target_of_link b.next) }

      at : head_at own (k, target_of_link b.next) ≡ Some head
      at = ap (head_by own (k, target_of_link b.next)) held

      is_hat : hat_at own.blocks k ≡ (if nat_lt (row_of (op_by b.code)) 8 then Some (hat_as k b) else None)
      is_hat = ap (keyed.hat_by k) held

      same_hat : row_of (op_by b.code) < 8 → is_for a.opcode a.folded (hat_as k b) ≡ true → as_hat head ≡ hat_by a.opcode i (k, target_of_link b.next)
      same_hat l e =
          let begins = begins-next own k b (linked p i.of).0 held in
          let op = one (op_by b.code) a.opcode l (same_number (row_of (op_by b.code)) (row_of a.opcode) (both_true (row_of (op_by b.code) == row_of a.opcode) _ e).0) in
          (λ j. record { of = i.number; target = i.of; block = k; first = begins j; restarts = restarts (hat_kind (op j)) })

      by_key : (f : Bool) → nat_lt (row_of (op_by b.code)) 8 ≡ true → is_for a.opcode a.folded (hat_as k b) ≡ f → machine (k ∷ ks) ≡ indexed (k ∷ ks)
      by_key false r e = rw (is_hat, r, e) rest
      by_key true r e = rw (is_hat, r, e, at) (λ j. same_hat (is_below (row_of (op_by b.code)) 8 r) e j ∷ rest j)

      by_row : (r : Bool) → nat_lt (row_of (op_by b.code)) 8 ≡ r → machine (k ∷ ks) ≡ indexed (k ∷ ks)
      by_row false e = rw (is_hat, e) rest
      by_row true e = by_key (is_for a.opcode a.folded (hat_as k b)) e refl

    one_more : (k : ℕ) (o : Option Block) (ks : List ℕ) → slice_get own.blocks k ≡ o → machine ks ≡ indexed ks → machine (k ∷ ks) ≡ indexed (k ∷ ks)
    one_more k None ks held rest = rw (ap (keyed.hat_by k) held) rest
    one_more k (Some b) ks held rest = by_row k b ks held rest (nat_lt (row_of (op_by b.code)) 8) refl

    same_hats : (ks : List ℕ) → machine ks ≡ indexed ks
    same_hats [] = refl
    same_hats (k ∷ ks) = one_more k (slice_get own.blocks k) ks refl (same_hats ks)

    -- the heads that pass a test are those of the keys
    of_instance : (test : Statement → Bool) → filter (λ h. test h.hat) (heads_of own) ≡ given own a → map hat_in (pairs_of (program_of p) test i) ≡ hats_of (found index) a i
    of_instance test key = by (cases_lt i.of (length (tables_of p)))
      where
        by : (i.of < length (tables_of p)) ⊎ (length (tables_of p) ≤ i.of) → map hat_in (pairs_of (program_of p) test i) ≡ hats_of (found index) a i
        by (inl there) =
            ap (λ s. map hat_in (map (λ h. record { of = i.number; head = h }) (filter (λ h. test h.hat) s.heads))) (scripts_here p i.of there)
            ∙ map_twice hat_in (λ h. record { of = i.number; head = h }) (filter (λ h. test h.hat) (heads_of own))
            ∙ ap (map as_hat) key
            ∙ same_hats (head_numbers own.blocks)
            ∙ ap (map (hat_by a.opcode i)) (sym (starts_here i.of a.opcode a.folded))
        by (inr past) =
            ap (map hat_in) (none_past p test i past)
            ∙ ap (λ o. map (hat_by a.opcode i) (starts_for a.opcode a.folded (hats_in (unwrap_or o []) (head_numbers (unwrap_or o []))))) (sym (slice_get_past (tables_of p) i.of past))
            ∙ ap (map (hat_by a.opcode i)) (sym (starts_here i.of a.opcode a.folded))

  no_heads : (test : Statement → Bool) (i : Instance) → filter (λ h. test h.hat) (heads_of (sheet_at i.of p)) ≡ [] → map hat_in (pairs_of (program_of p) test i) ≡ []
  no_heads test i key = by (cases_lt i.of (length (tables_of p)))
    where
      by : (i.of < length (tables_of p)) ⊎ (length (tables_of p) ≤ i.of) → map hat_in (pairs_of (program_of p) test i) ≡ []
      by (inl there) =
          ap (λ s. map hat_in (map (λ h. record { of = i.number; head = h }) (filter (λ h. test h.hat) s.heads))) (scripts_here p i.of there)
          ∙ ap (λ hs. map hat_in (map (λ h. record { of = i.number; head = h }) hs)) key
      by (inr past) = ap (map hat_in) (none_past p test i past)

  -- The hats of all instances

  by_asked : (o : Option Asked) (test : Statement → Bool) → ((sheet : Sheet) → filter (λ h. test h.hat) (heads_of sheet) ≡ option_map_or (given sheet) o []) → (is : List Instance)
      → map hat_in (pairs (program_of p) test is) ≡ option_map_or (λ a. hats_among (found index) a is) o []
  by_asked (Some a) test key is = map_each hat_in (pairs_of (program_of p) test) (hats_of (found index) a) (λ i. of_instance i a test (key (sheet_at i.of p))) (reverse is)
  by_asked None test key is = map_none hat_in (pairs_of (program_of p) test) (λ i. no_heads test i (key (sheet_at i.of p))) (reverse is)

  pub starts-given : FirstByKey → SecondByKey → (f : Filter) (is : List Instance) → map hat_in (starts (program_of p) f is) ≡ hats_for (found index) f is
  starts-given first second f is =
      let one_test : Statement → Bool = λ s. fits_hat f s && not (is_stage_hat_of s) in
      let two_test : Statement → Bool = λ s. fits_hat f s && is_stage_hat_of s in
      let ones = by_asked (Some (first_asked f)) one_test (λ sheet. first sheet f) (meant f is) in
      let twos = by_asked (second_asked f) two_test (λ sheet. second sheet f) (meant f is) in
      map-append hat_in (pairs (program_of p) one_test (meant f is)) (pairs (program_of p) two_test (meant f is)) ∙ (λ j. ones j ++ twos j)
