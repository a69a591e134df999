-- Named bytes as a list in memory, and the map that they are.
use Rattle.std.proofs.Common.{◌≡◌, ℕ, suc, ◌+◌, Bool, true, false, cond, List, [], ◌∷◌, ◌++◌, map, get_or, set, Option, None, Some, String, Vec, string_bytes, refl, sym, ap, ◌∙◌, subst, arith}
use Rattle.std.specs.Str.{bytes_eq}
use Rattle.std.specs.List.{position_from}
use Rattle.std.specs.Ordering.{nat_cmp, eq_by_cmp}
use Rattle.std.specs.Cmp.{eq_by_cmp_equiv}
use Rattle.std.specs.Cmp.Lexicographic.{slice_cmp, nat_list_cmp_total}
use Rattle.std.specs.FinMap.{get, find, insert, get-from_entries, get-insert, same_map, from_entries_push, slice_cmp-IsAntisymmetric, nat_cmp-IsAntisymmetric}
use Rattle.std.specs.declared.alloc.Global.{Global}
use Rattle.std.proofs.lemmas.Map.Text.{is_eq-slice_cmp}
use Rattle.std.proofs.lemmas.Slice.Eq.{bytes_eq-Decides}
use Rattle.sv_channels.specs.Files.{Files, files_of}

abbrev pub Stored : Type 0
Stored = String Global × Vec ℕ Global

-- a name with its bytes, as a contract sees them
abbrev pub entry_of : Stored → List ℕ × List ℕ
entry_of file = (string_bytes file.0, file.1.items)

-- whether the file has the name
abbrev pub has_name : List ℕ → Stored → Bool
has_name name file = bytes_eq (string_bytes file.0) name

-- the bytes of the first file with the name
abbrev pub file_at : List Stored → List ℕ → Option (List ℕ)
file_at [] name = None
file_at (file ∷ files) name = cond (has_name name file) (Some file.1.items) (file_at files name)

-- the map's test of two names is the equality of their bytes
same_test : (name other : List ℕ) → eq_by_cmp (slice_cmp nat_cmp) name other ≡ bytes_eq other name
same_test name other = (eq_by_cmp_equiv nat_list_cmp_total).symm name other ∙ is_eq-slice_cmp other name

find-entries : (files : List Stored) (name : List ℕ) → find (slice_cmp nat_cmp) name (map entry_of files) ≡ file_at files name
find-entries [] name = refl
find-entries (file ∷ files) name =
    ap (λ b. cond b (Some file.1.items) (find (slice_cmp nat_cmp) name (map entry_of files))) (same_test name (string_bytes file.0))
    ∙ ap (λ o. cond (has_name name file) (Some file.1.items) o) (find-entries files name)

pub get-files_of : (files : List Stored) (name : List ℕ) → get (files_of (map entry_of files)) name ≡ file_at files name
get-files_of files name = get-from_entries nat_list_cmp_total (map entry_of files) name ∙ find-entries files name

-- the n-th file is the first with the name: it is the one that is found, and to write there is to put under the name
pub record IsPlace (name : List ℕ) (files : List Stored) (n : ℕ) : Type 0 where
  pub found : (d : Stored) → file_at files name ≡ Some (get_or files n d).1.items
  pub named : (d : Stored) → string_bytes (get_or files n d).0 ≡ name
  pub written : (file : Stored) → string_bytes file.0 ≡ name → (other : List ℕ) → file_at (set files n file) other ≡ cond (bytes_eq name other) (Some file.1.items) (file_at files other)

same_bytes : (a b : List ℕ) → bytes_eq a b ≡ true → a ≡ b
same_bytes a b = (bytes_eq-Decides a b).0

-- a test that is repeated
shadowed : {A : Type 0} (b : Bool) (x y z : A) → cond b x z ≡ cond b x (cond b y z)
shadowed true x y z = refl
shadowed false x y z = refl

-- two tests of which at most one holds
swapped : {A : Type 0} (a b : Bool) (x y z : A) → (a ≡ true → b ≡ true → ⊥) → cond a x (cond b y z) ≡ cond b y (cond a x z)
swapped true true x y z apart = absurd (apart refl refl)
swapped true false x y z apart = refl
swapped false true x y z apart = refl
swapped false false x y z apart = refl

place_here : (name : List ℕ) (file : Stored) (files : List Stored) → has_name name file ≡ true → IsPlace name (file ∷ files) 0
place_here name file files is_named = record {
  found = λ d. ap (λ b. cond b (Some file.1.items) (file_at files name)) is_named;
  named = λ d. same_bytes _ _ is_named;
  written = λ new is other.
      let here : bytes_eq (string_bytes file.0) other ≡ bytes_eq name other = ap (λ k. bytes_eq k other) (same_bytes _ _ is_named) in
      ap (λ k. cond (bytes_eq k other) (Some new.1.items) (file_at files other)) is
      ∙ shadowed (bytes_eq name other) (Some new.1.items) (Some file.1.items) (file_at files other)
      ∙ ap (λ b. cond (bytes_eq name other) (Some new.1.items) (cond b (Some file.1.items) (file_at files other))) (sym here);
}

place_later : (name : List ℕ) (file : Stored) (files : List Stored) (n : ℕ) → has_name name file ≡ false → IsPlace name files n → IsPlace name (file ∷ files) (suc n)
place_later name file files n other_name p = record {
  found = λ d. ap (λ b. cond b (Some file.1.items) (file_at files name)) other_name ∙ p.found d;
  named = λ d. p.named d;
  written = λ new is other.
      ap (cond (has_name other file) (Some file.1.items)) (p.written new is other)
      ∙ swapped (has_name other file) (bytes_eq name other) (Some file.1.items) (Some new.1.items) (file_at files other)
      (λ a b. let same : string_bytes file.0 ≡ name = same_bytes _ _ a ∙ sym (same_bytes _ _ b) in
      let yes : has_name name file ≡ true = (bytes_eq-Decides (string_bytes file.0) name).1 same in
      cc);
}

place_from : (name : List ℕ) (files : List Stored) (i p : ℕ) → position_from (has_name name) i files ≡ Some p → (n : ℕ) × (n + i ≡ p) × IsPlace name files n
place_from name [] i p e = absurd (cc)
place_from name (file ∷ files) i p e =
    elim (has_name name file) as (λ b. has_name name file ≡ b → cond b (Some i) (position_from (has_name name) (i + 1) files) ≡ Some p → (n : ℕ) × (n + i ≡ p) × IsPlace name (file ∷ files) n) [
      | true ↦ λ is_named at. (0, (let same : i ≡ p = cc in omega arith), place_here name file files is_named)
      | false ↦ λ other_name at. let later = place_from name files (i + 1) p at in (suc later.0, omega (arith, later.1), place_later name file files later.0 other_name later.2)
    ] refl e

pub place_at : (name : List ℕ) (files : List Stored) (p : ℕ) → position_from (has_name name) 0 files ≡ Some p → IsPlace name files p
place_at name files p e = let at = place_from name files 0 p e in subst (IsPlace name files) (omega (arith, at.1)) at.2

pub file_at-none : (name : List ℕ) (files : List Stored) (i : ℕ) → position_from (has_name name) i files ≡ None → file_at files name ≡ None
file_at-none name [] i e = refl
file_at-none name (file ∷ files) i e =
    elim (has_name name file) as (λ b. cond b (Some i) (position_from (has_name name) (i + 1) files) ≡ None → cond b (Some file.1.items) (file_at files name) ≡ None) [
      | true ↦ λ at. absurd (cc)
      | false ↦ λ at. file_at-none name files (i + 1) at
    ] e

same_files : (m n : Files) → ((other : List ℕ) → get m other ≡ get n other) → m ≡ n
same_files m n is = same_map nat_list_cmp_total (slice_cmp-IsAntisymmetric nat_cmp-IsAntisymmetric) m n is

pub files_of-set : (name bytes : List ℕ) (files : List Stored) (p : ℕ) (file : Stored) → position_from (has_name name) 0 files ≡ Some p → string_bytes file.0 ≡ name → file.1.items ≡ bytes → files_of (map entry_of (set files p file)) ≡ insert (files_of (map entry_of files)) name bytes
files_of-set name bytes files p file at is holds =
    same_files _ _ (λ other.
    get-files_of (set files p file) other
    ∙ (place_at name files p at).written file is other
    ∙ ap (λ bs. cond (bytes_eq name other) (Some bs) (file_at files other)) holds
    ∙ ap (cond (bytes_eq name other) (Some bytes)) (sym (get-files_of files other))
    ∙ ap (λ b. cond b (Some bytes) (get (files_of (map entry_of files)) other)) (sym (same_test other name))
    ∙ sym (get-insert nat_list_cmp_total (files_of (map entry_of files)) name bytes other))

pub files_of-push : (name bytes : List ℕ) (files : List Stored) → position_from (has_name name) 0 files ≡ None → files_of (map entry_of files ++ (name, bytes) ∷ []) ≡ insert (files_of (map entry_of files)) name bytes
files_of-push name bytes files none =
    from_entries_push nat_list_cmp_total (slice_cmp-IsAntisymmetric nat_cmp-IsAntisymmetric) (map entry_of files) name bytes (find-entries files name ∙ file_at-none name files 0 none)
