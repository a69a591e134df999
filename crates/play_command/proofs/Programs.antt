-- The bytes of a project file tell one program.
use Rattle.std.proofs.Common.{◌≡◌, ℕ, suc, ◌+◌, Bool, true, false, List, [], ◌∷◌, Some, refl, sym, ap, ◌∙◌, subst, arith}
use Rattle.std.specs.Prelude.{◌↔◌, slice_get}
use Rattle.machine_spec.specs.Program.{Program, Records}
use Rattle.project_spec.specs.declared.blocks.Block.{Block}
use Rattle.project_spec.specs.Linked.{IsChecked}
use Rattle.project_spec.specs.Reading.{File, blocks_in}
use Rattle.project_spec.specs.Refusals.{TellsChecked, IsProgram, IsProject}
use Rattle.project_spec.specs.Resolving.{and_then, before, names_in, resolved_names, resolved_blocks, resolved_targets}
use Rattle.project_spec.specs.Trees.{program}
use Rattle.project_spec.proofs.OneRefusal.{JsonLaws, one_file}

same_truth : (a b : Bool) (P : Type 0) → (a ≡ true) ↔ P → (b ≡ true) ↔ P → a ≡ b
same_truth true true P p q = refl
same_truth false false P p q = refl
same_truth true false P p q = let e : false ≡ true = q.1 (p.0 refl) in cc e
same_truth false true P p q = let e : false ≡ true = p.1 (q.0 refl) in cc e

-- names are resolved alike where the same blocks are checked
blocks_alike : (c d : ℕ → Bool) → ((k : ℕ) → c k ≡ d k) → (t k : ℕ) (bs : List Block) (records : Records) → resolved_blocks c t k bs records ≡ resolved_blocks d t k bs records
blocks_alike c d same t k [] records = refl
blocks_alike c d same t k (b ∷ bs) records =
    ap (λ x. and_then (resolved_names t (names_in x b) records) (λ refs rs. before refs (resolved_blocks c t (k + 1) bs rs))) (same k)
    ∙ ap (before (resolved_names t (names_in (d k) b) records).what) (blocks_alike c d same t (k + 1) bs (resolved_names t (names_in (d k) b) records).records)

abbrev AgreeFrom : (c d : ℕ → ℕ → Bool) (t : ℕ) → List (List Block) → Type 0
AgreeFrom c d t [] = Unit {0}
AgreeFrom c d t (bs ∷ more) = ((k : ℕ) → c t k ≡ d t k) × AgreeFrom c d (t + 1) more

targets_alike : (c d : ℕ → ℕ → Bool) (t : ℕ) (tables : List (List Block)) (records : Records) → AgreeFrom c d t tables → resolved_targets c t tables records ≡ resolved_targets d t tables records
targets_alike c d t [] records h = refl
targets_alike c d t (bs ∷ more) records h =
    ap (λ f. and_then f (λ refs rs. before refs (resolved_targets c (t + 1) more rs))) (blocks_alike (c t) (d t) h.0 t 0 bs records)
    ∙ ap (before (resolved_blocks (d t) t 0 bs records).what) (targets_alike c d (t + 1) more (resolved_blocks (d t) t 0 bs records).records h.1)

agree_from : (c d : ℕ → ℕ → Bool) (t : ℕ) (tables : List (List Block)) → ((j k : ℕ) (blocks : List Block) → slice_get tables j ≡ Some blocks → c (t + j) k ≡ d (t + j) k) → AgreeFrom c d t tables
agree_from c d t [] h = tt
agree_from c d t (bs ∷ more) h =
    let here : t + 0 ≡ t = omega arith in (
      λ k. subst (λ i. c i k ≡ d i k) here (h 0 k bs refl),
      agree_from c d (t + 1) more (λ j k blocks e. let next : t + suc j ≡ t + 1 + j = omega arith in subst (λ i. c i k ≡ d i k) next (h (suc j) k blocks e)),
    )

agree_checked : (tables : List (List Block)) (c d : ℕ → ℕ → Bool) → TellsChecked tables c → TellsChecked tables d → AgreeFrom c d 0 tables
agree_checked tables c d p q =
    agree_from c d 0 tables (λ j k blocks e.
    let at : j ≡ 0 + j = omega arith in
    subst (λ i. c i k ≡ d i k) at (same_truth (c j k) (d j k) (IsChecked blocks k) (p j k blocks e) (q j k blocks e)))

pub one_program_of : (f : File) (p q : Program) → IsProgram f p → IsProgram f q → p ≡ q
one_program_of f p q a b =
    a.is ∙ ap (program (blocks_in f)) (targets_alike a.checked b.checked 0 (blocks_in f) f.records (agree_checked (blocks_in f) a.checked b.checked a.tells b.tells)) ∙ sym b.is

pub one_program : (laws : JsonLaws) (bytes : List ℕ) (p q : Program) → IsProject bytes p → IsProject bytes q → p ≡ q
one_program laws bytes p q a b =
    let same : b.0 ≡ a.0 = one_file laws bytes b.0 a.0 b.1 a.1 in
    one_program_of a.0 p q a.2 (subst (λ f. IsProgram f q) same b.2)
