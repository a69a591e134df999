-- The blocks of a target, one after another.
use Rattle.std.proofs.Common.{◌≡◌, ℕ, suc, ◌+◌, ◌<◌, ◌≤◌, Bool, true, false, List, [], ◌∷◌, ◌++◌, length, get_or, take, drop, refl, sym, ap, ◌∙◌, subst, append-nil, add-one, arith, length-append}
use Rattle.std.specs.List.{sum_by, flat_map}
use Rattle.std.proofs.lemmas.List.Sums.{sum_by_more}
use Rattle.std.proofs.Math.Seq.{drop-cons, take-length, drop-length}
use Rattle.machine_spec.specs.Program.{Records}
use Rattle.project_spec.specs.declared.blocks.Block.{Block}
use Rattle.project_spec.specs.declared.blocks.Resolved.{Resolved}
use Rattle.project_spec.specs.Resolving.{and_then, before, field_naming, input_naming, names_in, resolved_names, resolved_blocks}
use Rattle.name_resolving.specs.declared.scope.Scope.{Scope}
use Rattle.name_resolving.specs.Scope.{IsScope}
use Rattle.name_resolving.specs.Room.{parts}
use Rattle.name_resolving.specs.Passing.{onto, Grows, Passes}
use Rattle.name_resolving.specs.Blocks.{PassesBlocks}
use Rattle.name_resolving.proofs.Added.{grows-none, grows-more}
use Rattle.name_resolving.proofs.Passed.{onto-more, passes-all}
use Rattle.name_resolving.proofs.Fewness.{few-field, few-input, few-flat_map}

-- the names in a block are no more than its parts
pub few-names : (is_checked : Bool) (b : Block) → length (names_in is_checked b) ≤ parts b
few-names false b = omega arith
few-names true b =
    let f = few-flat_map (field_naming b.code) (few-field b.code) b.fields in
    let i = few-flat_map input_naming few-input b.inputs in
    let l = length-append (flat_map (field_naming b.code) b.fields) (flat_map input_naming b.inputs) in
    omega (arith, f, i, l)

-- the first blocks of a target were gone through
pub record PassesFirst (old now : Scope) (checked : ℕ → Bool) (blocks : List Block) (i : ℕ) (start records : Records) (done : List (List Resolved)) : Type 0 where
  pub left : resolved_blocks checked old.target 0 blocks start ≡ onto done (resolved_blocks checked old.target i (drop i blocks) records)
  pub scope : IsScope now records
  pub target : now.target ≡ old.target
  pub grows : Grows old.target start records (sum_by parts (take i blocks))

pub first-none : (scope : Scope) (checked : ℕ → Bool) (blocks : List Block) (records : Records) → IsScope scope records → PassesFirst scope scope checked blocks 0 records records []
first-none scope checked blocks records is = record { left = refl; scope = is; target = refl; grows = grows-none scope.target records 0 }

pub first-more : (old now new : Scope) (checked : ℕ → Bool) (blocks : List Block) (i : ℕ) (start records after : Records) (done : List (List Resolved)) (refs : List Resolved) (b : Block)
    → i < length blocks → b ≡ get_or blocks i b → PassesFirst old now checked blocks i start records done → Passes now new (names_in (checked i) b) records [] after refs
    → PassesFirst old new checked blocks (i + 1) start after (done ++ refs ∷ [])
first-more old now new checked blocks i start records after done refs b l e p q =
    let here : drop i blocks ≡ b ∷ drop (i + 1) blocks = rw add-one (subst (λ x. drop i blocks ≡ x ∷ drop (suc i) blocks) (sym e) (drop-cons blocks i b l)) in
    let names : resolved_names old.target (names_in (checked i) b) records ≡ record { records = after; what = refs } = subst (λ k. resolved_names k (names_in (checked i) b) records ≡ record { records = after; what = refs }) p.target (passes-all now new (names_in (checked i) b) records after refs q) in
    let next = ap (λ bs. onto done (resolved_blocks checked old.target i bs records)) here in
    let one = ap (λ f. onto done (and_then f (λ r rs. before r (resolved_blocks checked old.target (i + 1) (drop (i + 1) blocks) rs)))) names in
    record {
      left = p.left ∙ next ∙ one ∙ onto-more done refs (resolved_blocks checked old.target (i + 1) (drop (i + 1) blocks) after);
      scope = q.scope;
      target = q.target ∙ p.target;
      grows = grows-more old.target start records after (sum_by parts (take i blocks)) (length (names_in (checked i) b)) (sum_by parts (take (i + 1) blocks)) p.grows (subst (λ k. Grows k records after (length (names_in (checked i) b))) p.target q.grows)
          (let s = sum_by_more parts blocks i b l in let f = few-names (checked i) b in let g = ap parts e in omega (arith, s, f, g));
    }

-- all blocks
pub first-all : (old new : Scope) (checked : ℕ → Bool) (blocks : List Block) (start after : Records) (refs : List (List Resolved)) → PassesFirst old new checked blocks (length blocks) start after refs → PassesBlocks old new checked blocks start after refs
first-all old new checked blocks start after refs p = record {
  resolves = p.left ∙ ap (λ bs. onto refs (resolved_blocks checked old.target (length blocks) bs after)) (drop-length blocks) ∙ ap (λ w. record { records = after; what = w }) (append-nil refs);
  scope = p.scope;
  target = p.target;
  grows = subst (λ bs. Grows old.target start after (sum_by parts bs)) (take-length blocks) p.grows;
}
