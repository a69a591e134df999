-- The targets, one after another.
use Rattle.std.proofs.Common.{◌≡◌, ℕ, suc, ◌+◌, ◌<◌, ◌≤◌, ◌^◌, Bool, List, [], ◌∷◌, ◌++◌, length, map, get_or, drop, refl, sym, ap, ◌∙◌, subst, append-nil, add-one, arith}
use Rattle.std.specs.Prelude.{slice_get, unwrap_or}
use Rattle.std.specs.List.{sum_by}
use Rattle.std.proofs.Math.Seq.{drop-cons, drop-length}
use Rattle.std.proofs.lemmas.List.{get_or-map}
use Rattle.std.proofs.lemmas.Option.{slice_get-get_or}
use Rattle.block_table.specs.declared.table.BlockTable.{BlockTable}
use Rattle.machine_spec.specs.Program.{Records, record_at}
use Rattle.project_spec.specs.declared.blocks.Block.{Block}
use Rattle.project_spec.specs.declared.blocks.Resolved.{Resolved}
use Rattle.project_spec.specs.Resolving.{and_then, before, resolved_blocks, resolved_targets}
use Rattle.name_resolving.specs.declared.scope.Scope.{Scope}
use Rattle.name_resolving.specs.Scope.{IsScope}
use Rattle.name_resolving.specs.Room.{holdings, parts, HasRoom}
use Rattle.name_resolving.specs.Passing.{onto, Grows}
use Rattle.name_resolving.specs.Blocks.{PassesBlocks}
use Rattle.name_resolving.proofs.Passed.{onto-more}

-- the first targets were gone through, and those that are left are as they were
pub record PassesTargets (now : Scope) (checked : ℕ → ℕ → Bool) (tables : List (List Block)) (t : ℕ) (start records : Records) (done : List (List (List Resolved))) : Type 0 where
  pub left : resolved_targets checked 0 tables start ≡ onto done (resolved_targets checked t (drop t tables) records)
  pub scope : IsScope now records
  pub count : length records.targets ≡ length start.targets
  pub later : (k : ℕ) → t ≤ k → record_at k records ≡ record_at k start

pub targets-none : (scope : Scope) (checked : ℕ → ℕ → Bool) (tables : List (List Block)) (records : Records) → IsScope scope records → PassesTargets scope checked tables 0 records records []
targets-none scope checked tables records is = record { left = refl; scope = is; count = refl; later = λ k l. refl }

pub targets-more : (scope now new : Scope) (checked : ℕ → ℕ → Bool) (tables : List (List Block)) (t : ℕ) (start records after : Records) (done : List (List (List Resolved))) (names : List (List Resolved)) (bs : List Block)
    → t < length tables → bs ≡ get_or tables t bs → PassesTargets scope checked tables t start records done → now.target ≡ t → PassesBlocks now new (checked t) bs records after names
    → PassesTargets new checked tables (t + 1) start after (done ++ names ∷ [])
targets-more scope now new checked tables t start records after done names bs l e p here q =
    let head : drop t tables ≡ bs ∷ drop (t + 1) tables = rw add-one (subst (λ x. drop t tables ≡ x ∷ drop (suc t) tables) (sym e) (drop-cons tables t bs l)) in
    let found = subst (λ k. resolved_blocks (checked t) k 0 bs records ≡ record { records = after; what = names }) here q.resolves in
    let next = ap (λ x. onto done (resolved_targets checked t x records)) head in
    let one = ap (λ f. onto done (and_then f (λ r rs. before r (resolved_targets checked (t + 1) (drop (t + 1) tables) rs)))) found in
    let grows = subst (λ k. Grows k records after (sum_by parts bs)) here q.grows in
    record {
      left = p.left ∙ next ∙ one ∙ onto-more done names (resolved_targets checked (t + 1) (drop (t + 1) tables) after);
      scope = q.scope;
      count = grows.count ∙ p.count;
      later = λ k m. grows.others k (λ same. omega (arith, same, m)) ∙ p.later k (omega (arith, m));
    }

-- all targets
pub targets-all : (scope : Scope) (checked : ℕ → ℕ → Bool) (tables : List (List Block)) (t : ℕ) (start after : Records) (names : List (List (List Resolved))) → t ≡ length tables → PassesTargets scope checked tables t start after names
    → resolved_targets checked 0 tables start ≡ record { records = after; what = names }
targets-all scope checked tables t start after names e p =
    p.left ∙ ap (λ x. onto names (resolved_targets checked t x after)) (ap (λ k. drop k tables) e ∙ drop-length tables) ∙ ap (λ w. record { records = after; what = w }) (append-nil names)

-- the room that a target has when its turn comes
pub room-at : (scope : Scope) (checked : ℕ → ℕ → Bool) (tables : List (List Block)) (t : ℕ) (start records : Records) (done : List (List (List Resolved))) (bs : List Block) → t < length tables → bs ≡ get_or tables t bs
    → HasRoom start tables → PassesTargets scope checked tables t start records done → holdings (record_at t records) + sum_by parts bs < 2 ^ 32
room-at scope checked tables t start records done bs l e room p =
    let known = room t l in
    let blocks : unwrap_or (slice_get tables t) [] ≡ bs = ap (λ o. unwrap_or o []) (slice_get-get_or tables t bs l) ∙ sym e in
    rw (p.later t (omega arith)) (subst (λ x. holdings (record_at t start) + sum_by parts x < 2 ^ 32) blocks known)

-- the blocks of a table
pub blocks-at : (tables : List BlockTable) (t : ℕ) (table : BlockTable) (bs : List Block) → t < length tables → table ≡ get_or tables t table → bs ≡ table.blocks → bs ≡ get_or (map (λ x. x.blocks) tables) t bs
blocks-at tables t table bs l e f = f ∙ ap (λ x. x.blocks) e ∙ sym (get_or-map (λ x. x.blocks) tables t table bs l)
