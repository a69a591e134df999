-- In every target of a project links lead to blocks of the target, and a rank falls along them.
use Rattle.std.proofs.Common.{◌≡◌, ℕ, zero, suc, ◌+◌, List, [], ◌∷◌, length, map, Some, Ok, refl, sym, ◌∙◌, subst, arith}
use Rattle.std.specs.Prelude.{codes, slice_get, unwrap_or}
use Rattle.std.specs.List.{AllByRecursion}
use Rattle.std.specs.Fmt.{decimal}
use Rattle.std.proofs.Math.Logic.{∥∥₁_elim}
use Rattle.std.proofs.lemmas.List.{length-map}
use Rattle.std.proofs.lemmas.Option.{slice_get_within}
use denote.Struct.Props.{props}
use Rattle.project_json.specs.Tree.{Tree}
use Rattle.json_shapes.specs.Shapes as shape
use Rattle.json_shapes.specs.Shapes.{◌>>=◌}
use Rattle.project_spec.specs.declared.blocks.Block.{Block}
use Rattle.project_spec.specs.Blocks.{blocks_of}
use Rattle.project_spec.specs.Linked.{IsClosed, AreRanks}
use Rattle.project_spec.specs.Reading.{File, Table, file_by, file_of, table_in, table_of}
use Rattle.project_spec.specs.Targets.{target_of, monitor_of}
use Rattle.block_checks.specs.Kept.{Kept}
use Rattle.block_table.proofs.Closed.{bound, closed, length-blocks, of_blocks}
use Rattle.project_check.specs.declared.project.Project.{Project}
use Rattle.project_check.specs.Loaded.{blocks_at, links_of, ranks_at, tables_of}

-- The blocks that a file tells

abbrev IsClosedTable : Table → Type 0
IsClosedTable table = IsClosed table.blocks

table_closed : (at : List (List ℕ)) (ms : List (List ℕ × Tree)) (table : Table) → table_of at ms ≡ Ok table → IsClosedTable table
table_closed at ms table e =
    let read = bound (blocks_of at ms) _ table e in
    let same : read.0 ≡ table.blocks = cc read.2 in
    let ids : List (List ℕ) = map (λ m. m.0) ms in
    subst IsClosed same (closed (length ids) read.0 (length-blocks ids at ms read.0 read.1 ∙ sym (length-map ms (λ m. m.0))) (of_blocks ids at ms read.0 read.1))

target_closed : (at : List (List ℕ)) (t : Tree) (table : Table) → table_in at t ≡ Ok table → IsClosedTable table
target_closed at t table e =
    let members = bound (shape.members at t >>= shape.required shape.members (codes "blocks") at) (table_of (codes "blocks" ∷ at)) table e in
    table_closed (codes "blocks" ∷ at) members.0 table members.2

tables_closed : (i : ℕ) (at : List (List ℕ)) (ts : List Tree) (tables : List Table) → shape.each_from i table_in at ts ≡ Ok tables → AllByRecursion IsClosedTable tables
tables_closed i at [] tables e = let same : [] ≡ tables = cc e in subst (AllByRecursion IsClosedTable) same tt
tables_closed i at (t ∷ ts) tables e =
    let one = bound (table_in (decimal i ∷ at) t) _ tables e in
    let rest = bound (shape.each_from (i + 1) table_in at ts) _ tables one.2 in
    let same : (one.0 ∷ rest.0) ≡ tables = cc rest.2 in
    subst (AllByRecursion IsClosedTable) same (target_closed (decimal i ∷ at) t one.0 one.1, tables_closed (i + 1) at ts rest.0 rest.1)

parts_closed : (at : List (List ℕ)) (ts : List Tree) (ms : List (List ℕ × Tree)) (f : File) → file_by ts at ms ≡ Ok f → AllByRecursion IsClosedTable f.tables
parts_closed at ts ms f e =
    let targets = bound (shape.each target_of (codes "targets" ∷ at) ts) _ f e in
    let monitors = bound (shape.defaulted shape.items [] (codes "monitors") at ms >>= shape.each monitor_of (codes "monitors" ∷ at)) _ f targets.2 in
    let tables = bound (shape.each table_in (codes "targets" ∷ at) ts) _ f monitors.2 in
    let same : tables.0 ≡ f.tables = cc tables.2 in
    subst (AllByRecursion IsClosedTable) same (tables_closed 0 (codes "targets" ∷ at) ts tables.0 tables.1)

file_closed : (t : Tree) (f : File) → file_of t ≡ Ok f → AllByRecursion IsClosedTable f.tables
file_closed t f e =
    let members = bound (shape.members [] t) _ f e in
    let targets = bound (shape.required shape.items (codes "targets") [] members.0) _ f members.2 in
    parts_closed [] targets.0 members.0 f targets.2

none_closed : IsClosed []
none_closed i j l = let within = slice_get_within [] i l.block l.held in absurd (omega (arith, within))

one_closed : (tables : List Table) (t : ℕ) → AllByRecursion IsClosedTable tables → IsClosed (unwrap_or (slice_get (map (λ table. table.blocks) tables) t) [])
one_closed [] t h = none_closed
one_closed (table ∷ tables) zero h = h.0
one_closed (table ∷ tables) (suc t) h = one_closed tables t h.1

-- The blocks of a project, which are those of some file

pub closed_at : (p : Project) (t : ℕ) → IsClosed (blocks_at t p)
closed_at p t =
    let one : IsProp (IsClosed (blocks_at t p)) = hlevel props in
    ∥∥₁_elim p.told one (λ some.
    subst (λ tables. IsClosed (unwrap_or (slice_get tables t) [])) (sym some.2.tables)
    (one_closed some.2.file.tables t (file_closed some.2.accepted.document some.2.file some.2.accepted.tells)))

-- The ranks of a project

no_ranks : AreRanks [] []
no_ranks = record {
  each = refl;
  bounded = λ i h. absurd (omega (arith, h));
  falls = λ i j l. (let within = slice_get_within [] i l.block l.held in absurd (omega (arith, within)));
}

ranks_in : (tables : List (List Block)) (kept : List Kept) (t : ℕ) → length kept ≡ length tables
    → ((t : ℕ) (blocks : List Block) (k : Kept) → slice_get tables t ≡ Some blocks → slice_get kept t ≡ Some k → AreRanks blocks k.ranks)
    → AreRanks (unwrap_or (slice_get tables t) []) (unwrap_or (slice_get (map (λ l. l.ranks) kept) t) [])
ranks_in [] [] t same ranks = no_ranks
ranks_in [] (k ∷ kept) t same ranks = absurd (omega (arith, same))
ranks_in (blocks ∷ tables) [] t same ranks = absurd (omega (arith, same))
ranks_in (blocks ∷ tables) (k ∷ kept) zero same ranks = ranks zero blocks k refl refl
ranks_in (blocks ∷ tables) (k ∷ kept) (suc t) same ranks = ranks_in tables kept t (omega (arith, same)) (λ u bs l b e. ranks (suc u) bs l b e)

pub ranked_at : (p : Project) (t : ℕ) → AreRanks (blocks_at t p) (ranks_at t p)
ranked_at p t = ranks_in (tables_of p) (links_of p) t p.kept.links p.kept.ranks
