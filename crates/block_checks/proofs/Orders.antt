-- The first block that fails a test, of a target and of all targets, and the first test that any fails.
use Rattle.std.proofs.Common.{◌≡◌, ℕ, ◌+◌, ◌<◌, ◌≤◌, inl, inr, Bool, true, false, List, [], ◌∷◌, ◌++◌, length, get_or, map, take, Some, None, Result, refl, ap, ◌∙◌, sym, subst, arith}
use Rattle.std.specs.Prelude.{slice_get, option_map, IfErr}
use Rattle.std.specs.Result.{IsErrAnd}
use Rattle.std.specs.List.{All, AllZip}
use Rattle.std.proofs.lemmas.Result.{err_from_is_err_and}
use Rattle.std.proofs.lemmas.List.{length-map, take_more, map_push}
use Rattle.std.proofs.lemmas.List.Elements.{All-from_recursion}
use Rattle.std.proofs.lemmas.Bool.{cases_lt}
use Rattle.std.proofs.lemmas.Option.{slice_get-map, slice_get_within, slice_get_cases, same_Some}
use Rattle.block_table.specs.Table.{Numbered}
use Rattle.project_spec.specs.declared.blocks.Block.{Block}
use Rattle.project_spec.specs.declared.refusals.At.{At}
use Rattle.project_spec.specs.declared.refusals.Refusal.{Refusal}
use Rattle.project_spec.specs.declared.refusals.Refusal.TheVariants as refusal
use Rattle.project_spec.specs.Linked.{missing_input, unfit_field, IsChecked, deepest}
use Rattle.project_spec.specs.Refusals.{Test, tests, Mutations, Links, Cycles, Places, Inputs, Fields, Depth, Fails, FailsAt, IsMisfit, Passes}
use Rattle.link_graph.specs.Links.{HasRanks, IsFirstCyclic}
use Rattle.link_graph.specs.Depth.{IsDeep, IsFirstDeep}
use Rattle.link_graph.proofs.Chains.{no_cycle, chain_within}
use Rattle.block_checks.specs.Kept.{blocks_in, Kept, AreChecked, IsKept}
use Rattle.block_checks.specs.Marks.{IsMarked, AreMarked}
use Rattle.block_checks.specs.Rows.{row, rows, input_row, input_rows, is_reporter}
use Rattle.block_checks.proofs.Lists.{read, zip_push}
use Rattle.block_checks.proofs.Marking.{misfit_marked}
use Rattle.block_checks.proofs.Bridges.{chain_of, chain_from, nests_of, nests_from}
use Rattle.block_checks.specs.declared.stop.Stop.{Stop}
use Rattle.block_checks.specs.declared.stop.Stop.TheVariants.{Refused, NoMemory}
use Rattle.block_checks.specs.Stops.{StopsAlone, at_place, PassesBelow, PassesIn, IsFirstIn, StopsIn, StopsMissing, StopsUnfit, StopsMisplaced, PassesBefore, StopsAt}

-- Blocks of a target

pub below_more : (target : ℕ) (blocks : List Block) (test : Test) (n : ℕ) (b : Block) → PassesBelow target blocks test n → slice_get blocks n ≡ Some b → ((r : Refusal) → Fails test blocks (at_place target n) b r → ⊥) → PassesBelow target blocks test (n + 1)
below_more target blocks test n b before held passes k c r lt h f = elim (cases_lt k n) [
  | inl p ↦ before k c r p h f
  | inr p ↦ (let e : k ≡ n = omega arith in
      let s : c ≡ b = same_Some c b (sym h ∙ ap (slice_get blocks) e ∙ held) in
      passes r (subst (λ i. Fails test blocks (at_place target i) b r) e (subst (λ x. Fails test blocks (at_place target k) x r) s f)))
]

pub below_all : (target : ℕ) (blocks : List Block) (test : Test) (n : ℕ) → PassesBelow target blocks test n → length blocks ≤ n → PassesIn target blocks test
below_all target blocks test n below le k b r h f = let lt = slice_get_within blocks k b h in below k b r (omega arith) h f

pub stops_in : (target : ℕ) (blocks : List Block) (test : Test) (n : ℕ) (b : Block) (s : Stop) → PassesBelow target blocks test n → slice_get blocks n ≡ Some b → StopsAlone test (at_place target n) b s → StopsIn target blocks test s
stops_in target blocks test n b (Refused r) before held f = record { place = n; block = b; held = held; fails = f blocks; first = before }
stops_in target blocks test n b NoMemory before held f = tt

-- what a test of inputs or of fields tells of a checked block

pub missing_passes : (blocks : List Block) (at : At) (b : Block) → missing_input b ≡ None → (r : Refusal) → Fails Inputs blocks at b r → ⊥
missing_passes blocks at b none r f = let e : Some f.0 ≡ None = sym f.2 ∙ none in absurd (cc)

pub unfit_passes : (blocks : List Block) (at : At) (b : Block) → unfit_field b ≡ None → (r : Refusal) → Fails Fields blocks at b r → ⊥
unfit_passes blocks at b none r f = let e : Some f.0 ≡ None = sym f.2 ∙ none in absurd (cc)

-- a block without its flag is not checked
pub not_flagged : (blocks : List Block) (checked : List Bool) (k : ℕ) (t : Bool) → AreChecked blocks checked → slice_get checked k ≡ Some t → t ≡ false → IsChecked blocks k → ⊥
not_flagged blocks checked k t a is f c = let e : Some false ≡ Some true = ap Some (sym f) ∙ sym is ∙ a.complete k c in absurd (cc)

pub stops_missing : (target : ℕ) (blocks : List Block) (checked : List Bool) (n : ℕ) (b : Block) (t : Bool) (s : Stop) → PassesBelow target blocks Inputs n → slice_get blocks n ≡ Some b → AreChecked blocks checked → slice_get checked n ≡ Some t → t ≡ true → StopsMissing (at_place target n) b s → StopsIn target blocks Inputs s
stops_missing target blocks checked n b t (Refused r) before held a is flagged x = record { place = n; block = b; held = held; fails = (x.0, a.sound n (is ∙ ap Some flagged), x.1, x.2); first = before }
stops_missing target blocks checked n b t NoMemory before held a is flagged x = tt

pub stops_unfit : (target : ℕ) (blocks : List Block) (checked : List Bool) (n : ℕ) (b : Block) (t : Bool) (s : Stop) → PassesBelow target blocks Fields n → slice_get blocks n ≡ Some b → AreChecked blocks checked → slice_get checked n ≡ Some t → t ≡ true → StopsUnfit (at_place target n) b s → StopsIn target blocks Fields s
stops_unfit target blocks checked n b t (Refused r) before held a is flagged x = record { place = n; block = b; held = held; fails = (x.0, a.sound n (is ∙ ap Some flagged), x.1, x.2); first = before }
stops_unfit target blocks checked n b t NoMemory before held a is flagged x = tt

-- what the test of places tells

pub stops_misplaced : (target : ℕ) (blocks : List Block) (n : ℕ) (b : Block) (s : Stop) → PassesBelow target blocks Places n → slice_get blocks n ≡ Some b → IsMisfit blocks n b → StopsMisplaced (at_place target n) b s → StopsIn target blocks Places s
stops_misplaced target blocks n b (Refused r) before held m x = record { place = n; block = b; held = held; fails = (m, x); first = before }
stops_misplaced target blocks n b NoMemory before held m x = tt

pub places_below : (target : ℕ) (blocks : List Block) (checked marks : List Bool) (n : ℕ) → AreChecked blocks checked → AreMarked blocks checked (length blocks) marks → ((k : ℕ) → k < n → IsMarked marks k → ⊥) → PassesBelow target blocks Places n
places_below target blocks checked marks n a m none k b r lt held f = none k lt (misfit_marked blocks checked marks k b a m f.0)

-- what the first block on a cycle, and the first that nests too deep, are told

pub within : (blocks : List Block) (k : ℕ) → k < length blocks → (b : Block) × (slice_get blocks k ≡ Some b)
within blocks k lt = elim (slice_get_cases blocks k).1 [ inl p ↦ (p.0, p.2) | inr p ↦ absurd (let q = p.0 in omega arith) ]

pub passes_cycles : (target : ℕ) (blocks : List Block) (ranks : List ℕ) → HasRanks (rows blocks) ranks → PassesIn target blocks Cycles
passes_cycles target blocks ranks h k b r held f = no_cycle (rows blocks) ranks k h (chain_from blocks f.0)

pub first_cyclic : (target : ℕ) (blocks : List Block) (k : ℕ) → IsFirstCyclic (rows blocks) k → IsFirstIn target blocks Cycles (refusal.Cyclic (at_place target k))
first_cyclic target blocks k x =
    let n = length-map blocks row in
    let lt : k < length (rows blocks) = chain_within (rows blocks) x.cyclic in
    let b = within blocks k (omega arith) in
    record {
      place = k;
      block = b.0;
      held = b.1;
      fails = (chain_of blocks x.cyclic, refl);
      first = λ i c r lt2 held f. x.first i lt2 (chain_from blocks f.0);
    }

pub passes_depth : (target : ℕ) (blocks : List Block) → ((k : ℕ) → k < length (input_rows blocks) → IsDeep (input_rows blocks) (map is_reporter blocks) deepest k → ⊥) → PassesIn target blocks Depth
passes_depth target blocks none k b r held f =
    let n = length-map blocks input_row in
    let lt = slice_get_within blocks k b held in
    none k (omega arith) (f.0, f.2, nests_from blocks f.1)

pub first_deep : (target : ℕ) (blocks : List Block) (k : ℕ) → IsFirstDeep (input_rows blocks) (map is_reporter blocks) deepest k → IsFirstIn target blocks Depth (refusal.TooDeep (at_place target k))
first_deep target blocks k x =
    let n = length-map blocks input_row in
    let lt = x.within in
    let b = within blocks k (omega arith) in
    record {
      place = k;
      block = b.0;
      held = b.1;
      fails = (x.deep.0, nests_of blocks x.deep.2, x.deep.1, refl);
      first = λ i c r lt2 held f. x.first i lt2 (f.0, f.2, nests_from blocks f.1);
    }

-- the exit of a `?`
pub exit : {T : Type 0} (r : Result T Stop) (s : Stop) (Q : Stop → Type 0) → IsErrAnd r (λ e. e ≡ s) → Q s → IfErr r Q
exit r s Q x q = let p = err_from_is_err_and r x in rw p.1 (subst Q (sym p.2) q)

-- Targets

-- the blocks of a table
pub table_held : (tables : List Numbered) (i : ℕ) (t : Numbered) → i < length tables → t ≡ get_or tables i t → slice_get (blocks_in tables) i ≡ Some t.blocks
table_held tables i t lt is = slice_get-map (λ (x : Numbered). x.blocks) tables i ∙ ap (option_map (λ (x : Numbered). x.blocks)) (read tables i t lt is)

-- what is kept of one more table
pub kept_more : (tables : List Numbered) (links : List Kept) (i : ℕ) (t : Numbered) (k : Kept) → i < length tables → t ≡ get_or tables i t → AllZip IsKept (blocks_in (take i tables)) links → IsKept t.blocks k → AllZip IsKept (blocks_in (take (i + 1) tables)) (links ++ k ∷ [])
kept_more tables links i t k lt is z x =
    let e : blocks_in (take (i + 1) tables) ≡ blocks_in (take i tables) ++ t.blocks ∷ [] =
    ap blocks_in (take_more tables i t lt ∙ ap (λ y. take i tables ++ y ∷ []) (sym is)) ∙ map_push (λ (y : Numbered). y.blocks) (take i tables) t in
    subst (λ bs. AllZip IsKept bs (links ++ k ∷ [])) (sym e) (zip_push IsKept (blocks_in (take i tables)) links t.blocks k z x)

fails_in : (tables : List (List Block)) (test : Test) (target : ℕ) (blocks : List Block) (at : At) (r : Refusal) → slice_get tables target ≡ Some blocks → at.target ≡ target → FailsAt tables test at r → (b : Block) × (slice_get blocks at.block ≡ Some b) × Fails test blocks (at_place target at.block) b r
fails_in tables test target blocks at r h e f =
    let s : f.blocks ≡ blocks = same_Some f.blocks blocks (sym f.target ∙ ap (slice_get tables) e ∙ h) in
    (f.block, subst (λ bs. slice_get bs at.block ≡ Some f.block) s f.held, subst (λ t. Fails test blocks (at_place t at.block) f.block r) e (subst (λ bs. Fails test bs at f.block r) s f.fails))

pub before_more : (tables : List (List Block)) (test : Test) (target : ℕ) (blocks : List Block) → PassesBefore tables test target → slice_get tables target ≡ Some blocks → PassesIn target blocks test → PassesBefore tables test (target + 1)
before_more tables test target blocks before h passes at r lt f = elim (cases_lt at.target target) [
  | inl p ↦ before at r p f
  | inr p ↦ (let e : at.target ≡ target = omega arith in let x = fails_in tables test target blocks at r h e f in passes at.block x.0 r x.1 x.2)
]

pub before_all : (tables : List (List Block)) (test : Test) (n : ℕ) → PassesBefore tables test n → length tables ≤ n → Passes tables test
before_all tables test n before le at r f = let lt = slice_get_within tables at.target f.blocks f.target in before at r (omega arith) f

pub stops_at : (tables : List (List Block)) (test : Test) (target : ℕ) (blocks : List Block) (s : Stop) → PassesBefore tables test target → slice_get tables target ≡ Some blocks → StopsIn target blocks test s → StopsAt tables test s
stops_at tables test target blocks (Refused r) before h x = record {
  at = at_place target x.place;
  fails = record { blocks = blocks; block = x.block; target = h; held = x.held; fails = x.fails };
  first = λ at other lt f. elim lt [
    | inl p ↦ before at other p f
    | inr p ↦ (let y = fails_in tables test target blocks at other h p.0 f in x.first at.block y.0 other p.1 y.1 y.2)
  ];
}
stops_at tables test target blocks NoMemory before h x = tt

-- Tests

pub all_pass : (tables : List (List Block)) → Passes tables Mutations → Passes tables Links → Passes tables Cycles → Passes tables Places → Passes tables Inputs → Passes tables Fields → Passes tables Depth → All (Passes tables) tests
all_pass tables a b c d e f g = All-from_recursion (Passes tables) tests (a, (b, (c, (d, (e, (f, (g, tt)))))))
