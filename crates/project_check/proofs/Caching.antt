-- The blocks of each target as executions need them, one target after another.
use Rattle.std.proofs.Common.{◌≡◌, ℕ, zero, suc, ◌+◌, ◌<◌, ◌≤◌, arith, ◌⊎◌, inl, inr, List, [], ◌∷◌, ◌++◌, length, Some, refl, sym, ap, ◌∙◌, subst}
use Rattle.std.specs.Prelude.{slice_get}
use Rattle.std.specs.List.{enumerate_from, slice_index_or}
use Rattle.std.proofs.lemmas.Bool.{cases_lt}
use Rattle.std.proofs.lemmas.List.{length-map}
use Rattle.std.proofs.lemmas.Option.{slice_get_within}
use Rattle.project_spec.specs.declared.blocks.Block.{Block}
use Rattle.project_spec.specs.declared.blocks.Resolved.{Resolved}
use Rattle.cached_blocks.specs.declared.block.CachedBlock.{CachedBlock}
use Rattle.cached_blocks.specs.Cached.{sheet_with, cached_at, cached_blocks}
use Rattle.project_check.specs.declared.project.Project.{Project}
use Rattle.project_check.specs.Kept.{CachesAll}
use Rattle.project_check.specs.Loaded.{tables_of, names_of, blocks_at, names_at, sheet_at}
use Rattle.project_check.proofs.Defining.{held_at}

-- the targets before number n
pub record CachesUpTo (tables : List (List Block)) (resolved : List (List (List Resolved))) (cached : List (List CachedBlock)) (n : ℕ) : Type 0 where
  pub count : length cached ≡ n
  pub each : (t : ℕ) (blocks : List Block) (refs : List (List Resolved)) → t < n → slice_get tables t ≡ Some blocks → slice_get resolved t ≡ Some refs → slice_get cached t ≡ Some (cached_blocks (sheet_with blocks refs))

pub caches-none : (tables : List (List Block)) (resolved : List (List (List Resolved))) → CachesUpTo tables resolved [] 0
caches-none tables resolved = record { count = refl; each = λ t blocks refs l h g. absurd (omega (arith, l)) }

module _ {A : Type 0} where
  pub get_before : (xs : List A) (x : A) (t : ℕ) → t < length xs → slice_get (xs ++ x ∷ []) t ≡ slice_get xs t
  get_before [] x t l = absurd (omega (arith, l))
  get_before (a ∷ xs) x zero l = refl
  get_before (a ∷ xs) x (suc t) l = get_before xs x t (omega (arith, l))

  pub get_last : (xs : List A) (x : A) → slice_get (xs ++ x ∷ []) (length xs) ≡ Some x
  get_last [] x = refl
  get_last (a ∷ xs) x = get_last xs x

  pub push-length : (xs : List A) (x : A) → length (xs ++ x ∷ []) ≡ length xs + 1
  push-length [] x = refl
  push-length (a ∷ xs) x = let more = push-length xs x in omega (arith, more)

pub caches-more : (tables : List (List Block)) (resolved : List (List (List Resolved))) (cached : List (List CachedBlock)) (n : ℕ) (blocks : List Block) (refs : List (List Resolved)) (c : List CachedBlock)
    → CachesUpTo tables resolved cached n → slice_get tables n ≡ Some blocks → slice_get resolved n ≡ Some refs → c ≡ cached_blocks (sheet_with blocks refs) → CachesUpTo tables resolved (cached ++ c ∷ []) (n + 1)
caches-more tables resolved cached n blocks refs c so h g e = record {
  count = push-length cached c ∙ ap (λ m. m + 1) so.count;
  each = λ t bs rs l p q. by_place t bs rs (cases_lt t n) l p q;
}
  where
    here : (bs : List Block) (rs : List (List Resolved)) → slice_get tables n ≡ Some bs → slice_get resolved n ≡ Some rs → slice_get (cached ++ c ∷ []) n ≡ Some (cached_blocks (sheet_with bs rs))
    here bs rs p q =
        let same : blocks ≡ bs = cc (h, p) in
        let told : refs ≡ rs = cc (g, q) in
        ap (slice_get (cached ++ c ∷ [])) (sym so.count) ∙ get_last cached c ∙ ap Some e ∙ (λ i. Some (cached_blocks (sheet_with (same i) (told i))))

    by_place : (t : ℕ) (bs : List Block) (rs : List (List Resolved)) → (t < n) ⊎ (n ≤ t) → t < n + 1 → slice_get tables t ≡ Some bs → slice_get resolved t ≡ Some rs → slice_get (cached ++ c ∷ []) t ≡ Some (cached_blocks (sheet_with bs rs))
    by_place t bs rs (inl lt) l p q = get_before cached c t (omega (arith, lt, so.count)) ∙ so.each t bs rs lt p q
    by_place t bs rs (inr le) l p q =
        let at : t ≡ n = omega (arith, le, l) in
        ap (slice_get (cached ++ c ∷ [])) at ∙ here bs rs (ap (slice_get tables) (sym at) ∙ p) (ap (slice_get resolved) (sym at) ∙ q)

pub caches-all : (tables : List (List Block)) (resolved : List (List (List Resolved))) (cached : List (List CachedBlock)) (n : ℕ) → n ≡ length tables → CachesUpTo tables resolved cached n → CachesAll tables resolved cached
caches-all tables resolved cached n e so t blocks refs h g = so.each t blocks refs (subst (λ m. t < m) (sym e) (slice_get_within tables t blocks h)) h g

-- the blocks of a target, as a project keeps them
pub cached-row : (p : Project) (t : ℕ) → t < length (tables_of p) → slice_get p.cached.items t ≡ Some (cached_blocks (sheet_at t p))
cached-row p t h = p.kept.caches t (blocks_at t p) (names_at t p) (held_at (tables_of p) t [] h) (held_at (names_of p) t [] (omega (arith, h, p.kept.names)))

row-cached : {A : Type 0} (rows : List (List A)) (t : ℕ) (row lent whole : List A) → slice_get rows t ≡ Some whole → row ≡ slice_index_or rows t row → lent ≡ row → lent ≡ whole
row-cached [] t row lent whole h e same = absurd (cc h)
row-cached (x ∷ rows) zero row lent whole h e same = (let held : x ≡ whole = cc h in same ∙ e ∙ held)
row-cached (x ∷ rows) (suc t) row lent whole h e same = row-cached rows t row lent whole h e same

-- the row that is lent is that of the target
pub lent-cached : (p : Project) (t : ℕ) (row lent : List CachedBlock) → t < length (tables_of p) → row ≡ slice_index_or p.cached.items t row → lent ≡ row → lent ≡ cached_blocks (sheet_at t p)
lent-cached p t row lent h e same = row-cached p.cached.items t row lent (cached_blocks (sheet_at t p)) (cached-row p t h) e same

enumerate-length : {A : Type 0} (n : ℕ) (xs : List A) → length (enumerate_from n xs) ≡ length xs
enumerate-length n [] = refl
enumerate-length n (x ∷ xs) = ap suc (enumerate-length (n + 1) xs)

-- there are as many as blocks
pub cached-length : (p : Project) (t : ℕ) → length (cached_blocks (sheet_at t p)) ≡ length (blocks_at t p)
cached-length p t = length-map (enumerate_from 0 (blocks_at t p)) (cached_at (sheet_at t p)) ∙ enumerate-length 0 (blocks_at t p)
