-- A file is refused for one reason at most, and none that is accepted is.
use Rattle.std.proofs.Common.{◌≡◌, ◌⊎◌, inl, inr, ℕ, ◌<◌, List, [], ◌∷◌, Option, Some, sym, ◌∙◌, subst, arith}
use Rattle.std.proofs.lemmas.List.Elements.{All-head, All-tail}
use Rattle.std.specs.List.{All}
use Rattle.std.specs.Prelude.{slice_get}
use Rattle.project_json.specs.Tree.{Tree}
use Rattle.project_json.specs.Grammar.{IsJson}
use Rattle.project_json.specs.Text.{IsText, max_depth}
use Rattle.project_json.specs.Refusal.{IsFault}
use Rattle.project_json.specs.declared.refusal.JsonRefusal.{JsonRefusal}
use Rattle.project_spec.specs.declared.refusals.At.{At}
use Rattle.project_spec.specs.declared.refusals.Refusal.{Refusal}
use Rattle.project_spec.specs.Blocks.{Block}
use Rattle.project_spec.specs.Reading.{File}
use Rattle.project_spec.specs.Refusals.{Test, Mutations, Links, Cycles, Places, Inputs, Fields, Depth, tests, Fails, FailsAt, IsBefore, IsFirst, Passes, IsFirstOf, IsWell, IsFileRefusal, OneRefusal, AcceptedIsNotRefused, OneFile}

same_some : {A : Type 0} → (o : Option A) (a b : A) → o ≡ Some a → o ≡ Some b → a ≡ b
same_some o a b e f = cc (e, f)

-- what a block is told for a test that it fails
one_failure : (t : Test) (blocks : List Block) (at : At) (b : Block) (r s : Refusal) → Fails t blocks at b r → Fails t blocks at b s → r ≡ s
one_failure Mutations blocks at b r s f g = let e = f.1 in let e' = g.1 in let p = f.2 in let p' = g.2 in cc (e, e', p, p')
one_failure Links blocks at b r s f g = let e = f.1 in let e' = g.1 in let p = f.2 in let p' = g.2 in cc (e, e', p, p')
one_failure Cycles blocks at b r s f g = f.1 ∙ sym g.1
one_failure Places blocks at b r s f g = f.1 ∙ sym g.1
one_failure Inputs blocks at b r s f g = let e = f.2 in let e' = g.2 in let p = f.3 in let p' = g.3 in cc (e, e', p, p')
one_failure Fields blocks at b r s f g = let e = f.2 in let e' = g.2 in let p = f.3 in let p' = g.3 in cc (e, e', p, p')
one_failure Depth blocks at b r s f g = f.3 ∙ sym g.3

one_failure_at : (tables : List (List Block)) (t : Test) (at : At) (r s : Refusal) → FailsAt tables t at r → FailsAt tables t at s → r ≡ s
one_failure_at tables t at r s f g =
    let blocks : f.blocks ≡ g.blocks = same_some _ _ _ f.target g.target in
    let held : slice_get f.blocks at.block ≡ Some g.block = subst (λ bs. slice_get bs at.block ≡ Some g.block) (sym blocks) g.held in
    let block : f.block ≡ g.block = same_some _ _ _ f.held held in
    let fails : Fails t f.blocks at g.block s = subst (λ bs. Fails t bs at g.block s) (sym blocks) g.fails in
    one_failure t f.blocks at f.block r s f.fails (subst (λ b. Fails t f.blocks at b s) (sym block) fails)

-- one place is before the other, or they are the same
data Compared (a b : At) : Type 0 where
  before : IsBefore a b → Compared a b
  same : a ≡ b → Compared a b
  behind : IsBefore b a → Compared a b

compared_numbers : (a b : ℕ) → (a < b) ⊎ ((a ≡ b) ⊎ (b < a))
compared_numbers a b = grind arith

same_at : (a b : At) → a.target ≡ b.target → a.block ≡ b.block → a ≡ b
same_at a b e f =
    let same : record { target = a.target; block = a.block } ≡ record { target = b.target; block = b.block } = cc (e, f) in same

compared : (a b : At) → Compared a b
compared a b = elim (compared_numbers a.target b.target) [
  | inl lt ↦ before (inl lt)
  | inr (inr gt) ↦ behind (inl gt)
  | inr (inl e) ↦ elim (compared_numbers a.block b.block) [
    | inl lt ↦ before (inr (e, lt))
    | inr (inr gt) ↦ behind (inr (sym e, gt))
    | inr (inl f) ↦ same (same_at a b e f)
  ]
]

one_first : (tables : List (List Block)) (t : Test) (r s : Refusal) → IsFirst tables t r → IsFirst tables t s → r ≡ s
one_first tables t r s f g = by_order (compared f.at g.at)
  where
    by_order : Compared f.at g.at → r ≡ s
    by_order (before lt) = absurd (g.first f.at r lt f.fails)
    by_order (behind gt) = absurd (f.first g.at s gt g.fails)
    by_order (same e) = one_failure_at tables t f.at r s f.fails (subst (λ at. FailsAt tables t at s) (sym e) g.fails)

one_of_tests : (tables : List (List Block)) (ts : List Test) (r s : Refusal) → IsFirstOf tables ts r → IsFirstOf tables ts s → r ≡ s
one_of_tests tables [] r s f g = absurd f
one_of_tests tables (t ∷ ts) r s (inl f) (inl g) = one_first tables t r s f g
one_of_tests tables (t ∷ ts) r s (inl f) (inr g) = absurd (g.0 f.at r f.fails)
one_of_tests tables (t ∷ ts) r s (inr f) (inl g) = absurd (f.0 g.at s g.fails)
one_of_tests tables (t ∷ ts) r s (inr f) (inr g) = one_of_tests tables ts r s f.1 g.1

all_passed : (tables : List (List Block)) (ts : List Test) (r : Refusal) → All (Passes tables) ts → IsFirstOf tables ts r → ⊥
all_passed tables [] r p f = f
all_passed tables (t ∷ ts) r p (inl f) = All-head (Passes tables) t ts p f.at r f.fails
all_passed tables (t ∷ ts) r p (inr f) = all_passed tables ts r (All-tail (Passes tables) t ts p) f.1

one_of_file : (f : File) (r s : Refusal) → IsFileRefusal f r → IsFileRefusal f s → r ≡ s
one_of_file f r s (inl a) (inl b) = a.1 ∙ sym b.1
one_of_file f r s (inl a) (inr b) = absurd (a.0 b.0)
one_of_file f r s (inr a) (inl b) = absurd (b.0 a.0)
one_of_file f r s (inr (e, inl a)) (inr (e', inl b)) = let p = a.1 in let p' = b.1 in let q = a.2 in let q' = b.2 in cc (p, p', q, q')
one_of_file f r s (inr (e, inl a)) (inr (e', inr b)) = let p = a.1 in let q = b.0 in cc (p, q)
one_of_file f r s (inr (e, inr a)) (inr (e', inl b)) = let p = a.0 in let q = b.1 in cc (p, q)
one_of_file f r s (inr (e, inr a)) (inr (e', inr b)) = one_of_tests _ tests r s a.1 b.1

none_of_well : (f : File) (r : Refusal) → IsWell f → IsFileRefusal f r → ⊥
none_of_well f r w (inl a) = a.0 w.stage
none_of_well f r w (inr (e, inl a)) = let p = w.few in let q = a.1 in cc (p, q)
none_of_well f r w (inr (e, inr a)) = all_passed _ tests r w.blocks a.1

-- what is known of JSON texts: one tree, one fault, and no fault beside a tree
pub record JsonLaws : Type 0 where
  pub tree : (m n : ℕ) (bytes : List ℕ) (t u : Tree) → IsJson m bytes t → IsJson n bytes u → t ≡ u
  pub fault : (n : ℕ) (bytes : List ℕ) (r s : JsonRefusal) → IsFault n bytes r → IsFault n bytes s → r ≡ s
  pub apart : (n : ℕ) (bytes : List ℕ) (t : Tree) (r : JsonRefusal) → IsText n bytes t → IsFault n bytes r → ⊥

one_text : JsonLaws → (bytes : List ℕ) (t u : Tree) → IsText max_depth bytes t → IsText max_depth bytes u → t ≡ u
one_text laws bytes t u p q = laws.tree max_depth max_depth bytes t u p.1 q.1

pub one_refusal : JsonLaws → OneRefusal
one_refusal laws bytes r s (inl a) (inl b) = let f = laws.fault max_depth bytes a.0 b.0 a.1 b.1 in let p = a.2 in let q = b.2 in cc (f, p, q)
one_refusal laws bytes r s (inl a) (inr b) = absurd (laws.apart max_depth bytes b.0 a.0 b.1 a.1)
one_refusal laws bytes r s (inr a) (inl b) = absurd (laws.apart max_depth bytes a.0 b.0 a.1 b.1)
one_refusal laws bytes r s (inr (t, p, inl a)) (inr (u, q, inl b)) =
    let e = one_text laws bytes t u p q in let x = a.1 in let y = b.1 in let v = a.2 in let w = b.2 in cc (e, x, y, v, w)
one_refusal laws bytes r s (inr (t, p, inl a)) (inr (u, q, inr b)) =
    let e = one_text laws bytes t u p q in let x = a.1 in let y = b.1 in cc (e, x, y)
one_refusal laws bytes r s (inr (t, p, inr a)) (inr (u, q, inl b)) =
    let e = one_text laws bytes t u p q in let x = a.1 in let y = b.1 in cc (e, x, y)
one_refusal laws bytes r s (inr (t, p, inr (f, x, a))) (inr (u, q, inr (g, y, b))) =
    let e = one_text laws bytes t u p q in
    let same : f ≡ g = cc (e, x, y) in
    one_of_file f r s a (subst (λ h. IsFileRefusal h s) (sym same) b)

pub accepted_is_not_refused : JsonLaws → AcceptedIsNotRefused
accepted_is_not_refused laws bytes f r a (inl b) = laws.apart max_depth bytes a.document b.0 a.text b.1
accepted_is_not_refused laws bytes f r a (inr (u, q, inl b)) =
    let e = one_text laws bytes a.document u a.text q in let x = a.tells in let y = b.1 in cc (e, x, y)
accepted_is_not_refused laws bytes f r a (inr (u, q, inr (g, y, b))) =
    let e = one_text laws bytes a.document u a.text q in
    let x = a.tells in
    let same : f ≡ g = cc (e, x, y) in
    none_of_well f r a.well (subst (λ h. IsFileRefusal h r) (sym same) b)

pub one_file : JsonLaws → OneFile
one_file laws bytes f g a b =
    let e = one_text laws bytes a.document b.document a.text b.text in let x = a.tells in let y = b.tells in cc (e, x, y)
