-- The instances of a run that keeps the rules have numbers that there can be, and no text too long.
use Rattle.std.proofs.Common.{◌≡◌, ℕ, zero, suc, ◌<◌, ◌^◌, Bool, true, false, ◌&&◌, ◌||◌, List, [], ◌∷◌, map, length, refl, ap, ◌∙◌, arith}
use Rattle.std.specs.Prelude.{nat_lt, nat_le, not, slice_get, unwrap_or}
use Rattle.std.specs.List.{All, list_all}
use Rattle.std.specs.Option.{option_map_or}
use Rattle.std.specs.Fmt.{char_count}
use Rattle.std.proofs.lemmas.List.Elements.{All-nil, All-cons, All-head, All-tail}
use Rattle.machine_spec.specs.BubbleText.{most_characters}
use Rattle.machine_spec.specs.declared.instance.Instance.{Instance}
use Rattle.machine_spec.specs.declared.records.TargetRecord.{TargetRecord}
use Rattle.machine_spec.specs.Program.{no_target}
use Rattle.machine_spec.specs.Stores.{record_of, is_original}
use Rattle.project_check.specs.Counts.{block_count}
use Rattle.target_records.specs.Costumes.{IsDressed}
use Rattle.project_check.specs.Loaded.{tables_of, basis_of}
use Rattle.project_check.specs.declared.project.Project.{Project}
use Rattle.saved_parts.specs.declared.instances.ToldInstance.{ToldInstance}
use Rattle.saved_parts.specs.Telling.{instance_of, store_of}
use Rattle.project_spec.specs.Basis.{Basis, records_of, is_edge}
use Rattle.saved_spec.specs.Rules.{is_sprite, is_clone, has_short_texts}
use Rattle.saved_spec.specs.RunShapes.{Told}
use Rattle.saved_stores.specs.Held.{IsHeld, is_numbered}
use Rattle.saved_stores.proofs.Hats.{edge_within}
use Rattle.saved_stores.proofs.Comparing.{both, below, below_is, at_most}

-- The target is there

sprite_there : (ts : List TargetRecord) (k : ℕ) → option_map_or (λ r. not r.is_stage) (slice_get ts k) false ≡ true → k < length ts
sprite_there [] k h = absurd (cc h)
sprite_there (t ∷ ts) zero h = omega arith
sprite_there (t ∷ ts) (suc k) h = omega (arith, sprite_there ts k h)

-- an original of a target, or a clone of a sprite
abbrev is_cast : Basis → Told → Instance → Bool
is_cast b t i = is_original i && nat_lt i.of (length (records_of b).targets) || is_clone b t i

one_or : (a b : Bool) (P : Type 0) → (a ≡ true → P) → (b ≡ true → P) → (a || b) ≡ true → P
one_or true b P f g h = f refl
one_or false b P f g h = g h

cast_there : (b : Basis) (t : Told) (i : Instance) → is_cast b t i ≡ true → i.of < length (records_of b).targets
cast_there b t i h =
    one_or (is_original i && nat_lt i.of (length (records_of b).targets)) (is_clone b t i) (i.of < length (records_of b).targets)
    (λ a. below i.of _ (both (is_original i) _ a).1)
    (λ c. sprite_there (records_of b).targets i.of (both (is_sprite b i.of) (nat_le (length (records_of b).targets) i.number) (both (is_sprite b i.of && nat_le (length (records_of b).targets) i.number) (nat_lt i.number t.run.next_instance) c).0).0) h

-- A costume of the target, which has fewer than 2^32

costumes_few : (ts : List TargetRecord) (k : ℕ) → All IsDressed ts → k < length ts → length (unwrap_or (slice_get ts k) no_target).costumes < 2 ^ 32
costumes_few [] k d l = absurd (omega (arith, l))
costumes_few (t ∷ ts) zero d l = (All-head IsDressed t ts d).1
costumes_few (t ∷ ts) (suc k) d l = costumes_few ts k (All-tail IsDressed t ts d) (omega (arith, l))

-- Edge hats

edges_fit : (p : Project) (t : ℕ) → t < length (tables_of p) → block_count (tables_of p) < 2 ^ 32 → (es : List (ℕ × Bool)) → list_all (λ e. is_edge t e.0 (basis_of p)) es ≡ true → list_all is_numbered es ≡ true
edges_fit p t there few [] h = refl
edges_fit p t there few (e ∷ es) h =
    let s = both (is_edge t e.0 (basis_of p)) _ h in
    ap (λ x. x && list_all is_numbered es) (below_is e.0 (2 ^ 32) (omega (arith, edge_within p t e.0 there s.0, few))) ∙ edges_fit p t there few es s.1

-- All of it

pub record IsBounded (p : Project) : Type 0 where
  pub as_many : length (records_of (basis_of p)).targets ≡ length (tables_of p)
  pub few : length (tables_of p) < 2 ^ 32
  pub dressed : All IsDressed (records_of (basis_of p)).targets
  pub blocks : block_count (tables_of p) < 2 ^ 32

module _ (p : Project) (bounds : IsBounded p) (t : Told) where
  abbrev b : Basis
  b = basis_of p

  held_one : (i : ToldInstance) → is_cast b t (instance_of i) ≡ true → nat_lt i.costume (length (record_of (instance_of i) (records_of b)).costumes) ≡ true
      → nat_le (char_count i.bubble.text) most_characters ≡ true → list_all (λ e. is_edge i.of e.0 b) i.edges ≡ true → has_short_texts (store_of i) ≡ true → IsHeld i
  held_one i cast costume says hats texts =
      let there : i.of < length (records_of b).targets = cast_there b t (instance_of i) cast in
      record {
        target = omega (arith, there, bounds.as_many, bounds.few);
        look = omega (arith, below i.costume _ costume, costumes_few (records_of b).targets i.of bounds.dressed there);
        says = at_most _ _ says;
        numbered = edges_fit p i.of (omega (arith, there, bounds.as_many)) bounds.blocks i.edges hats;
        texts = texts;
      }

  pub held_all : (is : List ToldInstance) → list_all (is_cast b t) (map instance_of is) ≡ true
      → list_all (λ i. nat_lt i.costume (length (record_of i (records_of b)).costumes)) (map instance_of is) ≡ true
      → list_all (λ i. nat_le (char_count i.bubble.text) most_characters) (map instance_of is) ≡ true
      → list_all (λ i. list_all (λ e. is_edge i.of e.0 b) i.edges) (map instance_of is) ≡ true
      → list_all has_short_texts (map store_of is) ≡ true → All IsHeld is
  held_all [] h1 h2 h3 h4 h5 = All-nil IsHeld
  held_all (i ∷ is) h1 h2 h3 h4 h5 =
      let a = both (is_cast b t (instance_of i)) _ h1 in
      let c = both (nat_lt i.costume (length (record_of (instance_of i) (records_of b)).costumes)) _ h2 in
      let d = both (nat_le (char_count i.bubble.text) most_characters) _ h3 in
      let e = both (list_all (λ e. is_edge i.of e.0 b) i.edges) _ h4 in
      let f = both (has_short_texts (store_of i)) _ h5 in
      All-cons IsHeld i is (held_one i a.0 c.0 d.0 e.0 f.0) (held_all is a.1 c.1 d.1 e.1 f.1)
