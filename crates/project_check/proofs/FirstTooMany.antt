-- What is measured of a file, part after part.
use Rattle.std.proofs.Common.{◌≡◌, ℕ, ◌+◌, List, [], ◌∷◌, ◌++◌, map, Some, None, Err, refl, sym, ap, ◌∙◌, inl, inr, append_assoc}
use Rattle.project_spec.specs.declared.refusals.Refusal.{Refusal}
use Rattle.project_spec.specs.declared.refusals.Refusal.TheVariants as refusal
use Rattle.project_spec.specs.Limits.{Measure, table_measures, blocks_place, first_too_many, too_many}
use Rattle.project_spec.specs.Reading.{Table, File}
use Rattle.project_spec.specs.Refusals.{stage_count}
use Rattle.target_records.specs.declared.refusal.RecordRefusal.{RecordRefusal}
use Rattle.target_records.specs.declared.refusal.RecordRefusal.TheVariants as record_refusal
use Rattle.target_records.specs.Bounds.{lengths_in}
use Rattle.target_records.specs.Bounds as records
use Rattle.target_records.proofs.Counts.{first-passed, first-stopped}
use Rattle.project_check.specs.Measured.{counts_in, texts_from, Stops, of_records, IsMeasured}

-- the file's measures: its counts, the lengths of its records, the texts of its blocks
passed_counts : (f : File) → first_too_many (counts_in f) ≡ None → too_many f ≡ first_too_many (lengths_in f.records.targets ++ texts_from 0 f.tables)
passed_counts f none = first-passed (counts_in f) (lengths_in f.records.targets ++ texts_from 0 f.tables) none

passed_records : (f : File) → first_too_many (counts_in f) ≡ None → first_too_many (lengths_in f.records.targets) ≡ None → too_many f ≡ first_too_many (texts_from 0 f.tables)
passed_records f counts lengths = passed_counts f counts ∙ first-passed (lengths_in f.records.targets) (texts_from 0 f.tables) lengths

pub passed_all : (f : File) → first_too_many (counts_in f) ≡ None → first_too_many (lengths_in f.records.targets) ≡ None → first_too_many (texts_from 0 f.tables) ≡ None → too_many f ≡ None
passed_all f counts lengths texts = passed_records f counts lengths ∙ texts

-- what is told of the first that is too many

told : (f : File) (r : Refusal) (measures : List Measure) → stage_count f ≡ 1 → Stops r measures → ((path : List ℕ) → first_too_many measures ≡ Some path → too_many f ≡ Some path) → IsMeasured f (Err r)
told f (refusal.TooMany path) measures e h up = inr (e, inl (path, up path h, refl))
told f refusal.NoMemory measures e h up = tt
told f (refusal.Json r) measures e h up = absurd h
told f (refusal.Shape path) measures e h up = absurd h
told f (refusal.StageCount n) measures e h up = absurd h
told f (refusal.Mutation at why) measures e h up = absurd h
told f (refusal.Dangling at to) measures e h up = absurd h
told f (refusal.Cyclic at) measures e h up = absurd h
told f (refusal.Opcode at name) measures e h up = absurd h
told f (refusal.MissingInput at name) measures e h up = absurd h
told f (refusal.Field at name) measures e h up = absurd h
told f (refusal.TooDeep at) measures e h up = absurd h

pub stop_counts : (f : File) (r : Refusal) → stage_count f ≡ 1 → Stops r (counts_in f) → IsMeasured f (Err r)
stop_counts f r e h = told f r (counts_in f) e h (λ path p. first-stopped (counts_in f) (lengths_in f.records.targets ++ texts_from 0 f.tables) path p)

pub stop_records : {A B : Type 0} (view : A → B) (whole : B) (f : File) (r : RecordRefusal) → stage_count f ≡ 1 → first_too_many (counts_in f) ≡ None → records.Bounds view (Err r) whole (lengths_in f.records.targets) → IsMeasured f (Err (of_records r))
stop_records view whole f (record_refusal.TooMany path) e counts h = inr (e, inl (path, passed_counts f counts ∙ first-stopped (lengths_in f.records.targets) (texts_from 0 f.tables) path h, refl))
stop_records view whole f record_refusal.NoMemory e counts h = tt
stop_records view whole f (record_refusal.Shape path) e counts h = absurd h
stop_records view whole f (record_refusal.StageCount n) e counts h = absurd h

pub stop_texts : (f : File) (r : Refusal) → stage_count f ≡ 1 → first_too_many (counts_in f) ≡ None → first_too_many (lengths_in f.records.targets) ≡ None → Stops r (texts_from 0 f.tables) → IsMeasured f (Err r)
stop_texts f r e counts lengths h = told f r (texts_from 0 f.tables) e h (λ path p. passed_records f counts lengths ∙ p)

-- One table after another

stop_in : (r : Refusal) (ms ns : List Measure) → Stops r ms → ((p : List ℕ) → first_too_many ms ≡ Some p → first_too_many ns ≡ Some p) → Stops r ns
stop_in (refusal.TooMany path) ms ns h up = up path h
stop_in refusal.NoMemory ms ns h up = h
stop_in (refusal.Json r) ms ns h up = h
stop_in (refusal.Shape path) ms ns h up = h
stop_in (refusal.StageCount n) ms ns h up = h
stop_in (refusal.Mutation at why) ms ns h up = h
stop_in (refusal.Dangling at to) ms ns h up = h
stop_in (refusal.Cyclic at) ms ns h up = h
stop_in (refusal.Opcode at name) ms ns h up = h
stop_in (refusal.MissingInput at name) ms ns h up = h
stop_in (refusal.Field at name) ms ns h up = h
stop_in (refusal.TooDeep at) ms ns h up = h

module _ (n : ℕ) (x : Table) (xs ys : List Table) (go : xs ≡ x ∷ ys) (all : List Table) (many : first_too_many (texts_from n xs) ≡ first_too_many (texts_from 0 all)) where
  texts-go : first_too_many (table_measures (blocks_place n) x ++ texts_from (n + 1) ys) ≡ first_too_many (texts_from 0 all)
  texts-go = ap (λ zs. first_too_many (texts_from n zs)) (sym go) ∙ many

  pub table_stops : (r : Refusal) → Stops r (table_measures (blocks_place n) x) → Stops r (texts_from 0 all)
  table_stops r h =
      stop_in r (table_measures (blocks_place n) x) (texts_from 0 all) h (λ p told. sym texts-go ∙ first-stopped (table_measures (blocks_place n) x) (texts_from (n + 1) ys) p told)

  pub table_passes : first_too_many (table_measures (blocks_place n) x) ≡ None → first_too_many (texts_from (n + 1) ys) ≡ first_too_many (texts_from 0 all)
  table_passes none = sym (first-passed (table_measures (blocks_place n) x) (texts_from (n + 1) ys) none) ∙ texts-go

-- what was bounded, and what is left
pub bounded_more : {A B : Type 0} (f : A → B) (front new : List B) (xs ys : List A) (b : B) (a : A) (whole : List B)
    → new ≡ front ++ b ∷ [] → b ≡ f a → xs ≡ a ∷ ys → front ++ map f xs ≡ whole → new ++ map f ys ≡ whole
bounded_more f front new xs ys b a whole made same go all =
    ap (λ zs. zs ++ map f ys) made ∙ append_assoc front (b ∷ []) (map f ys) ∙ ap (λ z. front ++ (z ∷ map f ys)) same
    ∙ ap (λ zs. front ++ map f zs) (sym go) ∙ all
