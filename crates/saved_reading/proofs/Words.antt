-- What a block keeps, by the word that stands first.
use Rattle.std.proofs.Common.{◌≡◌, ◌≤◌, ℕ, List, [], ◌∷◌, length, get_or, map, None, Some, Result, Err, codes, subst, sym, bytes_eq, false, arith}
use Rattle.std.proofs.lemmas.Fmt.{decimal_digit}
use Rattle.std.specs.Fmt.{decimal}
use Rattle.serde_json.specs.Data.{Data}
use Rattle.serde_json.specs.Find.{as_str}
use Rattle.serde_json.specs.View.{view}
use Rattle.serde_json.specs.declared.value.Value.{Value}
use Rattle.saved_spec.specs.ThreadShapes.{worded, kept_readers}
use Rattle.scratch_values.specs.Named.{item_named}
use Rattle.json_shapes.specs.Places.{path}
use Rattle.json_shapes.specs.Reads.{Reads, IsFaultAt}
use Rattle.json_shapes.specs.declared.fault.Fault.{Fault}
use Rattle.json_shapes.specs.declared.fault.Fault.TheVariants.{Shape, NoMemory}
use Rattle.saved_reading.specs.Parts.{kept_named}

-- the text of the first place
pub zeroth : (at : List (List ℕ)) (f : Fault) → IsFaultAt (path (decimal 0 ∷ at)) f → IsFaultAt (path (codes "0" ∷ at)) f
zeroth at f h = subst (λ (s : List ℕ). IsFaultAt (path (s ∷ at)) f) (decimal_digit 0 (omega arith)) h

-- a fault that is told at the path
pub told_fault : {A B : Type 0} (seen : A → B) (p : List ℕ) (f : Fault) (r : Result B (List ℕ)) → IsFaultAt p f → r ≡ Err p → Reads seen (Err f) r
told_fault seen p (Shape told) r at is = rw (at, is)
told_fault seen p NoMemory r at is = tt

pub unnamed : (word : List ℕ) → bytes_eq (codes "loop") word ≡ false → bytes_eq (codes "repeat") word ≡ false → bytes_eq (codes "wait") word ≡ false
    → bytes_eq (codes "glide") word ≡ false → bytes_eq (codes "started") word ≡ false → bytes_eq (codes "asked") word ≡ false
    → bytes_eq (codes "spoken") word ≡ false → bytes_eq (codes "call") word ≡ false → item_named word kept_readers ≡ None
unnamed word e1 e2 e3 e4 e5 e6 e7 e8 = rw (e1, e2, e3, e4, e5, e6, e7, e8)

pub unknown_word : (word : List ℕ) (at : List (List ℕ)) (ds : List Data) → item_named word kept_readers ≡ None → kept_named word at ds ≡ Err (path (codes "0" ∷ at))
unknown_word word at ds none = rw none

pub worded-word : (at : List (List ℕ)) (vs : List Value) (v : Value) (word : List ℕ) → 1 ≤ length vs → v ≡ get_or vs 0 v → as_str (view v) ≡ Some word
    → worded at (map view vs) ≡ kept_named word at (map view vs)
worded-word at [] v word some first is = absurd (omega arith)
worded-word at (w ∷ vs) v word some first is = let e : as_str (view w) ≡ Some word = rw (sym first) is in rw e

pub worded-no_text : (at : List (List ℕ)) (vs : List Value) (v : Value) → 1 ≤ length vs → v ≡ get_or vs 0 v → as_str (view v) ≡ None
    → worded at (map view vs) ≡ Err (path (codes "0" ∷ at))
worded-no_text at [] v some first is = absurd (omega arith)
worded-no_text at (w ∷ vs) v some first is = let e : as_str (view w) ≡ None = rw (sym first) is in rw e
