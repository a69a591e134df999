-- The faults of bytes that are no JSON text nested at most n deep, each at its place, which is a number of bytes from the front.
use Rattle.std.specs.Prelude.{◌≡◌, ◌⊎◌, ℕ, ◌+◌, ◌<◌, ◌≤◌, List, length, take, slice_index}
use Rattle.std.specs.Str.{IsUtf8, IsValidUpTo}
use Rattle.project_json.specs.Tree.{Tree}
use Rattle.project_json.specs.Text.{IsText, BeginsWithin, Begins}
use Rattle.project_json.specs.declared.refusal.JsonRefusal.{JsonRefusal}
use Rattle.project_json.specs.declared.refusal.JsonRefusal.TheVariants.{NotUtf8, Syntax, TooDeep, NoMemory}

-- The bytes are no UTF-8. The longest prefix that is ends here, where the first ill-formed sequence starts.
pub record IsNotUtf8At (bytes : List ℕ) (at : ℕ) : Type 0 where
  pub ill_formed : IsUtf8 bytes → ⊥
  pub valid : IsValidUpTo bytes at

-- The bytes are UTF-8, and no JSON text, however deep. The longest prefix that begins a JSON text ends here, and no
-- bracket of it opens a nesting of n + 1.
pub record IsSyntaxAt (n : ℕ) (bytes : List ℕ) (at : ℕ) : Type 0 where
  pub utf8 : IsUtf8 bytes
  pub no_text : (m : ℕ) (t : Tree) → IsText m bytes t → ⊥
  pub within : at ≤ length bytes
  pub begins : BeginsWithin n (take at bytes)
  pub longest : (k : ℕ) → k ≤ length bytes → Begins (take k bytes) → k ≤ at

-- [ or {
abbrev pub IsOpening : ℕ → Type 0
IsOpening b = (b ≡ 91) ⊎ (b ≡ 123)

-- The bytes are UTF-8. Up to here they begin a JSON text nested at most n deep, and the bracket here opens a nesting
-- of n + 1.
pub record IsTooDeepAt (n : ℕ) (bytes : List ℕ) (at : ℕ) : Type 0 where
  pub utf8 : IsUtf8 bytes
  pub within : at < length bytes
  pub begins : BeginsWithin n (take at bytes)
  pub bracket : IsOpening (slice_index bytes at)
  pub opens : BeginsWithin (n + 1) (take (at + 1) bytes)
  pub deeper : BeginsWithin n (take (at + 1) bytes) → ⊥

-- the fault that a refusal tells; want of memory is none
abbrev pub IsFault : ℕ → List ℕ → JsonRefusal → Type 0
IsFault n bytes (NotUtf8 at) = IsNotUtf8At bytes at
IsFault n bytes (Syntax at) = IsSyntaxAt n bytes at
IsFault n bytes (TooDeep at) = IsTooDeepAt n bytes at
IsFault n bytes NoMemory = ⊥

-- a refusal tells a fault that the bytes have, or want of memory
abbrev pub IsCause : ℕ → List ℕ → JsonRefusal → Type 0
IsCause n bytes (NotUtf8 at) = IsNotUtf8At bytes at
IsCause n bytes (Syntax at) = IsSyntaxAt n bytes at
IsCause n bytes (TooDeep at) = IsTooDeepAt n bytes at
IsCause n bytes NoMemory = Unit {0}

-- a refusal is this one, or want of memory
abbrev pub IsOrNoMemory : JsonRefusal → JsonRefusal → Type 0
IsOrNoMemory refusal (NotUtf8 at) = NotUtf8 at ≡ refusal
IsOrNoMemory refusal (Syntax at) = Syntax at ≡ refusal
IsOrNoMemory refusal (TooDeep at) = TooDeep at ≡ refusal
IsOrNoMemory refusal NoMemory = Unit {0}

-- the bytes are a JSON text nested at most n deep, or have a fault
pub data TextOrFault : ℕ → List ℕ → Type 0 where
  is_text : {n : ℕ} {bytes : List ℕ} (t : Tree) → IsText n bytes t → TextOrFault n bytes
  has_fault : {n : ℕ} {bytes : List ℕ} (refusal : JsonRefusal) → IsFault n bytes refusal → TextOrFault n bytes
