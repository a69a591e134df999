-- The hats of each text, and what one more of a text changes; private functions alone cite this file.
use Rattle.std.specs.Prelude.{◌≡◌, ℕ, List, [], ◌∷◌, ◌++◌, Option, Some, unwrap_or, bytes_eq, if◌then◌else◌}
use Rattle.std.specs.BTreeMap.{get_by_text}
use Rattle.hat_index.specs.declared.text_starts.TextStarts.{TextStarts}

-- a head, and the block under it
abbrev pub Start : Type 0
Start = ℕ × Option ℕ

abbrev pub starts_at : TextStarts → List ℕ → Option (List Start)
starts_at m text = get_by_text m.starts text

-- behind those that are there
abbrev pub with_start : Option (List Start) → Start → List Start
with_start starts s = unwrap_or starts [] ++ s ∷ []

abbrev pub Adds : TextStarts → TextStarts → List ℕ → Start → Type 0
Adds old new text s = (q : List ℕ) → starts_at new q ≡ (if bytes_eq text q then Some (with_start (starts_at old q) s) else starts_at old q)
