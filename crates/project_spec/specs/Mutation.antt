-- What a procedure's prototype and a call say of it, in their `mutation` (after scratch-vm, serialization/sb3.js and
-- engine/blocks.js). The lists of ids, names and defaults stand there as JSON texts.
pub use Rattle.project_spec.specs.declared.blocks.Prototype.{Prototype}
use Rattle.std.specs.Prelude.{ℕ, ◌==◌, ◌&&◌, ◌||◌, Bool, true, false, if◌then◌else◌, List, [], ◌∷◌, length, map, bytes_eq, codes, replicate, Option, None, Some, Result, Ok, Err}
use Rattle.std.specs.Option.{option_and_then}
use Rattle.project_json.specs.Tree.{Tree, null, truth, text}
use Rattle.project_json.specs.Parts.{member_of, text_in, items_in}
use Rattle.project_json.specs.TextTree.{tree_of}
use Rattle.scratch_values.specs.declared.value.Value.{Value}
use Rattle.scratch_values.specs.declared.value.Value.TheVariants.{Text}
use Rattle.json_shapes.specs.Shapes.{present}
use Rattle.project_spec.specs.declared.refusals.MutationRefusal.{MutationRefusal}
use Rattle.project_spec.specs.declared.refusals.MutationRefusal.TheVariants.{Missing, BadText, LengthsDiffer}
use Rattle.project_spec.specs.Values.{value}

-- goes on with what was read; the first refusal stays
infixl 10 ◌>>>◌
abbrev pub ◌>>>◌ : {A B : Type 0} → Result A MutationRefusal → (A → Result B MutationRefusal) → Result B MutationRefusal
(Ok a) >>> next = next a
(Err refusal) >>> next = Err refusal

abbrev pub or_refuse : {A : Type 0} → MutationRefusal → Option A → Result A MutationRefusal
or_refuse refusal None = Err refusal
or_refuse refusal (Some a) = Ok a

-- a text that has to be there
abbrev pub text_named : List ℕ → Tree → Result (List ℕ) MutationRefusal
text_named name t = or_refuse Missing (option_and_then text_in (member_of t name))

-- each item, where all can be read
abbrev pub add_some : {A : Type 0} → Option A → Option (List A) → Option (List A)
add_some None rest = None
add_some (Some a) None = None
add_some (Some a) (Some rest) = Some (a ∷ rest)

abbrev pub all_some : {A : Type 0} → List (Option A) → Option (List A)
all_some [] = Some []
all_some (o ∷ os) = add_some o (all_some os)

-- the items of the list that a JSON text stands for
abbrev pub listed : {A : Type 0} → (Tree → Option A) → List ℕ → Option (List A)
listed read t = option_and_then (λ ts. all_some (map read ts)) (option_and_then items_in (tree_of t))

abbrev pub texts_of : List ℕ → Result (List (List ℕ)) MutationRefusal
texts_of t = or_refuse BadText (listed text_in t)

-- a default is a text, a number or a truth
abbrev pub default_by : Result Value (List ℕ) → Option Value
default_by (Ok v) = Some v
default_by (Err path) = None

abbrev pub default_of : Tree → Option Value
default_of null = None
default_of t = default_by (value [] t)

-- absent defaults are empty texts
abbrev pub defaults_of : (count : ℕ) → Option Tree → Result (List Value) MutationRefusal
defaults_of count None = Ok (replicate count (Text []))
defaults_of count (Some t) = or_refuse BadText (option_and_then (listed default_of) (text_in t))

-- absent warp is false; it is a truth, or the text of a truth or of null
abbrev pub warp_text : List ℕ → Result Bool MutationRefusal
warp_text t =
    if bytes_eq t (codes "true") then Ok true
    else (if bytes_eq t (codes "false") || bytes_eq t (codes "null") then Ok false
    else Err BadText)

abbrev pub warp_of : Option Tree → Result Bool MutationRefusal
warp_of None = Ok false
warp_of (Some (truth b)) = Ok b
warp_of (Some (text t)) = warp_text t
warp_of (Some t) = Err BadText

abbrev pub same_lengths : Prototype → Result Prototype MutationRefusal
same_lengths q = if length q.ids == length q.names && length q.ids == length q.defaults then Ok q else Err LengthsDiffer

-- of a prototype: first what is missing, then texts that are none of their kind, then the lengths
abbrev pub prototype_in : Tree → Result Prototype MutationRefusal
prototype_in t =
    text_named (codes "proccode") t >>> (λ code.
    text_named (codes "argumentids") t >>> (λ ids.
    text_named (codes "argumentnames") t >>> (λ names.
    texts_of ids >>> (λ id_list.
    texts_of names >>> (λ name_list.
    defaults_of (length id_list) (present (member_of t (codes "argumentdefaults"))) >>> (λ defaults.
    warp_of (present (member_of t (codes "warp"))) >>> (λ warp.
    same_lengths (record { code = code; ids = id_list; names = name_list; defaults = defaults; warp = warp }))))))))

-- of a call: its code
abbrev pub call_in : Tree → Result (List ℕ) MutationRefusal
call_in t = text_named (codes "proccode") t
