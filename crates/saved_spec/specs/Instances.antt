-- The instances of a saved run (docs/formats.md, section 5), each with the values and lists of its store.
use Rattle.std.specs.Prelude.{ℕ, List, [], ◌∷◌, codes, map, Bool, slice_get, unwrap_or}
use Rattle.serde_json.specs.Data.{Data, boolean, string}
use Rattle.machine_spec.specs.declared.bubble.Say.{Say}
use Rattle.machine_spec.specs.declared.bubble.Say.TheVariants as kind
use Rattle.machine_spec.specs.declared.bubble.Bubble.{Bubble}
use Rattle.machine_spec.specs.declared.instance.Instance.{Instance}
use Rattle.machine_spec.specs.declared.instance.Style.{Style}
use Rattle.machine_spec.specs.declared.instance.Style.TheVariants.{AllAround, LeftRight, DontRotate}
use Rattle.machine_spec.specs.declared.variables.Store.{Store}
use Rattle.machine_spec.specs.Stores.{store_at}
use Rattle.scratch_number.specs.declared.number.Num.{Num}
use Rattle.scratch_values.specs.Casts.{zero_number}
use Rattle.scratch_values.specs.declared.value.Value.{Value}
use Rattle.saved_spec.specs.Rows.{whole, row, table, each}
use Rattle.saved_spec.specs.Values.{num, value}

abbrev pub say_name : Say → List ℕ
say_name kind.Say = codes "say"
say_name kind.Think = codes "think"

abbrev pub bubble : Bubble → Data
bubble b = row (string (say_name b.kind) ∷ string b.text ∷ whole b.usage ∷ [])

-- the block of an edge hat, and the value that was recorded for it
abbrev pub edge : ℕ × Bool → Data
edge e = row (whole e.0 ∷ boolean e.1 ∷ [])

abbrev pub style_number : Style → ℕ
style_number AllAround = 0
style_number LeftRight = 1
style_number DontRotate = 2

-- the seven numbers of the effects, in the order of `Effect`
abbrev pub effect_numbers : List Num → List Num
effect_numbers effects = map (λ place. unwrap_or (slice_get effects place) zero_number) (0 ∷ 1 ∷ 2 ∷ 3 ∷ 4 ∷ 5 ∷ 6 ∷ [])

-- an instance with these values and lists
unfoldable pub instance_of : Instance → (values : List Value) → (lists : List (List Value)) → Data
instance_of i values lists = table (
    (codes "bubble", bubble i.bubble)
    ∷ (codes "costume", whole i.costume)
    ∷ (codes "direction", num i.direction)
    ∷ (codes "edges", each edge i.edges)
    ∷ (codes "effects", each num (effect_numbers i.effects))
    ∷ (codes "lists", each (each value) lists)
    ∷ (codes "number", whole i.number)
    ∷ (codes "of", whole i.of)
    ∷ (codes "size", num i.size)
    ∷ (codes "style", whole (style_number i.style))
    ∷ (codes "variables", each value values)
    ∷ (codes "visible", boolean i.visible)
    ∷ (codes "x", num i.x)
    ∷ (codes "y", num i.y)
    ∷ [])

-- an instance with its store among these
abbrev pub instance : List Store → Instance → Data
instance stores i = instance_of i (store_at i.number stores).values (store_at i.number stores).lists
