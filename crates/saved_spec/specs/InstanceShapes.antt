-- The shape of the instances of a saved run (docs/formats.md, section 5), member by member in the order of the table.
use Rattle.std.specs.Prelude.{ℕ, zero, suc, nat_lt, List, [], ◌∷◌, map, Bool, true, ◌&&◌, Option, Some, None, option_and_then, Ok, codes, if◌then◌else◌}
use Rattle.serde_json.specs.Data.{Data}
use Rattle.serde_json.specs.Find.{as_number, as_u64}
use Rattle.scratch_number.specs.declared.number.Num.{Num}
use Rattle.machine_spec.specs.declared.bubble.Say.{Say}
use Rattle.machine_spec.specs.declared.bubble.Say.TheVariants as kind
use Rattle.machine_spec.specs.declared.bubble.Bubble.{Bubble}
use Rattle.machine_spec.specs.declared.instance.Instance.{Instance}
use Rattle.machine_spec.specs.declared.instance.Style.{Style}
use Rattle.machine_spec.specs.declared.instance.Style.TheVariants.{AllAround, LeftRight, DontRotate}
use Rattle.machine_spec.specs.declared.variables.Store.{Store}
use Rattle.json_shapes.specs.Shapes.{Reader, found, ◌>>=◌}
use Rattle.saved_spec.specs.Shapes.{whole, truth, text, word, num, value, each_from, each, row, part, table, member}

abbrev pub say : Reader Data Say
say = word ((codes "say", kind.Say) ∷ (codes "think", kind.Think) ∷ [])

abbrev pub bubble : Reader Data Bubble
bubble at d =
    row 3 at d >>= (λ ds. part 0 say at ds >>= (λ k. part 1 text at ds >>= (λ t. part 2 whole at ds >>= (λ usage.
    Ok (record { kind = k; text = t; usage = usage })))))

abbrev pub edge : Reader Data (ℕ × Bool)
edge at d = row 2 at d >>= (λ ds. part 0 whole at ds >>= (λ block. part 1 truth at ds >>= (λ was. Ok (block, was))))

-- each number is above the one before it
abbrev pub rises_above : ℕ → List ℕ → Bool
rises_above n [] = true
rises_above n (m ∷ ms) = nat_lt n m && rises_above m ms

abbrev pub rises : List ℕ → Bool
rises [] = true
rises (n ∷ ns) = rises_above n ns

-- blocks and what was recorded for them, blocks rising
abbrev pub edges : Reader Data (List (ℕ × Bool))
edges at d = each edge at d >>= (λ es. found at (if rises (map (λ e. e.0) es) then Some es else None))

abbrev pub style_numbered : ℕ → Option Style
style_numbered zero = Some AllAround
style_numbered (suc zero) = Some LeftRight
style_numbered (suc (suc zero)) = Some DontRotate
style_numbered (suc (suc (suc n))) = None

abbrev pub style : Reader Data Style
style at d = found at (option_and_then style_numbered (option_and_then as_u64 (as_number d)))

-- an instance, and its store
pub record Standing : Type 0 where
  pub instance : Instance
  pub store : Store

-- seven numbers, in the order of the effects
abbrev pub effects : Reader Data (List Num)
effects at d = row 7 at d >>= each_from 0 num at

abbrev pub instance : Reader Data Standing
instance at d =
    table at d >>= (λ _. member (codes "bubble") bubble at d >>= (λ b. member (codes "costume") whole at d >>= (λ costume.
    member (codes "direction") num at d >>= (λ direction. member (codes "size") num at d >>= (λ size.
    member (codes "x") num at d >>= (λ x. member (codes "y") num at d >>= (λ y. member (codes "edges") edges at d >>= (λ es.
    member (codes "effects") effects at d >>= (λ numbers.
    member (codes "lists") (each (each value)) at d >>= (λ lists. member (codes "number") whole at d >>= (λ number.
    member (codes "of") whole at d >>= (λ of. member (codes "style") style at d >>= (λ style.
    member (codes "variables") (each value) at d >>= (λ values. member (codes "visible") truth at d >>= (λ visible.
    Ok (record {
      instance = record {
        number = number;
        of = of;
        x = x;
        y = y;
        direction = direction;
        size = size;
        visible = visible;
        costume = costume;
        style = style;
        effects = numbers;
        bubble = b;
        edges = es;
      };
      store = record { of = number; values = values; lists = lists };
    }))))))))))))))))
