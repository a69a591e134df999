-- The instances of a saved run are read as they were written.
use Rattle.std.proofs.Common.{◌≡◌, ℕ, List, [], ◌∷◌, length, map, Bool, true, Ok, codes, refl, sym, ap, ◌∙◌, subst, arith}
use Rattle.std.specs.List.{All}
use Rattle.scratch_number.specs.Number.{IsWithin}
use Rattle.scratch_number.specs.declared.number.Num.{Num}
use Rattle.scratch_values.specs.declared.value.Value.{Value}
use Rattle.machine_spec.specs.declared.bubble.Say.{Say}
use Rattle.machine_spec.specs.declared.bubble.Say.TheVariants as kind
use Rattle.machine_spec.specs.declared.bubble.Bubble.{Bubble}
use Rattle.machine_spec.specs.declared.instance.Instance.{Instance}
use Rattle.machine_spec.specs.declared.instance.Style.{Style}
use Rattle.machine_spec.specs.declared.instance.Style.TheVariants.{AllAround, LeftRight, DontRotate}
use Rattle.saved_spec.specs.Instances as instances
use Rattle.saved_spec.specs.Ranges.{HasInstance, IsValue}
use Rattle.saved_spec.specs.Rows as rows
use Rattle.saved_spec.specs.Values as values
use Rattle.saved_spec.specs.InstanceShapes as shapes
use Rattle.saved_spec.specs.Shapes.{each, num, value}
use Rattle.laws_of_reading.proofs.Parts.{num_read, value_read, each_same, each_from_same}

bubble_read : (at : List (List ℕ)) (b : Bubble) → shapes.bubble at (instances.bubble b) ≡ Ok b
bubble_read at b = of_kind b.kind
  where
    of_kind : (k : Say) → shapes.bubble at (instances.bubble (record b { kind = k })) ≡ Ok (record b { kind = k })
    of_kind kind.Say = refl
    of_kind kind.Think = refl

style_read : (at : List (List ℕ)) (s : Style) → shapes.style at (rows.whole (instances.style_number s)) ≡ Ok s
style_read at AllAround = refl
style_read at LeftRight = refl
style_read at DontRotate = refl

edges_read : (at : List (List ℕ)) (es : List (ℕ × Bool)) → shapes.rises (map (λ e. e.0) es) ≡ true → shapes.edges at (rows.each instances.edge es) ≡ Ok es
edges_read at es h = rw (each_same shapes.edge instances.edge (λ _. Unit {0}) (λ at e _. refl) at es (λ k d lt. tt), h) refl

pub effects_are : (es : List Num) → length es ≡ 7 → instances.effect_numbers es ≡ es
effects_are [] h = absurd (omega arith)
effects_are (a ∷ []) h = absurd (omega arith)
effects_are (a ∷ b ∷ []) h = absurd (omega arith)
effects_are (a ∷ b ∷ c ∷ []) h = absurd (omega arith)
effects_are (a ∷ b ∷ c ∷ d ∷ []) h = absurd (omega arith)
effects_are (a ∷ b ∷ c ∷ d ∷ e ∷ []) h = absurd (omega arith)
effects_are (a ∷ b ∷ c ∷ d ∷ e ∷ f ∷ []) h = absurd (omega arith)
effects_are (a ∷ b ∷ c ∷ d ∷ e ∷ f ∷ g ∷ []) h = refl
effects_are (a ∷ b ∷ c ∷ d ∷ e ∷ f ∷ g ∷ i ∷ es) h = absurd (omega arith)

effects_read : (at : List (List ℕ)) (es : List Num) → length es ≡ 7 → All IsWithin es → shapes.effects at (rows.each values.num (instances.effect_numbers es)) ≡ Ok es
effects_read at es h all =
    let same = effects_are es h in
    each_from_same num values.num IsWithin num_read 0 at (instances.effect_numbers es) (subst (All IsWithin) (sym same) all) ∙ ap Ok same

values_read : (at : List (List ℕ)) (vs : List Value) → All IsValue vs → each value at (rows.each values.value vs) ≡ Ok vs
values_read at vs h = each_same value values.value IsValue value_read at vs h

pub instance_read : (at : List (List ℕ)) (i : Instance) (vs : List Value) (ls : List (List Value)) → HasInstance i vs ls → shapes.rises (map (λ e. e.0) i.edges) ≡ true
    → shapes.instance at (instances.instance_of i vs ls) ≡ Ok (record { instance = i; store = record { of = i.number; values = vs; lists = ls } })
unfolding instances.instance_of
instance_read at i vs ls has up =
    let h = has.itself in
    rw (
      bubble_read (codes "bubble" ∷ at) i.bubble,
      num_read (codes "direction" ∷ at) i.direction h.direction,
      num_read (codes "size" ∷ at) i.size h.size,
      num_read (codes "x" ∷ at) i.x h.x,
      num_read (codes "y" ∷ at) i.y h.y,
      edges_read (codes "edges" ∷ at) i.edges up,
      effects_read (codes "effects" ∷ at) i.effects h.effects.seven h.effects.within,
      each_same (each value) (rows.each values.value) (All IsValue) values_read (codes "lists" ∷ at) ls has.its_lists,
      style_read (codes "style" ∷ at) i.style,
      values_read (codes "variables" ∷ at) vs has.its_values,
    )
    refl
