-- The rows of looks keep instances legal.
use Rattle.std.proofs.Common.{◌≡◌, ℕ, ◌+◌, ◌^◌, ◌<◌, ◌==◌, Bool, true, false, if◌then◌else◌, List, length, Option, Some, None, option_map, refl, sym, ap, ◌∙◌, subst, arith}
use Rattle.std.specs.Prelude.{pos, codes, slice_get, slice_index_or, unwrap_or}
use Rattle.std.proofs.lemmas.Nat.{mod_below}
use Rattle.opcode_table.specs.declared.opcode.Opcode.{Opcode}
use Rattle.opcode_table.specs.declared.opcode.Opcode.TheVariants.{LooksSay, LooksThink, LooksSayForSecs, LooksThinkForSecs, LooksSwitchCostumeTo, LooksNextCostume, LooksSwitchBackdropTo, LooksSwitchBackdropToAndWait, LooksNextBackdrop, LooksChangeSizeBy, LooksSetSizeTo, LooksChangeEffectBy, LooksSetEffectTo, LooksClearGraphicEffects, LooksShow, LooksHide, LooksGoToFrontBack, LooksGoForwardBackwardLayers}
use Rattle.scratch_number.specs.declared.number.Num.{Num}
use Rattle.scratch_number.specs.Arithmetic.{add}
use Rattle.scratch_values.specs.Casts.{zero_number}
use Rattle.scratch_values.specs.Named.{Arguments}
use Rattle.scratch_values.specs.declared.value.Value.{Value}
use Rattle.machine_spec.specs.declared.bubble.Say.{Say}
use Rattle.machine_spec.specs.declared.bubble.Say.TheVariants as say
use Rattle.machine_spec.specs.declared.instance.Instance.{Instance}
use Rattle.machine_spec.specs.declared.records.TargetRecord.{TargetRecord}
use Rattle.machine_spec.specs.declared.threads.Context.{Context}
use Rattle.machine_spec.specs.declared.threads.Context.TheVariants.{Started}
use Rattle.machine_spec.specs.Effects.{no_effects}
use Rattle.machine_spec.specs.Looks.{effect_named, with_effect, with_size, size_kept, layer, layer_after, forward_by, front_or_back, last_layer, goes_on, own, changed, looks_by, on_sprite, effect_set, layered, spoken, shown_bubble, timed_bubble, with_costume, next_costume, switched_to, with_backdrop, backdrop_switched, backdrop_and_wait, looks_row, with_words}
use Rattle.machine_spec.specs.Outcome.{Goes, IfGoes}
use Rattle.machine_spec.specs.Parts.{Scene, LooksParts, bubble_updated}
use Rattle.machine_spec.specs.Program.{Program, no_target, stage_number}
use Rattle.machine_spec.specs.Stores.{live, is_on_stage, record_of}
use Rattle.machine_spec.specs.Texts.{bubble_text, uncut_bubble_text}
use Rattle.machine_spec.specs.Threads.{Listed}
use Rattle.machine_spec.specs.View.{Row, value_at, number_at, field_at}
use Rattle.machine_spec.specs.Words.{Words, draw}
use Rattle.laws_of_threads.specs.Playable.{IsTarget, IsPlayable}
use Rattle.laws_of_threads.proofs.Faces.{Alike}
use Rattle.laws_of_threads.proofs.RowFits.{goes_then}
use Rattle.laws_of_instances.specs.Instances.{IsInstance}
use Rattle.laws_of_instances.proofs.Bounds.{cast_number, sum_number}
use Rattle.laws_of_instances.proofs.Bubbles.{updated_cast}
use Rattle.laws_of_instances.proofs.Casts.{IsCast, found_at, cast_changed}
use Rattle.laws_of_instances.proofs.Changes.{each_get, each_found}
use Rattle.laws_of_instances.proofs.Costumes.{IsCostume, switched_below}
use Rattle.laws_of_instances.proofs.Layers.{after_above, end_above, sprite_behind, layer_cast}
use Rattle.laws_of_instances.proofs.Looks.{cut_short, sized, seen, dressed, coloured, size_fits, none_set, effect_fits, IsKeepable, added_keepable, set_keepable}

few_by : (p : Program) (play : IsPlayable p) (k : ℕ) (o : Option TargetRecord) → slice_get p.records.targets k ≡ o → length (unwrap_or o no_target).costumes < 2 ^ 32
few_by p play k None e = omega arith
few_by p play k (Some r) e = (each_get IsTarget p.records.targets k r e play.targets).few

-- a target has less than 2^32 costumes
costumes_few : (p : Program) → IsPlayable p → (i : Instance) → length (record_of i p.records).costumes < 2 ^ 32
costumes_few p play i = few_by p play i.of (slice_get p.records.targets i.of) refl

some_below : (c n : ℕ) → c < n → 0 < n
some_below c n h = omega arith

module _ (p : Program) (play : IsPlayable p) where
  abbrev pub IsLooksCast : LooksParts → Type 0
  IsLooksCast v = IsCast p v.scene.devices.usage v.scene.targets

  abbrev Kept : Row LooksParts → Type 0
  Kept r = IsLooksCast r.parts

  changed_cast : (n : ℕ) (f : Instance → Instance) (v : LooksParts) → ((i : Instance) → Alike i (f i)) → ((i : Instance) → live n v.scene.targets ≡ Some i → IsInstance p v.scene.devices.usage i → IsInstance p v.scene.devices.usage (f i))
      → IsLooksCast v → IsLooksCast (changed f n v)
  changed_cast n f v alike keeps h = cast_changed p v.scene.devices.usage n f v.scene.targets alike keeps h

  -- only where the instance is no stage
  sprite_by : (here : ℕ) (v : LooksParts) (r : Row LooksParts) (b : Bool) → is_on_stage (own here v) p.records ≡ b → IsLooksCast v → (is_on_stage (own here v) p.records ≡ false → Kept r) → Kept (if b then goes_on false v else r)
  sprite_by here v r true e h g = h
  sprite_by here v r false e h g = g e

  sprite_cast : (here : ℕ) (v : LooksParts) (r : Row LooksParts) → IsLooksCast v → (is_on_stage (own here v) p.records ≡ false → Kept r) → Kept (on_sprite p.records here v r)
  sprite_cast here v r h g = sprite_by here v r (is_on_stage (own here v) p.records) refl h g

  off_at : (here : ℕ) (v : LooksParts) (i : Instance) → live here v.scene.targets ≡ Some i → is_on_stage (own here v) p.records ≡ false → is_on_stage i p.records ≡ false
  off_at here v i e off = ap (λ x. is_on_stage x p.records) (sym (found_at here v.scene.targets i e)) ∙ off

  effect_cast : (here : ℕ) (e : Option ℕ) (n : ℕ → Instance → Num) (v : LooksParts) → ((k : ℕ) (i : Instance) → IsInstance p v.scene.devices.usage i → IsKeepable k (n k i)) → IsLooksCast v → Kept (effect_set e n here v)
  effect_cast here None n v g h = h
  effect_cast here (Some k) n v g h = changed_cast here (λ i. with_effect k (n k i) i) v (λ i. record { number = refl; of = refl }) (λ i e a. coloured p v.scene.devices.usage i a _ (effect_fits i.effects k (n k i) (g k i a) a.effects)) h

  spoken_cast : (here : ℕ) (kind : Say) (a : Arguments) (v : LooksParts) (next : LooksParts → Row LooksParts) → ((s : Scene) → IsCast p s.devices.usage s.targets → Kept (next (record v { scene = s }))) → IsLooksCast v → IfGoes (spoken kind a here v next) Kept
  spoken_cast here kind a v next g h = goes_then (bubble_updated here kind (bubble_text (value_at (codes "MESSAGE") a)) v.scene) (λ s. Goes (next (record v { scene = s }))) (λ s. IsCast p s.devices.usage s.targets) Kept (updated_cast p here kind (bubble_text (value_at (codes "MESSAGE") a)) v.scene (cut_short (uncut_bubble_text (value_at (codes "MESSAGE") a))) h) g

  -- costumes
  costume_at : (n : ℕ) (k : ℕ) (x : Instance) (v : LooksParts) → live n v.scene.targets ≡ Some x → k < length (record_of x p.records).costumes → IsLooksCast v → IsLooksCast (changed (with_costume k) n v)
  costume_at n k x v it b h = changed_cast n (with_costume k) v (λ i. record { number = refl; of = refl })
      (λ i e g. dressed p v.scene.devices.usage i g k (let s : x ≡ i = cc (it, e) in subst (λ y. k < length (record_of y p.records).costumes) s b)) h

  costume_cast : (here : ℕ) (o : Option ℕ) (x : Instance) (v : LooksParts) → live here v.scene.targets ≡ Some x → IsCostume (length (record_of x p.records).costumes) o → IsLooksCast v → Kept (looks_by (option_map with_costume o) here v)
  costume_cast here None x v it b h = h
  costume_cast here (Some k) x v it b h = costume_at here k x v it b h

  backdrop_cast : (o : Option ℕ) (x : Instance) (v : LooksParts) → live (stage_number p.records) v.scene.targets ≡ Some x → IsCostume (length (record_of x p.records).costumes) o → IsLooksCast v → IsLooksCast (with_backdrop o p.records v)
  backdrop_cast None x v it b h = h
  backdrop_cast (Some k) x v it b h = costume_at (stage_number p.records) k x v it b h

  next_legal : (usage : ℕ) (i : Instance) → IsInstance p usage i → IsInstance p usage (next_costume p.records i)
  next_legal usage i h = dressed p usage i h _ (mod_below (i.costume + 1) (length (record_of i p.records).costumes) (some_below i.costume _ h.costume))

  next_cast : (n : ℕ) (v : LooksParts) → IsLooksCast v → IsLooksCast (changed (next_costume p.records) n v)
  next_cast n v h = changed_cast n (next_costume p.records) v (λ i. record { number = refl; of = refl }) (λ i e g. next_legal v.scene.devices.usage i g) h

  module _ (draws : Words → Type 0) (small : (w : Words) → draws w → IfGoes (draw w) (λ d. d.value < 2 ^ 32)) where
    switched_cast : (backdrop : Bool) (value : Value) (n : ℕ) (x : Instance) (v : LooksParts) → live n v.scene.targets ≡ Some x → draws v.words → IsLooksCast v
        → IfGoes (switched_to backdrop value p.records (own n v) v.words) (λ d. IsCostume (length (record_of x p.records).costumes) d.value)
    switched_cast backdrop value n x v it w h =
        let g : IsInstance p v.scene.devices.usage x = each_found (IsInstance p v.scene.devices.usage) (λ i. i.number == n) v.scene.targets x it h.each in
        subst (λ i. IfGoes (switched_to backdrop value p.records i v.words) (λ d. IsCostume (length (record_of x p.records).costumes) d.value)) (sym (found_at n v.scene.targets x it))
        (switched_below draws small backdrop (record_of x p.records).costumes x.costume value v.words (some_below x.costume _ g.costume) (costumes_few p play x) w)

    backdrop_switched_cast : (wait : Bool) (value : Value) (x : Instance) (v : LooksParts) → live (stage_number p.records) v.scene.targets ≡ Some x → draws v.words → IsLooksCast v → IfGoes (backdrop_switched wait value p.records v) Kept
    backdrop_switched_cast wait value x v it w h = goes_then (switched_to true value p.records (own (stage_number p.records) v) v.words) _ (λ d. IsCostume (length (record_of x p.records).costumes) d.value) Kept
        (switched_cast true value (stage_number p.records) x v it w h) (λ d b. backdrop_cast d.value x (with_words d.words v) it b h)

    and_wait_cast : (c : Context) (value : Value) (ts : List Listed) (x : Instance) (v : LooksParts) → live (stage_number p.records) v.scene.targets ≡ Some x → draws v.words → IsLooksCast v → IfGoes (backdrop_and_wait c value p.records ts v) Kept
    and_wait_cast (Started serials) value ts x v it w h = h
    and_wait_cast c value ts x v it w h = backdrop_switched_cast true value x v it w h

    module _ (ts : List Listed) (here thread : ℕ) (x y : Instance) (v : LooksParts) (it : live here v.scene.targets ≡ Some x) (its : live (stage_number p.records) v.scene.targets ≡ Some y) (w : draws v.words) (h : IsLooksCast v) where
      layer_kept_cast : (place : ℕ) → (is_on_stage (own here v) p.records ≡ false → 0 < place) → Kept (on_sprite p.records here v (layered here place v))
      layer_kept_cast place above = sprite_cast here v (layered here place v) h (λ off. layer_cast p v.scene.devices.usage here v.scene.targets x it off h place (above off))

      last_above : is_on_stage (own here v) p.records ≡ false → 0 < last_layer v
      last_above off = let b = (sprite_behind p v.scene.devices.usage here v.scene.targets x it off h).more in omega (arith, b)

      layer_above : is_on_stage (own here v) p.records ≡ false → 0 < layer here v.scene.targets
      layer_above off = (sprite_behind p v.scene.devices.usage here v.scene.targets x it off h).above

      pub looks_cast : (op : Opcode) (a : Arguments) (c : Context) → IfGoes (looks_row p.records ts op a here thread c v) Kept
      looks_cast LooksSay a c = spoken_cast here say.Say a v (shown_bubble here) (λ s g. g) h
      looks_cast LooksThink a c = spoken_cast here say.Think a v (shown_bubble here) (λ s g. g) h
      looks_cast LooksSayForSecs a c = spoken_cast here say.Say a v (timed_bubble (number_at (codes "SECS") a) here thread) (λ s g. g) h
      looks_cast LooksThinkForSecs a c = spoken_cast here say.Think a v (timed_bubble (number_at (codes "SECS") a) here thread) (λ s g. g) h
      looks_cast LooksSwitchCostumeTo a c = goes_then (switched_to false (value_at (codes "COSTUME") a) p.records (own here v) v.words) _ (λ d. IsCostume (length (record_of x p.records).costumes) d.value) Kept
          (switched_cast false (value_at (codes "COSTUME") a) here x v it w h) (λ d b. costume_cast here d.value x (with_words d.words v) it b h)
      looks_cast LooksNextCostume a c = next_cast here v h
      looks_cast LooksSwitchBackdropTo a c = backdrop_switched_cast false (value_at (codes "BACKDROP") a) y v its w h
      looks_cast LooksSwitchBackdropToAndWait a c = and_wait_cast c (value_at (codes "BACKDROP") a) ts y v its w h
      looks_cast LooksNextBackdrop a c = next_cast (stage_number p.records) v h
      looks_cast LooksChangeSizeBy a c = sprite_cast here v _ h (λ off. changed_cast here (λ i. with_size (add i.size (number_at (codes "CHANGE") a)) i) v (λ i. record { number = refl; of = refl })
          (λ i e g. sized p v.scene.devices.usage i g (size_kept (add i.size (number_at (codes "CHANGE") a))) (off_at here v i e off) (size_fits (add i.size (number_at (codes "CHANGE") a)) (sum_number (pos 0) (pos 10000000000) i.size (number_at (codes "CHANGE") a) g.size (cast_number (value_at (codes "CHANGE") a))))) h)
      looks_cast LooksSetSizeTo a c = sprite_cast here v _ h (λ off. changed_cast here (with_size (number_at (codes "SIZE") a)) v (λ i. record { number = refl; of = refl })
          (λ i e g. sized p v.scene.devices.usage i g (size_kept (number_at (codes "SIZE") a)) (off_at here v i e off) (size_fits (number_at (codes "SIZE") a) (cast_number (value_at (codes "SIZE") a)))) h)
      looks_cast LooksChangeEffectBy a c = effect_cast here (effect_named (field_at (codes "EFFECT") a)) (λ k i. add (slice_index_or i.effects k zero_number) (number_at (codes "CHANGE") a)) v
          (λ k i g. added_keepable i.effects k (number_at (codes "CHANGE") a) (cast_number (value_at (codes "CHANGE") a)) g.effects) h
      looks_cast LooksSetEffectTo a c = effect_cast here (effect_named (field_at (codes "EFFECT") a)) (λ k i. number_at (codes "VALUE") a) v (λ k i g. set_keepable k (number_at (codes "VALUE") a) (cast_number (value_at (codes "VALUE") a))) h
      looks_cast LooksClearGraphicEffects a c = changed_cast here (λ i. record i { effects = no_effects }) v (λ i. record { number = refl; of = refl }) (λ i e g. coloured p v.scene.devices.usage i g no_effects none_set) h
      looks_cast LooksShow a c = sprite_cast here v _ h (λ off. changed_cast here (λ i. record i { visible = true }) v (λ i. record { number = refl; of = refl }) (λ i e g. seen p v.scene.devices.usage i g true (off_at here v i e off)) h)
      looks_cast LooksHide a c = sprite_cast here v _ h (λ off. changed_cast here (λ i. record i { visible = false }) v (λ i. record { number = refl; of = refl }) (λ i e g. seen p v.scene.devices.usage i g false (off_at here v i e off)) h)
      looks_cast LooksGoToFrontBack a c = layer_kept_cast (front_or_back (field_at (codes "FRONT_BACK") a) (last_layer v)) (λ off. end_above (field_at (codes "FRONT_BACK") a) (last_layer v) (last_above off))
      looks_cast LooksGoForwardBackwardLayers a c = layer_kept_cast (layer_after (forward_by (number_at (codes "NUM") a) (field_at (codes "FORWARD_BACKWARD") a)) (layer here v.scene.targets) (last_layer v))
          (λ off. after_above (forward_by (number_at (codes "NUM") a) (field_at (codes "FORWARD_BACKWARD") a)) (layer here v.scene.targets) (last_layer v) (layer_above off) (last_above off))
      looks_cast op a c = h
