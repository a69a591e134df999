-- The rows of looks and sound.
use Rattle.std.proofs.Common.{◌≡◌, ℕ, Bool, true, false, if◌then◌else◌, List, [], ◌∷◌, ◌++◌, Option, Some, None, option_map, refl, ap, ◌∙◌}
use Rattle.std.specs.Prelude.{codes, slice_index_or}
use Rattle.std.specs.List.{list_any}
use Rattle.opcode_table.specs.declared.opcode.Opcode.{Opcode}
use Rattle.opcode_table.specs.declared.opcode.Opcode.TheVariants.{LooksSay, LooksThink, LooksSayForSecs, LooksThinkForSecs, LooksSwitchCostumeTo, LooksNextCostume, LooksSwitchBackdropTo, LooksSwitchBackdropToAndWait, LooksNextBackdrop, LooksChangeSizeBy, LooksSetSizeTo, LooksChangeEffectBy, LooksSetEffectTo, LooksClearGraphicEffects, LooksShow, LooksHide, LooksGoToFrontBack, LooksGoForwardBackwardLayers}
use Rattle.opcode_table.specs.declared.kinds.Kind.{Kind}
use Rattle.opcode_table.specs.declared.kinds.Kind.TheVariants.{Speaks, Starts}
use Rattle.opcode_table.specs.Kinds.{kind}
use Rattle.scratch_number.specs.Arithmetic.{add}
use Rattle.scratch_number.specs.declared.number.Num.{Num}
use Rattle.scratch_values.specs.Casts.{zero_number}
use Rattle.scratch_values.specs.Named.{Arguments}
use Rattle.scratch_values.specs.declared.value.Value.{Value}
use Rattle.machine_spec.specs.declared.bubble.Say.{Say}
use Rattle.machine_spec.specs.declared.bubble.Say.TheVariants as say
use Rattle.machine_spec.specs.declared.instance.Instance.{Instance}
use Rattle.machine_spec.specs.declared.threads.Context.{Context}
use Rattle.machine_spec.specs.declared.threads.Context.TheVariants.{Started}
use Rattle.machine_spec.specs.declared.threads.Control.TheVariants.{Yield, YieldTick}
use Rattle.machine_spec.specs.Stores.{Devices, is_on_stage}
use Rattle.machine_spec.specs.Outcome.{IfGoes}
use Rattle.machine_spec.specs.Program.{Records, Procedure, stage_number}
use Rattle.machine_spec.specs.Threads.{Listed, among, wait_for, is_running}
use Rattle.machine_spec.specs.Effects.{no_effects}
use Rattle.machine_spec.specs.Texts.{bubble_text}
use Rattle.machine_spec.specs.Legal.{Keeps}
use Rattle.machine_spec.specs.View.{Row, value_at, number_at, field_at}
use Rattle.machine_spec.specs.Parts.{LooksParts, bubble_updated}
use Rattle.machine_spec.specs.Looks.{effect_named, with_effect, with_size, goes_on, own, changed, looks_by, on_sprite, effect_set, layered, spoken, shown_bubble, timed_bubble, with_costume, next_costume, switched_to, backdrop_hats, with_backdrop, backdrop_switched, backdrop_and_wait, looks_row, with_words}
use Rattle.laws_of_threads.specs.Instances.{Hosts}
use Rattle.laws_of_threads.specs.Positions.{KeptWell, Brings, StartFits, ControlFits}
use Rattle.laws_of_threads.specs.Promises.{IsLive}
use Rattle.laws_of_threads.proofs.Numbers.{each_append}
use Rattle.laws_of_threads.proofs.Faces.{faces_same, Alike, changed_faces, layer_faces}
use Rattle.laws_of_threads.proofs.RowFits.{RowFits, Noted, CloneFits, goes_then, goes_any}
use Rattle.laws_of_threads.proofs.Calm.{Calm, updated_calm, map_last}

waits_by : (b : Bool) (clock next : ℕ) (k : Kind) (q : Option Procedure) (serials : List ℕ) → Keeps clock k (Started serials) → KeptWell next (Started serials)
    → ControlFits clock next k q (Started serials) (if b then Yield else YieldTick)
waits_by true clock next k q serials h l = (h, refl, l)
waits_by false clock next k q serials h l = (h, refl, l)

pub wait_fits : (clock next : ℕ) (k : Kind) (q : Option Procedure) (serials : List ℕ) (ts : List Listed) → Keeps clock k (Started serials) → KeptWell next (Started serials) → ControlFits clock next k q (Started serials) (wait_for ts)
wait_fits clock next k q serials [] h l = tt
wait_fits clock next k q serials (t ∷ ts) h l = waits_by (list_any (λ x. is_running x.status) (t ∷ ts)) clock next k q serials h l

noted_by : (b : Bool) (here thread : ℕ) (serials : List ℕ) (d : Devices) → Noted here thread (if b then Yield else YieldTick) (Started serials) d d
noted_by true here thread serials d = (refl, refl, (λ is h. h), (λ is h. h))
noted_by false here thread serials d = (refl, refl, (λ is h. h), (λ is h. h))

pub started_noted : (here thread : ℕ) (serials : List ℕ) (ts : List Listed) (d : Devices) → Noted here thread (wait_for ts) (Started serials) d d
started_noted here thread serials [] d = (refl, refl, (λ is h. h), (λ is h. h))
started_noted here thread serials (t ∷ ts) d = noted_by (list_any (λ x. is_running x.status) (t ∷ ts)) here thread serials d

clone_by : (b : Bool) (records : Records) (here : ℕ) → CloneFits records here (if b then Yield else YieldTick)
clone_by true records here = tt
clone_by false records here = tt

pub started_clone : (records : Records) (here : ℕ) (ts : List Listed) → CloneFits records here (wait_for ts)
started_clone records here [] = tt
started_clone records here (t ∷ ts) = clone_by (list_any (λ x. is_running x.status) (t ∷ ts)) records here

module _ (records : Records) (here thread next : ℕ) (q : Option Procedure) where
  abbrev pub LooksFits : Kind → LooksParts → Row LooksParts → Type 0
  LooksFits k p r = RowFits records here thread next k q p.scene r.parts.scene r.context r.control

  same_fits : (k : Kind) (redraw : Bool) (p : LooksParts) → LooksFits k p (goes_on redraw p)
  same_fits k redraw p = record { faces = faces_same p.scene.targets; clock = refl; noted = (refl, refl, (λ is h. h), (λ is h. h)); control = tt; clone = tt }

  changed_fits : (k : Kind) (redraw : Bool) (n : ℕ) (f : Instance → Instance) (p : LooksParts) → ((i : Instance) → Alike i (f i)) → LooksFits k p (goes_on redraw (changed f n p))
  changed_fits k redraw n f p alike = record { faces = changed_faces f alike n p.scene.targets; clock = refl; noted = (refl, refl, (λ is h. h), (λ is h. h)); control = tt; clone = tt }

  sprite_by : (b : Bool) (k : Kind) (p : LooksParts) (r : Row LooksParts) → LooksFits k p r → LooksFits k p (if b then goes_on false p else r)
  sprite_by true k p r h = same_fits k false p
  sprite_by false k p r h = h

  on_sprite_fits : (k : Kind) (p : LooksParts) (r : Row LooksParts) → LooksFits k p r → LooksFits k p (on_sprite records here p r)
  on_sprite_fits k p r h = sprite_by (is_on_stage (own here p) records) k p r h

  effect_fits : (k : Kind) (e : Option ℕ) (n : ℕ → Instance → Num) (p : LooksParts) → LooksFits k p (effect_set e n here p)
  effect_fits k None n p = same_fits k false p
  effect_fits k (Some e) n p = changed_fits k (own here p).visible here (λ i. with_effect e (n e i) i) p (λ i. record { number = refl; of = refl })

  layered_fits : (k : Kind) (t place : ℕ) (p : LooksParts) → Hosts here t p.scene.targets → LooksFits k p (layered here place p)
  layered_fits k t place p h = record { faces = layer_faces here t place p.scene.targets h; clock = refl; noted = (refl, refl, (λ is h. h), (λ is h. h)); control = tt; clone = tt }

  costume_fits : (k : Kind) (o : Option ℕ) (p : LooksParts) → LooksFits k p (looks_by (option_map with_costume o) here p)
  costume_fits k None p = same_fits k false p
  costume_fits k (Some c) p = changed_fits k (own here p).visible here (with_costume c) p (λ i. record { number = refl; of = refl })

  said_fits : (k : Kind) (kind : Say) (a : Arguments) (p : LooksParts) → IfGoes (spoken kind a here p (shown_bubble here)) (LooksFits k p)
  said_fits k kind a p = goes_then (bubble_updated here kind (bubble_text (value_at (codes "MESSAGE") a)) p.scene) _ (Calm p.scene) (LooksFits k p) (updated_calm here kind _ p.scene)
      (λ s h. record { faces = h.faces; clock = h.clock; noted = h.quiet; control = tt; clone = tt })

  timed_fits : (k : Kind) (kind : Say) (secs : Num) (a : Arguments) (p : LooksParts) → k ≡ Speaks → IfGoes (spoken kind a here p (timed_bubble secs here thread)) (LooksFits k p)
  timed_fits k kind secs a p e = goes_then (bubble_updated here kind (bubble_text (value_at (codes "MESSAGE") a)) p.scene) _ (Calm p.scene) (LooksFits k p) (updated_calm here kind _ p.scene)
      (λ s h. record {
        faces = h.faces;
        clock = h.clock;
        noted = (h.quiet.0, map_last (λ t. t.thread) s.devices.timers _ ∙ ap (λ l. l ++ thread ∷ []) h.quiet.1, h.quiet.2, (λ is live k. each_append (λ t. IsLive is t.of) s.devices.timers (_ ∷ []) (h.quiet.3 is k) (live, tt)));
        control = (e, refl);
        clone = tt;
      })

  backdrop_fits : (k : Kind) (o : Option ℕ) (wait : Bool) (p : LooksParts) → StartFits wait k → LooksFits k p (backdrop_hats wait records (with_backdrop o records p))
  backdrop_fits k None wait p h = record { faces = faces_same p.scene.targets; clock = refl; noted = (refl, refl, (λ is h. h), (λ is h. h)); control = h; clone = tt }
  backdrop_fits k (Some c) wait p h = record { faces = changed_faces (with_costume c) (λ i. record { number = refl; of = refl }) (stage_number records) p.scene.targets; clock = refl; noted = (refl, refl, (λ is h. h), (λ is h. h)); control = h; clone = tt }

  switched_fits : (k : Kind) (wait : Bool) (v : Value) (p : LooksParts) → StartFits wait k → IfGoes (backdrop_switched wait v records p) (LooksFits k p)
  switched_fits k wait v p h = goes_any (switched_to true v records (own (stage_number records) p) p.words) _ (LooksFits k p) (λ d. backdrop_fits k d.value wait (with_words d.words p) h)

  waited_fits : (k : Kind) (serials : List ℕ) (ts : List Listed) (p : LooksParts) → Keeps p.scene.devices.clock k (Started serials) → KeptWell next (Started serials) → LooksFits k p (record { parts = p; context = Started serials; control = wait_for (among ts serials); redraw = false })
  waited_fits k serials ts p h l = record { faces = faces_same p.scene.targets; clock = refl; noted = started_noted here thread serials (among ts serials) p.scene.devices; control = wait_fits p.scene.devices.clock next k q serials (among ts serials) h l; clone = started_clone records here (among ts serials) }

  and_wait_fits : (k : Kind) (c : Context) (v : Value) (ts : List Listed) (p : LooksParts) → k ≡ Starts → Brings p.scene.devices.clock k c → KeptWell next c → IfGoes (backdrop_and_wait c v records ts p) (LooksFits k p)
  and_wait_fits k (Started serials) v ts p e h l = waited_fits k serials ts p h l
  and_wait_fits k c v ts p e h l = switched_fits k true v p e

  pub looks_fits : (ts : List Listed) (op : Opcode) (a : Arguments) (c : Context) (t : ℕ) (p : LooksParts) → Hosts here t p.scene.targets → Brings p.scene.devices.clock (kind op) c → KeptWell next c
      → IfGoes (looks_row records ts op a here thread c p) (LooksFits (kind op) p)
  looks_fits ts LooksSay a c t p g h l = said_fits (kind LooksSay) say.Say a p
  looks_fits ts LooksThink a c t p g h l = said_fits (kind LooksThink) say.Think a p
  looks_fits ts LooksSayForSecs a c t p g h l = timed_fits Speaks say.Say (number_at (codes "SECS") a) a p refl
  looks_fits ts LooksThinkForSecs a c t p g h l = timed_fits Speaks say.Think (number_at (codes "SECS") a) a p refl
  looks_fits ts LooksSwitchCostumeTo a c t p g h l = goes_any (switched_to false (value_at (codes "COSTUME") a) records (own here p) p.words) _ (LooksFits (kind LooksSwitchCostumeTo) p) (λ d. costume_fits (kind LooksSwitchCostumeTo) d.value (with_words d.words p))
  looks_fits ts LooksNextCostume a c t p g h l = changed_fits (kind LooksNextCostume) (own here p).visible here (next_costume records) p (λ i. record { number = refl; of = refl })
  looks_fits ts LooksSwitchBackdropTo a c t p g h l = switched_fits (kind LooksSwitchBackdropTo) false (value_at (codes "BACKDROP") a) p tt
  looks_fits ts LooksSwitchBackdropToAndWait a c t p g h l = and_wait_fits Starts c (value_at (codes "BACKDROP") a) ts p refl h l
  looks_fits ts LooksNextBackdrop a c t p g h l = record { faces = changed_faces (next_costume records) (λ i. record { number = refl; of = refl }) (stage_number records) p.scene.targets; clock = refl; noted = (refl, refl, (λ is h. h), (λ is h. h)); control = tt; clone = tt }
  looks_fits ts LooksChangeSizeBy a c t p g h l = on_sprite_fits (kind LooksChangeSizeBy) p _ (changed_fits (kind LooksChangeSizeBy) (own here p).visible here (λ i. with_size (add i.size (number_at (codes "CHANGE") a)) i) p (λ i. record { number = refl; of = refl }))
  looks_fits ts LooksSetSizeTo a c t p g h l = on_sprite_fits (kind LooksSetSizeTo) p _ (changed_fits (kind LooksSetSizeTo) (own here p).visible here (with_size (number_at (codes "SIZE") a)) p (λ i. record { number = refl; of = refl }))
  looks_fits ts LooksChangeEffectBy a c t p g h l = effect_fits (kind LooksChangeEffectBy) (effect_named (field_at (codes "EFFECT") a)) (λ k i. add (slice_index_or i.effects k zero_number) (number_at (codes "CHANGE") a)) p
  looks_fits ts LooksSetEffectTo a c t p g h l = effect_fits (kind LooksSetEffectTo) (effect_named (field_at (codes "EFFECT") a)) (λ k i. number_at (codes "VALUE") a) p
  looks_fits ts LooksClearGraphicEffects a c t p g h l = changed_fits (kind LooksClearGraphicEffects) (own here p).visible here (λ i. record i { effects = no_effects }) p (λ i. record { number = refl; of = refl })
  looks_fits ts LooksShow a c t p g h l = on_sprite_fits (kind LooksShow) p _ (changed_fits (kind LooksShow) true here (λ i. record i { visible = true }) p (λ i. record { number = refl; of = refl }))
  looks_fits ts LooksHide a c t p g h l = on_sprite_fits (kind LooksHide) p _ (changed_fits (kind LooksHide) true here (λ i. record i { visible = false }) p (λ i. record { number = refl; of = refl }))
  looks_fits ts LooksGoToFrontBack a c t p g h l = on_sprite_fits (kind LooksGoToFrontBack) p _ (layered_fits (kind LooksGoToFrontBack) t _ p g)
  looks_fits ts LooksGoForwardBackwardLayers a c t p g h l = on_sprite_fits (kind LooksGoForwardBackwardLayers) p _ (layered_fits (kind LooksGoForwardBackwardLayers) t _ p g)
  looks_fits ts op a c t p g h l = same_fits (kind op) false p
