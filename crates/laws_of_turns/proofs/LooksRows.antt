-- The rows of looks keep instances within the limit.
use Rattle.std.proofs.Common.{ℕ, Bool, true, false, List, [], ◌∷◌, Option, Some, None, is_some}
use Rattle.std.specs.Prelude.{pos, codes, option_map, slice_index_or, remove, IfSome}
use Rattle.std.specs.List.{list_any}
use Rattle.script_words.specs.declared.stops.CounterKind.TheVariants as counter
use Rattle.opcode_table.specs.declared.opcode.Opcode.{Opcode}
use Rattle.opcode_table.specs.declared.opcode.Opcode.TheVariants.{LooksSay, LooksThink, LooksSayForSecs, LooksThinkForSecs, LooksSwitchCostumeTo, LooksNextCostume, LooksSwitchBackdropTo, LooksSwitchBackdropToAndWait, LooksNextBackdrop, LooksChangeSizeBy, LooksSetSizeTo, LooksChangeEffectBy, LooksSetEffectTo, LooksClearGraphicEffects, LooksShow, LooksHide, LooksGoToFrontBack, LooksGoForwardBackwardLayers}
use Rattle.scratch_number.specs.declared.number.Num.{Num}
use Rattle.scratch_number.specs.Number.{IsWithin}
use Rattle.scratch_number.specs.Arithmetic.{add}
use Rattle.scratch_values.specs.declared.value.Value.{Value}
use Rattle.scratch_values.specs.Casts.{zero_number}
use Rattle.scratch_values.specs.Named.{Arguments}
use Rattle.machine_spec.specs.Outcome.{Goes, IfGoes}
use Rattle.machine_spec.specs.Program.{Records, stage_number}
use Rattle.machine_spec.specs.declared.bubble.Say.{Say}
use Rattle.machine_spec.specs.declared.bubble.Say.TheVariants as say
use Rattle.machine_spec.specs.declared.instance.Instance.{Instance}
use Rattle.machine_spec.specs.declared.threads.Context.{Context}
use Rattle.machine_spec.specs.declared.threads.Context.TheVariants.{Fresh, Repeat, Wait, Glide, Started, Asked, Spoken, Called}
use Rattle.machine_spec.specs.Threads.{Listed, is_running, among, wait_for}
use Rattle.machine_spec.specs.declared.threads.Control.TheVariants.{Yield, YieldTick}
use Rattle.machine_spec.specs.Stores.{live, instance_at, is_on_stage, less}
use Rattle.machine_spec.specs.Parts.{Scene, LooksParts, bubble_set, bubble_updated}
use Rattle.machine_spec.specs.View.{Row, value_at, number_at, field_at}
use Rattle.machine_spec.specs.Numbers.{whole}
use Rattle.machine_spec.specs.Texts.{bubble_text}
use Rattle.machine_spec.specs.Effects.{no_effects}
use Rattle.machine_spec.specs.Looks.{effect_named, with_effect, size_kept, with_size, layer, at_layer, layer_after, forward_by, front_or_back, last_layer, goes_on, with_targets, with_words, own, changed, looks, looks_by, redrawn, on_sprite, effect_set, layered, spoken, shown_bubble, timed_bubble, with_costume, next_costume, switched_to, costume_switched, backdrop_hats, with_backdrop, backdrop_switched, backdrop_and_wait, looks_row}
use Rattle.laws_of_threads.specs.Lists.{Each}
use Rattle.laws_of_threads.proofs.RowFits.{goes_then, goes_any}
use Rattle.laws_of_threads.proofs.Calm.{number_goes}
use Rattle.laws_of_turns.specs.Within.{IsInstanceWithin}
use Rattle.laws_of_turns.proofs.Numbers.{if_within, add_within, zero_within}
use Rattle.laws_of_turns.proofs.Lists.{if_has, each_insert, each_remove}
use Rattle.laws_of_turns.proofs.Values.{AreArgumentsWithin, number_at_within, instance_within, whole_within}
use Rattle.laws_of_turns.proofs.Rows.{IsControlWithin, IsRowWithin, KeepsInstance, if_goes, on_instance_within}

abbrev pub IsSceneWithin : Scene → Type 0
IsSceneWithin s = Each IsInstanceWithin s.targets

-- Bubbles

set_within : (n : ℕ) (kind : Say) (text : List ℕ) (s : Scene) → IsSceneWithin s → IsSceneWithin (bubble_set n kind text s)
set_within n kind text s h = on_instance_within n (λ i. record i { bubble = record { kind = kind; text = text; usage = s.devices.usage } }) s.targets
    (λ i k. record { x = k.x; y = k.y; direction = k.direction; size = k.size }) h

pub updated_within : (n : ℕ) (kind : Say) (text : List ℕ) (s : Scene) → IsSceneWithin s → IfGoes (bubble_updated n kind text s) IsSceneWithin
updated_within n kind text s h = if_goes (is_some (live n s.targets)) _ _ IsSceneWithin
    (number_goes counter.Bubble s.devices.usage (Goes (bubble_set n kind text s)) IsSceneWithin (set_within n kind text s h)) h

-- waiting says no parameters
pub wait_within : (ts : List Listed) → IsControlWithin (wait_for ts)
wait_within [] = tt
wait_within (t ∷ ts) = if_has IsControlWithin (list_any (λ x. is_running x.status) (t ∷ ts)) Yield YieldTick tt tt

-- Instances

abbrev pub IsLooksWithin : LooksParts → Type 0
IsLooksWithin p = IsSceneWithin p.scene

abbrev IsLooksRow : Row LooksParts → Type 0
IsLooksRow x = IsRowWithin IsLooksWithin x

size_within : (n : Num) → IsWithin n → IsWithin (size_kept n)
size_within n h = if_within (less n zero_number) _ _ zero_within (if_within (less (whole (pos 10000)) n) _ _ (whole_within (pos 10000)) h)

size_keeps : (n : Num) (i : Instance) → IsWithin n → IsInstanceWithin i → IsInstanceWithin (with_size n i)
size_keeps n i g h = record { x = h.x; y = h.y; direction = h.direction; size = size_within n g }

goes_on_within : (redraw : Bool) (p : LooksParts) → IsLooksWithin p → IsLooksRow (goes_on redraw p)
goes_on_within redraw p h = record { parts = h; context = tt; control = tt }

changed_within : (f : Instance → Instance) (here : ℕ) (p : LooksParts) → KeepsInstance f → IsLooksWithin p → IsLooksWithin (changed f here p)
changed_within f here p g h = on_instance_within here f p.scene.targets g h

looks_within : (f : Instance → Instance) (here : ℕ) (p : LooksParts) → KeepsInstance f → IsLooksWithin p → IsLooksRow (looks f here p)
looks_within f here p g h = goes_on_within (own here p).visible (changed f here p) (changed_within f here p g h)

looks_by_within : (o : Option (Instance → Instance)) (here : ℕ) (p : LooksParts) → IfSome o KeepsInstance → IsLooksWithin p → IsLooksRow (looks_by o here p)
looks_by_within None here p g h = goes_on_within false p h
looks_by_within (Some f) here p g h = looks_within f here p g h

redrawn_within : (f : Instance → Instance) (here : ℕ) (p : LooksParts) → KeepsInstance f → IsLooksWithin p → IsLooksRow (redrawn f here p)
redrawn_within f here p g h = goes_on_within true (changed f here p) (changed_within f here p g h)

on_sprite_within : (records : Records) (here : ℕ) (p : LooksParts) (row : Row LooksParts) → IsLooksWithin p → IsLooksRow row → IsLooksRow (on_sprite records here p row)
on_sprite_within records here p row h g = if_has IsLooksRow (is_on_stage (own here p) records) (goes_on false p) row (goes_on_within false p h) g

effect_keeps : (o : Option ℕ) (n : ℕ → Instance → Num) → IfSome (option_map (λ k i. with_effect k (n k i) i) o) KeepsInstance
effect_keeps None n = tt
effect_keeps (Some k) n = λ i h. record { x = h.x; y = h.y; direction = h.direction; size = h.size }

effect_within : (o : Option ℕ) (n : ℕ → Instance → Num) (here : ℕ) (p : LooksParts) → IsLooksWithin p → IsLooksRow (effect_set o n here p)
effect_within o n here p h = looks_by_within (option_map (λ k i. with_effect k (n k i) i) o) here p (effect_keeps o n) h

layered_within : (here place : ℕ) (p : LooksParts) → IsLooksWithin p → IsLooksRow (layered here place p)
layered_within here place p h = goes_on_within true (with_targets (at_layer here place p.scene.targets) p)
    (each_insert IsInstanceWithin (remove p.scene.targets (layer here p.scene.targets)) place (instance_at here p.scene.targets)
    (each_remove IsInstanceWithin p.scene.targets (layer here p.scene.targets) h) (instance_within here p.scene.targets h))

spoken_within : (kind : Say) (a : Arguments) (here : ℕ) (p : LooksParts) (next : LooksParts → Row LooksParts) → ((q : LooksParts) → IsLooksWithin q → IsLooksRow (next q)) → IsLooksWithin p → IfGoes (spoken kind a here p next) IsLooksRow
spoken_within kind a here p next g h = goes_then (bubble_updated here kind (bubble_text (value_at (codes "MESSAGE") a)) p.scene) _ IsSceneWithin IsLooksRow
    (updated_within here kind (bubble_text (value_at (codes "MESSAGE") a)) p.scene h) (λ s k. g (record p { scene = s }) k)

timed_within : (secs : Num) (here thread : ℕ) (p : LooksParts) → IsLooksWithin p → IsLooksRow (timed_bubble secs here thread p)
timed_within secs here thread p h = record { parts = h; context = tt; control = tt }

-- Costumes and backdrops

costume_keeps : (k : ℕ) → KeepsInstance (with_costume k)
costume_keeps k i h = record { x = h.x; y = h.y; direction = h.direction; size = h.size }

next_keeps : (records : Records) → KeepsInstance (next_costume records)
next_keeps records i h = record { x = h.x; y = h.y; direction = h.direction; size = h.size }

some_costume_keeps : (o : Option ℕ) → IfSome (option_map with_costume o) KeepsInstance
some_costume_keeps None = tt
some_costume_keeps (Some k) = costume_keeps k

hats_within : (wait : Bool) (records : Records) (p : LooksParts) → IsLooksWithin p → IsLooksRow (backdrop_hats wait records p)
hats_within wait records p h = record { parts = h; context = tt; control = tt }

backdrop_within : (o : Option ℕ) (records : Records) (p : LooksParts) → IsLooksWithin p → IsLooksWithin (with_backdrop o records p)
backdrop_within None records p h = h
backdrop_within (Some k) records p h = changed_within (with_costume k) (stage_number records) p (costume_keeps k) h

module _ (records : Records) (threads : List Listed) (here thread : ℕ) where
  costume_within : (v : Value) (p : LooksParts) → IsLooksWithin p → IfGoes (costume_switched v records here p) IsLooksRow
  costume_within v p h = goes_any (switched_to false v records (own here p) p.words) _ IsLooksRow
      (λ d. looks_by_within (option_map with_costume d.value) here (with_words d.words p) (some_costume_keeps d.value) h)

  switched_within : (wait : Bool) (v : Value) (p : LooksParts) → IsLooksWithin p → IfGoes (backdrop_switched wait v records p) IsLooksRow
  switched_within wait v p h = goes_any (switched_to true v records (own (stage_number records) p) p.words) _ IsLooksRow
      (λ d. hats_within wait records (with_backdrop d.value records (with_words d.words p)) (backdrop_within d.value records (with_words d.words p) h))

  and_wait_within : (c : Context) (v : Value) (p : LooksParts) → IsLooksWithin p → IfGoes (backdrop_and_wait c v records threads p) IsLooksRow
  and_wait_within (Started serials) v p h = record { parts = h; context = tt; control = wait_within (among threads serials) }
  and_wait_within Fresh v p h = switched_within true v p h
  and_wait_within (Repeat n) v p h = switched_within true v p h
  and_wait_within (Wait s) v p h = switched_within true v p h
  and_wait_within (Glide s) v p h = switched_within true v p h
  and_wait_within Asked v p h = switched_within true v p h
  and_wait_within Spoken v p h = switched_within true v p h
  and_wait_within Called v p h = switched_within true v p h

  pub looks_row_within : (op : Opcode) (a : Arguments) (c : Context) (p : LooksParts) → AreArgumentsWithin a → IsLooksWithin p → IfGoes (looks_row records threads op a here thread c p) IsLooksRow
  looks_row_within LooksSay a c p g h = spoken_within say.Say a here p (shown_bubble here) (λ q k. goes_on_within (own here q).visible q k) h
  looks_row_within LooksThink a c p g h = spoken_within say.Think a here p (shown_bubble here) (λ q k. goes_on_within (own here q).visible q k) h
  looks_row_within LooksSayForSecs a c p g h = spoken_within say.Say a here p (timed_bubble (number_at (codes "SECS") a) here thread) (timed_within (number_at (codes "SECS") a) here thread) h
  looks_row_within LooksThinkForSecs a c p g h = spoken_within say.Think a here p (timed_bubble (number_at (codes "SECS") a) here thread) (timed_within (number_at (codes "SECS") a) here thread) h
  looks_row_within LooksSwitchCostumeTo a c p g h = costume_within (value_at (codes "COSTUME") a) p h
  looks_row_within LooksNextCostume a c p g h = looks_within (next_costume records) here p (next_keeps records) h
  looks_row_within LooksSwitchBackdropTo a c p g h = switched_within false (value_at (codes "BACKDROP") a) p h
  looks_row_within LooksSwitchBackdropToAndWait a c p g h = and_wait_within c (value_at (codes "BACKDROP") a) p h
  looks_row_within LooksNextBackdrop a c p g h = hats_within false records (changed (next_costume records) (stage_number records) p) (changed_within (next_costume records) (stage_number records) p (next_keeps records) h)
  looks_row_within LooksChangeSizeBy a c p g h = on_sprite_within records here p _ h (looks_within (λ i. with_size (add i.size (number_at (codes "CHANGE") a)) i) here p (λ i k. size_keeps (add i.size (number_at (codes "CHANGE") a)) i (add_within i.size (number_at (codes "CHANGE") a)) k) h)
  looks_row_within LooksSetSizeTo a c p g h = on_sprite_within records here p _ h (looks_within (with_size (number_at (codes "SIZE") a)) here p (λ i k. size_keeps (number_at (codes "SIZE") a) i (number_at_within (codes "SIZE") a g) k) h)
  looks_row_within LooksChangeEffectBy a c p g h = effect_within (effect_named (field_at (codes "EFFECT") a)) (λ k i. add (slice_index_or i.effects k zero_number) (number_at (codes "CHANGE") a)) here p h
  looks_row_within LooksSetEffectTo a c p g h = effect_within (effect_named (field_at (codes "EFFECT") a)) (λ k i. number_at (codes "VALUE") a) here p h
  looks_row_within LooksClearGraphicEffects a c p g h = looks_within (λ i. record i { effects = no_effects }) here p (λ i k. record { x = k.x; y = k.y; direction = k.direction; size = k.size }) h
  looks_row_within LooksShow a c p g h = on_sprite_within records here p _ h (redrawn_within (λ i. record i { visible = true }) here p (λ i k. record { x = k.x; y = k.y; direction = k.direction; size = k.size }) h)
  looks_row_within LooksHide a c p g h = on_sprite_within records here p _ h (redrawn_within (λ i. record i { visible = false }) here p (λ i k. record { x = k.x; y = k.y; direction = k.direction; size = k.size }) h)
  looks_row_within LooksGoToFrontBack a c p g h = on_sprite_within records here p _ h (layered_within here (front_or_back (field_at (codes "FRONT_BACK") a) (last_layer p)) p h)
  looks_row_within LooksGoForwardBackwardLayers a c p g h = on_sprite_within records here p _ h
      (layered_within here (layer_after (forward_by (number_at (codes "NUM") a) (field_at (codes "FORWARD_BACKWARD") a)) (layer here p.scene.targets) (last_layer p)) p h)
  looks_row_within op a c p g h = goes_on_within false p h
