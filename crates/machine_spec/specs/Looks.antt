-- The rows of looks (after scratch-vm, blocks/scratch3_looks.js). The commands of sound do nothing: there is no sound.
use Rattle.std.specs.Prelude.{ℕ, ◌+◌, ◌-◌, ◌%◌, ◌==◌, min, max, ℤ, pos, negsuc, neg_ℤ, ◌+ℤ◌, Bool, true, false, if◌then◌else◌, List, [], ◌∷◌, length, bytes_eq, codes, position, insert, remove, slice_index_or, slice_set, Option, None, Some, option_map, ◌++◌}
use Rattle.std.specs.List.{position_or_len}
use Rattle.opcode_table.specs.declared.opcode.Opcode.{Opcode}
use Rattle.opcode_table.specs.declared.opcode.Opcode.TheVariants.{LooksSay, LooksThink, LooksSayForSecs, LooksThinkForSecs, LooksSwitchCostumeTo, LooksNextCostume, LooksSwitchBackdropTo, LooksSwitchBackdropToAndWait, LooksNextBackdrop, LooksChangeSizeBy, LooksSetSizeTo, LooksChangeEffectBy, LooksSetEffectTo, LooksClearGraphicEffects, LooksShow, LooksHide, LooksGoToFrontBack, LooksGoForwardBackwardLayers}
use Rattle.scratch_number.specs.declared.number.Num.{Num}
use Rattle.scratch_number.specs.declared.number.Num.TheVariants.{Fixed, Inf, NegInf, Nan}
use Rattle.scratch_number.specs.Number.{negated}
use Rattle.scratch_number.specs.Arithmetic.{add}
use Rattle.scratch_values.specs.declared.value.Value.{Value}
use Rattle.scratch_values.specs.Casts.{zero_number}
use Rattle.scratch_values.specs.Folding.{folded}
use Rattle.scratch_values.specs.Named.{Arguments}
use Rattle.machine_spec.specs.Outcome.{Outcome, Goes, then_do}
use Rattle.machine_spec.specs.Words.{Words, Drawn}
use Rattle.machine_spec.specs.Program.{Records, stage_number}
use Rattle.machine_spec.specs.Threads.{Context, Fresh, Started, Spoken, Backdrop, Next, Promise, Start, Listed, among, wait_for}
use Rattle.machine_spec.specs.Stores.{Instance, Say, instance_at, on_instance, is_on_stage, record_of, seconds, from_zero}
use Rattle.machine_spec.specs.declared.bubble.Say.TheVariants as say
use Rattle.machine_spec.specs.View.{Row, value_at, number_at, field_at}
use Rattle.machine_spec.specs.Parts.{LooksParts, bubble_updated}
use Rattle.machine_spec.specs.Numbers.{whole, without_fraction, kept_in}
use Rattle.machine_spec.specs.Effects.{effect_names, no_effects}
use Rattle.machine_spec.specs.Texts.{bubble_text}
use Rattle.machine_spec.specs.Costume.{switched}
use Rattle.machine_spec.specs.Sensing.{costume_name}

-- Effects, size

-- the place of the effect of a folded name
abbrev pub effect_named : List ℕ → Option ℕ
effect_named t = position (bytes_eq (folded t)) effect_names

-- ghost, the seventh, is kept in 0 to 100, and brightness, the sixth, in −100 to 100
abbrev pub effect_kept : ℕ → Num → Num
effect_kept e n =
    if e == 6 then kept_in zero_number (whole (pos 100)) n
    else (if e == 5 then kept_in (whole (neg_ℤ (pos 100))) (whole (pos 100)) n
    else n)

abbrev pub with_effect : ℕ → Num → Instance → Instance
with_effect e n i = record i { effects = slice_set i.effects e (effect_kept e n) }

-- a size is kept in 0 to 10000
abbrev pub size_kept : Num → Num
size_kept n = kept_in zero_number (whole (pos 10000)) n

abbrev pub with_size : Num → Instance → Instance
with_size n i = record i { size = size_kept n }

-- Layers: the places of the executable order

-- the place of an instance, and the list with the instance at another place
abbrev pub layer : ℕ → List Instance → ℕ
layer n targets = position_or_len (λ i. i.number == n) targets

abbrev pub at_layer : ℕ → ℕ → List Instance → List Instance
at_layer n place targets = insert (remove targets (layer n targets)) place (instance_at n targets)

-- place + k, kept in 1 to last; an infinite number goes to that end
abbrev pub layer_kept : ℤ → ℕ → ℕ
layer_kept (pos n) last = min (max n 1) last
layer_kept (negsuc n) last = 1

abbrev pub layer_after : Num → ℕ → ℕ → ℕ
layer_after (Fixed z) place last = layer_kept (pos place +ℤ without_fraction z) last
layer_after Inf place last = last
layer_after NegInf place last = 1
layer_after Nan place last = place

abbrev pub forward_by : Num → List ℕ → Num
forward_by n t = if bytes_eq t (codes "forward") then n else negated n

abbrev pub front_or_back : List ℕ → ℕ → ℕ
front_or_back t last = if bytes_eq t (codes "front") then last else 1

abbrev pub last_layer : LooksParts → ℕ
last_layer p = length p.scene.targets - 1

-- What a row changes

abbrev pub goes_on : (redraw : Bool) → LooksParts → Row LooksParts
goes_on redraw p = record { parts = p; context = Fresh; control = Next; redraw = redraw }

abbrev pub with_targets : List Instance → LooksParts → LooksParts
with_targets targets p = record p { scene = record p.scene { targets = targets } }

abbrev pub with_words : Words → LooksParts → LooksParts
with_words w p = record p { words = w }

abbrev pub own : ℕ → LooksParts → Instance
own here p = instance_at here p.scene.targets

abbrev pub changed : (Instance → Instance) → ℕ → LooksParts → LooksParts
changed f here p = with_targets (on_instance here f p.scene.targets) p

-- the own instance is changed, and a redraw is requested where it is visible, as the stage always is
abbrev pub looks : (Instance → Instance) → ℕ → LooksParts → Row LooksParts
looks f here p = goes_on (own here p).visible (changed f here p)

abbrev pub looks_by : Option (Instance → Instance) → ℕ → LooksParts → Row LooksParts
looks_by None here p = goes_on false p
looks_by (Some f) here p = looks f here p

-- the own instance is changed, and a redraw is requested
abbrev pub redrawn : (Instance → Instance) → ℕ → LooksParts → Row LooksParts
redrawn f here p = goes_on true (changed f here p)

-- on the stage nothing
abbrev pub on_sprite : Records → ℕ → LooksParts → Row LooksParts → Row LooksParts
on_sprite records here p row = if is_on_stage (own here p) records then goes_on false p else row

abbrev pub effect_set : Option ℕ → (ℕ → Instance → Num) → ℕ → LooksParts → Row LooksParts
effect_set e n here p = looks_by (option_map (λ k i. with_effect k (n k i) i) e) here p

abbrev pub layered : ℕ → ℕ → LooksParts → Row LooksParts
layered here place p = goes_on true (with_targets (at_layer here place p.scene.targets) p)

-- Bubbles

-- say and think: one update of the bubble
abbrev pub spoken : Say → Arguments → ℕ → LooksParts → (LooksParts → Row LooksParts) → Outcome (Row LooksParts)
spoken kind a here p next =
    then_do (bubble_updated here kind (bubble_text (value_at (codes "MESSAGE") a)) p.scene) (λ s. Goes (next (record p { scene = s })))

abbrev pub shown_bubble : ℕ → LooksParts → Row LooksParts
shown_bubble here p = goes_on (own here p).visible p

-- a timer of the bubble that was just made; one that lasts for ever is never due
abbrev pub timed : Num → ℕ → ℕ → LooksParts → LooksParts
timed secs here thread p = record p {
  scene = record p.scene {
    devices = record p.scene.devices {
      timers = p.scene.devices.timers ++ record { due = add (seconds p.scene.devices.clock) (from_zero secs); of = here; thread = thread; usage = (own here p).bubble.usage } ∷ [];
    };
  };
}

abbrev pub timed_bubble : Num → ℕ → ℕ → LooksParts → Row LooksParts
timed_bubble secs here thread p = record { parts = timed secs here thread p; context = Spoken; control = Promise; redraw = (own here p).visible }

-- Costumes and backdrops

abbrev pub with_costume : ℕ → Instance → Instance
with_costume k i = record i { costume = k }

abbrev pub next_costume : Records → Instance → Instance
next_costume records i = record i { costume = (i.costume + 1) % length (record_of i records).costumes }

-- the costume rule on an instance
abbrev pub switched_to : (backdrop : Bool) → Value → Records → Instance → Words → Outcome (Drawn (Option ℕ))
switched_to backdrop v records i w = switched backdrop (record_of i records).costumes i.costume v w

abbrev pub costume_switched : Value → Records → ℕ → LooksParts → Outcome (Row LooksParts)
costume_switched v records here p =
    then_do (switched_to false v records (own here p) p.words) (λ d. Goes (looks_by (option_map with_costume d.value) here (with_words d.words p)))

-- a backdrop was chosen: a redraw, and the hats for the present one
abbrev pub backdrop_hats : (wait : Bool) → Records → LooksParts → Row LooksParts
backdrop_hats wait records p = record {
  parts = p;
  context = Fresh;
  control = Start (Backdrop (costume_name records (own (stage_number records) p))) wait;
  redraw = true;
}

abbrev pub with_backdrop : Option ℕ → Records → LooksParts → LooksParts
with_backdrop None records p = p
with_backdrop (Some k) records p = changed (with_costume k) (stage_number records) p

abbrev pub backdrop_switched : (wait : Bool) → Value → Records → LooksParts → Outcome (Row LooksParts)
backdrop_switched wait v records p =
    then_do (switched_to true v records (own (stage_number records) p) p.words) (λ d.
    Goes (backdrop_hats wait records (with_backdrop d.value records (with_words d.words p))))

-- the first execution switches, the later ones wait for the threads that it started
abbrev pub backdrop_and_wait : Context → Value → Records → List Listed → LooksParts → Outcome (Row LooksParts)
backdrop_and_wait (Started serials) v records threads p = Goes (record { parts = p; context = Started serials; control = wait_for (among threads serials); redraw = false })
backdrop_and_wait c v records threads p = backdrop_switched true v records p

-- The rows; `thread` is the running thread's serial

abbrev pub looks_row : Records → List Listed → Opcode → Arguments → (here thread : ℕ) → Context → LooksParts → Outcome (Row LooksParts)
looks_row records threads LooksSay a here thread c p = spoken say.Say a here p (shown_bubble here)
looks_row records threads LooksThink a here thread c p = spoken say.Think a here p (shown_bubble here)
looks_row records threads LooksSayForSecs a here thread c p = spoken say.Say a here p (timed_bubble (number_at (codes "SECS") a) here thread)
looks_row records threads LooksThinkForSecs a here thread c p = spoken say.Think a here p (timed_bubble (number_at (codes "SECS") a) here thread)
looks_row records threads LooksSwitchCostumeTo a here thread c p = costume_switched (value_at (codes "COSTUME") a) records here p
looks_row records threads LooksNextCostume a here thread c p = Goes (looks (next_costume records) here p)
looks_row records threads LooksSwitchBackdropTo a here thread c p = backdrop_switched false (value_at (codes "BACKDROP") a) records p
looks_row records threads LooksSwitchBackdropToAndWait a here thread c p = backdrop_and_wait c (value_at (codes "BACKDROP") a) records threads p
looks_row records threads LooksNextBackdrop a here thread c p = Goes (backdrop_hats false records (changed (next_costume records) (stage_number records) p))
looks_row records threads LooksChangeSizeBy a here thread c p = Goes (on_sprite records here p (looks (λ i. with_size (add i.size (number_at (codes "CHANGE") a)) i) here p))
looks_row records threads LooksSetSizeTo a here thread c p = Goes (on_sprite records here p (looks (with_size (number_at (codes "SIZE") a)) here p))
looks_row records threads LooksChangeEffectBy a here thread c p =
    Goes (effect_set (effect_named (field_at (codes "EFFECT") a)) (λ k i. add (slice_index_or i.effects k zero_number) (number_at (codes "CHANGE") a)) here p)
looks_row records threads LooksSetEffectTo a here thread c p = Goes (effect_set (effect_named (field_at (codes "EFFECT") a)) (λ k i. number_at (codes "VALUE") a) here p)
looks_row records threads LooksClearGraphicEffects a here thread c p = Goes (looks (λ i. record i { effects = no_effects }) here p)
looks_row records threads LooksShow a here thread c p = Goes (on_sprite records here p (redrawn (λ i. record i { visible = true }) here p))
looks_row records threads LooksHide a here thread c p = Goes (on_sprite records here p (redrawn (λ i. record i { visible = false }) here p))
looks_row records threads LooksGoToFrontBack a here thread c p =
    Goes (on_sprite records here p (layered here (front_or_back (field_at (codes "FRONT_BACK") a) (last_layer p)) p))
looks_row records threads LooksGoForwardBackwardLayers a here thread c p =
    Goes (on_sprite records here p (layered here (layer_after (forward_by (number_at (codes "NUM") a) (field_at (codes "FORWARD_BACKWARD") a)) (layer here p.scene.targets) (last_layer p)) p))
looks_row records threads op a here thread c p = Goes (goes_on false p)
