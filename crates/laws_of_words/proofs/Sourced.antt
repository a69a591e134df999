-- The words of a seed stay words of the seed where some are drawn.
use Rattle.std.proofs.Common.{◌≡◌, ℕ, zero, suc, ◌+◌, ◌*◌, ◌/◌, ◌%◌, ◌^◌, ◌==◌, ◌-◌, ◌&&◌, Bool, true, false, if◌then◌else◌, List, ◌∷◌, ◌++◌, length, Option, Some, None, option_map, refl, sym, ap, ◌∙◌, subst, arith, add-one, div-le_self}
use Rattle.std.specs.Prelude.{◌<◌, ◌≤◌, bit_or, bit_xor, codes, bytes_eq}
use Rattle.std.specs.Int.{w32, rotate_right}
use Rattle.std.proofs.lemmas.Nat.{or_lt}
use Rattle.rand_core.specs.Stream.{Stream, next_u32}
use Rattle.rand_core.specs.Steps.{steps_u32}
use Rattle.rand_core.proofs.StepsLemmas.{next_u32-stream_of}
use Rattle.rand_pcg.specs.Lcg.{Lcg, advance}
use Rattle.rand_pcg.specs.Pcg.{pcg32, output_xsh_rr, multiplier_64}
use Rattle.script_words.specs.Words.{answers, seeded, without}
use Rattle.script_words.proofs.WordsLemmas.{answers-advance}
use Rattle.script_words.specs.declared.stops.CounterKind.{CounterKind}
use Rattle.script_words.specs.declared.stops.CounterKind.TheVariants as counter
use Rattle.machine_spec.specs.Outcome.{Outcome, Spent, IfGoes, then_do, with_number, last_number}
use Rattle.machine_spec.specs.Words.{Words, Drawn, undrawn, made_of, draw, words_after}
use Rattle.opcode_table.specs.declared.groups.Group.{Group}
use Rattle.opcode_table.specs.declared.groups.Group.TheVariants.{Motion, Looks, Data, Control}
use Rattle.opcode_table.specs.declared.opcode.Opcode.{Opcode}
use Rattle.opcode_table.specs.declared.opcode.Opcode.TheVariants.{OperatorRandom, OperatorJoin, DataListContents, DataItemOfList, MotionGoTo, MotionGlideSecsToXY, MotionGlideTo, MotionPointTowards, MotionSetRotationStyle, LooksSay, LooksThink, LooksSayForSecs, LooksThinkForSecs, LooksSwitchCostumeTo, LooksSwitchBackdropTo, LooksSwitchBackdropToAndWait, LooksChangeSizeBy, LooksSetSizeTo, LooksChangeEffectBy, LooksSetEffectTo, LooksShow, LooksHide, LooksGoToFrontBack, LooksGoForwardBackwardLayers, DataDeleteOfList, DataInsertAtList, DataReplaceItemOfList}
use Rattle.opcode_table.specs.Kinds.{group}
use Rattle.scratch_number.specs.Number.{order}
use Rattle.scratch_number.specs.declared.number.Num.{Num}
use Rattle.scratch_number.specs.declared.number.Num.TheVariants.{Fixed}
use Rattle.scratch_values.specs.Casts as casts
use Rattle.scratch_values.specs.Index.{index, needs_word}
use Rattle.scratch_values.specs.Named.{Arguments}
use Rattle.scratch_values.specs.declared.index.Index.{Index}
use Rattle.scratch_values.specs.declared.value.Value.{Value}
use Rattle.scratch_values.specs.declared.value.Value.TheVariants.{Number}
use Rattle.std.specs.declared.cmp.Ordering.{Ordering}
use Rattle.std.specs.declared.cmp.Ordering.TheVariants.{Less, Equal, Greater}
use Rattle.machine_spec.specs.Costume.{Choice, Stays, To, Another, choice, chosen, switched, skipping}
use Rattle.machine_spec.specs.DataRows.{Named, at_index, data_by, named, data_row, items_named, deleted, inserted, replaced}
use Rattle.machine_spec.specs.Evaluate.{value, values}
use Rattle.machine_spec.specs.Looks.{looks_row, spoken, costume_switched, backdrop_switched, backdrop_and_wait, on_sprite, effect_set, looks_by, goes_on, own, switched_to, with_costume, with_backdrop, effect_named, shown_bubble, timed_bubble, looks}
use Rattle.machine_spec.specs.Looks as looking
use Rattle.machine_spec.specs.Motion.{Point, motion_row, sprite_row, random_point, point_named, pointed, moved_by, glide, glide_to, with_words, at_point, facing, direction_towards, style_named}
use Rattle.machine_spec.specs.Parts.{MotionParts, LooksParts, DataParts, bubble_updated}
use Rattle.machine_spec.specs.Program.{Program, Records, stage_number}
use Rattle.machine_spec.specs.Random.{looks_whole, between_bounds, picked, picked_by, pick_random, indexed}
use Rattle.machine_spec.specs.Reporters.{reported, items, item_at}
use Rattle.machine_spec.specs.Script.{Expression, Constant, Variable, Contents, Operator, Expressions, NoInput, AndInput, Command}
use Rattle.machine_spec.specs.Step.{row, row_by}
use Rattle.machine_spec.specs.Stores.{Devices, instance_at, is_on_stage, items_of, elapsed, less}
use Rattle.machine_spec.specs.ControlRows.{control_row}
use Rattle.machine_spec.specs.Stopping.{scene_of}
use Rattle.machine_spec.specs.Tasks.{Task, listed}
use Rattle.machine_spec.specs.Texts.{text_value, contents_text, bubble_text}
use Rattle.machine_spec.specs.declared.instance.Instance.{Instance}
use Rattle.machine_spec.specs.declared.threads.Context.{Context}
use Rattle.machine_spec.specs.declared.threads.Context.TheVariants.{Glide, Started}
use Rattle.machine_spec.specs.Threads.{Listed}
use Rattle.machine_spec.specs.View.{View, Row, value_at, text_at, number_at, field_at}
use Rattle.machine_spec.specs.World.{World}
use Rattle.laws_of_threads.proofs.RowFits.{goes_then, goes_any, goes_weaker}
use Rattle.laws_of_threads.proofs.Numbers.{equal_true, clash}
use Rattle.laws_of_words.specs.Words.{IsOfSeed}

-- One word

or_small : (n a k : ℕ) → n < 2 ^ 32 → bit_or (n / 2 ^ a) (k % 2 ^ 32) < 2 ^ 32
or_small n a k h =
    let less : n / 2 ^ a ≤ n = div-le_self n (2 ^ a) in
    or_lt 32 (n / 2 ^ a) (k % 2 ^ 32) (omega arith) (omega arith)

rotated_small : (n by : ℕ) → n < 2 ^ 32 → rotate_right w32 n by < 2 ^ 32
rotated_small n by h = or_small n (by % 32) (n * 2 ^ ((32 - by % 32) % 32)) h

output_small : (state : ℕ) → output_xsh_rr state < 2 ^ 32
output_small state = rotated_small (bit_xor (state / 2 ^ 18) state / 2 ^ 27 % 2 ^ 32) (state / 2 ^ 59) (omega arith)

pub first_of_seed : (seed : ℕ) → IsOfSeed seed (words_after seed 0)
first_of_seed seed = record { stream = refl; counted = omega arith }

abbrev drawn_from : ℕ → Stream → Words
drawn_from n s = record { stream = s; drawn = n }

pub told : (seed : ℕ) (w : Words) → IsOfSeed seed w → w ≡ words_after seed w.drawn
told seed w h = ap (drawn_from w.drawn) h.stream

advanced : (n : ℕ) (g : Lcg) → (next_u32 (answers g)).0 ≡ (pcg32 g).0
advanced n g = ap (λ (x : ℕ × Stream). x.0) (next_u32-stream_of (steps_u32 pcg32) g)

pub word_small : (seed : ℕ) (w : Words) → IsOfSeed seed w → (next_u32 w.stream).0 < 2 ^ 32
word_small seed w h =
    let g = advance 64 multiplier_64 w.drawn (seeded seed) in
    let e : w.stream ≡ answers g = h.stream ∙ sym (answers-advance w.drawn (seeded seed)) in
    subst (λ (s : Stream). (next_u32 s).0 < 2 ^ 32) (sym e) (rw (advanced 0 g) (output_small g.state))

without_more : (n : ℕ) (s : Stream) → (next_u32 (without n s)).1 ≡ without (suc n) s
unfolding without
without_more zero s = refl
without_more (suc n) s = without_more n (next_u32 s).1

number_by : {A : Type 0} (c : Bool) (which : CounterKind) (next : ℕ) (o : Outcome A) (P : A → Type 0) → (next == last_number) ≡ c → ((next ≡ last_number → ⊥) → IfGoes o P) → IfGoes (if c then Spent which else o) P
number_by true which next o P e f = tt
number_by false which next o P e f = f (λ same. clash (next == last_number) (equal_true next last_number same) e)

-- a counter that is not at its end
pub number_given : {A : Type 0} (which : CounterKind) (next : ℕ) (o : Outcome A) (P : A → Type 0) → ((next ≡ last_number → ⊥) → IfGoes o P) → IfGoes (with_number which next o) P
number_given which next o P f = number_by (next == last_number) which next o P refl f

one_more : (seed : ℕ) (w : Words) → IsOfSeed seed w → (w.drawn ≡ last_number → ⊥) → IsOfSeed seed (record { stream = (next_u32 w.stream).1; drawn = w.drawn + 1 })
one_more seed w h n = record {
  stream = ap (λ (s : Stream). (next_u32 s).1) h.stream ∙ without_more w.drawn (answers (seeded seed)) ∙ ap (λ (k : ℕ). without k (answers (seeded seed))) (sym (add-one w.drawn));
  counted = let c = h.counted in omega arith;
}

pub draw_sourced : (seed : ℕ) (w : Words) → IsOfSeed seed w → IfGoes (draw w) (λ d. IsOfSeed seed d.words × (d.value < 2 ^ 32))
draw_sourced seed w h = number_given counter.Words w.drawn _ (λ (d : Drawn ℕ). IsOfSeed seed d.words × (d.value < 2 ^ 32)) (λ n. (one_more seed w h n, word_small seed w h))

-- Inputs

module _ (seed : ℕ) where
  abbrev Sourced : {A : Type 0} → Drawn A → Type 0
  Sourced d = IsOfSeed seed d.words

  drawn : (w : Words) → IsOfSeed seed w → IfGoes (draw w) Sourced
  drawn w h = goes_weaker (draw w) (λ d. IsOfSeed seed d.words × (d.value < 2 ^ 32)) Sourced (λ d k. k.0) (draw_sourced seed w h)

  made : {A B : Type 0} (f : A → B) (o : Outcome (Drawn A)) → IfGoes o Sourced → IfGoes (then_do o (made_of f)) Sourced
  made f o h = goes_then o (made_of f) Sourced Sourced h (λ d k. k)

  text_kept : (t : List ℕ) (w : Words) → IsOfSeed seed w → IfGoes (then_do (text_value t) (undrawn w)) Sourced
  text_kept t w h = goes_any (text_value t) (undrawn w) Sourced (λ x. h)

  picked_kept : (by_whole : Bool) (a b : Num) (w : Words) → IsOfSeed seed w → IfGoes (picked by_whole a b w) Sourced
  picked_kept by_whole (Fixed a) (Fixed b) w h = made (between_bounds by_whole a b) (draw w) (drawn w h)
  picked_kept by_whole a b w h = h

  ordered_kept : (o : Option Ordering) (by_whole : Bool) (a b : Num) (w : Words) → IsOfSeed seed w → IfGoes (picked_by o by_whole a b w) Sourced
  ordered_kept (Some Less) by_whole a b w h = picked_kept by_whole a b w h
  ordered_kept (Some Greater) by_whole a b w h = picked_kept by_whole b a w h
  ordered_kept (Some Equal) by_whole a b w h = h
  ordered_kept None by_whole a b w h = h

  random_kept : (from to : Value) (w : Words) → IsOfSeed seed w → IfGoes (pick_random from to w) Sourced
  random_kept from to w h = ordered_kept (order (casts.number from) (casts.number to)) (looks_whole from && looks_whole to) (casts.number from) (casts.number to) w h

  indexed_by : (c : Bool) (v : Value) (n : ℕ) (all : Bool) (w : Words) → IsOfSeed seed w → IfGoes (if c then then_do (draw w) (made_of (index v n all)) else undrawn w (index v n all 0)) Sourced
  indexed_by true v n all w h = made (index v n all) (draw w) (drawn w h)
  indexed_by false v n all w h = h

  indexed_kept : (v : Value) (n : ℕ) (all : Bool) (w : Words) → IsOfSeed seed w → IfGoes (indexed v n all w) Sourced
  indexed_kept v n all w h = indexed_by (needs_word v n) v n all w h

  reported_kept : (op : Opcode) (a : Arguments) (v : View) (w : Words) → IsOfSeed seed w → IfGoes (reported op a v w) Sourced
  reported_kept OperatorRandom a v w h = made (λ (n : Num). Number n) _ (random_kept (value_at (codes "FROM") a) (value_at (codes "TO") a) w h)
  reported_kept OperatorJoin a v w h = text_kept (text_at (codes "STRING1") a ++ text_at (codes "STRING2") a) w h
  reported_kept DataListContents a v w h = text_kept (contents_text (items v a)) w h
  reported_kept DataItemOfList a v w h = made (λ i. item_at i (items v a)) _ (indexed_kept (value_at (codes "INDEX") a) (length (items v a)) false w h)
  reported_kept op a v w h = h

  mutual
    value_kept : (v : View) (e : Expression) (w : Words) → IsOfSeed seed w → IfGoes (value v e w) Sourced
    value_kept v (Constant x) w h = h
    value_kept v (Variable ref) w h = h
    value_kept v (Contents ref) w h = text_kept (contents_text (items_of ref v.here v.records v.variables)) w h
    value_kept v (Operator op fields refs inputs) w h = goes_then (values v inputs w) _ Sourced Sourced (values_kept v inputs w h)
        (λ d k. reported_kept op (record { values = d.value; fields = fields; variables = refs }) v d.words k)

    values_kept : (v : View) (inputs : Expressions) (w : Words) → IsOfSeed seed w → IfGoes (values v inputs w) Sourced
    values_kept v NoInput w h = h
    values_kept v (AndInput name e rest) w h = goes_then (value v e w) _ Sourced Sourced (value_kept v e w h)
        (λ d k. made (λ xs. (name, d.value) ∷ xs) (values v rest d.words) (values_kept v rest d.words k))

pub values_sourced : (seed : ℕ) (v : View) (inputs : Expressions) (w : Words) → IsOfSeed seed w → IfGoes (values v inputs w) (λ d. IsOfSeed seed d.words)
values_sourced seed v inputs w h = values_kept seed v inputs w h

-- Rows

either : {A : Type 0} (P : A → Type 0) (b : Bool) (x y : A) → P x → P y → P (if b then x else y)
either P true x y h k = h
either P false x y h k = k

module _ (seed : ℕ) where
  choice_by : (b : Bool) (count now : ℕ) (w : Words) → IsOfSeed seed w
      → IfGoes (if b then undrawn w None else then_do (draw w) (made_of (λ word. Some (skipping now (word * (count - 1) / 2 ^ 32))))) (Sourced seed)
  choice_by true count now w h = h
  choice_by false count now w h = made seed _ (draw w) (drawn seed w h)

  chosen_kept : (x : Choice) (count now : ℕ) (w : Words) → IsOfSeed seed w → IfGoes (chosen x count now w) (Sourced seed)
  chosen_kept Stays count now w h = h
  chosen_kept (To n) count now w h = h
  chosen_kept Another count now w h = choice_by (count == 1) count now w h

  point_kept : (w : Words) → IsOfSeed seed w → IfGoes (random_point w) (Sourced seed)
  point_kept w h = goes_then (draw w) _ (Sourced seed) (Sourced seed) (drawn seed w h)
      (λ x k. goes_then (draw x.words) _ (Sourced seed) (Sourced seed) (drawn seed x.words k) (λ y l. l))

  named_by : (b c : Bool) (q : Option Point) (r : Option Point) (w : Words) → IsOfSeed seed w
      → IfGoes (if b then undrawn w q else (if c then random_point w else undrawn w r)) (Sourced seed)
  named_by true c q r w h = h
  named_by false true q r w h = point_kept w h
  named_by false false q r w h = h

  named_kept : (name : List ℕ) (records : Records) (d : Devices) (p : MotionParts) → IsOfSeed seed p.words → IfGoes (point_named name records d p) (Sourced seed)
  named_kept name records d p h = named_by (bytes_eq name (codes "_mouse_")) (bytes_eq name (codes "_random_")) _ _ p.words h

  -- motion
  abbrev MotionOf : Row MotionParts → Type 0
  MotionOf r = IsOfSeed seed r.parts.words

  moved_kept : (o : Option (Instance → Instance)) (here : ℕ) (p : MotionParts) → IsOfSeed seed p.words → MotionOf (moved_by o here p)
  moved_kept None here p h = h
  moved_kept (Some f) here p h = h

  glide_kept : (d : Devices) (secs : Num) (end : Point) (c : Context) (here : ℕ) (p : MotionParts) → IsOfSeed seed p.words → MotionOf (glide d secs end c here p)
  glide_kept d secs end (Glide k) here p h = either MotionOf (less (elapsed k.start d) k.duration) _ _ h h
  glide_kept d secs end c here p h = either MotionOf (less casts.zero_number secs) _ _ h h

  glide_to_kept : (d : Devices) (secs : Num) (o : Option Point) (c : Context) (here : ℕ) (p : MotionParts) → IsOfSeed seed p.words → MotionOf (glide_to d secs o c here p)
  glide_to_kept d secs None c here p h = h
  glide_to_kept d secs (Some end) c here p h = glide_kept d secs end c here p h

  pointed_kept : (name : List ℕ) (records : Records) (d : Devices) (here : ℕ) (p : MotionParts) → IsOfSeed seed p.words → IfGoes (pointed name records d here p) MotionOf
  pointed_kept name records d here p h = either (λ o. IfGoes o MotionOf) (bytes_eq name (codes "_random_")) _ _
      (goes_then (draw p.words) _ (Sourced seed) MotionOf (drawn seed p.words h) (λ w k. k))
      (goes_then (point_named name records d p) _ (Sourced seed) MotionOf (named_kept name records d p h)
      (λ q k. moved_kept (option_map facing (direction_towards (instance_at here p.targets) q.value)) here (with_words q.words p) k))

  sprite_kept : (records : Records) (d : Devices) (op : Opcode) (a : Arguments) (here : ℕ) (c : Context) (p : MotionParts) → IsOfSeed seed p.words → IfGoes (sprite_row records d op a here c p) MotionOf
  sprite_kept records d MotionGoTo a here c p h = goes_then (point_named (text_at (codes "TO") a) records d p) _ (Sourced seed) MotionOf (named_kept (text_at (codes "TO") a) records d p h)
      (λ q k. moved_kept (option_map at_point q.value) here (with_words q.words p) k)
  sprite_kept records d MotionGlideSecsToXY a here c p h = glide_kept d (number_at (codes "SECS") a) _ c here p h
  sprite_kept records d MotionGlideTo a here c p h = goes_then (point_named (text_at (codes "TO") a) records d p) _ (Sourced seed) MotionOf (named_kept (text_at (codes "TO") a) records d p h)
      (λ q k. glide_to_kept d (number_at (codes "SECS") a) q.value c here (with_words q.words p) k)
  sprite_kept records d MotionPointTowards a here c p h = pointed_kept (text_at (codes "TOWARDS") a) records d here p h
  sprite_kept records d MotionSetRotationStyle a here c p h = moved_kept (option_map (λ s i. record i { style = s }) (style_named (field_at (codes "STYLE") a))) here p h
  sprite_kept records d op a here c p h = h

  motion_kept : (records : Records) (d : Devices) (op : Opcode) (a : Arguments) (here : ℕ) (c : Context) (p : MotionParts) → IsOfSeed seed p.words → IfGoes (motion_row records d op a here c p) MotionOf
  motion_kept records d op a here c p h = either (λ o. IfGoes o MotionOf) (is_on_stage (instance_at here p.targets) records) _ _ h (sprite_kept records d op a here c p h)

  -- looks
  abbrev LooksOf : Row LooksParts → Type 0
  LooksOf r = IsOfSeed seed r.parts.words

  sprite_only : (records : Records) (here : ℕ) (p : LooksParts) (r : Row LooksParts) → IsOfSeed seed p.words → LooksOf r → LooksOf (on_sprite records here p r)
  sprite_only records here p r h k = either LooksOf (is_on_stage (own here p) records) _ _ h k

  looks_by_kept : (o : Option (Instance → Instance)) (here : ℕ) (p : LooksParts) → IsOfSeed seed p.words → LooksOf (looks_by o here p)
  looks_by_kept None here p h = h
  looks_by_kept (Some f) here p h = h

  backdrop_kept : (o : Option ℕ) (records : Records) (p : LooksParts) → IsOfSeed seed p.words → IsOfSeed seed (with_backdrop o records p).words
  backdrop_kept None records p h = h
  backdrop_kept (Some k) records p h = h

  switched_kept : (backdrop : Bool) (names : List (List ℕ)) (now : ℕ) (v : Value) (w : Words) → IsOfSeed seed w → IfGoes (switched backdrop names now v w) (Sourced seed)
  switched_kept backdrop names now v w h = chosen_kept (choice backdrop names now v) (length names) now w h

  backdrops_kept : (wait : Bool) (v : Value) (records : Records) (p : LooksParts) → IsOfSeed seed p.words → IfGoes (backdrop_switched wait v records p) LooksOf
  backdrops_kept wait v records p h = goes_then (switched_to true v records (own (stage_number records) p) p.words) _ (Sourced seed) LooksOf (switched_kept true _ _ v p.words h)
      (λ d k. backdrop_kept d.value records (looking.with_words d.words p) k)

  awaited_kept : (c : Context) (v : Value) (records : Records) (threads : List Listed) (p : LooksParts) → IsOfSeed seed p.words → IfGoes (backdrop_and_wait c v records threads p) LooksOf
  awaited_kept (Started serials) v records threads p h = h
  awaited_kept c v records threads p h = backdrops_kept true v records p h

  looks_kept : (records : Records) (threads : List Listed) (op : Opcode) (a : Arguments) (here thread : ℕ) (c : Context) (p : LooksParts) → IsOfSeed seed p.words → IfGoes (looks_row records threads op a here thread c p) LooksOf
  looks_kept records threads LooksSay a here thread c p h = goes_any (bubble_updated here _ (bubble_text (value_at (codes "MESSAGE") a)) p.scene) _ LooksOf (λ s. h)
  looks_kept records threads LooksThink a here thread c p h = goes_any (bubble_updated here _ (bubble_text (value_at (codes "MESSAGE") a)) p.scene) _ LooksOf (λ s. h)
  looks_kept records threads LooksSayForSecs a here thread c p h = goes_any (bubble_updated here _ (bubble_text (value_at (codes "MESSAGE") a)) p.scene) _ LooksOf (λ s. h)
  looks_kept records threads LooksThinkForSecs a here thread c p h = goes_any (bubble_updated here _ (bubble_text (value_at (codes "MESSAGE") a)) p.scene) _ LooksOf (λ s. h)
  looks_kept records threads LooksSwitchCostumeTo a here thread c p h = goes_then (switched_to false (value_at (codes "COSTUME") a) records (own here p) p.words) _ (Sourced seed) LooksOf (switched_kept false _ _ (value_at (codes "COSTUME") a) p.words h)
      (λ d k. looks_by_kept (option_map with_costume d.value) here (looking.with_words d.words p) k)
  looks_kept records threads LooksSwitchBackdropTo a here thread c p h = backdrops_kept false (value_at (codes "BACKDROP") a) records p h
  looks_kept records threads LooksSwitchBackdropToAndWait a here thread c p h = awaited_kept c (value_at (codes "BACKDROP") a) records threads p h
  looks_kept records threads LooksChangeSizeBy a here thread c p h = sprite_only records here p _ h h
  looks_kept records threads LooksSetSizeTo a here thread c p h = sprite_only records here p _ h h
  looks_kept records threads LooksChangeEffectBy a here thread c p h = looks_by_kept _ here p h
  looks_kept records threads LooksSetEffectTo a here thread c p h = looks_by_kept _ here p h
  looks_kept records threads LooksShow a here thread c p h = sprite_only records here p _ h h
  looks_kept records threads LooksHide a here thread c p h = sprite_only records here p _ h h
  looks_kept records threads LooksGoToFrontBack a here thread c p h = sprite_only records here p _ h h
  looks_kept records threads LooksGoForwardBackwardLayers a here thread c p h = sprite_only records here p _ h h
  looks_kept records threads op a here thread c p h = h

  -- data
  abbrev DataOf : DataParts → Type 0
  DataOf d = IsOfSeed seed d.words

  at_index_kept : (n : Named) (v : Value) (all : Bool) (count : ℕ) (change : Index → List Value → List Value) (d : DataParts) → IsOfSeed seed d.words → IfGoes (at_index n v all count change d) DataOf
  at_index_kept n v all count change d h = goes_then (indexed v count all d.words) _ (Sourced seed) DataOf (indexed_kept seed v count all d.words h) (λ i k. k)

  data_kept : (v l : Named) (is : List Instance) (op : Opcode) (a : Arguments) (d : DataParts) → IsOfSeed seed d.words → IfGoes (data_by v l is op a d) DataOf
  data_kept v l is DataDeleteOfList a d h = at_index_kept l (value_at (codes "INDEX") a) true (length (items_named l d)) deleted d h
  data_kept v l is DataInsertAtList a d h = at_index_kept l (value_at (codes "INDEX") a) false (length (items_named l d) + 1) (λ i items. inserted i (value_at (codes "ITEM") a) items) d h
  data_kept v l is DataReplaceItemOfList a d h = at_index_kept l (value_at (codes "INDEX") a) false (length (items_named l d)) (λ i items. replaced i (value_at (codes "ITEM") a) items) d h
  data_kept v l is op a d h = h

  abbrev RowOf : Row DataParts → Type 0
  RowOf r = IsOfSeed seed r.parts.words

  data_row_kept : (records : Records) (is : List Instance) (op : Opcode) (a : Arguments) (here : ℕ) (d : DataParts) → IsOfSeed seed d.words → IfGoes (data_row records is op a here d) RowOf
  data_row_kept records is op a here d h =
      let v = named (codes "VARIABLE") a here records in
      let l = named (codes "LIST") a here records in
      goes_then (data_by v l is op a d) _ DataOf RowOf (data_kept v l is op a d h) (λ e k. k)

  by_group : (g : Group) (p : Program) (d : Command) (a : Arguments) (here thread : ℕ) (c : Context) (w : World Task) → IsOfSeed seed w.words
      → IfGoes (row_by g p d a here thread c w) (λ x. IsOfSeed seed x.world.words)
  by_group Motion p d a here thread c w h = goes_then (motion_row p.records w.devices d.op a here c _) _ MotionOf (λ x. IsOfSeed seed x.world.words) (motion_kept p.records w.devices d.op a here c _ h) (λ r k. k)
  by_group Looks p d a here thread c w h = goes_then (looks_row p.records (listed w) d.op a here thread c _) _ LooksOf (λ x. IsOfSeed seed x.world.words) (looks_kept p.records (listed w) d.op a here thread c _ h) (λ r k. k)
  by_group Data p d a here thread c w h = goes_then (data_row p.records w.targets d.op a here _) _ RowOf (λ x. IsOfSeed seed x.world.words) (data_row_kept p.records w.targets d.op a here _ h) (λ r k. k)
  by_group Control p d a here thread c w h = goes_any (control_row p (listed w) d.op d.code a here thread c (scene_of w)) _ (λ x. IsOfSeed seed x.world.words) (λ r. h)

pub row_sourced : (seed : ℕ) (p : Program) (d : Command) (a : Arguments) (here thread : ℕ) (c : Context) (w : World Task) → IsOfSeed seed w.words → IfGoes (row p d a here thread c w) (λ x. IsOfSeed seed x.world.words)
row_sourced seed p d a here thread c w h = by_group seed (group d.op) p d a here thread c w h
