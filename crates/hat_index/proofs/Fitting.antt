-- The hats that fit a filter are those that are found under what it asks.
use Rattle.std.proofs.Common.{◌≡◌, ℕ, suc, ◌+◌, Bool, true, false, ◌&&◌, not, List, [], ◌∷◌, Option, Some, None, refl, sym, ap, ◌∙◌, subst, arith, add-zero, zero-add}
use Rattle.std.specs.Prelude.{◌==◌, filter, slice_get, bytes_eq, nat_lt, codes, if◌then◌else◌}
use Rattle.std.specs.List.{filter_map, enumerate_from}
use Rattle.opcode_table.specs.declared.opcode.Opcode.{Opcode}
use Rattle.opcode_table.specs.declared.opcode.Opcode.TheVariants.{EventWhenFlagClicked, EventWhenThisSpriteClicked, EventWhenStageClicked, EventWhenBroadcastReceived, EventWhenBackdropSwitchesTo, EventWhenKeyPressed, ControlStartAsClone, EventWhenGreaterThan}
use Rattle.opcode_table.specs.declared.hats.HatKind.{HatKind}
use Rattle.opcode_table.specs.declared.hats.HatKind.TheVariants.{FlagHat, SpriteHat, StageHat, MessageHat, BackdropHat, KeyHat, CloneHat, EdgeHat, NoHat}
use Rattle.opcode_table.specs.declared.shape.Role.TheVariants as role
use Rattle.opcode_table.specs.Kinds.{hat_kind}
use Rattle.scratch_values.specs.Folding.{folded}
use Rattle.machine_spec.specs.Program.{Head}
use Rattle.machine_spec.specs.Script.{Fields, Refs, Expressions, Branches, Place, Statement, Does, op_of}
use Rattle.machine_spec.specs.declared.threads.Filter.{Filter}
use Rattle.machine_spec.specs.declared.threads.Filter.TheVariants.{Broadcast, Backdrop, Key, Flag, CloneStart, Clicked}
use Rattle.machine_spec.specs.Starting.{same_folded, hat_field, fits, is_stage_hat, fits_hat, is_stage_hat_of}
use Rattle.project_spec.specs.declared.blocks.Block.{Block}
use Rattle.project_spec.specs.declared.blocks.Code.{Code}
use Rattle.project_spec.specs.declared.blocks.Code.TheVariants.{Known, Other}
use Rattle.project_spec.specs.Linked.{is_head, has_role}
use Rattle.project_spec.specs.Trees.{Sheet, op_by, fields_of, target_of_link, head_of, heads_of, hat_at as machine_hat}
use Rattle.hat_index.specs.Hats.{Hat, row_of, kind_number, key_text, hat_by, hat_at, is_for, starts_for}
use Rattle.hat_index.proofs.Folding.{folded-same}
use Rattle.hat_index.specs.ByIndex.{Asked, first_asked, second_asked, head_number, head_by, head_at, given, FirstByKey, SecondByKey}

-- Opcodes of hats

-- the opcode of a kind of hat
abbrev opcode_for : HatKind → Option Opcode
opcode_for FlagHat = Some EventWhenFlagClicked
opcode_for SpriteHat = Some EventWhenThisSpriteClicked
opcode_for StageHat = Some EventWhenStageClicked
opcode_for MessageHat = Some EventWhenBroadcastReceived
opcode_for BackdropHat = Some EventWhenBackdropSwitchesTo
opcode_for KeyHat = Some EventWhenKeyPressed
opcode_for CloneHat = Some ControlStartAsClone
opcode_for EdgeHat = Some EventWhenGreaterThan
opcode_for NoHat = None

known : (op : Opcode) → nat_lt (row_of op) 8 ≡ true → opcode_for (hat_kind op) ≡ Some op
known EventWhenFlagClicked e = refl
known EventWhenThisSpriteClicked e = refl
known EventWhenStageClicked e = refl
known EventWhenBroadcastReceived e = refl
known EventWhenBackdropSwitchesTo e = refl
known EventWhenKeyPressed e = refl
known ControlStartAsClone e = refl
known EventWhenGreaterThan e = refl
known _ e = absurd (cc e)

-- the opcode of a kind is that one
of_kind : (op : Opcode) (k : HatKind) → hat_kind op ≡ k → nat_lt (kind_number k) 8 ≡ true → opcode_for k ≡ Some op
of_kind op k e h = ap opcode_for (sym e) ∙ known op (ap (λ x. nat_lt (kind_number x) 8) e ∙ h)

some_same : (a b : Opcode) → Some a ≡ Some b → a ≡ b
some_same a b e = cc e

-- What a filter asks of an opcode

and_true : (b : Bool) → (b && true) ≡ b
and_true true = refl
and_true false = refl

and_false : (b : Bool) → (b && false) ≡ false
and_false true = refl
and_false false = refl

module _ (place : Place) (op : Opcode) (fs : Fields) (refs : Refs) (code : List ℕ) (inputs : Expressions) (branches : Branches) where
  abbrev own : Statement
  own = Does place (record { op = op; fields = fs; refs = refs; code = code }) inputs branches

  -- the field of a hat of this opcode
  same_field : (name text : List ℕ) (other : Opcode) → Some other ≡ Some op → key_text other fs ≡ folded (hat_field name own) → same_folded (hat_field name own) text ≡ bytes_eq (key_text op fs) (folded text)
  same_field name text other e k =
      folded-same (hat_field name own) text ∙ ap (λ x. bytes_eq x (folded text)) (sym k ∙ ap (λ o. key_text o fs) (some_same other op e))

  no_field : (other : Opcode) → Some other ≡ Some op → key_text other fs ≡ [] → true ≡ bytes_eq (key_text op fs) []
  no_field other e k = ap (λ x. bytes_eq x []) (sym k ∙ ap (λ o. key_text o fs) (some_same other op e))

  first_by : (f : Filter) (k : HatKind) → hat_kind op ≡ k → (fits f k own && not (is_stage_hat k)) ≡ (kind_number k == row_of (first_asked f).opcode && bytes_eq (key_text op fs) (first_asked f).folded)
  first_by (Broadcast m) MessageHat e = and_true (same_folded (hat_field (codes "BROADCAST_OPTION") own) m) ∙ same_field (codes "BROADCAST_OPTION") m EventWhenBroadcastReceived (of_kind op MessageHat e refl) refl
  first_by (Broadcast m) _ e = refl
  first_by (Backdrop c) BackdropHat e = and_true (same_folded (hat_field (codes "BACKDROP") own) c) ∙ same_field (codes "BACKDROP") c EventWhenBackdropSwitchesTo (of_kind op BackdropHat e refl) refl
  first_by (Backdrop c) _ e = refl
  first_by (Key n) KeyHat e = and_true (same_folded (hat_field (codes "KEY_OPTION") own) n) ∙ same_field (codes "KEY_OPTION") n EventWhenKeyPressed (of_kind op KeyHat e refl) refl
  first_by (Key n) _ e = refl
  first_by Flag FlagHat e = no_field EventWhenFlagClicked (of_kind op FlagHat e refl) refl
  first_by Flag _ e = refl
  first_by (CloneStart clone) CloneHat e = no_field ControlStartAsClone (of_kind op CloneHat e refl) refl
  first_by (CloneStart clone) _ e = refl
  first_by (Clicked instance) SpriteHat e = no_field EventWhenThisSpriteClicked (of_kind op SpriteHat e refl) refl
  first_by (Clicked instance) _ e = refl

  second_by : (instance : ℕ) (k : HatKind) → hat_kind op ≡ k → (fits (Clicked instance) k own && is_stage_hat k) ≡ (kind_number k == 2 && bytes_eq (key_text op fs) [])
  second_by instance StageHat e = no_field EventWhenStageClicked (of_kind op StageHat e refl) refl
  second_by instance _ e = refl

-- no other filter has a stage-clicked hat
second_none : (f : Filter) (k : HatKind) (s : Statement) → second_asked f ≡ None → (fits f k s && is_stage_hat k) ≡ false
second_none (Clicked instance) k s e = absurd (cc e)
second_none (Broadcast m) MessageHat s e = and_false (same_folded (hat_field (codes "BROADCAST_OPTION") s) m)
second_none (Broadcast m) _ s e = refl
second_none (Backdrop c) BackdropHat s e = and_false (same_folded (hat_field (codes "BACKDROP") s) c)
second_none (Backdrop c) _ s e = refl
second_none (Key n) KeyHat s e = and_false (same_folded (hat_field (codes "KEY_OPTION") s) n)
second_none (Key n) _ s e = refl
second_none Flag FlagHat s e = refl
second_none Flag _ s e = refl
second_none (CloneStart clone) CloneHat s e = refl
second_none (CloneStart clone) _ s e = refl

-- Heads

-- a block that is a hat has a row
role_row : (c : Code) → has_role role.Hat c ≡ nat_lt (row_of (op_by c)) 8
role_row (Known op) = known_role op
  where
    known_role : (o : Opcode) → has_role role.Hat (Known o) ≡ nat_lt (row_of o) 8
    known_role EventWhenFlagClicked = refl
    known_role _ = refl
role_row (Other name) = refl

-- the hat of a block
abbrev hat_as : ℕ → Block → Hat
hat_as k b = record { opcode = op_by b.code; folded = key_text (op_by b.code) (fields_of b); block = k; next = target_of_link b.next }

-- heads that pass a test, where the test is that of what is asked
module _ (sheet : Sheet) (test : Head → Bool) (a : Asked) (same : (k : ℕ) (b : Block) → test (head_of sheet k b) ≡ is_for a.opcode a.folded (hat_as k b)) where
  abbrev machine : List (ℕ × Block) → List Head
  machine xs = filter test (filter_map (machine_hat sheet) xs)

  abbrev indexed : List (ℕ × Block) → List Head
  indexed xs = filter_map (head_at sheet) (starts_for a.opcode a.folded (filter_map (hat_at sheet.blocks) (filter_map head_number xs)))

  module _ (b : Block) (bs : List Block) (n : ℕ) (here : slice_get sheet.blocks n ≡ Some b) (rest : machine (enumerate_from (n + 1) bs) ≡ indexed (enumerate_from (n + 1) bs)) where
    is_hat : hat_at sheet.blocks n ≡ (if has_role role.Hat b.code then Some (hat_as n b) else None)
    is_hat = ap (hat_by n) here ∙ ap (λ t. if t then Some (hat_as n b) else None) (sym (role_row b.code))

    at : head_at sheet (n, target_of_link b.next) ≡ Some (head_of sheet n b)
    at = ap (head_by sheet (n, target_of_link b.next)) here

    passes : (t : Bool) → is_for a.opcode a.folded (hat_as n b) ≡ t → is_head b ≡ true → has_role role.Hat b.code ≡ true → machine (enumerate_from n (b ∷ bs)) ≡ indexed (enumerate_from n (b ∷ bs))
    passes true e h r = rw (h, r, is_hat, r, same n b, e, at) (ap (λ xs. head_of sheet n b ∷ xs) rest)
    passes false e h r = rw (h, r, is_hat, r, same n b, e) rest

    by : (h r : Bool) → is_head b ≡ h → has_role role.Hat b.code ≡ r → machine (enumerate_from n (b ∷ bs)) ≡ indexed (enumerate_from n (b ∷ bs))
    by false r eh er = rw eh rest
    by true false eh er = rw (eh, er, is_hat, er) rest
    by true true eh er = passes (is_for a.opcode a.folded (hat_as n b)) refl eh er

    -- one more block
    one_block : machine (enumerate_from n (b ∷ bs)) ≡ indexed (enumerate_from n (b ∷ bs))
    one_block = by (is_head b) (has_role role.Hat b.code) refl refl

  -- the blocks from a number on
  walk : (bs : List Block) (n : ℕ) → ((j : ℕ) (b : Block) → slice_get bs j ≡ Some b → slice_get sheet.blocks (n + j) ≡ Some b) → machine (enumerate_from n bs) ≡ indexed (enumerate_from n bs)
  walk [] n held = refl
  walk (b ∷ bs) n held =
      one_block b bs n (subst (λ m. slice_get sheet.blocks m ≡ Some b) (add-zero n) (held 0 b refl))
      (walk bs (n + 1) (λ j c e. subst (λ m. slice_get sheet.blocks m ≡ Some c) (omega arith) (held (suc j) c e)))

  pub all_found : filter test (heads_of sheet) ≡ given sheet a
  all_found = walk sheet.blocks 0 (λ j b e. subst (λ m. slice_get sheet.blocks m ≡ Some b) (sym (zero-add j)) e)

none_pass : (test : Head → Bool) → ((h : Head) → test h ≡ false) → (hs : List Head) → filter test hs ≡ []
none_pass test none [] = refl
none_pass test none (h ∷ hs) = rw (none h) (none_pass test none hs)

pub first_found : FirstByKey
first_found sheet f =
    all_found sheet (λ h. fits_hat f h.hat && not (is_stage_hat_of h.hat)) (first_asked f)
    (λ k b. first_by (record { target = sheet.target; block = k }) (op_by b.code) (fields_of b) _ _ _ _ f (hat_kind (op_by b.code)) refl)

none_second : (sheet : Sheet) (f : Filter) → second_asked f ≡ None → filter (λ h. fits_hat f h.hat && is_stage_hat_of h.hat) (heads_of sheet) ≡ []
none_second sheet f e = none_pass (λ h. fits_hat f h.hat && is_stage_hat_of h.hat) (λ h. second_none f (hat_kind (op_of h.hat)) h.hat e) (heads_of sheet)

pub second_found : SecondByKey
second_found sheet (Clicked instance) =
    all_found sheet (λ h. fits_hat (Clicked instance) h.hat && is_stage_hat_of h.hat) (record { opcode = EventWhenStageClicked; folded = [] })
    (λ k b. second_by (record { target = sheet.target; block = k }) (op_by b.code) (fields_of b) _ _ _ _ instance (hat_kind (op_by b.code)) refl)
second_found sheet (Broadcast m) = none_second sheet (Broadcast m) refl
second_found sheet (Backdrop c) = none_second sheet (Backdrop c) refl
second_found sheet (Key n) = none_second sheet (Key n) refl
second_found sheet Flag = none_second sheet Flag refl
second_found sheet (CloneStart clone) = none_second sheet (CloneStart clone) refl
