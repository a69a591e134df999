-- Which instances blocks make clones of.
use Rattle.std.proofs.Common.{◌≡◌, ℕ, Bool, true, false, List, [], ◌∷◌, length, Option, Some, None, refl, sym, ap, ◌∙◌, inl, inr, arith}
use Rattle.std.specs.Prelude.{codes, bytes_eq, nat_lt, not, ◌==◌, ◌||◌, ◌&&◌, position, if◌then◌else◌}
use Rattle.std.specs.List.{list_any}
use Rattle.std.proofs.lemmas.Bool.{cases_Bool, eq-eqb}
use Rattle.std.proofs.lemmas.Bool.Decides.{nat_tests}
use Rattle.opcode_table.specs.declared.opcode.Opcode.{Opcode}
use Rattle.opcode_table.specs.declared.opcode.Opcode.TheVariants.{ControlStop, ControlCreateCloneOf, ControlDeleteThisClone, EventBroadcast, EventBroadcastAndWait}
use Rattle.scratch_values.specs.Named.{Arguments}
use Rattle.control_blocks.specs.Afresh.{acts_alone}
use Rattle.machine_spec.specs.Outcome.{Goes}
use Rattle.machine_spec.specs.Program.{Program, no_target, sprite_named}
use Rattle.machine_spec.specs.declared.records.TargetRecord.{TargetRecord}
use Rattle.machine_spec.specs.Threads.{Listed, is_running, among, wait_for}
use Rattle.machine_spec.specs.declared.threads.Context.{Context}
use Rattle.machine_spec.specs.declared.threads.Context.TheVariants.{Fresh, Repeat, Wait, Glide, Started, Asked, Spoken, Called}
use Rattle.machine_spec.specs.declared.threads.Control.{Control}
use Rattle.machine_spec.specs.declared.threads.Control.TheVariants.{Next, Branch, Yield, YieldTick, Promise, Call, StopThis, StopOthers, StopAll, DeleteClone, Start, Clone}
use Rattle.machine_spec.specs.ControlRows.{control_row, broadcast_and_wait, clone_control, clone_some, stop_control}
use Rattle.machine_spec.specs.Laws.{is_own}
use Rattle.machine_spec.specs.Parts.{Scene}
use Rattle.machine_spec.specs.View.{Row, field_at, text_at}
use Rattle.targets.proofs.Places.{position_is}
use Rattle.looks_blocks.specs.Controls.{is_own_or_start}
use Rattle.executions.specs.Rows.{may_clone}

module _ (here n : ℕ) where
  stop_clones : (what : List ℕ) → may_clone here n (stop_control what) ≡ true
  stop_clones what = elim (cases_Bool (bytes_eq what (codes "all"))) [
    | inl y ↦ rw y refl
    | inr n ↦ rw n (elim (cases_Bool (bytes_eq what (codes "this script"))) [
      | inl z ↦ rw z refl
      | inr m ↦ rw m (elim (cases_Bool (bytes_eq what (codes "other scripts in sprite") || bytes_eq what (codes "other scripts in stage"))) [
        | inl o ↦ rw o refl
        | inr p ↦ rw p refl
      ])
    ])
  ]

  wait_clones : (ts : List Listed) → may_clone here n (wait_for ts) ≡ true
  wait_clones [] = refl
  wait_clones (t ∷ ts) = elim (cases_Bool (list_any (λ x. is_running x.status) (t ∷ ts))) [
    | inl y ↦ rw y refl
    | inr n ↦ rw n refl
  ]

  message_clones : (threads : List Listed) (c : Context) (message : List ℕ) (s : Scene) → may_clone here n (broadcast_and_wait threads c message s).control ≡ true
  message_clones threads Fresh message s = refl
  message_clones threads (Repeat k) message s = refl
  message_clones threads (Wait x) message s = refl
  message_clones threads (Glide x) message s = refl
  message_clones threads (Started serials) message s = wait_clones (among threads serials)
  message_clones threads Asked message s = refl
  message_clones threads Spoken message s = refl
  message_clones threads Called message s = refl

  pub own_clones : (control : Control) → is_own control ≡ true → may_clone here n control ≡ true
  own_clones (Clone original) h = absurd (cc)
  own_clones Next h = refl
  own_clones (Branch k is_loop) h = refl
  own_clones Yield h = refl
  own_clones YieldTick h = refl
  own_clones Promise h = refl
  own_clones (Call definition params) h = refl
  own_clones StopThis h = refl
  own_clones StopOthers h = refl
  own_clones StopAll h = refl
  own_clones DeleteClone h = refl
  own_clones (Start hats wait) h = refl

or_true : (a b : Bool) → b ≡ true → (a || b) ≡ true
or_true true b e = refl
or_true false b e = e

sprite_clones : (here : ℕ) (ts : List TargetRecord) (test : TargetRecord → Bool) (o : Option ℕ) → position test ts ≡ o → may_clone here (length ts) (clone_some o) ≡ true
sprite_clones here ts test None e = refl
sprite_clones here ts test (Some n) e =
    let at = position_is test ts n no_target e in
    let lt : nat_lt n (length ts) ≡ true = grind (arith, nat_tests, at.1) in
    or_true (n == here) (nat_lt n (length ts)) lt

goes_same : {x y : Row Scene} → Goes x ≡ Goes y → x ≡ y
goes_same e = cc e

module _ (p : Program) (here : ℕ) where
  clone_clones : (name : List ℕ) → may_clone here (length p.records.targets) (clone_control p here name) ≡ true
  clone_clones name = by (bytes_eq name (codes "_myself_"))
    where
      by : (b : Bool) → may_clone here (length p.records.targets) (if b then Clone here else clone_some (sprite_named name p.records)) ≡ true
      by true = ap (λ b. b || nat_lt here (length p.records.targets)) (eq-eqb here here refl)
      by false = sprite_clones here p.records.targets (λ t. not t.is_stage && bytes_eq t.name name) (sprite_named name p.records) refl

  -- a block makes a clone of its own instance, or of an original
  pub clones : (threads : List Listed) (op : Opcode) (code : List ℕ) (a : Arguments) (thread : ℕ) (c : Context) (s : Scene) (x : Row Scene) → control_row p threads op code a here thread c s ≡ Goes x
      → (acts_alone op ≡ true → is_own x.control ≡ true) → may_clone here (length p.records.targets) x.control ≡ true
  clones threads ControlCreateCloneOf code a thread c s x e own = ap (λ (y : Row Scene). may_clone here (length p.records.targets) y.control) (sym (goes_same e)) ∙ clone_clones (text_at (codes "CLONE_OPTION") a)
  clones threads ControlStop code a thread c s x e own = ap (λ (y : Row Scene). may_clone here (length p.records.targets) y.control) (sym (goes_same e)) ∙ stop_clones here (length p.records.targets) (field_at (codes "STOP_OPTION") a)
  clones threads ControlDeleteThisClone code a thread c s x e own = ap (λ (y : Row Scene). may_clone here (length p.records.targets) y.control) (sym (goes_same e))
  clones threads EventBroadcast code a thread c s x e own = ap (λ (y : Row Scene). may_clone here (length p.records.targets) y.control) (sym (goes_same e))
  clones threads EventBroadcastAndWait code a thread c s x e own =
      ap (λ (y : Row Scene). may_clone here (length p.records.targets) y.control) (sym (goes_same e)) ∙ message_clones here (length p.records.targets) threads c (text_at (codes "BROADCAST_INPUT") a) s
  clones threads op code a thread c s x e own = own_clones here (length p.records.targets) x.control (own refl)

-- a block of looks makes none
pub looks_clones : (here n : ℕ) (control : Control) → is_own_or_start control ≡ true → may_clone here n control ≡ true
looks_clones here n (Clone original) h = absurd (cc h)
looks_clones here n Next h = refl
looks_clones here n (Branch k is_loop) h = refl
looks_clones here n Yield h = refl
looks_clones here n YieldTick h = refl
looks_clones here n Promise h = refl
looks_clones here n (Call definition params) h = refl
looks_clones here n StopThis h = refl
looks_clones here n StopOthers h = refl
looks_clones here n StopAll h = refl
looks_clones here n DeleteClone h = refl
looks_clones here n (Start hats wait) h = refl
