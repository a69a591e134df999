-- Each control leaves what a thread has to do legal.
use Rattle.std.proofs.Common.{◌≡◌, ℕ, Bool, true, false, ◌||◌, if◌then◌else◌, List, [], ◌∷◌, ◌++◌, inl, inr, Option, Some, None, refl, sym, ap, ◌∙◌, subst, arith}
use Rattle.std.specs.Prelude.{◌<◌, pos, negsuc, bytes_eq}
use Rattle.opcode_table.specs.declared.kinds.Kind.{Kind}
use Rattle.opcode_table.specs.declared.kinds.Kind.TheVariants.{Choice, Endless, Counted}
use Rattle.opcode_table.specs.Kinds.{kind}
use Rattle.machine_spec.specs.Script.{Script, End, Then, Statement, Branches, NoBranch, AndBranch, place_of, command_of, op_of, branches_of, branch_of, branch_name, branch_named}
use Rattle.machine_spec.specs.Program.{Program, Procedure}
use Rattle.machine_spec.specs.declared.threads.Count.TheVariants.{Whole, Infinite}
use Rattle.machine_spec.specs.declared.threads.Context.{Context}
use Rattle.machine_spec.specs.declared.threads.Context.TheVariants.{Fresh, Repeat, Wait, Glide, Started, Asked, Spoken, Called}
use Rattle.machine_spec.specs.declared.threads.Control.{Control}
use Rattle.machine_spec.specs.declared.threads.Control.TheVariants.{Next, Branch as BranchControl, Yield, YieldTick, Promise, Call, StopThis, StopOthers, StopAll, DeleteClone, Start, Clone}
use Rattle.machine_spec.specs.Threads.{Params}
use Rattle.machine_spec.specs.declared.threads.Report.TheVariants.{Go, Yielded}
use Rattle.machine_spec.specs.Pending.{Item, Do, Held, Returned, Branch, Again, Back, dos, settle, unwind, kept, branch_marker}
use Rattle.machine_spec.specs.Called.{called, called_by, branch_scripts, scripts_in, scripts_over, warp_in}
use Rattle.machine_spec.specs.Legal.{EndOf, EndOfOne, script_of, Fits, Stands, scripts_on, warp_on, KeepsAgain, Keeps, Markers, Legal, waits_for_promise, waits_for_started, StatusFits}
use Rattle.machine_spec.specs.Tasks.{status_after}
use Rattle.machine_spec.specs.Step.{position, entered_some, after_start}
use Rattle.laws_of_threads.specs.Lists.{Each}
use Rattle.laws_of_threads.specs.Scripts.{IsThen}
use Rattle.laws_of_threads.specs.Positions.{KeptWell, FirstKeptWell, Sits, is_promise, KeptFits, BranchFits, StartFits, ControlFits, Begins}
use Rattle.machine_spec.specs.Keeping.{is_started}

pub ends_itself : (t : Script) → EndOf t t
ends_itself End = refl
ends_itself (Then s rest) = inl refl

ends_tail : (s : Statement) (t whole : Script) → EndOf (Then s t) whole → EndOf t whole
ends_tail s t End h = absurd (cc)
ends_tail s t (Then s' rest) (inl e) = inr (let same : rest ≡ t = cc in subst (λ x. EndOf t x) (sym same) (ends_itself t))
ends_tail s t (Then s' rest) (inr h) = inr (ends_tail s t rest h)

one_tail : (s : Statement) (t : Script) (all : List Script) → EndOfOne (Then s t) all → EndOfOne t all
one_tail s t [] h = h
one_tail s t (x ∷ xs) (inl h) = inl (ends_tail s t x h)
one_tail s t (x ∷ xs) (inr h) = inr (one_tail s t xs h)

script_of_dos : (t : Script) (m : Item) (r : List Item) → script_of (m ∷ r) ≡ End → script_of (dos t ++ m ∷ r) ≡ t
script_of_dos End m r e = e
script_of_dos (Then s rest) m r e = ap (Then s) (script_of_dos rest m r e)

-- the branch of a name is one of the branches, or empty
abbrev pub IsBranch : Script → List Script → Type 0
IsBranch End all = Unit {0}
IsBranch (Then s rest) all = EndOfOne (Then s rest) all

is_branch : (t : Script) (all : List Script) → EndOfOne t all → IsBranch t all
is_branch End all h = tt
is_branch (Then s rest) all h = h

branch_more : (t b : Script) (all : List Script) → IsBranch t all → IsBranch t (b ∷ all)
branch_more End b all h = tt
branch_more (Then s rest) b all h = inr h

branch_by : (name : List ℕ) (c : Bool) (b : Script) (more : Branches) → IsBranch (branch_named name more) (branch_scripts more)
    → IsBranch (if c then b else branch_named name more) (b ∷ branch_scripts more)
branch_by name true b more h = is_branch b (b ∷ branch_scripts more) (inl (ends_itself b))
branch_by name false b more h = branch_more (branch_named name more) b (branch_scripts more) h

pub branch_is : (name : List ℕ) (bs : Branches) → IsBranch (branch_named name bs) (branch_scripts bs)
branch_is name NoBranch = tt
branch_is name (AndBranch n b more) = branch_by name (bytes_eq n name) b more (branch_is name more)

module _ (p : Program) (hat : Script) (clock next : ℕ) where
  kind_none : (s : Statement) (k : Kind) → kind (op_of s) ≡ k → called_by k p (place_of s).target (command_of s).code ≡ None → called p s ≡ None
  kind_none s k e h = ap (λ x. called_by x p (place_of s).target (command_of s).code) e ∙ h

  again_none : (s : Statement) (c : Context) → KeepsAgain (kind (op_of s)) c → called p s ≡ None
  again_none s Fresh h = kind_none s Endless h refl
  again_none s (Repeat (Whole (pos n))) h = kind_none s Counted h refl
  again_none s (Repeat (Whole (negsuc n))) h = absurd h
  again_none s (Repeat Infinite) h = kind_none s Counted h refl
  again_none s (Wait c) h = absurd h
  again_none s (Glide c) h = absurd h
  again_none s (Started n) h = absurd h
  again_none s Asked h = absurd h
  again_none s Spoken h = absurd h
  again_none s Called h = absurd h

  again_held : (k : Kind) (c : Context) → KeepsAgain k c → Keeps clock k c
  again_held k Fresh h = h
  again_held k (Repeat n) h = h
  again_held k (Wait c) h = absurd h
  again_held k (Glide c) h = absurd h
  again_held k (Started n) h = absurd h
  again_held k Asked h = absurd h
  again_held k Spoken h = absurd h
  again_held k Called h = absurd h

  pub again_free : (s : Statement) (k : Kind) (c : Context) (r : List Item) → KeepsAgain k c → waits_for_promise (Held s c ∷ r) ≡ false
  again_free s k Fresh r h = refl
  again_free s k (Repeat n) r h = refl
  again_free s k (Wait c) r h = absurd h
  again_free s k (Glide c) r h = absurd h
  again_free s k (Started n) r h = absurd h
  again_free s k Asked r h = absurd h
  again_free s k Spoken r h = absurd h
  again_free s k Called r h = absurd h

  again_lasts : (k : Kind) (c : Context) → KeepsAgain k c → KeptWell next c
  again_lasts k Fresh h = tt
  again_lasts k (Repeat n) h = tt
  again_lasts k (Wait c) h = absurd h
  again_lasts k (Glide c) h = tt
  again_lasts k (Started n) h = absurd h
  again_lasts k Asked h = tt
  again_lasts k Spoken h = tt
  again_lasts k Called h = tt

  kept_lasts : (s : Statement) (c : Context) (r : List Item) → KeptWell next c → FirstKeptWell next (kept s c ∷ r)
  kept_lasts s Fresh r h = tt
  kept_lasts s (Repeat n) r h = tt
  kept_lasts s (Wait c) r h = h
  kept_lasts s (Glide c) r h = tt
  kept_lasts s (Started n) r h = h
  kept_lasts s Asked r h = tt
  kept_lasts s Spoken r h = tt
  kept_lasts s Called r h = tt

  promise_lasts : (c : Context) → is_promise c ≡ true → KeptWell next c
  promise_lasts Asked e = tt
  promise_lasts Spoken e = tt
  promise_lasts c e = absurd (cc e)

  first_lasts : (t : Script) (r : List Item) → IsThen t → FirstKeptWell next (dos t ++ r)
  first_lasts End r e = absurd e
  first_lasts (Then s rest) r e = tt

  pub record Follows (r : List Item) (w : Bool) : Type 0 where
    pub stands : Stands p hat (script_of r) r w
    pub markers : Markers p hat r

  pub after_it : (s : Statement) (r : List Item) (w : Bool) → Stands p hat (Then s (script_of r)) r w → Markers p hat r → Follows r w
  after_it s r w h m = record { stands = record { ends = one_tail s (script_of r) (scripts_on p hat r) h.ends; warp = h.warp }; markers = m }

  -- also what ends a promise: the thread goes on behind the statement that waited
  pub settle_legal : (r : List Item) (w : Bool) → Follows r w → Sits p hat clock next (settle r w)
  settle_legal [] w h = record { legal = refl; status = refl; kept = tt }
  settle_legal (Do s ∷ r) w h = record { legal = (record { ends = h.stands.ends; warp = h.stands.warp }, h.markers); status = refl; kept = tt }
  settle_legal (Held s c ∷ r) w h = absurd h.markers
  settle_legal (Returned s ps ∷ r) w h = absurd h.markers
  settle_legal (Branch s v ∷ r) w h = settle_legal r v (after_it s r v h.markers.1 h.markers.2)
  settle_legal (Back s q v ∷ r) w h = settle_legal r v (after_it s r v h.markers.1 h.markers.2)
  settle_legal (Again s c v ∷ r) w h = record {
    legal = (again_held (kind (op_of s)) c h.markers.0, h.markers.1, h.markers.2);
    status = again_free s (kind (op_of s)) c r h.markers.0;
    kept = again_lasts (kind (op_of s)) c h.markers.0;
  }

  unwind_legal : (r : List Item) → Markers p hat r → Sits p hat clock next (unwind r)
  unwind_legal [] m = record { legal = refl; status = refl; kept = tt }
  unwind_legal (Do s ∷ r) m = unwind_legal r m
  unwind_legal (Held s c ∷ r) m = absurd m
  unwind_legal (Returned s ps ∷ r) m = absurd m
  unwind_legal (Branch s v ∷ r) m = unwind_legal r m.2
  unwind_legal (Again s c v ∷ r) m = unwind_legal r m.2
  unwind_legal (Back s q v ∷ r) m = record { legal = (m.0, m.1, m.2); status = refl; kept = tt }

  scripts_on_dos : (t : Script) (r : List Item) → scripts_on p hat (dos t ++ r) ≡ scripts_on p hat r
  scripts_on_dos End r = refl
  scripts_on_dos (Then s rest) r = scripts_on_dos rest r

  warp_on_dos : (t : Script) (r : List Item) → warp_on p hat (dos t ++ r) ≡ warp_on p hat r
  warp_on_dos End r = refl
  warp_on_dos (Then s rest) r = warp_on_dos rest r

  markers_dos : (t : Script) (r : List Item) → Markers p hat r → Markers p hat (dos t ++ r)
  markers_dos End r m = m
  markers_dos (Then s rest) r m = markers_dos rest r m

  entered_follows : (t : Script) (m : Item) (r : List Item) (w : Bool) → script_of (m ∷ r) ≡ End → EndOfOne t (scripts_on p hat (m ∷ r)) → w ≡ warp_on p hat (m ∷ r) → Markers p hat (m ∷ r) → Follows (dos t ++ m ∷ r) w
  entered_follows t m r w e one warp h = record {
    stands = record {
      ends = subst (λ x. EndOfOne x (scripts_on p hat (dos t ++ m ∷ r))) (sym (script_of_dos t m r e)) (subst (EndOfOne t) (sym (scripts_on_dos t (m ∷ r))) one);
      warp = warp ∙ sym (warp_on_dos t (m ∷ r));
    };
    markers = markers_dos t (m ∷ r) h;
  }

  first_legal : (t : Script) (m : Item) (r : List Item) (w : Bool) → IsThen t → Follows (dos t ++ m ∷ r) w → Legal p hat clock (dos t ++ m ∷ r) w
  first_legal End m r w e h = absurd e
  first_legal (Then s rest) m r w e h = (record { ends = h.stands.ends; warp = h.stands.warp }, h.markers)

  first_free : (t : Script) (r : List Item) → IsThen t → waits_for_promise (dos t ++ r) ≡ false
  first_free End r e = absurd e
  first_free (Then s rest) r e = refl

  into : (b : Script) (s : Statement) (w : Bool) → called p s ≡ None → EndOfOne b (branch_scripts (branches_of s)) → EndOfOne b (scripts_over p s) × (w ≡ warp_in (called p s) w)
  into b s w none h = (subst (λ o. EndOfOne b (scripts_in o (branch_scripts (branches_of s)))) (sym none) h, ap (λ o. warp_in o w) (sym none))

  -- a branch is entered, or its marker is met at once
  branch_legal : (b : Script) (is_loop : Bool) (s : Statement) (c : Context) (w : Bool) (r : List Item) → IsBranch b (branch_scripts (branches_of s)) → BranchFits is_loop (kind (op_of s)) c → Stands p hat (Then s (script_of r)) r w → Markers p hat r
      → Sits p hat clock next (settle (dos b ++ branch_marker is_loop s c w ∷ r) w)
  branch_legal End true s c w r one fit st m = record { legal = (again_held (kind (op_of s)) c fit, st, m); status = again_free s (kind (op_of s)) c r fit; kept = again_lasts (kind (op_of s)) c fit }
  branch_legal End false s c w r one fit st m = settle_legal r w (after_it s r w st m)
  branch_legal (Then x rest) true s c w r one fit st m =
      let i = into (Then x rest) s w (again_none s c fit) one in settle_legal _ w (entered_follows (Then x rest) (Again s c w) r w refl i.0 i.1 (fit, st, m))
  branch_legal (Then x rest) false s c w r one fit st m =
      let i = into (Then x rest) s w (kind_none s Choice fit refl) one in settle_legal _ w (entered_follows (Then x rest) (Branch s w) r w refl i.0 i.1 (fit, st, m))

  -- a statement yields, ticks or waits
  kept_legal : (s : Statement) (c : Context) (w : Bool) (r : List Item) → KeptFits clock (kind (op_of s)) c → Stands p hat (Then s (script_of r)) r w → Markers p hat r → Legal p hat clock (kept s c ∷ r) w
  kept_legal s Fresh w r fit st m = (st, m)
  kept_legal s (Repeat n) w r fit st m = (fit, st, m)
  kept_legal s (Wait d) w r fit st m = (fit, st, m)
  kept_legal s (Glide d) w r fit st m = (fit, st, m)
  kept_legal s (Started n) w r fit st m = (fit, st, m)
  kept_legal s Asked w r fit st m = (fit, st, m)
  kept_legal s Spoken w r fit st m = (fit, st, m)
  kept_legal s Called w r fit st m = absurd fit

  keeps_kept : (k : Kind) (c : Context) → Keeps clock k c → KeptFits clock k c
  keeps_kept k Fresh h = tt
  keeps_kept k (Repeat n) h = h
  keeps_kept k (Wait d) h = h
  keeps_kept k (Glide d) h = h
  keeps_kept k (Started n) h = h
  keeps_kept k Asked h = h
  keeps_kept k Spoken h = h
  keeps_kept k Called h = h

  kept_waits : (s : Statement) (c : Context) (r : List Item) → waits_for_promise (kept s c ∷ r) ≡ is_promise c
  kept_waits s Fresh r = refl
  kept_waits s (Repeat n) r = refl
  kept_waits s (Wait d) r = refl
  kept_waits s (Glide d) r = refl
  kept_waits s (Started n) r = refl
  kept_waits s Asked r = refl
  kept_waits s Spoken r = refl
  kept_waits s Called r = refl

  kept_started : (s : Statement) (c : Context) (r : List Item) → waits_for_started (kept s c ∷ r) ≡ is_started c
  kept_started s Fresh r = refl
  kept_started s (Repeat n) r = refl
  kept_started s (Wait d) r = refl
  kept_started s (Glide d) r = refl
  kept_started s (Started n) r = refl
  kept_started s Asked r = refl
  kept_started s Spoken r = refl
  kept_started s Called r = refl

  -- a procedure is called
  call_legal : (s : Statement) (q : Procedure) (params : Params) (w : Bool) (r : List Item) → called p s ≡ Some q → Fits params (Some q) → IsThen q.body → Stands p hat (Then s (script_of r)) r w → Markers p hat r
      → Legal p hat clock (dos q.body ++ Back s params w ∷ r) (w || q.warp)
  call_legal s q params w r e names first st m = first_legal q.body (Back s params w) r _ first (entered_follows q.body (Back s params w) r (w || q.warp) refl
      (subst (λ o. EndOfOne q.body (scripts_in o (branch_scripts (branches_of s)))) (sym e) (inl (ends_itself q.body)))
      (ap (λ o. warp_in o w) (sym e))
      (subst (Fits params) (sym e) names, st, m))

  if_running : (b : Bool) (items : List Item) → waits_for_promise items ≡ false → StatusFits (status_after (if b then Yielded else Go)) items
  if_running true items h = h
  if_running false items h = h

  entered_legal : (late : Bool) (s : Statement) (o : Option Procedure) (params : Params) (w : Bool) (r : List Item) → called p s ≡ o → Fits params o → Begins o → Stands p hat (Then s (script_of r)) r w → Markers p hat r
      → Sits p hat clock next (entered_some o late w s r params)
  entered_legal late s None params w r e fit first st m = absurd fit
  entered_legal late s (Some q) params w r e fit first st m = record {
    legal = call_legal s q params w r e fit first st m;
    status = if_running _ (dos q.body ++ Back s params w ∷ r) (first_free q.body (Back s params w ∷ r) first);
    kept = first_lasts q.body (Back s params w ∷ r) first;
  }

  -- every control keeps it
  pub position_legal : (late w : Bool) (s : Statement) (r : List Item) (x : Control) (c : Context) → Legal p hat clock (Do s ∷ r) w → ControlFits clock next (kind (op_of s)) (called p s) c x → Begins (called p s)
      → Sits p hat clock next (position p late w s r x c)
  position_legal late w s r Next c l fit first = settle_legal r w (after_it s r w l.0 l.1)
  position_legal late w s r (BranchControl n is_loop) c l fit first = branch_legal (branch_of n s) is_loop s c w r (branch_is (branch_name n) (branches_of s)) fit l.0 l.1
  position_legal late w s r Yield c l fit first = record { legal = kept_legal s c w r fit.0 l.0 l.1; status = kept_waits s c r ∙ fit.1; kept = kept_lasts s c r fit.2 }
  position_legal late w s r YieldTick c l fit first = record { legal = kept_legal s c w r (keeps_kept (kind (op_of s)) c fit.0) l.0 l.1; status = kept_started s c r ∙ fit.1; kept = kept_lasts s c r fit.2 }
  position_legal late w s r Promise c l fit first = record { legal = kept_legal s c w r (keeps_kept (kind (op_of s)) c fit.0) l.0 l.1; status = kept_waits s c r ∙ fit.1; kept = kept_lasts s c r (promise_lasts c fit.1) }
  position_legal late w s r (Call definition params) c l fit first = entered_legal late s (called p s) params w r refl fit.1 first l.0 l.1
  position_legal late w s r StopThis c l fit first = unwind_legal r l.1
  position_legal late w s r StopOthers c l fit first = settle_legal r w (after_it s r w l.0 l.1)
  position_legal late w s r StopAll c l fit first = record { legal = refl; status = refl; kept = tt }
  position_legal late w s r DeleteClone c l fit first = settle_legal r w (after_it s r w l.0 l.1)
  position_legal late w s r (Start hats wait) c l fit first = settle_legal r w (after_it s r w l.0 l.1)
  position_legal late w s r (Clone original) c l fit first = settle_legal r w (after_it s r w l.0 l.1)

  -- hats were started
  pub started_legal : (wait : Bool) (serials : List ℕ) (s : Statement) (w : Bool) (r : List Item) → Legal p hat clock (Do s ∷ r) w → StartFits wait (kind (op_of s)) → Each (λ n. n < next) serials
      → Sits p hat clock next (after_start wait serials s w r)
  started_legal true [] s w r l fit g = settle_legal r w (after_it s r w l.0 l.1)
  started_legal true (n ∷ ns) s w r l fit g = record { legal = ((fit, omega arith), l.0, l.1); status = refl; kept = g }
  started_legal false serials s w r l fit g = settle_legal r w (after_it s r w l.0 l.1)
