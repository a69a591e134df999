-- What each control does to the levels.
use Rattle.std.proofs.Common.{◌≡◌, ◌==◌, ℕ, Bool, true, false, List, ◌∷◌, ◌++◌, length, Option, Some, None, refl, sym, ap, ◌∙◌, subst, arith, inl, inr}
use Rattle.std.proofs.lemmas.Bool.{cases_Bool}
use Rattle.std.specs.Prelude.{is_some, slice_get, IfSome, ◌&&◌}
use Rattle.std.proofs.lemmas.Option.{slice_get_within}
use Rattle.machine_spec.specs.Script.{Script, Then, Statement, branch_of}
use Rattle.machine_spec.specs.Keeping.{is_called, is_calls, has_branches, may_wait, under_fits, top_fits}
use Rattle.machine_spec.specs.declared.threads.Context.{Context}
use Rattle.machine_spec.specs.declared.threads.Report.{Report}
use Rattle.machine_spec.specs.Pending.{Item, dos, settle, unwind, kept, branch_marker}
use Rattle.project_spec.specs.declared.blocks.Block.{Block}
use Rattle.project_spec.specs.Trees.{Sheet, target_of_link, script, statement}
use Rattle.project_spec.proofs.Unrolling.{script-at}
use Rattle.thread_frames.specs.declared.level.Level.{Level}
use Rattle.cached_blocks.specs.declared.block.CachedBlock.{CachedBlock}
use Rattle.cached_blocks.specs.Cached.{cached_block, cached_blocks}
use Rattle.cached_blocks.specs.Told.{IsLower, ScriptIsTold, LinksFall}
use Rattle.cached_blocks.proofs.Told.{held}
use Rattle.thread_frames.specs.Levels.{new_level, on_top, without_top, at_next, with_loop, with_context, unwound, top_block, warp_flag}
use Rattle.thread_frames.specs.Reading.{params_in, first_by, first_item, marker, beneath, pending}
use Rattle.thread_frames.specs.Fit.{kind_of, IsUnder, AllUnder, top_at, IsTop, IsHeld, LevelsFit, IsReadyAt}
use Rattle.thread_moves.specs.Ranked.{IsRanked}
use Rattle.thread_moves.specs.Standing.{IsAt, IsReadyUnless, is_ended, TopHolds, branch_link, IsCovered, emptied}
use Rattle.thread_moves.proofs.Fits.{fresh_top, both, branches_no_call, waits_no_call, waits_no_branch, top_called, top_loop, branch_mark, branch_called}
use Rattle.thread_moves.proofs.Items.{next_held, at_block, fresh_items, block_at_is}
use Rattle.thread_moves.proofs.Unwinds.{unwind_dos, unwound_report, unwound_is}

none_of : {X : Type 0} (o : Option X) → is_some o ≡ false → o ≡ None
none_of None h = refl
none_of (Some x) h = absurd (cc)

module _ (sheet : Sheet) (old : List Level) (k : ℕ) (ranked : IsRanked sheet) (th : TopHolds sheet old k) where
  abbrev pub b : Block
  b = th.block

  abbrev pub s : Statement
  s = statement sheet k th.block

  -- what follows the block
  abbrev pub r : List Item
  r = dos (script sheet (target_of_link th.block.next)) ++ beneath sheet (without_top old)

  pub r_is : r ≡ dos (script sheet (target_of_link th.block.next)) ++ beneath sheet th.under
  r_is = ap (λ o. dos (script sheet (target_of_link th.block.next)) ++ beneath sheet (without_top o)) th.is

  pub warp_is : warp_flag old ≡ th.top.warp
  warp_is = ap warp_flag th.is

  no_params : is_calls (kind_of b) ≡ false → is_some th.top.params ≡ false
  no_params e = th.params ∙ top_called th.before th.top.is_loop (kind_of b) th.fits e

  pub no_loop : has_branches (kind_of b) ≡ false → th.top.is_loop ≡ false
  no_loop e = top_loop th.before th.top.is_loop (kind_of b) th.fits e

  -- the statement and what follows it, however they are told
  pub told : (f : Statement → List Item → Rattle.machine_spec.specs.Pending.Position) (new : List Level) (report : Report) → IsAt sheet (f s r) new report
      → (t : Statement) (rest : Script) → script sheet (Some k) ≡ Then t rest → IsAt sheet (f t (dos rest ++ beneath sheet (without_top old))) new report
  told f new report at t rest e =
      let both_are : Then s (script sheet (target_of_link th.block.next)) ≡ Then t rest = sym (script-at sheet ranked.ranks ranked.falls k th.block th.found) ∙ e in
      let first : s ≡ t = cc both_are in
      let after : script sheet (target_of_link th.block.next) ≡ rest = cc both_are in
      subst (λ x. IsAt sheet x new report) (λ i. f (first i) (dos (after i) ++ beneath sheet (without_top old))) at

  -- Next
  pub next_is : (mid : List Level) → mid ≡ on_top (at_next (target_of_link th.block.next)) old → LevelsFit sheet mid × (settle (pending sheet mid) (warp_flag mid) ≡ settle r (warp_flag old))
  next_is mid e =
      let n : Option ℕ = target_of_link th.block.next in
      let m : mid ≡ at_next n th.top ∷ th.under = e ∙ ap (on_top (at_next n)) th.is in
      let next = next_held sheet k th.block ranked th.found in (
        subst (LevelsFit sheet) (sym m) (fresh_top sheet n th.top.warp next, th.below),
        ap (λ o. settle (pending sheet o) (warp_flag o)) m
            ∙ ap (λ x. settle (x ++ beneath sheet th.under) th.top.warp) (fresh_items sheet n ranked next)
            ∙ ap (λ x. settle x th.top.warp) (sym r_is)
            ∙ ap (λ x. settle r x) (sym warp_is),
      )

  -- and no block follows
  pub next_covers : target_of_link th.block.next ≡ None → IsCovered sheet (emptied old) × (settle (pending sheet (emptied old)) (warp_flag (emptied old)) ≡ settle r (warp_flag old))
  next_covers none =
      let next = next_is (emptied old) (ap (λ n. on_top (at_next n) old) (sym none)) in (
        record { fit = next.0; there = omega (arith, ap (λ ls. length (emptied ls)) th.is); empty = ap (λ ls. top_block (emptied ls)) th.is },
        next.1,
      )

  -- a level is pushed on this one, which is now l
  pub pushed : (mid : List Level) (first : Option ℕ) (w : Bool) (l : Level) (m : Item) → mid ≡ new_level first w ∷ l ∷ th.under → IsHeld sheet first → l.block ≡ Some k → under_fits l.context l.is_loop (kind_of b) ≡ true → is_some l.params ≡ is_called l.context → marker l s ≡ m → LevelsFit sheet mid × (warp_flag mid ≡ w) × (pending sheet mid ≡ dos (script sheet first) ++ m ∷ r)
  pushed mid first w l m is first_held holds fits params marker_is =
      let under : IsUnder sheet l = record { id = k; block = b; holds = holds; found = th.found; fits = fits; params = params } in (
        subst (LevelsFit sheet) (sym is) (fresh_top sheet first w first_held, (under, th.below)),
        ap warp_flag is,
        ap (pending sheet) is
            ∙ ap (λ x. x ++ beneath sheet (l ∷ th.under)) (fresh_items sheet first ranked first_held)
            ∙ ap (λ x. dos (script sheet first) ++ (x ++ beneath sheet th.under)) (at_block sheet (marker l) l.block k b holds th.found)
            ∙ ap (λ x. dos (script sheet first) ++ x ∷ (dos (script sheet (target_of_link th.block.next)) ++ beneath sheet th.under)) marker_is
            ∙ ap (λ x. dos (script sheet first) ++ m ∷ x) (sym r_is),
      )

  -- Branch
  pub branch_is : (mid : List Level) (n : ℕ) (first : Option ℕ) (m w : Bool) (c : Context) → (has_branches (kind_of b) && under_fits c m (kind_of b)) ≡ true → w ≡ warp_flag old → branch_of n s ≡ script sheet first → IsHeld sheet first → mid ≡ new_level first w ∷ on_top (with_context c) (on_top (with_loop m) old) → LevelsFit sheet mid × (settle (pending sheet mid) (warp_flag mid) ≡ settle (dos (branch_of n s) ++ branch_marker m s c (warp_flag old) ∷ r) (warp_flag old))
  branch_is mid n first m w c fits warps branch_told first_held e =
      let (br, fit) = both (has_branches (kind_of b)) (under_fits c m (kind_of b)) fits in
      let l : Level = with_context c (with_loop m th.top) in
      let mark : Item = branch_marker m s c (warp_flag old) in
      let mark_is : marker l s ≡ mark = branch_mark c m (kind_of b) (params_in l) th.top.warp s fit br ∙ ap (branch_marker m s c) (sym warp_is) in
      let none : is_some th.top.params ≡ is_called c = no_params (branches_no_call (kind_of b) br) ∙ sym (branch_called c m (kind_of b) fit br) in
      let is = pushed mid first w l mark (e ∙ ap (λ o. new_level first w ∷ on_top (with_context c) (on_top (with_loop m) o)) th.is) first_held th.holds fit none mark_is in (
        is.0,
        ap (λ x. settle x (warp_flag mid)) is.2
            ∙ ap (λ t. settle (dos t ++ mark ∷ r) (warp_flag mid)) (sym branch_told)
            ∙ ap (λ x. settle (dos (branch_of n s) ++ mark ∷ r) x) (is.1 ∙ warps),
      )

  -- Yield, YieldTick, Promise
  pub stay_is : (mid : List Level) (c : Context) (report : Report) → mid ≡ on_top (with_context c) old → (may_wait (kind_of b) && top_fits c false (kind_of b)) ≡ true → is_ended report ≡ false → IsAt sheet (record { items = kept s c ∷ r; warp = warp_flag old; report = report }) mid report
  stay_is mid c report e fits on =
      let (waits, fit) = both (may_wait (kind_of b)) (top_fits c false (kind_of b)) fits in
      let l : Level = with_context c th.top in
      let is : mid ≡ l ∷ th.under = e ∙ ap (on_top (with_context c)) th.is in
      let no_call = waits_no_call (kind_of b) waits in
      let loop = no_loop (waits_no_branch (kind_of b) waits) in
      let no = no_params no_call in
      let not_called : is_called c ≡ false = top_called c false (kind_of b) fit no_call in
      let top : IsTop sheet l = record {
        held = subst (IsHeld sheet) (sym th.holds) (slice_get_within sheet.blocks k b th.found);
        fits = ap (λ o. top_at o c th.top.is_loop) (block_at_is sheet th.top.block k b th.holds th.found) ∙ ap (λ x. top_fits c x (kind_of b)) loop ∙ fit;
        params = no ∙ sym not_called;
      } in
      record {
        items =
            ap (pending sheet) is
            ∙ ap (λ x. x ++ beneath sheet th.under) (at_block sheet (first_item l) l.block k b th.holds th.found)
            ∙ ap (λ x. first_by x c (params_in l) s ∷ (dos (script sheet (target_of_link th.block.next)) ++ beneath sheet th.under)) loop
            ∙ ap (λ x. x ∷ (dos (script sheet (target_of_link th.block.next)) ++ beneath sheet th.under)) (plain_kept c (params_in l) not_called)
            ∙ ap (λ x. kept s c ∷ x) (sym r_is);
        warp = ap warp_flag is ∙ sym warp_is;
        report_is = refl;
        ready = subst (λ x. IsReadyUnless x sheet mid) (sym on) (subst (IsReadyAt sheet) (sym is) (record { fit = (top, th.below); holds = ap is_some th.holds }));
      }
    where
      plain_kept : (c : Context) (ps : Rattle.machine_spec.specs.Threads.Params) → is_called c ≡ false → first_by false c ps s ≡ kept s c
      plain_kept Rattle.machine_spec.specs.declared.threads.Context.TheVariants.Called ps h = absurd (cc)
      plain_kept c ps h = refl

  pub top_stacked : AllUnder sheet (without_top old)
  top_stacked = subst (λ o. AllUnder sheet (without_top o)) (sym th.is) th.below

  -- StopThis
  pub unwound_to : (new : List Level) (report : Report) → new ≡ unwound old → report ≡ unwound_report new → IsAt sheet (unwind r) new report
  unwound_to new report e h =
      subst (λ x. IsAt sheet (unwind r) new x) (sym h)
      (subst (λ x. IsAt sheet (unwind r) x (unwound_report x)) (sym e)
      (subst (λ x. IsAt sheet x (unwound old) (unwound_report (unwound old))) (sym (unwind_dos (script sheet (target_of_link th.block.next)) (beneath sheet (without_top old)))) (unwound_is sheet (without_top old) top_stacked)))

  -- the block as executions need it
  pub cached_is : (c : CachedBlock) → slice_get (cached_blocks sheet) k ≡ Some c → c ≡ cached_block sheet k th.block
  cached_is c h =
      let found = held sheet k c h in
      let same : found.0 ≡ th.block = let f = found.1 in let g = th.found in cc in
      found.2 ∙ ap (cached_block sheet k) same

  pub cached : (P : CachedBlock → Type 0) (c : CachedBlock) → slice_get (cached_blocks sheet) k ≡ Some c → ((x : CachedBlock) → slice_get (cached_blocks sheet) k ≡ Some x → P x) → P (cached_block sheet k th.block)
  cached P c h all = subst P (cached_is c h) (all c h)

  -- the branches of the block
  by_number : (n : ℕ) (c : CachedBlock) → branch_of 1 s ≡ script sheet c.first → branch_of 2 s ≡ script sheet c.second → branch_of n s ≡ script sheet (branch_link n c)
  by_number n c one two = elim (cases_Bool (n == 1)) [
    | inl y ↦ rw y one
    | inr o ↦ rw o two
  ]

  pub branch_told : ScriptIsTold → (n : ℕ) (c : CachedBlock) → slice_get (cached_blocks sheet) k ≡ Some c → branch_of n s ≡ script sheet (branch_link n c)
  branch_told law n c h =
      let told_is = law sheet ranked.ranks k c ranked.falls ranked.closed h in
      let both_are : Then told_is.0 (script sheet c.next) ≡ Then s (script sheet (target_of_link th.block.next)) = sym told_is.1 ∙ script-at sheet ranked.ranks ranked.falls k th.block th.found in
      let same : told_is.0 ≡ s = cc both_are in
      by_number n c (ap (branch_of 1) (sym same) ∙ told_is.2.first) (ap (branch_of 2) (sym same) ∙ told_is.2.second)

  lower_held : (o : Option ℕ) → IfSome o (IsLower ranked.ranks k) → IsHeld sheet o
  lower_held None h = tt
  lower_held (Some j) h = omega (arith, h.within, ranked.falls.each)

  held_by : (n : ℕ) (c : CachedBlock) → IsHeld sheet c.first → IsHeld sheet c.second → IsHeld sheet (branch_link n c)
  held_by n c one two = elim (cases_Bool (n == 1)) [
    | inl y ↦ rw y one
    | inr o ↦ rw o two
  ]

  pub branch_held : LinksFall → (n : ℕ) (c : CachedBlock) → slice_get (cached_blocks sheet) k ≡ Some c → IsHeld sheet (branch_link n c)
  branch_held law n c h =
      let links = law sheet ranked.ranks k c ranked.falls ranked.closed h in
      held_by n c (lower_held c.first links.first) (lower_held c.second links.second)
