-- What is pending at a level whose block is known.
use Rattle.std.proofs.Common.{◌≡◌, ℕ, Bool, true, false, List, ◌∷◌, Option, Some, None, refl, sym, ap, ◌∙◌, subst}
use Rattle.std.specs.Prelude.{slice_get}
use Rattle.std.proofs.lemmas.Option.{slice_get_within}
use Rattle.machine_spec.specs.Script.{Statement}
use Rattle.machine_spec.specs.Threads.{Params}
use Rattle.machine_spec.specs.declared.threads.Context.{Context}
use Rattle.machine_spec.specs.declared.threads.Context.TheVariants.{Fresh, Repeat, Wait, Glide, Started, Asked, Spoken, Called}
use Rattle.machine_spec.specs.declared.threads.Report.TheVariants.{Go}
use Rattle.machine_spec.specs.Pending.{Item, Do, Held, Returned, dos, settle}
use Rattle.project_spec.specs.declared.blocks.Block.{Block}
use Rattle.project_spec.specs.Linked.{Behind}
use Rattle.project_spec.specs.Trees.{Sheet, target_of_link, script, statement}
use Rattle.project_spec.proofs.Unrolling.{script-none, script-at, held_at, next_leads, within}
use Rattle.thread_frames.specs.declared.level.Level.{Level}
use Rattle.thread_frames.specs.Reading.{first_by, plain_marker, block_items, items_at}
use Rattle.thread_frames.specs.Fit.{IsUnder, block_at, top_at, kind_of, IsHeld, IsTop}
use Rattle.thread_moves.specs.Ranked.{IsRanked}
use Rattle.thread_moves.proofs.Fits.{under_top}

-- the item of a block in front is to be done, is held, or has returned
pub first_is : (P : Item → Type 0) (m : Bool) (c : Context) (ps : Params) (s : Statement) → P (Do s) → ((k : Context) → P (Held s k)) → P (Returned s ps) → P (first_by m c ps s)
first_is P true c ps s d h r = h c
first_is P false Fresh ps s d h r = d
first_is P false (Repeat n) ps s d h r = h (Repeat n)
first_is P false (Wait k) ps s d h r = h (Wait k)
first_is P false (Glide k) ps s d h r = h (Glide k)
first_is P false (Started ns) ps s d h r = h (Started ns)
first_is P false Asked ps s d h r = h Asked
first_is P false Spoken ps s d h r = h Spoken
first_is P false Called ps s d h r = r

-- where a statement is first, nothing is dropped
pub settle_first : (m : Bool) (c : Context) (ps : Params) (s : Statement) (r : List Item) (w : Bool) → settle (first_by m c ps s ∷ r) w ≡ record { items = first_by m c ps s ∷ r; warp = w; report = Go }
settle_first m c ps s r w = first_is (λ x. settle (x ∷ r) w ≡ record { items = x ∷ r; warp = w; report = Go }) m c ps s refl (λ k. refl) refl

-- a marker that is no loop is dropped
pub settle_plain : (c : Context) (ps : Params) (s : Statement) (v w : Bool) (r : List Item) → settle (plain_marker c ps v s ∷ r) w ≡ settle r v
settle_plain Called ps s v w r = refl
settle_plain Fresh ps s v w r = refl
settle_plain (Repeat n) ps s v w r = refl
settle_plain (Wait k) ps s v w r = refl
settle_plain (Glide k) ps s v w r = refl
settle_plain (Started ns) ps s v w r = refl
settle_plain Asked ps s v w r = refl
settle_plain Spoken ps s v w r = refl

-- the next block is one of the target's
pub next_held : (sheet : Sheet) (k : ℕ) (b : Block) → IsRanked sheet → slice_get sheet.blocks k ≡ Some b → IsHeld sheet (target_of_link b.next)
next_held sheet k b ranked found = go (target_of_link b.next) refl
  where
    go : (o : Option ℕ) → target_of_link b.next ≡ o → IsHeld sheet o
    go None e = tt
    go (Some j) e = within sheet ranked.ranks ranked.falls ranked.closed k j b Behind found (next_leads b.next _ j e)

-- the items of a level that holds a block
pub at_block : (sheet : Sheet) (f : Statement → Item) (o : Option ℕ) (k : ℕ) (b : Block) → o ≡ Some k → slice_get sheet.blocks k ≡ Some b → items_at sheet f o ≡ f (statement sheet k b) ∷ dos (script sheet (target_of_link b.next))
at_block sheet f o k b h e = ap (items_at sheet f) h ∙ ap (block_items sheet f k) e

-- where nothing was executed yet, each statement is to be done
pub fresh_items : (sheet : Sheet) (o : Option ℕ) → IsRanked sheet → IsHeld sheet o → items_at sheet (λ s. Do s) o ≡ dos (script sheet o)
fresh_items sheet None ranked h = ap dos (sym (script-none sheet))
fresh_items sheet (Some k) ranked h =
    let (b, e) = held_at sheet.blocks k h in
    ap (block_items sheet (λ s. Do s) k) e ∙ ap dos (sym (script-at sheet ranked.ranks ranked.falls k b e))

pub under_held : (sheet : Sheet) (l : Level) → IsUnder sheet l → IsHeld sheet l.block
under_held sheet l u = subst (IsHeld sheet) (sym u.holds) (slice_get_within sheet.blocks u.id u.block u.found)

pub block_at_is : (sheet : Sheet) (o : Option ℕ) (k : ℕ) (b : Block) → o ≡ Some k → slice_get sheet.blocks k ≡ Some b → block_at sheet o ≡ Some b
block_at_is sheet o k b h e = ap (block_at sheet) h ∙ e

pub under_is_top : (sheet : Sheet) (l : Level) → IsUnder sheet l → IsTop sheet l
under_is_top sheet l u = record {
  held = under_held sheet l u;
  fits = ap (λ o. top_at o l.context l.is_loop) (block_at_is sheet l.block u.id u.block u.holds u.found) ∙ under_top l.context l.is_loop (kind_of u.block) u.fits;
  params = u.params;
}
