-- The block that a script of a target begins with.
use Rattle.std.proofs.Common.{◌≡◌, ℕ, zero, suc, ◌<◌, List, [], ◌∷◌, length, Option, Some, None, refl, sym, subst, arith}
use Rattle.std.specs.Prelude.{slice_get}
use Rattle.std.proofs.lemmas.Option.{slice_get_within}
use Rattle.machine_spec.specs.Script.{Script, Expression}
use Rattle.project_spec.specs.declared.blocks.Block.{Block}
use Rattle.project_spec.specs.Linked.{Behind, input_links, IsClosed}
use Rattle.project_spec.specs.Trees.{Sheet, expression, target_of_link, block_script, script_within, script}
use Rattle.project_spec.proofs.Unrolling.{next_leads, script-none}
use Rattle.thread_frames.specs.Fit.{IsHeld}
use Rattle.thread_frames.specs.Threads.{begins_with}

-- A block that is there

begins-held : (sheet : Sheet) (k : ℕ) (o : Option Block) (value : ℕ → Expression) (go : Option ℕ → Script) → slice_get sheet.blocks k ≡ o → k < length sheet.blocks → begins_with (block_script sheet k o value go) ≡ Some k
begins-held sheet k None value go e h = absurd (absent sheet.blocks k e h)
  where
    absent : (bs : List Block) (k : ℕ) → slice_get bs k ≡ None → k < length bs → ⊥
    absent [] k e h = omega (arith, h)
    absent (b ∷ bs) zero e h = cc e
    absent (b ∷ bs) (suc k) e h = absent bs k e (omega (arith, h))
begins-held sheet k (Some b) value go e h = refl

begins-within : (sheet : Sheet) (n : ℕ) (o : Option ℕ) → 0 < n → IsHeld sheet o → begins_with (script_within sheet n o) ≡ o
unfolding script_within
begins-within sheet zero o l h = absurd (omega (arith, l))
begins-within sheet (suc n) None l h = refl
begins-within sheet (suc n) (Some k) l h = begins-held sheet k (slice_get sheet.blocks k) (expression sheet) (script_within sheet n) refl h

-- the script at a link begins with its block
pub begins-script : (sheet : Sheet) (o : Option ℕ) → 0 < length sheet.blocks → IsHeld sheet o → begins_with (script sheet o) ≡ o
unfolding script
begins-script sheet o l h = begins-within sheet (length sheet.blocks) o l h

-- the block below a block is there
pub next-held : (sheet : Sheet) (k : ℕ) (b : Block) → IsClosed sheet.blocks → slice_get sheet.blocks k ≡ Some b → (o : Option ℕ) → target_of_link b.next ≡ o → IsHeld sheet o
next-held sheet k b closed h None e = tt
next-held sheet k b closed h (Some j) e = closed k j (record { block = b; place = Behind; held = h; link = next_leads b.next (input_links b) j e })

-- what is below a block begins with the block of its link
pub begins-next : (sheet : Sheet) (k : ℕ) (b : Block) → IsClosed sheet.blocks → slice_get sheet.blocks k ≡ Some b → begins_with (script sheet (target_of_link b.next)) ≡ target_of_link b.next
begins-next sheet k b closed h =
    let within = slice_get_within sheet.blocks k b h in
    begins-script sheet (target_of_link b.next) (omega (arith, within)) (next-held sheet k b closed h (target_of_link b.next) refl)

-- Any link

again-held : (sheet : Sheet) (k : ℕ) (o : Option Block) (go : Option ℕ → Script) → script sheet (Some k) ≡ block_script sheet k o (expression sheet) go → script sheet (begins_with (block_script sheet k o (expression sheet) go)) ≡ block_script sheet k o (expression sheet) go
again-held sheet k None go e = script-none sheet
again-held sheet k (Some b) go e = e

again-within : (sheet : Sheet) (n : ℕ) (o : Option ℕ) → script sheet o ≡ script_within sheet n o → script sheet (begins_with (script_within sheet n o)) ≡ script_within sheet n o
unfolding script_within
again-within sheet zero o e = script-none sheet
again-within sheet (suc n) None e = script-none sheet
again-within sheet (suc n) (Some k) e = again-held sheet k (slice_get sheet.blocks k) (script_within sheet n) e

script-is : (sheet : Sheet) (o : Option ℕ) → script sheet o ≡ script_within sheet (length sheet.blocks) o
unfolding script
script-is sheet o = refl

-- the script at a link is that of the block that it begins with
pub script-begins : (sheet : Sheet) (o : Option ℕ) → script sheet (begins_with (script sheet o)) ≡ script sheet o
script-begins sheet o =
    subst (λ t. script sheet (begins_with t) ≡ t) (sym (script-is sheet o)) (again-within sheet (length sheet.blocks) o (script-is sheet o))
