use Rattle.std.proofs.Common.{◌≡◌, ℕ, ◌≤◌, Option, List, ◌++◌, length, take, drop, ap, sym, ◌∙◌, subst, arith, append_assoc, length-append, take-append-drop}
use Rattle.std.proofs.KnownBytes.{Appends-trans, Appends-kept}
use Rattle.std.proofs.Math.Seq.{take-append_seam}
use Rattle.std.proofs.lemmas.List.{take_rest}
use Rattle.std.specs.Io.KnownBytes.{Appends}
use Rattle.sv_channels.proofs.transfer.write_whole.Goals as goal

-- what was written before the rest is a first part of the whole
first_part : (old new : Option (List ℕ)) (done rest bytes : List ℕ) → done ++ rest ≡ bytes → Appends old new done → (count : ℕ) × (count ≤ length bytes) × Appends old new (take count bytes)
first_part old new done rest bytes joined appended =
    let front : take (length done) bytes ≡ done = ap (take (length done)) (sym joined) ∙ take-append_seam done rest in
    (length done, omega (arith, ap length joined, length-append done rest), subst (Appends old new) (sym front) appended)

-- the bytes that the writer took join those that it had taken
pub loop-preserved : goal.loop-preserved
loop-preserved g c =
    let done = c.loop.invariant.0 in
    let rest = c.loop.rest.now in
    let count = c.in-Ok.count in (
      done ++ take count rest,
      ap (λ left. done ++ take count rest ++ left) (take_rest rest count)
          ∙ append_assoc done (take count rest) (drop count rest)
          ∙ ap (λ bytes. done ++ bytes) (take-append-drop count rest)
          ∙ c.loop.invariant.1,
      Appends-trans _ _ _ done (take count rest) c.loop.invariant.2 c.in-Ok.ensures.bytes,
    )

-- the writer took none
pub returns-in_default-clause-part : goal.returns-in_default-clause-part
returns-in_default-clause-part g c =
    let done = c.loop.invariant.0 in
    let rest = c.loop.rest.now in
    let count = c.in-Ok.count in
    first_part _ _ (done ++ take count rest) (drop count rest) c.args.bytes.now
    (append_assoc done (take count rest) (drop count rest) ∙ ap (λ bytes. done ++ bytes) (take-append-drop count rest) ∙ c.loop.invariant.1)
    (Appends-trans _ _ _ done (take count rest) c.loop.invariant.2 c.in-Ok.ensures.bytes)

-- the writer failed
pub returns-in_default-2-clause-part : goal.returns-in_default-2-clause-part
returns-in_default-2-clause-part g c =
    first_part _ _ c.loop.invariant.0 c.loop.rest.now c.args.bytes.now c.loop.invariant.1
    (Appends-kept _ _ _ c.loop.invariant.0 c.loop.invariant.2 c.in_default.ensures.bytes)

-- no turn is left
pub returns-clause-part : goal.returns-clause-part
returns-clause-part g c = first_part _ _ c.loop.invariant.0 c.loop.rest.now c.args.bytes.now c.loop.invariant.1 c.loop.invariant.2
