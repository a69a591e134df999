-- Blocks in chains, link by link, and in the branches of a block, input by input.
use Rattle.std.proofs.Common.{◌≡◌, ℕ, zero, suc, ◌<◌, ◌==◌, false, List, length, Option, Some, None, refl, sym, ap, ◌∙◌, arith}
use Rattle.std.specs.Prelude.{slice_get, slice_index, if◌then◌else◌}
use Rattle.std.proofs.lemmas.Bool.Decides.{Decides-eqb}
use Rattle.machine_spec.specs.Script.{Script, End, Then, Statement}
use Rattle.project_spec.specs.declared.blocks.Block.{Block}
use Rattle.project_spec.specs.Linked.{Behind, input_links, AreRanks}
use Rattle.project_spec.specs.Trees.{Sheet, script, script_within, statement, target_of_link}
use Rattle.project_spec.proofs.Unrolling.{script-none, script-at, falls, next_leads}
use Rattle.saved_spec.specs.Levels.{script_from}
use Rattle.saved_levels.specs.Found.{Finds}

-- A chain

within_absent : (sheet : Sheet) (n : ℕ) (k : ℕ) → slice_get sheet.blocks k ≡ None → script_within sheet n (Some k) ≡ End
unfolding script_within
within_absent sheet zero k e = refl
within_absent sheet (suc n) k e = rw e refl

script-absent : (sheet : Sheet) (k : ℕ) → slice_get sheet.blocks k ≡ None → script sheet (Some k) ≡ End
unfolding script
script-absent sheet k e = within_absent sheet (length sheet.blocks) k e

module _ (sheet : Sheet) (wanted : ℕ) (whole : Option Script) where
  pub ends_none : script_from wanted (script sheet None) ≡ whole → Finds sheet wanted whole None
  ends_none e = sym e ∙ ap (script_from wanted) (script-none sheet)

  pub ends_absent : (k : ℕ) → slice_get sheet.blocks k ≡ None → script_from wanted (script sheet (Some k)) ≡ whole → Finds sheet wanted whole None
  ends_absent k none e = sym e ∙ ap (script_from wanted) (script-absent sheet k none)

  module _ (ranks : List ℕ) (ranked : AreRanks sheet.blocks ranks) (k : ℕ) (b : Block) (held : slice_get sheet.blocks k ≡ Some b) (e : script_from wanted (script sheet (Some k)) ≡ whole) where
    abbrev here : Statement
    here = statement sheet k b

    abbrev rest : Script
    rest = script sheet (target_of_link b.next)

    unrolled : (if k == wanted then Some (Then here rest) else script_from wanted rest) ≡ whole
    unrolled = ap (script_from wanted) (sym (script-at sheet ranks ranked k b held)) ∙ e

    pub finds_here : k ≡ wanted → Finds sheet wanted whole (Some k)
    finds_here at = record {
      block = b;
      held = held;
      same = at;
      script = sym unrolled ∙ ap (λ c. if c then Some (Then here rest) else script_from wanted rest) ((Decides-eqb k wanted).1 at);
    }

    pub goes_on : (k == wanted) ≡ false → script_from wanted (script sheet (target_of_link b.next)) ≡ whole
    goes_on off = ap (λ c. if c then Some (Then here rest) else script_from wanted rest) (sym off) ∙ unrolled

-- how many links may be left
abbrev pub left_at : List ℕ → Option ℕ → ℕ
left_at ranks None = 0
left_at ranks (Some k) = suc (slice_index ranks k)

pub fewer_left : (sheet : Sheet) (ranks : List ℕ) → AreRanks sheet.blocks ranks → (k : ℕ) (b : Block) → slice_get sheet.blocks k ≡ Some b → (o : Option ℕ) → o ≡ target_of_link b.next → left_at ranks o < left_at ranks (Some k)
fewer_left sheet ranks ranked k b held None e = omega arith
fewer_left sheet ranks ranked k b held (Some j) e = let f = falls sheet ranks ranked k j b Behind held (next_leads b.next (input_links b) j (sym e)) in omega arith
