use Rattle.std.proofs.Common.{◌≡◌, List, ℕ, ◌++◌, OnOk, sym, subst}
use Rattle.made_texts.proofs.Copies.{copy_with, copy-copy_with}
use Rattle.made_texts.proofs.project.push_copy.Goals as goal

pub returns : goal.returns
returns c =
    let P : List ℕ → Type 0 = λ s. OnOk c.push_all.result (c.push_all.new.out.items ≡ c.args.out.now.items ++ s) in
    let Q : List ℕ → Type 0 = λ d. P (copy_with d) in
    subst P (sym (copy-copy_with c.args.number)) (subst Q c.format-number.ensures.text c.push_all.ensures)
