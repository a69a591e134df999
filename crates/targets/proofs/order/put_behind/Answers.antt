use Rattle.std.proofs.Common.{◌≡◌, ℕ, List, Some, None, get_or, sym, ap, ap₂, ◌∙◌}
use Rattle.std.specs.Prelude.{◌==◌}
use Rattle.std.specs.List.{position, insert, remove}
use Rattle.std.proofs.lemmas.List.{get_or_default}
use Rattle.machine_spec.specs.declared.instance.Instance.{Instance}
use Rattle.machine_spec.specs.Stopping.{inserted_behind}
use Rattle.targets.specs.Live.{numbers}
use Rattle.targets.proofs.Cast.{position-numbers}
use Rattle.targets.proofs.Moves.{numbers-insert, numbers-remove, get_or-numbers, inserted_behind_is, inserted_behind_none}
use Rattle.targets.proofs.order.put_behind.Goals as goal

pub returns-in-Some-clause-same : goal.returns-in-Some-clause-same
returns-in-Some-clause-same c =
    let left : c.remove-id.new.self.items ≡ numbers c.remove-instance.new.self.items =
    c.remove-id.ensures.items ∙ ap (λ (l : List ℕ). remove l c.args.from) c.requires.same ∙ sym (numbers-remove c.args.instances.now.items c.args.from) ∙ ap numbers (sym c.remove-instance.ensures.items) in
    let own : c.remove-id.result ≡ c.remove-instance.result.number =
    c.remove-id.ensures.value ∙ ap (λ (l : List ℕ). get_or l c.args.from c.remove-id.result) c.requires.same
    ∙ get_or-numbers c.args.instances.now.items c.args.from c.remove-id.result c.remove-instance.result c.requires.within
    ∙ ap (λ (i : Instance). i.number) (sym c.remove-instance.ensures.value) in
    c.put.ensures ∙ ap₂ (λ (l : List ℕ) (n : ℕ). insert l c.in-Some.to n) left own
    ∙ sym (numbers-insert c.remove-instance.new.self.items c.in-Some.to c.remove-instance.result)
    ∙ ap numbers (sym c.put-in-Some.ensures)

pub returns-in-Some-clause-put : goal.returns-in-Some-clause-put
returns-in-Some-clause-put c =
    let left : c.remove-id.new.self.items ≡ numbers c.remove-instance.new.self.items =
    c.remove-id.ensures.items ∙ ap (λ (l : List ℕ). remove l c.args.from) c.requires.same ∙ sym (numbers-remove c.args.instances.now.items c.args.from) ∙ ap numbers (sym c.remove-instance.ensures.items) in
    let found : position (λ (i : Instance). i.number == c.args.original) c.remove-instance.new.self.items ≡ Some c.in-Some.to =
    sym (position-numbers c.args.original c.remove-instance.new.self.items)
    ∙ ap (λ (l : List ℕ). position (λ n. n == c.args.original) l) (sym left ∙ sym c.as_slice.ensures.value) ∙ sym c.sought.ensures ∙ c.in-Some.is in
    λ d. c.put-in-Some.ensures
    ∙ sym (inserted_behind_is c.remove-instance.result c.args.original c.remove-instance.new.self.items c.in-Some.to found)
    ∙ ap₂ (λ (x : Instance) (l : List Instance). inserted_behind x c.args.original l)
    (c.remove-instance.ensures.value ∙ get_or_default c.args.instances.now.items c.args.from c.remove-instance.result d c.requires.within)
    c.remove-instance.ensures.items

pub returns-in-None-clause-same : goal.returns-in-None-clause-same
returns-in-None-clause-same c =
    c.remove-id.ensures.items ∙ ap (λ (l : List ℕ). remove l c.args.from) c.requires.same ∙ sym (numbers-remove c.args.instances.now.items c.args.from) ∙ ap numbers (sym c.remove-instance.ensures.items)

pub returns-in-None-clause-put : goal.returns-in-None-clause-put
returns-in-None-clause-put c =
    let left : c.remove-id.new.self.items ≡ numbers c.remove-instance.new.self.items =
    c.remove-id.ensures.items ∙ ap (λ (l : List ℕ). remove l c.args.from) c.requires.same ∙ sym (numbers-remove c.args.instances.now.items c.args.from) ∙ ap numbers (sym c.remove-instance.ensures.items) in
    let none : position (λ (i : Instance). i.number == c.args.original) c.remove-instance.new.self.items ≡ None =
    sym (position-numbers c.args.original c.remove-instance.new.self.items)
    ∙ ap (λ (l : List ℕ). position (λ n. n == c.args.original) l) (sym left ∙ sym c.as_slice.ensures.value) ∙ sym c.sought.ensures ∙ c.in-None.is in
    λ d. sym (inserted_behind_none (get_or c.args.instances.now.items c.args.from d) c.args.original c.remove-instance.new.self.items none)
    ∙ ap (λ (l : List Instance). inserted_behind (get_or c.args.instances.now.items c.args.from d) c.args.original l) c.remove-instance.ensures.items
