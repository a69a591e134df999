use Rattle.std.proofs.Common.{◌≡◌, is_some, ap, sym, ◌∙◌}
use Rattle.std.specs.Prelude.{Some, chars, slice_get}
use Rattle.machine_spec.specs.declared.devices.Key.TheVariants.{One}
use Rattle.machine_spec.proofs.OneKey.{key_past_char, many_keys, white_key, only_key, key_is}
use Rattle.machine_spec.proofs.key_names.of_one.Goals as goal
use Rattle.machine_spec.proofs.key_names.of_one.Goals.{then-is_some-via-then-is_some, then-is_some-via-else-is_some+then-is_whitespace}

pub returns-then-is_some : goal.returns-then-is_some
returns-then-is_some c =
    let past = key_past_char c.args.text.now c.next.new.self.rest.now c.in-Some.first c.utf8.text (sym c.chars-characters.ensures.rest ∙ c.in-Some.ensures.steps.0) in
    let others : is_some (slice_get (chars c.next.new.self.rest.now) 0) ≡ c.is_some.result = sym (c.is_some.ensures ∙ ap is_some c.next-2.ensures.steps.2) in
    elim c.then-is_some.branch [
      | then-is_some-via-then-is_some w ↦ sym (past ∙ many_keys c.in-Some.first (chars c.next.new.self.rest.now) (others ∙ w.if-is_some.true))
      | then-is_some-via-else-is_some+then-is_whitespace w ↦ sym (past ∙ white_key c.in-Some.first (chars c.next.new.self.rest.now) (sym w.is_whitespace.ensures ∙ w.if-is_whitespace.true))
    ]

pub returns : goal.returns
returns c =
    let past = key_past_char c.args.text.now c.next.new.self.rest.now c.in-Some.first c.utf8.text (sym c.chars-characters.ensures.rest ∙ c.in-Some.ensures.steps.0) in
    let others : is_some (slice_get (chars c.next.new.self.rest.now) 0) ≡ c.is_some.result = sym (c.is_some.ensures ∙ ap is_some c.next-2.ensures.steps.2) in
    let only = only_key c.in-Some.first (chars c.next.new.self.rest.now) (others ∙ c.if-is_some.false) in
    sym (past ∙ only ∙ key_is c.in-Some.first (sym c.is_whitespace.ensures ∙ c.if-is_whitespace.false) ∙ ap (λ k. Some (One k)) (sym c.to_ascii_uppercase.ensures.value))
