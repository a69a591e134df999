use Rattle.std.proofs.Common.{rules, ◌≡◌, ℕ, true, false, Ok, subst, ◌+◌, ◌-◌, List, [], ◌∷◌, ◌++◌, length, map, sym, ap, ◌∙◌, arith}
use Rattle.std.proofs.lemmas.Result.{err_from_is_err_and}
use Rattle.std.proofs.lemmas.List.{map_push}
use Rattle.project_json.proofs.Utf8.{to_utf8, from_utf8, item_rest, member_rest, name_rest, skip_past, drop_past}
use Rattle.project_json.specs.View.{tree, field}
use Rattle.project_json.specs.Reading.{name_at, value_at, with_items, skip, items_at, item_at, member_at, members_at}
use Rattle.project_json.specs.Tree.{Tree}
use Rattle.project_json.proofs.Lists.{items_stop, items_end, items_go_on, members_stop, members_end, members_go_on}
use Rattle.project_json.proofs.reader.+value.Goals as goal

pub items-returns-in_err-item : goal.items-returns-in_err-item
items-returns-in_err-item t c =
    let p = err_from_is_err_and c.from_residual.result c.from_residual.ensures.1 in
    let n = length c.args.bytes.now in
    rw (p.1, p.2) (items_stop c.in_err-item.field-0.0 (value_at c.args.depth) (map tree c.loop.items.items) (n - (c.loop.counter + 1)) (n - c.loop.counter) c.loop.rest.now _ (omega arith) c.in_err-item.ensures c.loop.invariant.read)

pub items-returns-then-not-has_more : goal.items-returns-then-not-has_more
items-returns-then-not-has_more t c =
    let n = length c.args.bytes.now in
    let value = value_at c.args.depth in
    let last = tree c.in_ok-item.item in
    let rest = c.in_ok-item.after.now in
    let e : map tree c.push.new.self.items ≡ map tree c.loop.items.items ++ last ∷ [] = rw c.in_ok-push.ensures.items (map_push _ c.loop.items.items c.in_ok-item.item) in
    let h : item_at value c.loop.rest.now ≡ Ok ((last, false), rest) = subst (λ b. item_at value c.loop.rest.now ≡ Ok ((last, b), rest)) c.if-not-has_more.true c.in_ok-item.ensures in
    sym c.loop.invariant.read
    ∙ items_end value (map tree c.loop.items.items) (n - (c.loop.counter + 1)) (n - c.loop.counter) c.loop.rest.now last rest (omega arith) h
    ∙ ap (λ (xs : List Tree). Ok (xs, rest)) (sym e)

pub items-loop-preserved : goal.items-loop-preserved
items-loop-preserved t c =
    let n = length c.args.bytes.now in
    let value = value_at c.args.depth in
    let last = tree c.in_ok-item.item in
    let rest = c.in_ok-item.after.now in
    let e : map tree c.push.new.self.items ≡ map tree c.loop.items.items ++ last ∷ [] = rw c.in_ok-push.ensures.items (map_push _ c.loop.items.items c.in_ok-item.item) in
    let h : item_at value c.loop.rest.now ≡ Ok ((last, true), rest) = subst (λ b. item_at value c.loop.rest.now ≡ Ok ((last, b), rest)) c.if-not-has_more.false c.in_ok-item.ensures in
    record {
      utf8 = to_utf8 _ (item_rest c.args.depth c.loop.rest.now last true rest h (from_utf8 c.loop.rest.now c.loop.invariant.utf8));
      read = ap (λ xs. with_items xs (items_at value (n - (c.loop.counter + 1)) rest)) e
          ∙ items_go_on value (map tree c.loop.items.items) (n - (c.loop.counter + 1)) (n - c.loop.counter) c.loop.rest.now last rest (omega arith) h
          ∙ c.loop.invariant.read;
    }

pub members-returns-in_err-name : goal.members-returns-in_err-name
members-returns-in_err-name t c =
    let p = err_from_is_err_and c.from_residual.result c.from_residual.ensures.1 in
    let n = length c.args.bytes.now in
    rw (p.1, p.2) (members_stop c.in_err-name.field-0.0 (value_at c.args.depth) (map field c.loop.list.members.items) (n - (c.loop.counter + 1)) (n - c.loop.counter) c.loop.rest.now _ (omega arith) c.in_err-name.ensures c.loop.invariant.read)

pub members-returns-then-not-has_more : goal.members-returns-then-not-has_more
members-returns-then-not-has_more t c =
    let n = length c.args.bytes.now in
    let value = value_at c.args.depth in
    let name = c.in_ok-name.name in
    let last = tree c.in_ok-name.value in
    let rest = c.in_ok-name.after.now in
    let h : member_at value c.loop.rest.now ≡ Ok (((name, last), false), rest) = subst (λ b. member_at value c.loop.rest.now ≡ Ok (((name, last), b), rest)) c.if-not-has_more.true c.in_ok-name.ensures in
    sym c.loop.invariant.read
    ∙ members_end value (map field c.loop.list.members.items) (n - (c.loop.counter + 1)) (n - c.loop.counter) c.loop.rest.now name last rest (omega arith) h
    ∙ ap (λ (ms : List (List ℕ × Tree)). Ok (ms, rest)) (sym (ap (map field) c.into_members.ensures ∙ c.in_ok-list.ensures))

pub item-value-requires : goal.item-value-requires
item-value-requires t c = (search rules, skip_past c.args.bytes.now c.skip.result.now c.skip.ensures c.requires)

pub list-items-requires : goal.list-items-requires
list-items-requires t c = (search rules, skip_past c.args.bytes.now c.in_ok-is_empty.rest.now (c.in_ok-is_empty.ensures.skipped c.if-is_empty.false) c.requires)

pub object-members-requires : goal.object-members-requires
object-members-requires t c = (search rules, skip_past c.args.bytes.now c.in_ok-is_empty.rest.now (c.in_ok-is_empty.ensures.skipped c.if-is_empty.false) c.requires)

pub member-name_of-requires : goal.member-name_of-requires
member-name_of-requires t c = skip_past c.args.bytes.now c.skip.result.now c.skip.ensures c.requires

pub value-chars_of-requires : goal.value-chars_of-requires
value-chars_of-requires t c = drop_past c.args.bytes.now (omega arith) (omega arith) c.requires

pub value-list-requires : goal.value-list-requires
value-list-requires t c = (search rules, drop_past c.args.bytes.now (omega arith) (omega arith) c.requires)

pub value-object-requires : goal.value-object-requires
value-object-requires t c = (search rules, drop_past c.args.bytes.now (omega arith) (omega arith) c.requires)

pub member-value-requires : goal.member-value-requires
member-value-requires t c =
    let h : name_at (skip c.args.bytes.now) ≡ Ok (c.in_ok-name.name, c.in_ok-name.rest.now) = subst (λ bs. name_at bs ≡ Ok (c.in_ok-name.name, c.in_ok-name.rest.now)) c.skip.ensures c.in_ok-name.ensures in
    (search rules, skip_past c.in_ok-name.rest.now c.skip-2.result.now c.skip-2.ensures (to_utf8 c.in_ok-name.rest.now (name_rest c.args.bytes.now c.in_ok-name.name c.in_ok-name.rest.now h (from_utf8 c.args.bytes.now c.requires))))

pub members-loop-preserved : goal.members-loop-preserved
members-loop-preserved t c =
    let n = length c.args.bytes.now in
    let value = value_at c.args.depth in
    let name = c.in_ok-name.name in
    let last = tree c.in_ok-name.value in
    let rest = c.in_ok-name.after.now in
    let h : member_at value c.loop.rest.now ≡ Ok (((name, last), true), rest) = subst (λ b. member_at value c.loop.rest.now ≡ Ok (((name, last), b), rest)) c.if-not-has_more.false c.in_ok-name.ensures in
    record {
      utf8 = to_utf8 rest (member_rest c.args.depth c.loop.rest.now name last true rest h (from_utf8 c.loop.rest.now c.loop.invariant.utf8));
      read = ap (λ ms. members_at value (n - (c.loop.counter + 1)) ms rest) c.in_ok-list.ensures
          ∙ members_go_on value (map field c.loop.list.members.items) (n - (c.loop.counter + 1)) (n - c.loop.counter) c.loop.rest.now name last rest (omega arith) h
          ∙ c.loop.invariant.read;
    }
