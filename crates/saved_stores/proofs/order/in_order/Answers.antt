use Rattle.std.proofs.Common.{rules}
use Rattle.std.proofs.lemmas.List.Sorted.{IsNonDecreasingBy-from_sort_by_key}
use Rattle.saved_stores.proofs.Sorting.{sorted_is, stable_from}
use Rattle.saved_stores.proofs.order.in_order.Goals as goal

pub returns : goal.returns
returns c =
    sorted_is c.args.stores.items c.sort_by_key.new.self.items
    (IsNonDecreasingBy-from_sort_by_key (λ s. s.of) _ c.in_ok-sort_by_key.ensures.sorted (λ a r q k. search rules))
    (stable_from _ _ c.in_ok-sort_by_key.ensures.stable (λ a r q k. search rules))
