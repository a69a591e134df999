use Rattle.std.proofs.Common.{◌≡◌, ℕ, Vec, Global, [], inl, inr, map, length, ap, sym, ◌∙◌, subst, arith}
use Rattle.std.proofs.lemmas.Bool.{cases_lt}
use Rattle.std.proofs.lemmas.List.{get_or-map, length-map}
use Rattle.std.specs.List.{Contains}
use Rattle.link_graph.specs.Links.{links_of, IsDangling}
use Rattle.link_graph.proofs.Chains.{links_within}
use Rattle.link_graph.proofs.Sets.{place_of}
use Rattle.link_graph.proofs.graph.first_dangling.Goals as goal

pub loop-block-preserved : goal.loop-block-preserved
loop-block-preserved c = λ b d lt link.
    let i = c.loop-block.block in
    let rows = c.args.rows.now in
    let items = λ (v : Vec ℕ Global). v.items in
    elim (cases_lt b i) [
      | inl p ↦ c.loop-block.invariant b d p link
      | inr p ↦ (let e : b ≡ i = omega arith in
          let same : links_of (map items rows) b ≡ c.deref.result.now = ap (links_of (map items rows)) e ∙ get_or-map items rows i c.index-rows-block.result [] c.loop-block-test.true ∙ sym (c.deref.ensures.value ∙ ap items c.index-rows-block.is) in
          let at = place_of c.deref.result.now d (subst (λ xs. Contains xs d) same link) in
          c.in_default.ensures at.0 d at.1)
    ]

pub returns-in-Some : goal.returns-in-Some
returns-in-Some c =
    let i = c.loop-block.block in
    let rows = c.args.rows.now in
    let items = λ (v : Vec ℕ Global). v.items in
    let n = length-map rows items in
    let same : links_of (map items rows) i ≡ c.deref.result.now = get_or-map items rows i c.index-rows-block.result [] c.loop-block-test.true ∙ sym (c.deref.ensures.value ∙ ap items c.index-rows-block.is) in
    record {
      dangling = subst (λ m. IsDangling m (links_of (map items rows) i) c.in-Some.to) (sym n) (subst (λ xs. IsDangling (length rows) xs c.in-Some.to) (sym same) c.in-Some.ensures);
      first = λ a d lt link. (let h = c.loop-block.invariant a d lt link in omega arith);
    }

pub returns : goal.returns
returns c = λ b d link.
    let n = length-map c.args.rows.now (λ (v : Vec ℕ Global). v.items) in
    let h = links_within _ b d link in
    let end = c.loop-block-test.false in
    let lt = c.loop-block.invariant b d (omega arith) link in
    omega arith
