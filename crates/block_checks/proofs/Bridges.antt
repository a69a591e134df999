-- Links, chains, checked blocks and depths of blocks, as those of the graph of their numbers.
use Rattle.std.proofs.Common.{◌≡◌, ℕ, ◌+◌, ◌<◌, inl, inr, Bool, true, false, cond, List, [], ◌∷◌, ◌++◌, length, map, Option, None, Some, refl, ap, ◌∙◌, sym, subst, arith}
use Rattle.std.specs.Prelude.{slice_get, flat_map, option_map}
use Rattle.std.specs.List.{Contains}
use Rattle.std.proofs.lemmas.List.{length-map, get_or-map}
use Rattle.std.proofs.lemmas.List.Elements.{Contains-append_left, Contains-append_right, Contains-append_cases, Contains-push, Contains-push_cases}
use Rattle.std.proofs.lemmas.Option.{slice_get-map, slice_get_within, slice_get_cases, get_or_from_slice_get, same_Some}
use Rattle.std.proofs.lemmas.Bool.{cases_lt}
use Rattle.link_graph.specs.Links.{links_of, IsDangling, IsFirstDangling, HasRanks}
use Rattle.link_graph.specs.Links as graph
use Rattle.link_graph.specs.Reach as reach
use Rattle.link_graph.specs.Depth as depths
use Rattle.link_graph.proofs.Chains.{links_within}
use Rattle.project_spec.specs.declared.blocks.Link.{Link}
use Rattle.project_spec.specs.declared.blocks.Link.TheVariants.{To, Unknown}
use Rattle.project_spec.specs.declared.blocks.Input.{Input}
use Rattle.project_spec.specs.declared.blocks.Input.TheVariants as input
use Rattle.project_spec.specs.declared.blocks.Block.{Block}
use Rattle.project_spec.specs.Linked.{Place, Behind, In, next_link, input_link, input_links, known_block, leads_to, IsClosed, Leads, AreRanks, IsChecked, Takes, Nests, weight, is_head}
use Rattle.project_spec.specs.Linked as file
use Rattle.block_checks.specs.Kept.{AreChecked}
use Rattle.block_checks.specs.Rows.{row, input_row, rows, input_rows, is_reporter, IsHeadAt, AreHeads}
use Rattle.block_checks.proofs.Lists.{contains_at, in_none, in_one, contains_map, contains_from_map}

-- Links

pub from_row : (f : Block → List ℕ) (blocks : List Block) (i j : ℕ) (b : Block) → slice_get blocks i ≡ Some b → Contains (f b) j → graph.Links (map f blocks) i j
from_row f blocks i j b h c =
    let e : links_of (map f blocks) i ≡ f b = get_or-map f blocks i b [] (slice_get_within blocks i b h) ∙ ap f (get_or_from_slice_get blocks i b b h) in
    subst (λ xs. Contains xs j) (sym e) c

pub to_row : (f : Block → List ℕ) (blocks : List Block) (i j : ℕ) → graph.Links (map f blocks) i j → (b : Block) × (slice_get blocks i ≡ Some b) × Contains (f b) j
to_row f blocks i j l =
    let within = links_within (map f blocks) i j l in
    let n = length-map blocks f in
    elim (slice_get_cases blocks i).1 [
      | inl p ↦ (let e : links_of (map f blocks) i ≡ f p.0 = get_or-map f blocks i p.0 [] p.1 ∙ ap f p.3 in (p.0, p.2, subst (λ xs. Contains xs j) e l))
      | inr p ↦ absurd (let q = p.0 in omega arith)
    ]

pub links_of_leads : (blocks : List Block) (i j : ℕ) → Leads blocks i j → graph.Links (rows blocks) i j
links_of_leads blocks i j l = from_row row blocks i j l.block l.held (contains_map (λ (x : Place × ℕ). x.1) (leads_to l.block) (l.place, j) l.link)

pub leads_of_links : (blocks : List Block) (i j : ℕ) → graph.Links (rows blocks) i j → Leads blocks i j
leads_of_links blocks i j l =
    let r = to_row row blocks i j l in
    let m = contains_from_map (λ (x : Place × ℕ). x.1) (leads_to r.0) j r.2 in
    record {
      block = r.0;
      place = m.0.0;
      held = r.1;
      link = subst (λ k. Contains (leads_to r.0) (m.0.0, k)) m.2 m.1;
    }

-- what the inputs of a block lead to stands in an input
named_place : (inputs : List (List ℕ × Input)) (p : Place × ℕ) → Contains (flat_map known_block (flat_map input_link inputs)) p → (name : List ℕ) × (p.0 ≡ In name)
named_place [] p c = absurd (in_none p c)
named_place ((name, input.Literal v) ∷ xs) p c = named_place xs p c
named_place ((name, input.Reporter (To k)) ∷ xs) p c = elim (Contains-append_cases ((In name, k) ∷ []) (flat_map known_block (flat_map input_link xs)) p c) [
  | inl q ↦ (name, ap (λ (x : Place × ℕ). x.0) (sym (in_one (In name, k) p q)))
  | inr q ↦ named_place xs p q
]
named_place ((name, input.Reporter (Unknown id)) ∷ xs) p c = named_place xs p c
named_place ((name, input.Variable v) ∷ xs) p c = named_place xs p c
named_place ((name, input.List v) ∷ xs) p c = named_place xs p c
named_place ((name, input.Absent) ∷ xs) p c = named_place xs p c

not_behind : (n : Option Link) (xs : List (Place × Link)) (name : List ℕ) (j : ℕ) → Contains (flat_map known_block (next_link n ++ xs)) (In name, j) → Contains (flat_map known_block xs) (In name, j)
not_behind None xs name j c = c
not_behind (Some (To k)) xs name j c = elim (Contains-append_cases ((Behind, k) ∷ []) (flat_map known_block xs) (In name, j) c) [
  | inl q ↦ absurd (let e : Behind ≡ In name = ap (λ (x : Place × ℕ). x.0) (in_one (Behind, k) (In name, j) q) in cc)
  | inr q ↦ q
]
not_behind (Some (Unknown id)) xs name j c = c

and_behind : (n : Option Link) (xs : List (Place × Link)) (p : Place × ℕ) → Contains (flat_map known_block xs) p → Contains (flat_map known_block (next_link n ++ xs)) p
and_behind None xs p c = c
and_behind (Some (To k)) xs p c = Contains-append_right ((Behind, k) ∷ []) (flat_map known_block xs) p c
and_behind (Some (Unknown id)) xs p c = c

pub links_of_takes : (blocks : List Block) (i j : ℕ) → Takes blocks i j → graph.Links (input_rows blocks) i j
links_of_takes blocks i j t = from_row input_row blocks i j t.block t.held (contains_map (λ (x : Place × ℕ). x.1) (flat_map known_block (input_links t.block)) (In t.name, j) (not_behind t.block.next (input_links t.block) t.name j t.link))

pub takes_of_links : (blocks : List Block) (i j : ℕ) → graph.Links (input_rows blocks) i j → Takes blocks i j
takes_of_links blocks i j l =
    let r = to_row input_row blocks i j l in
    let m = contains_from_map (λ (x : Place × ℕ). x.1) (flat_map known_block (input_links r.0)) j r.2 in
    let n = named_place r.0.inputs m.0 m.1 in
    let c : Contains (leads_to r.0) m.0 = and_behind r.0.next (input_links r.0) m.0 m.1 in
    record {
      block = r.0;
      name = n.0;
      held = r.1;
      link = subst (λ k. Contains (leads_to r.0) (In n.0, k)) m.2 (subst (λ p. Contains (leads_to r.0) (p, m.0.1)) n.1 c);
    }

pub leads_of_takes : (blocks : List Block) (i j : ℕ) → Takes blocks i j → Leads blocks i j
leads_of_takes blocks i j t = record { block = t.block; place = In t.name; held = t.held; link = t.link }

-- The graphs are closed

pub closed_links : (blocks : List Block) (b to : ℕ) → IsClosed blocks → IsFirstDangling (rows blocks) b to → ⊥
closed_links blocks b to closed d =
    let x = d.dangling in
    let lt = closed b to (leads_of_links blocks b to (contains_at (links_of (rows blocks) b) x.0 to x.1)) in
    let n = length-map blocks row in
    let le = x.2 in
    absurd (omega arith)

pub closed_inputs : (blocks : List Block) (b to : ℕ) → IsClosed blocks → IsFirstDangling (input_rows blocks) b to → ⊥
closed_inputs blocks b to closed d =
    let x = d.dangling in
    let lt = closed b to (leads_of_takes blocks b to (takes_of_links blocks b to (contains_at (links_of (input_rows blocks) b) x.0 to x.1))) in
    let n = length-map blocks input_row in
    let le = x.2 in
    absurd (omega arith)

-- Ranks

pub are_ranks : (blocks : List Block) (ranks : List ℕ) → HasRanks (rows blocks) ranks → AreRanks blocks ranks
are_ranks blocks ranks h =
    let n = length-map blocks row in
    record {
      each = h.each ∙ n;
      bounded = λ i lt. (let x = h.bounded i (let y : i < length (rows blocks) = omega arith in y) in omega arith);
      falls = λ i j l. h.falls i j (links_of_leads blocks i j l);
    }

pub input_ranks : (blocks : List Block) (ranks : List ℕ) → AreRanks blocks ranks → HasRanks (input_rows blocks) ranks
input_ranks blocks ranks h =
    let n = length-map blocks input_row in
    record {
      each = h.each ∙ sym n;
      bounded = λ i lt. (let x = h.bounded i (let y : i < length blocks = omega arith in y) in omega arith);
      falls = λ i j l. h.falls i j (leads_of_takes blocks i j (takes_of_links blocks i j l));
    }

-- Chains

pub chain_of : (blocks : List Block) {i j : ℕ} → graph.Chain (rows blocks) i j → file.Chain blocks i j
chain_of blocks (graph.one {b} {c} l) = file.one (leads_of_links blocks b c l)
chain_of blocks (graph.more {b} {c} l r) = file.more (leads_of_links blocks b c l) (chain_of blocks r)

pub chain_from : (blocks : List Block) {i j : ℕ} → file.Chain blocks i j → graph.Chain (rows blocks) i j
chain_from blocks (file.one {i} {j} l) = graph.one (links_of_leads blocks i j l)
chain_from blocks (file.more {i} {j} l r) = graph.more (links_of_leads blocks i j l) (chain_from blocks r)

-- Checked blocks

-- one more block, which is listed where it is a head
pub heads_more : (blocks : List Block) (old new : List ℕ) (i : ℕ) (b : Block) (t : Bool) → slice_get blocks i ≡ Some b → t ≡ is_head b → new ≡ cond t (old ++ i ∷ []) old → AreHeads blocks old i → AreHeads blocks new (i + 1)
heads_more blocks old new i b true held is e h = record {
  sound = λ k c. elim (Contains-push_cases old i k (subst (λ xs. Contains xs k) e c)) [ inl p ↦ h.sound k p | inr p ↦ subst (IsHeadAt blocks) p (b, held, sym is) ];
  complete = λ k lt x. subst (λ xs. Contains xs k) (sym e) (elim (cases_lt k i) [
    | inl p ↦ Contains-append_left old (i ∷ []) k (h.complete k p x)
    | inr p ↦ (let s : i ≡ k = omega arith in subst (Contains (old ++ i ∷ [])) s (Contains-push old i))
  ]);
}
heads_more blocks old new i b false held is e h = record {
  sound = λ k c. h.sound k (subst (λ xs. Contains xs k) e c);
  complete = λ k lt x. subst (λ xs. Contains xs k) (sym e) (elim (cases_lt k i) [
    | inl p ↦ h.complete k p x
    | inr p ↦ absurd (let s : k ≡ i = omega arith in
        let same : x.0 ≡ b = same_Some x.0 b (sym x.1 ∙ ap (slice_get blocks) s ∙ held) in
        let f : true ≡ false = sym x.2 ∙ ap is_head same ∙ sym is in
        cc)
  ]);
}

module _ (blocks : List Block) (heads : List ℕ) (sound : (k : ℕ) → Contains heads k → IsHeadAt blocks k) (complete : (k : ℕ) → IsHeadAt blocks k → Contains heads k) where
  checked_of : {k : ℕ} → reach.Reached (rows blocks) heads k → IsChecked blocks k
  checked_of (reach.start {b} c) = let h = sound b c in file.head h.1 h.2
  checked_of (reach.along {b} {c} r l) = file.linked (checked_of r) (leads_of_links blocks b c l)

  reached_of : {k : ℕ} → IsChecked blocks k → reach.Reached (rows blocks) heads k
  reached_of (file.head {i} {b} h t) = reach.start (complete i (b, h, t))
  reached_of (file.linked {i} {j} c l) = reach.along (reached_of c) (links_of_leads blocks i j l)

  pub are_checked : (seen : List Bool) → reach.IsReach (rows blocks) heads seen → AreChecked blocks seen
  are_checked seen r = record {
    each = r.each ∙ length-map blocks row;
    sound = λ k s. checked_of (r.sound k s);
    complete = λ k c. r.complete k (reached_of c);
  }

-- Depths

one_if_true : (t : Bool) → depths.one_if (Some t) ≡ cond t 1 0
one_if_true true = refl
one_if_true false = refl

weight_by : (o : Option Block) → depths.one_if (option_map is_reporter o) ≡ weight o
weight_by None = refl
weight_by (Some b) = one_if_true (is_reporter b)

weight_is : (blocks : List Block) (k : ℕ) → depths.weight (map is_reporter blocks) k ≡ weight (slice_get blocks k)
weight_is blocks k = ap depths.one_if (slice_get-map is_reporter blocks k) ∙ weight_by (slice_get blocks k)

pub nests_of : (blocks : List Block) {k n : ℕ} → depths.Nests (input_rows blocks) (map is_reporter blocks) k n → Nests blocks k n
nests_of blocks (depths.ends {b} {n} e) = subst (Nests blocks b) (sym (e ∙ weight_is blocks b)) file.ends
nests_of blocks (depths.goes_on {b} {c} {n} {m} l r e) = subst (Nests blocks b) (sym (e ∙ ap (λ w. w + n) (weight_is blocks b))) (file.takes (takes_of_links blocks b c l) (nests_of blocks r))

pub nests_from : (blocks : List Block) {k n : ℕ} → Nests blocks k n → depths.Nests (input_rows blocks) (map is_reporter blocks) k n
nests_from blocks (file.ends {i}) = depths.ends (sym (weight_is blocks i))
nests_from blocks (file.takes {i} {j} {depth} t r) = depths.goes_on (links_of_takes blocks i j t) (nests_from blocks r) (ap (λ w. w + depth) (sym (weight_is blocks i)))
