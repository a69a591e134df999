-- Chains of links, and what is reached along them.
use Rattle.std.proofs.Common.{◌≡◌, ℕ, ◌<◌, ◌≤◌, List, [], length, inl, inr, ◌∙◌, sym, subst, arith}
use Rattle.std.proofs.lemmas.Bool.{cases_lt}
use Rattle.std.proofs.lemmas.List.{get_or_past}
use Rattle.std.specs.Prelude.{slice_index}
use Rattle.std.specs.List.{Contains}
use Rattle.link_graph.specs.Links.{links_of, Links, Chain, one, more, HasRanks}
use Rattle.link_graph.specs.Slope.{NeverRises, FallsAt}
use Rattle.link_graph.specs.Reach.{Reached, start, along}
use Rattle.link_graph.proofs.Sets.{place_of}

pub chain_end : (g : List (List ℕ)) {a b c : ℕ} → Chain g a b → Links g b c → Chain g a c
chain_end g (one l) m = more l (one m)
chain_end g (more l r) m = more l (chain_end g r m)

-- what the links of a block lead to is what chains from it lead to
pub chain_from : (g : List (List ℕ)) (a : ℕ) {b : ℕ} → Reached g (links_of g a) b → Chain g a b
chain_from g a (start i) = one i
chain_from g a (along r l) = chain_end g (chain_from g a r) l

reach_from : (g : List (List ℕ)) (starts : List ℕ) {b c : ℕ} → Reached g starts b → Chain g b c → Reached g starts c
reach_from g starts r (one l) = along r l
reach_from g starts r (more l m) = reach_from g starts (along r l) m

pub from_chain : (g : List (List ℕ)) (a : ℕ) {b : ℕ} → Chain g a b → Reached g (links_of g a) b
from_chain g a (one l) = start l
from_chain g a (more l r) = reach_from g (links_of g a) (start l) r

-- numbers that rise along no link, and fall along each link of a block that then lies on no cycle
at_most : (g : List (List ℕ)) (f : List ℕ) → NeverRises g f → {b c : ℕ} → Chain g b c → slice_index f c ≤ slice_index f b
at_most g f h (one {b} {c} l) = let p = place_of _ c l in h b p.0 c p.1
at_most g f h (more {b} {c} {d} l r) = let p = place_of _ c l in let x = h b p.0 c p.1 in let y = at_most g f h r in omega arith

below : (g : List (List ℕ)) (f : List ℕ) → NeverRises g f → {b d : ℕ} → FallsAt g f b → Chain g b d → slice_index f d < slice_index f b
below g f h falls (one {b} {c} l) = let p = place_of _ c l in falls p.0 c p.1
below g f h falls (more {b} {c} {d} l r) = let p = place_of _ c l in let x = falls p.0 c p.1 in let y = at_most g f h r in omega arith

pub not_cyclic : (g : List (List ℕ)) (f : List ℕ) (b : ℕ) → NeverRises g f → FallsAt g f b → Chain g b b → ⊥
not_cyclic g f b h falls r = let x = below g f h falls r in omega arith

rank_falls : (g : List (List ℕ)) (ranks : List ℕ) → HasRanks g ranks → {b c : ℕ} → Chain g b c → slice_index ranks c < slice_index ranks b
rank_falls g ranks h (one l) = h.falls _ _ l
rank_falls g ranks h (more l r) = let x = h.falls _ _ l in let y = rank_falls g ranks h r in omega arith

pub no_cycle : (g : List (List ℕ)) (ranks : List ℕ) (b : ℕ) → HasRanks g ranks → Chain g b b → ⊥
no_cycle g ranks b h r = let x = rank_falls g ranks h r in omega arith

-- a block with a link is there
pub links_within : (g : List (List ℕ)) (b c : ℕ) → Links g b c → b < length g
links_within g b c h = elim (cases_lt b (length g)) [ inl p ↦ p | inr p ↦ absurd (let e : links_of g b ≡ [] = get_or_past g b [] p in let n : Contains [] c = subst (λ r. Contains r c) e h in let lt = n.1 in omega arith) ]

pub chain_within : (g : List (List ℕ)) {b c : ℕ} → Chain g b c → b < length g
chain_within g (one l) = links_within g _ _ l
chain_within g (more l r) = links_within g _ _ l

pub serves : (g part : List (List ℕ)) (ranks : List ℕ) → length part ≡ length g → ((b c : ℕ) → Links part b c → Links g b c) → HasRanks g ranks → HasRanks part ranks
serves g part ranks e some h = record {
  each = h.each ∙ sym e;
  bounded = λ b p. (let q = h.bounded b (let z : b < length g = omega arith in z) in omega arith);
  falls = λ b c l. h.falls b c (some b c l);
}
