-- What ranking the blocks answers, and two laws of ranks.
use Rattle.std.specs.Prelude.{◌≡◌, ℕ, List, length}
use Rattle.link_graph.specs.Links.{Links, HasRanks, IsCyclic, IsFirstCyclic}
use Rattle.link_graph.specs.declared.ranks.Ranking.{Ranking}
use Rattle.link_graph.specs.declared.ranks.Ranking.TheVariants.{Ranked, Cyclic}

-- a rank for each block, or the first block on a cycle
abbrev pub IsRanking : List (List ℕ) → Ranking → Type 0
IsRanking g (Ranked ranks) = HasRanks g ranks
IsRanking g (Cyclic b) = IsFirstCyclic g b

-- where there are ranks, no block lies on a cycle
abbrev pub RanksRuleOutCycles : Type 0
RanksRuleOutCycles = (g : List (List ℕ)) (ranks : List ℕ) (b : ℕ) → HasRanks g ranks → IsCyclic g b → ⊥

-- the ranks of a table serve each table of as many blocks with some of its links
abbrev pub RanksServeAPart : Type 0
RanksServeAPart =
    (g part : List (List ℕ)) (ranks : List ℕ) → length part ≡ length g → ((b c : ℕ) → Links part b c → Links g b c) → HasRanks g ranks → HasRanks part ranks
