-- Where a walk along links stands, for private functions: no clause of a public function cites this file.
use Rattle.std.specs.Prelude.{◌≡◌, ℕ, ◌+◌, ◌-◌, ◌<◌, ◌≤◌, ◌⊎◌, Bool, true, false, List, [], ◌∷◌, length, Some, slice_get, slice_index, count_by}
use Rattle.link_graph.specs.Links.{links_of, Links, IsGraph, IsCyclic, HasRanks}
use Rattle.link_graph.specs.declared.ranks.Ranking.{Ranking}
use Rattle.link_graph.specs.declared.ranks.Ranking.TheVariants as ranking
use Rattle.link_graph.specs.declared.trail.Frame.{Frame}
use Rattle.link_graph.specs.declared.walk.Mark.{Mark}
use Rattle.link_graph.specs.declared.walk.Mark.TheVariants.{New, Open, Done}
use Rattle.link_graph.specs.declared.walk.Turn.{Turn}
use Rattle.link_graph.specs.declared.walk.Turn.TheVariants.{At, Ended, Closed}

-- the block was begun: it is on the walk's trail, or done
abbrev pub IsBegun : List Mark → ℕ → Type 0
IsBegun marks b = (slice_get marks b ≡ Some Open) ⊎ (slice_get marks b ≡ Some Done)

-- one of the frames is of this block
abbrev pub IsOn : ℕ → List Frame → Type 0
IsOn b [] = ⊥
IsOn b (f ∷ fs) = (f.block ≡ b) ⊎ IsOn b fs

-- the block of the frame is open, no frame under it is of that block, and its links before the place are done
pub record IsReady (g : List (List ℕ)) (marks : List Mark) (f : Frame) (under : List Frame) : Type 0 where
  pub opened : slice_get marks f.block ≡ Some Open
  pub once : IsOn f.block under → ⊥
  pub within : f.place ≤ length (links_of g f.block)
  pub passed : (k c : ℕ) → k < f.place → slice_get (links_of g f.block) k ≡ Some c → slice_get marks c ≡ Some Done

-- frames under one of block b: each follows the link to the block of the one above it
abbrev pub IsUnder : List (List ℕ) → List Mark → ℕ → List Frame → Type 0
IsUnder g marks b [] = Unit {0}
IsUnder g marks b (f ∷ fs) = (slice_get (links_of g f.block) f.place ≡ Some b) × IsReady g marks f fs × IsUnder g marks f.block fs

-- frames, the top one first
abbrev pub IsTrail : List (List ℕ) → List Mark → List Frame → Type 0
IsTrail g marks [] = Unit {0}
IsTrail g marks (f ∷ fs) = IsReady g marks f fs × IsUnder g marks f.block fs

-- whether all chains from the block were followed
abbrev pub is_done : Mark → Bool
is_done New = false
is_done Open = false
is_done Done = true

-- blocks that are done link to done blocks of smaller rank and stand in the order at their rank; open ones are on the trail
pub record IsWalk (g : List (List ℕ)) (marks : List Mark) (ranks order : List ℕ) (frames : List Frame) : Type 0 where
  pub graph : IsGraph g
  pub marked : length marks ≡ length g
  pub ranked : length ranks ≡ length g
  pub counted : length order ≡ count_by is_done marks
  pub done : (b c : ℕ) → slice_get marks b ≡ Some Done → Links g b c → slice_get marks c ≡ Some Done
  pub falls : (b c : ℕ) → slice_get marks b ≡ Some Done → Links g b c → slice_index ranks c < slice_index ranks b
  pub places : (b : ℕ) → slice_get marks b ≡ Some Done → slice_get order (slice_index ranks b) ≡ Some b
  pub placed : (i b : ℕ) → slice_get order i ≡ Some b → (slice_get marks b ≡ Some Done) × (slice_index ranks b ≡ i)
  pub opened : (b : ℕ) → slice_get marks b ≡ Some Open → IsOn b frames
  pub trail : IsTrail g marks frames

-- the steps for a new block: one to begin, one for each link, one to end
abbrev pub of_new : List ℕ → Mark → ℕ
of_new links New = length links + 2
of_new links Open = 0
of_new links Done = 0

-- the steps for all new blocks
abbrev pub left : List (List ℕ) → List Mark → ℕ
left [] ms = 0
left (r ∷ g) [] = 0
left (r ∷ g) (m ∷ ms) = of_new r m + left g ms

-- the steps that are left of the frames
abbrev pub ahead : List (List ℕ) → List Frame → ℕ
ahead g [] = 0
ahead g (f ∷ fs) = (length (links_of g f.block) - f.place) + 1 + ahead g fs

-- what a turn answers
abbrev pub IsTurn : List (List ℕ) → List Mark → List ℕ → List ℕ → List Frame → Turn → Type 0
IsTurn g marks ranks order under (At f) = IsWalk g marks ranks order (f ∷ under)
IsTurn g marks ranks order under Ended = IsWalk g marks ranks order [] × (under ≡ [])
IsTurn g marks ranks order under (Closed b) = IsCyclic g b

-- a turn that goes on leaves less to do
abbrev pub IsFewer : List (List ℕ) → List Mark → List Frame → ℕ → Turn → Type 0
IsFewer g marks under before (At f) = left g marks + ahead g (f ∷ under) < before
IsFewer g marks under before Ended = Unit {0}
IsFewer g marks under before (Closed b) = Unit {0}

-- a rank for each block, or some block on a cycle
abbrev pub IsWalked : List (List ℕ) → Ranking → Type 0
IsWalked g (ranking.Ranked ranks) = HasRanks g ranks
IsWalked g (ranking.Cyclic b) = IsCyclic g b
