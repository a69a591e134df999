-- The edge hats of a list, as the machine and the code list them, one after another.
use Rattle.std.proofs.Common.{◌≡◌, ℕ, zero, suc, ◌+◌, ◌<◌, ◌≤◌, not, List, [], ◌∷◌, length, drop, get_or, map, filter, Err, add-one, refl, sym, ap, ◌∙◌, subst, arith}
use Rattle.std.specs.Prelude.{All, ◌||◌}
use Rattle.std.specs.List.{list_any}
use Rattle.std.proofs.lemmas.List.Elements.{All-head, All-tail}
use Rattle.std.proofs.lemmas.List.{drop_all, length-map}
use Rattle.rand_core.specs.Stream.{Stream}
use Rattle.machine_spec.specs.Frame.{edges, edge_one, edges_passed}
use Rattle.machine_spec.specs.Outcome.{Outcome, Goes, then_do, StopIs}
use Rattle.machine_spec.specs.Places.{Places}
use Rattle.machine_spec.specs.Program.{Program}
use Rattle.machine_spec.specs.Starting as machine
use Rattle.machine_spec.specs.Starting.{Pair, pairs}
use Rattle.machine_spec.specs.Tasks.{Task, tasks}
use Rattle.machine_spec.specs.World.{World}
use Rattle.machine_spec.specs.declared.instance.Instance.{Instance}
use Rattle.script_words.specs.declared.stops.Stop.{Stop}
use Rattle.project_check.specs.declared.project.Project.{Project}
use Rattle.project_check.specs.Loaded.{program_of}
use Rattle.thread_frames.specs.Reading.{task}
use Rattle.thread_frames.specs.Threads.{Thread, frames}
use Rattle.hats.specs.declared.edge_hats.EdgeHat.{EdgeHat}
use Rattle.hats.specs.Edges.{is_edge, edge_of, free_edges}
use Rattle.hats.specs.Heads.{IsHeadOf, IsEdgeOf}
use Rattle.hats.proofs.Headed.{edges-headed}
use Rattle.executions.specs.declared.state.State.{State}
use Rattle.executions.specs.Seen.{sheets, seen}
use Rattle.executions.proofs.Stops.{stop-then, stop-same}
use Rattle.frames.specs.Listed.{IsListed}

-- The list

any_task : (p : Project) (x : Pair) (ts : List Thread) → list_any (machine.is_alive_of tasks x) (map (task (sheets p)) ts) ≡ list_any (machine.is_alive_of frames x) ts
any_task p x [] = refl
any_task p x (t ∷ ts) = ap (λ b. machine.is_alive_of frames x t || b) (any_task p x ts)

-- threads of levels are seen as tasks
pub edges-seen : {R : Type 0} (stream : R → Stream) (p : Project) (w : State R) → edges (program_of p) (seen stream p w) ≡ free_edges (program_of p) w.targets w.threads
edges-seen stream p w = ap (λ test. filter test (pairs (program_of p) is_edge w.targets)) (λ i x. not (any_task p x w.threads.list i))

-- One after another

-- the edge hat at a place of the list
pub record IsTurn (p : Project) (is : List Instance) (xs : List Pair) (k : ℕ) (edge : EdgeHat) : Type 0 where
  pub pair : Pair
  pub rest : drop k xs ≡ pair ∷ drop (suc k) xs
  pub same : edge_of pair ≡ edge
  pub head : IsHeadOf p is pair

turn_by : (p : Project) (is : List Instance) (xs : List Pair) (k : ℕ) (edge : EdgeHat) → All (IsHeadOf p is) xs → k < length (map edge_of xs) → edge ≡ get_or (map edge_of xs) k edge → IsTurn p is xs k edge
turn_by p is [] k edge h l e = absurd (omega (arith, l))
turn_by p is (x ∷ xs) zero edge h l e = record { pair = x; rest = refl; same = sym e; head = All-head (IsHeadOf p is) x xs h }
turn_by p is (x ∷ xs) (suc k) edge h l e =
    let turn : IsTurn p is xs k edge = turn_by p is xs k edge (All-tail (IsHeadOf p is) x xs h) (omega (arith, l)) e in
    record { pair = turn.pair; rest = turn.rest; same = turn.same; head = turn.head }

module _ (p : Project) (is : List Instance) (ts : Places Thread) (es : List EdgeHat) (listed : es ≡ map edge_of (free_edges (program_of p) is ts)) where
  pub edge-turn : (k : ℕ) (edge : EdgeHat) → k < length es → edge ≡ get_or es k edge → IsTurn p is (free_edges (program_of p) is ts) k edge
  edge-turn k edge l e =
      turn_by p is (free_edges (program_of p) is ts) k edge (edges-headed p is ts) (subst (λ fs. k < length fs) listed l) (e ∙ ap (λ fs. get_or fs k edge) listed)

  pub all-listed : (k : ℕ) → length es ≤ k → length (free_edges (program_of p) is ts) ≤ k
  all-listed k l = omega (arith, l, ap length listed, length-map (free_edges (program_of p) is ts) edge_of)

pub turn-of : (p : Project) (is : List Instance) (xs : List Pair) (k : ℕ) (edge : EdgeHat) (turn : IsTurn p is xs k edge) → IsEdgeOf p edge turn.pair
turn-of p is xs k edge turn = record { same = turn.same; instances = is; head = turn.head }

pub turn-listed : (p : Project) (is js : List Instance) (xs : List Pair) (k : ℕ) (edge : EdgeHat) → ((x : Pair) → IsHeadOf p is x → IsHeadOf p js x) → IsTurn p is xs k edge → IsListed p js edge
turn-listed p is js xs k edge heads turn = record { pair = turn.pair; same = turn.same; head = heads turn.pair turn.head }

-- k edge hats of a list were passed; what is left from here is all from the start
module _ (q : Program) (xs : List Pair) (k : ℕ) (first w : World Task) (walk : edges_passed q (drop k xs) w ≡ edges_passed q (edges q first) first) where
  abbrev whole : Outcome (World Task)
  whole = edges_passed q (edges q first) first

  module _ (x : Pair) (rest : drop k xs ≡ x ∷ drop (suc k) xs) where
    here : then_do (edge_one q x w) (edges_passed q (drop (suc k) xs)) ≡ whole
    here = ap (λ ys. edges_passed q ys w) (sym rest) ∙ walk

    pub turn-more : (v : World Task) → edge_one q x w ≡ Goes v → edges_passed q (drop (k + 1) xs) v ≡ whole
    turn-more v gone = ap (λ n. edges_passed q (drop n xs) v) (add-one k) ∙ sym (ap (λ o. then_do o (edges_passed q (drop (suc k) xs))) gone) ∙ here

    pub turn-stop : (T U : Type 0) (stop : Stop) → StopIs {T = T} (Err stop) (edge_one q x w) → StopIs {T = U} (Err stop) whole
    turn-stop T U stop h = stop-same U U stop _ whole (sym here) (stop-then T U stop (edge_one q x w) (edges_passed q (drop (suc k) xs)) h)

  -- none is left
  pub turn-end : length xs ≤ k → whole ≡ Goes w
  turn-end l = sym walk ∙ ap (λ ys. edges_passed q ys w) (drop_all k xs l)
