-- One edge hat: its value, the record of it, and its thread.
use Rattle.std.proofs.Common.{◌≡◌, ℕ, ◌<◌, ◌^◌, Bool, true, List, [], ◌∷◌, length, Some, None, Result, Ok, Err, refl, sym, ap, ◌∙◌, subst}
use Rattle.std.specs.Prelude.{All, IfOk, codes, ◌==◌}
use Rattle.std.proofs.lemmas.List.Elements.{All-nil, All-cons}
use Rattle.rand_core.specs.Stream.{Stream}
use Rattle.scratch_values.specs.declared.value.Value.{Value}
use Rattle.script_words.specs.declared.stops.Stop.{Stop}
use Rattle.script_words.specs.declared.counter.Counted.{Counted}
use Rattle.machine_spec.specs.Evaluate.{arguments_of, values}
use Rattle.machine_spec.specs.Frame.{with_edge, edge_fired, edge_passed, edge_value, edge_view, edge_one}
use Rattle.machine_spec.specs.Outcome.{Outcome, Goes, Full, TooLong, Spent, then_do, StopIs}
use Rattle.machine_spec.specs.Places.{Places, Everyone}
use Rattle.machine_spec.specs.Script.{Script, Then, Statement, inputs_of}
use Rattle.machine_spec.specs.Starting.{Pair, start_all}
use Rattle.machine_spec.specs.Stores.{Devices, on_instance}
use Rattle.machine_spec.specs.Tasks.{Task, begin_pairs}
use Rattle.machine_spec.specs.View.{View, number_at}
use Rattle.machine_spec.specs.Words.{Drawn, made_of, seen_words}
use Rattle.machine_spec.specs.World.{World}
use Rattle.machine_spec.specs.declared.instance.Instance.{Instance}
use Rattle.project_spec.specs.Trees.{script}
use Rattle.project_spec.proofs.Unrolling.{script-at}
use Rattle.project_check.specs.declared.project.Project.{Project}
use Rattle.project_check.proofs.Linked.{ranked_at}
use Rattle.project_check.specs.Loaded.{program_of, tables_of, blocks_at, sheet_at, ranks_at}
use Rattle.thread_frames.specs.Fit.{Fits}
use Rattle.thread_frames.specs.Threads.{Thread, frames}
use Rattle.hats.specs.declared.edge_hats.EdgeHat.{EdgeHat}
use Rattle.hats.specs.Heads.{IsHeadOf, IsEdge, IsEdgeOf}
use Rattle.hats.proofs.Fired.{edge-there, edge-held, edge-member, edge-head}
use Rattle.executions.specs.declared.state.State.{State}
use Rattle.executions.specs.Resting.{IsIdle}
use Rattle.executions.specs.Seen.{sheets, seen}
use Rattle.executions.proofs.Begun.{crowd, pairs_begin, pairs_stop, pairs_idle}
use Rattle.executions.proofs.Stops.{stop-then, stop-same}
use Rattle.frames.specs.EdgeValues.{valued, is_above}
use Rattle.frames.specs.Listed.{IsListed}
use Rattle.frames.proofs.Noted.{heads-changed}

-- An edge hat of a live instance

pub listed_edge : (p : Project) (is : List Instance) (edge : EdgeHat) (h : IsListed p is edge) → IsEdgeOf p edge h.pair
listed_edge p is edge h = record { same = h.same; instances = is; head = h.head }

pub is_edge : (p : Project) (is : List Instance) (edge : EdgeHat) → IsListed p is edge → IsEdge p edge
is_edge p is edge h = record { pair = h.pair; of = listed_edge p is edge h }

pub is_there : (p : Project) (is : List Instance) (edge : EdgeHat) → IsListed p is edge → edge.target < length (tables_of p)
is_there p is edge h = edge-there p edge h.pair (listed_edge p is edge h)

pub is_member : (p : Project) (is : List Instance) (edge : EdgeHat) → IsListed p is edge → edge.hat < length (blocks_at edge.target p)
is_member p is edge h = edge-member p edge h.pair (listed_edge p is edge h)

-- it is one still where a value was recorded
module _ (p : Project) (is : List Instance) (edge : EdgeHat) (v : Bool) (targets : List Instance) (noted : targets ≡ on_instance edge.of (λ i. record i { edges = with_edge edge.hat v i.edges }) is) where
  pub heads-noted : (x : Pair) → IsHeadOf p is x → IsHeadOf p targets x
  heads-noted x h =
      subst (λ js. IsHeadOf p js x) (sym noted) (heads-changed (λ i. record i { edges = with_edge edge.hat v i.edges }) (λ i. refl) (λ i. refl) p (λ i. i.number == edge.of) is x h)

  pub listed-noted : IsListed p is edge → IsListed p targets edge
  listed-noted h = record { pair = h.pair; same = h.same; head = heads-noted h.pair h.head }

-- Its value

abbrev Evaluated : Type 0
Evaluated = Outcome (Drawn (List (List ℕ × Value)))

-- the value is that of the evaluated arguments
one_by : (x : Pair) (d : Devices) (w : World Task) (o : Evaluated)
    → then_do o (λ e. edge_passed x (edge_value x.head.hat (number_at (codes "VALUE") (arguments_of x.head.hat e.value)) d) (record w { words = e.words }))
    ≡ then_do (then_do (then_do o (made_of (arguments_of x.head.hat))) (made_of (λ a. is_above a d))) (λ e. edge_passed x e.value (record w { words = e.words }))
one_by x d w (Goes e) = refl
one_by x d w Full = refl
one_by x d w (TooLong n) = refl
one_by x d w (Spent which) = refl

module _ {R : Type 0} (stream : R → Stream) (p : Project) (w : State R) (edge : EdgeHat) where
  abbrev view : View
  view = record { records = (program_of p).records; targets = w.targets; variables = w.variables; devices = w.devices; here = edge.of; params = [] }

  abbrev Told : (Outcome (Drawn Bool) → Type 0) → Type 0
  Told P = (s : Statement) (rest : Script) → script (sheet_at edge.target p) (Some edge.hat) ≡ Then s rest → P (valued view s (seen_words stream w.words))

  module _ (x : Pair) (is : IsEdgeOf p edge x) where
    -- it is the first statement of the script at its block
    script_is : script (sheet_at edge.target p) (Some edge.hat) ≡ Then x.head.hat x.head.script
    script_is =
        script-at (sheet_at edge.target p) (ranks_at edge.target p) (ranked_at p edge.target) edge.hat is.head.block (edge-held p edge x is)
        ∙ ap (λ h. Then h.hat h.script) (sym (edge-head p edge x is))

    one_is : edge_one (program_of p) x (seen stream p w) ≡ then_do (valued view x.head.hat (seen_words stream w.words)) (λ e. edge_passed x e.value (record (seen stream p w) { words = e.words }))
    one_is =
        one_by x w.devices (seen stream p w) (values (edge_view (program_of p) x.of (seen stream p w)) (inputs_of x.head.hat) (seen_words stream w.words))
        ∙ (let here : x.of ≡ edge.of = ap (λ (e : EdgeHat). e.of) is.same in
        ap (λ n. then_do (valued (edge_view (program_of p) n (seen stream p w)) x.head.hat (seen_words stream w.words)) (λ e. edge_passed x e.value (record (seen stream p w) { words = e.words }))) here)

    pub value-goes : (v : Bool) (words : Counted R) → Told (λ o. o ≡ Goes (record { value = v; words = seen_words stream words })) → edge_one (program_of p) x (seen stream p w) ≡ edge_passed x v (seen stream p (record w { words = words }))
    value-goes v words told = one_is ∙ ap (λ o. then_do o (λ e. edge_passed x e.value (record (seen stream p w) { words = e.words }))) (told x.head.hat x.head.script script_is)

    pub value-stops : (T U : Type 0) (stop : Stop) → Told (StopIs {T = T} (Err stop)) → StopIs {T = U} (Err stop) (edge_one (program_of p) x (seen stream p w))
    value-stops T U stop told =
        stop-same U U stop _ _ one_is
        (stop-then T U stop (valued view x.head.hat (seen_words stream w.words)) (λ e. edge_passed x e.value (record (seen stream p w) { words = e.words })) (told x.head.hat x.head.script script_is))

  -- what follows the value follows the hat
  module _ (v : Bool) (words : Counted R) (told : Told (λ o. o ≡ Goes (record { value = v; words = seen_words stream words }))) where
    pub value-ok : (new : State R) (r : Result (Unit {0}) Stop) → IfOk r (λ _. (x : Pair) → IsEdgeOf p edge x → edge_passed x v (seen stream p (record w { words = words })) ≡ Goes (seen stream p new))
        → IfOk r (λ _. (x : Pair) → IsEdgeOf p edge x → edge_one (program_of p) x (seen stream p w) ≡ Goes (seen stream p new))
    value-ok new (Ok t) h = λ x is. value-goes x is v words told ∙ h x is
    value-ok new (Err stop) h = tt

    pub value-stop : (r : Result (Unit {0}) Stop) → ((x : Pair) → IsEdgeOf p edge x → StopIs r (edge_passed x v (seen stream p (record w { words = words })))) → (x : Pair) → IsEdgeOf p edge x → StopIs r (edge_one (program_of p) x (seen stream p w))
    value-stop r h x is = subst (StopIs r) (sym (value-goes x is v words told)) (h x is)

-- Its thread

module _ {R : Type 0} (stream : R → Stream) (p : Project) (w : State R) (edge : EdgeHat) (idle : IsIdle p w) where
  one_head : (is : List Instance) (x : Pair) → IsHeadOf p is x → All (IsHeadOf p is) (x ∷ [])
  one_head is x h = All-cons (IsHeadOf p is) x [] h (All-nil (IsHeadOf p is))

  module _ (ts : Places Thread) (count : ℕ) (serials : List ℕ) (started : (x : Pair) → IsEdgeOf p edge x → start_all frames None (x ∷ []) (crowd w) ≡ Goes (record { threads = ts; next = count; serials = serials })) where
    pub fired-goes : (x : Pair) → IsEdgeOf p edge x → edge_fired true x (seen stream p w) ≡ Goes (seen stream p (record w { threads = ts; next_thread = count }))
    fired-goes x is =
        ap (λ o. then_do o (λ b. Goes b.world))
        (pairs_begin stream p w idle.resting.kept.threads is.instances None (x ∷ []) (one_head is.instances x is.head) ts count serials (started x is))

    pub fired-idle : IsListed p w.targets edge → (Everyone (Fits (sheets p)) w.threads → Everyone (Fits (sheets p)) ts) → count < 2 ^ 62 → IsIdle p (record w { threads = ts; next_thread = count })
    fired-idle h fits few =
        pairs_idle p w idle (h.pair ∷ []) (one_head w.targets h.pair h.head) ts count serials (started h.pair (listed_edge p w.targets edge h)) fits few

  pub fired-stops : (T U : Type 0) (stop : Stop) → ((x : Pair) → IsEdgeOf p edge x → StopIs {T = T} (Err stop) (start_all frames None (x ∷ []) (crowd w))) → (x : Pair) → IsEdgeOf p edge x → StopIs {T = U} (Err stop) (edge_fired true x (seen stream p w))
  fired-stops T U stop h x is =
      stop-then U U stop (begin_pairs None (x ∷ []) (seen stream p w)) (λ b. Goes b.world)
      (pairs_stop stream p w idle.resting.kept.threads is.instances None (x ∷ []) (one_head is.instances x is.head) T U stop (h x is))
