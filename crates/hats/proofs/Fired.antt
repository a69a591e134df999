-- The edge hat that is started, as the code has it at hand.
use Rattle.std.proofs.Common.{◌≡◌, ℕ, ◌<◌, Bool, [], ◌∷◌, length, Option, Some, None, Result, Ok, Err, sym, ap, ◌∙◌, subst}
use Rattle.std.specs.Prelude.{slice_get, IfOk}
use Rattle.std.proofs.lemmas.Option.{same_Some, slice_get_within}
use Rattle.opcode_table.specs.Kinds.{hat_kind}
use Rattle.script_words.specs.declared.stops.Stop.{Stop}
use Rattle.machine_spec.specs.Outcome.{Goes, StopIs}
use Rattle.machine_spec.specs.Program.{hat_block}
use Rattle.machine_spec.specs.Script.{op_of}
use Rattle.machine_spec.specs.Starting.{Pair, Crowd, restarts, start_all}
use Rattle.project_spec.specs.declared.blocks.Block.{Block}
use Rattle.project_spec.specs.Linked.{IsClosed}
use Rattle.project_spec.specs.Trees.{op_by, head_of, target_of_link}
use Rattle.project_check.specs.declared.project.Project.{Project}
use Rattle.project_check.specs.Loaded.{tables_of, blocks_at, sheet_at}
use Rattle.thread_frames.specs.Fit.{IsHeld}
use Rattle.thread_frames.specs.Threads.{Thread, frames, begins_with}
use Rattle.hats.specs.declared.hat_threads.Hat.{Hat}
use Rattle.hats.specs.Edges.{EdgeHat}
use Rattle.hats.specs.Heads.{target_of, IsEdgeOf}
use Rattle.hats.specs.Started.{hat_in, started}
use Rattle.hats.proofs.Begins.{begins-next, next-held}
use Rattle.hats.proofs.Outcomes.{all-one, started-pair}

module _ (p : Project) (edge : EdgeHat) (x : Pair) (is : IsEdgeOf p edge x) where
  target_is : target_of x ≡ edge.target
  target_is = ap (λ (e : EdgeHat). e.target) is.same

  block_is : hat_block x.head ≡ edge.hat
  block_is = ap (λ (e : EdgeHat). e.hat) is.same

  -- its target and its block are there
  pub edge-there : edge.target < length (tables_of p)
  edge-there = subst (λ t. t < length (tables_of p)) target_is is.head.there

  pub edge-held : slice_get (blocks_at edge.target p) edge.hat ≡ Some is.head.block
  edge-held = (λ i. slice_get (blocks_at (sym target_is i) p) (sym block_is i)) ∙ is.head.held

  pub edge-member : edge.hat < length (blocks_at edge.target p)
  edge-member = slice_get_within (blocks_at edge.target p) edge.hat is.head.block edge-held

  -- it heads what is below its block
  pub edge-head : x.head ≡ head_of (sheet_at edge.target p) edge.hat is.head.block
  edge-head = is.head.head ∙ (λ i. head_of (sheet_at (target_is i) p) (block_is i) is.head.block)

module _ (p : Project) (edge : EdgeHat) (b : Block) (closed : IsClosed (blocks_at edge.target p)) (held : slice_get (blocks_at edge.target p) edge.hat ≡ Some b)
    (first : Option ℕ) (below : first ≡ target_of_link b.next) where
  -- the block below it is there
  pub first-held : IsHeld (sheet_at edge.target p) first
  first-held = next-held (sheet_at edge.target p) edge.hat b closed held first (sym below)

  module _ (again : Bool) (restarted : again ≡ restarts (hat_kind (op_by b.code))) where
    abbrev hat : Hat
    hat = record { of = edge.of; target = edge.target; block = edge.hat; first = first; restarts = again }

    module _ (x : Pair) (is : IsEdgeOf p edge x) where
      head_is : x.head ≡ head_of (sheet_at edge.target p) edge.hat b
      head_is =
          let same : is.head.block ≡ b = same_Some is.head.block b (sym (edge-held p edge x is) ∙ held) in
          edge-head p edge x is ∙ ap (head_of (sheet_at edge.target p) edge.hat) same

      first_is : begins_with x.head.script ≡ first
      first_is = ap (λ h. begins_with h.script) head_is ∙ begins-next (sheet_at edge.target p) edge.hat b closed held ∙ sym below

      again_is : restarts (hat_kind (op_of x.head.hat)) ≡ again
      again_is = ap (λ h. restarts (hat_kind (op_of h.hat))) head_is ∙ sym restarted

      hat_is : hat_in x ≡ hat
      hat_is =
          let own : x.of ≡ edge.of = ap (λ (e : EdgeHat). e.of) is.same in
          (λ j. record { of = own j; target = target_is p edge x is j; block = block_is p edge x is j; first = first_is j; restarts = again_is j })

      -- it is started as the hat that it is
      fired : (c : Crowd Thread) → start_all frames None (x ∷ []) c ≡ started None hat c
      fired c = all-one frames None x c ∙ sym (started-pair None x c) ∙ ap (λ h. started None h c) hat_is

    pub fired-ok : {T : Type 0} (r : Result T Stop) (c : Crowd Thread) (d : T → Crowd Thread) → IfOk r (λ t. started None hat c ≡ Goes (d t)) → IfOk r (λ t. (x : Pair) → IsEdgeOf p edge x → start_all frames None (x ∷ []) c ≡ Goes (d t))
    fired-ok (Ok t) c d h = λ x is. fired x is c ∙ h
    fired-ok (Err stop) c d h = tt

    pub fired-stop : {T : Type 0} (r : Result T Stop) (c : Crowd Thread) → StopIs r (started None hat c) → (x : Pair) → IsEdgeOf p edge x → StopIs r (start_all frames None (x ∷ []) c)
    fired-stop r c h x is = subst (StopIs r) (sym (fired x is c)) h
