-- Edge hats, part by part.
use Rattle.std.proofs.Common.{◌≡◌, ℕ, Bool, true, false, ◌&&◌, not, List, ◌∷◌, ◌++◌, map, Some, None, refl, sym, ap, ◌∙◌, append_assoc}
use Rattle.std.specs.Prelude.{filter, flat_map, option_to_list, if◌then◌else◌}
use Rattle.std.specs.List.{list_any}
use Rattle.std.proofs.lemmas.List.{map-append}
use Rattle.std.proofs.lemmas.List.Concat.{flat_map-cons}
use Rattle.std.proofs.lemmas.List.Elements.{filter-append}
use Rattle.opcode_table.specs.declared.hats.HatKind.TheVariants.{NoHat}
use Rattle.opcode_table.specs.Kinds.{hat_kind}
use Rattle.machine_spec.specs.declared.instance.Instance.{Instance}
use Rattle.machine_spec.specs.Script.{Statement, op_of}
use Rattle.machine_spec.specs.Places.{Places}
use Rattle.machine_spec.specs.Starting as machine
use Rattle.machine_spec.specs.Starting.{Pair}
use Rattle.machine_spec.specs.Frame.{is_edge_hat}
use Rattle.project_spec.specs.declared.blocks.Block.{Block}
use Rattle.project_spec.specs.Trees.{op_by}
use Rattle.project_check.specs.declared.project.Project.{Project}
use Rattle.thread_frames.specs.Threads.{Thread, frames, is_alive_of}
use Rattle.hats.specs.Edges.{EdgeHat, is_edge, edge_of, among}
use Rattle.hats.specs.Rounds.{passing_by}

-- only hats are edge hats
pub edge-hats : (s : Statement) → hat_kind (op_of s) ≡ NoHat → is_edge s ≡ false
edge-hats s e = ap is_edge_hat e

among-append : (ts : Places Thread) (xs ys : List Pair) → among ts (xs ++ ys) ≡ among ts xs ++ among ts ys
among-append ts xs ys =
    ap (map edge_of) (filter-append (λ x. not (list_any (machine.is_alive_of frames x) ts.list)) xs ys)
    ∙ map-append edge_of (filter (λ x. not (list_any (machine.is_alive_of frames x) ts.list)) xs) (filter (λ x. not (list_any (machine.is_alive_of frames x) ts.list)) ys)

-- the first part is told
pub among-more : {B : Type 0} (ts : Places Thread) (f : B → List Pair) (b : B) (bs : List B) (es : List EdgeHat) → (es ++ among ts (f b)) ++ among ts (flat_map f bs) ≡ es ++ among ts (flat_map f (b ∷ bs))
among-more ts f b bs es =
    append_assoc es (among ts (f b)) (among ts (flat_map f bs))
    ∙ ap (λ xs. es ++ xs) (sym (among-append ts (f b) (flat_map f bs)) ∙ ap (among ts) (sym (flat_map-cons f b bs)))

module _ (p : Project) (ts : Places Thread) (i : Instance) (id : ℕ) (b : Block) where
  by : (kind alive : Bool) → is_edge_hat (hat_kind (op_by b.code)) ≡ kind → list_any (is_alive_of i.number id) ts.list ≡ alive → (free : Bool) → (kind && not alive) ≡ free
      → option_to_list (if free then Some (record { of = i.number; target = i.of; hat = id }) else None) ≡ among ts (passing_by p is_edge i id (Some b))
  by true true e f true g = absurd (cc g)
  by true true e f false g = rw e (rw f refl)
  by true false e f true g = rw e (rw f refl)
  by true false e f false g = absurd (cc g)
  by false alive e f true g = absurd (cc g)
  by false alive e f false g = rw e refl

  -- one block
  pub edge-one : (free : Bool) → free ≡ (is_edge_hat (hat_kind (op_by b.code)) && not (list_any (is_alive_of i.number id) ts.list))
      → option_to_list (if free then Some (record { of = i.number; target = i.of; hat = id }) else None) ≡ among ts (passing_by p is_edge i id (Some b))
  edge-one free e = by (is_edge_hat (hat_kind (op_by b.code))) (list_any (is_alive_of i.number id) ts.list) refl refl free (sym e)
