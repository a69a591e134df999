-- Where the statements of a legal thread stand: in its target, at blocks of it, each in the script that its block begins.
use Rattle.std.proofs.Common.{◌≡◌, ℕ, Bool, true, false, List, [], ◌∷◌, Option, Some, None, inl, inr, sym, subst}
use Rattle.std.specs.Prelude.{bytes_eq, find, cond}
use Rattle.opcode_table.specs.declared.kinds.Kind.{Kind}
use Rattle.opcode_table.specs.declared.kinds.Kind.TheVariants.{Calls}
use Rattle.opcode_table.specs.Kinds.{kind}
use Rattle.machine_spec.specs.Called.{called, called_by, branch_scripts, scripts_in, scripts_over}
use Rattle.machine_spec.specs.Legal.{EndOf, EndOfOne, Stands, script_of, scripts_on}
use Rattle.machine_spec.specs.Pending.{Item, Do, Held, Returned, Branch, Again, Back}
use Rattle.machine_spec.specs.Program.{Procedure, Head, scripts_at}
use Rattle.machine_spec.specs.Script.{Script, End, Then, Statement, Does, Branches, NoBranch, AndBranch, place_of, command_of, op_of, branches_of}
use Rattle.laws_of_threads.specs.Lists.{Each}
use Rattle.laws_of_threads.specs.Scripts.{Within, StatementWithin, BranchesWithin, IsProcedure}
use Rattle.laws_of_threads.specs.Statements.{EachIn, EachUnder, EachInOne}
use Rattle.laws_of_threads.specs.Threads.{Holds}
use Rattle.laws_of_threads.proofs.Programs.{held_head}
use Rattle.laws_of_programs.specs.Scripts.{Begun, BegunUnder, BegunIn, IsInBlocks}
use Rattle.project_spec.specs.Basis.{Basis}
use Rattle.saved_spec.specs.Legal.{AllStand, BlocksAgree}
use Rattle.laws_of_saving.specs.Good.{IsGood}

module _ (b : Basis) (good : IsGood b) where
  -- a script of a target
  pub record IsOf (k : ℕ) (t : Script) : Type 0 where
    pub within : Within k t
    pub begun : Begun (good.blocks.at k) t
    pub each : EachIn (IsInBlocks b.blocks k) t

  end_of : (k : ℕ) (t whole : Script) → EndOf t whole → IsOf k whole → IsOf k t
  end_of k t End e h = subst (IsOf k) (sym e) h
  end_of k t (Then s rest) (inl e) h = subst (IsOf k) (sym e) h
  end_of k t (Then s rest) (inr e) h = end_of k t rest e (record { within = h.within.1; begun = h.begun.2; each = h.each.2 })

  one_of : (k : ℕ) (t : Script) (all : List Script) → EndOfOne t all → Each (IsOf k) all → IsOf k t
  one_of k t [] e h = absurd e
  one_of k t (x ∷ xs) (inl e) h = end_of k t x e h.0
  one_of k t (x ∷ xs) (inr e) h = one_of k t xs e h.1

  branches_are : (k : ℕ) (bs : Branches) → BranchesWithin k bs → BegunIn (good.blocks.at k) bs → EachInOne (IsInBlocks b.blocks k) bs → Each (IsOf k) (branch_scripts bs)
  branches_are k NoBranch h g e = tt
  branches_are k (AndBranch name branch more) h g e = (record { within = h.0; begun = g.0; each = e.0 }, branches_are k more h.1 g.1 e.1)

  under_is : (k : ℕ) (s : Statement) → StatementWithin k s → BegunUnder (good.blocks.at k) s → EachUnder (IsInBlocks b.blocks k) s → Each (IsOf k) (branch_scripts (branches_of s))
  under_is k (Does place command inputs branches) h g e = branches_are k branches h.1 g e

  place_is : (k : ℕ) (s : Statement) → StatementWithin k s → (place_of s).target ≡ k
  place_is k (Does place command inputs branches) h = h.0

  -- the body of what is called is one too
  abbrev CallIsOf : ℕ → Option Procedure → Type 0
  CallIsOf k None = Unit {0}
  CallIsOf k (Some q) = IsOf k q.body

  found_by : (k : ℕ) (test : Procedure → Bool) (c : Bool) (q : Procedure) (qs : List Procedure) → IsOf k q.body → CallIsOf k (find test qs) → CallIsOf k (cond c (Some q) (find test qs))
  found_by k test true q qs h g = h
  found_by k test false q qs h g = g

  found : (k : ℕ) (test : Procedure → Bool) (qs : List Procedure) → Each (IsProcedure k) qs → Each (λ q. Begun (good.blocks.at k) q.body) qs → Each (λ q. EachIn (IsInBlocks b.blocks k) q.body) qs → CallIsOf k (find test qs)
  found k test [] h g e = tt
  found k test (q ∷ qs) h g e = found_by k test (test q) q qs (record { within = h.0.within; begun = g.0; each = e.0 }) (found k test qs h.1 g.1 e.1)

  called_by_is : (k : ℕ) (x : Kind) (code : List ℕ) → CallIsOf k (called_by x b.program k code)
  called_by_is k Calls code = found k (λ q. bytes_eq q.code code) (scripts_at k b.program).procedures (good.program.scripts.procedures k) (good.blocks.procedures k) (good.order.placed.procedures k)
  called_by_is k x code = tt

  called_is : (k : ℕ) (s : Statement) → (place_of s).target ≡ k → CallIsOf k (called b.program s)
  called_is k s e = subst (λ j. CallIsOf k (called_by (kind (op_of s)) b.program j (command_of s).code)) (sym e) (called_by_is k (kind (op_of s)) (command_of s).code)

  over_by : (k : ℕ) (o : Option Procedure) (bs : List Script) → CallIsOf k o → Each (IsOf k) bs → Each (IsOf k) (scripts_in o bs)
  over_by k None bs f h = h
  over_by k (Some q) bs f h = (f, tt)

  over : (k : ℕ) (s : Statement) (rest : Script) → IsOf k (Then s rest) → Each (IsOf k) (scripts_over b.program s)
  over k s rest h = over_by k (called b.program s) (branch_scripts (branches_of s)) (called_is k s (place_is k s h.within.0)) (under_is k s h.within.0 h.begun.1 h.each.1)

  pub head_is : (k : ℕ) (h : Head) → Holds h (scripts_at k b.program).heads → IsOf k h.script
  head_is k h held = record {
    within = held_head (λ x. Within k x.script) h (scripts_at k b.program).heads held (good.program.scripts.heads k);
    begun = held_head (λ x. Begun (good.blocks.at k) x.script) h (scripts_at k b.program).heads held (good.blocks.heads k);
    each = held_head (λ x. EachIn (IsInBlocks b.blocks k) x.script) h (scripts_at k b.program).heads held (good.order.placed.heads k);
  }

  module _ (k : ℕ) (hat : Script) (h : IsOf k hat) where
    on : (r : List Item) → AllStand b.program hat r → Each (IsOf k) (scripts_on b.program hat r)
    on [] all = (h, tt)
    on (Do s ∷ r) all = on r all.1
    on (Held s c ∷ r) all = absurd all.0
    on (Returned s ps ∷ r) all = absurd all.0
    on (Branch s w ∷ r) all = over k s (script_of r) (one_of k (Then s (script_of r)) (scripts_on b.program hat r) all.0.ends (on r all.1))
    on (Again s c w ∷ r) all = over k s (script_of r) (one_of k (Then s (script_of r)) (scripts_on b.program hat r) all.0.ends (on r all.1))
    on (Back s ps w ∷ r) all = over k s (script_of r) (one_of k (Then s (script_of r)) (scripts_on b.program hat r) all.0.ends (on r all.1))

    -- a block begins one script
    pub agreed : BlocksAgree b.program hat
    agreed = record {
      script_at = good.blocks.at k;
      agree = λ under s rest all ends. (one_of k (Then s rest) (scripts_on b.program hat under) ends (on under all)).begun.0;
    }

    -- a statement of the thread stands at a block of the target
    pub placed : (s : Statement) (r : List Item) (w : Bool) → AllStand b.program hat r → Stands b.program hat (Then s (script_of r)) r w → IsInBlocks b.blocks k s
    placed s r w all st = (one_of k (Then s (script_of r)) (scripts_on b.program hat r) st.ends (on r all)).each.0
