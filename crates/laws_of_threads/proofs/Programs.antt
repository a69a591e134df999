-- The statements of a thread stand in its target, and what they call is a procedure of it.
use Rattle.std.proofs.Common.{◌≡◌, ℕ, Bool, true, false, List, [], ◌∷◌, Option, Some, None, inl, inr, sym, subst}
use Rattle.std.specs.Prelude.{bytes_eq, find, cond}
use Rattle.opcode_table.specs.declared.kinds.Kind.{Kind}
use Rattle.opcode_table.specs.declared.kinds.Kind.TheVariants.{Calls}
use Rattle.opcode_table.specs.Kinds.{kind}
use Rattle.machine_spec.specs.Script.{Script, End, Then, Statement, Does, Branches, NoBranch, AndBranch, place_of, command_of, op_of, branches_of}
use Rattle.machine_spec.specs.Program.{Program, Procedure, Head, procedure, scripts_at}
use Rattle.machine_spec.specs.Pending.{Item, Do, Held, Returned, Branch, Again, Back}
use Rattle.machine_spec.specs.Called.{called, called_by, branch_scripts, scripts_in, scripts_over}
use Rattle.machine_spec.specs.Legal.{EndOf, EndOfOne, Stands, Markers, script_of, scripts_on}
use Rattle.laws_of_threads.specs.Lists.{Each}
use Rattle.laws_of_threads.specs.Scripts.{Within, StatementWithin, BranchesWithin, IsProcedure, IsProgram}
use Rattle.laws_of_threads.specs.Threads.{Holds}
use Rattle.laws_of_threads.specs.Positions.{Begins}
use Rattle.laws_of_threads.proofs.ControlRowFits.{IsNamed}

end_within : (k : ℕ) (t whole : Script) → EndOf t whole → Within k whole → Within k t
end_within k t End e h = subst (Within k) (sym e) tt
end_within k t (Then s rest) (inl e) h = subst (Within k) (sym e) h
end_within k t (Then s rest) (inr e) h = end_within k t rest e h.1

one_within : (k : ℕ) (t : Script) (all : List Script) → EndOfOne t all → Each (Within k) all → Within k t
one_within k t [] e h = absurd e
one_within k t (x ∷ xs) (inl e) h = end_within k t x e h.0
one_within k t (x ∷ xs) (inr e) h = one_within k t xs e h.1

branches_within : (k : ℕ) (bs : Branches) → BranchesWithin k bs → Each (Within k) (branch_scripts bs)
branches_within k NoBranch h = tt
branches_within k (AndBranch name b more) h = (h.0, branches_within k more h.1)

statement_place : (k : ℕ) (s : Statement) → StatementWithin k s → (place_of s).target ≡ k
statement_place k (Does place command inputs branches) h = h.0

statement_branches : (k : ℕ) (s : Statement) → StatementWithin k s → Each (Within k) (branch_scripts (branches_of s))
statement_branches k (Does place command inputs branches) h = branches_within k branches h.1

-- what is called is a procedure of the target
abbrev pub CallFits : ℕ → Option Procedure → Type 0
CallFits k None = Unit {0}
CallFits k (Some q) = IsProcedure k q

found_by : (k : ℕ) (test : Procedure → Bool) (c : Bool) (q : Procedure) (qs : List Procedure) → IsProcedure k q → CallFits k (find test qs) → CallFits k (cond c (Some q) (find test qs))
found_by k test true q qs h g = h
found_by k test false q qs h g = g

found : (k : ℕ) (test : Procedure → Bool) (qs : List Procedure) → Each (IsProcedure k) qs → CallFits k (find test qs)
found k test [] h = tt
found k test (q ∷ qs) h = found_by k test (test q) q qs h.0 (found k test qs h.1)

pub held_head : (P : Head → Type 0) (h : Head) (hs : List Head) → Holds h hs → Each P hs → P h
held_head P h [] e g = absurd e
held_head P h (x ∷ xs) (inl e) g = subst P e g.0
held_head P h (x ∷ xs) (inr e) g = held_head P h xs e g.1

module _ (p : Program) (good : IsProgram p) where
  pub procedure_fits : (k : ℕ) (code : List ℕ) → CallFits k (procedure k code p)
  procedure_fits k code = found k (λ q. bytes_eq q.code code) (scripts_at k p).procedures (good.procedures k)

  called_by_fits : (k : ℕ) (x : Kind) (code : List ℕ) → CallFits k (called_by x p k code)
  called_by_fits k Calls code = procedure_fits k code
  called_by_fits k x code = tt

  pub called_fits : (k : ℕ) (s : Statement) → (place_of s).target ≡ k → CallFits k (called p s)
  called_fits k s e = subst (λ j. CallFits k (called_by (kind (op_of s)) p j (command_of s).code)) (sym e) (called_by_fits k (kind (op_of s)) (command_of s).code)

  over_by : (k : ℕ) (o : Option Procedure) (bs : List Script) → CallFits k o → Each (Within k) bs → Each (Within k) (scripts_in o bs)
  over_by k None bs f h = h
  over_by k (Some q) bs f h = (f.within, tt)

  over_within : (k : ℕ) (s : Statement) → StatementWithin k s → Each (Within k) (scripts_over p s)
  over_within k s h = over_by k (called p s) (branch_scripts (branches_of s)) (called_fits k s (statement_place k s h)) (statement_branches k s h)

  on_within : (hat : Script) (k : ℕ) (r : List Item) → Within k hat → Markers p hat r → Each (Within k) (scripts_on p hat r)
  on_within hat k [] h m = (h, tt)
  on_within hat k (Do s ∷ r) h m = on_within hat k r h m
  on_within hat k (Held s c ∷ r) h m = absurd m
  on_within hat k (Returned s ps ∷ r) h m = absurd m
  on_within hat k (Branch s w ∷ r) h m = over_within k s (one_within k (Then s (script_of r)) (scripts_on p hat r) m.1.ends (on_within hat k r h m.2)).0
  on_within hat k (Again s c w ∷ r) h m = over_within k s (one_within k (Then s (script_of r)) (scripts_on p hat r) m.1.ends (on_within hat k r h m.2)).0
  on_within hat k (Back s ps w ∷ r) h m = over_within k s (one_within k (Then s (script_of r)) (scripts_on p hat r) m.1.ends (on_within hat k r h m.2)).0

  -- the first statement stands in the target of the thread
  pub first_place : (hat : Script) (k : ℕ) (s : Statement) (r : List Item) (w : Bool) → Within k hat → Stands p hat (Then s (script_of r)) r w → Markers p hat r → (place_of s).target ≡ k
  first_place hat k s r w h st m = statement_place k s (one_within k (Then s (script_of r)) (scripts_on p hat r) st.ends (on_within hat k r h m)).0

pub call_begins : (k : ℕ) (o : Option Procedure) → CallFits k o → Begins o
call_begins k None f = tt
call_begins k (Some q) f = f.begins

pub call_named : (k : ℕ) (o : Option Procedure) → CallFits k o → IsNamed o
call_named k None f = tt
call_named k (Some q) f = (f.named, f.defaulted)
