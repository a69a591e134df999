-- What a legal thread has to do is of its program, so its constants are within the limit.
use Rattle.std.proofs.Common.{ℕ, Bool, List, [], ◌∷◌, Option, Some, None, inl, inr, sym, subst}
use Rattle.std.specs.Prelude.{IfSome}
use Rattle.machine_spec.specs.Script.{Script, End, Then, Statement, Does, Branches, NoBranch, AndBranch, branches_of}
use Rattle.machine_spec.specs.Program.{Program, Procedure, scripts_at}
use Rattle.machine_spec.specs.Called.{called, branch_scripts, scripts_in, scripts_over}
use Rattle.machine_spec.specs.Legal.{EndOf, EndOfOne, Legal, Markers, script_of, scripts_on}
use Rattle.machine_spec.specs.Pending.{Item, Do, Held, Returned, Branch, Again, Back}
use Rattle.machine_spec.specs.Tasks.{Task}
use Rattle.machine_spec.specs.World.{World}
use Rattle.laws_of_threads.specs.Lists.{Each}
use Rattle.laws_of_threads.specs.Statements.{EachUnder, EachInOne}
use Rattle.laws_of_threads.specs.Worlds.{IsLegalThread, IsLegalWorld}
use Rattle.laws_of_threads.proofs.Numbers.{each_map}
use Rattle.laws_of_threads.proofs.Programs.{held_head}
use Rattle.laws_of_turns.specs.Within.{IsItemWithin, IsTaskWithin, IsWorldWithin, IsProgramWithin}
use Rattle.laws_of_turns.proofs.Threads.{HasInputsWithin, RunsWithin, ScriptRuns, BodyRuns, ItemRuns, ItemsRun, TaskRuns, WorldRuns, HeadRuns, called_runs}

end_runs : (t whole : Script) → EndOf t whole → ScriptRuns whole → ScriptRuns t
end_runs t End e h = subst ScriptRuns (sym e) tt
end_runs t (Then s rest) (inl e) h = subst ScriptRuns (sym e) h
end_runs t (Then s rest) (inr e) h = end_runs t rest e h.2

one_runs : (t : Script) (all : List Script) → EndOfOne t all → Each ScriptRuns all → ScriptRuns t
one_runs t [] e h = absurd e
one_runs t (x ∷ xs) (inl e) h = end_runs t x e h.0
one_runs t (x ∷ xs) (inr e) h = one_runs t xs e h.1

branches_run : (bs : Branches) → EachInOne HasInputsWithin bs → Each ScriptRuns (branch_scripts bs)
branches_run NoBranch h = tt
branches_run (AndBranch name b more) h = (h.0, branches_run more h.1)

statement_branches_run : (s : Statement) → EachUnder HasInputsWithin s → Each ScriptRuns (branch_scripts (branches_of s))
statement_branches_run (Does place command inputs branches) h = branches_run branches h

in_runs : (o : Option Procedure) (bs : List Script) → IfSome o BodyRuns → Each ScriptRuns bs → Each ScriptRuns (scripts_in o bs)
in_runs None bs f h = h
in_runs (Some q) bs f h = (f, tt)

module _ (p : Program) (good : IsProgramWithin p) (hat : Script) (hat_runs : ScriptRuns hat) where
  over_runs : (s : Statement) → RunsWithin s → Each ScriptRuns (scripts_over p s)
  over_runs s h = in_runs (called p s) (branch_scripts (branches_of s)) (called_runs p good s) (statement_branches_run s h.1)

  -- the level on these items stands in scripts of the program
  on_runs : (r : List Item) → Markers p hat r → Each ScriptRuns (scripts_on p hat r)
  on_runs [] m = (hat_runs, tt)
  on_runs (Do s ∷ r) m = on_runs r m
  on_runs (Held s c ∷ r) m = absurd m
  on_runs (Returned s ps ∷ r) m = absurd m
  on_runs (Branch s w ∷ r) m = over_runs s (let k = one_runs (Then s (script_of r)) (scripts_on p hat r) m.1.ends (on_runs r m.2) in (k.0, k.1))
  on_runs (Again s c w ∷ r) m = over_runs s (let k = one_runs (Then s (script_of r)) (scripts_on p hat r) m.1.ends (on_runs r m.2) in (k.0, k.1))
  on_runs (Back s ps w ∷ r) m = over_runs s (let k = one_runs (Then s (script_of r)) (scripts_on p hat r) m.1.ends (on_runs r m.2) in (k.0, k.1))

  -- the statements up to the next marker are those of a script, and so on behind it
  behind_run : (r : List Item) → ScriptRuns (script_of r) → Markers p hat r → Each IsItemWithin r → ItemsRun r
  behind_run [] t m h = tt
  behind_run (Do s ∷ r) t m h = ((t.0, t.1), behind_run r t.2 m h.1)
  behind_run (Held s c ∷ r) t m h = absurd m
  behind_run (Returned s ps ∷ r) t m h = absurd m
  behind_run (Branch s w ∷ r) t m h = let k = one_runs (Then s (script_of r)) (scripts_on p hat r) m.1.ends (on_runs r m.2) in (tt, behind_run r k.2 m.2 h.1)
  behind_run (Again s c w ∷ r) t m h = let k = one_runs (Then s (script_of r)) (scripts_on p hat r) m.1.ends (on_runs r m.2) in (((k.0, k.1), h.0), behind_run r k.2 m.2 h.1)
  behind_run (Back s ps w ∷ r) t m h = let k = one_runs (Then s (script_of r)) (scripts_on p hat r) m.1.ends (on_runs r m.2) in (((k.0, k.1), h.0), behind_run r k.2 m.2 h.1)

  legal_items_run : (clock : ℕ) (items : List Item) (w : Bool) → Legal p hat clock items w → Each IsItemWithin items → ItemsRun items
  legal_items_run clock [] w l h = tt
  legal_items_run clock (Do s ∷ r) w l h = let k = one_runs (Then s (script_of r)) (scripts_on p hat r) l.0.ends (on_runs r l.1) in ((k.0, k.1), behind_run r k.2 l.1 h.1)
  legal_items_run clock (Held s c ∷ r) w l h = let k = one_runs (Then s (script_of r)) (scripts_on p hat r) l.1.ends (on_runs r l.2) in (((k.0, k.1), h.0), behind_run r k.2 l.2 h.1)
  legal_items_run clock (Returned s ps ∷ r) w l h = let k = one_runs (Then s (script_of r)) (scripts_on p hat r) l.1.ends (on_runs r l.2) in (((k.0, k.1), h.0), behind_run r k.2 l.2 h.1)
  legal_items_run clock (Branch s v ∷ r) w l h = absurd l
  legal_items_run clock (Again s c v ∷ r) w l h = absurd l
  legal_items_run clock (Back s ps v ∷ r) w l h = absurd l

-- From a legal world, and back

module _ (p : Program) (good : IsProgramWithin p) where
  task_runs : (w : World Task) (t : Task) → IsLegalThread p w t → IsTaskWithin t → TaskRuns t
  task_runs w t l h = legal_items_run p good l.thread.head.script (held_head HeadRuns l.thread.head (scripts_at l.thread.target p).heads l.thread.heads (good.statements.heads l.thread.target))
      w.devices.clock t.items t.warp l.thread.legal h

  tasks_run : (w : World Task) (ts : List Task) → Each (IsLegalThread p w) ts → Each IsTaskWithin ts → Each TaskRuns ts
  tasks_run w [] l h = tt
  tasks_run w (t ∷ ts) l h = (task_runs w t l.0 h.0, tasks_run w ts l.1 h.1)

  pub legal_runs : (w : World Task) → IsLegalWorld p w → IsWorldWithin w → WorldRuns w
  legal_runs w l h = record {
    instances = h.instances;
    stores = h.stores;
    crew = record { listed = tasks_run w w.threads.list l.threads h.listed; detached = subst (λ o. IfSome o TaskRuns) (sym l.none_detached) tt };
  }

item_within : (x : Item) → ItemRuns x → IsItemWithin x
item_within (Do s) h = tt
item_within (Held s c) h = h.1
item_within (Returned s ps) h = h.1
item_within (Branch s w) h = tt
item_within (Again s c w) h = h.1
item_within (Back s ps w) h = h.1

task_within : (t : Task) → TaskRuns t → IsTaskWithin t
task_within t h = each_map ItemRuns IsItemWithin t.items item_within h

some_within : (o : Option Task) → IfSome o TaskRuns → IfSome o IsTaskWithin
some_within None h = tt
some_within (Some t) h = task_within t h

pub runs_within : (w : World Task) → WorldRuns w → IsWorldWithin w
runs_within w h = record {
  instances = h.instances;
  stores = h.stores;
  listed = each_map TaskRuns IsTaskWithin w.threads.list task_within h.crew.listed;
  detached = some_within w.threads.detached h.crew.detached;
}
