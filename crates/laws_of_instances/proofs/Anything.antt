-- Every statement of a program has what any statement has.
use Rattle.std.proofs.Common.{ℕ, List, [], ◌∷◌}
use Rattle.machine_spec.specs.Program.{Program, scripts_at}
use Rattle.machine_spec.specs.Script.{Script, End, Then, Statement, Does, Branches, NoBranch, AndBranch}
use Rattle.laws_of_threads.specs.Lists.{Each}
use Rattle.laws_of_threads.specs.Statements.{EachIn, EachUnder, EachInOne, Everywhere}

each_any : {A : Type 0} (P : A → Type 0) (xs : List A) → ((x : A) → P x) → Each P xs
each_any P [] f = tt
each_any P (x ∷ xs) f = (f x, each_any P xs f)

module _ (P : Statement → Type 0) (any : (s : Statement) → P s) where
  mutual
    each_in : (s : Script) → EachIn P s
    each_in End = tt
    each_in (Then s rest) = (any s, each_under s, each_in rest)

    each_under : (s : Statement) → EachUnder P s
    each_under (Does place command inputs branches) = each_branch branches

    each_branch : (b : Branches) → EachInOne P b
    each_branch NoBranch = tt
    each_branch (AndBranch name branch more) = (each_in branch, each_branch more)

pub anywhere : (p : Program) (P : ℕ → Statement → Type 0) → ((k : ℕ) (s : Statement) → P k s) → Everywhere P p
anywhere p P any = record {
  hats = λ k. each_any (λ h. P k h.hat) (scripts_at k p).heads (λ h. any k h.hat);
  heads = λ k. each_any (λ h. EachIn (P k) h.script) (scripts_at k p).heads (λ h. each_in (P k) (any k) h.script);
  procedures = λ k. each_any (λ q. EachIn (P k) q.body) (scripts_at k p).procedures (λ q. each_in (P k) (any k) q.body);
}
