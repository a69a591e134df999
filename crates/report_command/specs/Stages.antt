-- Helpers of private functions: what the stages of a call answer. They are a judgement and a write.
use Rattle.std.specs.Prelude.{◌≡◌, ℕ, List, Option, None, Some, IfSome, IsSome}
use Rattle.sv_channels.specs.declared.errors.FetchError.{FetchError}
use Rattle.sv_channels.specs.declared.errors.FetchError.TheVariants as fetch
use Rattle.project_spec.specs.declared.refusals.Refusal.{Refusal}
use Rattle.project_spec.specs.RuleNames.{project_rule}
use Rattle.report_command.specs.Verdict.{Verdict, IsVerdict, IsCounted, verdict_text, refusal_in}
use Rattle.project_spec.specs.Refusals.{IsRefusal}
use Rattle.report_command.specs.declared.judgement.Loaded.{Loaded}
use Rattle.report_command.specs.declared.judgement.Loaded.TheVariants.{Accepted, Refused}
use Rattle.report_command.specs.declared.judgement.Judged.{Judged}
use Rattle.report_command.specs.declared.status.Status.{Status}
use Rattle.report_command.specs.declared.status.Status.TheVariants.{Done, ReadFault, WriteFault, BadProject, TooLarge, NoMemory}

-- the status of a file that was not fetched
abbrev pub unfetched : FetchError → Status
unfetched fetch.Failed = ReadFault
unfetched (fetch.TooLarge limit) = TooLarge limit
unfetched fetch.NoMemory = NoMemory

-- the text of a verdict on the bytes, and its refusal, which is no want of memory
pub record IsJudged (bytes : List ℕ) (j : Judged) : Type 0 where
  pub verdict : Verdict
  pub is : IsVerdict bytes verdict
  pub text : j.text.items ≡ verdict_text verdict
  pub refusal : j.refusal ≡ refusal_in verdict
  pub rule : IfSome j.refusal (λ r. IsSome (project_rule r))

-- how a write of a judgement ends
abbrev pub ToldOf : Option Refusal → Status → Type 0
ToldOf refusal Done = refusal ≡ None
ToldOf refusal (BadProject r) = refusal ≡ Some r
ToldOf refusal WriteFault = Unit {0}
ToldOf refusal NoMemory = Unit {0}
ToldOf refusal status = ⊥

-- a file was loaded, and its project counted
abbrev pub IsLoaded : List ℕ → Loaded → Type 0
IsLoaded bytes (Accepted c) = IsCounted bytes c
IsLoaded bytes (Refused r) = IsRefusal bytes r × IsSome (project_rule r)
