use Rattle.std.proofs.Common.{◌≡◌, drop, find}
use Rattle.project_check.specs.Procedures.{defines_at}
use Rattle.project_check.proofs.procedures.definition.Given as goal

-- no head so far defines it
abbrev pub invariant-loop-id : goal.invariant-loop-id
invariant-loop-id l = find (defines_at l.blocks l.code) l.heads ≡ find (defines_at l.blocks l.code) (drop l.id-index l.heads)
