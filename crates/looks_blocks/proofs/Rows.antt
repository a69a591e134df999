-- What a row leaves, by what the code tells of it.
use Rattle.std.proofs.Common.{◌≡◌, Bool}
use Rattle.machine_spec.specs.declared.threads.Context.{Context}
use Rattle.machine_spec.specs.declared.threads.Control.{Control}
use Rattle.machine_spec.specs.Outcome.{Outcome, Goes}
use Rattle.machine_spec.specs.Parts.{LooksParts}
use Rattle.machine_spec.specs.View.{Row}
use Rattle.looks_blocks.specs.Blocks.{leaves}

pub left_so : (o : Outcome (Row LooksParts)) (p : LooksParts) (c k : Context) (d e : Control) (r s : Bool) → o ≡ Goes (leaves p c d r) → e ≡ d → s ≡ r → k ≡ c → o ≡ Goes (leaves p k e s)
left_so o p c k d e r s h same redraw kept = rw (same, redraw, kept) h
