-- The value of an edge hat by its evaluated arguments.
use Rattle.std.proofs.Common.{◌≡◌, Bool, Err, sym, ap, ◌∙◌}
use Rattle.scratch_values.specs.Named.{Arguments}
use Rattle.script_words.specs.declared.stops.Stop.{Stop}
use Rattle.machine_spec.specs.Evaluate.{evaluated}
use Rattle.machine_spec.specs.Outcome.{Goes, then_do, StopIs}
use Rattle.machine_spec.specs.Script.{Statement}
use Rattle.machine_spec.specs.View.{View}
use Rattle.machine_spec.specs.Words.{Words, made_of}
use Rattle.executions.proofs.Stops.{stop-then}
use Rattle.frames.specs.EdgeValues.{is_above, valued}

module _ (v : View) (s : Statement) (w : Words) where
  pub valued-goes : (words : Words) (a : Arguments) (b : Bool) → b ≡ is_above a v.devices → evaluated v s w ≡ Goes (record { value = a; words = words }) → valued v s w ≡ Goes (record { value = b; words = words })
  valued-goes words a b e h = ap (λ o. then_do o (made_of (λ x. is_above x v.devices))) h ∙ ap (λ x. Goes (record { value = x; words = words })) (sym e)

  pub valued-stops : (T U : Type 0) (stop : Stop) → StopIs {T = T} (Err stop) (evaluated v s w) → StopIs {T = U} (Err stop) (valued v s w)
  valued-stops T U stop h = stop-then T U stop (evaluated v s w) (made_of (λ x. is_above x v.devices)) h
