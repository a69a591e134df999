-- At the end of a pass no listed thread is done.
use Rattle.std.proofs.Common.{◌≡◌, Bool, true, false, not, refl, filter}
use Rattle.std.proofs.lemmas.List.Elements.{All-weaker, filter_passes}
use Rattle.machine_spec.specs.Threads.{is_done}
use Rattle.machine_spec.specs.Tasks.{Task}
use Rattle.machine_spec.specs.Places.{Everyone}
use Rattle.machine_spec.specs.World.{World}
use Rattle.machine_spec.specs.Slice.{without_done}
use Rattle.machine_spec.specs.Laws.{IsAlive}

not_true : (b : Bool) → not b ≡ true → b ≡ false
not_true true e = absurd (cc e)
not_true false e = refl

is_alive : Task → Bool
is_alive t = not (is_done t.status)

pub without_done-alive : (w : World Task) → Everyone IsAlive (without_done w).threads
unfolding is_alive
without_done-alive w = record {
  listed = All-weaker (λ t. is_alive t ≡ true) IsAlive (λ t e. not_true _ e) (filter is_alive w.threads.list) (filter_passes is_alive w.threads.list);
  detached = tt;
}
