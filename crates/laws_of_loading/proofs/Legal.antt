-- The world that an accepted saved run tells is legal.
use Rattle.std.proofs.Common.{ℕ, List, map, sym, subst}
use Rattle.laws_of_threads.specs.Lists.{Each}
use Rattle.laws_of_threads.proofs.Numbers.{each_map}
use Rattle.laws_of_turns.specs.Within.{IsInstanceWithin, IsStoreWithin}
use Rattle.laws_of_worlds.specs.Runs.{IsLegalRun}
use Rattle.saved_spec.specs.Worlds.{world_told}
use Rattle.project_spec.specs.Basis.{Basis}
use Rattle.saved_spec.specs.Refusals.{IsAccepted}
use Rattle.saved_spec.specs.RunShapes.{Told}
use Rattle.laws_of_loading.proofs.Shaped.{IsShaped, IsShapedStanding}
use Rattle.laws_of_loading.proofs.Accepting.{holds, all_well, named}
use Rattle.laws_of_loading.proofs.Tests.{each_mapped}
use Rattle.laws_of_loading.proofs.Desk.{desk}
use Rattle.laws_of_loading.proofs.Stored.{stored, each_in_order}
use Rattle.laws_of_loading.proofs.Cast.{cast}
use Rattle.laws_of_loading.proofs.Threads.{threads_legal, all_within}

instances_within : (t : Told) → IsShaped t → Each IsInstanceWithin t.run.targets
instances_within t s =
    subst (Each IsInstanceWithin) (sym s.targets)
    (each_mapped (λ x. x.instance) IsInstanceWithin s.standings (each_map IsShapedStanding (λ x. IsInstanceWithin x.instance) s.standings (λ x h. h.within) s.shaped))

stores_within : (t : Told) → IsShaped t → Each IsStoreWithin t.run.variables.stores
stores_within t s =
    subst (Each IsStoreWithin) (sym s.stores)
    (each_in_order IsStoreWithin (map (λ x. x.store) s.standings)
    (each_mapped (λ x. x.store) IsStoreWithin s.standings (each_map IsShapedStanding (λ x. IsStoreWithin x.store) s.standings (λ x h. h.store) s.shaped)))

pub accepted_is_legal : (b : Basis) (digest bytes : List ℕ) (t : Told) → IsAccepted b digest bytes t → IsLegalRun b.program t.run.seed (world_told b t)
accepted_is_legal b digest bytes t a =
    let h = holds b digest bytes t a in
    let r = named b t h.keeps.rules in
    let wells = all_well b t h.keeps.threads in
    record {
      threads = threads_legal b t h.shaped r wells;
      instances = cast b t h.shaped r;
      variables = stored b t h.shaped r;
      devices = desk b t h.shaped r;
      numbers = record {
        instances = instances_within t h.shaped;
        stores = stores_within t h.shaped;
        listed = all_within b t h.shaped r wells;
        detached = tt;
      };
    }
