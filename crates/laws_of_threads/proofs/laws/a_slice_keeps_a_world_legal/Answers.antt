use Rattle.std.proofs.Common.{arith}
use Rattle.laws_of_threads.proofs.Depths.{levels_are}
use Rattle.machine_spec.specs.Slice.{slice}
use Rattle.laws_of_threads.proofs.RowFits.{goes_is}
use Rattle.laws_of_threads.proofs.Moving.{Moving}
use Rattle.laws_of_threads.proofs.Slices.{slice_moving}
use Rattle.laws_of_threads.proofs.laws.a_slice_keeps_a_world_legal.Goals as goal

pub returns : goal.returns
returns c p budget i n m w v good free h e =
    let g = slice_moving p good i budget n m w (record {
      sound = h.sound;
      crew = record { listed = h.listed; detached = h.detached; serials = h.serials };
      few = (let e = levels_are w.threads in let f = h.few in omega (arith, e, f));
    }) free in
    let k = goes_is (slice p budget i n m w) (Moving p) v e g in
    record { sound = k.sound; listed = k.crew.listed; detached = k.crew.detached; serials = k.crew.serials; few = (let e = levels_are v.threads in let f = k.few in omega (arith, e, f)) }
