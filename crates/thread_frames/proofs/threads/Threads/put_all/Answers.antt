use Rattle.std.proofs.Common.{◌≡◌, [], ◌∷◌, List, length, sym, ap, ◌∙◌, arith}
use Rattle.std.specs.Vec.Iter.{into_iter_items}
use Rattle.machine_spec.specs.Places.{on_place}
use Rattle.thread_frames.specs.Levels.{Level}
use Rattle.thread_frames.specs.Threads.{on_levels}
use Rattle.thread_frames.specs.Rebuilding.{on_all}
use Rattle.thread_frames.proofs.Opening.{open-one}
use Rattle.thread_frames.proofs.Rebuilds.{put_more, put_none, no_levels}
use Rattle.thread_frames.proofs.threads.Threads.put_all.Goals as goal

pub loop-level-preserved : goal.loop-level-preserved
loop-level-preserved c =
    let left : c.in-Some.level ∷ into_iter_items c.next.new.self ≡ into_iter_items c.loop-level.level-iterator = sym c.in-Some.ensures.steps.0 in
    record {
      room = omega (arith, c.loop-level.invariant.room, ap length left, open-one c.in-Some.level c.args.which c.loop-level.self c.put.new.self c.put.ensures);
      same = put_more c.in-Some.level (into_iter_items c.next.new.self) c.args.which c.loop-level.self c.put.new.self c.put.ensures
          ∙ ap (λ (ls : List Level). on_place (on_levels (on_all ls)) c.args.which c.loop-level.self) left ∙ c.loop-level.invariant.same;
    }

pub returns : goal.returns
returns c =
    let none : into_iter_items c.loop-level.level-iterator ≡ [] =
    no_levels (into_iter_items c.loop-level.level-iterator) (omega (arith, c.loop-level.level-iterator.rest.ok.0, c.in-None.ensures.steps.0)) in
    sym (put_none c.args.which c.loop-level.self)
    ∙ ap (λ (ls : List Level). on_place (on_levels (on_all ls)) c.args.which c.loop-level.self) (sym none)
    ∙ c.loop-level.invariant.same
