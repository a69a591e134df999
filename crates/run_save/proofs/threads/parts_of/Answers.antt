use Rattle.std.proofs.Common.{◌≡◌, ◌∷◌, [], ◌++◌, map, sym, ap, ◌∙◌, subst, append_assoc}
use Rattle.std.specs.List.{All}
use Rattle.std.specs.Vec.Iter.{into_iter_items}
use Rattle.saved_parts.specs.Telling.{thread_of}
use Rattle.run_save.specs.Parts.{AllParted, AreParts, IsReady}
use Rattle.run_save.proofs.Judging.{passed}
use Rattle.run_save.proofs.Parts.{all_bad, first_ready, part_behind, rest_ready}
use Rattle.run_save.proofs.threads.parts_of.Goals as goal

pub part_of-requires : goal.part_of-requires
part_of-requires c =
    let rest = map thread_of (into_iter_items c.next.new.self) in
    let steps : into_iter_items c.loop-thread.thread-iterator ≡ c.in-Some.thread ∷ into_iter_items c.next.new.self = c.in-Some.ensures.steps.0 in
    first_ready c.args.targets.now (thread_of c.in-Some.thread) rest (subst (λ xs. All (λ x. IsReady x c.args.targets.now) (map thread_of xs)) steps c.loop-thread.invariant.ready)

pub returns-in_err-part_of : goal.returns-in_err-part_of
returns-in_err-part_of c t e w =
    let stop = c.in_err-part_of.field-0.0 in
    let rest = map thread_of (into_iter_items c.next.new.self) in
    let steps : into_iter_items c.loop-thread.thread-iterator ≡ c.in-Some.thread ∷ into_iter_items c.next.new.self = c.in-Some.ensures.steps.0 in
    passed c.from_residual.result stop (AllParted c.args.project.now t (map thread_of c.args.threads)) c.from_residual.ensures.1
    (all_bad c.args.project.now t c.loop-thread.invariant.before c.loop-thread.parts.items (thread_of c.in-Some.thread) rest (map thread_of c.args.threads) stop
    (ap (λ xs. c.loop-thread.invariant.before ++ map thread_of xs) (sym steps) ∙ c.loop-thread.invariant.split) (c.loop-thread.invariant.parts t e w) (c.in_err-part_of.ensures t e w))

pub loop-thread-preserved : goal.loop-thread-preserved
loop-thread-preserved c =
    let rest = map thread_of (into_iter_items c.next.new.self) in
    let steps : into_iter_items c.loop-thread.thread-iterator ≡ c.in-Some.thread ∷ into_iter_items c.next.new.self = c.in-Some.ensures.steps.0 in
    let before = c.loop-thread.invariant.before in
    let x = thread_of c.in-Some.thread in
    record {
      before = before ++ x ∷ [];
      split = append_assoc before (x ∷ []) rest ∙ ap (λ xs. before ++ map thread_of xs) (sym steps) ∙ c.loop-thread.invariant.split;
      parts = λ t e w. subst (AreParts c.args.project.now t (before ++ x ∷ [])) (sym c.in_ok-push.ensures.items) (part_behind c.args.project.now t before c.loop-thread.parts.items x c.in_ok-part_of.field-0 (c.loop-thread.invariant.parts t e w) (c.in_ok-part_of.ensures t e w));
      ready = rest_ready c.args.targets.now x rest (subst (λ xs. All (λ y. IsReady y c.args.targets.now) (map thread_of xs)) steps c.loop-thread.invariant.ready);
    }
