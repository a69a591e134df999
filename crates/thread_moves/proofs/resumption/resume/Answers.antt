-- The top level has gone on, and one level is kept where none is left.
use Rattle.std.proofs.Common.{◌∷◌, None, false, sym, ap, ◌∙◌, refl}
use Rattle.std.proofs.lemmas.Result.{on_ok_weaker}
use Rattle.thread_frames.specs.Levels.{new_level, without_top}
use Rattle.thread_moves.proofs.InPlace.{levels_are, only_on, only_then, still_there}
use Rattle.thread_moves.proofs.Resumes.{rest_holds, gone_on, nothing_resumed, only_level, rest_there, room_left}
use Rattle.thread_moves.proofs.resumption.resume.Goals as goal

pub pass-requires : goal.pass-requires
pass-requires c = rest_holds _ _ _ c.requires (sym c.top_block.ensures ∙ c.in-Some.is)

pub keep_open-requires-clause-there : goal.keep_open-requires-clause-there
keep_open-requires-clause-there c = still_there c.args.which _ _ (rest_there _ c.args.which c.args.threads.now c.requires) c.pass.ensures.only

pub keep_open-requires-clause-room : goal.keep_open-requires-clause-room
keep_open-requires-clause-room c = λ none. room_left _ c.args.which c.args.threads.now _ c.requires c.pass.ensures.only c.levels-few.ensures.few none

pub returns-in-Some-clause-resumed : goal.returns-in-Some-clause-resumed
returns-in-Some-clause-resumed c =
    let th = rest_holds _ _ _ c.requires (sym c.top_block.ensures ∙ c.in-Some.is) in
    on_ok_weaker c.keep_open.result (λ kept. gone_on _ _ _ c.linked-block.ensures.ranked th _ _ _ c.pass.ensures.at kept) c.keep_open.ensures.levels

pub returns-in-Some-clause-only : goal.returns-in-Some-clause-only
returns-in-Some-clause-only c = on_ok_weaker c.keep_open.result (λ only. only_then c.args.which _ _ _ c.pass.ensures.only only) c.keep_open.ensures.only

pub open_empty-requires-clause-there : goal.open_empty-requires-clause-there
open_empty-requires-clause-there c = still_there c.args.which _ _ (rest_there _ c.args.which c.args.threads.now c.requires) (only_on c.args.which without_top _ _ c.pop.ensures.popped)

pub open_empty-requires-clause-room : goal.open_empty-requires-clause-room
open_empty-requires-clause-room c =
    room_left _ c.args.which c.args.threads.now _ c.requires (only_on c.args.which without_top _ _ c.pop.ensures.popped) c.levels-few.ensures.few
    (levels_are c.args.which without_top _ _ c.pop.ensures.popped refl ∙ only_level _ _ c.requires (sym c.top_block.ensures ∙ c.in-None.is))

pub returns-in-None-clause-resumed : goal.returns-in-None-clause-resumed
returns-in-None-clause-resumed c =
    let none = sym c.top_block.ensures ∙ c.in-None.is in
    on_ok_weaker c.open_empty.result
    (λ e. nothing_resumed _ _ _ c.requires none (e ∙ ap (λ ls. new_level None false ∷ ls) (levels_are c.args.which without_top _ _ c.pop.ensures.popped refl ∙ only_level _ _ c.requires none)))
    c.open_empty.ensures.levels

pub returns-in-None-clause-only : goal.returns-in-None-clause-only
returns-in-None-clause-only c = on_ok_weaker c.open_empty.result (λ only. only_then c.args.which _ _ _ (only_on c.args.which without_top _ _ c.pop.ensures.popped) only) c.open_empty.ensures.only
