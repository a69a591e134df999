-- A level is opened over the top one, which was changed twice before.
use Rattle.std.proofs.Common.{◌≡◌, ℕ, ◌<◌, List, ◌∷◌, Some, Err, refl, ap, ◌∙◌, arith}
use Rattle.machine_spec.specs.Outcome.{Goes, most_levels, with_room}
use Rattle.machine_spec.specs.declared.threads.Which.{Which}
use Rattle.machine_spec.specs.Places.{Places, at_place, on_place}
use Rattle.machine_spec.specs.Starting.{open_levels}
use Rattle.project_check.specs.declared.project.Project.{Project}
use Rattle.thread_frames.specs.declared.level.Level.{Level}
use Rattle.thread_frames.specs.Levels.{on_top}
use Rattle.thread_frames.specs.Stops.{PushStopIs}
use Rattle.thread_frames.specs.Threads.{Thread, frames, on_levels}
use Rattle.thread_frames.specs.declared.stops.PushStop.{PushStop}
use Rattle.thread_moves.specs.Moves.{IsAtBlock, OnlyLevels, levels_at}
use Rattle.thread_moves.proofs.InPlace.{levels_are, levels_there, only_on, only_then, there_on, open_top, room_goes, was_room, stop_as}

module _ (p : Project) (which : Which) (target k : ℕ) (old : Places Thread) (at : IsAtBlock p which old target k) (f g : Level → Level) (one two : Places Thread)
    (first : one ≡ on_place (on_levels (on_top f)) which old) (second : two ≡ on_place (on_levels (on_top g)) which one) where
  found_one : at_place which one ≡ Some (on_levels (on_top f) at.thread)
  found_one = there_on which (on_levels (on_top f)) old one at.thread at.found first

  found_two : at_place which two ≡ Some (on_levels (on_top g) (on_levels (on_top f) at.thread))
  found_two = there_on which (on_levels (on_top g)) one two (on_levels (on_top f) at.thread) found_one second

  open_two : open_levels frames two ≡ open_levels frames old
  open_two = open_top which g one two (on_levels (on_top f) at.thread) found_one second ∙ open_top which f old one at.thread at.found first

  levels_two : levels_at which two ≡ on_top g (on_top f (levels_at which old))
  levels_two = levels_are which (on_top g) one two second refl ∙ ap (on_top g) (levels_are which (on_top f) old one first refl)

  -- no room is left where there was none
  pub stops_two : (T U : Type 0) {A B : Type 0} (e : PushStop) (x : A) (y : B) → PushStopIs {T = T} (Err e) (with_room (open_levels frames two) x) → PushStopIs {T = U} (Err e) (with_room (open_levels frames old) y)
  stops_two T U e x y h = stop_as T U e (open_levels frames two) (open_levels frames old) x y open_two h

  module _ (l : Level) (three : Places Thread) (pushed : with_room (open_levels frames two) (on_place (on_levels (λ ls. l ∷ ls)) which two) ≡ Goes three) where
    three_is : three ≡ on_place (on_levels (λ ls. l ∷ ls)) which two
    three_is = room_goes (open_levels frames two) (on_place (on_levels (λ ls. l ∷ ls)) which two) three pushed

    pub levels_three : levels_at which three ≡ l ∷ on_top g (on_top f (levels_at which old))
    levels_three = levels_there which (λ ls. l ∷ ls) two three (on_levels (on_top g) (on_levels (on_top f) at.thread)) found_two three_is ∙ ap (λ ls. l ∷ ls) levels_two

    pub only_three : OnlyLevels which old three
    only_three =
        only_then which old one three (only_on which (on_top f) old one first)
        (only_then which one two three (only_on which (on_top g) one two second) (only_on which (λ ls. l ∷ ls) two three three_is))

    pub room_three : open_levels frames old < most_levels
    room_three = let lt = was_room (open_levels frames two) (on_place (on_levels (λ ls. l ∷ ls)) which two) three pushed in omega (arith, lt, open_two)

-- A level is opened over those of a thread, which are changed at once.
module _ (p : Project) (which : Which) (target k : ℕ) (old : Places Thread) (at : IsAtBlock p which old target k) (g : List Level → List Level) (new : Places Thread)
    (opened : with_room (open_levels frames old) (on_place (on_levels g) which old) ≡ Goes new) where
  opened_is : new ≡ on_place (on_levels g) which old
  opened_is = room_goes (open_levels frames old) (on_place (on_levels g) which old) new opened

  pub levels_opened : levels_at which new ≡ g (levels_at which old)
  levels_opened = levels_there which g old new at.thread at.found opened_is

  pub only_opened : OnlyLevels which old new
  only_opened = only_on which g old new opened_is
