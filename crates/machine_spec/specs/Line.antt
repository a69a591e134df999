-- The world after a line of an input script (after scratch-vm, engine/runtime.js, greenFlag, stopAll, and io/keyboard.js,
-- io/mouse.js, blocks/scratch3_sensing.js).
use Rattle.std.specs.Prelude.{ℕ, List, [], ◌∷◌, ◌++◌, map, filter, codes, encode_utf8, slice_get, not, Option, Some, None, if◌then◌else◌}
use Rattle.std.specs.List.{list_any}
use Rattle.machine_spec.specs.declared.lines.Line.{Line}
use Rattle.machine_spec.specs.declared.lines.Line.TheVariants as line
use Rattle.machine_spec.specs.Outcome.{Outcome, Goes, then_do}
use Rattle.machine_spec.specs.Program.{Program, Records}
use Rattle.machine_spec.specs.Threads.{Filter, Key as KeyHats, Flag, Clicked}
use Rattle.machine_spec.specs.Stores.{Instance, Question, Key}
use Rattle.machine_spec.specs.declared.devices.Key.TheVariants.{Space, Enter, Left, Right, Up, Down, One}
use Rattle.machine_spec.specs.Sensing.{is_key}
use Rattle.machine_spec.specs.Stopping.{scene_of, with_scene, first_taken, all_stopped}
use Rattle.machine_spec.specs.Tasks.{Task, begin, resumed}
use Rattle.machine_spec.specs.World.{World}
use Rattle.machine_spec.specs.Frame.{frame}

-- hats are started between frames
abbrev pub started : Program → Filter → World Task → Outcome (World Task)
started p f w = then_do (begin p None f w) (λ b. Goes b.world)

-- Keys

abbrev pub key_name : Key → List ℕ
key_name Space = codes "space"
key_name Enter = codes "enter"
key_name Left = codes "left arrow"
key_name Right = codes "right arrow"
key_name Up = codes "up arrow"
key_name Down = codes "down arrow"
key_name (One c) = encode_utf8 c

abbrev pub with_key : Key → List Key → List Key
with_key key held = if list_any (is_key key) held then held else held ++ key ∷ []

abbrev pub without_key : Key → List Key → List Key
without_key key held = filter (λ k. not (is_key key k)) held

abbrev pub with_keys : (List Key → List Key) → World Task → World Task
with_keys f w = record w { devices = record w.devices { keys = f w.devices.keys } }

-- the key's hats, then those of any key; then it is held
abbrev pub key_down : Program → Key → World Task → Outcome (World Task)
key_down p key w =
    then_do (started p (KeyHats (key_name key)) w)
    (λ x. then_do (started p (KeyHats (codes "any")) x) (λ y. Goes (with_keys (with_key key) y)))

-- The green flag, clicks, answers

-- all is stopped; the answer, the timer and the edge values are new
abbrev pub without_edges : Instance → Instance
without_edges i = record i { edges = [] }

abbrev pub renewed : World Task → World Task
renewed w = record w { targets = map without_edges w.targets; devices = record w.devices { answer = []; timer = w.devices.clock } }

abbrev pub reset : Records → World Task → World Task
reset records w = renewed (all_stopped records w)

-- the instance at a place of the executable order, if there is one
abbrev pub clicked : Program → Option Instance → World Task → Outcome (World Task)
clicked p None w = Goes w
clicked p (Some i) w = started p (Clicked i.number) w

abbrev pub with_answer : List ℕ → World Task → World Task
with_answer text w = record w { devices = record w.devices { answer = text } }

-- the first question goes, its bubble is emptied where it was shown as one, its thread is resumed, and the next question is
-- shown; without a question nothing
abbrev pub answered : List Question → World Task → Outcome (World Task)
answered [] w = Goes w
answered (q ∷ qs) w =
    then_do (first_taken q.bubble q.of (record (scene_of w) { devices = record w.devices { questions = qs } }))
    (λ s. Goes (resumed q.thread (with_scene w s)))

-- The world after a line

abbrev pub after : Program → Line → World Task → Outcome (World Task)
after p line.Nothing w = Goes w
after p line.Flag w = started p Flag (reset p.records w)
after p line.Stop w = Goes (all_stopped p.records w)
after p (line.KeyDown key) w = key_down p key w
after p (line.KeyUp key) w = Goes (with_keys (without_key key) w)
after p (line.Mouse x y) w = Goes (record w { devices = record w.devices { mouse_x = x; mouse_y = y } })
after p (line.Button down) w = Goes (record w { devices = record w.devices { button = down } })
after p (line.Click place) w = clicked p (slice_get w.targets place) w
after p (line.Answer text) w = answered w.devices.questions (with_answer text w)
after p (line.Turbo on) w = Goes (record w { devices = record w.devices { turbo = on } })
after p (line.Frame b) w = frame p b w
