-- The rules of saved runs in five groups, in their order.
use Rattle.std.specs.Borrow.{Bor}
use Rattle.std.specs.Prelude.{ℕ, Bool, not, List, [], ◌∷◌, find, codes, Option, option_map}
use Rattle.project_spec.specs.Basis.{Basis}
use Rattle.saved_spec.specs.RunShapes.{Told}
use Rattle.saved_spec.specs.Rules
use Rattle.saved_spec.specs.Rules.{Rule, rule}

-- the member of the first rule that is broken
abbrev pub broken_in : List Rule → Option (List ℕ)
broken_in rules = option_map (λ r. r.member) (find (λ r. not r.holds) rules)

-- a rule as it was tested
abbrev pub rule_of : Bor (List ℕ) × Bool → Rule
rule_of r = rule r.0.now r.1

-- the clock, the devices, the counters and the monitors
abbrev pub of_devices : Basis → Told → List Rule
of_devices b t =
    rule (codes "clock") (Rules.clock_is_in_range t)
    ∷ rule (codes "timer") (Rules.timer_was_reset t)
    ∷ rule (codes "mouse") (Rules.mouse_is_on_stage t)
    ∷ rule (codes "keys") (Rules.keys_are_held t)
    ∷ rule (codes "drawn") (Rules.words_are_counted t)
    ∷ rule (codes "frame") (Rules.frames_are_counted t)
    ∷ rule (codes "next") (Rules.next_are_counted b t)
    ∷ rule (codes "made") (Rules.made_monitors_show b t)
    ∷ rule (codes "monitors") (Rules.monitors_are_counted b t)
    ∷ []

-- which instances there are
abbrev pub of_instances : Basis → Told → List Rule
of_instances b t =
    rule (codes "instances") (Rules.stage_is_first b t)
    ∷ rule (codes "instances") (Rules.originals_are_there b t)
    ∷ rule (codes "instances") (Rules.clones_are_sprites b t)
    ∷ rule (codes "instances") (Rules.clones_are_few t)
    ∷ []

-- how they stand, and what they have
abbrev pub of_standing : Basis → Told → List Rule
of_standing b t =
    rule (codes "instances") (Rules.costumes_are_there b t)
    ∷ rule (codes "instances") (Rules.sizes_are_in_range t)
    ∷ rule (codes "instances") (Rules.directions_are_in_range t)
    ∷ rule (codes "instances") (Rules.effects_are_in_range t)
    ∷ rule (codes "instances") (Rules.stage_is_in_place b t)
    ∷ rule (codes "instances") (Rules.variables_are_there b t)
    ∷ rule (codes "instances") (Rules.lists_are_short t)
    ∷ []

-- texts, usages and edge hats
abbrev pub of_texts : Basis → Told → List Rule
of_texts b t =
    rule (codes "answer") (Rules.answer_is_short t)
    ∷ rule (codes "instances") (Rules.instances_say_little t)
    ∷ rule (codes "questions") (Rules.questions_are_short t)
    ∷ rule (codes "threads") (Rules.params_are_short t)
    ∷ rule (codes "instances") (Rules.bubbles_were_updated t)
    ∷ rule (codes "timers") (Rules.timers_were_updated t)
    ∷ rule (codes "instances") (Rules.edges_are_hats b t)
    ∷ []

-- questions, timers and threads
abbrev pub of_threads : Basis → Told → List Rule
of_threads b t =
    rule (codes "questions") (Rules.questions_are_of_threads t)
    ∷ rule (codes "timers") (Rules.timers_are_of_threads t)
    ∷ rule (codes "timers") (Rules.timers_come_due t)
    ∷ rule (codes "threads") (Rules.threads_are_of_hats b t)
    ∷ rule (codes "threads") (Rules.levels_are_of_blocks b t)
    ∷ rule (codes "threads") (Rules.started_were_there t)
    ∷ rule (codes "threads") (Rules.levels_are_few t)
    ∷ []
