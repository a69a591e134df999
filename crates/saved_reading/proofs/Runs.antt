-- What the members of a run tell, and the run that they make.
use Rattle.std.proofs.Common.{◌≡◌, ℕ, Bool, List, map, Ok, codes, refl}
use Rattle.std.proofs.lemmas.List.{map-id}
use Rattle.std.proofs.lemmas.Simd.{map-map}
use Rattle.serde_json.specs.Data.{Data}
use Rattle.saved_parts.specs.Telling.{made_of, mouse_of, next_of, question_of, standing_of, thread_of, told_of}
use Rattle.saved_parts.specs.declared.run.ToldRun.{ToldRun}
use Rattle.saved_spec.specs.InstanceShapes.{Standing, instance}
use Rattle.saved_spec.specs.RunShapes.{digest, made, mouse, next, question, run, timer}
use Rattle.saved_spec.specs.Shapes.{whole, truth, text, each, table, member}
use Rattle.saved_spec.specs.ThreadShapes.{thread}
use Rattle.machine_spec.specs.declared.devices.BubbleTimer.{BubbleTimer}

pub run-told :
    (at : List (List ℕ)) (d : Data) (r : ToldRun) (version : ℕ)
    → table at d ≡ Ok d
    → member (codes "answer") text at d ≡ Ok r.answer
    → member (codes "clock") whole at d ≡ Ok r.clock
    → member (codes "drawn") whole at d ≡ Ok r.drawn
    → member (codes "frame") whole at d ≡ Ok r.frame
    → member (codes "seed") whole at d ≡ Ok r.seed
    → member (codes "timer") whole at d ≡ Ok r.timer
    → member (codes "instances") (each instance) at d ≡ Ok (map standing_of r.instances)
    → member (codes "keys") (each text) at d ≡ Ok (map (λ (t : List ℕ). t) r.keys)
    → member (codes "made") (each made) at d ≡ Ok (map made_of r.made)
    → member (codes "monitors") (each truth) at d ≡ Ok (map (λ (b : Bool). b) r.monitors)
    → member (codes "mouse") mouse at d ≡ Ok (mouse_of r.mouse)
    → member (codes "next") next at d ≡ Ok (next_of r.next)
    → member (codes "project") digest at d ≡ Ok r.project
    → member (codes "questions") (each question) at d ≡ Ok (map question_of r.questions)
    → member (codes "threads") (each thread) at d ≡ Ok (map thread_of r.threads)
    → member (codes "timers") (each timer) at d ≡ Ok (map (λ (t : BubbleTimer). t) r.timers)
    → member (codes "turbo") truth at d ≡ Ok r.turbo
    → member (codes "version") whole at d ≡ Ok version
    → run at d ≡ Ok (told_of r)
run-told at d r version e1 e2 e3 e4 e5 e6 e7 e8 e9 e10 e11 e12 e13 e14 e15 e16 e17 e18 e19 =
    rw (e1, e2, e3, e4, e5, e6, e7, e8, e9, e10, e11, e12, e13, e14, e15, e16, e17, e18, e19)
    (rw (map-map (λ (s : Standing). s.instance) standing_of r.instances, map-map (λ (s : Standing). s.store) standing_of r.instances, map-id r.keys, map-id r.monitors, map-id r.timers) refl)
