-- Each change of a world keeps its devices and counters legal.
use Rattle.std.proofs.Common.{◌≡◌, List, [], ◌∷◌, filter, arith}
use Rattle.std.specs.Prelude.{◌==◌, not, remove}
use Rattle.machine_spec.specs.declared.devices.Key.{Key}
use Rattle.machine_spec.specs.declared.lines.Line.{Line}
use Rattle.machine_spec.specs.Evaluate.{values}
use Rattle.machine_spec.specs.Line.{with_key, without_key, after}
use Rattle.machine_spec.specs.Outcome.{Outcome, Goes, Full, TooLong, Spent, IfGoes}
use Rattle.machine_spec.specs.Parts.{Scene}
use Rattle.machine_spec.specs.Program.{Program, scripts_at}
use Rattle.machine_spec.specs.Script.{Script, End, Then, Statement, Does, Branches, NoBranch, AndBranch, command_of}
use Rattle.machine_spec.specs.Step.{row}
use Rattle.machine_spec.specs.Stopping.{scene_of, with_scene, questions_dropped, bubble_emptied}
use Rattle.machine_spec.specs.Stores.{Devices}
use Rattle.machine_spec.specs.Tasks.{Task}
use Rattle.machine_spec.specs.World.{World}
use Rattle.laws_of_threads.specs.GoodLines.{IsGoodLine}
use Rattle.laws_of_threads.specs.Lists.{Each}
use Rattle.laws_of_threads.specs.Playable.{IsPlayable}
use Rattle.laws_of_threads.specs.Scripts.{IsProgram}
use Rattle.laws_of_threads.specs.Statements.{EachIn, EachUnder, EachInOne, Everywhere}
use Rattle.laws_of_threads.specs.Worlds.{IsLegalWorld}
use Rattle.laws_of_threads.proofs.Keeping.{Keeps}
use Rattle.laws_of_threads.proofs.KeepingLines.{line_keeps}
use Rattle.laws_of_threads.proofs.Numbers.{each_filter}
use Rattle.laws_of_threads.proofs.RowFits.{goes_is, goes_weaker}
use Rattle.laws_of_devices.specs.Devices.{AreDevices, IsLegalDesk, IsTimer}
use Rattle.laws_of_devices.proofs.Desks.{Kept, one_more, with_rest, with_timers, each_removed, emptied_kept, taken_kept, dropped_kept}
use Rattle.laws_of_devices.proofs.Keys.{AreKeys, with_key_keys, without_key_keys}
use Rattle.laws_of_devices.proofs.Rows.{row_keeps, same_least}

keys_kept : (d : Devices) (ks : List Key) → AreKeys ks → AreDevices d → AreDevices (record d { keys = ks })
keys_kept d ks k h = record { clock = h.clock; timer = h.timer; mouse_x = h.mouse_x; mouse_y = h.mouse_y; keys = k.0; differ = k.1; timers = h.timers; usage = h.usage }

-- each statement has the fact that says nothing
mutual
  each_in : (x : Script) → EachIn (λ s. Unit {0}) x
  each_in End = tt
  each_in (Then s rest) = (tt, each_under s, each_in rest)

  each_under : (s : Statement) → EachUnder (λ s. Unit {0}) s
  each_under (Does place command inputs branches) = each_in_one branches

  each_in_one : (b : Branches) → EachInOne (λ s. Unit {0}) b
  each_in_one NoBranch = tt
  each_in_one (AndBranch name branch more) = (each_in branch, each_in_one more)

each : {A : Type 0} (P : A → Type 0) (xs : List A) → ((x : A) → P x) → Each P xs
each P [] f = tt
each P (x ∷ xs) f = (f x, each P xs f)

every_statement : (p : Program) → Everywhere (λ k s. Unit {0}) p
every_statement p = record {
  hats = λ k. each (λ h. Unit {0}) (scripts_at k p).heads (λ h. tt);
  heads = λ k. each _ (scripts_at k p).heads (λ h. each_in h.script);
  procedures = λ k. each _ (scripts_at k p).procedures (λ q. each_in q.body);
}

goes_all : {A : Type 0} (o : Outcome A) (Q : A → Type 0) → ((x : A) → Q x) → IfGoes o Q
goes_all (Goes x) Q f = f x
goes_all Full Q f = tt
goes_all (TooLong n) Q f = tt
goes_all (Spent which) Q f = tt

module _ (p : Program) where
  abbrev Legal : World Task → Type 0
  Legal = IsLegalDesk p

  on_scene : (w : World Task) (s : Scene) → AreDevices s.devices → Legal w → Legal (with_scene w s)
  on_scene w s d h = record { devices = d; frames = h.frames; threads = h.threads; instances = h.instances; targets = h.targets }

  on_devices : (w : World Task) (d : Devices) → AreDevices d → Legal w → Legal (record w { devices = d })
  on_devices w d k h = record { devices = k; frames = h.frames; threads = h.threads; instances = h.instances; targets = h.targets }

  scenes : (w : World Task) (o : Outcome Scene) → IfGoes o Kept → Legal w → IfGoes o (λ s. Legal (with_scene w s))
  scenes w o k h = goes_weaker o Kept (λ s. Legal (with_scene w s)) (λ s d. on_scene w s d h) k

  pub desk_keeps : Keeps p (λ k s. Unit {0}) Legal
  desk_keeps = record {
    threads = λ w ts h. record { devices = h.devices; frames = h.frames; threads = h.threads; instances = h.instances; targets = h.targets };
    redraw = λ w b h. record { devices = h.devices; frames = h.frames; threads = h.threads; instances = h.instances; targets = h.targets };
    given = λ w none h. record { devices = h.devices; frames = h.frames; threads = one_more w.next_thread h.threads none; instances = h.instances; targets = h.targets };
    evaluates = λ w v inputs h. goes_all (values v inputs w.words) _ (λ d. record { devices = h.devices; frames = h.frames; threads = h.threads; instances = h.instances; targets = h.targets });
    rows = λ w t s c a x stands named h e applies. goes_is (row p (command_of s) a t.of t.serial c w) (λ y. Legal y.world) x e (row_keeps p stands.target (command_of s) a t.of t.serial c w stands.hosted h);
    drops = λ w n h. scenes w (questions_dropped n (scene_of w)) (dropped_kept n (scene_of w) h.devices) h;
    stops = λ w live h. let rest = with_rest w.devices w.devices.answer w.devices.button w.devices.turbo [] h.devices in
        record { devices = with_timers (record w.devices { questions = [] }) [] tt rest; frames = h.frames; threads = h.threads; instances = h.instances; targets = h.targets };
    disposes = λ w n live clone h. record { devices = h.devices; frames = h.frames; threads = h.threads; instances = h.instances; targets = h.targets };
    untimed = λ w n h. on_devices w _ (with_timers w.devices (filter (λ t. not (t.of == n)) w.devices.timers) (each_filter (IsTimer w.devices.usage) (λ t. not (t.of == n)) w.devices.timers h.devices.timers) h.devices) h;
    clones = λ w original target live hosts room none h. record { devices = h.devices; frames = h.frames; threads = h.threads; instances = one_more w.next_instance h.instances none; targets = let t = h.targets in omega arith };
    clock = λ w c least most h. let d = h.devices in on_devices w _ (record { clock = most; timer = let t = d.timer in omega arith; mouse_x = d.mouse_x; mouse_y = d.mouse_y; keys = d.keys; differ = d.differ; timers = d.timers; usage = d.usage }) h;
    timer_gone = λ w k h. on_devices w _ (with_timers w.devices (remove w.devices.timers k) (each_removed (IsTimer w.devices.usage) w.devices.timers k h.devices.timers) h.devices) h;
    emptied = λ w n h. scenes w (bubble_emptied n (scene_of w)) (emptied_kept n (scene_of w) h.devices) h;
    noted = λ w x v edge live h. record { devices = h.devices; frames = h.frames; threads = h.threads; instances = h.instances; targets = h.targets };
    counted = λ w none h. record { devices = h.devices; frames = one_more w.frame h.frames none; threads = h.threads; instances = h.instances; targets = h.targets };
    renews = λ w h. let d = h.devices in
        record { devices = record { clock = d.clock; timer = same_least w.devices.clock; mouse_x = d.mouse_x; mouse_y = d.mouse_y; keys = d.keys; differ = d.differ; timers = d.timers; usage = d.usage }; frames = h.frames; threads = h.threads; instances = h.instances; targets = h.targets };
    key_held = λ w k named h. on_devices w _ (keys_kept w.devices (with_key k w.devices.keys) (with_key_keys k w.devices.keys named (h.devices.keys, h.devices.differ)) h.devices) h;
    key_free = λ w k h. on_devices w _ (keys_kept w.devices (without_key k w.devices.keys) (without_key_keys k w.devices.keys (h.devices.keys, h.devices.differ)) h.devices) h;
    mouse = λ w x y within_x within_y h. let d = h.devices in on_devices w _ (record { clock = d.clock; timer = d.timer; mouse_x = within_x; mouse_y = within_y; keys = d.keys; differ = d.differ; timers = d.timers; usage = d.usage }) h;
    button = λ w down h. on_devices w _ (with_rest w.devices w.devices.answer down w.devices.turbo w.devices.questions h.devices) h;
    turbo = λ w on h. on_devices w _ (with_rest w.devices w.devices.answer w.devices.button on w.devices.questions h.devices) h;
    answer = λ w text short h. on_devices w _ (with_rest w.devices text w.devices.button w.devices.turbo w.devices.questions h.devices) h;
    answers = λ w q qs e h. scenes w _ (taken_kept q.bubble q.of _ (with_rest w.devices w.devices.answer w.devices.button w.devices.turbo qs h.devices)) h;
  }

pub desk_line : (p : Program) (l : Line) (w v : World Task) → IsProgram p → IsPlayable p → IsGoodLine w.devices.clock l → IsLegalWorld p w → IsLegalDesk p w → after p l w ≡ Goes v → IsLegalDesk p v
desk_line p l w v good playable line world h e =
    goes_is (after p l w) (IsLegalDesk p) v e (line_keeps p (λ k s. Unit {0}) (IsLegalDesk p) good (every_statement p) (desk_keeps p) l w line world h)
