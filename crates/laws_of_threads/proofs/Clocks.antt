-- The clock of a world behind a line: a frame sets it, and nothing else changes it.
use Rattle.std.proofs.Common.{◌≡◌, ℕ, List, [], ◌∷◌, refl, ◌∙◌}
use Rattle.machine_spec.specs.declared.lines.Line.{Line}
use Rattle.machine_spec.specs.declared.lines.Line.TheVariants as line
use Rattle.machine_spec.specs.Evaluate.{values}
use Rattle.machine_spec.specs.Line.{after}
use Rattle.machine_spec.specs.Outcome.{Outcome, Goes, Full, TooLong, Spent, IfGoes}
use Rattle.machine_spec.specs.Parts.{Scene}
use Rattle.machine_spec.specs.Program.{Program, scripts_at}
use Rattle.machine_spec.specs.Script.{Script, End, Then, Statement, Does, Branches, NoBranch, AndBranch}
use Rattle.machine_spec.specs.ScriptText.{Good, clock_after}
use Rattle.machine_spec.specs.Stopping.{scene_of, questions_dropped, bubble_emptied, first_taken}
use Rattle.machine_spec.specs.Tasks.{Task}
use Rattle.machine_spec.specs.World.{World}
use Rattle.laws_of_threads.specs.GoodLines.{IsGoodLine}
use Rattle.laws_of_threads.specs.Lists.{Each}
use Rattle.laws_of_threads.specs.Scripts.{IsProgram}
use Rattle.laws_of_threads.specs.Statements.{EachIn, EachUnder, EachInOne, Everywhere}
use Rattle.laws_of_threads.specs.Worlds.{IsLegalWorld}
use Rattle.laws_of_threads.proofs.Calm.{Calm}
use Rattle.laws_of_threads.proofs.Ending.{Fewer, emptied_calm, taken_calm, dropped_fewer}
use Rattle.laws_of_threads.proofs.Keeping.{KeepsAtClock}
use Rattle.laws_of_threads.proofs.KeepingLines.{timed, each_line_keeps}
use Rattle.laws_of_threads.proofs.RowFits.{goes_is, goes_weaker}

-- each statement has the fact that says nothing

abbrev Any : ℕ → Statement → Type 0
Any k s = Unit {0}

mutual
  any_in : (k : ℕ) (x : Script) → EachIn (Any k) x
  any_in k End = tt
  any_in k (Then s rest) = (tt, any_under k s, any_in k rest)

  any_under : (k : ℕ) (s : Statement) → EachUnder (Any k) s
  any_under k (Does place command inputs branches) = any_in_one k branches

  any_in_one : (k : ℕ) (b : Branches) → EachInOne (Any k) b
  any_in_one k NoBranch = tt
  any_in_one k (AndBranch name branch more) = (any_in k branch, any_in_one k more)

each : {A : Type 0} (P : A → Type 0) (xs : List A) → ((x : A) → P x) → Each P xs
each P [] f = tt
each P (x ∷ xs) f = (f x, each P xs f)

anywhere : (p : Program) → Everywhere Any p
anywhere p = record {
  hats = λ k. each (λ h. Any k h.hat) (scripts_at k p).heads (λ h. tt);
  heads = λ k. each (λ h. EachIn (Any k) h.script) (scripts_at k p).heads (λ h. any_in k h.script);
  procedures = λ k. each (λ q. EachIn (Any k) q.body) (scripts_at k p).procedures (λ q. any_in k q.body);
}

goes_all : {A : Type 0} (o : Outcome A) (Q : A → Type 0) → ((x : A) → Q x) → IfGoes o Q
goes_all (Goes x) Q f = f x
goes_all Full Q f = tt
goes_all (TooLong n) Q f = tt
goes_all (Spent which) Q f = tt

module _ (p : Program) (clock : ℕ) where
  abbrev At : World Task → Type 0
  At w = w.devices.clock ≡ clock

  abbrev SceneAt : Scene → Type 0
  SceneAt s = s.devices.clock ≡ clock

  calm_at : (s : Scene) (o : Outcome Scene) → IfGoes o (Calm s) → SceneAt s → IfGoes o SceneAt
  calm_at s o h e = goes_weaker o (Calm s) SceneAt (λ t k. k.clock ∙ e) h

  clock_kept : KeepsAtClock p Any At
  clock_kept = record {
    threads = λ w ts h. h;
    redraw = λ w b h. h;
    given = λ w none h. h;
    evaluates = λ w v inputs h. goes_all (values v inputs w.words) _ (λ d. h);
    rows = λ w t s c a x stands named h e applies. applies.fits.clock ∙ h;
    drops = λ w n h. goes_weaker (questions_dropped n (scene_of w)) (Fewer (scene_of w)) SceneAt (λ t k. k.clock ∙ h) (dropped_fewer n (scene_of w));
    stops = λ w live h. h;
    disposes = λ w n live clone h. h;
    untimed = λ w n h. h;
    clones = λ w original target live hosts room none h. h;
    timer_gone = λ w k h. h;
    emptied = λ w n h. calm_at (scene_of w) (bubble_emptied n (scene_of w)) (emptied_calm n (scene_of w)) h;
    noted = λ w x v edge live h. h;
    counted = λ w none h. h;
    renews = λ w h. h;
    key_held = λ w k named h. h;
    key_free = λ w k h. h;
    mouse = λ w x y within_x within_y h. h;
    button = λ w down h. h;
    turbo = λ w on h. h;
    answer = λ w text short h. h;
    answers = λ w q qs e h.
        let s : Scene = record (scene_of w) { devices = record w.devices { questions = qs } } in
        calm_at s (first_taken q.bubble q.of s) (taken_calm q.bubble q.of s) h;
  }

timed_clock : (l : Line) (w : World Task) → (timed l w).devices.clock ≡ clock_after w.devices.clock (Good l)
timed_clock (line.Frame b) w = refl
timed_clock _ w = refl

pub clock_line : (p : Program) (l : Line) (w v : World Task) → IsProgram p → IsLegalWorld p w → IsGoodLine w.devices.clock l → after p l w ≡ Goes v → v.devices.clock ≡ clock_after w.devices.clock (Good l)
clock_line p l w v good legal fits e =
    let clock = clock_after w.devices.clock (Good l) in
    goes_is (after p l w) (At p clock) v e (each_line_keeps p Any (At p clock) (clock_kept p clock) good (anywhere p) l w fits legal (timed_clock l w))
