-- How one line ends.
use Rattle.std.proofs.Common.{◌≡◌, ℕ, List, [], ◌∷◌, Some, Result, Ok, Err, refl, sym, ap, ◌∙◌, subst}
use Rattle.std.specs.Prelude.{codes, ◌++◌, false}
use Rattle.std.specs.Fmt.{digits}
use Rattle.std.proofs.lemmas.Option.{same_Some}
use Rattle.script_words.specs.declared.stops.Stop.{Stop}
use Rattle.script_words.specs.declared.stops.Stop.TheVariants as stop
use Rattle.call_outcomes.specs.Seen.{SinkNow}
use Rattle.call_outcomes.specs.Stages.{Writes}
use Rattle.call_outcomes.proofs.Writings.{writes_none, writes_wanting}
use Rattle.machine_spec.specs.declared.lines.Budget.{Budget}
use Rattle.machine_spec.specs.declared.lines.Line.{Line}
use Rattle.machine_spec.specs.declared.lines.Line.TheVariants as line_of
use Rattle.machine_spec.specs.FrameText.{frame_text}
use Rattle.machine_spec.specs.Outcome.{Outcome, Goes, StopIs}
use Rattle.machine_spec.specs.Output.{limit_line, written}
use Rattle.machine_spec.specs.Program.{Program}
use Rattle.machine_spec.specs.Tasks.{Task}
use Rattle.machine_spec.specs.World.{World}
use Rattle.sequencer.specs.Frames.{is_frame}
use Rattle.run_save.specs.declared.status.Limit.{Limit as LimitMet}
use Rattle.run_save.specs.declared.status.Limit.TheVariants as limit
use Rattle.script_play.specs.Limits.{limit_in, line_at, IsLimitEnd}
use Rattle.script_play.specs.Lines.{line_writes, HasMet, IsWriteEnd, LineEnds, PlaysLine, Stopped}
use Rattle.script_play.specs.Stops.{course, course_of}
use Rattle.script_play.specs.declared.stops.PlayStop.{PlayStop}
use Rattle.script_play.specs.declared.stops.PlayStop.TheVariants.{BadScript, Limit, WriteFault, NoMemory}

-- the line of the limit of levels
pub stack_line : limit_line stop.Stack ≡ codes "limit stack 65536" ++ 10 ∷ []
unfolding digits
stack_line = refl

-- the limit of a stop was met, and its line is what the line of the script writes

met_is : (s : Stop) (l : LimitMet) (o : Outcome (World Task)) → limit_in s ≡ Some l → StopIs (Stopped s) o → HasMet o l
met_is stop.Stack l o e h = subst (HasMet o) (same_Some limit.Stack l e) h
met_is (stop.Text n) l o e h = subst (HasMet o) (same_Some (limit.Text n) l e) h
met_is (stop.Counter which) l o e h = subst (HasMet o) (same_Some (limit.Counter which) l e) h
met_is stop.NoMemory l o e h = absurd (cc e)

met_writes : (p : Program) (line : Line) (l : LimitMet) (o : Outcome (World Task)) → HasMet o l → line_writes p line o ≡ line_at l ∷ []
met_writes p line limit.Stack o h = ap (line_writes p line) h
met_writes p line (limit.Text n) o h = ap (line_writes p line) h
met_writes p line (limit.Counter which) o h = ap (line_writes p line) h
met_writes p line (limit.Save n) o h = absurd h

met_ends : (l : LimitMet) (o : Outcome (World Task)) (end : PlayStop) → HasMet o l → IsLimitEnd l end → LineEnds o (Err end)
met_ends l o (Limit m) h e = subst (HasMet o) (sym e) h
met_ends l o WriteFault h e = tt
met_ends l o NoMemory h e = tt
met_ends l o (BadScript r) h e = absurd e

pub line_met : (p : Program) (line : Line) (s : Stop) (l : LimitMet) (o : Outcome (World Task)) (k m : SinkNow) (end : PlayStop) → limit_in s ≡ Some l → StopIs (Stopped s) o → IsLimitEnd l end → Writes k m ⊥ (line_at l ∷ []) (course_of end)
    → PlaysLine p line o k m (Err end)
line_met p line s l o k m end e h is w =
    let met = met_is s l o e h in
    record {
      ends = met_ends l o end met is;
      writes = subst (λ texts. Writes k m ⊥ texts (course_of end)) (sym (met_writes p line l o met)) w;
    }

-- memory runs out before anything is written
pub line_wants : (p : Program) (line : Line) (o : Outcome (World Task)) (k : SinkNow) → PlaysLine p line o k k (Err NoMemory)
line_wants p line o k = record { ends = tt; writes = writes_wanting ⊥ k (line_writes p line o) }

-- the text of a frame is written

written_ends : (o : Outcome (World Task)) (answer : Result (Unit {0}) PlayStop) → IsWriteEnd answer → LineEnds o answer
written_ends o (Ok u) h = tt
written_ends o (Err WriteFault) h = tt
written_ends o (Err NoMemory) h = tt
written_ends o (Err (BadScript r)) h = absurd h
written_ends o (Err (Limit l)) h = absurd h

pub frame_written : (p : Program) (budget : Budget) (o : Outcome (World Task)) (w : World Task) (text : List ℕ) (k l : SinkNow) (answer : Result (Unit {0}) PlayStop) → o ≡ Goes w → text ≡ frame_text p w → IsWriteEnd answer
    → Writes k l ⊥ (text ∷ []) (course answer) → PlaysLine p (line_of.Frame budget) o k l answer
frame_written p budget o w text k l answer e f is h = record {
  ends = written_ends o answer is;
  writes = subst (λ texts. Writes k l ⊥ texts (course answer)) (ap (λ t. t ∷ []) f ∙ ap (line_writes p (line_of.Frame budget)) (sym e)) h;
}

-- a line that is no frame writes nothing

event_writes : (p : Program) (line : Line) (w : World Task) → is_frame line ≡ false → written p line w ≡ []
event_writes p (line_of.Frame b) w e = absurd (cc e)
event_writes p line_of.Nothing w e = refl
event_writes p line_of.Flag w e = refl
event_writes p line_of.Stop w e = refl
event_writes p (line_of.KeyDown key) w e = refl
event_writes p (line_of.KeyUp key) w e = refl
event_writes p (line_of.Mouse x y) w e = refl
event_writes p (line_of.Button down) w e = refl
event_writes p (line_of.Click target) w e = refl
event_writes p (line_of.Answer text) w e = refl
event_writes p (line_of.Turbo on) w e = refl

pub event_applied : (p : Program) (line : Line) (o : Outcome (World Task)) (w : World Task) (k : SinkNow) → is_frame line ≡ false → o ≡ Goes w → PlaysLine p line o k k (Ok tt)
event_applied p line o w k event e = record {
  ends = tt;
  writes = subst (λ texts. Writes k k ⊥ texts (course {A = Unit {0}} (Ok tt))) (sym (ap (line_writes p line) e ∙ event_writes p line w event)) (writes_none ⊥ k);
}
