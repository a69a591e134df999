-- One line of a script, in the output of the whole.
use Rattle.std.proofs.Common.{◌≡◌, ℕ, ◌+◌, List, [], ◌∷◌, Option, None, Some, Err, refl, ap, ◌∙◌}
use Rattle.std.specs.Prelude.{drop, option_map}
use Rattle.script_words.specs.declared.stops.Stop.TheVariants as stop
use Rattle.machine_spec.specs.declared.lines.Line.{Line}
use Rattle.machine_spec.specs.declared.lines.LineRefusal.{LineRefusal}
use Rattle.machine_spec.specs.declared.lines.LineRefusal.TheVariants as line_refusal
use Rattle.machine_spec.specs.Line.{after}
use Rattle.machine_spec.specs.Outcome.{Outcome, Goes, Full, TooLong, Spent}
use Rattle.machine_spec.specs.Output.{Output, Whole, BadLine, Limited, ends, in_front, played_line, played_reading, played}
use Rattle.machine_spec.specs.Program.{Program}
use Rattle.machine_spec.specs.ScriptText.{Reading, Good, Refused, reading_of, clock_after}
use Rattle.machine_spec.specs.Tasks.{Task}
use Rattle.machine_spec.specs.World.{World}
use Rattle.input_script.specs.Reader.{Reader, first_reading, next_reading, Refuses}
use Rattle.run_save.specs.declared.status.Limit.{Limit as LimitMet}
use Rattle.run_save.specs.declared.status.Limit.TheVariants as limit
use Rattle.script_play.specs.Lines.{line_writes, HasMet, LineEnds}
use Rattle.script_play.specs.Scripts.{EndsBy}
use Rattle.script_play.specs.declared.stops.PlayStop.{PlayStop}
use Rattle.script_play.specs.declared.stops.PlayStop.TheVariants.{BadScript, Limit, WriteFault, NoMemory}

-- what follows a line: the lines behind it, or nothing where it reached a limit
abbrev pub follows : Program → (n last : ℕ) → Outcome (World Task) → List (List ℕ) → Output
follows p n last (Goes w) lines = played p n last w lines
follows p n last Full lines = ends [] (Limited stop.Stack)
follows p n last (TooLong m) lines = ends [] (Limited (stop.Text m))
follows p n last (Spent which) lines = ends [] (Limited (stop.Counter which))

line_turn : (p : Program) (l : Line) (n last : ℕ) (o : Outcome (World Task)) (lines : List (List ℕ)) → played_line p l o (λ v. played p n last v lines) ≡ in_front (line_writes p l o) (follows p n last o lines)
line_turn p l n last (Goes w) lines = refl
line_turn p l n last Full lines = refl
line_turn p l n last (TooLong m) lines = refl
line_turn p l n last (Spent which) lines = refl

-- a good line
read_good : (p : Program) (n last : ℕ) (w : World Task) (lines : List (List ℕ)) (l : Line) → first_reading n last lines ≡ Some (Good l)
    → played p n last w lines ≡ in_front (line_writes p l (after p l w)) (follows p (n + 1) (clock_after last (Good l)) (after p l w) (drop 1 lines))
read_good p n last w [] l e = absurd (cc e)
read_good p n last w (bytes ∷ lines) l e =
    let is : reading_of n last bytes ≡ Good l = cc e in
    ap (λ r. played_reading p w r (λ v. played p (n + 1) (clock_after last r) v lines)) is
    ∙ line_turn p l (n + 1) (clock_after last (Good l)) (after p l w) lines

pub turn_good : (p : Program) (r : Reader) (w : World Task) (l : Line) → next_reading r ≡ option_map Good (Some l)
    → played p (r.number + 1) r.last w r.lines ≡ in_front (line_writes p l (after p l w)) (follows p (r.number + 1 + 1) (clock_after r.last (Good l)) (after p l w) (drop 1 r.lines))
turn_good p r w l e = read_good p (r.number + 1) r.last w r.lines l e

-- no line
read_none : (p : Program) (n last : ℕ) (w : World Task) (lines : List (List ℕ)) → first_reading n last lines ≡ None → played p n last w lines ≡ ends [] (Whole w)
read_none p n last w [] e = refl
read_none p n last w (bytes ∷ lines) e = absurd (cc e)

pub turn_none : (p : Program) (r : Reader) (w : World Task) → next_reading r ≡ option_map Good None → played p (r.number + 1) r.last w r.lines ≡ ends [] (Whole w)
turn_none p r w e = read_none p (r.number + 1) r.last w r.lines e

-- a refused line
read_refused : (p : Program) (n last : ℕ) (w : World Task) (lines : List (List ℕ)) (x : LineRefusal) → first_reading n last lines ≡ Some (Refused x) → played p n last w lines ≡ ends [] (BadLine x)
read_refused p n last w [] x e = absurd (cc e)
read_refused p n last w (bytes ∷ lines) x e =
    let is : reading_of n last bytes ≡ Refused x = cc e in
    ap (λ r. played_reading p w r (λ v. played p (n + 1) (clock_after last r) v lines)) is

refusal_is : (T : Type 0) (x : LineRefusal) (r : Option Reading) → (x ≡ line_refusal.NoMemory → ⊥) → Refuses {T = T} (Err x) r → r ≡ Some (Refused x)
refusal_is T (line_refusal.NotUtf8 n) r k h = h
refusal_is T (line_refusal.UnknownLine n) r k h = h
refusal_is T (line_refusal.BadNumber n) r k h = h
refusal_is T (line_refusal.OutOfRange n) r k h = h
refusal_is T (line_refusal.ClockBack n was is) r k h = h
refusal_is T line_refusal.NoMemory r k h = absurd (k refl)

pub turn_refused : (T : Type 0) (p : Program) (r : Reader) (w : World Task) (x : LineRefusal) → (x ≡ line_refusal.NoMemory → ⊥) → Refuses {T = T} (Err x) (next_reading r)
    → played p (r.number + 1) r.last w r.lines ≡ ends [] (BadLine x)
turn_refused T p r w x k h = read_refused p (r.number + 1) r.last w r.lines x (refusal_is T x (next_reading r) k h)

-- a limit ends the run
pub limit_ends : (p : Program) (n last : ℕ) (lines : List (List ℕ)) (o : Outcome (World Task)) (l : LimitMet) → HasMet o l → EndsBy (follows p n last o lines).ending l
limit_ends p n last lines o limit.Stack h = ap (λ x. (follows p n last x lines).ending) h
limit_ends p n last lines o (limit.Text m) h = ap (λ x. (follows p n last x lines).ending) h
limit_ends p n last lines o (limit.Counter which) h = ap (λ x. (follows p n last x lines).ending) h
limit_ends p n last lines o (limit.Save m) h = absurd h

limit_writes : (p : Program) (n last : ℕ) (lines : List (List ℕ)) (o : Outcome (World Task)) (l : LimitMet) → HasMet o l → (follows p n last o lines).writes ≡ []
limit_writes p n last lines o limit.Stack h = ap (λ x. (follows p n last x lines).writes) h
limit_writes p n last lines o (limit.Text m) h = ap (λ x. (follows p n last x lines).writes) h
limit_writes p n last lines o (limit.Counter which) h = ap (λ x. (follows p n last x lines).writes) h
limit_writes p n last lines o (limit.Save m) h = absurd h

-- behind the line of a limit there is nothing
abbrev pub IsLast : PlayStop → Output → Type 0
IsLast (Limit l) next = next.writes ≡ []
IsLast (BadScript r) next = ⊥
IsLast WriteFault next = Unit {0}
IsLast NoMemory next = Unit {0}

pub line_last : (p : Program) (n last : ℕ) (lines : List (List ℕ)) (o : Outcome (World Task)) (stop : PlayStop) → LineEnds o (Err stop) → IsLast stop (follows p n last o lines)
line_last p n last lines o (Limit l) h = limit_writes p n last lines o l h
line_last p n last lines o (BadScript r) h = absurd h
line_last p n last lines o WriteFault h = tt
line_last p n last lines o NoMemory h = tt
