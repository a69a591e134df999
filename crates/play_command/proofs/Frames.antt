-- How many texts a script writes: one a line at most, so a count of their writes does not stand still.
use Rattle.std.proofs.Common.{◌≡◌, ℕ, zero, suc, ◌+◌, ◌-◌, ◌^◌, ◌<◌, ◌≤◌, Bool, true, false, cond, eqb, List, [], ◌∷◌, length, ap, ◌∙◌, arith, length-append}
use Rattle.sv_channels.specs.Counts.{next_count}
use Rattle.call_outcomes.specs.Calls.{counted}
use Rattle.machine_spec.specs.declared.lines.Line.{Line}
use Rattle.machine_spec.specs.declared.lines.Line.TheVariants as kind_of
use Rattle.machine_spec.specs.Line.{after}
use Rattle.machine_spec.specs.Outcome.{Outcome, Goes, Full, TooLong, Spent}
use Rattle.machine_spec.specs.Output.{Output, played, played_line, played_reading, written}
use Rattle.machine_spec.specs.Program.{Program}
use Rattle.machine_spec.specs.ScriptText.{Reading, Good, Refused, clock_after, lines_of, reading_of, with_byte}
use Rattle.machine_spec.specs.Tasks.{Task}
use Rattle.machine_spec.specs.World.{World}

-- lines are no more than bytes

one_line : (b : ℕ) (lines : List (List ℕ)) → length (with_byte b lines) ≤ suc (length lines)
one_line b [] = omega arith
one_line b (line ∷ lines) = omega arith

line_more : (c : Bool) (b n : ℕ) (lines : List (List ℕ)) → length lines ≤ n → length (cond c ([] ∷ lines) (with_byte b lines)) ≤ suc n
line_more true b n lines h = omega (arith, h)
line_more false b n lines h = let one = one_line b lines in omega (arith, h, one)

pub few_lines : (bytes : List ℕ) → length (lines_of bytes) ≤ length bytes
few_lines [] = omega arith
few_lines (b ∷ bytes) = line_more (eqb b 10) b (length bytes) (lines_of bytes) (few_lines bytes)

-- texts are no more than lines

one_text : (p : Program) (l : Line) (w : World Task) → length (written p l w) ≤ 1
one_text p (kind_of.Frame budget) w = omega arith
one_text p kind_of.Nothing w = omega arith
one_text p kind_of.Flag w = omega arith
one_text p kind_of.Stop w = omega arith
one_text p (kind_of.KeyDown key) w = omega arith
one_text p (kind_of.KeyUp key) w = omega arith
one_text p (kind_of.Mouse x y) w = omega arith
one_text p (kind_of.Button down) w = omega arith
one_text p (kind_of.Click layer) w = omega arith
one_text p (kind_of.Answer text) w = omega arith
one_text p (kind_of.Turbo on) w = omega arith

text_more : (p : Program) (l : Line) (o : Outcome (World Task)) (rest : World Task → Output) (n : ℕ) → ((w : World Task) → length (rest w).writes ≤ n) → length (played_line p l o rest).writes ≤ suc n
text_more p l (Goes w) rest n h =
    let one = one_text p l w in let more = h w in let both = length-append (written p l w) (rest w).writes in
    omega (arith, one, more, both)
text_more p l Full rest n h = omega arith
text_more p l (TooLong k) rest n h = omega arith
text_more p l (Spent which) rest n h = omega arith

reading_more : (p : Program) (w : World Task) (r : Reading) (rest : World Task → Output) (n : ℕ) → ((v : World Task) → length (rest v).writes ≤ n) → length (played_reading p w r rest).writes ≤ suc n
reading_more p w (Good l) rest n h = text_more p l (after p l w) rest n h
reading_more p w (Refused r) rest n h = omega arith

few_texts : (p : Program) (n last : ℕ) (w : World Task) (lines : List (List ℕ)) → length (played p n last w lines).writes ≤ length lines
few_texts p n last w [] = omega arith
few_texts p n last w (bytes ∷ lines) =
    reading_more p w (reading_of n last bytes) (λ v. played p (n + 1) (clock_after last (reading_of n last bytes)) v lines) (length lines)
    (λ v. few_texts p (n + 1) (clock_after last (reading_of n last bytes)) v lines)

-- a count of few calls

pub counted_few : (n count : ℕ) → n + count ≤ 2 ^ 64 - 1 → counted n count ≡ n + count
counted_few zero count h = let none : count ≡ 0 + count = omega arith in none
counted_few (suc n) count h =
    let next : next_count count ≡ suc count = omega (arith, h) in
    let more : n + suc count ≡ suc n + count = omega arith in
    ap (counted n) next ∙ counted_few n (suc count) (omega (arith, h)) ∙ more

pub few_calls : (p : Program) (last : ℕ) (w : World Task) (script : List ℕ) (calls : ℕ) → length script < 2 ^ 63 → calls ≡ counted (length (played p 1 last w (lines_of script)).writes) 0 → calls < 2 ^ 64 - 1
few_calls p last w script calls short h =
    let texts = few_texts p 1 last w (lines_of script) in
    let lines = few_lines script in
    let n = length (played p 1 last w (lines_of script)).writes in
    let few : n + 0 ≤ 2 ^ 64 - 1 = omega (arith, texts, lines, short) in
    let is = h ∙ counted_few n 0 few in
    omega (arith, is, texts, lines, short)
