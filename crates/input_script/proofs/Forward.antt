-- A frame line that is read is in its ranges, and its clock does not go back.
use Rattle.std.proofs.Common.{◌≡◌, ℕ, ◌*◌, ◌^◌, ◌≤◌, Bool, true, false, cond, List, [], ◌∷◌, length, Option, Some, None, refl, subst, arith}
use Rattle.std.specs.Prelude.{bytes_eq, codes, nat_le, nat_lt, ℤ}
use Rattle.std.proofs.lemmas.Bool.Decides.{nat_tests}
use Rattle.std.specs.Str.{is_utf8}
use Rattle.scratch_values.specs.Longest.{longest}
use Rattle.machine_spec.specs.declared.devices.Key.{Key}
use Rattle.machine_spec.specs.declared.lines.Budget.{Budget}
use Rattle.machine_spec.specs.declared.lines.Line.{Line}
use Rattle.machine_spec.specs.declared.lines.Line.TheVariants as line
use Rattle.machine_spec.specs.declared.lines.LineRefusal.{LineRefusal}
use Rattle.machine_spec.specs.declared.lines.LineRefusal.TheVariants.{ClockBack, OutOfRange}
use Rattle.machine_spec.specs.ScriptText.{Reading, Good, Refused, reading_of, text_reading, by_first_word, by_words, words_of, first_of, rest_of, whole_number, signed_number, mouse_line, frame_line, click_line, forward, is_budget, good_if, key_line, key_of_rest}
use Rattle.input_script.proofs.Kept.{and_first, and_second}
use Rattle.input_script.specs.Reader.{IsForward, IsBudget}

abbrev IfForward : ℕ → Reading → Type 0
IfForward last (Good l) = IsForward last l
IfForward last (Refused r) = Unit {0}

record Forward (last : ℕ) (r : Reading) : Type 0 where
  holds : IfForward last r

either : (last : ℕ) (b : Bool) (r s : Reading) → Forward last r → Forward last s → Forward last (cond b r s)
either last true r s f g = f
either last false r s f g = g

told : (last : ℕ) (r : LineRefusal) → Forward last (Refused r)
told last r = record { holds = tt }

good_if_forward : (last : ℕ) (b : Bool) (l : Line) (n : ℕ) → IsForward last l → Forward last (good_if b l n)
good_if_forward last true l n h = record { holds = h }
good_if_forward last false l n h = record { holds = tt }

at_most : (a b : ℕ) → nat_le a b ≡ true → a ≤ b
at_most a b h = grind (arith, nat_tests)

budget_is : (b : Budget) → is_budget b ≡ true → IsBudget b
budget_is b h =
    let three = and_first _ (nat_le b.warp 1000000) h in
    let two = and_first _ (nat_le b.passes 10000) three in
    record {
      clock = at_most b.clock (9 * 10 ^ 12) (and_first _ (nat_le 1 b.passes) two);
      passes_low = at_most 1 b.passes (and_second _ _ two);
      passes = at_most b.passes 10000 (and_second _ _ three);
      warp = at_most b.warp 1000000 (and_second _ _ h);
    }

good : (last : ℕ) (l : Line) → IsForward last l → Forward last (Good l)
good last l h = record { holds = h }

clock_by : (t : Bool) (n last : ℕ) (b : Budget) → nat_lt b.clock last ≡ t → IsBudget b → Forward last (cond t (Refused (ClockBack n last b.clock)) (Good (line.Frame b)))
clock_by true n last b e h = told last _
clock_by false n last b e h = let least : last ≤ b.clock = grind (arith, nat_tests) in good last (line.Frame b) (least, h)

budget_by : (t : Bool) (n last : ℕ) (b : Budget) → is_budget b ≡ t → Forward last (cond t (forward n last b) (Refused (OutOfRange n)))
budget_by true n last b e = clock_by (nat_lt b.clock last) n last b refl (budget_is b e)
budget_by false n last b e = told last _

frame_forward : (n last : ℕ) (a b c : Option ℕ) → Forward last (frame_line n last a b c)
frame_forward n last (Some a) (Some b) (Some c) = budget_by (is_budget (record { clock = a; passes = b; warp = c })) n last (record { clock = a; passes = b; warp = c }) refl
frame_forward n last (Some a) (Some b) None = told last _
frame_forward n last (Some a) None c = told last _
frame_forward n last None b c = told last _

mouse_forward : (n last : ℕ) (a b : Option ℤ) → Forward last (mouse_line n a b)
mouse_forward n last (Some x) (Some y) = good_if_forward last _ (line.Mouse x y) n tt
mouse_forward n last (Some x) None = told last _
mouse_forward n last None b = told last _

click_forward : (n last : ℕ) (a : Option ℕ) → Forward last (click_line n a)
click_forward n last (Some place) = good_if_forward last _ (line.Click place) n tt
click_forward n last None = told last _

down_forward : (n last : ℕ) (o : Option Key) → Forward last (key_line line.KeyDown n o)
down_forward n last (Some key) = good last (line.KeyDown key) tt
down_forward n last None = told last _

up_forward : (n last : ℕ) (o : Option Key) → Forward last (key_line line.KeyUp n o)
up_forward n last (Some key) = good last (line.KeyUp key) tt
up_forward n last None = told last _

words_forward : (n last : ℕ) (ws : List (List ℕ)) → Forward last (by_words n last ws)
words_forward n last [] = told last _
words_forward n last (word ∷ []) =
    either last _ _ _ (good last line.Flag tt) (either last _ _ _ (good last line.Stop tt) (either last _ _ _ (good last (line.Answer []) tt) (told last _)))
words_forward n last (word ∷ other ∷ []) =
    either last _ _ _ (good last (line.Turbo true) tt) (either last _ _ _ (good last (line.Turbo false) tt)
    (either last _ _ _ (good last (line.Button true) tt) (either last _ _ _ (good last (line.Button false) tt)
    (either last _ _ _ (click_forward n last (whole_number other)) (told last _)))))
words_forward n last (word ∷ x ∷ y ∷ []) = either last _ _ _ (mouse_forward n last (signed_number x) (signed_number y)) (told last _)
words_forward n last (word ∷ clock ∷ passes ∷ warp ∷ []) =
    either last _ _ _ (frame_forward n last (whole_number clock) (whole_number passes) (whole_number warp)) (told last _)
words_forward n last (a ∷ b ∷ c ∷ d ∷ e ∷ ws) = told last _

first_forward : (n last : ℕ) (word : List ℕ) (o : Option (List ℕ)) (text : List ℕ) → Forward last (by_first_word n last word o text)
first_forward n last word None text = words_forward n last (words_of text)
first_forward n last word (Some rest) text =
    either last (bytes_eq word (codes "down")) _ _ (down_forward n last (key_of_rest rest)) (either last (bytes_eq word (codes "up")) _ _ (up_forward n last (key_of_rest rest))
    (either last (bytes_eq word (codes "answer")) _ _ (good_if_forward last (nat_le (length rest) longest) (line.Answer rest) n tt) (words_forward n last (words_of text))))

text_forward : (n last : ℕ) (text : List ℕ) → Forward last (text_reading n last text)
text_forward n last [] = good last line.Nothing tt
text_forward n last (b ∷ bs) =
    either last _ _ _ (good last line.Nothing tt) (first_forward n last (first_of (words_of (b ∷ bs))) (rest_of (words_of (b ∷ bs)) (b ∷ bs)) (b ∷ bs))

pub reading_forward : (n last : ℕ) (bytes : List ℕ) (l : Line) → reading_of n last bytes ≡ Good l → IsForward last l
reading_forward n last bytes l e =
    let f : Forward last (reading_of n last bytes) = either last (is_utf8 bytes) _ _ (text_forward n last bytes) (told last _) in
    let P : Reading → Type 0 = IfForward last in
    subst P e f.holds
