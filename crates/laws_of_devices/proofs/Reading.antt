-- A line that is read is a good one.
use Rattle.std.proofs.Common.{◌≡◌, ℕ, ◌*◌, ◌^◌, ◌≤◌, Bool, true, false, cond, List, [], ◌∷◌, length, Option, Some, None, refl, subst, arith}
use Rattle.std.specs.Prelude.{bytes_eq, codes, nat_le, nat_lt, ℤ, pos, negsuc, neg_ℤ, unsigned_abs}
use Rattle.std.proofs.lemmas.Bool.Decides.{nat_tests}
use Rattle.std.proofs.lemmas.Int.{ints}
use Rattle.std.proofs.lemmas.Str.{IsUtf8-from_is_utf8}
use Rattle.std.specs.Str.{IsUtf8, is_utf8}
use Rattle.scratch_values.specs.Longest.{longest}
use Rattle.machine_spec.specs.declared.devices.Key.{Key}
use Rattle.machine_spec.specs.declared.lines.Budget.{Budget}
use Rattle.machine_spec.specs.declared.lines.Line.{Line}
use Rattle.machine_spec.specs.declared.lines.Line.TheVariants as line
use Rattle.machine_spec.specs.declared.lines.LineRefusal.{LineRefusal}
use Rattle.machine_spec.specs.declared.lines.LineRefusal.TheVariants.{ClockBack, OutOfRange}
use Rattle.machine_spec.specs.ScriptText.{Reading, Good, Refused, reading_of, text_reading, by_first_word, by_words, words_of, first_of, rest_of, whole_number, signed_number, mouse_line, frame_line, click_line, forward, is_budget, is_within, good_if, key_line, key_of_rest, last_clock}
use Rattle.laws_of_threads.specs.GoodLines.{IsGoodLine, IsNamedKey}
use Rattle.laws_of_devices.proofs.Named.{and_first, and_second, read_named, rest_utf8}

abbrev IfGood : ℕ → Reading → Type 0
IfGood last (Good l) = IsGoodLine last l
IfGood last (Refused r) = Unit {0}

record Fine (last : ℕ) (r : Reading) : Type 0 where
  holds : IfGood last r

either : (last : ℕ) (b : Bool) (r s : Reading) → Fine last r → Fine last s → Fine last (cond b r s)
either last true r s f g = f
either last false r s f g = g

told : (last : ℕ) (r : LineRefusal) → Fine last (Refused r)
told last r = record { holds = tt }

good : (last : ℕ) (l : Line) → IsGoodLine last l → Fine last (Good l)
good last l h = record { holds = h }

good_if_fine : (last : ℕ) (b : Bool) (l : Line) (n : ℕ) → (b ≡ true → IsGoodLine last l) → Fine last (good_if b l n)
good_if_fine last true l n h = record { holds = h refl }
good_if_fine last false l n h = record { holds = tt }

at_most : (a b : ℕ) → nat_le a b ≡ true → a ≤ b
at_most a b h = grind (arith, nat_tests)

clock_least : (b : Budget) → is_budget b ≡ true → b.clock ≤ last_clock
clock_least b h = at_most b.clock (9 * 10 ^ 12) (and_first _ (nat_le 1 b.passes) (and_first _ (nat_le b.passes 10000) (and_first _ (nat_le b.warp 1000000) h)))

clock_by : (t : Bool) (n last : ℕ) (b : Budget) → nat_lt b.clock last ≡ t → b.clock ≤ last_clock → Fine last (cond t (Refused (ClockBack n last b.clock)) (Good (line.Frame b)))
clock_by true n last b e h = told last _
clock_by false n last b e h = let least : last ≤ b.clock = grind (arith, nat_tests) in good last (line.Frame b) (least, h)

budget_by : (t : Bool) (n last : ℕ) (b : Budget) → is_budget b ≡ t → Fine last (cond t (forward n last b) (Refused (OutOfRange n)))
budget_by true n last b e = clock_by (nat_lt b.clock last) n last b refl (clock_least b e)
budget_by false n last b e = told last _

frame_fine : (n last : ℕ) (a b c : Option ℕ) → Fine last (frame_line n last a b c)
frame_fine n last (Some a) (Some b) (Some c) = budget_by (is_budget (record { clock = a; passes = b; warp = c })) n last (record { clock = a; passes = b; warp = c }) refl
frame_fine n last (Some a) (Some b) None = told last _
frame_fine n last (Some a) None c = told last _
frame_fine n last None b c = told last _

within : (m : ℕ) (x : ℤ) → is_within (neg_ℤ (pos m)) (pos m) x ≡ true → unsigned_abs x ≤ m
within m (pos n) h = grind (arith, ints)
within m (negsuc n) h = grind (arith, ints)

mouse_fine : (n last : ℕ) (a b : Option ℤ) → Fine last (mouse_line n a b)
mouse_fine n last (Some x) (Some y) = good_if_fine last _ (line.Mouse x y) n (λ e. (within 240 x (and_first _ _ e), within 180 y (and_second _ _ e)))
mouse_fine n last (Some x) None = told last _
mouse_fine n last None b = told last _

click_fine : (n last : ℕ) (a : Option ℕ) → Fine last (click_line n a)
click_fine n last (Some place) = good_if_fine last _ (line.Click place) n (λ e. tt)
click_fine n last None = told last _

down_fine : (n last : ℕ) (o : Option Key) → ((key : Key) → o ≡ Some key → IsNamedKey key) → Fine last (key_line line.KeyDown n o)
down_fine n last (Some key) h = good last (line.KeyDown key) (h key refl)
down_fine n last None h = told last _

up_fine : (n last : ℕ) (o : Option Key) → Fine last (key_line line.KeyUp n o)
up_fine n last (Some key) = good last (line.KeyUp key) tt
up_fine n last None = told last _

words_fine : (n last : ℕ) (ws : List (List ℕ)) → Fine last (by_words n last ws)
words_fine n last [] = told last _
words_fine n last (word ∷ []) =
    either last _ _ _ (good last line.Flag tt) (either last _ _ _ (good last line.Stop tt) (either last _ _ _ (good last (line.Answer []) (omega arith)) (told last _)))
words_fine n last (word ∷ other ∷ []) =
    either last _ _ _ (good last (line.Turbo true) tt) (either last _ _ _ (good last (line.Turbo false) tt)
    (either last _ _ _ (good last (line.Button true) tt) (either last _ _ _ (good last (line.Button false) tt)
    (either last _ _ _ (click_fine n last (whole_number other)) (told last _)))))
words_fine n last (word ∷ x ∷ y ∷ []) = either last _ _ _ (mouse_fine n last (signed_number x) (signed_number y)) (told last _)
words_fine n last (word ∷ clock ∷ passes ∷ warp ∷ []) =
    either last _ _ _ (frame_fine n last (whole_number clock) (whole_number passes) (whole_number warp)) (told last _)
words_fine n last (a ∷ b ∷ c ∷ d ∷ e ∷ ws) = told last _

-- what follows the first word, where there is something, is UTF-8
abbrev IfRest : Option (List ℕ) → Type 0
IfRest None = Unit {0}
IfRest (Some rest) = IsUtf8 rest

first_fine : (n last : ℕ) (word : List ℕ) (o : Option (List ℕ)) (text : List ℕ) → IfRest o → Fine last (by_first_word n last word o text)
first_fine n last word None text u = words_fine n last (words_of text)
first_fine n last word (Some rest) text u =
    either last (bytes_eq word (codes "down")) _ _ (down_fine n last (key_of_rest rest) (λ key e. read_named rest key u e)) (either last (bytes_eq word (codes "up")) _ _ (up_fine n last (key_of_rest rest))
    (either last (bytes_eq word (codes "answer")) _ _ (good_if_fine last (nat_le (length rest) longest) (line.Answer rest) n (λ e. at_most (length rest) longest e)) (words_fine n last (words_of text))))

rest_is : (words : List (List ℕ)) (text : List ℕ) → IsUtf8 text → IfRest (rest_of words text)
rest_is [] text u = rest_utf8 text u
rest_is (word ∷ []) text u = tt
rest_is (word ∷ other ∷ words) text u = rest_utf8 text u

text_fine : (n last : ℕ) (text : List ℕ) → IsUtf8 text → Fine last (text_reading n last text)
text_fine n last [] u = good last line.Nothing tt
text_fine n last (b ∷ bs) u =
    either last _ _ _ (good last line.Nothing tt) (first_fine n last (first_of (words_of (b ∷ bs))) (rest_of (words_of (b ∷ bs)) (b ∷ bs)) (b ∷ bs) (rest_is (words_of (b ∷ bs)) (b ∷ bs) u))

utf8_by : (c : Bool) (n last : ℕ) (bytes : List ℕ) (r : LineRefusal) → is_utf8 bytes ≡ c → Fine last (cond c (text_reading n last bytes) (Refused r))
utf8_by true n last bytes r e = text_fine n last bytes (IsUtf8-from_is_utf8 bytes e)
utf8_by false n last bytes r e = told last r

pub reading_good : (n last : ℕ) (bytes : List ℕ) (l : Line) → reading_of n last bytes ≡ Good l → IsGoodLine last l
reading_good n last bytes l e =
    let f : Fine last (reading_of n last bytes) = utf8_by (is_utf8 bytes) n last bytes _ refl in
    let P : Reading → Type 0 = IfGood last in
    subst P e f.holds
