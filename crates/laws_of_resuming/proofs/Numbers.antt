-- What the number of a line is told by.
use Rattle.std.proofs.Common.{◌≡◌, ℕ, ◌+◌, ◌^◌, ◌==◌, ◌&&◌, Bool, true, false, if◌then◌else◌, List, [], ◌∷◌, Option, Some, None, refl, ap, ◌∙◌, length, arith}
use Rattle.std.specs.Prelude.{ℤ, pos, neg_ℤ, nat_lt, nat_le, bytes_eq, codes}
use Rattle.std.specs.Str.{is_utf8}
use Rattle.scratch_values.specs.Longest.{longest}
use Rattle.machine_spec.specs.declared.devices.Key.{Key}
use Rattle.machine_spec.specs.declared.lines.Budget.{Budget}
use Rattle.machine_spec.specs.declared.lines.Line.{Line}
use Rattle.machine_spec.specs.declared.lines.Line.TheVariants as line
use Rattle.machine_spec.specs.Line.{after}
use Rattle.machine_spec.specs.Outcome.{Outcome, Goes, Full, TooLong, Spent}
use Rattle.machine_spec.specs.Output.{Output, in_front, written, played_line, played_reading, played}
use Rattle.machine_spec.specs.Program.{Program}
use Rattle.machine_spec.specs.ScriptText.{Reading, Good, Refused, words_of, whole_number, signed_number, is_within, good_if, unknown, mouse_line, click_line, is_budget, forward, budget_line, frame_line, key_line, key_of_rest, answer_line, one_word, two_words, by_words, by_first_word, rest_of, first_of, text_reading, reading_of, clock_after}
use Rattle.machine_spec.specs.Tasks.{Task}
use Rattle.machine_spec.specs.World.{World}
use Rattle.laws_of_resuming.specs.Parts.{moved_by, moved_on}

-- a reading where k more lines stand in front
abbrev pub reading_moved : ℕ → Reading → Reading
reading_moved k (Good l) = Good l
reading_moved k (Refused refusal) = Refused (moved_by k refusal)

module _ (k : ℕ) where
  choice_moved : (c : Bool) (a b x y : Reading) → a ≡ reading_moved k x → b ≡ reading_moved k y → (if c then a else b) ≡ reading_moved k (if c then x else y)
  choice_moved true a b x y e f = e
  choice_moved false a b x y e f = f

  -- a line that is good, or what else is read
  or_moved : (c : Bool) (l : Line) (b y : Reading) → b ≡ reading_moved k y → (if c then Good l else b) ≡ reading_moved k (if c then Good l else y)
  or_moved c l b y e = choice_moved c (Good l) b (Good l) y refl e

  module _ (n last : ℕ) where
    good_if_moved : (c : Bool) (l : Line) → good_if c l (k + n) ≡ reading_moved k (good_if c l n)
    good_if_moved true l = refl
    good_if_moved false l = refl

    mouse_moved : (x y : Option ℤ) → mouse_line (k + n) x y ≡ reading_moved k (mouse_line n x y)
    mouse_moved None y = refl
    mouse_moved (Some x) None = refl
    mouse_moved (Some x) (Some y) = good_if_moved (is_within (neg_ℤ (pos 240)) (pos 240) x && is_within (neg_ℤ (pos 180)) (pos 180) y) (line.Mouse x y)

    click_moved : (place : Option ℕ) → click_line (k + n) place ≡ reading_moved k (click_line n place)
    click_moved None = refl
    click_moved (Some place) = good_if_moved (nat_lt place (2 ^ 32)) (line.Click place)

    forward_moved : (b : Budget) → forward (k + n) last b ≡ reading_moved k (forward n last b)
    forward_moved b = choice_moved (nat_lt b.clock last) _ _ _ _ refl refl

    budget_moved : (b : Budget) → budget_line (k + n) last b ≡ reading_moved k (budget_line n last b)
    budget_moved b = choice_moved (is_budget b) _ _ _ _ (forward_moved b) refl

    frame_moved : (clock passes warp : Option ℕ) → frame_line (k + n) last clock passes warp ≡ reading_moved k (frame_line n last clock passes warp)
    frame_moved None passes warp = refl
    frame_moved (Some clock) None warp = refl
    frame_moved (Some clock) (Some passes) None = refl
    frame_moved (Some clock) (Some passes) (Some warp) = budget_moved (record { clock = clock; passes = passes; warp = warp })

    key_moved : (f : Key → Line) (key : Option Key) → key_line f (k + n) key ≡ reading_moved k (key_line f n key)
    key_moved f None = refl
    key_moved f (Some key) = refl

    answer_moved : (text : List ℕ) → answer_line (k + n) text ≡ reading_moved k (answer_line n text)
    answer_moved text = good_if_moved (nat_le (length text) longest) (line.Answer text)

    one_moved : (word : List ℕ) → one_word (k + n) word ≡ reading_moved k (one_word n word)
    one_moved word =
        or_moved (bytes_eq word (codes "flag")) line.Flag _ _
        (or_moved (bytes_eq word (codes "stop")) line.Stop _ _
        (or_moved (bytes_eq word (codes "answer")) (line.Answer []) (unknown (k + n)) (unknown n) refl))

    two_moved : (word other : List ℕ) → two_words (k + n) word other ≡ reading_moved k (two_words n word other)
    two_moved word other =
        or_moved (bytes_eq word (codes "turbo") && bytes_eq other (codes "on")) (line.Turbo true) _ _
        (or_moved (bytes_eq word (codes "turbo") && bytes_eq other (codes "off")) (line.Turbo false) _ _
        (or_moved (bytes_eq word (codes "button") && bytes_eq other (codes "down")) (line.Button true) _ _
        (or_moved (bytes_eq word (codes "button") && bytes_eq other (codes "up")) (line.Button false) _ _
        (choice_moved (bytes_eq word (codes "click")) _ _ _ _ (click_moved (whole_number other)) refl))))

    words_moved : (words : List (List ℕ)) → by_words (k + n) last words ≡ reading_moved k (by_words n last words)
    words_moved [] = refl
    words_moved (word ∷ []) = one_moved word
    words_moved (word ∷ other ∷ []) = two_moved word other
    words_moved (word ∷ x ∷ y ∷ []) = choice_moved (bytes_eq word (codes "mouse")) _ _ _ _ (mouse_moved (signed_number x) (signed_number y)) refl
    words_moved (word ∷ clock ∷ passes ∷ warp ∷ []) =
        choice_moved (bytes_eq word (codes "frame")) _ _ _ _ (frame_moved (whole_number clock) (whole_number passes) (whole_number warp)) refl
    words_moved (a ∷ b ∷ c ∷ d ∷ e ∷ words) = refl

    first_moved : (word : List ℕ) (rest : Option (List ℕ)) (text : List ℕ) → by_first_word (k + n) last word rest text ≡ reading_moved k (by_first_word n last word rest text)
    first_moved word None text = words_moved (words_of text)
    first_moved word (Some rest) text =
        choice_moved (bytes_eq word (codes "down")) _ _ _ _ (key_moved line.KeyDown (key_of_rest rest))
        (choice_moved (bytes_eq word (codes "up")) _ _ _ _ (key_moved line.KeyUp (key_of_rest rest))
        (choice_moved (bytes_eq word (codes "answer")) _ _ _ _ (answer_moved rest) (words_moved (words_of text))))

    text_moved : (text : List ℕ) → text_reading (k + n) last text ≡ reading_moved k (text_reading n last text)
    text_moved [] = refl
    text_moved (b ∷ bs) = or_moved (b == 35) line.Nothing _ _ (first_moved (first_of (words_of (b ∷ bs))) (rest_of (words_of (b ∷ bs)) (b ∷ bs)) (b ∷ bs))

    pub reading_is_moved : (bytes : List ℕ) → reading_of (k + n) last bytes ≡ reading_moved k (reading_of n last bytes)
    reading_is_moved bytes = choice_moved (is_utf8 bytes) _ _ _ _ (text_moved bytes) refl

-- the clock reading is the same
clock_moved : (k last : ℕ) (r : Reading) → clock_after last (reading_moved k r) ≡ clock_after last r
clock_moved k last (Good l) = refl
clock_moved k last (Refused refusal) = refl

module _ (p : Program) (k : ℕ) where
  line_moved : (l : Line) (o : Outcome (World Task)) (f g : World Task → Output) → ((u : World Task) → f u ≡ moved_on k (g u)) → played_line p l o f ≡ moved_on k (played_line p l o g)
  line_moved l (Goes u) f g h = ap (in_front (written p l u)) (h u)
  line_moved l Full f g h = refl
  line_moved l (TooLong n) f g h = refl
  line_moved l (Spent which) f g h = refl

  read_moved : (w : World Task) (r : Reading) (f g : World Task → Output) → ((u : World Task) → f u ≡ moved_on k (g u)) → played_reading p w (reading_moved k r) f ≡ moved_on k (played_reading p w r g)
  read_moved w (Good l) f g h = line_moved l (after p l w) f g h
  read_moved w (Refused refusal) f g h = refl

  pub lines_moved : (n last : ℕ) (w : World Task) (lines : List (List ℕ)) → played p (k + n) last w lines ≡ moved_on k (played p n last w lines)
  lines_moved n last w [] = refl
  lines_moved n last w (bytes ∷ lines) =
      let r = reading_of n last bytes in
      let z : k + n + 1 ≡ k + (n + 1) = omega arith in
      ap (λ (s : Reading). played_reading p w s (λ v. played p (k + n + 1) (clock_after last s) v lines)) (reading_is_moved k n last bytes)
      ∙ read_moved w r (λ v. played p (k + n + 1) (clock_after last (reading_moved k r)) v lines) (λ v. played p (n + 1) (clock_after last r) v lines)
      (λ u. ap (λ c. played p (k + n + 1) c u lines) (clock_moved k last r) ∙ ap (λ m. played p m (clock_after last r) u lines) z ∙ lines_moved (n + 1) (clock_after last r) u lines)
