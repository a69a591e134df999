-- The words of a line, and what is read of them.
use Rattle.std.proofs.Common.{◌≡◌, ℕ, Bool, true, false, cond, eqb, List, [], ◌∷◌, Some, Result, Err, refl, sym, ap, subst, ◌∙◌}
use Rattle.std.specs.Prelude.{IfOk}
use Rattle.std.specs.List.{onto_first, after_first}
use Rattle.std.specs.Str.{IsUtf8, is_utf8}
use Rattle.std.proofs.lemmas.Str.{is_utf8-from_IsUtf8, IsUtf8-from_is_utf8}
use Rattle.machine_spec.specs.declared.lines.Line.{Line}
use Rattle.machine_spec.specs.declared.lines.LineRefusal.{LineRefusal}
use Rattle.machine_spec.specs.declared.lines.LineRefusal.TheVariants.{NotUtf8, UnknownLine}
use Rattle.machine_spec.specs.ScriptText.{Reading, Good, Refused, words_of, first_of, rest_of, by_words, by_first_word, unknown, text_reading, reading_of}
use Rattle.input_script.specs.FirstWord.{by_rest}
use Rattle.input_script.specs.Reader.{Refuses}

-- an answer stays one where the reading is told by other words
pub ok_along : (x : Result Line LineRefusal) (r s : Reading) → r ≡ s → IfOk x (λ l. r ≡ Good l) → IfOk x (λ l. s ≡ Good l)
ok_along x r s e h = let P : Reading → Type 0 = λ q. IfOk x (λ l. q ≡ Good l) in subst P e h

pub refused_along : (x : Result Line LineRefusal) (r s : Reading) → r ≡ s → Refuses x (Some r) → Refuses x (Some s)
refused_along x r s e h = let P : Reading → Type 0 = λ q. Refuses x (Some q) in subst P e h

-- a first word and others
pub record HasWord (ps : List (List ℕ)) : Type 0 where
  pub first : List ℕ
  pub more : List (List ℕ)
  pub are : ps ≡ first ∷ more

onto_word : (b : Bool) (x : ℕ) (ps : List (List ℕ)) → HasWord (cond b ([] ∷ ps) (onto_first x ps))
onto_word true x ps = record { first = []; more = ps; are = refl }
onto_word false x [] = record { first = x ∷ []; more = []; are = refl }
onto_word false x (p ∷ ps) = record { first = x ∷ p; more = ps; are = refl }

has_word : (text : List ℕ) → HasWord (words_of text)
has_word [] = record { first = []; more = []; are = refl }
has_word (b ∷ bs) = onto_word (eqb b 32) b (words_of bs)

-- five words or more are no line
pub five_words : (n last : ℕ) (a b c d rest : List ℕ) → unknown n ≡ by_words n last (a ∷ b ∷ c ∷ d ∷ words_of rest)
five_words n last a b c d rest =
    let w = has_word rest in
    subst (λ ps. unknown n ≡ by_words n last (a ∷ b ∷ c ∷ d ∷ ps)) (sym w.are) refl

last_step : (n last : ℕ) (word rest text : List ℕ) → words_of text ≡ word ∷ words_of rest → by_first_word n last word (Some rest) text ≡ by_rest n last word rest
last_step n last word rest text e = rw e refl

-- a line of several words, by the first and the rest
pub several_words : (n last : ℕ) (word rest text : List ℕ) → words_of text ≡ word ∷ words_of rest → after_first (λ b. eqb b 32) text ≡ rest
    → by_rest n last word rest ≡ by_first_word n last (first_of (words_of text)) (rest_of (words_of text) text) text
several_words n last word rest text e f =
    let w = has_word rest in
    let parts : words_of text ≡ word ∷ w.first ∷ w.more = e ∙ ap (λ ps. word ∷ ps) w.are in
    let first : first_of (words_of text) ≡ word = ap first_of parts in
    let behind : rest_of (words_of text) text ≡ Some rest = ap (λ ps. rest_of ps text) parts ∙ ap Some f in
    sym (ap (λ x. by_first_word n last x (rest_of (words_of text) text) text) first
    ∙ ap (λ o. by_first_word n last word o text) behind
    ∙ last_step n last word rest text e)

-- UTF-8

pub utf8_line : (n last : ℕ) (bytes : List ℕ) → IsUtf8 bytes → text_reading n last bytes ≡ reading_of n last bytes
utf8_line n last bytes h = rw (is_utf8-from_IsUtf8 bytes h) refl

not_utf8 : (b : Bool) (n last : ℕ) (bytes : List ℕ) → (b ≡ true → IsUtf8 bytes) → (IsUtf8 bytes → ⊥) → Refused (NotUtf8 n) ≡ cond b (text_reading n last bytes) (Refused (NotUtf8 n))
not_utf8 true n last bytes h k = absurd (k (h refl))
not_utf8 false n last bytes h k = refl

pub no_text : (n last : ℕ) (bytes : List ℕ) → (IsUtf8 bytes → ⊥) → Refused (NotUtf8 n) ≡ reading_of n last bytes
no_text n last bytes k = not_utf8 (is_utf8 bytes) n last bytes (IsUtf8-from_is_utf8 bytes) k

-- a refusal of a line that is not known
pub unknown_along : (x : Result Line LineRefusal) (n : ℕ) (r : Reading) → x ≡ Err (UnknownLine n) → unknown n ≡ r → Refuses x (Some r)
unknown_along x n r e f = let P : Result Line LineRefusal → Type 0 = λ y. Refuses y (Some r) in subst P (sym e) (ap Some (sym f))
