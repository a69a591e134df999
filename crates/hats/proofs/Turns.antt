-- One turn of a start: what is left, from the threads so far, is the whole.
use Rattle.std.proofs.Common.{◌≡◌, ℕ, ◌+◌, ◌<◌, ◌≤◌, List, [], ◌∷◌, ◌++◌, length, map, get_or, drop, reverse, Option, Some, Err, sym, ap, ◌∙◌, subst, arith}
use Rattle.std.specs.Prelude.{flat_map, unwrap_or}
use Rattle.std.proofs.lemmas.List.{reverse-append, drop_all, drop_more}
use Rattle.std.proofs.lemmas.List.Elements.{All-get_or}
use Rattle.opcode_table.specs.declared.opcode.Opcode.{Opcode}
use Rattle.script_words.specs.declared.stops.Stop.{Stop}
use Rattle.machine_spec.specs.Outcome.{Outcome, Goes, then_do, StopIs}
use Rattle.machine_spec.specs.Places.{Places}
use Rattle.machine_spec.specs.Starting.{Crowd}
use Rattle.project_spec.specs.Trees.{Sheet}
use Rattle.hat_index.specs.Hats.{Index}
use Rattle.hat_index.specs.Starts.{Start}
use Rattle.thread_frames.specs.Fit.{IsHeld}
use Rattle.thread_frames.specs.Threads.{Thread}
use Rattle.hats.specs.declared.hat_threads.Hat.{Hat}
use Rattle.hats.specs.declared.hat_threads.Numbers.{Numbers}
use Rattle.hats.specs.Indexed.{AreAllHeld, AreHeld}
use Rattle.hats.specs.Rounds.{IsKept}
use Rattle.hats.specs.Started.{started, started_all}
use Rattle.hats.proofs.Outcomes.{stop-first, stop-same, each-more, each-stop}

pub kept-more : (held : (ℕ → Sheet) → Type 0) (a b c : Places Thread) (l m n : Numbers) → IsKept held a b l m → IsKept held b c m n → IsKept held a c l n
kept-more held a b c l m n x y = record {
  rising = omega (arith, x.rising, y.rising);
  few = y.few;
  fits = λ sheets h all. y.fits sheets h (x.fits sheets h all);
}

-- the block under one of the hats is held
pub one-held : (sheet : Sheet) (xs : List Start) (k : ℕ) (x : Start) → k < length xs → x ≡ get_or xs k x → AreAllHeld sheet xs → IsHeld sheet x.1
one-held sheet xs k x l e all = subst (λ s. IsHeld sheet s.1) (sym e) (All-get_or (λ s. IsHeld sheet s.1) xs k x l all)

-- hats that are found are those of the index
pub kept-found : (index : Index) (t : ℕ) (op : Opcode) (text : List ℕ) (starts lent : List Start) (a b : Places Thread) (l m : Numbers) → Some starts ≡ index t op text → lent ≡ starts
    → IsKept (λ sheets. AreAllHeld (sheets t) lent) a b l m → IsKept (λ sheets. AreHeld sheets index) a b l m
kept-found index t op text starts lent a b l m e f x = record {
  rising = x.rising;
  few = x.few;
  fits = λ sheets held all. x.fits sheets (subst (AreAllHeld (sheets t)) (ap (λ o. unwrap_or o []) (sym e) ∙ sym f) (held t op text)) all;
}

-- a list from front to back, k of which are gone
module _ {B : Type 0} (running : Option ℕ) (f : B → Hat) (whole : Outcome (Crowd Thread)) where
  abbrev left : List B → Crowd Thread → Outcome (Crowd Thread)
  left xs c = started_all running (map f xs) c

  this_first : (xs : List B) (k : ℕ) (x : B) → k < length xs → x ≡ get_or xs k x → drop k xs ≡ x ∷ drop (k + 1) xs
  this_first xs k x l e = drop_more xs k x l ∙ ap (λ y. y ∷ drop (k + 1) xs) (sym e)

  pub walk-more : (xs : List B) (k : ℕ) (x : B) (c d : Crowd Thread) → k < length xs → x ≡ get_or xs k x → left (drop k xs) c ≡ whole → started running (f x) c ≡ Goes d → left (drop (k + 1) xs) d ≡ whole
  walk-more xs k x c d l e w h = sym (ap (λ o. then_do o (started_all running (map f (drop (k + 1) xs)))) h) ∙ ap (λ ys. left ys c) (sym (this_first xs k x l e)) ∙ w

  pub walk-stop : (T U : Type 0) (s : Stop) (xs : List B) (k : ℕ) (x : B) (c : Crowd Thread) → k < length xs → x ≡ get_or xs k x → left (drop k xs) c ≡ whole → StopIs {T = T} (Err s) (started running (f x) c) → StopIs {T = U} (Err s) whole
  walk-stop T U s xs k x c l e w h =
      stop-same U U s (left (x ∷ drop (k + 1) xs) c) whole (ap (λ ys. left ys c) (sym (this_first xs k x l e)) ∙ w)
      (stop-first T U s (started running (f x) c) (started_all running (map f (drop (k + 1) xs))) h)

  pub walk-end : (xs : List B) (k : ℕ) (c : Crowd Thread) → length xs ≤ k → left (drop k xs) c ≡ whole → whole ≡ Goes c
  walk-end xs k c l w = sym w ∙ ap (λ ys. left ys c) (drop_all k xs l)

-- a list from back to front, of which xs is left
module _ {B : Type 0} (running : Option ℕ) (f : B → List Hat) (whole : Outcome (Crowd Thread)) where
  abbrev all_of : List B → Crowd Thread → Outcome (Crowd Thread)
  all_of xs c = started_all running (flat_map f xs) c

  last_first : (xs ys : List B) (x : B) → xs ≡ ys ++ x ∷ [] → reverse xs ≡ x ∷ reverse ys
  last_first xs ys x e = ap reverse e ∙ reverse-append ys (x ∷ [])

  pub back-more : (xs ys : List B) (x : B) (c d : Crowd Thread) → xs ≡ ys ++ x ∷ [] → all_of (reverse xs) c ≡ whole → started_all running (f x) c ≡ Goes d → all_of (reverse ys) d ≡ whole
  back-more xs ys x c d e w h = sym (each-more running f x (reverse ys) c d h) ∙ ap (λ zs. all_of zs c) (sym (last_first xs ys x e)) ∙ w

  pub back-stop : (T U : Type 0) (s : Stop) (xs ys : List B) (x : B) (c : Crowd Thread) → xs ≡ ys ++ x ∷ [] → all_of (reverse xs) c ≡ whole → StopIs {T = T} (Err s) (started_all running (f x) c) → StopIs {T = U} (Err s) whole
  back-stop T U s xs ys x c e w h =
      stop-same U U s (all_of (x ∷ reverse ys) c) whole (ap (λ zs. all_of zs c) (sym (last_first xs ys x e)) ∙ w) (each-stop running f T U s x (reverse ys) c h)
