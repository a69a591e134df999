-- A scene that keeps its instances, its clock and who waits; updates of bubbles do.
use Rattle.std.proofs.Common.{◌≡◌, ℕ, ◌==◌, Bool, true, false, if◌then◌else◌, List, [], ◌∷◌, ◌++◌, map, is_some, refl, ap, ◌∙◌}
use Rattle.script_words.specs.declared.stops.CounterKind.{CounterKind}
use Rattle.machine_spec.specs.declared.bubble.Say.{Say}
use Rattle.machine_spec.specs.declared.bubble.Say.TheVariants as say
use Rattle.machine_spec.specs.declared.devices.Question.{Question}
use Rattle.machine_spec.specs.BubbleText.{cut}
use Rattle.machine_spec.specs.Outcome.{Outcome, Goes, Spent, IfGoes, with_number, last_number}
use Rattle.machine_spec.specs.Stores.{live}
use Rattle.machine_spec.specs.Parts.{Scene, bubble_set, bubble_updated}
use Rattle.machine_spec.specs.ControlRows.{question_shown}
use Rattle.laws_of_threads.proofs.Faces.{Faces, faces_same, faces_then, changed_faces}
use Rattle.laws_of_threads.proofs.RowFits.{Quiet}
use Rattle.script_words.specs.declared.stops.CounterKind.TheVariants as counter

pub record Calm (s t : Scene) : Type 0 where
  pub faces : Faces s.targets t.targets
  pub clock : t.devices.clock ≡ s.devices.clock
  pub quiet : Quiet s.devices t.devices

pub calm_same : (s : Scene) → Calm s s
calm_same s = record { faces = faces_same s.targets; clock = refl; quiet = (refl, refl, (λ is h. h), (λ is h. h)) }

pub calm_then : (s t u : Scene) → Calm s t → Calm t u → Calm s u
calm_then s t u a b = record {
  faces = faces_then s.targets t.targets u.targets a.faces b.faces;
  clock = b.clock ∙ a.clock;
  quiet = (b.quiet.0 ∙ a.quiet.0, b.quiet.1 ∙ a.quiet.1, (λ is h. b.quiet.2 is (a.quiet.2 is h)), (λ is h. b.quiet.3 is (a.quiet.3 is h)));
}

number_by : {A : Type 0} (b : Bool) (which : CounterKind) (o : Outcome A) (P : A → Type 0) → IfGoes o P → IfGoes (if b then Spent which else o) P
number_by true which o P h = tt
number_by false which o P h = h

pub number_goes : {A : Type 0} (which : CounterKind) (next : ℕ) (o : Outcome A) (P : A → Type 0) → IfGoes o P → IfGoes (with_number which next o) P
number_goes which next o P h = number_by (next == last_number) which o P h

set_calm : (n : ℕ) (kind : Say) (text : List ℕ) (s : Scene) → Calm s (bubble_set n kind text s)
set_calm n kind text s = record {
  faces = changed_faces (λ i. record i { bubble = record { kind = kind; text = text; usage = s.devices.usage } }) (λ i. record { number = refl; of = refl }) n s.targets;
  clock = refl;
  quiet = (refl, refl, (λ is h. h), (λ is h. h));
}

updated_by : (b : Bool) (n : ℕ) (kind : Say) (text : List ℕ) (s : Scene) → IfGoes (if b then with_number counter.Bubble s.devices.usage (Goes (bubble_set n kind text s)) else Goes s) (Calm s)
updated_by true n kind text s = number_goes counter.Bubble s.devices.usage (Goes (bubble_set n kind text s)) (Calm s) (set_calm n kind text s)
updated_by false n kind text s = calm_same s

pub updated_calm : (n : ℕ) (kind : Say) (text : List ℕ) (s : Scene) → IfGoes (bubble_updated n kind text s) (Calm s)
updated_calm n kind text s = updated_by (is_some (live n s.targets)) n kind text s

shown_by : (b : Bool) (q : Question) (s : Scene) → IfGoes (if b then bubble_updated q.of say.Say (cut q.text) s else Goes s) (Calm s)
shown_by true q s = updated_calm q.of say.Say (cut q.text) s
shown_by false q s = calm_same s

pub shown_calm : (qs : List Question) (s : Scene) → IfGoes (question_shown qs s) (Calm s)
shown_calm [] s = calm_same s
shown_calm (q ∷ qs) s = shown_by q.bubble q s

pub map_last : {A : Type 0} (number : A → ℕ) (xs : List A) (y : A) → map number (xs ++ y ∷ []) ≡ map number xs ++ number y ∷ []
map_last number [] y = refl
map_last number (x ∷ xs) y = ap (λ l. number x ∷ l) (map_last number xs y)
