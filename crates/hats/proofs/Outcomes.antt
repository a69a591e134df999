-- Starting in turn, part by part.
use Rattle.std.proofs.Common.{◌≡◌, ℕ, Bool, true, false, ◌&&◌, not, List, [], ◌∷◌, ◌++◌, map, Option, Err, refl, sym, ap, ◌∙◌, position}
use Rattle.std.specs.Prelude.{flat_map, if◌then◌else◌}
use Rattle.std.specs.List.{list_any}
use Rattle.std.proofs.lemmas.List.Concat.{flat_map-cons}
use Rattle.script_words.specs.declared.stops.Stop.{Stop}
use Rattle.script_words.specs.declared.stops.Stop.TheVariants as stops
use Rattle.opcode_table.specs.Kinds.{hat_kind}
use Rattle.machine_spec.specs.Script.{op_of}
use Rattle.machine_spec.specs.Program.{hat_block}
use Rattle.machine_spec.specs.Outcome.{Outcome, Goes, Full, TooLong, Spent, then_do, StopIs}
use Rattle.machine_spec.specs.Places.{Places}
use Rattle.machine_spec.specs.Starting.{Handle, Pair, Crowd, restarts, placed, appended, joined, start_by, ignored_or_appended, start_one, start_all}
use Rattle.thread_frames.specs.Threads.{Thread, frames, is_of, is_alive_of}
use Rattle.hats.specs.declared.hat_threads.Hat.{Hat}
use Rattle.hats.specs.Started.{hat_in, new_of, started, started_all}

-- Outcomes

then_then : {A B C : Type 0} (o : Outcome A) (f : A → Outcome B) (g : B → Outcome C) → then_do (then_do o f) g ≡ then_do o (λ a. then_do (f a) g)
then_then (Goes a) f g = refl
then_then Full f g = refl
then_then (TooLong n) f g = refl
then_then (Spent which) f g = refl

then_same : {A B : Type 0} (o : Outcome A) (f g : A → Outcome B) → ((a : A) → f a ≡ g a) → then_do o f ≡ then_do o g
then_same (Goes a) f g h = h a
then_same Full f g h = refl
then_same (TooLong n) f g h = refl
then_same (Spent which) f g h = refl

then_goes : {A : Type 0} (o : Outcome A) → then_do o (λ a. Goes a) ≡ o
then_goes (Goes a) = refl
then_goes Full = refl
then_goes (TooLong n) = refl
then_goes (Spent which) = refl

-- a stop of what is done first is one of the whole
pub stop-first : (T U : Type 0) {A B : Type 0} (s : Stop) (o : Outcome A) (f : A → Outcome B) → StopIs {T = T} (Err s) o → StopIs {T = U} (Err s) (then_do o f)
stop-first T U stops.Stack o f h = ap (λ x. then_do x f) h
stop-first T U (stops.Text n) o f h = ap (λ x. then_do x f) h
stop-first T U (stops.Counter which) o f h = ap (λ x. then_do x f) h
stop-first T U stops.NoMemory o f h = tt

pub stop-same : (T U : Type 0) {A : Type 0} (s : Stop) (o x : Outcome A) → o ≡ x → StopIs {T = T} (Err s) o → StopIs {T = U} (Err s) x
stop-same T U stops.Stack o x e h = sym e ∙ h
stop-same T U (stops.Text n) o x e h = sym e ∙ h
stop-same T U (stops.Counter which) o x e h = sym e ∙ h
stop-same T U stops.NoMemory o x e h = tt

-- Lists of hats

module _ (running : Option ℕ) where
  all-append : (xs ys : List Hat) (c : Crowd Thread) → started_all running (xs ++ ys) c ≡ then_do (started_all running xs c) (started_all running ys)
  all-append [] ys c = refl
  all-append (x ∷ xs) ys c =
      then_same (started running x c) (started_all running (xs ++ ys)) (λ d. then_do (started_all running xs d) (started_all running ys)) (λ d. all-append xs ys d)
      ∙ sym (then_then (started running x c) (started_all running xs) (started_all running ys))

  -- the first part has gone well
  pub all-more : (xs ys : List Hat) (c d : Crowd Thread) → started_all running xs c ≡ Goes d → started_all running (xs ++ ys) c ≡ started_all running ys d
  all-more xs ys c d e = all-append xs ys c ∙ ap (λ o. then_do o (started_all running ys)) e

  -- it stopped
  pub all-stop : (T U : Type 0) (s : Stop) (xs ys : List Hat) (c : Crowd Thread) → StopIs {T = T} (Err s) (started_all running xs c) → StopIs {T = U} (Err s) (started_all running (xs ++ ys) c)
  all-stop T U s xs ys c h =
      stop-same U U s (then_do (started_all running xs c) (started_all running ys)) (started_all running (xs ++ ys) c) (sym (all-append xs ys c))
      (stop-first T U s (started_all running xs c) (started_all running ys) h)

  -- the same for a list that is made part by part
  module _ {B : Type 0} (f : B → List Hat) where
    pub each-more : (b : B) (bs : List B) (c d : Crowd Thread) → started_all running (f b) c ≡ Goes d → started_all running (flat_map f (b ∷ bs)) c ≡ started_all running (flat_map f bs) d
    each-more b bs c d e = ap (λ xs. started_all running xs c) (flat_map-cons f b bs) ∙ all-more (f b) (flat_map f bs) c d e

    pub each-stop : (T U : Type 0) (s : Stop) (b : B) (bs : List B) (c : Crowd Thread) → StopIs {T = T} (Err s) (started_all running (f b) c) → StopIs {T = U} (Err s) (started_all running (flat_map f (b ∷ bs)) c)
    each-stop T U s b bs c h =
        stop-same U U s (started_all running (f b ++ flat_map f bs) c) (started_all running (flat_map f (b ∷ bs)) c) (ap (λ xs. started_all running xs c) (sym (flat_map-cons f b bs)))
        (all-stop T U s (f b) (flat_map f bs) c h)

-- Hats as the machine has them

pub all-one : {A : Type 0} (k : Handle A) (running : Option ℕ) (x : Pair) (c : Crowd A) → start_all k running (x ∷ []) c ≡ start_one k running x c
all-one k running x c = then_goes (start_one k running x c)

by_alive : (alive : Bool) (x : Pair) (c : Crowd Thread) → (if alive then Goes c else joined c (appended frames (new_of (hat_in x) c.next) c.threads)) ≡ ignored_or_appended alive frames x c
by_alive true x c = refl
by_alive false x c = refl

by_kind : (again : Bool) (running : Option ℕ) (x : Pair) (c : Crowd Thread)
    → (if not again && list_any (is_alive_of x.of (hat_block x.head)) c.threads.list then Goes c
    else joined c (if again then placed frames running (position (is_of x.of (hat_block x.head)) c.threads.list) (new_of (hat_in x) c.next) c.threads else appended frames (new_of (hat_in x) c.next) c.threads))
    ≡ start_by again frames running x c
by_kind true running x c = refl
by_kind false running x c = by_alive (list_any (is_alive_of x.of (hat_block x.head)) c.threads.list) x c

pub started-pair : (running : Option ℕ) (x : Pair) (c : Crowd Thread) → started running (hat_in x) c ≡ start_one frames running x c
started-pair running x c = by_kind (restarts (hat_kind (op_of x.head.hat))) running x c

-- all of them are started as the machine starts them
pub started-pairs : (running : Option ℕ) (xs : List Pair) (c : Crowd Thread) → started_all running (map hat_in xs) c ≡ start_all frames running xs c
started-pairs running [] c = refl
started-pairs running (x ∷ xs) c =
    ap (λ o. then_do o (started_all running (map hat_in xs))) (started-pair running x c)
    ∙ then_same (start_one frames running x c) (started_all running (map hat_in xs)) (start_all frames running xs) (λ d. started-pairs running xs d)

-- from the first number on
pub given-starts : (running : Option ℕ) (xs : List Pair) (hs : List Hat) (ts : Places Thread) (next : ℕ) (none : List ℕ) → map hat_in xs ≡ hs → none ≡ []
    → start_all frames running xs (record { threads = ts; next = next; serials = [] }) ≡ started_all running hs (record { threads = ts; next = next; serials = none })
given-starts running xs hs ts next none e f =
    sym (started-pairs running xs (record { threads = ts; next = next; serials = [] }))
    ∙ (λ j. started_all running (e j) (record { threads = ts; next = next; serials = sym f j }))
