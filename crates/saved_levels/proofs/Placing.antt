-- A thread with its levels, as the rules have it.
use Rattle.std.proofs.Common.{◌≡◌, ℕ, suc, ◌+◌, ◌==◌, Bool, true, false, not, ◌||◌, List, [], ◌∷◌, ◌++◌, length, reverse, map, Option, Some, None, is_some, refl, sym, ap, ap₂, ◌∙◌, subst, arith}
use Rattle.std.specs.Prelude.{option_and_then, if◌then◌else◌, ◌&&◌}
use Rattle.std.specs.List.{list_all, list_any}
use Rattle.std.specs.Option.{option_map_or}
use Rattle.std.proofs.lemmas.List.{length-reverse, reverse-append}
use Rattle.std.proofs.lemmas.List.Folds.{list_all-append}
use Rattle.machine_spec.specs.declared.threads.Status.{Status}
use Rattle.machine_spec.specs.declared.threads.Status.TheVariants.{Running, YieldTick, PromiseWait, Done}
use Rattle.machine_spec.specs.Legal.{scripts_on, waits_for_started}
use Rattle.machine_spec.specs.Pending.{Item, dos}
use Rattle.machine_spec.specs.Program.{Program}
use Rattle.machine_spec.specs.Script.{Script, End, Then, Statement}
use Rattle.machine_spec.specs.Stores.{Devices}
use Rattle.project_check.specs.declared.project.Project.{Project}
use Rattle.project_check.specs.Loaded.{program_of, sheet_at, basis_of}
use Rattle.thread_frames.specs.declared.level.Level.{Level}
use Rattle.thread_frames.specs.Levels.{new_level}
use Rattle.thread_frames.specs.Fit.{IsAtRest}
use Rattle.thread_frames.specs.Reading.{pending}
use Rattle.project_spec.specs.Basis.{script_under}
use Rattle.saved_spec.specs.Kept.{Kept, Nothing, Loop, Repeat, Wait, Glide, Started, Asked, Spoken, Call, SavedLevel, SavedThread, thread_told}
use Rattle.saved_spec.specs.Legal.{StandsIn, IsLegalThread}
use Rattle.saved_spec.specs.Levels.{script_among, in_front, level_on, items_under, nothing_left, top_item, items_of, left_of, thread_is_well}
use Rattle.saved_spec.specs.Rules.{target_of}
use Rattle.saved_spec.specs.RunShapes.{Told}
use Rattle.saved_spec.specs.ThreadRules.{is_asked, is_spoken, items_fit, status_fits, promises_fit, stands_well}
use Rattle.saved_spec.proofs.Standing.{reads}
use Rattle.saved_levels.specs.declared.floors.Site.{Site}
use Rattle.saved_levels.specs.declared.waiting_threads.Waiting.{Waiting}
use Rattle.saved_levels.specs.Making.{keeps_asked, keeps_spoken, keeps_started, keeps_nothing, status_by, stands_by}
use Rattle.saved_levels.specs.Read.{task_with, IsMade, IsRead}
use Rattle.saved_levels.specs.Standing.{fitting_first, sheet_of, program_in, hat_of, whole_of, Wholes, is_well, IsPlaced, Places}
use Rattle.saved_levels.specs.Waits.{has_asked, has_spoken, TellsOf}
use Rattle.saved_levels.proofs.Together.{same_some, and_false, first_fitted, whole_is, reverse-push}

-- The first item shows what the top level keeps

record Sees (k : Kept) (items : List Item) : Type 0 where
  asked : is_asked items ≡ keeps_asked k
  spoken : is_spoken items ≡ keeps_spoken k
  started : waits_for_started items ≡ keeps_started k

sees_top : (k : Kept) (s : Statement) (r : List Item) → Sees k (top_item k s ∷ r)
sees_top Nothing s r = record { asked = refl; spoken = refl; started = refl }
sees_top Loop s r = record { asked = refl; spoken = refl; started = refl }
sees_top (Repeat n) s r = record { asked = refl; spoken = refl; started = refl }
sees_top (Wait c) s r = record { asked = refl; spoken = refl; started = refl }
sees_top (Glide c) s r = record { asked = refl; spoken = refl; started = refl }
sees_top (Started ns) s r = record { asked = refl; spoken = refl; started = refl }
sees_top Asked s r = record { asked = refl; spoken = refl; started = refl }
sees_top Spoken s r = record { asked = refl; spoken = refl; started = refl }
sees_top (Call ps) s r = record { asked = refl; spoken = refl; started = refl }

sees_script : (k : Kept) (under items : List Item) (o : Option Script) → option_and_then (in_front (λ s. Some (top_item k s)) under) o ≡ Some items → Sees k items
sees_script k under items None h = absurd (cc h)
sees_script k under items (Some End) h = absurd (cc h)
sees_script k under items (Some (Then s rest)) h = subst (Sees k) (same_some (top_item k s ∷ dos rest ++ under) items h) (sees_top k s (dos rest ++ under))

sees_under : (p : Program) (hat : Script) (k : Kept) (wanted : ℕ) (items : List Item) (o : Option (List Item)) → option_and_then (level_on p hat (λ s. Some (top_item k s)) wanted) o ≡ Some items → Sees k items
sees_under p hat k wanted items None h = absurd (cc h)
sees_under p hat k wanted items (Some under) h = sees_script k under items (script_among wanted (scripts_on p hat under)) h

sees_nothing : (k : Kept) (us : List SavedLevel) (items : List Item) → nothing_left k us ≡ Some items → Sees k items
sees_nothing Nothing [] items h = subst (Sees Nothing) (same_some [] items h) (record { asked = refl; spoken = refl; started = refl })
sees_nothing Nothing (l ∷ us) items h = absurd (cc h)
sees_nothing Loop us items h = absurd (cc h)
sees_nothing (Repeat n) us items h = absurd (cc h)
sees_nothing (Wait c) us items h = absurd (cc h)
sees_nothing (Glide c) us items h = absurd (cc h)
sees_nothing (Started ns) us items h = absurd (cc h)
sees_nothing Asked us items h = absurd (cc h)
sees_nothing Spoken us items h = absurd (cc h)
sees_nothing (Call ps) us items h = absurd (cc h)

sees : (p : Program) (hat : Script) (block : Option ℕ) (k : Kept) (us : List SavedLevel) (items : List Item) → items_of p hat (record { block = block; kept = k } ∷ us) ≡ Some items → Sees k items
sees p hat None k us items h = sees_nothing k us items h
sees p hat (Some wanted) k us items h = sees_under p hat k wanted items (items_under p hat us) h

-- The rules on a thread

status_is : (status : Status) (k : Kept) (items : List Item) → Sees k items → status_fits status items ≡ status_by status k
status_is Running k items s = ap₂ (λ (a b : Bool). not (a || b)) s.asked s.spoken
status_is YieldTick k items s = s.started
status_is PromiseWait k items s = ap₂ (λ (a b : Bool). a || b) s.asked s.spoken
status_is Done k items s = refl

either_way : (a b c d : Bool) → a ≡ b → c ≡ d → (not a || c) ≡ (not b || d)
either_way a b c d e f = ap₂ (λ (x y : Bool). not x || y) e f

and_assoc : (a b c : Bool) → (a && b && c) ≡ (a && (b && c))
and_assoc true b c = refl
and_assoc false b c = refl

some_if : {A : Type 0} (a : A) (c : Bool) → is_some (if c then Some a else None) ≡ c
some_if a true = refl
some_if a false = refl

module _ (p : Program) (w : Waiting) (d : Devices) (tells : TellsOf w d) (serial : ℕ) (status : Status) (k : Kept) where
  promises_are : (items : List Item) → Sees k items → promises_fit d serial items ≡ ((not (has_asked w serial) || keeps_asked k) && (not (has_spoken w serial) || keeps_spoken k))
  promises_are items s =
      ap₂ (λ (a b : Bool). a && b)
      (either_way (list_any (λ q. q.thread == serial) d.questions) (has_asked w serial) (is_asked items) (keeps_asked k) (sym (tells.asked_is serial)) s.asked)
      (either_way (list_any (λ t. t.thread == serial) d.timers) (has_spoken w serial) (is_spoken items) (keeps_spoken k) (sym (tells.spoken_is serial)) s.spoken)

  stands_are : (items : List Item) → Sees k items → stands_well p d serial status items ≡ (items_fit p w.clock items && stands_by w serial status k)
  stands_are items s =
      and_assoc (items_fit p d.clock items) (status_fits status items) (promises_fit d serial items)
      ∙ ap₂ (λ (a b : Bool). a && b) (ap (λ c. items_fit p c items) (sym tells.clock_is)) (ap₂ (λ (a b : Bool). a && b) (status_is status k items s) (promises_are items s))

  well_is : (o : Option (List Item)) → ((items : List Item) → o ≡ Some items → Sees k items)
      → option_map_or (stands_well p d serial status) o false ≡ (is_some (option_and_then (fitting_first p w.clock) o) && stands_by w serial status k)
  well_is None s = refl
  well_is (Some items) s = stands_are items (s items refl) ∙ ap (λ c. c && stands_by w serial status k) (sym (some_if items (items_fit p w.clock items)))

module _ (x : Site) (w : Waiting) (serial : ℕ) (status : Status) (k : Kept) where
  abbrev items_with : Option ℕ → List SavedLevel → Option (List Item)
  items_with block us = items_of (program_in x) (hat_of x) (record { block = block; kept = k } ∷ us)

  -- whether it keeps the rules
  thread_is : (block : Option ℕ) (us : List SavedLevel) (d : Devices) → TellsOf w d
      → is_well x d serial status (record { block = block; kept = k } ∷ us) ≡ (is_some (option_and_then (fitting_first (program_in x) w.clock) (items_with block us)) && stands_by w serial status k)
  thread_is block us d tells = well_is (program_in x) w d tells serial status k (items_with block us) (sees (program_in x) (hat_of x) block k us)

  pub placed_off : (block : Option ℕ) (us : List SavedLevel) → stands_by w serial status k ≡ false → Places x w serial status (record { block = block; kept = k } ∷ us) None
  placed_off block us off d tells = thread_is block us d tells ∙ and_false _ _ off

  pub placed_nowhere : (block : Option ℕ) (us : List SavedLevel) → option_and_then (fitting_first (program_in x) w.clock) (items_with block us) ≡ None → Places x w serial status (record { block = block; kept = k } ∷ us) None
  placed_nowhere block us none d tells = thread_is block us d tells ∙ ap (λ o. is_some o && stands_by w serial status k) none

  placed_here : (block : Option ℕ) (us : List SavedLevel) (items : List Item) → stands_by w serial status k ≡ true → option_and_then (fitting_first (program_in x) w.clock) (items_with block us) ≡ Some items
      → (d : Devices) → TellsOf w d → is_well x d serial status (record { block = block; kept = k } ∷ us) ≡ true
  placed_here block us items on some d tells = thread_is block us d tells ∙ ap (λ o. is_some o && stands_by w serial status k) some ∙ on

  pub placed_block : (wanted : ℕ) (ls : List SavedLevel) (o : Option (List Level)) → stands_by w serial status k ≡ true → Wholes x (length ls + 1) (whole_of x w.clock k wanted ls) o
      → Places x w serial status (record { block = Some wanted; kept = k } ∷ reverse ls) o
  placed_block wanted ls None on h = placed_nowhere (Some wanted) (reverse ls) (sym (whole_is (program_in x) (hat_of x) w.clock k wanted ls) ∙ h)
  placed_block wanted ls (Some levels) on h =
      let some = sym (whole_is (program_in x) (hat_of x) w.clock k wanted ls) ∙ h.items_are in record {
        whole = record {
          items_are = first_fitted (program_in x) w.clock (items_with (Some wanted) (reverse ls)) _ some;
          rest = h.rest;
          as_many = omega (arith, h.as_many, length-reverse ls);
          warp_is = h.warp_is;
        };
        well = placed_here (Some wanted) (reverse ls) _ on some;
      }

pub placed_empty : (x : Site) (w : Waiting) (serial : ℕ) (status : Status) → Places x w serial status [] None
placed_empty x w serial status d tells = refl

some_more : (n : ℕ) → (suc n == 0) ≡ false
some_more n = grind arith

module _ (x : Site) (w : Waiting) (serial : ℕ) (status : Status) where
  alone : stands_by w serial status Nothing ≡ true → IsPlaced x w serial status (record { block = None; kept = Nothing } ∷ []) (new_level None false ∷ [])
  alone on = record {
    whole = record {
      items_are = refl;
      rest = record { fit = (record { held = tt; fits = refl; params = refl }, tt); there = omega arith; single = λ none. refl };
      as_many = refl;
      warp_is = refl;
    };
    well = placed_here x w serial status Nothing None [] [] on refl;
  }

  only : (k : Kept) (us : List SavedLevel) → stands_by w serial status k ≡ true
      → Places x w serial status (record { block = None; kept = k } ∷ us) (if keeps_nothing k && length us == 0 then Some (new_level None false ∷ []) else None)
  only Nothing [] on = alone on
  only Nothing (l ∷ us) on =
      subst (λ c. Places x w serial status (record { block = None; kept = Nothing } ∷ l ∷ us) (if c then Some (new_level None false ∷ []) else None)) (sym (some_more (length us)))
      (placed_nowhere x w serial status Nothing None (l ∷ us) refl)
  only Loop us on = placed_nowhere x w serial status Loop None us refl
  only (Repeat n) us on = placed_nowhere x w serial status (Repeat n) None us refl
  only (Wait c) us on = placed_nowhere x w serial status (Wait c) None us refl
  only (Glide c) us on = placed_nowhere x w serial status (Glide c) None us refl
  only (Started ns) us on = placed_nowhere x w serial status (Started ns) None us refl
  only Asked us on = placed_nowhere x w serial status Asked None us refl
  only Spoken us on = placed_nowhere x w serial status Spoken None us refl
  only (Call ps) us on = placed_nowhere x w serial status (Call ps) None us refl

  pub placed_nothing : (k : Kept) (us : List SavedLevel) (c : Bool) (o : Option (List Level)) → stands_by w serial status k ≡ true → c ≡ (length us == 0)
      → o ≡ (if keeps_nothing k && c then Some (new_level None false ∷ []) else None) → Places x w serial status (record { block = None; kept = k } ∷ us) o
  placed_nothing k us c o on at e = subst (Places x w serial status (record { block = None; kept = k } ∷ us)) (sym (e ∙ ap (λ b. if keeps_nothing k && b then Some (new_level None false ∷ []) else None) at)) (only k us on)

-- The levels as they are told, from the bottom

map-push : {A B : Type 0} (f : A → B) (xs : List A) (x : A) → map f (xs ++ x ∷ []) ≡ map f xs ++ f x ∷ []
map-push f [] x = refl
map-push f (y ∷ ys) x = ap (λ zs. f y ∷ zs) (map-push f ys x)

pub told_turned : {A B : Type 0} (f : A → B) (items rest : List A) (x : A) → items ≡ rest ++ x ∷ [] → reverse (map f items) ≡ f x ∷ reverse (map f rest)
told_turned f items rest x e = ap (λ ys. reverse (map f ys)) e ∙ ap reverse (map-push f rest x) ∙ reverse-push (map f rest) (f x)

and_turned : (a b : Bool) → (a && (b && true)) ≡ (b && a)
and_turned true true = refl
and_turned true false = refl
and_turned false true = refl
and_turned false false = refl

all-reverse : {A : Type 0} (test : A → Bool) (xs : List A) → list_all test (reverse xs) ≡ list_all test xs
all-reverse test [] = refl
all-reverse test (x ∷ xs) =
    ap (list_all test) (reverse-append (x ∷ []) xs) ∙ list_all-append test (reverse xs) (x ∷ [])
    ∙ ap (λ a. a && (test x && true)) (all-reverse test xs) ∙ and_turned (list_all test xs) (test x)

pub short_told : {A B : Type 0} (test : B → Bool) (f : A → B) (told items : List A) → items ≡ told → list_all test (reverse (map f told)) ≡ true → list_all test (map f items) ≡ true
short_told test f told items e h = ap (λ xs. list_all test (map f xs)) e ∙ sym (all-reverse test (map f told)) ∙ h

-- The thread of a saved run

module _ (x : Site) (w : Waiting) (t : Told) (s : SavedThread) (tells : TellsOf w t.run.devices) (target : target_of t s ≡ x.target) where
  module _ (under : script_under (target_of t s) s.hat (basis_of x.project.now) ≡ Some (hat_of x)) where
    left_is : left_of (basis_of x.project.now) t s ≡ items_of (program_in x) (hat_of x) s.levels
    left_is = ap (option_and_then (λ script. items_of (program_in x) script s.levels)) under

    well_here : thread_is_well (basis_of x.project.now) t s ≡ is_well x t.run.devices s.serial s.status s.levels
    well_here = ap (λ o. option_map_or (stands_well (program_in x) t.run.devices s.serial s.status) o false) left_is

    stands_here : (levels : List Level) → IsPlaced x w s.serial s.status s.levels levels → stands_well (program_in x) t.run.devices s.serial s.status (pending (sheet_of x) levels) ≡ true
    stands_here levels h = sym (ap (λ o. option_map_or (stands_well (program_in x) t.run.devices s.serial s.status) o false) h.whole.items_are) ∙ h.well t.run.devices tells

    made : (levels : List Level) → IsPlaced x w s.serial s.status s.levels levels → IsMade x.project.now t s levels
    made levels h =
        let r = reads (program_in x) (hat_of x) s.levels (pending (sheet_of x) levels) h.whole.items_are in record {
          well = well_here ∙ h.well t.run.devices tells;
          left = left_is ∙ h.whole.items_are ∙ ap (λ n. Some (pending (sheet_at n x.project.now) levels)) (sym target);
          rest = subst (λ n. IsAtRest (sheet_at n x.project.now) levels) (sym target) h.whole.rest;
          count = h.whole.as_many;
          told = subst (λ n. thread_told (task_with x.project.now n s levels) ≡ s) (sym target)
              (ap (λ ls. record { serial = s.serial; of = s.of; hat = s.hat; status = s.status; levels = ls }) r.levels);
          legal = subst (λ n. IsLegalThread (basis_of x.project.now) t.run.targets t.run.devices (task_with x.project.now n s levels)) (sym target)
              (record {
                hat = hat_of x;
                under = under;
                stands = subst (StandsIn (program_in x) (hat_of x) (pending (sheet_of x) levels)) (sym h.whole.warp_is) r.stands_in;
                well = stands_here levels h;
              });
        }

  pub read : (o : Option (List Level)) → script_under (target_of t s) s.hat (basis_of x.project.now) ≡ Some (hat_of x) → Places x w s.serial s.status s.levels o → IsRead x.project.now t s o
  read None under h = well_here under ∙ h t.run.devices tells
  read (Some levels) under h = made under levels h

-- a thread whose hat is none of its target's
pub no_hat : (p : Project) (t : Told) (s : SavedThread) → script_under (target_of t s) s.hat (basis_of p) ≡ None → IsRead p t s None
no_hat p t s none = ap (λ o. option_map_or (stands_well (program_of p) t.run.devices s.serial s.status) (option_and_then (λ script. items_of (program_of p) script s.levels) o) false) none
