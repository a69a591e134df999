-- The item of a level that is made of what its block keeps.
use Rattle.std.proofs.Common.{◌≡◌, ℕ, Bool, true, false, List, [], ◌∷◌, ◌++◌, Some, None, refl, ap, ◌∙◌, unwrap_or}
use Rattle.std.specs.Prelude.{◌&&◌, option_map, option_and_then, if◌then◌else◌}
use Rattle.std.specs.List.{list_all}
use Rattle.opcode_table.specs.Kinds.{kind}
use Rattle.machine_spec.specs.declared.threads.Context.TheVariants as context
use Rattle.machine_spec.specs.Called.{called}
use Rattle.machine_spec.specs.Legal.{warp_on}
use Rattle.machine_spec.specs.Pending.{Item, Branch, Again, Back, dos}
use Rattle.machine_spec.specs.Program.{Program}
use Rattle.machine_spec.specs.Script.{Script, End, Then, Statement, op_of}
use Rattle.machine_spec.specs.Threads.{Params}
use Rattle.thread_frames.specs.Reading.{first_by, marker_by}
use Rattle.saved_spec.specs.Kept.{Kept, Nothing, Loop, Repeat, Wait, Glide, Started, Asked, Spoken, Call}
use Rattle.saved_spec.specs.Levels.{top_item, marker_of}
use Rattle.saved_spec.specs.ThreadRules.{first_fits, marker_fits}
use Rattle.saved_levels.specs.Making.{loop_in, context_in, params_in, keeps_under, keeps_first}
use Rattle.saved_levels.specs.Standing.{fitting}

-- the parameters of a level that keeps this
abbrev pub params_of : Kept → Params
params_of k = unwrap_or (params_in k) []

abbrev pub mark_of : Kept → Bool → Statement → Item
mark_of k w s = marker_by (loop_in k) (context_in k) (params_of k) w s

abbrev pub first_of : Kept → Statement → Item
first_of k s = first_by (loop_in k) (context_in k) (params_of k) s

-- A marker in front

fit_tail : (p : Program) (m : Item) (tail : List Item) (c : Bool) → list_all (marker_fits p) tail ≡ true → (if c && list_all (marker_fits p) tail then Some (m ∷ tail) else None) ≡ (if c then Some (m ∷ tail) else None)
fit_tail p m tail true all = ap (λ b. if b then Some (m ∷ tail) else None) all
fit_tail p m tail false all = refl

fit_if : (p : Program) (m : Item) (tail : List Item) (c : Bool) → marker_fits p m ≡ c → list_all (marker_fits p) tail ≡ true → fitting p (m ∷ tail) ≡ (if c then Some (m ∷ tail) else None)
fit_if p m tail c e all = ap (λ b. if b && list_all (marker_fits p) tail then Some (m ∷ tail) else None) e ∙ fit_tail p m tail c all

none_if : (t : List Item) (c : Bool) → false ≡ c → None ≡ (if c then Some t else None)
none_if t c e = ap (λ b. if b then Some t else None) e

-- it is that of the level, where the block can keep this, and else it does not fit
pub marks : (p : Program) (s : Statement) (tail : List Item) (w : Bool) (k : Kept) (c : Bool) → keeps_under (kind (op_of s)) (called p s) k ≡ c → list_all (marker_fits p) tail ≡ true
    → option_and_then (fitting p) (option_map (λ m. m ∷ tail) (marker_of k w s)) ≡ (if c then Some (mark_of k w s ∷ tail) else None)
marks p s tail w Nothing c e all = fit_if p (Branch s w) tail c e all
marks p s tail w Loop c e all = fit_if p (Again s context.Fresh w) tail c e all
marks p s tail w (Repeat n) c e all = fit_if p (Again s (context.Repeat n) w) tail c e all
marks p s tail w (Call ps) c e all = fit_if p (Back s ps w) tail c e all
marks p s tail w (Wait v) c e all = none_if (mark_of (Wait v) w s ∷ tail) c e
marks p s tail w (Glide v) c e all = none_if (mark_of (Glide v) w s ∷ tail) c e
marks p s tail w (Started ns) c e all = none_if (mark_of (Started ns) w s ∷ tail) c e
marks p s tail w Asked c e all = none_if (mark_of Asked w s ∷ tail) c e
marks p s tail w Spoken c e all = none_if (mark_of Spoken w s ∷ tail) c e

-- A first item

pub first_is : (k : Kept) (s : Statement) → first_of k s ≡ top_item k s
first_is Nothing s = refl
first_is Loop s = refl
first_is (Repeat n) s = refl
first_is (Wait c) s = refl
first_is (Glide c) s = refl
first_is (Started ns) s = refl
first_is Asked s = refl
first_is Spoken s = refl
first_is (Call ps) s = refl

pub first_fits_is : (p : Program) (clock : ℕ) (k : Kept) (s : Statement) → first_fits p clock (top_item k s) ≡ keeps_first clock (kind (op_of s)) (called p s) k
first_fits_is p clock Nothing s = refl
first_fits_is p clock Loop s = refl
first_fits_is p clock (Repeat n) s = refl
first_fits_is p clock (Wait c) s = refl
first_fits_is p clock (Glide c) s = refl
first_fits_is p clock (Started ns) s = refl
first_fits_is p clock Asked s = refl
first_fits_is p clock Spoken s = refl
first_fits_is p clock (Call ps) s = refl

pub warp-first : (p : Program) (hat : Script) (k : Kept) (s : Statement) (r : List Item) → warp_on p hat (top_item k s ∷ r) ≡ warp_on p hat r
warp-first p hat Nothing s r = refl
warp-first p hat Loop s r = refl
warp-first p hat (Repeat n) s r = refl
warp-first p hat (Wait c) s r = refl
warp-first p hat (Glide c) s r = refl
warp-first p hat (Started ns) s r = refl
warp-first p hat Asked s r = refl
warp-first p hat Spoken s r = refl
warp-first p hat (Call ps) s r = refl

-- What follows a statement in its level

pub warp-dos : (p : Program) (hat : Script) (rest : Script) (under : List Item) → warp_on p hat (dos rest ++ under) ≡ warp_on p hat under
warp-dos p hat End under = refl
warp-dos p hat (Then s rest) under = warp-dos p hat rest under

pub all-dos : (p : Program) (rest : Script) (under : List Item) → list_all (marker_fits p) (dos rest ++ under) ≡ list_all (marker_fits p) under
all-dos p End under = refl
all-dos p (Then s rest) under = all-dos p rest under
