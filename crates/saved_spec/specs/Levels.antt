-- What the levels of a saved thread stand for: the pending list whose levels they are, if there is one.
use Rattle.std.specs.Prelude.{ℕ, ◌==◌, List, [], ◌∷◌, ◌++◌, Bool, false, not, Option, Some, None, find, option_map, option_and_then, if◌then◌else◌}
use Rattle.std.specs.Option.{option_or, option_map_or}
use Rattle.machine_spec.specs.declared.threads.Context.TheVariants as context
use Rattle.machine_spec.specs.Legal.{scripts_on, warp_on}
use Rattle.machine_spec.specs.Pending.{Item, Do, Held, Returned, Branch, Again, Back, dos}
use Rattle.machine_spec.specs.Program.{Program}
use Rattle.machine_spec.specs.Script.{Script, End, Then, Statement, place_of}
use Rattle.project_spec.specs.Basis.{Basis, script_under}
use Rattle.saved_spec.specs.Kept.{Kept, Nothing, Loop, Repeat, Wait, Glide, Started, Asked, Spoken, Call, SavedLevel, SavedThread}
use Rattle.saved_spec.specs.RunShapes.{Told}
use Rattle.saved_spec.specs.Rules.{target_of}
use Rattle.saved_spec.specs.ThreadRules.{stands_well}

-- Chains of blocks

-- a script from a block of its chain on
abbrev pub script_from : ℕ → Script → Option Script
script_from k End = None
script_from k (Then s rest) = if (place_of s).block == k then Some (Then s rest) else script_from k rest

-- in the first chain that has the block
abbrev pub script_among : ℕ → List Script → Option Script
script_among k [] = None
script_among k (script ∷ more) = option_or (script_from k script) (script_among k more)

-- The item of a level

-- of the top level
abbrev pub top_item : Kept → Statement → Item
top_item Nothing s = Do s
top_item Loop s = Held s context.Fresh
top_item (Repeat turns) s = Held s (context.Repeat turns)
top_item (Wait state) s = Held s (context.Wait state)
top_item (Glide state) s = Held s (context.Glide state)
top_item (Started serials) s = Held s (context.Started serials)
top_item Asked s = Held s context.Asked
top_item Spoken s = Held s context.Spoken
top_item (Call params) s = Returned s params

-- of a level under another, if it keeps what such a level can keep
abbrev pub marker_of : Kept → (warp : Bool) → Statement → Option Item
marker_of Nothing warp s = Some (Branch s warp)
marker_of Loop warp s = Some (Again s context.Fresh warp)
marker_of (Repeat turns) warp s = Some (Again s (context.Repeat turns) warp)
marker_of (Call params) warp s = Some (Back s params warp)
marker_of k warp s = None

-- A level on those under it

-- the item of the first statement, then what follows the statement, then what stands under it
abbrev pub in_front : (Statement → Option Item) → List Item → Script → Option (List Item)
in_front item under End = None
in_front item under (Then s rest) = option_map (λ x. x ∷ dos rest ++ under) (item s)

-- its block is in the script under the hat, or in a branch of the block under it, or in the procedure that this calls
abbrev pub level_on : Program → Script → (Statement → Option Item) → ℕ → List Item → Option (List Item)
level_on p hat item k under = option_and_then (in_front item under) (script_among k (scripts_on p hat under))

-- a level under another has a block; the flag that its marker restores is that of its place
abbrev pub marker_on : Program → Script → Kept → Option ℕ → List Item → Option (List Item)
marker_on p hat k None under = None
marker_on p hat k (Some block) under = level_on p hat (marker_of k (warp_on p hat under)) block under

-- levels under another, the top one first
abbrev pub items_under : Program → Script → List SavedLevel → Option (List Item)
items_under p hat [] = Some []
items_under p hat (l ∷ ls) = option_and_then (marker_on p hat l.kept l.block) (items_under p hat ls)

-- nothing is left to do: this is the only level, and nothing is kept
abbrev pub nothing_left : Kept → List SavedLevel → Option (List Item)
nothing_left Nothing [] = Some []
nothing_left k ls = None

abbrev pub top_on : Program → Script → Kept → Option ℕ → List SavedLevel → Option (List Item)
top_on p hat k None ls = nothing_left k ls
top_on p hat k (Some block) ls = option_and_then (level_on p hat (λ s. Some (top_item k s)) block) (items_under p hat ls)

-- the levels of a thread, of which there is one at least
abbrev pub items_of : Program → Script → List SavedLevel → Option (List Item)
items_of p hat [] = None
items_of p hat (l ∷ ls) = top_on p hat l.kept l.block ls

-- The threads of a run

-- what a thread has still to do
abbrev pub left_of : Basis → Told → SavedThread → Option (List Item)
left_of b t x = option_and_then (λ script. items_of b.program script x.levels) (script_under (target_of t x) x.hat b)

-- its levels stand for a pending list that keeps the rules
abbrev pub thread_is_well : Basis → Told → SavedThread → Bool
thread_is_well b t x = option_map_or (stands_well b.program t.run.devices x.serial x.status) (left_of b t x) false

-- the number of the first thread, in the order of the list, that breaks a rule
unfoldable pub bad_thread : Basis → Told → Option ℕ
bad_thread b t = option_map (λ x. x.serial) (find (λ x. not (thread_is_well b t x)) t.run.threads)
