-- Worked rows of the definitions: what each says at values that are written out.
use Rattle.std.proofs.Common.{◌≡◌, ℕ, pos, negsuc, true, false, [], ◌∷◌, Some, None, Ok, Err, codes, refl}
use Rattle.std.specs.Fmt.{digits}
use Rattle.std.specs.Str.{chars}
use Rattle.opcode_table.specs.declared.kinds.Kind.TheVariants.{Endless, Counted, Waits, Starts}
use Rattle.opcode_table.specs.declared.opcode.Opcode.{Opcode}
use Rattle.opcode_table.specs.declared.opcode.Opcode.TheVariants.{ControlIf, ControlForever, MotionMoveSteps}
use Rattle.serde_json.specs.Data.{null, number, string, negative}
use Rattle.scratch_number.specs.declared.number.Num.TheVariants.{Fixed, Inf, Nan}
use Rattle.scratch_values.specs.declared.value.Value.TheVariants.{Number, Text}
use Rattle.machine_spec.specs.declared.threads.Context.TheVariants as context
use Rattle.machine_spec.specs.declared.threads.Count.TheVariants.{Whole}
use Rattle.machine_spec.specs.declared.threads.Status.TheVariants.{Running, PromiseWait}
use Rattle.machine_spec.specs.Pending.{Do, Held, Branch, Again}
use Rattle.machine_spec.specs.Program.{Program}
use Rattle.machine_spec.specs.Script.{End, Then, Statement, Does, Branches, NoBranch, AndBranch, NoInput}
use Rattle.saved_spec.specs.Rows.{row, whole as whole_data, table}
use Rattle.saved_spec.specs.Kept.{Kept, Nothing, Loop, SavedLevel}
use Rattle.saved_spec.specs.Shapes as shapes
use Rattle.saved_spec.specs.ThreadShapes as thread_shapes
use Rattle.saved_spec.specs.InstanceShapes as instance_shapes
use Rattle.saved_spec.specs.RunShapes as run_shapes
use Rattle.saved_spec.specs.Rules.{is_key_name, is_between, is_due_time, is_next}
use Rattle.saved_spec.specs.ThreadRules.{may_keep, loops_with, status_fits}
use Rattle.saved_spec.specs.Levels.{items_of}
use Rattle.saved_spec.specs.Refusals.{other_version, first_difference}

-- Shapes

-- a number of the profile has at most 9·10^18 millionths
largest_number : shapes.num (codes "x" ∷ []) (whole_data 9000000000000000000) ≡ Ok (Fixed (pos 9000000000000000000))
largest_number = refl

too_large_a_number : shapes.num (codes "x" ∷ []) (whole_data 9000000000000000001) ≡ Err (codes "x")
too_large_a_number = refl

-- a text is the value of a variable; a number is one in a list, and told at its place there
value_is_text : shapes.value [] (string (codes "a")) ≡ Ok (Text (codes "a"))
value_is_text = refl

value_is_number : shapes.value [] (row (string (codes "inf") ∷ [])) ≡ Ok (Number Inf)
value_is_number = refl

value_of_two : shapes.value (codes "1" ∷ codes "variables" ∷ []) (row (null ∷ null ∷ [])) ≡ Err (codes "variables/1")
value_of_two = refl

value_of_nothing : shapes.value (codes "1" ∷ codes "variables" ∷ []) (row (null ∷ [])) ≡ Err (codes "variables/1/0")
unfolding digits
value_of_nothing = refl

-- turns: any whole number up to 9·10^12 in size has the shape, below 0 too
turns_below_zero : thread_shapes.count [] (number (negative (negsuc 0))) ≡ Ok (Whole (negsuc 0))
turns_below_zero = refl

too_many_turns : thread_shapes.count (codes "1" ∷ []) (whole_data 9000000000001) ≡ Err (codes "1")
too_many_turns = refl

-- what a block keeps: nothing, or a word and what goes with it
kept_nothing : thread_shapes.kept [] null ≡ Ok Nothing
kept_nothing = refl

kept_loop : thread_shapes.kept [] (row (string (codes "loop") ∷ [])) ≡ Ok Loop
kept_loop = refl

unknown_word : thread_shapes.kept (codes "1" ∷ []) (row (string (codes "while") ∷ [])) ≡ Err (codes "1/0")
unknown_word = refl

no_word : thread_shapes.kept (codes "1" ∷ []) (row []) ≡ Err (codes "1")
no_word = refl

wait_without_time : thread_shapes.kept (codes "1" ∷ []) (row (string (codes "wait") ∷ whole_data 0 ∷ [])) ≡ Err (codes "1")
wait_without_time = refl

-- a member that is absent is told by its own path
no_hat : thread_shapes.thread (codes "0" ∷ codes "threads" ∷ []) (table []) ≡ Err (codes "threads/0/hat")
no_hat = refl

no_answer : run_shapes.run [] (table []) ≡ Err (codes "answer")
no_answer = refl

no_object : run_shapes.run [] (row []) ≡ Err []
no_object = refl

-- recorded edges stand by their blocks
edges_rise : instance_shapes.rises (1 ∷ 2 ∷ 5 ∷ []) ≡ true
edges_rise = refl

edges_stay : instance_shapes.rises (1 ∷ 2 ∷ 2 ∷ []) ≡ false
edges_stay = refl

-- Rules

-- a direction is from −179 to below 181
least_direction : is_between (negsuc 178999999) (pos 180999999) (Fixed (negsuc 178999999)) ≡ true
least_direction = refl

turned_about : is_between (negsuc 178999999) (pos 180999999) (Fixed (pos 181000000)) ≡ false
turned_about = refl

no_direction : is_between (negsuc 178999999) (pos 180999999) Nan ≡ false
no_direction = refl

-- a timer may never come due, but not before the first frame
never_due : is_due_time Inf ≡ true
never_due = refl

due_before : is_due_time (Fixed (negsuc 0)) ≡ false
due_before = refl

last_number : is_next 4611686018427387903 ≡ true
last_number = refl

past_last_number : is_next 4611686018427387904 ≡ false
past_last_number = refl

-- the keys of a script line, letters in upper case
space_key : is_key_name (codes "space") ≡ true
space_key = refl

upper_key : is_key_name (codes "A") ≡ true
unfolding chars lib.Utf8.encode
upper_key = refl

lower_key : is_key_name (codes "a") ≡ false
unfolding chars lib.Utf8.encode
lower_key = refl

-- What a block keeps

forever_loops : loops_with Endless context.Fresh ≡ true
forever_loops = refl

repeat_of_none : may_keep 0 Counted (context.Repeat (Whole (pos 0))) ≡ true
repeat_of_none = refl

repeat_below : may_keep 0 Counted (context.Repeat (Whole (negsuc 0))) ≡ false
repeat_below = refl

wait_of_no_time : may_keep 100 Waits (context.Wait (record { start = 100; duration = Fixed (pos 0) })) ≡ true
wait_of_no_time = refl

wait_ahead : may_keep 100 Waits (context.Wait (record { start = 101; duration = Fixed (pos 0) })) ≡ false
wait_ahead = refl

wait_of_no_number : may_keep 100 Waits (context.Wait (record { start = 0; duration = Nan })) ≡ false
wait_of_no_number = refl

waits_for_none : may_keep 0 Starts (context.Started []) ≡ false
waits_for_none = refl

-- Levels, in the script `forever { if { move } }` of the blocks 1, 2 and 3 under the hat 0

does : ℕ → Opcode → Branches → Statement
does k op branches = Does (record { target = 0; block = k }) (record { op = op; fields = []; refs = []; code = [] }) NoInput branches

move : Statement
unfolding does
move = does 3 MotionMoveSteps NoBranch

choice : Statement
unfolding move does
choice = does 2 ControlIf (AndBranch (codes "SUBSTACK") (Then move End) NoBranch)

forever : Statement
unfolding choice move does
forever = does 1 ControlForever (AndBranch (codes "SUBSTACK") (Then choice End) NoBranch)

program : Program
program = record { records = record { targets = []; monitors = [] }; scripts = [] }

at : ℕ → Kept → SavedLevel
at k kept = record { block = Some k; kept = kept }

-- in the if, in the forever: the move, then two markers
in_both : items_of program (Then forever End) (at 3 Nothing ∷ at 2 Nothing ∷ at 1 Loop ∷ []) ≡ Some (Do move ∷ Branch choice false ∷ Again forever context.Fresh false ∷ [])
unfolding program forever choice move does at
in_both = refl

-- the move is in no branch of the forever, and the hat's own number is not in its script
not_in_branch : items_of program (Then forever End) (at 3 Nothing ∷ at 1 Loop ∷ []) ≡ None
unfolding program forever choice move does at
not_in_branch = refl

at_the_hat : items_of program (Then forever End) (at 0 Nothing ∷ []) ≡ None
unfolding program forever choice move does at
at_the_hat = refl

-- nothing is left: one level without a block; a thread has a level
nothing_left : items_of program (Then forever End) (record { block = None; kept = Nothing } ∷ []) ≡ Some []
unfolding program forever choice move does
nothing_left = refl

no_level : items_of program (Then forever End) [] ≡ None
unfolding program forever choice move does
no_level = refl

-- a thread waits where it has asked, and only there
asked_and_runs : status_fits Running (Held move context.Asked ∷ []) ≡ false
unfolding move does
asked_and_runs = refl

asked_and_waits : status_fits PromiseWait (Held move context.Asked ∷ []) ≡ true
unfolding move does
asked_and_waits = refl

-- Refusals

-- another version is a whole number from 0; any other is a matter of shape
version_two : other_version (table ((codes "version", whole_data 2) ∷ [])) ≡ Some 2
version_two = refl

version_one : other_version (table ((codes "version", whole_data 1) ∷ [])) ≡ None
version_one = refl

version_below : other_version (table ((codes "version", number (negative (negsuc 1))) ∷ [])) ≡ None
version_below = refl

-- the first byte that differs, or the shorter length
differs_at_two : first_difference (codes "abc") (codes "abd") ≡ Some 2
unfolding first_difference
differs_at_two = refl

longer_by_one : first_difference (codes "abc ") (codes "abc") ≡ Some 3
unfolding first_difference
longer_by_one = refl

the_same : first_difference (codes "abc") (codes "abc") ≡ None
unfolding first_difference
the_same = refl
