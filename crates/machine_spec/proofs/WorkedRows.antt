-- Worked rows, computed by the definitions.
use Rattle.std.specs.Prelude.{◌≡◌, ℕ, zero, suc, [], ◌∷◌, map, true, false, pos, negsuc, Some, codes, refl}
use Rattle.std.specs.Fmt.{digits}
use Rattle.std.specs.Str.{is_utf8, chars}
use lib.Utf8.{encode}
use Rattle.scratch_number.specs.declared.number.Num.TheVariants.{Fixed, Inf}
use Rattle.scratch_values.specs.declared.value.Value.TheVariants.{Text, Number}
use Rattle.opcode_table.specs.declared.opcode.Opcode.TheVariants.{ControlIf}
use Rattle.machine_spec.specs.declared.devices.Key.TheVariants.{Space, One}
use Rattle.machine_spec.specs.declared.lines.Line.TheVariants as line
use Rattle.machine_spec.specs.declared.lines.LineRefusal.TheVariants as refusal
use Rattle.machine_spec.specs.Outcome.{Goes}
use Rattle.machine_spec.specs.Script.{Statement, Does, NoInput, NoBranch}
use Rattle.machine_spec.specs.Program.{no_target}
use Rattle.machine_spec.specs.Numbers.{whole, direction_after}
use Rattle.machine_spec.specs.Texts.{uncut_bubble_text, contents_text}
use Rattle.machine_spec.specs.Sensing.{key_of}
use Rattle.machine_spec.specs.Costume.{To, choice, costume_index}
use Rattle.machine_spec.specs.Threads.{Repeat, Whole}
use Rattle.machine_spec.specs.Pending.{Go, Ended, Do, Held, Again, Branch, Back, settle, unwind, going, Returned}
use Rattle.machine_spec.specs.Step.{Moment}
use Rattle.machine_spec.specs.Slice.{Executing, slice_by}
use Rattle.machine_spec.specs.First.{in_order}
use Rattle.machine_spec.specs.ScriptText.{Good, Refused, lines_of, reading_of}

-- directions: 370 degrees are 10, −180 are 180, and an infinite one changes nothing

row-direction_over : direction_after (Fixed (pos 370000000)) (Fixed (pos 0)) ≡ Fixed (pos 10000000)
row-direction_over = refl

row-direction_under : direction_after (Fixed (negsuc 179999999)) (Fixed (pos 0)) ≡ Fixed (pos 180000000)
row-direction_under = refl

row-direction_infinite : direction_after Inf (Fixed (pos 90000000)) ≡ Fixed (pos 90000000)
row-direction_infinite = refl

-- a bubble shows two decimals, and a list whose items are one character long is joined with nothing

row-bubble : uncut_bubble_text (Number (Fixed (pos 3141590))) ≡ codes "3.14"
unfolding digits
row-bubble = refl

row-letters : contents_text (Text (codes "a") ∷ Text (codes "b") ∷ []) ≡ codes "ab"
unfolding chars
row-letters = refl

row-words : contents_text (Text (codes "a") ∷ Text (codes "bc") ∷ []) ≡ codes "a bc"
unfolding chars
row-words = refl

-- keys

row-key_space : key_of (codes "space") ≡ Some Space
row-key_space = refl

row-key_letter : key_of (codes "a") ≡ Some (One 65)
unfolding chars
row-key_letter = refl

-- a costume's name counts before its number; an index is wrapped

row-costume_name : choice false (codes "a" ∷ codes "1" ∷ []) 0 (Text (codes "1")) ≡ To (whole (pos 1))
row-costume_name = refl

row-costume_number : choice false (codes "a" ∷ codes "1" ∷ []) 0 (Number (Fixed (pos 1000000))) ≡ To (whole (pos 0))
row-costume_number = refl

row-costume_wrapped : costume_index 3 (whole (negsuc 0)) ≡ 2
row-costume_wrapped = refl

-- pending lists: a choice's marker is dropped, a loop is executed again, a call is executed once more

a-statement : ℕ → Statement
a-statement n = Does (record { target = 1; block = n }) (record { op = ControlIf; fields = []; refs = []; code = [] }) NoInput NoBranch

row-settle_choice : settle (Branch (a-statement 0) true ∷ Do (a-statement 1) ∷ []) false ≡ going (Do (a-statement 1) ∷ []) true
row-settle_choice = refl

row-settle_loop : (settle (Again (a-statement 0) (Repeat (Whole (pos 2))) true ∷ []) false).items ≡ Held (a-statement 0) (Repeat (Whole (pos 2))) ∷ []
row-settle_loop = refl

row-unwind : (unwind (Do (a-statement 1) ∷ Back (a-statement 0) [] false ∷ Do (a-statement 2) ∷ [])).items ≡ Returned (a-statement 0) [] ∷ Do (a-statement 2) ∷ []
row-unwind = refl

-- a slice of a world that counts down: it ends at 0, or at its most executions

count-down : Executing ℕ
count-down = record { execute = λ late n. Goes (down n); flag = λ n. false }
  where
    down : ℕ → Moment ℕ
    down zero = record { world = 0; report = Ended }
    down (suc n) = record { world = n; report = Go }

row-slice_ends : slice_by count-down 0 10 0 3 ≡ Goes 0
unfolding slice_by count-down
row-slice_ends = refl

row-slice_is_cut : slice_by count-down 0 2 0 5 ≡ Goes 3
unfolding slice_by count-down
row-slice_is_cut = refl

-- the executable order of Ann with layer 3, the stage, Ben with 1, Cy with 3 and Dot with −2

row-order : map (λ x. x.0) (in_order ((0, record no_target { layer_order = whole (pos 3) }) ∷ (1, record no_target { is_stage = true }) ∷ (2, record no_target { layer_order = whole (pos 1) }) ∷ (3, record no_target { layer_order = whole (pos 3) }) ∷ (4, record no_target { layer_order = whole (negsuc 1) }) ∷ [])) ≡ 1 ∷ 4 ∷ 2 ∷ 0 ∷ 3 ∷ []
row-order = refl

-- lines of a script

row-lines : lines_of (codes "flag\n\nstop") ≡ codes "flag" ∷ [] ∷ codes "stop" ∷ []
row-lines = refl

row-flag : reading_of 1 0 (codes "flag") ≡ Good line.Flag
unfolding is_utf8 chars encode
row-flag = refl

row-frame : reading_of 1 0 (codes "frame 33 30 1000") ≡ Good (line.Frame (record { clock = 33; passes = 30; warp = 1000 }))
unfolding is_utf8 chars encode
row-frame = refl

row-clock_back : reading_of 7 40 (codes "frame 33 30 1000") ≡ Refused (refusal.ClockBack 7 40 33)
unfolding is_utf8 chars encode
row-clock_back = refl

row-number_before_range : reading_of 2 0 (codes "mouse 300 x") ≡ Refused (refusal.BadNumber 2)
unfolding is_utf8 chars encode
row-number_before_range = refl

row-range : reading_of 2 0 (codes "mouse 241 0") ≡ Refused (refusal.OutOfRange 2)
unfolding is_utf8 chars encode
row-range = refl

row-unknown : reading_of 3 0 (codes "flag ") ≡ Refused (refusal.UnknownLine 3)
unfolding is_utf8 chars encode
row-unknown = refl
