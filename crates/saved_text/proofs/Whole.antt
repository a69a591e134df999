-- A saved run has no float.
use Rattle.std.proofs.Common.{◌≡◌, ℕ, ℤ, pos, negsuc, List, [], ◌∷◌, Bool, true, false, Option, Some, None, refl}
use Rattle.serde_json.specs.Data.{Data, boolean}
use Rattle.serde_json.specs.Written.{has_float}
use Rattle.scratch_number.specs.declared.number.Num.{Num}
use Rattle.scratch_number.specs.declared.number.Num.TheVariants.{Fixed, Inf, NegInf, Nan}
use Rattle.scratch_values.specs.declared.value.Value.{Value}
use Rattle.scratch_values.specs.declared.value.Value.TheVariants.{Number, Truth, Text}
use Rattle.machine_spec.specs.declared.devices.BubbleTimer.{BubbleTimer}
use Rattle.machine_spec.specs.declared.instance.Instance.{Instance}
use Rattle.machine_spec.specs.declared.threads.Context.{Context}
use Rattle.machine_spec.specs.declared.threads.Context.TheVariants.{Fresh, Repeat, Wait, Glide, Started, Asked, Spoken, Called}
use Rattle.machine_spec.specs.declared.threads.Count.{Count}
use Rattle.machine_spec.specs.declared.threads.Count.TheVariants as turns
use Rattle.machine_spec.specs.declared.variables.Made.{Made}
use Rattle.machine_spec.specs.declared.variables.Shown.{Shown}
use Rattle.machine_spec.specs.declared.variables.Shown.TheVariants.{Variable, List as Items}
use Rattle.machine_spec.specs.declared.variables.Store.{Store}
use Rattle.machine_spec.specs.Stores.{Devices}
use Rattle.machine_spec.specs.Threads.{Params}
use Rattle.thread_frames.specs.declared.level.Level.{Level}
use Rattle.thread_frames.specs.Threads.{Thread}
use Rattle.saved_spec.specs.Rows.{whole, signed, each}
use Rattle.saved_spec.specs.Values.{num, value}
use Rattle.saved_spec.specs.Instances.{edge, instance_of, instance}
use Rattle.saved_spec.specs.Monitors.{shown, made}
use Rattle.saved_spec.specs.Devices.{key, question, timer, mouse}
use Rattle.saved_spec.specs.Contexts.{count, param, context}
use Rattle.saved_spec.specs.Threads.{block, thread_of}
use Rattle.saved_text.specs.Threads.{level, thread}
use Rattle.saved_spec.specs.Saved.{Snapshot, saved}

-- it holds no float
abbrev IsWhole : Data → Type 0
IsWhole d = has_float d ≡ false

each_whole : {A : Type 0} (f : A → Data) → ((x : A) → IsWhole (f x)) → (xs : List A) → IsWhole (each f xs)
each_whole f all [] = refl
each_whole f all (x ∷ xs) = rw (all x, each_whole f all xs) refl

signed_whole : (z : ℤ) → IsWhole (signed z)
signed_whole (pos n) = refl
signed_whole (negsuc n) = refl

num_whole : (n : Num) → IsWhole (num n)
num_whole (Fixed millionths) = signed_whole millionths
num_whole Inf = refl
num_whole NegInf = refl
num_whole Nan = refl

value_whole : (v : Value) → IsWhole (value v)
value_whole (Number n) = rw num_whole refl
value_whole (Truth b) = refl
value_whole (Text t) = refl

param_whole : (p : List ℕ × Value) → IsWhole (param p)
param_whole p = rw value_whole refl

count_whole : (n : Count) → IsWhole (count n)
count_whole (turns.Whole z) = signed_whole z
count_whole turns.Infinite = refl

context_whole : (is_loop : Bool) (params : Params) (c : Context) → IsWhole (context is_loop params c)
context_whole true params Fresh = refl
context_whole false params Fresh = refl
context_whole is_loop params (Repeat n) = rw count_whole refl
context_whole is_loop params (Wait state) = rw num_whole refl
context_whole is_loop params (Glide state) = rw (num_whole state.duration, num_whole state.x0, num_whole state.y0, num_whole state.x1, num_whole state.y1) refl
context_whole is_loop params (Started serials) = rw (each_whole whole (λ n. refl) serials) refl
context_whole is_loop params Asked = refl
context_whole is_loop params Spoken = refl
context_whole is_loop params Called = rw (each_whole param param_whole params) refl

block_whole : (b : Option ℕ) → IsWhole (block b)
block_whole None = refl
block_whole (Some n) = refl

level_whole : (l : Level) → IsWhole (level l)
level_whole l = rw (block_whole l.block, context_whole) refl

thread_whole : (t : Thread) → IsWhole (thread t)
unfolding thread_of
thread_whole t = rw (each_whole level level_whole) refl

shown_whole : (s : Shown) (visible : Bool) → IsWhole (shown s visible)
shown_whole (Variable target index) visible = refl
shown_whole (Items target index) visible = refl

made_whole : (m : Made) → IsWhole (made m)
made_whole m = shown_whole m.what m.visible

timer_whole : (t : BubbleTimer) → IsWhole (timer t)
timer_whole t = rw num_whole refl

mouse_whole : (d : Devices) → IsWhole (mouse d)
mouse_whole d = rw (signed_whole d.mouse_x, signed_whole d.mouse_y) refl

instance_whole : (stores : List Store) (i : Instance) → IsWhole (instance stores i)
unfolding instance_of
instance_whole stores i =
    rw (num_whole i.direction, num_whole i.size, num_whole i.x, num_whole i.y, each_whole edge (λ e. refl), each_whole num num_whole, each_whole (each value) (each_whole value value_whole), each_whole value value_whole) refl

pub saved_whole : (s : Snapshot Thread) → IsWhole (saved thread s)
unfolding saved
saved_whole s =
    rw (each_whole (instance s.variables.stores) (instance_whole s.variables.stores) s.targets, each_whole key (λ k. refl), each_whole made made_whole, each_whole boolean (λ b. refl), mouse_whole, each_whole question (λ q. refl), each_whole thread thread_whole, each_whole timer timer_whole) refl
