-- The value of a run that can be told is one whose text is read back.
use Rattle.std.proofs.Common.{[], ◌∷◌, ◌≡◌, ℕ, suc, ℤ, pos, negsuc, List, map, reverse, Bool, true, Option, Some, None, IsUtf8, codes, refl, subst, sym, arith, nat_lt, length, ◌==◌}
use Rattle.std.proofs.lemmas.Str.{IsUtf8-encode}
use Rattle.std.proofs.lemmas.Bool.{and_parts}
use Rattle.std.proofs.lemmas.Bool.Decides.{nat_tests}
use Rattle.std.specs.List.{All, list_all}
use Rattle.json.proofs.Printed.Utf8.{are_ascii, IsUtf8-are_ascii}
use Rattle.serde_json.specs.Data as json
use Rattle.serde_json.specs.Data.{boolean, string, array, item}
use Rattle.scratch_number.specs.Number.{IsWithin}
use Rattle.scratch_number.specs.declared.number.Num.{Num}
use Rattle.scratch_number.specs.declared.number.Num.TheVariants.{Fixed, Inf, NegInf, Nan}
use Rattle.scratch_values.specs.declared.value.Value.{Value}
use Rattle.scratch_values.specs.declared.value.Value.TheVariants.{Number, Truth, Text}
use Rattle.machine_spec.specs.declared.bubble.Say.{Say}
use Rattle.machine_spec.specs.declared.bubble.Say.TheVariants as kind
use Rattle.machine_spec.specs.declared.bubble.Bubble.{Bubble}
use Rattle.machine_spec.specs.declared.devices.BubbleTimer.{BubbleTimer}
use Rattle.machine_spec.specs.declared.devices.Key.{Key}
use Rattle.machine_spec.specs.declared.devices.Key.TheVariants.{Space, Enter, Left, Right, Up, Down, One}
use Rattle.machine_spec.specs.declared.devices.Question.{Question}
use Rattle.machine_spec.specs.declared.instance.Instance.{Instance}
use Rattle.machine_spec.specs.declared.instance.Style.{Style}
use Rattle.machine_spec.specs.declared.instance.Style.TheVariants.{AllAround, LeftRight, DontRotate}
use Rattle.machine_spec.specs.declared.threads.Count.{Count}
use Rattle.machine_spec.specs.declared.threads.Count.TheVariants.{Whole, Infinite}
use Rattle.machine_spec.specs.declared.threads.Status.{Status}
use Rattle.machine_spec.specs.declared.threads.Status.TheVariants.{Running, YieldTick, PromiseWait, Done}
use Rattle.machine_spec.specs.declared.variables.Shown.{Shown}
use Rattle.machine_spec.specs.declared.variables.Shown.TheVariants.{Variable, List as Items}
use Rattle.machine_spec.specs.declared.variables.Store.{Store}
use Rattle.machine_spec.specs.Line.{key_name}
use Rattle.machine_spec.specs.Stores.{Devices, store_at}
use Rattle.machine_spec.specs.Tasks.{Task}
use Rattle.saved_spec.specs.Contexts as contexts
use Rattle.saved_spec.specs.Devices as devices
use Rattle.saved_spec.specs.Instances as instances
use Rattle.saved_spec.specs.Monitors as monitors
use Rattle.saved_spec.specs.Ranges.{IsWhole, IsSigned, IsValue, IsBubble, HasInstance, IsStanding, IsShown, IsKey, IsQuestion, IsTimer, AreDevices, IsBlock, IsParam, IsRun, IsTask}
use Rattle.saved_spec.specs.Rows as rows
use Rattle.saved_spec.specs.Saved.{Snapshot, saved, next}
use Rattle.saved_spec.specs.Threads.{block, thread_of, status_name}
use Rattle.saved_spec.specs.Values as values
use Rattle.saved_spec.specs.Kept as kept
use Rattle.saved_spec.specs.Legal.{told}
use Rattle.saved_spec.specs.RunShapes.{is_digit, is_digest}
use Rattle.laws_of_reading.specs.Told.{CanBeTold}
use Rattle.laws_of_reading.proofs.Fitting.{Fits, ItemsFit, fits_null, fits_truth, fits_text, fits_whole, fits_row, fits_each, fits_table}
use Rattle.laws_of_reading.proofs.Instances.{effects_are}
use Rattle.laws_of_reading.proofs.Threads.{IsFew, IsKept, IsSavedLevel, IsSavedThread, all_reverse, all_told}

-- Values

signed_fits : (n : ℕ) (z : ℤ) → IsSigned z → Fits n (rows.signed z)
signed_fits n (pos k) h = record { plain = omega arith; utf8 = tt; deep = omega arith }
signed_fits n (negsuc k) h = record { plain = h; utf8 = tt; deep = omega arith }

num_fits : (n : ℕ) (x : Num) → IsWithin x → Fits n (values.num x)
num_fits n (Fixed (pos k)) h = record { plain = omega arith; utf8 = tt; deep = omega arith }
num_fits n (Fixed (negsuc k)) h = record { plain = omega arith; utf8 = tt; deep = omega arith }
num_fits n Inf h = fits_text n (codes "inf") (IsUtf8-are_ascii (codes "inf") refl)
num_fits n NegInf h = fits_text n (codes "-inf") (IsUtf8-are_ascii (codes "-inf") refl)
num_fits n Nan h = fits_text n (codes "nan") (IsUtf8-are_ascii (codes "nan") refl)

value_fits : (n : ℕ) (v : Value) → IsValue v → Fits (suc n) (values.value v)
value_fits n (Number x) h = fits_row n (num_fits n x h, tt)
value_fits n (Truth b) h = fits_truth (suc n) b
value_fits n (Text t) h = fits_text (suc n) t h.0

-- Instances

say_fits : (n : ℕ) (k : Say) → Fits n (string (instances.say_name k))
say_fits n kind.Say = fits_text n (codes "say") (IsUtf8-are_ascii (codes "say") refl)
say_fits n kind.Think = fits_text n (codes "think") (IsUtf8-are_ascii (codes "think") refl)

bubble_fits : (n : ℕ) (b : Bubble) → IsBubble b → Fits (suc n) (instances.bubble b)
bubble_fits n b h = fits_row n (say_fits n b.kind, (fits_text n b.text h.utf8, (fits_whole n b.usage h.usage, tt)))

edge_fits : (n : ℕ) (e : ℕ × Bool) → IsWhole e.0 → Fits (suc n) (instances.edge e)
edge_fits n e h = fits_row n (fits_whole n e.0 h, (fits_truth n e.1, tt))

style_fits : (n : ℕ) (s : Style) → Fits n (rows.whole (instances.style_number s))
style_fits n AllAround = fits_whole n 0 (omega arith)
style_fits n LeftRight = fits_whole n 1 (omega arith)
style_fits n DontRotate = fits_whole n 2 (omega arith)

effects_fit : (n : ℕ) (es : List Num) → instances.effect_numbers es ≡ es → All IsWithin es → Fits (suc n) (rows.each values.num (instances.effect_numbers es))
effects_fit n es same h = subst (λ xs. Fits (suc n) (rows.each values.num xs)) (sym same) (fits_each n values.num IsWithin (num_fits n) es h)

values_fit : (n : ℕ) (vs : List Value) → All IsValue vs → Fits (suc (suc n)) (rows.each values.value vs)
values_fit n vs h = fits_each (suc n) values.value IsValue (value_fits n) vs h

instance_fits : (n : ℕ) (i : Instance) (vs : List Value) (ls : List (List Value)) → HasInstance i vs ls → Fits (suc (suc (suc (suc n)))) (instances.instance_of i vs ls)
unfolding instances.instance_of
instance_fits n i vs ls has =
    let h = has.itself in
    fits_table (suc (suc (suc n))) (
      bubble_fits (suc (suc n)) i.bubble h.bubble,
      (refl, refl),
      (
        fits_whole (suc (suc (suc n))) i.costume h.costume,
        (refl, refl),
        (
          num_fits (suc (suc (suc n))) i.direction h.direction,
          (refl, refl),
          (
            fits_each (suc (suc n)) instances.edge (λ e. IsWhole e.0) (edge_fits (suc n)) i.edges h.edges,
            (refl, refl),
            (
              effects_fit (suc (suc n)) i.effects (effects_are i.effects h.effects.seven) h.effects.within,
              (refl, refl),
              (
                fits_each (suc (suc n)) (rows.each values.value) (All IsValue) (values_fit n) ls has.its_lists,
                (refl, refl),
                (
                  fits_whole (suc (suc (suc n))) i.number h.number,
                  (refl, refl),
                  (
                    fits_whole (suc (suc (suc n))) i.of h.of,
                    (refl, refl),
                    (
                      num_fits (suc (suc (suc n))) i.size h.size,
                      (refl, refl),
                      (
                        style_fits (suc (suc (suc n))) i.style,
                        (refl, refl),
                        (
                          values_fit (suc n) vs has.its_values,
                          (refl, refl),
                          (
                            fits_truth (suc (suc (suc n))) i.visible,
                            (refl, refl),
                            (
                              num_fits (suc (suc (suc n))) i.x h.x,
                              (refl, refl),
                              (
                                num_fits (suc (suc (suc n))) i.y h.y,
                                (tt, refl),
                                tt,
                              ),
                            ),
                          ),
                        ),
                      ),
                    ),
                  ),
                ),
              ),
            ),
          ),
        ),
      ),
    )

-- Devices and monitors

key_utf8 : (k : Key) → IsKey k → IsUtf8 (key_name k)
key_utf8 Space h = IsUtf8-are_ascii (codes "space") refl
key_utf8 Enter h = IsUtf8-are_ascii (codes "enter") refl
key_utf8 Left h = IsUtf8-are_ascii (codes "left arrow") refl
key_utf8 Right h = IsUtf8-are_ascii (codes "right arrow") refl
key_utf8 Up h = IsUtf8-are_ascii (codes "up arrow") refl
key_utf8 Down h = IsUtf8-are_ascii (codes "down arrow") refl
key_utf8 (One c) h = IsUtf8-encode c h

key_fits : (n : ℕ) (k : Key) → IsKey k → Fits n (devices.key k)
key_fits n k h = fits_text n (key_name k) (key_utf8 k h)

question_fits : (n : ℕ) (q : Question) → IsQuestion q → Fits (suc n) (devices.question q)
question_fits n q h = fits_row n (fits_whole n q.of h.of, (fits_whole n q.thread h.thread, (fits_text n q.text h.text.0, (fits_truth n q.bubble, tt))))

timer_fits : (n : ℕ) (t : BubbleTimer) → IsTimer t → Fits (suc n) (devices.timer t)
timer_fits n t h = fits_row n (num_fits n t.due h.due, (fits_whole n t.of h.of, (fits_whole n t.thread h.thread, (fits_whole n t.usage h.usage, tt))))

mouse_fits : (n : ℕ) (d : Devices) → AreDevices d → Fits (suc n) (devices.mouse d)
mouse_fits n d h = fits_row n (signed_fits n d.mouse_x h.mouse_x, (signed_fits n d.mouse_y h.mouse_y, (fits_truth n d.button, tt)))

shown_fits : (n : ℕ) (w : Shown) (visible : Bool) → IsShown w → Fits (suc n) (monitors.shown w visible)
shown_fits n (Variable target index) visible h =
    fits_row n (fits_text n (codes "variable") (IsUtf8-are_ascii (codes "variable") refl), (fits_whole n target h.0, (fits_whole n index h.1, (fits_truth n visible, tt))))
shown_fits n (Items target index) visible h =
    fits_row n (fits_text n (codes "list") (IsUtf8-are_ascii (codes "list") refl), (fits_whole n target h.0, (fits_whole n index h.1, (fits_truth n visible, tt))))

-- Threads

count_fits : (n : ℕ) (c : Count) → IsFew c → Fits n (contexts.count c)
count_fits n (Whole (pos k)) h = record { plain = omega arith; utf8 = tt; deep = omega arith }
count_fits n (Whole (negsuc k)) h = record { plain = omega arith; utf8 = tt; deep = omega arith }
count_fits n Infinite h = fits_text n (codes "inf") (IsUtf8-are_ascii (codes "inf") refl)

param_fits : (n : ℕ) (p : List ℕ × Value) → IsParam p → Fits (suc (suc n)) (contexts.param p)
param_fits n p h = fits_row (suc n) (fits_text (suc n) p.0 h.0, (value_fits n p.1 h.1, tt))

-- a word and what goes with it
word_fits : (n : ℕ) (word : List ℕ) {ds : json.Items} → are_ascii word ≡ true → ItemsFit n ds → Fits (suc n) (array (item (string word) ds))
word_fits n word plain h = fits_row n (fits_text n word (IsUtf8-are_ascii word plain), h)

kept_fits : (n : ℕ) (k : kept.Kept) → IsKept k → Fits (suc (suc (suc (suc n)))) (kept.kept k)
kept_fits n kept.Nothing h = fits_null (suc (suc (suc (suc n))))
kept_fits n kept.Loop h = word_fits (suc (suc (suc n))) (codes "loop") refl tt
kept_fits n (kept.Repeat turns) h = word_fits (suc (suc (suc n))) (codes "repeat") refl (count_fits (suc (suc (suc n))) turns h, tt)
kept_fits n (kept.Wait state) h =
    word_fits (suc (suc (suc n))) (codes "wait") refl (fits_whole (suc (suc (suc n))) state.start h.start, (num_fits (suc (suc (suc n))) state.duration h.duration, tt))
kept_fits n (kept.Glide state) h =
    word_fits (suc (suc (suc n))) (codes "glide") refl (
      fits_whole (suc (suc (suc n))) state.start h.start,
      (
        num_fits (suc (suc (suc n))) state.duration h.duration,
        (
          num_fits (suc (suc (suc n))) state.x0 h.x0,
          (
            num_fits (suc (suc (suc n))) state.y0 h.y0,
            (
              num_fits (suc (suc (suc n))) state.x1 h.x1,
              (
                num_fits (suc (suc (suc n))) state.y1 h.y1,
                tt,
              ),
            ),
          ),
        ),
      ),
    )
kept_fits n (kept.Started serials) h =
    word_fits (suc (suc (suc n))) (codes "started") refl (fits_each (suc (suc n)) rows.whole IsWhole (fits_whole (suc (suc n))) serials h, tt)
kept_fits n kept.Asked h = word_fits (suc (suc (suc n))) (codes "asked") refl tt
kept_fits n kept.Spoken h = word_fits (suc (suc (suc n))) (codes "spoken") refl tt
kept_fits n (kept.Call params) h = word_fits (suc (suc (suc n))) (codes "call") refl (fits_each (suc (suc n)) contexts.param IsParam (param_fits n) params h, tt)

block_fits : (n : ℕ) (b : Option ℕ) → IsBlock b → Fits n (block b)
block_fits n None h = fits_null n
block_fits n (Some k) h = fits_whole n k h

level_fits : (n : ℕ) (l : kept.SavedLevel) → IsSavedLevel l → Fits (suc (suc (suc (suc (suc n))))) (kept.level l)
level_fits n l h = fits_row (suc (suc (suc (suc n)))) (block_fits (suc (suc (suc (suc n)))) l.block h.block, (kept_fits n l.kept h.kept, tt))

status_fits : (n : ℕ) (s : Status) → Fits n (string (status_name s))
status_fits n Running = fits_text n (codes "run") (IsUtf8-are_ascii (codes "run") refl)
status_fits n YieldTick = fits_text n (codes "tick") (IsUtf8-are_ascii (codes "tick") refl)
status_fits n PromiseWait = fits_text n (codes "wait") (IsUtf8-are_ascii (codes "wait") refl)
status_fits n Done = fits_text n (codes "done") (IsUtf8-are_ascii (codes "done") refl)

thread_fits : (t : kept.SavedThread) → IsSavedThread t → Fits 125 (kept.thread t)
unfolding thread_of
thread_fits t h =
    fits_table 124 (
      fits_whole 124 t.hat h.hat,
      (refl, refl),
      (
        fits_each 123 kept.level IsSavedLevel (level_fits 118) (reverse t.levels) (all_reverse IsSavedLevel t.levels h.levels),
        (refl, refl),
        (
          fits_whole 124 t.serial h.serial,
          (refl, refl),
          (
            fits_whole 124 t.of h.of,
            (refl, refl),
            (
              status_fits 124 t.status,
              (tt, refl),
              tt,
            ),
          ),
        ),
      ),
    )

-- Runs

digit_plain : (c : ℕ) → is_digit c ≡ true → nat_lt c 128 ≡ true
digit_plain c h = grind (arith, nat_tests)

digits_plain : (t : List ℕ) → list_all is_digit t ≡ true → are_ascii t ≡ true
digits_plain [] h = refl
digits_plain (c ∷ t) h = let p = and_parts (is_digit c) (list_all is_digit t) h in rw (digit_plain c p.0) (digits_plain t p.1)

digest_utf8 : (t : List ℕ) → is_digest t ≡ true → IsUtf8 t
digest_utf8 t h = IsUtf8-are_ascii t (digits_plain t (and_parts (length t == 64) (list_all is_digit t) h).1)

next_fits : (n : ℕ) (s : Snapshot Task) → (run : IsRun IsTask s) → Fits (suc n) (next s)
next_fits n s run = fits_row n (fits_whole n s.next_thread run.next_thread, (fits_whole n s.next_instance run.next_instance, (fits_whole n s.devices.usage run.devices.usage, tt)))

standing_fits : (stores : List Store) (i : Instance) → IsStanding stores i → Fits 125 (instances.instance stores i)
standing_fits stores i h = instance_fits 121 i (store_at i.number stores).values (store_at i.number stores).lists h

pub run_fits : (s : Snapshot Task) → CanBeTold s → Fits 127 (saved kept.thread (told s).run)
unfolding saved
run_fits s h =
    let run = h.ranges in
    let d = h.ranges.devices in
    fits_table 126 (
      fits_text 126 s.devices.answer d.answer.0,
      (refl, refl),
      (
        fits_whole 126 s.devices.clock d.clock,
        (refl, refl),
        (
          fits_whole 126 s.drawn run.drawn,
          (refl, refl),
          (
            fits_whole 126 s.frame run.frame,
            (refl, refl),
            (
              fits_each 125 (instances.instance s.variables.stores) (IsStanding s.variables.stores) (standing_fits s.variables.stores) s.targets run.targets,
              (refl, refl),
              (
                fits_each 125 devices.key IsKey (key_fits 125) s.devices.keys d.keys,
                (refl, refl),
                (
                  fits_each 125 monitors.made (λ m. IsShown m.what) (λ m w. shown_fits 124 m.what m.visible w) s.variables.made run.made,
                  (refl, refl),
                  (
                    fits_each 125 boolean (λ _. Unit {0}) (λ b _. fits_truth 125 b) s.variables.file_monitors (λ k e lt. tt),
                    (refl, refl),
                    (
                      mouse_fits 125 s.devices d,
                      (refl, refl),
                      (
                        next_fits 125 s run,
                        (refl, refl),
                        (
                          fits_text 126 s.project (digest_utf8 s.project h.project),
                          (refl, refl),
                          (
                            fits_each 125 devices.question IsQuestion (question_fits 124) s.devices.questions d.questions,
                            (refl, refl),
                            (
                              fits_whole 126 s.seed run.seed,
                              (refl, refl),
                              (
                                fits_each 125 kept.thread IsSavedThread thread_fits (map kept.thread_told s.threads) (all_told s.threads h.ranges.threads h.threads),
                                (refl, refl),
                                (
                                  fits_whole 126 s.devices.timer d.timer,
                                  (refl, refl),
                                  (
                                    fits_each 125 devices.timer IsTimer (timer_fits 124) s.devices.timers d.timers,
                                    (refl, refl),
                                    (
                                      fits_truth 126 s.devices.turbo,
                                      (refl, refl),
                                      (
                                        fits_whole 126 1 (omega arith),
                                        (tt, refl),
                                        tt,
                                      ),
                                    ),
                                  ),
                                ),
                              ),
                            ),
                          ),
                        ),
                      ),
                    ),
                  ),
                ),
              ),
            ),
          ),
        ),
      ),
    )
