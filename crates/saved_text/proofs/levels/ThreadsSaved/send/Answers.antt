use Rattle.std.proofs.Common.{◌≡◌, ◌≤◌, Option, None, Some, List, slice_get, refl, sym, ◌∙◌, subst, arith}
use Rattle.std.specs.Option.{option_map}
use Rattle.std.proofs.lemmas.Result.{on_ok_weaker}
use Rattle.serde.specs.Event.{Logs, seq_begins}
use Rattle.thread_frames.specs.declared.level.Level.{Level}
use Rattle.thread_frames.specs.declared.thread.Thread.{Thread as Bare}
use Rattle.thread_frames.specs.Threads.{Thread, bare, levels_of, with_levels}
use Rattle.saved_text.specs.Ranges.{IsThread}
use Rattle.saved_text.specs.Threads.{thread}
use Rattle.saved_text.proofs.Lists.{all_sent, continued, first_all, first_one}
use Rattle.saved_text.proofs.levels.ThreadsSaved.send.Goals as goal

-- a thread is what it is without its levels, and its levels
whole_thread : (o : Option Thread) (b : Bare) (ls : List Level) → Some b ≡ option_map bare o → ls ≡ levels_of o → o ≡ Some (with_levels b ls)
whole_thread None b ls is levels = absurd cc
whole_thread (Some t) b ls is levels =
    let same : b ≡ bare t = cc in
    rw (same, levels) refl

pub loop-slot-preserved : goal.loop-slot-preserved
loop-slot-preserved g c =
    let at = g.S.Serializer.written in
    let ts = c.args.self.now.list in
    let slot = c.loop-slot.slot in
    let t = with_levels c.unwrap-thread.result c.levels_at.result in
    let there = whole_thread (slice_get ts slot) c.unwrap-thread.result c.levels_at.result (sym c.unwrap-thread.ensures ∙ c.thread.ensures) c.levels_at.ensures in
    let sent = rw (c.hat.ensures, c.serial.ensures, c.of.ensures, c.status.ensures) at c.in_ok-send_thread.ensures.sent in
    let ranges = rw (c.hat.ensures, c.serial.ensures, c.of.ensures) at c.in_ok-send_thread.ensures.ranges in (
      continued thread ts slot t (at c.begin_seq.new.self) (at c.loop-slot.out) (at c.send_thread.new.out) there sent c.loop-slot.invariant.0,
      first_one IsThread ts slot t there ranges c.loop-slot.invariant.1,
    )

pub returns-clause-sent : goal.returns-clause-sent
returns-clause-sent g c =
    let at = g.S.Serializer.written in
    let ts = c.args.self.now.list in
    let same = c.len-count.ensures in
    on_ok_weaker c.end_seq.result
    (all_sent thread ts c.loop-slot.slot (at c.args.out.now) (at c.begin_seq.new.self) (at c.loop-slot.out) (at c.end_seq.new.self) (subst (λ n. n ≤ c.loop-slot.slot) same (omega arith)) (subst (λ n. Logs (at c.args.out.now) (at c.begin_seq.new.self) (seq_begins (Some n))) same c.in_ok-begin_seq.ensures) c.loop-slot.invariant.0)
    c.end_seq.ensures

pub returns-clause-ranges : goal.returns-clause-ranges
returns-clause-ranges g c =
    let ts = c.args.self.now.list in
    on_ok_weaker c.end_seq.result (λ e. first_all IsThread ts c.loop-slot.slot (subst (λ n. n ≤ c.loop-slot.slot) c.len-count.ensures (omega arith)) c.loop-slot.invariant.1) c.end_seq.ensures
