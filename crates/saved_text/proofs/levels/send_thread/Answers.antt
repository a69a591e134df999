use Rattle.std.proofs.lemmas.Result.{on_ok_weaker}
use Rattle.saved_spec.specs.Threads.{thread_of}
use Rattle.saved_text.proofs.levels.send_thread.Goals as goal

pub returns-clause-sent : goal.returns-clause-sent
unfolding thread_of
returns-clause-sent g c =
    let at = g.S.Serializer.written in
    let m1 = c.in_ok-send_member.ensures.sent in
    let m2 = c.in_ok-send_member-2.ensures.sent in
    let m3 = c.in_ok-send_member-3.ensures.sent in
    let m4 = c.in_ok-send_member-4.ensures.sent in
    let m5 = c.in_ok-send_member-5.ensures.sent in
    on_ok_weaker c.end_map.result (λ e. (
      at c.begin_map.new.self,
      c.in_ok-begin_map.ensures,
      (
        m1.0,
        at c.send_member.new.out,
        m1.1,
        m1.2,
        (
          m2.0,
          at c.send_member-2.new.out,
          m2.1,
          m2.2,
          (
            m3.0,
            at c.send_member-3.new.out,
            m3.1,
            m3.2,
            (
              m4.0,
              at c.send_member-4.new.out,
              m4.1,
              m4.2,
              (
                m5.0,
                at c.send_member-5.new.out,
                m5.1,
                m5.2,
                e,
              ),
            ),
          ),
        ),
      ),
    )) c.end_map.ensures
