use Rattle.std.proofs.Common.{subst}
use Rattle.std.specs.List.{All}
use Rattle.std.proofs.lemmas.Result.{on_ok_weaker}
use Rattle.saved_spec.specs.Ranges.{IsKey, IsQuestion, IsText, IsTimer, IsWhole}
use Rattle.saved_spec.specs.Saved.{saved}
use Rattle.saved_text.proofs.Lists.{on_ok_both}
use Rattle.saved_text.proofs.run.WrittenSerialize.serialize.Goals as goal

pub returns : goal.returns
unfolding saved
returns g c =
    let at = g.S.Serializer.written in
    let m1 = c.in_ok-send_member.ensures.sent in
    let m2 = c.in_ok-send_member-2.ensures.sent in
    let m3 = c.in_ok-send_member-3.ensures.sent in
    let m4 = c.in_ok-send_member-4.ensures.sent in
    let m6 = c.in_ok-send_member-5.ensures.sent in
    let m7 = c.in_ok-send_list.ensures.sent in
    let m8 = c.in_ok-send_list-2.ensures.sent in
    let m12 = c.in_ok-send_member-6.ensures.sent in
    let m13 = c.in_ok-send_member-7.ensures.sent in
    let m14 = c.in_ok-send_member-8.ensures.sent in
    let m15 = c.in_ok-send_member-9.ensures.sent in
    let m16 = c.in_ok-send_member-10.ensures.sent in
    let m17 = c.in_ok-send_member-11.ensures.sent in
    let m18 = c.in_ok-send_member-12.ensures.sent in
    on_ok_both c.end_map.result _ _ (rw (← c.last_answer.ensures, ← c.clock.ensures, ← c.keys.ensures, ← c.questions.ensures, ← c.timer_start.ensures, ← c.timers.ensures, ← c.turbo.ensures) (on_ok_weaker c.end_map.result (λ e. (
      at c.begin_map.new.self,
      c.in_ok-begin_map.ensures,
      (
        m1.0,
        at c.send_member.new.out,
        m1.1,
        m1.2,
        (
          m2.0,
          at c.send_member-2.new.out,
          m2.1,
          m2.2,
          (
            m3.0,
            at c.send_member-3.new.out,
            m3.1,
            m3.2,
            (
              m4.0,
              at c.send_member-4.new.out,
              m4.1,
              m4.2,
              (
                at c.key.new.self,
                at c.send_instances.new.out,
                c.in_ok-key.ensures,
                c.in_ok-send_instances.ensures.sent,
                (
                  m6.0,
                  at c.send_member-5.new.out,
                  m6.1,
                  m6.2,
                  (
                    m7.0,
                    at c.send_list.new.out,
                    m7.1,
                    m7.2,
                    (
                      m8.0,
                      at c.send_list-2.new.out,
                      m8.1,
                      m8.2,
                      (
                        at c.key-2.new.self,
                        at c.send_mouse.new.out,
                        c.in_ok-key-2.ensures,
                        c.in_ok-send_mouse.ensures.sent,
                        (
                          at c.key-3.new.self,
                          at c.send_next.new.out,
                          c.in_ok-key-3.ensures,
                          c.in_ok-send_next.ensures.sent,
                          (
                            at c.key-4.new.self,
                            at c.str.new.self,
                            c.in_ok-key-4.ensures,
                            c.in_ok-str.ensures,
                            (
                              m12.0,
                              at c.send_member-6.new.out,
                              m12.1,
                              m12.2,
                              (
                                m13.0,
                                at c.send_member-7.new.out,
                                m13.1,
                                m13.2,
                                (
                                  m14.0,
                                  at c.send_member-8.new.out,
                                  m14.1,
                                  m14.2,
                                  (
                                    m15.0,
                                    at c.send_member-9.new.out,
                                    m15.1,
                                    m15.2,
                                    (
                                      m16.0,
                                      at c.send_member-10.new.out,
                                      m16.1,
                                      m16.2,
                                      (
                                        m17.0,
                                        at c.send_member-11.new.out,
                                        m17.1,
                                        m17.2,
                                        (
                                          m18.0,
                                          at c.send_member-12.new.out,
                                          m18.1,
                                          m18.2,
                                          e,
                                        ),
                                      ),
                                    ),
                                  ),
                                ),
                              ),
                            ),
                          ),
                        ),
                      ),
                    ),
                  ),
                ),
              ),
            ),
          ),
        ),
      ),
    )) c.end_map.ensures))
    (on_ok_weaker c.end_map.result (λ e. record {
      seed = c.in_ok-send_member-7.ensures.ranges;
      drawn = c.in_ok-send_member-3.ensures.ranges;
      frame = c.in_ok-send_member-4.ensures.ranges;
      next_thread = c.in_ok-send_next.ensures.thread;
      next_instance = c.in_ok-send_next.ensures.instance;
      targets = c.in_ok-send_instances.ensures.ranges;
      made = c.in_ok-send_list.ensures.ranges;
      devices = record {
        answer = subst IsText c.last_answer.ensures c.in_ok-send_member.ensures.ranges;
        clock = subst IsWhole c.clock.ensures c.in_ok-send_member-2.ensures.ranges;
        timer = subst IsWhole c.timer_start.ensures c.in_ok-send_member-9.ensures.ranges;
        keys = subst (All IsKey) c.keys.ensures c.in_ok-send_member-5.ensures.ranges;
        mouse_x = c.in_ok-send_mouse.ensures.x;
        mouse_y = c.in_ok-send_mouse.ensures.y;
        questions = subst (All IsQuestion) c.questions.ensures c.in_ok-send_member-6.ensures.ranges;
        timers = subst (All IsTimer) c.timers.ensures c.in_ok-send_member-10.ensures.ranges;
        usage = c.in_ok-send_next.ensures.usage;
      };
      threads = c.in_ok-send_member-8.ensures.ranges;
    }) c.end_map.ensures)
