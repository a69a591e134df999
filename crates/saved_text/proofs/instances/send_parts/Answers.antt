use Rattle.std.proofs.lemmas.Result.{on_ok_weaker}
use Rattle.saved_spec.specs.Instances.{instance_of}
use Rattle.saved_text.proofs.instances.send_parts.Goals as goal

pub returns-clause-sent : goal.returns-clause-sent
unfolding instance_of
returns-clause-sent g c =
    let at = g.S.Serializer.written in
    let m1 = c.in_ok-send_member.ensures.sent in
    let m2 = c.in_ok-send_member-2.ensures.sent in
    let m3 = c.in_ok-send_member-3.ensures.sent in
    let m4 = c.in_ok-send_member-4.ensures.sent in
    let m5 = c.in_ok-send_member-5.ensures.sent in
    let m6 = c.in_ok-send_list.ensures.sent in
    let m7 = c.in_ok-send_member-6.ensures.sent in
    let m8 = c.in_ok-send_member-7.ensures.sent in
    let m9 = c.in_ok-send_member-8.ensures.sent in
    let m10 = c.in_ok-send_member-9.ensures.sent in
    let m11 = c.in_ok-send_list-2.ensures.sent in
    let m12 = c.in_ok-send_member-10.ensures.sent in
    let m13 = c.in_ok-send_member-11.ensures.sent in
    let m14 = c.in_ok-send_member-12.ensures.sent in
    on_ok_weaker c.end_map.result (λ e. (
      at c.begin_map.new.self,
      c.in_ok-begin_map.ensures,
      (
        m1.0,
        at c.send_member.new.out,
        m1.1,
        m1.2,
        (
          m2.0,
          at c.send_member-2.new.out,
          m2.1,
          m2.2,
          (
            m3.0,
            at c.send_member-3.new.out,
            m3.1,
            m3.2,
            (
              m4.0,
              at c.send_member-4.new.out,
              m4.1,
              m4.2,
              (
                m5.0,
                at c.send_member-5.new.out,
                m5.1,
                m5.2,
                (
                  m6.0,
                  at c.send_list.new.out,
                  m6.1,
                  m6.2,
                  (
                    m7.0,
                    at c.send_member-6.new.out,
                    m7.1,
                    m7.2,
                    (
                      m8.0,
                      at c.send_member-7.new.out,
                      m8.1,
                      m8.2,
                      (
                        m9.0,
                        at c.send_member-8.new.out,
                        m9.1,
                        m9.2,
                        (
                          m10.0,
                          at c.send_member-9.new.out,
                          m10.1,
                          m10.2,
                          (
                            m11.0,
                            at c.send_list-2.new.out,
                            m11.1,
                            m11.2,
                            (
                              m12.0,
                              at c.send_member-10.new.out,
                              m12.1,
                              m12.2,
                              (
                                m13.0,
                                at c.send_member-11.new.out,
                                m13.1,
                                m13.2,
                                (
                                  m14.0,
                                  at c.send_member-12.new.out,
                                  m14.1,
                                  m14.2,
                                  e,
                                ),
                              ),
                            ),
                          ),
                        ),
                      ),
                    ),
                  ),
                ),
              ),
            ),
          ),
        ),
      ),
    )) c.end_map.ensures
