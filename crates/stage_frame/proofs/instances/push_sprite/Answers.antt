use Rattle.target_records.specs.Records.{records_in}
use Rattle.stage_frame.proofs.Lines.{sprite_made}
use Rattle.stage_frame.proofs.instances.push_sprite.Goals as goal

pub returns : goal.returns
returns c =
    rw (c.in_ok-push.ensures.items, c.in_ok-push_quoted.ensures, c.style_text.ensures, c.in_ok-push_costume.ensures, c.in_ok-push_look.ensures, c.in_ok-push_sprite_front.ensures, c.in_ok-extend_from_slice.ensures.items)
    (sprite_made (records_in c.args.records.now) c.args.place c.args.instance.now c.args.out.now.items c.requires)
