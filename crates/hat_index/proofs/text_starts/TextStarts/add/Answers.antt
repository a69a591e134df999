use Rattle.std.proofs.Common.{◌++◌, ◌∷◌, [], ◌∙◌, ap, string_bytes}
use Rattle.std.specs.Prelude.{unwrap_or}
use Rattle.std.proofs.lemmas.Map.Text.{btree_map_updates_text}
use Rattle.hat_index.proofs.Adding.{put_back}
use Rattle.hat_index.proofs.text_starts.TextStarts.add.Goals as goal

pub returns : goal.returns
returns c =
    put_back c.args.self.now (record { starts = c.remove.new.self }) (record { starts = c.insert.new.self }) c.args.text.now (string_bytes c.in_ok-key.key) c.args.start c.push.new.self
    c.in_ok-key.ensures.ok
    (c.in_ok-push.ensures.ok ∙ ap (λ xs. xs ++ c.args.start ∷ []) (c.or_none-starts.ensures ∙ ap (λ o. unwrap_or o []) c.remove.ensures.value))
    (btree_map_updates_text c.args.text.now c.args.self.now.starts c.remove.new.self _ c.remove.ensures.updates)
    (btree_map_updates_text (string_bytes c.in_ok-key.key) c.remove.new.self c.insert.new.self _ c.in_ok-insert.ensures.updates)
