use Rattle.std.proofs.lemmas.Result.{on_ok_weaker}
use Rattle.name_resolving.specs.FirstPlaces.{Notes}
use Rattle.name_resolving.proofs.Indexes.{index-push}
use Rattle.name_resolving.proofs.index.Index.add.Goals as goal

pub returns : goal.returns
returns c =
    let texts = rw c.as_str.ensures at c.note.ensures in
    on_ok_weaker c.note.result (λ (notes : Notes c.args.self.now.names c.note.new.self c.args.name.now.name c.args.place) names is last. index-push c.args.self.now (record { ids = c.note_id.new.ids; names = c.note.new.self }) c.args.name.now c.args.place names is last c.in_ok-note_id.ensures notes) texts
