use Rattle.std.proofs.Common.{ℕ, ◌∷◌, ◌++◌, [], subst}
use Rattle.instance_index.specs.Index.{IsIndex}
use Rattle.thread_frames.specs.Indexing.{instances_of}
use Rattle.thread_frames.proofs.Keys.{instances_push}
use Rattle.thread_frames.proofs.indexes.Indexes.append.Goals as goal

pub returns : goal.returns
returns c = λ keys end are. record {
  hats = c.append.ensures keys end are.hats;
  instances = instances_push _ keys (record { of = c.args.of; hat = c.args.hat })
      (subst (λ (o : ℕ). IsIndex c.append-2.new.self (instances_of keys ++ o ∷ [])) c.of.view_is (c.append-2.ensures.index _ are.instances));
}
