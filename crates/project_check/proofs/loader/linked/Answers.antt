use Rattle.std.proofs.Common.{◌∙◌, sym, ap, subst, arith, length}
use Rattle.std.specs.List.{All, AllZip}
use Rattle.std.proofs.lemmas.List.{length-map}
use Rattle.project_spec.specs.Refusals.{tests, Passes}
use Rattle.target_records.specs.Records.{records_in}
use Rattle.block_checks.specs.Kept.{IsKept, IsRefusal, blocks_in}
use Rattle.project_check.specs.Loaded.{Resolves}
use Rattle.project_check.specs.Kept.{CachesAll}
use Rattle.project_check.proofs.Resolved.{keeps, heads_of, count_of, as_many_names, as_many_heads, indexed_of}
use Rattle.project_check.proofs.Linking.{refused, told}
use Rattle.project_check.proofs.loader.linked.Goals as goal

pub returns-in-Err : goal.returns-in-Err
returns-in-Err c = λ bytes r. refused bytes (records_in c.args.records) c.args.tables.items r c.in-Err.refusal (subst (λ ts. IsRefusal (blocks_in ts) c.in-Err.refusal) c.deref.ensures.value c.in-Err.ensures.refused)

pub cache_all-requires : goal.cache_all-requires
cache_all-requires c =
    let res : Resolves c.in-Ok.links.items (blocks_in c.args.tables.items) (records_in c.args.records) (records_in c.names.new.records) c.in_ok-names.names =
    subst (λ ls. Resolves ls (blocks_in c.args.tables.items) (records_in c.args.records) (records_in c.names.new.records) c.in_ok-names.names) c.deref-3.ensures.value
    (subst (λ ts. Resolves c.deref-3.result.now (blocks_in ts) (records_in c.args.records) (records_in c.names.new.records) c.in_ok-names.names) c.deref-2.ensures.value c.in_ok-names.ensures) in
    as_many_names (records_in c.args.records) (records_in c.names.new.records) (blocks_in c.args.tables.items) c.in-Ok.links.items c.in_ok-names.names res
    ∙ length-map c.args.tables.items (λ b. b.blocks)
    ∙ ap length (sym c.deref-4.ensures.value)

pub all_hats-requires : goal.all_hats-requires
all_hats-requires c =
    as_many_heads c.in_ok-heads.heads.items c.deref-7.result.now c.deref-6.result.now c.args.tables.items c.deref-6.ensures.value c.deref-7.ensures.value
    (heads_of c.in_ok-heads.heads.items c.deref-5.result.now c.args.tables.items c.deref-5.ensures.value c.in_ok-heads.ensures)

pub invariant_of-result : goal.invariant_of-result
invariant_of-result c =
    let kept : AllZip IsKept (blocks_in c.args.tables.items) c.in-Ok.links.items = subst (λ ts. AllZip IsKept (blocks_in ts) c.in-Ok.links.items) c.deref.ensures.value c.in-Ok.ensures.kept in
    let res : Resolves c.in-Ok.links.items (blocks_in c.args.tables.items) (records_in c.args.records) (records_in c.names.new.records) c.in_ok-names.names =
    subst (λ ls. Resolves ls (blocks_in c.args.tables.items) (records_in c.args.records) (records_in c.names.new.records) c.in_ok-names.names) c.deref-3.ensures.value
    (subst (λ ts. Resolves c.deref-3.result.now (blocks_in ts) (records_in c.args.records) (records_in c.names.new.records) c.in_ok-names.names) c.deref-2.ensures.value c.in_ok-names.ensures) in
    let passes = subst (λ ts. All (Passes (blocks_in ts)) tests) c.deref.ensures.value c.in-Ok.ensures.passes in record {
      kept = keeps (records_in c.args.records) (records_in c.names.new.records) (blocks_in c.args.tables.items) c.in-Ok.links.items c.in_ok-names.names c.in_ok-cached.cached.items c.in_ok-heads.heads.items c.count-blocks.result
          (c.requires.targets ∙ sym (length-map c.args.tables.items (λ b. b.blocks)))
          c.requires.dressed
          (omega (arith, c.requires.few, length-map c.args.tables.items (λ b. b.blocks)))
          passes
          kept
          res
          (subst (λ ts. CachesAll (blocks_in ts) c.in_ok-names.names c.in_ok-cached.cached.items) c.deref-4.ensures.value c.in_ok-cached.ensures)
          (heads_of c.in_ok-heads.heads.items c.deref-5.result.now c.args.tables.items c.deref-5.ensures.value c.in_ok-heads.ensures)
          (count_of c.count-blocks.result c.deref-8.result.now c.args.tables.items c.deref-8.ensures.value c.count-blocks.ensures);
      indexed = indexed_of c.in_ok-hats.hats c.in_ok-heads.heads.items c.deref-7.result.now c.deref-6.result.now c.args.tables.items c.deref-6.ensures.value c.deref-7.ensures.value
          (heads_of c.in_ok-heads.heads.items c.deref-5.result.now c.args.tables.items c.deref-5.ensures.value c.in_ok-heads.ensures) c.in_ok-hats.ensures;
      told =
          let (bytes, r) = c.requires.source in
          ∣ (bytes, r.small, told bytes (records_in c.args.records) c.args.tables.items r (records_in c.names.new.records) c.in_ok-names.names c.in-Ok.links.items passes kept res) ∣₁;
    }

pub returns : goal.returns
returns c =
    let kept : AllZip IsKept (blocks_in c.args.tables.items) c.in-Ok.links.items = subst (λ ts. AllZip IsKept (blocks_in ts) c.in-Ok.links.items) c.deref.ensures.value c.in-Ok.ensures.kept in
    let res : Resolves c.in-Ok.links.items (blocks_in c.args.tables.items) (records_in c.args.records) (records_in c.names.new.records) c.in_ok-names.names =
    subst (λ ls. Resolves ls (blocks_in c.args.tables.items) (records_in c.args.records) (records_in c.names.new.records) c.in_ok-names.names) c.deref-3.ensures.value
    (subst (λ ts. Resolves c.deref-3.result.now (blocks_in ts) (records_in c.args.records) (records_in c.names.new.records) c.in_ok-names.names) c.deref-2.ensures.value c.in_ok-names.ensures) in
    let passes = subst (λ ts. All (Passes (blocks_in ts)) tests) c.deref.ensures.value c.in-Ok.ensures.passes in
    λ bytes r. told bytes (records_in c.args.records) c.args.tables.items r (records_in c.names.new.records) c.in_ok-names.names c.in-Ok.links.items passes kept res
