use Rattle.std.proofs.Common.{◌≡◌, ◌<◌, length, refl, sym, ap, subst, arith, rules}
use Rattle.std.specs.List.{slice_index_or}
use Rattle.std.proofs.lemmas.Option.{slice_get_within, slice_get_read}
use Rattle.cached_blocks.specs.declared.block.CachedBlock.{CachedBlock}
use Rattle.cached_blocks.specs.Cached.{cached_blocks}
use Rattle.project_check.specs.Loaded.{sheet_at}
use Rattle.project_check.proofs.Caching.{cached-row, lent-cached, cached-length}
use Rattle.project_check.proofs.project.Project.cached.Goals as goal

pub index-requires : goal.index-requires
index-requires c =
    let within = slice_get_within c.args.self.now.cached.items c.args.target (cached_blocks (sheet_at c.args.target c.args.self.now)) (cached-row c.args.self.now c.args.target c.requires.held) in
    let at : c.target.inside.0 < length c.args.self.now.cached.items = subst (λ t. t < length c.args.self.now.cached.items) (sym c.target.view_is) within in
    search rules

pub bounds-as_slice-id-inside : goal.bounds-as_slice-id-inside
bounds-as_slice-id-inside c =
    let row : c.index.result.now ≡ slice_index_or c.args.self.now.cached.items c.args.target c.index.result.now = subst (λ t. c.index.result.now ≡ slice_index_or c.args.self.now.cached.items t c.index.result.now) c.target.view_is c.index.ensures in
    let whole : c.as_slice.result.now ≡ cached_blocks (sheet_at c.args.target c.args.self.now) = lent-cached c.args.self.now c.args.target c.index.result.now c.as_slice.result.now c.requires.held row c.as_slice.ensures in
    let long : length c.as_slice.result.now ≡ length (cached_blocks (sheet_at c.args.target c.args.self.now)) = ap length whole in
    subst (λ n. n < length c.as_slice.result.now) (sym c.id.view_is) (omega (arith, long, cached-length c.args.self.now c.args.target, c.requires.member))

pub returns : goal.returns
returns c =
    let row : c.index.result.now ≡ slice_index_or c.args.self.now.cached.items c.args.target c.index.result.now = subst (λ t. c.index.result.now ≡ slice_index_or c.args.self.now.cached.items t c.index.result.now) c.target.view_is c.index.ensures in
    let whole : c.as_slice.result.now ≡ cached_blocks (sheet_at c.args.target c.args.self.now) = lent-cached c.args.self.now c.args.target c.index.result.now c.as_slice.result.now c.requires.held row c.as_slice.ensures in
    let block : CachedBlock = c.index-as_slice-id.result in
    let is : block ≡ slice_index_or c.as_slice.result.now c.args.id block = subst (λ k. block ≡ slice_index_or c.as_slice.result.now k block) c.id.view_is c.index-as_slice-id.is in
    let here : block ≡ slice_index_or (cached_blocks (sheet_at c.args.target c.args.self.now)) c.args.id block = subst (λ xs. block ≡ slice_index_or xs c.args.id block) whole is in
    slice_get_read (cached_blocks (sheet_at c.args.target c.args.self.now)) (length (cached_blocks (sheet_at c.args.target c.args.self.now))) c.args.id block refl (omega (arith, cached-length c.args.self.now c.args.target, c.requires.member)) here
