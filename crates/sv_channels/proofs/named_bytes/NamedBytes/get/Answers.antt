use Rattle.std.proofs.Common.{Some, ap, sym, ◌∙◌}
use Rattle.std.specs.List.{position_from}
use Rattle.std.specs.FinMap.{get}
use Rattle.sv_channels.specs.Files.{files_of}
use Rattle.sv_channels.proofs.Named.{Stored, has_name, get-files_of, place_at, file_at-none}
use Rattle.sv_channels.proofs.named_bytes.NamedBytes.get.Goals as goal

-- the file at the place is the one that the map has
pub returns-in-Some : goal.returns-in-Some
returns-in-Some c =
    let files = c.self.inside.files.items in
    let name = c.args.name.now in
    let at = ap (position_from (has_name name) 0) (sym c.deref.ensures.value) ∙ sym c.place_of.ensures.value ∙ c.in-Some.is in
    ap (λ bytes. Some bytes) (c.as_slice.ensures.value ∙ ap (λ (file : Stored). file.1.items) c.index.ensures)
    ∙ sym ((place_at name files c.in-Some.place at).found c.index.result.now)
    ∙ sym (get-files_of files name)
    ∙ ap (λ named. get (files_of named) name) c.self.view_is

-- where no file has the name, the map lacks it
pub returns-in-None : goal.returns-in-None
returns-in-None c =
    let files = c.self.inside.files.items in
    let name = c.args.name.now in
    let at = ap (position_from (has_name name) 0) (sym c.deref.ensures.value) ∙ sym c.place_of.ensures.value ∙ c.in-None.is in
    sym (file_at-none name files 0 at)
    ∙ sym (get-files_of files name)
    ∙ ap (λ named. get (files_of named) name) c.self.view_is
