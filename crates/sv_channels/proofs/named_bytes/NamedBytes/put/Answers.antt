use Rattle.std.proofs.Common.{arith, [], ◌∷◌, ◌++◌, ap, sym, ◌∙◌, string_bytes}
use Rattle.std.specs.List.{position_from}
use Rattle.std.specs.FinMap.{insert}
use Rattle.std.proofs.lemmas.Grind.{common_steps}
use Rattle.std.proofs.lemmas.Result.{IfOk-weaker}
use Rattle.sv_channels.specs.Files.{files_of}
use Rattle.sv_channels.proofs.Named.{Stored, has_name, place_at, files_of-set, files_of-push}
use Rattle.sv_channels.proofs.named_bytes.NamedBytes.put.Goals as goal

-- to write at the place is to put under the name
pub returns-in_ok-self-inside-in-Some-clause-ok : goal.returns-in_ok-self-inside-in-Some-clause-ok
returns-in_ok-self-inside-in-Some-clause-ok c =
    let files = c.self.inside.files.items in
    let name = c.args.name.now in
    let bytes = c.args.bytes.now in
    let place = c.in-Some.place in
    let at = ap (position_from (has_name name) 0) (sym c.deref.ensures.value) ∙ sym c.place_of.ensures.value ∙ c.in-Some.is in
    let named = ap (λ (file : Stored). string_bytes file.0) c.index_mut.ensures.value ∙ (place_at name files place at).named c.index_mut.result.now in
    files_of-set name bytes files place (c.index_mut.result.now.0, c.in_ok-self-inside-in-Some.field-0) at named (grind (arith, common_steps))
    ∙ ap (λ es. insert (files_of es) name bytes) c.self.view_is

-- to add a new name is to put under it
pub returns-in-None-clause-ok : goal.returns-in-None-clause-ok
returns-in-None-clause-ok c =
    let files = c.self.inside.files.items in
    let name = c.args.name.now in
    let bytes = c.args.bytes.now in
    let at = ap (position_from (has_name name) 0) (sym c.deref.ensures.value) ∙ sym c.place_of.ensures.value ∙ c.in-None.is in
    IfOk-weaker c.push.result _ _
    (λ _ pushed.
    ap files_of pushed
    ∙ ap (λ es. files_of (es ++ (name, bytes) ∷ [])) (sym c.self.view_is)
    ∙ files_of-push name bytes files at
    ∙ ap (λ es. insert (files_of es) name bytes) c.self.view_is)
    c.push.ensures.ok
