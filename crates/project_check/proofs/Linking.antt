-- A file that is read and measured, and the blocks that were tested.
use Rattle.std.proofs.Common.{◌≡◌, ℕ, zero, suc, ◌<◌, ◌^◌, List, [], ◌∷◌, length, map, Some, Ok, Err, refl, sym, ap, ◌∙◌, subst, inl, inr, arith}
use Rattle.std.specs.Prelude.{slice_get, unwrap_or}
use Rattle.std.specs.List.{All, AllZip, sum_by}
use Rattle.std.proofs.lemmas.List.{length-map}
use Rattle.project_json.specs.Tree.{Tree}
use Rattle.project_json.specs.Size.{size_of}
use Rattle.project_json.specs.Text.{IsText, max_depth}
use Rattle.project_json.specs.Refusal.{IsCause}
use Rattle.project_json.specs.declared.refusal.JsonRefusal.{JsonRefusal}
use Rattle.project_json.specs.declared.refusal.JsonRefusal.TheVariants as json
use Rattle.json_shapes.specs.declared.fault.Fault.{Fault}
use Rattle.json_shapes.specs.declared.fault.Fault.TheVariants as fault
use Rattle.json_shapes.specs.Reads.{Reads}
use Rattle.machine_spec.specs.Program.{record_at, no_target, Records}
use Rattle.project_spec.specs.declared.blocks.Block.{Block}
use Rattle.project_spec.specs.declared.refusals.Refusal.{Refusal}
use Rattle.project_spec.specs.declared.refusals.Refusal.TheVariants as refusal
use Rattle.project_spec.specs.declared.blocks.Resolved.{Resolved}
use Rattle.project_spec.specs.Reading.{File, Origin, Table, blocks_in, file_of}
use Rattle.project_spec.specs.Refusals.{tests, Passes, IsFirstOf, IsRefusal, TellsChecked}
use Rattle.project_spec.specs.Resolving.{Found, resolved_targets}
use Rattle.project_spec.specs.Trees.{program}
use Rattle.target_records.specs.Records.{records_in}
use Rattle.block_checks.specs.Kept.{Kept, IsKept, IsRefusal as IsBlockRefusal}
use Rattle.name_resolving.specs.Room.{HasRoom}
use Rattle.block_table.specs.declared.table.BlockTable.{BlockTable}
use Rattle.block_table.specs.Table.{Numbered, numbered}
use Rattle.project_check.specs.declared.sizes.Measured.{Measured}
use Rattle.project_check.specs.File.{file_in}
use Rattle.target_records.specs.Costumes.{IsDressed}
use Rattle.project_check.specs.Measured.{IsMeasured, IsRead}
use Rattle.project_check.specs.Told.{IsTold}
use Rattle.project_check.specs.Loaded.{Loads, Resolves, of_json, of_fault}
use Rattle.project_check.proofs.Dressed.{file-dressed}
use Rattle.project_check.proofs.Resolved.{tells_checked}
use Rattle.project_check.proofs.Room.{as_many, few_targets, few_blocks, room, sum_by-map}

-- Bytes that are no text, and a document that has not its shape

pub no_text : (bytes : List ℕ) (r : JsonRefusal) → IsCause max_depth bytes r → Loads bytes (Err (of_json r))
no_text bytes (json.NotUtf8 at) h = inl (json.NotUtf8 at, h, refl)
no_text bytes (json.Syntax at) h = inl (json.Syntax at, h, refl)
no_text bytes (json.TooDeep at) h = inl (json.TooDeep at, h, refl)
no_text bytes json.NoMemory h = tt

pub no_shape : (bytes : List ℕ) (t : Tree) (e : Fault) → IsText max_depth bytes t → Reads file_in (Err e) (file_of t) → Loads bytes (Err (of_fault e))
no_shape bytes t (fault.Shape path) text h = inr (t, text, inl (path, h, refl))
no_shape bytes t fault.NoMemory text h = tt

-- The blocks and the ids of the tables of a file

blocks_numbered : (tables : List Table) → map (λ (n : Numbered). n.blocks) (map numbered tables) ≡ map (λ (t : Table). t.blocks) tables
blocks_numbered [] = refl
blocks_numbered (t ∷ ts) = ap (λ rest. t.blocks ∷ rest) (blocks_numbered ts)

ids_numbered : (tables : List Table) → map (λ (n : Numbered). n.ids) (map numbered tables) ≡ map (λ (t : Table). map (λ (o : Origin). o.id) t.origins) tables
ids_numbered [] = refl
ids_numbered (t ∷ ts) = ap (λ rest. map (λ (o : Origin). o.id) t.origins ∷ rest) (ids_numbered ts)

-- A file that is measured

module _ (bytes : List ℕ) (t : Tree) (f : File) (text : IsText max_depth bytes t) (tells : file_of t ≡ Ok f) where
  pub unmeasured : (r : Refusal) → IsMeasured f (Err r) → Loads bytes (Err r)
  unmeasured (refusal.Json r) h = inr (t, text, inr (f, tells, h))
  unmeasured (refusal.Shape path) h = inr (t, text, inr (f, tells, h))
  unmeasured (refusal.StageCount n) h = inr (t, text, inr (f, tells, h))
  unmeasured (refusal.TooMany path) h = inr (t, text, inr (f, tells, h))
  unmeasured (refusal.Mutation at why) h = inr (t, text, inr (f, tells, h))
  unmeasured (refusal.Dangling at to) h = inr (t, text, inr (f, tells, h))
  unmeasured (refusal.Cyclic at) h = inr (t, text, inr (f, tells, h))
  unmeasured (refusal.Opcode at name) h = inr (t, text, inr (f, tells, h))
  unmeasured (refusal.MissingInput at name) h = inr (t, text, inr (f, tells, h))
  unmeasured (refusal.Field at name) h = inr (t, text, inr (f, tells, h))
  unmeasured (refusal.TooDeep at) h = inr (t, text, inr (f, tells, h))
  unmeasured refusal.NoMemory h = tt

  module _ (m : Measured) (is : IsMeasured f (Ok m)) where
    pub is_read : length bytes < 2 ^ 32 → IsRead bytes (records_in m.records) m.tables.items
    is_read small = record { small = small; document = t; text = text; file = f; tells = tells; stage = is.0; few = is.1; records = is.2; tables = is.3 }

    same_blocks : map (λ x. x.blocks) m.tables.items ≡ blocks_in f
    same_blocks = ap (map (λ (x : Numbered). x.blocks)) is.3 ∙ blocks_numbered f.tables

    pub as_many_tables : length (records_in m.records).targets ≡ length m.tables.items
    as_many_tables = ap (λ rs. length rs.targets) is.2 ∙ sym (as_many t f tells) ∙ ap length (sym same_blocks) ∙ length-map m.tables.items (λ x. x.blocks)

    pub are_dressed : size_of t < 2 ^ 32 → All IsDressed (records_in m.records).targets
    are_dressed small = subst (λ (rs : Records). All IsDressed rs.targets) (sym is.2) (file-dressed t f tells small)

    pub few_tables : size_of t < 2 ^ 32 → length m.tables.items < 2 ^ 32
    few_tables small = omega (arith, few_targets t f tells, as_many t f tells, ap length same_blocks, length-map m.tables.items (λ x. x.blocks))

    pub few_in_all : size_of t < 2 ^ 32 → sum_by (λ x. length x.blocks) m.tables.items < 2 ^ 32
    few_in_all small =
        let all : sum_by (λ (x : BlockTable). length x.blocks) m.tables.items ≡ sum_by length (blocks_in f) = sym (sum_by-map length (λ (x : BlockTable). x.blocks) m.tables.items) ∙ ap (sum_by length) same_blocks in
        omega (arith, few_blocks t f tells, all)

    pub has_room : size_of t < 2 ^ 32 → HasRoom (records_in m.records) (map (λ x. x.blocks) m.tables.items)
    has_room small = subst (λ rs. HasRoom rs (map (λ x. x.blocks) m.tables.items)) (sym is.2) (subst (HasRoom f.records) (sym same_blocks) (room_of small))
      where
        held_at : {A : Type 0} (xs : List A) (k : ℕ) (d : A) → k < length xs → slice_get xs k ≡ Some (unwrap_or (slice_get xs k) d)
        held_at [] k d h = absurd (omega arith)
        held_at (x ∷ xs) zero d h = refl
        held_at (x ∷ xs) (suc k) d h = held_at xs k d (omega arith)

        room_of : size_of t < 2 ^ 32 → HasRoom f.records (blocks_in f)
        room_of small i h =
            let r = room t f tells i (record_at i f.records) (unwrap_or (slice_get (blocks_in f) i) []) (held_at f.records.targets i no_target (omega (arith, as_many t f tells))) (held_at (blocks_in f) i [] h) in
            omega (arith, r)

-- The blocks of a file that was read, where they are tested

module _ (bytes : List ℕ) (old : Records) (tables : List Numbered) (r : IsRead bytes old tables) where
  blocks_read : map (λ x. x.blocks) tables ≡ blocks_in r.file
  blocks_read = ap (map (λ (x : Numbered). x.blocks)) r.tables ∙ blocks_numbered r.file.tables

  failed : (e : Refusal) → (e ≡ refusal.NoMemory → ⊥) → IsBlockRefusal (map (λ x. x.blocks) tables) e → IsRefusal bytes e
  failed e apart (inl same) = absurd (apart same)
  failed e apart (inr h) = inr (r.document, r.text, inr (r.file, r.tells, inr (r.stage, inr (r.few, subst (λ ts. IsFirstOf ts tests e) blocks_read h))))

  pub refused : (e : Refusal) → IsBlockRefusal (map (λ x. x.blocks) tables) e → Loads bytes (Err e)
  refused (refusal.Json x) h = failed (refusal.Json x) (λ e. cc e) h
  refused (refusal.Shape path) h = failed (refusal.Shape path) (λ e. cc e) h
  refused (refusal.StageCount n) h = failed (refusal.StageCount n) (λ e. cc e) h
  refused (refusal.TooMany path) h = failed (refusal.TooMany path) (λ e. cc e) h
  refused (refusal.Mutation at why) h = failed (refusal.Mutation at why) (λ e. cc e) h
  refused (refusal.Dangling at to) h = failed (refusal.Dangling at to) (λ e. cc e) h
  refused (refusal.Cyclic at) h = failed (refusal.Cyclic at) (λ e. cc e) h
  refused (refusal.Opcode at name) h = failed (refusal.Opcode at name) (λ e. cc e) h
  refused (refusal.MissingInput at name) h = failed (refusal.MissingInput at name) (λ e. cc e) h
  refused (refusal.Field at name) h = failed (refusal.Field at name) (λ e. cc e) h
  refused (refusal.TooDeep at) h = failed (refusal.TooDeep at) (λ e. cc e) h
  refused refusal.NoMemory h = tt

  pub told : (new : Records) (refs : List (List (List Resolved))) (links : List Kept) → All (Passes (map (λ x. x.blocks) tables)) tests
      → AllZip IsKept (map (λ x. x.blocks) tables) links → Resolves links (map (λ x. x.blocks) tables) old new refs → IsTold bytes new tables refs
  told new refs links passes kept res =
      let blocks : List (List Block) = map (λ (x : Numbered). x.blocks) tables in
      let tells : TellsChecked (blocks_in r.file) res.checked = subst (λ ts. TellsChecked ts res.checked) blocks_read (tells_checked blocks links res.checked kept res.flags) in
      let found : Found (List (List (List Resolved))) = record { records = new; what = refs } in
      let is : found ≡ resolved_targets res.checked 0 (blocks_in r.file) r.file.records =
      sym res.is ∙ ap (λ ts. resolved_targets res.checked 0 ts old) blocks_read ∙ ap (resolved_targets res.checked 0 (blocks_in r.file)) r.records in record {
        file = r.file;
        accepted = record { document = r.document; text = r.text; tells = r.tells; well = record { stage = r.stage; few = r.few; blocks = subst (λ ts. All (Passes ts) tests) blocks_read passes } };
        tables = blocks_read;
        ids = ap (map (λ (x : Numbered). x.ids)) r.tables ∙ ids_numbered r.file.tables;
        program = record { checked = res.checked; tells = tells; is = ap (λ ts. program ts found) blocks_read ∙ ap (program (blocks_in r.file)) is };
        names = record { checked = res.checked; tells = tells; is = ap (λ f. f.what) is };
      }
