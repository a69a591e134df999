-- THE TEXT of a report, line by line. Names, ids and paths are quoted as texts are in the text of a frame.
use Rattle.std.specs.Prelude.{ℕ, List, [], ◌∷◌, ◌++◌, codes, unwrap_or, Option}
use Rattle.std.specs.Fmt.{decimal}
use Rattle.project_json.specs.Tree.{Tree}
use Rattle.project_json.specs.declared.refusal.JsonRefusal.TheVariants as json_refusal
use Rattle.machine_spec.specs.FrameText.{quoted}
use Rattle.project_spec.specs.declared.refusals.At.{At}
use Rattle.project_spec.specs.declared.refusals.Refusal.{Refusal}
use Rattle.project_spec.specs.declared.refusals.Refusal.TheVariants as refusal
use Rattle.report_command.specs.declared.counts.Counts.{Counts}
use Rattle.project_spec.specs.RuleNames.{project_rule}
use Rattle.report_command.specs.Advice.{why, change}
use Rattle.report_command.specs.Lines.{line}
use Rattle.report_command.specs.Places.{target_at, kind_of, name_of, block_at, id_of, opcode_of}

-- A project that loads

abbrev pub accepted_text : Counts → List ℕ
accepted_text c =
    codes "The project loads.\n"
    ++ (line (codes "Stage and sprites: ") (decimal c.targets)
    ++ (line (codes "Scripts: ") (decimal c.scripts)
    ++ (line (codes "Blocks: ") (decimal c.blocks)
    ++ line (codes "Loose blocks, in no script: ") (decimal c.loose))))

-- A project that is refused

-- the sprite, and the id of a block of it
abbrev pub block_place : Option Tree → At → List ℕ
block_place document at =
    let target = target_at at.target document in
    kind_of target ++ (32 ∷ quoted (name_of target) ++ (codes ", block " ++ quoted (id_of (block_at at.block target))))

-- and its opcode
abbrev pub opcode_place : Option Tree → At → List ℕ
opcode_place document at = block_place document at ++ (codes ", opcode " ++ quoted (opcode_of (block_at at.block (target_at at.target document))))

-- where it is refused
abbrev pub place : Option Tree → Refusal → List ℕ
place document (refusal.Json (json_refusal.NotUtf8 at)) = codes "byte " ++ decimal at
place document (refusal.Json (json_refusal.Syntax at)) = codes "byte " ++ decimal at
place document (refusal.Json (json_refusal.TooDeep at)) = codes "byte " ++ decimal at
place document (refusal.Json json_refusal.NoMemory) = []
place document (refusal.Shape path) = codes "path " ++ quoted path
place document (refusal.StageCount n) = codes "targets that are a stage, " ++ decimal n
place document (refusal.TooMany path) = codes "path " ++ quoted path
place document (refusal.Mutation at why) = opcode_place document at
place document (refusal.Dangling at to) = opcode_place document at ++ (codes ", link to " ++ quoted to)
place document (refusal.Cyclic at) = opcode_place document at
place document (refusal.Opcode at name) = block_place document at ++ (codes ", opcode " ++ quoted name)
place document (refusal.MissingInput at input) = opcode_place document at ++ (codes ", input " ++ quoted input)
place document (refusal.Field at field) = opcode_place document at ++ (codes ", field " ++ quoted field)
place document (refusal.TooDeep at) = opcode_place document at
place document refusal.NoMemory = []

abbrev pub rule_line : Refusal → List ℕ
rule_line r = line (codes "The project does not load, by rule ") (unwrap_or (project_rule r) [])

abbrev pub place_line : Option Tree → Refusal → List ℕ
place_line document r = line (codes "Where: ") (place document r)

abbrev pub advice_lines : Refusal → List ℕ
advice_lines r = line (codes "Why: ") (why r) ++ line (codes "What to change: ") (change r)

-- the rule, where, why, and what to change
abbrev pub refusal_text : Option Tree → Refusal → List ℕ
refusal_text document r = rule_line r ++ (place_line document r ++ advice_lines r)
