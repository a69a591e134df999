-- The text of the made project, a project of any size that the player makes itself: JSON without blanks. The stage's flag
-- broadcasts a message. Each copy of a sprite adds its number to the stage's variable n, ten times at the flag, and 1 at the message.
use Rattle.std.specs.Prelude.{ℕ, ◌+◌, ◌*◌, ◌==◌, if◌then◌else◌, List, [], ◌∷◌, ◌++◌, map, flat_map, codes}
use Rattle.std.specs.Fmt.{decimal}
use Rattle.std.specs.List.{concat, join_with_byte, range_with_len}
use Prim.Native.String.{String}

-- a text of the file, whose quotes are single ones here
abbrev pub text : String → List ℕ
text t = map (λ b. if b == 39 then 34 else b) (codes t)

-- a comma between each two
abbrev pub listed : List (List ℕ) → List ℕ
listed = join_with_byte 44

-- a block: its id, its opcode, the block below, its inputs, its fields, and whether it is a head
abbrev pub block : (id opcode next : String) → (inputs : List ℕ) → (fields head : String) → List ℕ
block id opcode next inputs fields head =
    concat (text "'" ∷ text id ∷ text "':{'opcode':'" ∷ text opcode ∷ text "','next':" ∷ text next ∷ text ",'inputs':" ∷ inputs
    ∷ text ",'fields':" ∷ text fields ∷ text ",'shadow':false,'topLevel':" ∷ text head ∷ text "}" ∷ [])

-- the blocks of the stage
abbrev pub stage_blocks : List (List ℕ)
stage_blocks =
    block "a1" "event_whenflagclicked" "'a2'" (text "{}") "{}" "true"
    ∷ block "a2" "event_broadcast" "null" (text "{'BROADCAST_INPUT':[1,[11,'a','m']]}") "{}" "false"
    ∷ []

-- the blocks of the copy of this number
abbrev pub copy_blocks : ℕ → List (List ℕ)
copy_blocks number =
    block "a1" "event_whenflagclicked" "'a2'" (text "{}") "{}" "true"
    ∷ block "a2" "control_repeat" "null" (text "{'TIMES':[1,[6,'10']],'SUBSTACK':[2,'a3']}") "{}" "false"
    ∷ block "a3" "data_changevariableby" "null" (concat (text "{'VALUE':[1,[4,'" ∷ decimal number ∷ text "']]}" ∷ [])) "{'VARIABLE':['n','v']}" "false"
    ∷ block "a4" "event_whenbroadcastreceived" "'a5'" (text "{}") "{'BROADCAST_OPTION':['a','m']}" "true"
    ∷ block "a5" "data_changevariableby" "null" (text "{'VALUE':[1,[4,'1']]}") "{'VARIABLE':['n','v']}" "false"
    ∷ []

abbrev pub stage : List ℕ
stage =
    concat (text "{'isStage':true,'name':'Stage','variables':{'v':['n',0]},'lists':{'k':['l',[]]},'broadcasts':{},'blocks':{"
    ∷ listed stage_blocks
    ∷ text "},'comments':{},'currentCostume':0"
    ∷ text ",'costumes':[{'name':'b1','dataFormat':'svg','assetId':'0','md5ext':'0.svg','rotationCenterX':240,'rotationCenterY':180}]"
    ∷ text ",'sounds':[{'name':'pop','assetId':'1','dataFormat':'wav','md5ext':'1.wav'}],'volume':100,'layerOrder':0,'tempo':60}"
    ∷ [])

-- the copy of this number
abbrev pub copy : ℕ → List ℕ
copy number =
    concat (text "{'isStage':false,'name':'s" ∷ decimal number ∷ text "','variables':{},'lists':{},'broadcasts':{},'blocks':{"
    ∷ listed (copy_blocks number)
    ∷ text "},'comments':{},'currentCostume':0,'costumes':[{'name':'c1','dataFormat':'svg','assetId':'2','md5ext':'2.svg'}]"
    ∷ text ",'sounds':[],'volume':100,'layerOrder':" ∷ decimal number ∷ text ",'visible':false,'x':0,'y':0,'size':100"
    ∷ text ",'direction':90,'draggable':false,'rotationStyle':'all around'}"
    ∷ [])

-- what stands behind the targets: the monitor of n, which is shown, and no more
abbrev pub made_end : List ℕ
made_end =
    text "],'monitors':[{'id':'v','mode':'default','opcode':'data_variable','params':{'VARIABLE':'n'},'spriteName':null,'value':0,'visible':true}]"
    ++ text ",'extensions':[],'meta':{'semver':'3.0.0'}}"

-- the project with the copies 1, 2, .. up to this number
abbrev pub made_project : ℕ → List ℕ
made_project copies = concat (text "{'targets':[" ∷ listed (stage ∷ map copy (range_with_len 1 copies)) ∷ made_end ∷ [])

-- the blocks of the whole project
abbrev pub made_blocks : ℕ → List (List ℕ)
made_blocks copies = stage_blocks ++ flat_map copy_blocks (range_with_len 1 copies)

-- how many there are
abbrev pub made_block_count : ℕ → ℕ
made_block_count copies = 5 * copies + 2
