-- The text of a copy as the pieces that stand between its numbers.
use Rattle.std.proofs.Common.{◌≡◌, ℕ, List, [], ◌∷◌, ◌++◌, ◌∙◌, ap, append_assoc}
use Rattle.std.specs.Fmt.{decimal}
use Rattle.std.specs.List.{concat}
use Rattle.made_texts.specs.MadeProject.{text, block, copy}

-- up to the first number; then up to the second; behind that number, the rest of its inputs, of its block, and of the blocks
abbrev first : List ℕ
first = text "{'isStage':false,'name':'s"

abbrev second : List ℕ
second =
    concat (text "','variables':{},'lists':{},'broadcasts':{},'blocks':{"
    ∷ block "a1" "event_whenflagclicked" "'a2'" (text "{}") "{}" "true"
    ∷ text ","
    ∷ block "a2" "control_repeat" "null" (text "{'TIMES':[1,[6,'10']],'SUBSTACK':[2,'a3']}") "{}" "false"
    ∷ text ",'a3':{'opcode':'data_changevariableby','next':null,'inputs':{'VALUE':[1,[4,'"
    ∷ [])

abbrev inputs_end : List ℕ
inputs_end = text "']]}"

abbrev block_end : List ℕ
block_end = text ",'fields':{'VARIABLE':['n','v']},'shadow':false,'topLevel':false}"

abbrev blocks_end : List ℕ
blocks_end =
    concat (text ","
    ∷ block "a4" "event_whenbroadcastreceived" "'a5'" (text "{}") "{'BROADCAST_OPTION':['a','m']}" "true"
    ∷ text ","
    ∷ block "a5" "data_changevariableby" "null" (text "{'VALUE':[1,[4,'1']]}") "{'VARIABLE':['n','v']}" "false"
    ∷ [])

-- from the end of the blocks on
abbrev tail_with : List ℕ → List ℕ
tail_with d =
    concat (text "},'comments':{},'currentCostume':0,'costumes':[{'name':'c1','dataFormat':'svg','assetId':'2','md5ext':'2.svg'}]"
    ∷ text ",'sounds':[],'volume':100,'layerOrder':" ∷ d ∷ text ",'visible':false,'x':0,'y':0,'size':100"
    ∷ text ",'direction':90,'draggable':false,'rotationStyle':'all around'}"
    ∷ [])

-- the copy whose number has these digits
abbrev pub copy_with : List ℕ → List ℕ
copy_with d = first ++ (d ++ (second ++ (d ++ (inputs_end ++ (block_end ++ (blocks_end ++ tail_with d))))))

grouped : (d a b c e : List ℕ) → (((d ++ a) ++ b) ++ c) ++ e ≡ d ++ (a ++ (b ++ (c ++ e)))
grouped d a b c e = append_assoc ((d ++ a) ++ b) c e ∙ append_assoc (d ++ a) b (c ++ e) ∙ append_assoc d a (b ++ (c ++ e))

pub copy-copy_with : (number : ℕ) → copy number ≡ copy_with (decimal number)
copy-copy_with number =
    let d = decimal number in
    ap (λ s. first ++ (d ++ (second ++ s))) (grouped d inputs_end block_end blocks_end (tail_with d))
