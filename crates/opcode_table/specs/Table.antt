-- The table of opcodes: the name of each, where a block of it stands, and the inputs, fields and branches that it has.
-- The names are those of getPrimitives and getHats in the block files of scratch-vm (blocks/scratch3_*.js), and the
-- blocks of a file of the Scratch 3 project file format (project.json) have them as `opcode`. In each row stand the
-- inputs and fields that the block's function in these files reads from its arguments. A `procedures_prototype`, which
-- only tells what a procedure is, is of the file format alone. The branches are the inputs SUBSTACK and SUBSTACK2.
use Rattle.std.specs.Prelude.{ℕ, List, [], ◌∷◌, Bool, true, false, Option, codes, bytes_eq}
use Rattle.std.specs.List.{find}
use Prim.Native.String.{String}
use Rattle.opcode_table.specs.declared.opcode.Opcode.{Opcode}
use Rattle.opcode_table.specs.declared.opcode.Opcode.TheVariants.{EventWhenFlagClicked, EventWhenThisSpriteClicked, EventWhenStageClicked, EventWhenBroadcastReceived, EventWhenBackdropSwitchesTo, EventWhenKeyPressed, ControlStartAsClone, EventWhenGreaterThan, ProceduresDefinition, ProceduresPrototype, ControlForever, ControlRepeat, ControlRepeatUntil, ControlIf, ControlIfElse, ControlWait, ControlWaitUntil, ControlStop, ControlCreateCloneOf, ControlDeleteThisClone, EventBroadcast, EventBroadcastAndWait, ProceduresCall, MotionMoveSteps, MotionTurnRight, MotionTurnLeft, MotionGoTo, MotionGoToXY, MotionGlideSecsToXY, MotionGlideTo, MotionPointInDirection, MotionPointTowards, MotionChangeXBy, MotionSetX, MotionChangeYBy, MotionSetY, MotionSetRotationStyle, MotionXPosition, MotionYPosition, MotionDirection, LooksSay, LooksThink, LooksSayForSecs, LooksThinkForSecs, LooksSwitchCostumeTo, LooksNextCostume, LooksSwitchBackdropTo, LooksSwitchBackdropToAndWait, LooksNextBackdrop, LooksChangeSizeBy, LooksSetSizeTo, LooksChangeEffectBy, LooksSetEffectTo, LooksClearGraphicEffects, LooksShow, LooksHide, LooksGoToFrontBack, LooksGoForwardBackwardLayers, LooksCostumeNumberName, LooksBackdropNumberName, LooksSize, SoundPlay, SoundPlayUntilDone, SoundStopAllSounds, SoundChangeEffectBy, SoundSetEffectTo, SoundClearEffects, SoundChangeVolumeBy, SoundSetVolumeTo, SoundVolume, SensingAskAndWait, SensingResetTimer, SensingTimer, SensingMouseX, SensingMouseY, SensingMouseDown, SensingAnswer, SensingKeyPressed, SensingDistanceTo, SensingOf, OperatorAdd, OperatorSubtract, OperatorMultiply, OperatorDivide, OperatorMod, OperatorRandom, OperatorGt, OperatorLt, OperatorEquals, OperatorAnd, OperatorOr, OperatorNot, OperatorJoin, OperatorLetterOf, OperatorLength, OperatorContains, OperatorRound, OperatorMathOp, DataVariable, DataSetVariableTo, DataChangeVariableBy, DataShowVariable, DataHideVariable, DataListContents, DataAddToList, DataDeleteOfList, DataDeleteAllOfList, DataInsertAtList, DataReplaceItemOfList, DataItemOfList, DataItemNumOfList, DataLengthOfList, DataListContainsItem, DataShowList, DataHideList, ArgumentReporterStringNumber, ArgumentReporterBoolean}
use Rattle.opcode_table.specs.declared.shape.Role.{Role}
use Rattle.opcode_table.specs.declared.shape.Role.TheVariants.{Hat, Definition, Prototype, Command, Reporter}

-- an input: its name, and whether a block has to have it
pub record Input : Type 0 where
  pub name : List ℕ
  pub required : Bool

-- what is known of an opcode: its name, its role, its inputs that are no branches, its fields, and how many branches
pub record Row : Type 0 where
  pub name : List ℕ
  pub role : Role
  pub inputs : List Input
  pub fields : List (List ℕ)
  pub branches : ℕ

-- an input that a block has to have
abbrev needs : String → Input
needs name = record { name = codes name; required = true }

-- an input of a truth, which is false where it is absent
abbrev may : String → Input
may name = record { name = codes name; required = false }

-- a row: the role, the name, the inputs, the fields, and how many branches
abbrev block : Role → String → List Input → List (List ℕ) → ℕ → Row
block role name inputs fields branches = record { name = codes name; role = role; inputs = inputs; fields = fields; branches = branches }

-- the row of each opcode
abbrev pub row : Opcode → Row
-- heads (getHats of blocks/scratch3_event.js and scratch3_control.js; blocks/scratch3_procedures.js)
row EventWhenFlagClicked = block Hat "event_whenflagclicked" [] [] 0
row EventWhenThisSpriteClicked = block Hat "event_whenthisspriteclicked" [] [] 0
row EventWhenStageClicked = block Hat "event_whenstageclicked" [] [] 0
row EventWhenBroadcastReceived = block Hat "event_whenbroadcastreceived" [] (codes "BROADCAST_OPTION" ∷ []) 0
row EventWhenBackdropSwitchesTo = block Hat "event_whenbackdropswitchesto" [] (codes "BACKDROP" ∷ []) 0
row EventWhenKeyPressed = block Hat "event_whenkeypressed" [] (codes "KEY_OPTION" ∷ []) 0
row ControlStartAsClone = block Hat "control_start_as_clone" [] [] 0
row EventWhenGreaterThan = block Hat "event_whengreaterthan" (needs "VALUE" ∷ []) (codes "WHENGREATERTHANMENU" ∷ []) 0
row ProceduresDefinition = block Definition "procedures_definition" (needs "custom_block" ∷ []) [] 0
row ProceduresPrototype = block Prototype "procedures_prototype" [] [] 0
-- control, events, procedures (blocks/scratch3_control.js, scratch3_event.js, scratch3_procedures.js)
row ControlForever = block Command "control_forever" [] [] 1
row ControlRepeat = block Command "control_repeat" (needs "TIMES" ∷ []) [] 1
row ControlRepeatUntil = block Command "control_repeat_until" (may "CONDITION" ∷ []) [] 1
row ControlIf = block Command "control_if" (may "CONDITION" ∷ []) [] 1
row ControlIfElse = block Command "control_if_else" (may "CONDITION" ∷ []) [] 2
row ControlWait = block Command "control_wait" (needs "DURATION" ∷ []) [] 0
row ControlWaitUntil = block Command "control_wait_until" (may "CONDITION" ∷ []) [] 0
row ControlStop = block Command "control_stop" [] (codes "STOP_OPTION" ∷ []) 0
row ControlCreateCloneOf = block Command "control_create_clone_of" (needs "CLONE_OPTION" ∷ []) [] 0
row ControlDeleteThisClone = block Command "control_delete_this_clone" [] [] 0
row EventBroadcast = block Command "event_broadcast" (needs "BROADCAST_INPUT" ∷ []) [] 0
row EventBroadcastAndWait = block Command "event_broadcastandwait" (needs "BROADCAST_INPUT" ∷ []) [] 0
row ProceduresCall = block Command "procedures_call" [] [] 0
-- motion (blocks/scratch3_motion.js)
row MotionMoveSteps = block Command "motion_movesteps" (needs "STEPS" ∷ []) [] 0
row MotionTurnRight = block Command "motion_turnright" (needs "DEGREES" ∷ []) [] 0
row MotionTurnLeft = block Command "motion_turnleft" (needs "DEGREES" ∷ []) [] 0
row MotionGoTo = block Command "motion_goto" (needs "TO" ∷ []) [] 0
row MotionGoToXY = block Command "motion_gotoxy" (needs "X" ∷ needs "Y" ∷ []) [] 0
row MotionGlideSecsToXY = block Command "motion_glidesecstoxy" (needs "SECS" ∷ needs "X" ∷ needs "Y" ∷ []) [] 0
row MotionGlideTo = block Command "motion_glideto" (needs "SECS" ∷ needs "TO" ∷ []) [] 0
row MotionPointInDirection = block Command "motion_pointindirection" (needs "DIRECTION" ∷ []) [] 0
row MotionPointTowards = block Command "motion_pointtowards" (needs "TOWARDS" ∷ []) [] 0
row MotionChangeXBy = block Command "motion_changexby" (needs "DX" ∷ []) [] 0
row MotionSetX = block Command "motion_setx" (needs "X" ∷ []) [] 0
row MotionChangeYBy = block Command "motion_changeyby" (needs "DY" ∷ []) [] 0
row MotionSetY = block Command "motion_sety" (needs "Y" ∷ []) [] 0
row MotionSetRotationStyle = block Command "motion_setrotationstyle" [] (codes "STYLE" ∷ []) 0
row MotionXPosition = block Reporter "motion_xposition" [] [] 0
row MotionYPosition = block Reporter "motion_yposition" [] [] 0
row MotionDirection = block Reporter "motion_direction" [] [] 0
-- looks (blocks/scratch3_looks.js)
row LooksSay = block Command "looks_say" (needs "MESSAGE" ∷ []) [] 0
row LooksThink = block Command "looks_think" (needs "MESSAGE" ∷ []) [] 0
row LooksSayForSecs = block Command "looks_sayforsecs" (needs "MESSAGE" ∷ needs "SECS" ∷ []) [] 0
row LooksThinkForSecs = block Command "looks_thinkforsecs" (needs "MESSAGE" ∷ needs "SECS" ∷ []) [] 0
row LooksSwitchCostumeTo = block Command "looks_switchcostumeto" (needs "COSTUME" ∷ []) [] 0
row LooksNextCostume = block Command "looks_nextcostume" [] [] 0
row LooksSwitchBackdropTo = block Command "looks_switchbackdropto" (needs "BACKDROP" ∷ []) [] 0
row LooksSwitchBackdropToAndWait = block Command "looks_switchbackdroptoandwait" (needs "BACKDROP" ∷ []) [] 0
row LooksNextBackdrop = block Command "looks_nextbackdrop" [] [] 0
row LooksChangeSizeBy = block Command "looks_changesizeby" (needs "CHANGE" ∷ []) [] 0
row LooksSetSizeTo = block Command "looks_setsizeto" (needs "SIZE" ∷ []) [] 0
row LooksChangeEffectBy = block Command "looks_changeeffectby" (needs "CHANGE" ∷ []) (codes "EFFECT" ∷ []) 0
row LooksSetEffectTo = block Command "looks_seteffectto" (needs "VALUE" ∷ []) (codes "EFFECT" ∷ []) 0
row LooksClearGraphicEffects = block Command "looks_cleargraphiceffects" [] [] 0
row LooksShow = block Command "looks_show" [] [] 0
row LooksHide = block Command "looks_hide" [] [] 0
row LooksGoToFrontBack = block Command "looks_gotofrontback" [] (codes "FRONT_BACK" ∷ []) 0
row LooksGoForwardBackwardLayers = block Command "looks_goforwardbackwardlayers" (needs "NUM" ∷ []) (codes "FORWARD_BACKWARD" ∷ []) 0
row LooksCostumeNumberName = block Reporter "looks_costumenumbername" [] (codes "NUMBER_NAME" ∷ []) 0
row LooksBackdropNumberName = block Reporter "looks_backdropnumbername" [] (codes "NUMBER_NAME" ∷ []) 0
row LooksSize = block Reporter "looks_size" [] [] 0
-- sound (blocks/scratch3_sound.js)
row SoundPlay = block Command "sound_play" (needs "SOUND_MENU" ∷ []) [] 0
row SoundPlayUntilDone = block Command "sound_playuntildone" (needs "SOUND_MENU" ∷ []) [] 0
row SoundStopAllSounds = block Command "sound_stopallsounds" [] [] 0
row SoundChangeEffectBy = block Command "sound_changeeffectby" (needs "VALUE" ∷ []) (codes "EFFECT" ∷ []) 0
row SoundSetEffectTo = block Command "sound_seteffectto" (needs "VALUE" ∷ []) (codes "EFFECT" ∷ []) 0
row SoundClearEffects = block Command "sound_cleareffects" [] [] 0
row SoundChangeVolumeBy = block Command "sound_changevolumeby" (needs "VOLUME" ∷ []) [] 0
row SoundSetVolumeTo = block Command "sound_setvolumeto" (needs "VOLUME" ∷ []) [] 0
row SoundVolume = block Reporter "sound_volume" [] [] 0
-- sensing (blocks/scratch3_sensing.js)
row SensingAskAndWait = block Command "sensing_askandwait" (needs "QUESTION" ∷ []) [] 0
row SensingResetTimer = block Command "sensing_resettimer" [] [] 0
row SensingTimer = block Reporter "sensing_timer" [] [] 0
row SensingMouseX = block Reporter "sensing_mousex" [] [] 0
row SensingMouseY = block Reporter "sensing_mousey" [] [] 0
row SensingMouseDown = block Reporter "sensing_mousedown" [] [] 0
row SensingAnswer = block Reporter "sensing_answer" [] [] 0
row SensingKeyPressed = block Reporter "sensing_keypressed" (needs "KEY_OPTION" ∷ []) [] 0
row SensingDistanceTo = block Reporter "sensing_distanceto" (needs "DISTANCETOMENU" ∷ []) [] 0
row SensingOf = block Reporter "sensing_of" (needs "OBJECT" ∷ []) (codes "PROPERTY" ∷ []) 0
-- operators (blocks/scratch3_operators.js)
row OperatorAdd = block Reporter "operator_add" (needs "NUM1" ∷ needs "NUM2" ∷ []) [] 0
row OperatorSubtract = block Reporter "operator_subtract" (needs "NUM1" ∷ needs "NUM2" ∷ []) [] 0
row OperatorMultiply = block Reporter "operator_multiply" (needs "NUM1" ∷ needs "NUM2" ∷ []) [] 0
row OperatorDivide = block Reporter "operator_divide" (needs "NUM1" ∷ needs "NUM2" ∷ []) [] 0
row OperatorMod = block Reporter "operator_mod" (needs "NUM1" ∷ needs "NUM2" ∷ []) [] 0
row OperatorRandom = block Reporter "operator_random" (needs "FROM" ∷ needs "TO" ∷ []) [] 0
row OperatorGt = block Reporter "operator_gt" (needs "OPERAND1" ∷ needs "OPERAND2" ∷ []) [] 0
row OperatorLt = block Reporter "operator_lt" (needs "OPERAND1" ∷ needs "OPERAND2" ∷ []) [] 0
row OperatorEquals = block Reporter "operator_equals" (needs "OPERAND1" ∷ needs "OPERAND2" ∷ []) [] 0
row OperatorAnd = block Reporter "operator_and" (may "OPERAND1" ∷ may "OPERAND2" ∷ []) [] 0
row OperatorOr = block Reporter "operator_or" (may "OPERAND1" ∷ may "OPERAND2" ∷ []) [] 0
row OperatorNot = block Reporter "operator_not" (may "OPERAND" ∷ []) [] 0
row OperatorJoin = block Reporter "operator_join" (needs "STRING1" ∷ needs "STRING2" ∷ []) [] 0
row OperatorLetterOf = block Reporter "operator_letter_of" (needs "LETTER" ∷ needs "STRING" ∷ []) [] 0
row OperatorLength = block Reporter "operator_length" (needs "STRING" ∷ []) [] 0
row OperatorContains = block Reporter "operator_contains" (needs "STRING1" ∷ needs "STRING2" ∷ []) [] 0
row OperatorRound = block Reporter "operator_round" (needs "NUM" ∷ []) [] 0
row OperatorMathOp = block Reporter "operator_mathop" (needs "NUM" ∷ []) (codes "OPERATOR" ∷ []) 0
-- data (blocks/scratch3_data.js)
row DataVariable = block Reporter "data_variable" [] (codes "VARIABLE" ∷ []) 0
row DataSetVariableTo = block Command "data_setvariableto" (needs "VALUE" ∷ []) (codes "VARIABLE" ∷ []) 0
row DataChangeVariableBy = block Command "data_changevariableby" (needs "VALUE" ∷ []) (codes "VARIABLE" ∷ []) 0
row DataShowVariable = block Command "data_showvariable" [] (codes "VARIABLE" ∷ []) 0
row DataHideVariable = block Command "data_hidevariable" [] (codes "VARIABLE" ∷ []) 0
row DataListContents = block Reporter "data_listcontents" [] (codes "LIST" ∷ []) 0
row DataAddToList = block Command "data_addtolist" (needs "ITEM" ∷ []) (codes "LIST" ∷ []) 0
row DataDeleteOfList = block Command "data_deleteoflist" (needs "INDEX" ∷ []) (codes "LIST" ∷ []) 0
row DataDeleteAllOfList = block Command "data_deletealloflist" [] (codes "LIST" ∷ []) 0
row DataInsertAtList = block Command "data_insertatlist" (needs "INDEX" ∷ needs "ITEM" ∷ []) (codes "LIST" ∷ []) 0
row DataReplaceItemOfList = block Command "data_replaceitemoflist" (needs "INDEX" ∷ needs "ITEM" ∷ []) (codes "LIST" ∷ []) 0
row DataItemOfList = block Reporter "data_itemoflist" (needs "INDEX" ∷ []) (codes "LIST" ∷ []) 0
row DataItemNumOfList = block Reporter "data_itemnumoflist" (needs "ITEM" ∷ []) (codes "LIST" ∷ []) 0
row DataLengthOfList = block Reporter "data_lengthoflist" [] (codes "LIST" ∷ []) 0
row DataListContainsItem = block Reporter "data_listcontainsitem" (needs "ITEM" ∷ []) (codes "LIST" ∷ []) 0
row DataShowList = block Command "data_showlist" [] (codes "LIST" ∷ []) 0
row DataHideList = block Command "data_hidelist" [] (codes "LIST" ∷ []) 0
-- arguments (blocks/scratch3_procedures.js)
row ArgumentReporterStringNumber = block Reporter "argument_reporter_string_number" [] (codes "VALUE" ∷ []) 0
row ArgumentReporterBoolean = block Reporter "argument_reporter_boolean" [] (codes "VALUE" ∷ []) 0

-- all opcodes
abbrev pub opcodes : List Opcode
opcodes =
    EventWhenFlagClicked ∷ EventWhenThisSpriteClicked ∷ EventWhenStageClicked ∷ EventWhenBroadcastReceived ∷
    EventWhenBackdropSwitchesTo ∷ EventWhenKeyPressed ∷ ControlStartAsClone ∷ EventWhenGreaterThan ∷
    ProceduresDefinition ∷ ProceduresPrototype ∷ ControlForever ∷ ControlRepeat ∷ ControlRepeatUntil ∷ ControlIf ∷
    ControlIfElse ∷ ControlWait ∷ ControlWaitUntil ∷ ControlStop ∷ ControlCreateCloneOf ∷ ControlDeleteThisClone ∷
    EventBroadcast ∷ EventBroadcastAndWait ∷ ProceduresCall ∷ MotionMoveSteps ∷ MotionTurnRight ∷ MotionTurnLeft ∷
    MotionGoTo ∷ MotionGoToXY ∷ MotionGlideSecsToXY ∷ MotionGlideTo ∷ MotionPointInDirection ∷ MotionPointTowards ∷
    MotionChangeXBy ∷ MotionSetX ∷ MotionChangeYBy ∷ MotionSetY ∷ MotionSetRotationStyle ∷ MotionXPosition ∷
    MotionYPosition ∷ MotionDirection ∷ LooksSay ∷ LooksThink ∷ LooksSayForSecs ∷ LooksThinkForSecs ∷
    LooksSwitchCostumeTo ∷ LooksNextCostume ∷ LooksSwitchBackdropTo ∷ LooksSwitchBackdropToAndWait ∷
    LooksNextBackdrop ∷ LooksChangeSizeBy ∷ LooksSetSizeTo ∷ LooksChangeEffectBy ∷ LooksSetEffectTo ∷
    LooksClearGraphicEffects ∷ LooksShow ∷ LooksHide ∷ LooksGoToFrontBack ∷ LooksGoForwardBackwardLayers ∷
    LooksCostumeNumberName ∷ LooksBackdropNumberName ∷ LooksSize ∷ SoundPlay ∷ SoundPlayUntilDone ∷
    SoundStopAllSounds ∷ SoundChangeEffectBy ∷ SoundSetEffectTo ∷ SoundClearEffects ∷ SoundChangeVolumeBy ∷
    SoundSetVolumeTo ∷ SoundVolume ∷ SensingAskAndWait ∷ SensingResetTimer ∷ SensingTimer ∷ SensingMouseX ∷
    SensingMouseY ∷ SensingMouseDown ∷ SensingAnswer ∷ SensingKeyPressed ∷ SensingDistanceTo ∷ SensingOf ∷
    OperatorAdd ∷ OperatorSubtract ∷ OperatorMultiply ∷ OperatorDivide ∷ OperatorMod ∷ OperatorRandom ∷ OperatorGt ∷
    OperatorLt ∷ OperatorEquals ∷ OperatorAnd ∷ OperatorOr ∷ OperatorNot ∷ OperatorJoin ∷ OperatorLetterOf ∷
    OperatorLength ∷ OperatorContains ∷ OperatorRound ∷ OperatorMathOp ∷ DataVariable ∷ DataSetVariableTo ∷
    DataChangeVariableBy ∷ DataShowVariable ∷ DataHideVariable ∷ DataListContents ∷ DataAddToList ∷ DataDeleteOfList ∷
    DataDeleteAllOfList ∷ DataInsertAtList ∷ DataReplaceItemOfList ∷ DataItemOfList ∷ DataItemNumOfList ∷
    DataLengthOfList ∷ DataListContainsItem ∷ DataShowList ∷ DataHideList ∷ ArgumentReporterStringNumber ∷
    ArgumentReporterBoolean ∷ []

-- the opcode of a name
abbrev pub of_name : List ℕ → Option Opcode
of_name name = find (λ op. bytes_eq (row op).name name) opcodes
