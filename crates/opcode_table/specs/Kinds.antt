-- The group of a command, the kind of a hat, and what a command does with its thread.
use Rattle.opcode_table.specs.declared.opcode.Opcode.{Opcode}
use Rattle.opcode_table.specs.declared.opcode.Opcode.TheVariants.{EventWhenFlagClicked, EventWhenThisSpriteClicked, EventWhenStageClicked, EventWhenBroadcastReceived, EventWhenBackdropSwitchesTo, EventWhenKeyPressed, ControlStartAsClone, EventWhenGreaterThan, ControlForever, ControlRepeat, ControlRepeatUntil, ControlIf, ControlIfElse, ControlWait, EventBroadcastAndWait, ProceduresCall, MotionMoveSteps, MotionTurnRight, MotionTurnLeft, MotionGoTo, MotionGoToXY, MotionGlideSecsToXY, MotionGlideTo, MotionPointInDirection, MotionPointTowards, MotionChangeXBy, MotionSetX, MotionChangeYBy, MotionSetY, MotionSetRotationStyle, LooksSay, LooksThink, LooksSayForSecs, LooksThinkForSecs, LooksSwitchCostumeTo, LooksNextCostume, LooksSwitchBackdropTo, LooksSwitchBackdropToAndWait, LooksNextBackdrop, LooksChangeSizeBy, LooksSetSizeTo, LooksChangeEffectBy, LooksSetEffectTo, LooksClearGraphicEffects, LooksShow, LooksHide, LooksGoToFrontBack, LooksGoForwardBackwardLayers, SoundPlay, SoundPlayUntilDone, SoundStopAllSounds, SoundChangeEffectBy, SoundSetEffectTo, SoundClearEffects, SoundChangeVolumeBy, SoundSetVolumeTo, SensingAskAndWait, DataSetVariableTo, DataChangeVariableBy, DataShowVariable, DataHideVariable, DataAddToList, DataDeleteOfList, DataDeleteAllOfList, DataInsertAtList, DataReplaceItemOfList, DataShowList, DataHideList}
use Rattle.opcode_table.specs.declared.groups.Group.{Group}
use Rattle.opcode_table.specs.declared.groups.Group.TheVariants.{Motion, Looks, Data, Control}
use Rattle.opcode_table.specs.declared.hats.HatKind.{HatKind}
use Rattle.opcode_table.specs.declared.hats.HatKind.TheVariants.{FlagHat, SpriteHat, StageHat, MessageHat, BackdropHat, KeyHat, CloneHat, EdgeHat, NoHat}
use Rattle.opcode_table.specs.declared.kinds.Kind.{Kind}
use Rattle.opcode_table.specs.declared.kinds.Kind.TheVariants.{Choice, Endless, Counted, Calls, Waits, Glides, Starts, Asks, Speaks, Plain}

-- the commands of motion, of looks and sound, and of data; all others are of control (scratch-vm, the block files
-- blocks/scratch3_motion.js, scratch3_looks.js, scratch3_sound.js and scratch3_data.js)
abbrev pub group : Opcode → Group
group MotionMoveSteps = Motion
group MotionTurnRight = Motion
group MotionTurnLeft = Motion
group MotionGoTo = Motion
group MotionGoToXY = Motion
group MotionGlideSecsToXY = Motion
group MotionGlideTo = Motion
group MotionPointInDirection = Motion
group MotionPointTowards = Motion
group MotionChangeXBy = Motion
group MotionSetX = Motion
group MotionChangeYBy = Motion
group MotionSetY = Motion
group MotionSetRotationStyle = Motion
group LooksSay = Looks
group LooksThink = Looks
group LooksSayForSecs = Looks
group LooksThinkForSecs = Looks
group LooksSwitchCostumeTo = Looks
group LooksNextCostume = Looks
group LooksSwitchBackdropTo = Looks
group LooksSwitchBackdropToAndWait = Looks
group LooksNextBackdrop = Looks
group LooksChangeSizeBy = Looks
group LooksSetSizeTo = Looks
group LooksChangeEffectBy = Looks
group LooksSetEffectTo = Looks
group LooksClearGraphicEffects = Looks
group LooksShow = Looks
group LooksHide = Looks
group LooksGoToFrontBack = Looks
group LooksGoForwardBackwardLayers = Looks
group SoundPlay = Looks
group SoundPlayUntilDone = Looks
group SoundStopAllSounds = Looks
group SoundChangeEffectBy = Looks
group SoundSetEffectTo = Looks
group SoundClearEffects = Looks
group SoundChangeVolumeBy = Looks
group SoundSetVolumeTo = Looks
group DataSetVariableTo = Data
group DataChangeVariableBy = Data
group DataShowVariable = Data
group DataHideVariable = Data
group DataAddToList = Data
group DataDeleteOfList = Data
group DataDeleteAllOfList = Data
group DataInsertAtList = Data
group DataReplaceItemOfList = Data
group DataShowList = Data
group DataHideList = Data
group _ = Control

-- what starts the scripts under a hat (scratch-vm, getHats of blocks/scratch3_event.js and scratch3_control.js)
abbrev pub hat_kind : Opcode → HatKind
hat_kind EventWhenFlagClicked = FlagHat
hat_kind EventWhenThisSpriteClicked = SpriteHat
hat_kind EventWhenStageClicked = StageHat
hat_kind EventWhenBroadcastReceived = MessageHat
hat_kind EventWhenBackdropSwitchesTo = BackdropHat
hat_kind EventWhenKeyPressed = KeyHat
hat_kind ControlStartAsClone = CloneHat
hat_kind EventWhenGreaterThan = EdgeHat
hat_kind _ = NoHat

-- what a command does with its thread, of which the rules on loops, calls and waits speak (scratch-vm, the calls of
-- startBranch, startProcedure, yield and startHats, and the promises, in blocks/scratch3_*.js)
abbrev pub kind : Opcode → Kind
kind ControlIf = Choice
kind ControlIfElse = Choice
kind ControlForever = Endless
kind ControlRepeatUntil = Endless
kind ControlRepeat = Counted
kind ProceduresCall = Calls
kind ControlWait = Waits
kind MotionGlideSecsToXY = Glides
kind MotionGlideTo = Glides
kind EventBroadcastAndWait = Starts
kind LooksSwitchBackdropToAndWait = Starts
kind SensingAskAndWait = Asks
kind LooksSayForSecs = Speaks
kind LooksThinkForSecs = Speaks
kind _ = Plain
