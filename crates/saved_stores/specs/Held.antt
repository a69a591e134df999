-- What is needed of the parts of a text for the stores to be made of them; private functions alone cite it.
use Rattle.std.specs.Prelude.{◌≡◌, ℕ, ◌<◌, ◌≤◌, ◌^◌, nat_lt, unsigned_abs, Bool, true}
use Rattle.std.specs.List.{All, list_all}
use Rattle.machine_spec.specs.BubbleText.{IsShort}
use Rattle.variables.specs.Parts.{AreStores}
use Rattle.saved_parts.specs.declared.instances.ToldInstance.{ToldInstance}
use Rattle.saved_parts.specs.declared.run.ToldMade.{ToldMade}
use Rattle.saved_parts.specs.Telling.{shown_of, store_of}
use Rattle.project_spec.specs.Basis.{Basis}
use Rattle.saved_spec.specs.Rules.{has_short_texts, is_shown, is_value_text}
use Rattle.saved_stores.specs.declared.told_parts.ToldDevices.{ToldDevices}
use Rattle.saved_stores.specs.declared.told_parts.ToldStores.{ToldStores}
use Rattle.saved_stores.specs.Stores.{variables_in}

-- the number of a block, with what was recorded for it, is one that a block can have
abbrev pub is_numbered : ℕ × Bool → Bool
is_numbered e = nat_lt e.0 (2 ^ 32)

-- an instance has a target, a costume and recorded edges with numbers that there can be, and no text of it is too long
pub record IsHeld (i : ToldInstance) : Type 0 where
  pub target : i.of < 2 ^ 32
  pub look : i.costume < 2 ^ 32
  pub says : IsShort i.bubble.text
  pub numbered : list_all is_numbered i.edges ≡ true
  pub texts : has_short_texts (store_of i) ≡ true

-- a monitor shows a variable or list of the file
abbrev pub is_of : Basis → ToldMade → Bool
is_of b m = is_shown b (shown_of m.is_list m.target m.index)

-- the mouse is on the stage, no text of the devices is too long, and the counter of bubble updates has room
pub record AreDevices (d : ToldDevices) : Type 0 where
  pub across : unsigned_abs d.mouse.x ≤ 240
  pub up : unsigned_abs d.mouse.y ≤ 180
  pub answered : is_value_text d.answer ≡ true
  pub asked : list_all (λ q. is_value_text q.text) d.questions ≡ true
  pub counted : d.usage < 2 ^ 62

-- all parts are so, and the stores are those of different instances, with no list too long
pub record AreHeld (b : Basis) (s : ToldStores) : Type 0 where
  pub instances : All IsHeld s.instances
  pub stores : AreStores (variables_in s).stores
  pub made : list_all (is_of b) s.made ≡ true
  pub devices : AreDevices s.devices
