-- Roles against kinds and groups, tried for each opcode.
use Rattle.std.specs.Prelude.{◌≡◌, ◌≢◌}
use Rattle.opcode_table.specs.declared.opcode.Opcode.{Opcode}
use Rattle.opcode_table.specs.declared.opcode.Opcode.TheVariants.{EventWhenFlagClicked}
use Rattle.opcode_table.specs.declared.groups.Group.{Group}
use Rattle.opcode_table.specs.declared.hats.HatKind.{HatKind}
use Rattle.opcode_table.specs.declared.kinds.Kind.{Kind}
use Rattle.opcode_table.specs.declared.shape.Role.{Role}
use Rattle.opcode_table.specs.Kinds.{group, hat_kind, kind}
use Rattle.opcode_table.specs.Table.{row}

pub hat_known : (op : Opcode) → (row op).role ≡ Role.Hat → hat_kind op ≢ HatKind.NoHat
hat_known EventWhenFlagClicked = λ e n. cc
hat_known _ = λ e n. cc

pub hat_only : (op : Opcode) → hat_kind op ≢ HatKind.NoHat → (row op).role ≡ Role.Hat
hat_only EventWhenFlagClicked = λ n. search
hat_only _ = λ n. search

pub group_command : (op : Opcode) → group op ≢ Group.Control → (row op).role ≡ Role.Command
group_command EventWhenFlagClicked = λ n. search
group_command _ = λ n. search

pub kind_command : (op : Opcode) → kind op ≢ Kind.Plain → (row op).role ≡ Role.Command
kind_command EventWhenFlagClicked = λ n. search
kind_command _ = λ n. search
