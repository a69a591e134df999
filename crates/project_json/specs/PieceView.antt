-- The piece that a value stands for.
use Rattle.project_json.specs.Strings.{Piece, byte, unit}
use Rattle.project_json.specs.declared.pieces.Piece.{Piece as PieceValue}
use Rattle.project_json.specs.declared.pieces.Piece.TheVariants as value

abbrev pub piece_of : PieceValue → Piece
piece_of (value.Byte b) = byte b
piece_of (value.Unit u) = unit u
