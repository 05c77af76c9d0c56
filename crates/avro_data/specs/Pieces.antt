-- The text that pieces make.
use Rattle.std.specs.Prelude.{ℕ, List, decimal}
use Rattle.std.specs.List.{flat_map}
use Rattle.avro_data.specs.declared.pieces.Piece.{Piece}
use Rattle.avro_data.specs.declared.pieces.Piece.TheVariants as kinds

abbrev pub piece_text : Piece → List ℕ
piece_text (kinds.Fixed text) = text.now
piece_text (kinds.Shared text) = text
piece_text (kinds.Number n) = decimal n

-- the pieces, one after the other
abbrev pub pieces_text : List Piece → List ℕ
pieces_text pieces = flat_map piece_text pieces
