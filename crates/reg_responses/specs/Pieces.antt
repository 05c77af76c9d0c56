-- Private: the pieces of a response.
use Rattle.std.specs.Prelude.{ℕ, List, [], ◌∷◌, ◌++◌, codes, decimal}
use Rattle.std.specs.List.{flat_map}
use Rattle.json.specs.Print.{quoted}
use Rattle.serde_json.specs.Data.{string, object, member, no_members}
use Rattle.serde_json.specs.Written.{compact_text}
use Rattle.reg_lookup.specs.Bodies.{number_data}
use Rattle.reg_lookup.specs.declared.answered.Answer.{Answer}
use Rattle.reg_responses.specs.declared.pieces.Piece.{Piece}
use Rattle.reg_responses.specs.declared.pieces.Piece.TheVariants as pieces

-- a comma before each number
abbrev pub listed_more : List ℕ → List ℕ
listed_more numbers = flat_map (λ n. 44 ∷ decimal n) numbers

-- numbers, parted by commas
abbrev pub listed : List ℕ → List ℕ
listed [] = []
listed (n ∷ numbers) = decimal n ++ listed_more numbers

abbrev pub piece_text : Piece → List ℕ
piece_text (pieces.Text text) = text.now
piece_text (pieces.Number n) = decimal n
piece_text (pieces.Quoted text) = quoted text.now
piece_text (pieces.Listed numbers) = listed numbers.now

-- the pieces, one after the other
abbrev pub pieces_text : List Piece → List ℕ
pieces_text pieces = flat_map piece_text pieces

-- the answer of that status, whose body has these pieces
abbrev pub answer_in : ℕ → List Piece → Answer
answer_in status pieces = record { status = status; body = pieces_text pieces }

-- the body that tells a code and a message
abbrev pub error_body : ℕ → List ℕ → List ℕ
error_body code message =
    compact_text (object (member (codes "error_code") (number_data code) (member (codes "message") (string message) no_members)))
