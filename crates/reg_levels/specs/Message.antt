-- What is told of a pair that clashes.
use Rattle.std.specs.Prelude.{ℕ, List, ◌++◌, Option, Some, None, codes, decimal}
use Rattle.avro_resolve.specs.declared.trail.Trail.{Trail}
use Rattle.avro_resolve.specs.Texts.{trail_text, clash_text}
use Rattle.reg_levels.specs.declared.direction.Direction.{Direction}
use Rattle.reg_levels.specs.declared.direction.Direction.TheVariants.{Backward, Forward}
use Rattle.reg_levels.specs.declared.message.ClashMessage.{ClashMessage}
use Rattle.reg_levels.specs.declared.verdict.LevelVerdict.{LevelVerdict}

abbrev pub direction_text : Direction → List ℕ
direction_text Backward = codes "BACKWARD"
direction_text Forward = codes "FORWARD"

-- the version, the direction, and the trail with its clash
abbrev pub clash_message : ℕ → Direction → Trail → List ℕ
clash_message version direction trail =
    codes "version " ++ decimal version ++ codes ", " ++ direction_text direction ++ codes ", at "
    ++ trail_text trail.hops ++ codes ": " ++ clash_text trail.kind

abbrev pub text_of : ClashMessage → List ℕ
text_of m = clash_message m.version m.direction m.trail.now

abbrev pub message_in : Option ℕ → Option Direction → Option Trail → Option (List ℕ)
message_in (Some version) (Some direction) (Some trail) = Some (clash_message version direction trail)
message_in version direction trail = None

-- the message of a verdict, where it tells of a pair
abbrev pub message_of : LevelVerdict → Option (List ℕ)
message_of v = message_in v.version v.direction v.trail
