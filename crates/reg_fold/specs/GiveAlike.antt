-- Sets of last records that give the same.
use Rattle.std.specs.Prelude.{◌≡◌}
use Rattle.reg_set.specs.Records.{Records}
use Rattle.reg_fold.specs.Entries.{entries}
use Rattle.reg_fold.specs.IdMark.{id_mark}
use Rattle.reg_fold.specs.InForce.{Scope, own_level, own_mode_name}
use Rattle.reg_fold.specs.Opaque.{opaque}

-- two sets of last records have the same entries, levels and modes, the same least offset of an opaque version, and one mark of ids
pub record GiveAlike (rs ss : Records) : Type 0 where
  pub entries_alike : entries rs ≡ entries ss
  pub opaque_alike : opaque rs ≡ opaque ss
  pub levels_alike : (scope : Scope) → own_level rs scope ≡ own_level ss scope
  pub modes_alike : (scope : Scope) → own_mode_name rs scope ≡ own_mode_name ss scope
  pub marks_alike : id_mark rs ≡ id_mark ss

abbrev pub EachGivesAlikeItself : Type 0
EachGivesAlikeItself = (rs : Records) → GiveAlike rs rs

abbrev pub GivingAlikeIsSymmetric : Type 0
GivingAlikeIsSymmetric = (rs ss : Records) → GiveAlike rs ss → GiveAlike ss rs

abbrev pub GivingAlikeComposes : Type 0
GivingAlikeComposes = (rs ss ts : Records) → GiveAlike rs ss → GiveAlike ss ts → GiveAlike rs ts
