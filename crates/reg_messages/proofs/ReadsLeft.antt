-- What was read of a head leaves nothing where it is used up, and where it is kept neither.
use mathlib.Core.List.{[], ◌∷◌}
use mathlib.Core.Path.{sym, subst}
use seplogic.Ra.Ura.{Ura}
use base.Logic.{ent, emp, via}
use types.Logic.{Logic, sem}
use denote.Exit.{yes, left}
use denote.RattleType.{RattleType}
use denote.Signature.{plain}
use denote.Triple.Walked.{Goes, stay_dropped}
use denote.Param.Mute.{Mute, Mute-fields, Mute-flat, Mute-hidden, Mute-still, Mute-under, enum-Mute}
use Rattle.std.specs.contracts.result.Result as result
use Rattle.reg_refusals.specs.contracts.refusal.Refusal as refusal
use Rattle.reg_messages.specs.contracts.head_read.HeadRead as head
use Rattle.reg_messages.specs.contracts.kept_read.KeptRead as kept

abbrev pub read : RattleType
read = result.the_row head.the_row refusal.the_row

pub read-mute : Mute (read.exit yes)
read-mute = search (enum-Mute, Mute-still, Mute-flat) depth 60 fits 20000

pub kept-mute : Mute (kept.the_row.exit yes)
kept-mute = Mute-hidden _ (Mute-under _ _ (Mute-fields yes (read ∷ []) (read-mute, tt)))

pub goes : {M : Type 1} {𝓤 : Ura M} (𝓛 : Logic 𝓤) (R : RattleType) → Mute (R.exit yes)
    → Goes 𝓛 0 (plain (λ _. R)) yes (stay_dropped (plain (λ _. R)) yes)
goes {M} {𝓤} 𝓛 R mute κs x f vs ok =
    subst (λ w. ent 𝓤 (emp 𝓤) (𝓛.H.⇛ (sem 𝓛 (left (R.exit yes) x w)))) (sym (mute.once x f))
    (via 𝓤 _ (mute.quiet M 𝓤 𝓛 x) (𝓛.laws.⇛_intro _))
