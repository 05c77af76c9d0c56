-- What was read comes out of the struct.
use Rattle.std.proofs.Common.{◌≡◌, List, [], ◌∷◌, ◌++◌, refl, ap, ◌∙◌}
use mir.Syntax.{Fn}
use mir.Val.{Val, vstruct, of_list}
use base.Logic.{SProp, emp}
use prog.Wp.{WpFn}
use contract.Monad.{fact, fact_i}
use contract.Running.{tables}
use types.Kit.{‵, raw, ◌⊛◌, prop, ◌$◌, ◌∵◌, !, qed, by, move, keep, use0, split, rewrite, regoal, fsplit, fjoin, fpick, feq_l}
use types.Part.{sub, whole}
use types.Run.{stop, fld, of_opd, returns, enter}
use types.ByLocal.{alloc_all, pass_all, free_all, look_at, get, get_in, sets}
use denote.Exit.{rest}
use denote.Laws.{Is, shows}
use denote.RattleType.{RattleType, owns}
use denote.Param.{layout}
use denote.Param.Laws.{Laws}
use denote.Signature.{types_at, plain}
use denote.Steps.{nothing, peeks}
use denote.Triple.Entry.{alive}
use denote.Triple.Walked.{Stays, stay_dropped, walk_of}
use Rattle.std.proofs.cell.Inside.{one, round}
use Rattle.std.proofs.ResultValues.{and_tt}
use Rattle.std.proofs.raw_atomic.Walks.{proved_at, leaves}
use Rattle.std.specs.contracts.result.Result as result
use Rattle.std.proofs.result.Result.TheLaws as result_laws
use Rattle.reg_refusals.specs.contracts.refusal.Refusal as refusal
use Rattle.reg_refusals.proofs.refusal.Refusal.TheLaws as refusal_laws
use Rattle.reg_messages.specs.contracts.head_read.HeadRead as head
use Rattle.reg_messages.proofs.head_read.HeadRead.TheLaws as head_laws
use Rattle.reg_messages.proofs.ReadsLeft.{goes, kept-mute}
use Rattle.reg_messages.specs.contracts.kept_read.KeptRead as kept
use Rattle.reg_messages.specs.contracts.kept_read.KeptRead.into_read.{ended, clauses}
use Rattle.reg_messages.specs.contracts.kept_read.KeptRead.into_read.Key.{name as #self}
use Rattle.reg_messages.proofs.kept_read.KeptRead.into_read.Statement.{statement}
use Rattle.reg_messages.proofs.kept_read.KeptRead.into_read.Code as compiled

pub into_read_spec : {M : Type 1} → statement M
into_read_spec 𝓤 𝓛 𝓜 𝓡 wired =
    let H = 𝓛.H in let C = (tables 𝓤 H 𝓜 𝓡 𝓡.env).C in let Λ = (tables 𝓤 H 𝓜 𝓡 𝓡.env).Λ in
    let c = clauses 𝓛 𝓜.mem 𝓡.returns in
    let fn : Fn = compiled.function in let R : RattleType = result.the_row head.the_row refusal.the_row in
    let laws : Laws R = result_laws.the_row_laws head.the_row refusal.the_row head_laws.the_row_laws refusal_laws.the_row_laws in let K : RattleType = kept.the_row in
    let stays : Stays ended.signature.params ended.kept = (stay_dropped (plain (λ _. K)) ended.kept.0, tt) in
    proved_at 𝓛 ended stays c 𝓜 𝓡 (goes 𝓛 K kept-mute, tt) #self fn
    (compiled.unfolded 𝓤 H 𝓜 𝓡 wired) (λ z are.
    let Post : Val → SProp 𝓤 = (walk_of 𝓛 ended stays c).post z in
    let a = z.0.3 in let vss = z.0.4 in let x = a.0.read in
    qed 𝓛 (
    (raw (alive 𝓛 ended.signature z.0.0 z.0.1) ⊛ ‵ (owns (types_at ended.signature.params z.0.0) a vss))
    ∷ raw ((c z.0.0 a).requires z.1) ∷ []) ∵
    split ! $ move ! (1 ∷ []) $ fsplit ! $ fsplit ! $ fpick !
    (λ ws. fsplit ! $ feq_l ! (λ is. fsplit ! $ peeks ! R (Is R) (shows 𝓛 R) x ws.0 (λ so.
    let got = one (layout R) ws.0 ((laws.lawful 𝓛).typed x ws.0 so) in
    let w : Val = got.0 in let good = got.2 in
    rewrite ! 0 (λ (us : List Val). ‵ (R.own_val x us)) got.1 refl $ keep ! (0 ∷ 4 ∷ []) $
    regoal ! (λ (us : List Val). prop (WpFn 𝓤 H C Λ fn us Post))
    (λ i. (is ∙ ap (λ (us : List Val). vstruct (of_list (us ++ [])) ∷ []) got.1) i ++ []) refl $
    enter ! C Λ fn (round w ∷ []) Post $ alloc_all ! (λ l. pass_all ! refl ((and_tt _ good.0, (good.1, tt)), tt) $
    sets ! (of_opd ! (get_in ! (fld ! refl (stop !)) (sub ! 0 refl (whole !)))) refl good $
    sets ! (of_opd ! (get ! refl)) refl good $
    use0 𝓛 (raw (fact 𝓤 (x ≡ x))) (fact_i 𝓤 (x ≡ x) (emp 𝓤) refl) $ nothing ! $ nothing ! $ fjoin ! $
    returns ! (look_at ! 0 refl) $ free_all ! refl $ move ! (3 ∷ 0 ∷ 2 ∷ 1 ∷ []) $
    by ! (leaves 𝓛 ended stays c z w x (rest (K.exit ended.kept.0) a.0, tt) (tt, tt)))))))
