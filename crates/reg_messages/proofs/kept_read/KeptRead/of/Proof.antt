-- What was read goes into the struct.
use Rattle.std.proofs.Common.{◌≡◌, List, [], ◌∷◌, ◌++◌, refl}
use mir.Syntax.{Fn}
use mir.Val.{Val, vstruct, of_list}
use base.Logic.{SProp, emp}
use base.Fml.{feq, fsep}
use prog.Wp.{WpFn}
use contract.Monad.{fact, fact_i}
use contract.Running.{tables}
use types.Kit.{‵, raw, ◌⊛◌, prop, ◌$◌, ◌∵◌, !, qed, by, move, drop, use0, split, rewrite, regoal, fsplit, fjoin, fpack, feq_i}
use types.Part.{agg}
use types.Run.{of_opd, no_more, and_then, returns, enter}
use types.ByLocal.{alloc_all, pass_all, free_all, look_at, get, sets}
use denote.Exit.{rest}
use denote.RattleType.{RattleType, owns, Valss}
use denote.Param.{layout}
use denote.Param.Laws.{Laws}
use denote.Signature.{types_at, plain}
use denote.Steps.{nothing}
use denote.Triple.Entry.{alive}
use denote.Triple.Walked.{Stays, stay_dropped, walk_of}
use Rattle.std.proofs.cell.Inside.{one, round}
use Rattle.std.proofs.ResultValues.{and_tt}
use Rattle.std.proofs.raw_atomic.Walks.{proved_at, leaves}
use Rattle.std.specs.contracts.result.Result as result
use Rattle.std.proofs.result.Result.TheLaws as result_laws
use Rattle.reg_refusals.specs.contracts.refusal.Refusal as refusal
use Rattle.reg_refusals.proofs.refusal.Refusal.TheLaws as refusal_laws
use Rattle.reg_messages.specs.contracts.head_read.HeadRead as head
use Rattle.reg_messages.proofs.head_read.HeadRead.TheLaws as head_laws
use Rattle.reg_messages.proofs.ReadsLeft.{goes, read-mute}
use Rattle.reg_messages.specs.contracts.kept_read.KeptRead.of.{ended, clauses}
use Rattle.reg_messages.specs.contracts.kept_read.KeptRead.of.Key.{name as #self}
use Rattle.reg_messages.proofs.kept_read.KeptRead.of.Statement.{statement}
use Rattle.reg_messages.proofs.kept_read.KeptRead.of.Code as compiled

pub of_spec : {M : Type 1} → statement M
of_spec 𝓤 𝓛 𝓜 𝓡 wired =
    let H = 𝓛.H in let C = (tables 𝓤 H 𝓜 𝓡 𝓡.env).C in let Λ = (tables 𝓤 H 𝓜 𝓡 𝓡.env).Λ in
    let c = clauses 𝓛 𝓜.mem 𝓡.returns in let fn : Fn = compiled.function in let R : RattleType = result.the_row head.the_row refusal.the_row in
    let laws : Laws R = result_laws.the_row_laws head.the_row refusal.the_row head_laws.the_row_laws refusal_laws.the_row_laws in
    let stays : Stays ended.signature.params ended.kept = (stay_dropped (plain (λ _. R)) ended.kept.0, tt) in
    proved_at 𝓛 ended stays c 𝓜 𝓡 (goes 𝓛 R read-mute, tt) #self fn
    (compiled.unfolded 𝓤 H 𝓜 𝓡 wired) (λ z are.
    let Post : Val → SProp 𝓤 = (walk_of 𝓛 ended stays c).post z in
    let a = z.0.3 in let vss = z.0.4 in let x = a.0 in
    let got = one (layout R) vss.0 ((laws.lawful 𝓛).typed x vss.0 are.0) in
    let w : Val = got.0 in let good = got.2 in
    qed 𝓛 (
    (raw (alive 𝓛 ended.signature z.0.0 z.0.1) ⊛ ‵ (owns (types_at ended.signature.params z.0.0) a vss))
    ∷ raw ((c z.0.0 a).requires z.1) ∷ []) ∵
    move ! (1 ∷ []) $ drop ! $ split ! $ move ! (1 ∷ []) $ fsplit ! $ move ! (1 ∷ []) $ drop ! $
    rewrite ! 0 (λ (us : List Val). ‵ (R.own_val x us)) got.1 refl $
    regoal ! (λ (us : List Val). prop (WpFn 𝓤 H C Λ fn us Post)) (λ i. got.1 i ++ []) refl $
    nothing ! $ move ! (1 ∷ 0 ∷ []) $ fjoin ! $
    feq_i ! (List Val) (round w ∷ []) (round w ∷ []) refl $ fjoin ! $
    fpack ! (Valss (R ∷ []))
    (λ us. fsep (feq (List Val) (round w ∷ []) (vstruct (of_list (us.0 ++ [])) ∷ [])) (owns (R ∷ []) (x, tt) us)) (w ∷ [], tt) $
    nothing ! $ move ! (1 ∷ 0 ∷ []) $ fjoin ! $
    enter ! C Λ fn (w ∷ []) Post $ alloc_all ! (λ l. pass_all ! refl (good, tt) $
    sets ! (of_opd ! (get ! refl)) refl good $
    sets ! (agg ! (and_then ! (get ! refl) (no_more !))) refl (and_tt _ good.0, (good.1, tt)) $
    use0 𝓛 (raw (fact 𝓤 (x ≡ x))) (fact_i 𝓤 (x ≡ x) (emp 𝓤) refl) $ nothing ! $ nothing ! $ fjoin ! $
    returns ! (look_at ! 0 refl) $ free_all ! refl $ move ! (3 ∷ 0 ∷ 2 ∷ 1 ∷ []) $
    by ! (leaves 𝓛 ended stays c z (round w) (record { read = x }) (rest (R.exit ended.kept.0) x, tt) (tt, tt))))
