use Rattle.std.proofs.Common.{◌≡◌, OnErr, OnOk, Result, Ok, Err, MatchBool, Bool, false, is_ok, refl, sym, subst, ◌&&◌}
use Rattle.std.specs.Prelude.{string_eq}
use Rattle.reg_judge.specs.Judge.{has_pair, used}
use Rattle.reg_judge.specs.Kept.{AreVerdicts, IsVerdictOf, pairs_of, texts_of}
use Rattle.reg_judge.proofs.Keeping.{either, with_put}
use Rattle.reg_judge.proofs.Texts.{of_same, same_pair}
use Rattle.reg_judge.proofs.Using.{none_is_had, put_is_used}
use Rattle.reg_judge.proofs.verdicts.keep.Goals as goal

pub returns-clause-verdicts : goal.returns-clause-verdicts
returns-clause-verdicts c =
    either c.put.result (λ cache. AreVerdicts cache.entries) c.put.new.self _ c.args.kept.now c.put.ensures.entries c.put.ensures.err
    (with_put IsVerdictOf
    (λ k j. string_eq k.0 j.0 && string_eq k.1 j.1) c.args.kept.now c.args.pair c.args.verdict c.requires.kept c.requires.made
    (λ j equal. of_same c.args.pair j c.args.verdict (same_pair c.args.pair j equal) c.requires.made)) c.requires.kept

pub returns-clause-capacity : goal.returns-clause-capacity
returns-clause-capacity c =
    either c.put.result
    (λ cache. cache.cap ≡ c.args.kept.now.cap) c.put.new.self _ c.args.kept.now c.put.ensures.entries c.put.ensures.err refl refl

-- a put that is refused is of a pair that wasn't there
by_result : {X E C : Type 0} (r : Result X E) (Q R : C → Type 0) (c new old : C) (well : Bool) → well ≡ is_ok r
    → OnOk r (c ≡ new) → OnErr r (c ≡ old) → Q new → (is_ok r ≡ false → R old) → MatchBool well (Q c) (R c)
by_result (Ok x) Q R c new old well is ok err q r = subst (λ b. MatchBool b (Q c) (R c)) (sym is) (subst Q (sym ok) q)
by_result (Err e) Q R c new old well is ok err q r = subst (λ b. MatchBool b (Q c) (R c)) (sym is) (subst R (sym err) (r refl))

pub returns-clause-kept : goal.returns-clause-kept
returns-clause-kept c =
    let was = c.args.kept.now in
    by_result c.put.result
    (λ cache. pairs_of cache.entries ≡ used was.cap (texts_of c.args.pair) (pairs_of was.entries))
    (λ cache. (pairs_of cache.entries ≡ pairs_of was.entries) × (has_pair (pairs_of was.entries) (texts_of c.args.pair) ≡ false))
    c.put.new.self _ was c.is_ok.result c.is_ok.ensures.value c.put.ensures.entries c.put.ensures.err
    (put_is_used _ c.args.pair was c.args.verdict)
    (λ failed. (refl, none_is_had _ c.args.pair was.entries (λ had. let fine = c.put.ensures.succeeds had in cc)))
