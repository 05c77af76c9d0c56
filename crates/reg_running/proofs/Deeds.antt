-- What a follower and its views do are a node's deeds.
use Rattle.std.proofs.Common.{◌≡◌, List, [], ◌∷◌, ◌++◌, fold, map, refl, sym, ap, subst, ◌∙◌}
use Rattle.std.specs.FinSet.{empty}
use Rattle.reg_set.specs.LastRecords.{last_records}
use Rattle.reg_set.specs.Records.{Records}
use Rattle.reg_lookup.specs.Answers.{IsAnswer}
use Rattle.reg_lookup.specs.declared.answered.Answer.{Answer}
use Rattle.reg_lookup.specs.declared.query.Query.{Query}
use Rattle.reg_node.specs.Takes.{AreDrawnFrom, taken, with_draw}
use Rattle.reg_node.specs.declared.take.Draw.{Draw}
use Rattle.reg_running.specs.Calls.{FollowersAreNodes, ViewsTellForNodes}
use Rattle.reg_running.specs.Running.{AreAnswers, Deed, Drew, Told, draws}

draws_only : (list : List Draw) → draws (map Drew list) ≡ list
draws_only [] = refl
draws_only (t ∷ list) = ap (λ ts. t ∷ ts) (draws_only list)

no_answers : (set : Records) (list : List Draw) → AreAnswers set (map Drew list)
no_answers set [] = tt
no_answers set (t ∷ list) = no_answers (with_draw set t) list

pub followers_are_nodes : FollowersAreNodes
followers_are_nodes first items front list p d = (
  record {
    front = front;
    read = p;
    drawn = subst (λ ts. AreDrawnFrom first ts front) (sym (draws_only list)) d;
    answers = no_answers empty list;
  },
  draws_only list,
)

-- the deeds cut behind a front of the draws
pub record Cut (deeds : List Deed) (seen : List Draw) : Type 0 where
  pub before : List Deed
  pub after : List Deed
  pub whole : deeds ≡ before ++ after
  pub shown : draws before ≡ seen

heads : (t u : Draw) (xs ys : List Draw) → t ∷ xs ≡ u ∷ ys → (t ≡ u) × (xs ≡ ys)
heads t u xs ys e = (cc, cc)

cut_at : (deeds : List Deed) (seen rest : List Draw) → seen ++ rest ≡ draws deeds → Cut deeds seen
cut_at deeds [] rest e = record { before = []; after = deeds; whole = refl; shown = refl }
cut_at [] (t ∷ seen) rest e = absurd cc
cut_at (Told query answer ∷ deeds) (t ∷ seen) rest e =
    let c = cut_at deeds (t ∷ seen) rest e in
    record { before = Told query answer ∷ c.before; after = c.after; whole = ap (λ ds. Told query answer ∷ ds) c.whole; shown = c.shown }
cut_at (Drew u ∷ deeds) (t ∷ seen) rest e =
    let h = heads t u (seen ++ rest) (draws deeds) e in
    let c = cut_at deeds seen rest h.1 in
    record {
      before = Drew u ∷ c.before;
      after = c.after;
      whole = ap (λ ds. Drew u ∷ ds) c.whole;
      shown = ap (λ x. x ∷ draws c.before) (sym h.0) ∙ ap (λ ts. t ∷ ts) c.shown;
    }

-- one answer more
answers_more : (set : Records) (before after : List Deed) (query : Query) (answer : Answer) → AreAnswers set (before ++ after)
    → IsAnswer (last_records (fold with_draw set (draws before))) query answer → AreAnswers set (before ++ Told query answer ∷ after)
answers_more set [] after query answer h is = (is, h)
answers_more set (Drew t ∷ before) after query answer h is = answers_more (with_draw set t) before after query answer h is
answers_more set (Told q a ∷ before) after query answer h is = (h.0, answers_more set before after query answer h.1 is)

draws_more : (before after : List Deed) (query : Query) (answer : Answer)
    → draws (before ++ Told query answer ∷ after) ≡ draws (before ++ after)
draws_more [] after query answer = refl
draws_more (Drew t ∷ before) after query answer = ap (λ ts. t ∷ ts) (draws_more before after query answer)
draws_more (Told q a ∷ before) after query answer = draws_more before after query answer

pub views_tell : ViewsTellForNodes
views_tell first items deeds seen query answer node p is =
    let c = cut_at deeds seen p.0 p.1 in (
      c.before,
      c.after,
      c.whole,
      c.shown,
      record {
        front = node.front;
        read = node.read;
        drawn =
            subst (λ ts. AreDrawnFrom first ts node.front) (ap draws c.whole ∙ sym (draws_more c.before c.after query answer)) node.drawn;
        answers = answers_more empty c.before c.after query answer (subst (AreAnswers empty) c.whole node.answers)
            (subst (λ ts. IsAnswer (last_records (taken ts)) query answer) (sym c.shown) is);
      },
    )
