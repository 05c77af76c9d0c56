use Rattle.reg_responses.proofs.HavePhrases.{of_answer, of_refusal, of_reply}
use Rattle.reg_responses.proofs.laws.statuses_have_phrases.Goals as goal

pub returns : goal.returns
returns c = record { refusals = of_refusal; replies = of_reply; answers = of_answer }
