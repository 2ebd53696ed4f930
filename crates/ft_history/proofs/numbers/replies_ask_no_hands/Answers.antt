use Rattle.ft_history.proofs.HandlessReplies.{same_reply}
use Rattle.ft_history.proofs.numbers.replies_ask_no_hands.Goals as goal

pub returns : goal.returns
returns c = same_reply
