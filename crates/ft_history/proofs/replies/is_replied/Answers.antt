use Rattle.std.proofs.Common.{◌≡◌, ℕ, Bool, true, IsTrue, ◌↔◌, inl, inr}
use Rattle.std.specs.Prelude.{◌⊎◌}
use Rattle.std.proofs.lemmas.Result.{IfOk-weaker}
use Rattle.ft_model.specs.declared.call.Call.{Call}
use Rattle.ft_model.specs.declared.call.Call.TheVariants as call
use Rattle.ft_model.specs.declared.call.DictCall.{DictCall}
use Rattle.ft_model.specs.declared.call.ListCall.{ListCall}
use Rattle.ft_model.specs.declared.call.SetCall.{SetCall}
use Rattle.ft_model.specs.declared.call.DequeCall.{DequeCall}
use Rattle.ft_model.specs.declared.reply.Reply.{Reply}
use Rattle.ft_model.specs.Answers.{answer, is_memory}
use Rattle.ft_model.specs.Histories.{IsReplied}
use Rattle.ft_history.proofs.replies.is_replied.Goals as goal

-- one of a container's calls, or `next`
abbrev IsOnContainers : Call → Type 0
IsOnContainers called =
    ((container : ℕ) × (asked : DictCall) × (called ≡ call.Dict container asked))
    ⊎ ((container : ℕ) × (asked : ListCall) × (called ≡ call.List container asked))
    ⊎ ((container : ℕ) × (asked : SetCall) × (called ≡ call.Set container asked))
    ⊎ ((container : ℕ) × (asked : DequeCall) × (called ≡ call.Deque container asked))
    ⊎ ((cursor : ℕ) × (called ≡ call.Next cursor))
    ⊎ (called ≡ call.Dump)

-- such a call is replied to as the containers do
by_containers : (called : Call) (said plain : Reply) → IsOnContainers called
    → (right : Bool) → IsTrue right ↔ ((is_memory said ≡ true) ⊎ (said ≡ plain)) → IsTrue right ↔ IsReplied called said plain
by_containers called said plain (inl dict) right so = rw dict.2 so
by_containers called said plain (inr (inl list)) right so = rw list.2 so
by_containers called said plain (inr (inr (inl set))) right so = rw set.2 so
by_containers called said plain (inr (inr (inr (inl deque)))) right so = rw deque.2 so
by_containers called said plain (inr (inr (inr (inr (inl next))))) right so = rw next.1 so
by_containers called said plain (inr (inr (inr (inr (inr dump))))) right so = rw dump so

pub returns-in-Dict : goal.returns-in-Dict
returns-in-Dict c =
    let called = c.args.entry.now.call in
    let said = c.args.entry.now.reply in
    let plain = (answer c.args.world.now c.args.hands.now called).reply in
    record {
      right =
          IfOk-weaker c.is_answered.result (λ right. IsTrue right ↔ ((is_memory said ≡ true) ⊎ (said ≡ plain))) (λ right. IsTrue right ↔ IsReplied called said plain)
          (by_containers called said plain c.in-Dict.is) c.is_answered.ensures.right;
      world = c.is_answered.ensures.world;
      hands = c.is_answered.ensures.hands;
    }
