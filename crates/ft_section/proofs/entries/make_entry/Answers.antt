use Rattle.std.proofs.Common.{[], refl, sym, subst}
use Rattle.ft_bank.specs.Passes.{view}
use Rattle.ft_bank.specs.Reads.{IsShown}
use Rattle.ft_trace.specs.declared.View.{View}
use Rattle.ft_trace.specs.Traces.{IsReachable}
use Rattle.ft_section.proofs.FloorLogs.{counter_known}
use Rattle.ft_section.proofs.entries.make_entry.Goals as goal

pub answer-requires-clause-shown : goal.answer-requires-clause-shown
answer-requires-clause-shown c =
    let v = view c.args.pass.now in
    let n = c.stamp-number.result in
    subst (λ (w : View). IsShown w c.args.call.now c.args.reply.now n) (sym c.stamp-number.ensures.did.1) (record {
      read = c.requires.said.read;
      left = c.requires.left;
      loaded = record { newer = []; rest = v.log; is = refl; own = tt };
      replied = λ es id k. c.requires.said.replied _;
      cause = λ es id k. c.requires.said.cause _ n;
      no_cursor = λ es id k. c.requires.said.no_cursor;
    })

pub returns-clause-known : goal.returns-clause-known
returns-clause-known c has =
    let v = view c.args.pass.now in
    let n = c.stamp-number.result in
    counter_known v n (subst (λ (w : View). ∥ IsReachable w ∥₁) c.stamp-number.ensures.did.1 c.stamp-number.new.pass.possible) has
