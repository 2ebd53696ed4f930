use Rattle.std.proofs.Common.{◌∙◌, sym}
use Rattle.ft_run_threads.proofs.awaiting.await_call.Goals as goal

pub learn_at-stamp-requires-clause-may : goal.learn_at-stamp-requires-clause-may
learn_at-stamp-requires-clause-may g c =
    let may = c.requires.may in
    let got = c.in-Got.ensures in
    record {
      idle = may.idle;
      online = may.online;
      left = may.left;
      told = record { thread = c.args.named.0; index = c.args.named.1; await = may.await; some = may.some; tells = got.tells };
      earlier = may.earlier;
      of = got.of ∙ sym c.requires.bank;
    }

pub returns-in-Got-clause-ended : goal.returns-in-Got-clause-ended
returns-in-Got-clause-ended g c =
    let tried = c.learn_at-stamp.ensures.tried in
    (tried.flight, λ mine kept. tried.kept mine kept)
