use Rattle.std.proofs.lemmas.List.Elements.{All-set}
use Rattle.ft_bench.specs.Threads.{IsReadyCaller}
use Rattle.ft_bench.proofs.script.turn.Goals as goal

pub returns : goal.returns
returns g c =
    All-set (IsReadyCaller c.args.engine.now) c.args.callers.now c.args.thread c.read-reply.new.caller c.read-reply.ensures c.requires
