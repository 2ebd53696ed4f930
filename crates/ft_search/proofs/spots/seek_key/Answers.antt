use Rattle.ft_bank.specs.Passes.{shape_of, view}
use Rattle.ft_search.proofs.Spotting.{may_knows, may_loaded}
use Rattle.ft_search.proofs.spots.seek_key.Goals as goal

pub seek_by-requires-clause-knows : goal.seek_by-requires-clause-knows
seek_by-requires-clause-knows c = may_knows (shape_of c.args.bank.now) c.args.o (view c.args.pass.now) c.requires.may

pub returns-clause-may : goal.returns-clause-may
returns-clause-may c = may_loaded (shape_of c.args.bank.now) c.args.o (view c.args.pass.now) (view c.seek_by.new.pass) c.requires.pass.1 c.seek_by.ensures.keeps c.requires.may
