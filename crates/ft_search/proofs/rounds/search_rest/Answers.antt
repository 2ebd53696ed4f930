use Rattle.std.proofs.Common.{rules, sym, subst}
use Rattle.ft_trace.specs.Kinds.{IsKeyed}
use Rattle.ft_search.proofs.SearchedReads.{way_keyed}
use Rattle.ft_search.proofs.rounds.search_rest.Goals as goal

pub search_after-requires-clause-can : goal.search_after-requires-clause-can
search_after-requires-clause-can c = record {
  can = record { pass = c.requires.pass; container = c.requires.container; table = c.requires.table; mask = c.mask_of-mask.ensures; start = c.cell_of-start.ensures.place };
  keyed = subst IsKeyed (sym c.requires.way) (way_keyed c.args.way);
  settled = c.requires.settled;
  few = c.requires.few;
  named = c.requires.named;
}

pub returns-clause-turns : goal.returns-clause-turns
returns-clause-turns c earlier w =
    let h = c.search_after.ensures.turns earlier w in
    (h.0, (h.1.0, search rules), search rules, h.3)
