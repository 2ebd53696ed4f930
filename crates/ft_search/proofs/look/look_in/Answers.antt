use Rattle.std.proofs.Common.{ℕ, [], ◌∷◌, sym, ap, ◌∙◌, subst}
use Rattle.ft_trace.specs.declared.Act.TheVariants.{ReadRoot}
use Rattle.ft_trace.specs.Kinds.{IsKeyed}
use Rattle.ft_search.proofs.SearchedReads.{way_keyed}
use Rattle.ft_search.proofs.look.look_in.Goals as goal

pub search_table-requires-clause-can : goal.search_table-requires-clause-can
search_table-requires-clause-can c = record {
  can = record { pass = c.requires.pass; container = c.requires.container; table = c.requires.table; mask = c.mask_of-mask.ensures; start = c.cell_of-start.ensures.place };
  keyed = subst IsKeyed (sym c.requires.way) (way_keyed c.args.way);
  settled = c.requires.settled;
  few = c.requires.few;
  named = record { walk = []; rest = c.requires.last.0; is = c.requires.last.1 ∙ ap (λ (z : ℕ). ReadRoot c.args.o z ∷ c.requires.last.0) c.requires.root; online = tt };
}
