use Rattle.std.proofs.Common.{List, length, Option, sym, ap, ◌∙◌, subst}
use Rattle.ft_model.specs.declared.content.Element.{Element}
use Rattle.ft_model.specs.Contents.{those_not_in}
use Rattle.ft_model.specs.Worlds.{set_of}
use Rattle.ft_trace.specs.Holds.{known_state}
use Rattle.ft_bank.specs.declared.table.Table.{Table}
use Rattle.ft_bank.specs.Passes.{shape_of, view}
use Rattle.ft_search.proofs.Calling.{loaded_same}
use Rattle.ft_new_keys.specs.KeyGrowth.{KnowsKeyed}
use Rattle.ft_merging.proofs.ThinningEnds.{is_set}
use Rattle.ft_parting.proofs.Chosen.{none_there}
use Rattle.ft_parting.proofs.PartedSets.{new_length}
use Rattle.ft_parting.proofs.parting.count_staying.Goals as goal

pub count_lacking-requires-clause-other : goal.count_lacking-requires-clause-other
count_lacking-requires-clause-other c = subst (λ (z : Option Table). KnowsKeyed (shape_of c.args.bank.now) c.args.s z (view c.args.pass.now)) c.in-Some.is c.requires.keyed

pub returns-in-Some-clause-count : goal.returns-in-Some-clause-count
returns-in-Some-clause-count c =
    let a = c.args in
    let v = view a.pass.now in
    c.count_lacking.ensures.count
    ∙ new_length (known_state a.t v).content (known_state a.s v).content (set_of (known_state a.t v).content) (is_set (shape_of a.bank.now) v a.t c.requires.pass.1 a.pass.now.possible c.requires.other.locked c.requires.other_set)

pub returns-in-None-clause-only : goal.returns-in-None-clause-only
returns-in-None-clause-only c = loaded_same (view c.args.pass.now)

pub returns-in-None-clause-count : goal.returns-in-None-clause-count
returns-in-None-clause-count c =
    let a = c.args in
    let k = shape_of a.bank.now in
    let v = view a.pass.now in
    let bare = subst (λ (z : Option Table). KnowsKeyed k a.s z v) c.in-None.is c.requires.keyed in
    ap (λ (l : List Element). length (those_not_in (set_of (known_state a.t v).content).elements l)) (sym (none_there k a.s v c.requires.pass.1 a.pass.now.possible c.requires.set bare))
