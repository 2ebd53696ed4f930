use Rattle.std.proofs.Common.{◌≡◌, [], Option, Some, refl, sym, ap, ◌∙◌, subst, true≢false}
use Rattle.std.specs.Prelude.{is_some}
use Rattle.std.specs.Option.{unwrap_or}
use Rattle.ft_model.specs.declared.content.Content.TheVariants as content
use Rattle.ft_model.specs.Contents.{DictContent, dict_copy}
use Rattle.ft_trace.specs.Addresses.{class_of}
use Rattle.ft_trace.specs.ContainerStates.{kind_in}
use Rattle.ft_trace.specs.Holds.{held_words, in_hand, known_state}
use Rattle.ft_trace.specs.Kinds.{IsKeyed}
use Rattle.ft_bank.specs.declared.table.Table.{Table}
use Rattle.ft_bank.specs.Passes.{shape_of, view}
use Rattle.ft_bank.specs.TableNames.{table_id}
use Rattle.ft_search.proofs.Changing.{kind_is}
use Rattle.ft_new_keys.specs.KeyGrowth.{KnowsKeyed}
use Rattle.ft_replacing.specs.Sharing.{SharesEntries}
use Rattle.ft_replacing.proofs.PlainFills.{plain_filled, plain_named}
use Rattle.ft_replacing.proofs.Replaced.{dict_of_kind}
use Rattle.ft_replacing.proofs.copying.fill_for.Goals as goal
use Rattle.ft_replacing.proofs.copying.fill_for.Goals.{Start}

pub share_copy-requires-clause-keyed : goal.share_copy-requires-clause-keyed
share_copy-requires-clause-keyed c =
    subst (λ (z : Option Table). KnowsKeyed (shape_of c.args.bank.now) c.args.d z (view c.args.pass.now)) c.in-Some.is c.requires.keyed

the_one : (a b : Table) → Some a ≡ Some b → a ≡ b
the_one a b is = ap (λ (z : Option Table). unwrap_or z a) is

pub returns-in-Some-clause-shares : goal.returns-in-Some-clause-shares
returns-in-Some-clause-shares c own is =
    let same = the_one c.in-Some.own own (sym c.in-Some.is ∙ is) in
    subst (λ (z : Table). SharesEntries (shape_of c.args.bank.now).texts c.args.copying.now.next (class_of (table_id z)) (held_words c.args.d (view c.args.pass.now)).table (class_of (table_id c.args.copying.now.table)) (in_hand (table_id c.args.copying.now.table) (view c.share_copy.new.pass))) same c.share_copy.ensures.shares

pub returns-in-None-clause-shares : goal.returns-in-None-clause-shares
returns-in-None-clause-shares c own is = absurd (true≢false (ap is_some (sym is ∙ c.in-None.is)))

keyed_e : (c : Start) → IsKeyed (kind_in (shape_of c.args.bank.now).starts c.args.e)
keyed_e c = subst IsKeyed (sym c.requires.other_dict) tt

pub returns-in-None-clause-filled : goal.returns-in-None-clause-filled
returns-in-None-clause-filled c pairs given is next =
    let a = c.args in
    plain_filled (shape_of a.bank.now) a.e (table_id a.copying.now.table) (content.Dict (dict_copy given pairs.pairs)) (view c.fill_copy.new.pass) c.fill_copy.ensures.pass.1 (keyed_e (goal.at.returns-in-None-clause-filled c).Start) (sym c.requires.other_dict) (c.fill_copy.ensures.filled pairs given is next)

pub returns-in-None-clause-named : goal.returns-in-None-clause-named
returns-in-None-clause-named c =
    let a = c.args in
    let k = shape_of a.bank.now in
    let v = view a.pass.now in
    let pairs = dict_of_kind (known_state a.d v).content (kind_is k v a.d c.requires.pass.1 a.pass.now.possible c.requires.keyed.locked ∙ c.requires.dict) in
    let given : DictContent = record { next = a.copying.now.next; pairs = [] } in
    plain_named k a.e (table_id a.copying.now.table) (content.Dict (dict_copy given pairs.0.pairs)) (view c.fill_copy.new.pass) c.fill_copy.ensures.pass.1 (keyed_e (goal.at.returns-in-None-clause-named c).Start) (sym c.requires.other_dict) (c.fill_copy.ensures.filled pairs.0 given pairs.1 refl)
