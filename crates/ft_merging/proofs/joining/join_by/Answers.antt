use Rattle.std.proofs.Common.{◌≡◌, ℕ, Some, None, Option, refl, sym, ap, ◌∙◌, subst, arith}
use Rattle.ft_trace.specs.Addresses.{class_of, slots}
use Rattle.ft_trace.specs.Holds.{held_unboxed, known_state}
use Rattle.ft_trace.specs.Pictures.{entry_field}
use Rattle.ft_bank.specs.declared.table.Table.{Table}
use Rattle.ft_bank.specs.Passes.{shape_of, view}
use Rattle.ft_bank.proofs.KnownAfterWrites.{loaded_held, work_knows}
use Rattle.ft_search.specs.Held.{IsHeldAt}
use Rattle.ft_search.proofs.Calling.{loaded_same}
use Rattle.ft_search.proofs.Changing.{kind_is}
use Rattle.ft_search.proofs.Spotting.{may_loaded}
use Rattle.ft_new_keys.specs.KeyGrowth.{KnowsKeyed}
use Rattle.ft_new_keys.proofs.Taken.{has_loaded}
use Rattle.ft_merging.specs.Joining.{JoinsKeys, joined}
use Rattle.ft_merging.proofs.Ending.{read_same}
use Rattle.ft_merging.proofs.JoinedCalls.{joins_by, joins_later, joins_then}
use Rattle.ft_merging.proofs.JoinedSame.{known_bare, known_itself, none_joined}
use Rattle.ft_merging.proofs.SharedKeys.{live_held, shares_from}
use Rattle.ft_merging.proofs.joining.join_by.Goals as goal
use Rattle.ft_merging.proofs.joining.join_by.Goals.{After-own_table}

pub join_nothing-requires-clause-same : goal.join_nothing-requires-clause-same
join_nothing-requires-clause-same c =
    let a = c.args in
    let v = view a.pass.now in
    ap (λ (p : ℕ). joined (known_state a.o v).content (known_state p v).content) (sym c.if-o-t.true)
    ∙ known_itself (shape_of a.bank.now) a.o v c.requires.pass.1 a.pass.now.possible c.requires.may.keyed c.requires.may.locked c.requires.may.stands

pub returns-then-o-t-clause-added : goal.returns-then-o-t-clause-added
returns-then-o-t-clause-added c = let v = view c.args.pass.now in ((v, loaded_same v, c.join_nothing.ensures.added), λ dicts made. c.join_nothing.ensures.shares dicts)

-- a dict that is named twice has its own values
pub join_nothing-requires-clause-equal : goal.join_nothing-requires-clause-equal
join_nothing-requires-clause-equal c dicts key b fits named =
    let a = c.args in
    let v = view a.pass.now in
    let n = slots (class_of named.table) in
    let x = (held_unboxed a.t v).table in
    let held = live_held c.used_entries_follow_a_dict.ensures.first (shape_of a.bank.now) a.t named.table v c.requires.pass.1 a.pass.now.possible c.requires.other.locked c.requires.other.stands named.root dicts named.place key named.live in (
      (entry_field n x named.place 4, entry_field n x named.place 5),
      subst (λ (p : ℕ). IsHeldAt (known_state p v).content key (Some (entry_field n x named.place 4, entry_field n x named.place 5))) (sym c.if-o-t.true) held,
      held,
    )

-- ---- after the load of the root

joins : (c : After-own_table) → JoinsKeys c.args.o c.args.t c.args.called.now (view c.own_table.new.pass)
joins c =
    let a = c.args in
    let v = view a.pass.now in
    let u = view c.own_table.new.pass in
    let l = c.own_table.ensures.only in
    joins_later a.o a.t a.called.now v u (has_loaded (shape_of a.bank.now) a.o None v u l (read_same (shape_of a.bank.now) a.o v u c.requires.pass.1 c.requires.may.container c.requires.may.locked l)) l.work.pass.locks (work_knows v u a.o l.work) (work_knows v u a.t l.work) c.requires.joins

pub join_nothing-requires-in_default-clause-may : goal.join_nothing-requires-in_default-clause-may
join_nothing-requires-in_default-clause-may c = may_loaded (shape_of c.args.bank.now) c.args.o (view c.args.pass.now) (view c.own_table.new.pass) c.requires.pass.1 c.own_table.ensures.only c.requires.may

pub join_nothing-requires-in_default-clause-joins : goal.join_nothing-requires-in_default-clause-joins
join_nothing-requires-in_default-clause-joins c = joins (goal.at.join_nothing-requires-in_default-clause-joins c).After-own_table

none_named : (old : Option Table) → ((table : Table) → old ≡ Some table → ⊥) → old ≡ None
none_named None never = refl
none_named (Some table) never = absurd (never table refl)

pub join_nothing-requires-in_default-clause-same : goal.join_nothing-requires-in_default-clause-same
join_nothing-requires-in_default-clause-same c =
    let a = c.args in
    let k = shape_of a.bank.now in
    let u = view c.own_table.new.pass in
    let e = c.own_table.ensures in
    let bare = subst (λ (z : Option Table). KnowsKeyed k a.t z u) (none_named c.own_table.result c.in_default.not-Some) e.knows in
    let kinds = kind_is k u a.o e.pass.1 c.own_table.new.pass.possible (e.only.work.pass.locks a.o ∙ c.requires.may.locked) ∙ c.requires.way in
    let others = kind_is k u a.t e.pass.1 c.own_table.new.pass.possible bare.locked ∙ c.requires.other_way in
    none_joined (known_state a.o u).content (known_state a.t u).content (others ∙ sym kinds) (known_bare k a.t u e.pass.1 c.own_table.new.pass.possible bare.keyed bare.locked bare.stands bare.root)

-- one that has no table names no box
pub join_nothing-requires-in_default-clause-equal : goal.join_nothing-requires-in_default-clause-equal
join_nothing-requires-in_default-clause-equal c dicts key b fits named =
    let root = named.root in
    let bare = (subst (λ (z : Option Table). KnowsKeyed (shape_of c.args.bank.now) c.args.t z (view c.own_table.new.pass)) (none_named c.own_table.result c.in_default.not-Some) c.own_table.ensures.knows).root in
    absurd (omega (arith, root, bare))

pub returns-in_default-clause-added : goal.returns-in_default-clause-added
returns-in_default-clause-added c =
    let a = c.args in
    let k = shape_of a.bank.now in
    let v = view a.pass.now in
    let u = view c.own_table.new.pass in
    let w = view c.join_nothing-in_default.new.pass in
    let l = c.own_table.ensures.only in (
      joins_by k a.o a.t a.called.now v u w c.join_nothing-in_default.result l c.join_nothing-in_default.ensures.added,
      (λ dicts made. shares_from a.o a.t v u w (loaded_held v u a.t l) (read_same k a.t v u c.requires.pass.1 c.requires.other.container c.requires.other.locked l) (work_knows v u a.o l.work) (work_knows v u a.t l.work) (c.join_nothing-in_default.ensures.shares dicts)),
    )

pub join_from-requires-clause-may : goal.join_from-requires-clause-may
join_from-requires-clause-may c = may_loaded (shape_of c.args.bank.now) c.args.o (view c.args.pass.now) (view c.own_table.new.pass) c.requires.pass.1 c.own_table.ensures.only c.requires.may

pub join_from-requires-clause-other : goal.join_from-requires-clause-other
join_from-requires-clause-other c = subst (λ (z : Option Table). KnowsKeyed (shape_of c.args.bank.now) c.args.t z (view c.own_table.new.pass)) c.in-Some.is c.own_table.ensures.knows

pub join_from-requires-clause-joins : goal.join_from-requires-clause-joins
join_from-requires-clause-joins c = joins (goal.at.join_from-requires-clause-joins c).After-own_table

pub returns-clause-added : goal.returns-clause-added
returns-clause-added c =
    let a = c.args in
    let k = shape_of a.bank.now in
    let v = view a.pass.now in
    let u = view c.own_table.new.pass in
    let w = view c.join_from.new.pass in
    let l = c.own_table.ensures.only in (
      joins_then k a.o a.t a.called.now v u w c.join_from.result l c.join_from.ensures.added.0,
      (λ dicts made. shares_from a.o a.t v u w (loaded_held v u a.t l) (read_same k a.t v u c.requires.pass.1 c.requires.other.container c.requires.other.locked l) (work_knows v u a.o l.work) (work_knows v u a.t l.work) (c.join_from.ensures.added.1 dicts made)),
    )
