use Rattle.std.proofs.Common.{◌≡◌, ℕ, Option, Some, None, sym, ap, ◌∙◌, subst}
use Rattle.ft_model.specs.TableUses.{passes_cap}
use Rattle.ft_model.specs.Worlds.{length_of}
use Rattle.ft_trace.specs.Addresses.{class_of, slots}
use Rattle.ft_trace.specs.Holds.{held_unboxed, known_state}
use Rattle.ft_trace.specs.Pictures.{entry_field}
use Rattle.ft_bank.specs.declared.table.Table.{Table}
use Rattle.ft_bank.specs.Passes.{shape_of, view}
use Rattle.ft_search.proofs.Changing.{kind_is}
use Rattle.ft_new_keys.specs.KeyGrowth.{MayAddKey, keys_take}
use Rattle.ft_new_keys.proofs.Keyed.{use_known}
use Rattle.ft_merging.specs.Joining.{joined, new_keys}
use Rattle.ft_merging.proofs.JoinedCalls.{joins_leaves, made_here}
use Rattle.ft_merging.proofs.JoinedRoom.{bare_none}
use Rattle.ft_merging.proofs.JoinedSame.{bare_joined, known_bare}
use Rattle.ft_merging.proofs.SharedKeys.{live_held, none_held}
use Rattle.ft_merging.proofs.joining.join_in_old.Goals as goal
use Rattle.ft_merging.proofs.joining.join_in_old.Goals.{In-None}

-- it has no keys, and none is new to it
bare : (c : In-None) → (length_of (known_state c.args.merge.now.o (view c.args.pass.now)).content ≡ 0) × (new_keys (known_state c.args.merge.now.o (view c.args.pass.now)).content (known_state c.args.merge.now.t (view c.args.pass.now)).content ≡ 0)
bare c =
    let a = c.args in
    let k = shape_of a.bank.now in
    let v = view a.pass.now in
    let d = (known_state a.merge.now.o v).content in
    let e = (known_state a.merge.now.t v).content in
    let may = subst (λ (z : Option Table). MayAddKey k a.merge.now.o z v) c.in-None.is c.requires.may in
    let kinds = kind_is k v a.merge.now.o c.requires.pass.1 a.pass.now.possible may.keyed.locked ∙ c.requires.merge.way in
    let table = use_known c.words_are_of_one_content.ensures.head k a.merge.now.o None v a.merge.now.counts may.keyed c.requires.merge.counts a.pass.now.possible in
    let none = bare_none d a.way a.merge.now.counts.fill (new_keys d e) kinds ((λ i. keys_take d (sym table i) (new_keys d e)) ∙ c.requires.room) in
    (known_bare k a.merge.now.o v c.requires.pass.1 a.pass.now.possible may.keyed.keyed may.keyed.locked may.keyed.stands may.keyed.root, none)

same : (c : In-None) → joined (known_state c.args.merge.now.o (view c.args.pass.now)).content (known_state c.args.merge.now.t (view c.args.pass.now)).content ≡ (known_state c.args.merge.now.o (view c.args.pass.now)).content
same c =
    let m = c.args.merge.now in
    let v = view c.args.pass.now in
    bare_joined (known_state m.o v).content (known_state m.t v).content (bare c).0 (bare c).1

pub write_nothing-requires-clause-leaves : goal.write_nothing-requires-clause-leaves
write_nothing-requires-clause-leaves c =
    let a = c.args in
    let s = same (goal.at.write_nothing-requires-clause-leaves c).In-None in
    joins_leaves a.merge.now.o a.merge.now.t a.called.now (view a.pass.now) c.requires.joins s (ap passes_cap (sym s) ∙ c.requires.few)

pub returns-in-None-clause-added : goal.returns-in-None-clause-added
returns-in-None-clause-added c =
    let a = c.args in
    let n = c.write_nothing.ensures in
    made_here (shape_of a.bank.now) a.merge.now.o a.called.now (view a.pass.now) (view c.write_nothing.new.pass) c.written.result c.write_nothing.result c.written.ensures c.requires.joins.changed n.wrote n.references n.root

pub returns-in-Some-clause-shares : goal.returns-in-Some-clause-shares
returns-in-Some-clause-shares c dicts made = c.join_here.ensures.shares dicts

-- the other one has no key either
pub returns-in-None-clause-shares : goal.returns-in-None-clause-shares
returns-in-None-clause-shares c dicts made key b fits named =
    let a = c.args in
    let k = shape_of a.bank.now in
    let m = a.merge.now in
    let v = view a.pass.now in
    let d = (goal.at.returns-in-None-clause-shares c).In-None in
    let r = c.requires.merge.other in
    let n = slots (class_of named.table) in
    let x = (held_unboxed m.t v).table in
    let held = live_held c.used_entries_follow_a_dict.ensures.first k m.t named.table v c.requires.pass.1 a.pass.now.possible r.locked r.stands named.root (c.requires.merge.other_way ∙ dicts) named.place key named.live in
    let mine = kind_is k v m.o c.requires.pass.1 a.pass.now.possible c.requires.may.keyed.locked ∙ (c.requires.merge.way ∙ dicts) in
    let theirs = kind_is k v m.t c.requires.pass.1 a.pass.now.possible r.locked ∙ (c.requires.merge.other_way ∙ dicts) in
    absurd (none_held (known_state m.o v).content (known_state m.t v).content mine theirs (bare d).0 (bare d).1 key (entry_field n x named.place 4, entry_field n x named.place 5) held)
