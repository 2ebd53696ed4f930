use Rattle.std.proofs.Common.{◌≡◌, ◌≤◌, ◌<◌, ◌*◌, ◌^◌, ℕ, ◌∷◌, Option, Some, None, sym, ap, ◌∙◌, subst, arith}
use Rattle.ft_model.specs.declared.content.Content.{Content}
use Rattle.ft_model.specs.declared.content.Content.TheVariants as content
use Rattle.ft_model.specs.Classes.{most_pairs}
use Rattle.ft_model.specs.Contents.{DictContent}
use Rattle.ft_model.specs.TableUses.{copy_takes}
use Rattle.ft_model.specs.Worlds.{length_of, serial_of}
use Rattle.ft_layout.specs.Containers.{StandsAs}
use Rattle.ft_trace.specs.declared.Shape.{Shape}
use Rattle.ft_trace.specs.declared.View.{View}
use Rattle.ft_trace.specs.Addresses.{container_count}
use Rattle.ft_trace.specs.Holds.{held_unboxed, held_words, known_state}
use Rattle.ft_trace.specs.Pictures.{ContainerWords, root_in}
use Rattle.ft_trace.specs.ContainerStates.{ContainerState}
use Rattle.ft_bank.specs.declared.table.Table.{Table}
use Rattle.ft_bank.specs.Passes.{shape_of, view}
use Rattle.ft_bank.specs.Whole.{OnlyLoaded}
use Rattle.ft_bank.proofs.ShownReplies.{serials_have_room}
use Rattle.ft_bank.proofs.KnownAfterWrites.{loaded_held, loaded_then, work_knows}
use Rattle.ft_table_calls.proofs.GrowthMidst.{retired_knows}
use Rattle.ft_table_calls.proofs.Rooting.{loaded_filled}
use Rattle.ft_table_calls.specs.declared.adding.Added.TheVariants as added
use Rattle.ft_search.specs.OneEntryWrites.{MayWriteEntries}
use Rattle.ft_search.proofs.Changing.{kind_is}
use Rattle.ft_search.proofs.Spotting.{may_loaded}
use Rattle.ft_whole_tables.specs.Clearing.{HasRootOf}
use Rattle.ft_new_keys.specs.KeyGrowth.{KnowsKeyed}
use Rattle.ft_new_keys.specs.Placing.{AreCounts}
use Rattle.ft_new_keys.proofs.Grown.{filled_has}
use Rattle.ft_new_keys.proofs.Keyed.{counts_known}
use Rattle.ft_new_keys.proofs.Present.{may_add}
use Rattle.ft_replacing.specs.Replacing.{IsReplaced, Replaces, copied}
use Rattle.ft_replacing.proofs.CopiedBoxes.{shares_before}
use Rattle.ft_replacing.proofs.Replaced.{copy_clears, dict_of_kind, pairs_few, replaces_later}
use Rattle.ft_replacing.proofs.copying.copy_into.Goals as goal
use Rattle.ft_replacing.proofs.copying.copy_into.Goals.{After-read_counts-counts, After-read_counts-next, After-root_table-old}

-- ---- the loads, one after the other

only_first : (c : After-read_counts-counts) → OnlyLoaded (view c.args.pass.now) (view c.read_counts-counts.new.pass)
only_first c = loaded_then (view c.args.pass.now) (view c.root_table-from.new.pass) (view c.read_counts-counts.new.pass) c.root_table-from.ensures.only c.read_counts-counts.ensures.only

only_second : (c : After-root_table-old) → OnlyLoaded (view c.args.pass.now) (view c.root_table-old.new.pass)
only_second c =
    loaded_then (view c.args.pass.now) (view c.read_counts-counts.new.pass) (view c.root_table-old.new.pass)
    (loaded_then (view c.args.pass.now) (view c.root_table-from.new.pass) (view c.read_counts-counts.new.pass) c.root_table-from.ensures.only c.read_counts-counts.ensures.only)
    c.root_table-old.ensures.only

only_last : (c : After-read_counts-next) → OnlyLoaded (view c.args.pass.now) (view c.read_counts-next.new.pass)
only_last c =
    loaded_then (view c.args.pass.now) (view c.root_table-old.new.pass) (view c.read_counts-next.new.pass)
    (loaded_then (view c.args.pass.now) (view c.read_counts-counts.new.pass) (view c.root_table-old.new.pass)
    (loaded_then (view c.args.pass.now) (view c.root_table-from.new.pass) (view c.read_counts-counts.new.pass) c.root_table-from.ensures.only c.read_counts-counts.ensures.only)
    c.root_table-old.ensures.only)
    c.read_counts-next.ensures.only

-- loads leave what the words read of a container that the pass may write
held_by : (k : Shape) (o : ℕ) (v u : View) → v.shape ≡ k → OnlyLoaded v u → MayWriteEntries k o v → held_unboxed o u ≡ held_unboxed o v
held_by k o v u shape only may = only.unboxed o (subst (λ (z : Shape). o < container_count z) (sym shape) may.container) may.locked

held_d : (c : After-read_counts-next) → held_unboxed c.args.d (view c.read_counts-next.new.pass) ≡ held_unboxed c.args.d (view c.args.pass.now)
held_d c = held_by (shape_of c.args.bank.now) c.args.d (view c.args.pass.now) (view c.read_counts-next.new.pass) c.requires.pass.1 (only_last c) c.requires.may

held_from : (c : After-read_counts-next) → held_unboxed c.args.d (view c.root_table-from.new.pass) ≡ held_unboxed c.args.d (view c.args.pass.now)
held_from c = held_by (shape_of c.args.bank.now) c.args.d (view c.args.pass.now) (view c.root_table-from.new.pass) c.requires.pass.1 c.root_table-from.ensures.only c.requires.may

held_e : (c : After-read_counts-next) → held_unboxed c.args.e (view c.read_counts-next.new.pass) ≡ held_unboxed c.args.e (view c.root_table-old.new.pass)
held_e c = held_by (shape_of c.args.bank.now) c.args.e (view c.root_table-old.new.pass) (view c.read_counts-next.new.pass) c.root_table-old.ensures.pass.1 c.read_counts-next.ensures.only c.root_table-old.ensures.may

known_last : (c : After-read_counts-next) (o : ℕ) → known_state o (view c.read_counts-next.new.pass) ≡ known_state o (view c.args.pass.now)
known_last c o = work_knows (view c.args.pass.now) (view c.read_counts-next.new.pass) o (only_last c).work

-- ---- what the pass may do after them

may_d : (c : After-read_counts-next) → MayWriteEntries (shape_of c.args.bank.now) c.args.d (view c.read_counts-next.new.pass)
may_d c = may_loaded (shape_of c.args.bank.now) c.args.d (view c.args.pass.now) (view c.read_counts-next.new.pass) c.requires.pass.1 (only_last c) c.requires.may

may_e : (c : After-read_counts-next) → MayWriteEntries (shape_of c.args.bank.now) c.args.e (view c.read_counts-next.new.pass)
may_e c = may_loaded (shape_of c.args.bank.now) c.args.e (view c.args.pass.now) (view c.read_counts-next.new.pass) c.requires.pass.1 (only_last c) c.requires.other

knows_by : (k : Shape) (o : ℕ) (old : Option Table) (v u : View) → MayWriteEntries k o u → held_unboxed o u ≡ held_unboxed o v → HasRootOf k o old v → KnowsKeyed k o old u
knows_by k o old v u may same root = record {
  container = may.container;
  keyed = may.keyed;
  locked = may.locked;
  even = may.even o;
  stands = may.stands;
  table_in = root.table_in;
  root = ap root_in same ∙ root.root;
}

knows_d : (c : After-read_counts-next) → KnowsKeyed (shape_of c.args.bank.now) c.args.d c.root_table-from.result (view c.read_counts-next.new.pass)
knows_d c =
    let a = c.args in
    knows_by (shape_of a.bank.now) a.d c.root_table-from.result (view c.root_table-from.new.pass) (view c.read_counts-next.new.pass) (may_d c)
    (held_d c ∙ sym (held_from c)) c.root_table-from.ensures.root

knows_e : (c : After-read_counts-next) → KnowsKeyed (shape_of c.args.bank.now) c.args.e c.root_table-old.result (view c.read_counts-next.new.pass)
knows_e c =
    let a = c.args in
    knows_by (shape_of a.bank.now) a.e c.root_table-old.result (view c.root_table-old.new.pass) (view c.read_counts-next.new.pass) (may_e c)
    (held_e c) c.root_table-old.ensures.root

-- ---- what was counted

counts_d : (c : After-read_counts-next) → AreCounts (held_unboxed c.args.d (view c.read_counts-next.new.pass)).block c.read_counts-counts.result
counts_d c =
    let a = c.args in
    subst (λ (z : ContainerWords). AreCounts z.block c.read_counts-counts.result)
    (held_from c ∙ sym (held_d c)) c.read_counts-counts.ensures.counts

count_is : (c : After-read_counts-next) → c.read_counts-counts.result.count ≡ length_of (known_state c.args.d (view c.read_counts-next.new.pass)).content
count_is c =
    (counts_known c.words_are_of_one_content.ensures.head (shape_of c.args.bank.now) c.args.d c.root_table-from.result (view c.read_counts-next.new.pass) c.read_counts-counts.result (knows_d c) (counts_d c)).0

next_is : (c : After-read_counts-next) → c.read_counts-next.result.next ≡ serial_of (known_state c.args.e (view c.read_counts-next.new.pass)).content
next_is c =
    let a = c.args in
    (counts_known c.words_are_of_one_content.ensures.head (shape_of a.bank.now) a.e c.root_table-old.result (view c.read_counts-next.new.pass) c.read_counts-next.result (knows_e c)
    (subst (λ (z : ContainerWords). AreCounts z.block c.read_counts-next.result) (sym (held_e c)) c.read_counts-next.ensures.counts)).1

pairs_of : (c : After-read_counts-next) → (pairs : DictContent) × ((known_state c.args.d (view c.read_counts-next.new.pass)).content ≡ content.Dict pairs)
pairs_of c =
    let a = c.args in
    dict_of_kind (known_state a.d (view c.read_counts-next.new.pass)).content (kind_is (shape_of a.bank.now) (view c.read_counts-next.new.pass) a.d c.read_counts-next.ensures.pass.1 c.read_counts-next.new.pass.possible (may_d c).locked ∙ c.requires.dict)

given_of : (c : After-read_counts-next) → (given : DictContent) × ((known_state c.args.e (view c.read_counts-next.new.pass)).content ≡ content.Dict given)
given_of c =
    let a = c.args in
    dict_of_kind (known_state a.e (view c.read_counts-next.new.pass)).content (kind_is (shape_of a.bank.now) (view c.read_counts-next.new.pass) a.e c.read_counts-next.ensures.pass.1 c.read_counts-next.new.pass.possible (may_e c).locked ∙ c.requires.other_dict)

few_is : (c : After-read_counts-next) → length_of (known_state c.args.d (view c.read_counts-next.new.pass)).content ≤ most_pairs
few_is c =
    let a = c.args in
    let u = view c.read_counts-next.new.pass in
    let p = pairs_of c in
    subst (λ (z : Content). length_of z ≤ most_pairs) (sym p.1)
    (pairs_few (shape_of a.bank.now).texts (held_unboxed a.d u).block (0 ∷ 0 ∷ (held_unboxed a.d u).table) (known_state a.d u).table p.0
    (subst (λ (z : Content). StandsAs (shape_of a.bank.now).texts (held_unboxed a.d u).block (0 ∷ 0 ∷ (held_unboxed a.d u).table) (known_state a.d u).table z) p.1 (may_d c).stands))

-- the call, with the class that was computed
replaces_as : (c : After-read_counts-next) (takes : Option ℕ) → copy_takes c.read_counts-counts.result.count ≡ takes → Replaces c.args.e c.args.called.now (copied (known_state c.args.e (view c.read_counts-next.new.pass)).content (known_state c.args.d (view c.read_counts-next.new.pass)).content) takes (view c.read_counts-next.new.pass)
replaces_as c takes is =
    let a = c.args in
    let v = view a.pass.now in
    let u = view c.read_counts-next.new.pass in
    let only = only_last c in
    let e = known_last c a.e in
    let d = known_last c a.d in
    let class : copy_takes (length_of (known_state a.d v).content) ≡ takes = ap (λ (z : ContainerState). copy_takes (length_of z.content)) (sym d) ∙ (ap copy_takes (sym (count_is c)) ∙ is) in
    subst (λ (z : ContainerState × ContainerState × Option ℕ). Replaces a.e a.called.now (copied z.0.content z.1.content) z.2 u) (λ i. (sym e i, sym d i, class i))
    (replaces_later a.e a.called.now (copied (known_state a.e v).content (known_state a.d v).content) (copy_takes (length_of (known_state a.d v).content)) v u
    (λ found has. filled_has v u (loaded_filled v u only) found has) only.work.pass.locks c.requires.replaces)

takes_as : (c : After-read_counts-next) (takes : Option ℕ) → copy_takes c.read_counts-counts.result.count ≡ takes → takes ≡ copy_takes (length_of (known_state c.args.d (view c.args.pass.now)).content)
takes_as c takes is = sym is ∙ (ap copy_takes (count_is c) ∙ ap (λ (z : ContainerState). copy_takes (length_of z.content)) (known_last c c.args.d))

pub read_counts-counts-requires-clause-container : goal.read_counts-counts-requires-clause-container
read_counts-counts-requires-clause-container c = c.requires.may.container

pub read_counts-counts-requires-clause-locked : goal.read_counts-counts-requires-clause-locked
read_counts-counts-requires-clause-locked c = c.root_table-from.ensures.may.locked

pub root_table-old-requires-clause-may : goal.root_table-old-requires-clause-may
root_table-old-requires-clause-may c =
    may_loaded (shape_of c.args.bank.now) c.args.e (view c.args.pass.now) (view c.read_counts-counts.new.pass) c.requires.pass.1 (only_first (goal.at.root_table-old-requires-clause-may c).After-read_counts-counts) c.requires.other

pub read_counts-next-requires-clause-locked : goal.read_counts-next-requires-clause-locked
read_counts-next-requires-clause-locked c = c.root_table-old.ensures.may.locked

pub copy_in_taken-requires-clause-keyed : goal.copy_in_taken-requires-clause-keyed
copy_in_taken-requires-clause-keyed c = knows_d (goal.at.copy_in_taken-requires-clause-keyed c).After-read_counts-next

pub copy_in_taken-requires-clause-may : goal.copy_in_taken-requires-clause-may
copy_in_taken-requires-clause-may c =
    let p = (goal.at.copy_in_taken-requires-clause-may c).After-read_counts-next in
    may_add (shape_of c.args.bank.now) c.args.e c.root_table-old.result (view c.args.pass.now) (view c.read_counts-next.new.pass) (only_last p) c.requires.used c.requires.idle (may_e p) (knows_e p)

pub copy_in_taken-requires-clause-counts : goal.copy_in_taken-requires-clause-counts
copy_in_taken-requires-clause-counts c = counts_d (goal.at.copy_in_taken-requires-clause-counts c).After-read_counts-next

pub copy_in_taken-requires-clause-next : goal.copy_in_taken-requires-clause-next
copy_in_taken-requires-clause-next c = next_is (goal.at.copy_in_taken-requires-clause-next c).After-read_counts-next

pub copy_in_taken-requires-clause-serials : goal.copy_in_taken-requires-clause-serials
copy_in_taken-requires-clause-serials c =
    let p = (goal.at.copy_in_taken-requires-clause-serials c).After-read_counts-next in
    let room = serials_have_room (view c.read_counts-next.new.pass) c.args.e c.read_counts-next.new.pass.possible (subst (λ (k : Shape). k.passes * k.calls < 2 ^ 46) (sym c.read_counts-next.ensures.pass.1) c.args.bank.now.few) (may_e p).locked in
    let next = next_is p in
    let n = count_is p in
    let few = few_is p in
    omega (arith, room, next, n, few)

pub copy_in_taken-requires-clause-takes : goal.copy_in_taken-requires-clause-takes
copy_in_taken-requires-clause-takes c = sym c.taken_by_copy.ensures.class ∙ c.in-Some.is

pub copy_in_taken-requires-clause-replaces : goal.copy_in_taken-requires-clause-replaces
copy_in_taken-requires-clause-replaces c = replaces_as (goal.at.copy_in_taken-requires-clause-replaces c).After-read_counts-next (Some c.in-Some.class) (sym c.taken_by_copy.ensures.class ∙ c.in-Some.is)

pub clear_keyed-requires-clause-may : goal.clear_keyed-requires-clause-may
clear_keyed-requires-clause-may c = may_e (goal.at.clear_keyed-requires-clause-may c).After-read_counts-next

pub clear_keyed-requires-clause-used : goal.clear_keyed-requires-clause-used
clear_keyed-requires-clause-used c = (only_last (goal.at.clear_keyed-requires-clause-used c).After-read_counts-next).work.used ∙ c.requires.used

pub clear_keyed-requires-clause-idle : goal.clear_keyed-requires-clause-idle
clear_keyed-requires-clause-idle c = (only_last (goal.at.clear_keyed-requires-clause-idle c).After-read_counts-next).work.pass.flight ∙ c.requires.idle

pub clear_keyed-requires-clause-leaves : goal.clear_keyed-requires-clause-leaves
clear_keyed-requires-clause-leaves c =
    let a = c.args in
    let p = (goal.at.clear_keyed-requires-clause-leaves c).After-read_counts-next in
    let u = view c.read_counts-next.new.pass in
    let pairs = pairs_of p in
    let given = given_of p in
    let is : copy_takes c.read_counts-counts.result.count ≡ None = sym c.taken_by_copy.ensures.class ∙ c.in-None.is in
    let none : copy_takes (length_of (content.Dict pairs.0)) ≡ None = ap copy_takes (sym (count_is p ∙ ap length_of pairs.1)) ∙ is in
    copy_clears a.e a.called.now given.0 pairs.0 (known_state a.e u) u given.1 none
    (subst (λ (z : Content × Content). Replaces a.e a.called.now (copied z.0 z.1) None u) (λ i. (given.1 i, pairs.1 i)) (replaces_as p None is))

pub clear_keyed-requires-clause-empties : goal.clear_keyed-requires-clause-empties
clear_keyed-requires-clause-empties c = c.requires.replaces.empties

pub returns-in-Some-clause-replaced : goal.returns-in-Some-clause-replaced
returns-in-Some-clause-replaced c =
    let a = c.args in
    let p = (goal.at.returns-in-Some-clause-replaced c).After-read_counts-next in
    subst (λ (z : Option ℕ). IsReplaced (shape_of a.bank.now) z a.called.now (view a.pass.now) (view c.copy_in_taken.new.pass) c.copy_in_taken.result)
    (takes_as p (Some c.in-Some.class) (sym c.taken_by_copy.ensures.class ∙ c.in-Some.is))
    (view c.read_counts-next.new.pass, only_last p, c.copy_in_taken.ensures.added)

pub returns-in-None-clause-replaced : goal.returns-in-None-clause-replaced
returns-in-None-clause-replaced c =
    let a = c.args in
    let p = (goal.at.returns-in-None-clause-replaced c).After-read_counts-next in
    let x = c.clear_keyed.ensures.cleared in
    subst (λ (z : Option ℕ). IsReplaced (shape_of a.bank.now) z a.called.now (view a.pass.now) (view c.clear_keyed.new.pass) (added.Made c.clear_keyed.result))
    (takes_as p None (sym c.taken_by_copy.ensures.class ∙ c.in-None.is))
    (x.0, (x.1.0, loaded_then (view a.pass.now) (view c.read_counts-next.new.pass) x.1.0 (only_last p) x.1.1, x.1.2))

-- ---- the boxes

pub returns-in-Some-clause-shares : goal.returns-in-Some-clause-shares
returns-in-Some-clause-shares c made =
    let a = c.args in
    let p = (goal.at.returns-in-Some-clause-shares c).After-read_counts-next in
    let v = view a.pass.now in
    let u = view c.read_counts-next.new.pass in
    shares_before (shape_of a.bank.now) a.d a.e v u (view c.copy_in_taken.new.pass) (loaded_held v u a.d (only_last p)) (known_last p a.e) (c.copy_in_taken.ensures.shares made)

pub returns-in-None-clause-shares : goal.returns-in-None-clause-shares
returns-in-None-clause-shares c made s t has_s has_t =
    let a = c.args in
    let g = c.clear_keyed.ensures.cleared.1.2 in
    let w = view c.clear_keyed.new.pass in
    let done : root_in (held_words a.e g.done) ≡ 0 = subst (λ (n : ℕ). root_in (held_words n g.done) ≡ 0) c.requires.replaces.changed g.root in
    let now : root_in (held_words a.e w) ≡ 0 = ap root_in (retired_knows _ g.done w g.retired a.e).0 ∙ done in
    absurd (omega (arith, now, has_t))
