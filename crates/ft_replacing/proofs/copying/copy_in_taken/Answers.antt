use Rattle.std.proofs.Common.{◌≡◌, ◌≢◌, ◌<◌, ◌≤◌, ◌+◌, ℕ, suc, ◌∷◌, List, Some, refl, sym, ap, ◌∙◌, subst, arith}
use Rattle.ft_model.specs.declared.content.Content.{Content}
use Rattle.ft_model.specs.declared.content.Content.TheVariants as content
use Rattle.ft_model.specs.declared.reply.Reply.TheVariants as reply
use Rattle.ft_model.specs.declared.script.Kind.TheVariants as kind
use Rattle.ft_model.specs.Classes.{most_pairs}
use Rattle.ft_model.specs.Contents.{DictContent, dict_copy}
use Rattle.ft_model.specs.TableUses.{StoredWorld}
use Rattle.ft_model.specs.Worlds.{length_of, serial_of}
use Rattle.ft_model.proofs.Copies.{length-pairs_from}
use Rattle.ft_layout.specs.Containers.{StandsAs}
use Rattle.ft_trace.specs.Acts.{has_lock}
use Rattle.ft_trace.specs.declared.Shape.{Shape}
use Rattle.ft_trace.specs.Addresses.{class_of, container_count}
use Rattle.ft_trace.specs.Holds.{held_words, held_unboxed, in_hand, known_state}
use Rattle.ft_trace.specs.Kinds.{rows}
use Rattle.ft_trace.specs.Pictures.{ContainerWords, root_in}
use Rattle.ft_trace.specs.ContainerStates.{ContainerState}
use Rattle.ft_bank.specs.Passes.{shape_of, view}
use Rattle.ft_bank.specs.TableNames.{table_id, root_for}
use Rattle.ft_bank.specs.WriteSteps.{MayHave}
use Rattle.ft_bank.proofs.TableAddresses.{class_is}
use Rattle.ft_table_calls.specs.Adding.{Retires}
use Rattle.ft_table_calls.proofs.GrowthMidst.{retired_knows}
use Rattle.ft_table_calls.proofs.Rooting.{filled_wrote, taken_out}
use Rattle.ft_table_calls.proofs.Unmade.{not_made}
use Rattle.ft_search.proofs.Changing.{kind_is}
use Rattle.ft_new_keys.specs.KeyGrowth.{MayGrowKeyed}
use Rattle.ft_new_keys.specs.Placing.{AreCounts}
use Rattle.ft_new_keys.proofs.Grown.{filled_has, grow_filled, same_filled, words_filled}
use Rattle.ft_new_keys.proofs.Keyed.{counts_known, fresh_other}
use Rattle.ft_new_keys.proofs.Taken.{tried_has, tried_knows, tried_may, tried_words}
use Rattle.ft_replacing.specs.Replacing.{Replaces, copied}
use Rattle.ft_replacing.specs.Sharing.{SharesEntries}
use Rattle.ft_replacing.proofs.CopiedBoxes.{copy_shares}
use Rattle.ft_replacing.proofs.Replaced.{copy_room, dict_of_kind, pairs_few, replaces_later}
use Rattle.ft_replacing.proofs.copying.copy_in_taken.Goals as goal
use Rattle.ft_replacing.proofs.copying.copy_in_taken.Goals.{After-take, In-Taken, Start}

-- ---- before the table was taken

pairs_of : (c : Start) → (pairs : DictContent) × ((known_state c.args.d (view c.args.pass.now)).content ≡ content.Dict pairs)
pairs_of c =
    let a = c.args in
    dict_of_kind (known_state a.d (view a.pass.now)).content (kind_is (shape_of a.bank.now) (view a.pass.now) a.d c.requires.pass.1 a.pass.now.possible c.requires.keyed.locked ∙ c.requires.dict)

given_of : (c : Start) → (given : DictContent) × ((known_state c.args.e (view c.args.pass.now)).content ≡ content.Dict given)
given_of c =
    let a = c.args in
    dict_of_kind (known_state a.e (view a.pass.now)).content (kind_is (shape_of a.bank.now) (view a.pass.now) a.e c.requires.pass.1 a.pass.now.possible c.requires.may.keyed.locked ∙ c.requires.other_dict)

count_is : (c : After-take) → c.args.counts.count ≡ length_of (known_state c.args.d (view c.args.pass.now)).content
count_is c =
    let a = c.args in
    (counts_known c.words_are_of_one_content.ensures.head (shape_of a.bank.now) a.d a.from (view a.pass.now) a.counts c.requires.keyed c.requires.counts).0

few_is : (c : Start) → length_of (known_state c.args.d (view c.args.pass.now)).content ≤ most_pairs
few_is c =
    let a = c.args in
    let v = view a.pass.now in
    let p = pairs_of c in
    subst (λ (z : Content). length_of z ≤ most_pairs) (sym p.1)
    (pairs_few (shape_of a.bank.now).texts (held_unboxed a.d v).block (0 ∷ 0 ∷ (held_unboxed a.d v).table) (known_state a.d v).table p.0
    (subst (λ (z : Content). StandsAs (shape_of a.bank.now).texts (held_unboxed a.d v).block (0 ∷ 0 ∷ (held_unboxed a.d v).table) (known_state a.d v).table z) p.1 c.requires.keyed.stands))

-- ---- once it was taken

words_d : (c : In-Taken) → (held_unboxed c.args.d (view c.take.new.pass) ≡ held_unboxed c.args.d (view c.args.pass.now)) × (known_state c.args.d (view c.take.new.pass) ≡ known_state c.args.d (view c.args.pass.now))
words_d c =
    let a = c.args in
    let e = c.in-Taken.ensures in
    tried_words _ (view a.pass.now) (view c.take.new.pass) e.same e.keeps (shape_of a.bank.now) a.d a.from c.requires.pass.1 c.requires.keyed

grow : (c : In-Taken) → MayGrowKeyed (shape_of c.args.bank.now) c.args.e c.args.old c.in-Taken.table (view c.take.new.pass)
grow c =
    let a = c.args in
    let e = c.in-Taken.ensures in
    let x = e.did.6 in
    tried_may _ (view a.pass.now) (view c.take.new.pass) e.same e.keeps (shape_of a.bank.now) a.e a.old c.in-Taken.table a.class c.requires.pass.1 c.requires.may x.0 x.1 x.3 x.4

other : (c : In-Taken) → root_in (held_unboxed c.args.e (view c.take.new.pass)) ≢ suc (table_id c.in-Taken.table)
other c =
    let a = c.args in
    let g = grow c in
    fresh_other (shape_of a.bank.now) (view c.take.new.pass) a.e c.in-Taken.table (c.in-Taken.ensures.same.shape ∙ c.requires.pass.1) c.take.new.pass.possible g.keyed.container g.keyed.locked g.table_in g.fresh

class_named : (c : In-Taken) → class_of (table_id c.in-Taken.table) ≡ c.args.class
class_named c = let x = c.in-Taken.ensures.did.6 in class_is c.in-Taken.table x.0.2 ∙ x.1

pub fill_for-requires-clause-keyed : goal.fill_for-requires-clause-keyed
fill_for-requires-clause-keyed c =
    let a = c.args in
    let e = c.in-Taken.ensures in
    tried_knows _ (view a.pass.now) (view c.take.new.pass) e.same e.keeps (shape_of a.bank.now) a.d a.from c.requires.pass.1 c.requires.keyed

pub fill_for-requires-clause-counts : goal.fill_for-requires-clause-counts
fill_for-requires-clause-counts c = subst (λ (z : ContainerWords). AreCounts z.block c.args.counts) (sym (words_d (goal.at.fill_for-requires-clause-counts c).In-Taken).0) c.requires.counts

pub fill_for-requires-clause-table : goal.fill_for-requires-clause-table
fill_for-requires-clause-table c = c.in-Taken.ensures.did.6.0

pub fill_for-requires-clause-fresh : goal.fill_for-requires-clause-fresh
fill_for-requires-clause-fresh c = c.in-Taken.ensures.did.6.3

pub fill_for-requires-clause-room : goal.fill_for-requires-clause-room
fill_for-requires-clause-room c =
    let p = goal.at.fill_for-requires-clause-room c in
    let n = count_is p.After-take in
    let few = few_is p.Start in
    subst (λ (z : ℕ). c.args.counts.count ≤ rows kind.Dict z) (sym (class_named p.In-Taken))
    (copy_room c.args.counts.count c.args.class (omega (arith, n, few)) c.requires.takes)

-- ---- once it was filled

pub swap_table-number-requires-clause-may : goal.swap_table-number-requires-clause-may
swap_table-number-requires-clause-may c =
    let a = c.args in
    let g = grow (goal.at.swap_table-number-requires-clause-may c).In-Taken in
    grow_filled (shape_of a.bank.now) a.e a.old c.in-Taken.table (view c.take.new.pass) (view c.fill_for.new.pass) (c.in-Taken.ensures.same.shape ∙ c.requires.pass.1) c.fill_for.ensures.only g

pub swap_table-number-requires-clause-other : goal.swap_table-number-requires-clause-other
swap_table-number-requires-clause-other c =
    let a = c.args in
    let p = (goal.at.swap_table-number-requires-clause-other c).In-Taken in
    let same = same_filled (shape_of a.bank.now) a.e a.old (view c.take.new.pass) (view c.fill_for.new.pass) (c.in-Taken.ensures.same.shape ∙ c.requires.pass.1) c.fill_for.ensures.only (grow p).keyed in
    subst (λ (z : ContainerWords). root_in z ≢ suc (table_id c.in-Taken.table)) (sym same.0) (other p)

pub swap_table-number-requires-clause-gets : goal.swap_table-number-requires-clause-gets
swap_table-number-requires-clause-gets c =
    let a = c.args in
    let at = goal.at.swap_table-number-requires-clause-gets c in
    let k = shape_of a.bank.now in
    let v = view a.pass.now in
    let u = view c.take.new.pass in
    let x = view c.fill_for.new.pass in
    let e = c.in-Taken.ensures in
    let class = class_of (table_id c.in-Taken.table) in
    let pairs = pairs_of at.Start in
    let given = given_of at.Start in
    let long = length-pairs_from given.0.next pairs.0.pairs in
    let n : a.counts.count ≡ length_of (content.Dict pairs.0) = count_is at.After-take ∙ ap length_of pairs.1 in
    let next : given.0.next ≡ a.next = sym (c.requires.next ∙ ap serial_of given.1) in
    let left : copied (known_state a.e v).content (known_state a.d v).content ≡ content.Dict (dict_copy given.0 pairs.0.pairs) = (λ i. copied (given.1 i) (pairs.1 i)) in
    let before : (found : StoredWorld) → MayHave x found → MayHave v found = λ found has. tried_has _ v u e.same e.keeps found (filled_has u x c.fill_for.ensures.only found has) in
    let locks : (p : ℕ) → has_lock p x.log ≡ has_lock p v.log = λ p. c.fill_for.ensures.only.work.pass.locks p ∙ e.same.locks p in (
      content.Dict (dict_copy given.0 pairs.0.pairs),
      sym c.requires.other_dict,
      n ∙ sym long,
      (λ i. sym next i + n i),
      c.fill_for.ensures.filled pairs.0 given.0 (ap (λ (z : ContainerState). z.content) (words_d at.In-Taken).1 ∙ pairs.1) next,
      subst (λ (z : Content × ℕ). Replaces a.e a.called.now z.0 (Some z.1) x) (λ i. (left i, sym (class_named at.In-Taken) i))
          (replaces_later a.e a.called.now (copied (known_state a.e v).content (known_state a.d v).content) (Some a.class) v x before locks c.requires.replaces),
    )

pub retire_old-requires-clause-out : goal.retire_old-requires-clause-out
retire_old-requires-clause-out c t is =
    let a = c.args in
    let p = (goal.at.retire_old-requires-clause-out c).In-Taken in
    let x = view c.fill_for.new.pass in
    let w = view c.swap_table-number.new.pass in
    let same = same_filled (shape_of a.bank.now) a.e a.old (view c.take.new.pass) x (c.in-Taken.ensures.same.shape ∙ c.requires.pass.1) c.fill_for.ensures.only (grow p).keyed in
    let ends = c.swap_table-number.ensures in
    let at = sym c.requires.replaces.changed in
    let root : root_in (held_unboxed a.e (view c.take.new.pass)) ≡ suc (table_id t) = (grow p).keyed.root ∙ ap root_for is in
    let out = taken_out a.called.now reply.Done c.swap_table-number.result (table_id t) (suc (table_id c.in-Taken.table)) x w ends.wrote
    (subst (λ (n : ℕ). root_in (held_unboxed n x) ≡ suc (table_id t)) at (ap root_in same.0 ∙ root))
    (subst (λ (n : ℕ). root_in (held_unboxed n w) ≡ suc (table_id c.in-Taken.table)) at ends.root)
    (λ same_name. other p (root ∙ same_name)) in
    (c.requires.may.keyed.table_in t is, out.0, out.1)

pub answer_no_table-requires-clause-lacks : goal.answer_no_table-requires-clause-lacks
answer_no_table-requires-clause-lacks c found has =
    let e = c.in-AllTaken.ensures in
    let before = tried_has _ (view c.args.pass.now) (view c.take.new.pass) e.same e.keeps found has in
    let r = c.requires.replaces in
    (r.lacks found before, r.fits found before, r.takes_is found before)

pub returns-in-Taken-clause-added : goal.returns-in-Taken-clause-added
returns-in-Taken-clause-added c =
    let a = c.args in
    let p = (goal.at.returns-in-Taken-clause-added c).In-Taken in
    let u = view c.take.new.pass in
    let x = view c.fill_for.new.pass in
    let done = view c.swap_table-number.new.pass in
    let e = c.in-Taken.ensures in
    let at = c.requires.replaces.changed in
    let w = c.swap_table-number.ensures in (
      refl,
      refl,
      record {
        table = c.in-Taken.table;
        taken = u;
        tried = record { mid = e.did.0; freed = e.did.1; acts = e.did.2; collected = e.did.3; did = e.did.4; taking = e.did.5; has = e.did.6; floor = e.floor; same = e.same; keeps = e.keeps; hands = e.hands };
        other = subst (λ (n : ℕ). root_in (held_unboxed n u) ≢ suc (table_id c.in-Taken.table)) (sym at) (other p);
        done = done;
        wrote = filled_wrote a.called.now reply.Done c.swap_table-number.result u x done c.fill_for.ensures.only (subst (λ (n : ℕ). held_words n x ≡ held_words n u) (sym at) (words_filled (shape_of a.bank.now) a.e a.old u x (e.same.shape ∙ c.requires.pass.1) c.fill_for.ensures.only (grow p).keyed)) w.wrote;
        root = subst (λ (n : ℕ). root_in (held_unboxed n done) ≡ suc (table_id c.in-Taken.table)) (sym at) w.root;
        references = λ b. w.references b ∙ c.fill_for.ensures.only.references b;
        retired = subst (λ (n : ℕ). Retires n done (view c.retire_old.new.pass)) (sym (grow p).keyed.root ∙ sym (ap (λ (n : ℕ). root_in (held_unboxed n u)) at)) c.retire_old.ensures.retired;
      },
    )

-- ---- the boxes

pub swap_table-number-requires-clause-named : goal.swap_table-number-requires-clause-named
swap_table-number-requires-clause-named c = c.fill_for.ensures.named

pub returns-in-Taken-clause-shares : goal.returns-in-Taken-clause-shares
returns-in-Taken-clause-shares c made =
    let a = c.args in
    let k = shape_of a.bank.now in
    let v = view a.pass.now in
    let u = view c.take.new.pass in
    let x = view c.fill_for.new.pass in
    let done = view c.swap_table-number.new.pass in
    let w = view c.retire_old.new.pass in
    let e = c.in-Taken.ensures in
    let t = table_id c.in-Taken.table in
    let retired = (retired_knows _ done w c.retire_old.ensures.retired a.e).0 in
    let words_d : held_words a.d u ≡ held_words a.d v = (e.keeps.held.words a.d (subst (λ (z : Shape). a.d < container_count z) (sym c.requires.pass.1) c.requires.keyed.container) c.requires.keyed.locked).0 in
    let words_e : in_hand t x ≡ (held_words a.e w).table = sym c.swap_table-number.ensures.raw ∙ ap (λ (z : ContainerWords). z.table) (sym retired) in
    copy_shares k a.d a.e a.next a.from t v w c.requires.keyed.root (ap root_in retired ∙ c.swap_table-number.ensures.root) c.requires.next
    (λ own is. subst (λ (z : ContainerWords × List ℕ). SharesEntries k.texts a.next (class_of (table_id own)) z.0.table (class_of t) z.1) (λ i. (words_d i, words_e i)) (c.fill_for.ensures.shares own is))

pub returns-in-AllTaken-clause-shares : goal.returns-in-AllTaken-clause-shares
returns-in-AllTaken-clause-shares c made = not_made _ refl made

pub returns-in-Moved-clause-shares : goal.returns-in-Moved-clause-shares
returns-in-Moved-clause-shares c made = not_made _ refl made
