use Rattle.std.proofs.Common.{◌≡◌, ◌≢◌, ◌≤◌, ℕ, suc, length, Some, refl, sym, ap, ◌∙◌, subst, arith}
use Rattle.ft_model.specs.declared.content.Content.TheVariants as content
use Rattle.ft_model.specs.declared.reply.Reply.TheVariants as reply
use Rattle.ft_model.specs.declared.script.Kind.TheVariants as kind
use Rattle.ft_model.specs.TableUses.{StoredWorld}
use Rattle.ft_model.specs.Worlds.{serial_of, set_of}
use Rattle.ft_trace.specs.Acts.{has_lock}
use Rattle.ft_trace.specs.Addresses.{class_of}
use Rattle.ft_trace.specs.Holds.{held_words, held_unboxed, in_hand, known_state}
use Rattle.ft_trace.specs.Kinds.{rows, IsKeyed}
use Rattle.ft_trace.specs.Pictures.{ContainerWords, root_in}
use Rattle.ft_trace.specs.ContainerStates.{ContainerState, kind_in}
use Rattle.ft_bank.specs.Passes.{shape_of, view}
use Rattle.ft_bank.specs.TableNames.{table_id, root_for}
use Rattle.ft_bank.specs.Whole.{Wrote}
use Rattle.ft_bank.specs.WriteSteps.{MayHave}
use Rattle.ft_bank.proofs.TableAddresses.{class_is}
use Rattle.ft_table_calls.specs.Adding.{Retires}
use Rattle.ft_table_calls.proofs.Rooting.{filled_wrote, taken_out}
use Rattle.ft_section.specs.declared.answers.Stamp.{Stamp}
use Rattle.ft_new_keys.specs.Fresh.{IsFilledWith}
use Rattle.ft_new_keys.specs.KeyGrowth.{MayGrowKeyed}
use Rattle.ft_new_keys.specs.Placing.{AreCounts}
use Rattle.ft_new_keys.proofs.Grown.{filled_has, grow_filled, same_filled, words_filled}
use Rattle.ft_new_keys.proofs.Keyed.{counts_known, fresh_other}
use Rattle.ft_new_keys.proofs.Taken.{tried_has, tried_knows, tried_may, tried_words}
use Rattle.ft_merging.specs.Parting.{parted}
use Rattle.ft_merging.proofs.ThinningEnds.{is_set}
use Rattle.ft_replacing.specs.Replacing.{Replaces}
use Rattle.ft_replacing.proofs.PlainFills.{plain_filled, plain_named}
use Rattle.ft_replacing.proofs.Replaced.{replaces_later}
use Rattle.ft_parting.proofs.PartedSets.{part_few, part_room, parted_next, parts_replaces}
use Rattle.ft_parting.proofs.parting.part_in_taken.Goals as goal
use Rattle.ft_parting.proofs.parting.part_in_taken.Goals.{After-take, In-Taken, Start}

-- ---- once it was taken

words_s : (c : In-Taken) → (held_unboxed c.args.merge.now.o (view c.take.new.pass) ≡ held_unboxed c.args.merge.now.o (view c.args.pass.now)) × (known_state c.args.merge.now.o (view c.take.new.pass) ≡ known_state c.args.merge.now.o (view c.args.pass.now))
words_s c =
    let a = c.args in
    let e = c.in-Taken.ensures in
    tried_words _ (view a.pass.now) (view c.take.new.pass) e.same e.keeps (shape_of a.bank.now) a.merge.now.o a.old c.requires.pass.1 c.requires.may.keyed

words_t : (c : In-Taken) → (held_unboxed c.args.merge.now.t (view c.take.new.pass) ≡ held_unboxed c.args.merge.now.t (view c.args.pass.now)) × (known_state c.args.merge.now.t (view c.take.new.pass) ≡ known_state c.args.merge.now.t (view c.args.pass.now))
words_t c =
    let a = c.args in
    let e = c.in-Taken.ensures in
    tried_words _ (view a.pass.now) (view c.take.new.pass) e.same e.keeps (shape_of a.bank.now) a.merge.now.t (Some a.merge.now.table) c.requires.pass.1 c.requires.merge.other

grow : (c : In-Taken) → MayGrowKeyed (shape_of c.args.bank.now) c.args.merge.now.o c.args.old c.in-Taken.new (view c.take.new.pass)
grow c =
    let a = c.args in
    let e = c.in-Taken.ensures in
    let x = e.did.6 in
    tried_may _ (view a.pass.now) (view c.take.new.pass) e.same e.keeps (shape_of a.bank.now) a.merge.now.o a.old c.in-Taken.new a.class c.requires.pass.1 c.requires.may x.0 x.1 x.3 x.4

other : (c : In-Taken) → root_in (held_unboxed c.args.merge.now.o (view c.take.new.pass)) ≢ suc (table_id c.in-Taken.new)
other c =
    let a = c.args in
    let g = grow c in
    fresh_other (shape_of a.bank.now) (view c.take.new.pass) a.merge.now.o c.in-Taken.new (c.in-Taken.ensures.same.shape ∙ c.requires.pass.1) c.take.new.pass.possible g.keyed.container g.keyed.locked g.table_in g.fresh

class_named : (c : In-Taken) → class_of (table_id c.in-Taken.new) ≡ c.args.class
class_named c = let x = c.in-Taken.ensures.did.6 in class_is c.in-Taken.new x.0.2 ∙ x.1

pub fill_parted-requires-clause-keyed : goal.fill_parted-requires-clause-keyed
fill_parted-requires-clause-keyed c = (grow (goal.at.fill_parted-requires-clause-keyed c).In-Taken).keyed

pub fill_parted-requires-clause-other_keyed : goal.fill_parted-requires-clause-other_keyed
fill_parted-requires-clause-other_keyed c =
    let a = c.args in
    let e = c.in-Taken.ensures in
    tried_knows _ (view a.pass.now) (view c.take.new.pass) e.same e.keeps (shape_of a.bank.now) a.merge.now.t (Some a.merge.now.table) c.requires.pass.1 c.requires.merge.other

pub fill_parted-requires-clause-counts : goal.fill_parted-requires-clause-counts
fill_parted-requires-clause-counts c = subst (λ (z : ContainerWords). AreCounts z.block c.args.merge.now.counts) (sym (words_s (goal.at.fill_parted-requires-clause-counts c).In-Taken).0) c.requires.merge.counts

pub fill_parted-requires-clause-others : goal.fill_parted-requires-clause-others
fill_parted-requires-clause-others c = c.requires.merge.others ∙ ap (λ (z : ContainerState). z.table.fill) (sym (words_t (goal.at.fill_parted-requires-clause-others c).In-Taken).1)

pub fill_parted-requires-clause-table : goal.fill_parted-requires-clause-table
fill_parted-requires-clause-table c = c.in-Taken.ensures.did.6.0

pub fill_parted-requires-clause-fresh : goal.fill_parted-requires-clause-fresh
fill_parted-requires-clause-fresh c = c.in-Taken.ensures.did.6.3

pub fill_parted-requires-clause-room : goal.fill_parted-requires-clause-room
fill_parted-requires-clause-room c =
    let a = c.args in
    let v = view a.pass.now in
    let p = (goal.at.fill_parted-requires-clause-room c).In-Taken in
    let s = words_s p in
    let t = words_t p in
    let fits = part_room (known_state a.merge.now.o v) (known_state a.merge.now.t v).content a.class c.requires.few c.requires.takes in
    subst (λ (z : ContainerState × ContainerState × ℕ). length (parted z.0.content z.1.content).elements ≤ rows kind.Set z.2) (sym (λ i. (s.1 i, t.1 i, class_named p i))) fits

-- the next serial
next_is : (c : After-take) → c.args.merge.now.counts.next ≡ serial_of (known_state c.args.merge.now.o (view c.args.pass.now)).content
next_is c =
    let a = c.args in
    (counts_known c.words_are_of_one_content.ensures.head (shape_of a.bank.now) a.merge.now.o a.old (view a.pass.now) a.merge.now.counts c.requires.may.keyed c.requires.merge.counts).1

pub fill_parted-requires-clause-serials : goal.fill_parted-requires-clause-serials
fill_parted-requires-clause-serials c = let n = next_is (goal.at.fill_parted-requires-clause-serials c).After-take in let s = c.requires.merge.serials in omega (arith, n, s)

-- ---- once it was filled

pub swap_table-number-requires-clause-may : goal.swap_table-number-requires-clause-may
swap_table-number-requires-clause-may c =
    let a = c.args in
    let g = grow (goal.at.swap_table-number-requires-clause-may c).In-Taken in
    grow_filled (shape_of a.bank.now) a.merge.now.o a.old c.in-Taken.new (view c.take.new.pass) (view c.fill_parted.new.pass) (c.in-Taken.ensures.same.shape ∙ c.requires.pass.1) c.fill_parted.ensures.only g

pub swap_table-number-requires-clause-other : goal.swap_table-number-requires-clause-other
swap_table-number-requires-clause-other c =
    let a = c.args in
    let p = (goal.at.swap_table-number-requires-clause-other c).In-Taken in
    let same = same_filled (shape_of a.bank.now) a.merge.now.o a.old (view c.take.new.pass) (view c.fill_parted.new.pass) (c.in-Taken.ensures.same.shape ∙ c.requires.pass.1) c.fill_parted.ensures.only (grow p).keyed in
    subst (λ (z : ContainerWords). root_in z ≢ suc (table_id c.in-Taken.new)) (sym same.0) (other p)

pub overflow_add-next : goal.overflow_add-next
overflow_add-next c =
    let a = c.args in
    let v = view a.pass.now in
    let n = next_is (goal.at.overflow_add-next c).After-take in
    let s = c.requires.merge.serials in
    let is = is_set (shape_of a.bank.now) v a.merge.now.o c.requires.pass.1 a.pass.now.possible c.requires.may.keyed.locked c.requires.merge.way in
    let few = part_few (known_state a.merge.now.o v).content (known_state a.merge.now.t v).content (set_of (known_state a.merge.now.o v).content) a.merge.now.more is c.requires.merge.more c.requires.few in
    omega (arith, n, s, few)

keyed_s : (c : Start) → IsKeyed (kind_in (shape_of c.args.bank.now).starts c.args.merge.now.o)
keyed_s c = subst IsKeyed (sym c.requires.merge.way) tt

pub swap_table-number-requires-clause-named : goal.swap_table-number-requires-clause-named
swap_table-number-requires-clause-named c =
    let a = c.args in
    let at = goal.at.swap_table-number-requires-clause-named c in
    let k = shape_of a.bank.now in
    let s = words_s at.In-Taken in
    let t = words_t at.In-Taken in
    let x = view c.fill_parted.new.pass in
    let v = view a.pass.now in
    plain_named k a.merge.now.o (table_id c.in-Taken.new) (content.Set (parted (known_state a.merge.now.o v).content (known_state a.merge.now.t v).content)) x c.fill_parted.ensures.pass.1 (keyed_s at.Start) (sym c.requires.merge.way)
    (subst (λ (z : ContainerState × ContainerState). IsFilledWith k.texts (class_of (table_id c.in-Taken.new)) (content.Set (parted z.0.content z.1.content)) (in_hand (table_id c.in-Taken.new) x)) (λ i. (s.1 i, t.1 i)) c.fill_parted.ensures.filled)

pub swap_table-number-requires-clause-gets : goal.swap_table-number-requires-clause-gets
swap_table-number-requires-clause-gets c =
    let a = c.args in
    let at = goal.at.swap_table-number-requires-clause-gets c in
    let v = view a.pass.now in
    let u = view c.take.new.pass in
    let x = view c.fill_parted.new.pass in
    let e = c.in-Taken.ensures in
    let s = words_s at.In-Taken in
    let t = words_t at.In-Taken in
    let class = class_of (table_id c.in-Taken.new) in
    let all = parted (known_state a.merge.now.o v).content (known_state a.merge.now.t v).content in
    let is = is_set (shape_of a.bank.now) v a.merge.now.o c.requires.pass.1 a.pass.now.possible c.requires.may.keyed.locked c.requires.merge.way in
    let next = parted_next (known_state a.merge.now.o v).content (known_state a.merge.now.t v).content (set_of (known_state a.merge.now.o v).content) a.merge.now.counts.next a.merge.now.more is (next_is at.After-take ∙ ap serial_of is) c.requires.merge.more in
    let before : (found : StoredWorld) → MayHave x found → MayHave v found = λ found has. tried_has _ v u e.same e.keeps found (filled_has u x c.fill_parted.ensures.only found has) in
    let locks : (p : ℕ) → has_lock p x.log ≡ has_lock p v.log = λ p. c.fill_parted.ensures.only.work.pass.locks p ∙ e.same.locks p in (
      content.Set all,
      sym c.requires.merge.way,
      c.requires.count,
      sym next,
      plain_filled (shape_of a.bank.now) a.merge.now.o (table_id c.in-Taken.new) (content.Set all) x c.fill_parted.ensures.pass.1 (keyed_s at.Start) (sym c.requires.merge.way)
          (subst (λ (z : ContainerState × ContainerState). IsFilledWith (shape_of a.bank.now).texts class (content.Set (parted z.0.content z.1.content)) (in_hand (table_id c.in-Taken.new) x)) (λ i. (s.1 i, t.1 i)) c.fill_parted.ensures.filled),
      subst (λ (z : ℕ). Replaces a.merge.now.o a.called.now (content.Set all) (Some z) x) (sym (class_named at.In-Taken))
          (replaces_later a.merge.now.o a.called.now (content.Set all) (Some a.class) v x before locks (parts_replaces a.merge.now.o a.merge.now.t a.called.now v a.class c.requires.parts c.requires.takes c.requires.few)),
    )

pub retire_old-requires-clause-out : goal.retire_old-requires-clause-out
retire_old-requires-clause-out c t is =
    let a = c.args in
    let p = (goal.at.retire_old-requires-clause-out c).In-Taken in
    let x = view c.fill_parted.new.pass in
    let w = view c.swap_table-number.new.pass in
    let same = same_filled (shape_of a.bank.now) a.merge.now.o a.old (view c.take.new.pass) x (c.in-Taken.ensures.same.shape ∙ c.requires.pass.1) c.fill_parted.ensures.only (grow p).keyed in
    let ends = c.swap_table-number.ensures in
    let at = sym c.requires.parts.changed in
    let root : root_in (held_unboxed a.merge.now.o (view c.take.new.pass)) ≡ suc (table_id t) = (grow p).keyed.root ∙ ap root_for is in
    let out = taken_out a.called.now reply.Done c.swap_table-number.result (table_id t) (suc (table_id c.in-Taken.new)) x w ends.wrote
    (subst (λ (n : ℕ). root_in (held_unboxed n x) ≡ suc (table_id t)) at (ap root_in same.0 ∙ root))
    (subst (λ (n : ℕ). root_in (held_unboxed n w) ≡ suc (table_id c.in-Taken.new)) at ends.root)
    (λ same_name. other p (root ∙ same_name)) in
    (c.requires.may.keyed.table_in t is, out.0, out.1)

pub answer_no_table-requires-clause-lacks : goal.answer_no_table-requires-clause-lacks
answer_no_table-requires-clause-lacks c found has =
    let e = c.in-AllTaken.ensures in
    let before = tried_has _ (view c.args.pass.now) (view c.take.new.pass) e.same e.keeps found has in
    let r = c.requires.parts in
    (r.lacks found before, r.over found before ∙ c.requires.few, r.takes found before ∙ c.requires.takes)

pub returns-in-Taken-clause-added : goal.returns-in-Taken-clause-added
returns-in-Taken-clause-added c =
    let a = c.args in
    let p = (goal.at.returns-in-Taken-clause-added c).In-Taken in
    let u = view c.take.new.pass in
    let x = view c.fill_parted.new.pass in
    let done = view c.swap_table-number.new.pass in
    let e = c.in-Taken.ensures in
    let at = c.requires.parts.changed in
    let w = c.swap_table-number.ensures in (
      refl,
      ap (λ (z : Stamp). z.wrote) c.written.ensures,
      record {
        table = c.in-Taken.new;
        taken = u;
        tried = record { mid = e.did.0; freed = e.did.1; acts = e.did.2; collected = e.did.3; did = e.did.4; taking = e.did.5; has = e.did.6; floor = e.floor; same = e.same; keeps = e.keeps; hands = e.hands };
        other = subst (λ (n : ℕ). root_in (held_unboxed n u) ≢ suc (table_id c.in-Taken.new)) (sym at) (other p);
        done = done;
        wrote = subst (λ (z : Stamp). Wrote a.called.now reply.Done z.number u done) (sym c.written.ensures) (filled_wrote a.called.now reply.Done c.swap_table-number.result u x done c.fill_parted.ensures.only (subst (λ (n : ℕ). held_words n x ≡ held_words n u) (sym at) (words_filled (shape_of a.bank.now) a.merge.now.o a.old u x (e.same.shape ∙ c.requires.pass.1) c.fill_parted.ensures.only (grow p).keyed)) w.wrote);
        root = subst (λ (n : ℕ). root_in (held_unboxed n done) ≡ suc (table_id c.in-Taken.new)) (sym at) w.root;
        references = λ b. w.references b ∙ c.fill_parted.ensures.only.references b;
        retired = subst (λ (n : ℕ). Retires n done (view c.retire_old.new.pass)) (sym (grow p).keyed.root ∙ sym (ap (λ (n : ℕ). root_in (held_unboxed n u)) at)) c.retire_old.ensures.retired;
      },
    )
