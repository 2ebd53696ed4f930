use Rattle.std.proofs.Common.{◌≡◌, ◌≢◌, ◌<◌, ◌^◌, ◌+◌, ℕ, suc, false, Some, None, refl, sym, ap, ◌∙◌, subst, arith}
use Rattle.std.specs.Prelude.{nat_lt}
use Rattle.ft_model.specs.Worlds.{length_of, serial_of}
use Rattle.ft_trace.specs.Addresses.{class_of}
use Rattle.ft_trace.specs.Holds.{held_unboxed, known_state}
use Rattle.ft_trace.specs.Kinds.{rows}
use Rattle.ft_trace.specs.Pictures.{ContainerWords, root_in}
use Rattle.ft_trace.specs.ContainerStates.{ContainerState, changes}
use Rattle.ft_bank.specs.Passes.{shape_of, view}
use Rattle.ft_bank.specs.TableNames.{table_id, root_for}
use Rattle.ft_bank.proofs.TableAddresses.{class_is}
use Rattle.ft_table_calls.specs.Adding.{Retires}
use Rattle.ft_table_calls.proofs.Rooting.{taken_out}
use Rattle.ft_search.specs.Held.{IsHeldAt}
use Rattle.ft_search.specs.Rounds.{kind_by}
use Rattle.ft_search.proofs.Changing.{kind_is}
use Rattle.ft_bank.proofs.DoneBoxes.{stays_settled_same}
use Rattle.ft_new_keys.specs.HeldKeys.{MayPutInNew}
use Rattle.ft_new_keys.specs.KeyGrowth.{key_takes, most_of}
use Rattle.ft_new_keys.specs.Placing.{AreCounts}
use Rattle.ft_new_keys.proofs.HeldCalls.{put_tried}
use Rattle.ft_new_keys.proofs.HeldKeys.{holds_on}
use Rattle.ft_new_keys.proofs.Keyed.{counts_known, fresh_other}
use Rattle.ft_new_keys.proofs.NewEntryPuts.{boxes_keep}
use Rattle.ft_new_keys.proofs.Taken.{adds_later, tried_has, tried_knows, tried_words}
use Rattle.ft_new_keys.proofs.Wanted.{passes_not, takes_room}
use Rattle.ft_new_keys.proofs.keys.add_in_taken.Goals as goal
use Rattle.ft_new_keys.proofs.keys.add_in_taken.Goals.{After-take, In-Taken}

few_is : (c : After-take) → length_of (known_state c.args.o (view c.args.pass.now)).content < most_of (known_state c.args.o (view c.args.pass.now)).content
few_is c =
    let a = c.args in
    let n = (counts_known c.words_are_of_one_content.ensures.head (shape_of a.bank.now) a.o a.old (view a.pass.now) a.counts c.requires.may.keyed c.requires.counts).0 in
    let few = c.requires.few in
    omega (arith, n, few)

same : (c : In-Taken) → (held_unboxed c.args.o (view c.take.new.pass) ≡ held_unboxed c.args.o (view c.args.pass.now)) × (known_state c.args.o (view c.take.new.pass) ≡ known_state c.args.o (view c.args.pass.now))
same c =
    let a = c.args in
    let e = c.in-Taken.ensures in
    tried_words _ (view a.pass.now) (view c.take.new.pass) e.same e.keeps (shape_of a.bank.now) a.o a.old c.requires.pass.1 c.requires.may.keyed

grow : (c : In-Taken) → MayPutInNew (shape_of c.args.bank.now) c.args.o c.args.old c.in-Taken.table (view c.take.new.pass)
grow c =
    let a = c.args in
    let e = c.in-Taken.ensures in
    let x = e.did.6 in
    let keyed = tried_knows _ (view a.pass.now) (view c.take.new.pass) e.same e.keeps (shape_of a.bank.now) a.o a.old c.requires.pass.1 c.requires.may.keyed in
    put_tried _ (view a.pass.now) (view c.take.new.pass) e.same e.keeps (shape_of a.bank.now) a.o a.old c.in-Taken.table a.class keyed c.requires.may x.0 x.1 x.3 x.4

other : (c : In-Taken) → root_in (held_unboxed c.args.o (view c.take.new.pass)) ≢ suc (table_id c.in-Taken.table)
other c =
    let a = c.args in
    let g = grow c in
    fresh_other (shape_of a.bank.now) (view c.take.new.pass) a.o c.in-Taken.table (c.in-Taken.ensures.same.shape ∙ c.requires.pass.1) c.take.new.pass.possible g.keyed.container g.keyed.locked g.table_in g.fresh

class_named : (c : In-Taken) → class_of (table_id c.in-Taken.table) ≡ c.args.class
class_named c = let x = c.in-Taken.ensures.did.6 in class_is c.in-Taken.table x.0.2 ∙ x.1

pub add_in_new-number-requires-clause-may : goal.add_in_new-number-requires-clause-may
add_in_new-number-requires-clause-may c = grow (goal.at.add_in_new-number-requires-clause-may c).In-Taken

pub add_in_new-number-requires-clause-other : goal.add_in_new-number-requires-clause-other
add_in_new-number-requires-clause-other c = other (goal.at.add_in_new-number-requires-clause-other c).In-Taken

pub add_in_new-number-requires-clause-absent : goal.add_in_new-number-requires-clause-absent
add_in_new-number-requires-clause-absent c = subst (λ (z : ContainerState). IsHeldAt z.content c.args.key None) (sym (same (goal.at.add_in_new-number-requires-clause-absent c).In-Taken).1) c.requires.absent

pub add_in_new-number-requires-clause-counts : goal.add_in_new-number-requires-clause-counts
add_in_new-number-requires-clause-counts c = subst (λ (z : ContainerWords). AreCounts z.block c.args.counts) (sym (same (goal.at.add_in_new-number-requires-clause-counts c).In-Taken).0) c.requires.counts

pub add_in_new-number-requires-clause-room : goal.add_in_new-number-requires-clause-room
add_in_new-number-requires-clause-room c =
    let a = c.args in
    let d = (goal.at.add_in_new-number-requires-clause-room c).In-Taken in
    let x = known_state a.o (view a.pass.now) in
    let k = shape_of a.bank.now in
    let n = (counts_known c.words_are_of_one_content.ensures.head k a.o a.old (view a.pass.now) a.counts c.requires.may.keyed c.requires.counts).0 in
    let kinds = kind_is k (view a.pass.now) a.o c.requires.pass.1 a.pass.now.possible c.requires.may.keyed.locked ∙ c.requires.way in
    subst (λ (z : ℕ × ℕ). z.0 < rows (kind_by a.way) z.1) (λ i. (sym n i, sym (class_named d) i))
    (takes_room x.content a.way x.table a.class kinds (few_is (goal.at.add_in_new-number-requires-clause-room c).After-take) c.requires.takes)

pub add_in_new-number-requires-clause-serials : goal.add_in_new-number-requires-clause-serials
add_in_new-number-requires-clause-serials c = subst (λ (z : ContainerState). serial_of z.content < 2 ^ 63) (sym (same (goal.at.add_in_new-number-requires-clause-serials c).In-Taken).1) c.requires.serials

pub add_in_new-number-requires-clause-adds : goal.add_in_new-number-requires-clause-adds
add_in_new-number-requires-clause-adds c =
    let a = c.args in
    let d = (goal.at.add_in_new-number-requires-clause-adds c).In-Taken in
    let e = c.in-Taken.ensures in
    adds_later a.o a.called.now a.said.now a.key a.value.stored (view a.pass.now) (view c.take.new.pass) (tried_has _ (view a.pass.now) (view c.take.new.pass) e.same e.keeps) e.same.locks (same d).1 c.requires.adds

pub add_in_new-number-requires-clause-few : goal.add_in_new-number-requires-clause-few
add_in_new-number-requires-clause-few c =
    let d = (goal.at.add_in_new-number-requires-clause-few c).In-Taken in
    subst (λ (z : ContainerState). nat_lt (most_of z.content) (length_of z.content + 1) ≡ false) (sym (same d).1) (passes_not (known_state c.args.o (view c.args.pass.now)).content (few_is (goal.at.add_in_new-number-requires-clause-few c).After-take))

pub add_in_new-number-requires-clause-takes : goal.add_in_new-number-requires-clause-takes
add_in_new-number-requires-clause-takes c =
    let d = (goal.at.add_in_new-number-requires-clause-takes c).In-Taken in
    subst (λ (z : ContainerState × ℕ). key_takes z.0.content z.0.table ≡ Some z.1) (λ i. (sym (same d).1 i, sym (class_named d) i)) c.requires.takes

pub retire_old-requires-clause-out : goal.retire_old-requires-clause-out
retire_old-requires-clause-out c t is =
    let a = c.args in
    let d = (goal.at.retire_old-requires-clause-out c).In-Taken in
    let u = view c.take.new.pass in
    let e = c.add_in_new-number.ensures in
    let at = c.requires.adds.changed in
    let root : root_in (held_unboxed a.o u) ≡ suc (table_id t) = (grow d).keyed.root ∙ ap root_for is in
    let before : root_in (held_unboxed (changes a.called.now) u) ≡ suc (table_id t) = subst (λ (n : ℕ). root_in (held_unboxed n u) ≡ suc (table_id t)) (sym at) root in
    let after : root_in (held_unboxed (changes a.called.now) (view c.add_in_new-number.new.pass)) ≡ suc (table_id c.in-Taken.table) = subst (λ (n : ℕ). root_in (held_unboxed n (view c.add_in_new-number.new.pass)) ≡ suc (table_id c.in-Taken.table)) (sym at) e.root in
    let out = taken_out a.called.now a.said.now c.add_in_new-number.result (table_id t) (suc (table_id c.in-Taken.table)) u (view c.add_in_new-number.new.pass) e.wrote before after (λ same_name. other d (root ∙ same_name)) in
    (c.requires.may.keyed.table_in t is, out.0, out.1)

pub answer_no_table-requires-clause-lacks : goal.answer_no_table-requires-clause-lacks
answer_no_table-requires-clause-lacks c found has =
    let a = c.args in
    let e = c.in-AllTaken.ensures in
    let d = (goal.at.answer_no_table-requires-clause-lacks c).After-take in
    let before = tried_has _ (view a.pass.now) (view c.take.new.pass) e.same e.keeps found has in
    let adds = c.requires.adds in
    (adds.lacks found before, adds.over found before ∙ passes_not (known_state a.o (view a.pass.now)).content (few_is d), adds.takes found before ∙ c.requires.takes)

pub add_in_new-number-requires-clause-holds : goal.add_in_new-number-requires-clause-holds
add_in_new-number-requires-clause-holds c =
    let v = view c.args.pass.now in
    let u = view c.take.new.pass in
    let e = c.in-Taken.ensures in
    let boxes = e.keeps.boxes in
    holds_on c.args.value.boxed c.args.value.stored v u e.same.shape boxes.references (stays_settled_same v u boxes.made) (boxes_keep v u c.args.pass.now.possible boxes) c.requires.holds

pub add_in_new-number-requires-clause-boxing : goal.add_in_new-number-requires-clause-boxing
add_in_new-number-requires-clause-boxing c b is found has =
    let e = c.in-Taken.ensures in
    c.requires.boxing b is found (tried_has _ (view c.args.pass.now) (view c.take.new.pass) e.same e.keeps found has)

pub returns-in-Taken-clause-put : goal.returns-in-Taken-clause-put
returns-in-Taken-clause-put c =
    let a = c.args in
    let d = (goal.at.returns-in-Taken-clause-put c).In-Taken in
    let u = view c.take.new.pass in
    let done = view c.add_in_new-number.new.pass in
    let e = c.in-Taken.ensures in
    let at = c.requires.adds.changed in
    let w = c.add_in_new-number.ensures in (
      refl,
      refl,
      record {
        table = c.in-Taken.table;
        taken = u;
        tried = record { mid = e.did.0; freed = e.did.1; acts = e.did.2; collected = e.did.3; did = e.did.4; taking = e.did.5; has = e.did.6; floor = e.floor; same = e.same; keeps = e.keeps; hands = e.hands };
        other = subst (λ (n : ℕ). root_in (held_unboxed n u) ≢ suc (table_id c.in-Taken.table)) (sym at) (other d);
        done = done;
        wrote = w.wrote;
        root = subst (λ (n : ℕ). root_in (held_unboxed n done) ≡ suc (table_id c.in-Taken.table)) (sym at) w.root;
        references = w.there;
        retired = subst (λ (n : ℕ). Retires n done (view c.retire_old.new.pass)) (sym (grow d).keyed.root ∙ sym (ap (λ (n : ℕ). root_in (held_unboxed n u)) at)) c.retire_old.ensures.retired;
      },
    )
