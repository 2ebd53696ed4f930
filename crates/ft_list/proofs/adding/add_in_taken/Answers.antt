use Rattle.std.proofs.Common.{◌≡◌, ◌≢◌, ℕ, suc, ◌+◌, ◌<◌, false, List, length, Some, refl, sym, ap, ◌∙◌, subst, arith}
use Rattle.ft_model.specs.declared.call.Call.{Call}
use Rattle.ft_model.specs.declared.data.Value.{Value}
use Rattle.ft_model.specs.declared.reply.Reply.TheVariants as reply
use Rattle.ft_model.specs.TableUses.{CanLackMemory, takes_in, would_pass}
use Rattle.ft_trace.specs.Addresses.{class_of, container_count}
use Rattle.ft_trace.specs.Holds.{held_unboxed}
use Rattle.ft_trace.specs.Pictures.{ContainerWords, root_in}
use Rattle.ft_trace.specs.ContainerStates.{changes}
use Rattle.ft_bank.specs.Passes.{shape_of, view}
use Rattle.ft_bank.specs.TableNames.{table_id, root_for}
use Rattle.ft_bank.proofs.TableAddresses.{class_is}
use Rattle.ft_search.proofs.Overs.{held_same}
use Rattle.ft_table_calls.specs.Adding.{Retires}
use Rattle.ft_table_calls.proofs.GrowthMidst.{retired_knows}
use Rattle.ft_table_calls.proofs.Rooting.{taken_out}
use Rattle.ft_list.specs.ListWrites.{Grows}
use Rattle.ft_list.specs.ListItemWrites.{known_items}
use Rattle.ft_list.specs.Internal.Additions.{count_in, with_added, NamesAdded}
use Rattle.ft_table_calls.proofs.Unmade.{not_made}
use Rattle.ft_list.proofs.AddedStored.{given_same, names_from, names_kept, retired_uses, stores_on, words_kept_all}
use Rattle.ft_trace.specs.declared.Shape.{Shape}
use Rattle.ft_list.proofs.Additions.{taken_grows, no_table_lacks, taken_room, taken_other, taken_wider, taken_root, tried_addition, tried_has, tried_grows, tried_items, tried_knows, tried_may, tried_news}
use Rattle.ft_list.proofs.Extending.{added_long}
use Rattle.ft_list.proofs.GrowWrites.{list_changes}
use Rattle.ft_list.proofs.adding.add_in_taken.Goals as goal

pub add_in-number-requires-clause-may : goal.add_in-number-requires-clause-may
add_in-number-requires-clause-may c =
    let a = c.args in
    let e = c.in-Taken.ensures in
    let x = e.did.6 in
    tried_may _ (view a.pass.now) (view c.take.new.pass) e.same e.keeps (shape_of a.bank.now) a.l a.old c.in-Taken.table a.class c.requires.pass.1 c.requires.may x.0 x.1 x.3 x.4

pub add_in-number-requires-clause-other : goal.add_in-number-requires-clause-other
add_in-number-requires-clause-other c is =
    let a = c.args in
    let k = shape_of a.bank.now in
    let e = c.in-Taken.ensures in
    let x = e.did.6 in
    let list = tried_knows _ (view a.pass.now) (view c.take.new.pass) e.same e.keeps k a.l a.old c.requires.pass.1 c.requires.may.list in
    taken_root k a.old c.in-Taken.table a.class (a.count + count_in a.addition) c.requires.few c.requires.takes x.0 x.1 c.requires.may.list.table_in (sym list.root ∙ is)

pub add_in-number-requires-clause-wider : goal.add_in-number-requires-clause-wider
add_in-number-requires-clause-wider c =
    let a = c.args in
    let x = c.in-Taken.ensures.did.6 in
    taken_wider (shape_of a.bank.now) a.old c.in-Taken.table a.class (a.count + count_in a.addition) c.requires.few c.requires.takes x.0 x.1 c.requires.may.list.table_in

pub add_in-number-requires-clause-spare : goal.add_in-number-requires-clause-spare
add_in-number-requires-clause-spare c b =
    let k = shape_of c.args.bank.now in
    let same = held_same k (view c.args.pass.now) (view c.take.new.pass) c.requires.pass.1 (c.in-Taken.ensures.same.shape ∙ c.requires.pass.1) c.in-Taken.ensures.keeps.boxes.references b in
    let s = c.requires.spare b in
    omega (arith, same, s)

pub add_in-number-requires-clause-stores : goal.add_in-number-requires-clause-stores
add_in-number-requires-clause-stores c =
    let a = c.args in
    let v = view a.pass.now in
    let u = view c.take.new.pass in
    let e = c.in-Taken.ensures in
    stores_on a.called.now v u (λ b taken. sym (e.keeps.boxes.made.uses b) ∙ taken) (tried_has _ v u e.same e.keeps) a.addition c.requires.stores

pub add_in-number-requires-clause-count : goal.add_in-number-requires-clause-count
add_in-number-requires-clause-count c =
    let a = c.args in
    let e = c.in-Taken.ensures in
    c.requires.count ∙ sym (ap length (tried_items _ (view a.pass.now) (view c.take.new.pass) e.same e.keeps (shape_of a.bank.now) a.l a.old c.requires.pass.1 c.requires.may.list))

pub add_in-number-requires-clause-addition : goal.add_in-number-requires-clause-addition
add_in-number-requires-clause-addition c =
    let a = c.args in
    let e = c.in-Taken.ensures in
    tried_addition _ (view a.pass.now) (view c.take.new.pass) e.same e.keeps (shape_of a.bank.now) a.count a.addition c.requires.pass.1 a.pass.now.possible c.requires.addition

pub add_in-number-requires-clause-room : goal.add_in-number-requires-clause-room
add_in-number-requires-clause-room c =
    let a = c.args in
    let x = c.in-Taken.ensures.did.6 in
    taken_room (shape_of a.bank.now) a.old c.in-Taken.table a.class (a.count + count_in a.addition) c.requires.few c.requires.takes x.0 x.1

pub add_in-number-requires-clause-call : goal.add_in-number-requires-clause-call
add_in-number-requires-clause-call c =
    let a = c.args in
    let k = shape_of a.bank.now in
    let v = view a.pass.now in
    let u = view c.take.new.pass in
    let e = c.in-Taken.ensures in
    let x = e.did.6 in
    let r = c.requires.call in
    let old_values = known_items a.l v in
    let class : a.class ≡ class_of (table_id c.in-Taken.table) = sym (class_is c.in-Taken.table x.0.2 ∙ x.1) in
    let items : known_items a.l u ≡ old_values = tried_items _ v u e.same e.keeps k a.l a.old c.requires.pass.1 c.requires.may.list in
    let long = added_long k a.count a.addition v old_values c.requires.addition c.requires.count in
    let news = with_added a.addition v old_values in
    let at_first = taken_grows k a.l a.old v c.requires.may.list c.requires.pass.1 a.pass.now.possible r.0 (a.count + count_in a.addition) news r.2 long a.class c.requires.few c.requires.takes in
    let grows = tried_grows _ v u e.same e.keeps a.l r.0 old_values news a.class at_first in
    let after : with_added a.addition u (known_items a.l u) ≡ news = ap (λ (l : List Value). with_added a.addition u l) items ∙ tried_news _ v u e.same e.keeps k a.count a.addition c.requires.pass.1 c.requires.addition old_values in (
      r.0,
      r.1,
      subst (λ (n : ℕ). Grows a.l r.0 (known_items a.l u) (with_added a.addition u (known_items a.l u)) n u) class
          (subst (λ (x : List Value × List Value). Grows a.l r.0 x.0 x.1 a.class u) (λ d. (sym items d, sym after d)) grows),
    )

pub retire_old-requires-clause-out : goal.retire_old-requires-clause-out
retire_old-requires-clause-out c t is =
    let a = c.args in
    let k = shape_of a.bank.now in
    let u = view c.take.new.pass in
    let x = c.in-Taken.ensures.did.6 in
    let r = c.requires.call in
    let e = c.add_in-number.ensures in
    let t_in = c.requires.may.list.table_in t is in
    let at = list_changes a.l r.0 a.called.now r.1 r.2.changing in
    let t0 = c.in-Taken.ensures in
    let list = tried_knows _ (view a.pass.now) u t0.same t0.keeps k a.l a.old c.requires.pass.1 c.requires.may.list in
    let old : root_in (held_unboxed (changes a.called.now) u) ≡ suc (table_id t) = subst (λ (n : ℕ). root_in (held_unboxed n u) ≡ suc (table_id t)) (sym at) (list.root ∙ ap root_for is) in
    let new : root_in (held_unboxed (changes a.called.now) (view c.add_in-number.new.pass)) ≡ suc (table_id c.in-Taken.table) = subst (λ (n : ℕ). root_in (held_unboxed n (view c.add_in-number.new.pass)) ≡ suc (table_id c.in-Taken.table)) (sym at) e.root in
    let ne = taken_other k a.old c.in-Taken.table a.class (a.count + count_in a.addition) c.requires.few c.requires.takes x.0 x.1 t is t_in in
    let out = taken_out a.called.now reply.Done c.add_in-number.result (table_id t) (suc (table_id c.in-Taken.table)) u (view c.add_in-number.new.pass) e.wrote old new (λ same. ne (omega (arith, same))) in
    (t_in, out.0, out.1)

pub answer_no_table-requires-clause-lacks : goal.answer_no_table-requires-clause-lacks
answer_no_table-requires-clause-lacks c stored has =
    let a = c.args in
    let k = shape_of a.bank.now in
    let v = view a.pass.now in
    let u = view c.take.new.pass in
    let e = c.in-AllTaken.ensures in
    let r = c.requires.call in
    subst (λ (z : Call). CanLackMemory stored.world z × (would_pass stored.world z ≡ false) × (takes_in stored z ≡ Some a.class)) (sym r.1)
    (no_table_lacks k a.l a.old v c.requires.may.list c.requires.pass.1 a.pass.now.possible r.0 (a.count + count_in a.addition) (with_added a.addition v (known_items a.l v)) r.2 (added_long k a.count a.addition v (known_items a.l v) c.requires.addition c.requires.count) a.class c.requires.few c.requires.takes stored (tried_has _ v u e.same e.keeps stored has))

pub returns-in-Taken-clause-added : goal.returns-in-Taken-clause-added
returns-in-Taken-clause-added c =
    let a = c.args in
    let k = shape_of a.bank.now in
    let u = view c.take.new.pass in
    let done = view c.add_in-number.new.pass in
    let e = c.in-Taken.ensures in
    let r = c.requires.call in
    let at = list_changes a.l r.0 a.called.now r.1 r.2.changing in
    let x = e.did.6 in
    let list = tried_knows _ (view a.pass.now) u e.same e.keeps k a.l a.old c.requires.pass.1 c.requires.may.list in
    let other : root_in (held_unboxed a.l u) ≢ suc (table_id c.in-Taken.table) = λ is. taken_root k a.old c.in-Taken.table a.class (a.count + count_in a.addition) c.requires.few c.requires.takes x.0 x.1 c.requires.may.list.table_in (sym list.root ∙ is) in
    let w = c.add_in-number.ensures in (
      refl,
      refl,
      record {
        table = c.in-Taken.table;
        taken = u;
        tried = record { mid = e.did.0; freed = e.did.1; acts = e.did.2; collected = e.did.3; did = e.did.4; taking = e.did.5; has = e.did.6; floor = e.floor; same = e.same; keeps = e.keeps; hands = e.hands };
        other = subst (λ (n : ℕ). root_in (held_unboxed n u) ≢ suc (table_id c.in-Taken.table)) (sym at) other;
        done = done;
        wrote = w.wrote;
        root = subst (λ (n : ℕ). root_in (held_unboxed n done) ≡ suc (table_id c.in-Taken.table)) (sym at) w.root;
        references = w.references;
        retired = subst (λ (n : ℕ). Retires n done (view c.retire_old.new.pass)) (sym list.root ∙ sym (ap (λ (n : ℕ). root_in (held_unboxed n u)) at)) c.retire_old.ensures.retired;
      },
    )

pub returns-in-Taken-clause-named : goal.returns-in-Taken-clause-named
returns-in-Taken-clause-named c made =
    let a = c.args in
    let v = view a.pass.now in
    let u = view c.take.new.pass in
    let done = view c.add_in-number.new.pass in
    let w = view c.retire_old.new.pass in
    let e = c.in-Taken.ensures in
    let retired = c.retire_old.ensures.retired in
    let given = given_same (shape_of a.bank.now) a.count a.addition v u c.requires.addition (λ p list. (e.keeps.held.words p (subst (λ (z : Shape). p < container_count z) (sym c.requires.pass.1) list.container) list.locked).0) in
    let items : known_items a.l u ≡ known_items a.l v = tried_items _ v u e.same e.keeps (shape_of a.bank.now) a.l a.old c.requires.pass.1 c.requires.may.list in (
      subst (λ (l : List Value). NamesAdded a.l l a.addition v w) items
          (names_from a.l (known_items a.l u) a.addition v u w given
          (names_kept a.l (known_items a.l u) a.addition u done w (words_kept_all a.l done w (ap (λ (x : ContainerWords). x.table) (retired_knows _ done w retired a.l).0)) c.add_in-number.ensures.named)),
      (λ b taken. c.add_in-number.ensures.stored b (sym (retired_uses _ done w retired b) ∙ taken)),
    )

pub returns-in-AllTaken-clause-named : goal.returns-in-AllTaken-clause-named
returns-in-AllTaken-clause-named c made = not_made _ refl made

pub returns-in-Moved-clause-named : goal.returns-in-Moved-clause-named
returns-in-Moved-clause-named c made = not_made _ refl made
