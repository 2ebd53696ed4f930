use Rattle.std.proofs.Common.{◌≡◌, ◌≢◌, ◌<◌, ℕ, suc, Some, refl, sym, ap, ◌∙◌, subst}
use Rattle.ft_trace.specs.declared.Shape.{Shape}
use Rattle.ft_model.specs.declared.reply.Reply.TheVariants as reply
use Rattle.ft_trace.specs.Addresses.{class_of, container_count}
use Rattle.ft_trace.specs.Holds.{held_unboxed, known_state}
use Rattle.ft_trace.specs.Pictures.{root_in}
use Rattle.ft_trace.specs.ContainerStates.{changes}
use Rattle.ft_bank.specs.Passes.{shape_of, view}
use Rattle.ft_bank.specs.TableNames.{table_id, root_for}
use Rattle.ft_bank.proofs.TableAddresses.{class_is}
use Rattle.ft_bank.specs.Whole.{Wrote}
use Rattle.ft_table_calls.specs.Adding.{Retires}
use Rattle.ft_table_calls.proofs.GrowthMidst.{retired_knows}
use Rattle.ft_table_calls.proofs.Rooting.{taken_out}
use Rattle.ft_section.specs.declared.answers.Stamp.{Stamp}
use Rattle.ft_search.specs.Rounds.{kind_by}
use Rattle.ft_new_keys.specs.KeyGrowth.{MayGrowKeyed}
use Rattle.ft_new_keys.proofs.Keyed.{fresh_other}
use Rattle.ft_new_keys.proofs.Taken.{tried_has, tried_knows, tried_may, tried_words}
use Rattle.ft_merging.specs.Joining.{join_takes}
use Rattle.ft_merging.proofs.JoinedCalls.{joins_later}
use Rattle.ft_merging.proofs.Merged.{merge_later}
use Rattle.ft_merging.proofs.SharedKeys.{shares_from, shares_to}
use Rattle.ft_merging.proofs.joining.join_in_taken.Goals as goal
use Rattle.ft_merging.proofs.joining.join_in_taken.Goals.{In-Taken}

mine : (c : In-Taken) → (held_unboxed c.args.merge.now.o (view c.take.new.pass) ≡ held_unboxed c.args.merge.now.o (view c.args.pass.now)) × (known_state c.args.merge.now.o (view c.take.new.pass) ≡ known_state c.args.merge.now.o (view c.args.pass.now))
mine c =
    let a = c.args in
    let e = c.in-Taken.ensures in
    tried_words _ (view a.pass.now) (view c.take.new.pass) e.same e.keeps (shape_of a.bank.now) a.merge.now.o a.old c.requires.pass.1 c.requires.may.keyed

other : (c : In-Taken) → known_state c.args.merge.now.t (view c.take.new.pass) ≡ known_state c.args.merge.now.t (view c.args.pass.now)
other c =
    let a = c.args in
    let e = c.in-Taken.ensures in
    (tried_words _ (view a.pass.now) (view c.take.new.pass) e.same e.keeps (shape_of a.bank.now) a.merge.now.t (Some a.merge.now.table) c.requires.pass.1 c.requires.merge.other).1

grow : (c : In-Taken) → MayGrowKeyed (shape_of c.args.bank.now) c.args.merge.now.o c.args.old c.in-Taken.new (view c.take.new.pass)
grow c =
    let a = c.args in
    let e = c.in-Taken.ensures in
    let x = e.did.6 in
    tried_may _ (view a.pass.now) (view c.take.new.pass) e.same e.keeps (shape_of a.bank.now) a.merge.now.o a.old c.in-Taken.new a.class c.requires.pass.1 c.requires.may x.0 x.1 x.3 x.4

apart : (c : In-Taken) → root_in (held_unboxed c.args.merge.now.o (view c.take.new.pass)) ≢ suc (table_id c.in-Taken.new)
apart c =
    let a = c.args in
    let g = grow c in
    fresh_other (shape_of a.bank.now) (view c.take.new.pass) a.merge.now.o c.in-Taken.new (c.in-Taken.ensures.same.shape ∙ c.requires.pass.1) c.take.new.pass.possible g.keyed.container g.keyed.locked g.table_in g.fresh

class_named : (c : In-Taken) → class_of (table_id c.in-Taken.new) ≡ c.args.class
class_named c = let x = c.in-Taken.ensures.did.6 in class_is c.in-Taken.new x.0.2 ∙ x.1

pub join_in_new-number-requires-clause-merge : goal.join_in_new-number-requires-clause-merge
join_in_new-number-requires-clause-merge c =
    let a = c.args in
    let m = a.merge.now in
    let e = c.in-Taken.ensures in
    let k = shape_of a.bank.now in
    let v = view a.pass.now in
    let u = view c.take.new.pass in
    let d = (goal.at.join_in_new-number-requires-clause-merge c).In-Taken in
    merge_later k (kind_by a.way) m v u (mine d).0 (mine d).1 (other d) (tried_knows _ v u e.same e.keeps k m.t (Some m.table) c.requires.pass.1 c.requires.merge.other) c.requires.merge

pub join_in_new-number-requires-clause-may : goal.join_in_new-number-requires-clause-may
join_in_new-number-requires-clause-may c = grow (goal.at.join_in_new-number-requires-clause-may c).In-Taken

pub join_in_new-number-requires-clause-apart : goal.join_in_new-number-requires-clause-apart
join_in_new-number-requires-clause-apart c = apart (goal.at.join_in_new-number-requires-clause-apart c).In-Taken

pub join_in_new-number-requires-clause-joins : goal.join_in_new-number-requires-clause-joins
join_in_new-number-requires-clause-joins c =
    let a = c.args in
    let e = c.in-Taken.ensures in
    let d = (goal.at.join_in_new-number-requires-clause-joins c).In-Taken in
    joins_later a.merge.now.o a.merge.now.t a.called.now (view a.pass.now) (view c.take.new.pass) (tried_has _ (view a.pass.now) (view c.take.new.pass) e.same e.keeps) e.same.locks (mine d).1 (other d) c.requires.joins

pub join_in_new-number-requires-clause-takes : goal.join_in_new-number-requires-clause-takes
join_in_new-number-requires-clause-takes c =
    let d = (goal.at.join_in_new-number-requires-clause-takes c).In-Taken in
    (λ i. join_takes ((mine d).1 i) (other d i).content) ∙ (c.requires.takes ∙ ap (λ (n : ℕ). Some n) (sym (class_named d)))

pub retire_old-requires-clause-out : goal.retire_old-requires-clause-out
retire_old-requires-clause-out c t is =
    let a = c.args in
    let d = (goal.at.retire_old-requires-clause-out c).In-Taken in
    let u = view c.take.new.pass in
    let w = view c.join_in_new-number.new.pass in
    let e = c.join_in_new-number.ensures in
    let at = c.requires.joins.changed in
    let root : root_in (held_unboxed a.merge.now.o u) ≡ suc (table_id t) = (grow d).keyed.root ∙ ap root_for is in
    let before : root_in (held_unboxed (changes a.called.now) u) ≡ suc (table_id t) = subst (λ (n : ℕ). root_in (held_unboxed n u) ≡ suc (table_id t)) (sym at) root in
    let after : root_in (held_unboxed (changes a.called.now) w) ≡ suc (table_id c.in-Taken.new) = subst (λ (n : ℕ). root_in (held_unboxed n w) ≡ suc (table_id c.in-Taken.new)) (sym at) e.root in
    let out = taken_out a.called.now reply.Done c.join_in_new-number.result (table_id t) (suc (table_id c.in-Taken.new)) u w e.wrote before after (λ same_name. apart d (root ∙ same_name)) in
    (c.requires.may.keyed.table_in t is, out.0, out.1)

pub returns-in-Taken-clause-added : goal.returns-in-Taken-clause-added
returns-in-Taken-clause-added c =
    let a = c.args in
    let d = (goal.at.returns-in-Taken-clause-added c).In-Taken in
    let u = view c.take.new.pass in
    let done = view c.join_in_new-number.new.pass in
    let e = c.in-Taken.ensures in
    let at = c.requires.joins.changed in
    let w = c.join_in_new-number.ensures in
    let is = c.written.ensures in (
      refl,
      ap (λ (z : Stamp). z.wrote) is,
      record {
        table = c.in-Taken.new;
        taken = u;
        tried = record { mid = e.did.0; freed = e.did.1; acts = e.did.2; collected = e.did.3; did = e.did.4; taking = e.did.5; has = e.did.6; floor = e.floor; same = e.same; keeps = e.keeps; hands = e.hands };
        other = subst (λ (n : ℕ). root_in (held_unboxed n u) ≢ suc (table_id c.in-Taken.new)) (sym at) (apart d);
        done = done;
        wrote = subst (λ (z : Stamp). Wrote a.called.now reply.Done z.number u done) (sym is) w.wrote;
        root = subst (λ (n : ℕ). root_in (held_unboxed n done) ≡ suc (table_id c.in-Taken.new)) (sym at) w.root;
        references = w.references;
        retired = subst (λ (n : ℕ). Retires n done (view c.retire_old.new.pass)) (sym (grow d).keyed.root ∙ sym (ap (λ (n : ℕ). root_in (held_unboxed n u)) at)) c.retire_old.ensures.retired;
      },
    )

pub returns-in-Taken-clause-shares : goal.returns-in-Taken-clause-shares
returns-in-Taken-clause-shares c dicts made =
    let a = c.args in
    let m = a.merge.now in
    let v = view a.pass.now in
    let u = view c.take.new.pass in
    let done = view c.join_in_new-number.new.pass in
    let r = c.requires.merge.other in
    let d = (goal.at.returns-in-Taken-clause-shares c).In-Taken in
    let words = c.in-Taken.ensures.keeps.held.words m.t (subst (λ (z : Shape). m.t < container_count z) (sym c.requires.pass.1) r.container) r.locked in
    let last = retired_knows (root_for a.old) done (view c.retire_old.new.pass) c.retire_old.ensures.retired m.o in
    shares_to m.o m.t v done (view c.retire_old.new.pass) last.0 last.2
    (shares_from m.o m.t v u done words.0 words.2 (mine d).1 words.1 (c.join_in_new-number.ensures.shares dicts))

pub returns-in-AllTaken-clause-shares : goal.returns-in-AllTaken-clause-shares
returns-in-AllTaken-clause-shares c dicts made = absurd (let no = made.1 in cc)

pub returns-in-Moved-clause-shares : goal.returns-in-Moved-clause-shares
returns-in-Moved-clause-shares c dicts made = absurd (let no = made.1 in cc)
