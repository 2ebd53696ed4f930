use Rattle.std.proofs.Common.{ℕ, ◌<◌, refl, sym, ap, ◌∙◌, subst, arith}
use Rattle.ft_model.specs.declared.reply.Reply.TheVariants as reply
use Rattle.ft_bank.specs.Passes.{view, shape_of}
use Rattle.ft_bank.specs.TableNames.{table_id, root_for}
use Rattle.ft_table_calls.specs.Adding.{Retires}
use Rattle.ft_table_calls.proofs.Cursors.{given_cursors}
use Rattle.ft_table_calls.proofs.Rooting.{taken_out}
use Rattle.ft_list.proofs.Emptying.{clear_of}
use Rattle.ft_search.proofs.Puts.{few_done, few_same}
use Rattle.ft_bank.proofs.DoneBoxes.{stays_settled_same}
use Rattle.ft_list.proofs.clearing.clear_by.Goals as goal

pub clear_list-number-requires-clause-may : goal.clear_list-number-requires-clause-may
clear_list-number-requires-clause-may c =
    let w = c.root_table-old.ensures.only.work in
    record {
      list = c.root_table-old.ensures.list;
      even = λ p. w.pass.writes p ∙ c.requires.may.even p;
      used = w.used ∙ c.requires.used;
      owes = w.owes ∙ c.requires.may.owes;
      idle = w.pass.flight ∙ c.requires.idle;
      settled = (stays_settled_same (view c.args.pass.now) (view c.root_table-old.new.pass) c.root_table-old.ensures.only.boxes.made).settled c.requires.may.boxes.settled;
      few = few_same (view c.args.pass.now) (view c.root_table-old.new.pass) c.root_table-old.ensures.only.boxes.references (few_done (shape_of c.args.bank.now) (view c.args.pass.now) c.requires.pass.1 c.requires.may.boxes);
      left = subst (λ (n : ℕ). 0 < n) (sym w.left) c.requires.may.left;
    }

pub clear_list-number-requires-clause-untaken : goal.clear_list-number-requires-clause-untaken
clear_list-number-requires-clause-untaken c b taken = c.requires.may.boxes.stored b (sym (c.root_table-old.ensures.only.boxes.made.uses b) ∙ taken)

pub retire_old-requires-clause-out : goal.retire_old-requires-clause-out
retire_old-requires-clause-out c t is =
    let a = c.args in
    let list = c.root_table-old.ensures.list in
    let e = c.clear_list-number.ensures in
    let out = taken_out (clear_of a.l) reply.Done c.clear_list-number.result (table_id t) 0 (view c.root_table-old.new.pass) (view c.clear_list-number.new.pass) e.wrote (list.root ∙ ap root_for is) e.root (λ same. absurd (omega (arith, same))) in
    (list.table_in t is, out.0, out.1)

pub returns-clause-cleared : goal.returns-clause-cleared
returns-clause-cleared c =
    let list = c.root_table-old.ensures.list in
    let e = c.clear_list-number.ensures in (
      refl,
      (
        view c.root_table-old.new.pass,
        c.root_table-old.ensures.only,
        record {
          done = view c.clear_list-number.new.pass;
          wrote = e.wrote;
          root = e.root;
          references = e.references;
          retired = subst (λ (n : ℕ). Retires n (view c.clear_list-number.new.pass) (view c.retire_old.new.pass)) (sym list.root) c.retire_old.ensures.retired;
        },
      ),
    )

pub returns-clause-cursors : goal.returns-clause-cursors
returns-clause-cursors c number =
    let gave = (returns-clause-cleared c).1 in
    given_cursors (clear_of c.args.l) reply.Done c.clear_list-number.result gave.0 (view c.retire_old.new.pass) gave.2 number ∙ gave.1.work.pass.cursors number
