use Rattle.std.proofs.Common.{◌≡◌, ℕ, suc, refl, sym, ap, ◌∙◌, subst, arith}
use Rattle.ft_model.specs.declared.reply.Reply.TheVariants as reply
use Rattle.ft_trace.specs.Holds.{held_unboxed}
use Rattle.ft_trace.specs.Pictures.{root_in}
use Rattle.ft_bank.specs.Passes.{view}
use Rattle.ft_bank.specs.TableNames.{table_id, root_for}
use Rattle.ft_table_calls.specs.Adding.{Retires}
use Rattle.ft_table_calls.proofs.Rooting.{taken_out}
use Rattle.ft_whole_tables.proofs.clearing.clear_keyed.Goals as goal

pub retire_old-requires-clause-out : goal.retire_old-requires-clause-out
retire_old-requires-clause-out c t is =
    let a = c.args in
    let v = view c.root_table-old.new.pass in
    let w = view c.clear_root-number.new.pass in
    let root = c.root_table-old.ensures.root in
    let e = c.clear_root-number.ensures in
    let at = sym c.requires.leaves.changed in
    let out = taken_out a.called.now reply.Done c.clear_root-number.result (table_id t) 0 v w e.wrote (subst (λ (n : ℕ). root_in (held_unboxed n v) ≡ suc (table_id t)) at (root.root ∙ ap root_for is)) (subst (λ (n : ℕ). root_in (held_unboxed n w) ≡ 0) at e.root) (λ same. absurd (omega (arith, same))) in
    (root.table_in t is, out.0, out.1)

pub returns-clause-cleared : goal.returns-clause-cleared
returns-clause-cleared c =
    let v = view c.root_table-old.new.pass in
    let w = view c.clear_root-number.new.pass in
    let root = c.root_table-old.ensures.root in
    let e = c.clear_root-number.ensures in
    let at = sym c.requires.leaves.changed in (
      refl,
      (
        v,
        c.root_table-old.ensures.only,
        record {
          done = w;
          wrote = e.wrote;
          root = subst (λ (n : ℕ). root_in (held_unboxed n w) ≡ 0) at e.root;
          references = e.references;
          retired = subst (λ (n : ℕ). Retires (root_in (held_unboxed n v)) w (view c.retire_old.new.pass)) at (subst (λ (n : ℕ). Retires n w (view c.retire_old.new.pass)) (sym root.root) c.retire_old.ensures.retired);
        },
      ),
    )
