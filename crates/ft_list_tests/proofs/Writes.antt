-- What a pass knows of a list once it has made its version odd.
use Rattle.std.proofs.Common.{◌≡◌, ℕ, suc, ◌^◌, ◌<◌, true, false, Option, Some, None, sym, ap, ◌∙◌, subst, arith}
use Rattle.std.specs.Prelude.{IfSome}
use Rattle.ft_model.specs.declared.script.Kind.TheVariants as kind
use Rattle.ft_trace.specs.declared.Act.TheVariants.{ReadBlock, StartWrite}
use Rattle.ft_trace.specs.declared.Shape.{Shape}
use Rattle.ft_trace.specs.declared.View.{View}
use Rattle.ft_trace.specs.Acts.{has_committed, has_lock, is_writing, view_after}
use Rattle.ft_trace.specs.Addresses.{class_of, container_count, slots}
use Rattle.ft_trace.specs.Boxes.{references_held, IsDoneWithBoxes, IsSettled}
use Rattle.ft_trace.specs.Holds.{held_words}
use Rattle.ft_trace.specs.Pictures.{root_in}
use Rattle.ft_trace.specs.ContainerStates.{kind_in}
use Rattle.ft_trace.proofs.Cases.{hit}
use Rattle.ft_bank.specs.declared.table.Table.{Table}
use Rattle.ft_bank.specs.SameBoxes.{HoldsFew}
use Rattle.ft_bank.specs.TableNames.{table_id, IsTableIn}
use Rattle.ft_bank.proofs.TableAddresses.{class_is}
use Rattle.ft_bank.proofs.KnownAfterWrites.{loaded_by, loaded_held}
use Rattle.ft_list.specs.ListItemWrites.{WritesList}

module _ (k : Shape) (o root f : ℕ) (v u w : View) (read : u ≡ view_after (ReadBlock o 0 root) v) (start : w ≡ view_after (StartWrite o f) u) where
  both : w ≡ view_after (StartWrite o f) (view_after (ReadBlock o 0 root) v)
  both = start ∙ ap (view_after (StartWrite o f)) read

  pub begun_list : (t : Table) → v.shape ≡ k → o < container_count k → kind_in k.starts o ≡ kind.List → has_lock o v.log ≡ true → root ≡ root_in (held_words o v) → root ≡ suc (table_id t) → IsTableIn k t → IsDoneWithBoxes k v.log → WritesList k o t w
  begun_list t shape low list locked found names is done = record {
    container = low;
    kind = list;
    table_in = is;
    locked = ap (λ (z : View). has_lock o z.log) start ∙ (ap (λ (z : View). has_lock o z.log) read ∙ locked);
    odd = ap (λ (z : View). is_writing o z.log) start ∙ hit o true (is_writing o u.log);
    root = ap (λ (z : View). root_in (held_words o z)) start ∙ (ap root_in (loaded_held v u o (loaded_by (ReadBlock o 0 root) v u tt read)) ∙ (sym found ∙ names));
    settled = subst (λ (z : View). IsSettled z.log) (sym both) (record { unmade = done.settled.unmade; counted = done.settled.counted; whole = done.settled.whole; given = done.settled.given });
    few = subst HoldsFew (sym both) (λ b. let none : references_held v.shape b v.log ≡ 0 = ap (λ (z : Shape). references_held z b v.log) shape ∙ done.none b in omega (arith, none));
  }

  pub begun_lists : (result : Option Table) → IfSome result (λ (t : Table). root ≡ suc (table_id t)) → IfSome result (λ (t : Table). IsTableIn k t) → v.shape ≡ k → o < container_count k → kind_in k.starts o ≡ kind.List → has_lock o v.log ≡ true → root ≡ root_in (held_words o v) → IsDoneWithBoxes k v.log → IfSome result (λ (t : Table). WritesList k o t w)
  begun_lists None names is shape low list locked found done = tt
  begun_lists (Some t) names is shape low list locked found done = begun_list t shape low list locked found names is done

  pub begun_early : has_committed o w.log ≡ false
  begun_early = ap (λ (z : View). has_committed o z.log) start ∙ hit o false (has_committed o u.log)

-- a table of class 3 has a place for item 3
pub has_third : (k : Shape) (t : Table) → IsTableIn k t → t.class ≡ 3 → 3 < slots (class_of (table_id t))
unfolding slots
has_third k t is class = subst (λ (c : ℕ). 3 < slots c) (sym (class_is t is.2 ∙ class)) (omega arith)
