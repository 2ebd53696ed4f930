use Rattle.std.proofs.Common.{◌≡◌, ℕ, ◌<◌, refl, sym, ap, ◌∙◌, subst, arith}
use Rattle.ft_trace.specs.declared.Shape.{Shape}
use Rattle.ft_trace.specs.declared.View.{View}
use Rattle.ft_trace.specs.Acts.{has_lock, is_writing, stage}
use Rattle.ft_trace.specs.Addresses.{class_of, size, slots, places}
use Rattle.ft_bank.specs.declared.table.Table.{Table}
use Rattle.ft_bank.specs.Passes.{shape_of}
use Rattle.ft_bank.specs.TableNames.{table_id, IsTableIn}
use Rattle.ft_bank.proofs.TableAddresses.{class_is}
use Rattle.ft_list_tests.proofs.growing.put_new.Goals as goal

-- a table of class 4 has sixteen index words and ten entries of eight words each
words_of_fourth : size 4 ≡ 96
unfolding slots places
words_of_fourth = refl

in_fourth : (k : Shape) (t : Table) → IsTableIn k t → t.class ≡ 4 → (word : ℕ) → word < 64 → word < size (class_of (table_id t))
in_fourth k t is class word low =
    let long = words_of_fourth in
    subst (λ (c : ℕ). word < size c) (sym (class_is t is.2 ∙ class)) (omega (arith, long, low))

pub put_fresh-requires-clause-word : goal.put_fresh-requires-clause-word
put_fresh-requires-clause-word c = in_fourth (shape_of c.args.bank.now) c.args.table c.requires.growing.table_in c.requires.growing.class c.args.word c.requires.word

pub returns-clause-growing : goal.returns-clause-growing
returns-clause-growing c =
    let put = c.put_fresh.ensures.did.1 in
    let was = c.requires.growing in
    record {
      table_in = was.table_in;
      class = was.class;
      fresh = ap (λ (z : View). stage (table_id c.args.table) z.log) put ∙ was.fresh;
      locked = ap (λ (z : View). has_lock 0 z.log) put ∙ was.locked;
      even = λ p. ap (λ (z : View). is_writing p z.log) put ∙ was.even p;
    }
