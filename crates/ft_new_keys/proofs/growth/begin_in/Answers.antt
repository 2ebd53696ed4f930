use Rattle.std.proofs.Common.{◌≡◌, suc, Some, refl, sym, ap, ◌∙◌, subst, arith}
use Rattle.std.specs.Prelude.{slice_set}
use Rattle.ft_trace.specs.declared.Act.TheVariants.{StartWrite}
use Rattle.ft_trace.specs.declared.Shape.{Shape}
use Rattle.ft_trace.specs.declared.View.{View}
use Rattle.ft_trace.specs.Acts.{stage}
use Rattle.ft_trace.specs.Boxes.{references_held, IsSettled}
use Rattle.ft_trace.specs.Holds.{held_unboxed, hand_unboxed}
use Rattle.ft_bank.specs.declared.table.Table.{Table}
use Rattle.ft_bank.specs.Passes.{shape_of, view}
use Rattle.ft_bank.specs.TableNames.{table_id, IsTableIn}
use Rattle.ft_bank.specs.WriteSteps.{MayPutRoot}
use Rattle.ft_bank.specs.SameBoxes.{SameReferences}
use Rattle.ft_boxes.proofs.Steps.{keeps_by, keeps_then}
use Rattle.ft_table_calls.proofs.Dropped.{keeps_less}
use Rattle.ft_new_keys.specs.Moving.{HoldsGone}
use Rattle.ft_new_keys.proofs.Begun.{begins, begun_references, begun_words, begun_writes, held_gone, settled_r, was_out}
use Rattle.ft_new_keys.proofs.Rooted.{may_root}
use Rattle.ft_new_keys.proofs.growth.begin_in.Goals as goal
use Rattle.ft_new_keys.proofs.growth.begin_in.Goals.{After-put_root}

pub put_root-requires-clause-may : goal.put_root-requires-clause-may
put_root-requires-clause-may c =
    let a = c.args in
    subst (λ (u : View). MayPutRoot u a.o (Some a.table)) (sym c.start_write.ensures.1)
    (may_root c.used_entries_follow_a_dict.ensures.first c.used_entries_follow_a_set.ensures.first c.words_are_of_one_content.ensures.head (shape_of a.bank.now) a.o a.old a.table (view a.pass.now) c.requires.may c.requires.pass.1 a.pass.now.possible c.requires.moved c.start_write.result)

-- ---- right after the root was put

out : (c : After-put_root) (t : Table) → c.args.old ≡ Some t → IsTableIn (shape_of c.args.bank.now) t × (stage (table_id t) (view c.put_root.new.pass).log ≡ 3)
out c =
    let a = c.args in
    let p = c.put_root.ensures in
    was_out (shape_of a.bank.now) a.o a.old a.table (view a.pass.now) (view c.start_write.new.pass) (view c.put_root.new.pass) c.start_write.result c.requires.pass.1 a.pass.now.possible c.requires.may c.requires.moved c.start_write.ensures.1 p.did.1 p.keeps p.moves p.held

settled : (c : After-put_root) → IsSettled (view c.put_root.new.pass).log
settled c =
    let a = c.args in
    let p = c.put_root.ensures in
    settled_r (shape_of a.bank.now) a.o a.old a.table (view a.pass.now) (view c.start_write.new.pass) (view c.put_root.new.pass) c.start_write.result c.requires.pass.1 a.pass.now.possible c.requires.may c.requires.moved c.start_write.ensures.1 p.did.1 p.keeps p.moves p.held

held : (c : After-put_root) → HoldsGone (shape_of c.args.bank.now) c.args.o c.args.old (view c.put_root.new.pass)
held c =
    let a = c.args in
    let p = c.put_root.ensures in
    held_gone (shape_of a.bank.now) a.o a.old a.table (view a.pass.now) (view c.start_write.new.pass) (view c.put_root.new.pass) c.start_write.result c.requires.pass.1 a.pass.now.possible c.requires.may c.requires.moved c.start_write.ensures.1 p.did.1 p.keeps p.moves p.held

pub drop_gone-requires-clause-out : goal.drop_gone-requires-clause-out
drop_gone-requires-clause-out c = out (goal.at.drop_gone-requires-clause-out c).After-put_root

pub drop_gone-requires-clause-settled : goal.drop_gone-requires-clause-settled
drop_gone-requires-clause-settled c = settled (goal.at.drop_gone-requires-clause-settled c).After-put_root

pub drop_gone-requires-clause-held : goal.drop_gone-requires-clause-held
drop_gone-requires-clause-held c = held (goal.at.drop_gone-requires-clause-held c).After-put_root

-- ---- after the references were dropped

pub returns-clause-begins : goal.returns-clause-begins
returns-clause-begins c =
    let a = c.args in
    let p = c.put_root.ensures in
    let e = c.drop_gone.ensures in
    begins (shape_of a.bank.now) a.o a.old a.table (view a.pass.now) (view c.start_write.new.pass) (view c.put_root.new.pass) c.start_write.result c.requires.pass.1 a.pass.now.possible c.requires.may c.requires.moved c.start_write.ensures.1 p.did.1 p.keeps p.moves p.held
    (view c.drop_gone.new.pass) e.only e.made e.references

pub returns-clause-writes : goal.returns-clause-writes
returns-clause-writes c =
    let a = c.args in
    let p = c.put_root.ensures in
    let e = c.drop_gone.ensures in
    begun_writes (shape_of a.bank.now) a.o a.old a.table (view a.pass.now) (view c.start_write.new.pass) (view c.put_root.new.pass) c.start_write.result c.requires.pass.1 a.pass.now.possible c.requires.may c.requires.moved c.start_write.ensures.1 p.did.1 p.keeps p.moves p.held
    (view c.drop_gone.new.pass) e.only e.made e.references

pub returns-clause-references : goal.returns-clause-references
returns-clause-references c =
    let a = c.args in
    let p = c.put_root.ensures in
    let e = c.drop_gone.ensures in
    begun_references (shape_of a.bank.now) a.o a.old a.table (view a.pass.now) (view c.start_write.new.pass) (view c.put_root.new.pass) c.start_write.result c.requires.pass.1 a.pass.now.possible c.requires.may c.requires.moved c.start_write.ensures.1 p.did.1 p.keeps p.moves p.held
    (view c.drop_gone.new.pass) e.only e.made e.references

pub returns-clause-words : goal.returns-clause-words
returns-clause-words c =
    let a = c.args in
    let p = c.put_root.ensures in
    let e = c.drop_gone.ensures in
    let k = shape_of a.bank.now in
    let v = view a.pass.now in
    begun_words k a.o a.old a.table v (view c.start_write.new.pass) (view c.put_root.new.pass) c.start_write.result c.requires.pass.1 a.pass.now.possible c.requires.may c.requires.moved c.start_write.ensures.1 p.did.1 p.keeps p.moves p.held
    (view c.drop_gone.new.pass) e.only e.made e.references
    ∙ (p.unboxed
    ∙ (λ d. record { block = slice_set (held_unboxed a.o (c.start_write.ensures.1 d)).block 0 (suc (table_id a.table)); table = hand_unboxed a.o (table_id a.table) (c.start_write.ensures.1 d) }))

-- what the pass knew of the values in its boxes
pub returns-clause-values : goal.returns-clause-values
returns-clause-values c =
    let a = c.args in
    let v = view a.pass.now in
    let s = view c.start_write.new.pass in
    let r = view c.put_root.new.pass in
    let w = view c.drop_gone.new.pass in
    let started = c.start_write.ensures.1 in
    let e = c.drop_gone.ensures in
    let shape : s.shape ≡ v.shape = ap (λ (z : View). z.shape) started in
    let first = keeps_by v s (StartWrite a.o c.start_write.result) (λ k b i n which. refl) started in
    let put = keeps_by s r _ (λ k b i n which. refl) c.put_root.ensures.did.1 in
    let same : SameReferences v s = λ b. ap (λ (z : View). references_held z.shape b z.log) started in
    keeps_less v r w (sym e.only.work.pass.shape) (λ b.
    let less = e.references b in
    let now : references_held w.shape b w.log ≡ references_held (shape_of a.bank.now) b w.log = ap (λ (z : Shape). references_held z b w.log) e.pass.1 in
    let was : references_held r.shape b r.log ≡ references_held (shape_of a.bank.now) b r.log = ap (λ (z : Shape). references_held z b r.log) (ap (λ (z : View). z.shape) c.put_root.ensures.did.1 ∙ (shape ∙ c.requires.pass.1)) in
    omega (arith, less, now, was)) (keeps_then v s r (sym shape) same first put) e.values
