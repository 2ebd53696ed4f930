use Rattle.std.proofs.Common.{Some, sym, ap, ◌∙◌, subst, refl, ◌≡◌, ℕ}
use Rattle.ft_model.specs.declared.call.Call.{Call}
use Rattle.ft_model.specs.declared.reply.Reply.TheVariants as reply
use Rattle.ft_trace.specs.declared.Act.TheVariants.{Commit}
use Rattle.ft_trace.specs.declared.View.{View}
use Rattle.ft_trace.specs.Acts.{view_after}
use Rattle.ft_trace.specs.Holds.{held_unboxed}
use Rattle.ft_trace.specs.Pictures.{root_in}
use Rattle.ft_bank.specs.Passes.{shape_of, view}
use Rattle.ft_bank.specs.WriteSteps.{Committed, MayCommit}
use Rattle.ft_list.proofs.Emptying.{may_put_none, clear_may_commit, clear_stands, clear_root, clear_shut, clear_wrote, clear_of}
use Rattle.ft_trace.specs.Boxes.{references_held}
use Rattle.ft_list.proofs.clearing.clear_table.Goals as goal
use Rattle.ft_list.proofs.clearing.clear_table.Goals.{After-commit-number}

pub put_other_root-requires-clause-list : goal.put_other_root-requires-clause-list
put_other_root-requires-clause-list c = c.requires.may.list

pub put_other_root-requires-clause-even : goal.put_other_root-requires-clause-even
put_other_root-requires-clause-even c = c.requires.may.even

pub put_other_root-requires-clause-settled : goal.put_other_root-requires-clause-settled
put_other_root-requires-clause-settled c = c.requires.may.settled

pub put_other_root-requires-clause-plain : goal.put_other_root-requires-clause-plain
put_other_root-requires-clause-plain c b = refl

pub put_other_root-requires-clause-may : goal.put_other_root-requires-clause-may
put_other_root-requires-clause-may c f =
    let a = c.args in
    let k = shape_of a.bank.now in
    let v = view a.pass.now in
    may_put_none k a.l (Some a.table) v f c.requires.pass.1 a.pass.now.possible c.requires.may.list c.requires.may.used c.requires.may.few

pub commit-number-requires-clause-may : goal.commit-number-requires-clause-may
commit-number-requires-clause-may c =
    let a = c.args in
    let r = c.put_other_root.ensures in
    let b = c.put_block.ensures in
    subst (λ (z : Call). MayCommit (view c.put_block.new.pass) z reply.Done) (sym c.clear_call-called.ensures)
    (clear_may_commit (shape_of a.bank.now) a.l a.table (view a.pass.now) (view c.put_other_root.new.pass) (view c.put_block.new.pass) c.requires.may c.requires.untaken c.requires.pass.1 a.pass.now.possible r.rooted r.words b.did.1 b.unboxed b.keeps b.moves)

module _ (c : After-commit-number) where
  abbrev n : ℕ
  n = c.commit-number.result

  made : view c.commit-number.new.pass ≡ view_after (Commit (clear_of c.args.l) reply.Done c.commit-number.result c.commit-number.ensures.did.0) (view c.put_block.new.pass)
  made =
      c.commit-number.ensures.did.1.1
      ∙ ap (λ (z : Call). view_after (Commit z reply.Done c.commit-number.result c.commit-number.ensures.did.0) (view c.put_block.new.pass)) c.clear_call-called.ensures

  committed : Committed (view c.put_block.new.pass) (view c.commit-number.new.pass) (clear_of c.args.l)
  committed = subst (λ (z : Call). Committed (view c.put_block.new.pass) (view c.commit-number.new.pass) z) c.clear_call-called.ensures c.commit-number.ensures.committed

pub stop_write-requires-clause-stands : goal.stop_write-requires-clause-stands
stop_write-requires-clause-stands c =
    let d = (goal.at.stop_write-requires-clause-stands c).After-commit-number in
    let a = c.args in
    let r = c.put_other_root.ensures in
    let b = c.put_block.ensures in
    let m = c.commit-number in
    clear_stands (shape_of a.bank.now) a.l a.table (view a.pass.now) (view c.put_other_root.new.pass) (view c.put_block.new.pass) c.requires.may c.requires.untaken c.requires.pass.1 a.pass.now.possible r.rooted r.words b.did.1 b.unboxed b.keeps b.moves m.result 0 m.ensures.did.0 (view m.new.pass) (view m.new.pass) (made d) (committed d) (shape_of a.bank.now).texts

pub stop_write-requires-clause-shut : goal.stop_write-requires-clause-shut
stop_write-requires-clause-shut c =
    let d = (goal.at.stop_write-requires-clause-shut c).After-commit-number in
    let a = c.args in
    let r = c.put_other_root.ensures in
    let b = c.put_block.ensures in
    let m = c.commit-number in
    clear_shut (shape_of a.bank.now) a.l a.table (view a.pass.now) (view c.put_other_root.new.pass) (view c.put_block.new.pass) c.requires.may c.requires.untaken c.requires.pass.1 a.pass.now.possible r.rooted r.words b.did.1 b.unboxed b.keeps b.moves m.result 0 m.ensures.did.0 (view m.new.pass) (view m.new.pass) (made d) (committed d)

pub returns-clause-wrote : goal.returns-clause-wrote
returns-clause-wrote c =
    let d = (goal.at.returns-clause-wrote c).After-commit-number in
    let a = c.args in
    let r = c.put_other_root.ensures in
    let b = c.put_block.ensures in
    let m = c.commit-number in
    clear_wrote (shape_of a.bank.now) a.l a.table (view a.pass.now) (view c.put_other_root.new.pass) (view c.put_block.new.pass) c.requires.may c.requires.untaken c.requires.pass.1 a.pass.now.possible r.rooted r.words b.did.1 b.unboxed b.keeps b.moves m.result c.stop_write.result m.ensures.did.0 (view m.new.pass) (view c.stop_write.new.pass) (made d) (committed d) m.ensures.seen c.stop_write.ensures.1

pub returns-clause-root : goal.returns-clause-root
returns-clause-root c =
    let d = (goal.at.returns-clause-root c).After-commit-number in
    let a = c.args in
    let r = c.put_other_root.ensures in
    let b = c.put_block.ensures in
    let m = c.commit-number in
    ap (λ (z : View). root_in (held_unboxed a.l z)) c.stop_write.ensures.1
    ∙ clear_root (shape_of a.bank.now) a.l a.table (view a.pass.now) (view c.put_other_root.new.pass) (view c.put_block.new.pass) c.requires.may c.requires.untaken c.requires.pass.1 a.pass.now.possible r.rooted r.words b.did.1 b.unboxed b.keeps b.moves m.result 0 m.ensures.did.0 (view m.new.pass) (view m.new.pass) (made d) (committed d)

pub returns-clause-references : goal.returns-clause-references
returns-clause-references c =
    let r = c.put_other_root.ensures in
    let b = c.put_block.ensures in
    let held : View → ℕ → ℕ = λ z n. references_held z.shape n z.log in
    λ n.
    ap (λ (z : View). held z n) c.stop_write.ensures.1
    ∙ (ap (λ (z : View). held z n) c.commit-number.ensures.did.1.1
    ∙ (b.boxes.references n ∙ r.references n))
