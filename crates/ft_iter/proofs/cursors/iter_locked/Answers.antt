use Rattle.std.proofs.Common.{◌≡◌, ◌<◌, [], ◌∷◌, refl, sym, ap, ◌∙◌, subst, ℕ}
use Rattle.ft_model.specs.declared.call.Call.{Call}
use Rattle.ft_model.specs.declared.cursor.Cursor.{Cursor}
use Rattle.ft_model.specs.declared.reply.Reply.{Reply}
use Rattle.ft_model.specs.declared.reply.Reply.TheVariants as reply
use Rattle.ft_model.specs.Worlds.{kind_of, length_of}
use Rattle.ft_trace.specs.declared.Act.TheVariants.{ReadBlock, ReadCounter}
use Rattle.ft_trace.specs.declared.Shape.{Shape}
use Rattle.ft_trace.specs.declared.View.{View}
use Rattle.ft_trace.specs.Acts.{view_after}
use Rattle.ft_trace.specs.Addresses.{container_count}
use Rattle.ft_trace.specs.Hands.{cursor_in}
use Rattle.ft_trace.specs.Holds.{held_unboxed, known_state}
use Rattle.ft_trace.specs.ContainerStates.{kind_in}
use Rattle.ft_bank.specs.Answered.{AnsweredCursor}
use Rattle.ft_bank.specs.Passes.{shape_of, view, IsPassOf}
use Rattle.ft_bank.specs.Reads.{IsCursorShown}
use Rattle.ft_bank.proofs.KnownAfterWrites.{loaded_by}
use Rattle.ft_search.proofs.Lengths.{count_is}
use Rattle.ft_iter.specs.CursorCalls.{iter_call, iter_cursor, IsOver}
use Rattle.ft_iter.proofs.Moves.{iter-moves, iter-asks, starts-over}
use Rattle.ft_iter.proofs.CursorEntries.{cursor-shown, answered-moved, kind-held}
use Rattle.ft_iter.proofs.cursors.iter_locked.Goals as goal
use Rattle.ft_model.specs.declared.script.Kind.{Kind}
use Rattle.ft_trace.specs.Kinds.{HasVersions}
use Rattle.ft_bank.specs.declared.bank.Bank.{Bank}
use Rattle.ft_bank.specs.declared.pass.Pass.{Pass}
use Rattle.ft_search.proofs.Changing.{versions_in}

versions : (b : Bank) (p : Pass) (o : ℕ) (k : Kind) → IsPassOf b p → kind_in (shape_of b).starts o ≡ k → HasVersions k
versions b p o k pass is = subst HasVersions (ap (λ (z : Shape). kind_in z.starts o) pass.1 ∙ is) (versions_in (view p) o p.possible)

pub start_of-cursor-requires : goal.start_of-cursor-requires
start_of-cursor-requires c = record { landed = versions c.args.bank.now c.args.pass.now c.args.o c.args.kind c.requires.pass c.requires.kind }

pub answer_moved-answered-requires-clause-shown : goal.answer_moved-answered-requires-clause-shown
answer_moved-answered-requires-clause-shown c n =
    let o = c.args.o in
    let k = c.args.kind in
    let number = c.args.number in
    let v = view c.args.pass.now in
    let u = view c.read_block-count.new.pass in
    let count = c.read_block-count.result in
    let loaded = loaded_by (ReadBlock o 1 count) v u tt c.read_block-count.ensures.did.1 in
    let low = subst (λ (z : Shape). o < container_count z) (sym c.requires.pass.1) c.requires.container in
    let kind_is : kind_of (known_state o v).content ≡ k = kind-held v o c.args.pass.now.possible c.requires.locked ∙ (ap (λ (z : Shape). kind_in z.starts o) c.requires.pass.1 ∙ c.requires.kind) in
    let counts : count ≡ length_of (known_state o v).content = c.read_block-count.ensures.held c.requires.locked ∙ count_is (shape_of c.args.bank.now).texts (held_unboxed o v) (known_state o v) c.requires.stands in
    let right = cursor-shown v u o n number (iter_call k o number) reply.Done (iter_cursor k o count) loaded c.requires.left (iter-asks k o number) low c.requires.locked
    (λ world holds. iter-moves world (known_state o v).content k o count number (cursor_in number v.log) (versions c.args.bank.now c.args.pass.now o k c.requires.pass c.requires.kind) holds kind_is counts) in
    subst (λ (x : Call × Cursor). IsCursorShown (view_after (ReadCounter n) u) x.0 reply.Done n number x.1) (sym (λ d. (c.call_of-call.ensures d, c.start_of-cursor.ensures d))) right

pub returns-clause-answered : goal.returns-clause-answered
returns-clause-answered c =
    let o = c.args.o in
    let k = c.args.kind in
    let number = c.args.number in
    let v = view c.args.pass.now in
    let u = view c.read_block-count.new.pass in
    let z = view c.answer_moved-answered.new.pass in
    let count = c.read_block-count.result in
    let n = c.answer_moved-answered.result.1.number in
    let did = c.read_block-count.ensures.did in
    let loaded = loaded_by (ReadBlock o 1 count) v u tt did.1 in
    let cursor = c.start_of-cursor.result in (
      cursor,
      refl,
      subst (IsOver k o) (sym c.start_of-cursor.ensures) (starts-over k o count (versions c.args.bank.now c.args.pass.now o k c.requires.pass c.requires.kind)),
      subst (λ (said : Reply). AnsweredCursor (iter_call k o number) said n number cursor v z) (sym c.answer_moved-answered.ensures.said.0)
          (subst (λ (called : Call). AnsweredCursor called reply.Done n number cursor v z) c.call_of-call.ensures
          (answered-moved v u z c.call_of-call.result reply.Done n number cursor (ReadBlock o 1 count ∷ []) loaded (ap (λ (x : View). x.log) did.1) c.answer_moved-answered.ensures.did.1 c.answer_moved-answered.ensures.seen)),
    )
