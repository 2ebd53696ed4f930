use Rattle.std.proofs.Common.{◌≡◌, ◌<◌, [], ◌∷◌, sym, ap, ◌∙◌, subst}
use Rattle.ft_model.specs.declared.reply.Reply.TheVariants as reply
use Rattle.ft_model.specs.Worlds.{length_of}
use Rattle.ft_trace.specs.declared.Act.TheVariants.{ReadBlock}
use Rattle.ft_trace.specs.declared.Shape.{Shape}
use Rattle.ft_trace.specs.declared.View.{View}
use Rattle.ft_trace.specs.Addresses.{container_count}
use Rattle.ft_trace.specs.Holds.{held_unboxed, known_state}
use Rattle.ft_trace.specs.ContainerStates.{kind_in}
use Rattle.ft_bank.specs.Answered.{Answered}
use Rattle.ft_bank.specs.Passes.{shape_of, view}
use Rattle.ft_bank.proofs.KnownAfterWrites.{loaded_by}
use Rattle.ft_search.specs.Lengths.{len_of}
use Rattle.ft_search.proofs.Asking.{answered_locked}
use Rattle.ft_search.proofs.Lengths.{count_is, len_held}
use Rattle.ft_search.proofs.lens.len_locked.Goals as goal

pub answer_held-requires-clause-shown : goal.answer_held-requires-clause-shown
answer_held-requires-clause-shown c n =
    let o = c.args.o in
    let k = shape_of c.args.bank.now in
    let v = view c.args.pass.now in
    let u = view c.read_block-count.new.pass in
    let count = c.read_block-count.result in
    let loaded = loaded_by (ReadBlock o 1 count) v u tt c.read_block-count.ensures.did.1 in
    let low = subst (λ (z : Shape). o < container_count z) (sym c.requires.pass.1) c.requires.container in
    let is = c.requires.call ∙ ap (λ (z : Shape). len_of (kind_in z.starts o) o) (sym c.requires.pass.1) in
    let counts : count ≡ length_of (known_state o v).content = c.read_block-count.ensures.held c.requires.locked ∙ count_is k.texts (held_unboxed o v) (known_state o v) c.requires.stands in
    len_held v u c.args.call.now o count n loaded c.requires.left low c.requires.locked is counts

pub returns-clause-answered : goal.returns-clause-answered
returns-clause-answered c =
    let o = c.args.o in
    let v = view c.args.pass.now in
    let u = view c.read_block-count.new.pass in
    let z = view c.answer_held.new.pass in
    let count = c.read_block-count.result in
    let n = c.answer_held.result.1.number in
    let did = c.read_block-count.ensures.did in
    let loaded = loaded_by (ReadBlock o 1 count) v u tt did.1 in
    subst (λ said. Answered c.args.call.now said n v z) (sym c.answer_held.ensures.said.0)
    (answered_locked v u z c.args.call.now (reply.Count count) n (ReadBlock o 1 count ∷ []) loaded (ap (λ (x : View). x.log) did.1) c.answer_held.ensures.did.1 c.args.pass.now.settled c.answer_held.new.pass.possible)
