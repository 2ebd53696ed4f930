use Rattle.std.proofs.Common.{◌≡◌, List, [], ◌∷◌, ◌++◌, Some, sym, ap, ◌∙◌, subst}
use Rattle.ft_model.specs.declared.content.Content.{Content}
use Rattle.ft_model.specs.declared.content.Content.TheVariants as content
use Rattle.ft_model.specs.Worlds.{length_of}
use Rattle.ft_trace.specs.declared.Act.{Act}
use Rattle.ft_trace.specs.declared.Act.TheVariants.{ReadBlock}
use Rattle.ft_trace.specs.declared.View.{View}
use Rattle.ft_trace.specs.Holds.{held_unboxed, known_state}
use Rattle.ft_bank.specs.Passes.{shape_of, view}
use Rattle.ft_search.proofs.Lengths.{count_is}
use Rattle.ft_search.proofs.Running.{did_trans}
use Rattle.ft_search.proofs.LoadedLooks.{looks_append}
use Rattle.ft_iter.specs.Following.{IsNextOf}
use Rattle.ft_iter.proofs.NextReplies.{set-gives}
use Rattle.ft_iter.proofs.walks.walk_set.Goals as goal

pub returns-then-count-size-clause-looks : goal.returns-then-count-size-clause-looks
returns-then-count-size-clause-looks c = (ReadBlock c.args.container 1 c.read_block-count.result ∷ [], tt, c.read_block-count.ensures.did)

pub returns-in-Some-clause-looks : goal.returns-in-Some-clause-looks
returns-in-Some-clause-looks c =
    let one : List Act = ReadBlock c.args.container 1 c.read_block-count.result ∷ [] in
    let r = c.next_of.ensures.looks in
    (r.0 ++ one, looks_append r.0 one r.1 tt, did_trans r.0 one c.args.pass.now c.read_block-count.new.pass c.next_of.new.pass c.read_block-count.ensures.did r.2)

pub returns-in-None-clause-looks : goal.returns-in-None-clause-looks
returns-in-None-clause-looks c =
    let one : List Act = ReadBlock c.args.container 1 c.read_block-count.result ∷ [] in
    let r = c.next_of.ensures.looks in
    (r.0 ++ one, looks_append r.0 one r.1 tt, did_trans r.0 one c.args.pass.now c.read_block-count.new.pass c.next_of.new.pass c.read_block-count.ensures.did r.2)

pub returns-in-Some-clause-next : goal.returns-in-Some-clause-next
returns-in-Some-clause-next c d is =
    let o = c.args.container in
    let v = view c.args.pass.now in
    let count = c.read_block-count.result in
    let pair = c.in-Some.pair in
    let counts : count ≡ length_of (known_state o v).content = c.read_block-count.ensures.held c.requires.locked ∙ count_is (shape_of c.args.bank.now).texts (held_unboxed o v) (known_state o v) c.requires.stands in
    let size = sym (counts ∙ ap length_of is) ∙ c.if-count-size.false in
    let same : (known_state o (view c.read_block-count.new.pass)).content ≡ content.Set d = ap (λ (z : View). (known_state o z).content) c.read_block-count.ensures.did.1 ∙ is in
    let next = subst (λ (z : Content). IsNextOf z c.args.last (Some pair)) same c.in-Some.ensures.next in
    set-gives d.elements o c.args.size c.args.last pair c.give_element.result size next (λ e same_entry. c.give_element.ensures e c.args.last same_entry)
