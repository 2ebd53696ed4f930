use Rattle.std.proofs.Common.{◌≡◌, ℕ, sym, ap, ◌∙◌, get_or, set}
use Rattle.std.specs.Prelude.{List}
use Rattle.ft_model.specs.declared.content.Content.{Content}
use Rattle.ft_model.specs.declared.content.Content.TheVariants as content
use Rattle.ft_model.specs.declared.data.Value.{Value}
use Rattle.ft_model.specs.declared.script.Kind.TheVariants as kind
use Rattle.ft_model.specs.Worlds.{WorldContent, HandsContent, IsOfKind, list_at}
use Rattle.ft_model.specs.Answers.{answer_list}
use Rattle.ft_model.proofs.WorldPlaces.{stands, list-stands, on_ok, is_there}
use Rattle.ft_model.proofs.list_calls.change_at.Goals as goal

pub returns-clause-world : goal.returns-clause-world
returns-clause-world c =
    let world = c.world.inside.contents.items in
    let read : get_or world c.args.place c.index_mut.result.now ≡ content.List c.in-List.list = sym c.index_mut.ensures.value ∙ c.in-List.is in
    let declared : IsOfKind world kind.List c.args.place = rw c.world.view_is c.requires.declared in
    let same : list_at world c.args.place ≡ c.in-List.list = list-stands world c.args.place c.in-List.list _ (is_there world kind.List c.args.place declared) read in
    on_ok
    {P = (w : WorldContent) (hands : HandsContent) (place : ℕ) → set w place (content.List c.in-List.list) ≡ w → set w place (content.List c.change.new.list) ≡ (answer_list w hands place c.in-List.list c.args.call.now).world}
    {Q = (hands : HandsContent) → set world c.args.place (content.List c.change.new.list) ≡ (answer_list c.args.world.now hands c.args.place (list_at c.args.world.now c.args.place) c.args.call.now).world}
    c.change.result c.change.ensures.list (λ h. λ hands.
    h world hands c.args.place (stands world c.args.place _ _ read)
    ∙ ap (λ (items : List Value). (answer_list world hands c.args.place items c.args.call.now).world) (sym same)
    ∙ ap (λ (w : List Content). (answer_list w hands c.args.place (list_at w c.args.place) c.args.call.now).world) c.world.view_is)
