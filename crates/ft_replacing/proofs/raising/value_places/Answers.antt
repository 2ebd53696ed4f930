use Rattle.std.proofs.Common.{ap, ◌∙◌, arith}
use Rattle.ft_keys.specs.Ways.{room}
use Rattle.ft_search.specs.Rounds.{kind_by}
use Rattle.ft_search.proofs.Puts.{keyed_value}
use Rattle.ft_search.proofs.WordPlaces.{slots_of_class}
use Rattle.ft_new_keys.proofs.FilledTables.{room_of_way}
use Rattle.ft_new_keys.proofs.MovedFills.{keyed_by}
use Rattle.ft_replacing.proofs.raising.value_places.Goals as goal

pub returns : goal.returns
returns c =
    let by = c.args.way in
    let class = c.args.class in
    let last = c.mask_of-mask.ensures in
    let slots = slots_of_class class in (
      c.room_of.ensures ∙ (ap (room by) last ∙ room_of_way by class c.requires.class),
      λ p low. let at = keyed_value (kind_by by) (keyed_by by) class p in omega (arith, at, last, slots),
    )
