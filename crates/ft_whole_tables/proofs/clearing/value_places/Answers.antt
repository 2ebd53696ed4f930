use Rattle.std.proofs.Common.{◌<◌, ap, ◌∙◌, arith}
use Rattle.ft_keys.specs.Ways.{room}
use Rattle.ft_layout.proofs.Powers.{slots_range}
use Rattle.ft_search.specs.Rounds.{kind_by}
use Rattle.ft_search.proofs.Puts.{keyed_value}
use Rattle.ft_search.proofs.SearchedReads.{way_keyed}
use Rattle.ft_search.proofs.WordPlaces.{slots_of_class}
use Rattle.ft_whole_tables.proofs.EntryRows.{room_is}
use Rattle.ft_whole_tables.proofs.clearing.value_places.Goals as goal
use Rattle.ft_whole_tables.proofs.clearing.value_places.Goals.{After-mask_of-mask}

small : (c : After-mask_of-mask) → c.mask_of-mask.result < 65536
small c =
    let r = slots_range c.args.class c.requires in
    let low = r.0 in
    let high = r.1 in
    let is = c.mask_of-mask.ensures in
    omega (arith, low, high, is)

pub returns : goal.returns
returns c =
    let a = c.args in
    let kd = kind_by a.way in
    let n = slots_of_class a.class in
    let mask = c.mask_of-mask.ensures in (
      c.room_of.ensures ∙ (ap (room a.way) mask ∙ room_is a.way a.class c.requires),
      λ p low. let is = keyed_value kd (way_keyed a.way) a.class p in omega (arith, is, n, mask),
    )
