use Rattle.std.proofs.Common.{◌≡◌, ℕ, ◌≤◌, refl, sym, ap, ◌∙◌, subst, rules}
use Rattle.ft_layout.specs.Containers.{class_mask}
use Rattle.ft_trace.specs.Addresses.{class_of}
use Rattle.ft_trace.specs.ContainerStates.{kind_in}
use Rattle.ft_trace.specs.Holds.{known_state, in_hand}
use Rattle.ft_trace.specs.Kinds.{rows}
use Rattle.ft_bank.specs.declared.pass.Pass.{Pass}
use Rattle.ft_bank.specs.Passes.{shape_of, view}
use Rattle.ft_bank.specs.TableNames.{table_id}
use Rattle.ft_bank.proofs.TableAddresses.{class_is}
use Rattle.ft_search.proofs.WordPlaces.{mask_is}
use Rattle.ft_search.proofs.Puts.{table_class}
use Rattle.ft_new_keys.specs.Fresh.{IsFilledWith}
use Rattle.ft_new_keys.proofs.FilledTables.{old_fits, filled_by}
use Rattle.ft_new_keys.proofs.filling.copy_entries.Goals as goal

pub mask_of-old_mask-requires : goal.mask_of-old_mask-requires
mask_of-old_mask-requires c = (c.requires.keyed.table_in c.args.old refl).0

pub cell_of-old_start-requires : goal.cell_of-old_start-requires
cell_of-old_start-requires c = record { table = c.requires.keyed.table_in c.args.old refl }

pub rebuild_in-requires-clause-can : goal.rebuild_in-requires-clause-can
rebuild_in-requires-clause-can c =
    let a = c.args in
    let keyed = c.requires.keyed in
    record {
      pass = c.requires.pass;
      container = keyed.container;
      keyed = keyed.keyed;
      locked = keyed.locked;
      even = keyed.even;
      old_in = keyed.table_in a.old refl;
      old_root = keyed.root;
      old_mask = c.mask_of-old_mask.ensures;
      old_start = c.cell_of-old_start.ensures.place;
      start = c.cell_of-start.ensures.place;
      table_in = c.requires.table;
      fresh = c.requires.fresh;
      mask = c.mask_of-mask.ensures;
    }

pub rebuild_in-requires-clause-mask : goal.rebuild_in-requires-clause-mask
rebuild_in-requires-clause-mask c = (mask_is c.args.table.class c.mask_of-mask.result c.requires.table.0 c.mask_of-mask.ensures, refl)

pub rebuild_in-requires-clause-fill : goal.rebuild_in-requires-clause-fill
rebuild_in-requires-clause-fill c =
    let a = c.args in
    subst (λ (n : ℕ). n ≤ rows (kind_in (shape_of a.bank.now).starts a.o) (class_of (table_id a.old))) (sym c.requires.fill)
    (old_fits (shape_of a.bank.now) a.o a.old (view a.pass.now) c.requires.keyed c.requires.pass.1 a.pass.now.possible a.way c.requires.way)

pub returns-clause-filled : goal.returns-clause-filled
returns-clause-filled c =
    let a = c.args in
    let k = shape_of a.bank.now in
    let v = view a.pass.now in
    let class = class_of (table_id a.table) in
    let last : c.mask_of-mask.result ≡ class_mask class = c.mask_of-mask.ensures ∙ sym (ap class_mask (class_is a.table c.requires.table.2)) in
    let same : c.rebuild_in.new.words.pass.now ≡ c.pass-1.given.0 = search rules in
    subst (λ (p : Pass). IsFilledWith k.texts class (known_state a.o v).content (in_hand (table_id a.table) (view p))) same
    (filled_by k a.o a.old v c.requires.keyed c.requires.pass.1 a.pass.now.possible a.way c.requires.way
    c.changed_words_are_of_a_table.ensures.blank c.used_entries_follow_a_dict.ensures.live_alone c.used_entries_follow_a_set.ensures.live_alone c.calls_keep_versions.ensures.keep
    _ _ class _ c.rebuild_in.result (table_class k a.table c.requires.table) last c.mask_of-old_mask.ensures c.requires.blank refl c.requires.room
    a.old_fill c.requires.fill c.rebuild_in.ensures.moves)
