use Rattle.std.proofs.Common.{◌≡◌, ℕ, ◌≤◌, ◌∷◌, Some, refl, sym, ap, ◌∙◌, subst, rules}
use Rattle.ft_layout.specs.Containers.{class_mask}
use Rattle.ft_model.specs.Worlds.{length_of}
use Rattle.ft_trace.specs.Addresses.{class_of}
use Rattle.ft_trace.specs.ContainerStates.{ContainerState, kind_in}
use Rattle.ft_trace.specs.Kinds.{rows}
use Rattle.ft_trace.specs.Pictures.{ContainerWords}
use Rattle.ft_bank.specs.declared.pass.Pass.{Pass}
use Rattle.ft_bank.specs.Passes.{shape_of, view}
use Rattle.ft_bank.specs.TableNames.{table_id}
use Rattle.ft_bank.proofs.TableAddresses.{class_is}
use Rattle.ft_boxes.specs.References.{KeepsValues}
use Rattle.ft_search.specs.Rounds.{kind_by}
use Rattle.ft_search.proofs.WordPlaces.{mask_is}
use Rattle.ft_search.proofs.Puts.{table_class}
use Rattle.ft_new_keys.specs.Moving.{HasMoved}
use Rattle.ft_new_keys.proofs.FilledTables.{old_fits}
use Rattle.ft_new_keys.proofs.Grown.{knows_filled, same_filled, words_filled}
use Rattle.ft_new_keys.proofs.MovedFills.{moved_by}
use Rattle.ft_new_keys.proofs.filling.move_table.Goals as goal

pub mask_of-old_mask-requires : goal.mask_of-old_mask-requires
mask_of-old_mask-requires c = (c.requires.keyed.table_in c.args.old refl).0

pub cell_of-old_start-requires : goal.cell_of-old_start-requires
cell_of-old_start-requires c = record { table = c.requires.keyed.table_in c.args.old refl }

pub rebuild_in-requires-clause-can : goal.rebuild_in-requires-clause-can
rebuild_in-requires-clause-can c =
    let a = c.args in
    let keyed = c.requires.keyed in
    record {
      pass = c.requires.pass;
      container = keyed.container;
      keyed = keyed.keyed;
      locked = keyed.locked;
      even = keyed.even;
      old_in = keyed.table_in a.old refl;
      old_root = keyed.root;
      old_mask = c.mask_of-old_mask.ensures;
      old_start = c.cell_of-old_start.ensures.place;
      start = c.cell_of-start.ensures.place;
      table_in = c.requires.table;
      fresh = c.requires.fresh;
      mask = c.mask_of-mask.ensures;
    }

pub rebuild_in-requires-clause-mask : goal.rebuild_in-requires-clause-mask
rebuild_in-requires-clause-mask c = (mask_is c.args.growth.now.table.class c.mask_of-mask.result c.requires.table.0 c.mask_of-mask.ensures, refl)

pub rebuild_in-requires-clause-fill : goal.rebuild_in-requires-clause-fill
rebuild_in-requires-clause-fill c =
    let a = c.args in
    subst (λ (n : ℕ). n ≤ rows (kind_in (shape_of a.bank.now).starts a.o) (class_of (table_id a.old))) (sym c.requires.fill)
    (old_fits (shape_of a.bank.now) a.o a.old (view a.pass.now) c.requires.keyed c.requires.pass.1 a.pass.now.possible a.growth.now.way c.requires.way)

pub returns-clause-moved : goal.returns-clause-moved
returns-clause-moved c =
    let a = c.args in
    let k = shape_of a.bank.now in
    let v = view a.pass.now in
    let table = a.growth.now.table in
    let t = c.rebuild_in.new.words in
    let x = view t.pass.now in
    let e = c.rebuild_in.ensures in
    let class = class_of (table_id table) in
    let last : c.mask_of-mask.result ≡ class_mask class = c.mask_of-mask.ensures ∙ sym (ap class_mask (class_is table c.requires.table.2)) in
    let old_last : c.mask_of-old_mask.result ≡ class_mask (class_of (table_id a.old)) = c.mask_of-old_mask.ensures ∙ sym (ap class_mask (class_is a.old (c.requires.keyed.table_in a.old refl).2)) in
    let keyed = knows_filled k a.o (Some a.old) v x c.requires.pass.1 e.only c.requires.keyed in
    let same = (same_filled k a.o (Some a.old) v x c.requires.pass.1 e.only c.requires.keyed).1 in
    let words = words_filled k a.o (Some a.old) v x c.requires.pass.1 e.only c.requires.keyed in
    let shape = e.may.1 in
    let same_pass : t.pass.now ≡ c.pass-1.given.0 = search rules in
    subst (λ (p : Pass). HasMoved k a.o table (view p)) same_pass
    (moved_by k a.o a.old table _ t shape keyed t.pass.now.possible a.growth.now.way c.requires.way a.bank.now.fits.passes.1 a.bank.now.fits.heap.1
    c.changed_words_are_of_a_table.ensures.blank c.used_entries_follow_a_dict.ensures.live_alone c.used_entries_follow_a_set.ensures.live_alone c.calls_keep_versions.ensures.keep
    (table_class k table c.requires.table) refl last old_last c.requires.blank (ap (λ (z : ContainerWords). 0 ∷ 0 ∷ z.table) (sym words))
    a.growth.now.fill _ c.rebuild_in.result (c.requires.fill ∙ ap (λ (z : ContainerState). z.table.fill) (sym same))
    (subst (λ (z : ContainerState). length_of z.content ≤ rows (kind_by a.growth.now.way) class) (sym same) c.requires.room) e.moves)

pub returns-clause-values : goal.returns-clause-values
returns-clause-values c =
    let same_pass : c.rebuild_in.new.words.pass.now ≡ c.pass-1.given.0 = search rules in
    subst (λ (p : Pass). KeepsValues (view c.args.pass.now) (view p)) same_pass c.rebuild_in.ensures.values
