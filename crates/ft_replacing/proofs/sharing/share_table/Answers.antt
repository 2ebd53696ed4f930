use Rattle.std.proofs.Common.{◌≡◌, ℕ, ◌≤◌, ◌∷◌, refl, sym, ap, ◌∙◌, subst, rules}
use Rattle.ft_layout.specs.Containers.{class_mask}
use Rattle.ft_layout.specs.Tables.{is_live, IsDictTable}
use Rattle.ft_keys.specs.declared.walk.Way.TheVariants as way
use Rattle.std.specs.Prelude.{filter}
use Rattle.ft_trace.specs.Addresses.{class_of, slots}
use Rattle.ft_trace.specs.ContainerStates.{kind_in}
use Rattle.ft_trace.specs.Holds.{in_hand}
use Rattle.ft_trace.specs.Kinds.{rows}
use Rattle.ft_trace.specs.Pictures.{entry_field}
use Rattle.ft_bank.specs.declared.pass.Pass.{Pass}
use Rattle.ft_bank.specs.Passes.{shape_of, view}
use Rattle.ft_bank.specs.TableNames.{table_id}
use Rattle.ft_bank.proofs.TableAddresses.{class_is}
use Rattle.ft_search.proofs.WordPlaces.{mask_is}
use Rattle.ft_search.proofs.Puts.{table_class}
use Rattle.ft_new_keys.proofs.FilledTables.{old_fits}
use Rattle.ft_replacing.proofs.SharedDicts.{raw_rebuilt, raw_versions}
use Rattle.ft_replacing.proofs.sharing.share_table.Goals as goal
use Rattle.ft_replacing.proofs.sharing.share_table.Goals.{After-rebuild_in}

pub mask_of-old_mask-requires : goal.mask_of-old_mask-requires
mask_of-old_mask-requires c = (c.requires.keyed.table_in c.args.own refl).0

pub cell_of-old_start-requires : goal.cell_of-old_start-requires
cell_of-old_start-requires c = record { table = c.requires.keyed.table_in c.args.own refl }

pub rebuild_in-requires-clause-can : goal.rebuild_in-requires-clause-can
rebuild_in-requires-clause-can c =
    let a = c.args in
    let keyed = c.requires.keyed in
    record {
      pass = c.requires.pass;
      container = keyed.container;
      keyed = keyed.keyed;
      locked = keyed.locked;
      even = keyed.even;
      old_in = keyed.table_in a.own refl;
      old_root = keyed.root;
      old_mask = c.mask_of-old_mask.ensures;
      old_start = c.cell_of-old_start.ensures.place;
      start = c.cell_of-start.ensures.place;
      table_in = c.requires.table;
      fresh = c.requires.fresh;
      mask = c.mask_of-mask.ensures;
    }

pub rebuild_in-requires-clause-mask : goal.rebuild_in-requires-clause-mask
rebuild_in-requires-clause-mask c = (mask_is c.args.table.class c.mask_of-mask.result c.requires.table.0 c.mask_of-mask.ensures, refl)

pub rebuild_in-requires-clause-fill : goal.rebuild_in-requires-clause-fill
rebuild_in-requires-clause-fill c =
    let a = c.args in
    subst (λ (n : ℕ). n ≤ rows (kind_in (shape_of a.bank.now).starts a.d) (class_of (table_id a.own))) (sym c.requires.fill)
    (old_fits (shape_of a.bank.now) a.d a.own (view a.pass.now) c.requires.keyed c.requires.pass.1 a.pass.now.possible way.Dict c.requires.dict)

pub returns-clause-rebuilt : goal.returns-clause-rebuilt
returns-clause-rebuilt c used table filled fits =
    let a = c.args in
    let k = shape_of a.bank.now in
    let t = c.rebuild_in.new.words in
    let class = class_of (table_id a.table) in
    let last : c.mask_of-mask.result ≡ class_mask class = c.mask_of-mask.ensures ∙ sym (ap class_mask (class_is a.table c.requires.table.2)) in
    let old_last : c.mask_of-old_mask.result ≡ class_mask (class_of (table_id a.own)) = c.mask_of-old_mask.ensures ∙ sym (ap class_mask (class_is a.own (c.requires.keyed.table_in a.own refl).2)) in
    let same_pass : t.pass.now ≡ c.pass-1.given.0 = search rules in
    subst (λ (p : Pass). IsDictTable k.texts (class_mask class) (filter is_live used) (0 ∷ 0 ∷ in_hand (table_id a.table) (view p))) same_pass
    (raw_rebuilt a.own a.table _ t c.changed_words_are_of_a_table.ensures.blank c.used_entries_follow_a_dict.ensures.live_alone c.used_entries_follow_a_set.ensures.live_alone c.calls_keep_versions.ensures.keep
    (table_class k a.table c.requires.table) refl last old_last c.requires.blank _ refl a.fill _ c.rebuild_in.result c.rebuild_in.ensures.moves k.texts used table filled fits)

pub returns-clause-versions : goal.returns-clause-versions
returns-clause-versions c place =
    let a = c.args in
    let k = shape_of a.bank.now in
    let t = c.rebuild_in.new.words in
    let class = class_of (table_id a.table) in
    let last : c.mask_of-mask.result ≡ class_mask class = c.mask_of-mask.ensures ∙ sym (ap class_mask (class_is a.table c.requires.table.2)) in
    let old_last : c.mask_of-old_mask.result ≡ class_mask (class_of (table_id a.own)) = c.mask_of-old_mask.ensures ∙ sym (ap class_mask (class_is a.own (c.requires.keyed.table_in a.own refl).2)) in
    let same_pass : t.pass.now ≡ c.pass-1.given.0 = search rules in
    subst (λ (p : Pass). entry_field (slots class) (in_hand (table_id a.table) (view p)) place 0 ≡ 0) same_pass
    (raw_versions a.own a.table _ t c.changed_words_are_of_a_table.ensures.blank c.used_entries_follow_a_dict.ensures.live_alone c.used_entries_follow_a_set.ensures.live_alone c.calls_keep_versions.ensures.keep
    (table_class k a.table c.requires.table) refl last old_last c.requires.blank _ refl a.fill _ c.rebuild_in.result c.rebuild_in.ensures.moves place)
