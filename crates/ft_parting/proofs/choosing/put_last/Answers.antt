use Rattle.std.proofs.Common.{◌≡◌, ℕ, ◌+◌, ◌<◌, ◌∷◌, List, refl, sym, ap, ◌∙◌, subst, rules}
use Rattle.ft_layout.specs.Containers.{class_mask}
use Rattle.ft_layout.specs.Tables.{entry_word}
use Rattle.ft_keys.specs.Accesses.{after}
use Rattle.ft_keys.specs.TableChanges.{AddsPair}
use Rattle.ft_keys.specs.Puts.{PutBelow}
use Rattle.ft_keys.specs.Ways.{room}
use Rattle.ft_keys.specs.declared.walk.Way.TheVariants as way
use Rattle.ft_trace.specs.Addresses.{class_of, slots}
use Rattle.ft_trace.specs.Holds.{in_hand}
use Rattle.ft_trace.specs.Pictures.{entry_field}
use Rattle.ft_bank.specs.declared.pass.Pass.{Pass}
use Rattle.ft_bank.specs.declared.table.Table.{Table}
use Rattle.ft_bank.specs.Passes.{view}
use Rattle.ft_bank.specs.TableNames.{table_id}
use Rattle.ft_bank.proofs.TableAddresses.{class_is}
use Rattle.ft_search.proofs.WordPlaces.{mask_is}
use Rattle.ft_new_keys.specs.Fresh.{fresh_words}
use Rattle.ft_new_keys.proofs.FilledTables.{ran_fresh, word_here}
use Rattle.ft_parting.proofs.choosing.put_last.Goals as goal

pub mask_of-old_mask-requires : goal.mask_of-old_mask-requires
mask_of-old_mask-requires c = (c.requires.keyed.table_in c.args.old refl).0

pub cell_of-old_start-requires : goal.cell_of-old_start-requires
cell_of-old_start-requires c = record { table = c.requires.keyed.table_in c.args.old refl }

pub place_in-requires-clause-can : goal.place_in-requires-clause-can
place_in-requires-clause-can c =
    let a = c.args in
    let keyed = c.requires.keyed in
    record {
      pass = c.requires.pass;
      container = keyed.container;
      keyed = keyed.keyed;
      locked = keyed.locked;
      even = keyed.even;
      old_in = keyed.table_in a.old refl;
      old_root = keyed.root;
      old_mask = c.mask_of-old_mask.ensures;
      old_start = c.cell_of-old_start.ensures.place;
      start = c.cell_of-start.ensures.place;
      table_in = c.requires.table;
      fresh = c.requires.fresh;
      mask = c.mask_of-mask.ensures;
    }

pub place_in-requires-clause-mask : goal.place_in-requires-clause-mask
place_in-requires-clause-mask c = (mask_is c.args.table.class c.mask_of-mask.result c.requires.table.0 c.mask_of-mask.ensures, refl)

pub place_in-requires-clause-fill : goal.place_in-requires-clause-fill
place_in-requires-clause-fill c = subst (λ (m : ℕ). c.args.fill < room way.Set m) (sym c.mask_of-mask.ensures) c.requires.fill

pub returns-clause-adds : goal.returns-clause-adds
returns-clause-adds c =
    let a = c.args in
    let m = c.place_in.ensures.puts in
    let same : c.place_in.new.words.pass.now ≡ c.pass-1.given.0 = search rules in
    let r = ran_fresh _ m.calls c.place_in.new.words m.runs in
    let made : fresh_words c.place_in.new.words ≡ 0 ∷ 0 ∷ in_hand (table_id a.table) (view c.place_in.new.words.pass.now) = ap (λ (z : Table). 0 ∷ 0 ∷ in_hand (table_id z) (view c.place_in.new.words.pass.now)) r.table in
    subst (λ (p : Pass). AddsPair way.Set (class_mask a.table.class) a.fill a.pair.now (0 ∷ 0 ∷ in_hand (table_id a.table) (view a.pass.now)) (0 ∷ 0 ∷ in_hand (table_id a.table) (view p))) same
    (subst (λ (z : ℕ × List ℕ). AddsPair way.Set z.0 a.fill a.pair.now (0 ∷ 0 ∷ in_hand (table_id a.table) (view a.pass.now)) z.1) (λ i. (c.mask_of-mask.ensures i, (sym r.words ∙ made) i))
    (m.done (0 ∷ 0 ∷ in_hand (table_id a.table) (view a.pass.now)) r.fits).1)

pub returns-clause-versions : goal.returns-clause-versions
returns-clause-versions c place =
    let a = c.args in
    let m = c.place_in.ensures.puts in
    let class = class_of (table_id a.table) in
    let same : c.place_in.new.words.pass.now ≡ c.pass-1.given.0 = search rules in
    let r = ran_fresh _ m.calls c.place_in.new.words m.runs in
    let last : c.mask_of-mask.result ≡ class_mask class = c.mask_of-mask.ensures ∙ sym (ap class_mask (class_is a.table c.requires.table.2)) in
    let made : 0 ∷ 0 ∷ in_hand (table_id a.table) (view c.place_in.new.words.pass.now) ≡ after (class_mask class) m.calls (0 ∷ 0 ∷ in_hand (table_id a.table) (view a.pass.now)) =
    sym (ap (λ (z : Table). 0 ∷ 0 ∷ in_hand (table_id z) (view c.place_in.new.words.pass.now)) r.table)
    ∙ (r.words ∙ ap (λ (z : ℕ). after z m.calls (0 ∷ 0 ∷ in_hand (table_id a.table) (view a.pass.now))) last) in
    subst (λ (p : Pass). entry_field (slots class) (in_hand (table_id a.table) (view p)) place 0 ≡ entry_field (slots class) (in_hand (table_id a.table) (view a.pass.now)) place 0) same
    (sym (word_here class (in_hand (table_id a.table) (view c.place_in.new.words.pass.now)) place 0)
    ∙ (ap (λ (l : List ℕ). entry_word (class_mask class) l place 0) made
    ∙ (c.calls_keep_versions.ensures.keep (class_mask class) (a.fill + 1) (0 ∷ 0 ∷ in_hand (table_id a.table) (view a.pass.now)) m.calls place (subst (λ (z : ℕ). PutBelow z (a.fill + 1) m.calls) last m.below)
    ∙ word_here class (in_hand (table_id a.table) (view a.pass.now)) place 0)))
