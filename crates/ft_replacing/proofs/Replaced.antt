-- Calls that replace what a dict or a set has, later than they were asked for; how many pairs a dict may have; and what
-- such a call comes to that takes no table.
use Rattle.std.proofs.Common.{◌≡◌, ℕ, ◌+◌, ◌≤◌, Bool, true, false, true≢false, List, [], ◌∷◌, length, Option, Some, None, refl, sym, ap, ◌∙◌, subst, arith, ltb-false}
use Rattle.std.specs.Prelude.{is_some, filter, nat_lt, if◌then◌else◌}
use Rattle.std.specs.Option.{unwrap_or}
use Rattle.std.proofs.lemmas.List.{length-map}
use Rattle.ft_model.specs.declared.call.Call.{Call}
use Rattle.ft_model.specs.declared.content.Content.{Content}
use Rattle.ft_model.specs.declared.content.Content.TheVariants as content
use Rattle.ft_model.specs.declared.content.DictPair.{DictPair}
use Rattle.ft_model.specs.declared.reply.Reply.TheVariants as reply
use Rattle.ft_model.specs.declared.script.Kind.TheVariants as kind
use Rattle.ft_model.specs.Classes.{dict_class, dict_entries, most_pairs}
use Rattle.ft_model.specs.Contents.{DictContent, dict_copy, pairs_from}
use Rattle.ft_model.specs.TableUses.{StoredWorld, TableUse, copy_takes, no_table}
use Rattle.ft_model.specs.Worlds.{kind_of}
use Rattle.ft_model.proofs.ClassRooms.{dict_fits}
use Rattle.ft_model.proofs.KnownKeys.{length-filter-le}
use Rattle.ft_layout.specs.Containers.{used_pair, IsDictWords, StandsAs}
use Rattle.ft_layout.specs.Tables.{UsedEntry, is_live}
use Rattle.ft_layout.proofs.FieldLaws.{sizes_of_class}
use Rattle.ft_layout.proofs.Powers.{slots_range}
use Rattle.ft_trace.specs.declared.View.{View}
use Rattle.ft_trace.specs.Acts.{has_lock}
use Rattle.ft_trace.specs.Addresses.{places}
use Rattle.ft_trace.specs.Kinds.{rows}
use Rattle.ft_trace.specs.ContainerStates.{ContainerState}
use Rattle.ft_bank.specs.WriteSteps.{MayHave}
use Rattle.ft_search.specs.OneEntryWrites.{Leaves}
use Rattle.ft_whole_tables.specs.Clearing.{cleared_kept}
use Rattle.ft_replacing.specs.Replacing.{Replaces}

-- the call, later: the pass has the same locks, and what the bank may have then it may have had before
pub replaces_later : (o : ℕ) (called : Call) (left : Content) (takes : Option ℕ) (v u : View) → ((found : StoredWorld) → MayHave u found → MayHave v found) → ((p : ℕ) → has_lock p u.log ≡ has_lock p v.log) → Replaces o called left takes v → Replaces o called left takes u
replaces_later o called left takes v u has locks r = record {
  write = r.write;
  changed = r.changed;
  words = r.words;
  locks = λ p e. locks p ∙ r.locks p e;
  empties = r.empties;
  replied = λ found h. r.replied found (has found h);
  declared = λ found h. r.declared found (has found h);
  lacks = λ found h. r.lacks found (has found h);
  fits = λ found h. r.fits found (has found h);
  takes_is = λ found h. r.takes_is found (has found h);
  left_is = λ found h. r.left_is found (has found h);
}

-- ---- dicts

pub dict_of_kind : (c : Content) → kind_of c ≡ kind.Dict → (pairs : DictContent) × (c ≡ content.Dict pairs)
dict_of_kind (content.Dict pairs) e = (pairs, refl)
dict_of_kind (content.List values) e = absurd (cc)
dict_of_kind (content.Deque deque) e = absurd (cc)
dict_of_kind (content.Set elements) e = absurd (cc)

-- the largest table holds the pairs of a dict
pub pairs_few : (texts block words : List ℕ) (table : TableUse) (pairs : DictContent) → StandsAs texts block words table (content.Dict pairs) → length pairs.pairs ≤ most_pairs
pairs_few texts block words table pairs is = by table.class is
  where
    by : (class : Option ℕ) → IsDictWords texts block words class table.fill pairs → length pairs.pairs ≤ most_pairs
    by None says =
        let many : length pairs.pairs ≡ length (filter is_live says.used) = sym (length-map pairs.pairs used_pair) ∙ ap length (sym says.entries.live) in
        let none : length (filter is_live says.used) ≡ 0 = ap (λ (l : List UsedEntry). length (filter is_live l)) says.table in
        omega (arith, many, none)
    by (Some class) says =
        let many : length pairs.pairs ≡ length (filter is_live says.used) = sym (length-map pairs.pairs used_pair) ∙ ap length (sym says.entries.live) in
        let few = length-filter-le is_live says.used in
        let fill = says.table.fill in
        let is_class = says.head.root.1.0 in
        let size = (sizes_of_class class is_class).0 in
        let range = (slots_range class is_class).1 in
        let least = (slots_range class is_class).0 in
        omega (arith, many, few, fill, least, range)

if_some : (b : Bool) (x c : ℕ) → (if b then Some x else None) ≡ Some c → x ≡ c
if_some true x c e = ap (λ (z : Option ℕ). unwrap_or z 0) e
if_some false x c e = absurd (true≢false (sym (ap is_some e)))

-- the table that a copy takes has room for it
pub copy_room : (count class : ℕ) → count ≤ most_pairs → copy_takes count ≡ Some class → count ≤ rows kind.Dict class
unfolding places
copy_room count class few takes = subst (λ (c : ℕ). count ≤ dict_entries c) (if_some (nat_lt 0 count) (dict_class count) class takes) (dict_fits count few).1

if_none : (b : Bool) (x : ℕ) → (if b then Some x else None) ≡ None → b ≡ false
if_none true x e = absurd (true≢false (ap is_some e))
if_none false x e = refl

-- a copy takes none for no pairs alone
pub none_copied : (pairs : List DictPair) → copy_takes (length pairs) ≡ None → pairs ≡ []
none_copied pairs e = by pairs (ltb-false 0 (length pairs) (if_none (nat_lt 0 (length pairs)) (dict_class (length pairs)) e))
  where
    by : (some : List DictPair) → length some ≤ 0 → some ≡ []
    by [] few = refl
    by (pair ∷ some) few = absurd (omega (arith, few))

-- and is a clear then
pub copy_clears : (o : ℕ) (called : Call) (given pairs : DictContent) (kept : ContainerState) (v : View) → kept.content ≡ content.Dict given → copy_takes (length pairs.pairs) ≡ None → Replaces o called (content.Dict (dict_copy given pairs.pairs)) None v → Leaves o called reply.Done (cleared_kept kept) v
copy_clears o called given pairs kept v is none r =
    let bare = none_copied pairs.pairs none in
    let next : given.next + 0 ≡ given.next = omega arith in
    let same : content.Dict (dict_copy given pairs.pairs) ≡ content.Dict (record { next = given.next; pairs = [] }) = ap (λ (l : List DictPair). content.Dict (record { next = given.next + length l; pairs = pairs_from given.next l })) bare ∙ ap (λ (n : ℕ). content.Dict (record { next = n; pairs = [] })) next in
    let left : record { content = content.Dict (dict_copy given pairs.pairs); table = no_table } ≡ cleared_kept kept = (λ i. record { content = same i; table = no_table }) ∙ ap (λ (c : Content). cleared_kept (record { content = c; table = kept.table })) (sym is) in
    record {
      write = r.write;
      changed = r.changed;
      words = r.words;
      locks = r.locks;
      replied = r.replied;
      declared = r.declared;
      fits = r.fits;
      left_is = λ found h. r.left_is found h ∙ left;
    }
