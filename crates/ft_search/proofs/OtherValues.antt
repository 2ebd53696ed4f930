-- What another value at a key of a dict leaves of its words, and that readers aren't misled by it.
use Rattle.std.proofs.Common.{◌≡◌, ◌≢◌, ℕ, zero, suc, ◌+◌, ◌*◌, ◌%◌, ◌<◌, ◌≤◌, false, List, [], ◌∷◌, length, Option, Some, None, refl, sym, ap, ◌∙◌, subst, arith, get_or-set_same}
use Rattle.std.specs.Prelude.{All, slice_index, slice_set, slice_get}
use Rattle.std.proofs.lemmas.Option.{slice_get_within}
use Rattle.ft_model.specs.declared.content.Content.{Content}
use Rattle.ft_model.specs.declared.content.Content.TheVariants as content
use Rattle.ft_model.specs.declared.content.DictPair.{DictPair}
use Rattle.ft_model.specs.declared.data.Key.{Key}
use Rattle.ft_model.specs.declared.data.Value.{Value}
use Rattle.ft_model.specs.declared.script.Kind.{Kind}
use Rattle.ft_model.specs.declared.script.Kind.TheVariants as kind
use Rattle.ft_model.specs.Classes.{IsClass}
use Rattle.ft_model.specs.Contents.{DictContent, IsDict, dict_set}
use Rattle.ft_model.specs.TableUses.{TableUse}
use Rattle.ft_model.specs.Worlds.{kind_of}
use Rattle.ft_hash.specs.Probes.{dict_slots}
use Rattle.ft_hash.proofs.Walks.{dict_slots-within}
use Rattle.ft_layout.specs.declared.slot.Stored.TheVariants.{Plain}
use Rattle.ft_layout.specs.Words.{FitsKey, FitsStored, stored_kind, stored_payload}
use Rattle.ft_layout.specs.Tables.{dict_room}
use Rattle.ft_layout.specs.Tables as layout
use Rattle.ft_layout.specs.WordChanges.{with_stored}
use Rattle.ft_layout.specs.Containers.{class_mask, used_pair, IsDictWords}
use Rattle.ft_layout.proofs.ContentLaws.{stands_for_dict}
use Rattle.ft_layout.proofs.Powers.{slots_range}
use Rattle.ft_trace.specs.declared.Shape.{Shape}
use Rattle.ft_trace.specs.declared.View.{View}
use Rattle.ft_trace.specs.Acts.{has_committed}
use Rattle.ft_trace.specs.Boxes.{value_at}
use Rattle.ft_trace.specs.Addresses.{class_of, slots, places, size}
use Rattle.ft_trace.specs.Carefuls.{HasLiveKey, said_of}
use Rattle.ft_trace.specs.EntryWrites.{value_puts}
use Rattle.ft_trace.specs.Holds.{held_unboxed, known_state}
use Rattle.ft_trace.specs.Kinds.{under, rows, version_at, CarefulAs, ClearAs}
use Rattle.ft_trace.specs.OddVersions.{Shut}
use Rattle.ft_trace.specs.Traces.{IsReachable}
use Rattle.ft_trace.specs.Pictures.{ContainerWords, root_in, entry_offset, entry_field, walk_of, Represents}
use Rattle.ft_trace.specs.ContainerStates.{kind_in}
use Rattle.ft_trace.specs.WholeWrites.{to_table, to_value, with_puts, MayPut, MayPuts}
use Rattle.ft_trace.proofs.ByKind.{keyed_low}
use Rattle.ft_trace.proofs.DictWrites as dict
use Rattle.ft_trace.proofs.DictWrites.{EntryVersionsChangeNothing, WordsFollowAValue, LiveEntriesArePairs, FirstEntriesArePairs}
use Rattle.ft_trace.proofs.ValuePlaces.{entry_far, plain_kind}
use Rattle.ft_trace.proofs.EntryPuts.{ver3, value_open, value_clear, value_late, value_shut, value_time}
use Rattle.ft_trace.proofs.Known.{after_header, class_known, table_is_long}
use Rattle.ft_bank.specs.declared.table.Table.{Table}
use Rattle.ft_bank.specs.TableNames.{table_id}
use Rattle.ft_bank.specs.BoxSteps.{IsOpenValue}
use Rattle.ft_bank.specs.SameBoxes.{HoldsFew}
use Rattle.ft_bank.specs.Whole.{OnlyPut}
use Rattle.ft_bank.specs.WriteSteps.{IsCareful, with_table}
use Rattle.ft_search.specs.OneEntryWrites.{KnowsEntries, HasTable, IsLiveEntry, MayWriteEntries, raised_at, with_value_at}
use Rattle.ft_search.proofs.Changing.{Changing, kind_is, live_item, put_at, shut_known, table_version_put}
use Rattle.ft_search.proofs.Puts.{table_class}
use Rattle.ft_trace.proofs.LookReplies.{value_said}
use Rattle.ft_trace.proofs.FitCalls.{dict_fits_words}
use Rattle.ft_search.proofs.SameValues.{value_again}

-- words that are put where they stand
pub set_own : (l : List ℕ) (i x : ℕ) → x ≡ slice_index l i → slice_set l i x ≡ l
set_own [] i x is = refl
set_own (y ∷ l) zero x is = ap (λ (z : ℕ). z ∷ l) is
set_own (y ∷ l) (suc i) x is = ap (λ (z : List ℕ). y ∷ z) (set_own l i x is)

-- what is known of the entries of a dict, and what another value makes of them
pub record ValueLaws : Type 0 where
  pub versions : EntryVersionsChangeNothing
  pub first : FirstEntriesArePairs
  pub lives : LiveEntriesArePairs
  pub follow : WordsFollowAValue

module _ (laws : ValueLaws) (texts : List ℕ) (x : ContainerWords) (tab : TableUse) (t : ℕ) (is_class : IsClass (class_of t)) (pairs : DictContent) (says : IsDictWords texts x.block (0 ∷ 0 ∷ x.table) (Some (class_of t)) tab.fill pairs) (class_eq : tab.class ≡ Some (class_of t)) (names : root_in x ≡ suc t) (long : slots (class_of t) + 8 * places (class_of t) ≤ length x.table)
    (p : ℕ) (key : Key) (value : Value) (even : entry_field (slots (class_of t)) x.table p 0 % 2 ≡ 0) (low : p < places (class_of t)) (live : HasLiveKey (slots (class_of t)) x.table p key) (fits_key : FitsKey key) (fits : FitsStored (Plain value)) where
  abbrev c : ℕ
  c = class_of t

  abbrev n : ℕ
  n = slots c

  abbrev m : ℕ
  m = places c

  abbrev ws : List ℕ
  ws = x.table

  abbrev b : List ℕ
  b = x.block

  abbrev fill : ℕ
  fill = tab.fill

  abbrev news : DictContent
  news = dict_set pairs key value

  abbrev ver : ℕ
  ver = entry_field n ws p 0

  abbrev kw : ℕ
  kw = stored_kind (Plain value)

  abbrev pw : ℕ
  pw = stored_payload (Plain value)

  abbrev opened : List ℕ
  opened = slice_set ws (entry_offset n p 0) (ver + 1)

  abbrev second : List ℕ
  second = slice_set opened (entry_offset n p 4) kw

  abbrev put : List ℕ
  put = slice_set second (entry_offset n p 5) pw

  odd : entry_field n put p 0 ≡ ver + 1
  odd = ver3 n m ws (under (content.Dict pairs)) (under (content.Dict news)) p key kw pw low long even live

  next : ver + 2 ≡ entry_field n put p 0 + 1
  next = let o = odd in omega (arith, o)

  in_order : IsDict pairs.next pairs.pairs
  in_order = stands_for_dict texts b (0 ∷ 0 ∷ ws) (Some c) fill pairs says

  abbrev walk : ℕ → List ℕ
  walk hash = dict_slots hash (class_mask c) (class_mask c + 14)

  within : (hash : ℕ) → All (λ slot. slot ≤ class_mask c) (walk hash)
  within hash = dict_slots-within hash (class_mask c) (class_mask c + 14)

  mine : (pair : DictPair) × (slice_get says.used p ≡ Some (used_pair pair)) × (pair.key ≡ key)
  mine =
      let room : dict_room (class_mask c) ≡ m = dict.room_is laws.first texts b c fill is_class pairs ws says in
      live_item walk (dict_room (class_mask c)) texts c is_class says.used used_pair ws says.table p key (omega (arith, room, low)) live fits_key (λ entry at alive. let l = laws.lives says.used pairs p entry says.entries in_order at alive in (l.0, l.1))

  version_put : (l : List ℕ) (y : ℕ) (d : DictContent) → IsDictWords texts b (0 ∷ 0 ∷ l) (Some c) fill d → IsDictWords texts b (0 ∷ 0 ∷ slice_set l (entry_offset n p 0) y) (Some c) fill d
  version_put l y d is = record { head = is.head; used = is.used; table = table_version_put walk (dict_room (class_mask c)) texts c is_class is.used laws.versions within l p y is.table; filled = is.filled; entries = is.entries }

  open_says : IsDictWords texts b (0 ∷ 0 ∷ opened) (Some c) fill pairs
  open_says = version_put ws (ver + 1) pairs says

  same_words : with_stored (class_mask c) (0 ∷ 0 ∷ opened) p (Plain value) ≡ 0 ∷ 0 ∷ put
  unfolding slots
  same_words =
      let r = (slots_range c is_class).0 in
      ap (λ (l : List ℕ). slice_set l (layout.entry_at (class_mask c) p 5) pw) (after_header opened (layout.entry_at (class_mask c) p 4) (entry_offset n p 4) kw (omega (arith, r)))
      ∙ after_header second (layout.entry_at (class_mask c) p 5) (entry_offset n p 5) pw (omega (arith, r))

  pub value_stands : IsDictWords texts b (0 ∷ 0 ∷ put) (Some c) fill news
  unfolding open_says version_put
  value_stands =
      let used : slice_get open_says.used p ≡ Some (used_pair mine.0) = mine.1 in
      subst (λ (z : List ℕ × Key). IsDictWords texts b z.0 (Some c) fill (dict_set pairs z.1 value)) (λ d. (same_words d, mine.2 d)) (laws.follow texts b (0 ∷ 0 ∷ opened) c fill pairs open_says p mine.0 value used fits)

  right_before : (q : ℕ) (a : Key) → q < m → HasLiveKey n ws q a → under (content.Dict pairs) a ≡ said_of n ws q
  right_before q a less l = dict.dict_right laws.first texts b c fill is_class pairs ws says q a less l

  right_now : (q : ℕ) (a : Key) → q < m → HasLiveKey n put q a → under (content.Dict news) a ≡ said_of n put q
  right_now q a less l = dict.dict_right laws.first texts b c fill is_class news put value_stands q a less l

  live_now : (a : Key) → under (content.Dict news) a ≢ [] → (q : ℕ) × (q < m) × HasLiveKey n put q a
  live_now a some = dict.dict_live laws.first texts b c fill is_class news put value_stands a some

  inside : (w : ℕ) → w < 8 → entry_offset n p w < size c
  inside w few = keyed_low kind.Dict tt c p w low few

  -- the place is one of a used entry
  pub value_used : p < fill
  value_used = let low_here = slice_get_within says.used p (used_pair mine.0) mine.1 in let f = says.filled in omega (arith, low_here, f)

  -- the puts may be made whatever the dict had before the write
  pub value_early : (before : Content) → MayPuts kind.Dict t before false x (value_puts n ws p None value)
  value_early before =
      let e = even in
      let was = under before in
      let will = under (content.Dict news) in
      let time = value_time n m ws was will p key kw pw low long even live (version_at kind.Dict c) (λ q. refl) in
      let first_ = get_or-set_same ws (entry_offset n p 0) (ver + 1) 0 (omega (arith, low, long)) in
      let odd1 : slice_index opened (entry_offset n p 0) % 2 ≡ 1 = omega (arith, first_, e) in
      let p2 : MayPut kind.Dict t before false (record { block = b; table = opened }) (to_value None (entry_offset n p 4) (entry_offset n p 5) kw pw) = (names, (p, low, refl, omega arith, odd1), plain_kind value, λ z. refl) in
      let p1 : MayPut kind.Dict t before false x (to_table (entry_offset n p 0) (ver + 1)) = (names, inside 0 (omega arith), value_open n m ws was will p key kw pw low long even live, time 0 (ver + 1) (omega arith) (λ _. omega (arith, e)), entry_far c p 0 (omega arith) (λ z. omega (arith, z)) (λ z. omega (arith, z))) in
      (p1, (p2, tt))

  -- the words of the entry are those of the value: then it is the value at the key, and the dict is as it was
  pub same_again : entry_field n ws p 4 ≡ kw → entry_field n ws p 5 ≡ pw → dict_set pairs key value ≡ pairs
  same_again is_kind is_payload =
      value_again pairs key value in_order
      (value_said pairs key fits_key (dict_fits_words texts b (0 ∷ 0 ∷ ws) c fill pairs says) value fits (entry_field n ws p 4) (entry_field n ws p 5) (entry_field n ws p 6) (right_before p key low live) is_kind is_payload)

  clear : (entry_field n ws p 4 ≡ kw → entry_field n ws p 5 ≡ pw → ⊥) → Shut (λ q. entry_offset n q 0) m ws → ClearAs kind.Dict texts c put (content.Dict pairs) (content.Dict news)
  clear other shut = value_clear n m ws (under (content.Dict pairs)) (under (content.Dict news)) p key kw pw low long even live right_before right_now live_now other shut (walk_of kind.Dict texts c)

  close : CarefulAs kind.Dict c put (content.Dict news) (entry_offset n p 0) (entry_field n put p 0 + 1)
  close = subst (λ (z : ℕ). CarefulAs kind.Dict c put (content.Dict news) (entry_offset n p 0) z) next (value_late n m ws (under (content.Dict pairs)) (under (content.Dict news)) p key kw pw low long even live right_before right_now live_now)

  ends : Represents texts (raised_at t p (record { block = b; table = put })) (record { content = content.Dict news; table = tab })
  ends = subst (λ (z : Option ℕ). IsDictWords texts b (0 ∷ 0 ∷ slice_set put (entry_offset n p 0) (entry_field n put p 0 + 1)) z fill news) (sym class_eq) (version_put put (entry_field n put p 0 + 1) news value_stands)

  shut_after : Shut (λ q. entry_offset n q 0) m ws → Shut (version_at kind.Dict c) (rows kind.Dict c) (slice_set put (entry_offset n p 0) (entry_field n put p 0 + 1))
  shut_after shut = subst (λ (z : ℕ). Shut (version_at kind.Dict c) (rows kind.Dict c) (slice_set put (entry_offset n p 0) z)) next (value_shut n m ws (under (content.Dict pairs)) (under (content.Dict news)) p key kw pw low long even live shut)

  pub value_changes : Shut (λ q. entry_offset n q 0) m ws → (entry_field n ws p 4 ≡ kw → entry_field n ws p 5 ≡ pw → ⊥) → Changing texts t x (record { content = content.Dict pairs; table = tab }) p (value_puts n ws p None value) (record { content = content.Dict news; table = tab })
  value_changes shut other = record {
    puts = value_early (content.Dict pairs);
    clear = clear other shut;
    odd = let o = odd in let e = even in omega (arith, o, e);
    close = close;
    stands = ends;
    shut = shut_after shut;
  }

-- the words of an entry of the table are those of this value
abbrev pub SaysValue : Table → ℕ → Value → ContainerWords → Type 0
SaysValue table place value x =
    (entry_field (slots (class_of (table_id table))) x.table place 4 ≡ stored_kind (Plain value)) × (entry_field (slots (class_of (table_id table))) x.table place 5 ≡ stored_payload (Plain value))

-- as the pass knows the dict: another value may be put, or it is the value that is there
pub values_here : ValueLaws → (k : Shape) (o : ℕ) (table : Table) (v : View) → v.shape ≡ k → ∥ IsReachable v ∥₁ → KnowsEntries k o v → kind_in k.starts o ≡ kind.Dict → HasTable k o table v → (place : ℕ) (key : Key) (value : Value) → FitsStored (Plain value) → IsLiveEntry k o table place key v
    → ((SaysValue table place value (held_unboxed o v) → ⊥) → Changing k.texts (table_id table) (held_unboxed o v) (known_state o v) place (value_puts (slots (class_of (table_id table))) (held_unboxed o v).table place None value) (record { content = with_value_at (known_state o v).content key value; table = (known_state o v).table }))
    × (SaysValue table place value (held_unboxed o v) → with_value_at (known_state o v).content key value ≡ (known_state o v).content)
values_here laws k o table v shape possible may is has place key value fits entry =
    by (known_state o v).content (known_state o v).table (kind_is k v o shape possible may.locked ∙ is) may.stands
    (subst (λ (z : Kind). place < rows z (class_of (table_id table))) is entry.low)
    (shut_known k v o (table_id table) shape possible may.container may.locked may.even has.root)
  where
    by : (d : Content) (u : TableUse) → kind_of d ≡ kind.Dict → Represents k.texts (held_unboxed o v) (record { content = d; table = u }) → place < rows kind.Dict (class_of (table_id table)) → Shut (version_at (kind_of d) (class_of (table_id table))) (rows (kind_of d) (class_of (table_id table))) (held_unboxed o v).table
        → ((SaysValue table place value (held_unboxed o v) → ⊥) → Changing k.texts (table_id table) (held_unboxed o v) (record { content = d; table = u }) place (value_puts (slots (class_of (table_id table))) (held_unboxed o v).table place None value) (record { content = with_value_at d key value; table = u }))
        × (SaysValue table place value (held_unboxed o v) → with_value_at d key value ≡ d)
    by (content.Dict pairs) u e stands low shut =
        let t = table_id table in
        let class = class_known k.texts (held_unboxed o v) (record { content = content.Dict pairs; table = u }) t stands has.root in
        let says : IsDictWords k.texts (held_unboxed o v).block (0 ∷ 0 ∷ (held_unboxed o v).table) (Some (class_of t)) u.fill pairs = subst (λ (z : Option ℕ). IsDictWords k.texts (held_unboxed o v).block (0 ∷ 0 ∷ (held_unboxed o v).table) z u.fill pairs) class stands in
        let long = table_is_long v o t has.root in
        let is_class = table_class k table has.table_in in (
          λ other. value_changes laws k.texts (held_unboxed o v) u t is_class pairs says class has.root (omega (arith, long)) place key value (shut place low) low entry.live entry.fits fits shut (λ a b. other (a, b)),
          λ again. ap content.Dict (same_again laws k.texts (held_unboxed o v) u t is_class pairs says class has.root (omega (arith, long)) place key value (shut place low) low entry.live entry.fits fits again.0 again.1),
        )
    by (content.Set elements) u e stands low shut = absurd (cc)
    by (content.List values) u e stands low shut = absurd (cc)
    by (content.Deque deque) u e stands low shut = absurd (cc)

pub values_known : ValueLaws → (k : Shape) (o : ℕ) (table : Table) (v : View) → v.shape ≡ k → ∥ IsReachable v ∥₁ → MayWriteEntries k o v → kind_in k.starts o ≡ kind.Dict → HasTable k o table v → (place : ℕ) (key : Key) (value : Value) → FitsStored (Plain value) → IsLiveEntry k o table place key v
    → ((SaysValue table place value (held_unboxed o v) → ⊥) → Changing k.texts (table_id table) (held_unboxed o v) (known_state o v) place (value_puts (slots (class_of (table_id table))) (held_unboxed o v).table place None value) (record { content = with_value_at (known_state o v).content key value; table = (known_state o v).table }))
    × (SaysValue table place value (held_unboxed o v) → with_value_at (known_state o v).content key value ≡ (known_state o v).content)
values_known laws k o table v shape possible may is has place key value fits entry =
    values_here laws k o table v shape possible (record { container = may.container; keyed = may.keyed; locked = may.locked; even = may.even o; stands = may.stands }) is has place key value fits entry

-- ---- the puts, one after the other

pub value_opens : (k : Shape) (o : ℕ) (table : Table) (place : ℕ) (value : Value) (v : View) → v.shape ≡ k → has_committed o v.log ≡ false → HoldsFew v → MayPuts (kind_in k.starts o) (table_id table) (known_state o v).content false (held_unboxed o v) (value_puts (slots (class_of (table_id table))) (held_unboxed o v).table place None value)
    → IsCareful v o (table_id table) (entry_offset (slots (class_of (table_id table))) place 0) (entry_field (slots (class_of (table_id table))) (held_unboxed o v).table place 0 + 1)
value_opens k o table place value v shape early few may =
    let n = slots (class_of (table_id table)) in
    put_at k o (table_id table) (entry_offset n place 0) (entry_field n (held_unboxed o v).table place 0 + 1) false (held_unboxed o v) (known_state o v).content v shape early refl refl few may.0

module _ (k : Shape) (o : ℕ) (table : Table) (place : ℕ) (value : Value) (v w1 : View) (shape : v.shape ≡ k) (only1 : OnlyPut o v w1) (held1 : held_unboxed o w1 ≡ raised_at (table_id table) place (held_unboxed o v))
    (may : MayPuts (kind_in k.starts o) (table_id table) (known_state o v).content false (held_unboxed o v) (value_puts (slots (class_of (table_id table))) (held_unboxed o v).table place None value)) where
  abbrev pt : ℕ
  pt = table_id table

  abbrev pn : ℕ
  pn = slots (class_of pt)

  -- the value may be put over
  pub value_is_open : (word : ℕ) → word ≡ entry_offset pn place 4 → IsOpenValue w1 o pt word
  value_is_open word is =
      let shape1 : w1.shape ≡ k = only1.work.pass.shape ∙ shape in
      let r = may.1.0.1 in
      record {
        row = r.0;
        low = subst (λ (z : Shape). r.0 < rows (kind_in z.starts o) (class_of pt)) (sym shape1) r.1;
        is = is ∙ subst (λ (z : Shape). entry_offset pn place 4 ≡ value_at (kind_in z.starts o) (class_of pt) r.0) (sym shape1) r.2;
        odd = subst (λ (z : Shape × ContainerWords). slice_index z.1.table (version_at (kind_in z.0.starts o) (class_of pt) r.0) % 2 ≡ 1) (sym (λ d. (shape1 d, held1 d))) r.4;
      }

  pub value_words : (w2 : View) (word kind_word payload : ℕ) → word ≡ entry_offset pn place 4 → kind_word ≡ stored_kind (Plain value) → payload ≡ stored_payload (Plain value) → held_unboxed o w2 ≡ with_table (with_table (held_unboxed o w1) word kind_word) (word + 1) payload → held_unboxed o w2 ≡ with_puts (held_unboxed o v) (value_puts pn (held_unboxed o v).table place None value)
  value_words w2 word kind_word payload at is_kind is held2 =
      let next : word + 1 ≡ entry_offset pn place 5 = omega (arith, at) in
      held2 ∙ (λ d. with_table (with_table (held1 d) (at d) (is_kind d)) (next d) (is d))
