-- The puts of a new entry by a pass that writes its container.
use Rattle.std.proofs.Common.{◌≡◌, ◌≢◌, ℕ, ◌+◌, ◌<◌, false, List, [], ◌∷◌, map, refl, sym, ap, ◌∙◌, subst, arith, get_or-set_same, get_or-set_other}
use Rattle.std.specs.Prelude.{slice_index, slice_set}
use Rattle.ft_model.specs.declared.script.Kind.{Kind}
use Rattle.ft_layout.specs.declared.slot.Pair.{Pair}
use Rattle.ft_layout.specs.Words.{entry_words, stored_kind}
use Rattle.ft_keys.specs.declared.words.Access.{Access}
use Rattle.ft_keys.specs.declared.words.Access.TheVariants.{PutEntry}
use Rattle.ft_keys.specs.Accesses.{Allows}
use Rattle.ft_keys.specs.TableChanges.{place_puts}
use Rattle.ft_trace.specs.declared.Shape.{Shape}
use Rattle.ft_trace.specs.declared.View.{View}
use Rattle.ft_trace.specs.Acts.{has_committed}
use Rattle.ft_trace.specs.Addresses.{container_count, class_of, slots}
use Rattle.ft_trace.specs.Holds.{held_words, held_unboxed, known_state}
use Rattle.ft_trace.specs.Kinds.{rows, version_at, IsKeyed}
use Rattle.ft_trace.specs.Pictures.{ContainerWords, entry_offset, entry_field}
use Rattle.ft_trace.specs.ContainerStates.{kind_in}
use Rattle.ft_bank.specs.declared.table.Table.{Table}
use Rattle.ft_trace.specs.Traces.{IsReachable}
use Rattle.ft_bank.specs.BoxSteps.{box_id, IsOpenValue}
use Rattle.ft_bank.specs.Passes.{view}
use Rattle.ft_bank.specs.SameBoxes.{HoldsFew, SameBoxes}
use Rattle.ft_bank.specs.TableNames.{table_id, IsTableIn}
use Rattle.ft_bank.specs.WriteSteps.{IsCareful}
use Rattle.ft_search.specs.declared.words.TableWords.{TableWords}
use Rattle.ft_boxes.specs.References.{KeepsValues}
use Rattle.ft_boxes.proofs.Steps.{keeps_same}
use Rattle.ft_search.specs.TableWords.{access_act, KnowsWords, MayMake, MadeAccess}
use Rattle.ft_search.proofs.Keeping.{ArePuts}
use Rattle.ft_search.proofs.Owning.{held_is_box}
use Rattle.ft_search.specs.OneEntryWrites.{WritesEntries, raised_at}
use Rattle.ft_search.proofs.Puts.{entry_refs, few_places, keyed_value, keyed_version}
use Rattle.ft_new_keys.specs.Placing.{counted}
use Rattle.ft_new_keys.specs.Internal.Laying.{IsUnused}
use Rattle.ft_new_keys.proofs.Laid.{AreCarefulCalls, allows_calls, careful_at}
use Rattle.ft_new_keys.proofs.PlainCalls.{place_plain}
use Rattle.ft_new_keys.proofs.Stages.{as_careful, body, body_puts, in_time, open_careful, open_odd, place_careful, AreBodyPuts}

-- the counts of a block leave its root
pub counts_root : (b : List ℕ) (count fill next : ℕ) → slice_index (counted b count fill next) 0 ≡ slice_index b 0
counts_root b count fill next =
    get_or-set_other (slice_set (slice_set b 1 count) 2 fill) 3 0 next 0 (λ e. absurd (omega (arith, e)))
    ∙ (get_or-set_other (slice_set b 1 count) 2 0 fill 0 (λ e. absurd (omega (arith, e)))
    ∙ get_or-set_other b 1 0 count 0 (λ e. absurd (omega (arith, e))))

-- the version of the entry may be made odd
pub pair_opens : (k : Shape) (o : ℕ) (table : Table) (v : View) (slot place : ℕ) → v.shape ≡ k → WritesEntries k o table v → has_committed o v.log ≡ false → IsUnused (slots (class_of (table_id table))) (rows (kind_in k.starts o) (class_of (table_id table))) (held_unboxed o v).table slot place
    → IsCareful v o (table_id table) (entry_offset (slots (class_of (table_id table))) place 0) (entry_field (slots (class_of (table_id table))) (held_unboxed o v).table place 0 + 1)
pair_opens k o table v slot place shape writes early un =
    let c = class_of (table_id table) in
    let kind = kind_in k.starts o in
    let at = entry_offset (slots c) place 0 in
    let x = entry_field (slots c) (held_unboxed o v).table place 0 + 1 in
    let keyed : IsKeyed (kind_in v.shape.starts o) = subst (λ (z : Shape). IsKeyed (kind_in z.starts o)) (sym shape) writes.keyed in
    careful_at k o (table_id table) at x (held_unboxed o v).table (known_state o v).content v shape early refl refl
    (as_careful kind writes.keyed c (held_unboxed o v).table (known_state o v).content at x (open_careful (slots c) (rows kind c) (held_unboxed o v).table slot place un _))
    (in_time kind c at x (open_odd (slots c) (rows kind c) (held_unboxed o v).table slot place un))
    (entry_refs v o (table_id table) place 0 x keyed (omega arith) (λ e. absurd (omega (arith, e))) (λ e. absurd (omega (arith, e))) writes.few)

-- then its value is one that may be put, and stores nothing
module _ (k : Shape) (o : ℕ) (table : Table) (w : View) (slot place word : ℕ) (x : ContainerWords) (shape : w.shape ≡ k) (keyed : IsKeyed (kind_in k.starts o)) (words : held_unboxed o w ≡ raised_at (table_id table) place x) (un : IsUnused (slots (class_of (table_id table))) (rows (kind_in k.starts o) (class_of (table_id table))) x.table slot place)
    (at : word ≡ entry_offset (slots (class_of (table_id table))) place 4) where
  abbrev n : ℕ
  n = slots (class_of (table_id table))

  abbrev ver : ℕ
  ver = entry_field n x.table place 0

  pub pair_open : IsOpenValue w o (table_id table) word
  pair_open =
      let kd : Kind = kind_in w.shape.starts o in
      let keyed_w : IsKeyed kd = subst (λ (z : Shape). IsKeyed (kind_in z.starts o)) (sym shape) keyed in
      let long = un.long in
      let low = un.low in
      let even = un.even in
      let now : slice_index (held_unboxed o w).table (version_at kd (class_of (table_id table)) place) ≡ ver + 1 =
      ap (slice_index (held_unboxed o w).table) (keyed_version kd keyed_w (class_of (table_id table)) place)
      ∙ (ap (λ (z : ContainerWords). entry_field n z.table place 0) words ∙ get_or-set_same x.table (entry_offset n place 0) (ver + 1) 0 (omega (arith, long, low))) in
      record {
        row = place;
        low = subst (λ (z : Shape). place < rows (kind_in z.starts o) (class_of (table_id table))) (sym shape) low;
        is = at ∙ sym (keyed_value kd keyed_w (class_of (table_id table)) place);
        odd = omega (arith, now, even);
      }

  pub pair_stores : slice_index (held_unboxed o w).table word ≢ 4
  pair_stores four =
      let none = un.stores in
      let now : slice_index (held_unboxed o w).table word ≡ entry_field n x.table place 4 =
      ap (slice_index (held_unboxed o w).table) at
      ∙ (ap (λ (z : ContainerWords). entry_field n z.table place 4) words ∙ get_or-set_other x.table (entry_offset n place 0) (entry_offset n place 4) (ver + 1) 0 (λ e. absurd (omega (arith, e)))) in
      omega (arith, none, now, four)

-- then the other words may be put
pub pair_allowed : (s : TableWords) (k : Shape) (x : ContainerWords) (slot place : ℕ) (pair : Pair) → (view s.pass.now).shape ≡ k → s.o < container_count k → IsTableIn k s.table → IsKeyed (kind_in k.starts s.o) → slots (class_of (table_id s.table)) ≡ s.mask + 1 → KnowsWords s → has_committed s.o (view s.pass.now).log ≡ false → HoldsFew (view s.pass.now)
    → entry_field (slots (class_of (table_id s.table))) (held_words s.o (view s.pass.now)).table place 4 ≢ 4 → stored_kind pair.value ≢ 4
    → held_unboxed s.o (view s.pass.now) ≡ raised_at (table_id s.table) place x → IsUnused (slots (class_of (table_id s.table))) (rows (kind_in k.starts s.o) (class_of (table_id s.table))) x.table slot place → Allows MadeAccess MayMake s (place_puts slot place (entry_words pair))
pair_allowed s k x slot place pair shape container table_in keyed size knows early few in_place plain words un =
    let c = class_of (table_id s.table) in
    let d = (known_state s.o (view s.pass.now)).content in
    allows_calls s k place shape container table_in keyed size knows early few un.low in_place (place_puts slot place (entry_words pair))
    (place_plain (slots c) slot place pair un.in_index plain)
    (subst (λ (z : ContainerWords). AreCarefulCalls (kind_in k.starts s.o) c d z.table (place_puts slot place (entry_words pair))) (sym words)
    (place_careful (kind_in k.starts s.o) keyed c d x.table slot place un pair))

-- places are few
pub few_used : (k : Shape) (o : ℕ) (table : Table) (v : View) (slot place : ℕ) (words : List ℕ) → WritesEntries k o table v → IsUnused (slots (class_of (table_id table))) (rows (kind_in k.starts o) (class_of (table_id table))) words slot place → place < 65536
few_used k o table v slot place words writes un = few_places k table (kind_in k.starts o) place writes.table_in writes.keyed un.low

-- ---- what the pass knows of values in boxes

pub boxes_keep : (v w : View) → ∥ IsReachable v ∥₁ → SameBoxes v w → KeepsValues v w
boxes_keep v w possible same = keeps_same v w (λ b held. held_is_box v (box_id b) possible held.1) same.knows

body_acts : (o t p : ℕ) (calls : List Access) → AreBodyPuts p calls → ArePuts o (map (access_act o t) calls)
body_acts o t p [] b = tt
body_acts o t p (PutEntry place word value ∷ calls) b = (refl, body_acts o t p calls b.1)
body_acts o t p (access ∷ calls) b = absurd b.0

-- the puts of a pair are puts of words of the container
pub place_acts : (o t slot place : ℕ) (pair : Pair) → ArePuts o (map (access_act o t) (place_puts slot place (entry_words pair)))
place_acts o t slot place pair = (refl, (refl, body_acts o t place (body place (entry_words pair)) (body_puts place (entry_words pair))))
