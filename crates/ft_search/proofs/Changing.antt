-- A write that changes one entry of a dict or a set: what its words have to meet before the commit and after it.
use Rattle.std.proofs.Common.{◌≡◌, ◌≢◌, ℕ, suc, ◌+◌, ◌%◌, ◌<◌, ◌≤◌, Bool, true, false, List, ◌∷◌, Option, Some, refl, sym, ap, ◌∙◌, subst, inl, arith, length-set, get_or-set_same, get_or-set_other, None, [], true≢false}
use Rattle.std.specs.Prelude.{All, IsTrue, slice_get, slice_index, slice_set}
use Rattle.std.proofs.Math.Logic.{∥∥₁_elim}
use Rattle.std.proofs.Math.Nat.{ℕ_set}
use Rattle.ft_model.specs.declared.content.Content.{Content}
use Rattle.ft_model.specs.declared.data.Key.{Key}
use Rattle.ft_model.specs.declared.script.Kind.{Kind}
use Rattle.ft_model.specs.declared.script.Kind.TheVariants as kind
use Rattle.ft_model.specs.Classes.{IsClass}
use Rattle.ft_model.specs.Worlds.{kind_of}
use Rattle.ft_layout.specs.Words.{FitsKey}
use Rattle.ft_layout.specs.Tables.{UsedEntry, IsTable, is_live}
use Rattle.ft_layout.specs.Tables as layout
use Rattle.ft_layout.specs.Containers.{class_mask, IsBlock, IsRoot}
use Rattle.ft_layout.proofs.Powers.{slots_range}
use Rattle.ft_layout.proofs.WordLaws.{same_key}
use Rattle.ft_trace.specs.declared.Shape.{Shape}
use Rattle.ft_trace.specs.declared.View.{View}
use Rattle.ft_trace.specs.Addresses.{container_count, class_of, slots}
use Rattle.ft_trace.specs.Acts.{has_lock, is_writing, has_committed}
use Rattle.ft_trace.specs.Carefuls.{HasLiveKey}
use Rattle.ft_trace.specs.Holds.{held_words, held_unboxed, known_state}
use Rattle.ft_trace.specs.Kinds.{rows, version_at, CarefulAs, ClearAs, HasVersions}
use Rattle.ft_trace.specs.OddVersions.{Shut, Timely}
use Rattle.ft_trace.specs.Traces.{IsReachable}
use Rattle.ft_trace.specs.Pictures.{ContainerWords, root_in, entry_offset, entry_field, Represents}
use Rattle.ft_trace.specs.ContainerStates.{ContainerState, kind_in}
use Rattle.ft_trace.specs.WholeWrites.{Put, to_table, with_puts, IsNoValue, MayPut, MayPuts}
use Rattle.ft_trace.proofs.Clearing.{held_shut}
use Rattle.ft_trace.proofs.DictWrites.{EntryVersionsChangeNothing}
use Rattle.ft_trace.proofs.Known.{after_header, kind_known}
use Rattle.ft_trace.proofs.Tellings.{live_tells, key_words}
use Rattle.ft_bank.specs.SameBoxes.{HoldsFew}
use Rattle.ft_bank.specs.WriteSteps.{IsCareful}
use Rattle.ft_search.specs.OneEntryWrites.{raised_at}
use Rattle.ft_search.proofs.Puts.{shut_reads}
use Rattle.ft_model.specs.TableUses.{is_split}
use Rattle.ft_trace.proofs.UnsplitTables.{known_unsplit}
use Rattle.ft_trace.proofs.LandedStarts.{has_versions}
use Rattle.ft_trace.proofs.Announcing.{fits}
use Rattle.std.proofs.Math.Bool.{Bool-set}

-- The puts before the commit may be made; then it may be made, and the version of the entry be made even again, the only one
-- that is odd. Then the words stand for what is left.
pub record Changing (texts : List ℕ) (t : ℕ) (x : ContainerWords) (before : ContainerState) (place : ℕ) (early : List Put) (left : ContainerState) : Type 0 where
  pub puts : MayPuts (kind_of before.content) t before.content false x early
  pub clear : ClearAs (kind_of before.content) texts (class_of t) (with_puts x early).table before.content left.content
  pub odd : entry_field (slots (class_of t)) (with_puts x early).table place 0 % 2 ≡ 1
  pub close : CarefulAs (kind_of before.content) (class_of t) (with_puts x early).table left.content (entry_offset (slots (class_of t)) place 0) (entry_field (slots (class_of t)) (with_puts x early).table place 0 + 1)
  pub stands : Represents texts (raised_at t place (with_puts x early)) left
  pub shut : Shut (version_at (kind_of before.content) (class_of t)) (rows (kind_of before.content) (class_of t)) (raised_at t place (with_puts x early)).table

-- ---- the kind of what a pass knows

code : Kind → ℕ
code kind.Dict = 0
code kind.List = 1
code kind.Set = 2
code (kind.Deque None) = 3
code (kind.Deque (Some bound)) = 4 + bound

same_code : (a b : Kind) → code a ≡ code b → a ≡ b
unfolding code
same_code kind.Dict kind.Dict e = refl
same_code kind.Dict kind.List e = absurd (omega (arith, e))
same_code kind.Dict kind.Set e = absurd (omega (arith, e))
same_code kind.List kind.Dict e = absurd (omega (arith, e))
same_code kind.List kind.List e = refl
same_code kind.List kind.Set e = absurd (omega (arith, e))
same_code kind.Set kind.Dict e = absurd (omega (arith, e))
same_code kind.Set kind.List e = absurd (omega (arith, e))
same_code kind.Set kind.Set e = refl
same_code (kind.Deque None) (kind.Deque None) e = refl
same_code (kind.Deque (Some bound)) (kind.Deque (Some other)) e = ap (λ (n : ℕ). kind.Deque (Some n)) (omega (arith, e))
same_code (kind.Deque None) (kind.Deque (Some other)) e = absurd (omega (arith, e))
same_code (kind.Deque (Some bound)) (kind.Deque None) e = absurd (omega (arith, e))
same_code kind.Dict (kind.Deque None) e = absurd (omega (arith, e))
same_code (kind.Deque None) kind.Dict e = absurd (omega (arith, e))
same_code kind.Dict (kind.Deque (Some bound)) e = absurd (omega (arith, e))
same_code (kind.Deque (Some bound)) kind.Dict e = absurd (omega (arith, e))
same_code kind.List (kind.Deque None) e = absurd (omega (arith, e))
same_code (kind.Deque None) kind.List e = absurd (omega (arith, e))
same_code kind.List (kind.Deque (Some bound)) e = absurd (omega (arith, e))
same_code (kind.Deque (Some bound)) kind.List e = absurd (omega (arith, e))
same_code kind.Set (kind.Deque None) e = absurd (omega (arith, e))
same_code (kind.Deque None) kind.Set e = absurd (omega (arith, e))
same_code kind.Set (kind.Deque (Some bound)) e = absurd (omega (arith, e))
same_code (kind.Deque (Some bound)) kind.Set e = absurd (omega (arith, e))

-- no container of a bank is a deque yet
versions_prop : (kind : Kind) (a b : HasVersions kind) → a ≡ b
versions_prop kind.Dict a b = refl
versions_prop kind.List a b = refl
versions_prop kind.Set a b = refl
versions_prop (kind.Deque bound) a b = absurd a

pub versions_in : (v : View) (o : ℕ) → ∥ IsReachable v ∥₁ → HasVersions (kind_in v.shape.starts o)
versions_in v o possible =
    ∥∥₁_elim {P = HasVersions (kind_in v.shape.starts o)} possible (versions_prop (kind_in v.shape.starts o)) (λ p. has_versions v.shape (fits v.shape p.0 p.2.0) o)

-- no dict of a bank is split yet: a container whose lock the pass has shares no keys
none_split : (keys : List Key) → is_split keys ≡ false → keys ≡ []
none_split [] e = refl
none_split (key ∷ keys) e = absurd (true≢false e)

pub no_keys : (v : View) (o : ℕ) → ∥ IsReachable v ∥₁ → has_lock o v.log ≡ true → (known_state o v).table.keys ≡ []
no_keys v o possible mine =
    none_split (known_state o v).table.keys
    (∥∥₁_elim {P = is_split (known_state o v).table.keys ≡ false} possible (Bool-set _ _) (λ p. ap is_split (known_unsplit v o mine p)))

pub kind_is : (k : Shape) (v : View) (o : ℕ) → v.shape ≡ k → ∥ IsReachable v ∥₁ → has_lock o v.log ≡ true → kind_of (known_state o v).content ≡ kind_in k.starts o
kind_is k v o shape possible mine =
    same_code (kind_of (known_state o v).content) (kind_in k.starts o)
    (∥∥₁_elim {P = code (kind_of (known_state o v).content) ≡ code (kind_in k.starts o)} possible (ℕ_set _ _)
    (λ p. ap code (kind_known v o mine p ∙ ap (λ (z : Shape). kind_in z.starts o) shape)))

-- ---- puts

-- a put that may be made on these words is one that readers aren't misled by
pub put_at : (k : Shape) (o t i y : ℕ) (committed : Bool) (words : ContainerWords) (c : Content) (w : View) → w.shape ≡ k → has_committed o w.log ≡ committed → held_unboxed o w ≡ words → (known_state o w).content ≡ c → HoldsFew w → MayPut (kind_in k.starts o) t c committed words (to_table i y) → IsCareful w o t i y
put_at k o t i y committed words c w shape late is content few may =
    let care : CarefulAs (kind_in w.shape.starts o) (class_of t) (held_unboxed o w).table (known_state o w).content i y = subst (λ (z : Shape × ContainerWords × Content). CarefulAs (kind_in z.0.starts o) (class_of t) z.1.table z.2 i y) (sym (λ d. (shape d, is d, content d))) may.2 in
    let timely : Timely (version_at (kind_in w.shape.starts o) (class_of t)) (rows (kind_in w.shape.starts o) (class_of t)) i y (has_committed o w.log) = subst (λ (z : Shape × Bool). Timely (version_at (kind_in z.0.starts o) (class_of t)) (rows (kind_in z.0.starts o) (class_of t)) i y z.1) (sym (λ d. (shape d, late d))) may.3 in
    record { care = care; timely = timely; references = inl (subst (λ (z : Shape). IsNoValue (kind_in z.starts o) (class_of t) i) (sym shape) may.4, few) }

-- a block that counts another number of pairs or elements
pub with_count : (b : List ℕ) (class : Option ℕ) (old new fill next : ℕ) → IsBlock b class old fill next → IsBlock (slice_set b 1 new) class new fill next
with_count b class old new fill next h =
    let size_is = h.size in
    let other : (i : ℕ) → i ≢ 1 → slice_index (slice_set b 1 new) i ≡ slice_index b i = λ i ne. get_or-set_other b 1 i new 0 ne in
    record {
      size = length-set b 1 new ∙ h.size;
      root = subst (λ (r : ℕ). IsRoot r class) (sym (other 0 (λ e. absurd (omega (arith, e))))) h.root;
      count_is = get_or-set_same b 1 new 0 (omega (arith, size_is));
      fill_is = other 2 (λ e. absurd (omega (arith, e))) ∙ h.fill_is;
      next_is = other 3 (λ e. absurd (omega (arith, e))) ∙ h.next_is;
      spare = (other 4 (λ e. absurd (omega (arith, e))) ∙ h.spare.0, other 5 (λ e. absurd (omega (arith, e))) ∙ h.spare.1);
    }

-- no version of an entry is odd before the write
pub shut_known : (k : Shape) (v : View) (o t : ℕ) → v.shape ≡ k → ∥ IsReachable v ∥₁ → o < container_count k → has_lock o v.log ≡ true → is_writing o v.log ≡ false → root_in (held_unboxed o v) ≡ suc t → Shut (version_at (kind_of (known_state o v).content) (class_of t)) (rows (kind_of (known_state o v).content) (class_of t)) (held_unboxed o v).table
shut_known k v o t shape possible low mine even names p less =
    let kind_eq : kind_of (known_state o v).content ≡ kind_in v.shape.starts o = kind_is k v o shape possible mine ∙ sym (ap (λ (z : Shape). kind_in z.starts o) shape) in
    let here : o < container_count v.shape = subst (λ (z : Shape). o < container_count z) (sym shape) low in
    let row : p < rows (kind_in v.shape.starts o) (class_of t) = subst (λ (z : Kind). p < rows z (class_of t)) kind_eq less in
    let even_now : slice_index (held_unboxed o v).table (version_at (kind_in v.shape.starts o) (class_of t) p) % 2 ≡ 0 =
    shut_reads v o t names
    (λ q fits. ∥∥₁_elim {P = slice_index (held_words o v).table (version_at (kind_in v.shape.starts o) (class_of t) q) % 2 ≡ 0} possible (ℕ_set _ _) (λ x. held_shut v o t here x mine even names q fits))
    p row in
    subst (λ (z : Kind). slice_index (held_unboxed o v).table (version_at z (class_of t) p) % 2 ≡ 0) (sym kind_eq) even_now

-- ---- the entry that changes

module _ (walk : ℕ → List ℕ) (room : ℕ) (texts : List ℕ) (c : ℕ) (is_class : IsClass c) (used : List UsedEntry) where
  -- the item whose entry is live with a key
  pub live_item : {Item : Type 0} (used_item : Item → UsedEntry) (ws : List ℕ) → IsTable walk room texts (class_mask c) used (0 ∷ 0 ∷ ws) → (p : ℕ) (key : Key) → p < room → HasLiveKey (slots c) ws p key → FitsKey key
      → ((entry : UsedEntry) → slice_get used p ≡ Some entry → IsTrue (is_live entry) → (item : Item) × (entry ≡ used_item item)) → (item : Item) × (slice_get used p ≡ Some (used_item item)) × ((used_item item).key ≡ key)
  live_item used_item ws table p key low live fits lives =
      let tells = live_tells walk room texts c is_class used ws table p key low live in
      let l = lives tells.entry tells.at tells.live in
      let w = key_words tells.entry.key key tells.mine in
      (l.0, tells.at ∙ ap (λ (z : UsedEntry). Some z) l.1, ap (λ (z : UsedEntry). z.key) (sym l.1) ∙ same_key tells.entry.key key tells.fits fits w.0 w.1)

  -- a version that is put into an entry changes nothing
  pub table_version_put : EntryVersionsChangeNothing → ((hash : ℕ) → All (λ slot. slot ≤ class_mask c) (walk hash)) → (l : List ℕ) (p y : ℕ) → IsTable walk room texts (class_mask c) used (0 ∷ 0 ∷ l) → IsTable walk room texts (class_mask c) used (0 ∷ 0 ∷ slice_set l (entry_offset (slots c) p 0) y)
  unfolding slots
  table_version_put versions within l p y table = let r = (slots_range c is_class).0 in subst (λ (z : List ℕ). IsTable walk room texts (class_mask c) used z) (after_header l (layout.entry_at (class_mask c) p 0) (entry_offset (slots c) p 0) y (omega (arith, r))) (versions walk room texts (class_mask c) used (0 ∷ 0 ∷ l) p y within table)
