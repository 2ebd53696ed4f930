-- Loops over the items of a list, step by step, and what they show in the end.
use Rattle.std.proofs.Common.{◌≡◌, ℕ, ◌<◌, ◌≤◌, ℤ, Bool, true, List, ◌++◌, length, take, Option, Some, None, refl, sym, ap, ◌∙◌, subst, inr, arith}
use Rattle.std.specs.Prelude.{slice_index, slice_index_or, is_some, pos, negsuc, Result}
use Rattle.std.specs.Global.{Vec}
use Rattle.std.specs.declared.alloc.AllocError.{AllocError}
use Rattle.std.proofs.Math.Nat.{min-le_right}
use Rattle.std.specs.Option.{option_map_or}
use Rattle.ft_model.specs.declared.call.Call.TheVariants as call
use Rattle.ft_model.specs.declared.call.ListCall.TheVariants as list
use Rattle.ft_model.specs.declared.content.Content.{Content}
use Rattle.ft_model.specs.declared.content.Content.TheVariants as content
use Rattle.ft_model.specs.declared.reply.Raise.TheVariants as raise
use Rattle.ft_model.specs.declared.call.Call.{Call}
use Rattle.ft_model.specs.declared.reply.Reply.TheVariants as reply
use Rattle.ft_model.specs.Answers.{shows}
use Rattle.ft_model.specs.declared.data.Value.{Value}
use Rattle.ft_model.specs.declared.data.Value.TheVariants.{Nothing}
use Rattle.ft_model.specs.Lists.{index_of, count_of, clamped_in, list_slice}
use Rattle.ft_model.specs.Worlds.{kind_of, list_of, no_hands}
use Rattle.ft_trace.specs.declared.Shape.{Shape}
use Rattle.ft_trace.specs.declared.View.{View}
use Rattle.ft_trace.specs.Acts.{has_lock}
use Rattle.ft_trace.specs.Addresses.{container_count}
use Rattle.ft_trace.specs.Holds.{known_state}
use Rattle.ft_bank.specs.declared.pass.Pass.{Pass}
use Rattle.ft_bank.specs.Passes.{view}
use Rattle.ft_bank.specs.Whole.{OnlyLoaded}
use Rattle.ft_search.proofs.Lengths.{IsPlain}
use Rattle.ft_search.proofs.Running.{did_log}
use Rattle.ft_list.specs.ListWrites.{MayWriteList}
use Rattle.ft_list.specs.ListItemWrites.{known_items}
use Rattle.ft_list.specs.Indexes.{IsItemAt}
use Rattle.ft_reads.specs.Reads.{Reads}
use Rattle.ft_reads.specs.Copies.{AreCopied, HasSome, TakesMemory}
use Rattle.ft_list.specs.Scans.{IsOfItems}
use Rattle.ft_search.specs.MadeCalls.{IsReplyTo}
use Rattle.ft_list.proofs.ListMidst.{reply_of_list}
use Rattle.ft_list.proofs.Indexes.{items_counted}
use Rattle.ft_reads.proofs.Agreeing.{reads_none, reads_map, reads_then, reads_loaded}
use Rattle.ft_list.proofs.Lists.{content_of, may_loaded}
use Rattle.ft_list.proofs.ValueLists.{NoneBefore, has_first}
use Rattle.ft_list.proofs.ValueReads.{held_shows}

module _ (k : Shape) (o : ℕ) where
  -- the block was read, which says how many items there are
  pub counted : (count : ℕ) (p q : Pass) → Reads k o (λ x. count ≡ slice_index x.block 1) p q → Reads k o (IsOfItems k (λ items. count ≡ length items)) p q
  counted count p q r = reads_map k o (λ x. count ≡ slice_index x.block 1) (IsOfItems k (λ items. count ≡ length items)) p q (λ x counts. items_counted k x count counts) r

  -- one more item was read
  pub one_more : (holds then : List Value → Type 0) (place : ℕ) (found : Option Value) (p q r : Pass) → Reads k o (IsOfItems k holds) p q → Reads k o (IsItemAt k place found) q r
      → ((items : List Value) → holds items → (place < length items → found ≡ Some (slice_index_or items place Nothing)) → then items) → Reads k o (IsOfItems k then) p r
  one_more holds then place found p q r a b f =
      reads_map k o (λ x. IsOfItems k holds x × IsItemAt k place found x) (IsOfItems k then) p r
      (λ x both kept is stands. f (list_of kept.content) (both.0 kept is stands) (both.1 kept is stands))
      (reads_then k o (IsOfItems k holds) (IsItemAt k place found) p q r a b)

  -- what holds of the items is something else
  pub so_of_items : (holds then : List Value → Type 0) (p q : Pass) → Reads k o (IsOfItems k holds) p q → ((items : List Value) → holds items → then items) → Reads k o (IsOfItems k then) p q
  so_of_items holds then p q a f = reads_map k o (IsOfItems k holds) (IsOfItems k then) p q (λ x h kept is stands. f (list_of kept.content) (h kept is stands)) a

-- no item before this place is equal, of as many
abbrev pub NoneYet : Value → ℕ → ℕ → List Value → Type 0
NoneYet value count place items = (count ≡ length items) × NoneBefore items value place

-- as many are equal before this place, of as many
abbrev pub EqualYet : Value → ℕ → ℕ → ℕ → List Value → Type 0
EqualYet value count place equal items = (count ≡ length items) × (equal ≡ count_of (take place items) value)

-- ---- by a pass with the lock

module _ (k : Shape) (o : ℕ) (holds : List Value → Type 0) (p q : Pass) (r : Reads k o (IsOfItems k holds) p q) (shape : (view p).shape ≡ k) (may : MayWriteList k o (view p)) where
  -- it holds of the items that the pass knows
  pub items_hold : holds (known_items o (view p))
  items_hold = held_shows k o (IsOfItems k holds) p q r shape may.container may.locked (known_state o (view p)) (ap kind_of (content_of k o (view p) shape p.possible may)) may.stands

  pub scan_loaded : OnlyLoaded (view p) (view q)
  scan_loaded = reads_loaded k o (IsOfItems k holds) p q r

  pub scan_may : MayWriteList k o (view q)
  scan_may = may_loaded k o (view p) (view q) shape scan_loaded may

  pub scan_log : (view q).log ≡ r.0 ++ (view p).log
  scan_log = did_log r.0 p q r.2

-- the item at a place, by such a pass
pub item_held : (k : Shape) (o place : ℕ) (found : Option Value) (p q : Pass) → Reads k o (IsItemAt k place found) p q → (view p).shape ≡ k → MayWriteList k o (view p) → place < length (known_items o (view p)) → found ≡ Some (slice_index_or (known_items o (view p)) place Nothing)
item_held k o place found p q r shape may low = held_shows k o (IsItemAt k place found) p q r shape may.container may.locked (known_state o (view p)) (ap kind_of (content_of k o (view p) shape p.possible may)) may.stands low

-- ---- what calls reply that search

module _ (o : ℕ) (values : List Value) (v : View) (low : o < container_count v.shape) (mine : has_lock o v.log ≡ true) (is_list : (known_state o v).content ≡ content.List values) (value : Value) where
  pub index_replied : (found : Option ℕ) → found ≡ index_of values value → IsReplyTo (call.List o (list.Index value)) (option_map_or reply.Count found (reply.Raised raise.NoValue)) v
  index_replied found is =
      reply_of_list o (list.Index value) (option_map_or reply.Count found (reply.Raised raise.NoValue)) values v low mine is_list
      (λ stored has. by stored.world (index_of values value) ∙ ap (λ (z : Option ℕ). option_map_or reply.Count z (reply.Raised raise.NoValue)) (sym is))
    where
      by : (world : List Content) (z : Option ℕ) → (option_map_or (λ place. shows world no_hands (reply.Count place)) z (shows world no_hands (reply.Raised raise.NoValue))).reply ≡ option_map_or reply.Count z (reply.Raised raise.NoValue)
      by world None = refl
      by world (Some place) = refl

  pub count_replied : (equal : ℕ) → equal ≡ count_of values value → IsReplyTo (call.List o (list.Count value)) (reply.Count equal) v
  count_replied equal is = reply_of_list o (list.Count value) (reply.Count equal) values v low mine is_list (λ stored has. ap reply.Count (sym is))

  pub has_replied : (found : Option ℕ) → found ≡ index_of values value → IsReplyTo (call.List o (list.Has value)) (reply.Truth (is_some found)) v
  has_replied found is = reply_of_list o (list.Has value) (reply.Truth (is_some found)) values v low mine is_list (λ stored has. ap reply.Truth (has_first values value ∙ ap is_some (sym is)))

pub index_plain : (o : ℕ) (value : Value) (found : Option ℕ) → IsPlain (call.List o (list.Index value)) (option_map_or reply.Count found (reply.Raised raise.NoValue))
index_plain o value None = record { reads = refl; cursor = refl; adds = refl; memory = refl; replied = λ plain is. inr is; cause = λ stored log n. refl }
index_plain o value (Some place) = record { reads = refl; cursor = refl; adds = refl; memory = refl; replied = λ plain is. inr is; cause = λ stored log n. refl }

pub count_plain : (o : ℕ) (value : Value) (equal : ℕ) → IsPlain (call.List o (list.Count value)) (reply.Count equal)
count_plain o value equal = record { reads = refl; cursor = refl; adds = refl; memory = refl; replied = λ plain is. inr is; cause = λ stored log n. refl }

pub has_plain : (o : ℕ) (value : Value) (truth : Bool) → IsPlain (call.List o (list.Has value)) (reply.Truth truth)
has_plain o value truth = record { reads = refl; cursor = refl; adds = refl; memory = refl; replied = λ plain is. inr is; cause = λ stored log n. refl }

-- ---- copies

-- a copy of these values is one of values that are the same
pub copied_same : (xs ys : List Value) (made : Result (Vec Value) AllocError) → xs ≡ ys → AreCopied made xs → AreCopied made ys
copied_same xs ys made same copied = subst (AreCopied made) same copied

-- where there was no memory for the reply, it has a value
module _ (called : Call) (v : View) (values : List Value) (replied : IsReplyTo called (reply.List values) v) (some : 0 < length values) where
  pub takes_memory : TakesMemory called v
  takes_memory stored has = subst HasSome (sym (replied stored has)) some

-- before the first load of a call
pub nothing_read : (k : Shape) (o : ℕ) (holds : List Value → Type 0) (p : Pass) → ((items : List Value) → holds items) → Reads k o (IsOfItems k holds) p p
nothing_read k o holds p all = reads_none k o (IsOfItems k holds) p (λ x kept is stands. all (list_of kept.content))

-- how many items there are, and what is so then
pub after_count : (k : Shape) (o : ℕ) (count : ℕ) (holds then : List Value → Type 0) (p q r : Pass) → Reads k o (λ x. count ≡ slice_index x.block 1) p q → Reads k o (IsOfItems k holds) q r → ((items : List Value) → count ≡ length items → holds items → then items) → Reads k o (IsOfItems k then) p r
after_count k o count holds then p q r a b f =
    reads_map k o (λ x. IsOfItems k (λ items. count ≡ length items) x × IsOfItems k holds x) (IsOfItems k then) p r
    (λ x both kept is stands. f (list_of kept.content) (both.0 kept is stands) (both.1 kept is stands))
    (reads_then k o (IsOfItems k (λ items. count ≡ length items)) (IsOfItems k holds) p q r (counted k o count p q a) b)

pub clamped_low : (n : ℕ) (index : ℤ) → clamped_in n index ≤ n
clamped_low n (pos index) = min-le_right index n
clamped_low n (negsuc below) = omega arith

module _ (o : ℕ) (values : List Value) (v : View) (low : o < container_count v.shape) (mine : has_lock o v.log ≡ true) (is_list : (known_state o v).content ≡ content.List values) where
  pub slice_replied : (start end : ℤ) (part : List Value) → part ≡ list_slice values start end → IsReplyTo (call.List o (list.Slice start end)) (reply.List part) v
  slice_replied start end part is = reply_of_list o (list.Slice start end) (reply.List part) values v low mine is_list (λ stored has. ap reply.List (sym is))

  pub items_replied : (copy : List Value) → copy ≡ values → IsReplyTo (call.List o list.Items) (reply.List copy) v
  items_replied copy is = reply_of_list o list.Items (reply.List copy) values v low mine is_list (λ stored has. ap reply.List (sym is))

pub slice_plain : (o : ℕ) (start end : ℤ) (part : List Value) → IsPlain (call.List o (list.Slice start end)) (reply.List part)
slice_plain o start end part = record { reads = refl; cursor = refl; adds = refl; memory = refl; replied = λ plain is. inr is; cause = λ stored log n. refl }

pub items_plain : (o : ℕ) (copy : List Value) → IsPlain (call.List o list.Items) (reply.List copy)
items_plain o copy = record { reads = refl; cursor = refl; adds = refl; memory = refl; replied = λ plain is. inr is; cause = λ stored log n. refl }
