-- Reads of the words of two lists, one after the other.
use Rattle.std.proofs.Common.{◌≡◌, ℕ, ◌<◌, Bool, List, length, Option, Some, refl, sym, ap, ◌∙◌, subst, inr}
use Rattle.std.specs.Prelude.{slice_index, slice_index_or}
use Rattle.ft_model.specs.declared.call.Call.TheVariants as call
use Rattle.ft_model.specs.declared.call.ListCall.TheVariants as list
use Rattle.ft_model.specs.declared.reply.Reply.TheVariants as reply
use Rattle.ft_model.specs.Lists.{same_items}
use Rattle.ft_model.specs.declared.data.Value.{Value}
use Rattle.ft_model.specs.declared.data.Value.TheVariants.{Nothing}
use Rattle.ft_model.specs.Worlds.{kind_of, list_of}
use Rattle.ft_trace.specs.declared.Shape.{Shape}
use Rattle.ft_trace.specs.Addresses.{container_count}
use Rattle.ft_trace.specs.Holds.{known_state}
use Rattle.ft_bank.specs.declared.pass.Pass.{Pass}
use Rattle.ft_bank.specs.Passes.{view}
use Rattle.ft_search.proofs.Lengths.{IsPlain}
use Rattle.ft_list.specs.ListWrites.{MayWriteList}
use Rattle.ft_list.specs.Indexes.{IsItemAt}
use Rattle.ft_reads.specs.Reads.{Reads}
use Rattle.ft_list.specs.ListItemWrites.{known_items}
use Rattle.ft_list.specs.Pairs.{AreOfItems}
use Rattle.ft_reads.specs.Pairs.{ReadsBoth}
use Rattle.ft_search.specs.MadeCalls.{IsReplyTo}
use Rattle.ft_list.proofs.Commits.{list_is}
use Rattle.ft_list.proofs.Lists.{content_of}
use Rattle.ft_list.proofs.Indexes.{items_counted}
use Rattle.ft_list.proofs.ValueLists.{AlikeBefore}
use Rattle.ft_reads.proofs.Both.{of_first, of_second, both_map, both_then}
use Rattle.ft_list.proofs.ValueReads.{held_shows_both}

module _ (k : Shape) (o m : ℕ) where
  -- how many items each has
  pub both_counted : (count other : ℕ) (p q r : Pass) → Reads k o (λ x. count ≡ slice_index x.block 1) p q → Reads k m (λ y. other ≡ slice_index y.block 1) q r → ReadsBoth k o m (AreOfItems k (λ xs ys. (count ≡ length xs) × (other ≡ length ys))) p r
  both_counted count other p q r a b =
      both_map k o m (λ x y. (count ≡ slice_index x.block 1) × (other ≡ slice_index y.block 1)) (AreOfItems k (λ xs ys. (count ≡ length xs) × (other ≡ length ys))) p r
      (both_then k o m (λ x y. count ≡ slice_index x.block 1) (λ x y. other ≡ slice_index y.block 1) p q r (of_first k o m (λ x. count ≡ slice_index x.block 1) p q a) (of_second k o m (λ y. other ≡ slice_index y.block 1) q r b))
      (λ x y both one two is is' stands stands'. (items_counted k x count both.0 one is stands, items_counted k y other both.1 two is' stands'))

  -- the next item of each was read
  pub both_more : (holds after : List Value → List Value → Type 0) (place : ℕ) (early late : Option Value) (p q r s : Pass) → ReadsBoth k o m (AreOfItems k holds) p q → Reads k o (IsItemAt k place early) q r → Reads k m (IsItemAt k place late) r s
      → ((xs ys : List Value) → holds xs ys → (place < length xs → early ≡ Some (slice_index_or xs place Nothing)) → (place < length ys → late ≡ Some (slice_index_or ys place Nothing)) → after xs ys) → ReadsBoth k o m (AreOfItems k after) p s
  both_more holds after place early late p q r s a b d f =
      both_map k o m (λ x y. AreOfItems k holds x y × (IsItemAt k place early x × IsItemAt k place late y)) (AreOfItems k after) p s
      (both_then k o m (AreOfItems k holds) (λ x y. IsItemAt k place early x × IsItemAt k place late y) p q s a
      (both_then k o m (λ x y. IsItemAt k place early x) (λ x y. IsItemAt k place late y) q r s (of_first k o m (IsItemAt k place early) q r b) (of_second k o m (IsItemAt k place late) r s d)))
      (λ x y both one two is is' stands stands'. f (list_of one.content) (list_of two.content) (both.0 one two is is' stands stands') (both.1.0 one is stands) (both.1.1 two is' stands'))

  pub so_of_both : (holds after : List Value → List Value → Type 0) (p q : Pass) → ReadsBoth k o m (AreOfItems k holds) p q → ((xs ys : List Value) → holds xs ys → after xs ys) → ReadsBoth k o m (AreOfItems k after) p q
  so_of_both holds after p q a f = both_map k o m (AreOfItems k holds) (AreOfItems k after) p q a (λ x y h one two is is' stands stands'. f (list_of one.content) (list_of two.content) (h one two is is' stands stands'))

-- as many items, alike before this place
abbrev pub AlikeYet : ℕ → ℕ → List Value → List Value → Type 0
AlikeYet count place xs ys = (count ≡ length xs) × (count ≡ length ys) × AlikeBefore xs ys place

-- ---- by a pass with both locks

module _ (k : Shape) (o m : ℕ) (holds : List Value → List Value → Type 0) (p q : Pass) (r : ReadsBoth k o m (AreOfItems k holds) p q) (shape : (view p).shape ≡ k) (may : MayWriteList k o (view p)) (other : MayWriteList k m (view p)) where
  -- it holds of the items that the pass knows
  pub both_hold : holds (known_items o (view p)) (known_items m (view p))
  both_hold = held_shows_both k o m (AreOfItems k holds) p q r shape may.container may.locked other.container other.locked (known_state o (view p)) (known_state m (view p))
      (ap kind_of (content_of k o (view p) shape p.possible may)) (ap kind_of (content_of k m (view p) shape p.possible other)) may.stands other.stands

  pub eq_replied : (alike : Bool) → alike ≡ same_items (known_items o (view p)) (known_items m (view p)) → IsReplyTo (call.List o (list.Eq m)) (reply.Truth alike) (view p)
  eq_replied alike is stored has =
      let inside : (c : ℕ) → c < container_count k → c < container_count (view p).shape = λ c low. subst (λ (z : Shape). c < container_count z) (sym shape) low in
      let one = list_is o (list.Eq m) (reply.Truth alike) (known_items o (view p)) (known_items o (view p)) (view p) (inside o may.container) may.locked (content_of k o (view p) shape p.possible may) stored has in
      let two = list_is m (list.Eq o) (reply.Truth alike) (known_items m (view p)) (known_items m (view p)) (view p) (inside m other.container) other.locked (content_of k m (view p) shape p.possible other) stored has in
      (λ d. reply.Truth (same_items (one d) (two d))) ∙ ap reply.Truth (sym is)

pub eq_plain : (o m : ℕ) (alike : Bool) → IsPlain (call.List o (list.Eq m)) (reply.Truth alike)
eq_plain o m alike = record { reads = refl; cursor = refl; adds = refl; memory = refl; replied = λ plain is. inr is; cause = λ stored log n. refl }
