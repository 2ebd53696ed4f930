-- What a call that stores a value in a box comes to, once the pass has made the box or found its heap full.
use Rattle.std.proofs.Common.{◌≡◌, ◌≢◌, ℕ, ◌+◌, ◌≤◌, false, true≢false, List, length, sym, ap, ◌∙◌, inr, arith}
use Rattle.std.specs.Prelude.{nat_lt}
use Rattle.std.proofs.lemmas.Bool.{le-ltb}
use Rattle.ft_model.specs.declared.call.Call.{Call}
use Rattle.ft_model.specs.declared.data.Value.{Value}
use Rattle.ft_model.specs.declared.reply.Reply.{Reply}
use Rattle.ft_model.specs.Classes.{most_items}
use Rattle.ft_layout.specs.declared.slot.Ref.{Ref}
use Rattle.ft_layout.specs.declared.slot.Stored.TheVariants.{Plain}
use Rattle.ft_trace.specs.declared.Shape.{Shape}
use Rattle.ft_trace.specs.declared.View.{View}
use Rattle.ft_bank.specs.Whole.{OnlyBoxed, OnlyLoaded}
use Rattle.ft_bank.proofs.KnownAfterWrites.{boxed_then, loaded_boxed}
use Rattle.ft_section.specs.declared.answers.Stamp.{Stamp}
use Rattle.ft_table_calls.specs.declared.adding.Added.{Added}
use Rattle.ft_table_calls.specs.declared.adding.Added.TheVariants as added
use Rattle.ft_list.specs.BoxedCalls.{AddsBoxed, SetsBoxedAt}
use Rattle.ft_list.specs.HeldValues.{AddsHeldItem, MadeHeld, NamesBoxAtPlace}
use Rattle.ft_list.specs.ListItemWrites.{known_items, stored_item}
use Rattle.ft_list.proofs.HeldWrites.{items_on}

module _ (k : Shape) (o : ℕ) (value : Value) (called : Call) (v x u w : View) (loaded : OnlyLoaded v x) (made : OnlyBoxed x u) where
  pub both : OnlyBoxed v u
  both = boxed_then v x u (loaded_boxed v x loaded) made

  pub items : known_items o u ≡ known_items o v
  items = items_on o v u both.work

  pub few_items : (count : ℕ) → count ≡ length (known_items o v) → count + 1 ≤ most_items → nat_lt most_items (length (known_items o v) + 1) ≡ false
  few_items count is low = le-ltb most_items (length (known_items o v) + 1) (omega (arith, is, low))

  pub with_box : (place : ℕ) (b : Ref) (what : Added) → nat_lt most_items (length (known_items o v) + 1) ≡ false → AddsHeldItem k o place value b called u w what → AddsBoxed k o place value called v w what
  with_box place b (added.Made stamp) few is = (few, (u, both, (b, is)))
  with_box place b (added.NoTable class stamp) few is = (few, (u, both, (b, is)))
  with_box place b (added.Over stamp) few is = absurd (true≢false (sym is.added.2.0 ∙ (ap (λ (xs : List Value). nat_lt most_items (length xs + 1)) items ∙ few)))
  with_box place b (added.NoPlace stamp) few is = absurd is.added.2
  with_box place b (added.Moved p q) few is = (few, (u, both, (b, is)))

  -- the call has the item at this place store the value
  pub set_with_box : (place : ℕ) (b : Ref) (said : Reply) (stamp : Stamp) → MadeHeld k called said stamp u w → (stored_item (known_items o u) place ≢ Plain value → NamesBoxAtPlace o place b w) → SetsBoxedAt k o place value called said stamp v w
  set_with_box place b said stamp is names =
      inr (u, both, is, λ other. (b, names (λ equal. other (ap (λ (xs : List Value). stored_item xs place) (sym items) ∙ equal))))
