-- From what a look-up of an item shows to what a call may answer.
use Rattle.std.proofs.Common.{◌≡◌, ℕ, ◌<◌, List, ◌++◌, Option, Some, None, ap, ◌∙◌, inl}
use Rattle.std.specs.Prelude.{pos, ◌⊎◌}
use Rattle.ft_model.specs.declared.call.Call.TheVariants as call
use Rattle.ft_model.specs.declared.call.ListCall.TheVariants as list
use Rattle.ft_model.specs.declared.data.Value.{Value}
use Rattle.ft_model.specs.declared.script.Kind.TheVariants as kind
use Rattle.ft_layout.specs.declared.slot.Stored.TheVariants.{Empty, Plain}
use Rattle.ft_layout.specs.Words.{IsStored}
use Rattle.ft_trace.specs.declared.Act.{Act}
use Rattle.ft_trace.specs.declared.Shape.{Shape}
use Rattle.ft_trace.specs.declared.View.{View}
use Rattle.ft_trace.specs.Addresses.{container_count}
use Rattle.ft_trace.specs.LookReplies.{item_reply}
use Rattle.ft_bank.specs.LastLoads.{IsLastLoad}
use Rattle.ft_trace.specs.Traces.{IsReachable}
use Rattle.ft_trace.specs.ContainerStates.{kind_in}
use Rattle.ft_bank.specs.Reads.{IsShown}
use Rattle.ft_bank.specs.Shown.{MayAsk}
use Rattle.ft_bank.proofs.ShownReplies.{items_are_shown, items_are_read, past_items_are_shown}
use Rattle.ft_search.specs.LookSteps.{AreLookSteps, OnlyLooked}
use Rattle.ft_search.proofs.Asking.{may_ask_on}
use Rattle.ft_list.specs.ItemLooks.{ShowsItem, ShowsPast, StopsItemLook, IsItemContended}

module _ (v w : View) (k : Shape) (o index n : ℕ) (part : List Act) (looked : OnlyLooked v w) (looks : AreLookSteps part) (own : w.log ≡ part ++ v.log) (counted : IsLastLoad n part) (same : w.shape ≡ k) (low : o < container_count k) (left : 0 < v.left) (is : kind_in k.starts o ≡ kind.List) where
  may_ask : MayAsk w o n
  may_ask = may_ask_on v w k o n part looked looks own counted same low left

  here : kind_in w.shape.starts o ≡ kind.List
  here = ap (λ (z : Shape). kind_in z.starts o) same ∙ is

  pub past_shown : ShowsPast o index n w.log → IsShown w (call.List o (list.Get (pos index))) (item_reply None) n
  past_shown shows = past_items_are_shown w o index n may_ask here shows

  module _ (kind payload : ℕ) (shows : ShowsItem o index kind payload n w.log) where
    pub item_here : (value : Value) → IsStored kind payload (Plain value) → IsShown w (call.List o (list.Get (pos index))) (item_reply (Some value)) n
    item_here value stored = (items_are_shown w o shows.t index n may_ask here shows.low shows.hit kind payload (inl shows.read)).0 value stored

    pub item_none : IsStored kind payload Empty → IsShown w (call.List o (list.Get (pos index))) (item_reply None) n
    item_none stored = (items_are_shown w o shows.t index n may_ask here shows.low shows.hit kind payload (inl shows.read)).1 stored

    pub found_shown : (result : Option (Option Value)) → ((value : Value) → result ≡ Some (Some value) → IsStored kind payload (Plain value)) → (result ≡ Some None → IsStored kind payload Empty) → (found : Option Value) → result ≡ Some found → IsShown w (call.List o (list.Get (pos index))) (item_reply found) n
    found_shown result plain none (Some value) is = item_here value (plain value is)
    found_shown result plain none None is = item_none (none is)

    -- the words that were read are those of a value, or of nothing
    pub item_either : IsReachable w → ((value : Value) × IsStored kind payload (Plain value)) ⊎ IsStored kind payload Empty
    item_either possible = items_are_read w o shows.t index n possible may_ask.low here shows.low shows.hit kind payload (inl shows.read)

pub contended_after : (v w : View) (o index a b : ℕ) (part : List Act) → OnlyLooked v w → AreLookSteps part → w.log ≡ part ++ v.log → StopsItemLook o index a b part → IsItemContended o index a b v w
contended_after v w o index a b part looked looks own stops = record { looked = looked; part = part; looks = looks; own = own; stops = stops }
