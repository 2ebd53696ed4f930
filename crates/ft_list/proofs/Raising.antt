-- That a call under the lock may raise what the plain list raises, and what a call is answered then.
use Rattle.std.proofs.Common.{◌≤◌, ◌≡◌, ◌⊎◌, ℕ, ◌<◌, ℤ, Bool, true, false, true≢false, List, [], ◌∷◌, length, Option, None, refl, sym, ap, ◌∙◌, subst, inl, inr, ⊎_elim}
use Rattle.std.specs.Prelude.{◌&&◌, not, slice_set, slice_index_or, negsuc}
use Rattle.std.specs.Option.{option_map_or, unwrap_or}
use Rattle.std.specs.List.{remove}
use Rattle.ft_model.specs.declared.call.Call.{Call}
use Rattle.ft_model.specs.declared.call.Call.TheVariants as call
use Rattle.ft_model.specs.declared.call.ListCall.{ListCall}
use Rattle.ft_model.specs.declared.call.ListCall.TheVariants as list
use Rattle.ft_model.specs.declared.content.Content.TheVariants as content
use Rattle.ft_model.specs.declared.data.Value.{Value}
use Rattle.ft_model.specs.declared.data.Value.TheVariants as value
use Rattle.ft_model.specs.declared.reply.Raise.TheVariants as raise
use Rattle.ft_model.specs.declared.reply.Reply.{Reply}
use Rattle.ft_model.specs.declared.reply.Reply.TheVariants as reply
use Rattle.ft_model.specs.Answers.{Answer as Given, answer_list, puts, shows, is_raised}
use Rattle.ft_model.specs.Calls.{is_changing_list, cursor_of_list}
use Rattle.ft_model.specs.Lists.{index_in, index_of}
use Rattle.ft_model.specs.TableUses.{StoredWorld}
use Rattle.ft_model.specs.Worlds.{no_hands}
use Rattle.ft_trace.specs.declared.Act.TheVariants.{ReadCounter, Answer}
use Rattle.ft_trace.specs.declared.View.{View}
use Rattle.ft_trace.specs.Acts.{has_lock, view_after, shown}
use Rattle.ft_trace.specs.Traces.{IsReachable}
use Rattle.ft_trace.specs.Addresses.{container_count}
use Rattle.ft_trace.specs.Causes.{HasCause}
use Rattle.ft_trace.specs.Holds.{known_state}
use Rattle.ft_bank.specs.Answered.{Answered}
use Rattle.ft_bank.specs.Reads.{IsShown}
use Rattle.ft_bank.proofs.ShownReplies.{replies_under_locks_are_shown}
use Rattle.ft_bank.proofs.Seen.{answered_seen}
use Rattle.ft_bank.proofs.KnownAfterWrites.{loaded_by}
use Rattle.ft_list.specs.ListWrites.{Raises}
use Rattle.ft_list.proofs.Commits.{list_is}

pub and_false : (b : Bool) → (b && false) ≡ false
and_false true = refl
and_false false = refl

pub raised : (said : Reply) → (said ≡ reply.Raised raise.NoIndex) ⊎ (said ≡ reply.Raised raise.NoValue) → is_raised said ≡ true
raised said (inl e) = ap is_raised e
raised said (inr e) = ap is_raised e

caused : (stored : StoredWorld) (w : View) (o : ℕ) (lc : ListCall) (said : Reply) (n : ℕ) (values : List Value) → Raises o lc said values → HasCause stored w (call.List o lc) said n
caused stored w o lc said n values r = ⊎_elim
    (λ (e : said ≡ reply.Raised raise.NoIndex). subst (λ (z : Reply). HasCause stored w (call.List o lc) z n) (sym e) (r.caps stored.world))
    (λ (e : said ≡ reply.Raised raise.NoValue). subst (λ (z : Reply). HasCause stored w (call.List o lc) z n) (sym e) (r.caps stored.world)) r.raises

-- an `iter` raises nothing, and no reversed one
asks_none : (lc : ListCall) (o : ℕ) (said : Reply) (values : List Value) → Raises o lc said values → cursor_of_list lc ≡ None
asks_none (list.Iter m) o said values r =
    let done : reply.Done ≡ said = ap (λ (z : Given). z.reply) (r.answered []) in
    absurd (true≢false (sym (raised said r.raises) ∙ ap is_raised (sym done)))
asks_none (list.Reversed m) o said values r =
    let done : reply.Done ≡ said = ap (λ (z : Given). z.reply) (r.answered []) in
    absurd (true≢false (sym (raised said r.raises) ∙ ap is_raised (sym done)))
asks_none lc o said values r = refl

-- after a load of the counter the exception may be the reply
pub raise_shown : (v w : View) (o : ℕ) (lc : ListCall) (said : Reply) (values : List Value) (n : ℕ) → Raises o lc said values → w ≡ view_after (ReadCounter n) v → 0 < v.left → o < container_count v.shape → has_lock o v.log ≡ true → (known_state o v).content ≡ content.List values → IsShown w (call.List o lc) said n
raise_shown v w o lc said values n r is left low mine is_list =
    subst (λ (z : View). IsShown z (call.List o lc) said n) (sym is)
    (replies_under_locks_are_shown (view_after (ReadCounter n) v) (call.List o lc) said n
    (record { left = left; newer = []; rest = v.log; is = refl; own = tt; locks = tt })
    (ap (λ (b : Bool). is_changing_list lc && not b) (raised said r.raises) ∙ and_false (is_changing_list lc))
    (asks_none lc o said values r)
    (λ stored has. (
      inr (sym (ap (λ (l : List Value). (answer_list stored.world no_hands o l lc).reply) (list_is o lc said values values (view_after (ReadCounter n) v) low mine is_list stored has) ∙ ap (λ (z : Given). z.reply) (r.answered stored.world))),
      caused stored (view_after (ReadCounter n) v) o lc said n values r,
    )))

pub raise_answered : (v w z : View) (called : Call) (said : Reply) (n : ℕ) → w ≡ view_after (ReadCounter n) v → z ≡ view_after (Answer called said n) w → v.learnt ≤ shown v.log → ∥ IsReachable z ∥₁ → Answered called said n v z
raise_answered v w z called said n is done settled possible = record {
  before = w;
  loaded = loaded_by (ReadCounter n) v w tt is;
  part = ReadCounter n ∷ [];
  own = ap (λ (u : View). u.log) is;
  counted = record { newer = []; rest = []; is = refl; none = refl };
  answered = done;
  seen = answered_seen v w z called said (ReadCounter n ∷ []) n (ap (λ (u : View). u.log) is) (record { newer = []; rest = []; is = refl; none = refl }) done settled possible;
}

-- l[i] = v, del l[i], l.pop(i) and l.remove(v), where there is no such item
pub set_raises : (o : ℕ) (index : ℤ) (value : Value) (values : List Value) → index_in (length values) index ≡ None → Raises o (list.Set index value) (reply.Raised raise.NoIndex) values
set_raises o index value values none = record {
  raises = inl refl;
  caps = λ world. refl;
  answered = λ world. ap (λ (z : Option ℕ). option_map_or (λ (i : ℕ). puts world no_hands o (content.List (slice_set values i value)) reply.Done) z (shows world no_hands (reply.Raised raise.NoIndex))) none;
}

pub del_raises : (o : ℕ) (index : ℤ) (values : List Value) → index_in (length values) index ≡ None → Raises o (list.Del index) (reply.Raised raise.NoIndex) values
del_raises o index values none = record {
  raises = inl refl;
  caps = λ world. refl;
  answered = λ world. ap (λ (z : Option ℕ). option_map_or (λ (i : ℕ). puts world no_hands o (content.List (remove values i)) reply.Done) z (shows world no_hands (reply.Raised raise.NoIndex))) none;
}

pub pop_raises : (o : ℕ) (index : Option ℤ) (values : List Value) → index_in (length values) (unwrap_or index (negsuc 0)) ≡ None → Raises o (list.Pop index) (reply.Raised raise.NoIndex) values
pop_raises o index values none = record {
  raises = inl refl;
  caps = λ world. refl;
  answered = λ world. ap (λ (z : Option ℕ). option_map_or (λ (i : ℕ). puts world no_hands o (content.List (remove values i)) (reply.Value (slice_index_or values i value.Nothing))) z (shows world no_hands (reply.Raised raise.NoIndex))) none;
}

pub remove_raises : (o : ℕ) (value : Value) (values : List Value) → index_of values value ≡ None → Raises o (list.Remove value) (reply.Raised raise.NoValue) values
remove_raises o value values none = record {
  raises = inr refl;
  caps = λ world. refl;
  answered = λ world. ap (λ (z : Option ℕ). option_map_or (λ (i : ℕ). puts world no_hands o (content.List (remove values i)) reply.Done) z (shows world no_hands (reply.Raised raise.NoValue))) none;
}
