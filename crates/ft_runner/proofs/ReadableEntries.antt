-- Each entry of a legal history of a script that was read is one that a line of a transcript can have.
use Rattle.std.proofs.Common.{◌≡◌, ◌≢◌, ◌⊎◌, ◌∙◌, ℕ, ℤ, ◌+◌, ◌<◌, ◌≤◌, ◌^◌, Bool, true, false, List, map, length, get_or, take, Option, Some, None, refl, sym, ap, subst, inl, inr, arith}
use Rattle.std.specs.Prelude.{◌==◌, All, IfSome, slice_get}
use Rattle.std.specs.List.{list_any}
use Rattle.std.specs.Option.{option_map_or}
use Rattle.std.proofs.lemmas.Bool.{cases_lt, false≢true, true≢false}
use Rattle.std.proofs.lemmas.List.{length-map}
use Rattle.std.proofs.lemmas.List.Elements.{All-filter, All-take}
use Rattle.std.proofs.lemmas.List.Folds.{Any-from_list_any}
use Rattle.std.proofs.lemmas.Option.{get_or_from_slice_get, slice_get-get_or, slice_get_cases, slice_get_within}
use Rattle.ft_model.specs.declared.call.Call.{Call}
use Rattle.ft_model.specs.declared.call.Call.TheVariants as call
use Rattle.ft_model.specs.declared.call.DictCall.{DictCall}
use Rattle.ft_model.specs.declared.call.DictCall.TheVariants as dict
use Rattle.ft_model.specs.declared.call.ListCall.{ListCall}
use Rattle.ft_model.specs.declared.call.ListCall.TheVariants as list
use Rattle.ft_model.specs.declared.call.SetCall.{SetCall}
use Rattle.ft_model.specs.declared.call.SetCall.TheVariants as set
use Rattle.ft_model.specs.declared.call.DequeCall.{DequeCall}
use Rattle.ft_model.specs.declared.call.DequeCall.TheVariants as deque
use Rattle.ft_model.specs.declared.content.Content.{Content}
use Rattle.ft_model.specs.declared.cursor.Cursor.{Cursor}
use Rattle.ft_model.specs.declared.data.Key.{Key}
use Rattle.ft_model.specs.declared.data.Key.TheVariants as key
use Rattle.ft_model.specs.declared.data.Value.{Value}
use Rattle.ft_model.specs.declared.data.Value.TheVariants as value
use Rattle.ft_model.specs.declared.entry.Entry.{Entry}
use Rattle.ft_model.specs.declared.reply.Raise.{Raise}
use Rattle.ft_model.specs.declared.reply.Raise.TheVariants as raise
use Rattle.ft_model.specs.declared.reply.Reply.{Reply}
use Rattle.ft_model.specs.declared.reply.Reply.TheVariants as reply
use Rattle.ft_model.specs.declared.script.Start.{Start}
use Rattle.ft_model.specs.declared.script.ScriptParts.{ScriptParts}
use Rattle.ft_model.specs.declared.script.Thread.{Thread}
use Rattle.ft_model.specs.Answers.{answer, is_memory, shows}
use Rattle.ft_model.specs.TableUses.{supply_of, IsEarnedReply, Supply}
use Rattle.ft_model.specs.Landed.{is_landed_call}
use Rattle.ft_model.specs.Worlds.{kind_of, list_at, start_hands, start_world, starts_of}
use Rattle.ft_model.specs.Histories.{calls_of, cursors_of, entries_of, has_call_on, hands_at, names, needs_at, writes, world_at, IsAnswered, IsLegal, IsReplied}
use Rattle.ft_model.specs.Judging.{IsNext}
use Rattle.ft_model.specs.Keys.{as_value}
use Rattle.ft_model.specs.Lists.{index_of}
use Rattle.ft_model.specs.Parts.{IsReplyOf}
use Rattle.ft_model.specs.Scripts.{AreStringsOf, IsCallOf, IsKeyOf, IsScript, IsValueOf}
use Rattle.ft_history.proofs.FewEntries.{few_of_script}
use Rattle.ft_history.proofs.GoesAfterLemmas.{few_writes}
use Rattle.ft_history.proofs.Judged.{few_made}
use Rattle.ft_history.proofs.ScriptLemmas.{call_of_thread, calls_of-at, is_thread, no_calls}
use Rattle.ft_history.proofs.Unbroken.{next_of_legal}
use Rattle.ft_script.specs.Awaits.{MayAwait, has_awaits}
use Rattle.ft_script.proofs.AwaitedCalls.{script_awaits}
use Rattle.ft_script.specs.Transcripts.{counts, counts_dict, counts_list, counts_set, counts_deque, IsReadable, IsReadableReply, IsWideCall, IsWideKey, IsWideReply, IsWideValue}
use Rattle.ft_turns.specs.Internal.Counting.{counted_in}
use Rattle.ft_turns.specs.ShortReplies.{HasShortReply, IsShortReply}
use Rattle.ft_turns.proofs.AnswerFacts.{AreOver, IsPlainAnswer, landed_reply, plain_answer}
use Rattle.ft_turns.proofs.AnswerForms.{is_uncommon}
use Rattle.ft_turns.proofs.CallParts.{is_counting, is_counting_dict, is_counting_list, is_counting_set, is_counting_deque, IsCallBy, IsDictCallBy, IsListCallBy, IsSetCallBy, IsDequeCallBy}
use Rattle.ft_turns.proofs.ContentFacts.{GoTogether, IsReplyBy}
use Rattle.ft_turns.proofs.Going.{asked_of, same_over}
use Rattle.ft_runner.specs.Findings.{stored}
use Rattle.ft_runner.proofs.LandedHands.{all_keep, landed_cursors, over_start, KeepsOver}
use Rattle.ft_runner.proofs.TableHistories.{counted_low, short_end}
use Rattle.ft_runner.proofs.WorldLemmas.{changes_where_marked, served_at, IsServed}

-- ---- keys and values

-- a key and a value name a string of this many, or are integers of 64 bits
abbrev pub KeyFits : ℕ → Key → Type 0
KeyFits n key = IsKeyOf n key × IsWideKey key

abbrev pub ValueFits : ℕ → Value → Type 0
ValueFits n value = IsValueOf n value × IsWideValue value

key_fits : (n : ℕ) (k : Key) → KeyFits n k → ValueFits n (as_value k)
key_fits n (key.Int i) h = h
key_fits n (key.Text symbol) h = h

pub fit_together : (n : ℕ) → GoTogether (KeyFits n) (ValueFits n)
fit_together n = record { nothing = (tt, tt); key_value = key_fits n }

-- those of a call of the script are, where each integer of it is of 64 bits
dict_fits : (n place : ℕ) (called : DictCall) → AreStringsOf n (call.Dict place called) → IsWideCall (call.Dict place called) → IsDictCallBy (KeyFits n) (ValueFits n) called
dict_fits n place (dict.Get k) s w = (s, w.1.0)
dict_fits n place (dict.GetOr k v) s w = ((s.0, w.1.0), (s.1, w.1.1.0))
dict_fits n place (dict.Set k v) s w = ((s.0, w.1.0), (s.1, w.1.1.0))
dict_fits n place (dict.Del k) s w = (s, w.1.0)
dict_fits n place (dict.Pop k) s w = (s, w.1.0)
dict_fits n place (dict.PopOr k v) s w = ((s.0, w.1.0), (s.1, w.1.1.0))
dict_fits n place (dict.SetDefault k v) s w = ((s.0, w.1.0), (s.1, w.1.1.0))
dict_fits n place (dict.Has k) s w = (s, w.1.0)
dict_fits n place (dict.ItemsHas k v) s w = ((s.0, w.1.0), (s.1, w.1.1.0))
dict_fits n place other s w = tt

list_fits : (n place : ℕ) (called : ListCall) → AreStringsOf n (call.List place called) → IsWideCall (call.List place called) → IsListCallBy (KeyFits n) (ValueFits n) called
list_fits n place (list.Append v) s w = (s, w.1.0)
list_fits n place (list.Insert i v) s w = (s, w.1.1.0)
list_fits n place (list.Set i v) s w = (s, w.1.1.0)
list_fits n place (list.Remove v) s w = (s, w.1.0)
list_fits n place (list.Index v) s w = (s, w.1.0)
list_fits n place (list.Count v) s w = (s, w.1.0)
list_fits n place (list.Has v) s w = (s, w.1.0)
list_fits n place other s w = tt

set_fits : (n place : ℕ) (called : SetCall) → AreStringsOf n (call.Set place called) → IsWideCall (call.Set place called) → IsSetCallBy (KeyFits n) (ValueFits n) called
set_fits n place (set.Add k) s w = (s, w.1.0)
set_fits n place (set.Discard k) s w = (s, w.1.0)
set_fits n place (set.Remove k) s w = (s, w.1.0)
set_fits n place (set.Has k) s w = (s, w.1.0)
set_fits n place other s w = tt

deque_fits : (n place : ℕ) (called : DequeCall) → AreStringsOf n (call.Deque place called) → IsWideCall (call.Deque place called) → IsDequeCallBy (KeyFits n) (ValueFits n) called
deque_fits n place (deque.Append v) s w = (s, w.1.0)
deque_fits n place (deque.AppendLeft v) s w = (s, w.1.0)
deque_fits n place (deque.Has v) s w = (s, w.1.0)
deque_fits n place other s w = tt

pub call_fits : (n : ℕ) (called : Call) → AreStringsOf n called → IsWideCall called → IsCallBy (KeyFits n) (ValueFits n) called
call_fits n (call.Dict place dict_call) s w = dict_fits n place dict_call s w
call_fits n (call.List place list_call) s w = list_fits n place list_call s w
call_fits n (call.Set place set_call) s w = set_fits n place set_call s w
call_fits n (call.Deque place deque_call) s w = deque_fits n place deque_call s w
call_fits n other s w = tt

-- ---- calls that count

counts_dict_is : (called : DictCall) → is_counting_dict called ≡ counts_dict called
counts_dict_is dict.Len = refl
counts_dict_is other = refl

counts_list_is : (called : ListCall) → is_counting_list called ≡ counts_list called
counts_list_is list.Len = refl
counts_list_is other = refl

counts_set_is : (called : SetCall) → is_counting_set called ≡ counts_set called
counts_set_is set.Len = refl
counts_set_is other = refl

counts_deque_is : (called : DequeCall) → is_counting_deque called ≡ counts_deque called
counts_deque_is deque.Len = refl
counts_deque_is other = refl

counts_is : (called : Call) → is_counting called ≡ counts called
counts_is (call.Dict place dict_call) = counts_dict_is dict_call
counts_is (call.List place list_call) = counts_list_is list_call
counts_is (call.Set place set_call) = counts_set_is set_call
counts_is (call.Deque place deque_call) = counts_deque_is deque_call
counts_is other = refl

-- no integer as a value
abbrev IsNoInteger : Reply → Type 0
IsNoInteger (reply.Value (value.Int n)) = ⊥
IsNoInteger other = Unit {0}

-- a call that counts has no value in its reply
counted_dict : (world : List Content) (hands : List (Option Cursor)) (place : ℕ) (called : DictCall) → counts_dict called ≡ true → IsNoInteger (answer world hands (call.Dict place called)).reply
counted_dict world hands place dict.Len is = tt
counted_dict world hands place other is = absurd (false≢true is)

counted_list : (world : List Content) (hands : List (Option Cursor)) (place : ℕ) (called : ListCall) → counts_list called ≡ true → IsNoInteger (answer world hands (call.List place called)).reply
counted_list world hands place list.Len is = tt
counted_list world hands place (list.Count v) is = tt
counted_list world hands place (list.Index v) is =
    let items = list_at world place in
    elim (index_of items v) as (λ o. IsNoInteger (option_map_or (λ found. shows world hands (reply.Count found)) o (shows world hands (reply.Raised raise.NoValue))).reply) [ None ↦ tt | Some at ↦ tt ]
counted_list world hands place other is = absurd (false≢true is)

counted_set : (world : List Content) (hands : List (Option Cursor)) (place : ℕ) (called : SetCall) → counts_set called ≡ true → IsNoInteger (answer world hands (call.Set place called)).reply
counted_set world hands place set.Len is = tt
counted_set world hands place other is = absurd (false≢true is)

counted_deque : (world : List Content) (hands : List (Option Cursor)) (place : ℕ) (called : DequeCall) → counts_deque called ≡ true → IsNoInteger (answer world hands (call.Deque place called)).reply
counted_deque world hands place deque.Len is = tt
counted_deque world hands place other is = absurd (false≢true is)

counted_reply : (world : List Content) (hands : List (Option Cursor)) (called : Call) → counts called ≡ true → IsNoInteger (answer world hands called).reply
counted_reply world hands (call.Dict place dict_call) is = counted_dict world hands place dict_call is
counted_reply world hands (call.List place list_call) is = counted_list world hands place list_call is
counted_reply world hands (call.Set place set_call) is = counted_set world hands place set_call is
counted_reply world hands (call.Deque place deque_call) is = counted_deque world hands place deque_call is
counted_reply world hands other is = absurd (false≢true is)

-- ---- replies

-- a reply that a line can have after a call that counts or doesn't
record ReplyFits (n : ℕ) (counted : Bool) (said : Reply) : Type 0 where
  of_script : IsReplyOf n said
  wide : IsWideReply said
  readable : IsReadableReply counted said

unraised : (n : ℕ) (counted : Bool) (raised : Raise) → is_uncommon (reply.Raised raised) ≡ false → ReplyFits n counted (reply.Raised raised)
unraised n counted raise.Moved h = absurd (true≢false h)
unraised n counted (raise.Memory class) h = absurd (true≢false h)
unraised n counted other h = record { of_script = tt; wide = tt; readable = tt }

-- a MemoryError that has its cause can be read
lacking : (n : ℕ) (counted : Bool) (starts : List Start) (supply : Supply) (calls : List Call) (mine : List Entry) (called : Call) (said : Reply) → IsEarnedReply starts supply calls mine called said → is_memory said ≡ true → ReplyFits n counted said
lacking n counted starts supply calls mine called (reply.Raised (raise.Memory class)) earned h = record { of_script = tt; wide = tt; readable = (earned.2.is_class.least, earned.2.is_class.greatest) }
lacking n counted starts supply calls mine called (reply.Raised raise.Over) earned h = record { of_script = tt; wide = tt; readable = tt }
lacking n counted starts supply calls mine called (reply.Raised raise.Heap) earned h = record { of_script = tt; wide = tt; readable = tt }
lacking n counted starts supply calls mine called said earned h = absurd (false≢true h)

uncounted : (counted : Bool) (i : ℤ) → (counted ≡ true → IsNoInteger (reply.Value (value.Int i))) → counted ≡ false
uncounted true i none = absurd (none refl)
uncounted false i none = refl

value_reply : (n : ℕ) (counted : Bool) (v : Value) → ValueFits n v → (counted ≡ true → IsNoInteger (reply.Value v)) → ReplyFits n counted (reply.Value v)
value_reply n counted value.Nothing h none = record { of_script = tt; wide = tt; readable = tt }
value_reply n counted (value.Int i) h none = record { of_script = h.0; wide = h.1; readable = λ count is. uncounted counted i none }
value_reply n counted (value.Text symbol) h none = record { of_script = h.0; wide = h.1; readable = tt }

-- a count that a call gives that counts
abbrev Counts : Bool → ℕ → Type 0
Counts counted count = (counted ≡ true) × (count < 2 ^ 63)

reply_fits : (n : ℕ) (counted : Bool) (said : Reply) → IsReplyBy (KeyFits n) (ValueFits n) (Counts counted) said → (counted ≡ true → IsNoInteger said) → is_uncommon said ≡ false → ReplyFits n counted said
reply_fits n counted reply.Done h none common = record { of_script = tt; wide = tt; readable = tt }
reply_fits n counted (reply.Value v) h none common = value_reply n counted v h none
reply_fits n counted (reply.Pair k v) h none common = record { of_script = (h.0.0, h.1.0); wide = (h.0.1, h.1.1); readable = tt }
reply_fits n counted (reply.Truth b) h none common = record { of_script = tt; wide = tt; readable = tt }
reply_fits n counted (reply.Count count) h none common = record { of_script = tt; wide = tt; readable = h }
reply_fits n counted (reply.Dict pairs) h none common = record { of_script = λ i d low. ((h i d low).0.0, (h i d low).1.0); wide = λ i d low. ((h i d low).0.1, (h i d low).1.1); readable = tt }
reply_fits n counted (reply.List items) h none common = record { of_script = λ i d low. (h i d low).0; wide = λ i d low. (h i d low).1; readable = tt }
reply_fits n counted (reply.Set elements) h none common = record { of_script = λ i d low. (h i d low).0; wide = λ i d low. (h i d low).1; readable = tt }
reply_fits n counted (reply.World world) h none common = absurd (true≢false common)
reply_fits n counted reply.Stop h none common = record { of_script = tt; wide = tt; readable = tt }
reply_fits n counted reply.Entered h none common = record { of_script = tt; wide = tt; readable = tt }
reply_fits n counted reply.Kept h none common = record { of_script = tt; wide = tt; readable = tt }
reply_fits n counted (reply.Suspended count) h none common = absurd h
reply_fits n counted (reply.Raised raised) h none common = unraised n counted raised common

ended_fits : (n : ℕ) (said : Reply) → (said ≡ reply.Kept) ⊎ ((count : ℕ) × (said ≡ reply.Suspended count)) → IsShortReply said → ReplyFits n false said
ended_fits n said (inl kept) short = subst (ReplyFits n false) (sym kept) (record { of_script = tt; wide = tt; readable = tt })
ended_fits n said (inr suspended) short =
    let low : suspended.0 < 2 ^ 32 = subst IsShortReply suspended.1 short in
    subst (ReplyFits n false) (sym suspended.1) (record { of_script = tt; wide = low; readable = tt })

-- what is said is what the plain container says, or that there is no memory
plain_is : (n : ℕ) (counted : Bool) (said plain : Reply) → (is_memory said ≡ true) ⊎ (said ≡ plain) → (is_memory said ≡ true → ReplyFits n counted said) → (said ≡ plain → is_memory said ≡ false → ReplyFits n counted said) → ReplyFits n counted said
plain_is n counted said plain (inl memory) lacks fits = lacks memory
plain_is n counted said plain (inr is) lacks fits =
    elim (is_memory said) as (λ b. is_memory said ≡ b → ReplyFits n counted said) [ true ↦ λ memory. lacks memory | false ↦ λ memory. fits is memory ] refl

replied_fits : (n : ℕ) (called : Call) (said plain : Reply) → IsReplied called said plain → (called ≡ call.End → IsShortReply said) → (is_memory said ≡ true → ReplyFits n (counts called) said) → (said ≡ plain → is_memory said ≡ false → ReplyFits n (counts called) said) → ReplyFits n (counts called) said
replied_fits n (call.Begin first second) said plain replied short lacks fits = subst (ReplyFits n false) (sym replied) (record { of_script = tt; wide = tt; readable = tt })
replied_fits n call.End said plain replied short lacks fits = ended_fits n said replied (short refl)
replied_fits n call.Quiesce said plain replied short lacks fits = subst (ReplyFits n false) (sym replied) (record { of_script = tt; wide = tt; readable = tt })
replied_fits n (call.Dict place dict_call) said plain replied short lacks fits = plain_is n _ said plain replied lacks fits
replied_fits n (call.List place list_call) said plain replied short lacks fits = plain_is n _ said plain replied lacks fits
replied_fits n (call.Set place set_call) said plain replied short lacks fits = plain_is n _ said plain replied lacks fits
replied_fits n (call.Deque place deque_call) said plain replied short lacks fits = plain_is n _ said plain replied lacks fits
replied_fits n call.Dump said plain replied short lacks fits = plain_is n _ said plain replied lacks fits
replied_fits n (call.Await other index) said plain replied short lacks fits = subst (ReplyFits n false) (sym replied) (record { of_script = tt; wide = tt; readable = tt })
replied_fits n (call.Next cursor) said plain replied short lacks fits = plain_is n _ said plain replied lacks fits

-- ---- entries

-- what holds of a value that there is
some_then : {X : Type 0} (P Q : X → Type 0) (o : Option X) → IfSome o P → ((x : X) → P x → Q x) → IfSome o Q
some_then P Q None h then = tt
some_then P Q (Some x) h then = then x h

module _ (script : ScriptParts) (rule : IsScript script) where
  -- a thread that has a call is one of the script
  low_by_call : (thread place : ℕ) (called : Call) → slice_get (calls_of script thread) place ≡ Some called → thread < length script.threads
  low_by_call thread place called at =
      elim (cases_lt thread (length script.threads)) [
        | inl low ↦ low
        | inr past ↦ absurd (no_calls script thread place called past at)
      ]

  -- a call of the script is one that a bank can make
  landed_call : (thread place : ℕ) (called : Call) → slice_get (calls_of script thread) place ≡ Some called → is_landed_call called ≡ true
  landed_call thread place called at =
      elim (slice_get_cases script.threads thread).1 [
        | inl found ↦
            let calls : List Call = found.0.calls in
            let here : slice_get calls place ≡ Some called = ap (λ (cs : List Call). slice_get cs place) (sym (calls_of-at script thread found.0 found.2)) ∙ at in
            subst (λ (c : Call). is_landed_call c ≡ true) (get_or_from_slice_get calls place called called here) ((is_thread script rule thread found.0 found.2).landed place called (slice_get_within calls place called here))
        | inr past ↦ absurd (no_calls script thread place called past.0 at)
      ]

  low_by_mark : (thread : ℕ) (needs : List ℕ) → list_any (has_call_on script thread) needs ≡ true → thread < length script.threads
  low_by_mark thread needs any =
      let one = Any-from_list_any (has_call_on script thread) needs any in
      let named = Any-from_list_any (names one.1) (calls_of script thread) one.4 in
      low_by_call thread named.0 named.1 (slice_get-get_or (calls_of script thread) named.0 named.1 named.2 ∙ ap (λ (c : Call). Some c) named.3)

  module _ (wide : All (λ (thread : Thread). All IsWideCall thread.calls) script.threads) where
    wide_call : (thread place : ℕ) (called : Call) → slice_get (calls_of script thread) place ≡ Some called → IsWideCall called
    wide_call thread place called at =
        elim (slice_get_cases script.threads thread).1 [
          | inl found ↦
              let calls : List Call = found.0.calls in
              let here : slice_get calls place ≡ Some called = ap (λ (cs : List Call). slice_get cs place) (sym (calls_of-at script thread found.0 found.2)) ∙ at in
              let all : All IsWideCall calls = subst (λ (t : Thread). All IsWideCall t.calls) found.3 (wide thread found.0 found.1) in
              subst IsWideCall (get_or_from_slice_get calls place called called here) (all place called (slice_get_within calls place called here))
          | inr past ↦ absurd (no_calls script thread place called past.0 at)
        ]

    module _ (entries : List Entry) (legal : IsLegal stored script entries) where
      -- a call of the script, of 64 bits
      record IsOwn (entry : Entry) : Type 0 where
        thread : entry.thread < length script.threads
        call : IsCallOf script (cursors_of script entry.thread) entry.call
        fits : IsCallBy (KeyFits (length script.strings)) (ValueFits (length script.strings)) entry.call
        wide_of : IsWideCall entry.call
        landed : is_landed_call entry.call ≡ true
        awaited : MayAwait (has_awaits script.threads) (length script.threads) entry.call

      own_call : (place : ℕ) (entry : Entry) → slice_get entries place ≡ Some entry → IsOwn entry
      own_call place entry at =
          let next : IsNext script entries place entry = next_of_legal stored script entries legal place entry at in
          let made = length (entries_of entry.thread (take place entries)) in
          let low = low_by_call entry.thread made entry.call next.call in
          let call : IsCallOf script (cursors_of script entry.thread) entry.call = elim (slice_get_cases script.threads entry.thread).1 [
            | inl there ↦ call_of_thread script rule entry.thread there.0 there.2 made entry.call next.call
            | inr past ↦ absurd (no_calls script entry.thread made entry.call past.0 next.call)
          ] in
          let wide_of = wide_call entry.thread made entry.call next.call in
          let awaited : MayAwait (has_awaits script.threads) (length script.threads) entry.call = elim (slice_get_cases script.threads entry.thread).1 [
            | inl there ↦ script_awaits script entry.thread made there.0 entry.call rule there.2 (ap (λ (calls : List Call). slice_get calls made) (sym (calls_of-at script entry.thread there.0 there.2)) ∙ next.call)
            | inr past ↦ absurd (no_calls script entry.thread made entry.call past.0 next.call)
          ] in
          record { thread = low; call = call; fits = call_fits (length script.strings) entry.call call.strings wide_of; wide_of = wide_of; landed = landed_call entry.thread made entry.call next.call; awaited = awaited }

      own_at : (place : ℕ) (d : Entry) → place < length entries → IsOwn (get_or entries place d)
      own_at place d low = own_call place (get_or entries place d) (slice_get-get_or entries place d low)

      -- the contents at each place are the script's, with integers of 64 bits
      pub served : (n : ℕ) → IsServed script (KeyFits (length script.strings)) (ValueFits (length script.strings)) (fit_together (length script.strings)) (world_at script entries n)
      served =
          let strings = length script.strings in
          served_at script (KeyFits strings) (ValueFits strings) (fit_together strings) entries (λ place d low wrote.
          let own = own_at place d low in
          let entry = get_or entries place d in
          record {
            cursors = cursors_of script entry.thread;
            names = own.call.names;
            said = own.fits;
            changes = changes_where_marked script entries legal place d low wrote;
          })

      few : length entries ≤ 500000
      few = few_of_script script entries rule (λ thread. let same : length (map (λ (e : Entry). e.call) (entries_of thread entries)) ≡ length (calls_of script thread) = ap length (legal.chronicle.whole.calls thread) in omega (arith, length-map (entries_of thread entries) (λ (e : Entry). e.call)))

      -- what a call counts there is within what a reply can count
      counting_at : (place : ℕ) (entry : Entry) → slice_get entries place ≡ Some entry → is_counting entry.call ≡ true → (count : ℕ) → count ≤ counted_in (world_at script entries entry.stamp) entry.call → Counts (counts entry.call) count
      counting_at place entry at is count le = (sym (counts_is entry.call) ∙ is, let most = counted_low script entries rule legal place entry at in omega (arith, le, most))

      plain_at : (place : ℕ) (entry : Entry) → slice_get entries place ≡ Some entry → (hands : List (Option Cursor)) → IsPlainAnswer (KeyFits (length script.strings)) (ValueFits (length script.strings)) (Counts (counts entry.call)) (world_at script entries entry.stamp) hands entry.call
      plain_at place entry at hands =
          let strings = length script.strings in
          let own = own_call place entry at in
          let there = served entry.stamp in
          plain_answer (KeyFits strings) (ValueFits strings) (Counts (counts entry.call)) (fit_together strings) (world_at script entries entry.stamp) there.contents hands entry.call own.fits (asked_of script.containers (world_at script entries entry.stamp) there.kinds (cursors_of script entry.thread) entry.call own.call.names) (counting_at place entry at)

      -- the world at a place has the kinds of the first one
      same_kinds : (n : ℕ) → map kind_of (world_at script entries n) ≡ map kind_of (start_world script.containers)
      same_kinds n = (served n).kinds ∙ sym (served 0).kinds

      keeps_over : All (KeepsOver (starts_of script.containers) (writes entries) (start_world script.containers)) entries
      keeps_over place d low = λ hands over.
          let entry = get_or entries place d in
          let world = world_at script entries entry.stamp in
          let left = (answer world hands entry.call).hands in
          let at : slice_get entries place ≡ Some entry = slice_get-get_or entries place d low in
          same_over world (start_world script.containers) left (sym (same_kinds entry.stamp)) ((plain_at place entry at hands).fits (same_over (start_world script.containers) world hands (same_kinds entry.stamp) over))

      hands_over : (thread place n : ℕ) → AreOver (world_at script entries n) (hands_at script entries thread place)
      hands_over thread place n =
          let start = start_world script.containers in
          let Keeps = KeepsOver (starts_of script.containers) (writes entries) start in
          same_over start (world_at script entries n) (hands_at script entries thread place) (same_kinds n)
          (all_keep (starts_of script.containers) (writes entries) start (entries_of thread (take place entries)) (start_hands (cursors_of script thread))
          (All-filter (λ (e : Entry). e.thread == thread) Keeps (take place entries) (All-take Keeps place entries keeps_over))
          (over_start start (cursors_of script thread)))

      reply_at : (place : ℕ) (entry : Entry) → slice_get entries place ≡ Some entry → ReplyFits (length script.strings) (counts entry.call) entry.reply
      reply_at place entry at =
          let strings = length script.strings in
          let answered : IsAnswered script entries place entry = legal.chronicle.answered place entry at in
          let own = own_call place entry at in
          let world = world_at script entries entry.stamp in
          let hands = hands_at script entries entry.thread place in
          let there = served entry.stamp in
          let plain = plain_at place entry at hands in
          let plain_reply = (answer world hands entry.call).reply in
          let common : is_uncommon plain_reply ≡ false =
          landed_reply (KeyFits strings) (ValueFits strings) (Counts (counts entry.call)) (fit_together strings) world there.contents hands entry.call own.fits (asked_of script.containers world there.kinds (cursors_of script entry.thread) entry.call own.call.names) (counting_at place entry at) own.landed
          (landed_cursors script rule world there.kinds hands (hands_over entry.thread place entry.stamp)) in
          replied_fits strings entry.call entry.reply plain_reply answered.reply (λ ends. short_end script entries rule legal few place entry at ends)
          (lacking strings (counts entry.call) (starts_of script.containers) (supply_of script) (writes (take place entries)) (entries_of entry.thread (take place entries)) entry.call entry.reply (legal.chronicle.earned place entry at))
          (λ is memory.
          reply_fits strings (counts entry.call) entry.reply
          (subst (IsReplyBy (KeyFits strings) (ValueFits strings) (Counts (counts entry.call))) (sym is) plain.reply)
          (λ counted. subst IsNoInteger (sym is) (counted_reply world hands entry.call counted))
          (ap is_uncommon is ∙ common))

      pub readable_at : (place : ℕ) (entry : Entry) → slice_get entries place ≡ Some entry → IsReadable script entry
      readable_at place entry at =
          let next : IsNext script entries place entry = next_of_legal stored script entries legal place entry at in
          let own = own_call place entry at in
          let fits = reply_at place entry at in
          let within : place < length entries = slice_get_within entries place entry at in
          let made : length (entries_of entry.thread (take place entries)) ≤ place = few_made entries place entry.thread (omega arith) in
          let wrote : length (writes (take place entries)) ≤ place = few_writes entries place (omega arith) in
          let index : entry.index ≡ length (entries_of entry.thread (take place entries)) + 1 = next.index in
          let stamp : entry.stamp ≡ length (writes (take place entries)) = (legal.chronicle.answered place entry at).stamp in
          let most : length entries ≤ 500000 = few in
          record {
            of_script = record {
              thread = own.thread;
              call = own.call;
              reply = fits.of_script;
              mark = some_then (λ thread. (thread ≢ entry.thread) × (list_any (has_call_on script thread) (needs_at script entries place entry) ≡ true)) (λ thread. thread < length script.threads) entry.waited (legal.chronicle.marked place entry at) (λ thread marked. low_by_mark thread (needs_at script entries place entry) marked.1);
            };
            first_index = omega arith;
            last_index = omega arith;
            stamp = omega arith;
            landed = own.landed;
            awaited = own.awaited;
            call = own.wide_of;
            reply = fits.readable;
            said = fits.wide;
          }

-- all entries are
pub readable_entries : (script : ScriptParts) → IsScript script → All (λ (thread : Thread). All IsWideCall thread.calls) script.threads → (entries : List Entry) → IsLegal stored script entries → All (IsReadable script) entries
readable_entries script rule wide entries legal place d low =
    readable_at script rule wide entries legal place (get_or entries place d) (slice_get-get_or entries place d low)

-- no number of a reply that a line can have is greater than what it counts can be
short_reply : (counted : Bool) (said : Reply) → IsReadableReply counted said → IsWideReply said → IsShortReply said
short_reply counted (reply.Count count) readable wide = readable.1
short_reply counted (reply.Suspended count) readable wide = wide
short_reply counted other readable wide = tt

pub short_entries : (script : ScriptParts) (entries : List Entry) → All (IsReadable script) entries → All HasShortReply entries
short_entries script entries readable place d low =
    let here = readable place d low in
    short_reply (counts (get_or entries place d).call) (get_or entries place d).reply here.reply here.said
