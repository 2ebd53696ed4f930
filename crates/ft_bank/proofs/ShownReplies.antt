-- What a pass's log shows is the reply of the plain containers, in every trace in which the pass knows this.
use Rattle.std.proofs.Common.{◌≡◌, ◌⊎◌, ⊎_elim, inl, inr, ℕ, pos, ◌+◌, ◌^◌, ◌<◌, Bool, true, false, List, [], ◌∷◌, ◌++◌, Option, Some, None, refl, sym, ap, ◌∙◌, subst, arith}
use Rattle.std.specs.Prelude.{is_some}
use Rattle.std.specs.Option.{unwrap_or}
use Rattle.std.proofs.Math.Bridge.{le_prop}
use Rattle.std.proofs.Math.Logic.{∥∥₁_elim}
use mathlib.Core.Option.{some}
use lib.ListN.{get_elem?}
use Rattle.ft_model.specs.declared.call.Call.{Call}
use Rattle.ft_model.specs.declared.call.Call.TheVariants as call
use Rattle.ft_model.specs.declared.call.DictCall.TheVariants as dict
use Rattle.ft_model.specs.declared.call.ListCall.TheVariants as list
use Rattle.ft_model.specs.declared.call.SetCall.TheVariants as set
use Rattle.ft_model.specs.declared.data.Key.{Key}
use Rattle.ft_model.specs.declared.data.Value.{Value}
use Rattle.ft_model.specs.declared.reply.Reply.{Reply}
use Rattle.ft_model.specs.declared.reply.Reply.TheVariants as reply
use Rattle.ft_model.specs.declared.reply.Raise.TheVariants as raise
use Rattle.ft_model.specs.declared.script.Kind.TheVariants as kind
use Rattle.ft_model.specs.Answers.{is_write}
use Rattle.ft_model.specs.Calls.{is_changing, moved_cursor}
use Rattle.ft_model.specs.Histories.{IsReplied}
use Rattle.ft_model.specs.Worlds.{serial_of}
use Rattle.ft_model.specs.TableUses.{StoredWorld, stored_newest}
use Rattle.ft_layout.specs.declared.slot.Stored.TheVariants.{Empty, Plain}
use Rattle.ft_layout.specs.Words.{IsStored}
use Rattle.ft_layout.proofs.WordLaws.{stored_is_one}
use Rattle.ft_trace.specs.declared.Act.{Act}
use Rattle.ft_trace.specs.declared.Act.TheVariants.{ReadCounter, Lock, Unlock, TakeTable, Commit, Answer, AnswerCursor}
use Rattle.ft_trace.specs.declared.Shape.{Shape}
use Rattle.ft_trace.specs.declared.View.{View}
use Rattle.ft_trace.specs.Acts.{has_lock, past}
use Rattle.ft_trace.specs.Causes.{AreOfOneCall, HasCause}
use Rattle.ft_trace.specs.ContainerStates.{ContainerState, kind_in, kinds_in, container_after, first_writes, reply_in}
use Rattle.ft_trace.specs.Addresses.{container_count}
use Rattle.ft_trace.specs.Holds.{known_state}
use Rattle.ft_trace.specs.Traces.{Event, Valid, Knows, run, history, IsReachable, Sure}
use Rattle.ft_trace.specs.LookReplies.{key_reply, item_reply, stored_at, DictReplies}
use Rattle.ft_trace.proofs.LookReplies.{dict_hits_are_replied, set_hits_are_replied, misses_are_replied, items_are_replied, past_items_are_replied}
use Rattle.ft_trace.proofs.AwaitsTold.{loaded_after}
use Rattle.ft_trace.proofs.CursorAnswers.{adds_no_cursor}
use Rattle.ft_trace.proofs.Held.{content_known}
use Rattle.ft_trace.proofs.EarlierMoments.{was}
use Rattle.ft_trace.proofs.Optimistic.{looked_at, looked_at_both}
use Rattle.ft_trace.proofs.NoWrap.{counter_room}
use Rattle.ft_trace.proofs.Rule as rule
use Rattle.ft_trace.proofs.Replying.{boxes_replied, boxing_plain, never_writes, memory_replied}
use Rattle.ft_trace.proofs.Sizes.{sized}
use Rattle.ft_trace.proofs.Spots.{stamp_then}
use Rattle.ft_bank.specs.Reads.{IsShown}
use Rattle.ft_bank.specs.Shown.{MayAsk, NeedsNoCause, AwaitsAreShown, KeyIsShown, DictHitsAreShown, ValuesAreRead, SetHitsAreShown, MissesAreShown, ItemsAreShown, ItemsAreRead, PastItemsAreShown, LooksAreShown, LooksAtBothAreShown, KeepLocks, LoadedUnderLocks, RepliesUnderLocksAreShown, CursorsUnderLocksAreShown, HeapErrorsAreShown, MemoryErrorsAreShown, OversAreShown, SerialsHaveRoom}
use Rattle.ft_bank.specs.WriteSteps.{MayHave}
use Rattle.ft_bank.proofs.Readying.{has_now}

-- ---- causes

key_caused : (o : ℕ) (key : Key) (found : Option Value) → NeedsNoCause (call.Dict o (dict.Get key)) (key_reply found)
key_caused o key (Some value) stored v n = refl
key_caused o key None stored v n = refl

item_caused : (o place : ℕ) (found : Option Value) → NeedsNoCause (call.List o (list.Get (pos place))) (item_reply found)
item_caused o place (Some value) stored v n = refl
item_caused o place None stored v n = refl

-- ---- plain replies

plain_shown : (v : View) (o n : ℕ) → MayAsk v o n → (call : Call) (said : Reply) → is_write call said ≡ false → moved_cursor call ≡ None → NeedsNoCause call said
    → Sure v (λ es. IsReplied call said (reply_in (stored_newest v.shape.starts (first_writes n (history es))) call)) → IsShown v call said n
plain_shown v o n ask call said reads none caused replied = record {
  read = reads;
  left = ask.left;
  loaded = ask.loaded;
  replied = replied;
  cause = λ es id knows. caused (stored_newest v.shape.starts (first_writes n (history es))) v n;
  no_cursor = λ es id knows. none;
}

key_writes : (o : ℕ) (key : Key) (found : Option Value) → is_write (call.Dict o (dict.Get key)) (key_reply found) ≡ false
key_writes o key (Some value) = refl
key_writes o key None = refl

item_writes : (o place : ℕ) (found : Option Value) → is_write (call.List o (list.Get (pos place))) (item_reply found) ≡ false
item_writes o place (Some value) = refl
item_writes o place None = refl

key_shown : (v : View) (o n : ℕ) → MayAsk v o n → (key : Key) (found : Option Value) → Sure v (λ es. DictReplies (stored_at v.shape es n) o key found) → KeyIsShown v o key found n
key_shown v o n ask key found replies = record {
  get = plain_shown v o n ask (call.Dict o (dict.Get key)) (key_reply found) (key_writes o key found) refl (key_caused o key found) (λ es id knows. inr (sym (replies es id knows).get));
  get_or = λ default. plain_shown v o n ask (call.Dict o (dict.GetOr key default)) (reply.Value (unwrap_or found default)) refl refl (λ stored log n. refl) (λ es id knows. inr (sym ((replies es id knows).get_or default)));
  has = plain_shown v o n ask (call.Dict o (dict.Has key)) (reply.Truth (is_some found)) refl refl (λ stored log n. refl) (λ es id knows. inr (sym (replies es id knows).has));
}

set_shown : (v : View) (o n : ℕ) → MayAsk v o n → (key : Key) (is : Bool) → Sure v (λ es. reply_in (stored_at v.shape es n) (call.Set o (set.Has key)) ≡ reply.Truth is) → IsShown v (call.Set o (set.Has key)) (reply.Truth is) n
set_shown v o n ask key is replies = plain_shown v o n ask (call.Set o (set.Has key)) (reply.Truth is) refl refl (λ stored log n. refl) (λ es id knows. inr (sym (replies es id knows)))

item_shown : (v : View) (o n : ℕ) → MayAsk v o n → (place : ℕ) (found : Option Value) → Sure v (λ es. reply_in (stored_at v.shape es n) (call.List o (list.Get (pos place))) ≡ item_reply found) → IsShown v (call.List o (list.Get (pos place))) (item_reply found) n
item_shown v o n ask place found replies = plain_shown v o n ask (call.List o (list.Get (pos place))) (item_reply found) (item_writes o place found) refl (item_caused o place found) (λ es id knows. inr (sym (replies es id knows)))

-- the words are those of one value
one_value : (kind payload : ℕ) (a b : Value) → IsStored kind payload (Plain a) → IsStored kind payload (Plain b) → a ≡ b
one_value kind payload a b f g = let same = stored_is_one kind payload (Plain a) (Plain b) f g in cc

not_empty : (kind payload : ℕ) (a : Value) → IsStored kind payload (Plain a) → IsStored kind payload Empty → ⊥
not_empty kind payload a f g = let same = stored_is_one kind payload (Plain a) Empty f g in absurd (cc)

-- ---- keys

pub dict_hits_are_shown : DictHitsAreShown
dict_hits_are_shown v o t place key n ask is fits small h = (
  plain_shown v o n ask (call.Dict o (dict.Has key)) (reply.Truth true) refl refl (λ stored log n. refl)
      (λ es id knows. inr (sym (dict_hits_are_replied v.shape es knows.0 o t place key n ask.low is fits small id v knows.1 h).0)),
  λ kind payload read value stored.
      key_shown v o n ask key (Some value)
      (λ es id knows.
      let r = (dict_hits_are_replied v.shape es knows.0 o t place key n ask.low is fits small id v knows.1 h).1 kind payload read in
      subst (λ (z : Value). DictReplies (stored_at v.shape es n) o key (Some z)) (one_value kind payload r.0 value r.1 stored) r.2),
)

pub values_are_read : ValuesAreRead
values_are_read v o t place key n p low is fits small h kind payload read =
    let r = (dict_hits_are_replied v.shape p.0 p.2.0 o t place key n low is fits small p.1 v p.2.1 h).1 kind payload read in
    (r.0, r.1)

pub set_hits_are_shown : SetHitsAreShown
set_hits_are_shown v o t place key n ask is fits small h = set_shown v o n ask key true (λ es id knows. set_hits_are_replied v.shape es knows.0 o t place key n ask.low is fits small id v knows.1 h)

pub misses_are_shown : MissesAreShown
misses_are_shown v o key n ask fits how =
    let r : Sure v (λ es. (kind_in v.shape.starts o ≡ kind.Dict → DictReplies (stored_at v.shape es n) o key None) × (kind_in v.shape.starts o ≡ kind.Set → reply_in (stored_at v.shape es n) (call.Set o (set.Has key)) ≡ reply.Truth false)) = λ es id knows. misses_are_replied v.shape es knows.0 o key n ask.low fits id v knows.1 how in
    (λ is. key_shown v o n ask key None (λ es id knows. (r es id knows).0 is), λ is. set_shown v o n ask key false (λ es id knows. (r es id knows).1 is))

-- ---- items

module _ (v : View) (o place n kind payload : ℕ) (es : List Event) where
  abbrev said : Reply
  said = reply_in (stored_at v.shape es n) (call.List o (list.Get (pos place)))

  abbrev Either : Type 0
  Either = ((value : Value) × IsStored kind payload (Plain value) × (said ≡ item_reply (Some value))) ⊎ (IsStored kind payload Empty × (said ≡ item_reply None))

  of_value : (value : Value) → IsStored kind payload (Plain value) → Either → said ≡ item_reply (Some value)
  of_value value stored (inl s) = s.2 ∙ ap (λ (z : Value). item_reply (Some z)) (one_value kind payload s.0 value s.1 stored)
  of_value value stored (inr none) = absurd (not_empty kind payload value stored none.0)

  of_none : IsStored kind payload Empty → Either → said ≡ item_reply None
  of_none none (inl s) = absurd (not_empty kind payload s.0 s.1 none)
  of_none none (inr r) = r.1

pub items_are_shown : ItemsAreShown
items_are_shown v o t place n ask is small h kind payload read =
    let r : Sure v (λ es. Either v o place n kind payload es) = λ es id knows. items_are_replied v.shape es knows.0 o t place n ask.low is small id v knows.1 h kind payload read in (
      λ value stored. item_shown v o n ask place (Some value) (λ es id knows. of_value v o place n kind payload es value stored (r es id knows)),
      λ none. item_shown v o n ask place None (λ es id knows. of_none v o place n kind payload es none (r es id knows)),
    )

pub items_are_read : ItemsAreRead
items_are_read v o t place n p low is small h kind payload read =
    ⊎_elim (λ s. inl (s.0, s.1)) (λ r. inr r.0) (items_are_replied v.shape p.0 p.2.0 o t place n low is small p.1 v p.2.1 h kind payload read)

pub past_items_are_shown : PastItemsAreShown
past_items_are_shown v o index n ask is how = item_shown v o n ask index None (λ es id knows. past_items_are_replied v.shape es knows.0 o index n ask.low is id v knows.1 how)

-- ---- whole containers

pub looks_are_shown : LooksAreShown
looks_are_shown v call o said n ask reads none caused asks looked =
    plain_shown v o n ask call said reads none caused
    (λ es id knows. subst (IsReplied call said) (sym (looked_at v.shape es knows.0 call o ask.low id v knows.1 said n looked).1) asks)

pub looks_at_both_are_shown : LooksAtBothAreShown
looks_at_both_are_shown v call o p said n ask low reads none caused asks looked =
    plain_shown v o n ask call said reads none caused
    (λ es id knows. subst (IsReplied call said) (sym (looked_at_both v.shape es knows.0 call o p ask.low low id v knows.1 said n looked).1) asks)

-- ---- under locks

-- what these leave of the locks and of the writes that the pass knows
keep_locks : (newer rest : List Act) → AreOfOneCall newer → KeepLocks newer → ((o : ℕ) → has_lock o (newer ++ rest) ≡ has_lock o rest) × (past (newer ++ rest) ≡ past rest)
keep_locks [] rest own keep = ((λ o. refl), refl)
keep_locks (a ∷ newer) rest own keep = by a own keep (keep_locks newer rest)
  where
    by : (a : Act) → AreOfOneCall (a ∷ newer) → KeepLocks (a ∷ newer) → (AreOfOneCall newer → KeepLocks newer → ((o : ℕ) → has_lock o (newer ++ rest) ≡ has_lock o rest) × (past (newer ++ rest) ≡ past rest)) → ((o : ℕ) → has_lock o (a ∷ (newer ++ rest)) ≡ has_lock o rest) × (past (a ∷ (newer ++ rest)) ≡ past rest)
    by (Lock o f s) own keep more = absurd keep
    by (Unlock o) own keep more = absurd keep
    by (TakeTable t f s) own keep more = absurd keep
    by (Commit c r f s) own keep more = absurd own
    by (Answer c r n) own keep more = absurd own
    by (AnswerCursor c r n m had left) own keep more = absurd own
    by act own keep more = more own keep

by_shape : (u : View) (k : Shape) (id : ℕ) → u.shape ≡ k → (es : List Event) → (Knows u es id → MayHave u (stored_newest u.shape.starts (history es))) → Valid k es × (get_elem? (run k es).views id ≡ some u) → MayHave u (stored_newest k.starts (history es))
by_shape u k id is es has knows = subst (λ (z : Shape). Valid z es × (get_elem? (run z es).views id ≡ some u) → MayHave u (stored_newest z.starts (history es))) is has knows

-- what the bank had at that load agrees with what the pass knows
loaded_then : (v : View) (n : ℕ) (l : LoadedUnderLocks v n) → Sure v (λ es. MayHave v (stored_newest v.shape.starts (first_writes n (history es))))
loaded_then v n l es id knows =
    let k = v.shape in
    let w = was k es knows.0 id v knows.1 l.newer (ReadCounter n) l.rest l.is in
    let then_ = (stamp_then k w.older es w.valid knows.0 (record { newer = w.newer; is = w.split }) n w.tells).1 in
    let shape : w.view.shape ≡ k = sized k w.older w.valid id w.view w.at w.live in
    let had : MayHave w.view (stored_newest k.starts (history w.older)) = by_shape w.view k id shape w.older (λ z. has_now w.view w.older id z) (w.valid, w.at) in
    let keep = keep_locks l.newer (ReadCounter n ∷ l.rest) l.own l.locks in
    let locks : (o : ℕ) → has_lock o v.log ≡ has_lock o w.view.log = λ o. ap (has_lock o) l.is ∙ (keep.0 o ∙ ap (has_lock o) (sym w.log)) in
    let pasts : past v.log ≡ past w.view.log = ap past l.is ∙ (keep.1 ∙ ap past (sym w.log)) in
    subst (λ (cs : List Call). MayHave v (stored_newest k.starts cs)) (sym then_)
    (record {
      agrees = λ p low mine. had.agrees p (subst (λ (z : Shape). p < container_count z) (sym shape) low) (sym (locks p) ∙ mine) ∙ (λ d. container_after (shape d).starts (sym pasts d) p);
      containers = had.containers ∙ ap container_count shape;
      kinds = had.kinds ∙ ap (λ (z : Shape). kinds_in z.starts) shape;
      order = had.order;
      unsplit = had.unsplit;
      words = had.words;
    })

pub cursors_under_locks_are_shown : CursorsUnderLocksAreShown
cursors_under_locks_are_shown v call reply n number cursor l moved right = record {
  moved = moved;
  left = l.left;
  loaded = record { newer = l.newer; rest = l.rest; is = l.is; own = l.own };
  moves = λ es id knows. right (stored_newest v.shape.starts (first_writes n (history es))) (loaded_then v n l es id knows);
}

-- a reply to a call that asks no cursor wherever the pass knows this
replies_shown : (v : View) (call : Call) (said : Reply) (n : ℕ) → LoadedUnderLocks v n → is_write call said ≡ false → Sure v (λ es. moved_cursor call ≡ None)
    → ((stored : StoredWorld) → MayHave v stored → IsReplied call said (reply_in stored call) × HasCause stored v call said n) → IsShown v call said n
replies_shown v call said n l reads none right =
    let r : Sure v (λ es. IsReplied call said (reply_in (stored_newest v.shape.starts (first_writes n (history es))) call) × HasCause (stored_newest v.shape.starts (first_writes n (history es))) v call said n) = λ es id knows. right (stored_newest v.shape.starts (first_writes n (history es))) (loaded_then v n l es id knows) in
    record {
      read = reads;
      left = l.left;
      loaded = record { newer = l.newer; rest = l.rest; is = l.is; own = l.own };
      replied = λ es id knows. (r es id knows).0;
      cause = λ es id knows. (r es id knows).1;
      no_cursor = none;
    }

pub replies_under_locks_are_shown : RepliesUnderLocksAreShown
replies_under_locks_are_shown v call said n l reads none right = replies_shown v call said n l reads (λ es id knows. none) right

pub awaits_are_shown : AwaitsAreShown
awaits_are_shown v thread index n newer rest left is own told = record {
  read = refl;
  left = left;
  loaded = record { newer = newer; rest = rest; is = is; own = own };
  replied = λ es id knows. refl;
  cause = λ es id knows. loaded_after v.shape es knows.0 id v knows.1 newer rest n is thread index told;
  no_cursor = λ es id knows. refl;
}

pub memory_errors_are_shown : MemoryErrorsAreShown
memory_errors_are_shown v call class n l empty right =
    replies_shown v call (reply.Raised (raise.Memory class)) n l (never_writes (is_changing call))
    (λ es id knows. adds_no_cursor call (right (stored_newest v.shape.starts (first_writes n (history es))) (loaded_then v n l es id knows)).0.adds)
    (λ stored has.
    let r = right stored has in
    (memory_replied (reply.Raised (raise.Memory class)) refl call r.0.adds (reply_in stored call), (r.0, r.1, r.2, empty)))

pub overs_are_shown : OversAreShown
overs_are_shown v call n l right =
    replies_shown v call (reply.Raised raise.Over) n l (never_writes (is_changing call))
    (λ es id knows. adds_no_cursor call (right (stored_newest v.shape.starts (first_writes n (history es))) (loaded_then v n l es id knows)).0.adds)
    (λ stored has.
    let r = right stored has in
    (memory_replied (reply.Raised raise.Over) refl call r.0.adds (reply_in stored call), r))

pub heap_errors_are_shown : HeapErrorsAreShown
heap_errors_are_shown v call n l full right =
    replies_shown v call (reply.Raised raise.Heap) n l (never_writes (is_changing call))
    (λ es id knows. boxing_plain (stored_newest v.shape.starts (first_writes n (history es))).world call (right (stored_newest v.shape.starts (first_writes n (history es))) (loaded_then v n l es id knows)).0.boxes)
    (λ stored has.
    let r = right stored has in
    (boxes_replied stored.world call r.0.boxes (reply_in stored call), (r.0, r.1, full)))

-- ---- serials

pub serials_have_room : SerialsHaveRoom
serials_have_room v o possible few mine =
    ∥∥₁_elim {P = serial_of (known_state o v).content + 2 ^ 16 < 2 ^ 63} possible le_prop
    (λ (x : IsReachable v).
    let k = v.shape in
    let es = x.0 in
    let same = ap (λ (z : ContainerState). serial_of z.content) (content_known v o mine es x.1 x.2) in
    let next = rule.next_serials_are_low k es x.2.0 o in
    let count = counter_room k es x.2.0 in
    let room : serial_of (known_state o v).content + 2 ^ 16 < 2 ^ 63 = omega (arith, same, next, count, few) in
    room)
