-- What loads, puts and whole writes leave of what a pass knows, for all kinds of containers.
use Rattle.std.specs.Prelude.{◌≡◌, ◌≢◌, ℕ, suc, ◌<◌, ◌≤◌, ◌==◌, true, false, cond, ◌∷◌}
use Rattle.ft_model.specs.declared.call.Call.{Call}
use Rattle.ft_model.specs.declared.reply.Reply.{Reply}
use Rattle.ft_model.specs.TableUses.{StoredWorld, after_stored}
use Rattle.ft_trace.specs.declared.Act.TheVariants.{PutRoot}
use Rattle.ft_trace.specs.declared.Entry.{Entry}
use Rattle.ft_trace.specs.declared.View.{View}
use Rattle.ft_trace.specs.Addresses.{container_count}
use Rattle.ft_trace.specs.Acts.{has_lock, is_writing, has_committed, has_emptied, stage, stage_next, announces, used, debt, debt_next, flight, owes, mem, past, seen_writes, presence_of}
use Rattle.ft_trace.specs.Floors.{at_floor}
use Rattle.ft_trace.specs.Owners.{SameOwners}
use Rattle.ft_trace.specs.Hands.{cursor_in}
use Rattle.ft_trace.specs.BegunSections.{begun}
use Rattle.ft_trace.specs.ContainerStates.{state_at, changes}
use Rattle.ft_trace.specs.Pictures.{root_in, Represents}
use Rattle.ft_trace.specs.Holds.{held_words, held_unboxed, known_state}
use Rattle.ft_bank.specs.Locks.{KnowsSame}
use Rattle.ft_bank.specs.Logs.{HasGrown, StaysOnline}
use Rattle.ft_bank.specs.SameBoxes.{LosesReferences, MovesReferences, SameBoxes, SameMade, StaysSettled, times_raised}
use Rattle.ft_bank.specs.TableActs.{table_acts}
use Rattle.ft_bank.specs.WriteSteps.{MayHave}

-- It is the same pass: it has the same locks, has made the same versions odd, announces the same, is in the midst of
-- the same taking or giving, has begun the same sections, has the same cursors and the same entries of passes that it
-- took in, has the floor as before and since the same moment, has taken no lock and found none with another pass, has
-- seen no fewer writes, its log has only grown, and it has stayed online. (profile)
pub record SamePass (v w : View) : Type 0 where
  pub number : w.number ≡ v.number
  pub next : w.next ≡ v.next
  pub parts : w.parts ≡ v.parts
  pub shape : w.shape ≡ v.shape
  pub locks : (p : ℕ) → has_lock p w.log ≡ has_lock p v.log
  pub writes : (p : ℕ) → is_writing p w.log ≡ is_writing p v.log
  pub announced : announces w.log ≡ announces v.log
  pub flight : flight w.log ≡ flight v.log
  pub begun : begun w.log ≡ begun v.log
  pub cursors : (n : ℕ) → cursor_in n w.log ≡ cursor_in n v.log
  pub tokens : w.tokens ≡ v.tokens
  pub learnt : w.learnt ≡ v.learnt
  pub lists : w.lists ≡ v.lists
  pub floor : w.has_floor ≡ v.has_floor
  pub since : at_floor w.log ≡ at_floor v.log
  pub owners : SameOwners v w
  pub seen : seen_writes v ≤ seen_writes w
  pub grown : HasGrown v w
  pub stays_online : StaysOnline v w

-- The same pass has made no entry and no call, has done nothing to tables, and has the same ones in hand; each write that
-- it has begun is as far as it was; and it was online as before. (profile)
pub record SameWork (v w : View) : Type 0 where
  pub pass : SamePass v w
  pub left : w.left ≡ v.left
  pub entries : w.entries ≡ v.entries
  pub committed : (p : ℕ) → has_committed p w.log ≡ has_committed p v.log
  pub emptied : (p : ℕ) → has_emptied p w.log ≡ has_emptied p v.log
  pub hands : (t : ℕ) → stage t w.log ≡ stage t v.log
  pub used : used w.log ≡ used v.log
  pub debt : debt w.log ≡ debt v.log
  pub owes : owes w.log ≡ owes v.log
  pub past : past w.log ≡ past v.log
  pub presence : presence_of w.log ≡ presence_of v.log
  pub tables : table_acts w.log ≡ table_acts v.log

-- The pass has loaded words of the bank and taken steps with boxes, and done nothing else: it knows the same words, and
-- they read the same through boxes in each container whose lock it has. It may have raised counts. (profile)
pub record OnlyBoxed (v w : View) : Type 0 where
  pub work : SameWork v w
  pub words : mem v.shape w.log ≡ mem v.shape v.log
  pub raised : (b : ℕ) → times_raised b v.log ≤ times_raised b w.log
  pub unboxed : (p : ℕ) → p < container_count v.shape → has_lock p v.log ≡ true → held_unboxed p w ≡ held_unboxed p v

-- The pass has loaded words of the bank, and done nothing else. (profile)
pub record OnlyLoaded (v w : View) : Type 0 where
  pub work : SameWork v w
  pub words : mem v.shape w.log ≡ mem v.shape v.log
  pub unboxed : (p : ℕ) → p < container_count v.shape → has_lock p v.log ≡ true → held_unboxed p w ≡ held_unboxed p v
  pub boxes : SameBoxes v w

-- The pass has loaded words of the bank and put words of the container o, and done nothing else: of each other
-- container whose lock it has and that it doesn't write it knows the same words, which read the same. It holds the
-- references that the words of o have no longer. (profile)
pub record OnlyPut (o : ℕ) (v w : View) : Type 0 where
  pub work : SameWork v w
  pub made : SameMade v w
  pub moves : MovesReferences o v w
  pub others : (p : ℕ) → p < container_count v.shape → p ≢ o → has_lock p v.log ≡ true → is_writing p v.log ≡ false
      → (held_words p w ≡ held_words p v) × (held_unboxed p w ≡ held_unboxed p v)

-- The pass has loaded words, put words of the container o and taken steps with boxes, and done nothing else: of each
-- other container whose lock it has and that it doesn't write it knows the same words, which read the same. It may have
-- dropped references that the words of o have no longer, and have raised counts. (profile)
pub record OnlyWritten (o : ℕ) (v w : View) : Type 0 where
  pub work : SameWork v w
  pub made : StaysSettled v w
  pub loses : LosesReferences o v w
  pub others : (p : ℕ) → p < container_count v.shape → p ≢ o → has_lock p v.log ≡ true → is_writing p v.log ≡ false
      → (held_words p w ≡ held_words p v) × (held_unboxed p w ≡ held_unboxed p v)

-- the entry of a write
abbrev pub write_entry : Call → Reply → ℕ → Entry
write_entry called said number = record { call = called; reply = said; stamp = number; wrote = true }

-- The table in the pass's hand once a container that had one root has another: the one that the root named is taken out
-- of it, and the one that it names now is in no hand. (profile)
abbrev pub hand_after : ℕ → ℕ → ℕ → ℕ → ℕ → ℕ
hand_after o old root t stands = cond (old == root) stands (stage_next t (PutRoot o root old) stands)

-- How many tables it has to retire then. (profile)
abbrev pub debt_after : ℕ → ℕ → ℕ → ℕ → ℕ
debt_after o old root n = cond (old == root) n (debt_next (PutRoot o root old) n)

-- The pass, which has made the version of a container odd and put its words, has made the call as its write there, and
-- the version even again: the second half of a whole write. The write's number is at least all writes that the pass had
-- seen, and the pass has then seen the write. It took, gave back and retired no table. (profile)
pub record EndsWrite (called : Call) (said : Reply) (number : ℕ) (v w : View) : Type 0 where
  pub same_number : w.number ≡ v.number
  pub next : w.next ≡ v.next
  pub parts : w.parts ≡ v.parts
  pub shape : w.shape ≡ v.shape
  pub locks : (p : ℕ) → has_lock p w.log ≡ has_lock p v.log
  pub even : is_writing (changes called) w.log ≡ false
  pub writes : (p : ℕ) → p ≢ changes called → is_writing p w.log ≡ is_writing p v.log
  pub announced : announces w.log ≡ announces v.log
  pub flight : flight w.log ≡ flight v.log
  pub begun : begun w.log ≡ begun v.log
  pub cursors : (n : ℕ) → cursor_in n w.log ≡ cursor_in n v.log
  pub tokens : w.tokens ≡ v.tokens
  pub learnt : w.learnt ≡ v.learnt
  pub lists : w.lists ≡ v.lists
  pub floor : w.has_floor ≡ v.has_floor
  pub since : at_floor w.log ≡ at_floor v.log
  pub owners : SameOwners v w
  pub seen : seen_writes v ≤ number
  pub shows : number < seen_writes w
  pub grown : HasGrown v w
  pub stays_online : StaysOnline v w
  pub left : v.left ≡ suc w.left
  pub entries : w.entries ≡ write_entry called said number ∷ v.entries
  pub hands : (t : ℕ) → stage t w.log ≡ stage t v.log
  pub debt : debt w.log ≡ debt v.log
  pub used : used w.log ≡ false
  pub owes : owes w.log ≡ 0
  pub tables : table_acts w.log ≡ table_acts v.log
  pub made : StaysSettled v w
  pub raised : (b : ℕ) → times_raised b w.log ≡ times_raised b v.log
  pub moves : MovesReferences (changes called) v w
  pub root : root_in (held_words (changes called) w) ≡ root_in (held_words (changes called) v)
  pub others : (p : ℕ) → p < container_count v.shape → p ≢ changes called → has_lock p v.log ≡ true
      → is_writing p v.log ≡ false
      → KnowsSame p v w
  pub found : StoredWorld
  pub has : MayHave v found
  pub content : known_state (changes called) w ≡ state_at (after_stored found called) (changes called)
  pub stands : Represents v.shape.texts (held_unboxed (changes called) w) (known_state (changes called) w)

-- The pass made this call as one whole write, with this reply, and the write has this number: at least all writes that
-- the pass had seen, and it has then seen the write. It has one entry more, and a call less left; it took, gave back and
-- retired no table. It knows the same of each other container whose lock it has and that it doesn't write. Of the
-- container that the call changes it knows what the call makes of what the bank had, and the words that it knows stand
-- for that, with the class and the fill of its table. (profile)
pub record Wrote (called : Call) (said : Reply) (number : ℕ) (v w : View) : Type 0 where
  pub pass : SamePass v w
  pub seen : seen_writes v ≤ number
  pub shows : number < seen_writes w
  pub left : v.left ≡ suc w.left
  pub entries : w.entries ≡ write_entry called said number ∷ v.entries
  pub hands : (t : ℕ) → stage t w.log
      ≡ hand_after (changes called) (root_in (held_words (changes called) v))
      (root_in (held_words (changes called) w)) t
      (stage t v.log)
  pub debt : debt w.log
      ≡ debt_after (changes called) (root_in (held_words (changes called) v))
      (root_in (held_words (changes called) w)) (debt v.log)
  pub used : used w.log ≡ false
  pub owes : owes w.log ≡ 0
  pub tables : table_acts w.log ≡ table_acts v.log
  pub made : StaysSettled v w
  pub loses : LosesReferences (changes called) v w
  pub others : (p : ℕ) → p < container_count v.shape → p ≢ changes called → has_lock p v.log ≡ true
      → is_writing p v.log ≡ false
      → KnowsSame p v w
  pub found : StoredWorld
  pub has : MayHave v found
  pub content : known_state (changes called) w ≡ state_at (after_stored found called) (changes called)
  pub stands : Represents v.shape.texts (held_unboxed (changes called) w) (known_state (changes called) w)
