-- What steps leave of what a pass has to do with boxes, and of what the words that it knows read through them.
use Rattle.std.proofs.Common.{◌≡◌, ◌≢◌, ◌⊎◌, ℕ, ◌+◌, ◌<◌, ◌≤◌, eqb, Bool, true, false, cond, List, ◌∷◌, refl, sym, ap, ◌∙◌, subst, inr, arith, ⊎_elim, le_refl}
use Rattle.ft_model.specs.declared.call.Call.{Call}
use Rattle.ft_trace.specs.declared.Act.{Act}
use Rattle.ft_trace.specs.declared.Act.TheVariants.{PutBlock, ReadFreePlaces, TakePlace, PutBox, PublishBox, ReadBox, RaiseLocal, DropLocal, ClearLocal, MergeCounts, RaiseShared, RaiseKept, DropShared, GivePlace}
use Rattle.ft_trace.specs.declared.Shape.{Shape}
use Rattle.ft_trace.specs.declared.View.{View}
use Rattle.ft_trace.specs.Addresses.{box_word, container_count, IsBoxName}
use Rattle.ft_trace.specs.Acts.{has_lock, has_lock_next, mem, mem_next, place, word_after, view_after, seen_writes}
use Rattle.ft_trace.specs.Boxes.{named_in_container, made_state, made_state_next, local_count, local_count_next, taken_out, taken_out_next, place_to_give, place_to_give_next, place_use, place_use_next, references_held, references_held_next, times_kept, knows_box_word}
use Rattle.ft_trace.specs.ContainerStates.{container_after}
use Rattle.ft_trace.specs.Holds.{held_unboxed}
use Rattle.ft_trace.specs.Pictures.{picture}
use Rattle.ft_trace.specs.Traces.{Event, did, run, word, writes_of, history}
use Rattle.ft_trace.proofs.BoxKnown.{sure_keeps, sure_after, sure_stays, box_known}
use Rattle.ft_trace.proofs.Contents.{Of, still_of}
use Rattle.ft_trace.proofs.Held.{read_known}
use Rattle.ft_trace.proofs.NamedBoxes.{IsPut, unnamed_in, named_known}
use Rattle.ft_trace.proofs.OneWord.{stays, loaded}
use Rattle.ft_trace.proofs.Sums.{sum_same}
use Rattle.ft_trace.proofs.Unboxed.{read_stays}
use Rattle.ft_bank.specs.Rules.{Acted}
use Rattle.ft_bank.specs.SameBoxes.{KnowsBoxes, SameBoxes, SameMade, times_raised, times_raised_next}
use Rattle.ft_bank.specs.Whole.{SameWork, OnlyBoxed, OnlyLoaded}
use Rattle.ft_bank.proofs.Allowed.{acted_knows}

-- ---- what is read

-- where the words of a container stay, so does what they read, as a pass with its lock knows it
pub unboxed_stays : (v : View) (a : Act) (o : ℕ) → o < container_count v.shape → (d : Acted v a) → has_lock o v.log ≡ true → has_lock o (a ∷ v.log) ≡ true → picture v.shape o (run v.shape (did d.1 v a ∷ d.0)).words ≡ picture v.shape o (run v.shape d.0).words → held_unboxed o (view_after a v) ≡ held_unboxed o v
unboxed_stays v a o low d mine still same =
    let k = v.shape in
    read_known (view_after a v) o low still (did d.1 v a ∷ d.0) d.1 (acted_knows v a d)
    ∙ (read_stays k d.0 d.1 v a d.2 o low same ∙ sym (read_known v o low mine d.0 d.1 (d.2.0, d.2.1.0)))

-- ---- steps that have nothing to do with boxes

-- It takes no lock, puts no word that may name a box, and changes nothing that a log says of boxes.
pub record LeavesBoxes (a : Act) : Type 0 where
  pub lock : (o : ℕ) (b : Bool) → has_lock_next o a b ≡ b
  pub unput : IsPut a → ⊥
  pub references : (k : Shape) (b n : ℕ) (before after : List ℕ) → references_held_next k b before after a n ≡ n
  pub state : (b n : ℕ) → made_state_next b a n ≡ n
  pub local : (b n : ℕ) → local_count_next b a n ≡ n
  pub taken : (b l n : ℕ) → taken_out_next b a l n ≡ n
  pub places : (b n : ℕ) → place_to_give_next b a n ≡ n
  pub uses : (b n : ℕ) → place_use_next b a n ≡ n
  pub raised : (b n : ℕ) → times_raised_next b a n ≡ n

by_lock : (x : Bool) (m n : ℕ) → (x ≡ true → m ≡ n) → cond x m 0 ≡ cond x n 0
by_lock true m n same = same refl
by_lock false m n same = refl

low_word : (i : ℕ) → (i ≡ 1) ⊎ (i ≡ 2) → i < 4
low_word i which = ⊎_elim (λ (e : i ≡ 1). omega (arith, e)) (λ (e : i ≡ 2). omega (arith, e)) which

module _ (v : View) (a : Act) (leaves : LeavesBoxes a) (d : Acted v a) where
  abbrev k : Shape
  k = v.shape

  named_stays : (b o : ℕ) → o < container_count k → has_lock o v.log ≡ true → named_in_container k b o (mem k (a ∷ v.log)) ≡ named_in_container k b o (mem k v.log)
  named_stays b o low mine =
      named_known k (did d.1 v a ∷ d.0) d.2 d.1 (view_after a v) (acted_knows v a d).1 b o low (leaves.lock o (has_lock o v.log) ∙ mine)
      ∙ (unnamed_in k d.0 d.1 v d.2.0 d.2.1.0 b a leaves.unput d.2.1.3 o low ∙ sym (named_known k d.0 d.2.0 d.1 v d.2.1.0 b o low mine))

  counted : (b o : ℕ) → o < container_count k → cond (has_lock o (a ∷ v.log)) (named_in_container k b o (mem k (a ∷ v.log))) 0 ≡ cond (has_lock o v.log) (named_in_container k b o (mem k v.log)) 0
  counted b o low =
      ap (λ (z : Bool). cond z (named_in_container k b o (mem k (a ∷ v.log))) 0) (leaves.lock o (has_lock o v.log))
      ∙ by_lock (has_lock o v.log) (named_in_container k b o (mem k (a ∷ v.log))) (named_in_container k b o (mem k v.log)) (named_stays b o low)

  times_same : (b : ℕ) → times_kept k b (a ∷ v.log) ≡ times_kept k b v.log
  times_same b =
      let l : List Act = v.log in
      let r : references_held k b (a ∷ l) ≡ references_held k b l = leaves.references k b (references_held k b l) (mem k l) (mem k (a ∷ l)) in
      let s : made_state b (a ∷ l) ≡ made_state b l = leaves.state b (made_state b l) in
      let t = sum_same (λ o. cond (has_lock o (a ∷ l)) (named_in_container k b o (mem k (a ∷ l))) 0) (λ o. cond (has_lock o l) (named_in_container k b o (mem k l)) 0) (container_count k) (counted b) in
      λ i. r i + (cond (eqb (s i) 1) 1 0 + (cond (eqb (s i) 2) 1 0 + t i))

  knows_same : ((b i : ℕ) → IsBoxName k b → i < 4 → word k (did d.1 v a ∷ d.0) (box_word b i) ≡ word k d.0 (box_word b i)) → KnowsBoxes v (view_after a v)
  knows_same stay b i is which su =
      let l : List Act = v.log in
      let kept : times_kept k b (a ∷ l) ≢ 0 = λ z. sure_keeps k b i l su (sym (times_same b) ∙ z) in
      let now_su = sure_after k b i a l kept (sure_stays b i a (knows_box_word k b i l) su) in
      let now_is = box_known k (did d.1 v a ∷ d.0) d.2 d.1 (view_after a v) (acted_knows v a d).1 b i is which now_su in
      let was_is = box_known k d.0 d.2.0 d.1 v d.2.1.0 b i is which su in
      (now_su, now_is ∙ (stay b i is (low_word i which) ∙ sym was_is))

  pub same_made : SameMade v (view_after a v)
  same_made = record {
    state = λ b. leaves.state b (made_state b v.log);
    local = λ b. leaves.local b (local_count b v.log);
    taken = λ b. leaves.taken b (local_count b v.log) (taken_out b v.log);
    places = λ b. leaves.places b (place_to_give b v.log);
    uses = λ b. leaves.uses b (place_use b v.log);
    raised = λ b. leaves.raised b (times_raised b v.log);
  }

  same_by : ((b i : ℕ) → IsBoxName k b → i < 4 → word k (did d.1 v a ∷ d.0) (box_word b i) ≡ word k d.0 (box_word b i)) → SameBoxes v (view_after a v)
  same_by stay = record {
    references = λ b. leaves.references k b (references_held k b v.log) (mem k v.log) (mem k (a ∷ v.log));
    made = same_made;
    knows = knows_same stay;
  }

  -- a step on no word of a box, and a load
  pub same_boxes : ((b i : ℕ) → place a ≢ box_word b i) → SameBoxes v (view_after a v)
  same_boxes apart = same_by (λ b i is low. stays k d.0 d.1 v a d.2.1.3 (box_word b i) (is, low) (apart b i))

  same_loaded : ((n : ℕ) → word_after v.number a n ≡ n) → SameBoxes v (view_after a v)
  same_loaded loads = same_by (λ b i is low. loaded k d.0 d.1 v a loads (box_word b i))

block_leaves : (o i x : ℕ) → LeavesBoxes (PutBlock o i x)
block_leaves o i x = record { lock = λ p b. refl; unput = λ z. z; references = λ k b n before after. refl; state = λ b n. refl; local = λ b n. refl; taken = λ b l n. refl; places = λ b n. refl; uses = λ b n. refl; raised = λ b n. refl }

pub block_boxes : (v : View) (o i x : ℕ) → Acted v (PutBlock o i x) → SameBoxes v (view_after (PutBlock o i x) v)
block_boxes v o i x d = same_boxes v (PutBlock o i x) (block_leaves o i x) d (λ b j e. absurd (cc))

-- ---- one after the other

pub made_same : (v : View) → SameMade v v
made_same v = record { state = λ b. refl; local = λ b. refl; taken = λ b. refl; places = λ b. refl; uses = λ b. refl; raised = λ b. refl }

pub made_then : (u v w : View) → SameMade u v → SameMade v w → SameMade u w
made_then u v w a b = record {
  state = λ c. b.state c ∙ a.state c;
  local = λ c. b.local c ∙ a.local c;
  taken = λ c. b.taken c ∙ a.taken c;
  places = λ c. b.places c ∙ a.places c;
  uses = λ c. b.uses c ∙ a.uses c;
  raised = λ c. b.raised c ∙ a.raised c;
}

pub boxes_same : (v : View) → SameBoxes v v
boxes_same v = record { references = λ b. refl; made = made_same v; knows = λ b i is which su. (su, refl) }

pub boxes_then : (u v w : View) → v.shape ≡ u.shape → SameBoxes u v → SameBoxes v w → SameBoxes u w
boxes_then u v w shape a b = record {
  references = λ c. b.references c ∙ a.references c;
  made = made_then u v w a.made b.made;
  knows = λ c i is which su.
      let one = a.knows c i is which su in
      let two = b.knows c i (subst (λ (z : Shape). IsBoxName z c) (sym shape) is) which one.0 in
      (two.0, two.1 ∙ one.1);
}

-- ---- steps on boxes

-- It leaves all but boxes.
record OfBoxes (a : Act) : Type 0 where
  work : (v : View) → SameWork v (view_after a v)
  words : (k : Shape) (m : List ℕ) → mem_next k a m ≡ m
  lock : (o : ℕ) (b : Bool) → has_lock_next o a b ≡ b
  apart : (k : Shape) (es : List Event) (o : ℕ) → Of k es o (place a) → ⊥
  writes : (cs : List Call) → writes_of a cs ≡ cs
  raised : (b n : ℕ) → n ≤ times_raised_next b a n

abbrev pub IsOfBoxes : Act → Type 0
IsOfBoxes (ReadFreePlaces q w f) = Unit {0}
IsOfBoxes (TakePlace b f) = Unit {0}
IsOfBoxes (PutBox b i x) = Unit {0}
IsOfBoxes (PublishBox b) = Unit {0}
IsOfBoxes (ReadBox b i f) = Unit {0}
IsOfBoxes (RaiseLocal b x) = Unit {0}
IsOfBoxes (DropLocal b x) = Unit {0}
IsOfBoxes (ClearLocal b) = Unit {0}
IsOfBoxes (MergeCounts b d f) = Unit {0}
IsOfBoxes (RaiseShared b old f) = Unit {0}
IsOfBoxes (RaiseKept b f) = Unit {0}
IsOfBoxes (DropShared b f) = Unit {0}
IsOfBoxes (GivePlace b) = Unit {0}
IsOfBoxes act = ⊥

no_less : (x : Bool) (n : ℕ) → n ≤ cond x (n + 1) n
no_less true n = omega arith
no_less false n = le_refl n

no_less_met : (x y : Bool) (n : ℕ) → n ≤ cond x (cond y (n + 1) n) n
no_less_met true y n = no_less y n
no_less_met false y n = le_refl n

of_boxes : (a : Act) → IsOfBoxes a → OfBoxes a
of_boxes (ReadFreePlaces q w f) ok = record { work = λ v. record { pass = record { number = refl; next = refl; parts = refl; shape = refl; locks = λ p. refl; writes = λ p. refl; announced = refl; flight = refl; begun = refl; cursors = λ n. refl; tokens = refl; learnt = refl; lists = refl; floor = refl; since = refl; owners = record { had = refl; found = refl }; seen = le_refl (seen_writes v); grown = λ old was. inr was; stays_online = λ is. is }; left = refl; entries = refl; committed = λ p. refl; emptied = λ p. refl; hands = λ t. refl; used = refl; debt = refl; owes = refl; past = refl; presence = refl; tables = refl }; words = λ k m. refl; lock = λ o x. refl; apart = λ k es o z. z; writes = λ cs. refl; raised = λ p n. le_refl n }
of_boxes (TakePlace b f) ok = record { work = λ v. record { pass = record { number = refl; next = refl; parts = refl; shape = refl; locks = λ p. refl; writes = λ p. refl; announced = refl; flight = refl; begun = refl; cursors = λ n. refl; tokens = refl; learnt = refl; lists = refl; floor = refl; since = refl; owners = record { had = refl; found = refl }; seen = le_refl (seen_writes v); grown = λ old was. inr was; stays_online = λ is. is }; left = refl; entries = refl; committed = λ p. refl; emptied = λ p. refl; hands = λ t. refl; used = refl; debt = refl; owes = refl; past = refl; presence = refl; tables = refl }; words = λ k m. refl; lock = λ o x. refl; apart = λ k es o z. z; writes = λ cs. refl; raised = λ p n. le_refl n }
of_boxes (PutBox b i x) ok = record { work = λ v. record { pass = record { number = refl; next = refl; parts = refl; shape = refl; locks = λ p. refl; writes = λ p. refl; announced = refl; flight = refl; begun = refl; cursors = λ n. refl; tokens = refl; learnt = refl; lists = refl; floor = refl; since = refl; owners = record { had = refl; found = refl }; seen = le_refl (seen_writes v); grown = λ old was. inr was; stays_online = λ is. is }; left = refl; entries = refl; committed = λ p. refl; emptied = λ p. refl; hands = λ t. refl; used = refl; debt = refl; owes = refl; past = refl; presence = refl; tables = refl }; words = λ k m. refl; lock = λ o x. refl; apart = λ k es o z. z; writes = λ cs. refl; raised = λ p n. le_refl n }
of_boxes (PublishBox b) ok = record { work = λ v. record { pass = record { number = refl; next = refl; parts = refl; shape = refl; locks = λ p. refl; writes = λ p. refl; announced = refl; flight = refl; begun = refl; cursors = λ n. refl; tokens = refl; learnt = refl; lists = refl; floor = refl; since = refl; owners = record { had = refl; found = refl }; seen = le_refl (seen_writes v); grown = λ old was. inr was; stays_online = λ is. is }; left = refl; entries = refl; committed = λ p. refl; emptied = λ p. refl; hands = λ t. refl; used = refl; debt = refl; owes = refl; past = refl; presence = refl; tables = refl }; words = λ k m. refl; lock = λ o x. refl; apart = λ k es o z. z; writes = λ cs. refl; raised = λ p n. le_refl n }
of_boxes (ReadBox b i f) ok = record { work = λ v. record { pass = record { number = refl; next = refl; parts = refl; shape = refl; locks = λ p. refl; writes = λ p. refl; announced = refl; flight = refl; begun = refl; cursors = λ n. refl; tokens = refl; learnt = refl; lists = refl; floor = refl; since = refl; owners = record { had = refl; found = refl }; seen = le_refl (seen_writes v); grown = λ old was. inr was; stays_online = λ is. is }; left = refl; entries = refl; committed = λ p. refl; emptied = λ p. refl; hands = λ t. refl; used = refl; debt = refl; owes = refl; past = refl; presence = refl; tables = refl }; words = λ k m. refl; lock = λ o x. refl; apart = λ k es o z. z; writes = λ cs. refl; raised = λ p n. le_refl n }
of_boxes (RaiseLocal b x) ok = record { work = λ v. record { pass = record { number = refl; next = refl; parts = refl; shape = refl; locks = λ p. refl; writes = λ p. refl; announced = refl; flight = refl; begun = refl; cursors = λ n. refl; tokens = refl; learnt = refl; lists = refl; floor = refl; since = refl; owners = record { had = refl; found = refl }; seen = le_refl (seen_writes v); grown = λ old was. inr was; stays_online = λ is. is }; left = refl; entries = refl; committed = λ p. refl; emptied = λ p. refl; hands = λ t. refl; used = refl; debt = refl; owes = refl; past = refl; presence = refl; tables = refl }; words = λ k m. refl; lock = λ o x. refl; apart = λ k es o z. z; writes = λ cs. refl; raised = λ p n. no_less (eqb b p) n }
of_boxes (DropLocal b x) ok = record { work = λ v. record { pass = record { number = refl; next = refl; parts = refl; shape = refl; locks = λ p. refl; writes = λ p. refl; announced = refl; flight = refl; begun = refl; cursors = λ n. refl; tokens = refl; learnt = refl; lists = refl; floor = refl; since = refl; owners = record { had = refl; found = refl }; seen = le_refl (seen_writes v); grown = λ old was. inr was; stays_online = λ is. is }; left = refl; entries = refl; committed = λ p. refl; emptied = λ p. refl; hands = λ t. refl; used = refl; debt = refl; owes = refl; past = refl; presence = refl; tables = refl }; words = λ k m. refl; lock = λ o x. refl; apart = λ k es o z. z; writes = λ cs. refl; raised = λ p n. le_refl n }
of_boxes (ClearLocal b) ok = record { work = λ v. record { pass = record { number = refl; next = refl; parts = refl; shape = refl; locks = λ p. refl; writes = λ p. refl; announced = refl; flight = refl; begun = refl; cursors = λ n. refl; tokens = refl; learnt = refl; lists = refl; floor = refl; since = refl; owners = record { had = refl; found = refl }; seen = le_refl (seen_writes v); grown = λ old was. inr was; stays_online = λ is. is }; left = refl; entries = refl; committed = λ p. refl; emptied = λ p. refl; hands = λ t. refl; used = refl; debt = refl; owes = refl; past = refl; presence = refl; tables = refl }; words = λ k m. refl; lock = λ o x. refl; apart = λ k es o z. z; writes = λ cs. refl; raised = λ p n. le_refl n }
of_boxes (MergeCounts b d f) ok = record { work = λ v. record { pass = record { number = refl; next = refl; parts = refl; shape = refl; locks = λ p. refl; writes = λ p. refl; announced = refl; flight = refl; begun = refl; cursors = λ n. refl; tokens = refl; learnt = refl; lists = refl; floor = refl; since = refl; owners = record { had = refl; found = refl }; seen = le_refl (seen_writes v); grown = λ old was. inr was; stays_online = λ is. is }; left = refl; entries = refl; committed = λ p. refl; emptied = λ p. refl; hands = λ t. refl; used = refl; debt = refl; owes = refl; past = refl; presence = refl; tables = refl }; words = λ k m. refl; lock = λ o x. refl; apart = λ k es o z. z; writes = λ cs. refl; raised = λ p n. le_refl n }
of_boxes (RaiseShared b old f) ok = record { work = λ v. record { pass = record { number = refl; next = refl; parts = refl; shape = refl; locks = λ p. refl; writes = λ p. refl; announced = refl; flight = refl; begun = refl; cursors = λ n. refl; tokens = refl; learnt = refl; lists = refl; floor = refl; since = refl; owners = record { had = refl; found = refl }; seen = le_refl (seen_writes v); grown = λ old was. inr was; stays_online = λ is. is }; left = refl; entries = refl; committed = λ p. refl; emptied = λ p. refl; hands = λ t. refl; used = refl; debt = refl; owes = refl; past = refl; presence = refl; tables = refl }; words = λ k m. refl; lock = λ o x. refl; apart = λ k es o z. z; writes = λ cs. refl; raised = λ p n. no_less_met (eqb b p) (eqb f old) n }
of_boxes (RaiseKept b f) ok = record { work = λ v. record { pass = record { number = refl; next = refl; parts = refl; shape = refl; locks = λ p. refl; writes = λ p. refl; announced = refl; flight = refl; begun = refl; cursors = λ n. refl; tokens = refl; learnt = refl; lists = refl; floor = refl; since = refl; owners = record { had = refl; found = refl }; seen = le_refl (seen_writes v); grown = λ old was. inr was; stays_online = λ is. is }; left = refl; entries = refl; committed = λ p. refl; emptied = λ p. refl; hands = λ t. refl; used = refl; debt = refl; owes = refl; past = refl; presence = refl; tables = refl }; words = λ k m. refl; lock = λ o x. refl; apart = λ k es o z. z; writes = λ cs. refl; raised = λ p n. no_less (eqb b p) n }
of_boxes (DropShared b f) ok = record { work = λ v. record { pass = record { number = refl; next = refl; parts = refl; shape = refl; locks = λ p. refl; writes = λ p. refl; announced = refl; flight = refl; begun = refl; cursors = λ n. refl; tokens = refl; learnt = refl; lists = refl; floor = refl; since = refl; owners = record { had = refl; found = refl }; seen = le_refl (seen_writes v); grown = λ old was. inr was; stays_online = λ is. is }; left = refl; entries = refl; committed = λ p. refl; emptied = λ p. refl; hands = λ t. refl; used = refl; debt = refl; owes = refl; past = refl; presence = refl; tables = refl }; words = λ k m. refl; lock = λ o x. refl; apart = λ k es o z. z; writes = λ cs. refl; raised = λ p n. le_refl n }
of_boxes (GivePlace b) ok = record { work = λ v. record { pass = record { number = refl; next = refl; parts = refl; shape = refl; locks = λ p. refl; writes = λ p. refl; announced = refl; flight = refl; begun = refl; cursors = λ n. refl; tokens = refl; learnt = refl; lists = refl; floor = refl; since = refl; owners = record { had = refl; found = refl }; seen = le_refl (seen_writes v); grown = λ old was. inr was; stays_online = λ is. is }; left = refl; entries = refl; committed = λ p. refl; emptied = λ p. refl; hands = λ t. refl; used = refl; debt = refl; owes = refl; past = refl; presence = refl; tables = refl }; words = λ k m. refl; lock = λ o x. refl; apart = λ k es o z. z; writes = λ cs. refl; raised = λ p n. le_refl n }
of_boxes a ok = absurd ok

pub only_boxed : (v : View) (a : Act) → IsOfBoxes a → Acted v a → OnlyBoxed v (view_after a v)
only_boxed v a is d =
    let of = of_boxes a is in record {
      work = of.work v;
      words = of.words v.shape (mem v.shape v.log);
      raised = λ b. of.raised b (times_raised b v.log);
      unboxed = λ p low mine.
          let k = v.shape in
          let still = still_of k d.0 (did d.1 v a ∷ d.0) d.2.0 p low (λ x in_it its. stays k d.0 d.1 v a d.2.1.3 x in_it (λ e. of.apart k d.0 p (subst (Of k d.0 p) (sym e) its))) (ap (λ (cs : List Call). container_after k.starts cs p) (of.writes (history d.0))) in
          unboxed_stays v a p low d mine (of.lock p (has_lock p v.log) ∙ mine) still.picture;
    }

pub boxed_by : (a : Act) (v w : View) → IsOfBoxes a → w ≡ view_after a v → Acted v a → OnlyBoxed v w
boxed_by a v w ok is d = subst (OnlyBoxed v) (sym is) (only_boxed v a ok d)

-- a load of a word of a box, and of a word of bits
only_loaded : (v : View) (a : Act) → IsOfBoxes a → LeavesBoxes a → ((n : ℕ) → word_after v.number a n ≡ n) → Acted v a → OnlyLoaded v (view_after a v)
only_loaded v a is leaves loads d =
    let only = only_boxed v a is d in
    record { work = only.work; words = only.words; unboxed = only.unboxed; boxes = same_loaded v a leaves d loads }

pub box_loaded : (v w : View) (b i f : ℕ) → w ≡ view_after (ReadBox b i f) v → Acted v (ReadBox b i f) → OnlyLoaded v w
box_loaded v w b i f is d =
    subst (OnlyLoaded v) (sym is)
    (only_loaded v (ReadBox b i f) tt (record { lock = λ p x. refl; unput = λ z. z; references = λ k c n before after. refl; state = λ c n. refl; local = λ c n. refl; taken = λ c l n. refl; places = λ c n. refl; uses = λ c n. refl; raised = λ c n. refl }) (λ n. refl) d)

pub places_loaded : (v w : View) (q i f : ℕ) → w ≡ view_after (ReadFreePlaces q i f) v → Acted v (ReadFreePlaces q i f) → OnlyLoaded v w
places_loaded v w q i f is d =
    subst (OnlyLoaded v) (sym is)
    (only_loaded v (ReadFreePlaces q i f) tt (record { lock = λ p x. refl; unput = λ z. z; references = λ k c n before after. refl; state = λ c n. refl; local = λ c n. refl; taken = λ c l n. refl; places = λ c n. refl; uses = λ c n. refl; raised = λ c n. refl }) (λ n. refl) d)
