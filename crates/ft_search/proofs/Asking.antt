-- From what a look-up shows to what a call may answer, for dicts and sets.
use Rattle.std.proofs.Common.{◌≤◌, ◌≡◌, ℕ, ◌<◌, List, [], ◌∷◌, ◌++◌, Some, None, sym, ap, ◌∙◌, subst, Bool, true, false, append_assoc, refl, inl}
use Rattle.ft_model.specs.declared.call.Call.{Call}
use Rattle.ft_model.specs.declared.call.Call.TheVariants as call
use Rattle.ft_model.specs.declared.call.SetCall.TheVariants as set
use Rattle.ft_model.specs.declared.data.Key.{Key}
use Rattle.ft_model.specs.declared.data.Value.{Value}
use Rattle.ft_model.specs.declared.reply.Reply.{Reply}
use Rattle.ft_model.specs.declared.reply.Reply.TheVariants as reply
use Rattle.ft_model.specs.declared.script.Kind.TheVariants as kind
use Rattle.ft_layout.specs.declared.slot.Stored.TheVariants.{Plain}
use Rattle.ft_layout.specs.Words.{FitsKey, IsStored}
use Rattle.ft_trace.specs.declared.Act.{Act}
use Rattle.ft_trace.specs.declared.Act.TheVariants.{AnswerCursor, Commit, ReadBlock, ReadRoot, ReadTable, ReadCounter, ReadBox, Version, Answer}
use Rattle.ft_trace.specs.declared.Shape.{Shape}
use Rattle.ft_trace.specs.declared.View.{View}
use Rattle.ft_trace.specs.Acts.{view_after, shown}
use Rattle.ft_trace.specs.Addresses.{container_count, class_of}
use Rattle.ft_trace.specs.Causes.{AreOfOneCall, HasCause}
use Rattle.ft_model.specs.Answers.{is_write}
use Rattle.ft_model.specs.Calls.{moved_cursor}
use Rattle.ft_model.specs.Histories.{IsReplied}
use Rattle.ft_model.specs.TableUses.{StoredWorld}
use Rattle.ft_trace.specs.Kinds.{rows}
use Rattle.ft_trace.specs.Traces.{IsReachable}
use Rattle.ft_trace.specs.ContainerStates.{kind_in, reply_in}
use Rattle.ft_bank.specs.Answered.{Answered}
use Rattle.ft_bank.specs.LastLoads.{IsLastLoad}
use Rattle.ft_bank.specs.Reads.{IsShown}
use Rattle.ft_bank.specs.Shown.{MayAsk, KeyIsShown}
use Rattle.ft_bank.specs.Whole.{OnlyLoaded}
use Rattle.ft_bank.specs.WriteSteps.{MayHave}
use Rattle.ft_bank.proofs.Seen.{answered_seen}
use Rattle.ft_bank.proofs.KnownAfterWrites.{loaded_by, loaded_then}
use Rattle.ft_bank.proofs.ShownReplies.{dict_hits_are_shown, values_are_read, set_hits_are_shown, misses_are_shown, replies_under_locks_are_shown}
use Rattle.ft_search.specs.KeyLooks.{AnsweredByLook, AreLooks, ShowsHere, ShowsAbsent, Stops, IsKeyContended}
use Rattle.ft_search.specs.LookSteps.{is_look_step, Only, AreLookSteps, OnlyLooked}
use Rattle.ft_search.proofs.LookSteps.{steps_tail}

-- loads make no entry
pub looks_own : (l : List Act) → AreLooks l → AreOfOneCall l
looks_own [] q = tt
looks_own (Version o f ∷ l) q = looks_own l q
looks_own (ReadBlock o i f ∷ l) q = looks_own l q
looks_own (ReadRoot o f ∷ l) q = looks_own l q
looks_own (ReadTable t i f ∷ l) q = looks_own l q
looks_own (ReadCounter f ∷ l) q = looks_own l q
looks_own (ReadBox c j f ∷ l) q = looks_own l q
looks_own (act ∷ l) q = absurd q

pub looks_newer : (newer rest : List Act) → AreLooks (newer ++ rest) → AreLooks newer
looks_newer [] rest q = tt
looks_newer (Version o f ∷ l) rest q = looks_newer l rest q
looks_newer (ReadBlock o i f ∷ l) rest q = looks_newer l rest q
looks_newer (ReadRoot o f ∷ l) rest q = looks_newer l rest q
looks_newer (ReadTable t i f ∷ l) rest q = looks_newer l rest q
looks_newer (ReadCounter f ∷ l) rest q = looks_newer l rest q
looks_newer (ReadBox c j f ∷ l) rest q = looks_newer l rest q
looks_newer (act ∷ l) rest q = absurd q

-- nor do the other steps of look-ups
steps_own : (l : List Act) → AreLookSteps l → AreOfOneCall l
steps_own [] q = tt
steps_own (Commit c r f s ∷ l) q = absurd q
steps_own (Answer c r f ∷ l) q = absurd q
steps_own (AnswerCursor c r f number had left ∷ l) q = absurd q
steps_own (act ∷ l) q = steps_own l (steps_tail act l q)

steps_newer : (newer rest : List Act) → AreLookSteps (newer ++ rest) → AreLookSteps newer
steps_newer [] rest q = tt
steps_newer (act ∷ l) rest q = by (is_look_step act) (steps_newer l rest) q
  where
    by : (s : Bool) → (AreLookSteps (l ++ rest) → AreLookSteps l) → Only s (AreLookSteps (l ++ rest)) → Only s (AreLookSteps l)
    by true more q = more q
    by false more q = absurd q

-- a pass that has loaded the counter may ask of a container
asked_by : (v w : View) (k : Shape) (o n : ℕ) (part : List Act) → w.left ≡ v.left → w.log ≡ part ++ v.log → (counted : IsLastLoad n part) → AreOfOneCall counted.newer → w.shape ≡ k → o < container_count k → 0 < v.left → MayAsk w o n
asked_by v w k o n part fewer own counted newer same low left = record {
  low = subst (λ (z : Shape). o < container_count z) (sym same) low;
  left = subst (λ (z : ℕ). 0 < z) (sym fewer) left;
  loaded = record {
    newer = counted.newer;
    rest = counted.rest ++ v.log;
    is = own ∙ (ap (λ (z : List Act). z ++ v.log) counted.is ∙ append_assoc counted.newer (ReadCounter n ∷ counted.rest) v.log);
    own = newer;
  };
}

pub may_ask : (v w : View) (k : Shape) (o n : ℕ) (part : List Act) → OnlyLoaded v w → AreLooks part → w.log ≡ part ++ v.log → IsLastLoad n part → w.shape ≡ k → o < container_count k → 0 < v.left → MayAsk w o n
may_ask v w k o n part loaded looks own counted same low left =
    asked_by v w k o n part loaded.work.left own counted (looks_own counted.newer (looks_newer counted.newer (ReadCounter n ∷ counted.rest) (subst AreLooks counted.is looks))) same low left

pub may_ask_on : (v w : View) (k : Shape) (o n : ℕ) (part : List Act) → OnlyLooked v w → AreLookSteps part → w.log ≡ part ++ v.log → IsLastLoad n part → w.shape ≡ k → o < container_count k → 0 < v.left → MayAsk w o n
may_ask_on v w k o n part looked looks own counted same low left =
    asked_by v w k o n part looked.boxed.work.left own counted (steps_own counted.newer (steps_newer counted.newer (ReadCounter n ∷ counted.rest) (subst AreLookSteps counted.is looks))) same low left

module _ (v w : View) (k : Shape) (o : ℕ) (key : Key) (n : ℕ) (part : List Act) (looked : OnlyLooked v w) (looks : AreLookSteps part) (own : w.log ≡ part ++ v.log) (counted : IsLastLoad n part) (same : w.shape ≡ k) (low : o < container_count k) (left : 0 < v.left) (fits : FitsKey key) where
  ask : MayAsk w o n
  ask = may_ask_on v w k o n part looked looks own counted same low left

  pub key_absent : kind_in k.starts o ≡ kind.Dict → ShowsAbsent k o key n w.log → KeyIsShown w o key None n
  key_absent is shows =
      let here : (kind_in w.shape.starts o ≡ kind.Dict) × ShowsAbsent w.shape o key n w.log = subst (λ (z : Shape). (kind_in z.starts o ≡ kind.Dict) × ShowsAbsent z o key n w.log) (sym same) (is, shows) in
      (misses_are_shown w o key n ask fits here.1).0 here.0

  pub element_absent : kind_in k.starts o ≡ kind.Set → ShowsAbsent k o key n w.log → IsShown w (call.Set o (set.Has key)) (reply.Truth false) n
  element_absent is shows =
      let here : (kind_in w.shape.starts o ≡ kind.Set) × ShowsAbsent w.shape o key n w.log = subst (λ (z : Shape). (kind_in z.starts o ≡ kind.Set) × ShowsAbsent z o key n w.log) (sym same) (is, shows) in
      (misses_are_shown w o key n ask fits here.1).1 here.0

  module _ (value_kind payload : ℕ) (shows : ShowsHere k o key value_kind payload n w.log) where
    pub key_here : kind_in k.starts o ≡ kind.Dict → (value : Value) → IsStored value_kind payload (Plain value) → KeyIsShown w o key (Some value) n
    key_here is value stored =
        let here : kind_in w.shape.starts o ≡ kind.Dict = ap (λ (z : Shape). kind_in z.starts o) same ∙ is in
        (dict_hits_are_shown w o shows.t shows.place key n ask here fits (subst (λ z. shows.place < rows z (class_of shows.t)) is shows.low) shows.hit).1 value_kind payload (inl shows.read) value stored

    -- the words that were read are those of a value
    pub value_here : IsReachable w → kind_in k.starts o ≡ kind.Dict → (value : Value) × IsStored value_kind payload (Plain value)
    value_here possible is =
        let here : kind_in w.shape.starts o ≡ kind.Dict = ap (λ (z : Shape). kind_in z.starts o) same ∙ is in
        values_are_read w o shows.t shows.place key n possible ask.low here fits (subst (λ z. shows.place < rows z (class_of shows.t)) is shows.low) shows.hit value_kind payload (inl shows.read)

    pub element_here : kind_in k.starts o ≡ kind.Set → IsShown w (call.Set o (set.Has key)) (reply.Truth true) n
    element_here is =
        let here : kind_in w.shape.starts o ≡ kind.Set = ap (λ (z : Shape). kind_in z.starts o) same ∙ is in
        set_hits_are_shown w o shows.t shows.place key n ask here fits (subst (λ z. shows.place < rows z (class_of shows.t)) is shows.low) shows.hit

-- an entry that follows such loads, and what else they show
pub answered_after : (shows : List Act → Type 0) (v w z : View) (called : Call) (said : Reply) (n : ℕ) (part : List Act) → OnlyLoaded v w → w.log ≡ part ++ v.log → IsLastLoad n part → z ≡ view_after (Answer called said n) w → v.learnt ≤ shown v.log → ∥ IsReachable z ∥₁ → shows part → (x : Answered called said n v z) × shows x.part
answered_after shows v w z called said n part loaded own counted is settled possible so =
    (record { before = w; loaded = loaded; part = part; own = own; counted = counted; answered = is; seen = answered_seen v w z called said part n own counted is settled possible }, so)

-- an entry that follows steps of a look-up
pub looked_after : (shows : List Act → Type 0) (v w z : View) (called : Call) (said : Reply) (n : ℕ) (part : List Act) → OnlyLooked v w → w.log ≡ part ++ v.log → IsLastLoad n part → z ≡ view_after (Answer called said n) w → v.learnt ≤ shown v.log → ∥ IsReachable z ∥₁ → shows part → (x : AnsweredByLook called said n v z) × shows x.part
looked_after shows v w z called said n part looked own counted is settled possible so =
    (record { before = w; looked = looked; part = part; own = own; counted = counted; answered = is; seen = answered_seen v w z called said part n own counted is settled possible }, so)

pub contended_after : (v w : View) (k : Shape) (o : ℕ) (key : Key) (a b : ℕ) (part : List Act) → v.shape ≡ k → OnlyLooked v w → AreLookSteps part → w.log ≡ part ++ v.log → Stops k o key a b part → IsKeyContended o key a b v w
contended_after v w k o key a b part same looked looks own stops =
    record { looked = looked; part = part; looks = looks; own = own; stops = subst (λ (z : Shape). Stops z o key a b part) (sym same) stops }

-- ---- under the lock, with the stamp that is loaded then

-- a reply that is right, with its cause, in each stored world that the bank may have
pub held_shown : (v u : View) (n : ℕ) → OnlyLoaded v u → 0 < v.left → (called : Call) (said : Reply) → is_write called said ≡ false → moved_cursor called ≡ None → ((stored : StoredWorld) → MayHave (view_after (ReadCounter n) u) stored → IsReplied called said (reply_in stored called))
    → ((stored : StoredWorld) → HasCause stored (view_after (ReadCounter n) u) called said n) → IsShown (view_after (ReadCounter n) u) called said n
held_shown v u n loaded left called said reads none right cause =
    replies_under_locks_are_shown (view_after (ReadCounter n) u) called said n (record { left = subst (λ (z : ℕ). 0 < z) (sym loaded.work.left) left; newer = []; rest = u.log; is = refl; own = tt; locks = tt }) reads none
    (λ stored may. (right stored may, cause stored))

-- the entry that follows
pub answered_locked : (v u z : View) (called : Call) (said : Reply) (n : ℕ) (part : List Act) → OnlyLoaded v u → u.log ≡ part ++ v.log → z ≡ view_after (Answer called said n) (view_after (ReadCounter n) u) → v.learnt ≤ shown v.log → ∥ IsReachable z ∥₁ → Answered called said n v z
answered_locked v u z called said n part loaded own is settled possible = record {
  before = view_after (ReadCounter n) u;
  loaded = loaded_then v u (view_after (ReadCounter n) u) loaded (loaded_by (ReadCounter n) u (view_after (ReadCounter n) u) tt refl);
  part = ReadCounter n ∷ part;
  own = ap (λ (l : List Act). ReadCounter n ∷ l) own;
  counted = record { newer = []; rest = part; is = refl; none = refl };
  answered = is;
  seen = answered_seen v (view_after (ReadCounter n) u) z called said (ReadCounter n ∷ part) n (ap (λ (l : List Act). ReadCounter n ∷ l) own) (record { newer = []; rest = part; is = refl; none = refl }) is settled possible;
}
