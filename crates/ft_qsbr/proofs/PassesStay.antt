-- Collections, takings and retirements leave the pass as it was, but for its tables.
use Rattle.std.proofs.Common.{◌≡◌, ◌⊎◌, ℕ, zero, suc, ◌≤◌, le_refl, le_trans, List, [], ◌∷◌, ◌++◌, refl, sym, ap, ◌∙◌, subst, inl, inr, ⊎_elim}
use mathlib.Core.Logic.{dite}
use native.Mathlib.Decide.{ℕ_discrete}
use Rattle.ft_trace.specs.declared.Act.{Act}
use Rattle.ft_trace.specs.declared.Act.TheVariants.{Lock, Unlock, Answer, AnswerCursor, TakeFloor, TookOver, ReadHeader, GiveTable, RaiseCount, PutHeader, Retire, Commit, Announce}
use Rattle.ft_trace.specs.declared.View.{View}
use Rattle.ft_trace.specs.Acts.{flight, seen_writes, stage, presence_of}
use Rattle.ft_trace.specs.Floors.{at_floor}
use Rattle.ft_trace.specs.Owners.{SameOwners}
use Rattle.ft_trace.specs.Hands.{cursor_in}
use Rattle.ft_trace.specs.BegunSections.{begun}
use Rattle.ft_trace.proofs.Cases.{miss, here}
use Rattle.ft_trace.proofs.Seeing.{seen_up}
use Rattle.ft_bank.specs.declared.takings.Took.{Took}
use Rattle.ft_bank.specs.declared.takings.Took.TheVariants as took
use Rattle.ft_bank.specs.Series.{noted_all}
use Rattle.ft_bank.specs.declared.table.Table.{Table}
use Rattle.ft_bank.specs.Takings.{Cleared, IsTaking, KeepsBut, loads_of_none, lowered}
use Rattle.ft_bank.specs.Logs.{HasGrown, StaysOnline}
use Rattle.ft_bank.specs.Whole.{SamePass}
use Rattle.ft_qsbr.specs.Collecting.{AreGivings, StaysOrGoes, loads_of}

-- none of these adds an entry, announces, takes a lock or lets it go, takes the floor or takes another pass in
abbrev pub LeavePass : List Act → Type 0
LeavePass [] = Unit {0}
LeavePass (Answer c r n ∷ l) = ⊥
LeavePass (AnswerCursor c r n m x y ∷ l) = ⊥
LeavePass (Unlock o ∷ l) = ⊥
LeavePass (TakeFloor f s ∷ l) = ⊥
LeavePass (Lock o f s ∷ l) = ⊥
LeavePass (TookOver tables had found told ∷ l) = ⊥
LeavePass (Commit c r f s ∷ l) = ⊥
LeavePass (Announce p n ∷ l) = ⊥
LeavePass (act ∷ l) = LeavePass l

leave_then : (xs ys : List Act) → LeavePass xs → LeavePass ys → LeavePass (xs ++ ys)
leave_then [] ys x y = y
leave_then (Answer c r n ∷ xs) ys x y = absurd x
leave_then (AnswerCursor c r n m f t ∷ xs) ys x y = absurd x
leave_then (Unlock o ∷ xs) ys x y = absurd x
leave_then (TakeFloor f s ∷ xs) ys x y = absurd x
leave_then (Lock o f s ∷ xs) ys x y = absurd x
leave_then (TookOver tables had found told ∷ xs) ys x y = absurd x
leave_then (Commit c r f s ∷ xs) ys x y = absurd x
leave_then (Announce p n ∷ xs) ys x y = absurd x
leave_then (a ∷ xs) ys x y = leave_then xs ys x y

pub begun_stays : (acts : List Act) (v : View) → LeavePass acts → begun (noted_all acts v).log ≡ begun v.log
begun_stays [] v ok = refl
begun_stays (Answer c r n ∷ l) v ok = absurd ok
begun_stays (AnswerCursor c r n m f t ∷ l) v ok = absurd ok
begun_stays (Unlock o ∷ l) v ok = absurd ok
begun_stays (TakeFloor f s ∷ l) v ok = absurd ok
begun_stays (Lock o f s ∷ l) v ok = absurd ok
begun_stays (TookOver tables had found told ∷ l) v ok = absurd ok
begun_stays (Commit c r f s ∷ l) v ok = absurd ok
begun_stays (Announce p n ∷ l) v ok = absurd ok
begun_stays (a ∷ l) v ok = begun_stays l v ok

pub cursors_stay : (acts : List Act) (v : View) (number : ℕ) → LeavePass acts → cursor_in number (noted_all acts v).log ≡ cursor_in number v.log
cursors_stay [] v number ok = refl
cursors_stay (Answer c r n ∷ l) v number ok = absurd ok
cursors_stay (AnswerCursor c r n m f t ∷ l) v number ok = absurd ok
cursors_stay (Unlock o ∷ l) v number ok = absurd ok
cursors_stay (TakeFloor f s ∷ l) v number ok = absurd ok
cursors_stay (Lock o f s ∷ l) v number ok = absurd ok
cursors_stay (TookOver tables had found told ∷ l) v number ok = absurd ok
cursors_stay (Commit c r f s ∷ l) v number ok = absurd ok
cursors_stay (Announce p n ∷ l) v number ok = absurd ok
cursors_stay (a ∷ l) v number ok = cursors_stay l v number ok

pub floor_stays : (acts : List Act) (v : View) → LeavePass acts → (noted_all acts v).has_floor ≡ v.has_floor
floor_stays [] v ok = refl
floor_stays (Answer c r n ∷ l) v ok = absurd ok
floor_stays (AnswerCursor c r n m f t ∷ l) v ok = absurd ok
floor_stays (Unlock o ∷ l) v ok = absurd ok
floor_stays (TakeFloor f s ∷ l) v ok = absurd ok
floor_stays (Lock o f s ∷ l) v ok = absurd ok
floor_stays (TookOver tables had found told ∷ l) v ok = absurd ok
floor_stays (Commit c r f s ∷ l) v ok = absurd ok
floor_stays (Announce p n ∷ l) v ok = absurd ok
floor_stays (a ∷ l) v ok = floor_stays l v ok

pub since_stays : (acts : List Act) (v : View) → LeavePass acts → at_floor (noted_all acts v).log ≡ at_floor v.log
since_stays [] v ok = refl
since_stays (Answer c r n ∷ l) v ok = absurd ok
since_stays (AnswerCursor c r n m f t ∷ l) v ok = absurd ok
since_stays (Unlock o ∷ l) v ok = absurd ok
since_stays (TakeFloor f s ∷ l) v ok = absurd ok
since_stays (Lock o f s ∷ l) v ok = absurd ok
since_stays (TookOver tables had found told ∷ l) v ok = absurd ok
since_stays (Commit c r f s ∷ l) v ok = absurd ok
since_stays (Announce p n ∷ l) v ok = absurd ok
since_stays (a ∷ l) v ok = since_stays l v ok

pub owners_stay : (acts : List Act) (v : View) → LeavePass acts → SameOwners v (noted_all acts v)
owners_stay [] v ok = record { had = refl; found = refl }
owners_stay (Answer c r n ∷ l) v ok = absurd ok
owners_stay (AnswerCursor c r n m f t ∷ l) v ok = absurd ok
owners_stay (Unlock o ∷ l) v ok = absurd ok
owners_stay (TakeFloor f s ∷ l) v ok = absurd ok
owners_stay (Lock o f s ∷ l) v ok = absurd ok
owners_stay (TookOver tables had found told ∷ l) v ok = absurd ok
owners_stay (Commit c r f s ∷ l) v ok = absurd ok
owners_stay (Announce p n ∷ l) v ok = absurd ok
owners_stay (a ∷ l) v ok = let same = owners_stay l v ok in record { had = same.had; found = same.found }

pub presence_stays : (acts : List Act) (v : View) → LeavePass acts → presence_of (noted_all acts v).log ≡ presence_of v.log
presence_stays [] v ok = refl
presence_stays (Commit c r f s ∷ l) v ok = absurd ok
presence_stays (Answer c r n ∷ l) v ok = absurd ok
presence_stays (AnswerCursor c r n m f t ∷ l) v ok = absurd ok
presence_stays (Announce p n ∷ l) v ok = absurd ok
presence_stays (Unlock o ∷ l) v ok = absurd ok
presence_stays (TakeFloor f s ∷ l) v ok = absurd ok
presence_stays (Lock o f s ∷ l) v ok = absurd ok
presence_stays (TookOver tables had found told ∷ l) v ok = absurd ok
presence_stays (a ∷ l) v ok = presence_stays l v ok

pub seen_stays : (acts : List Act) (v : View) → seen_writes v ≤ seen_writes (noted_all acts v)
seen_stays [] v = le_refl (seen_writes v)
seen_stays (a ∷ l) v = le_trans (seen_stays l v) (seen_up a (noted_all l v))

pub learnt_stays : (acts : List Act) (v : View) → (noted_all acts v).learnt ≡ v.learnt
learnt_stays [] v = refl
learnt_stays (a ∷ l) v = learnt_stays l v

-- ---- collections

givings_leave : (acts : List Act) → AreGivings acts → LeavePass acts
givings_leave [] ok = tt
givings_leave (ReadHeader t g ∷ l) ok = givings_leave l ok
givings_leave (GiveTable t ∷ l) ok = givings_leave l ok
givings_leave (RaiseCount c n ∷ l) ok = givings_leave l ok
givings_leave (a ∷ l) ok = absurd ok

loads_leave : (numbers : List ℕ) → LeavePass (loads_of numbers)
loads_leave [] = tt
loads_leave (n ∷ ns) = loads_leave ns

pub collection_leaves : (acts : List Act) (numbers : List ℕ) → AreGivings acts → LeavePass (acts ++ loads_of numbers)
collection_leaves acts numbers ok = leave_then acts (loads_of numbers) (givings_leave acts ok) (loads_leave numbers)

loads_stage : (numbers : List ℕ) (v : View) (t : ℕ) → stage t (noted_all (loads_of numbers) v).log ≡ stage t v.log
loads_stage [] v t = refl
loads_stage (n ∷ ns) v t = loads_stage ns v t

-- a table stays with the pass or is given back
pub given_or_kept : (acts : List Act) (numbers : List ℕ) (v : View) (t : ℕ) → AreGivings acts → StaysOrGoes v (noted_all (acts ++ loads_of numbers) v) t
given_or_kept [] numbers v t ok = inl (loads_stage numbers v t)
given_or_kept (ReadHeader q g ∷ l) numbers v t ok = given_or_kept l numbers v t ok
given_or_kept (RaiseCount c n ∷ l) numbers v t ok = given_or_kept l numbers v t ok
given_or_kept (GiveTable q ∷ l) numbers v t ok =
    let n = stage t (noted_all (l ++ loads_of numbers) v).log in
    dite (ℕ_discrete q t)
    (λ (e : q ≡ t). inr (here q t 0 n e))
    (λ ne. ⊎_elim (λ (x : n ≡ stage t v.log). inl (miss q t 0 n ne ∙ x)) (λ (x : n ≡ 0). inr (miss q t 0 n ne ∙ x)) (given_or_kept l numbers v t ok))
given_or_kept (a ∷ l) numbers v t ok = absurd ok

-- ---- takings

none_leave : (class n : ℕ) → LeavePass (loads_of_none class n)
none_leave class zero = tt
none_leave class (suc n) = none_leave class n

cleared_leaves : (class : ℕ) (t : Table) (loaded found : ℕ) (acts : List Act) → Cleared class t loaded found acts → LeavePass acts
cleared_leaves class t loaded found acts x = subst LeavePass (sym x.is) (none_leave class x.word)

pub taking_leaves : (class : ℕ) (r : Took) (acts : List Act) → IsTaking class r acts → LeavePass acts
taking_leaves class (took.Taken t) acts x = subst LeavePass (sym x.4) (leave_then x.1 (lowered class x.0) (cleared_leaves class t x.3.0 x.3.1 x.1 x.3.3) tt)
taking_leaves class took.AllTaken acts x = subst LeavePass (sym x) tt
taking_leaves class (took.Moved a b) acts x =
    ⊎_elim
    (λ y. subst LeavePass (sym y.1) tt)
    (λ z.
    ⊎_elim
    (λ y. subst LeavePass (sym y.4) (leave_then y.2 (lowered class y.0) (cleared_leaves class y.3.1 a b y.2 y.3.2) tt))
    (λ y. subst LeavePass (sym y.2) (leave_then (loads_of_none class 16) (lowered class a) (none_leave class 16) tt)) z) x

-- ---- the pass

pub same_by : (F : ℕ → Type 0) (v w : View) → KeepsBut F v w → flight w.log ≡ flight v.log → begun w.log ≡ begun v.log → ((n : ℕ) → cursor_in n w.log ≡ cursor_in n v.log) → w.has_floor ≡ v.has_floor → at_floor w.log ≡ at_floor v.log → SameOwners v w → w.learnt ≡ v.learnt → seen_writes v ≤ seen_writes w → HasGrown v w → StaysOnline v w → SamePass v w
same_by F v w keeps idle sections cursors floor since owners learnt seen grown stays_online = record {
  number = keeps.held.number;
  next = keeps.held.next;
  parts = keeps.held.parts;
  shape = keeps.held.shape;
  locks = keeps.held.locks;
  writes = keeps.held.writes;
  announced = keeps.announces;
  flight = idle;
  begun = sections;
  cursors = cursors;
  tokens = keeps.held.tokens;
  lists = keeps.held.lists;
  floor = floor;
  since = since;
  owners = owners;
  learnt = learnt;
  seen = seen;
  grown = grown;
  stays_online = stays_online;
}

pub retirement_same : (t n g : ℕ) (v w : View) → w ≡ noted_all (PutHeader t g ∷ Retire t n ∷ []) v → SamePass v w
retirement_same t n g v w is =
    subst (SamePass v) (sym is)
    (record { number = refl; next = refl; parts = refl; shape = refl; locks = λ p. refl; writes = λ p. refl; announced = refl; flight = refl; begun = refl; cursors = λ n. refl; tokens = refl; lists = refl; floor = refl; since = refl; owners = record { had = refl; found = refl }; learnt = refl; seen = le_refl (seen_writes v); grown = λ old was. inr (inr was); stays_online = λ is. is })
