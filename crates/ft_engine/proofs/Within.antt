-- Which locks a pass has taken in the try of a call, and whom it has found with locks.
use Rattle.std.proofs.Common.{◌≡◌, ℕ, zero, suc, true, false, Option, Some, None, refl, sym, ap, ◌∙◌, subst, ⊎_elim}
use Rattle.std.specs.Prelude.{not, option_map}
use Rattle.ft_model.specs.declared.call.Call.{Call}
use Rattle.ft_model.specs.declared.call.Call.TheVariants as call
use Rattle.ft_model.specs.declared.call.DictCall.{DictCall}
use Rattle.ft_model.specs.declared.call.DictCall.TheVariants as dict
use Rattle.ft_model.specs.declared.call.ListCall.{ListCall}
use Rattle.ft_model.specs.declared.call.ListCall.TheVariants as list
use Rattle.ft_model.specs.declared.call.SetCall.{SetCall}
use Rattle.ft_model.specs.declared.call.SetCall.TheVariants as set
use Rattle.ft_model.specs.declared.cursor.Cursor.{Cursor}
use Rattle.ft_model.specs.declared.reply.Reply.{Reply}
use Rattle.std.specs.Prelude.{List}
use Rattle.ft_model.specs.Calls.{cursor_of_dict, cursor_of_list, cursor_of_set, is_locked_dict, is_locked_list, is_locked_set, moved_cursor, is_locked_deque, cursor_of_deque}
use Rattle.ft_model.specs.Worlds.{container_of}
use Rattle.ft_trace.specs.declared.Shape.{Shape}
use Rattle.ft_trace.specs.declared.View.{View}
use Rattle.ft_trace.specs.Hands.{cursor_in}
use Rattle.ft_trace.specs.Owners.{FindsMore, SameOwners}
use Rattle.ft_trace.proofs.Owning.{finds_more_then, grown_finds_more, locks_only_then, locks_only_weaker, owners_then, same_finds_more, same_locks_only, same_owners}
use Rattle.ft_bank.specs.declared.takings.Took.{Took}
use Rattle.ft_bank.specs.Answered.{Answered, AnsweredCursor}
use Rattle.ft_bank.specs.Whole.{OnlyLoaded, Wrote}
use Rattle.ft_section.specs.declared.answers.Objects.{Objects}
use Rattle.ft_section.specs.declared.answers.Stamp.{Stamp}
use Rattle.ft_section.specs.declared.answers.Step.{Step}
use Rattle.ft_section.specs.declared.answers.Step.TheVariants as step
use Rattle.ft_section.specs.Locking.{LocksWithin, OnlyLocked}
use Rattle.ft_section.specs.LockTakings.{IsOf}
use Rattle.ft_search.specs.KeyLooks.{AnsweredByLook}
use Rattle.ft_search.specs.MadeCalls.{MadeAs}
use Rattle.ft_table_calls.specs.Adding.{Retires, TriedTaking}
use Rattle.ft_bank_history.proofs.Walked.{walked_plain}
use Rattle.ft_engine.specs.Answering.{MakesEntry, HasLockedFor, HasWalked, IsLockedFor}
use Rattle.ft_engine.specs.Contentions.{may_look}
use Rattle.ft_engine.specs.Flights.{objects_of}
use Rattle.ft_model.specs.declared.call.DequeCall.{DequeCall}
use Rattle.ft_model.specs.declared.call.DequeCall.TheVariants as deque

-- of locks the pass has taken only such as are of these containers, and whom it has found it has found for good
pub record HasWithin (objects : Objects) (v w : View) : Type 0 where
  pub only : LocksWithin objects v w
  pub found : FindsMore v w

-- the call was made between the locks and their release
pub within_then : (objects : Objects) (u v w z : View) → OnlyLocked u v → LocksWithin objects u v → w.number ≡ v.number → SameOwners v w → OnlyLocked w z → SameOwners w z → HasWithin objects u z
within_then objects u v w z took within number did gone owners =
    let P : ℕ → Type 0 = λ o. IsOf o objects in
    let rest = owners_then v w z did owners in
    record {
      only = locks_only_then P u v z (gone.number ∙ number) within (same_locks_only P v z rest);
      found = finds_more_then u v z (grown_finds_more u v took.newer took.grew) (same_finds_more v z rest);
    }

-- the locks of these containers are those that the call needs
pub within_for : (hands : List (Option Cursor)) (called : Call) (objects : Objects) (v w : View) → objects_of hands called ≡ Some objects → LocksWithin objects v w → FindsMore v w → HasLockedFor hands called v w
within_for hands called objects v w names only found =
    record { only = locks_only_weaker (λ o. IsOf o objects) (IsLockedFor hands called) v w (λ o of. (objects, names, of)) only; found = found }

-- no lock was asked for
pub same_for : (hands : List (Option Cursor)) (called : Call) (v w : View) → SameOwners v w → HasLockedFor hands called v w
same_for hands called v w same = record { only = same_locks_only (IsLockedFor hands called) v w same; found = same_finds_more v w same }

pub for_then : (hands : List (Option Cursor)) (called : Call) (u v w : View) → w.number ≡ v.number → HasLockedFor hands called u v → HasLockedFor hands called v w → HasLockedFor hands called u w
for_then hands called u v w number a b = record { only = locks_only_then (IsLockedFor hands called) u v w number a.only b.only; found = finds_more_then u v w a.found b.found }

-- ---- parts of calls

pub loaded_owners : (v w : View) → OnlyLoaded v w → SameOwners v w
loaded_owners v w l = l.work.pass.owners

pub answered_owners : (called : Call) (said : Reply) (n : ℕ) (v w : View) → Answered called said n v w → SameOwners v w
answered_owners called said n v w x =
    owners_then v x.before w x.loaded.work.pass.owners (subst (SameOwners x.before) (sym x.answered) (record { had = refl; found = refl }))

pub looked_owners : (called : Call) (said : Reply) (n : ℕ) (v w : View) → AnsweredByLook called said n v w → SameOwners v w
looked_owners called said n v w x =
    owners_then v x.before w x.looked.boxed.work.pass.owners (subst (SameOwners x.before) (sym x.answered) (record { had = refl; found = refl }))

pub cursor_owners : (called : Call) (said : Reply) (n number : ℕ) (left : Cursor) (v w : View) → AnsweredCursor called said n number left v w → SameOwners v w
cursor_owners called said n number left v w x =
    owners_then v x.before w x.loaded.work.pass.owners (subst (SameOwners x.before) (sym x.answered) (record { had = refl; found = refl }))

pub wrote_owners : (called : Call) (said : Reply) (n : ℕ) (v w : View) → Wrote called said n v w → SameOwners v w
wrote_owners called said n v w x = x.pass.owners

pub made_owners : (called : Call) (said : Reply) (stamp : Stamp) (v w : View) → MadeAs called said stamp v w → SameOwners v w
made_owners called said stamp v w m =
    ⊎_elim (λ x. wrote_owners called said stamp.number v w x.1) (λ x. answered_owners called said stamp.number v w x.1) m.made

pub tried_owners : (k : Shape) (class : ℕ) (result : Took) (v w : View) → TriedTaking k class result v w → SameOwners v w
tried_owners k class result v w t = t.same.owners

pub retired_owners : (root : ℕ) (v w : View) → Retires root v w → SameOwners v w
retired_owners zero v w is = subst (SameOwners v) (sym is) (same_owners v)
retired_owners (suc t) v w (n, is) = subst (SameOwners v) (sym is) (record { had = refl; found = refl })

-- ---- cursors

-- a call that moves no cursor leaves them on their containers
pub walked_none : (called : Call) (said : Reply) (stamp : Stamp) (v w : View) → moved_cursor called ≡ None → MakesEntry called said stamp v w → HasWalked called v w
walked_none called said stamp v w none x number =
    ap (option_map container_of) (x.cursors number (λ e. absurd (let n : None ≡ Some number = sym none ∙ e in cc)))
    ∙ sym (walked_plain number called (option_map container_of (cursor_in number v.log)) none)

looks_dict : (c : DictCall) → not (is_locked_dict c) ≡ true → cursor_of_dict c ≡ None
looks_dict (dict.Iter m) e = absurd (let x : false ≡ true = e in cc)
looks_dict (dict.Reversed m) e = absurd (let x : false ≡ true = e in cc)
looks_dict c e = refl

looks_list : (c : ListCall) → not (is_locked_list c) ≡ true → cursor_of_list c ≡ None
looks_list (list.Iter m) e = absurd (let x : false ≡ true = e in cc)
looks_list (list.Reversed m) e = absurd (let x : false ≡ true = e in cc)
looks_list c e = refl

looks_set : (c : SetCall) → not (is_locked_set c) ≡ true → cursor_of_set c ≡ None
looks_set (set.Iter m) e = absurd (let x : false ≡ true = e in cc)
looks_set c e = refl

looks_deque : (c : DequeCall) → not (is_locked_deque c) ≡ true → cursor_of_deque c ≡ None
looks_deque (deque.Iter m) e = absurd (let x : false ≡ true = e in cc)
looks_deque c e = refl

-- none that may be made by a look does
pub looks_still : (called : Call) → may_look called ≡ true → moved_cursor called ≡ None
looks_still (call.Dict o c) may = looks_dict c may
looks_still (call.List o c) may = looks_list c may
looks_still (call.Set o c) may = looks_set c may
looks_still (call.Deque o c) may = looks_deque c may
looks_still (call.Next number) may = absurd (let e : false ≡ true = may in cc)
looks_still (call.Begin first second) may = refl
looks_still call.End may = refl
looks_still call.Quiesce may = refl
looks_still (call.Await thread index) may = refl
looks_still call.Dump may = refl

-- where the try has its answer
abbrev pub WalkedBy : Call → View → View → Step → Type 0
WalkedBy called v w (step.Done said stamp) = HasWalked called v w
WalkedBy called v w (step.NotYet o owner) = Unit {0}
WalkedBy called v w (step.Moved first second) = Unit {0}
WalkedBy called v w step.NoMemory = Unit {0}
