-- One list for each thread, and the entries of all in one list.
use Rattle.std.proofs.Common.{◌≡◌, ℕ, zero, suc, ◌+◌, ◌<◌, Bool, true, false, List, [], ◌∷◌, ◌++◌, get_or, Some, None, refl, sym, ap, subst, ◌∙◌, arith, cond, inl, inr, ◌==◌}
use Rattle.std.specs.List.{All, filter, flat_map}
use Rattle.std.specs.Option.{option_map_or}
use Rattle.std.specs.Prelude.{Option, slice_get}
use Rattle.std.proofs.lemmas.Bool.{eq-eqb, ne_eqb}
use Rattle.std.proofs.lemmas.List.{append-nil, get_or_past}
use Rattle.std.proofs.lemmas.List.Elements.{All-append, All-head, All-nil, All-tail, filter-append}
use Rattle.std.proofs.lemmas.Option.{get_or_from_slice_get, slice_get_cases, slice_get_past}
use Rattle.ft_model.specs.declared.call.Call.{Call}
use Rattle.ft_model.specs.declared.entry.Entry.{Entry}
use Rattle.ft_model.specs.declared.entry.Storage.{Storage}
use Rattle.ft_model.specs.declared.script.Thread.{Thread}
use Rattle.ft_model.specs.declared.script.ScriptParts.{ScriptParts}
use Rattle.ft_model.specs.Histories.{entries_of}
use Rattle.ft_model.specs.Numbers.{KnowsAwaited, IsNumberedThread, IsDone, AreNumbered, AreNumberedLists, AreDone}

-- ---- what passes

module _ {X : Type 0} (p : X → Bool) where
  filter_all : (xs : List X) → All (λ x. p x ≡ true) xs → filter p xs ≡ xs
  filter_all [] pass = refl
  filter_all (x ∷ xs) pass =
      ap (λ b. cond b (x ∷ filter p xs) (filter p xs)) (All-head (λ y. p y ≡ true) x xs pass) ∙ ap (λ (ys : List X). x ∷ ys) (filter_all xs (All-tail (λ y. p y ≡ true) x xs pass))

  filter_none : (xs : List X) → All (λ x. p x ≡ false) xs → filter p xs ≡ []
  filter_none [] fail = refl
  filter_none (x ∷ xs) fail =
      ap (λ b. cond b (x ∷ filter p xs) (filter p xs)) (All-head (λ y. p y ≡ false) x xs fail) ∙ filter_none xs (All-tail (λ y. p y ≡ false) x xs fail)

-- ---- the entries of a thread

abbrev pub flat : List (List Entry) → List Entry
flat lists = flat_map (λ (mine : List Entry). mine) lists

-- the lists are those of the threads from this one on
abbrev OwnFrom : ℕ → List (List Entry) → Type 0
OwnFrom from lists = (k : ℕ) (mine : List Entry) → slice_get lists k ≡ Some mine → All (λ (e : Entry). e.thread ≡ from + k) mine

own_rest : (from : ℕ) (mine : List Entry) (lists : List (List Entry)) → OwnFrom from (mine ∷ lists) → OwnFrom (from + 1) lists
own_rest from mine lists own k other at i d low = own (suc k) other at i d low ∙ omega arith

none_before : (lists : List (List Entry)) (from : ℕ) → OwnFrom from lists → (thread : ℕ) → thread < from → entries_of thread (flat lists) ≡ []
none_before [] from own thread low = refl
none_before (mine ∷ lists) from own thread low =
    filter-append (λ (e : Entry). e.thread == thread) mine (flat lists)
    ∙ ap (λ (es : List Entry). es ++ entries_of thread (flat lists))
    (filter_none (λ (e : Entry). e.thread == thread) mine (λ i d within. ne_eqb (get_or mine i d).thread thread (λ is. let e : (get_or mine i d).thread ≡ from + 0 = own 0 mine refl i d within in omega arith)))
    ∙ none_before lists (from + 1) (own_rest from mine lists own) thread (omega arith)

own_entries : (lists : List (List Entry)) (from : ℕ) → OwnFrom from lists → (k : ℕ) → entries_of (from + k) (flat lists) ≡ get_or lists k []
own_entries [] from own k = refl
own_entries (mine ∷ lists) from own zero =
    filter-append (λ (e : Entry). e.thread == (from + 0)) mine (flat lists)
    ∙ ap (λ (es : List Entry). es ++ entries_of (from + 0) (flat lists))
    (filter_all (λ (e : Entry). e.thread == (from + 0)) mine (λ i d within. eq-eqb (get_or mine i d).thread (from + 0) (own 0 mine refl i d within)))
    ∙ ap (λ (es : List Entry). mine ++ es) (none_before lists (from + 1) (own_rest from mine lists own) (from + 0) (omega arith))
    ∙ append-nil mine
own_entries (mine ∷ lists) from own (suc k) =
    filter-append (λ (e : Entry). e.thread == (from + suc k)) mine (flat lists)
    ∙ ap (λ (es : List Entry). es ++ entries_of (from + suc k) (flat lists))
    (filter_none (λ (e : Entry). e.thread == (from + suc k)) mine (λ i d within. ne_eqb (get_or mine i d).thread (from + suc k) (λ is. let e : (get_or mine i d).thread ≡ from + 0 = own 0 mine refl i d within in omega arith)))
    ∙ ap (λ t. entries_of t (flat lists)) (let e : from + suc k ≡ from + 1 + k = omega arith in e)
    ∙ own_entries lists (from + 1) (own_rest from mine lists own) k

-- what holds of all in each list holds of all
all_flat : (P : Entry → Type 0) (lists : List (List Entry)) → All (λ (mine : List Entry). All P mine) lists → All P (flat lists)
all_flat P [] all = All-nil P
all_flat P (mine ∷ lists) all = All-append P mine (flat lists) (All-head (λ (mine : List Entry). All P mine) mine lists all) (all_flat P lists (All-tail (λ (mine : List Entry). All P mine) mine lists all))

-- ---- entries with numbers

pub no_entries : (storage : Storage) (script : ScriptParts) (calls : List Call) (thread : ℕ) → IsNumberedThread storage script calls thread []
no_entries storage script calls thread =
    record { own = All-nil (λ (e : Entry). e.thread ≡ thread); indexes = refl; numbers = All-nil (λ (e : Entry). e.wrote ≡ true → slice_get calls e.stamp ≡ Some e.call); right = λ place entry at. absurd (let none : None ≡ Some entry = at in cc) }

module _ (storage : Storage) (script : ScriptParts) (calls : List Call) (lists : List (List Entry)) (is : AreNumberedLists storage script calls lists) (done : AreDone script calls lists) where
  entries_are : (thread : ℕ) → entries_of thread (flat lists) ≡ get_or lists thread []
  entries_are thread =
      ap (λ t. entries_of t (flat lists)) (let e : thread ≡ 0 + thread = omega arith in e)
      ∙ own_entries lists 0 (λ k mine at i d low. (is.threads k mine at).own i d low ∙ omega arith) thread

  made_are : ◌≡◌ {A = ℕ → List Entry} (λ thread. get_or lists thread []) (λ thread. entries_of thread (flat lists))
  made_are = λ i thread. sym (entries_are thread) i

  -- what holds of each list, and of none, holds of each thread
  of_thread : (P : ℕ → List Entry → Type 0) → ((thread : ℕ) (mine : List Entry) → slice_get lists thread ≡ Some mine → P thread mine) → ((thread : ℕ) → slice_get script.threads thread ≡ None → P thread []) → (thread : ℕ) → P thread (entries_of thread (flat lists))
  of_thread P each none thread =
      subst (P thread) (sym (entries_are thread))
      (elim (slice_get_cases lists thread).1 [
        | inl found ↦ let mine : List Entry = found.0 in subst (P thread) (sym (get_or_from_slice_get lists thread mine [] found.2)) (each thread mine found.2)
        | inr past ↦ subst (P thread) (sym (get_or_past lists thread [] past.0)) (none thread (slice_get_past script.threads thread (omega (arith, past.0, is.count))))
      ])

  pub numbered_of_lists : AreNumbered storage script calls (flat lists)
  numbered_of_lists =
      record {
        threads = of_thread (IsNumberedThread storage script calls) is.threads (λ thread none. no_entries storage script calls thread);
        once = is.once;
        done = of_thread (IsDone script calls) done.threads (λ thread none.
            record {
              made = sym (ap (λ (o : Option Thread). option_map_or (λ (found : Thread). found.calls) o []) none);
              marked = λ k entry at. absurd (let nothing : None ≡ Some entry = at in cc);
            });
        known =
            all_flat (λ (entry : Entry). KnowsAwaited (λ thread. entries_of thread (flat lists)) entry entry.call) lists
            (subst (λ (made : ℕ → List Entry). All (λ (mine : List Entry). All (λ (entry : Entry). KnowsAwaited made entry entry.call) mine) lists) made_are done.known);
      }
