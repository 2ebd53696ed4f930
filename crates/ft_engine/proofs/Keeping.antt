-- The entries that a caller was answered stay those of its pass as calls are tried, answered and ended.
use Rattle.std.proofs.Common.{◌≡◌, ◌≤◌, ◌+◌, ◌-◌, ◌^◌, ℕ, false, List, [], ◌∷◌, ◌++◌, map, reverse, length, take, refl, sym, ap, ◌∙◌, subst, arith, ⊎_elim, min}
use Rattle.std.specs.Prelude.{Some, None, slice_get, slice_index_or}
use Rattle.std.specs.List.{range_with_len}
use Rattle.std.proofs.lemmas.List.{map-append, reverse-append, reverse-reverse, length_push, map_push, take-append-le, take_at}
use Rattle.std.proofs.lemmas.List.Elements.{All-nil, All-push}
use Rattle.std.proofs.lemmas.Option.{slice_get_within}
use Rattle.ft_model.specs.declared.call.Call.{Call}
use Rattle.ft_model.specs.declared.call.Call.TheVariants as call
use Rattle.ft_model.specs.declared.entry.Entry.{Entry as NamedEntry}
use Rattle.ft_model.specs.declared.reply.Reply.{Reply}
use Rattle.ft_model.specs.Histories.{EachAt, IsCountedAs, IfEnds, IfInnermost}
use Rattle.ft_model.specs.Numbers.{begins_of, marks_since}
use Rattle.ft_trace.specs.declared.Entry.{Entry}
use Rattle.ft_trace.specs.declared.Owner.{Owner}
use Rattle.ft_trace.specs.declared.Told.{Told}
use Rattle.ft_trace.specs.OwnCursors.{plain_entry}
use Rattle.ft_bank.specs.declared.sections.Taking.{Taking}
use Rattle.ft_bank.specs.PassSections.{Stack, no_sections, nothing_taken}
use Rattle.ft_history.proofs.HistoryPlaces.{slice_get_push}
use Rattle.ft_history.proofs.Unbroken.{range_push}
use Rattle.ft_section.specs.declared.answers.Stamp.{Stamp}
use Rattle.ft_section.specs.Locking.{TakenUp, marks_more, waiting, with_own}
use Rattle.ft_bank_history.specs.Marks.{AreMarksFound, HasNamed}
use Rattle.ft_bank_history.specs.Numbering.{AreAllTold, HasNamedEntries}
use Rattle.ft_engine.specs.declared.caller.Flight.{Flight}
use Rattle.ft_engine.specs.declared.caller.Flight.TheVariants as flight
use Rattle.ft_engine.specs.Answering.{IsEndOf}
use Rattle.ft_engine.specs.Flights.{IsFlightAnswered, is_begin}
use Rattle.ft_engine.specs.Keeping.{AreThreadEntries, named_entry, made_entry, mark_count, marks_after, marks_due, section_marks, more_marks, open_marks, pending}
use Rattle.ft_engine.proofs.WaitCounts.{after_map, more_none, open_more, taken_up_marks, wait_counted, waiting_marks}

-- a call without an answer leaves nothing to expect
pub unanswered_pending : (f : Flight) → (IsFlightAnswered f → ⊥) → pending f ≡ []
unanswered_pending flight.Idle no_answer = refl
unanswered_pending (flight.Tried called) no_answer = refl
unanswered_pending (flight.Answered called said stamp) no_answer = absurd (no_answer tt)
unanswered_pending (flight.Refused called) no_answer = refl

unanswered_due : (f : Flight) (marks : List ℕ) → (IsFlightAnswered f → ⊥) → marks_due f marks ≡ marks
unanswered_due flight.Idle marks no_answer = refl
unanswered_due (flight.Tried called) marks no_answer = refl
unanswered_due (flight.Answered called said stamp) marks no_answer = absurd (no_answer tt)
unanswered_due (flight.Refused called) marks no_answer = refl

none_more : (count : ℕ) (xs : List ℕ) → more_marks count xs ≡ [] → xs ≡ []
none_more count [] is = refl
none_more count (x ∷ xs) is = absurd (let e : (x + count) ∷ more_marks count xs ≡ [] = is in cc)

pub no_answer_idle : (f : Flight) → f ≡ flight.Idle → IsFlightAnswered f → ⊥
no_answer_idle f is answered = subst IsFlightAnswered is answered

module _ (thread : ℕ) where
  -- a caller that has made no call
  pub kept_start : (s : Stack) → s.sections ≡ [] → AreThreadEntries thread [] s flight.Idle []
  kept_start s none = record {
    same = refl;
    own = All-nil (λ entry. entry.thread ≡ thread);
    indexes = refl;
    counted = λ place entry at. absurd (let e : None ≡ Some entry = at in cc);
    sections = ap (λ xs. reverse (map (λ section. section.marks) xs)) none;
    ends = tt;
  }

  module _ (entries : List Entry) (s : Stack) (f : Flight) (mine : List NamedEntry) (k : AreThreadEntries thread entries s f mine) where
    -- the pass has done what leaves its entries and its sections
    pub kept_same : (others : List Entry) (t : Stack) → others ≡ entries → t ≡ s → AreThreadEntries thread others t f mine
    kept_same others t same stack =
        subst (λ (x : List Entry × Stack). AreThreadEntries thread x.0 x.1 f mine) (λ d. (sym same d, sym stack d)) k

    module _ (no_answer : IsFlightAnswered f → ⊥) where
      kept_entries : entries ≡ reverse (map plain_entry mine)
      kept_entries = k.same ∙ ap (λ l. l ++ reverse (map plain_entry mine)) (unanswered_pending f no_answer)

      kept_marks : section_marks s ≡ more_marks (mark_count s.mark) (open_marks thread mine)
      kept_marks = k.sections ∙ unanswered_due f (more_marks (mark_count s.mark) (open_marks thread mine)) no_answer

      -- the call waits
      pub kept_waits : (t : Stack) (own : Taking) (q : ℕ) (called : Call) → t ≡ waiting (with_own s own) q → length mine + 1 ≤ 2 ^ 32 - 1 → AreThreadEntries thread entries t (flight.Tried called) mine
      kept_waits t own q called stack few = record {
        same = kept_entries;
        own = k.own;
        indexes = k.indexes;
        counted = k.counted;
        sections =
            ap section_marks stack
            ∙ (waiting_marks s own q
            ∙ (ap (map (λ n. min (n + marks_more s.mark) (2 ^ 32 - 1))) kept_marks
            ∙ (wait_counted s.mark thread mine few
            ∙ ap (λ (x : Stack). more_marks (mark_count x.mark) (open_marks thread mine)) (sym stack))));
        ends = tt;
      }

      -- it is tried again, or was refused
      kept_left : (t : Stack) → t ≡ with_own s nothing_taken → section_marks t ≡ more_marks (mark_count t.mark) (open_marks thread mine)
      kept_left t stack = ap section_marks stack ∙ (kept_marks ∙ ap (λ (x : Stack). more_marks (mark_count x.mark) (open_marks thread mine)) (sym stack))

      pub kept_again : (t : Stack) (called : Call) → t ≡ with_own s nothing_taken → AreThreadEntries thread entries t (flight.Tried called) mine
      kept_again t called stack = record { same = kept_entries; own = k.own; indexes = k.indexes; counted = k.counted; sections = kept_left t stack; ends = tt }

      pub kept_refused : (t : Stack) (called : Call) → t ≡ with_own s nothing_taken → AreThreadEntries thread entries t (flight.Refused called) mine
      kept_refused t called stack = record { same = kept_entries; own = k.own; indexes = k.indexes; counted = k.counted; sections = kept_left t stack; ends = tt }

      -- the caller gives up, with no section open
      pub kept_abandoned : (t : Stack) → s.sections ≡ [] → t ≡ no_sections → AreThreadEntries thread entries t flight.Idle mine
      kept_abandoned t none stack = record {
        same = kept_entries;
        own = k.own;
        indexes = k.indexes;
        counted = k.counted;
        sections =
            let none_open : open_marks thread mine ≡ [] = none_more (mark_count s.mark) (open_marks thread mine) (sym kept_marks ∙ ap (λ xs. reverse (map (λ section. section.marks) xs)) none) in
            ap section_marks stack ∙ ap (more_marks (mark_count t.mark)) (sym none_open);
        ends = tt;
      }

      ended : (called : Call) (said : Reply) → (called ≡ call.End → s.mark ≡ None) → IsEndOf called (section_marks s) said → IfEnds (begins_of mine) called (λ begun. IsCountedAs (marks_since thread mine begun) said)
      ended call.End said free end =
          by (begins_of mine) (kept_marks ∙ (ap (λ m. more_marks (mark_count m) (open_marks thread mine)) (free refl) ∙ more_none (open_marks thread mine)))
        where
          by : (begins : List NamedEntry) → section_marks s ≡ map (λ begun. marks_since thread mine begun) begins → IfInnermost begins (λ begun. IsCountedAs (marks_since thread mine begun) said)
          by [] is = tt
          by (b ∷ begins) is = subst (λ n. IsCountedAs n said) (ap (λ l. slice_index_or l 0 0) is) end
      ended (call.Begin a b) said free end = tt
      ended (call.Dict o c) said free end = tt
      ended (call.List o c) said free end = tt
      ended (call.Set o c) said free end = tt
      ended (call.Deque o c) said free end = tt
      ended (call.Next n) said free end = tt
      ended call.Quiesce said free end = tt
      ended (call.Await thread index) said free end = tt
      ended call.Dump said free end = tt

      -- it has its answer
      pub kept_answered : (others : List Entry) (t : Stack) (called : Call) (said : Reply) (stamp : Stamp) → others ≡ made_entry called said stamp ∷ entries → section_marks t ≡ marks_after called (section_marks s) → t.mark ≡ s.mark → (called ≡ call.End → s.mark ≡ None) → IsEndOf called (section_marks s) said → AreThreadEntries thread others t (flight.Answered called said stamp) mine
      kept_answered others t called said stamp entry marks mark free end = record {
        same = entry ∙ ap (λ l. made_entry called said stamp ∷ l) kept_entries;
        own = k.own;
        indexes = k.indexes;
        counted = k.counted;
        sections = marks ∙ (ap (marks_after called) kept_marks ∙ ap (λ m. marks_after called (more_marks (mark_count m) (open_marks thread mine))) (sym mark));
        ends = ended called said free end;
      }

  module _ (entries : List Entry) (s : Stack) (called : Call) (said : Reply) (stamp : Stamp) (mine : List NamedEntry) (k : AreThreadEntries thread entries s (flight.Answered called said stamp) mine) where
    -- the innermost section has to wait for its locks
    pub kept_waits_on : (t : Stack) (own : Taking) (q : ℕ) → is_begin called ≡ false → t ≡ waiting (with_own s own) q → length mine + 1 ≤ 2 ^ 32 - 1 → AreThreadEntries thread entries t (flight.Answered called said stamp) mine
    kept_waits_on t own q no_begin stack few = record {
      same = k.same;
      own = k.own;
      indexes = k.indexes;
      counted = k.counted;
      sections =
          let xs = more_marks (mark_count s.mark) (open_marks thread mine) in
          ap section_marks stack
          ∙ (waiting_marks s own q
          ∙ (ap (map (λ n. min (n + marks_more s.mark) (2 ^ 32 - 1))) k.sections
          ∙ (after_map (λ n. min (n + marks_more s.mark) (2 ^ 32 - 1)) called xs no_begin
          ∙ (ap (marks_after called) (wait_counted s.mark thread mine few)
          ∙ ap (λ (x : Stack). marks_after called (more_marks (mark_count x.mark) (open_marks thread mine))) (sym stack)))));
      ends = k.ends;
    }

    -- the call has ended
    module _ (t : Stack) (up : TakenUp s t) where
      abbrev pub e : NamedEntry
      e = named_entry thread mine called said stamp s.mark

      counted_all : EachAt (mine ++ e ∷ []) (λ place entry. IfEnds (begins_of (take place (mine ++ e ∷ []))) entry.call (λ begun. IsCountedAs (marks_since entry.thread (take place (mine ++ e ∷ [])) begun) entry.reply))
      counted_all place entry at =
          ⊎_elim
          (λ (there : slice_get mine place ≡ Some entry).
          let low = slice_get_within mine place entry there in
          subst (λ (es : List NamedEntry). IfEnds (begins_of es) entry.call (λ begun. IsCountedAs (marks_since entry.thread es begun) entry.reply)) (sym (take-append-le place mine (e ∷ []) (omega (arith, low))))
          (k.counted place entry there))
          (λ (end : (place ≡ length mine) × (e ≡ entry)).
          subst (λ (x : NamedEntry). IfEnds (begins_of (take place (mine ++ e ∷ []))) x.call (λ begun. IsCountedAs (marks_since x.thread (take place (mine ++ e ∷ [])) begun) x.reply)) end.1
          (subst (λ (es : List NamedEntry). IfEnds (begins_of es) called (λ begun. IsCountedAs (marks_since thread es begun) said)) (sym (take_at mine (e ∷ []) place (sym end.0))) k.ends))
          (slice_get_push mine e place entry at)

      pub kept_done : AreThreadEntries thread entries t flight.Idle (mine ++ e ∷ [])
      kept_done = record {
        same = k.same ∙ sym (ap reverse (map-append plain_entry mine (e ∷ [])) ∙ reverse-append (map plain_entry mine) (plain_entry e ∷ []));
        own = All-push (λ entry. entry.thread ≡ thread) mine e k.own refl;
        indexes =
            map_push (λ entry. entry.index) mine e ∙ ap (λ (ks : List ℕ). ks ++ e.index ∷ []) k.indexes
            ∙ ap (λ n. range_with_len 1 (length mine) ++ n ∷ []) (let i : length mine + 1 ≡ 1 + length mine = omega arith in i)
            ∙ sym (range_push 1 (length mine)) ∙ ap (range_with_len 1) (sym (length_push mine e));
        counted = counted_all;
        sections =
            taken_up_marks s t up
            ∙ (k.sections
            ∙ (sym (open_more thread mine e k.indexes refl refl)
            ∙ (sym (more_none (open_marks thread (mine ++ e ∷ [])))
            ∙ ap (λ m. more_marks (mark_count m) (open_marks thread (mine ++ e ∷ []))) (sym up.mark))));
        ends = tt;
      }

  -- when all calls have ended
  pub kept_of : (entries : List Entry) (s : Stack) (mine : List NamedEntry) (had found : List Owner) (told : List Told) → AreThreadEntries thread entries s flight.Idle mine → AreMarksFound found mine → HasNamed thread had mine → AreAllTold thread entries told → HasNamedEntries thread mine entries had found told
  kept_of entries s mine had found told k marked named all = record {
    same = sym (ap reverse k.same ∙ reverse-reverse (map plain_entry mine));
    own = k.own;
    indexes = k.indexes;
    counted = k.counted;
    marked = marked;
    named = named;
    all_told = all;
  }
