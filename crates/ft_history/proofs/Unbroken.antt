-- A history is legal exactly where it breaks no rule at any place.
use Rattle.std.proofs.Common.{◌≡◌, ℕ, zero, suc, ◌+◌, ◌<◌, ◌≤◌, true, false, List, [], ◌∷◌, ◌++◌, map, length, take, drop, get_or, Some, refl, sym, ap, subst, ◌∙◌, arith, cond, ◌==◌}
use Rattle.std.specs.List.{filter, range_with_len}
use Rattle.std.specs.List.Sorted.{IsSorted}
use Rattle.std.specs.Ordering.{is_lt}
use Rattle.std.specs.Option.{option_map}
use Rattle.std.specs.Prelude.{slice_get}
use Rattle.std.proofs.Math.Numerals.{add-one}
use Rattle.std.proofs.lemmas.Bool.{eq-eqb, eqb-true}
use Rattle.std.proofs.lemmas.Bool.Decides.{nat_tests}
use Rattle.std.proofs.lemmas.List.{map_push, length_push, length-map, append-nil, take_all}
use Rattle.std.proofs.lemmas.Option.{slice_get-map, slice_get-get_or, slice_get_within}
use Rattle.ft_model.specs.declared.call.Call.{Call}
use Rattle.ft_model.specs.declared.entry.Entry.{Entry}
use Rattle.ft_model.specs.declared.entry.Rule.{Rule}
use Rattle.ft_model.specs.declared.entry.Rule.TheVariants as rule
use Rattle.ft_model.specs.declared.entry.Storage.{Storage}
use Rattle.ft_model.specs.declared.script.ScriptParts.{ScriptParts}
use Rattle.ft_model.specs.Answers.{answer}
use Rattle.ft_model.specs.Histories.{history_cmp, writes, world_at, entries_of, calls_of, hands_at, IsReplied, IsWhole, IsLegal}
use Rattle.ft_model.specs.Judging.{IsNext, IsStamped, IsAfter, Holds, IsComplete, HoldsAtEnd, IsUnbroken}
use Rattle.ft_history.proofs.HistoryPlaces.{take_next, drop_here, filter_next, filter_parts, slice_get_at, count_next, by_places}

-- ---- what a thread has done of its calls

-- these entries are the first of the calls, in order, under indexes from 1
pub record IsFront (calls : List Call) (front : List Entry) : Type 0 where
  pub made : map (λ (e : Entry). e.call) front ≡ take (length front) calls
  pub indexes : map (λ (e : Entry). e.index) front ≡ range_with_len 1 (length front)

pub range_push : (a n : ℕ) → range_with_len a (n + 1) ≡ range_with_len a n ++ (a + n) ∷ []
range_push a zero = ap (λ k. k ∷ []) (omega arith)
range_push a (suc n) = rw add-one (ap (λ ks. a ∷ ks) (sym (ap (range_with_len (a + 1)) (add-one n)) ∙ range_push (a + 1) n ∙ ap (λ k. range_with_len (a + 1) n ++ k ∷ []) (omega arith)))

pub range_at : (a n k : ℕ) → k < n → slice_get (range_with_len a n) k ≡ Some (a + k)
range_at a zero k low = absurd (omega arith)
range_at a (suc n) zero low = ap Some (omega arith)
range_at a (suc n) (suc k) low = range_at (a + 1) n k (omega arith) ∙ ap Some (omega arith)

pub IsFront-push : (calls : List Call) (front : List Entry) (entry : Entry) → IsFront calls front → entry.index ≡ length front + 1 → slice_get calls (length front) ≡ Some entry.call → IsFront calls (front ++ entry ∷ [])
IsFront-push calls front entry is_front index call =
    record {
      made = map_push (λ (e : Entry). e.call) front entry ∙ ap (λ (cs : List Call). cs ++ entry.call ∷ []) is_front.made ∙ sym (take_next calls (length front) entry.call call) ∙ ap (λ n. take n calls) (sym (length_push front entry));
      indexes = map_push (λ (e : Entry). e.index) front entry ∙ ap (λ (ks : List ℕ). ks ++ entry.index ∷ []) is_front.indexes ∙ ap (λ k. range_with_len 1 (length front) ++ k ∷ []) (let e : entry.index ≡ 1 + length front = omega arith in e) ∙ sym (range_push 1 (length front)) ∙ ap (range_with_len 1) (sym (length_push front entry));
    }

-- ---- from a legal history

module _ (storage : Storage) (script : ScriptParts) (entries : List Entry) (legal : IsLegal storage script entries) where
  pub next_of_legal : (place : ℕ) (entry : Entry) → slice_get entries place ≡ Some entry → IsNext script entries place entry
  next_of_legal place entry at =
      let mine = λ (e : Entry). e.thread == entry.thread in
      let front = filter mine (take place entries) in
      let rest = filter mine (drop (place + 1) entries) in
      let split : entries_of entry.thread entries ≡ front ++ entry ∷ rest = filter_parts mine entries place ∙ ap (λ (r : List Entry). front ++ filter mine r) (drop_here entries place entry at) ∙ ap (λ b. front ++ cond b (entry ∷ rest) rest) (eq-eqb entry.thread entry.thread refl) in
      let here : slice_get (entries_of entry.thread entries) (length front) ≡ Some entry = ap (λ (es : List Entry). slice_get es (length front)) split ∙ slice_get_at front rest entry in
      let low : length front < length (entries_of entry.thread entries) = slice_get_within _ _ _ here in
      record {
        index =
            let by_range : Some entry.index ≡ Some (1 + length front) =
            sym (slice_get-map (λ (e : Entry). e.index) (entries_of entry.thread entries) (length front) ∙ ap (option_map (λ (e : Entry). e.index)) here)
            ∙ ap (λ (ks : List ℕ). slice_get ks (length front)) (legal.chronicle.whole.indexes entry.thread) ∙ range_at 1 _ _ low in
            let e : entry.index ≡ 1 + length front = cc in omega arith;
        call =
            ap (λ (cs : List Call). slice_get cs (length front)) (sym (legal.chronicle.whole.calls entry.thread))
            ∙ slice_get-map (λ (e : Entry). e.call) (entries_of entry.thread entries) (length front) ∙ ap (option_map (λ (e : Entry). e.call)) here;
      }

  after_of_legal : (place : ℕ) (entry : Entry) → slice_get entries place ≡ Some entry → IsAfter entries place entry
  after_of_legal place entry at last before next before_at read_before read same =
      let low : last + 1 < length entries = let w = slice_get_within entries place entry at in omega arith in
      let e0 : get_or entries last before ≡ before = cc (slice_get-get_or entries last before (omega arith)) in
      let e1 : get_or entries (last + 1) before ≡ entry = cc (slice_get-get_or entries (last + 1) before low) in
      rw (e0, e1) at (legal.order last before (omega arith) low)

  holds_of_legal : (place : ℕ) (entry : Entry) → slice_get entries place ≡ Some entry → (r : Rule) → Holds storage script entries r place entry
  holds_of_legal place entry at rule.Whole = next_of_legal place entry at
  holds_of_legal place entry at rule.Stamp = record { stamp = (legal.chronicle.answered place entry at).stamp; wrote = (legal.chronicle.answered place entry at).wrote }
  holds_of_legal place entry at rule.Order = after_of_legal place entry at
  holds_of_legal place entry at rule.Reply = subst (λ n. IsReplied entry.call entry.reply (answer (world_at script entries n) (hands_at script entries entry.thread place) entry.call).reply) (legal.chronicle.answered place entry at).stamp (legal.chronicle.answered place entry at).reply
  holds_of_legal place entry at rule.Await = legal.chronicle.awaited place entry at
  holds_of_legal place entry at rule.Mark = legal.chronicle.marked place entry at
  holds_of_legal place entry at rule.Kept = legal.chronicle.kept place entry at
  holds_of_legal place entry at rule.Suspended = legal.chronicle.counted place entry at
  holds_of_legal place entry at rule.Memory = legal.chronicle.earned place entry at
  holds_of_legal place entry at rule.Missing = tt
  holds_of_legal place entry at rule.World = tt

  complete_of_legal : IsComplete script entries
  complete_of_legal thread = omega (arith, ap length (legal.chronicle.whole.calls thread), length-map (entries_of thread entries) (λ (e : Entry). e.call))

  holds_at_end : (r : Rule) → HoldsAtEnd script entries r
  holds_at_end rule.Missing = complete_of_legal
  holds_at_end rule.Whole = tt
  holds_at_end rule.Stamp = tt
  holds_at_end rule.Order = tt
  holds_at_end rule.Reply = tt
  holds_at_end rule.Await = tt
  holds_at_end rule.Mark = tt
  holds_at_end rule.Kept = tt
  holds_at_end rule.Suspended = tt
  holds_at_end rule.Memory = tt
  holds_at_end rule.World = tt

  pub unbroken_of_legal : IsUnbroken storage script entries
  unbroken_of_legal place r = record { entry = λ entry at. holds_of_legal place entry at r; after = λ _. holds_at_end r }

-- ---- from one that breaks no rule

later : (a b : Entry) → b.stamp < a.stamp → is_lt (history_cmp a b) ≡ false
later a b lt = grind (arith, nat_tests)

write_after_read : (a b : Entry) → a.stamp ≡ b.stamp → a.wrote ≡ true → b.wrote ≡ false → is_lt (history_cmp a b) ≡ false
write_after_read a b same write read = grind (arith, nat_tests)

module _ (script : ScriptParts) (entries : List Entry) (next : (place : ℕ) (entry : Entry) → slice_get entries place ≡ Some entry → IsNext script entries place entry) where
  front_next : (thread n : ℕ) (entry : Entry) → slice_get entries n ≡ Some entry → IsFront (calls_of script thread) (entries_of thread (take n entries)) → IsFront (calls_of script thread) (entries_of thread (take (n + 1) entries))
  front_next thread n entry at is_front =
      let front = entries_of thread (take n entries) in
      subst (IsFront (calls_of script thread)) (sym (filter_next entries n entry at (λ (e : Entry). e.thread == thread)))
      (elim (entry.thread == thread) as (λ b. (entry.thread == thread) ≡ b → IsFront (calls_of script thread) (front ++ cond b (entry ∷ []) [])) [
        | true ↦ λ mine.
            let same : entry.thread ≡ thread = eqb-true _ _ mine in
            IsFront-push (calls_of script thread) front entry is_front
            ((next n entry at).index ∙ ap (λ t. length (entries_of t (take n entries)) + 1) same)
            (ap (λ t. slice_get (calls_of script t) (length (entries_of t (take n entries)))) (sym same) ∙ (next n entry at).call)
        | false ↦ λ other. subst (IsFront (calls_of script thread)) (sym (append-nil front)) is_front
      ] refl)

  -- the entries of a thread before a place are the first of its calls
  pub fronts : (thread n : ℕ) → n ≤ length entries → IsFront (calls_of script thread) (entries_of thread (take n entries))
  fronts thread n within = by_places (λ m. IsFront (calls_of script thread) (entries_of thread (take m entries))) entries (record { made = refl; indexes = refl }) (λ m entry at so_far. front_next thread m entry at so_far) n within

module _ (storage : Storage) (script : ScriptParts) (entries : List Entry) (unbroken : IsUnbroken storage script entries) where
  stamped : (place : ℕ) (entry : Entry) → slice_get entries place ≡ Some entry → IsStamped entries place entry
  stamped place entry at = (unbroken place rule.Stamp).entry entry at

  order_of_unbroken : IsSorted history_cmp entries
  order_of_unbroken k d low within =
      let e0 : Entry = get_or entries k d in
      let e1 : Entry = get_or entries (k + 1) d in
      let at0 : slice_get entries k ≡ Some e0 = slice_get-get_or entries k d (omega arith) in
      let at1 : slice_get entries (k + 1) ≡ Some e1 = slice_get-get_or entries (k + 1) d within in
      let s0 : e0.stamp ≡ length (writes (take k entries)) = (stamped k e0 at0).stamp in
      let s1 : e1.stamp ≡ length (writes (take k entries)) + cond e0.wrote 1 0 = (stamped (k + 1) e1 at1).stamp ∙ count_next entries k e0 at0 in
      elim e0.wrote as (λ b. e0.wrote ≡ b → e1.stamp ≡ length (writes (take k entries)) + cond b 1 0 → is_lt (history_cmp e1 e0) ≡ false) [
        | true ↦ λ write after. later e1 e0 (omega arith)
        | false ↦ λ read after.
            let same : e1.stamp ≡ e0.stamp = omega arith in
            elim e1.wrote as (λ b. e1.wrote ≡ b → is_lt (history_cmp e1 e0) ≡ false) [
              | true ↦ λ write. write_after_read e1 e0 same write read
              | false ↦ λ both. (unbroken (k + 1) rule.Order).entry e1 at1 k e0 refl at0 read both (sym same)
            ] refl
      ] refl s1

  whole_of_unbroken : IsWhole script entries
  whole_of_unbroken =
      let front : (thread : ℕ) → IsFront (calls_of script thread) (entries_of thread entries) = λ thread. subst (λ es. IsFront (calls_of script thread) (entries_of thread es)) (take_all (length entries) entries (omega arith)) (fronts script entries (λ place entry at. (unbroken place rule.Whole).entry entry at) thread (length entries) (omega arith)) in
      record {
        calls = λ thread. (front thread).made ∙ take_all _ _ ((unbroken (length entries) rule.Missing).after refl thread);
        indexes = λ thread. (front thread).indexes;
      }

  pub legal_of_unbroken : IsLegal storage script entries
  legal_of_unbroken =
      record {
        order = order_of_unbroken;
        chronicle = record {
          whole = whole_of_unbroken;
          answered = λ place entry at.
              record {
                stamp = (stamped place entry at).stamp;
                wrote = (stamped place entry at).wrote;
                reply = subst (λ n. IsReplied entry.call entry.reply (answer (world_at script entries n) (hands_at script entries entry.thread place) entry.call).reply) (sym (stamped place entry at).stamp) ((unbroken place rule.Reply).entry entry at);
              };
          awaited = λ place entry at. (unbroken place rule.Await).entry entry at;
          marked = λ place entry at. (unbroken place rule.Mark).entry entry at;
          kept = λ place entry at. (unbroken place rule.Kept).entry entry at;
          counted = λ place entry at. (unbroken place rule.Suspended).entry entry at;
          earned = λ place entry at. (unbroken place rule.Memory).entry entry at;
        };
      }
