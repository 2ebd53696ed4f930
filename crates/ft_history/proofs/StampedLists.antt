-- Lists of entries that are whole and whose stamps are right: what stands before a place follows from the entry there.
use Rattle.std.proofs.Common.{◌≡◌, ℕ, ◌+◌, ◌-◌, ◌<◌, List, [], ◌∷◌, ◌++◌, length, take, drop, refl, sym, ap, ◌∙◌, arith, cond, map, Some, ◌==◌}
use Rattle.std.specs.List.{filter, between}
use Rattle.std.specs.Prelude.{slice_get}
use Rattle.std.proofs.lemmas.Bool.{eq-eqb}
use Rattle.std.proofs.lemmas.List.{length-map, length_push}
use Rattle.std.proofs.lemmas.Option.{slice_get_within, get_or_from_slice_get}
use Rattle.ft_model.specs.declared.entry.Entry.{Entry}
use Rattle.ft_model.specs.declared.script.ScriptParts.{ScriptParts}
use Rattle.ft_model.specs.Histories.{writes, entries_of, IsWhole, EachAt}
use Rattle.ft_history.proofs.FilteredParts.{passed_before, passed_between, passed_at, key_at}
use Rattle.ft_history.proofs.HistoryPlaces.{filter_next, count_next}

-- the entries that are marked as writes
abbrev pub written : List Entry → List Entry
written entries = filter (λ (e : Entry). e.wrote) entries

-- each stamp is the number of writes before it
abbrev pub AreStamped : List Entry → Type 0
AreStamped entries = EachAt entries (λ place entry. entry.stamp ≡ length (writes (take place entries)))

pub count_writes : (entries : List Entry) → length (writes entries) ≡ length (written entries)
count_writes entries = length-map (written entries) (λ (e : Entry). e.call)

module _ (entries : List Entry) (numbered : AreStamped entries) (place : ℕ) (entry : Entry) (at : slice_get entries place ≡ Some entry) where
  pub stamp_is : length (written (take place entries)) ≡ entry.stamp
  stamp_is = sym (numbered place entry at ∙ count_writes (take place entries))

  pub written_before : written (take place entries) ≡ take entry.stamp (written entries)
  written_before = passed_before (λ (e : Entry). e.wrote) entries place ∙ ap (λ n. take n (written entries)) stamp_is

  pub writes_before_entry : writes (take place entries) ≡ map (λ (e : Entry). e.call) (take entry.stamp (written entries))
  writes_before_entry = ap (map (λ (e : Entry). e.call)) written_before

  -- the number of the first write after it
  pub next_write : length (written (take (place + 1) entries)) ≡ entry.stamp + cond entry.wrote 1 0
  next_write = omega (arith, count_writes (take (place + 1) entries), count_next entries place entry at, numbered place entry at)

module _ (script : ScriptParts) (entries : List Entry) (whole : IsWhole script entries) (place : ℕ) (entry : Entry) (at : slice_get entries place ≡ Some entry) where
  abbrev mine : List Entry → List Entry
  mine es = entries_of entry.thread es

  pub index_is : length (mine (take place entries)) + 1 ≡ entry.index
  index_is =
      let k = length (mine (take place entries)) in
      let here : slice_get (mine entries) k ≡ Some entry = passed_at (λ (e : Entry). e.thread == entry.thread) entries place entry at (eq-eqb entry.thread entry.thread refl) in
      let low : k < length (mine entries) = slice_get_within (mine entries) k entry here in
      let is : entry.index ≡ 1 + k = ap (λ (e : Entry). e.index) (sym (get_or_from_slice_get (mine entries) k entry entry here)) ∙ key_at (λ (e : Entry). e.index) (mine entries) 1 (whole.indexes entry.thread) k entry low in
      omega arith

  pub mine_before : mine (take place entries) ≡ take (entry.index - 1) (mine entries)
  mine_before = passed_before (λ (e : Entry). e.thread == entry.thread) entries place ∙ ap (λ n. take n (mine entries)) (omega (arith, index_is))

  -- its index is how many its thread's entries are up to it
  pub mine_through : length (mine (take (place + 1) entries)) ≡ entry.index
  mine_through =
      ap length (filter_next entries place entry at (λ (e : Entry). e.thread == entry.thread) ∙ ap (λ b. mine (take place entries) ++ cond b (entry ∷ []) []) (eq-eqb entry.thread entry.thread refl))
      ∙ length_push (mine (take place entries)) entry ∙ index_is

-- ---- between an earlier entry and this one

module _ (entries : List Entry) (start : ℕ) (begun : Entry) (begun_at : slice_get entries start ≡ Some begun) (place : ℕ) (entry : Entry) (at : slice_get entries place ≡ Some entry) (before : start < place) where
  -- the writes are those of certain numbers
  pub written_between : AreStamped entries → written (between (start + 1) place entries) ≡ drop (begun.stamp + cond begun.wrote 1 0) (take entry.stamp (written entries))
  written_between numbered =
      passed_between (λ (e : Entry). e.wrote) entries (start + 1) place (omega arith)
      ∙ ap (λ n. drop n (take (length (written (take place entries))) (written entries))) (next_write entries numbered start begun begun_at)
      ∙ ap (λ n. drop (begun.stamp + cond begun.wrote 1 0) (take n (written entries))) (stamp_is entries numbered place entry at)

  -- the thread's entries are those of certain indexes
  pub mine_between : (script : ScriptParts) → IsWhole script entries → begun.thread ≡ entry.thread → entries_of entry.thread (between (start + 1) place entries) ≡ drop begun.index (take (entry.index - 1) (entries_of entry.thread entries))
  mine_between script whole same =
      let through : length (entries_of entry.thread (take (start + 1) entries)) ≡ begun.index = ap (λ t. length (entries_of t (take (start + 1) entries))) (sym same) ∙ mine_through script entries whole start begun begun_at in
      let front : length (entries_of entry.thread (take place entries)) ≡ entry.index - 1 = omega (arith, index_is script entries whole place entry at) in
      passed_between (λ (e : Entry). e.thread == entry.thread) entries (start + 1) place (omega arith)
      ∙ ap (λ n. drop n (take (length (entries_of entry.thread (take place entries))) (entries_of entry.thread entries))) through
      ∙ ap (λ n. drop begun.index (take n (entries_of entry.thread entries))) front
