-- Only calls that can add take tables, and a call that raises a MemoryError is one of them that took none.
use Rattle.std.proofs.Common.{◌≡◌, ℕ, suc, zero, ◌+◌, ◌-◌, ◌≤◌, Bool, true, false, cond, List, [], ◌∷◌, map, length, take, get_or, Option, Some, None, refl, sym, ap, subst, ◌∙◌, arith, inl, inr}
use Rattle.std.specs.Prelude.{◌==◌, All, filter, slice_get}
use Rattle.std.specs.Option.{option_map_or}
use Rattle.std.specs.List.{count_by, sum_by, range_with_len}
use Rattle.std.proofs.lemmas.Bool.{and_parts, false≢true}
use Rattle.std.proofs.lemmas.List.Elements.{All-nil, All-cons, All-head, All-tail, All-set}
use Rattle.std.proofs.lemmas.List.{length-map}
use Rattle.std.proofs.lemmas.List.Sums.{count_by-le-length, length-filter, sum_by-cons, sum_by_more_le}
use Rattle.std.proofs.lemmas.Option.{get_or_from_slice_get, slice_get-get_or, slice_get_within}
use Rattle.ft_model.specs.declared.call.Call.{Call}
use Rattle.ft_model.specs.declared.call.Call.TheVariants as call
use Rattle.ft_model.specs.declared.call.TableChange.{TableChange}
use Rattle.ft_model.specs.declared.call.TableChange.TheVariants as change
use Rattle.ft_model.specs.declared.content.Content.{Content}
use Rattle.ft_model.specs.declared.entry.Entry.{Entry}
use Rattle.ft_model.specs.declared.entry.Storage.TheVariants as storage
use Rattle.ft_model.specs.declared.reply.Reply.{Reply}
use Rattle.ft_model.specs.declared.reply.Reply.TheVariants as reply
use Rattle.ft_model.specs.declared.reply.Raise.TheVariants as raise
use Rattle.ft_model.specs.declared.script.Declaration.{Declaration}
use Rattle.ft_model.specs.declared.script.Thread.{Thread}
use Rattle.ft_model.specs.declared.script.ScriptParts.{ScriptParts}
use Rattle.ft_model.specs.Answers.{after_write, is_memory, world_by}
use Rattle.ft_model.specs.Boxings.{boxes, boxings}
use Rattle.ft_model.specs.Calls.{adds, can_add, dict_change, list_change, set_change, deque_change}
use Rattle.ft_model.specs.Histories.{calls_of, entries_of, writes, IsLegal, IsWhole}
use Rattle.ft_model.specs.TableUses.{StoredWorld, TableUse, after_stored, can_leave_split, change_leaves, change_takes, copy_leaves, copy_takes, grown_table, is_class, is_split, leaves_tables, no_table, start_table, supply_of, table_at, taken, takes, takes_class, takes_in, takes_out, takings, IsEarnedReply}
use Rattle.ft_history.proofs.AccountLemmas.{start_stored}
use Rattle.ft_model.specs.Scripts.{IsScript}
use Rattle.ft_model.proofs.SplitDicts.{unsplit_takes, unsplit_leaves}
use Rattle.ft_model.proofs.StoredLaws.{stored_world}
use Rattle.ft_model.specs.Worlds.{starts_of, start_in, dict_at, set_at}
use Rattle.ft_history.specs.EnoughTables.{adding_calls, HasEnoughPlaces, HasEnoughTables, StaysWithinCaps}
use Rattle.ft_history.proofs.EnoughPlaces.{one_more_box}
use Rattle.ft_history.proofs.ScriptLemmas.{unsplit_start}
use Rattle.ft_history.proofs.FewEntries.{all_counted, length-entries_of, sum_le, sum_places, threads_low}

-- ---- only a call that can add takes a table

change_adds : (changes : TableChange) (grown copied : Option ℕ) (class : ℕ) → is_class class (change_takes changes grown copied) ≡ true → adds changes ≡ true
change_adds change.Stays grown copied class takes = absurd (false≢true takes)
change_adds change.Grows grown copied class takes = refl
change_adds (change.CopiesTo other) grown copied class takes = refl
change_adds change.GivesUp grown copied class takes = absurd (false≢true takes)

-- no table says that a dict is split
abbrev AreUnsplit : List TableUse → Type 0
AreUnsplit tables = All (λ (table : TableUse). table.keys ≡ []) tables

unsplit_at : (tables : List TableUse) (place : ℕ) → AreUnsplit tables → (table_at tables place).keys ≡ []
unsplit_at [] place unsplit = refl
unsplit_at (first ∷ tables) zero unsplit = All-head (λ (table : TableUse). table.keys ≡ []) first tables unsplit
unsplit_at (first ∷ tables) (suc place) unsplit = unsplit_at tables place (All-tail (λ (table : TableUse). table.keys ≡ []) first tables unsplit)

grown_unsplit : (table : TableUse) (takes : Option ℕ) (added count : ℕ) → table.keys ≡ [] → (grown_table table takes added count).keys ≡ []
grown_unsplit table None added count none = none
grown_unsplit table (Some class) added count none = refl

copy_unsplit : (count : ℕ) → (copy_leaves count).keys ≡ []
copy_unsplit count = elim (copy_takes count) as (λ o. (option_map_or (λ class. taken class count) o no_table).keys ≡ []) [ None ↦ refl | Some class ↦ refl ]

change_unsplit : (tables : List TableUse) (place : ℕ) (changes : TableChange) (grown copied : TableUse) → AreUnsplit tables → grown.keys ≡ [] → copied.keys ≡ [] → AreUnsplit (change_leaves tables place changes grown copied)
change_unsplit tables place change.Stays grown copied unsplit one other = unsplit
change_unsplit tables place change.Grows grown copied unsplit one other = All-set (λ (table : TableUse). table.keys ≡ []) tables place grown one unsplit
change_unsplit tables place (change.CopiesTo at) grown copied unsplit one other = All-set (λ (table : TableUse). table.keys ≡ []) tables at copied other unsplit
change_unsplit tables place change.GivesUp grown copied unsplit one other = All-set (λ (table : TableUse). table.keys ≡ []) tables place no_table refl unsplit

module _ (old new : List Content) (tables : List TableUse) (unsplit : AreUnsplit tables) where
  taking_adds : (called : Call) (class : ℕ) → is_class class (takes_class old new tables called) ≡ true → can_add called ≡ true
  taking_adds (call.Dict place dict_call) class takes =
      change_adds (dict_change dict_call) _ _ class
      (ap (is_class class) (sym (unsplit_takes (table_at tables place) dict_call (dict_at old place) (dict_at new place) (unsplit_at tables place unsplit))) ∙ takes)
  taking_adds (call.List place list_call) class takes = change_adds (list_change list_call) _ _ class takes
  taking_adds (call.Set place set_call) class takes = change_adds (set_change set_call) _ _ class takes
  taking_adds (call.Deque place deque_call) class takes = change_adds (deque_change deque_call) _ _ class takes
  taking_adds called class takes = absurd (false≢true takes)

  still_unsplit : (called : Call) (takes : Option ℕ) → AreUnsplit (leaves_tables old new tables called takes)
  still_unsplit (call.Dict place dict_call) takes =
      subst AreUnsplit (sym (unsplit_leaves tables place dict_call (dict_at old place) (dict_at new place) takes (unsplit_at tables place unsplit)))
      (change_unsplit tables place (dict_change dict_call) (grown_table (table_at tables place) takes ((dict_at new place).next - (dict_at old place).next) (length (dict_at new place).pairs)) (copy_leaves (length (dict_at old place).pairs)) unsplit
      (grown_unsplit (table_at tables place) takes ((dict_at new place).next - (dict_at old place).next) (length (dict_at new place).pairs) (unsplit_at tables place unsplit)) (copy_unsplit (length (dict_at old place).pairs)))
  still_unsplit (call.List place list_call) takes = change_unsplit tables place (list_change list_call) _ _ unsplit (grown_unsplit (table_at tables place) takes 0 0 (unsplit_at tables place unsplit)) refl
  still_unsplit (call.Set place set_call) takes =
      change_unsplit tables place (set_change set_call) _ _ unsplit (grown_unsplit (table_at tables place) takes ((set_at new place).next - (set_at old place).next) (length (set_at new place).elements) (unsplit_at tables place unsplit)) refl
  still_unsplit (call.Deque place deque_call) takes = change_unsplit tables place (deque_change deque_call) _ _ unsplit (grown_unsplit (table_at tables place) takes 0 0 (unsplit_at tables place unsplit)) refl
  still_unsplit called takes = unsplit

abbrev count_of : Bool → ℕ
count_of b = cond b 1 0

one_le : (a b : Bool) → (a ≡ true → b ≡ true) → count_of a ≤ count_of b
one_le true b then = let is = ap count_of (then refl) in omega (arith, is)
one_le false b then = omega arith

few_takings : (stored : StoredWorld) (class : ℕ) (calls : List Call) → AreUnsplit stored.tables → count_by (is_class class) (takings stored calls) ≤ count_by can_add calls
few_takings stored class [] unsplit = omega arith
few_takings stored class (called ∷ calls) unsplit =
    let one = one_le (is_class class (takes_in stored called)) (can_add called) (taking_adds stored.world (after_write stored.world called) stored.tables unsplit called class) in
    let rest = few_takings (after_stored stored called) class calls (still_unsplit stored.world (after_write stored.world called) stored.tables unsplit called (takes_in stored called)) in
    let left = sum_by-cons (λ (o : Option ℕ). cond (is_class class o) 1 0) (takes_in stored called) (takings (after_stored stored called) calls) in
    let right = sum_by-cons (λ (c : Call). cond (can_add c) 1 0) called calls in
    omega (arith, one, rest, left, right)

-- ---- no dict of a script is split

start_unsplit : (containers : List Declaration) → All (λ (container : Declaration). container.start.keys ≡ []) containers → AreUnsplit (map start_table (starts_of containers))
start_unsplit [] unsplit = All-nil (λ (table : TableUse). table.keys ≡ [])
start_unsplit (container ∷ containers) unsplit =
    All-cons (λ (table : TableUse). table.keys ≡ []) (start_table container.start) (map start_table (starts_of containers))
    (All-head (λ (c : Declaration). c.start.keys ≡ []) container containers unsplit)
    (start_unsplit containers (All-tail (λ (c : Declaration). c.start.keys ≡ []) container containers unsplit))

none_shared : (containers : List Declaration) (place : ℕ) → All (λ (container : Declaration). container.start.keys ≡ []) containers → (start_in (starts_of containers) place).keys ≡ []
none_shared [] place unsplit = refl
none_shared (container ∷ containers) zero unsplit = All-head (λ (c : Declaration). c.start.keys ≡ []) container containers unsplit
none_shared (container ∷ containers) (suc place) unsplit = none_shared containers place (All-tail (λ (c : Declaration). c.start.keys ≡ []) container containers unsplit)

pub never_leaves : (containers : List Declaration) → All (λ (container : Declaration). container.start.keys ≡ []) containers → (called : Call) → can_leave_split (starts_of containers) called ≡ true → ⊥
never_leaves containers unsplit (call.Dict place dict_call) can =
    false≢true (ap is_split (sym (none_shared containers place unsplit)) ∙ (and_parts (takes_out dict_call) (is_split (start_in (starts_of containers) place).keys) can).1)
never_leaves containers unsplit called can = false≢true can

-- ---- the calls of a history that can add are the script's

abbrev can_add_at : Entry → Bool
can_add_at entry = can_add entry.call

few_written : (entries : List Entry) → count_by can_add (writes entries) ≤ count_by can_add_at entries
few_written [] = omega arith
few_written (entry ∷ entries) =
    let rest = few_written entries in
    let all = sum_by-cons (λ (e : Entry). cond (can_add_at e) 1 0) entry entries in
    elim entry.wrote as (λ (b : Bool). count_by can_add (map (λ (e : Entry). e.call) (cond b (entry ∷ filter (λ (e : Entry). e.wrote) entries) (filter (λ (e : Entry). e.wrote) entries))) ≤ count_by can_add_at (entry ∷ entries)) [
      | true ↦ let this = sum_by-cons (λ (c : Call). cond (can_add c) 1 0) entry.call (writes entries) in omega (arith, rest, all, this)
      | false ↦ omega (arith, rest, all)
    ]

one_more : (thread : ℕ) (entry : Entry) (some mine : List Entry) → length (entries_of thread some) ≡ count_by can_add (map (λ (e : Entry). e.call) mine) → (adding own : Bool) → can_add entry.call ≡ adding → (entry.thread == thread) ≡ own
    → length (entries_of thread (cond adding (entry ∷ some) some)) ≡ count_by can_add (map (λ (e : Entry). e.call) (cond own (entry ∷ mine) mine))
one_more thread entry some mine rest true own adds_it is =
    let long = length-entries_of thread entry some in
    elim own as (λ (b : Bool). (entry.thread == thread) ≡ b → length (entries_of thread (entry ∷ some)) ≡ count_by can_add (map (λ (e : Entry). e.call) (cond b (entry ∷ mine) mine))) [
      | true ↦ λ is.
          let one = ap count_of is in
          let cons = sum_by-cons (λ (c : Call). cond (can_add c) 1 0) entry.call (map (λ (e : Entry). e.call) mine) in
          let counts = ap count_of adds_it in
          omega (arith, long, one, cons, counts, rest)
      | false ↦ λ is.
          let none = ap count_of is in
          omega (arith, long, none, rest)
    ] is
one_more thread entry some mine rest false true adds_it is =
    let cons = sum_by-cons (λ (c : Call). cond (can_add c) 1 0) entry.call (map (λ (e : Entry). e.call) mine) in
    let counts = ap count_of adds_it in
    omega (arith, cons, counts, rest)
one_more thread entry some mine rest false false adds_it is = rest

adding_of_thread : (thread : ℕ) (entries : List Entry) → length (entries_of thread (filter can_add_at entries)) ≡ count_by can_add (map (λ (e : Entry). e.call) (entries_of thread entries))
adding_of_thread thread [] = refl
adding_of_thread thread (entry ∷ entries) =
    one_more thread entry (filter can_add_at entries) (entries_of thread entries) (adding_of_thread thread entries) (can_add_at entry) (entry.thread == thread) refl refl

module _ (script : ScriptParts) (history : List Entry) (whole : IsWhole script history) where
  adding : List Entry
  adding = filter can_add_at history

  of_thread : (thread : ℕ) → length (entries_of thread adding) ≡ count_by can_add (calls_of script thread)
  unfolding adding
  of_thread thread = adding_of_thread thread history ∙ ap (count_by can_add) (whole.calls thread)

  adding_in_all : sum_by (λ thread. count_by can_add (calls_of script thread)) (range_with_len 0 (length script.threads)) ≡ adding_calls script
  adding_in_all =
      sum_places (λ (thread : Thread). count_by can_add thread.calls) (λ thread. count_by can_add (calls_of script thread)) script.threads 0
      (λ k found at. ap (λ (n : ℕ). count_by can_add (calls_of script n)) (let same : 0 + k ≡ k = omega arith in same) ∙ ap (λ (o : Option Thread). count_by can_add (option_map_or (λ (f : Thread). f.calls) o [])) at)

  pub few_adding : count_by can_add_at history ≤ adding_calls script
  unfolding adding
  few_adding =
      let low = threads_low script adding (λ thread. let same = of_thread thread in let few = count_by-le-length can_add (calls_of script thread) in omega (arith, same, few)) in
      let counted = all_counted adding (length script.threads) low in
      let total = sum_le (λ thread. length (entries_of thread adding)) (λ thread. count_by can_add (calls_of script thread)) (range_with_len 0 (length script.threads)) (λ thread. let same = of_thread thread in omega (arith, same)) in
      let size = length-filter can_add_at history in
      omega (arith, counted, total, size, adding_in_all)

-- ---- no MemoryError

module _ (script : ScriptParts) (history : List Entry) (rule : IsScript script) (legal : IsLegal storage.Tables script history) (enough : HasEnoughTables script) (within : StaysWithinCaps script history) (places : HasEnoughPlaces script history) where
  -- the call itself can add, and isn't one of the writes before it
  few_before : (place : ℕ) (entry : Entry) → slice_get history place ≡ Some entry → can_add entry.call ≡ true → count_by can_add (writes (take place history)) + 1 ≤ adding_calls script
  few_before place entry at can =
      let low = slice_get_within history place entry at in
      let there : get_or history place entry ≡ entry = get_or_from_slice_get history place entry entry at in
      let one = ap count_of (ap can_add_at there ∙ can) in
      let more = sum_by_more_le (λ (e : Entry). cond (can_add_at e) 1 0) history place entry low in
      let written = few_written (take place history) in
      let all = few_adding script history legal.chronicle.whole in
      omega (arith, one, more, written, all)

  never_at : (place : ℕ) (entry : Entry) → slice_get history place ≡ Some entry → is_memory entry.reply ≡ false
  never_at place entry at = of_reply entry.reply (legal.chronicle.earned place entry at)
    where
      some_thread : 1 ≤ length script.threads
      some_thread =
          let own = threads_low script history (λ thread. let same = ap length (legal.chronicle.whole.calls thread) in let long = length-map (entries_of thread history) (λ (e : Entry). e.call) in omega (arith, same, long)) in
          let here = own place entry (slice_get_within history place entry at) in
          omega (arith, here)

      of_reply : (said : Reply) → IsEarnedReply (starts_of script.containers) (supply_of script) (writes (take place history)) (entries_of entry.thread (take place history)) entry.call said → is_memory said ≡ false
      of_reply (reply.Raised (raise.Memory class)) (inl lacks, passes, cause) =
          let few = few_before place entry at lacks.adds in
          let took = few_takings (start_stored script) class (writes (take place history)) (start_unsplit script.containers (unsplit_start script rule)) in
          let all = cause.all_taken in
          let most = enough class cause.is_class in
          absurd (omega (arith, few, took, all, most, some_thread))
      of_reply (reply.Raised (raise.Memory class)) (inr leaves, passes, cause) = absurd (never_leaves script.containers (unsplit_start script rule) entry.call leaves.leaves)
      of_reply (reply.Raised raise.Over) earned = absurd (false≢true (sym (within place entry at earned.0) ∙ earned.1))
      of_reply (reply.Raised raise.Heap) earned =
          let calls = writes (take place history) in
          let world = stored_world (starts_of script.containers) calls in
          let boxed : boxes (world_by (starts_of script.containers) calls) entry.call ≡ true = ap (λ (w : List Content). boxes w entry.call) (sym world) ∙ earned.boxes in
          let more = one_more_box script history legal.chronicle.answered place entry at boxed in
          let used : script.heap ≤ boxings (starts_of script.containers) calls (entries_of entry.thread (take place history)) = earned.all_used in
          absurd (omega (arith, more, used, places entry.thread))
      of_reply (reply.Raised raise.NoKey) earned = refl
      of_reply (reply.Raised raise.NoIndex) earned = refl
      of_reply (reply.Raised raise.NoValue) earned = refl
      of_reply (reply.Raised raise.Size) earned = refl
      of_reply (reply.Raised raise.Keys) earned = refl
      of_reply (reply.Raised raise.Moved) earned = refl
      of_reply reply.Done earned = refl
      of_reply (reply.Value value) earned = refl
      of_reply (reply.Pair key value) earned = refl
      of_reply (reply.Truth truth) earned = refl
      of_reply (reply.Count count) earned = refl
      of_reply (reply.Dict pairs) earned = refl
      of_reply (reply.List items) earned = refl
      of_reply (reply.Set elements) earned = refl
      of_reply (reply.World world) earned = refl
      of_reply reply.Stop earned = refl
      of_reply reply.Entered earned = refl
      of_reply reply.Kept earned = refl
      of_reply (reply.Suspended count) earned = refl

  pub never_out : All (λ entry. is_memory entry.reply ≡ false) history
  never_out k d low = never_at k (get_or history k d) (slice_get-get_or history k d low)
