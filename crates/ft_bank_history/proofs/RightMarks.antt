-- The marks of numbered entries are right where all calls are made.
use Rattle.std.proofs.Common.{◌≡◌, ◌≢◌, ℕ, zero, suc, ◌+◌, ◌<◌, Bool, true, false, List, [], ◌∷◌, ◌++◌, length, map, drop, take, Option, refl, sym, ap, ◌∙◌, subst, arith}
use Rattle.std.specs.Prelude.{◌-◌, All, Some, None, IfSome, reverse, slice_get, slice_index_or, ◌==◌, ◌||◌, option_map}
use Rattle.std.specs.List.{list_any}
use Rattle.std.specs.Option.{option_map_or}
use Rattle.std.proofs.lemmas.Bool.{eqb-true}
use Rattle.std.proofs.lemmas.List.{reverse-reverse}
use Rattle.std.proofs.lemmas.List.Elements.{All-nil, All-cons, All-head, All-tail, All-weaker}
use Rattle.ft_model.specs.declared.call.Call.{Call}
use Rattle.ft_model.specs.declared.call.Call.TheVariants as call
use Rattle.ft_model.specs.declared.cursor.Cursor.{Cursor}
use Rattle.ft_model.specs.declared.entry.Entry.{Entry as NamedEntry}
use Rattle.ft_model.specs.declared.entry.Storage.TheVariants as storage
use Rattle.ft_model.specs.declared.script.ScriptParts.{ScriptParts}
use Rattle.ft_model.specs.Calls.{moved_cursor}
use Rattle.ft_model.specs.Histories.{cursors_of, EachAt, has_call_on, names}
use Rattle.ft_model.specs.Numbers.{after_begins, begins_of, begun_containers, hands_after, needs_after, AreNumberedLists, IsMarkedAfter, IsNumberedThread, KnowsAwaited}
use Rattle.ft_model.specs.TableUses.{supply_of}
use Rattle.ft_model.specs.Worlds.{container_of, containers_used, cursor_at, starts_of}
use Rattle.ft_trace.specs.declared.Entry.{Entry}
use Rattle.ft_trace.specs.declared.Owner.{Owner}
use Rattle.ft_trace.specs.declared.Told.{Told}
use Rattle.ft_trace.specs.OwnCursors.{plain_entry, AsksWithin}
use Rattle.ft_trace.specs.Owners.{is_owner_in, AreOwners}
use Rattle.ft_trace.specs.ToldEntries.{AgreeOnPasses, AreAwaitsTold, IsAwaitTold}
use Rattle.ft_trace.proofs.ToldEntries.{awaited_entries_are_known}
use Rattle.ft_bank_history.specs.Marks.{HaveScriptCalls, AreOfFirst, IsFoundFor, IsNamedIn, inner_after, needed_after, used_after, walked_by}
use Rattle.ft_bank_history.specs.Numbering.{HaveNamedEntries, AskOwnCursors, HasNamedEntries, MarksAreRight}
use Rattle.ft_bank_history.proofs.ReversedLists.{all_at, all_back, all_parts, at_split}
use Rattle.ft_bank_history.proofs.Walked.{IsPlainIfRefused, earned_plain, walked_is}

-- ---- lists

-- what holds at each place holds of all
all_from : (P : NamedEntry → Type 0) (mine : List NamedEntry) → EachAt mine (λ place e. P e) → All P mine
all_from P [] each = All-nil P
all_from P (x ∷ mine) each = All-cons P x mine (each 0 x refl) (all_from P mine (λ place e at. each (suc place) e at))

pub or_more : (b c : Bool) → c ≡ true → (b || c) ≡ true
or_more true c is = refl
or_more false c is = is

-- one that is there passes a test that it passes
pub any_there : (test : ℕ → Bool) (o : ℕ) (xs : List ℕ) → list_any (λ x. x == o) xs ≡ true → test o ≡ true → list_any test xs ≡ true
any_there test o [] there is = absurd (let e : false ≡ true = there in cc)
any_there test o (x ∷ xs) there is = by (x == o) refl there (λ more. any_there test o xs more is)
  where
    by : (b : Bool) → (x == o) ≡ b → (b || list_any (λ y. y == o) xs) ≡ true → (list_any (λ y. y == o) xs ≡ true → list_any test xs ≡ true) → (test x || list_any test xs) ≡ true
    by true e there more = ap (λ (b : Bool). b || list_any test xs) (ap test (eqb-true x o e) ∙ is)
    by false e there more = or_more (test x) (list_any test xs) (more there)

any_map : (test : Call → Bool) (mine : List NamedEntry) → list_any test (map (λ e. e.call) mine) ≡ list_any (λ e. test e.call) mine
any_map test [] = refl
any_map test (x ∷ mine) = ap (λ (b : Bool). test x.call || b) (any_map test mine)

pub if_some : (P Q : ℕ → Type 0) (found : Option ℕ) → ((t : ℕ) → P t → Q t) → IfSome found P → IfSome found Q
if_some P Q None more is = is
if_some P Q (Some t) more is = more t is

list_at : (i : ℕ) (kept : List (List NamedEntry)) → i < length kept → (mine : List NamedEntry) × (slice_get kept i ≡ Some mine)
list_at i [] low = absurd (omega (arith, low))
list_at zero (m ∷ kept) low = (m, refl)
list_at (suc i) (m ∷ kept) low = list_at i kept (omega (arith, low))

-- ---- what an entry needs

-- in the words of histories, where the cursor that it may ask goes over the container of the last `iter`
inner_is : (entry : NamedEntry) (called : Call) (begins : List NamedEntry) → entry.call ≡ called → begun_containers (after_begins entry called begins) ≡ inner_after called begins
inner_is entry (call.Begin a b) begins is = ap containers_named is
  where
    containers_named : Call → List ℕ
    containers_named c = begun_containers (record entry { call = c } ∷ [])
inner_is entry call.End begins is = refl
inner_is entry (call.Dict o c) begins is = refl
inner_is entry (call.List o c) begins is = refl
inner_is entry (call.Set o c) begins is = refl
inner_is entry (call.Deque o c) begins is = refl
inner_is entry (call.Next m) begins is = refl
inner_is entry call.Quiesce begins is = refl
inner_is entry (call.Await thread index) begins is = refl
inner_is entry call.Dump begins is = refl

one_of : (found : Option Cursor) → option_map_or (λ walker. container_of walker ∷ []) found [] ≡ option_map_or (λ (o : ℕ). o ∷ []) (option_map container_of found) []
one_of None = refl
one_of (Some walker) = refl

used_is : (hands : List (Option Cursor)) (mine : List NamedEntry) (called : Call) → ((m : ℕ) → called ≡ call.Next m → option_map container_of (cursor_at hands m) ≡ walked_by m mine) → containers_used hands called ≡ used_after mine called
used_is hands mine (call.Next m) goes = one_of (cursor_at hands m) ∙ ap (λ (found : Option ℕ). option_map_or (λ o. o ∷ []) found []) (goes m refl)
used_is hands mine (call.Dict o c) goes = refl
used_is hands mine (call.List o c) goes = refl
used_is hands mine (call.Set o c) goes = refl
used_is hands mine (call.Deque o c) goes = refl
used_is hands mine (call.Begin a b) goes = refl
used_is hands mine call.End goes = refl
used_is hands mine call.Quiesce goes = refl
used_is hands mine (call.Await thread index) goes = refl
used_is hands mine call.Dump goes = refl

-- the entries of the pass of one of these lists
kept_at : (had found : List Owner) (told : List Told) (first i : ℕ) (ms : List (List NamedEntry)) (ls : List (List Entry)) (mine : List NamedEntry) → HaveNamedEntries first ms ls had found told → slice_get ms i ≡ Some mine → (own : List Entry) × HasNamedEntries (first + i) mine own had found told
kept_at had found told first i [] ls mine are at = absurd (cc)
kept_at had found told first i (m ∷ ms) [] mine are at = absurd are
kept_at had found told first zero (m ∷ ms) (l ∷ ls) mine are at =
    let same : m ≡ mine = cc in
    (l, subst (λ (z : ℕ × List NamedEntry). HasNamedEntries z.0 z.1 l had found told) (λ d. ((let e : first ≡ first + 0 = omega arith in e) d, same d)) are.0)
kept_at had found told first (suc i) (m ∷ ms) (l ∷ ls) mine are at =
    let r = kept_at had found told (suc first) i ms ls mine are.1 at in
    (r.0, subst (λ (z : ℕ). HasNamedEntries z mine r.0 had found told) (let e : suc first + i ≡ first + suc i = omega arith in e) r.1)

module _ (script : ScriptParts) (calls : List Call) (lists : List (List Entry)) (kept : List (List NamedEntry)) (had found : List Owner) (told : List Told) where
  module _ (are : HaveNamedEntries 0 kept lists had found told) (first : AreOfFirst (length kept) had) (had_them : AreOwners found had) (asks : AskOwnCursors script kept) (numbered : AreNumberedLists storage.Tables script calls kept) (made : HaveScriptCalls script kept) where
    kept_of : (thread : ℕ) (mine : List NamedEntry) → slice_get kept thread ≡ Some mine → (own : List Entry) × HasNamedEntries thread mine own had found told
    kept_of thread mine at =
        let r = kept_at had found told 0 thread kept lists mine are at in
        (r.0, subst (λ (z : ℕ). HasNamedEntries z mine r.0 had found told) (let e : 0 + thread ≡ thread = omega arith in e) r.1)

    abbrev IsFoundWith : ℕ → ℕ → Type 0
    IsFoundWith thread o = is_owner_in o (thread + 1) found ≡ true

    -- an entry of the thread names o
    abbrev IsNamedBy : ℕ → ℕ → Type 0
    IsNamedBy thread o = (mine : List NamedEntry) × (slice_get kept thread ≡ Some mine) × IsNamedIn o mine

    -- whoever was found with the lock of o has a call on o
    has_call : (thread o : ℕ) → IsNamedBy thread o → has_call_on script thread o ≡ true
    has_call thread o (mine, at, named) =
        ap (list_any (names o)) (sym (made thread mine at)) ∙ (any_map (names o) mine ∙ named)

    named_by : (thread o : ℕ) → IsFoundWith thread o → IsNamedBy thread o
    named_by thread o found_it =
        let has = had_them o (thread + 1) found_it in
        let low = (first o (thread + 1) has).1 in
        let l = list_at thread kept (omega (arith, low)) in
        (l.0, l.1, (kept_of thread l.0 l.1).1.named o has)

    module _ (thread : ℕ) (mine : List NamedEntry) (at : slice_get kept thread ≡ Some mine) where
      right : IsNumberedThread storage.Tables script calls thread mine
      right = numbered.threads thread mine at

      plainly : All IsPlainIfRefused mine
      plainly = all_from IsPlainIfRefused mine (λ place e there. earned_plain (starts_of script.containers) (supply_of script) (take e.stamp calls) (take place mine) e.call e.reply (right.right place e there).earned)

      needs_is : (place : ℕ) (e : NamedEntry) → slice_get mine place ≡ Some e → needs_after script calls (take place mine) e ≡ needed_after (take place mine) e.call
      needs_is place e there =
          let before = take place mine in
          let own : e.thread ≡ thread = all_at (λ x. x.thread ≡ thread) mine place e there right.own in
          let cut = at_split mine place e there in
          let front = (all_parts IsPlainIfRefused before (e ∷ drop (suc place) mine) (subst (All IsPlainIfRefused) cut plainly)).0 in
          let asked : AsksWithin (cursors_of script thread) e = all_at (AsksWithin (cursors_of script thread)) mine place e there (asks thread mine at) in
          let goes : (m : ℕ) → e.call ≡ call.Next m → option_map container_of (cursor_at (hands_after script calls thread before) m) ≡ walked_by m before =
          λ m is. walked_is (starts_of script.containers) calls m (cursors_of script thread) before (subst (λ (c : Call). IfSome (moved_cursor c) (λ n. n < cursors_of script thread)) is asked) front in
          ap (λ (xs : List ℕ). xs ++ begun_containers (after_begins e e.call (begins_of before)))
          (ap (λ (t : ℕ). containers_used (hands_after script calls t before) e.call) own ∙ used_is (hands_after script calls thread before) before e.call goes)
          ∙ ap (λ (xs : List ℕ). used_after before e.call ++ xs) (inner_is e e.call (begins_of before) refl)

      marked : EachAt mine (λ place e. IsMarkedAfter script calls (take place mine) e)
      marked place e there =
          let before = take place mine in
          if_some (λ t. (t ≢ e.thread) × IsFoundFor found before e.call t) (λ t. (t ≢ e.thread) × (list_any (has_call_on script t) (needs_after script calls before e) ≡ true)) e.waited
          (λ t is. (
            is.0,
            ap (list_any (has_call_on script t)) (needs_is place e there)
                ∙ any_there (has_call_on script t) is.1.0 (needed_after before e.call) is.1.1 (has_call t is.1.0 (named_by t is.1.0 is.1.2)),
          )) ((kept_of thread mine at).1.marked place e there)

-- ---- awaits

-- what is there of a list of a thread is there
list_named : (kept : List (List NamedEntry)) (thread place : ℕ) (named : NamedEntry) → slice_get (slice_index_or kept thread []) place ≡ Some named
    → (mine : List NamedEntry) × (slice_get kept thread ≡ Some mine) × (slice_get mine place ≡ Some named)
list_named [] thread place named at = absurd (cc)
list_named (m ∷ kept) zero place named at = (m, refl, at)
list_named (m ∷ kept) (suc thread) place named at = list_named kept thread place named at

module _ (lists : List (List Entry)) (kept : List (List NamedEntry)) (had found : List Owner) (told : List Told) (are : HaveNamedEntries 0 kept lists had found told) (agree : AgreeOnPasses told) where
  abbrev made_by : ℕ → List NamedEntry
  made_by thread = slice_index_or kept thread []

  knows : (e : NamedEntry) (called : Call) → IsAwaitTold told called e.stamp → KnowsAwaited made_by e called
  knows e (call.Await thread index) was = λ place named numbered at.
      let there : slice_get (slice_index_or kept thread []) (index - 1) ≡ Some named = ap (slice_get (slice_index_or kept thread [])) (omega (arith, numbered)) ∙ at in
      let l = list_named kept thread (index - 1) named there in
      let own = kept_at had found told 0 thread kept lists l.0 are l.1 in
      let all = own.1.all_told in
      let number : 0 + thread ≡ thread = omega arith in
      awaited_entries_are_known told agree all.0 all.1 all.2 l.0 (own.1.same ∙ ap reverse (sym all.4)) thread index e.stamp (all.3 ∙ ap suc number) was named l.2
  knows e called was = tt

  known_from : (first : ℕ) (ms : List (List NamedEntry)) (ls : List (List Entry)) → HaveNamedEntries first ms ls had found told → All (AreAwaitsTold told) ls
      → All (λ mine. All (λ e. KnowsAwaited made_by e e.call) mine) ms
  known_from first [] ls named awaits = All-nil (λ mine. All (λ e. KnowsAwaited made_by e e.call) mine)
  known_from first (m ∷ ms) [] named awaits = absurd named
  known_from first (m ∷ ms) (own ∷ ls) named awaits =
      let own_is : own ≡ reverse (map plain_entry m) = sym (reverse-reverse own) ∙ ap reverse (sym named.0.same) in
      let told_all = subst (AreAwaitsTold told) own_is (All-head (AreAwaitsTold told) own ls awaits) in
      All-cons (λ mine. All (λ e. KnowsAwaited made_by e e.call) mine) m ms
      (All-weaker (λ e. IsAwaitTold told e.call e.stamp) (λ e. KnowsAwaited made_by e e.call) (λ e was. knows e e.call was) m
      (all_back plain_entry (λ e. IsAwaitTold told e.call e.stamp) m told_all))
      (known_from (suc first) ms ls named.1 (All-tail (AreAwaitsTold told) own ls awaits))

pub marks_are_right : MarksAreRight
marks_are_right script calls lists kept had found told are first had_them agree awaits asks numbered made = record {
  threads = λ thread mine at. record { made = made thread mine at; marked = marked script calls lists kept had found told are first had_them asks numbered made thread mine at };
  known = known_from lists kept had found told are agree 0 kept lists are awaits;
}
