-- In a list that is whole and whose stamps are right an entry says what it has to say at its place exactly where it is right after its thread's entries before it.
use Rattle.std.proofs.Common.{◌≡◌, ◌≢◌, ℕ, zero, suc, ◌+◌, ◌-◌, ◌<◌, ◌≤◌, Bool, true, false, not, ◌&&◌, List, [], ◌∷◌, ◌++◌, length, take, drop, get_or, Some, None, refl, sym, ap, subst, ◌∙◌, arith, cond, inl, inr, ◌==◌}
use Rattle.std.specs.List.{between, count_by, filter, list_any}
use Rattle.std.specs.Prelude.{slice_get, IfSome}
use Rattle.std.proofs.lemmas.Bool.{and_from, and_left, and_parts, cases_Bool, cases_order, eq-eqb, eqb-true, false_from_ne_true, false≢true, not_from_false}
use Rattle.std.proofs.lemmas.List.{get_or-drop, get_or-take, length-append, length-drop, length-take, take-take}
use Rattle.std.proofs.lemmas.List.Elements.{All-contains, All-filter, filter_passes}
use Rattle.std.proofs.lemmas.List.Folds.{Any-from_list_any, list_any_at, list_any_none}
use Rattle.std.proofs.lemmas.Option.{get_or_from_slice_get, slice_get-get_or, slice_get-map, slice_get_cases, slice_get_within}
use Rattle.std.proofs.lemmas.Slice.{between_is}
use Rattle.std.specs.Option.{option_map}
use Rattle.ft_model.specs.declared.call.Call.{Call}
use Rattle.ft_model.specs.declared.entry.Entry.{Entry}
use Rattle.ft_model.specs.declared.entry.Storage.{Storage}
use Rattle.ft_model.specs.declared.reply.Reply.{Reply}
use Rattle.ft_model.specs.declared.reply.Reply.TheVariants as reply
use Rattle.ft_model.specs.declared.script.ScriptParts.{ScriptParts}
use Rattle.ft_model.specs.Answers.{is_raised, is_write}
use Rattle.ft_model.specs.Calls.{containers_of}
use Rattle.ft_model.specs.Histories.{writes, entries_of, hands_at, sections_at, IsAnswered, IsWhole, EachAt, Section, disturbs, names, is_disturbed, is_marked, marks_between, IsKeptBy, IsCountedAs, IsCountedBy, IsKept, IsCounted, IsMarked, IsEarnedAt, has_call_on, needs_at}
use Rattle.ft_model.specs.Numbers.{number_after, begins_of, needs_after, is_number, marks_since, IsKeptFrom, IsRightAfter, IsMarkedAfter}
use Rattle.ft_model.specs.TableUses.{IsEarned, IsFitting}
use Rattle.ft_model.specs.Worlds.{containers_used}
use Rattle.ft_history.proofs.Agreement.{marks_are_mine}
use Rattle.ft_history.proofs.FilteredParts.{count_passed, passed_at, passed_before, passed_between}
use Rattle.ft_history.proofs.StampedLists.{written, AreStamped, count_writes, mine_through, stamp_is}
use Rattle.ft_history.proofs.OpenSections.{IsOpened, AreOpened, are_opened, begin_of_ended, ended_by_begin, containers_begun_after}
use Rattle.ft_history.proofs.HistoryPlaces.{count_next, writes_before, writes_parts}

-- ---- lists

module _ {X : Type 0} (p : X → Bool) where
  -- where an element of those that pass stands among all
  pub passed_from : (xs : List X) (k : ℕ) (x : X) → slice_get (filter p xs) k ≡ Some x → (i : ℕ) × (slice_get xs i ≡ Some x) × (length (filter p (take i xs)) ≡ k)
  passed_from [] k x at = absurd (let none : None ≡ Some x = at in cc)
  passed_from (y ∷ ys) zero x at =
      elim (p y) as (λ b. slice_get (cond b (y ∷ filter p ys) (filter p ys)) 0 ≡ Some x → p y ≡ b → (i : ℕ) × (slice_get (y ∷ ys) i ≡ Some x) × (length (filter p (take i (y ∷ ys))) ≡ 0)) [
        | true ↦ λ found passes. (0, found, refl)
        | false ↦ λ found fails. let rest = passed_from ys zero x found in (suc rest.0, rest.1, ap (λ b. length (cond b (y ∷ filter p (take rest.0 ys)) (filter p (take rest.0 ys)))) fails ∙ rest.2)
      ] at refl
  passed_from (y ∷ ys) (suc k) x at =
      elim (p y) as (λ b. slice_get (cond b (y ∷ filter p ys) (filter p ys)) (suc k) ≡ Some x → p y ≡ b → (i : ℕ) × (slice_get (y ∷ ys) i ≡ Some x) × (length (filter p (take i (y ∷ ys))) ≡ suc k)) [
        | true ↦ λ found passes. let rest = passed_from ys k x found in (suc rest.0, rest.1, ap (λ b. length (cond b (y ∷ filter p (take rest.0 ys)) (filter p (take rest.0 ys)))) passes ∙ ap suc rest.2)
        | false ↦ λ found fails. let rest = passed_from ys (suc k) x found in (suc rest.0, rest.1, ap (λ b. length (cond b (y ∷ filter p (take rest.0 ys)) (filter p (take rest.0 ys)))) fails ∙ rest.2)
      ] at refl

slice_get-take : {X : Type 0} (xs : List X) (i j : ℕ) (x : X) → i < j → slice_get xs i ≡ Some x → slice_get (take j xs) i ≡ Some x
slice_get-take xs i j x low at =
    slice_get-get_or (take j xs) i x (omega (arith, length-take j xs, slice_get_within xs i x at)) ∙ ap Some (get_or-take j xs i x low ∙ get_or_from_slice_get xs i x x at)

-- ---- lists whose stamps are right

module _ (entries : List Entry) (numbered : AreStamped entries) where
  -- stamps never fall, and rise after a write
  pub stamps_rise : (i j : ℕ) (a b : Entry) → slice_get entries i ≡ Some a → slice_get entries j ≡ Some b → i < j → a.stamp + cond a.wrote 1 0 ≤ b.stamp
  stamps_rise i j a b at_a at_b lt =
      let parts : length (writes (take j entries)) ≡ length (writes (take (i + 1) (take j entries))) + length (writes (drop (i + 1) (take j entries))) =
      ap length (writes_parts (take j entries) (i + 1)) ∙ length-append (writes (take (i + 1) (take j entries))) (writes (drop (i + 1) (take j entries))) in
      let front : length (writes (take (i + 1) (take j entries))) ≡ length (writes (take (i + 1) entries)) = ap (λ es. length (writes es)) (take-take (i + 1) j entries (omega arith)) in
      omega (arith, parts, front, count_next entries i a at_a, numbered i a at_a, numbered j b at_b)

  -- a write stands at its number among the writes
  pub write_at : (place : ℕ) (entry : Entry) → slice_get entries place ≡ Some entry → entry.wrote ≡ true → slice_get (written entries) entry.stamp ≡ Some entry
  write_at place entry at write = ap (slice_get (written entries)) (sym (stamp_is entries numbered place entry at)) ∙ passed_at (λ (e : Entry). e.wrote) entries place entry at write

  pub call_at : (place : ℕ) (entry : Entry) → slice_get entries place ≡ Some entry → entry.wrote ≡ true → slice_get (writes entries) entry.stamp ≡ Some entry.call
  call_at place entry at write = slice_get-map (λ (e : Entry). e.call) (written entries) entry.stamp ∙ ap (option_map (λ (e : Entry). e.call)) (write_at place entry at write)

-- ---- an entry at its place

-- an entry says what it has to say at its place
pub record IsLegalAt (storage : Storage) (script : ScriptParts) (entries : List Entry) (place : ℕ) (entry : Entry) : Type 0 where
  pub answered : IsAnswered script entries place entry
  pub marked : IsMarked script entries place entry
  pub kept : IsKept entries place entry
  pub counted : IsCounted entries place entry
  pub earned : IsEarnedAt storage script entries place entry
  pub fitting : IsFitting storage script (writes (take place entries)) entry

module _ (script : ScriptParts) (entries : List Entry) (whole : IsWhole script entries) (numbered : AreStamped entries) (wrote : EachAt entries (λ place entry. entry.wrote ≡ is_write entry.call entry.reply)) (place : ℕ) (entry : Entry) (at : slice_get entries place ≡ Some entry) where
  abbrev before : List Entry
  before = entries_of entry.thread (take place entries)

  low : place < length entries
  low = slice_get_within entries place entry at

  same_calls : take entry.stamp (writes entries) ≡ writes (take place entries)
  same_calls = ap (λ n. take n (writes entries)) (numbered place entry at) ∙ writes_before entries place

  opened : AreOpened entries entry.thread place (sections_at entries entry.thread place) (begins_of before)
  opened = are_opened entries entry.thread place (omega (arith, low))

  same_needs : needs_after script (writes entries) before entry ≡ needs_at script entries place entry
  same_needs =
      ap (λ (containers : List ℕ). containers_used (hands_at script entries entry.thread place) entry.call ++ containers)
      (sym (containers_begun_after entries entry.thread place entry entry.call (sections_at entries entry.thread place) (begins_of before) refl opened))

  abbrev Marked : List ℕ → Type 0
  Marked containers = IfSome entry.waited (λ thread. (thread ≢ entry.thread) × (list_any (has_call_on script thread) containers ≡ true))

  -- ---- sections

  -- a write of the thread before it, by its number
  own_write : (place' : ℕ) (other : Entry) → slice_get entries place' ≡ Some other → other.wrote ≡ true → list_any (is_number other.stamp) before ≡ true → (other.thread == entry.thread) ≡ true
  own_write place' other at' write numbers =
      let found = Any-from_list_any (is_number other.stamp) before numbers in
      let own : Entry = found.1 in
      let passes = and_parts own.wrote (own.stamp == other.stamp) found.4 in
      let same : own.stamp ≡ other.stamp = eqb-true own.stamp other.stamp passes.1 in
      let mine : (own.thread == entry.thread) ≡ true = All-contains (λ (e : Entry). (e.thread == entry.thread) ≡ true) before own (filter_passes (λ (e : Entry). e.thread == entry.thread) (take place entries)) (found.0, found.2, found.3) in
      let at_own : slice_get (written entries) own.stamp ≡ Some own =
      All-contains (λ (e : Entry). e.wrote ≡ true → slice_get (written entries) e.stamp ≡ Some e) before own
      (All-filter (λ (e : Entry). e.thread == entry.thread) (λ (e : Entry). e.wrote ≡ true → slice_get (written entries) e.stamp ≡ Some e) (take place entries)
      (λ k d within. write_at entries numbered k (get_or (take place entries) k d) (here k d within)))
      (found.0, found.2, found.3) passes.0 in
      let both : Some own ≡ Some other = sym at_own ∙ ap (slice_get (written entries)) same ∙ write_at entries numbered place' other at' write in
      let alike : own ≡ other = cc in
      subst (λ (e : Entry). (e.thread == entry.thread) ≡ true) alike mine
    where
      here : (k : ℕ) (d : Entry) → k < length (take place entries) → slice_get entries k ≡ Some (get_or (take place entries) k d)
      here k d within =
          slice_get-get_or entries k d (omega (arith, length-take place entries, low)) ∙ ap Some (sym (get_or-take place entries k d (omega (arith, length-take place entries))))

  -- and the other way round
  number_of_own : (place' : ℕ) (other : Entry) → slice_get entries place' ≡ Some other → place' < place → other.wrote ≡ true → (other.thread == entry.thread) ≡ true → list_any (is_number other.stamp) before ≡ true
  number_of_own place' other at' lt write mine =
      let there : slice_get (take place entries) place' ≡ Some other = slice_get-take entries place' place other lt at' in
      let k = length (filter (λ (e : Entry). e.thread == entry.thread) (take place' (take place entries))) in
      let here : slice_get before k ≡ Some other = passed_at (λ (e : Entry). e.thread == entry.thread) (take place entries) place' other there mine in
      list_any_at (is_number other.stamp) before k other (slice_get_within before k other here)
      (ap (is_number other.stamp) (get_or_from_slice_get before k other other here) ∙ and_from other.wrote (other.stamp == other.stamp) write (eq-eqb other.stamp other.stamp refl))

  module _ (section : Section) (begun : Entry) (is_opened : IsOpened entries entry.thread place section begun) where
    same_marks : marks_since entry.thread before begun ≡ marks_between entries entry.thread place section
    same_marks =
        let start = section.begun + 1 in
        let mine = λ (e : Entry). e.thread == entry.thread in
        let earlier : section.begun < place = is_opened.before in
        let through : length (entries_of entry.thread (take start entries)) ≡ begun.index =
        ap (λ t. length (entries_of t (take start entries))) (sym is_opened.mine) ∙ mine_through script entries whole section.begun begun is_opened.at in
        let inside : entries_of entry.thread (between start place entries) ≡ drop begun.index before =
        passed_between mine entries start place (omega arith)
        ∙ ap (λ n. drop n (take (length before) (entries_of entry.thread entries))) through
        ∙ ap (drop begun.index) (sym (passed_before mine entries place)) in
        ap (λ (es : List Entry). count_by (is_marked entry.thread) es) (sym inside)
        ∙ sym (count_passed mine (is_marked entry.thread) (marks_are_mine entry.thread) (between start place entries))

    -- the entries between the two
    abbrev inside : List Entry
    inside = between (section.begun + 1) place entries

    inside_is : inside ≡ drop (section.begun + 1) (take place entries)
    inside_is = between_is entries (section.begun + 1) place

    count_inside : length inside ≡ place - (section.begun + 1)
    count_inside = omega (arith, ap length inside_is, length-drop (section.begun + 1) (take place entries), length-take place entries, low)

    inside_at : (k : ℕ) (d : Entry) → k < length inside → get_or inside k d ≡ get_or entries (section.begun + 1 + k) d
    inside_at k d within =
        ap (λ (es : List Entry). get_or es k d) inside_is ∙ get_or-drop (section.begun + 1) (take place entries) k d
        ∙ get_or-take place entries (section.begun + 1 + k) d (omega (arith, count_inside))

    disturbed_parts : (other : Entry) → disturbs entry.thread section.containers other ≡ true → (other.wrote ≡ true) × ((other.thread == entry.thread) ≡ false) × (list_any (λ container. names container other.call) (containers_of begun.call) ≡ true)
    disturbed_parts other disturbed =
        let parts = and_parts (other.wrote && not (other.thread == entry.thread)) (list_any (λ container. names container other.call) section.containers) disturbed in
        let front = and_parts other.wrote (not (other.thread == entry.thread)) parts.0 in (
          front.0,
          false_from_ne_true (other.thread == entry.thread) (λ mine. false≢true (sym (ap not mine) ∙ front.1)),
          ap (list_any (λ container. names container other.call)) (sym is_opened.containers) ∙ parts.1,
        )

    undisturbed : IsKeptFrom (writes entries) before begun entry.stamp reply.Kept → is_disturbed entries entry.thread place section ≡ false
    undisturbed kept =
        list_any_none (disturbs entry.thread section.containers) inside (λ k d within.
        false_from_ne_true (disturbs entry.thread section.containers (get_or inside k d)) (calm k d within))
      where
        calm : (k : ℕ) (d : Entry) → k < length inside → disturbs entry.thread section.containers (get_or inside k d) ≡ true → ⊥
        calm k d within disturbed =
            let other : Entry = get_or inside k d in
            let place' = section.begun + 1 + k in
            let until : place' < place = omega (arith, count_inside) in
            let at' : slice_get entries place' ≡ Some other = slice_get-get_or entries place' d (omega (arith, low)) ∙ ap Some (sym (inside_at k d within)) in
            let parts = disturbed_parts other disturbed in
            let one : cond {A = ℕ} other.wrote 1 0 ≡ 1 = ap (λ b. cond {A = ℕ} b 1 0) parts.0 in
            let from : begun.stamp ≤ other.stamp = omega (arith, stamps_rise entries numbered section.begun place' begun other is_opened.at at' (omega arith)) in
            let below : other.stamp < entry.stamp = omega (arith, one, stamps_rise entries numbered place' place other entry at' at until) in
            let mine : (other.thread == entry.thread) ≡ true = own_write place' other at' parts.0 (kept other.stamp other.call from below (call_at entries numbered place' other at' parts.0) parts.2) in
            false≢true (sym parts.1 ∙ mine)

    kept_from : is_disturbed entries entry.thread place section ≡ false → IsKeptFrom (writes entries) before begun entry.stamp reply.Kept
    kept_from calm number called from below found touched =
        elim (slice_get_cases (written entries) number).1 [
          | inr past ↦ absurd (omega (arith, past.0, count_writes entries, slice_get_within (writes entries) number called found))
          | inl there ↦
              let other : Entry = there.0 in
              let origin = passed_from (λ (e : Entry). e.wrote) entries number other there.2 in
              let place' : ℕ = origin.0 in
              let at' : slice_get entries place' ≡ Some other = origin.1 in
              let write : other.wrote ≡ true = subst (λ (e : Entry). e.wrote ≡ true) there.3 (filter_passes (λ (e : Entry). e.wrote) entries number other there.1) in
              let one : cond {A = ℕ} other.wrote 1 0 ≡ 1 = ap (λ b. cond {A = ℕ} b 1 0) write in
              let stamp : other.stamp ≡ number = sym (stamp_is entries numbered place' other at') ∙ origin.2 in
              let calls : Some other.call ≡ Some called = sym (call_at entries numbered place' other at' write) ∙ ap (slice_get (writes entries)) stamp ∙ found in
              let call : other.call ≡ called = cc in
              let read : cond {A = ℕ} begun.wrote 1 0 ≡ 0 = ap (λ b. cond {A = ℕ} b 1 0) (wrote section.begun begun is_opened.at ∙ and_left _ (not (is_raised begun.reply)) is_opened.quiet) in
              let after : section.begun < place' =
              elim (cases_order section.begun place') [
                | inl same ↦
                    let both : Some begun ≡ Some other = sym is_opened.at ∙ ap (slice_get entries) same ∙ at' in
                    let alike : begun ≡ other = cc in
                    absurd (let e : cond {A = ℕ} begun.wrote 1 0 ≡ cond {A = ℕ} other.wrote 1 0 = ap (λ (x : Entry). cond {A = ℕ} x.wrote 1 0) alike in omega arith)
                | inr differ ↦ elim differ [
                  | inl lt ↦ lt
                  | inr gt ↦ absurd (omega (arith, stamps_rise entries numbered place' section.begun other begun at' is_opened.at gt))
                ]
              ] in
              let until : place' < place =
              elim (cases_order place' place) [
                | inl same ↦
                    let both : Some other ≡ Some entry = sym at' ∙ ap (slice_get entries) same ∙ at in
                    let alike : other ≡ entry = cc in
                    absurd (let e : other.stamp ≡ entry.stamp = ap (λ (x : Entry). x.stamp) alike in omega arith)
                | inr differ ↦ elim differ [
                  | inl lt ↦ lt
                  | inr gt ↦ absurd (omega (arith, stamps_rise entries numbered place place' entry other at at' gt))
                ]
              ] in
              let k = place' - (section.begun + 1) in
              let within : k < length inside = omega (arith, count_inside) in
              let here : get_or inside k other ≡ other = inside_at k other within ∙ ap (λ n. get_or entries n other) (let e : section.begun + 1 + k ≡ place' = omega arith in e) ∙ get_or_from_slice_get entries place' other other at' in
              elim (cases_Bool (other.thread == entry.thread)) [
                | inl mine ↦ subst (λ n. list_any (is_number n) before ≡ true) stamp (number_of_own place' other at' until write mine)
                | inr theirs ↦
                    let disturbed : disturbs entry.thread section.containers other ≡ true =
                    and_from (other.wrote && not (other.thread == entry.thread)) (list_any (λ container. names container other.call) section.containers)
                    (and_from other.wrote (not (other.thread == entry.thread)) write (not_from_false (other.thread == entry.thread) theirs))
                    (ap (λ (c : Call). list_any (λ container. names container c) section.containers) call ∙ ap (list_any (λ container. names container called)) is_opened.containers ∙ touched) in
                    absurd (false≢true (sym calm ∙ list_any_at (disturbs entry.thread section.containers) inside k other within (ap (disturbs entry.thread section.containers) here ∙ disturbed)))
              ]
        ]

    kept_by : (said : Reply) → IsKeptFrom (writes entries) before begun entry.stamp said → IsKeptBy entries entry.thread place section said
    kept_by reply.Kept kept = undisturbed kept
    kept_by said kept = tt

    kept_back : (said : Reply) → IsKeptBy entries entry.thread place section said → IsKeptFrom (writes entries) before begun entry.stamp said
    kept_back reply.Kept kept = kept_from kept
    kept_back said kept = tt

    counted_by : (said : Reply) → IsCountedAs (marks_since entry.thread before begun) said → IsCountedBy entries entry.thread place section said
    counted_by said counted = subst (λ marks. IsCountedAs marks said) same_marks counted

    counted_back : (said : Reply) → IsCountedBy entries entry.thread place section said → IsCountedAs (marks_since entry.thread before begun) said
    counted_back said counted = subst (λ marks. IsCountedAs marks said) (sym same_marks) counted

  -- ---- both ways

  pub marked_after : IsMarked script entries place entry → IsMarkedAfter script (writes entries) before entry
  marked_after mark = subst Marked (sym same_needs) mark

  module _ (storage : Storage) where
    pub legal_at : IsRightAfter storage script (writes entries) before entry → IsMarkedAfter script (writes entries) before entry → IsLegalAt storage script entries place entry
    legal_at right mark =
        record {
          answered = record { stamp = numbered place entry at; wrote = right.wrote; reply = right.reply };
          marked = subst Marked same_needs mark;
          kept =
              ended_by_begin entries entry.thread place (λ begun. IsKeptFrom (writes entries) before begun entry.stamp entry.reply) (λ section. IsKeptBy entries entry.thread place section entry.reply)
              (λ section begun is_opened. kept_by section begun is_opened entry.reply) entry.call (sections_at entries entry.thread place) (begins_of before) opened right.kept;
          counted =
              ended_by_begin entries entry.thread place (λ begun. IsCountedAs (marks_since entry.thread before begun) entry.reply) (λ section. IsCountedBy entries entry.thread place section entry.reply)
              (λ section begun is_opened. counted_by section begun is_opened entry.reply) entry.call (sections_at entries entry.thread place) (begins_of before) opened right.counted;
          earned = subst (λ cs. IsEarned storage script cs before entry) same_calls right.earned;
          fitting = subst (λ cs. IsFitting storage script cs entry) same_calls right.fitting;
        }

    pub right_after : IsLegalAt storage script entries place entry → IsRightAfter storage script (writes entries) before entry
    right_after is =
        record {
          within = omega (arith, numbered place entry at, ap length (writes_parts entries place), length-append (writes (take place entries)) (writes (drop place entries)));
          rises =
              All-filter (λ (e : Entry). e.thread == entry.thread) (λ earlier. number_after earlier ≤ entry.stamp) (take place entries) (λ k d within.
              let earlier : Entry = get_or (take place entries) k d in
              let until : k < place = omega (arith, length-take place entries) in
              let at' : slice_get entries k ≡ Some earlier = slice_get-get_or entries k d (omega (arith, low)) ∙ ap Some (sym (get_or-take place entries k d until)) in
              let up : earlier.stamp + cond {A = ℕ} earlier.wrote 1 0 ≤ entry.stamp = stamps_rise entries numbered k place earlier entry at' at until in
              elim earlier.wrote as (λ b. earlier.stamp + cond {A = ℕ} b 1 0 ≤ entry.stamp → cond {A = ℕ} b (earlier.stamp + 1) earlier.stamp ≤ entry.stamp) [ true ↦ λ le. le | false ↦ λ le. omega arith ] up);
          wrote = is.answered.wrote;
          reply = is.answered.reply;
          kept =
              begin_of_ended entries entry.thread place (λ begun. IsKeptFrom (writes entries) before begun entry.stamp entry.reply) (λ section. IsKeptBy entries entry.thread place section entry.reply)
              (λ section begun is_opened. kept_back section begun is_opened entry.reply) entry.call (sections_at entries entry.thread place) (begins_of before) opened is.kept;
          counted =
              begin_of_ended entries entry.thread place (λ begun. IsCountedAs (marks_since entry.thread before begun) entry.reply) (λ section. IsCountedBy entries entry.thread place section entry.reply)
              (λ section begun is_opened. counted_back section begun is_opened entry.reply) entry.call (sections_at entries entry.thread place) (begins_of before) opened is.counted;
          earned = subst (λ cs. IsEarned storage script cs before entry) (sym same_calls) is.earned;
          fitting = subst (λ cs. IsFitting storage script cs entry) (sym same_calls) is.fitting;
        }
