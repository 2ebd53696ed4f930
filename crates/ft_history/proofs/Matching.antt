-- Which `begin` an `end` ends: the innermost one that is open, and no other.
use Rattle.std.proofs.Common.{◌≡◌, ℕ, ◌+◌, ◌-◌, ◌<◌, ◌≤◌, true, false, List, [], ◌∷◌, ◌++◌, map, length, take, drop, Option, Some, refl, sym, ap, subst, ◌∙◌, arith, cond, inl, inr, ◌==◌}
use Rattle.std.specs.List.{enumerate_from, fold, filter, between}
use Rattle.std.specs.Option.{option_map_or}
use Rattle.std.specs.Prelude.{slice_get}
use Rattle.std.proofs.Math.ListN.{drop_of_length-le}
use Rattle.std.proofs.lemmas.Bool.{eqb-true, eq-eqb}
use Rattle.std.proofs.lemmas.List.{length-take-le, length-take, length_push, append-nil, map-append, take-append-drop, take-append-le, drop-append-le}
use Rattle.std.proofs.lemmas.List.Elements.{filter-append}
use Rattle.std.proofs.lemmas.List.Sums.{fold-append}
use Rattle.std.proofs.lemmas.Slice.{between_is}
use Rattle.std.proofs.lemmas.Option.{slice_get_within, slice_get_cases, slice_get_past}
use Rattle.ft_model.specs.declared.call.Call.{Call}
use Rattle.ft_model.specs.declared.call.Call.TheVariants as call
use Rattle.ft_model.specs.declared.reply.Reply.TheVariants as reply
use Rattle.ft_model.specs.declared.entry.Entry.{Entry}
use Rattle.ft_model.specs.declared.script.Thread.{Thread}
use Rattle.ft_model.specs.declared.script.ScriptParts.{ScriptParts}
use Rattle.ft_model.specs.Calls.{containers_of}
use Rattle.ft_model.specs.Histories.{Section, after_section, after_numbered, sections_at, entries_of, calls_of, IsKept}
use Rattle.ft_model.specs.Judging.{IsNext}
use Rattle.ft_model.specs.Scripts.{AreNested, IsScript}
use Rattle.ft_history.specs.HistoryLaws.{LeadsTo, calls_in, Matches, IsUntouchedBetween}
use Rattle.ft_history.proofs.SectionWrites.{IsBegunBefore}
use Rattle.ft_history.proofs.HistoryPlaces.{take_next, drop_here, filter_next, by_places}
use Rattle.ft_history.proofs.ScriptLemmas.{is_thread, calls_of_thread}
use Rattle.ft_history.proofs.SectionWrites.{sections_next, begun_longer, untouched}

-- ---- lists

-- the first entries, and those from one place to another
take_between : (entries : List Entry) (start end : ℕ) → start ≤ end → end ≤ length entries → take end entries ≡ take start entries ++ between start end entries
take_between entries start end low within =
    sym (take-append-drop start (take end entries))
    ∙ ap (λ (front : List Entry). front ++ drop start (take end entries)) (sym (take-append-le start (take end entries) (drop end entries) (omega (arith, length-take-le end entries within))) ∙ ap (take start) (take-append-drop end entries))
    ∙ ap (λ (back : List Entry). take start entries ++ back) (sym (between_is entries start end))

enumerate_append : {X : Type 0} (from : ℕ) (xs ys : List X) → enumerate_from from (xs ++ ys) ≡ enumerate_from from xs ++ enumerate_from (from + length xs) ys
enumerate_append from [] ys = ap (λ n. enumerate_from n ys) (omega arith)
enumerate_append {X} from (x ∷ xs) ys = ap (λ (rest : List (ℕ × X)). (from, x) ∷ rest) (enumerate_append (from + 1) xs ys ∙ ap (λ n. enumerate_from (from + 1) xs ++ enumerate_from n ys) (omega arith))

-- ---- calls that lead from some open sections to some

leads_append : (xs ys : List Call) (a b c : ℕ) → LeadsTo a b xs → LeadsTo b c ys → LeadsTo a c (xs ++ ys)
leads_append [] ys a b c first second = subst (λ n. LeadsTo n c ys) (sym first) second
leads_append (call.Begin one two ∷ xs) ys a b c first second = leads_append xs ys (a + 1) b c first second
leads_append (call.End ∷ xs) ys a b c first second = (first.0, leads_append xs ys (a - 1) b c first.1 second)
leads_append (call.Dict container dict_call ∷ xs) ys a b c first second = leads_append xs ys a b c first second
leads_append (call.List container list_call ∷ xs) ys a b c first second = leads_append xs ys a b c first second
leads_append (call.Set container set_call ∷ xs) ys a b c first second = leads_append xs ys a b c first second
leads_append (call.Deque container deque_call ∷ xs) ys a b c first second = leads_append xs ys a b c first second
leads_append (call.Next cursor ∷ xs) ys a b c first second = leads_append xs ys a b c first second
leads_append (call.Quiesce ∷ xs) ys a b c first second = leads_append xs ys a b c first second
leads_append (call.Await other index ∷ xs) ys a b c first second = leads_append xs ys a b c first second
leads_append (call.Dump ∷ xs) ys a b c first second = leads_append xs ys a b c first second

-- calls that end all that they begin, and nothing else, leave what was open before them
-- F stands for what the calls after this one make of open sections
one_closed : (called : Call) (place depth : ℕ) (inner base : List Section) (rest : List Call) (F : List Section → List Section)
    → ((depth' : ℕ) (inner' : List Section) → length inner' ≡ depth' → LeadsTo depth' 0 rest → F (inner' ++ base) ≡ base)
    → length inner ≡ depth → LeadsTo depth 0 (called ∷ rest) → F (after_section place called (inner ++ base)) ≡ base
one_closed (call.Begin first second) place depth inner base rest F go is leads =
    go (depth + 1) (record { containers = containers_of (call.Begin first second); begun = place } ∷ inner) (omega arith) leads
one_closed call.End place depth [] base rest F go is leads = absurd (omega (arith, leads.0))
one_closed call.End place depth (section ∷ inner) base rest F go is leads = go (depth - 1) inner (omega arith) leads.1
one_closed (call.Dict container dict_call) place depth inner base rest F go is leads = go depth inner is leads
one_closed (call.List container list_call) place depth inner base rest F go is leads = go depth inner is leads
one_closed (call.Set container set_call) place depth inner base rest F go is leads = go depth inner is leads
one_closed (call.Deque container deque_call) place depth inner base rest F go is leads = go depth inner is leads
one_closed (call.Next cursor) place depth inner base rest F go is leads = go depth inner is leads
one_closed call.Quiesce place depth inner base rest F go is leads = go depth inner is leads
one_closed (call.Await other index) place depth inner base rest F go is leads = go depth inner is leads
one_closed call.Dump place depth inner base rest F go is leads = go depth inner is leads

closed : (thread : ℕ) (xs : List Entry) (place depth : ℕ) (inner base : List Section) → length inner ≡ depth → LeadsTo depth 0 (map (λ (e : Entry). e.call) (entries_of thread xs))
    → fold (after_numbered thread) (inner ++ base) (enumerate_from place xs) ≡ base
closed thread [] place depth [] base is leads = refl
closed thread [] place depth (section ∷ inner) base is leads = absurd (let e : depth ≡ 0 = leads in omega arith)
closed thread (x ∷ xs) place depth inner base is leads =
    let rest = map (λ (e : Entry). e.call) (entries_of thread xs) in
    elim (x.thread == thread) as (λ b. LeadsTo depth 0 (map (λ (e : Entry). e.call) (cond b (x ∷ entries_of thread xs) (entries_of thread xs))) → fold (after_numbered thread) (cond b (after_section place x.call (inner ++ base)) (inner ++ base)) (enumerate_from (place + 1) xs) ≡ base) [
      | true ↦ λ h. one_closed x.call place depth inner base rest (λ sections. fold (after_numbered thread) sections (enumerate_from (place + 1) xs)) (λ depth' inner' is' leads'. closed thread xs (place + 1) depth' inner' base is' leads') is h
      | false ↦ λ h. closed thread xs (place + 1) depth inner base is h
    ] leads

-- ---- the section that an `end` ends is that of its `begin`

module _ (entries : List Entry) (begun ended : ℕ) (begin end : Entry) (is : Matches entries begun ended begin end) where
  section_begun : Section
  section_begun = record { containers = containers_of begin.call; begun = begun }

  opened : sections_at entries end.thread (begun + 1) ≡ section_begun ∷ sections_at entries end.thread begun
  unfolding section_begun
  opened =
      let rest = sections_at entries end.thread begun in
      sections_next entries end.thread begun begin is.begin_at
      ∙ ap (λ b. cond b (after_section begun begin.call rest) rest) (eq-eqb begin.thread end.thread is.thread)
      ∙ ap (λ (called : Call). after_section begun called rest) is.begins
      ∙ ap (λ (called : Call). let section : Section = record { containers = containers_of called; begun = begun } in section ∷ rest) (sym is.begins)

  split : take ended entries ≡ take (begun + 1) entries ++ between (begun + 1) ended entries
  split = take_between entries (begun + 1) ended (omega (arith, is.before)) (let low = slice_get_within entries ended end is.end_at in omega arith)

  pub section_ended : sections_at entries end.thread ended ≡ record { containers = containers_of begin.call; begun = begun } ∷ sections_at entries end.thread begun
  unfolding section_begun
  section_ended =
      let f = after_numbered end.thread in
      let inner = between (begun + 1) ended entries in
      let start = take (begun + 1) entries in
      ap (λ (es : List Entry). fold f [] (enumerate_from 0 es)) split
      ∙ ap (fold f []) (enumerate_append 0 start inner)
      ∙ fold-append f [] (enumerate_from 0 start) (enumerate_from (0 + length start) inner)
      ∙ ap (λ (ss : List Section). fold f ss (enumerate_from (0 + length start) inner)) opened
      ∙ closed end.thread inner (0 + length start) 0 [] (section_begun ∷ sections_at entries end.thread begun) refl is.inner

begun_first : List Section → ℕ
begun_first [] = 0
begun_first (section ∷ sections) = section.begun

-- an `end` ends the section of no more than one `begin`
pub one_match : (entries : List Entry) (one other ended : ℕ) (begin begin' end : Entry) → Matches entries one ended begin end → Matches entries other ended begin' end → one ≡ other
unfolding begun_first
one_match entries one other ended begin begin' end first second =
    ap begun_first (sym (section_ended entries one ended begin end first) ∙ section_ended entries other ended begin' end second)

-- between its `begin` and its `end` a section that is kept is untouched
pub matched_untouched : (entries : List Entry) (begun ended : ℕ) (begin end : Entry) → Matches entries begun ended begin end → end.reply ≡ reply.Kept → IsKept entries ended end → IsUntouchedBetween entries end.thread begun ended (containers_of begin.call)
matched_untouched entries begun ended begin end is kept right =
    let section : Section = record { containers = containers_of begin.call; begun = begun } in
    untouched entries end.thread ended section (rw (section_ended entries begun ended begin end is, is.ends, kept) at right)

-- ---- each `end` has its `begin`

-- a section is open since its `begin`, and the calls after that, up to a place, lead from none to that many open sections inside it
record IsSince (entries : List Entry) (thread place depth : ℕ) (section : Section) : Type 0 where
  begun : IsBegunBefore entries thread place section
  leads : LeadsTo 0 depth (calls_in entries thread (section.begun + 1) place)

-- of open sections, innermost first, from that many inside the first of them on
abbrev AreSince : List Entry → ℕ → ℕ → ℕ → List Section → Type 0
AreSince entries thread place depth [] = Unit {0}
AreSince entries thread place depth (section ∷ sections) = IsSince entries thread place depth section × AreSince entries thread place (depth + 1) sections

calls_next : (entries : List Entry) (thread start place : ℕ) (entry : Entry) → start ≤ place → slice_get entries place ≡ Some entry
    → calls_in entries thread start (place + 1) ≡ calls_in entries thread start place ++ cond (entry.thread == thread) (entry.call ∷ []) []
calls_next entries thread start place entry low at =
    let within = slice_get_within entries place entry at in
    let call_of = λ (e : Entry). e.call in
    let mine = λ (e : Entry). e.thread == thread in
    let longer : between start (place + 1) entries ≡ between start place entries ++ entry ∷ [] =
    between_is entries start (place + 1) ∙ ap (drop start) (take_next entries place entry at)
    ∙ drop-append-le start (take place entries) (entry ∷ []) (omega (arith, length-take-le place entries (omega arith)))
    ∙ ap (λ (es : List Entry). es ++ entry ∷ []) (sym (between_is entries start place)) in
    ap (λ (es : List Entry). map call_of (filter mine es)) longer
    ∙ ap (map call_of) (filter-append mine (between start place entries) (entry ∷ []))
    ∙ map-append call_of (filter mine (between start place entries)) (filter mine (entry ∷ []))
    ∙ ap (λ (cs : List Call). calls_in entries thread start place ++ cs) (elim (entry.thread == thread) as (λ b. map call_of (cond b (entry ∷ []) []) ≡ cond b (entry.call ∷ []) []) [ true ↦ refl | false ↦ refl ])

module _ (entries : List Entry) (thread place : ℕ) (entry : Entry) (at : slice_get entries place ≡ Some entry) where
  still_since : (entry.thread == thread) ≡ false → (depth : ℕ) (sections : List Section) → AreSince entries thread place depth sections → AreSince entries thread (place + 1) depth sections
  still_since other depth [] since = tt
  still_since other depth (section ∷ sections) since =
      let is : IsSince entries thread place depth section = since.0 in
      let same : calls_in entries thread (section.begun + 1) (place + 1) ≡ calls_in entries thread (section.begun + 1) place =
      calls_next entries thread (section.begun + 1) place entry (omega (arith, is.begun.before)) at
      ∙ ap (λ b. calls_in entries thread (section.begun + 1) place ++ cond b (entry.call ∷ []) []) other ∙ append-nil (calls_in entries thread (section.begun + 1) place) in
      (record { begun = begun_longer entries thread place section is.begun; leads = subst (LeadsTo 0 depth) (sym same) is.leads }, still_since other (depth + 1) sections since.1)

  moved_since : (called : Call) → entry.call ≡ called → (entry.thread == thread) ≡ true → (from to : ℕ) → ((n a b : ℕ) → a ≡ n + from → b ≡ n + to → LeadsTo a b (called ∷ []))
      → (sections : List Section) → AreSince entries thread place from sections → AreSince entries thread (place + 1) to sections
  moved_since called is mine from to moves [] since = tt
  moved_since called is mine from to moves (section ∷ sections) since =
      let so_far : IsSince entries thread place from section = since.0 in
      let inner = calls_in entries thread (section.begun + 1) place in
      let longer : calls_in entries thread (section.begun + 1) (place + 1) ≡ inner ++ called ∷ [] =
      calls_next entries thread (section.begun + 1) place entry (omega (arith, so_far.begun.before)) at
      ∙ ap (λ b. inner ++ cond b (entry.call ∷ []) []) mine ∙ ap (λ (c : Call). inner ++ c ∷ []) is in (
        record {
          begun = begun_longer entries thread place section so_far.begun;
          leads = subst (LeadsTo 0 to) (sym longer) (leads_append inner (called ∷ []) 0 from to so_far.leads (moves 0 from to (omega arith) (omega arith)));
        },
        moved_since called is mine (from + 1) (to + 1) (λ n a b is_a is_b. moves (n + 1) a b (omega arith) (omega arith)) sections since.1,
      )

  none_yet : calls_in entries thread (place + 1) (place + 1) ≡ []
  none_yet =
      ap (λ (es : List Entry). map (λ (e : Entry). e.call) (entries_of thread es)) (between_is entries (place + 1) (place + 1) ∙ drop_of_length-le (take (place + 1) entries) (omega (arith, length-take (place + 1) entries)))

  since_after : (called : Call) → entry.call ≡ called → (entry.thread == thread) ≡ true → (sections : List Section) → AreSince entries thread place 0 sections → AreSince entries thread (place + 1) 0 (after_section place called sections)
  since_after (call.Begin first second) is mine sections since = (
    record {
      begun = record { before = omega arith; entry = entry; at = at; mine = eqb-true _ _ mine; first = first; second = second; call = is; containers = ap containers_of (sym is) };
      leads = subst (LeadsTo 0 0) (sym none_yet) refl;
    },
    moved_since (call.Begin first second) is mine 0 1 (λ n a b is_a is_b. (let e : a + 1 ≡ b = omega arith in e)) sections since,
  )
  since_after call.End is mine [] since = tt
  since_after call.End is mine (section ∷ sections) since = moved_since call.End is mine 1 0 (λ n a b is_a is_b. ((let low : 0 < a = omega arith in low), (let e : a - 1 ≡ b = omega arith in e))) sections since.1
  since_after (call.Dict container dict_call) is mine sections since = moved_since (call.Dict container dict_call) is mine 0 0 (λ n a b is_a is_b. (let e : a ≡ b = omega arith in e)) sections since
  since_after (call.List container list_call) is mine sections since = moved_since (call.List container list_call) is mine 0 0 (λ n a b is_a is_b. (let e : a ≡ b = omega arith in e)) sections since
  since_after (call.Set container set_call) is mine sections since = moved_since (call.Set container set_call) is mine 0 0 (λ n a b is_a is_b. (let e : a ≡ b = omega arith in e)) sections since
  since_after (call.Deque container deque_call) is mine sections since = moved_since (call.Deque container deque_call) is mine 0 0 (λ n a b is_a is_b. (let e : a ≡ b = omega arith in e)) sections since
  since_after (call.Next cursor) is mine sections since = moved_since (call.Next cursor) is mine 0 0 (λ n a b is_a is_b. (let e : a ≡ b = omega arith in e)) sections since
  since_after call.Quiesce is mine sections since = moved_since call.Quiesce is mine 0 0 (λ n a b is_a is_b. (let e : a ≡ b = omega arith in e)) sections since
  since_after (call.Await other index) is mine sections since = moved_since (call.Await other index) is mine 0 0 (λ n a b is_a is_b. (let e : a ≡ b = omega arith in e)) sections since
  since_after call.Dump is mine sections since = moved_since call.Dump is mine 0 0 (λ n a b is_a is_b. (let e : a ≡ b = omega arith in e)) sections since

all_since : (entries : List Entry) (thread place : ℕ) → place ≤ length entries → AreSince entries thread place 0 (sections_at entries thread place)
all_since entries thread =
    by_places (λ n. AreSince entries thread n 0 (sections_at entries thread n)) entries tt (λ n entry at since.
    subst (AreSince entries thread (n + 1) 0) (sym (sections_next entries thread n entry at))
    (elim (entry.thread == thread) as (λ b. (entry.thread == thread) ≡ b → AreSince entries thread (n + 1) 0 (cond b (after_section n entry.call (sections_at entries thread n)) (sections_at entries thread n))) [
      | true ↦ λ mine. since_after entries thread n entry at entry.call refl mine (sections_at entries thread n) since
      | false ↦ λ other. still_since entries thread n entry at other 0 (sections_at entries thread n) since
    ] refl))

-- ---- a thread that is about to end a section has one

nested_after : (called : Call) (place : ℕ) (sections : List Section) (rest : List Call) → AreNested (length sections) (called ∷ rest) → AreNested (length (after_section place called sections)) rest
nested_after (call.Begin first second) place sections rest nested = subst (λ n. AreNested n rest) (omega arith) nested.1
nested_after call.End place [] rest nested = absurd (omega (arith, nested.0))
nested_after call.End place (section ∷ sections) rest nested = subst (λ n. AreNested n rest) (omega arith) nested.1
nested_after (call.Dict container dict_call) place sections rest nested = nested
nested_after (call.List container list_call) place sections rest nested = nested
nested_after (call.Set container set_call) place sections rest nested = nested
nested_after (call.Deque container deque_call) place sections rest nested = nested
nested_after (call.Next cursor) place sections rest nested = nested
nested_after call.Quiesce place sections rest nested = nested
nested_after (call.Await other index) place sections rest nested = nested.1
nested_after call.Dump place sections rest nested = nested

module _ (script : ScriptParts) (is_script : IsScript script) (entries : List Entry) (next : (place : ℕ) (entry : Entry) → slice_get entries place ≡ Some entry → IsNext script entries place entry) where
  nested_at_start : (thread : ℕ) → AreNested 0 (calls_of script thread)
  nested_at_start thread =
      elim (slice_get_cases script.threads thread).1 [
        | inl found ↦ subst (AreNested 0) (sym (calls_of_thread script is_script thread found.0 found.2)) (is_thread script is_script thread found.0 found.2).nested
        | inr past ↦ subst (AreNested 0) (sym (ap (λ (o : Option Thread). option_map_or (λ (f : Thread). f.calls) o []) (slice_get_past script.threads thread past.0))) refl
      ]

  -- the calls that are left to a thread
  left_at : ℕ → ℕ → List Call
  left_at thread place = drop (length (entries_of thread (take place entries))) (calls_of script thread)

  left_here : (place : ℕ) (entry : Entry) → slice_get entries place ≡ Some entry → left_at entry.thread place ≡ entry.call ∷ drop (length (entries_of entry.thread (take place entries)) + 1) (calls_of script entry.thread)
  unfolding left_at
  left_here place entry at = drop_here (calls_of script entry.thread) (length (entries_of entry.thread (take place entries))) entry.call (next place entry at).call

  nested_next : (thread place : ℕ) (entry : Entry) → slice_get entries place ≡ Some entry → AreNested (length (sections_at entries thread place)) (left_at thread place) → AreNested (length (sections_at entries thread (place + 1))) (left_at thread (place + 1))
  unfolding left_at
  nested_next thread place entry at nested =
      let front = entries_of thread (take place entries) in
      let sections = sections_at entries thread place in
      let calls = calls_of script thread in
      subst (λ (ss : List Section). AreNested (length ss) (left_at thread (place + 1))) (sym (sections_next entries thread place entry at))
      (subst (λ (es : List Entry). AreNested (length (cond (entry.thread == thread) (after_section place entry.call sections) sections)) (drop (length es) calls)) (sym (filter_next entries place entry at (λ (e : Entry). e.thread == thread)))
      (elim (entry.thread == thread) as (λ b. (entry.thread == thread) ≡ b → AreNested (length (cond b (after_section place entry.call sections) sections)) (drop (length (front ++ cond b (entry ∷ []) [])) calls)) [
        | true ↦ λ mine.
            let same : entry.thread ≡ thread = eqb-true _ _ mine in
            let here : drop (length front) calls ≡ entry.call ∷ drop (length front + 1) calls = subst (λ t. left_at t place ≡ entry.call ∷ drop (length (entries_of t (take place entries)) + 1) (calls_of script t)) same (left_here place entry at) in
            subst (λ n. AreNested (length (after_section place entry.call sections)) (drop n calls)) (sym (length_push front entry))
            (nested_after entry.call place sections (drop (length front + 1) calls) (subst (AreNested (length sections)) here nested))
        | false ↦ λ other. subst (λ (es : List Entry). AreNested (length sections) (drop (length es) calls)) (sym (append-nil front)) nested
      ] refl))

  all_nested : (thread place : ℕ) → place ≤ length entries → AreNested (length (sections_at entries thread place)) (left_at thread place)
  unfolding left_at
  all_nested thread = by_places (λ n. AreNested (length (sections_at entries thread n)) (left_at thread n)) entries (nested_at_start thread) (nested_next thread)

  pub match_of : (ended : ℕ) (end : Entry) → slice_get entries ended ≡ Some end → end.call ≡ call.End → (begun : ℕ) × (begin : Entry) × Matches entries begun ended begin end
  match_of ended end at ends = in_stack (sections_at entries end.thread ended) (all_since entries end.thread ended within) one_open
    where
      within : ended ≤ length entries
      within = let low = slice_get_within entries ended end at in omega arith

      one_open : 0 < length (sections_at entries end.thread ended)
      one_open = (subst (λ (c : Call). AreNested (length (sections_at entries end.thread ended)) (c ∷ drop (length (entries_of end.thread (take ended entries)) + 1) (calls_of script end.thread))) ends
          (subst (AreNested (length (sections_at entries end.thread ended))) (left_here ended end at) (all_nested end.thread ended within))).0

      in_stack : (sections : List Section) → AreSince entries end.thread ended 0 sections → 0 < length sections → (begun : ℕ) × (begin : Entry) × Matches entries begun ended begin end
      in_stack [] since low = absurd (omega arith)
      in_stack (section ∷ sections) since low =
          let is : IsSince entries end.thread ended 0 section = since.0 in
          (section.begun, is.begun.entry, record { before = is.begun.before; begin_at = is.begun.at; end_at = at; first = is.begun.first; second = is.begun.second; begins = is.begun.call; ends = ends; thread = is.begun.mine; inner = is.leads })
