-- Rounds of a look-up, one after the other.
use Rattle.std.proofs.Common.{◌≡◌, ◌≢◌, ◌⊎◌, ℕ, zero, suc, ◌+◌, ◌*◌, ◌%◌, ◌<◌, ◌≤◌, false, List, [], ◌∷◌, ◌++◌, refl, sym, ap, ◌∙◌, subst, inl, inr, ⊎_elim, arith, append_assoc}
use Rattle.ft_model.specs.declared.data.Key.{Key}
use Rattle.ft_layout.specs.Words.{key_kind, gone_kind, key_payload}
use Rattle.ft_trace.specs.declared.Act.{Act}
use Rattle.ft_trace.specs.declared.Act.TheVariants.{RaiseShared, ReadRoot, ReadTable, ReadCounter, ReadBox, Version}
use Rattle.ft_trace.specs.declared.Shape.{Shape}
use Rattle.ft_trace.specs.Acts.{reads}
use Rattle.ft_trace.specs.Addresses.{class_of, slots, IsTableName}
use Rattle.ft_trace.specs.Pictures.{entry_offset}
use Rattle.ft_trace.specs.LoggedReads.{Among, Between}
use Rattle.ft_trace.specs.LoggedLookUps.{Bare, IsNew, ReadsNoRoot}
use Rattle.ft_trace.proofs.Anew.{unread, unread_stay, unread_find, unread_less}
use Rattle.ft_bank.specs.declared.pass.Pass.{Pass}
use Rattle.ft_bank.specs.LastLoads.{IsLastBetween, IsLastLoad}
use Rattle.ft_bank.specs.Passes.{view}
use Rattle.ft_bank.specs.Series.{DidAll}
use Rattle.ft_bank.proofs.LastLoads.{between_older, last_newer, last_older}
use Rattle.ft_search.specs.declared.looks.Looked.{Looked}
use Rattle.ft_search.specs.declared.looks.Looked.TheVariants.{Here, Absent, Contended}
use Rattle.ft_search.specs.declared.rounds.Round.{Round}
use Rattle.ft_search.specs.declared.rounds.Round.TheVariants.{Ended, Moved}
use Rattle.ft_search.specs.KeyLooks.{Stops, StopsAtBox, StopsAtEntry, StopsAtContainer, StopsByVersion, StopsInTable, ShowsLooked, EndsLook}
use Rattle.ft_search.specs.LookSteps.{IsCountMoved}
use Rattle.ft_search.specs.Rounds.{EndsTable, EndsRound}
use Rattle.ft_search.proofs.LoadedLooks.{among_more}
use Rattle.ft_search.proofs.LookSteps.{looked_by, steps_online}
use Rattle.ft_search.proofs.Running.{did_trans, did_log, window_of}

-- ---- what was found stays found

-- two loads of one word, in a longer list
two_in : (a b : Act) (new newer mid rest part old : List Act) → part ≡ newer ++ b ∷ (mid ++ a ∷ rest) → new ++ (part ++ old) ≡ (new ++ newer) ++ b ∷ (mid ++ a ∷ (rest ++ old))
two_in a b new newer mid rest part old is =
    ap (λ (z : List Act). new ++ (z ++ old)) is
    ∙ (ap (λ (z : List Act). new ++ z) (append_assoc newer (b ∷ (mid ++ a ∷ rest)) old ∙ ap (λ (z : List Act). newer ++ b ∷ z) (append_assoc mid (a ∷ rest) old))
    ∙ sym (append_assoc new newer (b ∷ (mid ++ a ∷ (rest ++ old)))))

pub entry_in : (k : Shape) (o t : ℕ) (key : Key) (a b : ℕ) (new part old : List Act) → StopsAtEntry k o t key a b part → StopsAtEntry k o t key a b (new ++ (part ++ old))
entry_in k o t key a b new part old h =
    let at = entry_offset (slots (class_of t)) h.place in
    record {
      place = h.place;
      low = h.low;
      newer = new ++ h.newer;
      mid = h.mid;
      rest = h.rest ++ old;
      is = two_in (ReadTable t (at 0) a) (ReadTable t (at 0) b) new h.newer h.mid h.rest part old h.is;
      moved = h.moved;
      payload_read = among_more (ReadTable t (at 3) (key_payload key)) h.rest old h.payload_read;
      kind_read = ⊎_elim (λ m. inl (among_more (ReadTable t (at 2) (key_kind key)) h.rest old m)) (λ m. inr (among_more (ReadTable t (at 2) (gone_kind key)) h.rest old m)) h.kind_read;
    }

-- the count of the box stopped it
pub count_in : (box a b : ℕ) (new newer : List Act) → IsCountMoved box a b newer → IsCountMoved box a b (new ++ newer)
count_in box a b new newer how =
    ⊎_elim
    (λ h. inl (h.0, h.1, record { newer = new ++ h.2.newer; rest = h.2.rest; is = ap (λ (z : List Act). new ++ z) h.2.is ∙ sym (append_assoc new h.2.newer (ReadBox box 0 3 ∷ h.2.rest)) }))
    (λ h. inr (h.0, (new ++ h.1.0, h.1.1, ap (λ (z : List Act). new ++ z) h.1.2 ∙ sym (append_assoc new h.1.0 (RaiseShared box a b ∷ (ReadBox box 0 a ∷ h.1.1))))))
    how

box_in : (k : Shape) (o t : ℕ) (key : Key) (a b : ℕ) (new part old : List Act) → StopsAtBox k o t key a b part → StopsAtBox k o t key a b (new ++ (part ++ old))
box_in k o t key a b new part old h =
    let at = entry_offset (slots (class_of t)) h.place in
    record {
      place = h.place;
      low = h.low;
      box = h.box;
      version = h.version;
      even = h.even;
      newer = new ++ h.newer;
      mid = h.mid;
      rest = h.rest ++ old;
      is = two_in (ReadTable t (at 0) h.version) (ReadTable t (at 0) h.version) new h.newer h.mid h.rest part old h.is;
      names = h.names;
      count = count_in h.box a b new h.newer h.count;
      payload_read = among_more (ReadTable t (at 3) (key_payload key)) h.rest old h.payload_read;
      kind_read = among_more (ReadTable t (at 2) (key_kind key)) h.rest old h.kind_read;
    }

-- a round in the table that the root named, which it was read to name after it
table_stops : (k : Shape) (o t : ℕ) (key : Key) (a b : ℕ) (part old : List Act) → StopsInTable k o t key a b part → Stops k o key a b (ReadRoot o (suc t) ∷ (part ++ old))
table_stops k o t key a b part old how =
    let root : Among (ReadRoot o (suc t)) (ReadRoot o (suc t) ∷ (part ++ old)) = record { newer = []; rest = part ++ old; is = refl } in
    ⊎_elim
    (λ (h : StopsAtEntry k o t key a b part). inl (inl (t, root, entry_in k o t key a b (ReadRoot o (suc t) ∷ []) part old h)))
    (λ (h : StopsAtBox k o t key a b part). inr (t, root, box_in k o t key a b (ReadRoot o (suc t) ∷ []) part old h))
    how

pub container_in : (o a b : ℕ) (new part old : List Act) → StopsAtContainer o a b part → StopsAtContainer o a b (new ++ (part ++ old))
container_in o a b new part old h = record {
  newer = new ++ h.newer;
  mid = h.mid;
  rest = h.rest ++ old;
  is = two_in (Version o a) (Version o b) new h.newer h.mid h.rest part old h.is;
  moved = h.moved;
  bare = h.bare;
}

-- in a longer list
pub stops_older : (k : Shape) (o : ℕ) (key : Key) (a b : ℕ) (part old : List Act) → Stops k o key a b part → Stops k o key a b (part ++ old)
stops_older k o key a b part old how =
    ⊎_elim
    (λ (v : StopsByVersion k o key a b part).
    inl (⊎_elim
    (λ (x : (t : ℕ) × Among (ReadRoot o (suc t)) part × StopsAtEntry k o t key a b part). inl (x.0, among_more (ReadRoot o (suc x.0)) part old x.1, entry_in k o x.0 key a b [] part old x.2))
    (λ (x : StopsAtContainer o a b part). inr (container_in o a b [] part old x))
    v))
    (λ (x : (t : ℕ) × Among (ReadRoot o (suc t)) part × StopsAtBox k o t key a b part). inr (x.0, among_more (ReadRoot o (suc x.0)) part old x.1, box_in k o x.0 key a b [] part old x.2))
    how

pub ends_older : (o n : ℕ) (part old : List Act) → EndsLook o n part → EndsLook o n (part ++ old)
ends_older o n part old how = ⊎_elim (λ x. inl (x.0, x.1 ++ old, ap (λ (z : List Act). z ++ old) x.2)) (λ b. inr (between_older o n part old b)) how

-- a look-up that a longer list of loads ends
pub looked_in : (k : Shape) (o : ℕ) (key : Key) (part old log : List Act) (looked : Looked) → ShowsLooked k o key part log looked → ShowsLooked k o key (part ++ old) log looked
looked_in k o key part old log (Here value_kind value n) h = (h.0, last_older n part old h.1, ends_older o n part old h.2)
looked_in k o key part old log (Absent n) h = (h.0, last_older n part old h.1, ends_older o n part old h.2)
looked_in k o key part old log (Contended a b) h = stops_older k o key a b part old h

-- ---- a round where the root read 0

pub bare_moved : (k : Shape) (o : ℕ) (key : Key) (p q1 q2 : Pass) (rest : List Act) (opened r : ℕ) → (view p).log ≡ ReadRoot o 0 ∷ rest → DidAll (Version o opened ∷ []) p q1 → DidAll (ReadRoot o r ∷ []) q1 q2 → r ≢ 0 → ((u : ℕ) → r ≡ suc u → IsTableName k u) → IsNew o r (view q1).log → EndsRound k o key 0 p q2 (Moved r)
bare_moved k o key p q1 q2 rest opened r last a b ne table new =
    let part : List Act = Version o opened ∷ [] in
    let log : (view q1).log ≡ part ++ (view p).log = did_log part p q1 a in
    let did = did_trans (ReadRoot o r ∷ []) part p q1 q2 a b in (
      part,
      ((tt, tt), looked_by (ReadRoot o r ∷ part) p q2 tt did),
      did,
      ne,
      λ u e. (table u e, sym (ap (reads u) log) ∙ new u 0 part rest e (λ s. ne (sym s)) (log ∙ ap (λ (z : List Act). part ++ z) last) tt),
    )

abbrev pub bare_acts : ℕ → ℕ → ℕ → ℕ → ℕ → List Act
bare_acts o closed n root opened = Version o closed ∷ (ReadCounter n ∷ (ReadRoot o root ∷ (Version o opened ∷ [])))

pub bare_did : (o closed n root opened : ℕ) (p q1 q2 q3 q4 : Pass) → DidAll (Version o opened ∷ []) p q1 → DidAll (ReadRoot o root ∷ []) q1 q2 → DidAll (ReadCounter n ∷ []) q2 q3 → DidAll (Version o closed ∷ []) q3 q4 → DidAll (bare_acts o closed n root opened) p q4
bare_did o closed n root opened p q1 q2 q3 q4 a b c d =
    did_trans (Version o closed ∷ []) (ReadCounter n ∷ (ReadRoot o root ∷ (Version o opened ∷ []))) p q3 q4
    (did_trans (ReadCounter n ∷ []) (ReadRoot o root ∷ (Version o opened ∷ [])) p q2 q3 (did_trans (ReadRoot o root ∷ []) (Version o opened ∷ []) p q1 q2 a b) c) d

pub bare_stops : (o closed n root opened : ℕ) (old : List Act) → root ≡ 0 → (opened % 2 ≢ 0) ⊎ (closed ≢ opened) → StopsAtContainer o opened closed (bare_acts o closed n root opened ++ old)
bare_stops o closed n root opened old none why = record {
  newer = [];
  mid = ReadCounter n ∷ (ReadRoot o root ∷ []);
  rest = old;
  is = refl;
  moved = why;
  bare = record { newer = ReadCounter n ∷ []; rest = []; is = ap (λ (z : ℕ). ReadCounter n ∷ (ReadRoot o z ∷ [])) none };
}

pub bare_of : (o closed n root opened : ℕ) (p q : Pass) → DidAll (bare_acts o closed n root opened) p q → root ≡ 0 → closed ≡ opened → opened % 2 ≡ 0 → Bare (view q).log o n
bare_of o closed n root opened p q did none same even =
    let mid : List Act = ReadCounter n ∷ (ReadRoot o 0 ∷ []) in
    let between : Between (view q).log o mid = record {
      version = opened;
      even = even;
      newer = [];
      rest = (view p).log;
      is = did_log (bare_acts o closed n root opened) p q did ∙ (λ d. Version o (same d) ∷ (ReadCounter n ∷ (ReadRoot o (none d) ∷ (Version o opened ∷ (view p).log))));
    } in
    record {
      mid = mid;
      between = between;
      root = record { newer = ReadCounter n ∷ []; rest = []; is = refl };
      stamp = record { newer = []; rest = ReadRoot o 0 ∷ []; is = refl };
    }

-- of these loads and the one of the root before them
pub bare_last : (o closed n root opened : ℕ) → IsLastLoad n (bare_acts o closed n root opened ++ ReadRoot o 0 ∷ [])
bare_last o closed n root opened =
    record { newer = Version o closed ∷ []; rest = ReadRoot o root ∷ (Version o opened ∷ (ReadRoot o 0 ∷ [])); is = refl; none = refl }

pub bare_between : (o closed n root opened : ℕ) → closed ≡ opened → opened % 2 ≡ 0 → IsLastBetween o n (bare_acts o closed n root opened ++ ReadRoot o 0 ∷ [])
bare_between o closed n root opened same even = record {
  version = opened;
  even = even;
  newer = [];
  mid = [];
  older = ReadRoot o root ∷ [];
  rest = ReadRoot o 0 ∷ [];
  is = λ d. Version o (same d) ∷ (ReadCounter n ∷ (ReadRoot o root ∷ (Version o opened ∷ (ReadRoot o 0 ∷ []))));
  none = refl;
  none_between = refl;
}

pub bare_absent : (k : Shape) (o closed n root opened : ℕ) (key : Key) (p q : Pass) → DidAll (bare_acts o closed n root opened) p q → root ≡ 0 → closed ≡ opened → opened % 2 ≡ 0 → EndsRound k o key 0 p q (Ended (Absent n))
bare_absent k o closed n root opened key p q did none same even = (
  bare_acts o closed n root opened,
  tt,
  looked_by (bare_acts o closed n root opened) p q tt did,
  did,
  (
    inr (bare_of o closed n root opened p q did none same even),
    bare_last o closed n root opened,
    inr (bare_between o closed n root opened same even),
  ),
)

-- ---- a round at whatever the root was

-- the counter isn't loaded again where only the root is read once more
pub last_read : (o r n : ℕ) (part old : List Act) → IsLastLoad n part → IsLastLoad n ((ReadRoot o r ∷ part) ++ old)
last_read o r n part old last = last_newer n (ReadRoot o r ∷ []) (part ++ old) refl (last_older n part old last)

pub at_bare : (k : Shape) (o : ℕ) (key : Key) (root : ℕ) (p q : Pass) (r : Round) → root ≡ 0 → EndsRound k o key 0 p q r → EndsRound k o key root p q r
at_bare k o key root p q r none e = subst (λ (z : ℕ). EndsRound k o key z p q r) (sym none) e

pub at_table : (k : Shape) (o : ℕ) (key : Key) (t : ℕ) (p q : Pass) (r : Round) (rest : List Act) → (view q).shape ≡ k → (view p).log ≡ ReadRoot o (suc t) ∷ rest → EndsTable k o key t p q r → EndsRound k o key (suc t) p q r
at_table k o key t p q (Moved r) rest shape last e = (e.0, e.1, e.2, e.3, e.4)
at_table k o key t p q (Ended (Here value_kind value n)) rest shape last e =
    let part = e.0 in
    let win = window_of o t part rest p q e.2 last (steps_online part e.1.0.0) in
    (ReadRoot o (suc t) ∷ part, e.1.0.0, e.1.1, e.2, (e.3.0 (view q) shape q.possible win, last_read o (suc t) n part (ReadRoot o (suc t) ∷ []) e.3.1, inl (t, part ++ ReadRoot o (suc t) ∷ [], refl)))
at_table k o key t p q (Ended (Absent n)) rest shape last e =
    let part = e.0 in
    let win = window_of o t part rest p q e.2 last (steps_online part e.1.0.0) in
    (ReadRoot o (suc t) ∷ part, e.1.0.0, e.1.1, e.2, (e.3.0 (view q).log win, last_read o (suc t) n part (ReadRoot o (suc t) ∷ []) e.3.1, inl (t, part ++ ReadRoot o (suc t) ∷ [], refl)))
at_table k o key t p q (Ended (Contended a b)) rest shape last e =
    let part = e.0 in
    (ReadRoot o (suc t) ∷ part, e.1.0.0, e.1.1, e.2, table_stops k o t key a b part (ReadRoot o (suc t) ∷ []) e.3)

-- ---- the measure

abbrev pub weigh : ℕ → ℕ
weigh zero = 0
weigh (suc n) = 1

-- How many changes of the root are left: two for each table that the pass has not found since it last announced, and one
-- where the root named a table.
abbrev pub rounds_left : List Act → ℕ → ℕ
rounds_left l root = 2 * unread (65536 * 17) l + weigh root

pub table_low : (k : Shape) (u : ℕ) → IsTableName k u → u < 65536 * 17
unfolding class_of
table_low k u is = let a = is.0.greatest in omega (arith, a)

weigh_one : (n : ℕ) → n ≢ 0 → weigh n ≡ 1
weigh_one zero ne = absurd (ne refl)
weigh_one (suc n) ne = refl

to_none : (a b w : ℕ) → a ≤ b → w ≡ 1 → 2 * a + 0 < 2 * b + w
to_none a b w low one = omega (arith, low, one)

to_table : (a b w : ℕ) → a < b → 2 * a + 1 < 2 * b + w
to_table a b w low = omega (arith, low)

falls_by : (n o root r : ℕ) (part l : List Act) → ReadsNoRoot part → r ≢ root → ((u : ℕ) → r ≡ suc u → (u < n) × (reads u (part ++ l) ≡ false)) → 2 * unread n (ReadRoot o r ∷ (part ++ l)) + weigh r < 2 * unread n l + weigh root
falls_by n o root zero part l roots ne new =
    let same = unread_stay n part l roots in
    to_none (unread n (ReadRoot o 0 ∷ (part ++ l))) (unread n l) (weigh root) (subst (λ (z : ℕ). unread n (ReadRoot o 0 ∷ (part ++ l)) ≤ z) same (unread_find n o 0 (part ++ l))) (weigh_one root (λ z. ne (sym z)))
falls_by n o root (suc u) part l roots ne new =
    let same = unread_stay n part l roots in
    let h = new u refl in
    to_table (unread n (ReadRoot o (suc u) ∷ (part ++ l))) (unread n l) (weigh root) (subst (λ (z : ℕ). unread n (ReadRoot o (suc u) ∷ (part ++ l)) < z) same (unread_less n o u (part ++ l) h.0 h.1))

pub falls : (k : Shape) (o : ℕ) (key : Key) (root r : ℕ) (p q : Pass) → EndsRound k o key root p q (Moved r) → rounds_left (view q).log r < rounds_left (view p).log root
falls k o key root r p q e =
    let log = did_log (ReadRoot o r ∷ e.0) p q e.2 in
    subst (λ (z : List Act). rounds_left z r < rounds_left (view p).log root) (sym log)
    (falls_by (65536 * 17) o root r e.0 (view p).log e.1.0.1 e.3 (λ u is. let h = e.4 u is in (table_low k u h.0, h.1)))
