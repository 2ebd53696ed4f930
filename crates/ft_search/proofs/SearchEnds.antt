-- How a search of a table ends: what its loads show, once the root is read again.
use Rattle.std.proofs.Common.{◌≡◌, ◌≢◌, ◌⊎◌, ℕ, suc, ◌%◌, ◌<◌, List, [], ◌∷◌, ◌++◌, length, refl, sym, ap, ◌∙◌, subst, inl, inr, ⊎_elim, arith, append_assoc, append-nil, length-append}
use Rattle.std.specs.Prelude.{slice_index}
use mathlib.Core.Logic.{dite}
use native.Mathlib.Decide.{ℕ_discrete}
use Rattle.ft_model.specs.declared.data.Key.{Key}
use Rattle.ft_layout.specs.Words.{key_kind, gone_kind, key_payload}
use Rattle.ft_trace.specs.declared.Act.{Act}
use Rattle.ft_trace.specs.declared.Act.TheVariants.{ReadBox, ReadTable, ReadCounter}
use Rattle.ft_trace.specs.declared.Shape.{Shape}
use Rattle.ft_trace.specs.Addresses.{class_of, slots}
use Rattle.ft_trace.specs.Pictures.{entry_offset, walk_of}
use Rattle.ft_trace.specs.Kinds.{rows}
use Rattle.ft_trace.specs.ContainerStates.{kind_in}
use Rattle.ft_trace.specs.LoggedLookUps.{Passed, Hit, Miss, Full, LookUpWindow, IsReadAt}
use Rattle.ft_bank.specs.LastLoads.{IsLastLoad}
use Rattle.ft_bank.proofs.LastLoads.{loads_none}
use Rattle.ft_search.specs.declared.reading.SeenEntry.{SeenEntry}
use Rattle.ft_search.specs.declared.looks.Looked.TheVariants.{Here, Absent}
use Rattle.ft_search.specs.KeyLooks.{StopsInTable}
use Rattle.ft_search.specs.Rounds.{same_acts, met_acts, live_acts, SeesWhole, IsVersionMoved, IsBoxMoved, Walked, ClosesAt}
use Rattle.ft_search.proofs.LoadedLooks.{among_in}
use Rattle.ft_search.proofs.LookSteps.{boxes_are_steps}
use Rattle.ft_search.proofs.Walking.{visit_or_beyond, slot_at, each_slot}

-- a value that was read among some loads was read among more
read_in : (t kind_at payload_at kind payload : ℕ) (new mid old : List Act) → IsReadAt t kind_at payload_at kind payload mid → IsReadAt t kind_at payload_at kind payload (new ++ (mid ++ old))
read_in t kind_at payload_at kind payload new mid old how =
    ⊎_elim
    (λ h. inl ((h.0.0, h.0.1, among_in (ReadTable t kind_at h.0.0) new mid old h.0.2), among_in (ReadTable t kind_at kind) new mid old h.1, among_in (ReadTable t payload_at payload) new mid old h.2))
    (λ h. inr (h.0, (among_in (ReadTable t kind_at 4) new mid old h.1.0, among_in (ReadTable t payload_at h.0) new mid old h.1.1), among_in (ReadBox h.0 1 kind) new mid old h.2, among_in (ReadBox h.0 2 payload) new mid old h.3))
    how

module _ (k : Shape) (o t : ℕ) (key : Key) (slot place : ℕ) (earlier : List Act) where
  abbrev N : ℕ
  N = slots (class_of t)

  abbrev m : ℕ
  m = rows (kind_in k.starts o) (class_of t)

  abbrev entry : ℕ → ℕ → Act
  entry w f = ReadTable t (entry_offset N place w) f

  -- after the index word that named it the entry was found to have the payload of the key, then this kind, then the payload still
  abbrev same : List Act
  same = same_acts t slot place key earlier

  abbrev met : ℕ → List Act
  met found = met_acts t slot place key found earlier

  abbrev live : List Act
  live = live_acts t slot place key earlier

  abbrev seen_kind : ℕ → List Act
  seen_kind found = entry 2 found ∷ (entry 3 (key_payload key) ∷ [])

  abbrev seen_key : List Act
  seen_key = entry 3 (key_payload key) ∷ seen_kind (key_kind key)

  -- an entry with another payload, with another kind, and with another payload since
  pub payload_passed : (found : ℕ) → found ≢ key_payload key → Passed (entry 3 found ∷ (ReadTable t slot (suc place) ∷ earlier)) t m slot key
  payload_passed found apart =
      visit_or_beyond t m slot key (entry 3 found ∷ (ReadTable t slot (suc place) ∷ earlier)) (entry 3 found ∷ []) earlier place refl
      (inr (inl (record { found = found; apart = apart; newer = []; mid = []; rest = earlier; is = refl })))

  pub kind_passed : (found : ℕ) → found ≢ key_kind key → found ≢ gone_kind key → Passed (met found) t m slot key
  kind_passed found live dead =
      visit_or_beyond t m slot key (met found) (seen_kind found) earlier place refl
      (inl (record { found = found; live = live; dead = dead; newer = []; mid = entry 3 (key_payload key) ∷ []; rest = earlier; is = refl }))

  pub changed_passed : (found : ℕ) → found ≢ key_payload key → Passed (entry 3 found ∷ met (key_kind key)) t m slot key
  changed_passed found apart =
      visit_or_beyond t m slot key (entry 3 found ∷ met (key_kind key)) (entry 3 found ∷ seen_kind (key_kind key)) earlier place refl
      (inr (inl (record { found = found; apart = apart; newer = []; mid = seen_kind (key_kind key); rest = earlier; is = refl })))

  -- the loads of an entry that was read, after what was loaded before
  module _ (seen : SeenEntry) (acts : List Act) (r : SeesWhole t place seen acts) where
    abbrev closed : Act
    closed = entry 0 seen.closed

    abbrev opened : Act
    opened = entry 0 seen.opened

    abbrev stamped : Act
    stamped = ReadCounter seen.number

    abbrev kind_load : Act
    kind_load = entry 2 seen.key_kind

    read_is : (l : List Act) → acts ++ l ≡ r.dropped ++ closed ∷ (stamped ∷ (r.mid ++ kind_load ∷ (opened ∷ l)))
    read_is l =
        ap (λ (z : List Act). z ++ l) r.is
        ∙ (append_assoc r.dropped (closed ∷ (stamped ∷ (r.mid ++ kind_load ∷ (opened ∷ [])))) l
        ∙ ap (λ (z : List Act). r.dropped ++ closed ∷ (stamped ∷ z)) (append_assoc r.mid (kind_load ∷ (opened ∷ [])) l))

    -- by the kind of the key
    by_kind : (l : List Act) → acts ++ l ≡ (r.dropped ++ closed ∷ (stamped ∷ r.mid)) ++ kind_load ∷ (opened ∷ l)
    by_kind l = read_is l ∙ sym (append_assoc r.dropped (closed ∷ (stamped ∷ r.mid)) (kind_load ∷ (opened ∷ l)))

    -- by the version at first
    by_version : (l : List Act) → acts ++ l ≡ r.dropped ++ closed ∷ ((stamped ∷ (r.mid ++ kind_load ∷ [])) ++ opened ∷ l)
    by_version l = read_is l ∙ ap (λ (z : List Act). r.dropped ++ closed ∷ (stamped ∷ z)) (sym (append_assoc r.mid (kind_load ∷ []) (opened ∷ l)))

    -- an entry that was found to be another's, or deleted, since
    pub moved_passed : seen.closed ≡ seen.opened → seen.opened % 2 ≡ 0 → seen.key_kind ≢ key_kind key → Passed (acts ++ live) t m slot key
    moved_passed steady even other =
        let named : acts ++ live ≡ (acts ++ seen_key) ++ ReadTable t slot (suc place) ∷ earlier = sym (append_assoc acts seen_key (ReadTable t slot (suc place) ∷ earlier)) in
        visit_or_beyond t m slot key (acts ++ live) (acts ++ seen_key) earlier place named
        (dite (ℕ_discrete seen.key_kind (gone_kind key))
        (λ (gone : seen.key_kind ≡ gone_kind key).
        inr (inr (record {
          version = seen.closed;
          even = ap (λ (z : ℕ). z % 2) steady ∙ even;
          newer = r.dropped;
          mid = stamped ∷ r.mid;
          rest = opened ∷ live;
          is = read_is live ∙ ap (λ (z : ℕ). r.dropped ++ closed ∷ (stamped ∷ (r.mid ++ entry 2 z ∷ (opened ∷ live)))) gone;
          before = acts ++ seen_key;
          older = earlier;
          named = named;
        })))
        (λ apart.
        inl (record {
          found = seen.key_kind;
          live = other;
          dead = apart;
          newer = r.dropped ++ closed ∷ (stamped ∷ r.mid);
          mid = opened ∷ seen_key;
          rest = earlier;
          is = by_kind live;
        })))

    -- the version of the entry was odd, or changed
    pub stops_seen : place < m → (seen.opened % 2 ≢ 0) ⊎ (seen.closed ≢ seen.opened) → StopsInTable k o t key seen.opened seen.closed (acts ++ live)
    stops_seen low why = inl (record {
      place = place;
      low = low;
      newer = r.dropped;
      mid = stamped ∷ (r.mid ++ kind_load ∷ []);
      rest = live;
      is = by_version live;
      moved = why;
      payload_read = record { newer = []; rest = met (key_kind key); is = refl };
      kind_read = inl (record { newer = entry 3 (key_payload key) ∷ []; rest = same; is = refl });
    })

    -- the counter was loaded last between the two loads of the version
    stamped_last : IsLastLoad seen.number (acts ++ live)
    stamped_last = record {
      newer = r.dropped ++ closed ∷ [];
      rest = r.mid ++ kind_load ∷ (opened ∷ live);
      is = read_is live ∙ sym (append_assoc r.dropped (closed ∷ []) (stamped ∷ (r.mid ++ kind_load ∷ (opened ∷ live))));
      none = loads_none r.dropped (closed ∷ []) (boxes_are_steps r.dropped r.drops).1 refl;
    }

    -- the entry was there all the while
    abbrev hit_there : (log : List Act) → LookUpWindow log o t (acts ++ live) → seen.closed ≡ seen.opened → seen.opened % 2 ≡ 0 → seen.key_kind ≡ key_kind key → Hit log o t place key seen.number
    hit_there log window steady even stays = record {
      walk = acts ++ live;
      window = window;
      version = seen.opened;
      even = even;
      mid = stamped ∷ (r.mid ++ kind_load ∷ []);
      newer = r.dropped;
      rest = live;
      is = by_version live ∙ ap (λ (z : ℕ). r.dropped ++ entry 0 z ∷ ((stamped ∷ (r.mid ++ kind_load ∷ [])) ++ opened ∷ live)) steady;
      live = record { newer = stamped ∷ r.mid; rest = []; is = ap (λ (z : ℕ). stamped ∷ (r.mid ++ entry 2 z ∷ [])) stays };
      stamp = record { newer = []; rest = r.mid ++ kind_load ∷ []; is = refl };
      searched = [];
      before = same;
      between = [];
      key_is = refl;
    }

    pub closes_here : place < m → seen.closed ≡ seen.opened → seen.opened % 2 ≡ 0 → seen.key_kind ≡ key_kind key → ClosesAt k o t key (acts ++ live) (Here seen.kind seen.value seen.number)
    closes_here inside steady even stays = (
      (λ w shape possible window.
          record {
            t = t;
            place = place;
            low = inside;
            hit = hit_there w.log window steady even stays;
            read = read_in t (entry_offset N place 4) (entry_offset N place 5) seen.kind seen.value (stamped ∷ []) r.mid (kind_load ∷ []) r.value;
          }),
      stamped_last,
    )

  -- the version stopped it before the value was read in its box, or the count of the box did
  pub stops_read : (a b : ℕ) (acts : List Act) → place < m → IsVersionMoved t place a b acts ⊎ IsBoxMoved t place a b acts → StopsInTable k o t key a b (acts ++ live)
  stops_read a b acts low how =
      ⊎_elim
      (λ (h : IsVersionMoved t place a b acts).
      inl (record {
        place = place;
        low = low;
        newer = [];
        mid = h.mid;
        rest = live;
        is = ap (λ (z : List Act). z ++ live) h.is ∙ ap (λ (z : List Act). entry 0 b ∷ z) (append_assoc h.mid (entry 0 a ∷ []) live);
        moved = h.moved;
        payload_read = record { newer = []; rest = met (key_kind key); is = refl };
        kind_read = inl (record { newer = entry 3 (key_payload key) ∷ []; rest = same; is = refl });
      }))
      (λ (h : IsBoxMoved t place a b acts).
      inr (record {
        place = place;
        low = low;
        box = h.box;
        version = h.version;
        even = h.even;
        newer = h.raised;
        mid = h.mid;
        rest = live;
        is = ap (λ (z : List Act). z ++ live) h.is
            ∙ (append_assoc h.raised (entry 0 h.version ∷ (h.mid ++ entry 0 h.version ∷ [])) live
            ∙ ap (λ (z : List Act). h.raised ++ entry 0 h.version ∷ z) (append_assoc h.mid (entry 0 h.version ∷ []) live));
        names = h.names;
        count = h.count;
        payload_read = record { newer = []; rest = met (key_kind key); is = refl };
        kind_read = record { newer = entry 3 (key_payload key) ∷ []; rest = same; is = refl };
      }))
      how

  -- a deleted entry with an even version
  pub deleted_passed : (version : ℕ) → version % 2 ≡ 0 → Passed (entry 0 version ∷ met (gone_kind key)) t m slot key
  deleted_passed version even =
      visit_or_beyond t m slot key (entry 0 version ∷ met (gone_kind key)) (entry 0 version ∷ seen_kind (gone_kind key)) earlier place refl
      (inr (inr (record {
        version = version;
        even = even;
        newer = [];
        mid = [];
        rest = same;
        is = refl;
        before = entry 0 version ∷ seen_kind (gone_kind key);
        older = earlier;
        named = refl;
      })))

  pub stops_deleted : place < m → (opened closed : ℕ) → opened % 2 ≢ 0 → StopsInTable k o t key opened closed (entry 0 closed ∷ (entry 0 opened ∷ met (gone_kind key)))
  stops_deleted low opened closed odd = inl (record {
    place = place;
    low = low;
    newer = [];
    mid = [];
    rest = met (gone_kind key);
    is = refl;
    moved = inl odd;
    payload_read = record { newer = entry 2 (gone_kind key) ∷ []; rest = ReadTable t slot (suc place) ∷ earlier; is = refl };
    kind_read = inr (record { newer = []; rest = same; is = refl });
  })

module _ (k : Shape) (o t : ℕ) (key : Key) where
  -- the walk ended at a slot never used, which was loaded after the counter
  pub closes_free : (n slot : ℕ) (left rest : List ℕ) (part : List Act) → Walked k o t key part left → left ≡ slot ∷ rest → ClosesAt k o t key (ReadTable t slot 0 ∷ (ReadCounter n ∷ part)) (Absent n)
  closes_free n slot left rest part w is =
      let m = rows (kind_in k.starts o) (class_of t) in
      let probe = walk_of (kind_in k.starts o) k.texts (class_of t) key in
      let split : probe ≡ w.passed ++ slot ∷ rest = w.split ∙ ap (λ (z : List ℕ). w.passed ++ z) is in
      let here : slice_index probe (length w.passed) ≡ slot = ap (λ (z : List ℕ). slice_index z (length w.passed)) split ∙ slot_at w.passed slot rest in
      let long : length probe ≡ length (w.passed ++ slot ∷ rest) = ap length split in
      let walk : List Act = ReadTable t slot 0 ∷ (ReadCounter n ∷ part) in (
        (λ log window.
            let miss : Miss log o t m probe key n = record {
              walk = walk;
              window = window;
              steps = length w.passed;
              small = low_step w.passed slot rest long;
              newer = [];
              mid = [];
              rest = part;
              is = ap (λ (z : ℕ). ReadTable t z 0 ∷ (ReadCounter n ∷ part)) (sym here);
              visits = λ j less. subst (λ (z : List ℕ). Passed part t m (slice_index z j) key) (sym split) (each_slot (λ z. Passed part t m z key) w.passed (slot ∷ rest) w.rightly j less);
            } in
            inl (t, inl miss)),
        record { newer = ReadTable t slot 0 ∷ []; rest = part; is = refl; none = refl },
      )
    where
      low_step : (passed : List ℕ) (slot : ℕ) (rest : List ℕ) → length (walk_of (kind_in k.starts o) k.texts (class_of t) key) ≡ length (passed ++ slot ∷ rest) → length passed < length (walk_of (kind_in k.starts o) k.texts (class_of t) key)
      low_step passed slot rest long = let e = length-append passed (slot ∷ rest) in omega (arith, long, e)

  -- every slot was passed before the counter was loaded
  pub closes_full : (n : ℕ) (left : List ℕ) (part : List Act) → Walked k o t key part left → left ≡ [] → ClosesAt k o t key (ReadCounter n ∷ part) (Absent n)
  closes_full n left part w none =
      let m = rows (kind_in k.starts o) (class_of t) in
      let probe = walk_of (kind_in k.starts o) k.texts (class_of t) key in
      let split : probe ≡ w.passed ++ [] = w.split ∙ ap (λ (z : List ℕ). w.passed ++ z) none in
      let long : length probe ≡ length w.passed = ap length (split ∙ append-nil w.passed) in (
        (λ log window.
            let full : Full log o t m probe key n = record {
              walk = ReadCounter n ∷ part;
              window = window;
              mid = [];
              rest = part;
              is = refl;
              visits = λ j less. subst (λ (z : List ℕ). Passed part t m (slice_index z j) key) (sym split) (each_slot (λ z. Passed part t m z key) w.passed [] w.rightly j (omega (arith, less, long)));
            } in
            inl (t, inr full)),
        record { newer = []; rest = part; is = refl; none = refl },
      )
