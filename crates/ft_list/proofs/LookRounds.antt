-- Rounds of a look-up of one item.
use Rattle.std.proofs.Common.{◌≡◌, ◌≢◌, ◌⊎◌, ℕ, suc, ◌%◌, ◌^◌, ◌<◌, ◌≤◌, List, [], ◌∷◌, ◌++◌, refl, sym, ap, ◌∙◌, inl, inr, ⊎_elim, append_assoc, subst}
use Rattle.std.specs.Prelude.{pos}
use Rattle.ft_model.specs.declared.data.Key.TheVariants as key
use Rattle.ft_model.specs.declared.script.Kind.TheVariants as kind
use Rattle.ft_model.specs.Classes.{list_items}
use Rattle.ft_model.specs.declared.script.Kind.{Kind}
use Rattle.ft_trace.specs.declared.Act.{Act}
use Rattle.ft_trace.specs.declared.Act.TheVariants.{ReadRoot, ReadTable, ReadCounter, ReadBox}
use Rattle.ft_trace.specs.declared.Shape.{Shape}
use Rattle.ft_trace.specs.Addresses.{class_of, slots, IsTableName, container_count}
use Rattle.ft_trace.specs.ContainerStates.{kind_in}
use Rattle.ft_trace.specs.Kinds.{IsItems}
use Rattle.ft_trace.specs.LoggedReads.{Among}
use Rattle.ft_trace.specs.Pictures.{item_offset}
use Rattle.ft_trace.specs.Acts.{reads}
use Rattle.ft_trace.specs.LoggedLookUps.{IsNew, ItemHit, IsReadAsBox, IsReadAt, ReadsNoRoot}
use Rattle.ft_trace.specs.SeenBoxes.{SawBox}
use Rattle.ft_trace.proofs.BoxedReads.{items_places}
use Rattle.ft_bank.specs.declared.pass.Pass.{Pass}
use Rattle.ft_bank.specs.Passes.{view}
use Rattle.ft_bank.specs.Series.{DidAll}
use Rattle.ft_bank.specs.declared.table.Table.{Table}
use Rattle.ft_bank.specs.TableNames.{table_id, IsTableIn}
use Rattle.ft_bank.proofs.LastLoads.{last_older, loads_none}
use Rattle.ft_bank.proofs.TableAddresses.{class_is}
use Rattle.ft_search.specs.declared.raising.InBox.{InBox}
use Rattle.ft_search.specs.declared.raising.SeenBox.TheVariants as box
use Rattle.ft_search.specs.KeyLooks.{StopsAtContainer}
use Rattle.ft_search.specs.LookSteps.{SeesInBox, WasNamed}
use Rattle.ft_search.specs.Rounds.{IsFresh}
use Rattle.ft_search.proofs.Running.{did_log, window_of}
use Rattle.ft_search.proofs.LoadedLooks.{among_more}
use Rattle.ft_search.proofs.LookSteps.{boxes_are_steps, looked_by, steps_online}
use Rattle.ft_search.proofs.Rounding.{bare_acts, bare_between, bare_last, bare_of, container_in, count_in, ends_older, last_read, rounds_left, falls as round_falls}
use Rattle.ft_list.specs.declared.looks.LookedItem.{LookedItem}
use Rattle.ft_list.specs.declared.looks.LookedItem.TheVariants.{Item, Past, Contended}
use Rattle.ft_list.specs.declared.looks.ItemRound.{ItemRound}
use Rattle.ft_list.specs.declared.looks.ItemRound.TheVariants.{Ended, Moved}
use Rattle.ft_list.specs.declared.looks.SeenItem.{SeenItem}
use Rattle.ft_list.specs.ItemLooks.{SeesWholeItem, StopsAtItem, StopsAtItemBox, StopsInItem, StopsItemByVersion, StopsItemLook, ShowsFound, ItemClosesAt, EndsItemTable, EndsItemRound}

-- a value that was read among some loads was read among more
read_in : (t kind_at payload_at kind payload : ℕ) (new mid : List Act) → IsReadAt t kind_at payload_at kind payload mid → IsReadAt t kind_at payload_at kind payload (new ++ mid)
read_in t kind_at payload_at kind payload new mid how =
    let more : (a : Act) → Among a mid → Among a (new ++ mid) = λ a m. record { newer = new ++ m.newer; rest = m.rest; is = ap (λ (z : List Act). new ++ z) m.is ∙ sym (append_assoc new m.newer (a ∷ m.rest)) } in
    ⊎_elim
    (λ h. inl ((h.0.0, h.0.1, more (ReadTable t kind_at h.0.0) h.0.2), more (ReadTable t kind_at kind) h.1, more (ReadTable t payload_at payload) h.2))
    (λ h. inr (h.0, (more (ReadTable t kind_at 4) h.1.0, more (ReadTable t payload_at h.0) h.1.1), more (ReadBox h.0 1 kind) h.2, more (ReadBox h.0 2 payload) h.3))
    how

-- what the loads of an item show that was read
module _ (k : Shape) (o t index : ℕ) (low : index < slots (class_of t)) (seen : SeenItem) (acts : List Act) (r : SeesWholeItem t index seen acts) where
  abbrev word : ℕ → ℕ → Act
  word w f = ReadTable t (item_offset index w) f

  pub item_stops : (seen.opened % 2 ≢ 0) ⊎ (seen.closed ≢ seen.opened) → ItemClosesAt k o t index acts (Contended seen.opened seen.closed)
  item_stops why = inl (record { low = low; newer = r.dropped; mid = ReadCounter seen.number ∷ r.mid; rest = []; is = r.is; moved = why })

  -- where the version was even and the same
  pub item_closes : seen.closed ≡ seen.opened → seen.opened % 2 ≡ 0 → ItemClosesAt k o t index acts (Item seen.kind seen.value seen.number)
  item_closes same even =
      let stamped : Act = ReadCounter seen.number in (
        (λ w shape possible window.
            let hit : ItemHit w.log o t index seen.number = record {
              walk = acts;
              window = window;
              version = seen.opened;
              even = even;
              mid = stamped ∷ r.mid;
              newer = r.dropped;
              rest = [];
              is = r.is ∙ (λ d. r.dropped ++ word 0 (same d) ∷ ((stamped ∷ r.mid) ++ word 0 seen.opened ∷ []));
              stamp = record { newer = []; rest = r.mid; is = refl };
            } in
            record { t = t; low = low; hit = hit; read = read_in t (item_offset index 1) (item_offset index 2) seen.kind seen.value (stamped ∷ []) r.mid r.value }),
        record {
          newer = r.dropped ++ word 0 seen.closed ∷ [];
          rest = r.mid ++ word 0 seen.opened ∷ [];
          is = r.is ∙ sym (append_assoc r.dropped (word 0 seen.closed ∷ []) (stamped ∷ (r.mid ++ word 0 seen.opened ∷ [])));
          none = loads_none r.dropped (word 0 seen.closed ∷ []) (boxes_are_steps r.dropped r.drops).1 refl;
        },
      )

-- ---- an item whose value stands in a box

module _ (t index opened payload : ℕ) (low : index < slots (class_of t)) where
  abbrev load : ℕ → ℕ → Act
  load w f = ReadTable t (item_offset index w) f

  abbrev first : Act
  first = load 0 opened

  -- its two words
  abbrev value : List Act
  value = load 2 payload ∷ (load 1 4 ∷ [])

  abbrev named : List Act
  named = load 2 payload ∷ (load 1 4 ∷ (first ∷ []))

  names : IsReadAsBox t (item_offset index 1) (item_offset index 2) payload value
  names = (record { newer = load 2 payload ∷ []; rest = []; is = refl }, record { newer = []; rest = load 1 4 ∷ []; is = refl })

  pub saw_item : (k : Shape) (o : ℕ) (log older : List Act) → o < container_count k → kind_in k.starts o ≡ kind.List → opened % 2 ≡ 0 → log ≡ named ++ older → WasNamed o t older → SawBox k payload (first ∷ log)
  saw_item k o log older inside is even did w =
      let kd : Kind = kind_in k.starts o in
      let items : IsItems kd = subst IsItems (sym is) tt in
      let at = items_places kd items (class_of t) index in
      inl (record {
        o = o;
        t = t;
        p = index;
        container = inside;
        row = subst (λ (n : ℕ). index < n) (sym at.3) low;
        version = opened;
        even = even;
        newer = [];
        mid = value;
        walk = w.walk;
        rest = w.rest;
        is = ap (λ (z : List Act). first ∷ z) (did ∙ ap (λ (z : List Act). named ++ z) w.is)
            ∙ (λ d. ReadTable t (sym at.0 d) opened ∷ (value ++ ReadTable t (sym at.0 d) opened ∷ (w.walk ++ ReadRoot o (suc t) ∷ w.rest)));
        online = (tt, w.online);
        names = subst (λ (z : ℕ × ℕ). IsReadAsBox t z.0 z.1 payload value) (λ d. (sym at.1 d, sym at.2 d)) names;
      })

  -- what was seen of the box
  module _ (acts : List Act) where
    pub whole_item : (found : InBox) → SeesInBox t (item_offset index 0) opened payload acts (box.Read found) → SeesWholeItem t index (record { opened = opened; kind = found.kind; value = found.value; number = found.number; closed = found.closed }) (acts ++ named)
    whole_item found h =
        let raised = h.1 in
        let dropped = h.2 in
        let kind_box : Act = ReadBox payload 1 found.kind in
        let value_box : Act = ReadBox payload 2 found.value in
        let stamped : Act = ReadCounter found.number in
        let last : Act = load 0 found.closed in
        let body : List Act = last ∷ (stamped ∷ (value_box ∷ (kind_box ∷ (raised ++ first ∷ [])))) in
        record {
          dropped = dropped;
          drops = h.4;
          mid = value_box ∷ (kind_box ∷ (raised ++ first ∷ value));
          is = ap (λ (z : List Act). z ++ named) h.5
              ∙ (append_assoc dropped body named
              ∙ ap (λ (z : List Act). dropped ++ last ∷ (stamped ∷ (value_box ∷ (kind_box ∷ z))))
              (append_assoc raised (first ∷ []) named ∙ sym (append_assoc raised (first ∷ value) (first ∷ []))));
          value = inr (
            payload,
            (
              record { newer = value_box ∷ (kind_box ∷ (raised ++ first ∷ (load 2 payload ∷ []))); rest = []; is = ap (λ (z : List Act). value_box ∷ (kind_box ∷ z)) (sym (append_assoc raised (first ∷ (load 2 payload ∷ [])) (load 1 4 ∷ []))) },
              record { newer = value_box ∷ (kind_box ∷ (raised ++ first ∷ [])); rest = load 1 4 ∷ []; is = ap (λ (z : List Act). value_box ∷ (kind_box ∷ z)) (sym (append_assoc raised (first ∷ []) value)) },
            ),
            record { newer = value_box ∷ []; rest = raised ++ first ∷ value; is = refl },
            record { newer = []; rest = kind_box ∷ (raised ++ first ∷ value); is = refl },
          );
        }

    pub stopped_item : (a b : ℕ) → SeesInBox t (item_offset index 0) opened payload acts (box.Stopped a b) → StopsInItem t index a b (acts ++ named)
    stopped_item a b how =
        ⊎_elim
        (λ h.
        inl (record {
          low = low;
          newer = [];
          mid = value;
          rest = [];
          is = ap (λ (z : List Act). z ++ named) h.2 ∙ (λ d. load 0 b ∷ (load 2 payload ∷ (load 1 4 ∷ (load 0 (sym h.0 d) ∷ []))));
          moved = h.1;
        }))
        (λ h.
        inr (record {
          low = low;
          box = payload;
          version = opened;
          even = h.0;
          newer = h.1;
          mid = value;
          rest = [];
          is = ap (λ (z : List Act). z ++ named) h.4 ∙ append_assoc h.1 (first ∷ []) named;
          names = names;
          count = h.3;
        }))
        how

pub past_closes : (k : Shape) (o t index n : ℕ) → slots (class_of t) ≤ index → ItemClosesAt k o t index (ReadCounter n ∷ []) (Past n)
past_closes k o t index n high = (
  (λ log window. inl (t, high, record { walk = ReadCounter n ∷ []; window = window; stamp = record { newer = []; rest = []; is = refl } })),
  record { newer = []; rest = []; is = refl; none = refl },
)

-- the root was read again and has changed
pub fresh_root : (k : Shape) (o t r : ℕ) (p q : Pass) (part rest : List Act) → ReadsNoRoot part → DidAll part p q → (view p).log ≡ ReadRoot o t ∷ rest → r ≢ t → ((u : ℕ) → r ≡ suc u → IsTableName k u) → IsNew o r (view q).log → IsFresh k r (part ++ (view p).log)
fresh_root k o t r p q part rest roots did last ne table new u is =
    let log = did_log part p q did in
    (table u is, sym (ap (reads u) log) ∙ new u t part rest is (λ s. ne (sym s)) (log ∙ ap (λ (z : List Act). part ++ z) last) roots)

-- ---- what was found stays found

item_in : (t index a b : ℕ) (new part old : List Act) → StopsAtItem t index a b part → StopsAtItem t index a b (new ++ (part ++ old))
item_in t index a b new part old h =
    let x = ReadTable t (item_offset index 0) a in
    let y = ReadTable t (item_offset index 0) b in
    record {
      low = h.low;
      newer = new ++ h.newer;
      mid = h.mid;
      rest = h.rest ++ old;
      is = ap (λ (z : List Act). new ++ (z ++ old)) h.is
          ∙ (ap (λ (z : List Act). new ++ z) (append_assoc h.newer (y ∷ (h.mid ++ x ∷ h.rest)) old ∙ ap (λ (z : List Act). h.newer ++ y ∷ z) (append_assoc h.mid (x ∷ h.rest) old))
          ∙ sym (append_assoc new h.newer (y ∷ (h.mid ++ x ∷ (h.rest ++ old)))));
      moved = h.moved;
    }

box_in : (t index a b : ℕ) (new part old : List Act) → StopsAtItemBox t index a b part → StopsAtItemBox t index a b (new ++ (part ++ old))
box_in t index a b new part old h =
    let x = ReadTable t (item_offset index 0) h.version in
    record {
      low = h.low;
      box = h.box;
      version = h.version;
      even = h.even;
      newer = new ++ h.newer;
      mid = h.mid;
      rest = h.rest ++ old;
      is = ap (λ (z : List Act). new ++ (z ++ old)) h.is
          ∙ (ap (λ (z : List Act). new ++ z) (append_assoc h.newer (x ∷ (h.mid ++ x ∷ h.rest)) old ∙ ap (λ (z : List Act). h.newer ++ x ∷ z) (append_assoc h.mid (x ∷ h.rest) old))
          ∙ sym (append_assoc new h.newer (x ∷ (h.mid ++ x ∷ (h.rest ++ old)))));
      names = h.names;
      count = count_in h.box a b new h.newer h.count;
    }

stops_older : (o index a b : ℕ) (part old : List Act) → StopsItemLook o index a b part → StopsItemLook o index a b (part ++ old)
stops_older o index a b part old how =
    ⊎_elim
    (λ (v : StopsItemByVersion o index a b part).
    inl (⊎_elim
    (λ (x : (t : ℕ) × Among (ReadRoot o (suc t)) part × StopsAtItem t index a b part). inl (x.0, among_more (ReadRoot o (suc x.0)) part old x.1, item_in x.0 index a b [] part old x.2))
    (λ (x : StopsAtContainer o a b part). inr (container_in o a b [] part old x))
    v))
    (λ (x : (t : ℕ) × Among (ReadRoot o (suc t)) part × StopsAtItemBox t index a b part). inr (x.0, among_more (ReadRoot o (suc x.0)) part old x.1, box_in x.0 index a b [] part old x.2))
    how

table_stops : (o t index a b : ℕ) (part old : List Act) → StopsInItem t index a b part → StopsItemLook o index a b (ReadRoot o (suc t) ∷ (part ++ old))
table_stops o t index a b part old how =
    let root : Among (ReadRoot o (suc t)) (ReadRoot o (suc t) ∷ (part ++ old)) = record { newer = []; rest = part ++ old; is = refl } in
    ⊎_elim
    (λ (h : StopsAtItem t index a b part). inl (inl (t, root, item_in t index a b (ReadRoot o (suc t) ∷ []) part old h)))
    (λ (h : StopsAtItemBox t index a b part). inr (t, root, box_in t index a b (ReadRoot o (suc t) ∷ []) part old h))
    how

pub found_in : (k : Shape) (o index : ℕ) (part old log : List Act) (found : LookedItem) → ShowsFound k o index part log found → ShowsFound k o index (part ++ old) log found
found_in k o index part old log (Item kind payload n) h = (h.0, last_older n part old h.1, ends_older o n part old h.2)
found_in k o index part old log (Past n) h = (h.0, last_older n part old h.1, ends_older o n part old h.2)
found_in k o index part old log (Contended a b) h = stops_older o index a b part old h

-- ---- a round at whatever the root was

pub at_table : (k : Shape) (o index t : ℕ) (p q : Pass) (r : ItemRound) (rest : List Act) → (view q).shape ≡ k → (view p).log ≡ ReadRoot o (suc t) ∷ rest → EndsItemTable k o index t p q r → EndsItemRound k o index (suc t) p q r
at_table k o index t p q (Moved r) rest shape last e = (e.0, e.1, e.2, e.3, e.4)
at_table k o index t p q (Ended (Item kind payload n)) rest shape last e =
    let part = e.0 in
    let win = window_of o t part rest p q e.2 last (steps_online part e.1.0.0) in
    (ReadRoot o (suc t) ∷ part, e.1.0.0, e.1.1, e.2, (e.3.0 (view q) shape q.possible win, last_read o (suc t) n part (ReadRoot o (suc t) ∷ []) e.3.1, inl (t, part ++ ReadRoot o (suc t) ∷ [], refl)))
at_table k o index t p q (Ended (Past n)) rest shape last e =
    let part = e.0 in
    let win = window_of o t part rest p q e.2 last (steps_online part e.1.0.0) in
    (ReadRoot o (suc t) ∷ part, e.1.0.0, e.1.1, e.2, (e.3.0 (view q).log win, last_read o (suc t) n part (ReadRoot o (suc t) ∷ []) e.3.1, inl (t, part ++ ReadRoot o (suc t) ∷ [], refl)))
at_table k o index t p q (Ended (Contended a b)) rest shape last e =
    let part = e.0 in
    (ReadRoot o (suc t) ∷ part, e.1.0.0, e.1.1, e.2, table_stops o t index a b part (ReadRoot o (suc t) ∷ []) e.3)

pub bare_past : (k : Shape) (o closed n root opened index : ℕ) (p q : Pass) → DidAll (bare_acts o closed n root opened) p q → root ≡ 0 → closed ≡ opened → opened % 2 ≡ 0 → EndsItemRound k o index 0 p q (Ended (Past n))
bare_past k o closed n root opened index p q did none same even = (
  bare_acts o closed n root opened,
  tt,
  looked_by (bare_acts o closed n root opened) p q tt did,
  did,
  (
    inr (bare_of o closed n root opened p q did none same even),
    bare_last o closed n root opened,
    inr (bare_between o closed n root opened same even),
  ),
)

-- a round after which the root has changed leaves fewer changes
pub falls : (k : Shape) (o index root r : ℕ) (p q : Pass) → EndsItemRound k o index root p q (Moved r) → rounds_left (view q).log r < rounds_left (view p).log root
falls k o index root r p q e = round_falls k o (key.Int (pos 0)) root r p q (e.0, e.1, e.2, e.3, e.4)

-- how many items a table has
pub slots_are : (k : Shape) (t : Table) → IsTableIn k t → slots (class_of (table_id t)) ≡ list_items t.class
unfolding slots
slots_are k t is = ap (λ (n : ℕ). 2 ^ n) (class_is t is.2)
