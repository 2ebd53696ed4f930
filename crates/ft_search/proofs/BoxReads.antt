-- What the loads of an entry show whose value stands in a box.
use Rattle.std.proofs.Common.{◌≡◌, ◌⊎◌, ℕ, suc, ◌%◌, ◌<◌, List, [], ◌∷◌, ◌++◌, refl, sym, ap, ◌∙◌, subst, inl, inr, ⊎_elim, append_assoc}
use Rattle.ft_model.specs.declared.script.Kind.{Kind}
use Rattle.ft_trace.specs.declared.Act.{Act}
use Rattle.ft_trace.specs.declared.Act.TheVariants.{ReadRoot, ReadTable, ReadCounter, ReadBox, RaiseLocal, DropLocal, ClearLocal, MergeCounts, RaiseShared, DropShared, GivePlace}
use Rattle.ft_trace.specs.declared.Shape.{Shape}
use Rattle.ft_trace.specs.Addresses.{class_of, container_count, slots}
use Rattle.ft_trace.specs.ContainerStates.{kind_in}
use Rattle.ft_trace.specs.Kinds.{rows, IsKeyed}
use Rattle.ft_trace.specs.LoggedLookUps.{IsReadAsBox}
use Rattle.ft_trace.specs.Pictures.{entry_offset}
use Rattle.ft_trace.specs.SeenBoxes.{SawBox}
use Rattle.ft_trace.proofs.BoxedReads.{keyed_places}
use Rattle.ft_boxes.specs.Counting.{AreBoxSteps}
use Rattle.ft_search.specs.declared.raising.InBox.{InBox}
use Rattle.ft_search.specs.declared.raising.SeenBox.{SeenBox}
use Rattle.ft_search.specs.declared.raising.SeenBox.TheVariants as box
use Rattle.ft_search.specs.LookSteps.{SeesInBox}
use Rattle.ft_search.specs.Rounds.{boxed_acts, NamesBox, SeesWhole, IsVersionMoved, IsBoxMoved}
use Rattle.ft_search.specs.SearchCosts.{indexed, LoadsNoIndex}
use Rattle.ft_search.proofs.Bounding.{both_none, word_none}

-- steps with boxes load no index word
pub boxes_none : (l : List Act) → AreBoxSteps l → LoadsNoIndex l
boxes_none [] q u = refl
boxes_none (ReadBox b i f ∷ l) q u = boxes_none l q u
boxes_none (RaiseLocal b x ∷ l) q u = boxes_none l q u
boxes_none (DropLocal b x ∷ l) q u = boxes_none l q u
boxes_none (ClearLocal b ∷ l) q u = boxes_none l q u
boxes_none (MergeCounts b d f ∷ l) q u = boxes_none l q u
boxes_none (RaiseShared b old f ∷ l) q u = boxes_none l q u
boxes_none (DropShared b f ∷ l) q u = boxes_none l q u
boxes_none (GivePlace b ∷ l) q u = boxes_none l q u
boxes_none (act ∷ l) q u = absurd q

module _ (t place opened key_kind payload : ℕ) where
  abbrev word : ℕ → ℕ → Act
  word w f = ReadTable t (entry_offset (slots (class_of t)) place w) f

  abbrev named : List Act
  named = boxed_acts t place opened key_kind payload

  abbrev first : Act
  first = word 0 opened

  -- the two words of the value, and the key's kind
  abbrev value : List Act
  value = word 5 payload ∷ (word 4 4 ∷ [])

  names : IsReadAsBox t (entry_offset (slots (class_of t)) place 4) (entry_offset (slots (class_of t)) place 5) payload (word 5 payload ∷ (word 4 4 ∷ (word 2 key_kind ∷ [])))
  names = (record { newer = word 5 payload ∷ []; rest = word 2 key_kind ∷ []; is = refl }, record { newer = []; rest = word 4 4 ∷ (word 2 key_kind ∷ []); is = refl })

  pub named_none : LoadsNoIndex named
  named_none = both_none (word 5 payload ∷ []) (word 4 4 ∷ (word 2 key_kind ∷ (first ∷ []))) (word_none t place 5 payload)
      (both_none (word 4 4 ∷ []) (word 2 key_kind ∷ (first ∷ [])) (word_none t place 4 4) (both_none (word 2 key_kind ∷ []) (first ∷ []) (word_none t place 2 key_kind) (word_none t place 0 opened)))

  -- ---- the name of the box was read

  pub saw_named : (k : Shape) (o : ℕ) (log : List Act) → o < container_count k → IsKeyed (kind_in k.starts o) → place < rows (kind_in k.starts o) (class_of t) → opened % 2 ≡ 0 → NamesBox o t place opened key_kind payload log → SawBox k payload (first ∷ log)
  saw_named k o log low keyed row even n =
      let kd : Kind = kind_in k.starts o in
      let at = keyed_places kd keyed (class_of t) place in
      let w = n.2 in
      inl (record {
        o = o;
        t = t;
        p = place;
        container = low;
        row = row;
        version = opened;
        even = even;
        newer = [];
        mid = word 5 payload ∷ (word 4 4 ∷ (word 2 key_kind ∷ []));
        walk = w.walk;
        rest = w.rest;
        is = ap (λ (z : List Act). first ∷ z) (n.1 ∙ ap (λ (z : List Act). named ++ z) w.is)
            ∙ (λ d. ReadTable t (sym at.0 d) opened ∷ (word 5 payload ∷ (word 4 4 ∷ (word 2 key_kind ∷ (ReadTable t (sym at.0 d) opened ∷ (w.walk ++ ReadRoot o (suc t) ∷ w.rest))))));
        online = (tt, w.online);
        names = subst (λ (z : ℕ × ℕ). IsReadAsBox t z.0 z.1 payload (word 5 payload ∷ (word 4 4 ∷ (word 2 key_kind ∷ [])))) (λ d. (sym at.1 d, sym at.2 d)) names;
      })

  -- ---- what was seen of the box

  module _ (at : ℕ) (is : at ≡ entry_offset (slots (class_of t)) place 0) (acts : List Act) where
    load_is : (f : ℕ) → ReadTable t at f ≡ word 0 f
    load_is f = ap (λ (z : ℕ). ReadTable t z f) is

    pub whole_read : (found : InBox) → SeesInBox t at opened payload acts (box.Read found) → SeesWhole t place (record { opened = opened; key_kind = key_kind; kind = found.kind; value = found.value; number = found.number; closed = found.closed }) (acts ++ named)
    whole_read found h =
        let raised = h.1 in
        let dropped = h.2 in
        let kind_box : Act = ReadBox payload 1 found.kind in
        let value_box : Act = ReadBox payload 2 found.value in
        let stamped : Act = ReadCounter found.number in
        let last : Act = word 0 found.closed in
        let body : List Act = last ∷ (stamped ∷ (value_box ∷ (kind_box ∷ (raised ++ first ∷ [])))) in
        let mid : List Act = value_box ∷ (kind_box ∷ (raised ++ first ∷ value)) in
        let acts_are : acts ≡ dropped ++ body = h.5 ∙ (λ d. dropped ++ load_is found.closed d ∷ (stamped ∷ (value_box ∷ (kind_box ∷ (raised ++ load_is opened d ∷ []))))) in
        record {
          dropped = dropped;
          drops = h.4;
          mid = mid;
          is = ap (λ (z : List Act). z ++ named) acts_are
              ∙ (append_assoc dropped body named
              ∙ ap (λ (z : List Act). dropped ++ last ∷ (stamped ∷ (value_box ∷ (kind_box ∷ z))))
              (append_assoc raised (first ∷ []) named ∙ sym (append_assoc raised (first ∷ value) (word 2 key_kind ∷ (first ∷ [])))));
          value = inr (
            payload,
            (
              record { newer = value_box ∷ (kind_box ∷ (raised ++ first ∷ (word 5 payload ∷ []))); rest = []; is = ap (λ (z : List Act). value_box ∷ (kind_box ∷ z)) (sym (append_assoc raised (first ∷ (word 5 payload ∷ [])) (word 4 4 ∷ []))) },
              record { newer = value_box ∷ (kind_box ∷ (raised ++ first ∷ [])); rest = word 4 4 ∷ []; is = ap (λ (z : List Act). value_box ∷ (kind_box ∷ z)) (sym (append_assoc raised (first ∷ []) value)) },
            ),
            record { newer = value_box ∷ []; rest = raised ++ first ∷ value; is = refl },
            record { newer = []; rest = kind_box ∷ (raised ++ first ∷ value); is = refl },
          );
        }

    pub stopped_read : (a b : ℕ) → SeesInBox t at opened payload acts (box.Stopped a b) → IsVersionMoved t place a b (acts ++ named) ⊎ IsBoxMoved t place a b (acts ++ named)
    stopped_read a b how =
        ⊎_elim
        (λ h.
        inl (record {
          mid = word 5 payload ∷ (word 4 4 ∷ (word 2 key_kind ∷ []));
          is = ap (λ (z : List Act). z ++ named) h.2 ∙ (λ d. load_is b d ∷ (word 5 payload ∷ (word 4 4 ∷ (word 2 key_kind ∷ (word 0 (sym h.0 d) ∷ [])))));
          moved = h.1;
        }))
        (λ h.
        inr (record {
          box = payload;
          version = opened;
          even = h.0;
          raised = h.1;
          mid = word 5 payload ∷ (word 4 4 ∷ (word 2 key_kind ∷ []));
          is = ap (λ (z : List Act). z ++ named) h.4 ∙ (append_assoc h.1 (ReadTable t at opened ∷ []) named ∙ (λ d. h.1 ++ load_is opened d ∷ named));
          names = names;
          count = h.3;
        }))
        how

    -- they load no index word
    pub read_none : (seen : SeenBox) → SeesInBox t at opened payload acts seen → LoadsNoIndex acts
    read_none (box.Read found) h u =
        let kind_box : Act = ReadBox payload 1 found.kind in
        let value_box : Act = ReadBox payload 2 found.value in
        let stamped : Act = ReadCounter found.number in
        let acts_are : acts ≡ h.2 ++ word 0 found.closed ∷ (stamped ∷ (value_box ∷ (kind_box ∷ (h.1 ++ first ∷ [])))) = h.5 ∙ (λ d. h.2 ++ load_is found.closed d ∷ (stamped ∷ (value_box ∷ (kind_box ∷ (h.1 ++ load_is opened d ∷ []))))) in
        ap (indexed u) acts_are
        ∙ both_none h.2 (word 0 found.closed ∷ (stamped ∷ (value_box ∷ (kind_box ∷ (h.1 ++ first ∷ []))))) (boxes_none h.2 h.4)
        (both_none (word 0 found.closed ∷ (stamped ∷ (value_box ∷ (kind_box ∷ [])))) (h.1 ++ first ∷ []) (both_none (word 0 found.closed ∷ []) (stamped ∷ (value_box ∷ (kind_box ∷ []))) (word_none t place 0 found.closed) (λ z. refl)) (both_none h.1 (first ∷ []) (boxes_none h.1 h.3) (word_none t place 0 opened)))
        u
    read_none (box.Stopped a b) how u =
        ⊎_elim
        (λ h. ap (indexed u) (h.2 ∙ (λ d. load_is b d ∷ [])) ∙ word_none t place 0 b u)
        (λ h. ap (indexed u) (h.4 ∙ (λ d. h.1 ++ load_is opened d ∷ [])) ∙ both_none h.1 (first ∷ []) (boxes_none h.1 h.2) (word_none t place 0 opened) u)
        how
