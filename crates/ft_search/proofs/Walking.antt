-- How far a walk without the lock has come.
use Rattle.std.proofs.Common.{◌≡◌, ◌⊎◌, ℕ, zero, suc, ◌<◌, List, [], ◌∷◌, ◌++◌, length, Option, None, refl, sym, ap, ◌∙◌, subst, inl, inr, ⊎_elim, arith, All, append_assoc}
use Rattle.std.specs.Prelude.{slice_index}
use Rattle.std.proofs.Math.Decide.{dec_lt}
use Rattle.std.proofs.lemmas.List.Elements.{All-nil, All-push, All-head, All-tail, All-weaker}
use mathlib.Core.Logic.{dite}
use Rattle.ft_model.specs.declared.data.Key.{Key}
use Rattle.ft_layout.specs.Words.{gone_kind}
use Rattle.ft_trace.specs.declared.Act.{Act}
use Rattle.ft_trace.specs.declared.Act.TheVariants.{ReadTable}
use Rattle.ft_trace.specs.declared.Shape.{Shape}
use Rattle.ft_trace.specs.Addresses.{container_count, class_of, slots}
use Rattle.ft_trace.specs.Pictures.{entry_offset, walk_of}
use Rattle.ft_trace.specs.Kinds.{rows, IsKeyed}
use Rattle.ft_trace.specs.ContainerStates.{kind_in}
use Rattle.ft_trace.specs.LoggedLookUps.{OtherKind, OtherPayload, Dead, Visit, Beyond, Passed}
use Rattle.ft_bank.specs.declared.pass.Pass.{Pass}
use Rattle.ft_bank.specs.Series.{DidAll}
use Rattle.ft_search.specs.declared.looks.Looked.{Looked}
use Rattle.ft_search.specs.LookSteps.{InRound}
use Rattle.ft_search.specs.Rounds.{Walked, Turns, TurnsAfter}
use Rattle.ft_search.proofs.LookSteps.{in_round_then}
use Rattle.ft_search.proofs.Running.{did_trans}

-- ---- slots that were passed

module _ (t m slot : ℕ) (key : Key) where
  -- an entry that is none of the table's, or was read to be another's
  pub visit_or_beyond : (walk newer rest : List Act) (place : ℕ) → walk ≡ newer ++ ReadTable t slot (suc place) ∷ rest → (OtherKind walk t slot place key ⊎ (OtherPayload walk t slot place key ⊎ Dead walk t slot place key)) → Passed walk t m slot key
  visit_or_beyond walk newer rest place is how =
      dite (dec_lt place m)
      (λ (low : place < m). inl (record { place = place; low = low; how = how }))
      (λ high. inr (record { place = place; high = omega arith; newer = newer; rest = rest; is = is }))

  -- a slot that names none of the entries
  pub beyond_passed : (word : ℕ) (rest : List Act) → m < word → Passed (ReadTable t slot word ∷ rest) t m slot key
  beyond_passed zero rest high = absurd (omega (arith, high))
  beyond_passed (suc place) rest high = inr (record { place = place; high = omega (arith, high); newer = []; rest = rest; is = refl })

  -- what was passed stays so
  pub passed_more : (new walk : List Act) → Passed walk t m slot key → Passed (new ++ walk) t m slot key
  passed_more new walk p =
      let N = slots (class_of t) in
      ⊎_elim
      (λ (v : Visit walk t m slot key).
      inl (record {
        place = v.place;
        low = v.low;
        how = ⊎_elim
            (λ (h : OtherKind walk t slot v.place key).
            inl (record { found = h.found; live = h.live; dead = h.dead; newer = new ++ h.newer; mid = h.mid; rest = h.rest; is = ap (λ (z : List Act). new ++ z) h.is ∙ sym (append_assoc new h.newer (ReadTable t (entry_offset N v.place 2) h.found ∷ (h.mid ++ ReadTable t slot (suc v.place) ∷ h.rest))) }))
            (λ q. inr (⊎_elim
            (λ (h : OtherPayload walk t slot v.place key).
            inl (record { found = h.found; apart = h.apart; newer = new ++ h.newer; mid = h.mid; rest = h.rest; is = ap (λ (z : List Act). new ++ z) h.is ∙ sym (append_assoc new h.newer (ReadTable t (entry_offset N v.place 3) h.found ∷ (h.mid ++ ReadTable t slot (suc v.place) ∷ h.rest))) }))
            (λ (h : Dead walk t slot v.place key).
            inr (record {
              version = h.version;
              even = h.even;
              newer = new ++ h.newer;
              mid = h.mid;
              rest = h.rest;
              is = ap (λ (z : List Act). new ++ z) h.is ∙ sym (append_assoc new h.newer (ReadTable t (entry_offset N v.place 0) h.version ∷ (h.mid ++ ReadTable t (entry_offset N v.place 2) (gone_kind key) ∷ h.rest)));
              before = new ++ h.before;
              older = h.older;
              named = ap (λ (z : List Act). new ++ z) h.named ∙ sym (append_assoc new h.before (ReadTable t slot (suc v.place) ∷ h.older));
            }))
            q))
            v.how;
      }))
      (λ (h : Beyond walk t m slot).
      inr (record { place = h.place; high = h.high; newer = new ++ h.newer; rest = h.rest; is = ap (λ (z : List Act). new ++ z) h.is ∙ sym (append_assoc new h.newer (ReadTable t slot (suc h.place) ∷ h.rest)) }))
      p

module _ (k : Shape) (o t : ℕ) (key : Key) where
  abbrev m : ℕ
  m = rows (kind_in k.starts o) (class_of t)

  pub walked_none : o < container_count k → IsKeyed (kind_in k.starts o) → (left : List ℕ) → left ≡ walk_of (kind_in k.starts o) k.texts (class_of t) key → Walked k o t key [] left
  walked_none low keyed left is = record { container = low; keyed = keyed; passed = []; split = sym is; rightly = All-nil (λ slot. Passed [] t m slot key) }

  pub walked_more : (left : List ℕ) (new part : List Act) → Walked k o t key part left → Walked k o t key (new ++ part) left
  walked_more left new part w = record {
    container = w.container;
    keyed = w.keyed;
    passed = w.passed;
    split = w.split;
    rightly = All-weaker (λ slot. Passed part t m slot key) (λ slot. Passed (new ++ part) t m slot key) (λ slot p. passed_more t m slot key new part p) w.passed w.rightly;
  }

  -- and one more slot was passed
  pub walked_past : (slot : ℕ) (left : List ℕ) (part : List Act) → Walked k o t key part (slot ∷ left) → Passed part t m slot key → Walked k o t key part left
  walked_past slot left part w p = record {
    container = w.container;
    keyed = w.keyed;
    passed = w.passed ++ slot ∷ [];
    split = w.split ∙ sym (append_assoc w.passed (slot ∷ []) left);
    rightly = All-push (λ slot. Passed part t m slot key) w.passed slot w.rightly p;
  }

  -- more was loaded, by which that slot was passed
  pub goes_on : (slot : ℕ) (left : List ℕ) (new part : List Act) (p q : Pass) → InRound new p q → DidAll new p q → Walked k o t key part (slot ∷ left) → Passed (new ++ part) t m slot key → TurnsAfter k o t key part left None p q
  goes_on slot left new part p q round did w passed = (new, round, did, walked_past slot left (new ++ part) (walked_more (slot ∷ left) new part w) passed)

  -- what was loaded goes on from earlier loads
  pub turns_on : (a earlier : List Act) (left : List ℕ) (result : Option Looked) (p q r : Pass) → InRound a p q → DidAll a p q → TurnsAfter k o t key (a ++ earlier) left result q r → TurnsAfter k o t key earlier left result p r
  turns_on a earlier left result p q r round did h =
      (h.0 ++ a, in_round_then h.0 a p q r round h.1, did_trans h.0 a p q r did h.2, subst (λ (z : List Act). Turns k o t key z left result) (sym (append_assoc h.0 a earlier)) h.3)

-- ---- the slots by their numbers

pub slot_at : (passed : List ℕ) (slot : ℕ) (rest : List ℕ) → slice_index (passed ++ slot ∷ rest) (length passed) ≡ slot
slot_at [] slot rest = refl
slot_at (x ∷ passed) slot rest = slot_at passed slot rest

pub each_slot : (P : ℕ → Type 0) (passed left : List ℕ) → All P passed → (j : ℕ) → j < length passed → P (slice_index (passed ++ left) j)
each_slot P [] left all j less = absurd (omega (arith, less))
each_slot P (x ∷ passed) left all zero less = All-head P x passed all
each_slot P (x ∷ passed) left all (suc j) less = each_slot P passed left (All-tail P x passed all) j (omega (arith, less))
