-- That the loads of an item between two equal even versions have read the name of a box there.
use Rattle.std.proofs.Common.{◌≡◌, ℕ, suc, ◌%◌, ◌<◌, List, [], ◌∷◌, ◌++◌, Option, Some, None, sym, ◌∙◌, subst, inl, arith}
use Rattle.std.specs.Prelude.{IfSome}
use Rattle.ft_layout.specs.declared.slot.Ref.{Ref}
use Rattle.ft_model.specs.declared.script.Kind.{Kind}
use Rattle.ft_model.specs.declared.script.Kind.TheVariants as kind
use Rattle.ft_trace.specs.declared.Act.{Act}
use Rattle.ft_trace.specs.declared.Act.TheVariants.{ReadRoot, ReadTable}
use Rattle.ft_trace.specs.declared.Shape.{Shape}
use Rattle.ft_trace.specs.Addresses.{container_count, class_of, slots}
use Rattle.ft_trace.specs.Boxes.{value_at}
use Rattle.ft_trace.specs.ContainerStates.{kind_in}
use Rattle.ft_trace.specs.Kinds.{rows, version_at}
use Rattle.ft_trace.specs.LoggedLookUps.{IsReadAsBox}
use Rattle.ft_trace.specs.Pictures.{item_offset}
use Rattle.ft_trace.specs.SeenBoxes.{SawBox}
use Rattle.ft_bank.specs.declared.pass.Pass.{Pass}
use Rattle.ft_bank.specs.BoxSteps.{box_id}
use Rattle.ft_bank.specs.Passes.{view, Did}
use Rattle.ft_bank.specs.Series.{DidAll}
use Rattle.ft_bank.specs.Whole.{OnlyLoaded}
use Rattle.ft_bank.proofs.KnownAfterWrites.{loaded_by, loaded_then}
use Rattle.ft_search.proofs.LoadedLooks.{looks_did}
use Rattle.ft_search.proofs.Running.{did_trans}
use Rattle.ft_boxes_tests.specs.declared.seeing.SeenItem.{SeenItem}
use Rattle.ft_boxes_tests.specs.Seeing.{item_acts}

-- the loads of an item, one after the other
pub seen_did : (t index : ℕ) (seen : SeenItem) (p q1 q2 q3 q4 : Pass) → DidAll (ReadTable t (item_offset index 0) seen.opened ∷ []) p q1 → DidAll (ReadTable t (item_offset index 1) seen.kind ∷ []) q1 q2 → DidAll (ReadTable t (item_offset index 2) seen.payload ∷ []) q2 q3 → DidAll (ReadTable t (item_offset index 0) seen.closed ∷ []) q3 q4 → DidAll (item_acts t index seen) p q4
seen_did t index seen p q1 q2 q3 q4 a b c d =
    let l1 : List Act = ReadTable t (item_offset index 0) seen.opened ∷ [] in
    let l2 : List Act = ReadTable t (item_offset index 1) seen.kind ∷ l1 in
    let l3 : List Act = ReadTable t (item_offset index 2) seen.payload ∷ l2 in
    did_trans (ReadTable t (item_offset index 0) seen.closed ∷ []) l3 p q3 q4
    (did_trans (ReadTable t (item_offset index 2) seen.payload ∷ []) l2 p q2 q3
    (did_trans (ReadTable t (item_offset index 1) seen.kind ∷ []) l1 p q1 q2 a b) c) d

-- they are loads and nothing else
pub seen_only : (t index : ℕ) (seen : SeenItem) (p q : Pass) → DidAll (item_acts t index seen) p q → OnlyLoaded (view p) (view q)
seen_only t index seen p q did = looks_did (item_acts t index seen) p q tt did

-- after a load of a root
pub root_loaded : (o f : ℕ) (p q : Pass) → Did (ReadRoot o f) p q → OnlyLoaded (view p) (view q)
root_loaded o f p q did = loaded_by (ReadRoot o f) (view p) (view q) tt did.1

pub root_then : (o f : ℕ) (p q r : Pass) → Did (ReadRoot o f) p q → OnlyLoaded (view q) (view r) → OnlyLoaded (view p) (view r)
root_then o f p q r did then_ = loaded_then (view p) (view q) (view r) (root_loaded o f p q did) then_

module _ (k : Shape) (o t index : ℕ) (seen : SeenItem) where
  abbrev mid : List Act
  mid = ReadTable t (item_offset index 2) seen.payload ∷ (ReadTable t (item_offset index 1) seen.kind ∷ [])

  names_as : seen.kind ≡ 4 → IsReadAsBox t (item_offset index 1) (suc (item_offset index 1)) seen.payload mid
  names_as four =
      let next : item_offset index 2 ≡ suc (item_offset index 1) = omega arith in (
        record { newer = ReadTable t (item_offset index 2) seen.payload ∷ []; rest = []; is = λ d. ReadTable t (item_offset index 2) seen.payload ∷ (ReadTable t (item_offset index 1) (four d) ∷ []) },
        record { newer = []; rest = ReadTable t (item_offset index 1) seen.kind ∷ []; is = λ d. ReadTable t (next d) seen.payload ∷ (ReadTable t (item_offset index 1) seen.kind ∷ []) },
      )

  pub seen_saw : (b : ℕ) (log rest : List Act) → o < container_count k → kind_in k.starts o ≡ kind.List → index < slots (class_of t) → seen.closed ≡ seen.opened → seen.opened % 2 ≡ 0 → seen.kind ≡ 4 → b ≡ seen.payload → log ≡ item_acts t index seen ++ ReadRoot o (suc t) ∷ rest → SawBox k b log
  seen_saw b log rest inside is_list low same even four is did =
      inl (record {
        o = o;
        t = t;
        p = index;
        container = inside;
        row = subst (λ (z : Kind). index < rows z (class_of t)) (sym is_list) low;
        version = seen.opened;
        even = even;
        newer = [];
        mid = mid;
        walk = [];
        rest = rest;
        is = subst (λ (z : Kind). log ≡ ReadTable t (version_at z (class_of t) index) seen.opened ∷ (mid ++ ReadTable t (version_at z (class_of t) index) seen.opened ∷ (ReadRoot o (suc t) ∷ rest))) (sym is_list)
            (did ∙ (λ d. ReadTable t (item_offset index 0) (same d) ∷ (mid ++ ReadTable t (item_offset index 0) seen.opened ∷ (ReadRoot o (suc t) ∷ rest))));
        online = (tt, tt);
        names = subst (λ (z : Kind). IsReadAsBox t (value_at z (class_of t) index) (suc (value_at z (class_of t) index)) b mid) (sym is_list) (subst (λ (n : ℕ). IsReadAsBox t (item_offset index 1) (suc (item_offset index 1)) n mid) (sym is) (names_as four));
      })

  -- of the box that the payload names, if the bank has its place
  pub seen_saws : (found : Option Ref) (log rest : List Act) → o < container_count k → kind_in k.starts o ≡ kind.List → index < slots (class_of t) → seen.closed ≡ seen.opened → seen.opened % 2 ≡ 0 → seen.kind ≡ 4 → IfSome found (λ (b : Ref). box_id b ≡ seen.payload) → log ≡ item_acts t index seen ++ ReadRoot o (suc t) ∷ rest → IfSome found (λ (b : Ref). SawBox k (box_id b) log)
  seen_saws None log rest inside is_list low same even four is did = tt
  seen_saws (Some b) log rest inside is_list low same even four is did = seen_saw (box_id b) log rest inside is_list low same even four is did
