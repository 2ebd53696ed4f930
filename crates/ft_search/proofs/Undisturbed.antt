-- While a pass has the floor, what it reads without the lock stays as it is.
use Rattle.std.proofs.Common.{◌≡◌, ◌≢◌, ◌⊎◌, ◌<◌, ◌%◌, ℕ, suc, List, [], ◌∷◌, ◌++◌, refl, sym, ap, ◌∙◌, subst, ⊎_elim, append_assoc, inl, arith}
use Rattle.std.specs.Prelude.{slice_index}
use Rattle.ft_layout.specs.Starts.{shared_word}
use Rattle.ft_model.specs.declared.script.Kind.{Kind}
use Rattle.ft_model.specs.declared.script.Kind.TheVariants as kind
use Rattle.ft_trace.specs.declared.Act.{Act}
use Rattle.ft_trace.specs.declared.Act.TheVariants.{ReadRoot, ReadTable, ReadBox, RaiseShared, Version}
use Rattle.ft_trace.specs.declared.Shape.{Shape}
use Rattle.ft_trace.specs.declared.View.{View}
use Rattle.ft_trace.specs.Addresses.{at, block, box_word, cell, class_of, container_count, slots, version_of, IsTableName}
use Rattle.ft_trace.specs.Acts.{floor_words, place, Reports}
use Rattle.ft_trace.specs.Boxes.{value_at}
use Rattle.ft_trace.specs.BoxTraces.{references}
use Rattle.ft_trace.specs.BoxWords.{box_kind, dead_word}
use Rattle.ft_trace.specs.Kinds.{IsKeyed, rows, version_at}
use Rattle.ft_trace.specs.LoggedLookUps.{IsReadAsBox}
use Rattle.ft_trace.specs.LoggedReads.{Among}
use Rattle.ft_trace.specs.Traces.{Event, IsReachable, history, run, word}
use Rattle.ft_trace.specs.Pictures.{entry_offset}
use Rattle.ft_trace.specs.ContainerStates.{kind_in}
use Rattle.ft_trace.proofs.BoxLaws.{dead_boxes_have_no_reference}
use Rattle.ft_trace.proofs.ByKind.{row_low}
use Rattle.ft_trace.proofs.Cases.{inside}
use Rattle.ft_trace.proofs.Contents.{tab}
use Rattle.ft_trace.proofs.Evens.{quiet_shut}
use Rattle.ft_trace.proofs.Floored.{floored}
use Rattle.ft_trace.proofs.Pieces.{table_at}
use Rattle.ft_trace.proofs.Quiet.{versions_even}
use Rattle.ft_trace.proofs.ReadTables.{refs_in_table}
use Rattle.ft_trace.proofs.TablePlaces.{root_table}
use Rattle.ft_search.specs.Floors.{FloorEntriesStand, FloorVersionsStand, LooksWithFloor}
use Rattle.ft_search.specs.KeyLooks.{StopsAtBox, StopsAtContainer, StopsAtEntry, StopsByVersion}
use Rattle.ft_search.specs.LookSteps.{AreLookSteps, IsCountMoved}
use Rattle.ft_search.proofs.LookMoments.{before_step, all_spare, steps_front, BeforeStep, Lasts}

module _ (w : View) (part : List Act) (p : IsReachable w) (l : LooksWithFloor w part) where
  abbrev k : Shape
  k = w.shape

  abbrev es : List Event
  es = p.0

  -- the moment before one of the steps
  moment : (a : Act) (m : Among a part) → BeforeStep k es p.1 m.newer a (m.rest ++ l.older)
  moment a m =
      before_step k es p.2.0 p.1 w p.2.1 l.floor m.newer a (m.rest ++ l.older)
      (steps_front m.newer a m.rest (subst AreLookSteps m.is l.looks))
      (l.is ∙ (ap (λ (x : List Act). x ++ l.older) m.is ∙ append_assoc m.newer (a ∷ m.rest) l.older))

  -- a word that no step of a look changes was then as it is now
  then_as_now : (a : Act) (m : Among a part) (x : Act) → Lasts (place x) → Among x part → word k (moment a m).older (place x) ≡ word k es (place x)
  then_as_now a m x lasts n =
      let in_it = inside k (run k (moment x n).older) (history (moment x n).older) (moment x n).view x (moment x n).may in
      (moment a m).same (place x) in_it (all_spare (place x) lasts (m.newer ++ a ∷ []) (steps_front m.newer a m.rest (subst AreLookSteps m.is l.looks)))

  -- a load of such a word found what is there now
  pub among_found : (a : Act) → Lasts (place a) → Among a part → Reports a (word k es (place a))
  among_found a lasts m = subst (Reports a) (then_as_now a m a lasts m) (moment a m).found

  pub even_now : (o : ℕ) → o < container_count k → word k es (version_of o) % 2 ≡ 0
  even_now o low =
      let now : floor_words k w.number w.log ≡ (run k es).words = ((floored k es p.2.0 p.1 w p.2.1).has l.floor).1 in
      ap (λ (ws : List ℕ). slice_index ws (at k (version_of o)) % 2) (sym now) ∙ versions_even k es p.2.0 p.1 w p.2.1 l.floor o low (l.still o)

  -- two loads of one word
  pub both_same : (newer mid rest : List Act) (x y : Act) → Lasts (place x) → Lasts (place y) → part ≡ newer ++ y ∷ (mid ++ x ∷ rest) → Reports y (word k es (place y)) × Reports x (word k es (place x))
  both_same newer mid rest x y first second is = (
    among_found y second (record { newer = newer; rest = mid ++ x ∷ rest; is = is }),
    among_found x first (record { newer = newer ++ y ∷ mid; rest = rest; is = is ∙ sym (append_assoc newer (y ∷ mid) (x ∷ rest)) }),
  )

  -- the version of a row of the table that a root was found to name
  pub even_row : (o t row : ℕ) → o < container_count k → Among (ReadRoot o (suc t)) part → row < rows (kind_in k.starts o) (class_of t) → word k es (cell t (version_at (kind_in k.starts o) (class_of t) row)) % 2 ≡ 0
  even_row o t row low named in_table =
      let root : word k es (block o 0) ≡ suc t = sym (among_found (ReadRoot o (suc t)) tt named) in
      let table : IsTableName k t = root_table k es p.2.0 o low t root in
      let spot = version_at (kind_in k.starts o) (class_of t) row in
      let shut = quiet_shut k es p.2.0 o low (even_now o low) t root row in_table in
      ap (λ (n : ℕ). n % 2) (sym (table_at k t (run k es).words spot (row_low (kind_in k.starts o) (class_of t) row table.0 in_table))) ∙ shut

  -- ---- the count of a box

  -- the count is what was loaded right before
  raised_same : (box a b : ℕ) (newer rest : List Act) → part ≡ newer ++ RaiseShared box a b ∷ (ReadBox box shared_word a ∷ rest) → b ≡ a
  raised_same box a b newer rest is =
      let m = moment (RaiseShared box a b) (record { newer = newer; rest = ReadBox box shared_word a ∷ rest; is = is }) in
      let n = before_step k m.older m.valid p.1 m.view m.there m.floor [] (ReadBox box shared_word a) (rest ++ l.older) tt m.log in
      m.found ∙ (sym (n.same (box_word box shared_word) n.may ((inl (λ by z. refl)), tt)) ∙ sym n.found)

  -- the box that a row of the table names which a root was found to name isn't dead
  not_dead : (o t row kind_at payload_at box : ℕ) → o < container_count k → Among (ReadRoot o (suc t)) part → row < rows (kind_in k.starts o) (class_of t) → kind_at ≡ value_at (kind_in k.starts o) (class_of t) row → payload_at ≡ suc kind_at
      → Among (ReadTable t kind_at box_kind) part → Among (ReadTable t payload_at box) part → Among (ReadBox box shared_word dead_word) part → ⊥
  not_dead o t row kind_at payload_at box low named in_table kind_is payload_is kind_read payload_read dead =
      let m = moment (ReadBox box shared_word dead_word) dead in
      let ws : List ℕ = (run k m.older).words in
      let kd : Kind = kind_in k.starts o in
      let root : word k m.older (block o 0) ≡ suc t = then_as_now (ReadBox box shared_word dead_word) dead (ReadRoot o (suc t)) tt named ∙ sym (among_found (ReadRoot o (suc t)) tt named) in
      let kind_then : word k m.older (cell t kind_at) ≡ box_kind = then_as_now (ReadBox box shared_word dead_word) dead (ReadTable t kind_at box_kind) tt kind_read ∙ sym (among_found (ReadTable t kind_at box_kind) tt kind_read) in
      let payload_then : word k m.older (cell t payload_at) ≡ box = then_as_now (ReadBox box shared_word dead_word) dead (ReadTable t payload_at box) tt payload_read ∙ sym (among_found (ReadTable t payload_at box) tt payload_read) in
      let kind_there = table_at k t ws kind_at (moment (ReadTable t kind_at box_kind) kind_read).may.1 ∙ kind_then in
      let payload_there = table_at k t ws payload_at (moment (ReadTable t payload_at box) payload_read).may.1 ∙ payload_then in
      let some_ = refs_in_table k m.older o low t row root in_table (subst (λ (n : ℕ). slice_index (tab k m.older t) n ≡ 4) kind_is kind_there) in
      let is_box = subst (λ (n : ℕ). slice_index (tab k m.older t) n ≡ box) (payload_is ∙ ap suc kind_is) payload_there in
      some_ (subst (λ (b : ℕ). references k b m.older ≡ 0) (sym is_box) ((dead_boxes_have_no_reference k box m.older m.valid m.may.0).0 (sym m.found)))

  -- so no count of the box stops a look that such a row was read to name
  pub count_stays : (o t row kind_at payload_at box a b : ℕ) (newer mid rest : List Act) (x y : Act) → o < container_count k → Among (ReadRoot o (suc t)) part → row < rows (kind_in k.starts o) (class_of t) → kind_at ≡ value_at (kind_in k.starts o) (class_of t) row → payload_at ≡ suc kind_at
      → part ≡ newer ++ y ∷ (mid ++ x ∷ rest) → IsReadAsBox t kind_at payload_at box mid → IsCountMoved box a b newer → ⊥
  count_stays o t row kind_at payload_at box a b newer mid rest x y low named in_table kind_is payload_is is names moved =
      ⊎_elim
      (λ (d : (a ≡ dead_word) × (b ≡ dead_word) × Among (ReadBox box shared_word dead_word) newer).
      not_dead o t row kind_at payload_at box low named in_table kind_is payload_is (in_mid (ReadTable t kind_at box_kind) names.0) (in_mid (ReadTable t payload_at box) names.1)
      (record { newer = d.2.newer; rest = d.2.rest ++ y ∷ (mid ++ x ∷ rest); is = is ∙ (ap (λ (z : List Act). z ++ y ∷ (mid ++ x ∷ rest)) d.2.is ∙ append_assoc d.2.newer (ReadBox box shared_word dead_word ∷ d.2.rest) (y ∷ (mid ++ x ∷ rest))) }))
      (λ (r : (b ≢ a) × ((first last : List Act) × (newer ≡ first ++ RaiseShared box a b ∷ (ReadBox box shared_word a ∷ last)))).
      r.0 (raised_same box a b r.1.0 (r.1.1 ++ y ∷ (mid ++ x ∷ rest))
      (is ∙ (ap (λ (z : List Act). z ++ y ∷ (mid ++ x ∷ rest)) r.1.2 ∙ append_assoc r.1.0 (RaiseShared box a b ∷ (ReadBox box shared_word a ∷ r.1.1)) (y ∷ (mid ++ x ∷ rest))))))
      moved
    where
      in_mid : (z : Act) → Among z mid → Among z part
      in_mid z m = record {
        newer = newer ++ y ∷ m.newer;
        rest = m.rest ++ x ∷ rest;
        is = is
            ∙ (ap (λ (s : List Act). newer ++ y ∷ (s ++ x ∷ rest)) m.is
            ∙ (ap (λ (s : List Act). newer ++ y ∷ s) (append_assoc m.newer (z ∷ m.rest) (x ∷ rest))
            ∙ sym (append_assoc newer (y ∷ m.newer) (z ∷ (m.rest ++ x ∷ rest)))));
      }

-- an even number that was found twice
pub not_moved : (n a b : ℕ) → n % 2 ≡ 0 → a ≡ n → b ≡ n → (a % 2 ≢ 0) ⊎ (b ≢ a) → ⊥
not_moved n a b even first second moved =
    ⊎_elim (λ (odd : a % 2 ≢ 0). odd (ap (λ (z : ℕ). z % 2) first ∙ even)) (λ (other : b ≢ a). other (second ∙ sym first)) moved

pub floor_versions_stand : FloorVersionsStand
floor_versions_stand w part p l o a b low stops =
    let found = both_same w part p l stops.newer stops.mid stops.rest (Version o a) (Version o b) tt tt stops.is in
    not_moved (word w.shape p.0 (version_of o)) a b (even_now w part p l o low) found.1 found.0 stops.moved

keyed_at : (kind : Kind) → IsKeyed kind → (c place : ℕ) → (version_at kind c place ≡ entry_offset (slots c) place 0) × (entry_offset (slots c) place 4 ≡ value_at kind c place)
keyed_at kind.Dict is c place = (refl, refl)
keyed_at kind.Set is c place = (refl, refl)
keyed_at kind.List is c place = absurd is
keyed_at (kind.Deque bound) is c place = absurd is

pub floor_entries_stand : FloorEntriesStand
floor_entries_stand w part p l o key a b low keyed stops =
    ⊎_elim
    (λ (v : StopsByVersion w.shape o key a b part).
    ⊎_elim
    (λ (x : (t : ℕ) × Among (ReadRoot o (suc t)) part × StopsAtEntry w.shape o t key a b part).
    let t = x.0 in
    let e = x.2 in
    let n = entry_offset (slots (class_of t)) e.place 0 in
    let found = both_same w part p l e.newer e.mid e.rest (ReadTable t n a) (ReadTable t n b) tt tt e.is in
    let even = even_row w part p l o t e.place low x.1 e.low in
    not_moved (word w.shape p.0 (cell t n)) a b (ap (λ (z : ℕ). word w.shape p.0 (cell t z) % 2) (sym (keyed_at (kind_in w.shape.starts o) keyed (class_of t) e.place).0) ∙ even) found.1 found.0 e.moved)
    (λ (x : StopsAtContainer o a b part).
    let found = both_same w part p l x.newer x.mid x.rest (Version o a) (Version o b) tt tt x.is in
    not_moved (word w.shape p.0 (version_of o)) a b (even_now w part p l o low) found.1 found.0 x.moved) v)
    (λ (x : (t : ℕ) × Among (ReadRoot o (suc t)) part × StopsAtBox w.shape o t key a b part).
    let t = x.0 in
    let e = x.2 in
    let n = entry_offset (slots (class_of t)) e.place in
    count_stays w part p l o t e.place (n 4) (n 5) e.box a b e.newer e.mid e.rest (ReadTable t (n 0) e.version) (ReadTable t (n 0) e.version) low x.1 e.low
    (keyed_at (kind_in w.shape.starts o) keyed (class_of t) e.place).1
    (omega arith) e.is e.names e.count) stops
