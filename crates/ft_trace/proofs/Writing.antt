-- That a whole write may be made whose words are right: each of its steps meets its condition.
use Rattle.std.proofs.Common.{◌≡◌, ◌≢◌, ◌⊎◌, ℕ, zero, suc, ◌+◌, ◌^◌, ◌%◌, ◌<◌, ◌≤◌, Bool, true, false, eqb, ne_eqb, List, [], ◌∷◌, length, refl, sym, ap, ◌∙◌, subst, inl, inr, ⊎_elim, arith, get_or-set_same, get_or-set_other}
use Rattle.std.specs.Prelude.{slice_index, slice_set, Option, Some, None}
use Rattle.ft_model.specs.declared.call.Call.{Call}
use Rattle.ft_model.specs.declared.content.Content.{Content}
use Rattle.ft_model.specs.declared.script.Kind.{Kind}
use Rattle.ft_model.specs.TableUses.{stored_newest}
use Rattle.ft_trace.specs.declared.Shape.{Shape}
use Rattle.ft_trace.specs.declared.Snap.{Snap}
use Rattle.ft_trace.specs.declared.View.{View}
use Rattle.ft_trace.specs.declared.Act.{Act}
use Rattle.ft_trace.specs.declared.Act.TheVariants.{StartWrite, PutRoot, PutBlock, PutTable, Commit, StopWrite, Unlock}
use Rattle.ft_trace.specs.Addresses.{Word, container_count, counter, version_of, lock_of, block, cell, class_of, size, IsTableName, at, extent, Inside}
use Rattle.ft_trace.specs.Acts.{has_lock, is_writing, has_committed, has_emptied, owes, stage, mem, past, view_after}
use Rattle.ft_trace.specs.ContainerStates.{ContainerState, container_after, kind_in, may_empty}
use Rattle.ft_trace.specs.Pictures.{table_words, block_of, root_of, inner, ContainerWords, root_in, picture, Represents}
use Rattle.ft_trace.specs.Kinds.{rows, version_at, CarefulAs, ClearAs}
use Rattle.ft_trace.specs.OddVersions.{Shut, Low, Timely}
use Rattle.ft_trace.specs.Holds.{held_words, held_unboxed, known_state, in_hand, hand_unboxed, AgreesWith}
use Rattle.ft_trace.specs.Traces.{did, run, word, history, snap, SoundFor, ClearFor, May, Valid, IsReachable, Sure, IsAwake}
use Rattle.ft_trace.specs.WholeWrites.{Put, to_block, to_table, to_value, log_of_put, log_of, with_put, with_puts, MayPuts, HasBox, HasBoxes, spare_after, spare_references, WholeWrite, log_of_root, with_root_put, at_commit, with_log, log_at_commit, after_write_of, MayBegin, MayReplace, MayWriteSo, WritesMayBeMade}
use Rattle.ft_trace.proofs.Sizes.{set_at}
use Rattle.ft_trace.proofs.Cases.{hit, off}
use Rattle.ft_trace.proofs.Addresses.{at_low, at_apart}
use Rattle.ft_trace.proofs.Pieces.{piece_set, table_set, table_same, table_long, block_at, block_long, block_same}
use Rattle.ft_trace.proofs.TablePlaces.{root_table}
use Rattle.ft_trace.proofs.Images.{imaged}
use Rattle.ft_trace.proofs.NoWrap.{counter_room, version_room}
use Rattle.ft_trace.proofs.Held.{root_known, table_known, table_read, agrees_now, put_sure, sound_sure, hand_known, stop_sure}
use Rattle.ft_trace.proofs.NextActions.{next_possible}
use Rattle.ft_trace.proofs.Clearing.{held_shut}
use Rattle.ft_trace.specs.Boxes.{value_at, known_box_word, references_held, named_in_root, named_in_container, place_use, HasReferences, NamesStored}
use Rattle.ft_trace.specs.BoxPuts.{HasOwnReference}
use Rattle.ft_trace.specs.Unboxed.{unboxed_table, unboxed_words, unboxed}
use Rattle.ft_trace.proofs.ReadTables.{value_low, version_apart, read_version}
use Rattle.ft_trace.proofs.ReferencesOfPuts.{word_refs, value_refs, word_held, plain_held}
use Rattle.ft_trace.proofs.BoxedPuts.{boxes_after, none_late, first_refs, second_refs, spare1, spare2, unboxed_boxed}
use Rattle.ft_trace.proofs.PlainPuts.{unboxed_block, unboxed_word, unboxed_value, unboxed_root, value_careful, FewReferences, named_is, few_at_first, few_after_table, few_after_root, refs_started, zero_refs, raw_shut}

-- ---- pictures after a put

-- two words of the bank
pub other_word : (k : Shape) (ws : List ℕ) (x y : Word) (z : ℕ) → Inside k x → Inside k y → y ≢ x → slice_index (slice_set ws (at k x) z) (at k y) ≡ slice_index ws (at k y)
other_word k ws x y z a b ne = get_or-set_other ws (at k x) (at k y) z 0 (λ e. ne (at_apart k y x b a e))

block_set : (k : Shape) (o : ℕ) (ws : List ℕ) (i x : ℕ) → i < 6 → at k (block o i) < length ws → block_of k o (slice_set ws (at k (block o i)) x) ≡ slice_set (block_of k o ws) i x
unfolding block_of
block_set k o ws i x low long =
    let e : at k (block o 0) + i ≡ at k (block o i) = omega arith in
    ap (λ (z : ℕ). block_of k o (slice_set ws z x)) (sym e) ∙ piece_set ws (at k (block o 0)) 6 i x low (omega (arith, e, long))

abbrev number_in : Word → ℕ
number_in (block p j) = j
number_in w = 0

same_inner : (k : Shape) (r : ℕ) (ws : List ℕ) (w : Word) (x : ℕ) → Inside k w → ((t j : ℕ) → w ≢ cell t j) → ((t : ℕ) → r ≡ suc t → IsTableName k t) → inner k r (slice_set ws (at k w) x) ≡ inner k r ws
same_inner k zero ws w x in_it ne tables = refl
same_inner k (suc t) ws w x in_it ne tables = table_same k t (slice_set ws (at k w) x) ws (λ j small. other_word k ws w (cell t j) x in_it (tables t refl, small) (λ e. ne t j (sym e)))

module _ (k : Shape) (o : ℕ) (low : o < container_count k) where
  -- another word than the root
  pub block_put : (ws : List ℕ) (i x : ℕ) (words : ContainerWords) → length ws ≡ extent k → 0 < i → i < 6 → ((t : ℕ) → root_in words ≡ suc t → IsTableName k t) → picture k o ws ≡ words → picture k o (slice_set ws (at k (block o i)) x) ≡ with_put words (to_block i x)
  block_put ws i x words long up less tables is =
      let ys = slice_set ws (at k (block o i)) x in
      let l = at_low k (block o i) (low, less) in
      let b : block_of k o ys ≡ slice_set words.block i x = block_set k o ws i x less (omega (arith, l, long)) ∙ ap (λ (z : ContainerWords). slice_set z.block i x) is in
      let root : root_of k o ys ≡ root_of k o ws = other_word k ws (block o i) (block o 0) x (low, less) (low, omega arith) (λ (e : block o 0 ≡ block o i). let z : ◌≡◌ {A = ℕ} 0 i = ap number_in e in omega (arith, z, up)) in
      let named : (t : ℕ) → root_of k o ws ≡ suc t → IsTableName k t = λ t e. tables t (ap root_in (sym is) ∙ (block_at k o ws 0 (omega arith) ∙ e)) in
      let all : inner k (root_of k o ys) ys ≡ words.table = ap (λ (r : ℕ). inner k r ys) root ∙ (same_inner k (root_of k o ws) ws (block o i) x (low, less) (λ t j e. absurd cc) named ∙ ap (λ (z : ContainerWords). z.table) is) in
      λ d. record { block = b d; table = all d }

  -- a word of the table that the root names
  pub table_put : (t : ℕ) → IsTableName k t → (ws : List ℕ) (i x : ℕ) (words : ContainerWords) → length ws ≡ extent k → i < size (class_of t) → root_in words ≡ suc t → picture k o ws ≡ words → picture k o (slice_set ws (at k (cell t i)) x) ≡ with_put words (to_table i x)
  table_put t table ws i x words long small names is =
      let ys = slice_set ws (at k (cell t i)) x in
      let l = at_low k (cell t i) (table, small) in
      let was : root_of k o ws ≡ suc t = sym (block_at k o ws 0 (omega arith)) ∙ (ap root_in is ∙ names) in
      let other : (j : ℕ) → j < 6 → slice_index ys (at k (block o j)) ≡ slice_index ws (at k (block o j)) = λ j less. other_word k ws (cell t i) (block o j) x (table, small) (low, less) (λ e. absurd (cc)) in
      let b : block_of k o ys ≡ words.block = block_same k o ys ws other ∙ ap (λ (z : ContainerWords). z.block) is in
      let root : root_of k o ys ≡ suc t = other 0 (omega arith) ∙ was in
      let old : table_words k t ws ≡ words.table = sym (ap (λ (r : ℕ). inner k r ws) was) ∙ ap (λ (z : ContainerWords). z.table) is in
      let all : inner k (root_of k o ys) ys ≡ slice_set words.table i x = ap (λ (r : ℕ). inner k r ys) root ∙ (table_set k t ws i x small (omega (arith, long, l)) ∙ ap (λ (z : List ℕ). slice_set z i x) old) in
      λ d. record { block = b d; table = all d }

  -- the root
  pub root_put : (ws : List ℕ) (r : ℕ) → length ws ≡ extent k → ((t : ℕ) → r ≡ suc t → IsTableName k t) → picture k o (slice_set ws (at k (block o 0)) r) ≡ record { block = slice_set (block_of k o ws) 0 r; table = inner k r ws }
  root_put ws r long tables =
      let ys = slice_set ws (at k (block o 0)) r in
      let l = at_low k (block o 0) (low, omega arith) in
      let b : block_of k o ys ≡ slice_set (block_of k o ws) 0 r = block_set k o ws 0 r (omega arith) (omega (arith, l, long)) in
      let root : root_of k o ys ≡ r = get_or-set_same ws (at k (block o 0)) r 0 (omega (arith, l, long)) in
      let all : inner k (root_of k o ys) ys ≡ inner k r ws = ap (λ (z : ℕ). inner k z ys) root ∙ same_inner k r ws (block o 0) r (low, omega arith) (λ t j e. absurd (cc)) tables in
      λ d. record { block = b d; table = all d }

-- ---- logs of puts

-- what puts leave of what a log says of locks, tables and writes
abbrev pub Alike : List Act → List Act → Type 0
Alike new old =
    ((p : ℕ) → has_lock p new ≡ has_lock p old)
    × ((p : ℕ) → is_writing p new ≡ is_writing p old)
    × ((p : ℕ) → has_committed p new ≡ has_committed p old)
    × ((p : ℕ) → has_emptied p new ≡ has_emptied p old)
    × (owes new ≡ owes old)
    × (past new ≡ past old)

pub puts_alike : (o t : ℕ) (puts : List Put) (log : List Act) → Alike (log_of o t puts log) log
puts_alike o t [] log = ((λ p. refl), (λ p. refl), (λ p. refl), (λ p. refl), refl, refl)
puts_alike o t (to_block i x ∷ puts) log = puts_alike o t puts (PutBlock o i x ∷ log)
puts_alike o t (to_table i x ∷ puts) log = puts_alike o t puts (PutTable o t i x ∷ log)
puts_alike o t (to_value None i j a b ∷ puts) log = puts_alike o t puts (PutTable o t j b ∷ PutTable o t i a ∷ log)
puts_alike o t (to_value (Some c) i j a b ∷ puts) log = puts_alike o t puts (PutTable o t i 4 ∷ PutTable o t j c ∷ log)

-- and of the places of boxes
uses_put : (o t : ℕ) (puts : List Put) (log : List Act) (b : ℕ) → place_use b (log_of o t puts log) ≡ place_use b log
uses_put o t [] log b = refl
uses_put o t (to_block i x ∷ puts) log b = uses_put o t puts (PutBlock o i x ∷ log) b
uses_put o t (to_table i x ∷ puts) log b = uses_put o t puts (PutTable o t i x ∷ log) b
uses_put o t (to_value None i j a c ∷ puts) log b = uses_put o t puts (PutTable o t j c ∷ PutTable o t i a ∷ log) b
uses_put o t (to_value (Some d) i j a c ∷ puts) log b = uses_put o t puts (PutTable o t i 4 ∷ PutTable o t j d ∷ log) b

uses_rooted : (o old : ℕ) (root : Option ℕ) (log : List Act) (b : ℕ) → place_use b (log_of_root o old root log) ≡ place_use b log
uses_rooted o old None log b = refl
uses_rooted o old (Some root) log b = refl

-- ---- puts in a row

module _ (v : View) (live : IsAwake v) (o t : ℕ) (low : o < container_count v.shape) where
  abbrev k : Shape
  k = v.shape

  abbrev kind : Kind
  kind = kind_in k.starts o

  long : (log : List Act) → IsReachable (with_log v log) → has_lock o log ≡ true → length (mem k log) ≡ extent k
  long log p mine = (imaged k p.0 p.2.0 p.1 (with_log v log) p.2.1).wide (inl (o, mine))

  -- the table that a root names is one of the bank
  named : (log : List Act) → IsReachable (with_log v log) → has_lock o log ≡ true → (q : ℕ) → root_in (picture k o (mem k log)) ≡ suc q → IsTableName k q
  named log p mine q names = root_table k p.0 p.2.0 o low q (sym (root_known (with_log v log) o low mine p.0 p.1 p.2) ∙ names)

  -- the box words that the pass knows
  abbrev Box : List Act → ℕ → ℕ → ℕ
  Box log b i = known_box_word k b i log

  abbrev Raw : List Act → ContainerWords
  Raw log = picture k o (mem k log)

  -- what a put into the block leaves of what the container names
  few_after_block : (log : List Act) (i x : ℕ) → 0 < i → Raw (PutBlock o i x ∷ log) ≡ with_put (Raw log) (to_block i x) → FewReferences k o log → FewReferences k o (PutBlock o i x ∷ log)
  few_after_block log i x up pic few b =
      let e : root_in (with_put (Raw log) (to_block i x)) ≡ root_in (Raw log) = get_or-set_other (Raw log).block i 0 x 0 (λ z. omega (arith, z, up)) in
      let same : named_in_container k b o (mem k (PutBlock o i x ∷ log)) ≡ named_in_container k b o (mem k log) =
      named_is k o b (mem k (PutBlock o i x ∷ log))
      ∙ (ap (λ (z : ContainerWords). named_in_root b kind (root_in z) z.table) pic
      ∙ (ap (λ (z : ℕ). named_in_root b kind z (Raw log).table) e ∙ sym (named_is k o b (mem k log)))) in
      let f = few b in
      omega (arith, same, f)

  -- one put into the table
  record After (log : List Act) (i x : ℕ) : Type 0 where
    possible : IsReachable (with_log v (PutTable o t i x ∷ log))
    raw : Raw (PutTable o t i x ∷ log) ≡ with_put (Raw log) (to_table i x)
    few : FewReferences k o (PutTable o t i x ∷ log)

  one_put : (log : List Act) (i x : ℕ) (committed : Bool) → IsReachable (with_log v log) → has_lock o log ≡ true → is_writing o log ≡ true → has_committed o log ≡ committed → FewReferences k o log → root_in (Raw log) ≡ suc t → i < size (class_of t) → CarefulAs kind (class_of t) (held_unboxed o (with_log v log)).table (known_state o (with_log v log)).content i x
      → Timely (version_at kind (class_of t)) (rows kind (class_of t)) i x committed → HasReferences k log (PutTable o t i x) o → After log i x
  one_put log i x committed p mine odd done few names small care timely refs =
      let u = with_log v log in
      let table = named log p mine t names in
      let time : Timely (version_at kind (class_of t)) (rows kind (class_of t)) i x (has_committed o log) = subst (λ (z : Bool). Timely (version_at kind (class_of t)) (rows kind (class_of t)) i x z) (sym done) timely in
      let next = next_possible u live p (λ _. PutTable o t i x) (cell t i) (λ _. refl) (λ _. tt) (λ es id knows. let s = put_sure u o low t i x mine names care es id knows in (low, table, small, odd, s.0, s.1, time, refs)) in
      record {
        possible = next.1;
        raw = table_put k o low t table (mem k log) i x (Raw log) (long log p mine) small names refl;
        few = few_after_table k o t i x log refs few;
      }

  -- where the root is, in the bank's words
  root_there : (log : List Act) → root_in (Raw log) ≡ suc t → root_of k o (mem k log) ≡ suc t
  root_there log names = sym (block_at k o (mem k log) 0 (omega arith)) ∙ names

  few_more : (log : List Act) → FewReferences k o log → (b : ℕ) → references_held k b log + 1 < 2 ^ 32
  few_more log few b = let f = few b in omega (arith, f)

  -- a value in a box
  record AfterBox (log : List Act) (words : ContainerWords) (spare : ℕ → ℕ) (c i j a b : ℕ) : Type 0 where
    possible : IsReachable (with_log v (log_of_put o t (to_value (Some c) i j a b) log))
    read : held_unboxed o (with_log v (log_of_put o t (to_value (Some c) i j a b) log)) ≡ with_put words (to_value (Some c) i j a b)
    few : FewReferences k o (log_of_put o t (to_value (Some c) i j a b) log)
    between : (x : ℕ) → spare_after (Some c) spare x ≤ references_held k x (PutTable o t j c ∷ log)
    enough : (x : ℕ) → spare_after (Some c) spare x ≤ references_held k x (log_of_put o t (to_value (Some c) i j a b) log)

  read_at : (l : List Act) → root_in (Raw l) ≡ suc t → (q : ℕ) → q < rows kind (class_of t) → slice_index (held_unboxed o (with_log v l)).table (version_at kind (class_of t) q) ≡ slice_index (Raw l).table (version_at kind (class_of t) q)
  read_at l e q low_q =
      ap (λ (r : ℕ). slice_index (unboxed_table (Box l) kind r (Raw l).table) (version_at kind (class_of t) q)) e
      ∙ read_version (Box l) (class_of t) (rows kind (class_of t)) (Raw l).table kind refl q low_q

  -- words of values are no versions
  value_timely : (row n x : ℕ) (committed : Bool) → (n ≡ value_at kind (class_of t) row) ⊎ (n ≡ suc (value_at kind (class_of t) row)) → Timely (version_at kind (class_of t)) (rows kind (class_of t)) n x committed
  value_timely row n x committed of = record { before = λ q low_q e one. absurd (no_version q low_q e); later = λ q low_q e two. absurd (no_version q low_q e) }
    where
      no_version : (q : ℕ) → q < rows kind (class_of t) → n ≡ version_at kind (class_of t) q → ⊥
      no_version q low_q e =
          let far = version_apart kind (class_of t) q row low_q in
          ⊎_elim (λ (z : n ≡ value_at kind (class_of t) row). far.0 (sym e ∙ z)) (λ (z : n ≡ suc (value_at kind (class_of t) row)). far.1 (sym e ∙ z)) of

  boxed_put : (log : List Act) (words : ContainerWords) (committed : Bool) (spare : ℕ → ℕ) (c row a b : ℕ) → IsReachable (with_log v log) → has_lock o log ≡ true → is_writing o log ≡ true → has_committed o log ≡ committed → FewReferences k o log → held_unboxed o (with_log v log) ≡ words → root_in words ≡ suc t → row < rows kind (class_of t) → slice_index words.table (version_at kind (class_of t) row) % 2 ≡ 1
      → ((x : ℕ) → spare x ≤ references_held k x log) → HasBox k log spare (Some c) a b → AfterBox log words spare c (value_at kind (class_of t) row) (suc (value_at kind (class_of t) row)) a b
  boxed_put log words committed spare c row a b p mine odd done few is root less open_row enough box =
      let class : ℕ = class_of t in
      let place : ℕ = value_at kind class row in
      let u = with_log v log in
      let names : root_in (Raw log) ≡ suc t = ap root_in is ∙ root in
      let table = named log p mine t names in
      let there = root_there log names in
      let wide_log = long log p mine in
      let own : HasOwnReference k log c = (let e = enough c in let h = box.0 in omega (arith, e, h), box.1, box.2) in
      let inside = value_low kind class row table.0 less in
      let small : place < size class = omega (arith, inside) in
      let far = version_apart kind class row row less in
      let raw_is : (Raw log).table ≡ table_words k t (mem k log) = ap (λ (r : ℕ). inner k r (mem k log)) there in
      let wide : length (Raw log).table ≡ size class = ap length raw_is ∙ table_long k t (mem k log) in
      let open_here : slice_index (held_unboxed o u).table (version_at kind class row) % 2 ≡ 1 = ap (λ (z : ContainerWords). slice_index z.table (version_at kind class row) % 2) is ∙ open_row in
      let care1 = value_careful kind class (held_unboxed o u).table (known_state o u).content row (suc place) c less (inr refl) open_here in
      let refs1 = first_refs k log o t row c low table less wide_log there few own in
      let first_ = one_put log (suc place) c committed p mine odd done few names inside care1 (value_timely row (suc place) c committed (inr refl)) refs1 in
      let log1 : List Act = PutTable o t (suc place) c ∷ log in
      let u1 = with_log v log1 in
      let names1 : root_in (Raw log1) ≡ suc t = ap root_in first_.raw ∙ names in
      let version1 : slice_index (held_unboxed o u1).table (version_at kind class row) ≡ slice_index (held_unboxed o u).table (version_at kind class row) =
      read_at log1 names1 row less ∙ (ap (λ (z : ContainerWords). slice_index z.table (version_at kind class row)) first_.raw ∙ (get_or-set_other (Raw log).table (suc place) (version_at kind class row) c 0 far.1 ∙ sym (read_at log names row less))) in
      let care2 = value_careful kind class (held_unboxed o u1).table (known_state o u1).content row place 4 less (inl refl) (ap (λ (z : ℕ). z % 2) version1 ∙ open_here) in
      let refs2 = second_refs k log o t row c low table less wide_log there few own in
      let second = one_put log1 place 4 committed first_.possible mine odd done first_.few names1 small care2 (value_timely row place 4 committed (inl refl)) refs2 in
      let pic : Raw (PutTable o t place 4 ∷ log1) ≡ with_put (with_put (Raw log) (to_table (suc place) c)) (to_table place 4) = second.raw ∙ ap (λ (z : ContainerWords). with_put z (to_table place 4)) first_.raw in
      record {
        possible = second.possible;
        read =
            ap (unboxed (Box log) kind) pic
            ∙ (unboxed_boxed (Box log) kind (Raw log) t row c a b names less (omega (arith, wide, inside)) box.3 box.4
            ∙ ap (λ (z : ContainerWords). with_put z (to_value (Some c) place (suc place) a b)) is);
        few = second.few;
        between = spare1 k log o t row c low table less wide_log there few own spare enough;
        enough = spare2 k log o t row c low table less wide_log there few own spare enough;
      }

  pub puts_possible : (puts : List Put) (log : List Act) (words : ContainerWords) (content : Content) (committed : Bool) (spare : ℕ → ℕ) → IsReachable (with_log v log) → has_lock o log ≡ true → is_writing o log ≡ true → has_committed o log ≡ committed → FewReferences k o log → held_unboxed o (with_log v log) ≡ words → (container_after k.starts (past log) o).content ≡ content → MayPuts kind t content committed words puts
      → ((b : ℕ) → spare b ≤ references_held k b log) → HasBoxes k log spare puts
      → IsReachable (with_log v (log_of o t puts log)) × (held_unboxed o (with_log v (log_of o t puts log)) ≡ with_puts words puts) × FewReferences k o (log_of o t puts log)
  puts_possible [] log words content committed spare p mine odd done few is has may enough boxes = (p, is, few)
  puts_possible (to_block i x ∷ puts) log words content committed spare p mine odd done few is has may enough boxes =
      let tables : (q : ℕ) → root_in (Raw log) ≡ suc q → IsTableName k q = λ q e. named log p mine q e in
      let up = may.0.0 in
      let next = next_possible (with_log v log) live p (λ _. PutBlock o i x) (block o i) (λ _. refl) (λ _. tt) (λ es id knows. (low, may.0.1, odd, λ e. absurd (omega (arith, e, up)))) in
      let pic : Raw (PutBlock o i x ∷ log) ≡ with_put (Raw log) (to_block i x) = block_put k o low (mem k log) i x (Raw log) (long log p mine) up may.0.1 tables refl in
      let read : held_unboxed o (with_log v (PutBlock o i x ∷ log)) ≡ with_put words (to_block i x) = ap (unboxed (Box log) kind) pic ∙ (unboxed_block (Box log) kind (Raw log) i x up ∙ ap (λ (z : ContainerWords). with_put z (to_block i x)) is) in
      puts_possible puts (PutBlock o i x ∷ log) (with_put words (to_block i x)) content committed spare next.1 mine odd done (few_after_block log i x up pic few) read has may.1
      enough (boxes_after k log (PutBlock o i x) ((λ b i x. refl), (λ k b i x. refl)) puts spare enough boxes)
  puts_possible (to_table i x ∷ puts) log words content committed spare p mine odd done few is has may enough boxes =
      let m = may.0 in
      let u = with_log v log in
      let names : root_in (Raw log) ≡ suc t = ap root_in is ∙ m.0 in
      let table = named log p mine t names in
      let care : CarefulAs kind (class_of t) (held_unboxed o u).table (known_state o u).content i x = subst (λ (z : ContainerWords × Content). CarefulAs kind (class_of t) z.0.table z.1 i x) (λ d. (sym is d, sym has d)) m.2 in
      let refs = word_refs k log o t i x low table m.1 (long log p mine) (root_there log names) m.4 (few_more log few) in
      let put = one_put log i x committed p mine odd done few names m.1 care m.3 refs in
      let read : held_unboxed o (with_log v (PutTable o t i x ∷ log)) ≡ with_put words (to_table i x) = ap (unboxed (Box log) kind) put.raw ∙ (unboxed_word (Box log) kind (Raw log) t i x names m.4 ∙ ap (λ (z : ContainerWords). with_put z (to_table i x)) is) in
      let still : (b : ℕ) → spare b ≤ references_held k b (PutTable o t i x ∷ log) = λ b. let e = enough b in let h = word_held k log o t i x low table m.1 (long log p mine) (root_there log names) m.4 b in omega (arith, e, h) in
      puts_possible puts (PutTable o t i x ∷ log) (with_put words (to_table i x)) content committed spare put.possible mine odd done put.few read has may.1 still (boxes_after k log (PutTable o t i x) ((λ b i x. refl), (λ k b i x. refl)) puts spare still boxes)
  puts_possible (to_value None i j a b ∷ puts) log words content committed spare p mine odd done few is has may enough boxes =
      let m = may.0 in
      let row : ℕ = m.1.0 in
      let less = m.1.1 in
      let ei = m.1.2 in
      let ej = m.1.3 in
      let plain = m.2 in
      let c : ℕ = class_of t in
      let place : ℕ = value_at kind c row in
      let u = with_log v log in
      let names : root_in (Raw log) ≡ suc t = ap root_in is ∙ m.0 in
      let table = named log p mine t names in
      let raw_is : (Raw log).table ≡ table_words k t (mem k log) = ap (λ (r : ℕ). inner k r (mem k log)) (root_there log names) in
      let wide : length (Raw log).table ≡ size c = ap length raw_is ∙ table_long k t (mem k log) in
      let inside = value_low kind c row table.0 less in
      let small_i : i < size c = omega (arith, ei, inside) in
      let small_j : j < size c = omega (arith, ej, inside) in
      let far = version_apart kind c row row less in
      let time : (n x : ℕ) → (n ≡ place) ⊎ (n ≡ suc place) → Timely (version_at kind c) (rows kind c) n x committed = λ n x of. value_timely row n x committed of in
      let open_here : slice_index (held_unboxed o u).table (version_at kind c row) % 2 ≡ 1 = ap (λ (z : ContainerWords). slice_index z.table (version_at kind c row) % 2) is ∙ m.1.4 in
      let care1 = value_careful kind c (held_unboxed o u).table (known_state o u).content row i a less (inl ei) open_here in
      let kind_first : slice_index (slice_set (table_words k t (mem k log)) i a) place ≡ a = ap (λ (z : ℕ). slice_index (slice_set (table_words k t (mem k log)) z a) place) ei ∙ get_or-set_same (table_words k t (mem k log)) place a 0 (let l = table_long k t (mem k log) in omega (arith, l, inside)) in
      let refs1 = value_refs k log o t i a low table small_i (long log p mine) (root_there log names) row less (inl ei)
      (λ four. absurd (plain (sym kind_first ∙ four))) (few_more log few) in
      let first_ = one_put log i a committed p mine odd done few names small_i care1 (time i a (inl ei)) refs1 in
      let log1 : List Act = PutTable o t i a ∷ log in
      let u1 = with_log v log1 in
      let names1 : root_in (Raw log1) ≡ suc t = ap root_in first_.raw ∙ names in
      let raw1 : table_words k t (mem k log1) ≡ slice_set (table_words k t (mem k log)) i a =
      sym (ap (λ (r : ℕ). inner k r (mem k log1)) (root_there log1 names1)) ∙ (ap (λ (z : ContainerWords). z.table) first_.raw ∙ ap (λ (l : List ℕ). slice_set l i a) raw_is) in
      let version1 : slice_index (held_unboxed o u1).table (version_at kind c row) ≡ slice_index (held_unboxed o u).table (version_at kind c row) =
      read_at log1 names1 row less ∙ (ap (λ (z : ContainerWords). slice_index z.table (version_at kind c row)) first_.raw ∙ (get_or-set_other (Raw log).table i (version_at kind c row) a 0 (λ z. far.0 (z ∙ ei)) ∙ sym (read_at log names row less))) in
      let care2 = value_careful kind c (held_unboxed o u1).table (known_state o u1).content row j b less (inr ej) (ap (λ (z : ℕ). z % 2) version1 ∙ open_here) in
      let kind_now : slice_index (slice_set (table_words k t (mem k log1)) j b) place ≡ a =
      get_or-set_other (table_words k t (mem k log1)) j place b 0 (λ z. omega (arith, z, ej))
      ∙ (ap (λ (l : List ℕ). slice_index l place) raw1 ∙ kind_first) in
      let refs2 = value_refs k log1 o t j b low table small_j (long log1 first_.possible mine) (root_there log1 names1) row less (inr ej) (λ four. absurd (plain (sym kind_now ∙ four))) (few_more log1 first_.few) in
      let second = one_put log1 j b committed first_.possible mine odd done first_.few names1 small_j care2 (time j b (inr ej)) refs2 in
      let still1 : (x : ℕ) → spare x ≤ references_held k x log1 = λ x. let e = enough x in let h = plain_held k log o t i a low table small_i (long log p mine) (root_there log names) row less (inl ei) (λ four. plain (sym kind_first ∙ four)) x in omega (arith, e, h) in
      let still2 : (x : ℕ) → spare x ≤ references_held k x (PutTable o t j b ∷ log1) = λ x. let e = still1 x in let h = plain_held k log1 o t j b low table small_j (long log1 first_.possible mine) (root_there log1 names1) row less (inr ej) (λ four. plain (sym kind_now ∙ four)) x in omega (arith, e, h) in
      let pic : Raw (PutTable o t j b ∷ log1) ≡ with_put (Raw log) (to_value None i j a b) = second.raw ∙ ap (λ (z : ContainerWords). with_put z (to_table j b)) first_.raw in
      let read : held_unboxed o (with_log v (PutTable o t j b ∷ log1)) ≡ with_put words (to_value None i j a b) =
      ap (unboxed (Box log) kind) pic ∙ (unboxed_value (Box log) kind (Raw log) t row i j a b names less ei ej (omega (arith, wide, inside)) plain ∙ ap (λ (z : ContainerWords). with_put z (to_value None i j a b)) is) in
      puts_possible puts (PutTable o t j b ∷ log1) (with_put words (to_value None i j a b)) content committed spare second.possible mine odd done second.few read has may.1 still2 (boxes_after k log1 (PutTable o t j b) ((λ b i x. refl), (λ k b i x. refl)) puts spare still2 (boxes_after k log (PutTable o t i a) ((λ b i x. refl), (λ k b i x. refl)) puts spare still1 boxes.1))
  puts_possible (to_value (Some c) i j a b ∷ puts) log words content committed spare p mine odd done few is has may enough boxes =
      let m = may.0 in
      let at_place = boxed_put log words committed spare c m.1.0 a b p mine odd done few is m.0 m.1.1 m.1.4 enough boxes.0 in
      let at : AfterBox log words spare c i j a b = subst (λ (z : ℕ × ℕ). AfterBox log words spare c z.0 z.1 a b) (λ d. (sym m.1.2 d, sym m.1.3 d)) at_place in
      let later = boxes_after k (PutTable o t j c ∷ log) (PutTable o t i 4) ((λ b i x. refl), (λ k b i x. refl)) puts (spare_after (Some c) spare) at.enough (boxes_after k log (PutTable o t j c) ((λ b i x. refl), (λ k b i x. refl)) puts (spare_after (Some c) spare) at.between boxes.1) in
      puts_possible puts (PutTable o t i 4 ∷ PutTable o t j c ∷ log) (with_put words (to_value (Some c) i j a b)) content committed (spare_after (Some c) spare) at.possible mine odd done at.few at.read has may.1 at.enough later

-- ---- the whole write

module _ (v : View) (o t : ℕ) (write : WholeWrite) (begin : MayBegin v o) (may : MayWriteSo v o t write) where
  abbrev n : Shape
  n = v.shape

  abbrev its : Kind
  its = kind_in n.starts o

  abbrev old : ℕ
  old = root_in (held_words o v)

  abbrev l1 : ℕ → List Act
  l1 start = StartWrite o start ∷ v.log

  version_up : (u : View) → u.shape ≡ n → Sure u (λ es. word n es (version_of o) + 1 < 2 ^ 64)
  version_up u is es id knows = let r = version_room n es (subst (λ (z : Shape). Valid z es) is knows.0) o begin.low in let few = begin.few in omega (arith, r, few)

  odd : (start : ℕ) → is_writing o (l1 start) ≡ true
  odd start = hit o true (is_writing o v.log)

  not_yet : (start : ℕ) → has_committed o (l1 start) ≡ false
  not_yet start = hit o false (has_committed o v.log)

  few_first : FewReferences n o v.log
  few_first = let p = begin.possible in few_at_first n p.0 p.2.0 p.1 v p.2.1 o begin.low begin.mine begin.few_references

  wide : length (mem n v.log) ≡ extent n
  wide = let p = begin.possible in (imaged n p.0 p.2.0 p.1 v p.2.1).wide (inl (o, begin.mine))

  started : (start : ℕ) × IsReachable (with_log v (l1 start))
  started = next_possible v begin.live begin.possible (λ f. StartWrite o f) (version_of o) (λ f. refl) (λ f. refl) (λ es id knows. (begin.low, begin.mine, begin.quiet, version_up v refl es id knows))

  -- what holds once the root was put, if one is
  abbrev Rooted : Option ℕ → List Act → Type 0
  Rooted r log =
      IsReachable (with_log v log)
      × (held_unboxed o (with_log v log) ≡ with_root_put v o r)
      × ((p : ℕ) → has_lock p log ≡ has_lock p v.log)
      × (is_writing o log ≡ true)
      × (has_committed o log ≡ false)
      × (owes log ≡ owes v.log)
      × (past log ≡ past v.log)
      × (has_emptied o log ≡ true → may_empty write.call ≡ true)
      × FewReferences n o log

  -- no version in the table that the root names is odd
  shut_old : (start : ℕ) → Sure (with_log v (l1 start)) (λ es. (q : ℕ) → old ≡ suc q → Shut (version_at its (class_of q)) (rows its (class_of q)) (table_words n q (run n es).words))
  shut_old start es id knows q names = subst (Shut (version_at its (class_of q)) (rows its (class_of q))) (table_known (with_log v (l1 start)) o begin.low q begin.mine names es id knows).0 (held_shut v o q begin.low begin.possible begin.mine (begin.quiet o) names)

  abbrev known_boxes : ℕ → ℕ → ℕ
  known_boxes b i = known_box_word n b i v.log

  some_block : 0 < length (block_of n o (mem n v.log))
  some_block = let l = block_long n o (mem n v.log) in omega (arith, l)

  -- a root of 0 names no box
  none_named : (start : ℕ) → HasReferences n (l1 start) (PutRoot o 0 old) o
  none_named start = zero_refs n o old (l1 start) begin.low wide few_first

  -- each box that the pass made was stored by a write before
  names_stored : (q start : ℕ) → NamesStored n (l1 start) (PutRoot o q old) o
  names_stored q start b taken = absurd (begin.stored b taken)

  rooted : (r : Option ℕ) → MayReplace v o write.call r → (start : ℕ) → IsReachable (with_log v (l1 start)) → Rooted r (log_of_root o old r (l1 start))
  rooted None m start p = (p, refl, (λ q. refl), odd start, not_yet start, refl, refl, (λ e. off (sym (hit o false (has_emptied o v.log)) ∙ e)), few_first)
  rooted (Some zero) m start p =
      let next =
      next_possible (with_log v (l1 start)) begin.live p (λ _. PutRoot o 0 old) (block o 0) (λ _. refl) (λ _. tt)
      (λ es id knows. (
        begin.low,
        odd start,
        root_known (with_log v (l1 start)) o begin.low begin.mine es id knows,
        (λ q (e : 0 ≡ suc q). absurd (omega (arith, e))),
        shut_old start es id knows,
        (λ _. begin.spare),
        (λ q (e : 0 ≡ suc q). absurd (omega (arith, e))),
        (λ _. not_yet start),
        none_named start,
        (λ q (e : 0 ≡ suc q). absurd (omega (arith, e))),
        names_stored 0 start,
      )) in
      let pic = root_put n o begin.low (mem n v.log) 0 wide (λ q (e : 0 ≡ suc q). absurd (omega (arith, e))) in
      let read = ap (unboxed (known_boxes) its) pic ∙ unboxed_root (known_boxes) its (block_of n o (mem n v.log)) (inner n 0 (mem n v.log)) 0 some_block in
      (next.1, read, (λ q. refl), odd start, not_yet start, refl, refl, (λ _. m), few_after_root n o 0 old (l1 start) (none_named start) few_first)
  rooted (Some (suc q)) m start p =
      let u = with_log v (l1 start) in
      let next =
      next_possible u begin.live p (λ _. PutRoot o (suc q) old) (block o 0) (λ _. refl) (λ _. tt)
      (λ es id knows. (
        begin.low,
        odd start,
        root_known u o begin.low begin.mine es id knows,
        (λ q2 (e : suc q ≡ suc q2). let same : q ≡ q2 = cc in subst (λ (z : ℕ). IsTableName n z × (stage z v.log ≡ 1) × SoundFor n (run n es).words o z (container_after n.starts (history es) o).content) same (m.0, m.1, sound_sure u o begin.low q old m.0 begin.mine m.1 (refs_now q m.4 start) m.2 es id knows)),
        shut_old start es id knows,
        (λ _. begin.spare),
        (λ q2 (e : suc q ≡ suc q2). let same : q ≡ q2 = cc in subst (λ (z : ℕ). Low (version_at its (class_of z)) (rows its (class_of z)) (table_words n z (run n es).words) (word n es counter) (has_committed o (l1 start))) same (young q m.0 m.1 m.3 start es id knows)),
        (λ (e : suc q ≡ 0). absurd (omega (arith, e))),
        refs_now q m.4 start,
        (λ q2 _ done. off (sym (not_yet start) ∙ done)),
        names_stored (suc q) start,
      )) in
      let pic = root_put n o begin.low (mem n v.log) (suc q) wide (λ q2 (e : suc q ≡ suc q2). let same : q ≡ q2 = cc in subst (IsTableName n) same m.0) in
      let read = ap (unboxed (known_boxes) its) pic ∙ unboxed_root (known_boxes) its (block_of n o (mem n v.log)) (inner n (suc q) (mem n v.log)) (suc q) some_block in
      (next.1, read, (λ p. refl), odd start, not_yet start, refl, refl, (λ e. off (sym (hit o (eqb (suc q) 0) (has_emptied o (l1 start)) ∙ ne_eqb (suc q) 0 (λ z. absurd (omega (arith, z)))) ∙ e)), few_after_root n o (suc q) old (l1 start) (refs_now q m.4 start) few_first)
    where
      refs_now : (q : ℕ) → HasReferences n v.log (PutRoot o (suc q) old) o → (start : ℕ) → HasReferences n (l1 start) (PutRoot o (suc q) old) o
      refs_now q refs start = refs_started n o start (suc q) old v.log refs

      young : (q : ℕ) → IsTableName n q → stage q v.log ≡ 1 → ((p : ℕ) → p < rows its (class_of q) → slice_index (hand_unboxed o q v) (version_at its (class_of q) p) ≤ 1) → (start : ℕ) → Sure (with_log v (l1 start)) (λ es. Low (version_at its (class_of q)) (rows its (class_of q)) (table_words n q (run n es).words) (word n es counter) (has_committed o (l1 start)))
      young q table fresh low start es id knows =
          subst (λ (l : List ℕ). Low (version_at its (class_of q)) (rows its (class_of q)) l (word n es counter) (has_committed o (l1 start))) (hand_known (with_log v (l1 start)) q table fresh es id knows)
          (record {
            even = λ p less even. let y = low p less in let r = read_version (known_boxes) (class_of q) (rows its (class_of q)) (in_hand q v) its refl p less in omega (arith, y, r, even);
            odd = λ p less. let y = low p less in let r = read_version (known_boxes) (class_of q) (rows its (class_of q)) (in_hand q v) its refl p less in omega (arith, y, r);
            written = λ d. off (sym (not_yet start) ∙ d);
          })

  abbrev l3 : ℕ → List Act
  l3 start = log_at_commit v o t write start

  -- what holds at the commit
  abbrev Ready : List Act → Type 0
  Ready log =
      IsReachable (with_log v log)
      × (held_unboxed o (with_log v log) ≡ at_commit v o write)
      × ((p : ℕ) → has_lock p log ≡ has_lock p v.log)
      × (is_writing o log ≡ true)
      × (owes log ≡ owes v.log)
      × (past log ≡ past v.log)
      × (has_emptied o log ≡ true → may_empty write.call ≡ true)
      × FewReferences n o log
      × ((b : ℕ) → place_use b log ≡ place_use b v.log)

  -- the references that it has to spare are still there after the put of the root, and the boxes are as they were
  spared : (r : Option ℕ) (start b : ℕ) → spare_references v r b ≤ references_held n b (log_of_root o old r (l1 start))
  spared None start b = let h : references_held n b (l1 start) ≡ references_held n b v.log = refl in omega (arith, h)
  spared (Some root) start b = omega arith

  boxes_rooted : (r : Option ℕ) (start : ℕ) → HasBoxes n v.log (spare_references v r) write.early → HasBoxes n (log_of_root o old r (l1 start)) (spare_references v r) write.early
  boxes_rooted None start has = boxes_after n v.log (StartWrite o start) ((λ b i x. refl), (λ k b i x. refl)) write.early (spare_references v None) (spared None start) has
  boxes_rooted (Some root) start has =
      boxes_after n (l1 start) (PutRoot o root old) ((λ b i x. refl), (λ k b i x. refl)) write.early (λ b. 0) (λ b. omega arith)
      (boxes_after n v.log (StartWrite o start) ((λ b i x. refl), (λ k b i x. refl)) write.early (λ b. 0) (λ b. omega arith) has)

  ready : (start : ℕ) → IsReachable (with_log v (l1 start)) → Ready (l3 start)
  ready start p =
      let l2 = log_of_root o old write.root (l1 start) in
      let r = rooted write.root may.root start p in
      let mine : has_lock o l2 ≡ true = r.2 o ∙ begin.mine in
      let content : (container_after n.starts (past l2) o).content ≡ (known_state o v).content = ap (λ (cs : List Call). (container_after n.starts cs o).content) r.6 in
      let spare = spared write.root start in
      let boxes = boxes_rooted write.root start may.boxes in
      let puts = puts_possible v begin.live o t begin.low write.early l2 (with_root_put v o write.root) (known_state o v).content false (spare_references v write.root) r.0 mine r.3 r.4 r.8 r.1 content may.early spare boxes in
      let same = puts_alike o t write.early l2 in
      (puts.0, puts.1, (λ q. same.0 q ∙ r.2 q), same.1 o ∙ r.3, same.4 ∙ r.5, same.5 ∙ r.6, (λ e. r.7 (sym (same.3 o) ∙ e)), puts.2, (λ b. uses_put o t write.early l2 b ∙ uses_rooted o old write.root (l1 start) b))

  -- the writes of a trace in which the pass is so far agree with what it knew
  agreeing : (log : List Act) → Ready log → Sure (with_log v log) (λ es. AgreesWith v (stored_newest n.starts (history es)))
  agreeing log r es id knows p low mine = agrees_now (with_log v log) es id knows p low (r.2 p ∙ mine) ∙ ap (λ (cs : List Call). container_after n.starts cs p) r.5

  committed : (log : List Act) → Ready log → Sure (with_log v log) (λ es. May n (run n es) (history es) (with_log v log) (Commit write.call write.reply (word n es counter) (snap (run n es) (history es))))
  committed log r es id knows =
      let u = with_log v log in
      let agree = agreeing log r es id knows in
      let c = may.commit (history es) agree in
      let few = begin.few in
      let up = counter_room n es knows.0 in
      let mine : has_lock o log ≡ true = r.2 o ∙ begin.mine in
      let clear : (q : ℕ) → root_of n o (run n es).words ≡ suc q → ClearFor n (run n es).words o q (container_after n.starts (history es) o).content (container_after n.starts (write.call ∷ history es) o).content = λ q names.
      let known_root : root_in (held_words o u) ≡ suc q = root_known u o begin.low mine es id knows ∙ names in
      let words : (at_commit v o write).table ≡ unboxed_words n o q (run n es).words = ap (λ (z : ContainerWords). z.table) (sym r.1) ∙ table_read u o begin.low q mine known_root es id knows in
      let content : (known_state o v).content ≡ (container_after n.starts (history es) o).content = ap (λ (z : ContainerState). z.content) (sym (agree o begin.low begin.mine)) in
      subst (λ (z : List ℕ × Content). ClearAs its n.texts (class_of q) z.0 z.1 (container_after n.starts (write.call ∷ history es) o).content) (λ d. (words d, content d)) (c.clear q (ap root_in (sym r.1) ∙ known_root)) in (
        may.wrote,
        subst (λ (z : ℕ). is_writing z log ≡ true) (sym may.of) r.3,
        omega (arith, up, few),
        begin.room,
        c.replied,
        subst (λ (z : ℕ). (q : ℕ) → root_of n z (run n es).words ≡ suc q → ClearFor n (run n es).words z q (container_after n.starts (history es) z).content (container_after n.starts (write.call ∷ history es) z).content) (sym may.of) clear,
        subst (λ (z : ℕ). z < container_count n) (sym may.of) begin.low,
        refl,
        (λ class e. c.takes class (sym r.4 ∙ e)),
        c.within,
        subst (λ (z : ℕ). has_emptied z log ≡ true → may_empty write.call ≡ true) (sym may.of) r.6,
        c.declared,
        may.fits,
        (λ p e. r.2 p ∙ may.locks p e),
        ((λ b taken. absurd (begin.stored b (sym (r.8 b) ∙ taken))), (λ b c taken. absurd (begin.stored b (sym (r.8 b) ∙ taken)))),
      )

  -- the rest, from the commit on
  whole : (start : ℕ) → Ready (l3 start) → (number : ℕ) × (s : Snap) × (stop : ℕ) × IsReachable (after_write_of v o t write start number s stop)
  whole start r =
      let log = l3 start in
      let u = with_log v log in
      let es = r.0.0 in
      let id = r.0.1 in
      let knows = r.0.2 in
      let m = word n es counter in
      let s = snap (run n es) (history es) in
      let a : Act = Commit write.call write.reply m s in
      let c = may.commit (history es) (agreeing log r es id knows) in
      let after : ContainerState = container_after n.starts (write.call ∷ history es) o in
      let w = view_after a v in
      let p4 : IsReachable (with_log w (a ∷ log)) = (did id u a ∷ es, id, ((knows.0, (knows.1, begin.live.0, refl, committed log r es id knows, begin.live.1)), set_at (run n es).views id u (view_after a u) knows.1)) in
      let mine : has_lock o log ≡ true = r.2 o ∙ begin.mine in
      let puts = puts_possible w begin.live o t begin.low write.late (a ∷ log) (at_commit v o write) after.content true (λ x. 0) p4 mine r.3 refl r.7 r.1 refl c.late (λ x. omega arith) (none_late its t after.content n (a ∷ log) write.late (at_commit v o write) (λ x. 0) c.late) in
      let l5 = log_of o t write.late (a ∷ log) in
      let same = puts_alike o t write.late (a ∷ log) in
      let u5 = with_log w l5 in
      let mine5 : has_lock o l5 ≡ true = same.0 o ∙ mine in
      let odd5 : is_writing o l5 ≡ true = same.1 o ∙ r.3 in
      let content5 : known_state o u5 ≡ after = ap (λ (cs : List Call). container_after n.starts cs o) same.5 in
      let stands5 : Represents n.texts (held_unboxed o u5) (known_state o u5) = subst (λ (z : ContainerWords × ContainerState). Represents n.texts z.0 z.1) (λ d. (sym puts.1 d, sym content5 d)) c.stands in
      let p6 =
      next_possible u5 begin.live puts.0 (λ f. StopWrite o f) (version_of o) (λ f. refl) (λ f. refl)
      (λ es id knows. (
        begin.low,
        odd5,
        same.2 o,
        stop_sure u5 o begin.low mine5 stands5 es id knows,
        version_up u5 refl es id knows,
        (λ q names.
            let known_root : root_in (held_words o u5) ≡ suc q = root_known u5 o begin.low mine5 es id knows ∙ names in
            let w5 = table_known u5 o begin.low q mine5 known_root es id knows in
            let box5 : ℕ → ℕ → ℕ = λ b i. known_box_word n b i l5 in
            let read5 : Shut (version_at its (class_of q)) (rows its (class_of q)) (held_unboxed o u5).table = subst (Shut (version_at its (class_of q)) (rows its (class_of q))) (ap (λ (z : ContainerWords). z.table) (sym puts.1)) (may.shut q (ap root_in (sym puts.1) ∙ known_root)) in
            let rows5 = subst (λ (r : ℕ). Shut (version_at its (class_of q)) (rows its (class_of q)) (unboxed_table box5 its r (held_words o u5).table)) known_root read5 in
            subst (Shut (version_at its (class_of q)) (rows its (class_of q))) w5.0 (raw_shut box5 its (class_of q) (held_words o u5).table rows5)),
      )) in
      let u6 = view_after (StopWrite o p6.0) u5 in
      let p7 = next_possible u6 begin.live p6.1 (λ _. Unlock o) (lock_of o) (λ _. refl) (λ _. tt) (λ es id knows. (begin.low, mine5, hit o false (is_writing o l5))) in
      (m, s, p6.0, p7.1)

  pub write_possible : (start number : ℕ) × (s : Snap) × (stop : ℕ) × IsReachable (after_write_of v o t write start number s stop)
  write_possible = let a = started in let b = whole a.0 (ready a.0 a.1) in (a.0, b.0, b.1, b.2, b.3)

pub writes_may_be_made : WritesMayBeMade
writes_may_be_made v o t write begin may = write_possible v o t write begin may
