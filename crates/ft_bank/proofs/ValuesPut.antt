-- The two puts of a value: that they may be made, and what they leave.
use Rattle.std.proofs.Common.{◌≡◌, ◌≢◌, ◌⊎◌, ℕ, suc, ◌+◌, ◌^◌, ◌%◌, ◌<◌, eqb, Bool, true, false, true≢false, cond, List, [], ◌∷◌, length, set, refl, sym, ap, ◌∙◌, subst, inl, inr, ⊎_elim, arith, get_or-set_same, get_or-set_other, length-set}
use Rattle.std.specs.Prelude.{slice_index, slice_set}
use Rattle.std.proofs.lemmas.List.{set_comm}
use Rattle.std.proofs.Math.Bridge.{le_prop}
use Rattle.std.proofs.Math.Logic.{∥∥₁_elim}
use Rattle.std.proofs.Math.Nat.{ℕ_set}
use Rattle.ft_model.specs.declared.script.Kind.{Kind}
use Rattle.ft_trace.specs.declared.Shape.{Shape}
use Rattle.ft_trace.specs.declared.View.{View}
use Rattle.ft_trace.specs.declared.Act.{Act}
use Rattle.ft_trace.specs.declared.Act.TheVariants.{PutTable}
use Rattle.ft_trace.specs.Addresses.{container_count, at, cell, class_of, size, extent, IsTableName}
use Rattle.ft_trace.specs.Acts.{has_lock, is_writing, has_committed, mem, view_after}
use Rattle.ft_trace.specs.Boxes.{value_at, names_box, names_box_at, named_in_root, references_held, known_box_word, HasReferences}
use Rattle.ft_trace.specs.BoxPuts.{HasOwnReference}
use Rattle.ft_trace.specs.ContainerStates.{kind_in}
use Rattle.ft_trace.specs.Holds.{held_words, held_unboxed, known_state}
use Rattle.ft_trace.specs.Kinds.{rows, version_at}
use Rattle.ft_trace.specs.OddVersions.{Timely}
use Rattle.ft_trace.specs.Pictures.{ContainerWords, inner, root_in, root_of, table_words}
use Rattle.ft_trace.specs.Traces.{IsReachable}
use Rattle.ft_trace.specs.Unboxed.{unboxed_kind, unboxed_payload, unboxed_table, with_value}
use Rattle.ft_trace.proofs.BoxedPuts.{first_refs, second_refs}
use Rattle.ft_trace.proofs.Cases.{here, miss}
use Rattle.ft_trace.proofs.OddVersions.{writer_has}
use Rattle.ft_trace.proofs.Pieces.{block_at, table_long}
use Rattle.ft_trace.proofs.PlainPuts.{FewReferences, by_root, few_after_table, few_at_first, value_careful}
use Rattle.ft_trace.proofs.ReadTables.{read_version, rows_at, set_self, value_low, version_apart}
use Rattle.ft_trace.proofs.ReferencesOfPuts.{root_now, table_now, value_refs}
use Rattle.ft_trace.proofs.Sums.{sum_one}
use Rattle.ft_trace.proofs.ValuePuts.{value_put, word_kept}
use Rattle.ft_bank.specs.BoxSteps.{kind_read, payload_read, value_acts, IsOpenValue}
use Rattle.ft_bank.specs.SameBoxes.{named_in_words, HoldsFew, MovesReferences, SameReferences}
use Rattle.ft_bank.specs.Whole.{OnlyPut}
use Rattle.ft_bank.specs.WriteSteps.{IsCareful, KeepsUnwritten, with_table}
use Rattle.ft_bank.proofs.KnownAfterWrites.{put_by, put_then}
use Rattle.ft_bank.proofs.Readying.{wide_for}

pub is_true : (b : Bool) → (b ≡ false → ⊥) → b ≡ true
is_true true never = refl
is_true false never = absurd (never refl)

-- who writes a container has its lock
pub writer_mine : (v : View) (o : ℕ) → ∥ IsReachable v ∥₁ → is_writing o v.log ≡ true → has_lock o v.log ≡ true
writer_mine v o possible odd =
    is_true (has_lock o v.log)
    (λ e. ∥∥₁_elim {P = ⊥} possible (λ x y. absurd x) (λ p. true≢false (sym (writer_has v.shape p.0 p.2.0 o p.1 v p.2.1 odd) ∙ e)))

module _ (v : View) (o t : ℕ) (low : o < container_count v.shape) (table : IsTableName v.shape t) (possible : ∥ IsReachable v ∥₁) (odd : is_writing o v.log ≡ true) (names : root_in (held_words o v) ≡ suc t) (word : ℕ) (value : IsOpenValue v o t word) (few : HoldsFew v) where
  abbrev k : Shape
  k = v.shape

  abbrev kd : Kind
  kd = kind_in v.shape.starts o

  abbrev c : ℕ
  c = class_of t

  abbrev row : ℕ
  row = value.row

  abbrev place : ℕ
  place = value_at (kind_in v.shape.starts o) (class_of t) value.row

  next_is : word + 1 ≡ suc place
  next_is = let e = value.is in omega (arith, e)

  inside : suc place < size c
  inside = value_low kd c row table.0 value.low

  pub next_low : word + 1 < size c
  next_low = let i = inside in let e = value.is in omega (arith, i, e)

  pub word_low : word < size c
  word_low = let i = inside in let e = value.is in omega (arith, i, e)

  mine : has_lock o v.log ≡ true
  mine = writer_mine v o possible odd

  wide : length (mem k v.log) ≡ extent k
  wide = ∥∥₁_elim {P = length (mem k v.log) ≡ extent k} possible (ℕ_set (length (mem k v.log)) (extent k)) (λ p. wide_for v o mine p.0 p.1 p.2)

  few_all : FewReferences k o v.log
  few_all b = ∥∥₁_elim possible le_prop (λ p. few_at_first k p.0 p.2.0 p.1 v p.2.1 o low mine few b)

  there : root_of k o (mem k v.log) ≡ suc t
  there = sym (block_at k o (mem k v.log) 0 (omega arith)) ∙ names

  raw_is : (held_words o v).table ≡ table_words k t (mem k v.log)
  raw_is = ap (λ (r : ℕ). inner k r (mem k v.log)) there

  long_table : suc place < length (held_words o v).table
  long_table = let l = ap length raw_is in let m = table_long k t (mem k v.log) in let i = inside in omega (arith, l, m, i)

  -- the words of a value are no version
  timely : (i x : ℕ) (committed : Bool) → (i ≡ place) ⊎ (i ≡ suc place) → Timely (version_at kd c) (rows kd c) i x committed
  timely i x committed of = record { before = λ q less e one. absurd (no_version q less e); later = λ q less e two. absurd (no_version q less e) }
    where
      no_version : (q : ℕ) → q < rows kd c → i ≡ version_at kd c q → ⊥
      no_version q less e =
          let far = version_apart kd c q row less in
          ⊎_elim (λ (z : i ≡ place). far.0 (sym e ∙ z)) (λ (z : i ≡ suc place). far.1 (sym e ∙ z)) of

  careful : (i x : ℕ) → (i ≡ place) ⊎ (i ≡ suc place) → HasReferences k v.log (PutTable o t i x) o → IsCareful v o t i x
  careful i x of refs = record {
    care = value_careful kd c (held_unboxed o v).table (known_state o v).content row i x value.low of value.odd;
    timely = timely i x (has_committed o v.log) of;
    references = inr refs;
  }

  -- ---- after a put of one of its words
  module _ (i x : ℕ) (of : (i ≡ place) ⊎ (i ≡ suc place)) (held : held_words o (view_after (PutTable o t i x) v) ≡ with_table (held_words o v) i x) where
    abbrev w : View
    w = view_after (PutTable o t i x) v

    names_now : root_in (held_words o w) ≡ suc t
    names_now = ap root_in held ∙ names

    read_of : (u : View) → u.shape ≡ k → root_in (held_words o u) ≡ suc t → slice_index (held_unboxed o u).table (version_at (kind_in u.shape.starts o) c row) ≡ slice_index (held_words o u).table (version_at (kind_in u.shape.starts o) c row)
    read_of u is e =
        let box : ℕ → ℕ → ℕ = λ b j. known_box_word u.shape b j u.log in
        ap (λ (r : ℕ). slice_index (unboxed_table box (kind_in u.shape.starts o) r (held_words o u).table) (version_at (kind_in u.shape.starts o) c row)) e
        ∙ read_version box c (rows (kind_in u.shape.starts o) c) (held_words o u).table (kind_in u.shape.starts o) refl row (subst (λ (z : Shape). row < rows (kind_in z.starts o) c) (sym is) value.low)

    no_word : i ≢ version_at kd c row
    no_word e = let far = version_apart kd c row row value.low in ⊎_elim (λ (z : i ≡ place). far.0 (sym e ∙ z)) (λ (z : i ≡ suc place). far.1 (sym e ∙ z)) of

    still_odd : slice_index (held_unboxed o w).table (version_at kd c row) % 2 ≡ 1
    still_odd =
        ap (λ (z : ℕ). z % 2)
        (read_of w refl names_now
        ∙ (ap (λ (z : ContainerWords). slice_index z.table (version_at kd c row)) held
        ∙ (get_or-set_other (held_words o v).table i (version_at kd c row) x 0 (λ z. no_word (sym z)) ∙ sym (read_of v refl names))))
        ∙ value.odd

    careful_then : (j y : ℕ) → (j ≡ place) ⊎ (j ≡ suc place) → HasReferences k (PutTable o t i x ∷ v.log) (PutTable o t j y) o → IsCareful w o t j y
    careful_then j y also refs = record {
      care = value_careful kd c (held_unboxed o w).table (known_state o w).content row j y value.low also still_odd;
      timely = timely j y (has_committed o w.log) also;
      references = inr refs;
    }

  -- ---- in a box
  module _ (payload : ℕ) (own : HasOwnReference v.shape v.log payload) where
    pub box_first : IsCareful v o t (word + 1) payload
    box_first =
        careful (word + 1) payload (inr next_is)
        (subst (λ (z : ℕ). HasReferences k v.log (PutTable o t z payload) o) (sym next_is) (first_refs k v.log o t row payload low table value.low wide there few_all own))

    pub box_second : held_words o (view_after (PutTable o t (word + 1) payload) v) ≡ with_table (held_words o v) (word + 1) payload → IsCareful (view_after (PutTable o t (word + 1) payload) v) o t word 4
    box_second held =
        careful_then (word + 1) payload (inr next_is) held word 4 (inl value.is)
        (subst (λ (z : ℕ × ℕ). HasReferences k (PutTable o t z.0 payload ∷ v.log) (PutTable o t z.1 4) o) (λ d. (sym next_is d, sym value.is d)) (second_refs k v.log o t row payload low table value.low wide there few_all own))

  -- ---- in place
  module _ (kind payload : ℕ) (plain : kind ≢ 4) where
    few_one : (b : ℕ) → references_held k b v.log + 1 < 2 ^ 32
    few_one b = let f = few_all b in omega (arith, f)

    long : length (table_words k t (mem k v.log)) ≡ size c
    long = table_long k t (mem k v.log)

    kind_now : slice_index (slice_set (table_words k t (mem k v.log)) word kind) place ≡ kind
    kind_now =
        ap (λ (z : ℕ). slice_index (slice_set (table_words k t (mem k v.log)) z kind) place) value.is
        ∙ get_or-set_same (table_words k t (mem k v.log)) place kind 0 (let l = long in let i = inside in omega (arith, l, i))

    refs_first : HasReferences k v.log (PutTable o t word kind) o
    refs_first = value_refs k v.log o t word kind low table word_low wide there row value.low (inl value.is) (λ four. absurd (plain (sym kind_now ∙ four))) few_one

    pub plain_first : IsCareful v o t word kind
    plain_first = careful word kind (inl value.is) refs_first

    abbrev log1 : List Act
    log1 = PutTable o t word kind ∷ v.log

    root1 : root_of k o (mem k log1) ≡ suc t
    root1 = root_now k v.log o t word kind low table word_low wide there

    table1 : table_words k t (mem k log1) ≡ slice_set (table_words k t (mem k v.log)) word kind
    table1 = table_now k v.log o t word kind low table word_low wide there

    wide1 : length (mem k log1) ≡ extent k
    wide1 = length-set (mem k v.log) (at k (cell t word)) kind ∙ wide

    kind_then : slice_index (slice_set (table_words k t (mem k log1)) (word + 1) payload) place ≡ kind
    kind_then =
        get_or-set_other (table_words k t (mem k log1)) (word + 1) place payload 0 (λ z. let e = next_is in omega (arith, z, e))
        ∙ (ap (λ (l : List ℕ). slice_index l place) table1 ∙ kind_now)

    few_then : (b : ℕ) → references_held k b log1 + 1 < 2 ^ 32
    few_then b = let f = few_after_table k o t word kind v.log refs_first few_all b in omega (arith, f)

    pub plain_second : held_words o (view_after (PutTable o t word kind) v) ≡ with_table (held_words o v) word kind → IsCareful (view_after (PutTable o t word kind) v) o t (word + 1) payload
    plain_second held =
        careful_then word kind (inl value.is) held (word + 1) payload (inr next_is)
        (value_refs k log1 o t (word + 1) payload low table next_low wide1 root1 row value.low (inr next_is) (λ four. absurd (plain (sym kind_then ∙ four))) few_then)

  -- ---- what they leave
  module _ (kind payload : ℕ) (w : View) (shape : w.shape ≡ v.shape) (held : held_words o w ≡ with_table (with_table (held_words o v) word kind) (word + 1) payload) where
    abbrev T : List ℕ
    T = (held_words o v).table

    abbrev put : List ℕ
    put = with_value place kind payload T

    put_is : slice_set (slice_set T word kind) (word + 1) payload ≡ put
    put_is = λ d. slice_set (slice_set T (value.is d) kind) (next_is d) payload

    sum_is : (b : ℕ) → named_in_root b kd (suc t) put + names_box_at b kd c T row ≡ named_in_root b kd (suc t) T + names_box b kind payload
    sum_is b =
        let s = sum_one (names_box_at b kd c put) (names_box_at b kd c T) (rows kd c) row value.low (λ q less ne. let e = word_kept (λ (x y : ℕ). x) kd c row q kind payload T (λ z. ne (sym z)) in λ d. names_box b (e.0 d) (e.1 d)) in
        let one : slice_index put place ≡ kind = get_or-set_other (set T place kind) (suc place) place payload 0 (λ z. omega (arith, z)) ∙ get_or-set_same T place kind 0 (let l = long_table in omega (arith, l)) in
        let two : slice_index put (suc place) ≡ payload = get_or-set_same (set T place kind) (suc place) payload 0 (let l = long_table in let n = length-set T place kind in omega (arith, l, n)) in
        let x : names_box_at b kd c put row ≡ names_box b kind payload = λ d. names_box b (one d) (two d) in
        omega (arith, s, x)

    old_names : (b : ℕ) → names_box_at b kd c T row ≡ names_box b (slice_index T word) (slice_index T (word + 1))
    old_names b = λ d. names_box b (slice_index T (sym value.is d)) (slice_index T (sym next_is d))

    -- the references that the pass holds then
    pub value_moves : MovesReferences o v w → (b : ℕ) → references_held k b w.log + names_box b kind payload ≡ references_held k b v.log + names_box b (slice_index T word) (slice_index T (word + 1))
    value_moves moves b =
        let m : references_held k b w.log + named_in_words b kd (held_words o w) ≡ references_held k b v.log + named_in_words b kd (held_words o v) = subst (λ (z : Shape). references_held z b w.log + named_in_words b (kind_in z.starts o) (held_words o w) ≡ references_held k b v.log + named_in_words b kd (held_words o v)) shape (moves b) in
        let after : named_in_words b kd (held_words o w) ≡ named_in_root b kd (suc t) put =
        (λ d. named_in_words b kd (held d)) ∙ (λ d. named_in_root b kd (names d) (put_is d)) in
        let before : named_in_words b kd (held_words o v) ≡ named_in_root b kd (suc t) T = ap (λ (r : ℕ). named_in_root b kd r T) names in
        let s = sum_is b in
        let n = old_names b in
        omega (arith, m, after, before, s, n)

    -- what the words read then, where the pass knows the same boxes
    pub value_read : ((b i : ℕ) → known_box_word w.shape b i w.log ≡ known_box_word v.shape b i v.log) → held_unboxed o w ≡ with_table (with_table (held_unboxed o v) word (kind_read v kind payload)) (word + 1) (payload_read v kind payload)
    value_read same =
        let box : ℕ → ℕ → ℕ = λ b i. known_box_word v.shape b i v.log in
        let a : ℕ = unboxed_kind box kind payload in
        let b : ℕ = unboxed_payload box kind payload in
        let read : List ℕ = (held_unboxed o v).table in
        let e : unboxed_table box kd (root_in (held_words o v)) (slice_set (slice_set T word kind) (word + 1) payload) ≡ slice_set (slice_set read word a) (word + 1) b =
        ap (unboxed_table box kd (root_in (held_words o v))) put_is
        ∙ (by_root box kd (root_in (held_words o v)) t put names
        ∙ (value_put box kd c (rows kd c) row kind payload T value.low long_table
        ∙ (ap (with_value place a b) (sym (by_root box kd (root_in (held_words o v)) t T names))
        ∙ (λ d. slice_set (slice_set read (sym value.is d) a) (sym next_is d) b)))) in
        (λ d. record { block = (held d).block; table = unboxed_table (λ x y. same x y d) (kind_in (shape d).starts o) (root_in (held d)) (held d).table })
        ∙ (λ d. record { block = (held_words o v).block; table = e d })

  -- ---- the payload alone, of a value in place
  module _ (payload : ℕ) (plain : slice_index (held_words o v).table word ≢ 4) where
    abbrev old_kind : ℕ
    old_kind = slice_index (held_words o v).table word

    kind_there : slice_index (slice_set (table_words k t (mem k v.log)) (word + 1) payload) place ≢ 4
    kind_there four =
        plain
        (ap (slice_index (held_words o v).table) value.is
        ∙ (ap (λ (l : List ℕ). slice_index l place) raw_is
        ∙ (sym (get_or-set_other (table_words k t (mem k v.log)) (word + 1) place payload 0 (λ z. let e = next_is in omega (arith, z, e))) ∙ four)))

    payload_refs : HasReferences k v.log (PutTable o t (word + 1) payload) o
    payload_refs = value_refs k v.log o t (word + 1) payload low table next_low wide there row value.low (inr next_is) (λ four. absurd (kind_there four)) (λ b. let f = few_all b in omega (arith, f))

    pub payload_careful : IsCareful v o t (word + 1) payload
    payload_careful = careful (word + 1) payload (inr next_is) payload_refs

    module _ (w : View) (shape : w.shape ≡ v.shape) (held : held_words o w ≡ with_table (held_words o v) (word + 1) payload) where
      -- as a put of the kind that is there, and of the payload
      held_both : held_words o w ≡ with_table (with_table (held_words o v) word old_kind) (word + 1) payload
      held_both = held ∙ (λ d. record { block = (held_words o v).block; table = slice_set (sym (set_self (held_words o v).table word) d) (word + 1) payload })

      pub payload_same : MovesReferences o v w → SameReferences v w
      payload_same moves b =
          let m : references_held k b w.log + names_box b old_kind payload ≡ references_held k b v.log + names_box b old_kind (slice_index (held_words o v).table (word + 1)) = value_moves old_kind payload w shape held_both moves b in
          let x : names_box b old_kind payload ≡ 0 = miss old_kind 4 (cond (eqb payload b) 1 0) 0 plain in
          let y : names_box b old_kind (slice_index (held_words o v).table (word + 1)) ≡ 0 = miss old_kind 4 (cond (eqb (slice_index (held_words o v).table (word + 1)) b) 1 0) 0 plain in
          let same : references_held k b w.log ≡ references_held k b v.log = omega (arith, m, x, y) in
          subst (λ (z : Shape). references_held z b w.log ≡ references_held k b v.log) (sym shape) same

      pub payload_read_then : ((b i : ℕ) → known_box_word w.shape b i w.log ≡ known_box_word v.shape b i v.log) → held_unboxed o w ≡ with_table (held_unboxed o v) (word + 1) payload
      payload_read_then same =
          let box : ℕ → ℕ → ℕ = λ b i. known_box_word v.shape b i v.log in
          let T : List ℕ = (held_words o v).table in
          let read : List ℕ = (held_unboxed o v).table in
          let a : kind_read v old_kind payload ≡ old_kind = miss old_kind 4 (box payload 1) old_kind plain in
          let b : payload_read v old_kind payload ≡ payload = miss old_kind 4 (box payload 2) payload plain in
          let here_kind : slice_index T place ≡ old_kind = ap (slice_index T) (sym value.is) in
          let first : slice_index read word ≡ old_kind =
          ap (slice_index read) value.is
          ∙ (ap (λ (l : List ℕ). slice_index l place) (by_root box kd (root_in (held_words o v)) t T names)
          ∙ ((rows_at box kd c (rows kd c) row T value.low long_table).0
          ∙ (miss (slice_index T place) 4 (box (slice_index T (suc place)) 1) (slice_index T place) (λ z. plain (sym here_kind ∙ z)) ∙ here_kind))) in
          let stays : slice_set read word old_kind ≡ read = ap (slice_set read word) (sym first) ∙ set_self read word in
          value_read old_kind payload w shape held_both same
          ∙ (λ d. record { block = (held_unboxed o v).block; table = slice_set (slice_set read word (a d)) (word + 1) (b d) })
          ∙ (λ d. record { block = (held_unboxed o v).block; table = slice_set (stays d) (word + 1) payload })

-- ---- one after the other

-- what the pass keeps in two puts
pub keeps_both : (o t i x : ℕ) (v u w : View) → u ≡ view_after (PutTable o t i x) v → KeepsUnwritten v u → KeepsUnwritten u w → KeepsUnwritten v w
keeps_both o t i x v u w is one two p low mine quiet =
    let a = one p low mine quiet in
    let b = two p (subst (λ (z : View). p < container_count z.shape) (sym is) low) (subst (λ (z : View). has_lock p z.log ≡ true) (sym is) mine) (subst (λ (z : View). is_writing p z.log ≡ false) (sym is) quiet) in
    (b.0 ∙ a.0, b.1 ∙ a.1, b.2 ∙ a.2)

pub only_both : (o t i x j y : ℕ) (v u w : View) → u ≡ view_after (PutTable o t i x) v → KeepsUnwritten v u → MovesReferences o v u → w ≡ view_after (PutTable o t j y) u → KeepsUnwritten u w → MovesReferences o u w → OnlyPut o v w
only_both o t i x j y v u w first one moves second two more =
    put_then v u w o (put_by (PutTable o t i x) v u o tt first one moves) (put_by (PutTable o t j y) u w o tt second two more)

-- the acts, as they were made
pub acts_boxed : (o t word kind payload : ℕ) → kind ≡ 4 → value_acts o t word kind payload ≡ PutTable o t word kind ∷ PutTable o t (word + 1) payload ∷ []
acts_boxed o t word kind payload e = here kind 4 (PutTable o t word kind ∷ PutTable o t (word + 1) payload ∷ []) (PutTable o t (word + 1) payload ∷ PutTable o t word kind ∷ []) e

pub acts_plain : (o t word kind payload : ℕ) → kind ≢ 4 → value_acts o t word kind payload ≡ PutTable o t (word + 1) payload ∷ PutTable o t word kind ∷ []
acts_plain o t word kind payload e = miss kind 4 (PutTable o t word kind ∷ PutTable o t (word + 1) payload ∷ []) (PutTable o t (word + 1) payload ∷ PutTable o t word kind ∷ []) e

-- the two words may be put in either order
pub held_swapped : (x : ContainerWords) (word kind payload : ℕ) → with_table (with_table x (word + 1) payload) word kind ≡ with_table (with_table x word kind) (word + 1) payload
held_swapped x word kind payload =
    let e = set_comm x.table (word + 1) word payload kind (λ z. omega (arith, z)) in
    λ d. record { block = x.block; table = e d }
