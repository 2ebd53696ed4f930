-- A put over a value: what each of its steps leaves.
use Rattle.std.proofs.Common.{◌≡◌, ◌≢◌, ℕ, suc, ◌+◌, ◌%◌, ◌^◌, ◌<◌, ◌≤◌, eqb, cond, set, List, length, length-set, refl, sym, ap, ◌∙◌, subst, arith, get_or-set_same, get_or-set_other}
use Rattle.std.specs.Prelude.{slice_index}
use mathlib.Core.Logic.{dite}
use native.Mathlib.Decide.{ℕ_discrete}
use Rattle.ft_trace.specs.declared.Shape.{Shape}
use Rattle.ft_trace.specs.declared.View.{View}
use Rattle.ft_model.specs.declared.script.Kind.{Kind}
use Rattle.ft_trace.specs.Acts.{mem}
use Rattle.ft_trace.specs.Addresses.{container_count, class_of, size, IsBoxName}
use Rattle.ft_trace.specs.Boxes.{value_at, names_box, references_held, known_box_word, IsSettled}
use Rattle.ft_trace.specs.ContainerStates.{kind_in}
use Rattle.ft_trace.specs.Holds.{held_words, held_unboxed}
use Rattle.ft_trace.specs.Kinds.{rows, version_at}
use Rattle.ft_trace.specs.Pictures.{ContainerWords, picture, root_in}
use Rattle.ft_trace.specs.Traces.{IsReachable}
use Rattle.ft_trace.specs.Unboxed.{unboxed_table}
use Rattle.ft_trace.proofs.Cases.{here, miss}
use Rattle.ft_trace.proofs.Known.{table_is_long}
use Rattle.ft_trace.proofs.ReadTables.{rows_long, value_low}
use Rattle.ft_bank.specs.declared.table.Table.{Table}
use Rattle.ft_bank.specs.BoxSteps.{HasReferenceFor, IsOpenValue, kind_read, payload_read}
use Rattle.ft_bank.specs.SameBoxes.{HoldsFew, SameMade, SameReferences, TakesNoPlace}
use Rattle.ft_bank.specs.TableNames.{table_id}
use Rattle.ft_bank.specs.Whole.{OnlyBoxed, OnlyLoaded, OnlyPut, OnlyWritten, SameWork}
use Rattle.ft_bank.specs.WriteSteps.{with_table}
use Rattle.ft_bank.proofs.DoneBoxes.{stays_settled_same}
use Rattle.ft_bank.proofs.KnownAfterWrites.{loaded_held, loaded_put, put_then, put_written, boxed_written, written_then}
use Rattle.ft_bank.proofs.NamedBoxes.{named_is_box, named_is_known}
use Rattle.ft_search.specs.Boxed.{IsKnownBox, StandsBut, WritesTable}
use Rattle.ft_search.proofs.Puts.{few_same, table_class}
use Rattle.ft_search.proofs.Unboxing.{reads_plain, word_reads, kind_again}

-- ---- the pass writes the table still

module _ (k : Shape) (o : ℕ) (table : Table) (v w : View) (shape : v.shape ≡ k) (writes : WritesTable k o table v) where
  pub table_done : SameWork v w → IsSettled w.log → HoldsFew w → root_in (held_words o w) ≡ root_in (held_words o v) → WritesTable k o table w
  table_done work settled few root = record {
    container = writes.container;
    table_in = writes.table_in;
    locked = work.pass.locks o ∙ writes.locked;
    odd = work.pass.writes o ∙ writes.odd;
    root = root ∙ writes.root;
    settled = settled;
    few = few;
  }

  pub table_on : SameWork v w → SameReferences v w → SameMade v w → root_in (held_words o w) ≡ root_in (held_words o v) → WritesTable k o table w
  table_on work references made root = table_done work ((stays_settled_same v w made).settled writes.settled) (few_same v w references writes.few) root

  pub table_loaded : OnlyLoaded v w → WritesTable k o table w
  table_loaded l = table_on l.work l.boxes.references l.boxes.made (ap root_in (loaded_held v w o l))

  pub still_unboxed : OnlyLoaded v w → held_unboxed o w ≡ held_unboxed o v
  still_unboxed l = l.unboxed o (subst (λ (z : Shape). o < container_count z) (sym shape) writes.container) writes.locked

-- a value whose version is odd has one still
pub open_as : (v w : View) (o t word : ℕ) → w.shape ≡ v.shape → held_unboxed o w ≡ held_unboxed o v → IsOpenValue v o t word → IsOpenValue w o t word
open_as v w o t word shape words a = record {
  row = a.row;
  low = subst (λ (z : Shape). a.row < rows (kind_in z.starts o) (class_of t)) (sym shape) a.low;
  is = a.is ∙ ap (λ (z : Shape). value_at (kind_in z.starts o) (class_of t) a.row) (sym shape);
  odd = (λ d. slice_index (words d).table (version_at (kind_in (shape d).starts o) (class_of t) a.row) % 2) ∙ a.odd;
}

-- ---- where a value lies

module _ (k : Shape) (o : ℕ) (table : Table) (word : ℕ) (v : View) (shape : v.shape ≡ k) (writes : WritesTable k o table v) (open_ : IsOpenValue v o (table_id table) word) where
  abbrev t : ℕ
  t = table_id table

  abbrev kd : Kind
  kd = kind_in v.shape.starts o

  pub value_inside : word + 1 < size (class_of (table_id table))
  value_inside = let l = value_low kd (class_of t) open_.row (table_class k table writes.table_in) open_.low in let at = open_.is in omega (arith, l, at)

  pub word_inside : word < size (class_of (table_id table))
  word_inside = let l = value_inside in omega (arith, l)

  pub raw_long : length (held_words o v).table ≡ size (class_of (table_id table))
  raw_long =
      let box : ℕ → ℕ → ℕ = λ b i. known_box_word v.shape b i v.log in
      sym (ap (λ (r : ℕ). length (unboxed_table box kd r (held_words o v).table)) writes.root ∙ rows_long box kd (class_of t) (rows kd (class_of t)) (held_words o v).table)
      ∙ table_is_long v o t writes.root

  pub value_long : word + 1 < length (held_words o v).table
  value_long = subst (λ (n : ℕ). word + 1 < n) (sym raw_long) value_inside

  -- the box that the value names
  pub value_box : ∥ IsReachable v ∥₁ → slice_index (held_words o v).table word ≡ 4 → IsBoxName k (slice_index (held_words o v).table (word + 1))
  value_box possible four =
      let at = open_.is in
      let next : word + 1 ≡ suc (value_at kd (class_of t) open_.row) = omega (arith, at) in
      let low : o < container_count v.shape = subst (λ (z : Shape). o < container_count z) (sym shape) writes.container in
      let name = named_is_box v o t open_.row possible low writes.locked writes.root open_.low (ap (λ (i : ℕ). slice_index (held_words o v).table i) (sym at) ∙ four) in
      subst (λ (z : Shape × ℕ). IsBoxName z.0 (slice_index (held_words o v).table z.1)) (λ d. (shape d, sym next d)) name

  pub value_known : ∥ IsReachable v ∥₁ → slice_index (held_words o v).table word ≡ 4 → IsKnownBox v (slice_index (held_words o v).table (word + 1))
  value_known possible four =
      let at = open_.is in
      let next : word + 1 ≡ suc (value_at kd (class_of t) open_.row) = omega (arith, at) in
      let low : o < container_count v.shape = subst (λ (z : Shape). o < container_count z) (sym shape) writes.container in
      let stands = ap (λ (i : ℕ). slice_index (held_words o v).table i) (sym at) ∙ four in
      let name = named_is_box v o t open_.row possible low writes.locked writes.root open_.low stands in
      let known = named_is_known v o t open_.row possible low writes.locked writes.root open_.low stands in
      subst (λ (i : ℕ). IsKnownBox v (slice_index (held_words o v).table i)) (sym next) (name, known.0, known.1)

  -- a value in place reads as it stands
  pub kind_stands : slice_index (held_words o v).table word ≢ 4 → slice_index (held_unboxed o v).table word ≡ slice_index (held_words o v).table word
  kind_stands ne =
      let T = (held_words o v).table in
      (word_reads v o t word writes.root open_ value_long).0 ∙ (reads_plain v (slice_index T word) (slice_index T (word + 1)) ne).0

  pub reads_now : (slice_index (held_unboxed o v).table word ≡ kind_read v (slice_index (held_words o v).table word) (slice_index (held_words o v).table (word + 1))) × (slice_index (held_unboxed o v).table (word + 1) ≡ payload_read v (slice_index (held_words o v).table word) (slice_index (held_words o v).table (word + 1)))
  reads_now = word_reads v o t word writes.root open_ value_long

-- ---- what words name

pub plain_names : (b kind payload : ℕ) → kind ≢ 4 → names_box b kind payload ≡ 0
plain_names b kind payload ne = miss kind 4 (cond (eqb payload b) 1 0) 0 ne

pub boxed_names : (b kind payload : ℕ) → kind ≡ 4 → names_box b kind payload ≡ cond (eqb payload b) 1 0
boxed_names b kind payload four = here kind 4 (cond (eqb payload b) 1 0) 0 four

pub other_way : (b c : ℕ) → ◌≡◌ {A = ℕ} (cond (eqb b c) 1 0) (cond (eqb c b) 1 0)
other_way b c = dite (ℕ_discrete b c)
    (λ (e : b ≡ c). here b c 1 0 e ∙ sym (here c b 1 0 (sym e)))
    (λ ne. miss b c 1 0 ne ∙ sym (miss c b 1 0 (λ e. ne (sym e))))

-- ---- the words after a put

pub put_kind : (x : ContainerWords) (word kind payload : ℕ) → word + 1 < length x.table → slice_index (with_table (with_table x word kind) (word + 1) payload).table word ≡ kind
put_kind x word kind payload long =
    get_or-set_other (set x.table word kind) (word + 1) word payload 0 (λ e. absurd (omega (arith, e))) ∙ get_or-set_same x.table word kind 0 (let l : word < length x.table = omega (arith, long) in l)

pub kept_kind : (x : ContainerWords) (word payload : ℕ) → slice_index (with_table x (word + 1) payload).table word ≡ slice_index x.table word
kept_kind x word payload = get_or-set_other x.table (word + 1) word payload 0 (λ e. absurd (omega (arith, e)))

-- a step with boxes leaves the words
pub boxed_held : (v w : View) (o : ℕ) → OnlyBoxed v w → held_words o w ≡ held_words o v
boxed_held v w o a = ap (λ (k : Shape). picture k o (mem k w.log)) a.work.pass.shape ∙ ap (λ (ws : List ℕ). picture v.shape o ws) a.words

kept_payload : (x : ContainerWords) (word payload : ℕ) → word + 1 < length x.table → slice_index (with_table x (word + 1) payload).table (word + 1) ≡ payload
kept_payload x word payload long = get_or-set_same x.table (word + 1) payload 0 long

put_payload : (x : ContainerWords) (word kind payload : ℕ) → word + 1 < length x.table → slice_index (with_table (with_table x word kind) (word + 1) payload).table (word + 1) ≡ payload
put_payload x word kind payload long = kept_payload (with_table x word kind) word payload (let e = length-set x.table word kind in omega (arith, long, e))

-- ---- references

-- as many as before, in one shape
pub held_same : (k : Shape) (v w : View) → v.shape ≡ k → w.shape ≡ k → SameReferences v w → (b : ℕ) → references_held k b w.log ≡ references_held k b v.log
held_same k v w first then_ same b = ap (λ (z : Shape). references_held z b w.log) (sym then_) ∙ (same b ∙ ap (λ (z : Shape). references_held z b v.log) first)

-- the pass holds one for a box that these words name
pub named_own : (k : Shape) (v : View) (kind payload b : ℕ) → v.shape ≡ k → HasReferenceFor v kind payload → names_box b kind payload ≤ references_held k b v.log
named_own k v kind payload b shape own =
    dite (ℕ_discrete kind 4)
    (λ four. dite (ℕ_discrete payload b)
    (λ (e : payload ≡ b).
    let one : names_box b kind payload ≡ 1 = boxed_names b kind payload four ∙ here payload b 1 0 e in
    let some_ : 0 < references_held k b v.log = subst (λ (z : Shape × ℕ). 0 < references_held z.0 z.1 v.log) (λ d. (shape d, e d)) (own four).0 in
    omega (arith, one, some_))
    (λ ne. let none : names_box b kind payload ≡ 0 = boxed_names b kind payload four ∙ miss payload b 1 0 ne in omega (arith, none)))
    (λ ne. let none = plain_names b kind payload ne in omega (arith, none))

-- words that name no box need none
pub plain_refs : (k : Shape) (v w : View) (kind payload : ℕ) → v.shape ≡ k → w.shape ≡ k → kind ≢ 4 → ((b : ℕ) → references_held k b w.log + names_box b kind payload ≡ references_held k b v.log) → SameReferences v w
plain_refs k v w kind payload first then_ ne moved b =
    let none = plain_names b kind payload ne in
    let m = moved b in
    let e : references_held k b w.log ≡ references_held k b v.log = omega (arith, m, none) in
    ap (λ (z : Shape). references_held z b w.log) then_ ∙ (e ∙ sym (ap (λ (z : Shape). references_held z b v.log) first))

-- and read as they stand
pub plain_words : (v : View) (x y : ContainerWords) (word kind payload : ℕ) → kind ≢ 4 → y ≡ with_table (with_table x word (kind_read v kind payload)) (word + 1) (payload_read v kind payload) → y ≡ with_table (with_table x word kind) (word + 1) payload
plain_words v x y word kind payload ne is = let reads = reads_plain v kind payload ne in is ∙ (λ d. with_table (with_table x word (reads.0 d)) (word + 1) (reads.1 d))

-- ---- a put over a value, in its three ways: the pass knew v, after its loads r, and after the put p

module _ (k : Shape) (o : ℕ) (table : Table) (word kind payload : ℕ) (v r p : View) (shape : v.shape ≡ k) (writes : WritesTable k o table v) (open_ : IsOpenValue v o (table_id table) word) (l : OnlyLoaded v r) (own : HasReferenceFor v kind payload) (reads : (kind_read r kind payload ≡ kind_read v kind payload) × (payload_read r kind payload ≡ payload_read v kind payload)) (only : OnlyPut o r p) where
  abbrev T : List ℕ
  T = (held_words o r).table

  abbrev changed : ContainerWords → ContainerWords
  changed x = with_table (with_table x word kind) (word + 1) payload

  abbrev read_so : ContainerWords → ContainerWords
  read_so x = with_table (with_table x word (kind_read v kind payload)) (word + 1) (payload_read v kind payload)

  pub here_shape : r.shape ≡ k
  here_shape = l.work.pass.shape ∙ shape

  pub here_writes : WritesTable k o table r
  here_writes = table_loaded k o table v r shape writes l

  pub here_open : IsOpenValue r o (table_id table) word
  here_open = open_as v r o (table_id table) word l.work.pass.shape (still_unboxed k o table v r shape writes l) open_

  there_shape : p.shape ≡ k
  there_shape = only.work.pass.shape ∙ here_shape

  long_here : word + 1 < length (held_words o r).table
  long_here = value_long k o table word r here_shape here_writes here_open

  same_here : (b : ℕ) → references_held k b r.log ≡ references_held k b v.log
  same_here = held_same k v r shape here_shape l.boxes.references

  few_here : (b : ℕ) → references_held k b v.log < 2 ^ 31
  few_here b = subst (λ (z : Shape). references_held z b v.log < 2 ^ 31) shape (writes.few b)

  pub over_only : OnlyWritten o v p
  over_only = put_written o v p (put_then v r p o (loaded_put v r o l) only)

  -- the payload alone
  module _ (ne : kind ≢ 4) (is : kind ≡ slice_index T word) (held : held_words o p ≡ with_table (held_words o r) (word + 1) payload) where
    pub same_writes : SameReferences r p → WritesTable k o table p
    same_writes same = table_on k o table r p here_shape here_writes only.work same only.made (ap root_in held)

    pub same_raw : (slice_index (held_words o p).table word ≡ kind) × (slice_index (held_words o p).table (word + 1) ≡ payload)
    same_raw = (
      ap (λ (x : ContainerWords). slice_index x.table word) held ∙ (kept_kind (held_words o r) word payload ∙ sym is),
      ap (λ (x : ContainerWords). slice_index x.table (word + 1)) held ∙ kept_payload (held_words o r) word payload long_here,
    )

    pub same_stands : StandsBut o word v p
    same_stands at first second =
        ap (λ (x : ContainerWords). slice_index x.table at) held
        ∙ (get_or-set_other T (word + 1) at payload 0 (λ e. second (omega (arith, e)))
        ∙ ap (λ (x : ContainerWords). slice_index x.table at) (loaded_held v r o l))

    pub same_refs : SameReferences r p → (b : ℕ) → references_held k b p.log + names_box b kind payload ≡ references_held k b v.log
    same_refs same b =
        let none = plain_names b kind payload ne in
        let there = held_same k r p here_shape there_shape same b in
        let now = same_here b in
        omega (arith, none, there, now)

    pub same_words : held_unboxed o p ≡ with_table (held_unboxed o r) (word + 1) payload → held_unboxed o p ≡ read_so (held_unboxed o v)
    same_words put =
        let plain = reads_plain v kind payload ne in
        put
        ∙ (kind_again (held_unboxed o r) word kind payload (is ∙ sym (kind_stands k o table word r here_shape here_writes here_open (λ e. ne (is ∙ e))))
        ∙ (ap changed (still_unboxed k o table v r shape writes l)
        ∙ (λ d. with_table (with_table (held_unboxed o v) word (sym plain.0 d)) (word + 1) (sym plain.1 d))))

  -- both words
  module _ (held : held_words o p ≡ changed (held_words o r)) (put : held_unboxed o p ≡ with_table (with_table (held_unboxed o r) word (kind_read r kind payload)) (word + 1) (payload_read r kind payload)) (references : (b : ℕ) → references_held k b p.log + names_box b kind payload ≡ references_held k b r.log + names_box b (slice_index T word) (slice_index T (word + 1))) where
    pub both_raw : (slice_index (held_words o p).table word ≡ kind) × (slice_index (held_words o p).table (word + 1) ≡ payload)
    both_raw = (
      ap (λ (x : ContainerWords). slice_index x.table word) held ∙ put_kind (held_words o r) word kind payload long_here,
      ap (λ (x : ContainerWords). slice_index x.table (word + 1)) held ∙ put_payload (held_words o r) word kind payload long_here,
    )

    pub both_stands : StandsBut o word v p
    both_stands at first second =
        ap (λ (x : ContainerWords). slice_index x.table at) held
        ∙ (get_or-set_other (set T word kind) (word + 1) at payload 0 (λ e. second (omega (arith, e)))
        ∙ (get_or-set_other T word at kind 0 (λ e. first (omega (arith, e)))
        ∙ ap (λ (x : ContainerWords). slice_index x.table at) (loaded_held v r o l)))

    pub both_words : held_unboxed o p ≡ read_so (held_unboxed o v)
    both_words = put ∙ (λ d. with_table (with_table (still_unboxed k o table v r shape writes l d) word (reads.0 d)) (word + 1) (reads.1 d))

    -- over a value in place
    module _ (ne : slice_index T word ≢ 4) where
      pub both_refs : (b : ℕ) → references_held k b p.log + names_box b kind payload ≡ references_held k b v.log
      both_refs b =
          let moved = references b in
          let nor = plain_names b (slice_index T word) (slice_index T (word + 1)) ne in
          let now = same_here b in
          omega (arith, moved, nor, now)

      pub both_writes : WritesTable k o table p
      both_writes =
          let few : HoldsFew p = λ b.
          let low : references_held k b p.log < 2 ^ 31 = let r = both_refs b in let f = few_here b in omega (arith, r, f) in
          subst (λ (z : Shape). references_held z b p.log < 2 ^ 31) (sym there_shape) low in
          table_done k o table r p here_shape here_writes only.work ((stays_settled_same r p only.made).settled here_writes.settled) few (ap root_in held)

    -- over one that stands in the box c
    module _ (c : ℕ) (four : slice_index T word ≡ 4) (names : c ≡ slice_index T (word + 1)) where
      named_then : (b : ℕ) → names_box b (slice_index T word) (slice_index T (word + 1)) ≡ cond (eqb b c) 1 0
      named_then b = boxed_names b (slice_index T word) (slice_index T (word + 1)) four ∙ (ap (λ (n : ℕ). cond (eqb n b) 1 0) (sym names) ∙ other_way c b)

      pub box_held : 0 < references_held k c p.log
      box_held =
          let moved = references c in
          let one = named_then c in
          let self_ : ◌≡◌ {A = ℕ} (cond (eqb c c) 1 0) 1 = here c c 1 0 refl in
          let mine = named_own k v kind payload c shape own in
          let now = same_here c in
          omega (arith, moved, one, self_, mine, now)

      pub box_settled : IsSettled p.log
      box_settled = (stays_settled_same r p only.made).settled here_writes.settled

      pub box_is : ∥ IsReachable r ∥₁ → IsBoxName k c
      box_is possible = subst (λ (b : ℕ). IsBoxName k b) (sym names) (value_box k o table word r here_shape here_writes here_open possible four)

      -- after the drop of the reference the pass knew w
      module _ (w : View) (boxed : OnlyBoxed p w) (settled : IsSettled w.log) (places : TakesNoPlace p w) (dropped : (b : ℕ) → references_held k b p.log ≡ references_held k b w.log + cond (eqb b c) 1 0) where
        end_shape : w.shape ≡ k
        end_shape = boxed.work.pass.shape ∙ there_shape

        pub drop_refs : (b : ℕ) → references_held k b w.log + names_box b kind payload ≡ references_held k b v.log
        drop_refs b =
            let moved = references b in
            let one = named_then b in
            let less = dropped b in
            let now = same_here b in
            omega (arith, moved, one, less, now)

        pub drop_only : OnlyWritten o v w
        drop_only = written_then o v p w over_only (boxed_written o p w boxed (record { settled = λ s. settled; places = places }) (λ b.
            let less = dropped b in
            let now : references_held w.shape b w.log ≡ references_held k b w.log = ap (λ (z : Shape). references_held z b w.log) end_shape in
            let was : references_held p.shape b p.log ≡ references_held k b p.log = ap (λ (z : Shape). references_held z b p.log) there_shape in
            omega (arith, less, now, was)))

        pub drop_writes : WritesTable k o table w
        drop_writes =
            let few : HoldsFew w = λ b.
            let low : references_held k b w.log < 2 ^ 31 = let r = drop_refs b in let f = few_here b in omega (arith, r, f) in
            subst (λ (z : Shape). references_held z b w.log < 2 ^ 31) (sym end_shape) low in
            table_done k o table v w shape writes drop_only.work settled few (ap root_in (boxed_held p w o boxed) ∙ (ap root_in held ∙ ap root_in (loaded_held v r o l)))

        pub drop_raw : (slice_index (held_words o w).table word ≡ kind) × (slice_index (held_words o w).table (word + 1) ≡ payload)
        drop_raw =
            let same = boxed_held p w o boxed in
            (ap (λ (x : ContainerWords). slice_index x.table word) same ∙ both_raw.0, ap (λ (x : ContainerWords). slice_index x.table (word + 1)) same ∙ both_raw.1)

        pub drop_stands : StandsBut o word v w
        drop_stands at first second = ap (λ (x : ContainerWords). slice_index x.table at) (boxed_held p w o boxed) ∙ both_stands at first second

        pub drop_words : held_unboxed o w ≡ read_so (held_unboxed o v)
        drop_words =
            boxed.unboxed o (subst (λ (z : Shape). o < container_count z) (sym there_shape) writes.container) (only.work.pass.locks o ∙ here_writes.locked)
            ∙ both_words
