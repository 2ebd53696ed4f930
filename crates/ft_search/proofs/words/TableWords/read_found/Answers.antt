use Rattle.std.proofs.Common.{Some, ◌≡◌, ℕ, ◌<◌, ◌≤◌, inl, inr, List, [], ◌∷◌, ◌++◌, refl, sym, ap, ◌∙◌, subst, arith}
use Rattle.std.specs.Prelude.{slice_index}
use Rattle.ft_trace.specs.declared.Act.{Act}
use Rattle.ft_trace.specs.declared.Shape.{Shape}
use Rattle.ft_trace.specs.Addresses.{class_of, container_count, slots}
use Rattle.ft_trace.specs.ContainerStates.{kind_in}
use Rattle.ft_trace.specs.Holds.{held_words}
use Rattle.ft_trace.specs.Kinds.{rows, IsKeyed}
use Rattle.ft_trace.specs.Pictures.{entry_offset}
use Rattle.ft_bank.specs.BoxSteps.{kind_read, payload_read}
use Rattle.ft_bank.specs.declared.table.Table.{Table}
use Rattle.ft_bank.specs.Passes.{shape_of, view}
use Rattle.ft_bank.specs.Series.{DidAll}
use Rattle.ft_bank.specs.TableNames.{table_id}
use Rattle.ft_bank.specs.Whole.{OnlyLoaded}
use Rattle.ft_layout.specs.Tables.{entry_word}
use Rattle.ft_trace.specs.Addresses.{IsBoxName}
use Rattle.ft_keys.specs.declared.words.Access.TheVariants.{Entry}
use Rattle.ft_search.specs.Rounds.{kind_by}
use Rattle.ft_bank.proofs.TableAddresses.{class_is}
use Rattle.ft_search.specs.Boxed.{IsKnownBox}
use Rattle.ft_keys.specs.declared.search.Found.{Found}
use Rattle.ft_search.specs.Held.{ReadsEntry}
use Rattle.ft_search.specs.KeyLooks.{AreLooks}
use Rattle.ft_search.specs.SearchCosts.{index_reads}
use Rattle.ft_search.specs.TableWords.{access_act, known_words, read_words}
use Rattle.ft_search.proofs.Costing.{entry_none, reads_append}
use Rattle.ft_search.proofs.LoadedLooks.{looks_append, looks_did}
use Rattle.ft_search.proofs.Running.{did_trans, at_same}
use Rattle.ft_search.proofs.SearchedReads.{known_there, stands_boxed, stands_past, stands_plain, way_keyed, word_at}
use Rattle.ft_search.proofs.Unboxing.{reads_boxed}
use Rattle.ft_search.proofs.words.TableWords.read_found.Goals as goal
use Rattle.ft_search.proofs.words.TableWords.read_found.Goals.{After-entry-payload}

keyed_of : (c : After-entry-payload) → IsKeyed (kind_in (view c.args.self.now.pass.now).shape.starts c.args.self.now.o)
keyed_of c = subst IsKeyed (sym (ap (λ (k : Shape). kind_in k.starts c.args.self.now.o) c.requires.can.pass.1 ∙ c.requires.way)) (way_keyed c.args.way)

-- ---- the two loads

module _ (c : After-entry-payload) where
  abbrev first : Act
  first = access_act c.args.self.now.o (table_id c.args.self.now.table) (Entry c.in-At.place 4 c.entry-kind.result)

  abbrev second : Act
  second = access_act c.args.self.now.o (table_id c.args.self.now.table) (Entry c.in-At.place 5 c.entry-payload.result)

  abbrev two : List Act
  two = second ∷ (first ∷ [])

  two_did : DidAll two c.args.self.now.pass.now c.entry-payload.new.self.pass.now
  two_did =
      let s0 = c.args.self.now in
      let s1 = c.entry-kind.new.self in
      let s2 = c.entry-payload.new.self in
      let again : DidAll (second ∷ []) s1.pass.now s2.pass.now = at_same (λ _ o n. DidAll (access_act o n (Entry c.in-At.place 5 c.entry-payload.result) ∷ []) s1.pass.now s2.pass.now) s0 s1 c.entry-kind.ensures.gave.same c.entry-payload.ensures.gave.did in
      did_trans (second ∷ []) (first ∷ []) s0.pass.now s1.pass.now s2.pass.now c.entry-kind.ensures.gave.did again

  two_none : (t : ℕ) → index_reads t two ≡ 0
  two_none t =
      let s0 = c.args.self.now in
      let one = entry_none s0.o (table_id s0.table) c.in-At.place 4 c.entry-kind.result t in
      let more = entry_none s0.o (table_id s0.table) c.in-At.place 5 c.entry-payload.result t in
      omega (arith, one, more)

  two_looks : (part : List Act) × AreLooks part × DidAll part c.args.self.now.pass.now c.entry-payload.new.self.pass.now × ((t : ℕ) → index_reads t part ≡ 0)
  two_looks = (two, tt, two_did, two_none)

  two_loaded : OnlyLoaded (view c.args.self.now.pass.now) (view c.entry-payload.new.self.pass.now)
  two_loaded = looks_did two c.args.self.now.pass.now c.entry-payload.new.self.pass.now tt two_did

  -- what the words say
  kind_is : c.entry-kind.result ≡ slice_index (held_words c.args.self.now.o (view c.args.self.now.pass.now)).table (entry_offset (slots (class_of (table_id c.args.self.now.table))) c.in-At.place 4)
  kind_is =
      let s0 = c.args.self.now in
      let v = view s0.pass.now in
      c.entry-kind.ensures.gave.tells c.requires.knows
      ∙ word_at v s0.o (shape_of s0.bank.now) s0.table s0.mask c.in-At.place (keyed_of c) c.requires.can.table c.requires.can.mask c.requires.knows.1 (held_words s0.o v).table 4

  payload_is : c.entry-payload.result ≡ slice_index (held_words c.args.self.now.o (view c.args.self.now.pass.now)).table (entry_offset (slots (class_of (table_id c.args.self.now.table))) c.in-At.place 5)
  payload_is =
      let s0 = c.args.self.now in
      let s1 = c.entry-kind.new.self in
      let v = view s0.pass.now in
      let left = c.entry-kind.ensures.gave.left c.requires.knows in
      let told : c.entry-payload.result ≡ entry_word s1.mask (known_words s1) c.in-At.place 5 = c.entry-payload.ensures.gave.tells left.0 in
      told
      ∙ ((λ d. entry_word (c.entry-kind.ensures.gave.same.mask d) (left.1 d) c.in-At.place 5)
      ∙ word_at v s0.o (shape_of s0.bank.now) s0.table s0.mask c.in-At.place (keyed_of c) c.requires.can.table c.requires.can.mask c.requires.knows.1 (held_words s0.o v).table 5)

-- ---- a value in place

pub returns-then-kind-ne-BOX_KIND-clause-looks : goal.returns-then-kind-ne-BOX_KIND-clause-looks
returns-then-kind-ne-BOX_KIND-clause-looks c = two_looks (goal.at.returns-then-kind-ne-BOX_KIND-clause-looks c).After-entry-payload

pub returns-then-kind-ne-BOX_KIND-clause-reads : goal.returns-then-kind-ne-BOX_KIND-clause-reads
returns-then-kind-ne-BOX_KIND-clause-reads c =
    let d = (goal.at.returns-then-kind-ne-BOX_KIND-clause-reads c).After-entry-payload in
    let s0 = c.args.self.now in
    let kind = kind_is d in
    let r = stands_plain (view s0.pass.now) s0.o (shape_of s0.bank.now) s0.table s0.mask c.in-At.place (keyed_of d) c.requires.can.table c.requires.can.mask c.requires.knows.1 (λ z. c.if-kind-ne-BOX_KIND.true (kind ∙ z)) in
    subst (λ (f : Found). ReadsEntry s0.mask (read_words s0) f (Some (c.entry-kind.result, c.entry-payload.result))) (sym c.in-At.is) (kind ∙ r.0, payload_is d ∙ r.1)

-- ---- a place past the entries

pub returns-then-entries-place-clause-looks : goal.returns-then-entries-place-clause-looks
returns-then-entries-place-clause-looks c = two_looks (goal.at.returns-then-entries-place-clause-looks c).After-entry-payload

rows_are : (c : After-entry-payload) → (n : ℕ) → n ≡ rows (kind_by c.args.way) c.entry-payload.new.self.table.class → n ≡ rows (kind_in (view c.args.self.now.pass.now).shape.starts c.args.self.now.o) (class_of (table_id c.args.self.now.table))
rows_are c n is =
    let s0 = c.args.self.now in
    let kind : kind_in (view s0.pass.now).shape.starts s0.o ≡ kind_by c.args.way = ap (λ (k : Shape). kind_in k.starts s0.o) c.requires.can.pass.1 ∙ c.requires.way in
    let same : c.entry-payload.new.self.table ≡ s0.table = c.entry-payload.ensures.gave.same.table ∙ c.entry-kind.ensures.gave.same.table in
    is ∙ (ap (λ (t : Table). rows (kind_by c.args.way) t.class) same ∙ (λ d. rows (sym kind d) (sym (class_is s0.table c.requires.can.table.2) d)))

pub returns-then-entries-place-clause-reads : goal.returns-then-entries-place-clause-reads
returns-then-entries-place-clause-reads c =
    let d = (goal.at.returns-then-entries-place-clause-reads c).After-entry-payload in
    let s0 = c.args.self.now in
    let far = subst (λ (n : ℕ). n ≤ c.in-At.place) (rows_are d c.entries_of-entries.result c.entries_of-entries.ensures) c.if-entries-place.true in
    let r = stands_past (view s0.pass.now) s0.o (shape_of s0.bank.now) s0.table s0.mask c.in-At.place (keyed_of d) c.requires.can.table c.requires.can.mask c.requires.knows.1 far in
    subst (λ (f : Found). ReadsEntry s0.mask (read_words s0) f (Some (c.entry-kind.result, c.entry-payload.result))) (sym c.in-At.is) (kind_is d ∙ r.0, payload_is d ∙ r.1)

-- ---- a value in a box

pub read_value-requires-clause-known : goal.read_value-requires-clause-known
read_value-requires-clause-known c four =
    let d = (goal.at.read_value-requires-clause-known c).After-entry-payload in
    let s0 = c.args.self.now in
    let v = view s0.pass.now in
    let w = view c.entry-payload.new.self.pass.now in
    let here : s0.o < container_count v.shape = subst (λ (k : Shape). s0.o < container_count k) (sym c.requires.can.pass.1) c.requires.can.container in
    let low = subst (λ (n : ℕ). c.in-At.place < n) (rows_are d c.entries_of-entries.result c.entries_of-entries.ensures) c.if-entries-place.false in
    let known = known_there v s0.o (shape_of s0.bank.now) s0.table s0.mask c.in-At.place (keyed_of d) c.requires.can.table c.requires.can.mask c.requires.knows.1 low s0.pass.now.possible here c.requires.knows.0 (sym (kind_is d) ∙ four) in
    let l = two_loaded d in
    let named = subst (λ (b : ℕ). IsKnownBox v b) (sym (payload_is d)) known in
    let one = l.boxes.knows c.entry-payload.result 1 named.0 (inl refl) named.1 in
    let two = l.boxes.knows c.entry-payload.result 2 named.0 (inr refl) named.2 in
    (subst (λ (k : Shape). IsBoxName k c.entry-payload.result) (sym l.work.pass.shape) named.0, one.0, two.0)

pub returns-else-entries-place-clause-looks : goal.returns-else-entries-place-clause-looks
returns-else-entries-place-clause-looks c =
    let d = (goal.at.returns-else-entries-place-clause-looks c).After-entry-payload in
    let r = c.read_value.ensures.looks in
    let a = two_looks d in
    (r.0 ++ a.0, looks_append r.0 a.0 r.1 a.1, did_trans r.0 a.0 c.args.self.now.pass.now c.entry-payload.new.self.pass.now c.read_value.new.pass a.2 r.2, λ t. let sum = reads_append t r.0 a.0 in let x = r.3 t in let y = a.3 t in omega (arith, sum, x, y))

pub returns-else-entries-place-clause-reads : goal.returns-else-entries-place-clause-reads
returns-else-entries-place-clause-reads c =
    let d = (goal.at.returns-else-entries-place-clause-reads c).After-entry-payload in
    let s0 = c.args.self.now in
    let v = view s0.pass.now in
    let w = view c.entry-payload.new.self.pass.now in
    let low = subst (λ (n : ℕ). c.in-At.place < n) (rows_are d c.entries_of-entries.result c.entries_of-entries.ensures) c.if-entries-place.false in
    let r = stands_boxed v s0.o (shape_of s0.bank.now) s0.table s0.mask c.in-At.place (keyed_of d) c.requires.can.table c.requires.can.mask c.requires.knows.1 low in
    let l = two_loaded d in
    let here : s0.o < container_count v.shape = subst (λ (k : Shape). s0.o < container_count k) (sym c.requires.can.pass.1) c.requires.can.container in
    let known = known_there v s0.o (shape_of s0.bank.now) s0.table s0.mask c.in-At.place (keyed_of d) c.requires.can.table c.requires.can.mask c.requires.knows.1 low s0.pass.now.possible here c.requires.knows.0 (sym (kind_is d) ∙ c.if-kind-ne-BOX_KIND.false) in
    let named = subst (λ (b : ℕ). IsKnownBox v b) (sym (payload_is d)) known in
    let one = (l.boxes.knows c.entry-payload.result 1 named.0 (inl refl) named.1).1 in
    let two = (l.boxes.knows c.entry-payload.result 2 named.0 (inr refl) named.2).1 in
    let four = c.if-kind-ne-BOX_KIND.false in
    let kind = c.read_value.ensures.kind ∙ ((reads_boxed w c.entry-kind.result c.entry-payload.result four).0 ∙ (one ∙ sym (reads_boxed v c.entry-kind.result c.entry-payload.result four).0)) in
    let payload = c.read_value.ensures.payload ∙ ((reads_boxed w c.entry-kind.result c.entry-payload.result four).1 ∙ (two ∙ sym (reads_boxed v c.entry-kind.result c.entry-payload.result four).1)) in
    subst (λ (f : Found). ReadsEntry s0.mask (read_words s0) f (Some c.read_value.result)) (sym c.in-At.is) (kind ∙ ((λ z. kind_read v (kind_is d z) (payload_is d z)) ∙ r.0), payload ∙ ((λ z. payload_read v (kind_is d z) (payload_is d z)) ∙ r.1))
