-- That a list with a table can be cleared, step by step, from whatever a pass with its lock knows.
use Rattle.std.proofs.Common.{◌≡◌, ◌≢◌, ℕ, zero, suc, ◌+◌, ◌*◌, ◌^◌, ◌<◌, ◌≤◌, true, false, List, [], ◌∷◌, length, refl, sym, ap, ◌∙◌, subst, inl, inr, arith, length-set, get_or-set_same, get_or-set_other}
use Rattle.std.specs.Prelude.{slice_index, slice_index_or, slice_set, replicate}
use Rattle.ft_model.specs.declared.call.Call.{Call}
use Rattle.ft_model.specs.declared.call.Call.TheVariants as call
use Rattle.ft_model.specs.declared.call.ListCall.TheVariants as list
use Rattle.ft_model.specs.declared.content.Content.{Content}
use Rattle.ft_model.specs.declared.content.Content.TheVariants as content
use Rattle.ft_model.specs.declared.data.Value.{Value}
use Rattle.ft_model.specs.declared.reply.Reply.TheVariants as reply
use Rattle.ft_model.specs.declared.script.Kind.TheVariants as kind
use Rattle.ft_model.specs.TableUses.{no_table, stored_newest}
use Rattle.ft_layout.specs.Containers.{IsBlock, StandsAs}
use Rattle.ft_trace.specs.declared.Shape.{Shape}
use Rattle.ft_trace.specs.declared.Snap.{Snap}
use Rattle.ft_trace.specs.declared.View.{View}
use Rattle.ft_trace.specs.declared.Act.{Act}
use Rattle.ft_trace.specs.declared.Act.TheVariants.{StartWrite, PutRoot, PutBlock, Commit, StopWrite, Unlock}
use Rattle.ft_trace.specs.Addresses.{Word, container_count, counter, version_of, lock_of, block, class_of, at, extent, Inside}
use Rattle.ft_trace.specs.Acts.{place, Reports, has_lock, is_writing, has_committed, used, owes, mem, view_after}
use Rattle.ft_trace.specs.ContainerStates.{ContainerState, kind_in}
use Rattle.ft_trace.specs.Pictures.{root_of, inner, ContainerWords, root_in, picture, Represents}
use Rattle.ft_trace.specs.Kinds.{rows, version_at}
use Rattle.ft_trace.specs.OddVersions.{Shut}
use Rattle.ft_trace.specs.Holds.{held_words, held_unboxed, known_state}
use Rattle.ft_trace.specs.Boxes.{known_box_word, references_held, place_use, use_taken}
use Rattle.ft_trace.specs.Unboxed.{unboxed}
use Rattle.ft_trace.proofs.PlainPuts.{FewReferences, few_at_first, zero_refs}
use Rattle.ft_trace.specs.Traces.{did, run, word, history, snap, May, Valid, IsReachable, Sure, IsAwake}
use Rattle.ft_trace.proofs.Sizes.{set_at}
use Rattle.ft_trace.proofs.Cases.{hit}
use Rattle.ft_trace.proofs.Addresses.{at_low, at_apart}
use Rattle.ft_trace.proofs.Pieces.{block_zero, block_at}
use Rattle.ft_trace.proofs.Evens.{holder_shut}
use Rattle.ft_trace.proofs.Images.{imaged}
use Rattle.ft_trace.proofs.NoWrap.{counter_room, version_room}
use Rattle.ft_trace.proofs.Held.{content_known, root_known, table_known, held_stands, stop_sure}
use Rattle.ft_trace.proofs.Untouched.{as_many, there_is}
use Rattle.std.specs.Prelude.{option_map, Some}
use Rattle.ft_model.specs.Worlds.{kind_of, no_hands, IsDeclared}
use Rattle.ft_trace.proofs.NextActions.{next_possible}
use Rattle.ft_trace.proofs.Naming.{one_locked}
use Rattle.ft_trace.proofs.Standing.{empty_stands}

-- one more action with a snapshot
pub snap_possible : (v : View) → IsAwake v → IsReachable v → (act : ℕ → Snap → Act) (x : Word) → ((n : ℕ) (s : Snap) → place (act n s) ≡ x) → ((n : ℕ) (s : Snap) → Reports (act n s) n) → Sure v (λ es. May v.shape (run v.shape es) (history es) v (act (word v.shape es x) (snap (run v.shape es) (history es)))) → (n : ℕ) × (s : Snap) × IsReachable (view_after (act n s) v)
snap_possible v live p act x is tells may =
    let k = v.shape in
    let es = p.0 in
    let n = word k es x in
    let s = snap (run k es) (history es) in
    let a = act n s in
    let found : Reports a (word k es (place a)) = subst (λ (z : Word). Reports a (word k es z)) (sym (is n s)) (tells n s) in
    (n, s, (did p.1 v a ∷ es, p.1, ((p.2.0, (p.2.1, live.0, found, may es p.1 p.2, live.1)), set_at (run k es).views p.1 v (view_after a v) p.2.1)))

-- two words of the bank
other_word : (k : Shape) (ws : List ℕ) (x y : Word) (z : ℕ) → Inside k x → Inside k y → y ≢ x → slice_index (slice_set ws (at k x) z) (at k y) ≡ slice_index ws (at k y)
other_word k ws x y z a b ne = get_or-set_other ws (at k x) (at k y) z 0 (λ e. ne (at_apart k y x b a e))

one_word : (o i j : ℕ) → block o i ≡ block o j → i ≡ j
one_word o i j e = cc

-- what is put where nothing else is reported, is there in any case
put_default : {A : Type 0} (l : List A) (i : ℕ) (d : A) → slice_index_or (slice_set l i d) i d ≡ d
put_default [] i d = refl
put_default (x ∷ xs) zero d = refl
put_default (x ∷ xs) (suc i) d = put_default xs i d

-- who has the lock and does not write knows a table none of whose versions is odd
pub held_shut : (v : View) (o q : ℕ) → o < container_count v.shape → IsReachable v → has_lock o v.log ≡ true → is_writing o v.log ≡ false → root_in (held_words o v) ≡ suc q → Shut (version_at (kind_in v.shape.starts o) (class_of q)) (rows (kind_in v.shape.starts o) (class_of q)) (held_words o v).table
held_shut v o q low p mine quiet names =
    let w = table_known v o low q mine names p.0 p.1 p.2 in
    subst (Shut (version_at (kind_in v.shape.starts o) (class_of q)) (rows (kind_in v.shape.starts o) (class_of q))) (sym w.0) (holder_shut v.shape p.0 p.2.0 o low p.1 v p.2.1 mine quiet q w.1)

-- start, root 0, length 0, commit, stop, unlock
module _ (v : View) (o : ℕ) (values : List Value) (live : IsAwake v) (possible : IsReachable v) (small : v.shape.passes * v.shape.calls < 2 ^ 46) (low : o < container_count v.shape) (mine : has_lock o v.log ≡ true) (quiet : (p : ℕ) → is_writing p v.log ≡ false) (spare : used v.log ≡ false) (none : owes v.log ≡ 0) (room : 0 < v.left) (few_references : (b : ℕ) → references_held v.shape b v.log < 2 ^ 31) (all_stored : (b : ℕ) → place_use b v.log ≢ use_taken) (is_list : (known_state o v).content ≡ content.List values) where
  abbrev k : Shape
  k = v.shape

  abbrev old : ℕ
  old = root_in (held_words o v)

  abbrev clears : Call
  clears = call.List o list.Clear

  version_up : (u : View) → u.shape ≡ k → Sure u (λ es. word k es (version_of o) + 1 < 2 ^ 64)
  version_up u is es id knows = let r = version_room k es (subst (λ (z : Shape). Valid z es) is knows.0) o low in omega (arith, r, small)

  abbrev c1 : ℕ → View
  c1 n = view_after (StartWrite o n) v

  abbrev c2 : ℕ → View
  c2 n = view_after (PutRoot o 0 old) (c1 n)

  abbrev c3 : ℕ → View
  c3 n = view_after (PutBlock o 1 0) (c2 n)

  abbrev c4 : ℕ → ℕ → Snap → View
  c4 n m s = view_after (Commit clears reply.Done m s) (c3 n)

  abbrev c5 : ℕ → ℕ → Snap → ℕ → View
  c5 n m s f = view_after (StopWrite o f) (c4 n m s)

  odd : is_writing o (c1 0).log ≡ true
  odd = hit o true (is_writing o v.log)

  not_yet : has_committed o (c1 0).log ≡ false
  not_yet = hit o false (has_committed o v.log)

  -- the block that is known at first is that of a list
  head : IsBlock (held_words o v).block (known_state o v).table.class (length values) 0 0
  head = subst (λ (z : Content). StandsAs k.texts (held_words o v).block (0 ∷ 0 ∷ (held_unboxed o v).table) (known_state o v).table z → IsBlock (held_words o v).block (known_state o v).table.class (length values) 0 0) (sym is_list) (λ s. s.0.head) (held_stands v o low possible mine (quiet o))

  abbrev ws : List ℕ
  ws = mem k v.log

  abbrev ys : List ℕ
  ys = slice_set (slice_set ws (at k (block o 0)) 0) (at k (block o 1)) 0

  long : length ws ≡ extent k
  long = (imaged k possible.0 possible.2.0 possible.1 v possible.2.1).wide (inl (o, mine))

  few_first : FewReferences k o v.log
  few_first = few_at_first k possible.0 possible.2.0 possible.1 v possible.2.1 o low mine few_references

  in_block : (i : ℕ) → i < 6 → Inside k (block o i)
  in_block i less = (low, less)

  -- a word that is not put
  else : (i : ℕ) → 2 ≤ i → i < 6 → slice_index (held_words o v).block i ≡ 0 → slice_index ys (at k (block o i)) ≡ 0
  else i up less zero_is =
      other_word k (slice_set ws (at k (block o 0)) 0) (block o 1) (block o i) 0 (in_block 1 (omega arith)) (in_block i less) (λ e. let z = one_word o i 1 e in omega (arith, z, up))
      ∙ (other_word k ws (block o 0) (block o i) 0 (in_block 0 (omega arith)) (in_block i less) (λ e. let z = one_word o i 0 e in omega (arith, z, up))
      ∙ (sym (block_at k o ws i less) ∙ zero_is))

  zeros : (i : ℕ) → i < 6 → slice_index ys (at k (block o i)) ≡ 0
  zeros zero less =
      let l = at_low k (block o 0) (in_block 0 (omega arith)) in
      other_word k (slice_set ws (at k (block o 0)) 0) (block o 1) (block o 0) 0 (in_block 1 (omega arith)) (in_block 0 (omega arith)) (λ e. let z = one_word o 0 1 e in omega (arith, z))
      ∙ get_or-set_same ws (at k (block o 0)) 0 0 (omega (arith, l, long))
  zeros (suc zero) less =
      let l = at_low k (block o 1) (in_block 1 (omega arith)) in
      let long1 : length (slice_set ws (at k (block o 0)) 0) ≡ extent k = length-set ws (at k (block o 0)) 0 ∙ long in
      get_or-set_same (slice_set ws (at k (block o 0)) 0) (at k (block o 1)) 0 0 (omega (arith, l, long1))
  zeros (suc (suc zero)) less = else 2 (omega arith) (omega arith) head.fill_is
  zeros (suc (suc (suc zero))) less = else 3 (omega arith) (omega arith) head.next_is
  zeros (suc (suc (suc (suc zero)))) less = else 4 (omega arith) (omega arith) head.spare.0
  zeros (suc (suc (suc (suc (suc zero))))) less = else 5 (omega arith) (omega arith) head.spare.1
  zeros (suc (suc (suc (suc (suc (suc i)))))) less = absurd (omega arith)

  shown : picture k o ys ≡ record { block = replicate 6 0; table = [] }
  shown =
      let b = block_zero k o ys zeros in
      let r : root_of k o ys ≡ 0 = zeros 0 (omega arith) in
      λ d. record { block = b d; table = inner k (r d) ys }

  -- and so it reads
  shown_read : unboxed (λ b i. known_box_word k b i v.log) (kind_in k.starts o) (picture k o ys) ≡ record { block = replicate 6 0; table = [] }
  shown_read = ap (unboxed (λ b i. known_box_word k b i v.log) (kind_in k.starts o)) shown

  root_now : root_in (picture k o ys) ≡ 0
  root_now = ap root_in shown

  after_clear : (n m : ℕ) (s : Snap) → known_state o (c4 n m s) ≡ record { content = content.List []; table = no_table }
  after_clear n m s =
      let c = put_default _ o (content.List []) in
      let t = put_default _ o no_table in
      λ d. record { content = c d; table = t d }

  -- the container is a list at every moment
  declared : (n : ℕ) → Sure (c3 n) (λ es. IsDeclared (stored_newest k.starts (history es)).world no_hands clears)
  declared n es id knows =
      let world = (stored_newest k.starts (history es)).world in
      let there = there_is world o (content.List []) (subst (λ (z : ℕ). o < z) (sym (as_many k.starts (history es))) low) in
      let is : slice_index_or world o (content.List []) ≡ content.List values = ap (λ (z : ContainerState). z.content) (sym (content_known (c3 n) o mine es id knows)) ∙ is_list in
      record { one = ap (option_map kind_of) (there ∙ ap Some is); both = tt; room = tt }

  step1 : (n : ℕ) × IsReachable (c1 n)
  step1 = next_possible v live possible (λ n. StartWrite o n) (version_of o) (λ n. refl) (λ n. refl) (λ es id knows. (low, mine, quiet, version_up v refl es id knows))

  step2 : (n : ℕ) → IsReachable (c1 n) → (n2 : ℕ) × IsReachable (c2 n)
  step2 n q =
      next_possible (c1 n) live q (λ _. PutRoot o 0 old) (block o 0) (λ _. refl) (λ _. tt)
      (λ es id knows. (
        low,
        odd,
        root_known (c1 n) o low mine es id knows,
        (λ t' (e : 0 ≡ suc t'). absurd (omega (arith, e))),
        (λ q names. subst (Shut (version_at (kind_in k.starts o) (class_of q)) (rows (kind_in k.starts o) (class_of q))) (table_known (c1 n) o low q mine names es id knows).0 (held_shut v o q low possible mine (quiet o) names)),
        (λ _. spare),
        (λ t' (e : 0 ≡ suc t'). absurd (omega (arith, e))),
        (λ _. not_yet),
        zero_refs k o old (c1 n).log low long few_first,
        (λ t' (e : 0 ≡ suc t'). absurd (omega (arith, e))),
        (λ b taken. absurd (all_stored b taken)),
      ))

  step3 : (n : ℕ) → IsReachable (c2 n) → (n2 : ℕ) × IsReachable (c3 n)
  step3 n q = next_possible (c2 n) live q (λ _. PutBlock o 1 0) (block o 1) (λ _. refl) (λ _. tt) (λ es id knows. (low, omega arith, odd, λ (e : 1 ≡ 0). absurd (omega (arith, e))))

  step4 : (n : ℕ) → IsReachable (c3 n) → (m : ℕ) × (s : Snap) × IsReachable (c4 n m s)
  step4 n q =
      snap_possible (c3 n) live q (λ m s. Commit clears reply.Done m s) counter (λ m s. refl) (λ m s. refl)
      (λ es id knows.
      let r = counter_room k es knows.0 in
      let root = root_known (c3 n) o low mine es id knows in (
        refl,
        odd,
        omega (arith, r, small),
        room,
        inr refl,
        (λ t names. absurd (omega (arith, names, root, root_now))),
        low,
        refl,
        (λ class e. absurd (omega (arith, e, none))),
        refl,
        (λ _. refl),
        declared n es id knows,
        tt,
        one_locked o (c3 n).log mine,
        ((λ b taken. absurd (all_stored b taken)), (λ b c taken. absurd (all_stored b taken))),
      ))

  step5 : (n m : ℕ) (s : Snap) → IsReachable (c4 n m s) → (f : ℕ) × IsReachable (c5 n m s f)
  step5 n m s q =
      next_possible (c4 n m s) live q (λ f. StopWrite o f) (version_of o) (λ f. refl) (λ f. refl)
      (λ es id knows.
      let root = root_known (c4 n m s) o low mine es id knows in (
        low,
        odd,
        refl,
        stop_sure (c4 n m s) o low mine (subst (λ (z : ContainerWords × ContainerState). Represents k.texts z.0 z.1) (λ d. (sym shown_read d, sym (after_clear n m s) d)) (empty_stands k.texts kind.List)) es id knows,
        version_up (c4 n m s) refl es id knows,
        (λ t names. absurd (omega (arith, names, root, root_now))),
      ))

  step6 : (n m : ℕ) (s : Snap) (f : ℕ) → IsReachable (c5 n m s f) → (n2 : ℕ) × IsReachable (view_after (Unlock o) (c5 n m s f))
  step6 n m s f q = next_possible (c5 n m s f) live q (λ _. Unlock o) (lock_of o) (λ _. refl) (λ _. tt) (λ es id knows. (low, mine, hit o false (is_writing o (c4 n m s).log)))

  pub clear_possible : (n m : ℕ) × (s : Snap) × (f : ℕ) × IsReachable (view_after (Unlock o) (c5 n m s f))
  clear_possible =
      let a = step1 in
      let b = step2 a.0 a.1 in
      let d = step3 a.0 b.1 in
      let e = step4 a.0 d.1 in
      let h = step5 a.0 e.0 e.1 e.2 in
      (a.0, e.0, e.1, h.0, (step6 a.0 e.0 e.1 h.0 h.1).1)
