-- What the layers above cite: facts on the words that a pass has, and none on traces.
use Rattle.std.proofs.Common.{◌≡◌, ◌≢◌, ◌⊎◌, ℕ, suc, ◌+◌, ◌<◌, ◌≤◌, true, false, List, ◌∷◌, length, refl, sym, ap, ◌∙◌, subst, inl, inr, ⊎_elim, arith, get_or-set_same, get_or-set_other}
use Rattle.std.specs.Prelude.{slice_index}
use mathlib.Core.Logic.{dite}
use native.Mathlib.Decide.{ℕ_discrete}
use Rattle.ft_model.specs.declared.script.Kind.{Kind}
use Rattle.ft_trace.specs.declared.Act.TheVariants.{PutRoot}
use Rattle.ft_model.specs.TableUses.{stored_newest}
use Rattle.ft_trace.specs.declared.View.{View}
use Rattle.ft_trace.specs.Addresses.{container_count, block, cell, box_word, class_of, IsTableName, at, extent}
use Rattle.ft_trace.specs.Boxes.{value_at, names_box_at, named_in_root, named_in_container, references_held, known_box_word, knows_box_word, HasReferences}
use Rattle.ft_trace.specs.BoxTraces.{references_held_by, references}
use Rattle.ft_trace.specs.Acts.{has_lock, is_writing, stage, mem}
use Rattle.ft_trace.specs.ContainerStates.{ContainerState, container_after, kind_in}
use Rattle.ft_trace.specs.Pictures.{table_words, root_of, inner, ContainerWords, root_in, picture, Represents}
use Rattle.ft_trace.specs.Kinds.{rows, SoundAs, CarefulAs}
use Rattle.ft_trace.specs.Holds.{held_words, held_unboxed, known_state, in_hand, hand_unboxed, AgreesWith}
use Rattle.ft_trace.specs.Unboxed.{box_word_in, unboxed_rows, unboxed_table, unboxed_words, unboxed_picture}
use Rattle.ft_trace.proofs.BoxKnown.{box_known, named_sure, holder_reads}
use Rattle.ft_trace.proofs.Addresses.{at_low, at_apart}
use Rattle.ft_trace.proofs.BoxValues.{box_name, box_there}
use Rattle.ft_trace.proofs.NamedBoxes.{named_known, named_low}
use Rattle.ft_trace.proofs.Sums.{sum_at, total_at}
use Rattle.ft_trace.proofs.Unboxed.{named_row, rows_same}
use Rattle.ft_trace.specs.Traces.{Event, run, word, history, StandsFor, SoundFor, CarefulFor, Knows, IsReachable, Sure}
use Rattle.ft_trace.proofs.Pieces.{block_at, table_same, picture_same}
use Rattle.ft_trace.proofs.TablePlaces.{root_table}
use Rattle.ft_trace.proofs.Contents.{tab}
use Rattle.ft_trace.proofs.HeldWords.{holder_stands}
use Rattle.ft_trace.proofs.Images.{imaged, IsInHand}

-- the words that a holder knows are the container's, its table's too
pub words_known : (v : View) (o : ℕ) → o < container_count v.shape → has_lock o v.log ≡ true → Sure v (λ es. held_words o v ≡ picture v.shape o (run v.shape es).words)
words_known v o low mine es id knows =
    let k = v.shape in
    let im = imaged k es knows.0 id v knows.1 in
    picture_same k o (mem k v.log) (run k es).words (λ i small. im.words (block o i) (low, small) mine)
    (λ t names. table_same k t (mem k v.log) (run k es).words (λ i small. im.words (cell t i) (root_table k es knows.0 o low t names, small) (inr (o, low, mine, names))))

pub content_known : (v : View) (o : ℕ) → has_lock o v.log ≡ true → Sure v (λ es. known_state o v ≡ container_after v.shape.starts (history es) o)
content_known v o mine es id knows = (imaged v.shape es knows.0 id v knows.1).content o mine

-- what is stored has what the pass knows
pub agrees_now : (v : View) → Sure v (λ es. AgreesWith v (stored_newest v.shape.starts (history es)))
agrees_now v es id knows p low mine = sym (content_known v p mine es id knows)

-- and those of a table in its hand: one that is fresh, or that it took out of a root and hasn't retired
pub own_table_known : (v : View) (t : ℕ) → IsTableName v.shape t → IsInHand (stage t v.log) → Sure v (λ es. in_hand t v ≡ tab v.shape es t)
own_table_known v t table mine es id knows =
    let k = v.shape in
    let im = imaged k es knows.0 id v knows.1 in
    table_same k t (mem k v.log) (run k es).words (λ i small. im.words (cell t i) (table, small) (inl mine))

pub hand_known : (v : View) (t : ℕ) → IsTableName v.shape t → stage t v.log ≡ 1 → Sure v (λ es. in_hand t v ≡ tab v.shape es t)
hand_known v t table mine = own_table_known v t table (inl mine)

module _ (v : View) (o : ℕ) (low : o < container_count v.shape) where
  -- what the words of o read, as the pass knows them
  pub read_known : has_lock o v.log ≡ true → Sure v (λ es. held_unboxed o v ≡ unboxed_picture v.shape o (run v.shape es).words)
  read_known mine es id knows = holder_reads v.shape es knows.0 id v knows.1 o low mine

  pub held_stands : IsReachable v → has_lock o v.log ≡ true → is_writing o v.log ≡ false → Represents v.shape.texts (held_unboxed o v) (known_state o v)
  held_stands p mine quiet =
      let t = read_known mine p.0 p.1 p.2 in
      let c = content_known v o mine p.0 p.1 p.2 in
      subst (λ (z : ContainerWords × ContainerState). Represents v.shape.texts z.0 z.1) (λ d. (sym t d, sym c d)) (holder_stands v.shape p.0 p.2.0 o low p.1 v p.2.1 mine quiet)

  -- the conditions of the steps, on the words that the pass knows
  pub stop_sure : has_lock o v.log ≡ true → Represents v.shape.texts (held_unboxed o v) (known_state o v) → Sure v (λ es. StandsFor v.shape (run v.shape es) (history es) o)
  stop_sure mine stands es id knows =
      let t = read_known mine es id knows in
      let c = content_known v o mine es id knows in
      subst (λ (z : ContainerWords × ContainerState). Represents v.shape.texts z.0 z.1) (λ d. (t d, c d)) stands

  pub root_known : has_lock o v.log ≡ true → Sure v (λ es. root_in (held_words o v) ≡ root_of v.shape o (run v.shape es).words)
  root_known mine es id knows = ap root_in (words_known v o low mine es id knows) ∙ block_at v.shape o (run v.shape es).words 0 (omega arith)

  by_inner : (r : ℕ) (ws : List ℕ) (t : ℕ) → r ≡ suc t → inner v.shape r ws ≡ table_words v.shape t ws
  by_inner r ws t e = ap (λ (z : ℕ). inner v.shape z ws) e

  -- the words of the table that the root names
  pub table_known : (t : ℕ) → has_lock o v.log ≡ true → root_in (held_words o v) ≡ suc t → Sure v (λ es. ((held_words o v).table ≡ tab v.shape es t) × (root_of v.shape o (run v.shape es).words ≡ suc t))
  table_known t mine names es id knows =
      let p = words_known v o low mine es id knows in
      let there = sym (root_known mine es id knows) ∙ names in
      (ap (λ (x : ContainerWords). x.table) p ∙ by_inner (root_of v.shape o (run v.shape es).words) (run v.shape es).words t there, there)

  -- and what they read
  pub table_read : (t : ℕ) → has_lock o v.log ≡ true → root_in (held_words o v) ≡ suc t → Sure v (λ es. (held_unboxed o v).table ≡ unboxed_words v.shape o t (run v.shape es).words)
  table_read t mine names es id knows =
      let k = v.shape in
      let ws : List ℕ = (run k es).words in
      let there : root_of k o ws ≡ suc t = (table_known t mine names es id knows).1 in
      let root_is : root_in (picture k o ws) ≡ suc t = block_at k o ws 0 (omega arith) ∙ there in
      ap (λ (x : ContainerWords). x.table) (read_known mine es id knows) ∙ (λ d. unboxed_table (box_word_in k ws) (kind_in k.starts o) (root_is d) (inner k (there d) ws))

  pub put_sure : (t i x : ℕ) → has_lock o v.log ≡ true → root_in (held_words o v) ≡ suc t → CarefulAs (kind_in v.shape.starts o) (class_of t) (held_unboxed o v).table (known_state o v).content i x → Sure v (λ es. (root_of v.shape o (run v.shape es).words ≡ suc t) × CarefulFor v.shape (run v.shape es).words o t (container_after v.shape.starts (history es) o).content i x)
  put_sure t i x mine names care es id knows =
      let w = table_known t mine names es id knows in
      let r = table_read t mine names es id knows in
      let c = content_known v o mine es id knows in
      (w.1, subst (λ (z : List ℕ × ContainerState). CarefulAs (kind_in v.shape.starts o) (class_of t) z.0 z.1.content i x) (λ d. (r d, c d)) care)

  -- what the words of a fresh table read, which the pass has the references to put in the root
  pub hand_read : (t old : ℕ) → IsTableName v.shape t → has_lock o v.log ≡ true → stage t v.log ≡ 1 → HasReferences v.shape v.log (PutRoot o (suc t) old) o → Sure v (λ es. hand_unboxed o t v ≡ unboxed_words v.shape o t (run v.shape es).words)
  hand_read t old table mine fresh refs es id knows =
      let k = v.shape in
      let kd : Kind = kind_in k.starts o in
      let ws : List ℕ = mem k v.log in
      let now : List ℕ = mem k (PutRoot o (suc t) old ∷ v.log) in
      let hand : List ℕ = in_hand t v in
      let n : ℕ = rows kd (class_of t) in
      let long : length ws ≡ extent k = (imaged k es knows.0 id v knows.1).wide (inl (o, mine)) in
      let root_low = at_low k (block o 0) (low, omega arith) in
      let root_now : root_of k o now ≡ suc t = get_or-set_same ws (at k (block o 0)) (suc t) 0 (omega (arith, long, root_low)) in
      let table_now : table_words k t now ≡ hand = table_same k t now ws (λ i small. get_or-set_other ws (at k (block o 0)) (at k (cell t i)) (suc t) 0 (λ e. let c : cell t i ≡ block o 0 = at_apart k (cell t i) (block o 0) (table, small) (low, omega arith) e in absurd (cc))) in
      rows_same (λ b i. known_box_word k b i v.log) (box_word_in k (run k es).words) kd (class_of t) n hand
      (λ p i less four which.
      let b : ℕ = slice_index hand (suc (value_at kd (class_of t) p)) in
      let one = named_row b kd (class_of t) hand p four refl in
      let s = sum_at (names_box_at b kd (class_of t) hand) n p less in
      let r : named_in_container k b o now ≡ named_in_root b kd (suc t) hand = (λ d. named_in_root b kd (root_now d) (inner k (root_now d) now)) ∙ ap (named_in_root b kd (suc t)) table_now in
      let after : named_in_container k b o now ≢ 0 = λ z. omega (arith, one, s, r, z) in
      boxed_right es id knows b i which (named_in_container k b o now) (refs b).0 after (refs b).2)
      ∙ ap (unboxed_rows (box_word_in k (run k es).words) kd (class_of t) n) (hand_known v t table fresh es id knows)
    where
      boxed_right : (es : List Event) (id : ℕ) → Knows v es id → (b i : ℕ) → (i ≡ 1) ⊎ (i ≡ 2) → (after : ℕ) → after ≤ references_held v.shape b v.log + named_in_container v.shape b o (mem v.shape v.log) → after ≢ 0
          → (named_in_container v.shape b o (mem v.shape v.log) ≡ 0 → after ≢ 0 → (knows_box_word v.shape b 1 v.log ≡ true) × (knows_box_word v.shape b 2 v.log ≡ true)) → known_box_word v.shape b i v.log ≡ word v.shape es (box_word b i)
      boxed_right es id knows b i which after enough some_ first_ =
          let k = v.shape in
          let before : ℕ = named_in_container k b o (mem k v.log) in
          let su : (knows_box_word k b 1 v.log ≡ true) × (knows_box_word k b 2 v.log ≡ true) =
          dite (ℕ_discrete before 0) (λ (z : before ≡ 0). first_ z some_) (λ ne. named_sure k es knows.0 id v knows.1 b o low mine ne) in
          let n = named_known k es knows.0 id v knows.1 b o low mine in
          let m = named_low k b o (run k es).words low in
          let t = total_at (references_held_by k b) (run k es).views id v knows.1 in
          let refs_some : references k b es ≢ 0 = λ z. some_ (omega (arith, enough, n, m, t, z)) in
          let up = box_there k b es knows.0 refs_some in
          let is = box_name k b es knows.0 (λ z. absurd (omega (arith, up, z))) in
          box_known k es knows.0 id v knows.1 b i is which (⊎_elim (λ (e : i ≡ 1). ap (λ (z : ℕ). knows_box_word k b z v.log) e ∙ su.0) (λ (e : i ≡ 2). ap (λ (z : ℕ). knows_box_word k b z v.log) e ∙ su.1) which)

  pub sound_sure : (t old : ℕ) → IsTableName v.shape t → has_lock o v.log ≡ true → stage t v.log ≡ 1 → HasReferences v.shape v.log (PutRoot o (suc t) old) o → SoundAs (kind_in v.shape.starts o) v.shape.texts (class_of t) (hand_unboxed o t v) (known_state o v).content → Sure v (λ es. SoundFor v.shape (run v.shape es).words o t (container_after v.shape.starts (history es) o).content)
  sound_sure t old table mine fresh refs sound es id knows =
      let w = hand_read t old table mine fresh refs es id knows in
      let c = content_known v o mine es id knows in
      subst (λ (z : List ℕ × ContainerState). SoundAs (kind_in v.shape.starts o) v.shape.texts (class_of t) z.0 z.1.content) (λ d. (w d, c d)) sound
