-- That the steps of a write may be made, whatever other passes have done.
use Rattle.std.proofs.Common.{Option, Some, None, Bool, ◌≤◌, ◌≡◌, ℕ, suc, ◌+◌, ◌-◌, ◌*◌, ◌%◌, ◌^◌, ◌<◌, true, false, List, ◌∷◌, length, refl, sym, ap, ◌∙◌, subst, inl, inr, arith, get_or-set_same}
use Rattle.std.specs.Prelude.{slice_index, slice_set}
use Rattle.ft_model.specs.declared.call.Call.{Call}
use Rattle.ft_model.specs.declared.reply.Reply.{Reply}
use Rattle.ft_model.specs.TableUses.{stored_newest}
use Rattle.ft_trace.specs.declared.Snap.{Snap}
use Rattle.ft_trace.specs.declared.View.{View}
use Rattle.ft_trace.specs.declared.Act.TheVariants.{StartWrite, ReadTable, PutRoot, PutTable, PutFresh, Commit, StopWrite}
use Rattle.ft_trace.specs.Addresses.{container_count, class_of, size, extent, IsTableName, counter}
use Rattle.ft_trace.specs.Acts.{has_lock, is_writing, has_committed, stage, mem, view_after}
use Rattle.ft_trace.specs.ContainerStates.{ContainerState, container_after, kind_in, changes}
use Rattle.ft_trace.specs.Boxes.{named_in_root, named_in_container, references_held, known_box_word, HasReferences}
use Rattle.ft_trace.specs.Pictures.{block_of, inner, root_in, Represents}
use Rattle.ft_trace.specs.Kinds.{rows, version_at, ClearAs}
use Rattle.ft_trace.specs.OddVersions.{Shut, Low}
use Rattle.ft_trace.specs.Holds.{held_words, held_unboxed, known_state, in_hand}
use Rattle.ft_trace.specs.Traces.{run, history, snap, Ready, ReadyAs, Sure, word, SoundFor, LowFor, ShutFor}
use Rattle.ft_trace.proofs.FitCalls.{contents_fit}
use Rattle.ft_trace.proofs.Known.{kinds_stay}
use Rattle.ft_trace.proofs.UnsplitTables.{tables_unsplit}
use Rattle.ft_trace.proofs.NoWrap.{counter_room, version_room}
use Rattle.ft_trace.proofs.OddVersions.{writer_has}
use Rattle.ft_trace.proofs.Held.{content_known, root_known, table_known, table_read, stop_sure, put_sure, sound_sure, hand_known, agrees_now}
use Rattle.ft_trace.proofs.Images.{imaged}
use Rattle.ft_trace.proofs.Pieces.{block_at, block_long}
use Rattle.ft_trace.proofs.PlainPuts.{by_root, few_at_first, named_is, raw_shut}
use Rattle.ft_trace.proofs.ReadTables.{read_version}
use Rattle.ft_trace.proofs.ReferencesOfPuts.{word_refs}
use Rattle.ft_trace.proofs.Writing.{root_put}
use Rattle.ft_trace.proofs.Untouched.{as_many}
use Rattle.ft_trace.proofs.Orders.{in_order}
use Rattle.ft_bank.specs.declared.table.Table.{Table}
use Rattle.ft_bank.specs.SameBoxes.{named_in_words}
use Rattle.ft_bank.specs.TableNames.{table_id, root_for, words_for}
use Rattle.ft_bank.specs.Rules.{Acted}
use Rattle.ft_bank.specs.WriteSteps.{MayHave, Committed, MayCommit, MayPutRoot, IsCareful, IsShut, HasReferencesFor, HasRootReferences}

-- versions read as they stand
shut_raw : (v : View) (o t : ℕ) → root_in (held_words o v) ≡ suc t → Shut (version_at (kind_in v.shape.starts o) (class_of t)) (rows (kind_in v.shape.starts o) (class_of t)) (held_unboxed o v).table → Shut (version_at (kind_in v.shape.starts o) (class_of t)) (rows (kind_in v.shape.starts o) (class_of t)) (held_words o v).table
shut_raw v o t names shut =
    let box : ℕ → ℕ → ℕ = λ b i. known_box_word v.shape b i v.log in
    let kind = kind_in v.shape.starts o in
    let c = class_of t in
    raw_shut box kind c (held_words o v).table (subst (Shut (version_at kind c) (rows kind c)) (by_root box kind (root_in (held_words o v)) t (held_words o v).table names) shut)

-- how many words a pass knows that has a lock
pub wide_for : (v : View) (o : ℕ) → has_lock o v.log ≡ true → Sure v (λ es. length (mem v.shape v.log) ≡ extent v.shape)
wide_for v o mine es id knows = (imaged v.shape es knows.0 id v knows.1).wide (inl (o, mine))

-- the references that a put of a word needs
put_refs : (v : View) (o t i x : ℕ) → o < container_count v.shape → IsTableName v.shape t → i < size (class_of t) → has_lock o v.log ≡ true → root_in (held_words o v) ≡ suc t → HasReferencesFor v o t i x → Sure v (λ es. HasReferences v.shape v.log (PutTable o t i x) o)
put_refs v o t i x low table small mine names (inr refs) es id knows = refs
put_refs v o t i x low table small mine names (inl free) es id knows =
    word_refs v.shape v.log o t i x low table small (wide_for v o mine es id knows) (sym (block_at v.shape o (mem v.shape v.log) 0 (omega arith)) ∙ names) free.0 (λ b. let f = free.1 b in omega (arith, f))

-- the bank's calls are few enough for its words
abbrev pub AreFew : View → Type 0
AreFew v = v.shape.passes * v.shape.calls < 2 ^ 46

-- what is stored is a world that the pass may expect
pub has_now : (v : View) → Sure v (λ es. MayHave v (stored_newest v.shape.starts (history es)))
has_now v es id knows = record {
  agrees = agrees_now v es id knows;
  containers = as_many v.shape.starts (history es);
  kinds = kinds_stay v.shape es knows.0;
  order = in_order v.shape es knows.0;
  unsplit = tables_unsplit v.shape es knows.0 (history es);
  words = contents_fit v.shape es knows.0;
}

pub start_ready : (v : View) (i o : ℕ) → AreFew v → o < container_count v.shape → has_lock o v.log ≡ true → ((p : ℕ) → is_writing p v.log ≡ false) → Ready v i (λ n. StartWrite o n)
start_ready v i o few low mine quiet es id knows small =
    let r = version_room v.shape es knows.0 o low in
    (refl, (low, mine, quiet, omega (arith, r, few)))

pub stop_ready : (v : View) (i o : ℕ) → AreFew v → o < container_count v.shape → is_writing o v.log ≡ true → has_committed o v.log ≡ true → Represents v.shape.texts (held_unboxed o v) (known_state o v) → IsShut o v → Ready v i (λ n. StopWrite o n)
stop_ready v i o few low odd done stands shut es id knows small =
    let mine = writer_has v.shape es knows.0 o id v knows.1 odd in
    let r = version_room v.shape es knows.0 o low in (
      refl,
      (
        low,
        odd,
        done,
        stop_sure v o low mine stands es id knows,
        omega (arith, r, few),
        (λ t names.
            let known_root = root_known v o low mine es id knows ∙ names in
            subst (Shut (version_at (kind_in v.shape.starts o) (class_of t)) (rows (kind_in v.shape.starts o) (class_of t))) (table_known v o low t mine known_root es id knows).0 (shut_raw v o t known_root (shut t known_root))),
      ),
    )

pub commit_ready : (v : View) (c : Call) (r : Reply) → AreFew v → MayCommit v c r → ReadyAs v 0 (λ n s. Commit c r n s)
commit_ready v c r few may es id knows small =
    let k = v.shape in
    let o = changes c in
    let low = may.container in
    let mine = writer_has k es knows.0 o id v knows.1 may.odd in
    let has = has_now v es id knows in
    let room = counter_room k es knows.0 in
    let now = stored_newest k.starts (history es) in (
      refl,
      (
        may.write,
        may.odd,
        omega (arith, room, few),
        may.left,
        may.reply_is now has,
        (λ t names.
            let known_root = root_known v o low mine es id knows ∙ names in
            let words = table_read v o low t mine known_root es id knows in
            let content = content_known v o mine es id knows in
            subst (λ (x : List ℕ × ContainerState). ClearAs (kind_in k.starts o) k.texts (class_of t) x.0 x.1.content (container_after k.starts (c ∷ history es) o).content) (λ d. (words d, content d)) (may.clear now t has known_root)),
        low,
        refl,
        (λ class owed. may.takes now class has owed),
        may.fits now has,
        may.empties,
        may.declared now has,
        may.words,
        may.locks,
        may.stores now has,
      ),
    )

-- what the pass knows of every container after its write
pub commit_leaves : (v : View) (c : Call) (r : Reply) (n : ℕ) (s : Snap) → Acted v (Commit c r n s) → Committed v (view_after (Commit c r n s) v) c
commit_leaves v c r n s d =
    let k = v.shape in
    let es = d.0 in
    let is : s ≡ snap (run k es) (history es) = d.2.1.3.7 in record {
      found = stored_newest k.starts (history es);
      has = has_now v es d.1 (d.2.0, d.2.1.0);
      left = λ p. ap (λ (z : Snap). container_after k.starts (c ∷ z.calls) p) is;
    }

pub read_ready : (v : View) (j t i : ℕ) → IsTableName v.shape t → i < size (class_of t) → Ready v j (λ n. ReadTable t i n)
read_ready v j t i table small es id knows low = (refl, (table, small))

pub fresh_ready : (v : View) (j t i x : ℕ) → IsTableName v.shape t → i < size (class_of t) → stage t v.log ≡ 1 → Ready v j (λ n. PutFresh t i x)
fresh_ready v j t i x table small mine es id knows low = (tt, (table, small, mine))

pub put_ready : (v : View) (j o t i x : ℕ) → o < container_count v.shape → IsTableName v.shape t → i < size (class_of t) → is_writing o v.log ≡ true → root_in (held_words o v) ≡ suc t → IsCareful v o t i x → Ready v j (λ n. PutTable o t i x)
put_ready v j o t i x low table small odd names careful es id knows less =
    let mine = writer_has v.shape es knows.0 o id v knows.1 odd in
    let s = put_sure v o low t i x mine names careful.care es id knows in
    (tt, (low, table, small, odd, s.0, s.1, careful.timely, put_refs v o t i x low table small mine names careful.references es id knows))

-- the root that names a table
pub root_names : (root : Option Table) (t : ℕ) → root_for root ≡ suc t → (q : Table) × (root ≡ Some q) × (table_id q ≡ t)
root_names None t e = absurd (omega (arith, e))
root_names (Some q) t e = (q, refl, omega (arith, e))

pub root_none : (root : Option Table) → root_for root ≡ 0 → root ≡ None
root_none None e = refl
root_none (Some q) e = absurd (omega (arith, e))

pub inner_for : (root : Option Table) (v : View) → inner v.shape (root_for root) (mem v.shape v.log) ≡ words_for root v
inner_for None v = refl
inner_for (Some t) v = refl

-- how many values of the container name a box then
named_after : (v : View) (o old : ℕ) (root : Option Table) → o < container_count v.shape → has_lock o v.log ≡ true → ((t : ℕ) → root_for root ≡ suc t → IsTableName v.shape t) → Sure v (λ es. (b : ℕ) → named_in_container v.shape b o (mem v.shape (PutRoot o (root_for root) old ∷ v.log)) ≡ named_in_root b (kind_in v.shape.starts o) (root_for root) (words_for root v))
named_after v o old root low mine tables es id knows b =
    let k = v.shape in
    let kind = kind_in k.starts o in
    let r = root_for root in
    let ws = mem k v.log in
    let pic = root_put k o low ws r (wide_for v o mine es id knows) tables in
    let block_at_root : slice_index (slice_set (block_of k o ws) 0 r) 0 ≡ r = get_or-set_same (block_of k o ws) 0 r 0 (let l = block_long k o ws in omega (arith, l)) in
    named_is k o b (mem k (PutRoot o r old ∷ v.log))
    ∙ ((λ d. named_in_root b kind (root_in (pic d)) (pic d).table)
    ∙ (λ d. named_in_root b kind (block_at_root d) (inner_for root v d)))

-- and the references that such a put needs
root_refs : (v : View) (o old : ℕ) (root : Option Table) → o < container_count v.shape → has_lock o v.log ≡ true → ((t : ℕ) → root_for root ≡ suc t → IsTableName v.shape t) → HasRootReferences v o root → Sure v (λ es. HasReferences v.shape v.log (PutRoot o (root_for root) old) o)
root_refs v o old root low mine tables refs es id knows b =
    let k = v.shape in
    let r = root_for root in
    let ws = mem k v.log in
    let now = mem k (PutRoot o r old ∷ v.log) in
    let after = named_after v o old root low mine tables es id knows b in
    let before : named_in_container k b o ws ≡ named_in_words b (kind_in k.starts o) (held_words o v) = named_is k o b ws in
    let enough = refs.enough b in
    let few = few_at_first k es knows.0 id v knows.1 o low mine refs.few b in
    let held : references_held k b (PutRoot o r old ∷ v.log) ≡ references_held k b v.log + named_in_container k b o ws - named_in_container k b o now = refl in (
      omega (arith, enough, after, before),
      omega (arith, few, held),
      (λ none some_. refs.known b (sym before ∙ none) (λ z. some_ (after ∙ z))),
    )

-- versions of at most 1 are low
young_low : (at : ℕ → ℕ) (m : ℕ) (ws : List ℕ) (count : ℕ) (committed : Bool) → ((p : ℕ) → p < m → (slice_index ws (at p) ≤ 1) × (committed ≡ true → slice_index ws (at p) ≡ 0)) → Low at m ws count committed
young_low at m ws count committed young = record {
  even = λ p low even. let y = (young p low).0 in omega (arith, y, even);
  odd = λ p low. let y = (young p low).0 in omega (arith, y);
  written = λ done p low. let y = (young p low).1 done in omega (arith, y);
}

pub root_ready : (v : View) (j o : ℕ) (root : Option Table) → o < container_count v.shape → ((t : Table) → root ≡ Some t → IsTableName v.shape (table_id t)) → MayPutRoot v o root → Ready v j (λ n. PutRoot o (root_for root) (root_in (held_words o v)))
root_ready v j o root low tables may es id knows less =
    let k = v.shape in
    let kind = kind_in k.starts o in
    let mine = writer_has k es knows.0 o id v knows.1 may.odd in
    let now = root_known v o low mine es id knows in
    let old = root_in (held_words o v) in
    let names_of : (t : ℕ) → root_for root ≡ suc t → IsTableName k t = λ t e. let q = root_names root t e in subst (IsTableName k) q.2 (tables q.0 q.1) in
    let refs = root_refs v o old root low mine names_of may.references es id knows in (
      tt,
      (
        low,
        may.odd,
        now,
        (λ t e.
            let q = root_names root t e in
            subst (λ (z : ℕ). IsTableName k z × (stage z v.log ≡ 1) × SoundFor k (run k es).words o z (container_after k.starts (history es) o).content) q.2 (tables q.0 q.1, may.fresh q.0 q.1, sound_sure v o low (table_id q.0) old (tables q.0 q.1) mine (may.fresh q.0 q.1) (subst (λ (z : Option Table). HasReferences k v.log (PutRoot o (root_for z) old) o) q.1 refs) (may.sound q.0 q.1) es id knows)),
        (λ q names.
            subst (Shut (version_at kind (class_of q)) (rows kind (class_of q))) (table_known v o low q mine names es id knows).0 (shut_raw v o q names (may.shut q names))),
        may.spare,
        (λ t e.
            let q = root_names root t e in
            let n = table_id q.0 in
            let box : ℕ → ℕ → ℕ = λ b i. known_box_word k b i v.log in
            let young : (p : ℕ) → p < rows kind (class_of n) → (slice_index (in_hand n v) (version_at kind (class_of n) p) ≤ 1) × (has_committed o v.log ≡ true → slice_index (in_hand n v) (version_at kind (class_of n) p) ≡ 0) =
            λ p less.
            let y = may.young q.0 p q.1 less in
            let e = read_version box (class_of n) (rows kind (class_of n)) (in_hand n v) kind refl p less in
            (subst (λ (z : ℕ). z ≤ 1) e y.0, λ done. sym e ∙ y.1 done) in
            subst (λ (z : ℕ). LowFor k (run k es).words o z (word k es counter) (has_committed o v.log)) q.2
            (subst (λ (l : List ℕ). Low (version_at kind (class_of n)) (rows kind (class_of n)) l (word k es counter) (has_committed o v.log)) (hand_known v n (tables q.0 q.1) (may.fresh q.0 q.1) es id knows) (young_low (version_at kind (class_of n)) (rows kind (class_of n)) (in_hand n v) (word k es counter) (has_committed o v.log) young))),
        (λ e. may.early (root_none root e)),
        refs,
        (λ t e done.
            let q = root_names root t e in
            let n = table_id q.0 in
            let box : ℕ → ℕ → ℕ = λ b i. known_box_word k b i v.log in
            subst (λ (z : ℕ). ShutFor k (run k es).words o z) q.2
            (subst (Shut (version_at kind (class_of n)) (rows kind (class_of n))) (hand_known v n (tables q.0 q.1) (may.fresh q.0 q.1) es id knows) (λ p less. ap (λ (z : ℕ). z % 2) (sym (read_version box (class_of n) (rows kind (class_of n)) (in_hand n v) kind refl p less) ∙ (may.young q.0 p q.1 less).1 done)))),
        (λ b taken. named_after v o old root low mine names_of es id knows b ∙ may.references.stored b taken),
      ),
    )
