-- What loads of the words of a table show of each container whose root names it.
use Rattle.std.proofs.Common.{◌≡◌, ℕ, suc, List, [], ◌∷◌, refl, sym, ap, ◌∙◌, subst}
use Rattle.std.specs.Prelude.{slice_index}
use Rattle.ft_layout.specs.Containers.{class_mask}
use Rattle.ft_layout.specs.Tables as layout
use Rattle.ft_keys.specs.declared.words.Access.{Access}
use Rattle.ft_keys.specs.declared.words.Access.TheVariants.{Index, Entry, PutIndex, PutEntry, OldEntry}
use Rattle.ft_keys.specs.Accesses.{AreLoads, AreAnswered, IsLoad, Runs, Tells, after, put_by}
use Rattle.ft_trace.specs.declared.Shape.{Shape}
use Rattle.ft_trace.specs.Addresses.{IsTableName, class_of, slots}
use Rattle.ft_trace.specs.Holds.{held_words}
use Rattle.ft_trace.specs.Pictures.{ContainerWords, entry_offset, root_in}
use Rattle.ft_bank.specs.declared.table.Table.{Table}
use Rattle.ft_bank.specs.Passes.{shape_of, view}
use Rattle.ft_bank.specs.TableNames.{IsTableIn, table_id}
use Rattle.ft_search.specs.declared.words.TableWords.{TableWords}
use Rattle.ft_search.specs.TableWords.{MadeAccess}
use Rattle.ft_search.proofs.KnownTableWords.{after_header, entry_after_header}
use Rattle.ft_search.proofs.WordPlaces.{entry_is}
use Rattle.ft_search.proofs.Running.{ran}
use Rattle.ft_whole_tables.proofs.WordReads.{ReadsWords, words_map, words_none, words_table, words_then}

-- the table is one of the bank, and this its last slot
abbrev pub IsMaskOf : Shape → Table → ℕ → Type 0
IsMaskOf k table mask = IsTableIn k table × (mask ≡ class_mask table.class)

-- where the root of o names the table t, its words answer so
abbrev pub Answers : ℕ → ℕ → Access → ContainerWords → Type 0
Answers t mask access x = root_in x ≡ suc t → Tells mask access (0 ∷ 0 ∷ x.table)

abbrev pub AnswerAll : ℕ → ℕ → List Access → ContainerWords → Type 0
AnswerAll t mask calls x = root_in x ≡ suc t → AreAnswered mask calls (0 ∷ 0 ∷ x.table) × (after mask calls (0 ∷ 0 ∷ x.table) ≡ 0 ∷ 0 ∷ x.table)

-- ---- one load

one_reads : (o : ℕ) (a : Access) (s t : TableWords) → IsMaskOf (shape_of s.bank.now) s.table s.mask → IsTableName (shape_of s.bank.now) (table_id s.table) → IsLoad a → MadeAccess s a t → ReadsWords (shape_of s.bank.now) o (Answers (table_id s.table) s.mask a) s.pass.now t.pass.now
one_reads o (Index slot value) s t is table load g =
    let k = shape_of s.bank.now in
    let n = table_id s.table in
    words_map k o (λ x. root_in x ≡ suc n → value ≡ slice_index x.table slot) (Answers n s.mask (Index slot value)) s.pass.now t.pass.now
    (λ x f names. f names ∙ sym (after_header x.table slot))
    (words_table k o n slot value s.pass.now t.pass.now table g.inside g.did (λ c low mine names. g.others c low mine names ∙ after_header (held_words c (view s.pass.now)).table slot))
one_reads o (Entry place word value) s t is table load g =
    let k = shape_of s.bank.now in
    let n = table_id s.table in
    let at = entry_offset (slots (class_of n)) place word in
    let here : (l : List ℕ) → slice_index (0 ∷ 0 ∷ l) (layout.entry_at s.mask place word) ≡ slice_index l at = λ l. entry_after_header l s.mask place word ∙ ap (slice_index l) (entry_is k s.table s.mask place word is.0 is.1) in
    words_map k o (λ x. root_in x ≡ suc n → value ≡ slice_index x.table at) (Answers n s.mask (Entry place word value)) s.pass.now t.pass.now
    (λ x f names. f names ∙ sym (here x.table))
    (words_table k o n at value s.pass.now t.pass.now table g.inside g.did (λ c low mine names. g.others c low mine names ∙ here (held_words c (view s.pass.now)).table))
one_reads o (PutIndex slot value) s t is table load g = absurd load
one_reads o (PutEntry place word value) s t is table load g = absurd load
one_reads o (OldEntry place word value) s t is table load g = absurd g.inside

load_leaves : (mask : ℕ) (a : Access) (words : List ℕ) → IsLoad a → put_by mask a words ≡ words
load_leaves mask (Index slot value) words q = refl
load_leaves mask (Entry place word value) words q = refl
load_leaves mask (OldEntry place word value) words q = refl
load_leaves mask (PutIndex slot value) words q = absurd q
load_leaves mask (PutEntry place word value) words q = absurd q

-- ---- all of them

pub ran_reads : (o : ℕ) (s : TableWords) (calls : List Access) (t : TableWords) → IsMaskOf (shape_of s.bank.now) s.table s.mask → IsTableName (shape_of s.bank.now) (table_id s.table) → AreLoads calls → Runs MadeAccess s calls t → ReadsWords (shape_of s.bank.now) o (AnswerAll (table_id s.table) s.mask calls) s.pass.now t.pass.now
ran_reads o s [] t is table loads r = subst (λ (z : TableWords). ReadsWords (shape_of s.bank.now) o (AnswerAll (table_id s.table) s.mask []) s.pass.now z.pass.now) r (words_none (shape_of s.bank.now) o (AnswerAll (table_id s.table) s.mask []) s.pass.now (λ x names. (tt, refl)))
ran_reads o s (a ∷ calls) t is table loads r =
    let k = shape_of s.bank.now in
    let n = table_id s.table in
    let m = r.0 in
    let old = ran_reads o s calls m is table loads.1 r.1 in
    let same = (ran s calls m r.1).0 in
    let now = subst (λ (x : Shape × Table × ℕ). IsMaskOf x.0 x.1 x.2 × IsTableName x.0 (table_id x.1)) (sym (λ d. (shape_of (same.bank d).now, same.table d, same.mask d))) (is, table) in
    let one : ReadsWords k o (Answers n s.mask a) m.pass.now t.pass.now = subst (λ (x : Shape × Table × ℕ). ReadsWords x.0 o (Answers (table_id x.1) x.2 a) m.pass.now t.pass.now) (λ d. (shape_of (same.bank d).now, same.table d, same.mask d)) (one_reads o a m t now.0 now.1 loads.0 r.2) in
    words_map k o (λ x. AnswerAll n s.mask calls x × Answers n s.mask a x) (AnswerAll n s.mask (a ∷ calls)) s.pass.now t.pass.now
    (λ x both names.
    let early = both.0 names in
    let words = 0 ∷ 0 ∷ x.table in
    let tells : Tells s.mask a (after s.mask calls words) = subst (λ (z : List ℕ). Tells s.mask a z) (sym early.1) (both.1 names) in
    ((early.0, tells), load_leaves s.mask a (after s.mask calls words) loads.0 ∙ early.1))
    (words_then k o (AnswerAll n s.mask calls) (Answers n s.mask a) s.pass.now m.pass.now t.pass.now old one)
