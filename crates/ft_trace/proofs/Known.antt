-- What a pass knows of the kind and the table of a container whose lock it has, and how tables with their header are put.
use Rattle.std.proofs.Common.{◌≡◌, ℕ, zero, suc, ◌+◌, ◌<◌, true, List, [], ◌∷◌, length, refl, sym, ap, ◌∙◌, arith, Option, Some, None}
use Rattle.std.specs.Prelude.{slice_index, slice_index_or, slice_set, map}
use Rattle.ft_model.specs.declared.content.Content.{Content}
use Rattle.ft_model.specs.declared.content.Content.TheVariants as content
use Rattle.ft_model.specs.declared.script.Kind.{Kind}
use Rattle.ft_model.specs.declared.script.Start.{Start}
use Rattle.ft_model.specs.declared.script.Kind.TheVariants as kind
use Rattle.ft_model.specs.Worlds.{start_as, kind_of, empty_content, no_hands, IsOfKind}
use Rattle.ft_model.specs.TableUses.{start_table, stored_newest}
use Rattle.std.proofs.lemmas.List.{length-map}
use Rattle.ft_model.specs.declared.call.Call.{Call}
use Rattle.ft_model.proofs.Untouched.{as_many_tables}
use Rattle.ft_model.proofs.AnswerLaws.{answer_containers}
use Rattle.ft_layout.specs.Containers.{IsRoot}
use Rattle.ft_layout.proofs.KindLaws.{head_of}
use Rattle.ft_trace.specs.declared.Shape.{Shape}
use Rattle.ft_trace.specs.declared.View.{View}
use Rattle.ft_trace.specs.declared.Act.{Act}
use Rattle.ft_trace.specs.declared.Act.TheVariants.{Commit}
use Rattle.ft_trace.specs.Addresses.{container_count, class_of, size, IsTableName}
use Rattle.ft_trace.specs.Acts.{has_lock, mem}
use Rattle.ft_trace.specs.ContainerStates.{ContainerState, container_after, kind_in, kinds_in}
use Rattle.ft_trace.specs.Pictures.{root_of, inner, ContainerWords, root_in, Represents}
use Rattle.ft_trace.specs.Holds.{held_words, known_state, held_unboxed, in_hand, hand_unboxed}
use Rattle.ft_trace.specs.Kinds.{rows}
use Rattle.ft_trace.specs.Boxes.{known_box_word}
use Rattle.ft_trace.specs.Unboxed.{unboxed_table}
use Rattle.ft_trace.proofs.ReadTables.{rows_long}
use Rattle.ft_trace.specs.Traces.{Event, did, forked, joined, sent, run, writes_of, history, May, Valid, IsReachable}
use Rattle.ft_trace.proofs.Held.{content_known, root_known}
use Rattle.ft_trace.proofs.Pieces.{block_at, table_long}
use Rattle.ft_trace.proofs.TablePlaces.{root_table}

pub mapped : {A B : Type 0} (f : A → B) (l : List A) (i : ℕ) (d : A) → slice_index_or (map f l) i (f d) ≡ f (slice_index_or l i d)
mapped f [] i d = refl
mapped f (x ∷ xs) zero d = refl
mapped f (x ∷ xs) (suc i) d = mapped f xs i d

kind_empty : (kind : Kind) → kind_of (empty_content kind) ≡ kind
kind_empty kind.Dict = refl
kind_empty kind.List = refl
kind_empty kind.Set = refl
kind_empty (kind.Deque bound) = refl

kinds_at_start : (starts : List Start) → map kind_of (map (λ (start : Start). empty_content start.kind) starts) ≡ kinds_in starts
kinds_at_start [] = refl
kinds_at_start (start ∷ starts) = λ d. kind_empty start.kind d ∷ kinds_at_start starts d

kinds_by : (k : Shape) (es : List Event) (v : View) → map kind_of (stored_newest k.starts (history es)).world ≡ kinds_in k.starts → (b : Act) → May k (run k es) (history es) v b → map kind_of (stored_newest k.starts (writes_of b (history es))).world ≡ kinds_in k.starts
kinds_by k es v old (Commit c r f s) may = answer_containers (stored_newest k.starts (history es)).world no_hands c may.11 ∙ old
kinds_by k es v old act may = old

-- each container stays of its kind
pub kinds_stay : (k : Shape) (es : List Event) → Valid k es → map kind_of (stored_newest k.starts (history es)).world ≡ kinds_in k.starts
kinds_stay k [] valid = kinds_at_start k.starts
kinds_stay k (did id v a ∷ es) valid = kinds_by k es v (kinds_stay k es valid.0) a valid.1.3
kinds_stay k (forked id v ∷ es) valid = kinds_stay k es valid.0
kinds_stay k (sent id v given ∷ es) valid = kinds_stay k es valid.0
kinds_stay k (joined id v other w ∷ es) valid = kinds_stay k es valid.0

pub kind_then : (k : Shape) (es : List Event) → Valid k es → (o : ℕ) → kind_of (container_after k.starts (history es) o).content ≡ kind_in k.starts o
kind_then k es valid o =
    let world = (stored_newest k.starts (history es)).world in
    sym (mapped kind_of world o (content.List [])) ∙ (ap (λ (l : List Kind). slice_index_or l o kind.List) (kinds_stay k es valid) ∙ mapped (λ (start : Start). start.kind) k.starts o (start_as kind.List))

pub kind_known : (v : View) (o : ℕ) → has_lock o v.log ≡ true → IsReachable v → kind_of (known_state o v).content ≡ kind_in v.shape.starts o
kind_known v o mine p = ap (λ (z : ContainerState). kind_of z.content) (content_known v o mine p.0 p.1 p.2) ∙ kind_then v.shape p.0 p.2.0 o

-- the class of the table that a root names
named_class : (root : ℕ) (class : Option ℕ) (t : ℕ) → IsRoot root class → root ≡ suc t → class ≡ Some (class_of t)
unfolding class_of
named_class root None t is e = absurd (omega (arith, is, e))
named_class root (Some class) t is e = let low = is.1.1 in let at = is.1.2 in ap Some (omega (arith, low, at, e))

pub class_known : (texts : List ℕ) (words : ContainerWords) (kept : ContainerState) (t : ℕ) → Represents texts words kept → root_in words ≡ suc t → kept.table.class ≡ Some (class_of t)
class_known texts words kept t s names = named_class (root_in words) kept.table.class t (head_of texts words.block (0 ∷ 0 ∷ words.table) kept.table kept.content s).root names

-- what stands first is of its kind
of_its_kind : (x : Content) (world : List Content) (c : Content) → x ≡ c → IsOfKind (x ∷ world) (kind_of c) 0
of_its_kind x world (content.Dict dict) is = ap (λ (z : Content). Some (kind_of z)) is
of_its_kind x world (content.List items) is = ap (λ (z : Content). Some (kind_of z)) is
of_its_kind x world (content.Set set) is = ap (λ (z : Content). Some (kind_of z)) is
of_its_kind x world (content.Deque deque) is = (deque.bound, ap (λ (z : Content). Some (kind_of z)) is)

-- and of what stands one place further
of_kind_after : (kind : Kind) (x : Content) (world : List Content) (o : ℕ) → IsOfKind world kind o → IsOfKind (x ∷ world) kind (suc o)
of_kind_after kind.Dict x world o is = is
of_kind_after kind.List x world o is = is
of_kind_after kind.Set x world o is = is
of_kind_after (kind.Deque bound) x world o is = is

-- the container is there, of the kind of what stands at its place
pub declared_at : (world : List Content) (o : ℕ) (c : Content) → o < length world → slice_index_or world o (content.List []) ≡ c → IsOfKind world (kind_of c) o
declared_at [] o c low is = absurd (omega arith)
declared_at (x ∷ world) zero c low is = of_its_kind x world c is
declared_at (x ∷ world) (suc o) c low is = of_kind_after (kind_of c) x world o (declared_at world o c (omega arith) is)

-- words after the header
pub after_header : (words : List ℕ) (i j x : ℕ) → i ≡ j + 2 → slice_set (0 ∷ 0 ∷ words) i x ≡ 0 ∷ 0 ∷ slice_set words j x
after_header words i j x e = let is : i ≡ suc (suc j) = omega (arith, e) in ap (λ (z : ℕ). slice_set (0 ∷ 0 ∷ words) z x) is

pub past_header : (words : List ℕ) (i j : ℕ) → i ≡ j + 2 → slice_index (0 ∷ 0 ∷ words) i ≡ slice_index words j
past_header words i j e = let is : i ≡ suc (suc j) = omega (arith, e) in ap (λ (z : ℕ). slice_index (0 ∷ 0 ∷ words) z) is

-- the table that the root of a container names whose lock the pass has
module _ (v : View) (o t : ℕ) where
  pub in_bank : o < container_count v.shape → IsReachable v → has_lock o v.log ≡ true → root_in (held_words o v) ≡ suc t → IsTableName v.shape t
  in_bank low p mine names = root_table v.shape p.0 p.2.0 o low t (sym (root_known v o low mine p.0 p.1 p.2) ∙ names)

  pub table_is_long : root_in (held_words o v) ≡ suc t → length (held_unboxed o v).table ≡ size (class_of t)
  table_is_long names =
      let kd : Kind = kind_in v.shape.starts o in
      let box : ℕ → ℕ → ℕ = λ b i. known_box_word v.shape b i v.log in
      let ws = mem v.shape v.log in
      let root : root_of v.shape o ws ≡ suc t = sym (block_at v.shape o ws 0 (omega arith)) ∙ names in
      let raw : length (held_words o v).table ≡ size (class_of t) = ap (λ (r : ℕ). length (inner v.shape r ws)) root ∙ table_long v.shape t ws in
      ap (λ (r : ℕ). length (unboxed_table box kd r (held_words o v).table)) names ∙ (rows_long box kd (class_of t) (rows kd (class_of t)) (held_words o v).table ∙ raw)

  pub hand_is_long : length (hand_unboxed o t v) ≡ size (class_of t)
  hand_is_long =
      let kd : Kind = kind_in v.shape.starts o in
      rows_long (λ b i. known_box_word v.shape b i v.log) kd (class_of t) (rows kd (class_of t)) (in_hand t v) ∙ table_long v.shape t (mem v.shape v.log)

-- ---- stored worlds

pub at_any : {A : Type 0} (l : List A) (i : ℕ) (d e : A) → i < length l → slice_index_or l i d ≡ slice_index_or l i e
at_any [] i d e low = absurd (omega arith)
at_any (x ∷ xs) zero d e low = refl
at_any (x ∷ xs) (suc i) d e low = at_any xs i d e (omega arith)

-- there is a table or none for each container
pub tables_as_many : (starts : List Start) (calls : List Call) → length (stored_newest starts calls).tables ≡ length starts
tables_as_many starts [] = length-map starts start_table
tables_as_many starts (c ∷ calls) = as_many_tables (stored_newest starts calls) c ∙ tables_as_many starts calls
