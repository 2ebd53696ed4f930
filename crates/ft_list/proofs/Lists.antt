-- What a pass with the lock of a list knows of it.
use Rattle.std.proofs.Common.{◌≡◌, ℕ, suc, ◌%◌, ◌<◌, true, false, List, ◌∷◌, length, Option, Some, None, ◌≢◌, refl, sym, ap, ◌∙◌, subst, arith, []}
use Rattle.std.specs.Prelude.{slice_index}
use Rattle.std.proofs.Math.Nat.{ℕ_set}
use Rattle.std.proofs.Math.Logic.{∥∥₁_elim}
use Rattle.ft_model.specs.declared.content.Content.{Content}
use Rattle.ft_model.specs.declared.content.Content.TheVariants as content
use Rattle.ft_model.specs.declared.data.Value.{Value}
use Rattle.ft_model.specs.declared.script.Kind.{Kind}
use Rattle.ft_model.specs.declared.script.Kind.TheVariants as kind
use Rattle.ft_model.specs.Worlds.{kind_of, length_of, list_of}
use Rattle.ft_layout.specs.Containers.{IsListWords, StandsAs}
use Rattle.ft_trace.specs.declared.Shape.{Shape}
use Rattle.ft_trace.specs.declared.View.{View}
use Rattle.ft_trace.specs.Addresses.{container_count, class_of, slots}
use Rattle.ft_trace.specs.Acts.{has_lock, is_writing}
use Rattle.ft_trace.specs.ContainerStates.{ContainerState, kind_in}
use Rattle.ft_trace.specs.Pictures.{ContainerWords, root_in, Represents, item_field}
use Rattle.ft_trace.specs.Kinds.{rows, version_at}
use Rattle.ft_trace.specs.OddVersions.{Shut}
use Rattle.ft_trace.specs.Holds.{held_unboxed, known_state}
use Rattle.ft_trace.specs.Traces.{IsReachable}
use Rattle.ft_trace.proofs.Clearing.{held_shut}
use Rattle.ft_trace.proofs.Known.{kind_known, class_known}
use Rattle.ft_layout.proofs.KindLaws.{head_of}
use Rattle.ft_bank.specs.declared.table.Table.{Table}
use Rattle.ft_bank.specs.Whole.{OnlyLoaded}
use Rattle.ft_bank.proofs.KnownAfterWrites.{loaded_held, work_knows}
use Rattle.ft_list.specs.ListItemWrites.{known_items}
use Rattle.ft_list.specs.ListWrites.{MayBeginList, MayWriteList}
use Rattle.ft_search.specs.OneEntryWrites.{HasTable}
use Rattle.ft_search.proofs.Puts.{done_then, few_done, shut_reads}

-- 1 for a list
list_code : Kind → ℕ
list_code kind.Dict = 0
list_code kind.List = 1
list_code kind.Set = 0
list_code (kind.Deque bound) = 0

as_list : (c : Content) → list_code (kind_of c) ≡ 1 → c ≡ content.List (list_of c)
unfolding list_code
as_list (content.List values) is = refl
as_list (content.Dict dict) is = absurd (omega (arith, is))
as_list (content.Set set) is = absurd (omega (arith, is))
as_list (content.Deque deque) is = absurd (omega (arith, is))

pub list_content : (v : View) (o : ℕ) → ∥ IsReachable v ∥₁ → has_lock o v.log ≡ true → kind_in v.shape.starts o ≡ kind.List → (known_state o v).content ≡ content.List (known_items o v)
unfolding list_code
list_content v o possible mine is =
    as_list (known_state o v).content (∥∥₁_elim {P = list_code (kind_of (known_state o v).content) ≡ 1} possible (ℕ_set _ _) (λ p. ap list_code (kind_known v o mine p ∙ is)))

-- its items and its table
pub list_known : (texts : List ℕ) (v : View) (o t : ℕ) → (known_state o v).content ≡ content.List (known_items o v) → Represents texts (held_unboxed o v) (known_state o v) → root_in (held_unboxed o v) ≡ suc t → IsListWords (held_unboxed o v).block (0 ∷ 0 ∷ (held_unboxed o v).table) (Some (class_of t)) (known_items o v) × ((known_state o v).table.keys ≡ [] → (known_state o v).table ≡ record { class = Some (class_of t); fill = 0; keys = [] })
list_known texts v o t is stands names =
    let class = class_known texts (held_unboxed o v) (known_state o v) t stands names in
    let says : IsListWords (held_unboxed o v).block (0 ∷ 0 ∷ (held_unboxed o v).table) (known_state o v).table.class (known_items o v) × ((known_state o v).table.fill ≡ 0) = subst (λ (z : Content). StandsAs texts (held_unboxed o v).block (0 ∷ 0 ∷ (held_unboxed o v).table) (known_state o v).table z) is stands in
    let fill = says.1 in (
      subst (λ (z : Option ℕ). IsListWords (held_unboxed o v).block (0 ∷ 0 ∷ (held_unboxed o v).table) z (known_items o v)) class says.0,
      (λ none d. record { class = class d; fill = fill d; keys = none d }),
    )

-- no version of its items is odd
pub list_shut : (v : View) (o t : ℕ) → ∥ IsReachable v ∥₁ → o < container_count v.shape → has_lock o v.log ≡ true → is_writing o v.log ≡ false → kind_in v.shape.starts o ≡ kind.List → root_in (held_unboxed o v) ≡ suc t → (p : ℕ) → p < slots (class_of t) → item_field (held_unboxed o v).table p 0 % 2 ≡ 0
list_shut v o t possible low mine even is names p row =
    ∥∥₁_elim {P = item_field (held_unboxed o v).table p 0 % 2 ≡ 0} possible (ℕ_set _ _)
    (λ (x : IsReachable v). subst (λ (z : Kind). Shut (version_at z (class_of t)) (rows z (class_of t)) (held_unboxed o v).table) is (shut_reads v o t names (held_shut v o t low x mine even names)) p row)

-- how many items the block counts
pub list_counts : (texts : List ℕ) (v : View) (o : ℕ) → (known_state o v).content ≡ content.List (known_items o v) → Represents texts (held_unboxed o v) (known_state o v) → slice_index (held_unboxed o v).block 1 ≡ length (known_items o v)
list_counts texts v o is stands = (head_of texts (held_unboxed o v).block (0 ∷ 0 ∷ (held_unboxed o v).table) (known_state o v).table (known_state o v).content stands).count_is ∙ ap length_of is

-- a list that isn't empty has a table
no_root : (block words : List ℕ) (class : Option ℕ) (values : List Value) → IsListWords block words class values → slice_index block 0 ≡ 0 → length values ≡ 0
no_root block words None values says none = ap length says.table
no_root block words (Some class) values says none = absurd (let r = says.head.root.1.2 in omega (arith, none, r))

pub list_rooted : (texts : List ℕ) (v : View) (o : ℕ) → (known_state o v).content ≡ content.List (known_items o v) → Represents texts (held_unboxed o v) (known_state o v) → length (known_items o v) ≢ 0 → root_in (held_unboxed o v) ≢ 0
list_rooted texts v o is stands some none =
    let says : IsListWords (held_unboxed o v).block (0 ∷ 0 ∷ (held_unboxed o v).table) (known_state o v).table.class (known_items o v) × ((known_state o v).table.fill ≡ 0) = subst (λ (z : Content). StandsAs texts (held_unboxed o v).block (0 ∷ 0 ∷ (held_unboxed o v).table) (known_state o v).table z) is stands in
    some (no_root (held_unboxed o v).block (0 ∷ 0 ∷ (held_unboxed o v).table) (known_state o v).table.class (known_items o v) says.0 none)

-- loads leave it
pub may_loaded : (k : Shape) (o : ℕ) (v w : View) → v.shape ≡ k → OnlyLoaded v w → MayWriteList k o v → MayWriteList k o w
may_loaded k o v w shape only may =
    let h = only.unboxed o (subst (λ (z : Shape). o < container_count z) (sym shape) may.container) may.locked in
    let n = work_knows v w o only.work in
    record {
      container = may.container;
      kind = may.kind;
      locked = only.work.pass.locks o ∙ may.locked;
      even = λ p. only.work.pass.writes p ∙ may.even p;
      stands = subst (λ (z : ContainerWords × ContainerState). Represents k.texts z.0 z.1) (λ d. (sym h d, sym n d)) may.stands;
      owes = only.work.owes ∙ may.owes;
      boxes = done_then k v w shape only.work.pass.shape only.boxes.references only.boxes.made may.boxes;
      left = subst (λ (z : ℕ). 0 < z) (sym only.work.left) may.left;
    }

-- who holds no reference holds few
pub begins : (k : Shape) (o : ℕ) (v : View) → v.shape ≡ k → MayWriteList k o v → MayBeginList k o v
begins k o v shape may = record {
  container = may.container;
  kind = may.kind;
  locked = may.locked;
  even = may.even;
  stands = may.stands;
  owes = may.owes;
  settled = may.boxes.settled;
  few = few_done k v shape may.boxes;
  left = may.left;
}

pub items_loaded : (o : ℕ) (v w : View) → OnlyLoaded v w → known_items o w ≡ known_items o v
items_loaded o v w only = ap (λ (z : ContainerState). list_of z.content) (work_knows v w o only.work)

-- a pass of a bank that may write a list knows that it is one
pub content_of : (k : Shape) (o : ℕ) (v : View) → v.shape ≡ k → ∥ IsReachable v ∥₁ → MayWriteList k o v → (known_state o v).content ≡ content.List (known_items o v)
content_of k o v same possible may = list_content v o possible may.locked (ap (λ (z : Shape). kind_in z.starts o) same ∙ may.kind)

pub table_loaded : (k : Shape) (o : ℕ) (table : Table) (v w : View) → OnlyLoaded v w → HasTable k o table v → HasTable k o table w
table_loaded k o table v w only has = record { table_in = has.table_in; root = ap root_in (loaded_held v w o only) ∙ has.root }
