-- What a list and its words are once its write is committed and its versions are even.
use Rattle.std.proofs.Common.{◌≡◌, ℕ, suc, ◌<◌, List, length, Option, Some, refl, sym, ap, ◌∙◌, subst, arith, ◌≢◌, length-set, get_or-set_same, get_or-set_other, []}
use Rattle.std.specs.Prelude.{slice_index, slice_set}
use Rattle.ft_model.specs.declared.call.Call.{Call}
use Rattle.ft_model.specs.declared.content.Content.TheVariants as content
use Rattle.ft_model.specs.declared.data.Value.{Value}
use Rattle.ft_model.specs.declared.reply.Reply.{Reply}
use Rattle.ft_model.specs.declared.script.Kind.{Kind}
use Rattle.ft_model.specs.declared.script.Kind.TheVariants as kind
use Rattle.ft_model.specs.Worlds.{list_of}
use Rattle.ft_layout.specs.Containers.{IsRoot, IsBlock}
use Rattle.ft_trace.specs.declared.Shape.{Shape}
use Rattle.ft_trace.specs.declared.View.{View}
use Rattle.ft_trace.specs.Addresses.{class_of}
use Rattle.ft_trace.specs.ContainerStates.{ContainerState, kind_in}
use Rattle.ft_trace.specs.Pictures.{ContainerWords, root_in, Represents}
use Rattle.ft_trace.specs.Kinds.{rows, version_at}
use Rattle.ft_trace.specs.OddVersions.{Shut}
use Rattle.ft_trace.specs.Holds.{held_unboxed, known_state}
use Rattle.ft_bank.specs.declared.table.Table.{Table}
use Rattle.ft_bank.specs.TableNames.{table_id}
use Rattle.ft_bank.specs.WriteSteps.{Committed, IsShut, with_block}
use Rattle.ft_bank.specs.Whole.{SameWork}
use Rattle.ft_bank.proofs.KnownAfterWrites.{work_knows}
use Rattle.ft_list.specs.ListItemWrites.{IsChanging, MayFinishItems, WritesList, known_items}
use Rattle.ft_list.proofs.PutItems.{all_shut}

-- a list with these items and a table of this class
abbrev pub list_kept : Table → List Value → ContainerState
list_kept table values = record { content = content.List values; table = record { class = Some (class_of (table_id table)); fill = 0; keys = [] } }

pub kept_after : (o : ℕ) (table : Table) (called : Call) (said : Reply) (first past : ℕ) (u w : View) → (m : MayFinishItems o table called said first past u) → Committed u w called → known_state o w ≡ list_kept table m.after
kept_after o table called said first past u w m committed = committed.left o ∙ m.left committed.found committed.has

pub list_stands : (texts : List ℕ) (table : Table) (values before : List Value) (first past : ℕ) (words : ContainerWords) (kept : ContainerState) → kept ≡ list_kept table values → IsBlock words.block (Some (class_of (table_id table))) (length values) 0 0 → IsChanging (class_of (table_id table)) before values first past words.table → Represents texts words kept
list_stands texts table values before first past words kept is head changing =
    subst (Represents texts words) (sym is) (record { head = head; table = changing.table }, refl)

pub list_is_shut : (k : Shape) (o : ℕ) (table : Table) (v : View) (before now : List Value) (past : ℕ) → WritesList k o table v → v.shape ≡ k → IsChanging (class_of (table_id table)) before now past past (held_unboxed o v).table → IsShut o v
list_is_shut k o table v before now past list shape changing t names =
    let class = class_of (table_id table) in
    let same : table_id table ≡ t = let e : suc (table_id table) ≡ suc t = sym list.root ∙ names in omega (arith, e) in
    let is_kind : kind.List ≡ kind_in v.shape.starts o = sym (ap (λ (z : Shape). kind_in z.starts o) shape ∙ list.kind) in
    let shut : Shut (version_at kind.List class) (rows kind.List class) (held_unboxed o v).table = all_shut class before now past past (held_unboxed o v).table changing (omega arith) in
    subst (λ (n : ℕ). Shut (version_at (kind_in v.shape.starts o) (class_of n)) (rows (kind_in v.shape.starts o) (class_of n)) (held_unboxed o v).table) same
    (subst (λ (z : Kind). Shut (version_at z class) (rows z class) (held_unboxed o v).table) is_kind shut)

-- the words stand for the list once its versions are even
pub stands_at_end : (texts : List ℕ) (o : ℕ) (table : Table) (called : Call) (said : Reply) (first past : ℕ) (u w z : View) → (m : MayFinishItems o table called said first past u) → Committed u w called → held_unboxed o w ≡ held_unboxed o u → SameWork w z → (held_unboxed o z).block ≡ (held_unboxed o w).block → IsChanging (class_of (table_id table)) (known_items o w) (known_items o w) past past (held_unboxed o z).table → Represents texts (held_unboxed o z) (known_state o z)
stands_at_end texts o table called said first past u w z m committed same work block closed =
    let class = class_of (table_id table) in
    let after = kept_after o table called said first past u w m committed in
    let items : known_items o w ≡ m.after = ap (λ (k : ContainerState). list_of k.content) after in
    let blocks : (held_unboxed o u).block ≡ (held_unboxed o z).block = sym (block ∙ ap (λ (x : ContainerWords). x.block) same) in
    list_stands texts table m.after m.after past past (held_unboxed o z) (known_state o z)
    (work_knows w z o work ∙ after)
    (subst (λ (b : List ℕ). IsBlock b (Some class) (length m.after) 0 0) blocks m.head)
    (subst (λ (l : List Value). IsChanging class l l past past (held_unboxed o z).table) items closed)

-- a block that counts another number of items
pub with_count : (b : List ℕ) (class : Option ℕ) (old new : ℕ) → IsBlock b class old 0 0 → IsBlock (slice_set b 1 new) class new 0 0
with_count b class old new h =
    let size_is = h.size in
    let other : (i : ℕ) → i ≢ 1 → slice_index (slice_set b 1 new) i ≡ slice_index b i = λ i ne. get_or-set_other b 1 i new 0 ne in
    record {
      size = length-set b 1 new ∙ h.size;
      root = subst (λ (r : ℕ). IsRoot r class) (sym (other 0 (λ e. absurd (omega (arith, e))))) h.root;
      count_is = get_or-set_same b 1 new 0 (omega (arith, size_is));
      fill_is = other 2 (λ e. absurd (omega (arith, e))) ∙ h.fill_is;
      next_is = other 3 (λ e. absurd (omega (arith, e))) ∙ h.next_is;
      spare = (other 4 (λ e. absurd (omega (arith, e))) ∙ h.spare.0, other 5 (λ e. absurd (omega (arith, e))) ∙ h.spare.1);
    }

-- a put of another word of the block leaves the root
pub root_stays : (old new : ContainerWords) (i x : ℕ) → 0 < i → new ≡ with_block old i x → root_in new ≡ root_in old
root_stays old new i x some is = ap root_in is ∙ get_or-set_other old.block i 0 x 0 (λ e. omega (arith, e, some))
