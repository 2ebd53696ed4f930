use Rattle.std.proofs.Common.{◌≡◌, ℕ, suc, Option, Some, List, length, sym, ap, ◌∙◌, subst, arith, get_or-set_same}
use Rattle.ft_layout.specs.Containers.{IsBlock}
use Rattle.ft_trace.specs.declared.Act.TheVariants.{PutRoot, StartWrite}
use Rattle.ft_trace.specs.declared.Shape.{Shape}
use Rattle.ft_trace.specs.declared.View.{View}
use Rattle.ft_trace.specs.Acts.{view_after}
use Rattle.ft_trace.specs.Addresses.{class_of, slots}
use Rattle.ft_trace.specs.Boxes.{named_in_root, references_held}
use Rattle.ft_trace.specs.ContainerStates.{kind_in}
use Rattle.ft_trace.specs.Holds.{held_words, held_unboxed, known_state, in_hand, hand_unboxed}
use Rattle.ft_trace.specs.Pictures.{ContainerWords, item_field, root_in}
use Rattle.ft_bank.specs.declared.table.Table.{Table}
use Rattle.ft_bank.specs.Passes.{shape_of, view}
use Rattle.ft_bank.specs.SameBoxes.{named_in_words, MovesReferences, SameReferences}
use Rattle.ft_bank.specs.TableNames.{table_id}
use Rattle.ft_bank.specs.WriteSteps.{KeepsUnwritten, MayPutRoot, with_unboxed_root}
use Rattle.ft_search.proofs.Owning.{keeps_begun, keeps_root, keeps_then}
use Rattle.ft_search.proofs.Puts.{few_same}
use Rattle.ft_list.specs.ListItemWrites.{IsPutting, known_items, stored_item}
use Rattle.ft_list.specs.Internal.NewListTables.{HasRooted, IsFilled}
use Rattle.ft_list.proofs.Cares.{table_class}
use Rattle.ft_list.proofs.Copied.{copied_filled, copied_names}
use Rattle.ft_list.proofs.Filling.{filled_putting}
use Rattle.ft_list.proofs.GrownLists.{grow_content, list_head, may_root, with_other_root}
use Rattle.ft_list.proofs.Rooted.{put_is, put_moved, put_settled, rooted_locks, rooted_odd, start_reads}
use Rattle.ft_list.proofs.SharedItems.{copied_words}
use Rattle.ft_list.proofs.Written.{written_same}
use Rattle.ft_list.proofs.growth.begin_in.Goals as goal
use Rattle.ft_list.proofs.growth.begin_in.Goals.{After-put_root, After-start_write}

-- what the table in hand reads and names
filled_of : (c : After-start_write) → IsFilled (class_of (table_id c.args.table)) (known_items c.args.o (view c.args.pass.now)) (slots (class_of (table_id c.args.table))) (hand_unboxed c.args.o (table_id c.args.table) (view c.args.pass.now))
filled_of c =
    let a = c.args in
    copied_filled (shape_of a.bank.now) a.o a.table (view a.pass.now) c.requires.pass.1 a.pass.now.possible c.requires.may.table_in a.old c.requires.may.list c.requires.copied

names_of : (c : After-start_write) → (b : ℕ) → named_in_root b (kind_in (view c.args.pass.now).shape.starts c.args.o) (suc (table_id c.args.table)) (in_hand (table_id c.args.table) (view c.args.pass.now)) ≡ named_in_words b (kind_in (view c.args.pass.now).shape.starts c.args.o) (held_words c.args.o (view c.args.pass.now))
names_of c =
    let a = c.args in
    copied_names (shape_of a.bank.now) a.o a.table (view a.pass.now) c.requires.pass.1 a.pass.now.possible c.requires.may.table_in a.old c.requires.may.list c.requires.wider c.requires.copied

pub put_root-requires-clause-may : goal.put_root-requires-clause-may
put_root-requires-clause-may c =
    let a = c.args in
    let d = (goal.at.put_root-requires-clause-may c).After-start_write in
    subst (λ (z : View). MayPutRoot z a.o (Some a.table)) (sym c.start_write.ensures.1)
    (may_root (shape_of a.bank.now) a.o a.old a.table (view a.pass.now) c.requires.may c.requires.pass.1 a.pass.now.possible (filled_of d) (names_of d) c.requires.room c.start_write.result)

-- ---- once the root is put

module _ (c : After-put_root) where
  abbrev k : Shape
  k = shape_of c.args.bank.now

  abbrev root : Option Table
  root = Some c.args.table

  rooted_is : view c.put_root.new.pass ≡ view_after (PutRoot c.args.o (suc (table_id c.args.table)) (root_in (held_words c.args.o (view c.args.pass.now)))) (view_after (StartWrite c.args.o c.start_write.result) (view c.args.pass.now))
  rooted_is = put_is k c.args.o c.args.old root (view c.args.pass.now) (view c.start_write.new.pass) (view c.put_root.new.pass) c.start_write.result c.requires.pass.1 c.requires.may.list c.requires.may.settled c.start_write.ensures.1 c.put_root.ensures.did.1 c.put_root.ensures.held c.put_root.ensures.moves

  same_is : SameReferences (view c.args.pass.now) (view c.put_root.new.pass)
  same_is = put_moved k c.args.o c.args.old root (view c.args.pass.now) (view c.start_write.new.pass) (view c.put_root.new.pass) c.start_write.result c.requires.pass.1 c.requires.may.list c.requires.may.settled c.start_write.ensures.1 c.put_root.ensures.did.1 c.put_root.ensures.held c.put_root.ensures.moves (copied_names k c.args.o c.args.table (view c.args.pass.now) c.requires.pass.1 c.args.pass.now.possible c.requires.may.table_in c.args.old c.requires.may.list c.requires.wider c.requires.copied)

  -- what the words read then
  reads_is : held_unboxed c.args.o (view c.put_root.new.pass) ≡ with_unboxed_root (held_unboxed c.args.o (view c.args.pass.now)) c.args.o root (view c.args.pass.now)
  reads_is =
      c.put_root.ensures.unboxed
      ∙ (ap (λ (z : View). with_unboxed_root (held_unboxed c.args.o z) c.args.o root z) c.start_write.ensures.1
      ∙ start_reads c.args.o c.start_write.result (view c.args.pass.now) root)

  rooted_so : HasRooted c.args.o (suc (table_id c.args.table)) (view c.args.pass.now) (view c.put_root.new.pass)
  rooted_so = record {
    start = c.start_write.result;
    rooted = view c.put_root.new.pass;
    did = rooted_is;
    keeps = subst (λ (z : View). KeepsUnwritten z (view c.put_root.new.pass)) c.start_write.ensures.1 c.put_root.ensures.keeps;
    moves = subst (λ (z : View). MovesReferences c.args.o z (view c.put_root.new.pass)) c.start_write.ensures.1 c.put_root.ensures.moves;
    only = written_same c.args.o (view c.put_root.new.pass);
  }

  same_size : length (held_unboxed c.args.o (view c.args.pass.now)).block ≡ 6
  same_size = (list_head k.texts (view c.args.pass.now) c.args.o (grow_content k c.args.o c.args.old c.args.table (view c.args.pass.now) c.requires.may c.requires.pass.1 c.args.pass.now.possible) c.requires.may.list.stands).size

  -- the list has the block with the other root
  block_is : IsBlock (held_unboxed c.args.o (view c.put_root.new.pass)).block (Some (class_of (table_id c.args.table))) (length (known_items c.args.o (view c.args.pass.now))) 0 0
  block_is =
      let a = c.args in
      let v = view a.pass.now in
      let class = class_of (table_id a.table) in
      let head = with_other_root (held_unboxed a.o v).block (known_state a.o v).table.class k a.table (length (known_items a.o v))
      (list_head k.texts v a.o (grow_content k a.o a.old a.table v c.requires.may c.requires.pass.1 a.pass.now.possible) c.requires.may.list.stands) c.requires.may.table_in in
      subst (λ (x : ContainerWords). IsBlock x.block (Some class) (length (known_items a.o v)) 0 0) (sym reads_is) head

pub returns-clause-rooted : goal.returns-clause-rooted
returns-clause-rooted c = rooted_so (goal.at.returns-clause-rooted c).After-put_root

pub returns-clause-references : goal.returns-clause-references
returns-clause-references c = same_is (goal.at.returns-clause-references c).After-put_root

pub returns-clause-keeps : goal.returns-clause-keeps
returns-clause-keeps c =
    let a = c.args in
    let v = view a.pass.now in
    let s = view c.start_write.new.pass in
    let r = view c.put_root.new.pass in
    let whole = same_is (goal.at.returns-clause-keeps c).After-put_root in
    let same : SameReferences s r = λ b. whole b ∙ sym (ap (λ (z : View). references_held z.shape b z.log) c.start_write.ensures.1) in
    keeps_then v s r (keeps_begun v s a.o c.start_write.result c.start_write.ensures.1)
    (keeps_root s r a.o (suc (table_id a.table)) (root_in (held_words a.o s)) c.put_root.ensures.did.1 same)

pub returns-clause-list : goal.returns-clause-list
returns-clause-list c =
    let a = c.args in
    let v = view a.pass.now in
    let k = shape_of a.bank.now in
    let d = (goal.at.returns-clause-list c).After-put_root in
    let h = rooted_so d in
    let list = c.requires.may.list in
    let size = same_size d in
    record {
      container = list.container;
      kind = list.kind;
      table_in = c.requires.may.table_in;
      locked = rooted_locks a.o (suc (table_id a.table)) v (view c.put_root.new.pass) h a.o ∙ list.locked;
      odd = rooted_odd a.o (suc (table_id a.table)) v (view c.put_root.new.pass) h;
      root = ap root_in (reads_is d) ∙ get_or-set_same (held_unboxed a.o v).block 0 (suc (table_id a.table)) 0 (omega (arith, size));
      settled = put_settled k a.o a.old (Some a.table) v (view c.start_write.new.pass) (view c.put_root.new.pass) c.start_write.result c.requires.pass.1 list c.requires.may.settled c.start_write.ensures.1 c.put_root.ensures.did.1 c.put_root.ensures.held c.put_root.ensures.moves;
      few = few_same v (view c.put_root.new.pass) (same_is d) c.requires.may.few;
    }

pub returns-clause-putting : goal.returns-clause-putting
returns-clause-putting c first past =
    let a = c.args in
    let k = shape_of a.bank.now in
    let v = view a.pass.now in
    let class = class_of (table_id a.table) in
    let d = (goal.at.returns-clause-putting c).After-put_root in
    subst (λ (x : ContainerWords). IsPutting class (known_items a.o v) first past (stored_item (known_items a.o v)) x.table) (sym (reads_is d))
    (filled_putting class (table_class k a.table c.requires.may.table_in) (known_items a.o v) (hand_unboxed a.o (table_id a.table) v) (filled_of (goal.at.returns-clause-putting c).After-start_write) first past)

pub returns-clause-content : goal.returns-clause-content
returns-clause-content c =
    let a = c.args in
    grow_content (shape_of a.bank.now) a.o a.old a.table (view a.pass.now) c.requires.may c.requires.pass.1 a.pass.now.possible

pub returns-clause-head : goal.returns-clause-head
returns-clause-head c = block_is (goal.at.returns-clause-head c).After-put_root

-- each item names the same box in the other table
pub returns-clause-items : goal.returns-clause-items
returns-clause-items c place low =
    let a = c.args in
    let v = view a.pass.now in
    let s = view c.start_write.new.pass in
    let r = view c.put_root.new.pass in
    let words : (held_words a.o r).table ≡ in_hand (table_id a.table) v = ap (λ (x : ContainerWords). x.table) c.put_root.ensures.held ∙ ap (in_hand (table_id a.table)) c.start_write.ensures.1 in
    let same = copied_words (shape_of a.bank.now) a.o a.old v (class_of (table_id a.table)) (slots (class_of (table_id a.table))) (in_hand (table_id a.table) v) c.requires.may.list c.requires.pass.1 a.pass.now.possible c.requires.copied c.requires.room place low in
    (ap (λ (l : List ℕ). item_field l place 1) words ∙ same.0, ap (λ (l : List ℕ). item_field l place 2) words ∙ same.1)
