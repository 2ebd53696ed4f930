use Rattle.std.proofs.Common.{◌≡◌, ℕ, ◌+◌, ◌<◌, ◌≤◌, ◌^◌, List, refl, sym, ap, ◌∙◌, subst, arith}
use Rattle.std.specs.Prelude.{slice_index}
use Rattle.ft_trace.specs.declared.Act.TheVariants.{ReadTable}
use Rattle.ft_trace.specs.declared.View.{View}
use Rattle.ft_trace.specs.Addresses.{IsBoxName}
use Rattle.ft_trace.specs.Boxes.{names_box, references_held, IsSettled, KeepsBox}
use Rattle.ft_trace.specs.Holds.{in_hand}
use Rattle.ft_bank.specs.Passes.{shape_of, view}
use Rattle.ft_bank.specs.SameBoxes.{HoldsFew}
use Rattle.ft_bank.specs.TableNames.{table_id}
use Rattle.ft_bank.specs.Whole.{OnlyBoxed, OnlyLoaded}
use Rattle.ft_bank.proofs.DoneBoxes.{settled_then, stays_settled_same}
use Rattle.ft_bank.proofs.KnownAfterWrites.{boxed_then, gains_fewer, gains_then, loaded_boxed, loaded_by, loaded_then}
use Rattle.ft_boxes.proofs.Heaps.{loaded_then as loaded_keeps_then}
use Rattle.ft_search.proofs.Overs.{boxed_names, other_way, plain_names}
use Rattle.ft_table_calls.proofs.Dropped.{hand_same, held_loaded, keeps_loads}
use Rattle.ft_replacing.proofs.NamedRows.{kept_boxed}
use Rattle.ft_replacing.proofs.raising.raise_value.Goals as goal
use Rattle.ft_replacing.proofs.raising.raise_value.Goals.{After-read_word-kind, After-read_word-named}

load_kind : (c : After-read_word-kind) → OnlyLoaded (view c.args.pass.now) (view c.read_word-kind.new.pass)
load_kind c = loaded_by (ReadTable (table_id c.args.table) c.args.word c.read_word-kind.result) (view c.args.pass.now) (view c.read_word-kind.new.pass) tt c.read_word-kind.ensures.did.1

kind_is : (c : After-read_word-kind) → c.read_word-kind.result ≡ slice_index (in_hand (table_id c.args.table) (view c.args.pass.now)) c.args.word
kind_is c = c.read_word-kind.ensures.fresh c.requires.fresh

module _ (c : After-read_word-named) where
  abbrev t : ℕ
  t = table_id c.args.table

  abbrev u : View
  u = view c.args.pass.now

  abbrev v : View
  v = view c.read_word-kind.new.pass

  abbrev w : View
  w = view c.read_word-named.new.pass

  first : OnlyLoaded u v
  first = loaded_by (ReadTable t c.args.word c.read_word-kind.result) u v tt c.read_word-kind.ensures.did.1

  loads : OnlyLoaded u w
  loads = loaded_then u v w first (loaded_by (ReadTable t (c.args.word + 1) c.read_word-named.result) v w tt c.read_word-named.ensures.did.1)

  named_is : c.read_word-named.result ≡ slice_index (in_hand (table_id c.args.table) (view c.args.pass.now)) (c.args.word + 1)
  named_is =
      c.read_word-named.ensures.fresh (first.work.hands t ∙ c.requires.fresh)
      ∙ ap (λ (l : List ℕ). slice_index l (c.args.word + 1)) (hand_same u v t first.work.pass.shape first.words)

  four : slice_index (in_hand (table_id c.args.table) (view c.args.pass.now)) c.args.word ≡ 4
  four = sym (c.read_word-kind.ensures.fresh c.requires.fresh) ∙ c.if-kind-ne-BOX_KIND.false

  boxed : OnlyBoxed (view c.args.pass.now) (view c.read_word-named.new.pass)
  boxed = loaded_boxed u w loads

  -- the box is kept on
  source : IsBoxName (shape_of c.args.bank.now) c.read_word-named.result × KeepsBox (shape_of c.args.bank.now) c.read_word-named.result (view c.read_word-named.new.pass).log
  source =
      let k = shape_of c.args.bank.now in
      let n = slice_index (in_hand (table_id c.args.table) (view c.args.pass.now)) (c.args.word + 1) in
      let kept = c.requires.kept four in
      let held = held_loaded k u w c.requires.pass.1 loads n in
      subst (λ (b : ℕ). IsBoxName k b × KeepsBox k b w.log) (sym named_is)
      (kept.0, kept_boxed k n u w c.requires.pass.1 boxed (omega (arith, held)) kept.1)

  settled : IsSettled (view c.read_word-named.new.pass).log
  settled = (stays_settled_same u w loads.boxes.made).settled c.requires.settled

  few : HoldsFew (view c.read_word-named.new.pass)
  few b = subst (λ (n : ℕ). n < 2 ^ 31) (sym (loads.boxes.references b)) (c.requires.few b)

pub read_word-kind-requires-clause-word : goal.read_word-kind-requires-clause-word
read_word-kind-requires-clause-word c = let n = c.requires.word in omega (arith, n)

pub overflow_add-word : goal.overflow_add-word
overflow_add-word c = let n = c.requires.word in let s = c.requires.start.1 in let l = c.args.bank.now.low in omega (arith, n, s, l)

pub raise_named-requires-clause-name : goal.raise_named-requires-clause-name
raise_named-requires-clause-name c = (source (goal.at.raise_named-requires-clause-name c).After-read_word-named).0

pub raise_named-requires-clause-kept : goal.raise_named-requires-clause-kept
raise_named-requires-clause-kept c = (source (goal.at.raise_named-requires-clause-kept c).After-read_word-named).1

pub raise_named-requires-clause-settled : goal.raise_named-requires-clause-settled
raise_named-requires-clause-settled c = settled (goal.at.raise_named-requires-clause-settled c).After-read_word-named

pub raise_named-requires-clause-few : goal.raise_named-requires-clause-few
raise_named-requires-clause-few c = few (goal.at.raise_named-requires-clause-few c).After-read_word-named

-- ---- a value in place

pub returns-then-kind-ne-BOX_KIND-clause-only : goal.returns-then-kind-ne-BOX_KIND-clause-only
returns-then-kind-ne-BOX_KIND-clause-only c =
    loaded_boxed (view c.args.pass.now) (view c.read_word-kind.new.pass) (load_kind (goal.at.returns-then-kind-ne-BOX_KIND-clause-only c).After-read_word-kind)

pub returns-then-kind-ne-BOX_KIND-clause-stays : goal.returns-then-kind-ne-BOX_KIND-clause-stays
returns-then-kind-ne-BOX_KIND-clause-stays c =
    stays_settled_same (view c.args.pass.now) (view c.read_word-kind.new.pass) (load_kind (goal.at.returns-then-kind-ne-BOX_KIND-clause-stays c).After-read_word-kind).boxes.made

pub returns-then-kind-ne-BOX_KIND-clause-values : goal.returns-then-kind-ne-BOX_KIND-clause-values
returns-then-kind-ne-BOX_KIND-clause-values c =
    keeps_loads (view c.args.pass.now) (view c.read_word-kind.new.pass) c.args.pass.now.possible (load_kind (goal.at.returns-then-kind-ne-BOX_KIND-clause-values c).After-read_word-kind)

-- loads raise nothing
gains_loads : (v w : View) → OnlyLoaded v w → (b : ℕ) → references_held w.shape b w.log ≤ references_held v.shape b v.log
gains_loads v w l b = let same = l.boxes.references b in omega (arith, same)

pub returns-then-kind-ne-BOX_KIND-clause-gains : goal.returns-then-kind-ne-BOX_KIND-clause-gains
returns-then-kind-ne-BOX_KIND-clause-gains c =
    let v = view c.args.pass.now in
    let w = view c.read_word-kind.new.pass in
    let l = load_kind (goal.at.returns-then-kind-ne-BOX_KIND-clause-gains c).After-read_word-kind in
    gains_fewer v w (loaded_boxed v w l) (gains_loads v w l)

pub returns-then-kind-ne-BOX_KIND-clause-references : goal.returns-then-kind-ne-BOX_KIND-clause-references
returns-then-kind-ne-BOX_KIND-clause-references c b =
    let d = (goal.at.returns-then-kind-ne-BOX_KIND-clause-references c).After-read_word-kind in
    let hand = in_hand (table_id c.args.table) (view c.args.pass.now) in
    let none = plain_names b (slice_index hand c.args.word) (slice_index hand (c.args.word + 1)) (λ z. c.if-kind-ne-BOX_KIND.true (kind_is d ∙ z)) in
    let same = held_loaded (shape_of c.args.bank.now) (view c.args.pass.now) (view c.read_word-kind.new.pass) c.requires.pass.1 (load_kind d) b in
    omega (arith, none, same)

-- ---- a value in a box

pub returns-clause-only : goal.returns-clause-only
returns-clause-only c =
    let d = (goal.at.returns-clause-only c).After-read_word-named in
    boxed_then (view c.args.pass.now) (view c.read_word-named.new.pass) (view c.raise_named.new.pass) (loaded_boxed (view c.args.pass.now) (view c.read_word-named.new.pass) (loads d)) c.raise_named.ensures.only

pub returns-clause-stays : goal.returns-clause-stays
returns-clause-stays c =
    let d = (goal.at.returns-clause-stays c).After-read_word-named in
    settled_then (view c.args.pass.now) (view c.read_word-named.new.pass) (view c.raise_named.new.pass) (stays_settled_same (view c.args.pass.now) (view c.read_word-named.new.pass) (loads d).boxes.made)
    (record { settled = λ s. c.raise_named.ensures.settled; places = c.raise_named.ensures.places })

pub returns-clause-values : goal.returns-clause-values
returns-clause-values c =
    let d = (goal.at.returns-clause-values c).After-read_word-named in
    (loaded_keeps_then (view c.args.pass.now) (view c.read_word-named.new.pass) (view c.raise_named.new.pass) c.args.pass.now.possible (loads d) c.raise_named.ensures.only c.raise_named.ensures.values).1

pub returns-clause-gains : goal.returns-clause-gains
returns-clause-gains c =
    let d = (goal.at.returns-clause-gains c).After-read_word-named in
    let v = view c.args.pass.now in
    let w = view c.read_word-named.new.pass in
    gains_then v w (view c.raise_named.new.pass) (gains_fewer v w (loaded_boxed v w (loads d)) (gains_loads v w (loads d))) c.raise_named.ensures.gains

pub returns-clause-references : goal.returns-clause-references
returns-clause-references c b =
    let d = (goal.at.returns-clause-references c).After-read_word-named in
    let k = shape_of c.args.bank.now in
    let hand = in_hand (table_id c.args.table) (view c.args.pass.now) in
    let same = held_loaded k (view c.args.pass.now) (view c.read_word-named.new.pass) c.requires.pass.1 (loads d) b in
    let more = c.raise_named.ensures.references b in
    let names = boxed_names b (slice_index hand c.args.word) (slice_index hand (c.args.word + 1)) (four d) in
    let other = other_way (slice_index hand (c.args.word + 1)) b in
    let at = ap (λ (n : ℕ). names_box b 4 n) (named_is d) in
    let one = boxed_names b 4 c.read_word-named.result refl in
    let way = other_way c.read_word-named.result b in
    let two = boxed_names b 4 (slice_index hand (c.args.word + 1)) refl in
    omega (arith, same, more, names, other, at, one, way, two)
