use Rattle.std.proofs.Common.{◌≡◌, ℕ, ◌+◌, ◌<◌, ◌≤◌, true, false, cond, List, sym, ap, ◌∙◌, subst, arith, le-ltb, lt-ltb}
use Rattle.std.specs.Prelude.{nat_lt, slice_index}
use Rattle.ft_trace.specs.declared.Act.TheVariants.{ReadTable}
use Rattle.ft_trace.specs.declared.View.{View}
use Rattle.ft_trace.specs.Boxes.{names_box, references_held}
use Rattle.ft_trace.specs.Holds.{in_hand}
use Rattle.ft_bank.specs.Passes.{shape_of, view}
use Rattle.ft_bank.specs.TableNames.{table_id}
use Rattle.ft_bank.specs.Whole.{OnlyLoaded}
use Rattle.ft_bank.proofs.DoneBoxes.{settled_then, stays_settled_same}
use Rattle.ft_bank.proofs.KnownAfterWrites.{boxed_then, loaded_boxed, loaded_by}
use Rattle.ft_table_calls.proofs.Dropped.{hand_same, held_loaded, keeps_loads}
use Rattle.ft_boxes.proofs.Steps.{keeps_then}
use Rattle.ft_new_keys.proofs.gone.drop_entry.Goals as goal
use Rattle.ft_new_keys.proofs.gone.drop_entry.Goals.{After-read_word-key_kind}

module _ (c : After-read_word-key_kind) where
  abbrev u : View
  u = view c.args.pass.now

  abbrev v : View
  v = view c.read_word-key_kind.new.pass

  loads : OnlyLoaded (view c.args.pass.now) (view c.read_word-key_kind.new.pass)
  loads = loaded_by (ReadTable (table_id c.args.table) (c.args.entry + 2) c.read_word-key_kind.result) u v tt c.read_word-key_kind.ensures.did.1

  key_is : c.read_word-key_kind.result ≡ slice_index (in_hand (table_id c.args.table) (view c.args.pass.now)) (c.args.entry + 2)
  key_is = c.read_word-key_kind.ensures.taken c.requires.out

  hand_is : in_hand (table_id c.args.table) (view c.read_word-key_kind.new.pass) ≡ in_hand (table_id c.args.table) (view c.args.pass.now)
  hand_is = hand_same u v (table_id c.args.table) loads.work.pass.shape loads.words

-- ---- a key that is there

pub returns-then-key_kind-lt-FIRST_GONE-clause-only : goal.returns-then-key_kind-lt-FIRST_GONE-clause-only
returns-then-key_kind-lt-FIRST_GONE-clause-only c = let d = (goal.at.returns-then-key_kind-lt-FIRST_GONE-clause-only c).After-read_word-key_kind in loaded_boxed (u d) (v d) (loads d)

pub returns-then-key_kind-lt-FIRST_GONE-clause-made : goal.returns-then-key_kind-lt-FIRST_GONE-clause-made
returns-then-key_kind-lt-FIRST_GONE-clause-made c = let d = (goal.at.returns-then-key_kind-lt-FIRST_GONE-clause-made c).After-read_word-key_kind in stays_settled_same (u d) (v d) (loads d).boxes.made

pub returns-then-key_kind-lt-FIRST_GONE-clause-values : goal.returns-then-key_kind-lt-FIRST_GONE-clause-values
returns-then-key_kind-lt-FIRST_GONE-clause-values c = let d = (goal.at.returns-then-key_kind-lt-FIRST_GONE-clause-values c).After-read_word-key_kind in keeps_loads (u d) (v d) c.args.pass.now.possible (loads d)

pub returns-then-key_kind-lt-FIRST_GONE-clause-references : goal.returns-then-key_kind-lt-FIRST_GONE-clause-references
returns-then-key_kind-lt-FIRST_GONE-clause-references c b =
    let d = (goal.at.returns-then-key_kind-lt-FIRST_GONE-clause-references c).After-read_word-key_kind in
    let k = shape_of c.args.bank.now in
    let hand = in_hand (table_id c.args.table) (view c.args.pass.now) in
    let same = held_loaded k (u d) (v d) c.requires.pass.1 (loads d) b in
    let low : nat_lt (slice_index hand (c.args.entry + 2)) 3 ≡ true = ap (λ (n : ℕ). nat_lt n 3) (sym (key_is d)) ∙ lt-ltb (c.read_word-key_kind.result) 3 c.if-key_kind-lt-FIRST_GONE.true in
    let none : cond (nat_lt (slice_index hand (c.args.entry + 2)) 3) 0 (names_box b (slice_index hand (c.args.entry + 4)) (slice_index hand (c.args.entry + 5))) ≡ 0 = (λ j. cond (low j) 0 (names_box b (slice_index hand (c.args.entry + 4)) (slice_index hand (c.args.entry + 5)))) in
    omega (arith, same, none)

-- ---- a deleted one

gone : (c : After-read_word-key_kind) → 3 ≤ c.read_word-key_kind.result → nat_lt (slice_index (in_hand (table_id c.args.table) (view c.args.pass.now)) (c.args.entry + 2)) 3 ≡ false
gone c high = ap (λ (n : ℕ). nat_lt n 3) (sym (key_is c)) ∙ le-ltb c.read_word-key_kind.result 3 high

pub drop_value-requires-clause-out : goal.drop_value-requires-clause-out
drop_value-requires-clause-out c = let d = (goal.at.drop_value-requires-clause-out c).After-read_word-key_kind in (loads d).work.hands (table_id c.args.table) ∙ c.requires.out

pub drop_value-requires-clause-settled : goal.drop_value-requires-clause-settled
drop_value-requires-clause-settled c = let d = (goal.at.drop_value-requires-clause-settled c).After-read_word-key_kind in (stays_settled_same (u d) (v d) (loads d).boxes.made).settled c.requires.settled

pub drop_value-requires-clause-held : goal.drop_value-requires-clause-held
drop_value-requires-clause-held c =
    let d = (goal.at.drop_value-requires-clause-held c).After-read_word-key_kind in
    let k = shape_of c.args.bank.now in
    let hand = in_hand (table_id c.args.table) (view c.args.pass.now) in
    let same = hand_is d in
    let next : c.args.entry + 4 + 1 ≡ c.args.entry + 5 = omega arith in
    let high : 3 ≤ c.read_word-key_kind.result = let z = c.if-key_kind-lt-FIRST_GONE.false in omega (arith, z) in
    λ four.
    subst (λ (n : ℕ). 0 < references_held k n (v d).log) (λ i. slice_index (sym same i) (sym next i))
    (subst (λ (n : ℕ). 0 < n) (sym (held_loaded k (u d) (v d) c.requires.pass.1 (loads d) (slice_index hand (c.args.entry + 5))))
    (c.requires.held (gone d high) (ap (λ (l : List ℕ). slice_index l (c.args.entry + 4)) (sym same) ∙ four)))

pub returns-clause-only : goal.returns-clause-only
returns-clause-only c = let d = (goal.at.returns-clause-only c).After-read_word-key_kind in boxed_then (u d) (v d) (view c.drop_value.new.pass) (loaded_boxed (u d) (v d) (loads d)) c.drop_value.ensures.only

pub returns-clause-made : goal.returns-clause-made
returns-clause-made c = let d = (goal.at.returns-clause-made c).After-read_word-key_kind in settled_then (u d) (v d) (view c.drop_value.new.pass) (stays_settled_same (u d) (v d) (loads d).boxes.made) c.drop_value.ensures.made

pub returns-clause-references : goal.returns-clause-references
returns-clause-references c b =
    let d = (goal.at.returns-clause-references c).After-read_word-key_kind in
    let k = shape_of c.args.bank.now in
    let hand = in_hand (table_id c.args.table) (view c.args.pass.now) in
    let high : 3 ≤ c.read_word-key_kind.result = let z = c.if-key_kind-lt-FIRST_GONE.false in omega (arith, z) in
    let off = gone d high in
    let same = held_loaded k (u d) (v d) c.requires.pass.1 (loads d) b in
    let less = c.drop_value.ensures.references b in
    let next : c.args.entry + 4 + 1 ≡ c.args.entry + 5 = omega arith in
    let words : names_box b (slice_index (in_hand (table_id c.args.table) (v d)) (c.args.entry + 4)) (slice_index (in_hand (table_id c.args.table) (v d)) (c.args.entry + 4 + 1)) ≡ names_box b (slice_index hand (c.args.entry + 4)) (slice_index hand (c.args.entry + 5)) = (λ j. names_box b (slice_index (hand_is d j) (c.args.entry + 4)) (slice_index (hand_is d j) (next j))) in
    let all : cond (nat_lt (slice_index hand (c.args.entry + 2)) 3) 0 (names_box b (slice_index hand (c.args.entry + 4)) (slice_index hand (c.args.entry + 5))) ≡ names_box b (slice_index hand (c.args.entry + 4)) (slice_index hand (c.args.entry + 5)) = (λ j. cond (off j) 0 (names_box b (slice_index hand (c.args.entry + 4)) (slice_index hand (c.args.entry + 5)))) in
    omega (arith, same, less, words, all)

pub returns-clause-values : goal.returns-clause-values
returns-clause-values c =
    let d = (goal.at.returns-clause-values c).After-read_word-key_kind in
    keeps_then (u d) (v d) (view c.drop_value.new.pass) (sym (loads d).work.pass.shape) (loads d).boxes.references (keeps_loads (u d) (v d) c.args.pass.now.possible (loads d)) c.drop_value.ensures.values
