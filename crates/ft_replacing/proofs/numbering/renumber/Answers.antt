use Rattle.std.proofs.Common.{◌≡◌, ◌<◌, ℕ, suc, ◌+◌, ◌*◌, refl, ap, ◌∙◌, arith}
use Rattle.std.specs.Prelude.{slice_set}
use Rattle.ft_trace.specs.declared.Act.TheVariants.{PutFresh}
use Rattle.ft_trace.specs.declared.View.{View}
use Rattle.ft_trace.specs.Addresses.{class_of, size, slots}
use Rattle.ft_trace.specs.Holds.{in_hand}
use Rattle.ft_trace.specs.Pictures.{entry_offset}
use Rattle.ft_bank.specs.Passes.{view}
use Rattle.ft_bank.specs.TableNames.{table_id}
use Rattle.ft_bank.proofs.TableAddresses.{class_is}
use Rattle.ft_table_calls.proofs.Rooting.{filled_by, filled_same, filled_then}
use Rattle.ft_search.proofs.WordPlaces.{slots_of_class}
use Rattle.ft_new_keys.proofs.FilledTables.{table_is_long}
use Rattle.ft_replacing.specs.Internal.Numbering.{renumbered}
use Rattle.ft_replacing.proofs.numbering.renumber.Goals as goal
use Rattle.ft_replacing.proofs.numbering.renumber.Goals.{After-mask_of-slots}

-- how many slots the table has
wide : (c : After-mask_of-slots) → c.mask_of-slots.result + 1 ≡ slots (class_of (table_id c.args.table))
wide c =
    let t = c.args.table in
    let class = class_is t c.requires.table.2 in
    let mask = c.mask_of-slots.ensures in
    let some = slots_of_class t.class in
    let n : slots (class_of (table_id t)) ≡ slots t.class = ap slots class in
    omega (arith, mask, some, n)

pub mask_of-slots-requires : goal.mask_of-slots-requires
mask_of-slots-requires c = c.requires.table.0

pub loop-place-init : goal.loop-place-init
loop-place-init c = record { pass = c.requires.pass; stack = refl; only = filled_same (view c.args.pass.now); words = refl }

pub put_fresh-requires-clause-pass : goal.put_fresh-requires-clause-pass
put_fresh-requires-clause-pass c = c.loop-place.invariant.pass

pub put_fresh-requires-clause-fresh : goal.put_fresh-requires-clause-fresh
put_fresh-requires-clause-fresh c = c.loop-place.invariant.only.work.hands (table_id c.args.table) ∙ c.requires.fresh

-- the word is one of the table
inside : (c : After-mask_of-slots) (place : ℕ) → place < c.args.count → 8 * place + 6 + (c.mask_of-slots.result + 1) < size (class_of (table_id c.args.table))
inside c place low =
    let t = c.args.table in
    let w = wide c in
    let class = class_is t c.requires.table.2 in
    let long = table_is_long t.class c.requires.table.0 in
    let mask = c.mask_of-slots.ensures in
    let room = c.requires.room in
    let same : size (class_of (table_id t)) ≡ size t.class = ap size class in
    omega (arith, same, long, mask, room, low)

pub put_fresh-requires-clause-word : goal.put_fresh-requires-clause-word
put_fresh-requires-clause-word c = inside (goal.at.put_fresh-requires-clause-word c).After-mask_of-slots c.loop-place.place c.loop-place-test.true

pub loop-place-preserved : goal.loop-place-preserved
loop-place-preserved c =
    let a = c.args in
    let v = view a.pass.now in
    let w = view c.loop-place.pass in
    let z = view c.put_fresh.new.pass in
    let i = c.loop-place.invariant in
    let put = c.put_fresh.ensures in
    let n = slots (class_of (table_id a.table)) in
    let p = c.loop-place.place in
    let size_is = wide (goal.at.loop-place-preserved c).After-mask_of-slots in
    let at : 8 * p + 6 + (c.mask_of-slots.result + 1) ≡ entry_offset n p 6 = omega (arith, size_is) in
    let more : suc p ≡ p + 1 = omega arith in
    record {
      pass = (put.did.0 ∙ i.pass.0, ap (λ (u : View). u.shape) put.did.1 ∙ i.pass.1);
      stack = put.did.2 ∙ i.stack;
      only = filled_then v w z i.only (filled_by (PutFresh (table_id a.table) (8 * p + 6 + (c.mask_of-slots.result + 1)) (a.next + p)) w z tt put.did.1 put.keeps);
      words = put.fresh ∙ ((λ d. slice_set (i.words d) (at d) (a.next + p)) ∙ ap (λ (m : ℕ). renumbered n a.next m (in_hand (table_id a.table) v)) more);
    }

pub returns-clause-words : goal.returns-clause-words
returns-clause-words c =
    let a = c.args in
    let all : c.loop-place.place ≡ a.count = let t = c.loop-place-test.false in let e = c.loop-place.auto.place-end in omega (arith, t, e) in
    c.loop-place.invariant.words ∙ ap (λ (m : ℕ). renumbered (slots (class_of (table_id a.table))) a.next m (in_hand (table_id a.table) (view a.pass.now))) all
