use Rattle.std.proofs.Common.{◌≡◌, ◌<◌, ◌+◌, ◌^◌, ℕ, true, false, Option, Some, None, refl, sym, ap, ◌∙◌, subst, arith, lt-ltb}
use Rattle.std.specs.Prelude.{nat_lt}
use Rattle.ft_model.specs.declared.content.Content.{Content}
use Rattle.ft_model.specs.TableUses.{TableUse}
use Rattle.ft_model.specs.Worlds.{kind_of, length_of, serial_of}
use Rattle.ft_trace.specs.declared.Shape.{Shape}
use Rattle.ft_trace.specs.Addresses.{container_count}
use Rattle.ft_trace.specs.Holds.{held_unboxed, known_state}
use Rattle.ft_trace.specs.Pictures.{ContainerWords}
use Rattle.ft_trace.specs.ContainerStates.{ContainerState}
use Rattle.ft_bank.specs.Passes.{shape_of, view}
use Rattle.ft_bank.proofs.KnownAfterWrites.{work_knows}
use Rattle.ft_table_calls.specs.declared.adding.Added.TheVariants as added
use Rattle.ft_search.specs.Held.{IsHeldAt}
use Rattle.ft_search.specs.Rounds.{kind_by}
use Rattle.ft_search.proofs.Changing.{kind_is}
use Rattle.ft_bank.proofs.DoneBoxes.{stays_settled_same}
use Rattle.ft_search.proofs.Keeping.{loads_keep}
use Rattle.ft_new_keys.specs.HeldKeys.{HoldsFor, MayPutKey}
use Rattle.ft_new_keys.specs.KeyGrowth.{AddsKey, IsFreeFor, key_takes, most_of, use_of}
use Rattle.ft_new_keys.specs.Placing.{AreCounts}
use Rattle.ft_new_keys.proofs.HeldCalls.{put_loaded, puts_one}
use Rattle.ft_new_keys.proofs.HeldKeys.{holds_on}
use Rattle.ft_new_keys.proofs.Keyed.{counts_known, use_known}
use Rattle.ft_new_keys.proofs.Taken.{adds_later, has_loaded}
use Rattle.ft_new_keys.proofs.Wanted.{passes_not}
use Rattle.ft_new_keys.proofs.keys.add_new.Goals as goal
use Rattle.ft_new_keys.proofs.keys.add_new.Goals.{After-read_counts-counts}

words_same : (c : After-read_counts-counts) → held_unboxed c.args.o (view c.read_counts-counts.new.pass) ≡ held_unboxed c.args.o (view c.args.pass.now)
words_same c =
    let keyed = c.requires.may.keyed in
    c.read_counts-counts.ensures.only.unboxed c.args.o (subst (λ (z : Shape). c.args.o < container_count z) (sym c.requires.pass.1) keyed.container) keyed.locked

same : (c : After-read_counts-counts) → known_state c.args.o (view c.read_counts-counts.new.pass) ≡ known_state c.args.o (view c.args.pass.now)
same c = work_knows (view c.args.pass.now) (view c.read_counts-counts.new.pass) c.args.o c.read_counts-counts.ensures.only.work

may : (c : After-read_counts-counts) → MayPutKey (shape_of c.args.bank.now) c.args.o c.args.old (view c.read_counts-counts.new.pass)
may c = put_loaded (shape_of c.args.bank.now) c.args.o c.args.old (view c.args.pass.now) (view c.read_counts-counts.new.pass) c.read_counts-counts.ensures.only (words_same c) c.requires.may

-- what the pass has of the box
holds : (c : After-read_counts-counts) → HoldsFor c.args.value.boxed c.args.value.stored (view c.read_counts-counts.new.pass)
holds c =
    let v = view c.args.pass.now in
    let u = view c.read_counts-counts.new.pass in
    let l = c.read_counts-counts.ensures.only in
    holds_on c.args.value.boxed c.args.value.stored v u l.work.pass.shape l.boxes.references (stays_settled_same v u l.boxes.made) (loads_keep v u c.args.pass.now.possible l) c.requires.holds

counts : (c : After-read_counts-counts) → AreCounts (held_unboxed c.args.o (view c.read_counts-counts.new.pass)).block c.read_counts-counts.result
counts c = subst (λ (z : ContainerWords). AreCounts z.block c.read_counts-counts.result) (sym (words_same c)) c.read_counts-counts.ensures.counts

kinds : (c : After-read_counts-counts) → kind_of (known_state c.args.o (view c.read_counts-counts.new.pass)).content ≡ kind_by c.args.way
kinds c = kind_is (shape_of c.args.bank.now) (view c.read_counts-counts.new.pass) c.args.o c.read_counts-counts.ensures.pass.1 c.read_counts-counts.new.pass.possible (may c).keyed.locked ∙ c.requires.way

many : (c : After-read_counts-counts) → c.read_counts-counts.result.count ≡ length_of (known_state c.args.o (view c.read_counts-counts.new.pass)).content
many c = (counts_known c.words_are_of_one_content.ensures.head (shape_of c.args.bank.now) c.args.o c.args.old (view c.read_counts-counts.new.pass) c.read_counts-counts.result (may c).keyed (counts c)).0

adds : (c : After-read_counts-counts) → AddsKey c.args.o c.args.called.now c.args.said.now c.args.key c.args.value.stored (view c.read_counts-counts.new.pass)
adds c =
    let a = c.args in
    let v = view a.pass.now in
    let u = view c.read_counts-counts.new.pass in
    let only = c.read_counts-counts.ensures.only in
    adds_later a.o a.called.now a.said.now a.key a.value.stored v u (has_loaded (shape_of a.bank.now) a.o a.old v u only (words_same c)) only.work.pass.locks (same c) c.requires.adds

absent : (c : After-read_counts-counts) → IsHeldAt (known_state c.args.o (view c.read_counts-counts.new.pass)).content c.args.key None
absent c = subst (λ (z : ContainerState). IsHeldAt z.content c.args.key None) (sym (same c)) c.requires.absent

serials : (c : After-read_counts-counts) → serial_of (known_state c.args.o (view c.read_counts-counts.new.pass)).content < 2 ^ 63
serials c = subst (λ (z : ContainerState). serial_of z.content < 2 ^ 63) (sym (same c)) c.requires.serials

takes : (c : After-read_counts-counts) (result : Option ℕ) → ((content : Content) → kind_of content ≡ kind_by c.args.way → length_of content ≡ c.read_counts-counts.result.count → result ≡ key_takes content (use_of c.args.old c.read_counts-counts.result.fill)) → key_takes (known_state c.args.o (view c.read_counts-counts.new.pass)).content (known_state c.args.o (view c.read_counts-counts.new.pass)).table ≡ result
takes c result wanted =
    let a = c.args in
    let x = known_state a.o (view c.read_counts-counts.new.pass) in
    let table = use_known c.words_are_of_one_content.ensures.head (shape_of a.bank.now) a.o a.old (view c.read_counts-counts.new.pass) c.read_counts-counts.result (may c).keyed (counts c) c.read_counts-counts.new.pass.possible in
    ap (λ (z : TableUse). key_takes x.content z) table ∙ sym (wanted x.content (kinds c) (sym (many c)))

not_over : (c : After-read_counts-counts) → c.read_counts-counts.result.count < most_of (known_state c.args.o (view c.read_counts-counts.new.pass)).content → nat_lt (most_of (known_state c.args.o (view c.read_counts-counts.new.pass)).content) (length_of (known_state c.args.o (view c.read_counts-counts.new.pass)).content + 1) ≡ false
not_over c few =
    let n = many c in
    passes_not (known_state c.args.o (view c.read_counts-counts.new.pass)).content (omega (arith, few, n))

pub class_wanted-requires-clause-table : goal.class_wanted-requires-clause-table
class_wanted-requires-clause-table c t is = (c.requires.may.keyed.table_in t is).0

-- ---- too many keys

pub answer_over-requires-clause-over : goal.answer_over-requires-clause-over
answer_over-requires-clause-over c found has =
    let a = c.args in
    let r = (goal.at.answer_over-requires-clause-over c).After-read_counts-counts in
    let x = known_state a.o (view c.read_counts-counts.new.pass) in
    let m = c.most_keys.ensures.most x.content (kinds r) in
    let n = many r in
    let all = adds r in
    let more : most_of x.content < length_of x.content + 1 = omega (arith, m, n) in
    (all.lacks found has, all.over found has ∙ lt-ltb (most_of x.content) (length_of x.content + 1) more)

pub returns-then-counts-most_keys-clause-put : goal.returns-then-counts-most_keys-clause-put
returns-then-counts-most_keys-clause-put c =
    let a = c.args in
    let r = (goal.at.returns-then-counts-most_keys-clause-put c).After-read_counts-counts in
    let x = known_state a.o (view c.read_counts-counts.new.pass) in
    let m = c.most_keys.ensures.most x.content (kinds r) in
    let n = many r in
    let more : most_of x.content < length_of x.content + 1 = omega (arith, m, n) in
    puts_one (shape_of a.bank.now) a.o a.key a.value.boxed a.called.now a.said.now (view a.pass.now) (view c.read_counts-counts.new.pass) (view c.answer_over.new.pass) (added.Over c.answer_over.result) (key_takes x.content x.table) true c.read_counts-counts.ensures.only refl (lt-ltb (most_of x.content) (length_of x.content + 1) more) (refl, c.answer_over.ensures.wrote, c.answer_over.ensures.answered)

-- ---- another table

pub add_in_taken-requires-clause-may : goal.add_in_taken-requires-clause-may
add_in_taken-requires-clause-may c = may (goal.at.add_in_taken-requires-clause-may c).After-read_counts-counts

pub add_in_taken-requires-clause-absent : goal.add_in_taken-requires-clause-absent
add_in_taken-requires-clause-absent c = absent (goal.at.add_in_taken-requires-clause-absent c).After-read_counts-counts

pub add_in_taken-requires-clause-counts : goal.add_in_taken-requires-clause-counts
add_in_taken-requires-clause-counts c = counts (goal.at.add_in_taken-requires-clause-counts c).After-read_counts-counts

pub add_in_taken-requires-clause-few : goal.add_in_taken-requires-clause-few
add_in_taken-requires-clause-few c =
    let m = c.most_keys.ensures.most (known_state c.args.o (view c.read_counts-counts.new.pass)).content (kinds (goal.at.add_in_taken-requires-clause-few c).After-read_counts-counts) in
    omega (arith, m)

pub add_in_taken-requires-clause-serials : goal.add_in_taken-requires-clause-serials
add_in_taken-requires-clause-serials c = serials (goal.at.add_in_taken-requires-clause-serials c).After-read_counts-counts

pub add_in_taken-requires-clause-adds : goal.add_in_taken-requires-clause-adds
add_in_taken-requires-clause-adds c = adds (goal.at.add_in_taken-requires-clause-adds c).After-read_counts-counts

pub add_in_taken-requires-clause-takes : goal.add_in_taken-requires-clause-takes
add_in_taken-requires-clause-takes c = takes (goal.at.add_in_taken-requires-clause-takes c).After-read_counts-counts c.class_wanted.result c.class_wanted.ensures.class ∙ c.in-Some.is

pub returns-in-Some-clause-put : goal.returns-in-Some-clause-put
returns-in-Some-clause-put c =
    let a = c.args in
    let r = (goal.at.returns-in-Some-clause-put c).After-read_counts-counts in
    let m = c.most_keys.ensures.most (known_state a.o (view c.read_counts-counts.new.pass)).content (kinds r) in
    puts_one (shape_of a.bank.now) a.o a.key a.value.boxed a.called.now a.said.now (view a.pass.now) (view c.read_counts-counts.new.pass) (view c.add_in_taken.new.pass) c.add_in_taken.result (Some c.in-Some.class) false c.read_counts-counts.ensures.only (takes r c.class_wanted.result c.class_wanted.ensures.class ∙ c.in-Some.is) (not_over r (omega (arith, m))) c.add_in_taken.ensures.put

-- ---- the same table

pub add_here-requires-clause-may : goal.add_here-requires-clause-may
add_here-requires-clause-may c = may (goal.at.add_here-requires-clause-may c).After-read_counts-counts

pub add_here-requires-clause-slot : goal.add_here-requires-clause-slot
add_here-requires-clause-slot c t is =
    let a = c.args in
    subst (λ (z : ContainerWords). IsFreeFor (shape_of a.bank.now).texts a.way t.class a.key z.table a.slot) (sym (words_same (goal.at.add_here-requires-clause-slot c).After-read_counts-counts)) (c.requires.slot t is)

pub add_here-requires-clause-absent : goal.add_here-requires-clause-absent
add_here-requires-clause-absent c = absent (goal.at.add_here-requires-clause-absent c).After-read_counts-counts

pub add_here-requires-clause-counts : goal.add_here-requires-clause-counts
add_here-requires-clause-counts c = counts (goal.at.add_here-requires-clause-counts c).After-read_counts-counts

pub add_here-requires-clause-few : goal.add_here-requires-clause-few
add_here-requires-clause-few c =
    let m = c.most_keys.ensures.most (known_state c.args.o (view c.read_counts-counts.new.pass)).content (kinds (goal.at.add_here-requires-clause-few c).After-read_counts-counts) in
    omega (arith, m)

pub add_here-requires-clause-serials : goal.add_here-requires-clause-serials
add_here-requires-clause-serials c = serials (goal.at.add_here-requires-clause-serials c).After-read_counts-counts

pub add_here-requires-clause-adds : goal.add_here-requires-clause-adds
add_here-requires-clause-adds c = adds (goal.at.add_here-requires-clause-adds c).After-read_counts-counts

pub add_here-requires-clause-room : goal.add_here-requires-clause-room
add_here-requires-clause-room c = takes (goal.at.add_here-requires-clause-room c).After-read_counts-counts c.class_wanted.result c.class_wanted.ensures.class ∙ c.in-None.is

pub returns-in-None-clause-put : goal.returns-in-None-clause-put
returns-in-None-clause-put c =
    let a = c.args in
    let r = (goal.at.returns-in-None-clause-put c).After-read_counts-counts in
    let m = c.most_keys.ensures.most (known_state a.o (view c.read_counts-counts.new.pass)).content (kinds r) in
    puts_one (shape_of a.bank.now) a.o a.key a.value.boxed a.called.now a.said.now (view a.pass.now) (view c.read_counts-counts.new.pass) (view c.add_here.new.pass) c.add_here.result None false c.read_counts-counts.ensures.only (takes r c.class_wanted.result c.class_wanted.ensures.class ∙ c.in-None.is) (not_over r (omega (arith, m))) c.add_here.ensures.put

pub add_in_taken-requires-clause-holds : goal.add_in_taken-requires-clause-holds
add_in_taken-requires-clause-holds c = holds (goal.at.add_in_taken-requires-clause-holds c).After-read_counts-counts

pub add_in_taken-requires-clause-boxing : goal.add_in_taken-requires-clause-boxing
add_in_taken-requires-clause-boxing c b is found has = c.requires.boxing b is found (has_loaded (shape_of c.args.bank.now) c.args.o c.args.old (view c.args.pass.now) (view c.read_counts-counts.new.pass) c.read_counts-counts.ensures.only (words_same (goal.at.add_in_taken-requires-clause-boxing c).After-read_counts-counts) found has)

pub add_here-requires-clause-holds : goal.add_here-requires-clause-holds
add_here-requires-clause-holds c = holds (goal.at.add_here-requires-clause-holds c).After-read_counts-counts

pub add_here-requires-clause-boxing : goal.add_here-requires-clause-boxing
add_here-requires-clause-boxing c b is found has = c.requires.boxing b is found (has_loaded (shape_of c.args.bank.now) c.args.o c.args.old (view c.args.pass.now) (view c.read_counts-counts.new.pass) c.read_counts-counts.ensures.only (words_same (goal.at.add_here-requires-clause-boxing c).After-read_counts-counts) found has)
