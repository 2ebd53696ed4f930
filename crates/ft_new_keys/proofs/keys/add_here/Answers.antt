use Rattle.std.proofs.Common.{◌≡◌, ℕ, ◌<◌, Option, Some, None, refl, sym, ap, ◌∙◌, subst, arith}
use Rattle.ft_model.specs.TableUses.{TableUse}
use Rattle.ft_model.specs.Worlds.{kind_of, length_of}
use Rattle.ft_trace.specs.Holds.{held_unboxed, known_state}
use Rattle.ft_trace.specs.Pictures.{root_in}
use Rattle.ft_trace.specs.Kinds.{rows}
use Rattle.ft_bank.specs.declared.table.Table.{Table}
use Rattle.ft_bank.specs.Passes.{shape_of, view}
use Rattle.ft_bank.specs.TableNames.{root_for}
use Rattle.ft_bank.proofs.TableAddresses.{class_is}
use Rattle.ft_search.specs.Rounds.{kind_by}
use Rattle.ft_search.proofs.Changing.{kind_is}
use Rattle.ft_new_keys.specs.KeyGrowth.{key_takes, use_of, most_of}
use Rattle.ft_new_keys.proofs.FinishedKeys.{adds_leaves}
use Rattle.ft_new_keys.proofs.HeldKeys.{few_held}
use Rattle.ft_new_keys.proofs.Keyed.{counts_known, use_known}
use Rattle.ft_new_keys.proofs.Wanted.{bare_takes, most_few, passes_not, stays_use, takes_none}
use Rattle.ft_new_keys.proofs.keys.add_here.Goals as goal
use Rattle.ft_new_keys.proofs.keys.add_here.Goals.{In-Some, In-None}

kind_eq : (c : In-Some) → kind_of (known_state c.args.o (view c.args.pass.now)).content ≡ kind_by c.args.way
kind_eq c = kind_is (shape_of c.args.bank.now) (view c.args.pass.now) c.args.o c.requires.pass.1 c.args.pass.now.possible c.requires.may.keyed.locked ∙ c.requires.way

table_is : (c : In-Some) → (known_state c.args.o (view c.args.pass.now)).table ≡ use_of (Some c.in-Some.table) c.args.counts.fill
table_is c =
    let a = c.args in
    use_known c.words_are_of_one_content.ensures.head (shape_of a.bank.now) a.o a.old (view a.pass.now) a.counts c.requires.may.keyed c.requires.counts c.args.pass.now.possible
    ∙ ap (λ (z : Option Table). use_of z a.counts.fill) c.in-Some.is

few_is : (c : In-Some) → length_of (known_state c.args.o (view c.args.pass.now)).content < most_of (known_state c.args.o (view c.args.pass.now)).content
few_is c =
    let a = c.args in
    let n = (counts_known c.words_are_of_one_content.ensures.head (shape_of a.bank.now) a.o a.old (view a.pass.now) a.counts c.requires.may.keyed c.requires.counts).0 in
    let few = c.requires.few in
    omega (arith, n, few)

pub add_in_room-number-requires-clause-table : goal.add_in_room-number-requires-clause-table
add_in_room-number-requires-clause-table c =
    let keyed = c.requires.may.keyed in
    record { table_in = keyed.table_in c.in-Some.table c.in-Some.is; root = keyed.root ∙ ap root_for c.in-Some.is }

pub add_in_room-number-requires-clause-slot : goal.add_in_room-number-requires-clause-slot
add_in_room-number-requires-clause-slot c = c.requires.slot c.in-Some.table c.in-Some.is

pub add_in_room-number-requires-clause-room : goal.add_in_room-number-requires-clause-room
add_in_room-number-requires-clause-room c =
    let a = c.args in
    let d = (goal.at.add_in_room-number-requires-clause-room c).In-Some in
    let t = c.in-Some.table in
    let x = known_state a.o (view a.pass.now) in
    subst (λ (n : ℕ). a.counts.fill < rows (kind_by a.way) n) (sym (class_is t (c.requires.may.keyed.table_in t c.in-Some.is).2))
    (takes_none x.content a.way t a.counts.fill (kind_eq d) (subst (λ (z : TableUse). key_takes x.content z ≡ None) (table_is d) c.requires.room))

pub add_in_room-number-requires-clause-few : goal.add_in_room-number-requires-clause-few
add_in_room-number-requires-clause-few c =
    let most = most_few (known_state c.args.o (view c.args.pass.now)).content in
    let few = c.requires.few in
    omega (arith, most, few)

pub add_in_room-number-requires-clause-leaves : goal.add_in_room-number-requires-clause-leaves
add_in_room-number-requires-clause-leaves c =
    let a = c.args in
    let d = (goal.at.add_in_room-number-requires-clause-leaves c).In-Some in
    let t = c.in-Some.table in
    let v = view a.pass.now in
    let x = known_state a.o v in
    adds_leaves a.o a.called.now a.said.now a.key a.value.stored v c.requires.adds (passes_not x.content (few_is d)) _
    (stays_use x.content t a.counts.fill x.table (table_is d) c.requires.room (class_is t (c.requires.may.keyed.table_in t c.in-Some.is).2))

pub unreachable-requires : goal.unreachable-requires
unreachable-requires c =
    let a = c.args in
    let x = known_state a.o (view a.pass.now) in
    let kinds : kind_of x.content ≡ kind_by a.way = kind_is (shape_of a.bank.now) (view a.pass.now) a.o c.requires.pass.1 a.pass.now.possible c.requires.may.keyed.locked ∙ c.requires.way in
    let table : x.table ≡ use_of None a.counts.fill = use_known c.words_are_of_one_content.ensures.head (shape_of a.bank.now) a.o a.old (view a.pass.now) a.counts c.requires.may.keyed c.requires.counts a.pass.now.possible ∙ ap (λ (z : Option Table). use_of z a.counts.fill) c.in-None.is in
    bare_takes x.content a.way a.counts.fill kinds (subst (λ (z : TableUse). key_takes x.content z ≡ None) table c.requires.room)

pub add_in_room-number-requires-clause-may : goal.add_in_room-number-requires-clause-may
add_in_room-number-requires-clause-may c =
    let may = c.requires.may in
    let holds = c.requires.holds in
    record {
      container = may.keyed.container;
      keyed = may.keyed.keyed;
      locked = may.keyed.locked;
      even = may.even;
      stands = may.keyed.stands;
      owes = may.owes;
      settled = holds.settled;
      few = few_held c.args.value.boxed c.args.value.stored (view c.args.pass.now) holds;
      left = may.left;
    }

pub returns-clause-put : goal.returns-clause-put
returns-clause-put c =
    let a = c.args in
    let v = view a.pass.now in
    let w = view c.add_in_room-number.new.pass in
    let e = c.add_in_room-number.ensures in
    (refl, refl, record { wrote = e.wrote; root = subst (λ (n : ℕ). root_in (held_unboxed n w) ≡ root_in (held_unboxed n v)) (sym c.requires.adds.changed) e.root; references = e.there })
