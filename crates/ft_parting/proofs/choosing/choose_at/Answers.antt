use Rattle.std.proofs.Common.{◌≡◌, ℕ, ◌+◌, ◌-◌, ◌^◌, ◌<◌, ◌≤◌, ◌∷◌, List, length, take, Option, Some, None, refl, sym, ap, ◌∙◌, subst, arith}
use Rattle.std.specs.Prelude.{IfSome, pos, slice_index_or}
use Rattle.ft_model.specs.declared.content.Element.{Element}
use Rattle.ft_model.specs.declared.data.Key.TheVariants.{Int}
use Rattle.ft_model.specs.declared.script.Kind.TheVariants as kind
use Rattle.ft_model.specs.Worlds.{set_of}
use Rattle.ft_layout.specs.declared.slot.Pair.{Pair}
use Rattle.ft_layout.specs.declared.slot.Stored.TheVariants.{Empty}
use Rattle.ft_layout.specs.Containers.{class_mask}
use Rattle.ft_layout.specs.Tables.{UsedEntry}
use Rattle.ft_keys.specs.TableChanges.{AddsPair}
use Rattle.ft_keys.specs.Ways.{room}
use Rattle.ft_keys.specs.declared.walk.Way.TheVariants as way
use Rattle.ft_trace.specs.declared.Shape.{Shape}
use Rattle.ft_trace.specs.declared.View.{View}
use Rattle.ft_trace.specs.Acts.{mem}
use Rattle.ft_trace.specs.Addresses.{class_of, slots}
use Rattle.ft_trace.specs.Holds.{in_hand, known_state}
use Rattle.ft_trace.specs.Kinds.{rows}
use Rattle.ft_trace.specs.Pictures.{entry_field, table_words}
use Rattle.ft_bank.specs.Passes.{shape_of, view}
use Rattle.ft_bank.specs.TableNames.{table_id}
use Rattle.ft_bank.specs.Whole.{OnlyLoaded}
use Rattle.ft_bank.proofs.TableAddresses.{class_is}
use Rattle.ft_bank.proofs.KnownAfterWrites.{work_knows}
use Rattle.ft_table_calls.proofs.Rooting.{filled_then, loaded_filled}
use Rattle.ft_search.proofs.Puts.{few_places, table_class}
use Rattle.ft_new_keys.proofs.FilledTables.{room_of_way}
use Rattle.ft_new_keys.proofs.Grown.{same_filled}
use Rattle.ft_merging.proofs.Ending.{read_same}
use Rattle.ft_merging.proofs.JoinedReads.{knows_loaded, none_found}
use Rattle.ft_parting.specs.Internal.Choosing.{IsChosen, apart_pair, chosen, serial_at}
use Rattle.ft_parting.proofs.Choices.{chosen_count, chosen_more, chosen_room, chosen_stays, some_apart}
use Rattle.ft_parting.proofs.choosing.choose_at.Goals as goal
use Rattle.ft_parting.proofs.choosing.choose_at.Goals.{After-apart_at, In-Some}

any : UsedEntry
any = record { key = Int (pos 0); serial = 0; stored = None }

-- loads change no words in hand
hand_loaded : (t : ℕ) (v w : View) → OnlyLoaded v w → in_hand t w ≡ in_hand t v
hand_loaded t v w only = ap (λ (k : Shape). table_words k t (mem k w.log)) only.work.pass.shape ∙ ap (λ (ws : List ℕ). table_words v.shape t ws) only.words

-- what was read there
stated : (c : After-apart_at) (used : List UsedEntry) (mine : List Element) → c.args.place < length used → IsChosen (shape_of c.args.bank.now) c.args.s c.args.from c.args.t c.args.table c.args.first c.args.start used mine c.args.place c.args.count (view c.args.pass.now)
    → c.apart_at.result ≡ apart_pair (shape_of c.args.bank.now).texts (set_of (known_state c.args.t (view c.args.pass.now)).content).elements (slice_index_or used c.args.place any)
stated c used mine low is = c.apart_at.ensures.apart used any is.source low

pub returns-in_default-clause-chosen : goal.returns-in_default-clause-chosen
returns-in_default-clause-chosen c used mine low is =
    let a = c.args in
    let v = view a.pass.now in
    let z = view c.apart_at.new.pass in
    let only = c.apart_at.ensures.only in
    let d = (goal.at.returns-in_default-clause-chosen c).After-apart_at in
    chosen_stays (shape_of a.bank.now) a.s a.from a.t a.table a.first a.start used mine a.place a.count v is low any z
    (read_same (shape_of a.bank.now) a.s v z c.requires.pass.1 c.requires.keyed.container c.requires.keyed.locked only) (work_knows v z a.s only.work) (work_knows v z a.t only.work) (hand_loaded (table_id a.table) v z only) (sym (stated d used mine low is) ∙ none_found c.apart_at.result c.in_default.not-Some)

pub returns-in_default-clause-only : goal.returns-in_default-clause-only
returns-in_default-clause-only c = loaded_filled (view c.args.pass.now) (view c.apart_at.new.pass) c.apart_at.ensures.only

-- ---- it goes over

-- the entry's pair
there : (c : In-Some) (used : List UsedEntry) → c.apart_at.result ≡ apart_pair (shape_of c.args.bank.now).texts (set_of (known_state c.args.t (view c.args.pass.now)).content).elements (slice_index_or used c.args.place any) → apart_pair (shape_of c.args.bank.now).texts (set_of (known_state c.args.t (view c.args.pass.now)).content).elements (slice_index_or used c.args.place any) ≡ Some c.in-Some.pair
there c used is = sym is ∙ c.in-Some.is

-- that many are there, and there is room
few : (c : In-Some) → c.apart_at.result ≡ apart_pair (shape_of c.args.bank.now).texts (set_of (known_state c.args.t (view c.args.pass.now)).content).elements (slice_index_or c.requires.chosen.0 c.args.place any) → (c.args.count < rows kind.Set (class_of (table_id c.args.table))) × (c.args.start ≤ c.args.count) × (c.args.count < 65536)
few c is =
    let a = c.args in
    let k = shape_of a.bank.now in
    let v = view a.pass.now in
    let r = c.requires.chosen in
    let pair = there c r.0 is in
    let low = chosen_room k a.s a.from a.t a.table a.first a.start r.0 r.1 a.place a.count v r.3 r.2 any c.in-Some.pair pair in
    let n = chosen_count k a.s a.from a.t a.table a.first a.start r.0 r.1 a.place a.count v r.3 r.2 any c.in-Some.pair pair in
    let f = few_places k a.table kind.Set a.count c.requires.table tt low in
    (low, omega (arith, n), f)

pub overflow_sub-count : goal.overflow_sub-count
overflow_sub-count c =
    let at = goal.at.overflow_sub-count c in
    let r = c.requires.chosen in
    (few at.In-Some (stated at.After-apart_at r.0 r.1 r.2 r.3)).1

low_serial : (first : Option ℕ) (more : ℕ) → more ≤ 65536 → IfSome first (λ next. next + 65536 < 2 ^ 63) → IfSome first (λ next. next + more < 2 ^ 64)
low_serial None more low is = tt
low_serial (Some next) more low is = omega (arith, low, is)

pub serial_for-serial-requires : goal.serial_for-serial-requires
serial_for-serial-requires c =
    let a = c.args in
    let at = goal.at.serial_for-serial-requires c in
    let r = c.requires.chosen in
    let f = (few at.In-Some (stated at.After-apart_at r.0 r.1 r.2 r.3)).2 in
    record { low = low_serial a.first (a.count - a.start) (omega (arith, f)) c.requires.serials }

pub overflow_add-result : goal.overflow_add-result
overflow_add-result c =
    let at = goal.at.overflow_add-result c in
    let r = c.requires.chosen in
    let f = (few at.In-Some (stated at.After-apart_at r.0 r.1 r.2 r.3)).2 in
    omega (arith, f)

pub put_last-requires-clause-keyed : goal.put_last-requires-clause-keyed
put_last-requires-clause-keyed c =
    let a = c.args in
    knows_loaded (shape_of a.bank.now) a.s (Some a.from) (view a.pass.now) (view c.apart_at.new.pass) c.requires.pass.1 c.apart_at.ensures.only c.requires.keyed

pub put_last-requires-clause-fresh : goal.put_last-requires-clause-fresh
put_last-requires-clause-fresh c = c.apart_at.ensures.only.work.hands (table_id c.args.table) ∙ c.requires.fresh

pub put_last-requires-clause-fill : goal.put_last-requires-clause-fill
put_last-requires-clause-fill c =
    let a = c.args in
    let at = goal.at.put_last-requires-clause-fill c in
    let r = c.requires.chosen in
    let f = (few at.In-Some (stated at.After-apart_at r.0 r.1 r.2 r.3)).0 in
    let class = class_is a.table c.requires.table.2 in
    let room_is = room_of_way way.Set (class_of (table_id a.table)) (table_class (shape_of a.bank.now) a.table c.requires.table) in
    subst (λ (n : ℕ). a.count < room way.Set (class_mask n)) class (omega (arith, f, room_is))

pub returns-clause-only : goal.returns-clause-only
returns-clause-only c =
    let v = view c.args.pass.now in
    filled_then v (view c.apart_at.new.pass) (view c.put_last.new.pass) (loaded_filled v (view c.apart_at.new.pass) c.apart_at.ensures.only) c.put_last.ensures.only

pub returns-clause-chosen : goal.returns-clause-chosen
returns-clause-chosen c used mine low is =
    let a = c.args in
    let at = goal.at.returns-clause-chosen c in
    let k = shape_of a.bank.now in
    let v = view a.pass.now in
    let u = view c.apart_at.new.pass in
    let z = view c.put_last.new.pass in
    let loads = c.apart_at.ensures.only in
    let e = c.put_last.ensures in
    let pair = there at.In-Some used (stated at.After-apart_at used mine low is) in
    let class = class_of (table_id a.table) in
    let same = some_apart k.texts (set_of (known_state a.t v).content).elements (slice_index_or used a.place any) c.in-Some.pair pair in
    let n = chosen_count k a.s a.from a.t a.table a.first a.start used mine a.place a.count v is low any c.in-Some.pair pair in
    let more : a.count - a.start ≡ length (chosen (set_of (known_state a.t v).content).elements a.first (take a.place used)) = omega (arith, n) in
    let mine_same = same_filled k a.s (Some a.from) u z c.apart_at.ensures.pass.1 e.only (knows_loaded k a.s (Some a.from) v u c.requires.pass.1 loads c.requires.keyed) in
    let other_same = same_filled k a.t a.other u z c.apart_at.ensures.pass.1 e.only (knows_loaded k a.t a.other v u c.requires.pass.1 loads c.requires.other_keyed) in
    let hand = hand_loaded (table_id a.table) v u loads in
    let mask : class_mask a.table.class ≡ class_mask class = ap class_mask (sym (class_is a.table c.requires.table.2)) in
    let put : Pair = record { hash = c.in-Some.pair.hash; key = c.in-Some.pair.key; value = Empty; serial = c.serial_for-serial.result } in
    chosen_more k a.s a.from a.t a.table a.first a.start used mine a.place a.count v is low any c.in-Some.pair pair z put same.1 same.2 refl
    (c.serial_for-serial.ensures ∙ (λ i. serial_at a.first (more i) (same.3 i)))
    (mine_same.0 ∙ read_same k a.s v u c.requires.pass.1 c.requires.keyed.container c.requires.keyed.locked loads) (mine_same.1 ∙ work_knows v u a.s loads.work) (other_same.1 ∙ work_knows v u a.t loads.work)
    (subst (λ (y : ℕ × List ℕ). AddsPair way.Set y.0 a.count put (0 ∷ 0 ∷ y.1) (0 ∷ 0 ∷ in_hand (table_id a.table) z)) (λ i. (mask i, hand i)) e.adds)
    (λ p. e.versions p ∙ ap (λ (ws : List ℕ). entry_field (slots class) ws p 0) hand)
