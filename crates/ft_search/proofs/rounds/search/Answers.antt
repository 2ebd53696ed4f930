use Rattle.std.proofs.Common.{◌≡◌, ◌∷◌, ◌++◌, ℕ, List, [], drop, Some, refl, sym, ap, ◌∙◌, subst, arith, append-nil}
use Rattle.ft_layout.specs.Containers.{class_mask}
use Rattle.ft_keys.specs.Ways.{walk_slots}
use Rattle.ft_trace.specs.declared.Act.{Act}
use Rattle.ft_trace.specs.Addresses.{class_of, slots}
use Rattle.ft_trace.specs.Pictures.{walk_of}
use Rattle.ft_trace.specs.Kinds.{rows}
use Rattle.ft_bank.specs.Passes.{shape_of}
use Rattle.ft_bank.specs.TableNames.{table_id}
use Rattle.ft_bank.proofs.TableAddresses.{class_is}
use Rattle.ft_search.specs.SearchCosts.{MayWalkOn, SpendsSearch, WalksOn}
use Rattle.ft_search.specs.Rounds.{Walked, ClosesAt, TurnsAfter}
use Rattle.ft_search.proofs.LookSteps.{can_look_on}
use Rattle.ft_search.proofs.Running.{at_same}
use Rattle.ft_search.proofs.Spending.{walk_low, spends_on}
use Rattle.ft_search.proofs.Walking.{walked_none, turns_on}
use Rattle.ft_search.proofs.WordPlaces.{mask_is, room_for, slots_is, walk_is}
use Rattle.ft_search.proofs.rounds.search.Goals as goal
use Rattle.ft_search.proofs.rounds.search.Goals.{After-look_slot}

pub first_slot-slot-requires : goal.first_slot-slot-requires
first_slot-slot-requires c =
    let s = c.args.words.now in
    mask_is s.table.class s.mask c.requires.can.can.table.0 c.requires.can.can.mask

pub look_slot-requires-clause-entries : goal.look_slot-requires-clause-entries
look_slot-requires-clause-entries c =
    let s = c.args.words.now in
    c.entries_of-entries.ensures ∙ sym (λ d. rows (c.requires.way d) (class_is s.table c.requires.can.can.table.2 d))

pub look_slot-requires-clause-room : goal.look_slot-requires-clause-room
look_slot-requires-clause-room c =
    let s = c.args.words.now in
    let r = room_for c.args.way s.table.class s.mask c.requires.can.can.mask in
    omega (arith, r, c.entries_of-entries.ensures)

-- the walk begins with the slot that is looked at
module _ (c : After-look_slot) where
  abbrev walk : List ℕ
  walk = walk_slots c.args.way c.args.hash c.args.words.now.mask

  abbrev first : List ℕ
  first = c.first_slot-slot.result ∷ drop 1 walk

  begins : walk ≡ first
  begins = c.first_slot-slot.ensures.first c.args.way

  not_walked : Walked (shape_of c.args.words.now.bank.now) c.args.words.now.o (table_id c.args.words.now.table) c.args.key [] first
  not_walked =
      let s = c.args.words.now in
      let k = shape_of s.bank.now in
      walked_none k s.o (table_id s.table) c.args.key c.requires.can.can.container c.requires.can.keyed first
      (sym begins
      ∙ ((λ d. walk_slots c.args.way (c.requires.hash d) (c.requires.can.can.mask d))
      ∙ (walk_is c.args.way k.texts s.table.class c.args.key
      ∙ sym (λ d. walk_of (c.requires.way d) k.texts (class_is s.table c.requires.can.can.table.2 d) c.args.key))))

  may_walk : MayWalkOn (table_id c.args.words.now.table) walk [] first
  may_walk =
      let s = c.args.words.now in
      let low = walk_low c.args.way c.args.hash s.mask (slots (class_of (table_id s.table))) first (sym begins) (slots_is (shape_of s.bank.now) s.table s.mask c.requires.can.can.table c.requires.can.can.mask) in
      (record { follows = begins; once = tt; low = low; others = λ u ne. refl }, refl)

pub returns-in-Some-clause-closes : goal.returns-in-Some-clause-closes
returns-in-Some-clause-closes c =
    let a = (goal.at.returns-in-Some-clause-closes c).After-look_slot in
    let s = c.args.words.now in
    let h = c.in-Some.ensures.turns [] (drop 1 (walk a)) (not_walked a) in
    (h.0, h.1, h.2, subst (λ (z : List Act). ClosesAt (shape_of s.bank.now) s.o (table_id s.table) c.args.key z c.in-Some.looked) (append-nil h.0) h.3)

pub returns-in-Some-clause-spends : goal.returns-in-Some-clause-spends
returns-in-Some-clause-spends c =
    let a = (goal.at.returns-in-Some-clause-spends c).After-look_slot in
    let h = c.in-Some.ensures.spends (walk a) [] (drop 1 (walk a)) (may_walk a) in
    (h.0, h.2.0, h.1, subst (λ (z : List Act). WalksOn (table_id c.args.words.now.table) (walk a) z h.2.0) (append-nil h.0) h.2.1)

-- what was done in all, after the first slot and then in the rest of the walk
pub search_rest-requires-clause-named : goal.search_rest-requires-clause-named
search_rest-requires-clause-named c = c.look_slot.ensures.can.named

pub search_rest-requires-clause-settled : goal.search_rest-requires-clause-settled
search_rest-requires-clause-settled c = c.look_slot.ensures.can.settled

pub search_rest-requires-clause-few : goal.search_rest-requires-clause-few
search_rest-requires-clause-few c = c.look_slot.ensures.can.few

pub returns-in-None-clause-closes : goal.returns-in-None-clause-closes
returns-in-None-clause-closes c =
    let a = (goal.at.returns-in-None-clause-closes c).After-look_slot in
    let s0 = c.args.words.now in
    let s1 = c.look_slot.new.words in
    let k = shape_of s0.bank.now in
    let t = table_id s0.table in
    let key = c.args.key in
    let result = c.search_rest.result in
    let q = c.search_rest.new.pass in
    let h = c.in-None.ensures.turns [] (drop 1 (walk a)) (not_walked a) in
    let rest = at_same
    (λ k o t. (earlier : List Act) → Walked k o t key earlier (drop 1 (walk_slots c.args.way c.args.hash (class_mask s1.table.class))) → TurnsAfter k o t key earlier [] (Some result) s1.pass.now q)
    s0 s1 c.look_slot.ensures.same c.search_rest.ensures.turns in
    let mask = c.requires.can.can.mask ∙ ap (λ z. class_mask z.class) (sym c.look_slot.ensures.same.table) in
    let w : Walked k s0.o t key (h.0 ++ []) (drop 1 (walk_slots c.args.way c.args.hash (class_mask s1.table.class))) = subst (λ (z : ℕ). Walked k s0.o t key (h.0 ++ []) (drop 1 (walk_slots c.args.way c.args.hash z))) mask h.3 in
    let all = turns_on k s0.o t key h.0 [] [] (Some result) s0.pass.now s1.pass.now q h.1 h.2 (rest (h.0 ++ []) w) in
    (all.0, all.1, all.2, subst (λ (z : List Act). ClosesAt k s0.o t key z result) (append-nil all.0) all.3)

pub returns-in-None-clause-can : goal.returns-in-None-clause-can
returns-in-None-clause-can c =
    let all = returns-in-None-clause-closes c in
    can_look_on c.args.words.now _ all.0 c.requires.can (record { bank = c.look_slot.ensures.same.bank; pass = c.look_slot.ensures.same.pass; o = c.look_slot.ensures.same.o; table = c.look_slot.ensures.same.table; mask = c.look_slot.ensures.same.mask; start = c.look_slot.ensures.same.start }) all.1 all.2

pub returns-in-None-clause-spends : goal.returns-in-None-clause-spends
returns-in-None-clause-spends c =
    let a = (goal.at.returns-in-None-clause-spends c).After-look_slot in
    let s0 = c.args.words.now in
    let s1 = c.look_slot.new.words in
    let t = table_id s0.table in
    let result = c.search_rest.result in
    let q = c.search_rest.new.pass in
    let h = c.in-None.ensures.spends (walk a) [] (drop 1 (walk a)) (may_walk a) in
    let rest = at_same
    (λ k o t. (walked : List ℕ) (acts : List Act) → MayWalkOn t walked acts (drop 1 (walk_slots c.args.way c.args.hash (class_mask s1.table.class))) → SpendsSearch t walked acts [] (Some result) s1.pass.now q)
    s0 s1 c.look_slot.ensures.same c.search_rest.ensures.spends in
    let mask = c.requires.can.can.mask ∙ ap (λ z. class_mask z.class) (sym c.look_slot.ensures.same.table) in
    let may : MayWalkOn t (walk a) (h.0 ++ []) (drop 1 (walk_slots c.args.way c.args.hash (class_mask s1.table.class))) = subst (λ (z : ℕ). MayWalkOn t (walk a) (h.0 ++ []) (drop 1 (walk_slots c.args.way c.args.hash z))) mask (h.3 refl) in
    let all = spends_on t (walk a) h.0 [] [] (Some result) s0.pass.now s1.pass.now q h.1 (rest (walk a) (h.0 ++ []) may) in
    (all.0, all.2.0, all.1, subst (λ (z : List Act). WalksOn t (walk a) z all.2.0) (append-nil all.0) all.2.1)
