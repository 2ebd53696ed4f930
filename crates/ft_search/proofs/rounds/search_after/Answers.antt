use Rattle.std.proofs.Common.{◌≡◌, ◌≢◌, ◌∷◌, ℕ, List, [], drop, sym, ap, ◌∙◌, subst, arith}
use Rattle.ft_hash.specs.Probes.{position}
use Rattle.ft_layout.specs.Containers.{class_mask}
use Rattle.ft_keys.specs.Ways.{walk_slots}
use Rattle.ft_trace.specs.Kinds.{rows}
use Rattle.ft_bank.specs.Passes.{shape_of}
use Rattle.ft_bank.specs.TableNames.{table_id}
use Rattle.ft_bank.proofs.TableAddresses.{class_is}
use Rattle.ft_search.specs.SearchCosts.{MayWalkOn}
use Rattle.ft_search.specs.Rounds.{Walked}
use Rattle.ft_search.proofs.WordPlaces.{mask_is, room_for, walk_first}
use Rattle.ft_search.proofs.rounds.search_after.Goals as goal

cons_some : (x : ℕ) (l : List ℕ) → x ∷ l ≢ []
cons_some x l e = absurd (cc)

pub new-walk-requires : goal.new-walk-requires
new-walk-requires c = let s = c.args.words.now in mask_is s.table.class s.mask c.requires.can.can.table.0 c.requires.can.can.mask

pub pass-requires : goal.pass-requires
pass-requires c none =
    let mask = c.args.words.now.mask in
    let whole = walk_first c.args.way c.args.hash mask in
    cons_some (position c.args.hash mask 0) (drop 1 (walk_slots c.args.way c.args.hash mask)) (sym whole ∙ (sym (ap (λ z. z.left) c.new-walk.ensures) ∙ none))

pub search_walk-requires-clause-entries : goal.search_walk-requires-clause-entries
search_walk-requires-clause-entries c =
    let s = c.args.words.now in
    c.entries_of-entries.ensures ∙ sym (λ d. rows (c.requires.way d) (class_is s.table c.requires.can.can.table.2 d))

pub search_walk-requires-clause-room : goal.search_walk-requires-clause-room
search_walk-requires-clause-room c =
    let s = c.args.words.now in
    let r = room_for c.args.way s.table.class s.mask c.requires.can.can.mask in
    omega (arith, r, c.entries_of-entries.ensures)

pub returns-clause-turns : goal.returns-clause-turns
returns-clause-turns c earlier w =
    let s = c.args.words.now in
    let left : drop 1 (walk_slots c.args.way c.args.hash (class_mask s.table.class)) ≡ c.pass.new.self.left = ap (λ (z : ℕ). drop 1 (walk_slots c.args.way c.args.hash z)) (sym c.requires.can.can.mask)
    ∙ (ap (λ z. drop 1 z.left) (sym c.new-walk.ensures) ∙ sym (ap (λ z. z.left) c.pass.ensures)) in
    c.search_walk.ensures.turns earlier (subst (Walked (shape_of s.bank.now) s.o (table_id s.table) c.args.key earlier) left w)

pub returns-clause-spends : goal.returns-clause-spends
returns-clause-spends c walked acts may =
    let s = c.args.words.now in
    let left : drop 1 (walk_slots c.args.way c.args.hash (class_mask s.table.class)) ≡ c.pass.new.self.left = ap (λ (z : ℕ). drop 1 (walk_slots c.args.way c.args.hash z)) (sym c.requires.can.can.mask)
    ∙ (ap (λ z. drop 1 z.left) (sym c.new-walk.ensures) ∙ sym (ap (λ z. z.left) c.pass.ensures)) in
    c.search_walk.ensures.spends walked acts (subst (MayWalkOn (table_id s.table) walked acts) left may)
