use Rattle.std.proofs.Common.{◌≡◌, ◌+◌, ◌*◌, ℕ, ◌∷◌, refl, sym, subst, arith}
use Rattle.ft_trace.specs.declared.Act.TheVariants.{ReadTable}
use Rattle.ft_trace.specs.Addresses.{class_of, slots}
use Rattle.ft_trace.specs.Pictures.{entry_offset}
use Rattle.ft_trace.specs.SeenBoxes.{SawBox}
use Rattle.ft_bank.specs.Passes.{shape_of, view}
use Rattle.ft_bank.specs.TableNames.{table_id}
use Rattle.ft_search.specs.declared.raising.SeenBox.TheVariants as box
use Rattle.ft_search.proofs.BoxReads.{saw_named, stopped_read, read_none, whole_read}
use Rattle.ft_search.proofs.LookSteps.{can_look_on}
use Rattle.ft_search.proofs.WordPlaces.{entry_in, entry_is}
use Rattle.ft_search.proofs.words.TableWords.read_boxed.Goals as goal
use Rattle.ft_search.proofs.words.TableWords.read_boxed.Goals.{After-see_in_box}

-- where the version lies
module _ (c : After-see_in_box) where
  abbrev at : ℕ
  at = 8 * c.args.place + 0 + c.args.self.now.mask + 1

  at_is : at ≡ entry_offset (slots (class_of (table_id c.args.self.now.table))) c.args.place 0
  at_is = let s = c.args.self.now in entry_is (shape_of s.bank.now) s.table s.mask c.args.place 0 c.requires.can.can.table c.requires.can.can.mask

pub see_in_box-requires-clause-version : goal.see_in_box-requires-clause-version
see_in_box-requires-clause-version c =
    let s = c.args.self.now in
    entry_in (shape_of s.bank.now) s.table s.mask c.args.place 0 c.requires.can.can.table c.requires.can.can.mask c.requires.place (omega arith)

pub see_in_box-requires-clause-saw : goal.see_in_box-requires-clause-saw
see_in_box-requires-clause-saw c even =
    let s = c.args.self.now in
    let k = shape_of s.bank.now in
    let is = entry_is k s.table s.mask c.args.place 0 c.requires.can.can.table c.requires.can.can.mask in
    subst (λ (n : ℕ). SawBox k c.args.payload (ReadTable (table_id s.table) n c.args.opened ∷ (view s.pass.now).log)) (sym is)
    (saw_named (table_id s.table) c.args.place c.args.opened c.args.key_kind c.args.payload k s.o (view s.pass.now).log c.requires.can.can.container c.requires.can.keyed c.requires.row even c.requires.named)

pub returns-in-Read-clause-looks : goal.returns-in-Read-clause-looks
returns-in-Read-clause-looks c =
    let a = (goal.at.returns-in-Read-clause-looks c).After-see_in_box in
    let h = c.in-Read.ensures.looks in
    let t = table_id c.args.self.now.table in (
      h.0,
      (h.1, c.see_in_box.ensures.keeps),
      h.2,
      read_none t c.args.place c.args.opened c.args.key_kind c.args.payload (at a) (at_is a) h.0 (box.Read c.in-Read.found) h.3,
      whole_read t c.args.place c.args.opened c.args.key_kind c.args.payload (at a) (at_is a) h.0 c.in-Read.found h.3,
    )

pub returns-in-Stopped-clause-looks : goal.returns-in-Stopped-clause-looks
returns-in-Stopped-clause-looks c =
    let a = (goal.at.returns-in-Stopped-clause-looks c).After-see_in_box in
    let h = c.in-Stopped.ensures.looks in
    let t = table_id c.args.self.now.table in (
      h.0,
      (h.1, c.see_in_box.ensures.keeps),
      h.2,
      read_none t c.args.place c.args.opened c.args.key_kind c.args.payload (at a) (at_is a) h.0 (box.Stopped c.in-Stopped.first c.in-Stopped.found) h.3,
      stopped_read t c.args.place c.args.opened c.args.key_kind c.args.payload (at a) (at_is a) h.0 c.in-Stopped.first c.in-Stopped.found h.3,
    )

pub returns-in-Read-clause-can : goal.returns-in-Read-clause-can
returns-in-Read-clause-can c =
    let h = c.in-Read.ensures.looks in
    can_look_on c.args.self.now _ h.0 c.requires.can (record { bank = refl; pass = refl; o = refl; table = refl; mask = refl; start = refl }) (h.1, c.see_in_box.ensures.keeps) h.2

pub returns-in-Stopped-clause-can : goal.returns-in-Stopped-clause-can
returns-in-Stopped-clause-can c =
    let h = c.in-Stopped.ensures.looks in
    can_look_on c.args.self.now _ h.0 c.requires.can (record { bank = refl; pass = refl; o = refl; table = refl; mask = refl; start = refl }) (h.1, c.see_in_box.ensures.keeps) h.2
