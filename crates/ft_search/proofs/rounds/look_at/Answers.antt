use Rattle.std.proofs.Common.{◌≡◌, ◌∷◌, ◌++◌, refl, sym, ◌∙◌, arith}
use Rattle.ft_layout.specs.Words.{key_kind}
use Rattle.ft_bank.specs.Passes.{shape_of}
use Rattle.ft_bank.specs.TableNames.{table_id}
use Rattle.ft_search.specs.Rounds.{live_acts}
use Rattle.ft_search.proofs.Walking.{walked_more, walked_past}
use Rattle.ft_search.proofs.SearchEnds.{moved_passed, stops_seen, stops_read, closes_here}
use Rattle.ft_search.proofs.rounds.look_at.Goals as goal

pub returns-in-Stopped-clause-turns : goal.returns-in-Stopped-clause-turns
returns-in-Stopped-clause-turns c slot earlier left w =
    let s = c.args.words.now in
    let t = table_id s.table in
    let h = c.in-Stopped.ensures.looks in
    (h.0, h.1, h.2, stops_read (shape_of s.bank.now) s.o t c.args.key slot c.args.place earlier c.in-Stopped.first c.in-Stopped.found h.0 c.requires.low h.4)

pub returns-then-not-stood-clause-turns : goal.returns-then-not-stood-clause-turns
returns-then-not-stood-clause-turns c slot earlier left w =
    let s = c.args.words.now in
    let t = table_id s.table in
    let h = c.in-Whole.ensures.looks in
    (h.0, h.1, h.2, stops_seen (shape_of s.bank.now) s.o t c.args.key slot c.args.place earlier c.in-Whole.whole h.0 h.4 c.requires.low (c.if-not-stood.ensures.no refl))

pub returns-then-seen-kind_of-clause-turns : goal.returns-then-seen-kind_of-clause-turns
returns-then-seen-kind_of-clause-turns c slot earlier left w =
    let s = c.args.words.now in
    let k = shape_of s.bank.now in
    let t = table_id s.table in
    let key = c.args.key in
    let h = c.in-Whole.ensures.looks in
    let stood = c.if-not-stood.ensures.yes refl in
    let part = live_acts t slot c.args.place key earlier in (
      h.0,
      h.1,
      h.2,
      walked_past k s.o t key slot left (h.0 ++ part) (walked_more k s.o t key (slot ∷ left) h.0 part w)
          (moved_passed k s.o t key slot c.args.place earlier c.in-Whole.whole h.0 h.4 stood.0 stood.1
          (λ same. c.if-seen-kind_of.true (same ∙ sym c.kind_of.ensures))),
    )

pub returns-clause-turns : goal.returns-clause-turns
returns-clause-turns c slot earlier left w =
    let s = c.args.words.now in
    let t = table_id s.table in
    let key = c.args.key in
    let h = c.in-Whole.ensures.looks in
    let seen = c.in-Whole.whole in
    let stood = c.if-not-stood.ensures.yes refl in
    let live : seen.key_kind ≡ key_kind key = omega (arith, c.if-seen-kind_of.false, c.kind_of.ensures) in
    (h.0, h.1, h.2, closes_here (shape_of s.bank.now) s.o t key slot c.args.place earlier seen h.0 h.4 c.requires.low stood.0 stood.1 live)

pub returns-in-Stopped-clause-index : goal.returns-in-Stopped-clause-index
returns-in-Stopped-clause-index c = let h = c.in-Stopped.ensures.looks in (h.0, h.2, h.3)

pub returns-then-not-stood-clause-index : goal.returns-then-not-stood-clause-index
returns-then-not-stood-clause-index c = let h = c.in-Whole.ensures.looks in (h.0, h.2, h.3)

pub returns-then-seen-kind_of-clause-index : goal.returns-then-seen-kind_of-clause-index
returns-then-seen-kind_of-clause-index c = let h = c.in-Whole.ensures.looks in (h.0, h.2, h.3)

pub returns-clause-index : goal.returns-clause-index
returns-clause-index c = let h = c.in-Whole.ensures.looks in (h.0, h.2, h.3)
