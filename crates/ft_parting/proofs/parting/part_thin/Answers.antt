use Rattle.std.proofs.Common.{◌≡◌, ℕ, Bool, false, Option, sym, subst}
use Rattle.ft_model.specs.declared.content.Content.TheVariants as content
use Rattle.ft_model.specs.declared.reply.Reply.TheVariants as reply
use Rattle.ft_model.specs.TableUses.{passes_cap}
use Rattle.ft_model.specs.Worlds.{set_of}
use Rattle.ft_trace.specs.Holds.{known_state}
use Rattle.ft_bank.specs.Passes.{shape_of, view}
use Rattle.ft_table_calls.specs.declared.adding.Added.TheVariants as added
use Rattle.ft_table_calls.specs.Adding.{IsAdded}
use Rattle.ft_merging.specs.Parting.{parted}
use Rattle.ft_merging.proofs.ThinningEnds.{is_set}
use Rattle.ft_merging.proofs.JoinedCalls.{made_here}
use Rattle.ft_merging.proofs.JoinedSame.{known_cap}
use Rattle.ft_parting.proofs.PartedSets.{parts_thins, thin_cap, thin_kept, thin_takes}
use Rattle.ft_parting.proofs.parting.part_thin.Goals as goal
use Rattle.ft_parting.proofs.parting.part_thin.Goals.{After-used_entries_follow_a_set}

few : (c : After-used_entries_follow_a_set) → passes_cap (content.Set (parted (known_state c.args.s (view c.args.pass.now)).content (known_state c.args.t (view c.args.pass.now)).content)) ≡ false
few c =
    let a = c.args in
    let k = shape_of a.bank.now in
    let v = view a.pass.now in
    thin_cap (known_state a.s v) (known_state a.t v) (set_of (known_state a.s v).content) (is_set k v a.s c.requires.pass.1 a.pass.now.possible c.requires.may.locked c.requires.set) c.requires.none
    (known_cap k a.s v c.requires.pass.1 a.pass.now.possible c.requires.may.keyed c.requires.may.locked c.requires.may.stands (record { pairs = c.used_entries_follow_a_dict.ensures.first; elements = c.used_entries_follow_a_set.ensures.first }))

pub thin_by-requires-clause-leaves : goal.thin_by-requires-clause-leaves
thin_by-requires-clause-leaves c =
    let a = c.args in
    let k = shape_of a.bank.now in
    let v = view a.pass.now in
    let d = (goal.at.thin_by-requires-clause-leaves c).After-used_entries_follow_a_set in
    parts_thins a.s a.t a.called.now v c.requires.parts (thin_kept (known_state a.s v) (known_state a.t v) (set_of (known_state a.s v).content) (is_set k v a.s c.requires.pass.1 a.pass.now.possible c.requires.may.locked c.requires.set) c.requires.none) (few d)

pub returns-clause-added : goal.returns-clause-added
returns-clause-added c =
    let a = c.args in
    let k = shape_of a.bank.now in
    let v = view a.pass.now in
    let w = view c.thin_by.new.pass in
    let d = (goal.at.returns-clause-added c).After-used_entries_follow_a_set in
    let n = c.thin_by.ensures in
    let takes = thin_takes (known_state a.s v) (known_state a.t v) (set_of (known_state a.s v).content) (is_set k v a.s c.requires.pass.1 a.pass.now.possible c.requires.may.locked c.requires.set) c.requires.none in
    subst (λ (z : Option ℕ × Bool). IsAdded k z.0 z.1 a.called.now reply.Done v w (added.Made c.written.result)) (λ i. (sym takes i, sym (few d) i))
    (made_here k a.s a.called.now v w c.written.result c.thin_by.result c.written.ensures c.requires.parts.changed n.wrote n.references n.root)
