use Rattle.std.proofs.Common.{sym, ◌∙◌, subst}
use Rattle.ft_layout.specs.declared.slot.Stored.TheVariants.{Plain}
use Rattle.ft_layout.specs.Words.{stored_kind, stored_payload}
use Rattle.ft_model.specs.declared.content.Content.{Content}
use Rattle.ft_trace.specs.Holds.{known_state}
use Rattle.ft_trace.proofs.Tellings.{both_equal}
use Rattle.ft_trace.proofs.ValuePlaces.{plain_kind}
use Rattle.ft_bank.specs.Passes.{shape_of, view}
use Rattle.ft_search.specs.OneEntryWrites.{Leaves, are_of_value}
use Rattle.ft_search.proofs.OtherValues.{ValueLaws, values_known}
use Rattle.ft_search.proofs.Overs.{plain_refs}
use Rattle.ft_search.proofs.Owning.{plain_seen}
use Rattle.ft_search.proofs.ReadyCommits.{begins_entries}
use Rattle.ft_search.proofs.valuing.set_entry.Goals as goal
use Rattle.ft_search.proofs.valuing.set_entry.Goals.{After-words_follow_a_dict}

laws_here : After-words_follow_a_dict → ValueLaws
laws_here c =
    let laws = c.versions_change_nothing.ensures in
    record {
      versions = λ walk room texts mask used words place version within table. laws.entries walk room texts mask used words _ within (laws.entry mask words place version) table;
      first = c.used_entries_follow_a_dict.ensures.first;
      lives = c.used_entries_follow_a_dict.ensures.live;
      follow = c.words_follow_a_dict.ensures.changed;
    }

-- ---- the entry has the value

pub write_nothing-requires-clause-leaves : goal.write_nothing-requires-clause-leaves
write_nothing-requires-clause-leaves c =
    let a = c.args in
    let v = view a.pass.now in
    let says = both_equal a.old.0 (stored_kind (Plain a.value)) a.old.1 (stored_payload (Plain a.value)) (sym c.says_value.ensures ∙ c.if-says_value.true) in
    let known = values_known (laws_here (goal.at.write_nothing-requires-clause-leaves c).After-words_follow_a_dict) (shape_of a.bank.now) a.d a.table v c.requires.pass.1 a.pass.now.possible c.requires.may c.requires.dict c.requires.table a.place a.key a.value c.requires.value c.requires.entry in
    let same = known.1 (sym c.requires.old_kind ∙ says.0, sym c.requires.old_payload ∙ says.1) in
    subst (λ (z : Content). Leaves a.d a.called.now a.said.now (record { content = z; table = (known_state a.d v).table }) v) same c.requires.leaves

-- ---- it has another one

pub store_entry-requires-clause-may : goal.store_entry-requires-clause-may
store_entry-requires-clause-may c = begins_entries (shape_of c.args.bank.now) c.args.d (view c.args.pass.now) c.requires.pass.1 c.requires.may

pub store_entry-requires-clause-own : goal.store_entry-requires-clause-own
store_entry-requires-clause-own c four = absurd (plain_kind c.args.value four)

pub store_entry-requires-clause-stores : goal.store_entry-requires-clause-stores
store_entry-requires-clause-stores c = let none = c.requires.may.boxes.stored in record { named = λ b e. absurd (none b e); boxing = λ b e. absurd (none b e) }

pub store_entry-requires-clause-changes : goal.store_entry-requires-clause-changes
store_entry-requires-clause-changes c =
    let a = c.args in
    let v = view a.pass.now in
    record {
      key = a.key;
      value = a.value;
      entry = c.requires.entry;
      reads = plain_seen v (Plain a.value) (plain_kind a.value) c.requires.value;
      other = (λ d. are_of_value (sym c.requires.old_kind d) (sym c.requires.old_payload d) a.value) ∙ (sym c.says_value.ensures ∙ c.if-says_value.false);
      leaves = c.requires.leaves;
    }

pub returns-clause-references : goal.returns-clause-references
returns-clause-references c =
    let stored = Plain c.args.value in
    plain_refs (shape_of c.args.bank.now) (view c.args.pass.now) (view c.store_entry.new.pass) (stored_kind stored) (stored_payload stored) c.requires.pass.1 c.store_entry.ensures.pass.1 (plain_kind c.args.value) c.store_entry.ensures.references
