use Rattle.std.proofs.Common.{◌≡◌, Some, subst}
use Rattle.ft_model.specs.declared.call.Call.TheVariants as call
use Rattle.ft_model.specs.declared.call.DictCall.TheVariants as dict
use Rattle.ft_model.specs.declared.reply.Reply.TheVariants as reply
use Rattle.ft_model.specs.declared.reply.Raise.TheVariants as raise
use Rattle.ft_trace.specs.Holds.{held_unboxed, known_state}
use Rattle.ft_bank.specs.Passes.{shape_of, view}
use Rattle.ft_search.specs.OneEntryWrites.{Leaves, MayWriteEntries, without_key}
use Rattle.ft_search.proofs.Calling.{answer_loaded, written_made}
use Rattle.ft_search.proofs.Running.{did_log}
use Rattle.ft_reads.proofs.Agreeing.{reads_loaded}
use Rattle.ft_whole_tables.proofs.KnownContents.{read_later, read_may}
use Rattle.ft_dict.specs.declared.lasts.Last.{Last}
use Rattle.ft_dict.specs.Lasts.{IsLastOf}
use Rattle.ft_dict.proofs.Popping.{popped_entry, popped_leaves, popped_raises, popped_table}
use Rattle.ft_dict.proofs.lasts.popitem_locked.Goals as goal
use Rattle.ft_dict.proofs.lasts.popitem_locked.Goals.{After-last_pair}

may : (c : After-last_pair) → MayWriteEntries (shape_of c.args.bank.now) c.args.d (view c.last_pair.new.pass)
may c = read_may (shape_of c.args.bank.now) c.args.d (IsLastOf (shape_of c.args.bank.now) c.last_pair.result) c.args.pass.now c.last_pair.new.pass c.requires.pass.1 c.last_pair.ensures.reads c.requires.may

found : (c : After-last_pair) → IsLastOf (shape_of c.args.bank.now) c.last_pair.result (held_unboxed c.args.d (view c.last_pair.new.pass))
found c = read_later (shape_of c.args.bank.now) c.args.d (IsLastOf (shape_of c.args.bank.now) c.last_pair.result) c.args.pass.now c.last_pair.new.pass c.requires.pass.1 c.last_pair.ensures.reads c.requires.may

here : (c : After-last_pair) (last : Last) → c.last_pair.result ≡ Some last → IsLastOf (shape_of c.args.bank.now) (Some last) (held_unboxed c.args.d (view c.last_pair.new.pass))
here c last is = subst (λ z. IsLastOf (shape_of c.args.bank.now) z (held_unboxed c.args.d (view c.last_pair.new.pass))) is (found c)

leaves : (c : After-last_pair) (last : Last) → c.last_pair.result ≡ Some last → Leaves c.args.d (call.Dict c.args.d dict.PopItem) (reply.Pair last.key last.value) (record { content = without_key (known_state c.args.d (view c.last_pair.new.pass)).content last.key; table = (known_state c.args.d (view c.last_pair.new.pass)).table }) (view c.last_pair.new.pass)
leaves c last is = popped_leaves (shape_of c.args.bank.now) c.args.d (view c.last_pair.new.pass) c.last_pair.ensures.pass.1 c.last_pair.new.pass.possible (may c) c.requires.dict last (here c last is)

pub delete_entry-number-requires-clause-may : goal.delete_entry-number-requires-clause-may
delete_entry-number-requires-clause-may c = may (goal.at.delete_entry-number-requires-clause-may c).After-last_pair

pub delete_entry-number-requires-clause-table : goal.delete_entry-number-requires-clause-table
delete_entry-number-requires-clause-table c =
    let d = (goal.at.delete_entry-number-requires-clause-table c).After-last_pair in
    popped_table (shape_of c.args.bank.now) c.args.d (view c.last_pair.new.pass) c.last_pair.ensures.pass.1 c.last_pair.new.pass.possible (may d) c.requires.dict c.in-Some.last (here d c.in-Some.last c.in-Some.is)

pub delete_entry-number-requires-clause-entry : goal.delete_entry-number-requires-clause-entry
delete_entry-number-requires-clause-entry c =
    let d = (goal.at.delete_entry-number-requires-clause-entry c).After-last_pair in
    popped_entry (shape_of c.args.bank.now) c.args.d (view c.last_pair.new.pass) c.last_pair.ensures.pass.1 c.last_pair.new.pass.possible (may d) c.requires.dict c.in-Some.last (here d c.in-Some.last c.in-Some.is)

pub delete_entry-number-requires-clause-leaves : goal.delete_entry-number-requires-clause-leaves
delete_entry-number-requires-clause-leaves c = leaves (goal.at.delete_entry-number-requires-clause-leaves c).After-last_pair c.in-Some.last c.in-Some.is

pub returns-in-Some-clause-made : goal.returns-in-Some-clause-made
returns-in-Some-clause-made c =
    let d = (goal.at.returns-in-Some-clause-made c).After-last_pair in
    let r = c.last_pair.ensures.reads in
    let p = c.args.pass.now in
    let q = c.last_pair.new.pass in
    let n = c.delete_entry-number.ensures in
    written_made c.args.d (record { content = without_key (known_state c.args.d (view q)).content c.in-Some.last.key; table = (known_state c.args.d (view q)).table }) (call.Dict c.args.d dict.PopItem) (reply.Pair c.in-Some.last.key c.in-Some.last.value) c.delete_entry-number.result c.written.result (view p) (view q) (view c.delete_entry-number.new.pass) r.0
    (reads_loaded (shape_of c.args.bank.now) c.args.d (IsLastOf (shape_of c.args.bank.now) c.last_pair.result) p q r) (did_log r.0 p q r.2) (leaves d c.in-Some.last c.in-Some.is) n.wrote n.root n.references c.written.ensures

pub answer_made-requires-clause-left : goal.answer_made-requires-clause-left
answer_made-requires-clause-left c = (may (goal.at.answer_made-requires-clause-left c).After-last_pair).left

pub answer_made-requires-clause-shown : goal.answer_made-requires-clause-shown
answer_made-requires-clause-shown c =
    let d = (goal.at.answer_made-requires-clause-shown c).After-last_pair in
    popped_raises (shape_of c.args.bank.now) c.args.d (view c.last_pair.new.pass) c.last_pair.ensures.pass.1 c.last_pair.new.pass.possible (may d) c.requires.dict (subst (λ z. IsLastOf (shape_of c.args.bank.now) z (held_unboxed c.args.d (view c.last_pair.new.pass))) c.in-None.is (found d))

pub returns-in-None-clause-made : goal.returns-in-None-clause-made
returns-in-None-clause-made c =
    let r = c.last_pair.ensures.reads in
    let p = c.args.pass.now in
    let q = c.last_pair.new.pass in
    answer_loaded (call.Dict c.args.d dict.PopItem) (reply.Raised raise.NoKey) c.answer_made.result.0 c.answer_made.result.1 (view p) (view q) (view c.answer_made.new.pass) r.0
    (reads_loaded (shape_of c.args.bank.now) c.args.d (IsLastOf (shape_of c.args.bank.now) c.last_pair.result) p q r) (did_log r.0 p q r.2) c.answer_made.ensures.said c.answer_made.ensures.made
