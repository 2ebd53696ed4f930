use Rattle.std.proofs.Common.{◌≡◌, Some, sym, subst}
use Rattle.ft_model.specs.declared.call.Call.TheVariants as call
use Rattle.ft_model.specs.declared.call.SetCall.TheVariants as set
use Rattle.ft_model.specs.declared.data.Value.{Value}
use Rattle.ft_model.specs.declared.reply.Reply.TheVariants as reply
use Rattle.ft_model.specs.declared.reply.Raise.TheVariants as raise
use Rattle.ft_model.specs.Keys.{as_value}
use Rattle.ft_trace.specs.Holds.{held_unboxed, known_state}
use Rattle.ft_bank.specs.Passes.{shape_of, view}
use Rattle.ft_search.specs.OneEntryWrites.{Leaves, MayWriteEntries, without_key}
use Rattle.ft_search.proofs.Calling.{answer_loaded, written_made}
use Rattle.ft_search.proofs.Running.{did_log}
use Rattle.ft_reads.proofs.Agreeing.{reads_loaded}
use Rattle.ft_whole_tables.proofs.KnownContents.{read_later, read_may}
use Rattle.ft_set.specs.declared.firsts.First.{First}
use Rattle.ft_set.specs.Firsts.{IsFirstOf}
use Rattle.ft_set.proofs.Popping.{popped_entry, popped_leaves, popped_raises, popped_table}
use Rattle.ft_set.proofs.firsts.pop_locked.Goals as goal
use Rattle.ft_set.proofs.firsts.pop_locked.Goals.{After-first_element}

may : (c : After-first_element) → MayWriteEntries (shape_of c.args.bank.now) c.args.s (view c.first_element.new.pass)
may c = read_may (shape_of c.args.bank.now) c.args.s (IsFirstOf (shape_of c.args.bank.now) c.first_element.result) c.args.pass.now c.first_element.new.pass c.requires.pass.1 c.first_element.ensures.reads c.requires.may

found : (c : After-first_element) → IsFirstOf (shape_of c.args.bank.now) c.first_element.result (held_unboxed c.args.s (view c.first_element.new.pass))
found c = read_later (shape_of c.args.bank.now) c.args.s (IsFirstOf (shape_of c.args.bank.now) c.first_element.result) c.args.pass.now c.first_element.new.pass c.requires.pass.1 c.first_element.ensures.reads c.requires.may

here : (c : After-first_element) (first : First) → c.first_element.result ≡ Some first → IsFirstOf (shape_of c.args.bank.now) (Some first) (held_unboxed c.args.s (view c.first_element.new.pass))
here c first is = subst (λ z. IsFirstOf (shape_of c.args.bank.now) z (held_unboxed c.args.s (view c.first_element.new.pass))) is (found c)

leaves : (c : After-first_element) (first : First) → c.first_element.result ≡ Some first → Leaves c.args.s (call.Set c.args.s set.Pop) (reply.Value (as_value first.key)) (record { content = without_key (known_state c.args.s (view c.first_element.new.pass)).content first.key; table = (known_state c.args.s (view c.first_element.new.pass)).table }) (view c.first_element.new.pass)
leaves c first is = popped_leaves (shape_of c.args.bank.now) c.args.s (view c.first_element.new.pass) c.first_element.ensures.pass.1 c.first_element.new.pass.possible (may c) c.requires.set first (here c first is)

pub delete_entry-number-requires-clause-may : goal.delete_entry-number-requires-clause-may
delete_entry-number-requires-clause-may c = may (goal.at.delete_entry-number-requires-clause-may c).After-first_element

pub delete_entry-number-requires-clause-table : goal.delete_entry-number-requires-clause-table
delete_entry-number-requires-clause-table c =
    let d = (goal.at.delete_entry-number-requires-clause-table c).After-first_element in
    popped_table (shape_of c.args.bank.now) c.args.s (view c.first_element.new.pass) c.first_element.ensures.pass.1 c.first_element.new.pass.possible (may d) c.requires.set c.in-Some.first (here d c.in-Some.first c.in-Some.is)

pub delete_entry-number-requires-clause-entry : goal.delete_entry-number-requires-clause-entry
delete_entry-number-requires-clause-entry c =
    let d = (goal.at.delete_entry-number-requires-clause-entry c).After-first_element in
    popped_entry (shape_of c.args.bank.now) c.args.s (view c.first_element.new.pass) c.first_element.ensures.pass.1 c.first_element.new.pass.possible (may d) c.requires.set c.in-Some.first (here d c.in-Some.first c.in-Some.is)

pub delete_entry-number-requires-clause-leaves : goal.delete_entry-number-requires-clause-leaves
delete_entry-number-requires-clause-leaves c = subst (λ (v : Value). Leaves c.args.s (call.Set c.args.s set.Pop) (reply.Value v) (record { content = without_key (known_state c.args.s (view c.first_element.new.pass)).content c.in-Some.first.key; table = (known_state c.args.s (view c.first_element.new.pass)).table }) (view c.first_element.new.pass)) (sym c.into_value.ensures) (leaves (goal.at.delete_entry-number-requires-clause-leaves c).After-first_element c.in-Some.first c.in-Some.is)

pub returns-in-Some-clause-made : goal.returns-in-Some-clause-made
returns-in-Some-clause-made c =
    let d = (goal.at.returns-in-Some-clause-made c).After-first_element in
    let r = c.first_element.ensures.reads in
    let p = c.args.pass.now in
    let q = c.first_element.new.pass in
    let n = c.delete_entry-number.ensures in
    written_made c.args.s (record { content = without_key (known_state c.args.s (view q)).content c.in-Some.first.key; table = (known_state c.args.s (view q)).table }) (call.Set c.args.s set.Pop) (reply.Value c.into_value.result) c.delete_entry-number.result c.written.result (view p) (view q) (view c.delete_entry-number.new.pass) r.0
    (reads_loaded (shape_of c.args.bank.now) c.args.s (IsFirstOf (shape_of c.args.bank.now) c.first_element.result) p q r) (did_log r.0 p q r.2) (subst (λ (v : Value). Leaves c.args.s (call.Set c.args.s set.Pop) (reply.Value v) (record { content = without_key (known_state c.args.s (view c.first_element.new.pass)).content c.in-Some.first.key; table = (known_state c.args.s (view c.first_element.new.pass)).table }) (view c.first_element.new.pass)) (sym c.into_value.ensures) (leaves d c.in-Some.first c.in-Some.is)) n.wrote n.root n.references c.written.ensures

pub answer_made-requires-clause-left : goal.answer_made-requires-clause-left
answer_made-requires-clause-left c = (may (goal.at.answer_made-requires-clause-left c).After-first_element).left

pub answer_made-requires-clause-shown : goal.answer_made-requires-clause-shown
answer_made-requires-clause-shown c =
    let d = (goal.at.answer_made-requires-clause-shown c).After-first_element in
    popped_raises (shape_of c.args.bank.now) c.args.s (view c.first_element.new.pass) c.first_element.ensures.pass.1 c.first_element.new.pass.possible (may d) c.requires.set (subst (λ z. IsFirstOf (shape_of c.args.bank.now) z (held_unboxed c.args.s (view c.first_element.new.pass))) c.in-None.is (found d))

pub returns-in-None-clause-made : goal.returns-in-None-clause-made
returns-in-None-clause-made c =
    let r = c.first_element.ensures.reads in
    let p = c.args.pass.now in
    let q = c.first_element.new.pass in
    answer_loaded (call.Set c.args.s set.Pop) (reply.Raised raise.NoKey) c.answer_made.result.0 c.answer_made.result.1 (view p) (view q) (view c.answer_made.new.pass) r.0
    (reads_loaded (shape_of c.args.bank.now) c.args.s (IsFirstOf (shape_of c.args.bank.now) c.first_element.result) p q r) (did_log r.0 p q r.2) c.answer_made.ensures.said c.answer_made.ensures.made
