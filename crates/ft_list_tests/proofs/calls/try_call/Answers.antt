use Rattle.ft_section.specs.declared.answers.Objects.TheVariants.{One}
use Rattle.ft_list_tests.proofs.TwoLists.{may_again}
use Rattle.ft_list_tests.proofs.calls.try_call.Goals as goal

pub returns-in-Append : goal.returns-in-Append
returns-in-Append c = record { may = may_again c.args.bank.now (One c.args.l) c.args.pass.now c.try_append.new.pass c.try_append.result c.made.result c.try_append.ensures.sections c.made.ensures }

pub returns-in-Insert : goal.returns-in-Insert
returns-in-Insert c = record { may = may_again c.args.bank.now (One c.args.l) c.args.pass.now c.try_insert.new.pass c.try_insert.result c.made-in-Insert.result c.try_insert.ensures.sections c.made-in-Insert.ensures }

pub returns-in-Get : goal.returns-in-Get
returns-in-Get c = record { may = may_again c.args.bank.now (One c.args.l) c.args.pass.now c.try_get.new.pass c.try_get.result c.made-in-Get.result c.try_get.ensures.sections c.made-in-Get.ensures }

pub returns-in-Set : goal.returns-in-Set
returns-in-Set c = record { may = may_again c.args.bank.now (One c.args.l) c.args.pass.now c.try_set.new.pass c.try_set.result c.made-in-Set.result c.try_set.ensures.sections c.made-in-Set.ensures }

pub returns-in-Del : goal.returns-in-Del
returns-in-Del c = record { may = may_again c.args.bank.now (One c.args.l) c.args.pass.now c.try_del.new.pass c.try_del.result c.made-in-Del.result c.try_del.ensures.sections c.made-in-Del.ensures }

pub returns-in-Pop : goal.returns-in-Pop
returns-in-Pop c = record { may = may_again c.args.bank.now (One c.args.l) c.args.pass.now c.try_pop.new.pass c.try_pop.result c.made-in-Pop.result c.try_pop.ensures.sections c.made-in-Pop.ensures }

pub returns-in-Remove : goal.returns-in-Remove
returns-in-Remove c = record { may = may_again c.args.bank.now (One c.args.l) c.args.pass.now c.try_remove.new.pass c.try_remove.result c.made-in-Remove.result c.try_remove.ensures.sections c.made-in-Remove.ensures }

pub returns-in-Index : goal.returns-in-Index
returns-in-Index c = record { may = may_again c.args.bank.now (One c.args.l) c.args.pass.now c.try_index.new.pass c.try_index.result c.made-in-Index.result c.try_index.ensures.sections c.made-in-Index.ensures }

pub returns-in-Count : goal.returns-in-Count
returns-in-Count c = record { may = may_again c.args.bank.now (One c.args.l) c.args.pass.now c.try_count.new.pass c.try_count.result c.made-in-Count.result c.try_count.ensures.sections c.made-in-Count.ensures }

pub returns-in-Has : goal.returns-in-Has
returns-in-Has c = record { may = may_again c.args.bank.now (One c.args.l) c.args.pass.now c.try_has.new.pass c.try_has.result c.made-in-Has.result c.try_has.ensures.sections c.made-in-Has.ensures }

pub returns-in-Reverse : goal.returns-in-Reverse
returns-in-Reverse c = record { may = may_again c.args.bank.now (One c.args.l) c.args.pass.now c.try_reverse.new.pass c.try_reverse.result c.made-in-Reverse.result c.try_reverse.ensures.sections c.made-in-Reverse.ensures }

pub returns-in-Slice : goal.returns-in-Slice
returns-in-Slice c = record { may = may_again c.args.bank.now (One c.args.l) c.args.pass.now c.try_slice.new.pass c.try_slice.result c.made-in-Slice.result c.try_slice.ensures.sections c.made-in-Slice.ensures }

pub returns-in-Clear : goal.returns-in-Clear
returns-in-Clear c = record { may = may_again c.args.bank.now (One c.args.l) c.args.pass.now c.try_clear.new.pass c.try_clear.result c.made-in-Clear.result c.try_clear.ensures.sections c.made-in-Clear.ensures }

pub returns-in-Len : goal.returns-in-Len
returns-in-Len c = record { may = may_again c.args.bank.now (One c.args.l) c.args.pass.now c.try_len.new.pass c.try_len.result c.made-in-Len.result c.try_len.ensures.sections c.made-in-Len.ensures }

pub returns-in-Items : goal.returns-in-Items
returns-in-Items c = record { may = may_again c.args.bank.now (One c.args.l) c.args.pass.now c.try_items.new.pass c.try_items.result c.made-in-Items.result c.try_items.ensures.sections c.made-in-Items.ensures }
