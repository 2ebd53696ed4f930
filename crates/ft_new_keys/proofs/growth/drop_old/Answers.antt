use Rattle.std.proofs.Common.{ℕ, sym, subst}
use Rattle.ft_model.specs.declared.script.Kind.{Kind}
use Rattle.ft_bank.proofs.TableAddresses.{class_is}
use Rattle.ft_table_calls.specs.Dropping.{AreValuePlaces}
use Rattle.ft_new_keys.proofs.growth.drop_old.Goals as goal

pub drop_values-requires-clause-places : goal.drop_values-requires-clause-places
drop_values-requires-clause-places c =
    let t = c.in-Some.table in
    subst (λ (z : Kind × ℕ). AreValuePlaces z.0 z.1 c.entry_values.result)
    (λ i. (sym c.requires.way i, sym (class_is t (c.requires.out t c.in-Some.is).0.2) i)) c.entry_values.ensures
