-- The tables of containers are in order after each write.
use Rattle.std.proofs.Common.{List, [], ◌∷◌}
use Rattle.ft_model.specs.TablesInOrder.{AreTablesInOrder}
use Rattle.ft_model.specs.Worlds.{no_hands}
use Rattle.ft_model.specs.TableUses.{stored_newest}
use Rattle.ft_model.proofs.TableOrder.{order-step, order-start}
use Rattle.ft_trace.specs.declared.Shape.{Shape}
use Rattle.ft_trace.specs.declared.View.{View}
use Rattle.ft_trace.specs.declared.Act.{Act}
use Rattle.ft_trace.specs.declared.Act.TheVariants.{Commit}
use Rattle.ft_trace.specs.Traces.{Event, did, forked, joined, sent, run, writes_of, history, May, Valid}

order_by : (k : Shape) (es : List Event) (v : View) (a : Act) → May k (run k es) (history es) v a → AreTablesInOrder (stored_newest k.starts (history es)) → AreTablesInOrder (stored_newest k.starts (writes_of a (history es)))
order_by k es v (Commit c r f s) may old = order-step (stored_newest k.starts (history es)) no_hands c may.11 may.9 old
order_by k es v act may old = old

pub in_order : (k : Shape) (es : List Event) → Valid k es → AreTablesInOrder (stored_newest k.starts (history es))
in_order k [] valid = order-start k.starts
in_order k (did id v a ∷ es) valid = order_by k es v a valid.1.3 (in_order k es valid.0)
in_order k (forked id v ∷ es) valid = in_order k es valid.0
in_order k (sent id v given ∷ es) valid = in_order k es valid.0
in_order k (joined id v other w ∷ es) valid = in_order k es valid.0
