-- A pass that makes another, and one that takes another in.
use Rattle.std.proofs.Common.{[], ◌∷◌, length, set, refl}
use Rattle.ft_trace.specs.declared.View.{View}
use Rattle.ft_trace.specs.Acts.{maker, made}
use Rattle.ft_trace.specs.Traces.{forked, run, IsReachable, MayFork}
use Rattle.atomic_table.proofs.Lists.{at_longer, at_last}
use Rattle.ft_trace.proofs.Sizes.{set_at}

pub maker_possible : (v : View) → MayFork v → IsReachable v → IsReachable (maker v)
maker_possible v may p =
    let es = p.0 in
    let at = set_at (run v.shape es).views p.1 v (maker v) p.2.1 in
    (forked p.1 v ∷ es, p.1, ((p.2.0, (p.2.1, may.live, may.next, may.parts, may.left, may.few, may.tokens)), at_longer (set (run v.shape es).views p.1 (maker v)) (made v ∷ []) p.1 (maker v) at))

pub made_possible : (v : View) → MayFork v → IsReachable v → IsReachable (made v)
made_possible v may p =
    let es = p.0 in
    let l = set (run v.shape es).views p.1 (maker v) in
    (forked p.1 v ∷ es, length l, ((p.2.0, (p.2.1, may.live, may.next, may.parts, may.left, may.few, may.tokens)), at_last l (made v) (length l) refl))
