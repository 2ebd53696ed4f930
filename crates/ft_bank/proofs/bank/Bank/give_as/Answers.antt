use Rattle.std.proofs.Common.{◌≡◌, sym, ap, ◌∙◌, subst, arith}
use Rattle.std.specs.Prelude.{bit_or, slice_index, slice_set}
use Rattle.ft_trace.specs.Addresses.{free_bit_of, free_word_of}
use Rattle.ft_trace.specs.Bits.{bit_off}
use Rattle.ft_trace.specs.declared.Act.{Act}
use Rattle.ft_trace.specs.declared.Shape.{Shape}
use Rattle.ft_trace.specs.Acts.{left_next, view_after}
use Rattle.ft_trace.specs.Traces.{IsReachable}
use Rattle.ft_bank.specs.Retired.{AreRetired}
use Rattle.ft_bank.specs.Shapes.{plan}
use Rattle.ft_bank.specs.TableNames.{IsTableIn, table_id}
use Rattle.ft_bank.proofs.Allowed.{found, alive, acted_possible, token_kept, still_settled}
use Rattle.ft_bank.proofs.Retiring.{given_back}
use Rattle.ft_bank.proofs.bank.Bank.give_as.Goals as goal

pub fetch_or-requires : goal.fetch_or-requires
fetch_or-requires g c =
    let p = c.args.pass.now in
    (c.requires.pass.0, omega (arith, c.args.self.now.wide), found p.seat.me p.seat.id c.args.word (λ n. bit_or n c.args.mask) (alive _ p.seat.me.0 p.numbered p.awake) g.A.Saying.act c.requires.act c.requires.ready (plan c.args.self.now.table.shared.key) _)

pub invariant_of-pass : goal.invariant_of-pass
invariant_of-pass g c =
    let p = c.args.pass.now in
    let e = c.fetch_or.ensures.2 in
    let kept = c.deref_mut.ensures.value in
    let place = free_word_of (table_id c.args.table) in
    let changed = c.clear_bit.ensures ∙ (λ d. slice_set (kept d) place (bit_off (free_bit_of (table_id c.args.table)) (slice_index (kept d) place))) in
    let is = c.requires.is c.fetch_or.result in
    let left : left_next (g.A.Saying.act c.fetch_or.result) p.seat.me.0.left ≡ p.seat.me.0.left = ap (λ (a : Act). left_next a p.seat.me.0.left) is in record {
      bare = e.1 ∙ p.bare;
      numbered = ap (λ v. v.number) e.0 ∙ p.numbered;
      following = p.following ∙ sym (ap (λ v. v.next) e.0);
      leaves = p.leaves ∙ (sym left ∙ sym (ap (λ v. v.left) e.0));
      awake = token_kept _ _ (ap (λ v. v.tokens) e.0) p.awake;
      settled = still_settled p.seat.me.0 _ _ e.0 p.settled;
      retiring = subst (λ l. AreRetired l c.fetch_or.new.seat.me.0) (sym changed) (given_back p.retired.value p.seat.me.0 c.fetch_or.new.seat.me.0 c.args.table (subst (λ (z : Shape). IsTableIn z c.args.table) (sym c.requires.pass.1) c.requires.table) p.retiring (e.0 ∙ ap (λ (a : Act). view_after a p.seat.me.0) is));
      possible = ∣ subst IsReachable (sym e.0) (acted_possible p.seat.me.0 _ e.2) ∣₁;
    }
