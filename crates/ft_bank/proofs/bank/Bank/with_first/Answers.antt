use Rattle.std.proofs.Common.{◌≡◌, ℕ, ◌*◌, List, length, [], refl, sym, ap, ◌∙◌, subst, arith}
use Rattle.std.proofs.lemmas.List.{length-map}
use Rattle.std.proofs.lemmas.Nat.{mul-le}
use Rattle.ft_model.specs.Worlds.{start_as}
use Rattle.ft_layout.specs.Starts.{box_start, heap_start}
use Rattle.ft_trace.specs.Addresses.{container_count}
use Rattle.ft_trace.specs.Traces.{IsReachable}
use Rattle.ft_trace.proofs.Addresses.{opening_long}
use Rattle.ft_bank.specs.Shapes.{plan}
use Rattle.ft_bank.proofs.StartWords.{fits_of}
use Rattle.ft_bank.proofs.Allowed.{same_settled}
use Rattle.ft_trace.specs.Acts.{starter}
use Rattle.ft_bank.specs.Retired.{AreRetired}
use Rattle.ft_bank.proofs.Retiring.{retired_none}
use Rattle.ft_bank.proofs.bank.Bank.with_first.Goals as goal

pub of_words-requires : goal.of_words-requires
of_words-requires c = ([], fits_of c.args.shape c.requires, sym (c.as_slice.ensures.value ∙ c.in_ok-words.ensures.words), refl)

pub invariant_of-pass : goal.invariant_of-pass
invariant_of-pass c =
    let e = c.in_ok-table.ensures.4 in record {
      bare = ap (λ m. m.1) e;
      numbered = ap (λ m. m.0.number) e;
      following = sym (ap (λ m. m.0.next) e);
      leaves = (λ d. c.from.ensures d * c.from-2.ensures d) ∙ sym (ap (λ m. m.0.left) e);
      awake = (let some_pass = c.requires.passes.0 in omega (arith, some_pass, ap (λ m. m.0.tokens) e));
      settled = same_settled _ (starter (plan c.args.shape)) (ap (λ m. m.0) e) (omega arith);
      retiring = subst (λ (l : List ℕ). AreRetired l c.in_ok-table.seat.me.0) (sym c.in_ok-sections.ensures.retired) (retired_none _ (ap (λ m. m.0.log) e));
      possible = ∣ subst IsReachable (sym (ap (λ m. m.0) e)) ([], 0, (fits_of c.args.shape c.requires, refl)) ∣₁;
    }

-- how many containers there are
count : (c : goal.After-heap_start) → c.len-containers.result ≡ container_count (plan c.args.shape)
count c =
    let many = length-map c.args.shape.kinds.items start_as in
    omega (arith, many, c.len-containers.ensures, c.args.shape.kinds.ok.0)

pub invariant_of-bank : goal.invariant_of-bank
invariant_of-bank c = record {
  keyed = c.in_ok-table.ensures.5;
  wide = c.in_ok-table.ensures.0 ∙ (ap (λ (l : List ℕ). length l) (c.as_slice.ensures.value ∙ c.in_ok-words.ensures.words) ∙ opening_long (plan c.args.shape));
  bare = c.in_ok-table.ensures.1;
  fits = c.requires;
  starting = c.in_ok-starts.ensures;
  sizing = c.in_ok-sizes.ensures;
  beginning = c.heap_start-heaps.ensures.is ∙ ap (λ (n : ℕ). heap_start n c.args.shape.heap 0) (count c);
  boxing = c.box_start-boxes.ensures ∙ ap (λ (n : ℕ). box_start n c.args.shape.heap 0 0) (count c);
  heaping = let one = c.heap_start.ensures.is in let none = c.heap_start-heaps.ensures.is in omega (arith, one, none);
  low = c.in_ok-words.ensures.low;
  few = let p = mul-le c.args.shape.passes c.args.shape.calls 64 4294967296 c.requires.passes.1 (omega (arith, c.requires.calls)) in omega (arith, p);
}
