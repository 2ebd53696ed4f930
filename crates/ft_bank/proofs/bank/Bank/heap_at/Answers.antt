use Rattle.std.proofs.Common.{◌≡◌, ℕ, ◌+◌, ◌*◌, ◌<◌, sym, ◌∙◌, subst, arith}
use Rattle.ft_layout.specs.Starts.{free_place_word, heap_size}
use Rattle.ft_trace.specs.Addresses.{at, container_count, extent, heap_bits}
use Rattle.ft_bank.specs.Passes.{shape_of}
use Rattle.ft_bank.proofs.BoxAddresses.{heap_at_is, heap_at_low}
use Rattle.ft_bank.proofs.bank.Bank.heap_at.Goals as goal

-- from where the first heap begins
found : (c : goal.After-from-2) → c.args.self.now.heaps + c.from.result * c.args.self.now.heap_words + c.from-2.result ≡ at (shape_of c.args.self.now) (heap_bits c.args.maker c.args.word)
found c =
    let s = c.args.self.now in
    let k = shape_of s in
    let first = s.beginning in
    let word = c.from-2.ensures in
    let heaps : c.from.result * s.heap_words ≡ c.args.maker * heap_size k.heap = λ d. c.from.ensures d * s.heaping d in
    let sum : s.heaps + c.from.result * s.heap_words + c.from-2.result ≡ free_place_word (container_count k) k.heap c.args.maker c.args.word = omega (arith, first, word, heaps) in
    sum ∙ heap_at_is k c.args.maker c.args.word

pub returns-clause-is : goal.returns-clause-is
returns-clause-is c = found c

pub returns-clause-low : goal.returns-clause-low
returns-clause-low c =
    let k = shape_of c.args.self.now in
    subst (λ (n : ℕ). n < extent k) (sym (found c)) (heap_at_low k c.args.maker c.args.word c.requires.maker c.requires.word)
