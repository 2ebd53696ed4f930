use Rattle.std.proofs.Common.{◌≡◌, ℕ, ◌+◌, ◌*◌, ◌<◌, sym, ap, ◌∙◌, subst, arith}
use Rattle.ft_layout.specs.Starts.{box_start, heap_size}
use Rattle.ft_trace.specs.Addresses.{at, box_word, container_count, extent}
use Rattle.ft_bank.specs.BoxSteps.{box_id}
use Rattle.ft_bank.specs.Passes.{shape_of}
use Rattle.ft_bank.proofs.BoxAddresses.{place_low, box_at_is, box_at_low}
use Rattle.ft_bank.proofs.bank.Bank.box_at.Goals as goal

-- from where the boxes of the first heap begin
found : (c : goal.After-from-2) → c.args.self.now.boxes + c.from.result * c.args.self.now.heap_words + 4 * c.from-2.result + c.args.word ≡ at (shape_of c.args.self.now) (box_word (box_id c.args.b) c.args.word)
found c =
    let s = c.args.self.now in
    let k = shape_of s in
    let b = c.args.b in
    let first = s.boxing in
    let place = c.from-2.ensures in
    let heaps : c.from.result * s.heap_words ≡ b.pass * heap_size k.heap = λ d. c.from.ensures d * s.heaping d in
    let sum : s.boxes + c.from.result * s.heap_words + 4 * c.from-2.result + c.args.word ≡ box_start (container_count k) k.heap b.pass b.place + c.args.word = omega (arith, first, place, heaps) in
    sum ∙ box_at_is k b c.args.word (place_low k b s.fits.heap c.requires.name)

pub returns-clause-is : goal.returns-clause-is
returns-clause-is c = found c

pub returns-clause-low : goal.returns-clause-low
returns-clause-low c =
    let k = shape_of c.args.self.now in
    subst (λ (n : ℕ). n < extent k) (sym (found c)) (box_at_low k c.args.b c.args.word c.args.self.now.fits.heap c.requires.name c.requires.word)
