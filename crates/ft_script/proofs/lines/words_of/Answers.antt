use Rattle.std.proofs.Common.{◌≡◌, ◌∙◌, ◌++◌, ◌∷◌, [], ℕ, List, Option, Bor, ◌-◌, inl, inr, Result, Ok, map, length, take, drop, sym, ap, arith}
use Rattle.ft_script.specs.declared.fault.Fault.{Fault}
use Rattle.ft_script.specs.declared.fault.Fault.TheVariants as fault
use Rattle.ft_script.specs.declared.lines.Place.{Place}
use Rattle.ft_script.specs.declared.lines.Place.TheVariants as place
use Rattle.ft_script.specs.Drafts.{or_fault}
use Rattle.ft_script.specs.Lines.{words_of, words_from, word_start}
use Rattle.ft_script.proofs.WordCuts.{resumed, part, cut_on, cut_plain_on, cut_broken, cut_between, cut_plain, cut_ended, cut_string, cut_escape, start_within}
use Rattle.ft_script.proofs.lines.words_of.Goals as goal

abbrev shown : List (Bor (List ℕ)) → List (List ℕ)
shown words = map (λ (word : Bor (List ℕ)). word.now) words

abbrev done : List (List ℕ) → Result (List (List ℕ)) Fault
done words = Ok words

-- at a known place
at_known : (line : List ℕ) (words : List (Bor (List ℕ))) (at known : Place) (start i : ℕ) (whole : Option (List (List ℕ))) → at ≡ known →
    resumed (shown words) at (part line start i) (words_from at (drop i line)) ≡ whole → resumed (shown words) known (part line start i) (words_from known (drop i line)) ≡ whole
at_known line words at known start i whole is so_far = ap (λ (p : Place). resumed (shown words) p (part line start i) (words_from p (drop i line))) (sym is) ∙ so_far

pub returns-in_default : goal.returns-in_default
returns-in_default c =
    let line = c.args.line.now in
    let none = cut_broken line (shown c.loop-i.words.items) c.loop-i.place c.loop-i.start c.loop-i.i (words_of line) c.loop-i-test.true (sym c.place_after.ensures ∙ c.in_default.is) c.loop-i.invariant.same in
    rw c.into.ensures (ap (or_fault fault.String) none)

pub returns-in-Between : goal.returns-in-Between
returns-in-Between c =
    let line = c.args.line.now in
    ap (or_fault fault.String) (cut_between line (shown c.loop-i.words.items) c.loop-i.start c.loop-i.i (words_of line) c.loop-i-test.false (at_known line c.loop-i.words.items c.loop-i.place place.Between c.loop-i.start c.loop-i.i (words_of line) c.in-Between.is c.loop-i.invariant.same))

pub returns-in-Plain : goal.returns-in-Plain
returns-in-Plain c =
    let line = c.args.line.now in
    let words = c.loop-i.words.items in
    let more : shown c.add_word-in-Plain.new.words.items ≡ shown words ++ take (length line - c.loop-i.start) (drop c.loop-i.start line) ∷ [] = c.in_ok-add_word-in-Plain.ensures in
    elim c.in-Plain.is [
      | inl is ↦ ap (or_fault fault.String) (cut_plain line (shown words) c.loop-i.start c.loop-i.i (words_of line) c.loop-i-test.false (at_known line words c.loop-i.place place.Plain c.loop-i.start c.loop-i.i (words_of line) is c.loop-i.invariant.same)) ∙ ap done (sym more)
      | inr is ↦ ap (or_fault fault.String) (cut_ended line (shown words) c.loop-i.start c.loop-i.i (words_of line) c.loop-i-test.false (at_known line words c.loop-i.place place.Ended c.loop-i.start c.loop-i.i (words_of line) is c.loop-i.invariant.same)) ∙ ap done (sym more)
    ]

pub returns : goal.returns
returns c =
    let line = c.args.line.now in
    let words = c.loop-i.words.items in
    rw c.into-in-String.ensures (elim c.in-String.is [
      | inl is ↦ ap (or_fault fault.String) (cut_string line (shown words) c.loop-i.start c.loop-i.i (words_of line) c.loop-i-test.false (at_known line words c.loop-i.place place.String c.loop-i.start c.loop-i.i (words_of line) is c.loop-i.invariant.same))
      | inr is ↦ ap (or_fault fault.String) (cut_escape line (shown words) c.loop-i.start c.loop-i.i (words_of line) c.loop-i-test.false (at_known line words c.loop-i.place place.Escape c.loop-i.start c.loop-i.i (words_of line) is c.loop-i.invariant.same))
    ])

pub loop-i-preserved-then-goes_on : goal.loop-i-preserved-then-goes_on
loop-i-preserved-then-goes_on c =
    let plain = c.goes_on.ensures.0 c.if-goes_on.true in
    record {
      same = cut_plain_on c.args.line.now (shown c.loop-i.words.items) c.loop-i.place c.loop-i.start c.loop-i.i (words_of c.args.line.now) c.loop-i-test.true c.loop-i.invariant.low plain.0 plain.1 c.loop-i.invariant.same;
      low = omega arith;
    }

pub loop-i-preserved : goal.loop-i-preserved
loop-i-preserved c =
    let line = c.args.line.now in
    let start : c.word_start-start.result ≡ word_start c.loop-i.place c.loop-i.start c.loop-i.i = c.word_start-start.ensures in
    let on = cut_on line (shown c.loop-i.words.items) c.loop-i.place c.in-Some.next c.loop-i.start c.loop-i.i (words_of line) c.loop-i-test.true c.loop-i.invariant.low (sym c.place_after.ensures ∙ c.in-Some.is) c.loop-i.invariant.same in
    record { same = rw (c.in_ok-add_word.ensures, c.word_ends.ensures, start) on; low = start_within c.loop-i.place c.loop-i.start c.loop-i.i c.word_start-start.result c.loop-i.invariant.low start }
