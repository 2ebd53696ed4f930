use Rattle.std.proofs.Common.{◌≡◌, ◌∙◌, true, false, sym}
use Rattle.std.specs.Str.{bytes_eq}
use Rattle.std.proofs.lemmas.Bool.Decides.{not_from_Decides}
use Rattle.std.proofs.lemmas.Slice.Eq.{bytes_eq-Decides}
use Rattle.ft_script.specs.CallWords.{call_word_text}
use Rattle.ft_script.proofs.LikelyWords.{unlikely, other_word, same_word}
use Rattle.ft_script.proofs.call_words.call_word_of.Goals as goal

pub returns-in_err-word : goal.returns-in_err-word
returns-in_err-word c = c.from_residual.ensures ∙ unlikely c.args.bytes.now (sym c.likely_word.ensures ∙ c.in_err-word.was)

pub returns-then-eq : goal.returns-then-eq
returns-then-eq c =
    let is : bytes_eq (call_word_text c.in_ok-word.word) c.args.bytes.now ≡ true = rw c.text.ensures at (sym c.eq.ensures ∙ c.if-eq.true) in
    same_word c.args.bytes.now c.in_ok-word.word ((bytes_eq-Decides (call_word_text c.in_ok-word.word) c.args.bytes.now).0 is)

pub returns-else-eq : goal.returns-else-eq
returns-else-eq c =
    let is : bytes_eq (call_word_text c.in_ok-word.word) c.args.bytes.now ≡ false = rw c.text.ensures at (sym c.eq.ensures ∙ c.if-eq.false) in
    other_word c.args.bytes.now c.in_ok-word.word (sym c.likely_word.ensures ∙ c.in_ok-word.was)
    (not_from_Decides (bytes_eq (call_word_text c.in_ok-word.word) c.args.bytes.now) (bytes_eq-Decides (call_word_text c.in_ok-word.word) c.args.bytes.now) is)
