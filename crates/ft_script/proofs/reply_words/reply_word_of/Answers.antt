use Rattle.std.proofs.Common.{◌≡◌, Option, rules, tests, ◌∙◌, sym}
use Rattle.std.specs.Str.{bytes_eq}
use Rattle.std.specs.Option.{option_map}
use Rattle.std.proofs.lemmas.Iterator.{YieldsList-from_slice}
use Rattle.std.proofs.lemmas.Iterator.Consumers.{YieldsList-from_copied}
use Rattle.std.proofs.lemmas.Iterator.Search.{find_from_yields_List}
use Rattle.ft_script.specs.declared.reply_words.ReplyWord.{ReplyWord}
use Rattle.ft_script.specs.Internal.Candidates.{read_reply_word, reply_word_text, reply_words}
use Rattle.ft_script.proofs.reply_words.reply_word_of.Goals as goal

same_option : {X : Type 0} (o : Option X) → option_map (λ x. x) o ≡ o
same_option o = search rules

pub returns : goal.returns
unfolding read_reply_word
returns c =
    sym (same_option c.find.result)
    ∙ find_from_yields_List (λ (word : ReplyWord). bytes_eq (reply_word_text word) c.args.token.now) _ _ c.find.result c.find.ensures.ran
    (YieldsList-from_copied (YieldsList-from_slice reply_words cc))
    (λ x b q k. search (rules, tests))
