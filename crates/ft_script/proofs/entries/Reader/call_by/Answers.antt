use Rattle.std.proofs.Common.{◌≡◌, ◌∙◌, get_or}
use Rattle.ft_script.specs.Drafts.{Draft}
use Rattle.ft_script.specs.Internal.Outcomes.{draft_of}
use Rattle.ft_script.specs.ScriptLines.{read_call}
use Rattle.ft_script.proofs.ReaderCalls.{call_read, draft_kept}
use Rattle.ft_script.proofs.TokenLists.{shown}
use Rattle.ft_script.proofs.entries.Reader.call_by.Goals as goal

pub returns-clause-read : goal.returns-clause-read
returns-clause-read c =
    let inside : c.swap.new.x ≡ get_or c.args.self.now.cursors.items c.args.thread c.index_mut-cursors.result.now = c.swap.ensures.x_after ∙ c.index_mut-cursors.ensures.value in
    call_read c.args.script.now (draft_of c.args.self.now.draft) (draft_of c.call_of-read.new.self) c.args.self.now.cursors.items c.args.thread c.swap.new.x c.index_mut-cursors.result.now c.call_of-read.result (λ (d : Draft). read_call d c.args.word (shown c.args.words.now)) c.requires.reader c.requires.declared inside c.call_of-read.ensures

pub returns-clause-kept : goal.returns-clause-kept
returns-clause-kept c =
    let inside : c.swap.new.x ≡ get_or c.args.self.now.cursors.items c.args.thread c.index_mut-cursors.result.now = c.swap.ensures.x_after ∙ c.index_mut-cursors.ensures.value in
    draft_kept c.args.script.now (draft_of c.args.self.now.draft) (draft_of c.call_of-read.new.self) c.args.self.now.cursors.items c.args.thread c.swap.new.x c.index_mut-cursors.result.now c.swap-2.new.x c.swap-2.new.y c.call_of-read.result (λ (d : Draft). read_call d c.args.word (shown c.args.words.now)) c.requires.reader c.requires.declared inside c.call_of-read.ensures (c.swap-2.ensures.x_after ∙ c.swap.ensures.y_after) c.swap-2.ensures.y_after
