use Rattle.std.proofs.Common.{◌≡◌, ◌∙◌, List, ℕ, [], ◌∷◌, length, sym, ap, subst, rules}
use Rattle.ft_script.specs.Drafts.{Draft}
use Rattle.ft_script.proofs.Encoded.{AreEncoded, lines_encoded}
use Rattle.ft_script.proofs.KeptDrafts.{IsDraft}
use Rattle.ft_script.proofs.KeptScripts.{empty_is_draft, has_few_threads, kept_on}
use Rattle.std.proofs.lemmas.Result.{err_from_is_err_and}
use Rattle.std.proofs.lemmas.List.{nil_from_length}
use Rattle.ft_script.specs.Drafts.{empty_draft}
use Rattle.ft_script.specs.Lines.{lines_of}
use Rattle.ft_script.specs.Internal.Outcomes.{draft_of}
use Rattle.ft_script.specs.ReadScripts.{read_lines}
use Rattle.ft_script.proofs.LineLemmas.{no_lines}
use Rattle.ft_script.proofs.LineReading.{lines_on, lines_end, text_end, text_done}
use Rattle.ft_script.proofs.parser.read_lines.Goals as goal

nothing_below : (rest : List ℕ) → length rest ≡ 0 → lines_of rest ≡ []
nothing_below rest none = ap lines_of (nil_from_length rest none) ∙ no_lines

pub loop-rest-init : goal.loop-rest-init
loop-rest-init c = record {
  read = ap (λ (d : Draft). read_lines 1 d (lines_of c.args.text.now)) c.empty-draft.ensures;
  kept = subst IsDraft (sym c.empty-draft.ensures) empty_is_draft;
  encoded = lines_encoded c.args.text.now c.requires;
}

pub read_line-requires : goal.read_line-requires
read_line-requires c = has_few_threads (draft_of c.loop-rest.draft) c.loop-rest.invariant.kept

pub loop-rest-preserved : goal.loop-rest-preserved
loop-rest-preserved c =
    let is = sym c.reported.ensures ∙ c.in_ok-reported.was in
    let encoded : AreEncoded (c.next_line.result.0.now ∷ lines_of c.next_line.result.1.now) = subst AreEncoded c.next_line.ensures.line c.loop-rest.invariant.encoded in
    record {
      read = rw c.saturating_add-number.ensures (lines_on c.read_line.result c.loop-rest.number (draft_of c.loop-rest.draft) (draft_of c.read_line.new.self) c.next_line.result.0.now (lines_of c.loop-rest.rest.now) (lines_of c.next_line.result.1.now) (read_lines 1 empty_draft (lines_of c.args.text.now))
          is c.read_line.ensures c.next_line.ensures.line c.loop-rest.invariant.read);
      kept = kept_on c.read_line.result c.loop-rest.number (draft_of c.loop-rest.draft) (draft_of c.read_line.new.self) c.next_line.result.0.now _ is c.read_line.ensures c.loop-rest.invariant.kept encoded.0;
      encoded = encoded.1;
    }

pub returns-in_err-reported-clause-fault : goal.returns-in_err-reported-clause-fault
returns-in_err-reported-clause-fault c =
    let p = err_from_is_err_and c.from_residual.result c.from_residual.ensures.1 in
    rw (p.1, p.2) (lines_end c.read_line.result c.loop-rest.number (draft_of c.loop-rest.draft) (draft_of c.read_line.new.self) c.next_line.result.0.now (lines_of c.loop-rest.rest.now) (lines_of c.next_line.result.1.now) (read_lines 1 empty_draft (lines_of c.args.text.now)) c.in_err-reported.field-0.0
    (sym c.reported.ensures ∙ c.in_err-reported.was) c.read_line.ensures c.next_line.ensures.line c.loop-rest.invariant.read)

pub returns-in_err-reported-2-clause-fault : goal.returns-in_err-reported-2-clause-fault
returns-in_err-reported-2-clause-fault c =
    let p = err_from_is_err_and c.from_residual-in_err-reported-2.result c.from_residual-in_err-reported-2.ensures.1 in
    let none : length c.loop-rest.rest.now ≡ 0 = search rules in
    rw (p.1, p.2) (text_end c.end_thread.result c.loop-rest.number (draft_of c.loop-rest.draft) (draft_of c.end_thread.new.self) (lines_of c.loop-rest.rest.now) (read_lines 1 empty_draft (lines_of c.args.text.now)) c.in_err-reported-2.field-0.0
    (sym c.reported-2.ensures ∙ c.in_err-reported-2.was) c.end_thread.ensures.read (nothing_below c.loop-rest.rest.now none) c.loop-rest.invariant.read)

pub returns-clause-read : goal.returns-clause-read
returns-clause-read c =
    let none : length c.loop-rest.rest.now ≡ 0 = search rules in
    text_done c.end_thread.result c.loop-rest.number (draft_of c.loop-rest.draft) (draft_of c.end_thread.new.self) (lines_of c.loop-rest.rest.now) (read_lines 1 empty_draft (lines_of c.args.text.now))
    (sym c.reported-2.ensures ∙ c.in_ok-reported-2.was) c.end_thread.ensures.read (nothing_below c.loop-rest.rest.now none) c.loop-rest.invariant.read
