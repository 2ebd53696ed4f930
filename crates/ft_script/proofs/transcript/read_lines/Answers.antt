use Rattle.std.proofs.Common.{◌≡◌, ◌∙◌, ℕ, List, Vec, Global, map, length, sym, ap, rules, arith}
use Rattle.std.proofs.lemmas.Result.{err_from_is_err_and}
use Rattle.ft_script.specs.Internal.Outcomes.{draft_of}
use Rattle.ft_script.specs.Internal.Readers.{IsReaderOf}
use Rattle.ft_script.proofs.LineCases.{Adds}
use Rattle.ft_script.proofs.TranscriptReading.{none_read, one_more, all_read, line_shorter, on_read, bad_reported, end_reported}
use Rattle.ft_script.proofs.transcript.read_lines.Goals as goal

abbrev bytes_of : Vec ℕ Global → List ℕ
bytes_of text = text.items

pub loop-rest-init : goal.loop-rest-init
loop-rest-init c = record {
  read = none_read c.args.script.now c.args.bytes.now c.empty-transcript.result.entries.items (map bytes_of c.empty-transcript.result.world.items) c.empty-transcript.ensures.entries (ap (map bytes_of) c.empty-transcript.ensures.world);
  reader = c.in_ok-reader.ensures;
}

pub loop-rest-preserved : goal.loop-rest-preserved
loop-rest-preserved c =
    let reported = sym c.reported.ensures ∙ c.in_ok-reported.was in
    record {
      read = one_more c.args.script.now c.args.bytes.now c.loop-rest.rest.now c.in-Some.parts.0.now c.in-Some.parts.1.now c.loop-rest.transcript.entries.items c.read_line-read.new.transcript.entries.items (map bytes_of c.loop-rest.transcript.world.items) (map bytes_of c.read_line-read.new.transcript.world.items) c.loop-rest.number c.saturating_add-number.result c.loop-rest.invariant.read c.in-Some.ensures.0
          (on_read (Adds c.args.script.now c.in-Some.parts.0.now c.loop-rest.transcript.entries.items (map bytes_of c.loop-rest.transcript.world.items) c.read_line-read.new.transcript.entries.items (map bytes_of c.read_line-read.new.transcript.world.items)) c.read_line-read.result c.loop-rest.number reported c.read_line-read.ensures.read) c.saturating_add-number.ensures;
      reader = on_read (IsReaderOf c.args.script.now (draft_of c.read_line-read.new.reader.draft) c.read_line-read.new.reader.cursors.items) c.read_line-read.result c.loop-rest.number reported c.read_line-read.ensures.kept;
    }

pub loop-rest-smaller : goal.loop-rest-smaller
loop-rest-smaller c = line_shorter c.loop-rest.rest.now c.in-Some.parts.0.now c.in-Some.parts.1.now c.in-Some.ensures.0 c.in-Some.ensures.1

pub returns-in_default-clause-fault : goal.returns-in_default-clause-fault
returns-in_default-clause-fault c =
    end_reported c.args.script.now c.args.bytes.now c.loop-rest.rest.now c.loop-rest.transcript.entries.items (map bytes_of c.loop-rest.transcript.world.items) c.loop-rest.number c.requires c.loop-rest.invariant.read (λ none. first_of (search rules, omega arith)) c.in_default.ensures

pub returns-in_err-reported-clause-fault : goal.returns-in_err-reported-clause-fault
returns-in_err-reported-clause-fault c =
    let p = err_from_is_err_and c.from_residual-in_err-reported.result c.from_residual-in_err-reported.ensures.1 in
    rw (p.1, p.2) (bad_reported bytes_of c.args.script.now c.args.bytes.now c.loop-rest.rest.now c.in-Some.parts.0.now c.in-Some.parts.1.now c.loop-rest.transcript.entries.items c.loop-rest.transcript.world.items c.loop-rest.number c.read_line-read.result c.in_err-reported.field-0.0 c.requires c.loop-rest.invariant.read c.in-Some.ensures.0 c.in-Some.ensures.1 (sym c.reported.ensures ∙ c.in_err-reported.was) c.read_line-read.ensures.fault)

pub returns-clause-read : goal.returns-clause-read
returns-clause-read c =
    let none : length c.loop-rest.rest.now ≡ 0 = search rules in
    all_read c.args.script.now c.args.bytes.now c.loop-rest.rest.now c.loop-rest.transcript.entries.items (map bytes_of c.loop-rest.transcript.world.items) c.loop-rest.number c.loop-rest.invariant.read none
