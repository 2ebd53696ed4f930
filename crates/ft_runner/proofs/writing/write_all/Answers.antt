use Rattle.std.proofs.Common.{◌≡◌, ℕ, ◌+◌, List, [], ◌++◌, subst, true, false, get_or, take, drop}
use Rattle.std.specs.List.{flat_map}
use Rattle.std.proofs.lemmas.List.{append-nil}
use Rattle.std.proofs.lemmas.Result.{err_from_is_err_and}
use Rattle.ft_model.specs.declared.entry.Entry.{Entry}
use Rattle.ft_script.specs.ShownLines.{shown_lines}
use Rattle.ft_script.specs.Texts.{entry_line}
use Rattle.ft_runner.specs.Transfers.{PutsPrefix, IsBuffered}
use Rattle.ft_runner.proofs.StreamLemmas.{IsBuffered-then, IsBuffered-push, PutsPrefix-put, PutsPrefix-then, flat_map-split, flat_map-more, flat_map-all}
use Rattle.ft_runner.proofs.writing.write_all.Goals as goal

pub returns-in_err-push_entry : goal.returns-in_err-push_entry
returns-in_err-push_entry g c =
    let sink = g.K.Sink in
    let a = sink.stream c.args.sink.now in
    let b = sink.stream c.loop-entry.sink in
    let lines = entry_line c.args.script.now in
    let i = c.loop-entry.entry-index in
    let contents = shown_lines c.args.script.now c.args.contents.now in
    let r = err_from_is_err_and c.from_residual-in_err-push_entry.result c.from_residual-in_err-push_entry.ensures.1 in
    rw (r.1, r.2) (subst (λ (text : List ℕ). PutsPrefix a text false b) (flat_map-split lines c.args.entries.now i contents) (PutsPrefix-put a b c.loop-entry.buffer.items (flat_map lines (take i c.args.entries.now)) (flat_map lines (drop i c.args.entries.now) ++ contents) c.loop-entry.invariant))

pub returns-in_err-put_full : goal.returns-in_err-put_full
returns-in_err-put_full g c =
    let sink = g.K.Sink in
    let a = sink.stream c.args.sink.now in
    let b = sink.stream c.loop-entry.sink in
    let d = sink.stream c.put_full.new.sink in
    let lines = entry_line c.args.script.now in
    let entries = c.args.entries.now in
    let i = c.loop-entry.entry-index in
    let contents = shown_lines c.args.script.now c.args.contents.now in
    let r = err_from_is_err_and c.from_residual-in_err-put_full.result c.from_residual-in_err-put_full.ensures.1 in
    let entry = c.entry-item.result in
    let pushed = IsBuffered-push a b c.loop-entry.buffer.items c.push_entry.new.out.items (flat_map lines (take i entries)) (lines (get_or entries i entry)) c.loop-entry.invariant (subst (λ (e : Entry). c.push_entry.new.out.items ≡ c.loop-entry.buffer.items ++ lines e) c.entry-item.is c.in_ok-push_entry.ensures) in
    let more : IsBuffered a b c.push_entry.new.out.items (flat_map lines (take (i + 1) entries)) = subst (λ (text : List ℕ). IsBuffered a b c.push_entry.new.out.items text) (flat_map-more lines entries i entry c.loop-entry-test.true) pushed in
    rw (r.1, r.2) (subst (λ (text : List ℕ). PutsPrefix a text true d) (flat_map-split lines entries (i + 1) contents) (PutsPrefix-then a b d c.push_entry.new.out.items (flat_map lines (take (i + 1) entries)) (flat_map lines (drop (i + 1) entries) ++ contents) more c.in_err-put_full.ensures.err))

pub loop-entry-preserved : goal.loop-entry-preserved
loop-entry-preserved g c =
    let sink = g.K.Sink in
    let a = sink.stream c.args.sink.now in
    let b = sink.stream c.loop-entry.sink in
    let d = sink.stream c.put_full.new.sink in
    let lines = entry_line c.args.script.now in
    let entries = c.args.entries.now in
    let i = c.loop-entry.entry-index in
    let entry = c.entry-item.result in
    let pushed = IsBuffered-push a b c.loop-entry.buffer.items c.push_entry.new.out.items (flat_map lines (take i entries)) (lines (get_or entries i entry)) c.loop-entry.invariant (subst (λ (e : Entry). c.push_entry.new.out.items ≡ c.loop-entry.buffer.items ++ lines e) c.entry-item.is c.in_ok-push_entry.ensures) in
    let more : IsBuffered a b c.push_entry.new.out.items (flat_map lines (take (i + 1) entries)) = subst (λ (text : List ℕ). IsBuffered a b c.push_entry.new.out.items text) (flat_map-more lines entries i entry c.loop-entry-test.true) pushed in
    IsBuffered-then a b d c.push_entry.new.out.items c.put_full.new.buffer.items (flat_map lines (take (i + 1) entries)) more c.in_ok-put_full.ensures.ok

pub returns-in_err-push_contents : goal.returns-in_err-push_contents
returns-in_err-push_contents g c =
    let sink = g.K.Sink in
    let a = sink.stream c.args.sink.now in
    let b = sink.stream c.loop-entry.sink in
    let lines = entry_line c.args.script.now in
    let i = c.loop-entry.entry-index in
    let contents = shown_lines c.args.script.now c.args.contents.now in
    let r = err_from_is_err_and c.from_residual-in_err-push_contents.result c.from_residual-in_err-push_contents.ensures.1 in
    rw (r.1, r.2) (subst (λ (text : List ℕ). PutsPrefix a text false b) (flat_map-split lines c.args.entries.now i contents) (PutsPrefix-put a b c.loop-entry.buffer.items (flat_map lines (take i c.args.entries.now)) (flat_map lines (drop i c.args.entries.now) ++ contents) c.loop-entry.invariant))

pub returns-in_err-put_all : goal.returns-in_err-put_all
returns-in_err-put_all g c =
    let sink = g.K.Sink in
    let a = sink.stream c.args.sink.now in
    let b = sink.stream c.loop-entry.sink in
    let d = sink.stream c.put_all.new.sink in
    let lines = entry_line c.args.script.now in
    let entries = c.args.entries.now in
    let contents = shown_lines c.args.script.now c.args.contents.now in
    let r = err_from_is_err_and c.from_residual-in_err-put_all.result c.from_residual-in_err-put_all.ensures.1 in
    let all : IsBuffered a b c.loop-entry.buffer.items (flat_map lines entries) = subst (λ (text : List ℕ). IsBuffered a b c.loop-entry.buffer.items text) (flat_map-all lines entries c.loop-entry.entry-index c.loop-entry-test.false) c.loop-entry.invariant in
    let pushed = IsBuffered-push a b c.loop-entry.buffer.items c.push_contents.new.out.items (flat_map lines entries) contents all c.in_ok-push_contents.ensures in
    let part = rw c.deref.ensures.value at c.in_err-put_all.ensures in
    rw (r.1, r.2) (subst (λ (text : List ℕ). PutsPrefix a text true d) (append-nil (flat_map lines entries ++ contents)) (PutsPrefix-then a b d c.push_contents.new.out.items (flat_map lines entries ++ contents) [] pushed part))
