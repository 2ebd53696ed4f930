use Rattle.std.proofs.Common.{◌≡◌, List, [], ◌∙◌, ap, length, map, refl, sym, subst}
use Rattle.std.specs.List.{flat_map}
use Rattle.std.specs.Prelude.{Vec}
use Rattle.std.specs.declared.alloc.Global.{Global}
use Rattle.std.proofs.lemmas.List.{nil_from_length}
use Rattle.std.proofs.lemmas.List.Folds.{flat_map-map}
use Rattle.std.proofs.lemmas.List.Sorted.{length_permutation}
use Rattle.ft_model.specs.declared.entry.Entry.{Entry}
use Rattle.std.proofs.Math.Logic.{∥∥₁_elim, ∥∥₁_map, ∥∥₁_prop}
use Rattle.ft_model.specs.declared.entry.Storage.TheVariants as storage
use Rattle.ft_model.specs.Answers.{shown_of}
use Rattle.ft_model.specs.Worlds.{empty_world}
use Rattle.ft_bank.specs.Closings.{found_in, had_in, lists_in, told_of}
use Rattle.ft_bank_history.specs.Numbering.{IsFor}
use Rattle.ft_trace.specs.declared.Shape.{Shape}
use Rattle.ft_trace.specs.Acts.{all_lists}
use Rattle.ft_bank.specs.Passes.{view}
use Rattle.ft_engine.proofs.KeptLists.{closed_first, closed_kept, had_of, found_of, none_made, told_by_all}
use Rattle.ft_engine.proofs.Presences.{closed_online}
use Rattle.ft_engine.proofs.ReadContents.{last_known}
use Rattle.ft_engine.proofs.engine.Engine.close.Goals as goal

pub returns-clause-closed : goal.returns-clause-closed
returns-clause-closed c =
    closed_kept c.args.caller (map (λ list. list.items) c.args.lists.items) (lists_in c.close-closed.result) (had_in c.close-closed.result) (found_in c.close-closed.result) (told_of c.close-closed.result) c.requires.done.idle c.requires.first c.requires.kept c.close-closed.ensures.lists c.close-closed.ensures.had c.close-closed.ensures.found c.close-closed.ensures.told

pub returns-clause-numbered : goal.returns-clause-numbered
returns-clause-numbered c script of =
    let kept = map (λ list. list.items) c.args.lists.items in
    let closed = c.close-closed.result in
    let are = closed_kept c.args.caller kept (lists_in closed) (had_in closed) (found_in closed) (told_of closed) c.requires.done.idle c.requires.first c.requires.kept c.close-closed.ensures.lists c.close-closed.ensures.had c.close-closed.ensures.found c.close-closed.ensures.told in
    let first = closed_first c.args.caller kept (had_in closed) c.requires.first c.requires.kept c.close-closed.ensures.had in
    ∥∥₁_elim c.awaits_are_told.ensures ∥∥₁_prop
    (λ told. ∥∥₁_map (c.closed_entries_are_numbered.ensures script kept (subst (IsFor script) (sym c.close-closed.ensures.shape) of.shape) are of.cursors of.count)
    (λ x. (x.0, x.1, λ made. c.marks_are_right.ensures script x.0 (lists_in closed) kept (had_in closed) (found_in closed) (told_of closed) are first c.owners_are_known.ensures told.0 told.1 of.cursors x.1 made)))

pub returns-clause-legal : goal.returns-clause-legal
returns-clause-legal c script rule of made =
    ∥∥₁_map (returns-clause-numbered c script of)
    (λ x. (x.0, c.in_ok-history.ensures.legal storage.Tables script x.0 rule x.1 (x.2 made)))

pub returns-clause-contents : goal.returns-clause-contents
returns-clause-contents c script all rule of made has shown =
    let kept = map (λ list. list.items) c.args.lists.items in
    let caller = c.args.caller in
    let closed = c.close-closed.result in
    let v = view caller.pass in
    let are = closed_kept caller kept (all_lists v) (had_of caller) (found_of caller) (told_by_all caller) c.requires.done.idle c.requires.first c.requires.kept refl refl refl refl in
    let given = closed_kept caller kept (lists_in closed) (had_in closed) (found_in closed) (told_of closed) c.requires.done.idle c.requires.first c.requires.kept c.close-closed.ensures.lists c.close-closed.ensures.had c.close-closed.ensures.found c.close-closed.ensures.told in
    let first = closed_first caller kept (had_in closed) c.requires.first c.requires.kept c.close-closed.ensures.had in
    ∥∥₁_elim c.awaits_are_told.ensures ∥∥₁_prop
    (λ told. ∥∥₁_map (c.contents_are_last.ensures.last (last_known c.args.self caller c.requires.caller c.requires.all has) script kept all (subst (IsFor script) (sym c.requires.caller.pass.1) of.shape) are of.cursors of.count shown)
    (λ x. (
      x.0,
      c.in_ok-history.ensures.legal storage.Tables script x.0 rule x.1 (c.marks_are_right.ensures script x.0 (lists_in closed) kept (had_in closed) (found_in closed) (told_of closed) given first c.owners_are_known.ensures told.0 told.1 of.cursors x.1 made),
      x.2,
    )))

pub returns-clause-nothing : goal.returns-clause-nothing
returns-clause-nothing c all none has shown =
    let items = λ (list : Vec Entry Global). list.items in
    let kept = map items c.args.lists.items in
    let caller = c.args.caller in
    let v = view caller.pass in
    let are = closed_kept caller kept (all_lists v) (had_of caller) (found_of caller) (told_by_all caller) c.requires.done.idle c.requires.first c.requires.kept refl refl refl refl in
    let flat = flat_map items c.args.lists.items in
    let nil : flat ≡ [] = nil_from_length flat (sym (length_permutation flat c.in_ok-history.history.items c.in_ok-history.ensures.entries) ∙ ap length none) in
    let none_kept : flat_map (λ (mine : List Entry). mine) kept ≡ [] = flat_map-map (λ (mine : List Entry). mine) items c.args.lists.items ∙ nil in
    subst (λ (k : Shape). ∥ (all ≡ map shown_of (empty_world k.starts)) ∥₁) c.requires.caller.pass.1
    (c.contents_are_last.ensures.none (last_known c.args.self caller c.requires.caller c.requires.all has) all (none_made 0 kept (all_lists v) (had_of caller) (found_of caller) (told_by_all caller) are none_kept) shown)

pub returns-clause-online : goal.returns-clause-online
returns-clause-online c were =
    let closed = c.close-closed in
    closed_online c.args.caller (lists_in closed.result) (told_of closed.result) c.requires.first closed.ensures.lists closed.ensures.told were
