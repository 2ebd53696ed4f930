use Rattle.std.proofs.Common.{◌≡◌, true, sym, ap, ◌∙◌, subst}
use Rattle.ft_model.specs.declared.content.Content.{Content}
use Rattle.ft_model.specs.declared.cursor.Cursor.{Cursor}
use Rattle.ft_model.specs.Cursors.{dict_next, list_next, set_next}
use Rattle.ft_model.specs.Worlds.{container_of, cursor_kind, dict_of, list_of, set_of}
use Rattle.ft_trace.specs.declared.Shape.{Shape}
use Rattle.ft_trace.specs.Acts.{has_lock}
use Rattle.ft_trace.specs.Holds.{known_state}
use Rattle.ft_trace.specs.ContainerStates.{kind_in}
use Rattle.ft_bank.specs.Passes.{shape_of, view}
use Rattle.ft_search.proofs.FoundInContents.{dict_known, set_known}
use Rattle.ft_iter.specs.CursorCalls.{step_in}
use Rattle.ft_iter.specs.Moves.{IsStep}
use Rattle.ft_iter.proofs.CursorEntries.{list-known}
use Rattle.ft_iter.proofs.cursors.step.Goals as goal

pub returns-in-Dict-clause-next : goal.returns-in-Dict-clause-next
returns-in-Dict-clause-next c =
    let v = view c.args.pass.now in
    let o = c.in-Dict.container in
    let is = c.in-Dict.is in
    let r = c.next_dict.result in
    let kind_is = ap (λ (z : Shape). kind_in z.starts o) c.requires.pass.1 ∙ subst (λ (z : Cursor). kind_in (shape_of c.args.bank.now).starts (container_of z) ≡ cursor_kind z) is c.requires.kind in
    let locked : has_lock o v.log ≡ true = subst (λ (z : Cursor). has_lock (container_of z) v.log ≡ true) is c.requires.locked in
    let d = dict_known v o c.args.pass.now.possible locked kind_is in
    subst (λ (z : Cursor). IsStep r (step_in (known_state (container_of z) v).content z)) (sym is)
    (subst (λ (z : Content). IsStep r (dict_next (dict_of z).pairs o c.in-Dict.walk c.in-Dict.size c.in-Dict.expected c.in-Dict.last)) (sym d.1) (c.next_dict.ensures.next d.0 d.1))

pub returns-in-List-clause-next : goal.returns-in-List-clause-next
returns-in-List-clause-next c =
    let v = view c.args.pass.now in
    let o = c.in-List.container in
    let is = c.in-List.is in
    let r = c.next_list.result in
    let kind_is = ap (λ (z : Shape). kind_in z.starts o) c.requires.pass.1 ∙ subst (λ (z : Cursor). kind_in (shape_of c.args.bank.now).starts (container_of z) ≡ cursor_kind z) is c.requires.kind in
    let locked : has_lock o v.log ≡ true = subst (λ (z : Cursor). has_lock (container_of z) v.log ≡ true) is c.requires.locked in
    let d = list-known v o c.args.pass.now.possible locked kind_is in
    subst (λ (z : Cursor). IsStep r (step_in (known_state (container_of z) v).content z)) (sym is)
    (subst (λ (z : Content). IsStep r (list_next (list_of z) o c.in-List.index c.in-List.ended)) (sym d.1) (c.next_list.ensures.next d.0 d.1))

pub returns-in-Set-clause-next : goal.returns-in-Set-clause-next
returns-in-Set-clause-next c =
    let v = view c.args.pass.now in
    let o = c.in-Set.container in
    let is = c.in-Set.is in
    let r = c.next_set.result in
    let kind_is = ap (λ (z : Shape). kind_in z.starts o) c.requires.pass.1 ∙ subst (λ (z : Cursor). kind_in (shape_of c.args.bank.now).starts (container_of z) ≡ cursor_kind z) is c.requires.kind in
    let locked : has_lock o v.log ≡ true = subst (λ (z : Cursor). has_lock (container_of z) v.log ≡ true) is c.requires.locked in
    let d = set_known v o c.args.pass.now.possible locked kind_is in
    subst (λ (z : Cursor). IsStep r (step_in (known_state (container_of z) v).content z)) (sym is)
    (subst (λ (z : Content). IsStep r (set_next (set_of z).elements o c.in-Set.walk c.in-Set.size c.in-Set.last)) (sym d.1) (c.next_set.ensures.next d.0 d.1))
