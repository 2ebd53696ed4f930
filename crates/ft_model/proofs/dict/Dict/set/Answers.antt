use Rattle.std.proofs.Common.{sym, ap, ◌∙◌, List}
use Rattle.std.specs.Prelude.{option_map}
use Rattle.ft_model.specs.declared.content.DictPair.{DictPair}
use Rattle.ft_model.specs.Members.{serial_at}
use Rattle.ft_model.proofs.MemberLemmas.{absent-none, find-place, find-no_place}
use Rattle.ft_model.proofs.PlacedMembers.{with_member-set}
use Rattle.ft_model.proofs.PlacedPairs.{are_pairs}
use Rattle.ft_model.specs.Contents.{DictContent, dict_set}
use Rattle.ft_model.proofs.Dicts.{set_found, set_missing, IsDict-push, IsDict-set}
use Rattle.ft_model.proofs.DictLaws.{set-reads_back, set-others, set-keeps_places, set-goes_last}
use Rattle.ft_model.proofs.dict.Dict.set.Goals as goal

pub push-requires-clause-absent : goal.push-requires-clause-absent
push-requires-clause-absent c = absent-none (λ (pair : DictPair). pair.key) (λ (pair : DictPair). pair.serial) c.self.inside.pairs c.args.key (find-no_place (λ (pair : DictPair). pair.key) (λ (pair : DictPair). pair.serial) c.self.inside.pairs c.args.key (sym c.in-None.ensures.member))

pub put-requires : goal.put-requires
put-requires c =
    let here = find-place (λ (pair : DictPair). pair.key) (λ (pair : DictPair). pair.serial) c.self.inside.pairs c.args.key c.in-Some.pair (are_pairs _ _ c.self.invariant) (sym c.in-Some.ensures.member) in
    ap (serial_at (λ (pair : DictPair). pair.key) (λ (pair : DictPair). pair.serial) c.self.inside.pairs) here.4 ∙ ap (option_map (λ (pair : DictPair). pair.serial)) (sym c.in-Some.ensures.member)

pub invariant_of-self : goal.invariant_of-self
invariant_of-self c =
    let here = find-place (λ (pair : DictPair). pair.key) (λ (pair : DictPair). pair.serial) c.self.inside.pairs c.args.key c.in-Some.pair (are_pairs _ _ c.self.invariant) (sym c.in-Some.ensures.member) in
    let put = c.put.ensures ∙ with_member-set (λ (pair : DictPair). pair.key) (λ (pair : DictPair). pair.serial) (record c.in-Some.pair { value = c.args.value }) c.self.inside.pairs here.0 c.in-Some.pair c.self.invariant.distinct here.1 (ap (λ (pair : DictPair). pair.key) (sym here.3)) in
    rw put (IsDict-set c.self.inside.next c.self.inside.pairs c.args.key c.args.value here.0 c.in-Some.pair c.self.invariant here.2 here.3)

pub invariant_of-self-in-None : goal.invariant_of-self-in-None
invariant_of-self-in-None c = rw c.in_ok-push-in-None.ensures.ok (IsDict-push c.self.inside.next c.self.inside.pairs c.args.key c.args.value c.self.invariant (find-no_place (λ (pair : DictPair). pair.key) (λ (pair : DictPair). pair.serial) c.self.inside.pairs c.args.key (sym c.in-None.ensures.member)))

pub returns-in-Some-clause-ok : goal.returns-in-Some-clause-ok
returns-in-Some-clause-ok c =
    let dict : DictContent = record { next = c.self.inside.next; pairs = c.self.inside.pairs } in
    let here = find-place (λ (pair : DictPair). pair.key) (λ (pair : DictPair). pair.serial) c.self.inside.pairs c.args.key c.in-Some.pair (are_pairs _ _ c.self.invariant) (sym c.in-Some.ensures.member) in
    let put = c.put.ensures ∙ with_member-set (λ (pair : DictPair). pair.key) (λ (pair : DictPair). pair.serial) (record c.in-Some.pair { value = c.args.value }) c.self.inside.pairs here.0 c.in-Some.pair c.self.invariant.distinct here.1 (ap (λ (pair : DictPair). pair.key) (sym here.3)) in
    ap (λ (pairs : List DictPair). let r : DictContent = record { next = c.self.inside.next; pairs = pairs } in r) put
    ∙ set_found dict c.args.key c.args.value here.0 c.in-Some.pair c.self.invariant here.2 here.3
    ∙ ap (λ d. dict_set d c.args.key c.args.value) c.self.view_is

pub returns-in_ok-push-in-None-clause-ok : goal.returns-in_ok-push-in-None-clause-ok
returns-in_ok-push-in-None-clause-ok c =
    let dict : DictContent = record { next = c.self.inside.next; pairs = c.self.inside.pairs } in
    rw c.in_ok-push-in-None.ensures.ok (set_missing dict c.args.key c.args.value (find-no_place (λ (pair : DictPair). pair.key) (λ (pair : DictPair). pair.serial) c.self.inside.pairs c.args.key (sym c.in-None.ensures.member)) ∙ ap (λ d. dict_set d c.args.key c.args.value) c.self.view_is)

pub returns-in-Some-clause-reads_back : goal.returns-in-Some-clause-reads_back
returns-in-Some-clause-reads_back c = set-reads_back c.args.self.now _ c.args.key c.args.value (returns-in-Some-clause-ok c)

pub returns-in-Some-clause-others : goal.returns-in-Some-clause-others
returns-in-Some-clause-others c = set-others c.args.self.now _ c.args.key c.args.value (returns-in-Some-clause-ok c)

pub returns-in-Some-clause-keeps_places : goal.returns-in-Some-clause-keeps_places
returns-in-Some-clause-keeps_places c = set-keeps_places c.args.self.now _ c.args.key c.args.value (returns-in-Some-clause-ok c)

pub returns-in-Some-clause-goes_last : goal.returns-in-Some-clause-goes_last
returns-in-Some-clause-goes_last c = set-goes_last c.args.self.now _ c.args.key c.args.value (returns-in-Some-clause-ok c)

pub returns-in_ok-push-in-None-clause-reads_back : goal.returns-in_ok-push-in-None-clause-reads_back
returns-in_ok-push-in-None-clause-reads_back c = set-reads_back c.args.self.now _ c.args.key c.args.value (returns-in_ok-push-in-None-clause-ok c)

pub returns-in_ok-push-in-None-clause-others : goal.returns-in_ok-push-in-None-clause-others
returns-in_ok-push-in-None-clause-others c = set-others c.args.self.now _ c.args.key c.args.value (returns-in_ok-push-in-None-clause-ok c)

pub returns-in_ok-push-in-None-clause-keeps_places : goal.returns-in_ok-push-in-None-clause-keeps_places
returns-in_ok-push-in-None-clause-keeps_places c = set-keeps_places c.args.self.now _ c.args.key c.args.value (returns-in_ok-push-in-None-clause-ok c)

pub returns-in_ok-push-in-None-clause-goes_last : goal.returns-in_ok-push-in-None-clause-goes_last
returns-in_ok-push-in-None-clause-goes_last c = set-goes_last c.args.self.now _ c.args.key c.args.value (returns-in_ok-push-in-None-clause-ok c)
