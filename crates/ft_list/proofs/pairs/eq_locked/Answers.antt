use Rattle.std.proofs.Common.{◌≡◌, refl}
use Rattle.ft_model.specs.declared.call.Call.TheVariants as call
use Rattle.ft_model.specs.declared.call.ListCall.TheVariants as list
use Rattle.ft_model.specs.declared.reply.Reply.TheVariants as reply
use Rattle.ft_model.specs.Lists.{same_items}
use Rattle.ft_bank.specs.Passes.{shape_of, view}
use Rattle.ft_search.proofs.Running.{did_log}
use Rattle.ft_list.specs.Pairs.{AreOfItems}
use Rattle.ft_list.proofs.Both.{both_hold, eq_replied, eq_plain}
use Rattle.ft_reads.proofs.Both.{both_loaded}
use Rattle.ft_list.proofs.ListMidst.{read_shown, read_made}
use Rattle.ft_list.proofs.pairs.eq_locked.Goals as goal

pub answer_held-requires-clause-shown : goal.answer_held-requires-clause-shown
answer_held-requires-clause-shown c n =
    let a = c.args in
    let k = shape_of a.bank.now in
    let p = a.pass.now in
    let q = c.are_alike-alike.new.pass in
    let alike = c.are_alike-alike.result in
    let r = c.are_alike-alike.ensures.reads in
    let shape = c.requires.pass.1 in
    let is = both_hold k a.l a.m (λ xs ys. alike ≡ same_items xs ys) p q r shape c.requires.may c.requires.other in
    let replied = eq_replied k a.l a.m (λ xs ys. alike ≡ same_items xs ys) p q r shape c.requires.may c.requires.other alike is in
    read_shown (call.List a.l (list.Eq a.m)) (reply.Truth alike) (eq_plain a.l a.m alike) (view p) (view q) (both_loaded k a.l a.m (AreOfItems k (λ xs ys. alike ≡ same_items xs ys)) p q r) replied n c.requires.may.left

pub returns-clause-made : goal.returns-clause-made
returns-clause-made c =
    let a = c.args in
    let k = shape_of a.bank.now in
    let p = a.pass.now in
    let q = c.are_alike-alike.new.pass in
    let alike = c.are_alike-alike.result in
    let r = c.are_alike-alike.ensures.reads in
    let shape = c.requires.pass.1 in
    let is = both_hold k a.l a.m (λ xs ys. alike ≡ same_items xs ys) p q r shape c.requires.may c.requires.other in
    let replied = eq_replied k a.l a.m (λ xs ys. alike ≡ same_items xs ys) p q r shape c.requires.may c.requires.other alike is in
    let said = reply.Truth alike in
    let e = c.answer_held.ensures in
    read_made (call.List a.l (list.Eq a.m)) said (eq_plain a.l a.m alike) (view p) (view q) (both_loaded k a.l a.m (AreOfItems k (λ xs ys. alike ≡ same_items xs ys)) p q r) replied (view c.answer_held.new.pass) said c.answer_held.result.0 c.answer_held.result.1 r.0
    (did_log r.0 p q r.2) e.did.1 refl e.said.0 e.said.1 p.settled c.answer_held.new.pass.possible
