use Rattle.std.proofs.Common.{◌≡◌, ◌∙◌, ℕ, ap, sym, subst, length, arith, ◌++◌, [], ◌∷◌, List}
use Rattle.std.specs.Prelude.{IfOk}
use Rattle.std.proofs.lemmas.List.{length_push, length-map}
use Rattle.ft_model.specs.declared.reply.Shown.{Shown}
use Rattle.ft_model.specs.declared.script.Start.{Start}
use Rattle.ft_model.specs.Worlds.{start_as}
use Rattle.ft_bank.specs.Passes.{shape_of}
use Rattle.ft_trace.specs.ContainerStates.{kind_in}
use Rattle.ft_bank_history.specs.LastContents.{IsShownAs}
use Rattle.ft_reads.specs.Reads.{Reads}
use Rattle.ft_engine.specs.Contents.{ReadsFirst}
use Rattle.ft_engine.proofs.ReadContents.{kind_there, reads_more, reads_on, reads_some, reads_start}
use Rattle.ft_engine.proofs.contents.read_all.Goals as goal

pub overflow_cast-place : goal.overflow_cast-place
overflow_cast-place c =
    let test = c.loop-place-test.true in
    let few = c.args.bank.now.fits.containers in
    let one = length-map c.args.bank.now.shape.kinds.items start_as in
    let other = length-map c.args.kinds.now start_as in
    let same = ap (λ (starts : List Start). length starts) c.requires.kinds in
    omega (arith, test, few, one, other, same)

pub read_content-requires-clause-container : goal.read_content-requires-clause-container
read_content-requires-clause-container c =
    let test = c.loop-place-test.true in
    let other = length-map c.args.kinds.now start_as in
    let same = ap (λ (starts : List Start). length starts) c.requires.kinds in
    omega (arith, test, other, same)

pub read_content-requires-clause-kind : goal.read_content-requires-clause-kind
read_content-requires-clause-kind c =
    let place = c.loop-place.place in
    let kinds = c.args.kinds.now in
    ap (λ (starts : List Start). kind_in starts place) c.requires.kinds ∙ kind_there kinds place _ c.loop-place-test.true

pub loop-place-init : goal.loop-place-init
loop-place-init c =
    record {
      pass = c.requires.pass;
      count = ap (λ (all : List Shown). length all) c.in_ok-all.ensures.items;
      reads = subst (λ (all : List Shown). ReadsFirst (shape_of c.args.bank.now) all c.args.pass.now c.args.pass.now) (sym c.in_ok-all.ensures.items) (reads_start (shape_of c.args.bank.now) c.args.pass.now);
    }

pub loop-place-preserved : goal.loop-place-preserved
loop-place-preserved c =
    let k = shape_of c.args.bank.now in
    let at = c.loop-place in
    let p = c.args.pass.now in
    let q = at.pass in
    let r = c.read_content.new.pass in
    let all = at.all.items in
    let one = c.in_ok-shown.shown in
    let count = at.invariant.count in
    let items : c.push.new.self.items ≡ all ++ one ∷ [] = c.in_ok-push.ensures.items in
    let long = length_push all one in
    let more : length c.push.new.self.items ≡ length (all ++ one ∷ []) = ap length items in
    let read = subst (λ made. Reads k at.place (λ x. IfOk made (λ shown. IsShownAs k at.place shown x)) q r) c.in_ok-shown.was c.read_content.ensures.reads in
    record {
      pass = c.read_content.ensures.pass;
      count = omega (arith, more, long, count);
      reads = subst (λ (l : List Shown). ReadsFirst k l p r) (sym items)
          (reads_more k all one p q r at.invariant.reads (subst (λ (n : ℕ). Reads k n (λ x. IsShownAs k n one x) q r) (sym count) read));
    }

pub returns-in_err-all-clause-loaded : goal.returns-in_err-all-clause-loaded
returns-in_err-all-clause-loaded c = reads_start (shape_of c.args.bank.now) c.args.pass.now

pub returns-in_err-shown-clause-loaded : goal.returns-in_err-shown-clause-loaded
returns-in_err-shown-clause-loaded c =
    let k = shape_of c.args.bank.now in
    let at = c.loop-place in
    let made = c.read_content.result in
    reads_on k at.all.items at.place (λ x. IfOk made (λ shown. IsShownAs k at.place shown x)) c.args.pass.now at.pass c.read_content.new.pass at.invariant.reads c.read_content.ensures.reads

pub returns-in_err-push-clause-loaded : goal.returns-in_err-push-clause-loaded
returns-in_err-push-clause-loaded c =
    let k = shape_of c.args.bank.now in
    let at = c.loop-place in
    let made = c.read_content.result in
    reads_on k at.all.items at.place (λ x. IfOk made (λ shown. IsShownAs k at.place shown x)) c.args.pass.now at.pass c.read_content.new.pass at.invariant.reads c.read_content.ensures.reads

pub returns-clause-loaded : goal.returns-clause-loaded
returns-clause-loaded c = reads_some (shape_of c.args.bank.now) c.loop-place.all.items c.args.pass.now c.loop-place.pass c.loop-place.invariant.reads

pub returns-clause-count : goal.returns-clause-count
returns-clause-count c =
    let past = c.loop-place-test.false in
    let near = c.loop-place.auto.place-end in
    let count = c.loop-place.invariant.count in
    let other = length-map c.args.kinds.now start_as in
    let same = ap (λ (starts : List Start). length starts) c.requires.kinds in
    omega (arith, past, near, count, other, same)

pub returns-clause-all : goal.returns-clause-all
returns-clause-all c = c.loop-place.invariant.reads
