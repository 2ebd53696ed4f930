use Rattle.std.proofs.Common.{ℕ, refl, sym, ap, ◌∙◌, subst, arith}
use Rattle.ft_trace.specs.Addresses.{at, box_word}
use Rattle.ft_trace.specs.Acts.{view_after}
use Rattle.ft_trace.specs.Traces.{Ready}
use Rattle.ft_trace.specs.declared.Act.TheVariants.{ReadBox}
use Rattle.ft_bank.specs.Passes.{view, shape_of}
use Rattle.ft_bank.specs.BoxSteps.{box_id}
use Rattle.ft_bank.proofs.BoxAddresses.{box_named, maker_is, place_low}
use Rattle.ft_bank.proofs.BoxReady.{read_box_ready, known_found, local_found, state_found, share_found}
use Rattle.ft_bank.proofs.BoxedSteps.{box_loaded}
use Rattle.ft_bank.specs.Rules.{Acted}
use Rattle.ft_bank.proofs.bank.Bank.read_box.Goals as goal

pub load_as-requires-clause-act : goal.load_as-requires-clause-act
load_as-requires-clause-act c n s = ((λ d. at (c.requires.pass.1 d) (box_word (c.name_of.ensures d) c.args.word)) ∙ sym c.box_at-at.ensures.is, λ m. refl)

pub load_as-requires-clause-ready : goal.load_as-requires-clause-ready
load_as-requires-clause-ready c =
    let v = view c.args.pass.now in
    let k = shape_of c.args.self.now in
    let b = box_id c.args.b in
    let same = c.requires.pass.1 in
    let is = box_named k c.args.b c.args.self.now.fits.heap c.requires.name in
    let j = c.box_at-at.result in
    subst (λ (z : ℕ). Ready v j (λ n. ReadBox z c.args.word n)) (sym c.name_of.ensures) (read_box_ready k v j b same is c.args.word c.requires.word)

pub returns-clause-did : goal.returns-clause-did
returns-clause-did c =
    let v = view c.args.pass.now in
    let d = c.load_as.ensures.did in
    (d.0, d.1 ∙ ap (λ (z : ℕ). view_after (ReadBox z c.args.word c.load_as.result) v) c.name_of.ensures, d.2)

pub returns-clause-only : goal.returns-clause-only
returns-clause-only c = box_loaded (view c.args.pass.now) _ c.name_of.result c.args.word c.load_as.result c.load_as.ensures.did.1 c.load_as.ensures.acted

pub returns-clause-known : goal.returns-clause-known
returns-clause-known c which knows =
    let v = view c.args.pass.now in
    let k = shape_of c.args.self.now in
    let b = box_id c.args.b in
    let same = c.requires.pass.1 in
    let is = box_named k c.args.b c.args.self.now.fits.heap c.requires.name in
    known_found k v 0 b same is c.args.word c.load_as.result (subst (λ (z : ℕ). Acted v (ReadBox z c.args.word c.load_as.result)) c.name_of.ensures c.load_as.ensures.acted) which knows

pub returns-clause-local : goal.returns-clause-local
returns-clause-local c third own =
    let v = view c.args.pass.now in
    let k = shape_of c.args.self.now in
    let b = box_id c.args.b in
    let same = c.requires.pass.1 in
    let is = box_named k c.args.b c.args.self.now.fits.heap c.requires.name in
    local_found k v 0 b same is c.load_as.result (subst (λ (z : ℕ × ℕ). Acted v (ReadBox z.0 z.1 c.load_as.result)) (λ d. (c.name_of.ensures d, third d)) c.load_as.ensures.acted) own

pub returns-clause-state : goal.returns-clause-state
returns-clause-state c first mine =
    let v = view c.args.pass.now in
    let k = shape_of c.args.self.now in
    let b = box_id c.args.b in
    let same = c.requires.pass.1 in
    let is = box_named k c.args.b c.args.self.now.fits.heap c.requires.name in
    let m = maker_is c.args.b (place_low k c.args.b c.args.self.now.fits.heap c.requires.name) in
    state_found k v 0 b same is c.load_as.result (subst (λ (z : ℕ × ℕ). Acted v (ReadBox z.0 z.1 c.load_as.result)) (λ d. (c.name_of.ensures d, first d)) c.load_as.ensures.acted) (omega (arith, mine, m))

pub returns-clause-other : goal.returns-clause-other
returns-clause-other c other =
    let v = view c.args.pass.now in
    let k = shape_of c.args.self.now in
    let b = box_id c.args.b in
    let same = c.requires.pass.1 in
    let is = box_named k c.args.b c.args.self.now.fits.heap c.requires.name in
    let m = maker_is c.args.b (place_low k c.args.b c.args.self.now.fits.heap c.requires.name) in
    share_found k v 0 b same is c.name_of.result c.args.word c.load_as.result c.load_as.ensures.acted (λ z. other (omega (arith, z, m)))
