use Rattle.std.proofs.Common.{◌≡◌, ℕ, ◌∙◌, sym, subst, map, arith}
use Rattle.ft_keys.specs.Accesses.{AreAnswered}
use Rattle.ft_keys.specs.Searches.{Searched}
use Rattle.ft_keys.specs.Ways.{walk_slots}
use Rattle.ft_keys.specs.declared.walk.Way.{Way}
use Rattle.ft_bank.specs.Passes.{shape_of}
use Rattle.ft_bank.specs.TableNames.{table_id}
use Rattle.ft_search.specs.SearchCosts.{AreFewReads}
use Rattle.ft_search.specs.TableWords.{access_act, known_words}
use Rattle.ft_search.proofs.Costing.{search_few}
use Rattle.ft_search.proofs.WordPlaces.{slots_is}
use Rattle.ft_search.proofs.Running.{ran, ran_known, looks_calls}
use Rattle.ft_search.proofs.words.TableWords.seek_held.Goals as goal

pub returns-clause-same : goal.returns-clause-same
returns-clause-same g c = let s = c.find_live.ensures.shows in (ran c.args.self.now s.calls c.find_live.new.words s.runs).0

pub returns-clause-knows : goal.returns-clause-knows
returns-clause-knows g c =
    let s = c.find_live.ensures.shows in
    let r = ran_known c.args.self.now s.calls c.find_live.new.words s.runs c.requires.knows s.loads in
    (r.0, r.1)

pub returns-clause-looks : goal.returns-clause-looks
returns-clause-looks g c =
    let z = c.args.self.now in
    let s = c.find_live.ensures.shows in
    let acts = map (access_act z.o (table_id z.table)) s.calls in
    let few : (way : Way) (hash : ℕ) → c.args.walk.now.left ≡ walk_slots way hash c.args.walk.now.mask → AreFewReads way acts = λ way hash is.
    let first = c.find_live.ensures.first way hash is in
    search_few z.o (table_id z.table) way c.args.walk.now.mask s.calls (slots_is (shape_of z.bank.now) z.table c.args.walk.now.mask c.requires.can.table (sym c.requires.mask ∙ c.requires.can.mask)) s.loads (let steps = s.steps in omega (arith, first, steps)) in
    (acts, looks_calls z.o (table_id z.table) s.calls s.loads, (ran z s.calls c.find_live.new.words s.runs).1, few)

pub returns-clause-searched : goal.returns-clause-searched
returns-clause-searched g c =
    let z = c.args.self.now in
    let s = c.find_live.ensures.shows in
    let r = ran_known z s.calls c.find_live.new.words s.runs c.requires.knows s.loads in
    let first = c.args.walk.now.left in
    let left = c.find_live.new.walk.left in
    subst (λ (m : ℕ). Searched m (known_words z) c.args.key first left c.find_live.result) (sym c.requires.mask)
    (s.shown (known_words z) (subst (λ (m : ℕ). AreAnswered m s.calls (known_words z)) c.requires.mask r.2))
