use Rattle.ft_keys.specs.Searches.{Searched}
use Rattle.ft_keys.proofs.Listing.{listed-shows}
use Rattle.ft_keys.proofs.list.ListWords.find_live.Goals as goal

pub returns-clause-words : goal.returns-clause-words
returns-clause-words g c =
    let first = c.args.walk.now.left in
    let left = c.find_live.new.walk.left in
    (listed-shows c.args.walk.now.mask first left c.args.self.now c.find_live.new.words c.args.steps.now c.find_live.new.steps (λ ws. Searched c.args.walk.now.mask ws c.args.key first left c.find_live.result) c.requires.mask c.find_live.ensures.shows).0

pub returns-clause-same : goal.returns-clause-same
returns-clause-same g c =
    let first = c.args.walk.now.left in
    let left = c.find_live.new.walk.left in
    let so = listed-shows c.args.walk.now.mask first left c.args.self.now c.find_live.new.words c.args.steps.now c.find_live.new.steps (λ ws. Searched c.args.walk.now.mask ws c.args.key first left c.find_live.result) c.requires.mask c.find_live.ensures.shows in
    (so.1, so.2)

pub returns-clause-searched : goal.returns-clause-searched
returns-clause-searched g c =
    let first = c.args.walk.now.left in
    let left = c.find_live.new.walk.left in
    (listed-shows c.args.walk.now.mask first left c.args.self.now c.find_live.new.words c.args.steps.now c.find_live.new.steps (λ ws. Searched c.args.walk.now.mask ws c.args.key first left c.find_live.result) c.requires.mask c.find_live.ensures.shows).3

pub returns-clause-steps : goal.returns-clause-steps
returns-clause-steps g c =
    let shows = c.find_live.ensures.shows in
    (shows.calls, shows.follows, shows.steps)
