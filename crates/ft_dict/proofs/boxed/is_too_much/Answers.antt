use Rattle.std.proofs.Common.{◌≡◌, ◌+◌, ◌<◌, ◌≤◌, Bool, true, false, Some, None, sym, ap, ◌∙◌, subst}
use Rattle.std.specs.Prelude.{nat_lt, if◌then◌else◌}
use Rattle.ft_model.specs.declared.content.Content.{Content}
use Rattle.ft_model.specs.declared.content.Content.TheVariants as content
use Rattle.ft_model.specs.Classes.{most_pairs}
use Rattle.ft_model.specs.Contents.{DictContent}
use Rattle.ft_model.specs.Worlds.{length_of}
use Rattle.ft_trace.specs.ContainerStates.{ContainerState}
use Rattle.ft_trace.specs.Holds.{known_state}
use Rattle.ft_trace.specs.Addresses.{container_count}
use Rattle.ft_bank.specs.Passes.{shape_of, view}
use Rattle.ft_bank.proofs.KnownAfterWrites.{loaded_then, work_knows}
use Rattle.ft_search.specs.Held.{IsHeldAt}
use Rattle.ft_new_keys.specs.KeyGrowth.{holds, most_of}
use Rattle.ft_new_keys.proofs.Present.{holds_not}
use Rattle.ft_dict.specs.BoxedCalls.{has_too_many}
use Rattle.ft_dict.proofs.BoxedPuts.{count_known, few_pairs, many_pairs, there_known}
use Rattle.ft_dict.proofs.Deleted.{known_dict}
use Rattle.ft_dict.proofs.boxed.is_too_much.Goals as goal
use Rattle.ft_dict.proofs.boxed.is_too_much.Goals.{After-read_counts-counts, After-seek_key}

-- the dict, as it is known before
pairs_of : (c : After-read_counts-counts) → (pairs : DictContent) × ((known_state c.args.d (view c.args.pass.now)).content ≡ content.Dict pairs) × (c.args.d < container_count (view c.args.pass.now).shape)
pairs_of c = known_dict (shape_of c.args.bank.now) (view c.args.pass.now) c.args.d c.requires.pass.1 c.args.pass.now.possible c.requires.may c.requires.dict

count : (c : After-read_counts-counts) → c.read_counts-counts.result.count ≡ length_of (known_state c.args.d (view c.args.pass.now)).content
count c = count_known c.words_are_of_one_content.ensures.head (shape_of c.args.bank.now) c.args.d (view c.args.pass.now) c.read_counts-counts.result c.requires.may.stands c.read_counts-counts.ensures.counts

pub returns-then-counts-clause-much : goal.returns-then-counts-clause-much
returns-then-counts-clause-much c =
    let r = (goal.at.returns-then-counts-clause-much c).After-read_counts-counts in
    let p = pairs_of r in
    sym (few_pairs (known_state c.args.d (view c.args.pass.now)) p.0 p.1 c.args.key c.read_counts-counts.result.count (count r) c.if-counts.true)

-- ---- once the key was sought

same : (c : After-seek_key) → known_state c.args.d (view c.seek_key.new.pass) ≡ known_state c.args.d (view c.args.pass.now)
same c =
    work_knows (view c.read_counts-counts.new.pass) (view c.seek_key.new.pass) c.args.d c.seek_key.ensures.keeps.work
    ∙ work_knows (view c.args.pass.now) (view c.read_counts-counts.new.pass) c.args.d c.read_counts-counts.ensures.only.work

-- it isn't there, and one more is too many
too_many : (c : After-seek_key) → most_pairs ≤ c.read_counts-counts.result.count → IsHeldAt (known_state c.args.d (view c.seek_key.new.pass)).content c.args.key None → true ≡ has_too_many (known_state c.args.d (view c.args.pass.now)) c.args.key
too_many c high none =
    let x = known_state c.args.d (view c.args.pass.now) in
    let p = known_dict (shape_of c.args.bank.now) (view c.args.pass.now) c.args.d c.requires.pass.1 c.args.pass.now.possible c.requires.may c.requires.dict in
    let long = count_known c.words_are_of_one_content.ensures.head (shape_of c.args.bank.now) c.args.d (view c.args.pass.now) c.read_counts-counts.result c.requires.may.stands c.read_counts-counts.ensures.counts in
    let not = holds_not x.content c.args.key (subst (λ (z : ContainerState). IsHeldAt z.content c.args.key None) (same c) none) in
    sym (many_pairs x p.0 p.1 c.args.key c.read_counts-counts.result.count long high not)

pub returns-in-At-clause-only : goal.returns-in-At-clause-only
returns-in-At-clause-only c = loaded_then (view c.args.pass.now) (view c.read_counts-counts.new.pass) (view c.seek_key.new.pass) c.read_counts-counts.ensures.only c.seek_key.ensures.keeps

pub returns-in-At-clause-much : goal.returns-in-At-clause-much
returns-in-At-clause-much c =
    let a = c.args in
    let s = (goal.at.returns-in-At-clause-much c).After-seek_key in
    let u = view c.seek_key.new.pass in
    let e = c.seek_key.ensures in
    let p = known_dict (shape_of a.bank.now) u a.d e.pass.1 c.seek_key.new.pass.possible e.may c.requires.dict in
    let h = subst (λ (z : Content). IsHeldAt z a.key (Some (c.in-At.field-2, c.in-At.field-3))) p.1 c.in-At.ensures.spot.2 in
    let there : holds (known_state a.d u).content a.key ≡ true = ap (λ (z : Content). holds z a.key) p.1 ∙ there_known u a.d p.0 c.seek_key.new.pass.possible p.2 e.may.locked p.1 a.key e.key c.in-At.field-2 c.in-At.field-3 h in
    sym (ap (λ (b : Bool). if b then false else nat_lt (most_of (known_state a.d u).content) (length_of (known_state a.d u).content + 1)) there) ∙ ap (λ (z : ContainerState). has_too_many z a.key) (same s)

pub returns-in-Free-clause-only : goal.returns-in-Free-clause-only
returns-in-Free-clause-only c = loaded_then (view c.args.pass.now) (view c.read_counts-counts.new.pass) (view c.seek_key.new.pass) c.read_counts-counts.ensures.only c.seek_key.ensures.keeps

pub returns-in-Free-clause-much : goal.returns-in-Free-clause-much
returns-in-Free-clause-much c = too_many (goal.at.returns-in-Free-clause-much c).After-seek_key c.if-counts.false c.in-Free.ensures.spot.3

pub returns-in-Bare-clause-only : goal.returns-in-Bare-clause-only
returns-in-Bare-clause-only c = loaded_then (view c.args.pass.now) (view c.read_counts-counts.new.pass) (view c.seek_key.new.pass) c.read_counts-counts.ensures.only c.seek_key.ensures.keeps

pub returns-in-Bare-clause-much : goal.returns-in-Bare-clause-much
returns-in-Bare-clause-much c = too_many (goal.at.returns-in-Bare-clause-much c).After-seek_key c.if-counts.false c.in-Bare.ensures.spot.1
