use Rattle.std.proofs.Common.{◌≡◌, ◌≢◌, ◌+◌, ◌<◌, ◌≤◌, ℕ, Bool, true, false, Option, refl, sym, ap, ◌∙◌, inr}
use Rattle.std.specs.Prelude.{nat_lt, if◌then◌else◌}
use Rattle.std.specs.Option.{unwrap_or}
use Rattle.ft_model.specs.declared.call.Call.TheVariants as call
use Rattle.ft_model.specs.declared.call.DictCall.TheVariants as dict
use Rattle.ft_model.specs.declared.content.Content.{Content}
use Rattle.ft_model.specs.declared.content.Content.TheVariants as content
use Rattle.ft_model.specs.declared.data.Value.{Value}
use Rattle.ft_model.specs.declared.reply.Reply.TheVariants as reply
use Rattle.ft_model.specs.Classes.{most_pairs}
use Rattle.ft_model.specs.Contents.{DictContent, dict_get, has_key}
use Rattle.ft_model.specs.Worlds.{dict_of, length_of}
use Rattle.ft_trace.specs.Addresses.{container_count}
use Rattle.ft_trace.specs.Boxes.{place_use, use_taken}
use Rattle.ft_trace.specs.ContainerStates.{ContainerState}
use Rattle.ft_trace.specs.Holds.{known_state}
use Rattle.ft_bank.specs.Passes.{shape_of, view}
use Rattle.ft_boxes.specs.References.{box_of}
use Rattle.ft_table_calls.proofs.FullHeaps.{heap_full}
use Rattle.ft_new_keys.specs.KeyGrowth.{holds, most_of}
use Rattle.ft_dict.specs.BoxedCalls.{has_too_many}
use Rattle.ft_dict.specs.Values.{default_reply}
use Rattle.ft_dict.proofs.BoxedPuts.{both, count_known, default_lacks, default_passes, few_more, many_more, state, with_box}
use Rattle.ft_dict.proofs.Deleted.{known_dict}
use Rattle.ft_dict.proofs.HeldSets.{has_before}
use Rattle.ft_dict.proofs.Reading.{not_found}
use Rattle.ft_dict.proofs.boxed.add_default.Goals as goal
use Rattle.ft_dict.proofs.boxed.add_default.Goals.{After-read_counts-counts}

-- the dict, as it is known before
pairs_of : (c : After-read_counts-counts) → (pairs : DictContent) × ((known_state c.args.d (view c.args.pass.now)).content ≡ content.Dict pairs) × (c.args.d < container_count (view c.args.pass.now).shape)
pairs_of c = known_dict (shape_of c.args.bank.now) (view c.args.pass.now) c.args.d c.requires.pass.1 c.args.pass.now.possible c.requires.may c.requires.dict

count : (c : After-read_counts-counts) → c.read_counts-counts.result.count ≡ length_of (known_state c.args.d (view c.args.pass.now)).content
count c = count_known c.words_are_of_one_content.ensures.head (shape_of c.args.bank.now) c.args.d (view c.args.pass.now) c.read_counts-counts.result c.requires.may.stands c.read_counts-counts.ensures.counts

-- the default is what is replied
missing : (c : After-read_counts-counts) → reply.Value c.args.default ≡ default_reply (known_state c.args.d (view c.args.pass.now)).content c.args.key c.args.default
missing c =
    let p = pairs_of c in
    let found = not_found p.0.pairs c.args.key (ap (λ (z : Content). holds z c.args.key) (sym p.1) ∙ c.requires.absent) in
    ap reply.Value (ap (λ (z : Option Value). unwrap_or z c.args.default) (sym found) ∙ ap (λ (z : Content). unwrap_or (dict_get (dict_of z).pairs c.args.key) c.args.default) (sym p.1))

-- the dict lacks the key
lacks : (c : After-read_counts-counts) → has_key (dict_of (known_state c.args.d (view c.args.pass.now)).content).pairs c.args.key ≡ false
lacks c =
    let p = pairs_of c in
    ap (λ (z : Content). has_key (dict_of z).pairs c.args.key) p.1 ∙ (ap (λ (z : Content). holds z c.args.key) (sym p.1) ∙ c.requires.absent)

-- the key isn't there, so that it is one too many where no more has room
one_more : (c : After-read_counts-counts) (b : Bool) → nat_lt (most_of (known_state c.args.d (view c.args.pass.now)).content) (length_of (known_state c.args.d (view c.args.pass.now)).content + 1) ≡ b → has_too_many (known_state c.args.d (view c.args.pass.now)) c.args.key ≡ b
one_more c b is =
    let x = known_state c.args.d (view c.args.pass.now) in
    ap (λ (z : Bool). if z then false else nat_lt (most_of x.content) (length_of x.content + 1)) c.requires.absent ∙ is

few : (c : After-read_counts-counts) → c.read_counts-counts.result.count < most_pairs → nat_lt (most_of (known_state c.args.d (view c.args.pass.now)).content) (length_of (known_state c.args.d (view c.args.pass.now)).content + 1) ≡ false
few c low = let p = pairs_of c in few_more (known_state c.args.d (view c.args.pass.now)) p.0 p.1 c.args.key c.read_counts-counts.result.count (count c) low

many : (c : After-read_counts-counts) → most_pairs ≤ c.read_counts-counts.result.count → nat_lt (most_of (known_state c.args.d (view c.args.pass.now)).content) (length_of (known_state c.args.d (view c.args.pass.now)).content + 1) ≡ true
many c high = let p = pairs_of c in many_more (known_state c.args.d (view c.args.pass.now)) p.0 p.1 c.args.key c.read_counts-counts.result.count (count c) high

-- ---- too many keys

pub answer_over-requires-clause-over : goal.answer_over-requires-clause-over
answer_over-requires-clause-over c found has =
    let a = c.args in
    let r = (goal.at.answer_over-requires-clause-over c).After-read_counts-counts in
    let v = view a.pass.now in
    let p = pairs_of r in
    default_passes a.d v p.0 p.2 c.requires.may.locked p.1 a.key a.default c.requires.fits c.value_fits.ensures c.requires.absent (many r c.if-counts.true) found (has_before v (view c.read_counts-counts.new.pass) c.read_counts-counts.ensures.only.work found has)

pub returns-then-counts-clause-put : goal.returns-then-counts-clause-put
returns-then-counts-clause-put c =
    let r = (goal.at.returns-then-counts-clause-put c).After-read_counts-counts in (
      missing r,
      inr (c.requires.absent, (view c.read_counts-counts.new.pass, c.read_counts-counts.ensures.only, (one_more r true (many r c.if-counts.true), c.answer_over.ensures.wrote, c.answer_over.ensures.answered))),
    )

-- ---- no place

-- the pass has taken no place that no write of it has stored a box in
untaken : (c : After-read_counts-counts) (b : ℕ) → place_use b (view c.read_counts-counts.new.pass).log ≢ use_taken
untaken c b is = c.requires.may.boxes.stored b (sym (c.read_counts-counts.ensures.only.boxes.made.uses b) ∙ is)

pub answer_full-requires-clause-full : goal.answer_full-requires-clause-full
answer_full-requires-clause-full c =
    let made = c.in-HeapFull.ensures.made in
    let same = c.make.ensures.only.work.pass in
    heap_full (view c.read_counts-counts.new.pass) (view c.make.new.pass) made.0 made.1 same.shape same.number (untaken (goal.at.answer_full-requires-clause-full c).After-read_counts-counts)

pub answer_full-requires-clause-lacks : goal.answer_full-requires-clause-lacks
answer_full-requires-clause-lacks c found has =
    let a = c.args in
    let r = (goal.at.answer_full-requires-clause-lacks c).After-read_counts-counts in
    let v = view a.pass.now in
    let x = view c.read_counts-counts.new.pass in
    let u = view c.make.new.pass in
    let p = pairs_of r in
    let called = call.Dict a.d (dict.SetDefault a.key a.default) in
    let all = both (shape_of a.bank.now) a.d a.key called (reply.Value a.default) v x u u c.read_counts-counts.ensures.only c.make.ensures.only in
    default_lacks a.d v p.0 p.2 c.requires.may.locked p.1 a.key a.default c.requires.fits c.value_fits.ensures c.requires.absent c.requires.boxed (few r c.if-counts.false) found (has_before v u all.work found has)

pub returns-in-HeapFull-clause-put : goal.returns-in-HeapFull-clause-put
returns-in-HeapFull-clause-put c =
    let a = c.args in
    let r = (goal.at.returns-in-HeapFull-clause-put c).After-read_counts-counts in
    let v = view a.pass.now in
    let x = view c.read_counts-counts.new.pass in
    let u = view c.make.new.pass in
    let made = c.in-HeapFull.ensures.made in
    let same = c.make.ensures.only.work.pass in
    let all = both (shape_of a.bank.now) a.d a.key (call.Dict a.d (dict.SetDefault a.key a.default)) (reply.Value a.default) v x u u c.read_counts-counts.ensures.only c.make.ensures.only in (
      missing r,
      inr (
        c.requires.absent,
        (
          one_more r false (few r c.if-counts.false),
          record { said_is = refl; unwritten = c.answer_full.ensures.wrote; before = u; boxed = all; full = heap_full x u made.0 made.1 same.shape same.number (untaken r); answered = c.answer_full.ensures.answered },
        ),
      ),
    )

-- ---- with a box

pub returns-in-Up-clause-put : goal.returns-in-Up-clause-put
returns-in-Up-clause-put c =
    let a = c.args in
    let k = shape_of a.bank.now in
    let r = (goal.at.returns-in-Up-clause-put c).After-read_counts-counts in
    let v = view a.pass.now in
    let x = view c.read_counts-counts.new.pass in
    let u = view c.make.new.pass in
    let w = view c.set_default_held.new.pass in
    let called = call.Dict a.d (dict.SetDefault a.key a.default) in
    let said = c.set_default_held.result.1 in
    let e = c.set_default_held.ensures in
    let same = state k a.d a.key called said v x u w c.read_counts-counts.ensures.only c.make.ensures.only in (
      e.said ∙ ap (λ (z : ContainerState). default_reply z.content a.key a.default) same,
      inr (
        c.requires.absent,
        with_box k a.d a.key called said v x u w c.read_counts-counts.ensures.only c.make.ensures.only a.default c.set_default_held.result.0 (one_more r false (few r c.if-counts.false)) e.put
            (λ is_made other. (box_of c.in-Up.held, e.names is_made.0 is_made.1 (ap (λ (z : ContainerState). has_key (dict_of z.content).pairs a.key) same ∙ lacks r))),
      ),
    )
