use Rattle.std.proofs.Common.{List, [], ◌∷◌, arith}
use Rattle.ft_layout.specs.Words.{gone_kind}
use Rattle.ft_trace.specs.declared.Act.{Act}
use Rattle.ft_trace.specs.declared.Act.TheVariants.{ReadTable}
use Rattle.ft_trace.specs.Addresses.{class_of, slots}
use Rattle.ft_trace.specs.Pictures.{entry_offset}
use Rattle.ft_bank.specs.Passes.{shape_of}
use Rattle.ft_bank.specs.TableNames.{table_id}
use Rattle.ft_search.specs.Rounds.{met_acts}
use Rattle.ft_search.proofs.LookSteps.{in_round_by}
use Rattle.ft_search.proofs.Running.{did_trans, at_same}
use Rattle.ft_search.proofs.Spending.{version_none, versions_none}
use Rattle.ft_search.proofs.Walking.{walked_more, walked_past}
use Rattle.ft_search.proofs.SearchEnds.{deleted_passed, stops_deleted}
use Rattle.ft_bank.specs.Series.{DidAll}
use Rattle.ft_search.proofs.rounds.look_at_deleted.Goals as goal

pub returns-then-opened-eq0-clause-turns : goal.returns-then-opened-eq0-clause-turns
returns-then-opened-eq0-clause-turns c key slot earlier left w =
    let s = c.args.words.now in
    let k = shape_of s.bank.now in
    let t = table_id s.table in
    let part = met_acts t slot c.args.place key (gone_kind key) earlier in
    let opened = c.word-opened.result in
    let load : Act = ReadTable t (entry_offset (slots (class_of t)) c.args.place 0) opened in
    let new : List Act = load ∷ [] in (
      new,
      in_round_by new s.pass.now c.word-opened.new.self.pass.now tt tt c.word-opened.ensures.did,
      c.word-opened.ensures.did,
      walked_past k s.o t key slot left (load ∷ part) (walked_more k s.o t key (slot ∷ left) new part w)
          (deleted_passed k s.o t key slot c.args.place earlier opened (omega (arith, c.if-opened-eq0.true))),
    )

pub returns-clause-turns : goal.returns-clause-turns
returns-clause-turns c key slot earlier left w =
    let s = c.args.words.now in
    let s1 = c.word-opened.new.self in
    let s2 = c.word-closed.new.self in
    let k = shape_of s.bank.now in
    let t = table_id s.table in
    let opened = c.word-opened.result in
    let closed = c.word-closed.result in
    let first : Act = ReadTable t (entry_offset (slots (class_of t)) c.args.place 0) opened in
    let second : Act = ReadTable t (entry_offset (slots (class_of t)) c.args.place 0) closed in
    let again : DidAll (second ∷ []) s1.pass.now s2.pass.now = at_same (λ _ _ n. DidAll (ReadTable n (entry_offset (slots (class_of n)) c.args.place 0) closed ∷ []) s1.pass.now s2.pass.now) s s1 c.word-opened.ensures.same c.word-closed.ensures.did in
    let did = did_trans (second ∷ []) (first ∷ []) s.pass.now s1.pass.now s2.pass.now c.word-opened.ensures.did again in (
      second ∷ (first ∷ []),
      in_round_by (second ∷ (first ∷ [])) s.pass.now s2.pass.now tt tt did,
      did,
      stops_deleted k s.o t key slot c.args.place earlier c.requires.low opened closed (λ even. c.if-opened-eq0.false even),
    )

pub returns-then-opened-eq0-clause-index : goal.returns-then-opened-eq0-clause-index
returns-then-opened-eq0-clause-index c =
    let t = table_id c.args.words.now.table in
    let opened = c.word-opened.result in
    (ReadTable t (entry_offset (slots (class_of t)) c.args.place 0) opened ∷ [], c.word-opened.ensures.did, version_none t c.args.place opened)

pub returns-clause-index : goal.returns-clause-index
returns-clause-index c =
    let s = c.args.words.now in
    let s1 = c.word-opened.new.self in
    let s2 = c.word-closed.new.self in
    let t = table_id s.table in
    let opened = c.word-opened.result in
    let closed = c.word-closed.result in
    let first : Act = ReadTable t (entry_offset (slots (class_of t)) c.args.place 0) opened in
    let second : Act = ReadTable t (entry_offset (slots (class_of t)) c.args.place 0) closed in
    let again : DidAll (second ∷ []) s1.pass.now s2.pass.now = at_same (λ _ _ n. DidAll (ReadTable n (entry_offset (slots (class_of n)) c.args.place 0) closed ∷ []) s1.pass.now s2.pass.now) s s1 c.word-opened.ensures.same c.word-closed.ensures.did in
    (second ∷ (first ∷ []), did_trans (second ∷ []) (first ∷ []) s.pass.now s1.pass.now s2.pass.now c.word-opened.ensures.did again, versions_none t c.args.place opened closed)
