use Rattle.std.proofs.Common.{◌≡◌, ◌≢◌, ℕ, suc, ◌-◌, ◌<◌, inl, inr, [], ◌∷◌, refl, sym, ap, ◌∙◌, arith}
use Rattle.ft_layout.specs.Tables.{dict_room}
use Rattle.ft_keys.specs.declared.words.Access.{Access}
use Rattle.ft_keys.specs.declared.words.Access.TheVariants.{Index, Entry}
use Rattle.ft_keys.proofs.search.compare.Goals as goal

-- a word that isn't 0 is the place that it names and one more
index-is : (slot word : ℕ) → word ≢ 0 → Index slot word ≡ Index slot (suc (word - 1))
index-is slot word some = ap (Index slot) (omega arith)

pub returns-then-word-room-clause-loads : goal.returns-then-word-room-clause-loads
returns-then-word-room-clause-loads g c =
    let word = c.index-word.result in
    let high : dict_room (g.W.Words.mask c.args.words.now) < word = let room = c.requires.room in let more = c.if-word-room.true in omega arith in
    (Index c.args.slot word ∷ [], (c.args.words.now, refl, c.index-word.ensures.gave), inl (word, high, refl))

pub returns-then-payload-payload_of-clause-loads : goal.returns-then-payload-payload_of-clause-loads
returns-then-payload-payload_of-clause-loads g c =
    let word = c.index-word.result in
    let payload = c.entry-payload.result in
    let low : word - 1 < dict_room (g.W.Words.mask c.args.words.now) = let room = c.requires.room in let few = c.if-word-room.false in let some = c.if-word-eq0.false in omega arith in
    let is = ap (λ (first : Access). Entry (word - 1) 3 payload ∷ (first ∷ [])) (index-is c.args.slot word c.if-word-eq0.false) in (
      Entry (word - 1) 3 payload ∷ (Index c.args.slot word ∷ []),
      (c.index-word.new.self, (c.args.words.now, refl, c.index-word.ensures.gave), c.entry-payload.ensures.gave),
      inr (inl (word - 1, payload, low, (λ same. c.if-payload-payload_of.true (same ∙ sym c.payload_of.ensures)), is)),
    )

pub returns-clause-loads : goal.returns-clause-loads
returns-clause-loads g c =
    let word = c.index-word.result in
    let payload = c.entry-payload.result in
    let kind = c.entry-kind.result in
    let low : word - 1 < dict_room (g.W.Words.mask c.args.words.now) = let room = c.requires.room in let few = c.if-word-room.false in let some = c.if-word-eq0.false in omega arith in
    let is = ap (λ (first : Access). Entry (word - 1) 2 kind ∷ (Entry (word - 1) 3 payload ∷ (first ∷ []))) (index-is c.args.slot word c.if-word-eq0.false) in (
      Entry (word - 1) 2 kind ∷ (Entry (word - 1) 3 payload ∷ (Index c.args.slot word ∷ [])),
      (c.entry-payload.new.self, (c.index-word.new.self, (c.args.words.now, refl, c.index-word.ensures.gave), c.entry-payload.ensures.gave), c.entry-kind.ensures.gave),
      inr (inr (word - 1, kind, payload, low, (λ same. c.if-kind-kind_of.false (same ∙ sym c.kind_of.ensures)), (λ same. c.if-kind-gone_kind_of.false (same ∙ sym c.gone_kind_of.ensures)), is)),
    )
