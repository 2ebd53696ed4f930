use Rattle.std.proofs.Common.{[], ◌∷◌, refl}
use Rattle.ft_keys.specs.declared.words.Access.TheVariants.{Entry}
use Rattle.ft_iter.proofs.pairs.read_words.Goals as goal

pub returns-clause-reads : goal.returns-clause-reads
returns-clause-reads g c =
    let place = c.args.place in
    let hash = c.entry-hash in
    let kind = c.entry-key_kind in
    let payload = c.entry-key in
    let value_kind = c.entry-value_kind in
    let value = c.entry-value in
    let serial = c.entry-serial in (
      Entry place 6 serial.result ∷ (Entry place 5 value.result ∷ (Entry place 4 value_kind.result ∷ (Entry place 3 payload.result ∷ (Entry place 2 kind.result ∷ (Entry place 1 hash.result ∷ []))))),
      (value.new.self, (value_kind.new.self, (payload.new.self, (kind.new.self, (hash.new.self, (c.args.words.now, refl, hash.ensures.gave), kind.ensures.gave), payload.ensures.gave), value_kind.ensures.gave), value.ensures.gave), serial.ensures.gave),
      (tt, (tt, (tt, (tt, (tt, (tt, tt)))))),
      λ words fits. (fits.0.0.0.0.0.1, fits.0.0.0.0.1, fits.0.0.0.1, fits.0.0.1, fits.0.1, fits.1),
    )
