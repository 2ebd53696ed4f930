use Rattle.std.proofs.Common.{ℕ, ◌+◌, ◌*◌, ◌<◌, ◌∷◌, refl, sym, ap, ◌∙◌, subst}
use Rattle.ft_trace.specs.declared.Shape.{Shape}
use Rattle.ft_trace.specs.Pictures.{ContainerWords}
use Rattle.ft_bank.specs.Passes.{shape_of, view, Did}
use Rattle.ft_bank.specs.TableNames.{table_id}
use Rattle.ft_trace.specs.Addresses.{class_of, container_count, size}
use Rattle.ft_trace.specs.Holds.{held_words}
use Rattle.ft_trace.specs.declared.Act.TheVariants.{ReadTable}
use Rattle.ft_bank.proofs.KnownAfterWrites.{loaded_by, loaded_put}
use Rattle.ft_search.proofs.WordPlaces.{entry_in, entry_is}
use Rattle.ft_search.proofs.KnownTableWords.{entry_after_header, loaded_leaves}
use Rattle.ft_search.proofs.words.TableWordsWords.entry.Goals as goal

pub read_word-requires-clause-word : goal.read_word-requires-clause-word
read_word-requires-clause-word c =
    let s = c.args.self.now in
    entry_in (shape_of s.bank.now) s.table s.mask c.args.place c.args.word c.requires.can.table c.requires.can.mask
    c.requires.place.0 c.requires.place.1

pub returns-clause-gave : goal.returns-clause-gave
returns-clause-gave c =
    let s = c.args.self.now in
    let t = table_id s.table in
    let f = c.read_word.result in
    let e = entry_is (shape_of s.bank.now) s.table s.mask c.args.place c.args.word c.requires.can.table c.requires.can.mask in
    record {
      same = record { bank = refl; pass = refl; o = refl; table = refl; mask = refl; start = refl };
      inside = subst (λ (i : ℕ). i < size (class_of t)) e
          (entry_in (shape_of s.bank.now) s.table s.mask c.args.place c.args.word c.requires.can.table c.requires.can.mask
          c.requires.place.0 c.requires.place.1);
      did = subst (λ (i : ℕ). Did (ReadTable t i f) s.pass.now c.read_word.new.pass) e c.read_word.ensures.did;
      others = λ o low mine names.
          c.read_word.ensures.held o low mine names
          ∙ sym (entry_after_header (held_words o (view s.pass.now)).table s.mask c.args.place c.args.word);
      tells = λ k.
          c.read_word.ensures.held s.o c.requires.can.container k.0 k.1
          ∙ sym (entry_after_header (held_words s.o (view s.pass.now)).table s.mask c.args.place c.args.word);
      left = λ k.
          loaded_leaves (view s.pass.now) (view c.read_word.new.pass) s.o t
          (8 * c.args.place + c.args.word + s.mask + 1) f c.read_word.ensures.did.1 k;
      reads = λ k none.
          let l = loaded_by (ReadTable t (8 * c.args.place + c.args.word + s.mask + 1) f) (view s.pass.now) (view c.read_word.new.pass) tt c.read_word.ensures.did.1 in
          let same = l.unboxed s.o (subst (λ (z : Shape). s.o < container_count z) (sym c.requires.can.pass.1) c.requires.can.container) k.0 in
          (ap (λ (x : ContainerWords). 0 ∷ 0 ∷ x.table) same, ap (λ (x : ContainerWords). x.block) same);
      only = loaded_put (view s.pass.now) (view c.read_word.new.pass) s.o (loaded_by (ReadTable t (8 * c.args.place + c.args.word + s.mask + 1) f) (view s.pass.now) (view c.read_word.new.pass) tt c.read_word.ensures.did.1);
    }
