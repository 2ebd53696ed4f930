use Rattle.std.proofs.Common.{◌∷◌, refl, ap, ◌∙◌}
use Rattle.std.specs.Prelude.{slice_set}
use Rattle.ft_bank.specs.Passes.{shape_of, view}
use Rattle.ft_bank.specs.TableNames.{table_id}
use Rattle.ft_trace.specs.Holds.{held_words, held_unboxed}
use Rattle.ft_trace.specs.Pictures.{ContainerWords}
use Rattle.ft_layout.specs.Tables.{index_at}
use Rattle.ft_search.specs.TableWords.{known_words}
use Rattle.ft_bank.proofs.KnownAfterWrites.{put_by}
use Rattle.ft_trace.specs.declared.Act.TheVariants.{PutTable}
use Rattle.ft_search.proofs.WordPlaces.{slot_in}
use Rattle.ft_search.proofs.KnownTableWords.{put_after_header, put_leaves}
use Rattle.ft_search.proofs.words.TableWordsWords.put_index.Goals as goal

pub put_word-requires-clause-word : goal.put_word-requires-clause-word
put_word-requires-clause-word c =
    let s = c.args.self.now in
    let can = c.requires.can.0 in
    slot_in (shape_of s.bank.now) s.table s.mask c.args.slot can.table can.mask c.requires.slot

pub returns-clause-gave : goal.returns-clause-gave
returns-clause-gave c =
    let s = c.args.self.now in
    let t = table_id s.table in
    record {
      same = record { bank = refl; pass = refl; o = refl; table = refl; mask = refl; start = refl };
      inside = tt;
      did = c.put_word.ensures.did;
      others = λ o low mine names. tt;
      tells = λ k. tt;
      left = λ k.
          put_leaves (view s.pass.now) (view c.put_word.new.pass) s.o t c.args.slot c.args.value
          (slice_set (known_words s) (index_at c.args.slot) c.args.value) c.put_word.ensures.did.1
          c.put_word.ensures.held (put_after_header (held_words s.o (view s.pass.now)).table c.args.slot c.args.value) k;
      reads = λ k none.
          let put = c.put_word.ensures.unboxed none in
          (ap (λ (x : ContainerWords). 0 ∷ 0 ∷ x.table) put ∙ put_after_header (held_unboxed s.o (view s.pass.now)).table c.args.slot c.args.value, ap (λ (x : ContainerWords). x.block) put);
      only = put_by (PutTable s.o t c.args.slot c.args.value) (view s.pass.now) (view c.put_word.new.pass) s.o tt c.put_word.ensures.did.1 c.put_word.ensures.keeps c.put_word.ensures.moves;
    }
