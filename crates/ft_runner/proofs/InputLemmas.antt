-- The input of `check`, read piece by piece.
use Rattle.std.proofs.Common.{◌≡◌, ◌<◌, ◌≤◌, ◌+◌, ◌-◌, ◌∙◌, ℕ, Bool, true, false, List, [], ◌++◌, Option, Ok, Err, length, take, drop, sym, subst, ap, append_assoc, arith, inl, inr}
use Rattle.ft_io.specs.Streams.{Stream}
use Rattle.std.proofs.lemmas.Bool.{false≢true}
use Rattle.std.proofs.lemmas.List.{append-nil, length-append, length-drop, take-append-drop}
use Rattle.ft_runner.specs.declared.reading.ReadFault.{ReadFault}
use Rattle.ft_runner.specs.declared.reading.ReadFault.TheVariants as read
use Rattle.ft_runner.specs.Checking.{CanFit, IsReadInTime, IsSeparatorOf, IsReadToItsEnd, IsScriptFew, IsScriptLong, IsWithinLimits, StopsInput}
use Rattle.ft_runner.specs.Internal.Filling.{EndsScript, Fills, HasOpenLine, HasNoOpenLine, TakesPiece}
use Rattle.ft_runner.specs.Transfers.{has_failed, GivesBytes}
use Rattle.ft_runner.proofs.OpenLines.{few_fits, fit_in_time, open_fits, open_is_few, piece_in_time, shut_settles}
use Rattle.ft_runner.proofs.SeparatorLemmas.{IsSeparatorOf-stays, IsScriptFew-stays, IsScriptLong-stays}
use Rattle.ft_runner.proofs.StreamLemmas.{GivesBytes-then}

-- ---- one piece more

module _ (a b d : Stream) (old came bytes new : List ℕ) (most : ℕ) (is : bytes ≡ old ++ came) (gives : GivesBytes a came false b) (low : length bytes ≤ most) where
  size : length bytes ≡ length old + length came
  size = ap length is ∙ length-append old came

  pub fills_stop : (stop : ReadFault) → TakesPiece b bytes (Err stop) new d → Fills a old most (Err stop) new d
  fills_stop stop p =
      let sum : length (came ++ p.0) ≡ length came + length p.0 = length-append came p.0 in (
        came ++ p.0,
        GivesBytes-then a b d came p.0 (has_failed stop) gives p.1,
        omega (arith, size, sum, low, p.2),
        (λ failed. omega (arith, size, sum, low, ap length (p.3 failed))),
        p.4,
      )

  pub fills_more : (ended : Bool) → TakesPiece b bytes (Ok ended) new d → (more : List ℕ) × (new ≡ old ++ more) × GivesBytes a more false d
  fills_more ended p = (
    came ++ p.0,
    p.1 ∙ ap (λ (front : List ℕ). front ++ p.0) is ∙ append_assoc old came p.0,
    GivesBytes-then a b d came p.0 false gives p.2,
  )

  pub fills_end : TakesPiece b bytes (Ok true) new d → Fills a old most (Ok true) new d
  fills_end p =
      let more = fills_more true p in
      let same : length new ≡ length bytes = ap length (p.1 ∙ ap (λ (last : List ℕ). bytes ++ last) p.4.0 ∙ append-nil bytes) in
      (more.0, more.1, more.2, (omega (arith, same, low), p.4.1))

pub taken_few : (b d : Stream) (bytes new : List ℕ) (most : ℕ) → length bytes ≤ most → TakesPiece b bytes (Ok false) new d → (length new ≤ most + 65536) × (length bytes < length new)
taken_few b d bytes new most low p =
    let sum : length new ≡ length bytes + length p.0 = ap length p.1 ∙ length-append bytes p.0 in
    (omega (arith, sum, low, p.3), omega (arith, sum, p.4))

-- ---- the script's part

-- no more than a script's limit and one piece came
first_in_time : (bytes : List ℕ) → length bytes ≤ 4194304 + 65536 → IsReadInTime bytes
first_in_time bytes few =
    let front : List ℕ = take 4194304 bytes in
    let last : List ℕ = drop 4194304 bytes in
    let parts : front ++ last ≡ bytes = take-append-drop 4194304 bytes in
    let dropped : length last ≡ length bytes - 4194304 = length-drop 4194304 bytes in
    let size : length front + length last ≡ length bytes = sym (length-append front last) ∙ ap length parts in
    record { front = front; last = last; parts = parts; fits = few_fits front (omega (arith, dropped, size)); one_piece = omega (arith, dropped, few) }

-- reading stops within it
pub stops_first : (a b : Stream) (stop : ReadFault) (old new : List ℕ) → old ≡ [] → Fills a old 4194304 (Err stop) new b → StopsInput stop a b
stops_first a b stop old new none p =
    let start : length old ≡ 0 = ap length none in
    record {
      came = p.0;
      gives = p.1;
      too_long = λ long. absurd (false≢true (sym p.4 ∙ long));
      fits = λ failed. few_fits p.0 (omega (arith, start, p.3 failed));
      few = omega (arith, start, p.2);
      in_time = first_in_time p.0 (omega (arith, start, p.2));
    }

-- what was read from the beginning on
gives_first : (a b : Stream) (old new : List ℕ) (most : ℕ) (ended : Bool) → old ≡ [] → Fills a old most (Ok ended) new b → GivesBytes a new false b
gives_first a b old new most ended none p = subst (λ (bytes : List ℕ). GivesBytes a bytes false b) (sym (p.1 ∙ ap (λ (bytes : List ℕ). bytes ++ p.0) none)) p.2

-- the source ends within it
pub ends_first : (a b : Stream) (old new : List ℕ) → old ≡ [] → Fills a old 4194304 (Ok true) new b → GivesBytes a new false b × EndsScript true new b
ends_first a b old new none p = (gives_first a b old new 4194304 true none p, (few_fits new p.3.0, p.3.1))

-- what holds while a line that has begun can become `---`
pub record IsReading (before : Stream) (bytes : List ℕ) (now : Stream) : Type 0 where
  pub gives : GivesBytes before bytes false now
  pub far : 4194304 < length bytes
  pub few : length bytes ≤ 4194304 + 3 + 65536
  pub in_time : IsReadInTime bytes

pub reading_first : (a b : Stream) (old new : List ℕ) → old ≡ [] → Fills a old 4194304 (Ok false) new b → IsReading a new b
reading_first a b old new none p =
    record {
      gives = gives_first a b old new 4194304 false none p;
      far = p.3.0;
      few = omega (arith, p.3.1);
      in_time = first_in_time new p.3.1;
    }

module _ (a b d : Stream) (bytes : List ℕ) (reading : IsReading a bytes b) (begun : HasOpenLine bytes) where
  pub stops_open : (stop : ReadFault) (new : List ℕ) → TakesPiece b bytes (Err stop) new d → StopsInput stop a d
  stops_open stop new p =
      let few = open_is_few bytes reading.far begun in
      let fits = open_fits bytes reading.far begun in
      record {
        came = bytes ++ p.0;
        gives = GivesBytes-then a b d bytes p.0 (has_failed stop) reading.gives p.1;
        too_long = λ long. absurd (false≢true (sym p.4 ∙ long));
        fits = λ failed. subst CanFit (sym (append-nil bytes) ∙ ap (λ (more : List ℕ). bytes ++ more) (sym (p.3 failed))) fits;
        few = omega (arith, few, p.2, length-append bytes p.0);
        in_time = piece_in_time bytes p.0 fits p.2;
      }

  pub ends_open : (new : List ℕ) → TakesPiece b bytes (Ok true) new d → GivesBytes a new false d × EndsScript true new d
  ends_open new p =
      let same : new ≡ bytes = p.1 ∙ ap (λ (more : List ℕ). bytes ++ more) p.4.0 ∙ append-nil bytes in (
        subst (λ (read : List ℕ). GivesBytes a read false d) (sym p.1) (GivesBytes-then a b d bytes p.0 false reading.gives p.2),
        (subst CanFit (sym same) (open_fits bytes reading.far begun), p.4.1),
      )

  pub reading_on : (new : List ℕ) → TakesPiece b bytes (Ok false) new d → IsReading a new d
  reading_on new p =
      let size : length new ≡ length bytes + length p.0 = ap length p.1 ∙ length-append bytes p.0 in
      record {
        gives = subst (λ (read : List ℕ). GivesBytes a read false d) (sym p.1) (GivesBytes-then a b d bytes p.0 false reading.gives p.2);
        far = omega (arith, size, reading.far);
        few = omega (arith, size, p.3, open_is_few bytes reading.far begun);
        in_time = subst IsReadInTime (sym p.1) (piece_in_time bytes p.0 (open_fits bytes reading.far begun) p.3);
      }

-- no such line is left
pub settles : (a b : Stream) (bytes : List ℕ) → IsReading a bytes b → HasNoOpenLine bytes → GivesBytes a bytes false b × EndsScript false bytes b
settles a b bytes reading shut = (reading.gives, (reading.far, reading.few, shut_settles bytes reading.far shut, reading.in_time))

-- ---- the script is too long

pub long_script : (a b : Stream) (bytes : List ℕ) (ended : Bool) → GivesBytes a bytes false b → EndsScript ended bytes b → IsScriptLong bytes → StopsInput read.TooLong a b
long_script a b bytes true gives ends long =
    record {
      came = bytes;
      gives = gives;
      too_long = λ is. inr (inr long, record { gives = gives; ended = ends.1 });
      fits = λ failed. absurd (false≢true failed);
      few = let within = ends.0.1.few in omega (arith, within, length-append bytes ends.0.0);
      in_time = fit_in_time bytes ends.0;
    }
long_script a b bytes false gives ends long =
    record {
      came = bytes;
      gives = gives;
      too_long = λ is. inl (λ more. inr (IsScriptLong-stays bytes more ends.2 long));
      fits = λ failed. absurd (false≢true failed);
      few = omega (arith, ends.1);
      in_time = ends.3;
    }

-- ---- after the script's part

module _ (a b d : Stream) (bytes : List ℕ) (gives : GivesBytes a bytes false b) (ends : EndsScript false bytes b) (short : IsScriptFew bytes) where
  -- what follows is within the limit as long as all are few enough
  on_fits : (more : List ℕ) → length (bytes ++ more) ≤ 67108864 → CanFit (bytes ++ more)
  on_fits more few =
      let same : (bytes ++ more) ++ [] ≡ bytes ++ more = append-nil (bytes ++ more) in (
        [],
        subst IsWithinLimits (sym same) (record { few = few; script_few = IsScriptFew-stays bytes more ends.2 ends.0 short }),
      )

  on_in_time : (more : List ℕ) → length (bytes ++ more) ≤ 67108864 + 65536 → IsReadInTime (bytes ++ more)
  on_in_time more few =
      let most : ℕ = 67108864 - length bytes in
      let front : List ℕ = take most more in
      let last : List ℕ = drop most more in
      let parts : front ++ last ≡ more = take-append-drop most more in
      let dropped : length last ≡ length more - most = length-drop most more in
      let size : length front + length last ≡ length more = sym (length-append front last) ∙ ap length parts in
      let both : length (bytes ++ more) ≡ length bytes + length more = length-append bytes more in
      let fronts : length (bytes ++ front) ≡ length bytes + length front = length-append bytes front in
      record {
        front = bytes ++ front;
        last = last;
        parts = append_assoc bytes front last ∙ ap (λ (rest : List ℕ). bytes ++ rest) parts;
        fits = on_fits front (omega (arith, fronts, dropped, size, ends.1));
        one_piece = omega (arith, dropped, both, few, ends.1);
      }

  pub stops_second : (stop : ReadFault) (new : List ℕ) → Fills b bytes 67108864 (Err stop) new d → StopsInput stop a d
  stops_second stop new p =
      let size : length (bytes ++ p.0) ≡ length bytes + length p.0 = length-append bytes p.0 in
      record {
        came = bytes ++ p.0;
        gives = GivesBytes-then a b d bytes p.0 (has_failed stop) gives p.1;
        too_long = λ long. absurd (false≢true (sym p.4 ∙ long));
        fits = λ failed. on_fits p.0 (omega (arith, size, p.3 failed));
        few = omega (arith, size, p.2);
        in_time = on_in_time p.0 (omega (arith, size, p.2));
      }

  gives_second : (new : List ℕ) (ended : Bool) → Fills b bytes 67108864 (Ok ended) new d → GivesBytes a new false d
  gives_second new ended p = subst (λ (read : List ℕ). GivesBytes a read false d) (sym p.1) (GivesBytes-then a b d bytes p.0 false gives p.2)

  pub long_input : (new : List ℕ) → Fills b bytes 67108864 (Ok false) new d → StopsInput read.TooLong a d
  long_input new p =
      record {
        came = new;
        gives = gives_second new false p;
        too_long = λ is. inl (λ more. inl (omega (arith, p.3.0, length-append new more)));
        fits = λ failed. absurd (false≢true failed);
        few = p.3.1;
        in_time = subst IsReadInTime (sym p.1) (on_in_time p.0 (subst (λ (read : List ℕ). length read ≤ 67108864 + 65536) p.1 p.3.1));
      }

  -- it is read to its end
  pub whole_input : (new : List ℕ) (separator : Option ℕ) → IsSeparatorOf bytes separator → Fills b bytes 67108864 (Ok true) new d → IsReadToItsEnd a new d × IsWithinLimits new × IsSeparatorOf new separator
  whole_input new separator is p = (
    record { gives = gives_second new true p; ended = p.3.1 },
    record { few = p.3.0; script_few = subst IsScriptFew (sym p.1) (IsScriptFew-stays bytes p.0 ends.2 ends.0 short) },
    subst (λ (read : List ℕ). IsSeparatorOf read separator) (sym p.1) (IsSeparatorOf-stays bytes p.0 separator ends.2 ends.0 short is),
  )
