-- From what loads of the words of two dicts or two sets show to what the plain containers reply to a comparison of them.
use Rattle.std.proofs.Common.{◌≡◌, ℕ, Bool, refl, sym, ap, ◌∙◌, inr}
use Rattle.ft_model.specs.declared.reply.Reply.TheVariants as reply
use Rattle.ft_model.specs.Contents.{is_disjoint, is_subset, same_elements, same_pairs}
use Rattle.ft_model.specs.TableUses.{StoredWorld}
use Rattle.ft_model.specs.Worlds.{kind_of}
use Rattle.ft_trace.specs.declared.Shape.{Shape}
use Rattle.ft_trace.specs.declared.View.{View}
use Rattle.ft_trace.specs.Holds.{held_unboxed}
use Rattle.ft_trace.specs.Kinds.{IsKeyed}
use Rattle.ft_trace.specs.Traces.{IsReachable}
use Rattle.ft_trace.specs.Pictures.{ContainerWords, Represents}
use Rattle.ft_trace.specs.ContainerStates.{state_at, kind_in, reply_in}
use Rattle.ft_search.specs.MadeCalls.{IsShownBy}
use Rattle.ft_search.specs.OneEntryWrites.{MayWriteEntries}
use Rattle.ft_search.proofs.Lengths.{IsPlain}
use Rattle.ft_search.proofs.ReadMidst.{LeavesSections}
use Rattle.ft_whole_tables.specs.declared.comparisons.Comparison.{Comparison}
use Rattle.ft_whole_tables.specs.declared.comparisons.Comparison.TheVariants.{SameDicts, SameSets, Subset, Disjoint}
use Rattle.ft_whole_tables.specs.Comparisons.{IsComparedAs, compared, is_so_of, kind_compared}
use Rattle.ft_whole_tables.proofs.KnownContents.{dict_there, had_kind, had_stands, set_there}

-- ---- whatever is compared

pub compared_keyed : (how : Comparison) → IsKeyed (kind_compared how)
compared_keyed SameDicts = tt
compared_keyed SameSets = tt
compared_keyed Subset = tt
compared_keyed Disjoint = tt

pub compared_sections : (how : Comparison) (o m : ℕ) → LeavesSections (compared how o m)
compared_sections SameDicts o m = λ n l sections. refl
compared_sections SameSets o m = λ n l sections. refl
compared_sections Subset o m = λ n l sections. refl
compared_sections Disjoint o m = λ n l sections. refl

pub compared_plain : (how : Comparison) (o m : ℕ) (is_so : Bool) → IsPlain (compared how o m) (reply.Truth is_so)
compared_plain SameDicts o m is_so = record { reads = refl; cursor = refl; adds = refl; memory = refl; replied = λ plain is. inr is; cause = λ stored log n. refl }
compared_plain SameSets o m is_so = record { reads = refl; cursor = refl; adds = refl; memory = refl; replied = λ plain is. inr is; cause = λ stored log n. refl }
compared_plain Subset o m is_so = record { reads = refl; cursor = refl; adds = refl; memory = refl; replied = λ plain is. inr is; cause = λ stored log n. refl }
compared_plain Disjoint o m is_so = record { reads = refl; cursor = refl; adds = refl; memory = refl; replied = λ plain is. inr is; cause = λ stored log n. refl }

-- ---- the reply

-- of the plain containers, by what they have at both places
truth_in : (how : Comparison) (o m : ℕ) (stored : StoredWorld) → kind_of (state_at stored o).content ≡ kind_compared how → kind_of (state_at stored m).content ≡ kind_compared how
    → reply_in stored (compared how o m) ≡ reply.Truth (is_so_of how (state_at stored o).content (state_at stored m).content)
truth_in SameDicts o m stored is is' = λ i. reply.Truth (same_pairs (dict_there stored.world o is i).pairs (dict_there stored.world m is' i).pairs)
truth_in SameSets o m stored is is' = λ i. reply.Truth (same_elements (set_there stored.world o is i).elements (set_there stored.world m is' i).elements)
truth_in Subset o m stored is is' = λ i. reply.Truth (is_subset (set_there stored.world o is i).elements (set_there stored.world m is' i).elements)
truth_in Disjoint o m stored is is' = λ i. reply.Truth (is_disjoint (set_there stored.world o is i).elements (set_there stored.world m is' i).elements)

pub compared_reply : (k : Shape) (how : Comparison) (o m : ℕ) (is_so : Bool) (x y : ContainerWords) (stored : StoredWorld) → kind_of (state_at stored o).content ≡ kind_compared how → kind_of (state_at stored m).content ≡ kind_compared how → Represents k.texts x (state_at stored o) → Represents k.texts y (state_at stored m)
    → IsComparedAs k how is_so x y → reply_in stored (compared how o m) ≡ reply.Truth is_so
compared_reply k how o m is_so x y stored is is' stands stands' shows =
    truth_in how o m stored is is' ∙ ap reply.Truth (sym (shows (state_at stored o) is stands (state_at stored m) is' stands'))

-- by a pass that has both locks
pub compared_shown : (k : Shape) (how : Comparison) (o m : ℕ) (v : View) → v.shape ≡ k → ∥ IsReachable v ∥₁ → MayWriteEntries k o v → MayWriteEntries k m v → kind_in k.starts o ≡ kind_compared how → kind_in k.starts m ≡ kind_compared how
    → (is_so : Bool) → IsComparedAs k how is_so (held_unboxed o v) (held_unboxed m v) → IsShownBy (compared how o m) (reply.Truth is_so) v
compared_shown k how o m v shape possible may other is is' is_so shows =
    let plain = compared_plain how o m is_so in
    record {
      read = plain.reads;
      cursor = plain.cursor;
      plain = λ stored same. plain.replied (reply_in stored (compared how o m)) (sym same);
      replied = λ stored has.
          compared_reply k how o m is_so (held_unboxed o v) (held_unboxed m v) stored (had_kind k o v shape possible may stored has ∙ is) (had_kind k m v shape possible other stored has ∙ is') (had_stands k o v shape possible may stored has) (had_stands k m v shape possible other stored has) shows;
      cause = plain.cause;
    }
