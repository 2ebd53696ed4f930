-- What a pass knows of what it has.
use Rattle.std.specs.Prelude.{◌≡◌, ℕ, suc, ◌<◌, true, List}
use Rattle.ft_model.specs.TableUses.{StoredWorld}
use Rattle.ft_trace.specs.declared.View.{View}
use Rattle.ft_trace.specs.Addresses.{container_count}
use Rattle.ft_trace.specs.Acts.{has_lock, mem, past}
use Rattle.ft_trace.specs.ContainerStates.{ContainerState, state_at, container_after, kind_in}
use Rattle.ft_trace.specs.Boxes.{known_box_word}
use Rattle.ft_trace.specs.Unboxed.{unboxed, unboxed_table}
use Rattle.ft_trace.specs.Pictures.{ContainerWords, picture, table_words}

-- the words of o, whose lock it has
abbrev pub held_words : ℕ → View → ContainerWords
held_words o v = picture v.shape o (mem v.shape v.log)

-- and what they read through boxes
abbrev pub held_unboxed : ℕ → View → ContainerWords
held_unboxed o v = unboxed (λ b i. known_box_word v.shape b i v.log) (kind_in v.shape.starts o) (held_words o v)

-- what the history makes of o
abbrev pub known_state : ℕ → View → ContainerState
known_state o v = container_after v.shape.starts (past v.log) o

-- the words of a table that is fresh in its hand
abbrev pub in_hand : ℕ → View → List ℕ
in_hand t v = table_words v.shape t (mem v.shape v.log)

-- and what they read through boxes, for the container o
abbrev pub hand_unboxed : ℕ → ℕ → View → List ℕ
hand_unboxed o t v =
    unboxed_table (λ b i. known_box_word v.shape b i v.log) (kind_in v.shape.starts o) (suc t) (in_hand t v)

-- this stored world has what the pass knows of the containers whose locks it has
abbrev pub AgreesWith : View → StoredWorld → Type 0
AgreesWith v t = (p : ℕ) → p < container_count v.shape → has_lock p v.log ≡ true → state_at t p ≡ known_state p v
