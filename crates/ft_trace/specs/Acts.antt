-- What one action reads and writes, and what the actions of a pass say of it.
use Rattle.std.specs.Prelude.{◌≡◌, ℕ, zero, suc, max, ◌+◌, ◌-◌, ◌*◌, ◌^◌, ◌%◌, ◌==◌, nat_lt, Bool, true, false, cond, List, [], ◌∷◌, ◌++◌, map, slice_index, slice_set}
use Rattle.std.specs.List.{flat_map}
use prog.Atomic.{either}
use Rattle.ft_trace.specs.declared.Act.{Act}
use Rattle.ft_trace.specs.declared.Act.TheVariants.{Lock, Unlock, StartWrite, PutBlock, PutRoot, PutTable, PutFresh, PutHeader, ReadHeader, Commit, StopWrite, Version, ReadBlock, ReadRoot, ReadTable, ReadCounter, Answer, AnswerCursor, LowerCount, RaiseCount, ReadCount, ReadFree, TakeTable, GiveTable, Retire, Announce, ReadAnnounced, WriteNumber, TakeFloor, TookOver, ReadFreePlaces, TakePlace, PutBox, PublishBox, ReadBox, RaiseLocal, DropLocal, ClearLocal, MergeCounts, RaiseShared, RaiseKept, DropShared, GivePlace}
use Rattle.ft_trace.specs.declared.Entry.{Entry}
use Rattle.ft_trace.specs.declared.Handed.{Handed}
use Rattle.ft_trace.specs.declared.Presence.{Presence}
use Rattle.ft_trace.specs.declared.Presence.TheVariants as presence
use Rattle.ft_trace.specs.declared.Shape.{Shape}
use Rattle.ft_trace.specs.declared.Told.{Told}
use Rattle.ft_model.specs.declared.call.Call.{Call}
use Rattle.ft_trace.specs.declared.View.{View}
use Rattle.ft_trace.specs.Bits.{bit, bit_on, bit_off}
use Rattle.ft_trace.specs.BoxWords.{raised_word, lowered_word}
use Rattle.ft_trace.specs.Owners.{had_locks, found_owners}
use Rattle.ft_trace.specs.Addresses.{Word, counter, write_number, announced_of, count_of_class, bits, lock_of, version_of, block, header, cell, heap_bits, box_word, maker_of, place_word_of, place_bit_of, class_of, at, free_word_of, free_bit_of}
use Rattle.ft_layout.specs.Starts.{local_word, shared_word}

-- the word of an action
abbrev pub place : Act → Word
place (Lock o f s) = lock_of o
place (Unlock o) = lock_of o
place (StartWrite o f) = version_of o
place (PutBlock o i x) = block o i
place (PutRoot o r old) = block o 0
place (PutTable o t i x) = cell t i
place (PutFresh t i x) = cell t i
place (PutHeader t x) = header t
place (ReadHeader t f) = header t
place (Commit c r f s) = counter
place (StopWrite o f) = version_of o
place (Version o f) = version_of o
place (ReadBlock o i f) = block o i
place (ReadRoot o f) = block o 0
place (ReadTable t i f) = cell t i
place (ReadCounter f) = counter
place (Answer c r n) = counter
place (AnswerCursor c r n number had left) = counter
place (LowerCount c old f) = count_of_class c
place (RaiseCount c f) = count_of_class c
place (ReadCount c f) = count_of_class c
place (ReadFree w f) = bits w
place (TakeTable t f s) = bits (free_word_of t)
place (GiveTable t) = bits (free_word_of t)
place (Retire t f) = write_number
place (Announce p x) = announced_of p
place (ReadAnnounced p f) = announced_of p
place (WriteNumber f) = write_number
place (TakeFloor f s) = counter
place (TookOver tables had found told) = counter
place (ReadFreePlaces q w f) = heap_bits q w
place (TakePlace b f) = heap_bits (maker_of b) (place_word_of b)
place (PutBox b i x) = box_word b i
place (PublishBox b) = box_word b shared_word
place (ReadBox b i f) = box_word b i
place (RaiseLocal b x) = box_word b local_word
place (DropLocal b x) = box_word b local_word
place (ClearLocal b) = box_word b local_word
place (MergeCounts b d f) = box_word b shared_word
place (RaiseShared b old f) = box_word b shared_word
place (RaiseKept b f) = box_word b shared_word
place (DropShared b f) = box_word b shared_word
place (GivePlace b) = heap_bits (maker_of b) (place_word_of b)

-- what the word becomes, by the pass of this number, where n was there
abbrev pub word_after : ℕ → Act → ℕ → ℕ
word_after by (Lock o f s) n = either (n == 0) by n
word_after by (Unlock o) n = 0
word_after by (StartWrite o f) n = (n + 1) % 2 ^ 64
word_after by (PutBlock o i x) n = x
word_after by (PutRoot o r old) n = r
word_after by (PutTable o t i x) n = x
word_after by (PutFresh t i x) n = x
word_after by (PutHeader t x) n = x
word_after by (Commit c r f s) n = (n + 1) % 2 ^ 64
word_after by (StopWrite o f) n = (n + 1) % 2 ^ 64
word_after by (LowerCount c old f) n = either (n == old) (old - 1) n
word_after by (RaiseCount c f) n = (n + 1) % 2 ^ 64
word_after by (TakeTable t f s) n = bit_off (free_bit_of t) n
word_after by (GiveTable t) n = bit_on (free_bit_of t) n
word_after by (Retire t f) n = (n + 1) % 2 ^ 64
word_after by (Announce p x) n = x
word_after by (TakePlace b f) n = bit_off (place_bit_of b) n
word_after by (PutBox b i x) n = x
word_after by (PublishBox b) n = 0
word_after by (RaiseLocal b x) n = x
word_after by (DropLocal b x) n = x
word_after by (ClearLocal b) n = 0
word_after by (MergeCounts b d f) n = (n + d) % 2 ^ 64
word_after by (RaiseShared b old f) n = either (n == old) (raised_word old) n
word_after by (RaiseKept b f) n = raised_word n
word_after by (DropShared b f) n = lowered_word n
word_after by (GivePlace b) n = bit_on (place_bit_of b) n
word_after by act n = n

-- the number that the action says it found was there
abbrev pub Reports : Act → ℕ → Type 0
Reports (Lock o f s) n = f ≡ n
Reports (StartWrite o f) n = f ≡ n
Reports (Commit c r f s) n = f ≡ n
Reports (StopWrite o f) n = f ≡ n
Reports (Version o f) n = f ≡ n
Reports (ReadBlock o i f) n = f ≡ n
Reports (ReadRoot o f) n = f ≡ n
Reports (ReadTable t i f) n = f ≡ n
Reports (ReadHeader t f) n = f ≡ n
Reports (ReadCounter f) n = f ≡ n
Reports (LowerCount c old f) n = f ≡ n
Reports (RaiseCount c f) n = f ≡ n
Reports (ReadCount c f) n = f ≡ n
Reports (ReadFree w f) n = f ≡ n
Reports (TakeTable t f s) n = f ≡ n
Reports (Retire t f) n = f ≡ n
Reports (ReadAnnounced p f) n = f ≡ n
Reports (WriteNumber f) n = f ≡ n
Reports (TakeFloor f s) n = f ≡ n
Reports (ReadFreePlaces q w f) n = f ≡ n
Reports (TakePlace b f) n = f ≡ n
Reports (ReadBox b i f) n = f ≡ n
Reports (MergeCounts b d f) n = f ≡ n
Reports (RaiseShared b old f) n = f ≡ n
Reports (RaiseKept b f) n = f ≡ n
Reports (DropShared b f) n = f ≡ n
Reports act n = Unit {0}

-- the pass has the lock of o
abbrev pub has_lock_next : ℕ → Act → Bool → Bool
has_lock_next o (Lock p f s) b = cond (p == o) (cond (f == 0) true b) b
has_lock_next o (Unlock p) b = cond (p == o) false b
has_lock_next o act b = b

abbrev pub has_lock : ℕ → List Act → Bool
has_lock o [] = false
has_lock o (a ∷ l) = has_lock_next o a (has_lock o l)

-- the pass has made the version of o odd
abbrev pub is_writing_next : ℕ → Act → Bool → Bool
is_writing_next o (StartWrite p f) b = cond (p == o) true b
is_writing_next o (StopWrite p f) b = cond (p == o) false b
is_writing_next o act b = b

abbrev pub is_writing : ℕ → List Act → Bool
is_writing o [] = false
is_writing o (a ∷ l) = is_writing_next o a (is_writing o l)

-- the pass has committed since it made the version of o odd
abbrev pub has_committed_next : ℕ → Act → Bool → Bool
has_committed_next o (StartWrite p f) b = cond (p == o) false b
has_committed_next o (Commit c r f s) b = true
has_committed_next o act b = b

abbrev pub has_committed : ℕ → List Act → Bool
has_committed o [] = false
has_committed o (a ∷ l) = has_committed_next o a (has_committed o l)

-- the root that the pass put last while it writes o is 0
abbrev pub has_emptied_next : ℕ → Act → Bool → Bool
has_emptied_next o (StartWrite p f) b = cond (p == o) false b
has_emptied_next o (PutRoot p r old) b = cond (p == o) (r == 0) b
has_emptied_next o act b = b

abbrev pub has_emptied : ℕ → List Act → Bool
has_emptied o [] = false
has_emptied o (a ∷ l) = has_emptied_next o a (has_emptied o l)

-- the table is among these, and its goal is this one there, or else g
abbrev pub is_handed : ℕ → List Handed → Bool
is_handed t [] = false
is_handed t (one ∷ more) = cond (one.table == t) true (is_handed t more)

abbrev pub handed_goal : ℕ → List Handed → ℕ → ℕ
handed_goal t [] g = g
handed_goal t (one ∷ more) g = cond (one.table == t) one.goal (handed_goal t more g)

-- the pass has the table t: 1 fresh, 3 taken out of a root, 4 retired, and 0 where it has it not
abbrev pub stage_next : ℕ → Act → ℕ → ℕ
stage_next t (TakeTable p f s) n = cond (p == t) (cond (bit (free_bit_of t) f == 1) 1 n) n
stage_next t (GiveTable p) n = cond (p == t) 0 n
stage_next t (PutRoot o r old) n = cond (r == suc t) 0 (cond (old == suc t) 3 n)
stage_next t (Retire p f) n = cond (p == t) 4 n
stage_next t (TookOver tables had found told) n = cond (is_handed t tables) 4 n
stage_next t act n = n

abbrev pub stage : ℕ → List Act → ℕ
stage t [] = 0
stage t (a ∷ l) = stage_next t a (stage t l)

-- the number that all must have announced before t is given back
abbrev pub goal_next : ℕ → Act → ℕ → ℕ
goal_next t (Retire p f) g = cond (p == t) (f + 1) g
goal_next t (TookOver tables had found told) g = handed_goal t tables g
goal_next t act g = g

abbrev pub goal : ℕ → List Act → ℕ
goal t [] = 0
goal t (a ∷ l) = goal_next t a (goal t l)

-- the goal of t, which the pass retired, stands in the header of t
abbrev pub has_goal_next : ℕ → Act → Bool → Bool
has_goal_next t (PutHeader p x) b = cond (p == t) true b
has_goal_next t (GiveTable p) b = cond (p == t) false b
has_goal_next t (TookOver tables had found told) b = cond (is_handed t tables) true b
has_goal_next t act b = b

abbrev pub has_goal : ℕ → List Act → Bool
has_goal t [] = false
has_goal t (a ∷ l) = has_goal_next t a (has_goal t l)

-- the tables whose goals the pass has put into their headers or that it took over, also such as it has given back since
abbrev pub put_tables_next : Act → List ℕ → List ℕ
put_tables_next (PutHeader t x) ts = t ∷ ts
put_tables_next (TookOver tables had found told) ts = map (λ one. one.table) tables ++ ts
put_tables_next act ts = ts

abbrev pub put_tables : List Act → List ℕ
put_tables [] = []
put_tables (a ∷ l) = put_tables_next a (put_tables l)

-- the pass keeps t retired, and the goal of t stands in its header
abbrev pub keeps_retired : ℕ → List Act → Bool
keeps_retired t l = cond (stage t l == 4) (has_goal t l) false

abbrev pub kept_of : List Act → List ℕ → List Handed
kept_of l [] = []
kept_of l (t ∷ ts) = cond (keeps_retired t l) (record { table = t; goal = goal t l } ∷ kept_of l ts) (kept_of l ts)

-- the tables that a pass hands over when another takes it in, with their goals
abbrev pub hands_over : List Act → List Handed
hands_over l = kept_of l (put_tables l)

-- what the pass announces, 0 for offline
abbrev pub announces_next : Act → ℕ → ℕ
announces_next (Announce p x) n = x
announces_next act n = n

abbrev pub announces : List Act → ℕ
announces [] = 0
announces (a ∷ l) = announces_next a (announces l)

-- what an entry leaves of a presence
abbrev pub presence_after_entry : Presence → Presence
presence_after_entry presence.Online = presence.Online
presence_after_entry _ = presence.Broken

-- and what the pass's announcing of a number leaves of it, where 0 is offline
abbrev pub presence_after_announcing : ℕ → Presence → Presence
presence_after_announcing zero presence.Online = presence.Over
presence_after_announcing zero was = was
presence_after_announcing (suc n) presence.Before = presence.Online
presence_after_announcing (suc n) presence.Over = presence.Broken
presence_after_announcing (suc n) was = was

abbrev pub presence_next : Act → Presence → Presence
presence_next (Announce p x) was = presence_after_announcing x was
presence_next (Commit c r f s) was = presence_after_entry was
presence_next (Answer c r x) was = presence_after_entry was
presence_next (AnswerCursor c r x number had left) was = presence_after_entry was
presence_next act was = was

-- whether the pass has been online from before its first entry until after its last (PEP 703, QSBR)
abbrev pub presence_of : List Act → Presence
presence_of [] = presence.Before
presence_of (a ∷ l) = presence_next a (presence_of l)

-- the pass has found t in a root since it last announced
abbrev pub reads_next : ℕ → Act → Bool → Bool
reads_next t (ReadRoot o f) b = cond (f == suc t) true b
reads_next t (Announce p x) b = false
reads_next t act b = b

abbrev pub reads : ℕ → List Act → Bool
reads t [] = false
reads t (a ∷ l) = reads_next t a (reads t l)

-- since it retired t the pass has found that the pass p stood at 0 or at the goal
abbrev pub clear_next : ℕ → ℕ → ℕ → Act → Bool → Bool
clear_next t p g (Retire q f) b = cond (q == t) false b
clear_next t p g (TookOver tables had found told) b = cond (is_handed t tables) false b
clear_next t p g (ReadAnnounced q f) b = cond (q == p) (cond (f == 0) true (cond (nat_lt f g) b true)) b
clear_next t p g act b = b

abbrev pub clear : ℕ → ℕ → List Act → Bool
clear t p [] = false
clear t p (a ∷ l) = clear_next t p (goal t l) a (clear t p l)

-- since its last commit the pass has taken a table out of a root
abbrev pub used_next : Act → Bool → Bool
used_next (PutRoot o r old) b = cond (old == 0) b true
used_next (Commit c r f s) b = false
used_next act b = b

abbrev pub used : List Act → Bool
used [] = false
used (a ∷ l) = used_next a (used l)

-- how many of them it has still to retire
abbrev pub debt_next : Act → ℕ → ℕ
debt_next (PutRoot o r old) n = cond (old == 0) n (n + 1)
debt_next (Retire t f) n = n - 1
debt_next act n = n

abbrev pub debt : List Act → ℕ
debt [] = 0
debt (a ∷ l) = debt_next a (debt l)

-- what the pass is in the midst of: 0 nothing, 2 c + 1 it has lowered the count of class c and has neither a bit nor
-- raised it again, 2 c + 2 it has set a bit of class c and not yet raised the count
abbrev pub flight_next : Act → ℕ → ℕ
flight_next (LowerCount c old f) n = cond (f == old) (2 * c + 1) n
flight_next (RaiseCount c f) n = 0
flight_next (TakeTable t f s) n = cond (bit (free_bit_of t) f == 1) 0 n
flight_next (GiveTable t) n = 2 * class_of t + 2
flight_next act n = n

abbrev pub flight : List Act → ℕ
flight [] = 0
flight (a ∷ l) = flight_next a (flight l)

-- the class whose count the pass has lowered since its last commit, and one more; 0 where it has raised it again
abbrev pub owes_next : Act → ℕ → ℕ
owes_next (LowerCount c old f) n = cond (f == old) (suc c) n
owes_next (RaiseCount c f) n = cond (n == suc c) 0 n
owes_next (Commit c r f s) n = 0
owes_next act n = n

abbrev pub owes : List Act → ℕ
owes [] = 0
owes (a ∷ l) = owes_next a (owes l)

abbrev pub entries_next : Act → List Entry → List Entry
entries_next (Commit c r f s) es = record { call = c; reply = r; stamp = f; wrote = true } ∷ es
entries_next (Answer c x s) es = record { call = c; reply = x; stamp = s; wrote = false } ∷ es
entries_next (AnswerCursor c x s number had left) es = record { call = c; reply = x; stamp = s; wrote = false } ∷ es
entries_next act es = es

-- the calls that are left
abbrev pub left_next : Act → ℕ → ℕ
left_next (Commit c r f s) n = n - 1
left_next (Answer c r x) n = n - 1
left_next (AnswerCursor c r x number had left) n = n - 1
left_next act n = n

-- how many writes a log shows: the greatest of what loads of the counter gave, and each own write's number and one
abbrev pub shown_next : Act → ℕ → ℕ
shown_next (ReadCounter f) n = max n f
shown_next (Commit c r f s) n = max n (f + 1)
shown_next (TakeFloor f s) n = max n f
shown_next act n = n

abbrev pub shown : List Act → ℕ
shown [] = 0
shown (a ∷ l) = shown_next a (shown l)

-- how many writes the pass has seen, by itself or through notes and passes that it took in
abbrev pub seen_writes : View → ℕ
seen_writes v = max v.learnt (shown v.log)

-- what it tells of itself: a note tells nothing of itself, and has what its maker told
abbrev pub own_told : View → List Told
own_told v =
    cond (v.number == 0) []
    (record { pass = v.number; seen = seen_writes v; entries = v.entries; presence = presence_of v.log } ∷ [])

-- what a pass was told of others, by notes and by passes that it took in, and what those were told
abbrev pub told_in_next : Act → List Told → List Told
told_in_next (TookOver tables had found told) before = told ++ before
told_in_next act before = before

abbrev pub told_in : List Act → List Told
told_in [] = []
told_in (a ∷ l) = told_in_next a (told_in l)

-- what it tells who takes it in
abbrev pub tells : View → List Told
tells v = own_told v ++ (v.told ++ told_in v.log)

-- the pass has kept all tokens since it took the floor
abbrev pub has_floor_next : Act → Bool → Bool
has_floor_next (TakeFloor f s) b = true
has_floor_next act b = b

-- the words of the bank by the log of the pass with this number, right while no other pass may act
abbrev pub floor_words_next : Shape → ℕ → Act → List ℕ → List ℕ
floor_words_next k number (TakeFloor f s) ws = s.words
floor_words_next k number (TookOver tables had found told) ws = ws
floor_words_next k number act ws =
    slice_set ws (at k (place act)) (word_after number act (slice_index ws (at k (place act))))

abbrev pub floor_words : Shape → ℕ → List Act → List ℕ
floor_words k number [] = []
floor_words k number (a ∷ l) = floor_words_next k number a (floor_words k number l)

-- what a pass knows after one more action
abbrev pub view_after : Act → View → View
view_after a v =
    record {
      number = v.number;
      next = v.next;
      parts = v.parts;
      left = left_next a v.left;
      shape = v.shape;
      log = a ∷ v.log;
      entries = entries_next a v.entries;
      lists = v.lists;
      tokens = v.tokens;
      learnt = v.learnt;
      has_floor = has_floor_next a v.has_floor;
      floor = [];
      told = v.told;
    }

-- the first pass
abbrev pub starter : Shape → View
starter k =
    record {
      number = 1;
      next = 2;
      parts = k.passes;
      left = k.passes * k.calls;
      shape = k;
      log = [];
      entries = [];
      lists = [];
      tokens = k.passes;
      learnt = 0;
      has_floor = false;
      floor = [];
      told = [];
    }

-- the pass that makes another, and the one that it makes
abbrev pub maker : View → View
maker v =
    record {
      number = v.number;
      next = suc v.next;
      parts = v.parts - 1;
      left = v.left - v.shape.calls;
      shape = v.shape;
      log = v.log;
      entries = v.entries;
      lists = v.lists;
      tokens = v.tokens - 1;
      learnt = v.learnt;
      has_floor = false;
      floor = [];
      told = v.told;
    }

abbrev pub made : View → View
made v =
    record {
      number = v.next;
      next = 0;
      parts = 1;
      left = v.shape.calls;
      shape = v.shape;
      log = [];
      entries = [];
      lists = [];
      tokens = 1;
      learnt = 0;
      has_floor = false;
      floor = [];
      told = [];
    }

-- the entries of the passes that this one stands for, a list for each: its own first
abbrev pub all_lists : View → List (List Entry)
all_lists v = v.entries ∷ v.lists

-- and all of them in one list
abbrev pub all_entries : View → List Entry
all_entries v = flat_map (λ l. l) (all_lists v)

-- the lists that a pass gives to another which takes it in; a note gives none
abbrev pub lists_of : View → List (List Entry)
lists_of w = cond (w.number == 0) w.lists (all_lists w)

-- What two passes know, in the first one's place, and the second afterwards. The first one takes over the tables that
-- the second keeps retired, which locks it has had and which owners it has found; a note has none of them.
abbrev pub both : View → View → View
both v w =
    record {
      number = v.number;
      next = v.next;
      parts = v.parts + w.parts;
      left = v.left + w.left;
      shape = v.shape;
      log = TookOver (hands_over w.log) (had_locks w.number w.log) (found_owners w.log) (tells w) ∷ v.log;
      entries = v.entries;
      lists = v.lists ++ lists_of w;
      tokens = v.tokens + w.tokens;
      learnt = max v.learnt (seen_writes w);
      has_floor = v.has_floor;
      floor = w.floor ++ v.floor;
      told = v.told;
    }

abbrev pub no_shape : Shape
no_shape = record { starts = []; texts = []; tables = []; heap = 0; passes = 0; calls = 0 }

abbrev pub spent : View
spent =
    record {
      number = 0;
      next = 0;
      parts = 0;
      left = 0;
      shape = no_shape;
      log = [];
      entries = [];
      lists = [];
      tokens = 0;
      learnt = 0;
      has_floor = false;
      floor = [];
      told = [];
    }

-- the words of the bank as the pass knows them, where it has the floor or was just given it
abbrev pub floor_known : View → List ℕ
floor_known v = cond v.has_floor (floor_words v.shape v.number v.log) v.floor

-- The pass that gives this many of its tokens with a note. Who gives any no longer has the floor.
abbrev pub sender : ℕ → View → View
sender given v =
    record {
      number = v.number;
      next = v.next;
      parts = v.parts;
      left = v.left;
      shape = v.shape;
      log = v.log;
      entries = v.entries;
      lists = v.lists;
      tokens = v.tokens - given;
      learnt = v.learnt;
      has_floor = cond (given == 0) v.has_floor false;
      floor = cond (given == 0) v.floor [];
      told = v.told;
    }

-- The note: how many writes its maker had seen, and the tokens; with all of them the words, if the maker had the floor.
-- It has no lock, no table, no writes and no entries.
abbrev pub note : ℕ → View → View
note given v =
    record {
      number = 0;
      next = 0;
      parts = 0;
      left = 0;
      shape = no_shape;
      log = [];
      entries = [];
      lists = [];
      tokens = given;
      learnt = seen_writes v;
      has_floor = false;
      floor = cond (given == v.tokens) (floor_known v) [];
      told = own_told v;
    }

-- the words of the bank, as the pass knows them: right for what it has
abbrev pub mem_next : Shape → Act → List ℕ → List ℕ
mem_next k (Lock o f s) m = s.words
mem_next k (TakeTable t f s) m = s.words
mem_next k (PutBlock o i x) m = slice_set m (at k (block o i)) x
mem_next k (PutRoot o r old) m = slice_set m (at k (block o 0)) r
mem_next k (PutTable o t i x) m = slice_set m (at k (cell t i)) x
mem_next k (PutFresh t i x) m = slice_set m (at k (cell t i)) x
mem_next k act m = m

abbrev pub mem : Shape → List Act → List ℕ
mem k [] = []
mem k (a ∷ l) = mem_next k a (mem k l)

-- the writes, as the pass knows them: right for the containers whose locks it has
abbrev pub past_next : Act → List Call → List Call
past_next (Lock o f s) cs = s.calls
past_next (TakeTable t f s) cs = s.calls
past_next (Commit c r f s) cs = c ∷ s.calls
past_next act cs = cs

abbrev pub past : List Act → List Call
past [] = []
past (a ∷ l) = past_next a (past l)
