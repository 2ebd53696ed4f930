-- How much a script may have, each limit once. (profile)
use Rattle.std.specs.Prelude.{ℕ}

-- threads
abbrev pub most_threads : ℕ
most_threads = 64

-- containers of all kinds together
abbrev pub most_containers : ℕ
most_containers = 256

-- cursors of a thread
abbrev pub most_cursors : ℕ
most_cursors = 256

-- sections of a thread that are open at once
abbrev pub most_sections : ℕ
most_sections = 16

-- lists of keys that split dicts share, and the keys of each
abbrev pub most_shared : ℕ
most_shared = 64

abbrev pub most_shared_keys : ℕ
most_shared_keys = 10

-- the bound of a deque
abbrev pub most_bound : ℕ
most_bound = 65536

-- calls of all threads together
abbrev pub most_calls : ℕ
most_calls = 500000

-- distinct strings
abbrev pub most_strings : ℕ
most_strings = 65536

-- bytes of a string
abbrev pub most_string_bytes : ℕ
most_string_bytes = 255

-- tables of a class; a class has one at least
abbrev pub most_tables : ℕ
most_tables = 1024

-- places in each heap, whose number goes up in such steps from the first
abbrev pub heap_step : ℕ
heap_step = 64

abbrev pub most_heap : ℕ
most_heap = 4096

-- names in the `order` lines
abbrev pub most_turns : ℕ
most_turns = 1000000
