-- Which places of a text are paths, and what they are called.
use Rattle.std.specs.Prelude.{ℕ, ◌+◌, Bool, cond, ◌&&◌, List, [], length, take, drop, nat_le}
use Rattle.prefix.specs.Name.{Name}
use Rattle.paths.specs.declared.Place.{Place}
use Rattle.paths.specs.Path.{is_part, steps_of, last_slash}

-- the bytes at a place of a text
abbrev pub bytes_at : List ℕ → Place → List ℕ
bytes_at text k = take k.length (drop k.offset text)

-- the place lies in the text; the sum does not wrap, so a place whose end fits no word lies outside
abbrev pub lies : List ℕ → Place → Bool
lies text k = nat_le (k.offset + k.length) (length text)

-- the place lies in the text, and the part there is empty or one to eight segments
abbrev pub is_path : List ℕ → Place → Bool
is_path text k = lies text k && is_part (bytes_at text k)

-- a step is a segment without its '/'; a key that is not valid is nameless
abbrev pub path_name : List ℕ → Place → Name
path_name text k = cond (is_path text k) (steps_of (bytes_at text k)) []

-- the empty path at the front of the text
abbrev pub root_place : Place
root_place = record { offset = 0; length = 0 }

-- the place of bytes without their last segment: the same offset, up to the last '/'
abbrev pub shortened : List ℕ → Place → Place
shortened bytes k = record { offset = k.offset; length = last_slash bytes }

-- a key that is not valid is its own parent
abbrev pub parent_place : List ℕ → Place → Place
parent_place text k = cond (is_path text k) (shortened (bytes_at text k) k) k

-- the bytes at a place that lies in the text, else none
abbrev pub bytes_in : List ℕ → Place → List ℕ
bytes_in text k = cond (lies text k) (bytes_at text k) []
