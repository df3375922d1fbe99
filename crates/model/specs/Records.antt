-- 01, Triangle records, and 02, Job 7: a line of cover in each record. A file is the list of its
-- bytes; m is the caller's.
use Rattle.std.specs.Prelude.{ℕ, zero, suc, ◌+◌, ◌*◌, ◌-◌, ◌/◌, ◌%◌, ◌^◌, Bool, true, ◌&&◌, cond, List, length, get_or, replicate, ltb, leb, eqb, ℤ, pos, negsuc}
use Rattle.std.specs.Int.Signed.{le_z}
use Rattle.integers.specs.Sums.{sum}
use Rattle.model.specs.Lists.{tabulate, at, count}
use Rattle.model.specs.declared.TriangleSet.{TriangleSet}

-- (i,j) is a cell of a triangle of m years: i counts from 1, and i + j is at most m
abbrev pub inside : ℕ → ℕ → ℕ → Bool
inside m i j = leb 1 i && leb (i + j) m

-- cell (i,j) of a list of 400 places, 20 to a year
abbrev pub cell : List ℤ → ℕ → ℕ → ℤ
cell t i j = at t (20 * (i - 1) + j)

-- such a list with v i j at each cell, and 0 at the places that are no cell
unfoldable pub triangle : ℕ → (ℕ → ℕ → ℤ) → List ℤ
triangle m v = tabulate 400 (λ p. cond (inside m (p / 20 + 1) (p % 20)) (v (p / 20 + 1) (p % 20)) (pos 0))

-- the kind of record k of the file, k from 0, each record of 16 bytes: 0 is a count, 1 an amount
-- paid, 2 one incurred
abbrev pub kind_at : List ℕ → ℕ → ℕ
kind_at f k = get_or f (16 * k) 0

-- the accident year of record k
abbrev pub year_at : List ℕ → ℕ → ℕ
year_at f k = get_or f (16 * k + 1) 0

-- the delay of record k
abbrev pub delay_at : List ℕ → ℕ → ℕ
delay_at f k = get_or f (16 * k + 2) 0

-- the line of cover of record k
abbrev pub line_at : List ℕ → ℕ → ℕ
line_at f k = get_or f (16 * k + 3) 0

-- that of a file: its first record's; the records of an accepted file all have the same
abbrev pub line_of : List ℕ → ℕ
line_of f = line_at f 0

-- whether the four unused bytes of record k are zero
unfoldable pub spares_zero : List ℕ → ℕ → Bool
spares_zero f k =
    eqb (get_or f (16 * k + 4) 0) 0 && eqb (get_or f (16 * k + 5) 0) 0 && eqb (get_or f (16 * k + 6) 0) 0 && eqb (get_or f (16 * k + 7) 0) 0

-- n bytes from place a on as a number in base 256, the lowest digit in front
unfoldable pub least_first : ℕ → List ℕ → ℕ → ℕ
least_first zero f a = 0
least_first (suc n) f a = get_or f a 0 + 256 * least_first n f (a + 1)

-- a word read with a sign: below 2^63 the number itself, from there on the number less 2^64
unfoldable pub signed : ℕ → ℤ
signed x = cond (ltb x (2 ^ 63)) (pos x) (negsuc (2 ^ 64 - suc x))

-- the value of record k, in its last eight bytes
unfoldable pub value_at : List ℕ → ℕ → ℤ
value_at f k = signed (least_first 8 f (16 * k + 8))

-- the number of records: the file holds nothing else
abbrev pub records : List ℕ → ℕ
records f = length f / 16

-- record k is that of kind t and cell (i,j)
unfoldable pub is_of : List ℕ → ℕ → ℕ → ℕ → ℕ → Bool
is_of f t i j k = eqb (kind_at f k) t && eqb (year_at f k) i && eqb (delay_at f k) j

-- how many records there are of kind t and cell (i,j)
unfoldable pub copies : List ℕ → ℕ → ℕ → ℕ → ℕ
copies f t i j = count (records f) (is_of f t i j)

-- the value of kind t and cell (i,j): the sum over its records, of which an accepted file has one,
-- so that their order does not matter
unfoldable pub value_of : List ℕ → ℕ → ℕ → ℕ → ℤ
value_of f t i j = sum (records f) (λ k. cond (is_of f t i j k) (value_at f k) (pos 0))

-- the length of a set in bytes: two kinds, or three with incurred, each of m(m+1)/2 records
abbrev pub set_length : ℕ → Bool → ℕ
set_length m has_incurred = cond has_incurred 24 16 * (m * (m + 1))

-- a file has incurred where its length is that of three kinds
unfoldable pub has_incurred : ℕ → List ℕ → Bool
has_incurred m f = eqb (length f) (set_length m true)

-- the set that a file holds
unfoldable pub set_of : ℕ → List ℕ → TriangleSet
set_of m f =
    record {
      line = line_of f;
      has_incurred = has_incurred m f;
      counts = triangle m (value_of f 0);
      paid = triangle m (value_of f 1);
      incurred = triangle m (value_of f 2);
    }

-- the set that the writer is given, as the reader hands it back: the cells alone count
unfoldable pub given_set : ℕ → ℕ → Bool → List ℤ → List ℤ → List ℤ → TriangleSet
given_set m line has_incurred c d e =
    record {
      line = line;
      has_incurred = has_incurred;
      counts = triangle m (cell c);
      paid = triangle m (cell d);
      incurred = cond has_incurred (triangle m (cell e)) (replicate 400 (pos 0));
    }

-- whether there is such a line: 0 to 5
abbrev pub is_line : ℕ → Bool
is_line line = leb line 5

-- whether a value of kind t is in its range: from 0, for incurred from -10^10, to 10^7 for a count
-- and 10^10 for an amount
unfoldable pub in_range : ℕ → ℤ → Bool
in_range t v = le_z (cond (ltb t 2) (pos 0) (negsuc (10 ^ 10 - 1))) v && le_z v (pos (cond (eqb t 0) (10 ^ 7) (10 ^ 10)))
