-- What a row of bits says of a set of numbers. A row is seen as the list of its bits: the bit at i tells
-- whether the number i is a member, and the list's length is the row's.
use Rattle.std.specs.Prelude.{◌≡◌, ℕ, ◌<◌, ◌&&◌, ◌||◌, Bool, false, IsTrue, List, length, slice_index_or, count_by}
use Rattle.std.specs.List.{filter, range_with_len}
use Rattle.std.specs.declared.cmp.Ordering.{Ordering}
use Rattle.std.specs.Ordering.{nat_cmp, bool_cmp, flip_args, on, then_cmp}
use Rattle.std.specs.Cmp.Lexicographic.{slice_cmp}

-- whether i is a member of the row; no number from the length on is one
abbrev pub has : List Bool → ℕ → Bool
has row i = slice_index_or row i false

-- no number is a member
abbrev pub IsEmpty : List Bool → Type 0
IsEmpty row = (i : ℕ) → has row i ≡ false

-- each member of the part is a member of the whole
abbrev pub IsSubset : List Bool → List Bool → Type 0
IsSubset part whole = (i : ℕ) → IsTrue (has part i) → IsTrue (has whole i)

-- the members of `both` are the numbers that are members of the two others
abbrev pub IsIntersection : List Bool → List Bool → List Bool → Type 0
IsIntersection both one other = (i : ℕ) → has both i ≡ (has one i && has other i)

-- the members of `either` are the numbers that are members of one of the two others, or of both
abbrev pub IsUnion : List Bool → List Bool → List Bool → Type 0
IsUnion either one other = (i : ℕ) → has either i ≡ (has one i || has other i)

-- the same numbers are members
abbrev pub SameMembers : List Bool → List Bool → Type 0
SameMembers one other = (i : ℕ) → has one i ≡ has other i

-- how many of the numbers below the length are members
abbrev pub member_count : List Bool → ℕ
member_count row = count_by (has row) (range_with_len 0 (length row))

-- how many of the numbers below the length of the first row are members of both rows
abbrev pub common_count : List Bool → List Bool → ℕ
common_count one other = count_by (λ i. has one i && has other i) (range_with_len 0 (length one))

-- the members, ascending
abbrev pub members : List Bool → List ℕ
members row = filter (has row) (range_with_len 0 (length row))

-- the least number that is a member of only one of the two rows is a member of the first
abbrev pub HasFirstDifference : List Bool → List Bool → Type 0
HasFirstDifference one other = (i : ℕ) × IsTrue (has one i) × (has other i ≡ false)
    × ((k : ℕ) → k < i → has one k ≡ has other k)

-- by the first number that is a member of only one of the two rows: the row that has it comes first
abbrev pub first_difference_cmp : List Bool → List Bool → Ordering
first_difference_cmp = slice_cmp (flip_args bool_cmp)

-- shorter rows come first, and rows of one length go by their first difference
abbrev pub row_cmp : List Bool → List Bool → Ordering
row_cmp = then_cmp (on length nat_cmp) first_difference_cmp
