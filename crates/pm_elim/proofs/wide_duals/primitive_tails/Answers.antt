use Rattle.pm_vector.specs.Bases.{row_at}
use Rattle.pm_vector.specs.Divisors.{IsPrimitiveOf}
use Rattle.pm_vector.specs.Rows.{Row}
use Rattle.pm_elim.proofs.wide_duals.primitive_tails.Goals as goal
use Rattle.std.proofs.Common.{[], List, ap, arith, below_more, drop, length, ◌++◌, ◌+◌, ◌<◌, ◌∷◌, ◌≡◌, ◌∙◌, ℕ}
use Rattle.std.proofs.lemmas.List.{get_or_append_left, get_or_push, get_or_read, length_push}

-- one tail more
tails_more : (from : ℕ) (rows D : List Row) (w : Row) (j : ℕ) → length D ≡ j
    → ((i : ℕ) → i < j → IsPrimitiveOf (drop from (row_at rows i)) (row_at D i))
    → IsPrimitiveOf (drop from (row_at rows j)) w
    → (i : ℕ) → i < j + 1 → IsPrimitiveOf (drop from (row_at rows i)) (row_at (D ++ w ∷ []) i)
tails_more from rows D w j count f p =
    below_more (λ (i : ℕ). IsPrimitiveOf (drop from (row_at rows i)) (row_at (D ++ w ∷ []) i)) j
    (λ i l. rw (get_or_append_left D (w ∷ []) [] i (omega arith)) (f i l))
    (rw (get_or_push D w [] j count) p)

pub loop-i-preserved : goal.loop-i-preserved
loop-i-preserved c =
    let so_far = c.loop-i.invariant.as_many in
    let within : c.loop-i.i < length c.args.rows.now = omega arith in
    let read = get_or_read c.args.rows.now c.loop-i.i c.index-rows-i.result within c.index-rows-i.is [] in
    let here : c.index-rows-i.result ≡ row_at c.args.rows.now c.loop-i.i = read in
    rw c.in_ok-push.ensures.items (record {
      as_many = length_push c.loop-i.made.items c.primitive.new.v ∙ ap (λ (k : ℕ). k + 1) so_far;
      each = tails_more c.args.from c.args.rows.now c.loop-i.made.items c.primitive.new.v c.loop-i.i so_far
          c.loop-i.invariant.each (rw (c.in_ok-tail.ensures, here) at c.primitive.ensures.primitive);
    })
